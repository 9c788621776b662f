-- The rules that a plan is to keep, what breaks each, and the breach that is named: that of the lowest carrier, then of the
-- lowest entry or second carrier.
use Rattle.std.specs.Prelude.{◌≡◌, ℕ, zero, suc, ◌-◌, ◌<◌, ◌≤◌, Bool, cond, not, ◌&&◌, ◌≢◌, ◌⊎◌, Some, None, Option, ◌==◌, nat_lt}
use Rattle.floors.specs.Exits.{has}
use Rattle.store_floor.specs.Layout.{exits_from}
use Rattle.plans.specs.Plan.{Plan}
use Rattle.laws.specs.Paths.{carriers, Carrier, start, goal, entries, entry, last, Leads}

-- what was found first, or else what is found next
abbrev pub or_else : {A : Type 0} → Option A → Option A → Option A
or_else (Some x) next = Some x
or_else None next = next

-- the first that f gives, of f 0, f 1, .. below n
abbrev pub first : {A : Type 0} → ℕ → (ℕ → Option A) → Option A
first zero f = None
first (suc n) f = or_else (first n f) (f n)

-- a value, if a test is passed
abbrev pub when : {A : Type 0} → Bool → A → Option A
when b x = cond b (Some x) None

-- What breaks a rule: a carrier has no path.
abbrev pub NoPath : Plan → ℕ → Type 0
NoPath p c = Carrier p c × (entries p c ≡ 0)

-- The first entry is not the start, or the last is not the goal.
abbrev pub WrongEnd : Plan → ℕ → ℕ → Type 0
WrongEnd p c t = Carrier p c × (((t ≡ 0) × (entry p c t ≢ start p c)) ⊎ ((t ≡ last p c) × (entry p c t ≢ goal p c)))

-- No leg leads into an entry from the one before it.
abbrev pub NoLeg : Plan → ℕ → ℕ → Type 0
NoLeg p c t = Carrier p c × (1 ≤ t) × (t < entries p c) × (Leads p (entry p c (t - 1)) (entry p c t) → ⊥)

-- Two carriers start at one place.
abbrev pub EqualStarts : Plan → ℕ → ℕ → Type 0
EqualStarts p c d = (c < d) × Carrier p d × (start p c ≡ start p d)

-- Two carriers have one goal.
abbrev pub EqualGoals : Plan → ℕ → ℕ → Type 0
EqualGoals p c d = (c < d) × Carrier p d × (goal p c ≡ goal p d)

-- An entry after the first is the goal of another carrier.
abbrev pub ForeignGoal : Plan → ℕ → ℕ → ℕ → Type 0
ForeignGoal p c t d = Carrier p c × Carrier p d × (c ≢ d) × (1 ≤ t) × (t < entries p c) × (entry p c t ≡ goal p d)

-- The searches.
unfoldable pub no_path : Plan → Option ℕ
no_path p = first (carriers p) (λ c. when (entries p c == 0) c)

unfoldable pub wrong_end : Plan → Option (ℕ × ℕ)
wrong_end p = first (carriers p) (λ c. or_else (when (not (entry p c 0 == start p c)) (c, 0)) (when (not (entry p c (last p c) == goal p c)) (c, last p c)))

unfoldable pub no_leg : Plan → Option (ℕ × ℕ)
no_leg p = first (carriers p) (λ c. first (last p c) (λ t. when (not (has (entry p c (suc t)) (exits_from p.floor (entry p c t)))) (c, suc t)))

-- the first two of so many carriers, the lower below the higher, that have one number
unfoldable pub first_equal : ℕ → (ℕ → ℕ) → Option (ℕ × ℕ)
first_equal n f = first n (λ c. first n (λ d. when (nat_lt c d && f c == f d) (c, d)))

abbrev pub equal_starts : Plan → Option (ℕ × ℕ)
equal_starts p = first_equal (carriers p) (start p)

abbrev pub equal_goals : Plan → Option (ℕ × ℕ)
equal_goals p = first_equal (carriers p) (goal p)

-- the carrier, the entry, and the carrier whose goal it is
unfoldable pub foreign_goal : Plan → Option (ℕ × ℕ × ℕ)
foreign_goal p = first (carriers p) (λ c. first (last p c) (λ t. first (carriers p) (λ d. when (not (c == d) && entry p c (suc t) == goal p d) (c, suc t, d))))

-- What a search of one number, of two or of three finds: the least of the breaches, or there is none.
abbrev pub Least : (ℕ → Type 0) → Option ℕ → Type 0
Least Breaks None = (c : ℕ) → Breaks c → ⊥
Least Breaks (Some c) = Breaks c × ((d : ℕ) → Breaks d → c ≤ d)

-- a pair does not come behind another
abbrev pub NotBehind : ℕ → ℕ → ℕ → ℕ → Type 0
NotBehind c t d u = (c < d) ⊎ ((c ≡ d) × (t ≤ u))

abbrev pub LeastPair : (ℕ → ℕ → Type 0) → Option (ℕ × ℕ) → Type 0
LeastPair Breaks None = (c t : ℕ) → Breaks c t → ⊥
LeastPair Breaks (Some x) = Breaks x.0 x.1 × ((d u : ℕ) → Breaks d u → NotBehind x.0 x.1 d u)

abbrev pub LeastTriple : (ℕ → ℕ → ℕ → Type 0) → Option (ℕ × ℕ × ℕ) → Type 0
LeastTriple Breaks None = (c t o : ℕ) → Breaks c t o → ⊥
LeastTriple Breaks (Some x) = Breaks x.0 x.1 x.2 × ((d u o : ℕ) → Breaks d u o → (x.0 < d) ⊎ ((x.0 ≡ d) × NotBehind x.1 x.2 u o))

-- Each search finds what breaks its rule, nothing before it does, and where it finds nothing nobody breaks it.
pub record RulesAreSearched (p : Plan) : Type 0 where
  pub no_path : Least (NoPath p) (no_path p)
  pub wrong_end : LeastPair (WrongEnd p) (wrong_end p)
  pub no_leg : LeastPair (NoLeg p) (no_leg p)
  pub equal_starts : LeastPair (EqualStarts p) (equal_starts p)
  pub equal_goals : LeastPair (EqualGoals p) (equal_goals p)
  pub foreign_goal : LeastTriple (ForeignGoal p) (foreign_goal p)
