-- The circular wait that is named, computed: by the number of its legs, then in the order of its pairs.
use Rattle.std.specs.Prelude.{◌≡◌, ℕ, zero, suc, ◌-◌, cond, not, ◌&&◌, List, [], ◌∷◌, Some, None, Option, ◌==◌, nat_lt}
use Rattle.floors.specs.Exits.{has}
use Rattle.plans.specs.Plan.{Plan}
use Rattle.laws.specs.declared.pairs.Pair.{Pair}
use Rattle.laws.specs.Paths.{carriers, entry, last}
use Rattle.laws.specs.Rules.{first}
use Rattle.laws.specs.Chains.{Named, NoCircularWait, CircularWait, Writing}

abbrev pub pair : ℕ → ℕ → Pair
pair c t = record { carrier = c; leg = t }

-- a chain with a leg before it, if there is a chain
abbrev pub led : ℕ → ℕ → Option (List Pair) → Option (List Pair)
led c t None = None
led c t (Some xs) = Some (pair c t ∷ xs)

-- the first chain of n legs from the place u to the place v, by carriers above `low` that are not in `used`
unfoldable pub first_chain : Plan → ℕ → ℕ → ℕ → List ℕ → ℕ → Option (List Pair)
first_chain p low v zero used u = cond (u == v) (Some []) None
first_chain p low v (suc n) used u =
    first (carriers p) (λ c. first (last p c) (λ t.
    cond (nat_lt low c && (not (has c used) && entry p c t == u)) (led c t (first_chain p low v n (c ∷ used) (entry p c (suc t)))) None))

-- the first circular wait of n + 1 legs
unfoldable pub first_wait : Plan → ℕ → Option (List Pair)
first_wait p n =
    first (carriers p) (λ c. first (last p c) (λ t. led c t (first_chain p c (entry p c t) n (c ∷ []) (entry p c (suc t)))))

-- the first with two legs, or else with three, and so on
unfoldable pub named : Plan → Option (List Pair)
named p = first (carriers p - 1) (λ n. first_wait p (suc n))

-- The named one is found, and nothing is found only where the paths contain no circular wait, wherever one begins to write it.
abbrev pub Names : Plan → Option (List Pair) → Type 0
Names p None = NoCircularWait p
Names p (Some w) = Named p w

abbrev pub WaitsAreNamed : Type 0
WaitsAreNamed = (p : Plan) → Names p (named p)

-- No two are named.
abbrev pub OneIsNamed : Type 0
OneIsNamed = (p : Plan) (v w : List Pair) → Named p v → Named p w → v ≡ w

-- Each circular wait, wherever its writing begins, can be written from its lowest carrier on.
abbrev pub EachCanBeWritten : Type 0
EachCanBeWritten = (p : Plan) (v : List Pair) → CircularWait p v → Writing p v
