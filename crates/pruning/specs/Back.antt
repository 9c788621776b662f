-- Chains that lead back: what a search for a circular wait goes through.
use Rattle.std.specs.Prelude.{◌≡◌, ℕ, ◌+◌, ◌<◌, ◌≤◌, List, [], ◌∷◌, length, slice_index, slice_index_or, slice_set, None, Option}
use Rattle.plans.specs.Plan.{Plan}
use Rattle.laws.specs.declared.pairs.Pair.{Pair}
use Rattle.laws.specs.Paths.{Carrier, HasLeg, entry}
use Rattle.laws.specs.Chains.{end}
use Rattle.pruning.specs.declared.dropped.Dropped.{Dropped}

-- the height that drops leg t of carrier c; none keeps it
abbrev pub height : Dropped → ℕ → ℕ → Option ℕ
height d c t = slice_index_or d.heights (slice_index d.offsets c + t) None

-- which legs may follow the first of a circular wait: those of carriers above its carrier, `low`, that are not dropped
pub record Scope : Type 0 where
  pub low : ℕ
  pub dropped : Dropped

abbrev pub scope : ℕ → Dropped → Scope
scope low d = record { low = low; dropped = d }

-- leg t of carrier c may follow at the place u: it begins there, is in the scope, and its carrier has no mark
pub record Open (p : Plan) (marks : List ℕ) (s : Scope) (u c t : ℕ) : Type 0 where
  pub carrier : Carrier p c
  pub above : s.low < c
  pub free : slice_index marks c ≡ 0
  pub inside : HasLeg p c t
  pub begins : entry p c t ≡ u
  pub live : height s.dropped c t ≡ None

-- legs that lead from the place u back to the place home: a chain of unmarked carriers, each leg in the scope
unfoldable pub LeadsBack : Plan → List ℕ → Scope → ℕ → ℕ → List Pair → Type 0
LeadsBack p marks s home u [] = u ≡ home
LeadsBack p marks s home u (x ∷ xs) = Open p marks s u x.carrier x.leg × LeadsBack p (slice_set marks x.carrier 1) s home (end p x) xs

-- no n legs lead back from u
abbrev pub NoneBack : Plan → List ℕ → Scope → ℕ → ℕ → ℕ → Type 0
NoneBack p marks s home u n = (xs : List Pair) → length xs ≡ n → LeadsBack p marks s home u xs → ⊥

-- no n legs or fewer lead back from u
abbrev pub NoneInTime : Plan → List ℕ → Scope → ℕ → ℕ → ℕ → Type 0
NoneInTime p marks s home u n = (xs : List Pair) → length xs ≤ n → LeadsBack p marks s home u xs → ⊥

-- each chain that leads back from a place, whatever is marked, has as many legs as `back` says of the place, or more
abbrev pub Bound : Plan → Scope → ℕ → List ℕ → Type 0
Bound p s home back = (xs : List Pair) (marks : List ℕ) (u : ℕ) → LeadsBack p marks s home u xs → slice_index back u ≤ length xs
