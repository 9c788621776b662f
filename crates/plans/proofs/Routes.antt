-- The entries and the rows of carriers, one carrier more at a time.
use Rattle.std.proofs.Common.{◌≡◌, ℕ, suc, ◌+◌, ◌<◌, ◌≤◌, List, [], ◌∷◌, ◌++◌, length, get_or, take, vec_items, vec_len, sym, refl, subst, ap, ◌∙◌, append-nil, arith, length-append}
use Rattle.std.proofs.lemmas.Grind.{flat_map-append}
use Rattle.std.proofs.lemmas.List.{length-map, length-take-le, take_all, take_more, get_or-map}
use Rattle.std.proofs.lemmas.List.Folds.{length-flat_map-take}
use Rattle.plans.specs.declared.carriers.Carrier.{Carrier}
use Rattle.plans.specs.declared.rows.CarrierRow.{CarrierRow}
use Rattle.plans.specs.Plan.{Route, entries_of}
use Rattle.plans.specs.Tables.{rows_of}
use Rattle.plans.specs.Held.{route_of, routes_of}

pub routes_length : (cs : List Carrier) → length (routes_of cs) ≡ length cs
unfolding routes_of
routes_length cs = length-map cs route_of

pub rows_length : (before : ℕ) (rs : List Route) → length (rows_of before rs) ≡ length rs
unfolding rows_of
rows_length before [] = refl
rows_length before (r ∷ more) = ap suc (rows_length (before + length r.path) more)

pub all_taken : (cs : List Carrier) (i : ℕ) → length cs ≤ i → take i (routes_of cs) ≡ routes_of cs
all_taken cs i h = take_all i (routes_of cs) (omega (arith, routes_length cs))

pub rows_taken : (cs : List Carrier) (i : ℕ) → i ≤ length cs → i ≡ length (rows_of 0 (take i (routes_of cs)))
rows_taken cs i h = sym (rows_length 0 (take i (routes_of cs)) ∙ length-take-le i (routes_of cs) (omega (arith, routes_length cs)))

-- the row of a carrier, where so many entries lie before its path
abbrev pub row_of : ℕ → Route → CarrierRow
row_of before r = record { start = r.start; goal = r.goal; before = before; count = length r.path }

rows_behind : (before : ℕ) (rs : List Route) (r : Route) → rows_of before (rs ++ r ∷ []) ≡ rows_of before rs ++ row_of (before + length (entries_of rs)) r ∷ []
unfolding rows_of entries_of
rows_behind before [] r = ap (λ n. row_of n r ∷ []) (omega arith)
rows_behind before (x ∷ rs) r =
    ap (λ zs. row_of before x ∷ zs)
    (rows_behind (before + length x.path) rs r
    ∙ ap (λ n. rows_of (before + length x.path) rs ++ row_of n r ∷ []) (omega (arith, length-append x.path (entries_of rs))))

-- x is the next carrier, behind i others
module _ (cs : List Carrier) (i : ℕ) (x : Carrier) (h : i < length cs) (e : x ≡ get_or cs i x) where
  is_next : get_or (routes_of cs) i (route_of x) ≡ route_of x
  unfolding routes_of
  is_next = get_or-map route_of cs i x (route_of x) h ∙ ap route_of (sym e)

  one_more : take (i + 1) (routes_of cs) ≡ take i (routes_of cs) ++ route_of x ∷ []
  one_more = take_more (routes_of cs) i (route_of x) (omega (arith, routes_length cs)) ∙ ap (λ (r : Route). take i (routes_of cs) ++ r ∷ []) is_next

  pub entries_more : entries_of (take (i + 1) (routes_of cs)) ≡ entries_of (take i (routes_of cs)) ++ vec_items x.path
  unfolding entries_of
  entries_more =
      ap entries_of one_more
      ∙ flat_map-append (λ (r : Route). r.path) (take i (routes_of cs)) (route_of x ∷ [])
      ∙ ap (λ zs. entries_of (take i (routes_of cs)) ++ zs) (append-nil (vec_items x.path))

  pub entries_within : (n : ℕ) → length (entries_of (routes_of cs)) ≤ n → length (entries_of (take i (routes_of cs))) + vec_len x.path ≤ n
  unfolding entries_of
  entries_within n few =
      let w = length-flat_map-take (λ (r : Route). r.path) (routes_of cs) i (route_of x) (omega (arith, routes_length cs)) in
      omega (arith, few, x.path.ok.0, subst (λ (r : Route). length (entries_of (take i (routes_of cs))) + length r.path ≤ length (entries_of (routes_of cs))) is_next w)

  pub rows_more : rows_of 0 (take (i + 1) (routes_of cs)) ≡ rows_of 0 (take i (routes_of cs)) ++ row_of (length (entries_of (take i (routes_of cs)))) (route_of x) ∷ []
  rows_more =
      ap (rows_of 0) one_more ∙ rows_behind 0 (take i (routes_of cs)) (route_of x)
      ∙ ap (λ n. rows_of 0 (take i (routes_of cs)) ++ row_of n (route_of x) ∷ []) (omega arith)
