-- Carriers laid into tables, and read from them again.
use Rattle.std.proofs.Common.{◌≡◌, ℕ, zero, suc, ◌+◌, ◌-◌, ◌≤◌, List, [], ◌∷◌, ◌++◌, map, length, Option, Bor, Some, None, take, drop, replicate, sym, refl, ap, ◌∙◌, append_assoc, arith, length-append}
use Rattle.std.proofs.lemmas.List.{take_at, drop_at, length-replicate}
use Rattle.std.proofs.lemmas.Option.{slice_get-get_or}
use Rattle.std.specs.Option.{MatchOption, option_copied}
use Rattle.std.specs.List.{slice_get}
use Rattle.plans.specs.declared.rows.CarrierRow.{CarrierRow}
use Rattle.plans.specs.Plan.{Route, entries_of}
use Rattle.plans.specs.Tables.{rows_of, no_row, filled, entry_table, row_table, route_at, routes_in}
use Rattle.plans.proofs.Routes.{rows_length}

pub filled_length : {X : Type 0} (n : ℕ) (x : X) (xs : List X) → length xs ≤ n → length (filled n x xs) ≡ n
filled_length n x xs h = length-append xs (replicate (n - length xs) x) ∙ ap (λ k. length xs + k) (length-replicate (n - length xs) x) ∙ omega arith

-- a path stands where its row says
path_back : (front path rest : List ℕ) → take (length path) (drop (length front) (front ++ (path ++ rest))) ≡ path
path_back front path rest = ap (take (length path)) (drop_at front (path ++ rest) (length front) refl) ∙ take_at path rest (length path) refl

routes_behind : (front : List ℕ) (rs : List Route) (rest : List ℕ) → map (route_at (front ++ (entries_of rs ++ rest))) (rows_of (length front) rs) ≡ rs
unfolding rows_of entries_of
routes_behind front [] rest = refl
routes_behind front (r ∷ more) rest =
    let behind : List ℕ = entries_of more ++ rest in
    let one : front ++ ((r.path ++ entries_of more) ++ rest) ≡ front ++ (r.path ++ behind) = ap (λ zs. front ++ zs) (append_assoc r.path (entries_of more) rest) in
    let two : front ++ ((r.path ++ entries_of more) ++ rest) ≡ (front ++ r.path) ++ behind = one ∙ sym (append_assoc front r.path behind) in
    let n : length front + length r.path ≡ length (front ++ r.path) = sym (length-append front r.path) in
    let first : take (length r.path) (drop (length front) (front ++ ((r.path ++ entries_of more) ++ rest))) ≡ r.path =
    ap (λ zs. take (length r.path) (drop (length front) zs)) one ∙ path_back front r.path behind in
    let others : map (route_at (front ++ ((r.path ++ entries_of more) ++ rest))) (rows_of (length front + length r.path) more) ≡ more =
    (λ i. map (route_at (two i)) (rows_of (n i) more)) ∙ routes_behind (front ++ r.path) more rest in
    λ i. record { start = r.start; goal = r.goal; path = first i } ∷ others i

-- the tables of carriers hold these carriers, whatever stands behind
pub routes_back : (rs : List Route) (entries : List ℕ) (rows : List CarrierRow) → routes_in (entry_table rs ++ entries) (row_table rs ++ rows) (length rs) ≡ rs
unfolding routes_in
routes_back rs entries rows =
    let e = append_assoc (entries_of rs) (replicate (2048 - length (entries_of rs)) 0) entries in
    let r = append_assoc (rows_of 0 rs) (replicate (32 - length (rows_of 0 rs)) no_row) rows in
    let t : take (length rs) (row_table rs ++ rows) ≡ rows_of 0 rs = ap (take (length rs)) r ∙ take_at (rows_of 0 rs) _ (length rs) (rows_length 0 rs) in
    (λ i. map (route_at (e i)) (t i)) ∙ routes_behind [] rs _

-- where a path ends
pub row_within : (before : ℕ) (rs : List Route) (c : ℕ) (row : CarrierRow) → slice_get (rows_of before rs) c ≡ Some row → row.before + row.count ≤ before + length (entries_of rs)
unfolding rows_of entries_of
row_within before [] c row e = let z : ◌≡◌ {A = ℕ} 0 1 = cc in absurd (omega arith)
row_within before (r ∷ more) zero row e =
    let b : row.before ≡ before = cc in
    let n : row.count ≡ length r.path = cc in
    omega (arith, length-append r.path (entries_of more))
row_within before (r ∷ more) (suc c) row e = omega (arith, length-append r.path (entries_of more), row_within (before + length r.path) more c row e)

-- the last path ends where all end
last_behind : (before : ℕ) (r : Route) (rs : List Route) (row : CarrierRow) → slice_get (rows_of before (r ∷ rs)) (length rs) ≡ Some row → row.before + row.count ≡ before + length (entries_of (r ∷ rs))
unfolding rows_of entries_of
last_behind before r [] row e =
    let b : row.before ≡ before = cc in
    let n : row.count ≡ length r.path = cc in
    omega (arith, length-append r.path [])
last_behind before r (s ∷ rs) row e = omega (arith, length-append r.path (entries_of (s ∷ rs)), last_behind (before + length r.path) s rs row e)

pub last_row : (rs : List Route) (last : Option (Bor CarrierRow)) (n : ℕ) → option_copied last ≡ slice_get (rows_of 0 rs) (length (rows_of 0 rs) - 1) → MatchOption last (n ≡ 0) (λ row. n ≡ row.now.before + row.now.count) → n ≡ length (entries_of rs)
unfolding rows_of entries_of
last_row [] None n e m = m
last_row [] (Some row) n e m = let z : ◌≡◌ {A = ℕ} 0 1 = cc in absurd (omega arith)
last_row (r ∷ rs) None n e m =
    let some = slice_get-get_or (rows_of 0 (r ∷ rs)) (length (rows_of 0 (r ∷ rs)) - 1) no_row (omega arith) in
    let z : ◌≡◌ {A = ℕ} 0 1 = cc in
    absurd (omega arith)
last_row (r ∷ rs) (Some row) n e m =
    let last : length (rows_of 0 (r ∷ rs)) - 1 ≡ length rs = omega (arith, rows_length (0 + length r.path) rs) in
    omega (arith, m, last_behind 0 r rs row.now (sym (e ∙ ap (slice_get (rows_of 0 (r ∷ rs))) last)))
