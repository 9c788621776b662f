-- Carriers of a file: what is read is what was written, and back.
use Rattle.std.proofs.Common.{◌≡◌, ℕ, zero, suc, ◌+◌, ◌-◌, ◌*◌, ◌<◌, ◌≤◌, Bool, true, false, cond, ltb, leb, List, [], ◌∷◌, ◌++◌, length, drop, Ok, Err, sym, refl, ap, ◌∙◌, subst, append_assoc, arith, length-append}
use Rattle.std.proofs.lemmas.List.{length-drop, drop_all}
use Rattle.std.proofs.lemmas.Bool.{and_parts, and_from, leb-true, le-leb, ltb-true, lt-ltb}
use Rattle.std.proofs.lemmas.Bool.Decides.{nat_tests}
use Rattle.plans.specs.Plan.{Route, entries_of, within, on_floor, all_on_floor}
use Rattle.files.specs.declared.faults.FileFault.TheVariants.{Trailing, OutOfRange}
use Rattle.files.specs.Parse.{◌>>=◌, guard, number_at, ranged_at, entries_at, carrier_at, follows_at, end_at, carriers_at}
use Rattle.files.specs.Written.{two, entries_bytes, routes_bytes}
use Rattle.files.specs.Laws.{Bytes}
use Rattle.files.proofs.Numbered.{both_ok, guard_ok, ranged_ok, ranged_of, number_bytes, number_of_lem}

-- the parts of the test of a carrier
record Fits (size : ℕ) (r : Route) : Type 0 where
  start : r.start < size
  goal : r.goal < size
  path : within size r.path ≡ true

carrier_parts : (size : ℕ) (r : Route) → on_floor size r ≡ true → Fits size r
carrier_parts size r h =
    let a = and_parts (ltb r.start size) _ h in
    let b = and_parts (ltb r.goal size) _ a.1 in
    record { start = ltb-true _ _ a.0; goal = ltb-true _ _ b.0; path = b.1 }

carrier_whole : (size : ℕ) (r : Route) → Fits size r → on_floor size r ≡ true
carrier_whole size r f = and_from _ _ (lt-ltb _ _ f.start) (and_from _ _ (lt-ltb _ _ f.goal) f.path)

-- entries
entries_of_lem : (bytes : List ℕ) (mark at size : ℕ) (xs rest : List ℕ) → drop at bytes ≡ entries_bytes xs ++ rest → within size xs ≡ true → (entries_at bytes mark at (size - 1) (length xs) ≡ Ok xs) × (drop (at + 2 * length xs) bytes ≡ rest)
unfolding entries_at entries_bytes within
entries_of_lem bytes mark at size [] rest e f = let z : at + 2 * 0 ≡ at = omega arith in (refl, rw z e)
entries_of_lem bytes mark at size (x ∷ xs) rest e f =
    let g = and_parts (ltb x size) (within size xs) f in
    let a = number_of_lem bytes mark at x (entries_bytes xs ++ rest) e in
    let r = ranged_of bytes mark at 0 (size - 1) x a.value (omega arith) (omega (arith, ltb-true x size g.0)) in
    let b = entries_of_lem bytes mark (at + 2) size xs rest a.after g.1 in
    let z : at + 2 * suc (length xs) ≡ at + 2 + 2 * length xs = omega arith in
    (rw (r, b.0) refl, rw z b.1)

record Entries (bytes : List ℕ) (at size n : ℕ) (xs : List ℕ) : Type 0 where
  fit : within size xs ≡ true
  many : length xs ≡ n
  bytes_are : Bytes bytes → drop at bytes ≡ entries_bytes xs ++ drop (at + 2 * length xs) bytes

entries_ok : (bytes : List ℕ) (mark at size n : ℕ) (xs : List ℕ) → 1 ≤ size → entries_at bytes mark at (size - 1) n ≡ Ok xs → Entries bytes at size n xs
unfolding entries_at entries_bytes within
entries_ok bytes mark at size zero xs p h =
    let e : [] ≡ xs = cc in
    let z : at + 2 * 0 ≡ at = omega arith in
    subst (λ (l : List ℕ). Entries bytes at size 0 l) e (record { fit = refl; many = refl; bytes_are = λ b. rw z refl })
entries_ok bytes mark at size (suc n) xs p h =
    both_ok (ranged_at bytes mark at 0 (size - 1)) _ xs h (λ x a h.
    both_ok (entries_at bytes mark (at + 2) (size - 1) n) _ xs h (λ more d h.
    let e : x ∷ more ≡ xs = cc in
    let r = ranged_ok bytes mark at 0 (size - 1) x a in
    let i = entries_ok bytes mark (at + 2) size n more p d in
    let z : at + 2 + 2 * length more ≡ at + 2 * suc (length more) = omega arith in
    subst (λ (l : List ℕ). Entries bytes at size (suc n) l) e
    (record {
      fit = and_from _ _ (lt-ltb x size (omega (arith, r.high))) i.fit;
      many = ap (λ k. suc k) i.many;
      bytes_are = λ b. number_bytes bytes mark at x b r.number ∙ ap (λ (w : List ℕ). two x ++ w) (rw z at (i.bytes_are b));
    })))

-- a carrier
abbrev route_bytes : Route → List ℕ
route_bytes r = 67 ∷ 65 ∷ (two r.start ++ (two r.goal ++ (two (length r.path) ++ entries_bytes r.path)))

record Carrier (bytes : List ℕ) (at size room : ℕ) (r : Route) (rest : List ℕ) : Type 0 where
  follows : follows_at bytes at ≡ Ok true
  value : carrier_at bytes at size room ≡ Ok r
  after : drop (at + (8 + 2 * length r.path)) bytes ≡ rest

carrier_of : (bytes : List ℕ) (at size room : ℕ) (r : Route) (rest : List ℕ) → drop at bytes ≡ route_bytes r ++ rest → Fits size r → length r.path ≤ room → Carrier bytes at size room r rest
unfolding follows_at carrier_at
carrier_of bytes at size room r rest e f few =
    let m = number_of_lem bytes at at 0x4143 (two r.start ++ (two r.goal ++ (two (length r.path) ++ (entries_bytes r.path ++ rest)))) e in
    let a = number_of_lem bytes at (at + 2) r.start (two r.goal ++ (two (length r.path) ++ (entries_bytes r.path ++ rest))) m.after in
    let s : at + 2 + 2 ≡ at + 4 = omega arith in
    let b = number_of_lem bytes at (at + 4) r.goal (two (length r.path) ++ (entries_bytes r.path ++ rest)) (rw s at a.after) in
    let t : at + 4 + 2 ≡ at + 6 = omega arith in
    let c = number_of_lem bytes at (at + 6) (length r.path) (entries_bytes r.path ++ rest) (rw t at b.after) in
    let u : at + 6 + 2 ≡ at + 8 = omega arith in
    let d = entries_of_lem bytes at (at + 8) size r.path rest (rw u at c.after) f.path in
    let x = ranged_of bytes at (at + 2) 0 (size - 1) r.start a.value (omega arith) (omega (arith, f.start)) in
    let y = ranged_of bytes at (at + 4) 0 (size - 1) r.goal b.value (omega arith) (omega (arith, f.goal)) in
    let z = ranged_of bytes at (at + 6) 0 room (length r.path) c.value (omega arith) few in
    let w : at + (8 + 2 * length r.path) ≡ at + 8 + 2 * length r.path = omega arith in
    record { follows = rw m.value refl; value = rw (x, y, z, d.0) refl; after = rw w d.1 }

pub record CarrierRead (bytes : List ℕ) (at size room : ℕ) (r : Route) : Type 0 where
  pub fit : on_floor size r ≡ true
  pub short : length r.path ≤ room
  pub bytes_are : Bytes bytes → drop (at + 2) bytes ≡ two r.start ++ (two r.goal ++ (two (length r.path) ++ (entries_bytes r.path ++ drop (at + (8 + 2 * length r.path)) bytes)))

pub carrier_ok : (bytes : List ℕ) (at size room : ℕ) (r : Route) → 1 ≤ size → carrier_at bytes at size room ≡ Ok r → CarrierRead bytes at size room r
unfolding carrier_at
carrier_ok bytes at size room r p h =
    both_ok (ranged_at bytes at (at + 2) 0 (size - 1)) _ r h (λ start x h.
    both_ok (ranged_at bytes at (at + 4) 0 (size - 1)) _ r h (λ goal y h.
    both_ok (ranged_at bytes at (at + 6) 0 room) _ r h (λ count z h.
    both_ok (entries_at bytes at (at + 8) (size - 1) count) _ r h (λ path w h.
    let q : Route = record { start = start; goal = goal; path = path } in
    let e : q ≡ r = cc in
    let rx = ranged_ok bytes at (at + 2) 0 (size - 1) start x in
    let ry = ranged_ok bytes at (at + 4) 0 (size - 1) goal y in
    let rz = ranged_ok bytes at (at + 6) 0 room count z in
    let i = entries_ok bytes at (at + 8) size count path p w in
    let s : at + 2 + 2 ≡ at + 4 = omega arith in
    let t : at + 4 + 2 ≡ at + 6 = omega arith in
    let u : at + 6 + 2 ≡ at + 8 = omega arith in
    let v : at + 8 + 2 * length path ≡ at + (8 + 2 * length path) = omega arith in
    subst (λ (r : Route). CarrierRead bytes at size room r) e
    (record {
      fit = carrier_whole size q (record { start = omega (arith, rx.high); goal = omega (arith, ry.high); path = i.fit });
      short = omega (arith, rz.high, i.many);
      bytes_are = λ b.
          let nx : drop (at + 2) bytes ≡ two start ++ drop (at + 4) bytes = rw s at (number_bytes bytes at (at + 2) start b rx.number) in
          let ny : drop (at + 4) bytes ≡ two goal ++ drop (at + 6) bytes = rw t at (number_bytes bytes at (at + 4) goal b ry.number) in
          let nz : drop (at + 6) bytes ≡ two (length path) ++ drop (at + 8) bytes = rw i.many (rw u at (number_bytes bytes at (at + 6) count b rz.number)) in
          let n : drop (at + 8) bytes ≡ entries_bytes path ++ drop (at + (8 + 2 * length path)) bytes = rw v at (i.bytes_are b) in
          nx ∙ (ap (λ (w : List ℕ). two start ++ w) ny ∙ (ap (λ (w : List ℕ). two start ++ (two goal ++ w)) nz ∙ ap (λ (w : List ℕ). two start ++ (two goal ++ (two (length path) ++ w))) n));
    })))))

-- the end
end_of : (bytes : List ℕ) (at : ℕ) → drop at bytes ≡ 69 ∷ 78 ∷ [] → (follows_at bytes at ≡ Ok false) × (end_at bytes at ≡ Ok [])
unfolding follows_at
end_of bytes at e =
    let m = number_of_lem bytes at at 0x4e45 [] e in
    let n : length bytes - (at + 2) ≡ 0 = sym (length-drop (at + 2) bytes) ∙ ap length m.after in
    (rw m.value refl, rw (le-leb (length bytes) (at + 2) (omega arith)) refl)

follows_ok : (bytes : List ℕ) (at : ℕ) (b : Bool) → follows_at bytes at ≡ Ok b → number_at bytes at at ≡ Ok (cond b 0x4143 0x4e45)
unfolding follows_at
follows_ok bytes at true h = both_ok (number_at bytes at at) _ true h (λ m a h. let e : m ≡ 0x4143 = grind (arith, nat_tests) in a ∙ ap (λ k. Ok k) e)
follows_ok bytes at false h = both_ok (number_at bytes at at) _ false h (λ m a h. let e : m ≡ 0x4e45 = grind (arith, nat_tests) in a ∙ ap (λ k. Ok k) e)

-- carriers up to the end
pub routes_of_lem : (bytes : List ℕ) (at size room left : ℕ) (rs : List Route) → drop at bytes ≡ routes_bytes rs ++ (69 ∷ 78 ∷ []) → length rs ≤ left → length (entries_of rs) ≤ room → all_on_floor size rs ≡ true → carriers_at bytes at size room left ≡ Ok rs
unfolding carriers_at routes_bytes entries_of all_on_floor
routes_of_lem bytes at size room zero [] e n k f = let x = end_of bytes at e in rw (x.0, x.1) refl
routes_of_lem bytes at size room (suc left) [] e n k f = let x = end_of bytes at e in rw (x.0, x.1) refl
routes_of_lem bytes at size room zero (r ∷ rs) e n k f = absurd (omega arith)
routes_of_lem bytes at size room (suc left) (r ∷ rs) e n k f =
    let g = and_parts (on_floor size r) (all_on_floor size rs) f in
    let m = length-append r.path (entries_of rs) in
    let a = carrier_of bytes at size room r (routes_bytes rs ++ (69 ∷ 78 ∷ [])) (e ∙ append_assoc (route_bytes r) (routes_bytes rs) (69 ∷ 78 ∷ [])) (carrier_parts size r g.0) (omega arith) in
    let b = routes_of_lem bytes (at + (8 + 2 * length r.path)) size (room - length r.path) left rs a.after (omega arith) (omega arith) g.1 in
    rw (a.follows, a.value, b) refl

pub record Routes (bytes : List ℕ) (at size room left : ℕ) (rs : List Route) : Type 0 where
  pub fit : all_on_floor size rs ≡ true
  pub few : length rs ≤ left
  pub short : length (entries_of rs) ≤ room
  pub bytes_are : Bytes bytes → drop at bytes ≡ routes_bytes rs ++ (69 ∷ 78 ∷ [])

end_ok : (bytes : List ℕ) (at size room left : ℕ) (rs : List Route) → follows_at bytes at ≡ Ok false → end_at bytes at ≡ Ok rs → Routes bytes at size room left rs
unfolding all_on_floor entries_of routes_bytes
end_ok bytes at size room left rs a h =
    both_ok (guard (leb (length bytes) (at + 2)) (Trailing (at + 2))) _ rs h (λ u g h.
    let e : [] ≡ rs = cc in
    let l = leb-true (length bytes) (at + 2) (guard_ok _ (Trailing (at + 2)) u g) in
    subst (λ (rs : List Route). Routes bytes at size room left rs) e
    (record {
      fit = refl;
      few = omega arith;
      short = omega arith;
      bytes_are = λ b. number_bytes bytes at at 0x4e45 b (follows_ok bytes at false a) ∙ ap (λ (w : List ℕ). 69 ∷ 78 ∷ w) (drop_all (at + 2) bytes l);
    }))

-- one carrier more
next_ok : (bytes : List ℕ) (at size room left : ℕ) (r : Route) (more : List Route) → follows_at bytes at ≡ Ok true → CarrierRead bytes at size room r
    → Routes bytes (at + (8 + 2 * length r.path)) size (room - length r.path) left more → Routes bytes at size room (suc left) (r ∷ more)
unfolding all_on_floor entries_of routes_bytes
next_ok bytes at size room left r more a c i = record {
  fit = and_from _ _ c.fit i.fit;
  few = omega (arith, i.few);
  short = omega (arith, c.short, i.short, length-append r.path (entries_of more));
  bytes_are = λ b.
      number_bytes bytes at at 0x4143 b (follows_ok bytes at true a)
      ∙ (ap (λ (w : List ℕ). 67 ∷ 65 ∷ w) (c.bytes_are b)
      ∙ (ap (λ (w : List ℕ). route_bytes r ++ w) (i.bytes_are b) ∙ sym (append_assoc (route_bytes r) (routes_bytes more) (69 ∷ 78 ∷ []))));
}

pub routes_ok : (bytes : List ℕ) (at size room left : ℕ) (rs : List Route) → 1 ≤ size → carriers_at bytes at size room left ≡ Ok rs → Routes bytes at size room left rs
unfolding carriers_at
routes_ok bytes at size room zero rs p h = both_ok (follows_at bytes at) _ rs h go
  where
    go : (v : Bool) → follows_at bytes at ≡ Ok v → cond v (Err (OutOfRange at)) (end_at bytes at) ≡ Ok rs → Routes bytes at size room 0 rs
    go true a h = cc
    go false a h = end_ok bytes at size room 0 rs a h
routes_ok bytes at size room (suc left) rs p h = both_ok (follows_at bytes at) _ rs h (go (λ r more. routes_ok bytes (at + (8 + 2 * length r.path)) size (room - length r.path) left more p))
  where
    go : ((r : Route) (more : List Route) → carriers_at bytes (at + (8 + 2 * length r.path)) size (room - length r.path) left ≡ Ok more → Routes bytes (at + (8 + 2 * length r.path)) size (room - length r.path) left more)
        → (v : Bool) → follows_at bytes at ≡ Ok v
        → cond v (carrier_at bytes at size room >>= λ carrier. carriers_at bytes (at + (8 + 2 * length carrier.path)) size (room - length carrier.path) left >>= λ more. Ok (carrier ∷ more)) (end_at bytes at) ≡ Ok rs
        → Routes bytes at size room (suc left) rs
    go ih true a h =
        both_ok (carrier_at bytes at size room) _ rs h (λ r x h.
        both_ok (carriers_at bytes (at + (8 + 2 * length r.path)) size (room - length r.path) left) _ rs h (λ more y h.
        let e : r ∷ more ≡ rs = cc in
        subst (λ (rs : List Route). Routes bytes at size room (suc left) rs) e
        (next_ok bytes at size room left r more a (carrier_ok bytes at size room r p x) (ih r more y))))
    go ih false a h = end_ok bytes at size room (suc left) rs a h
