-- Floors and whole files: what is read is what was written, and back.
use Rattle.std.proofs.Common.{◌≡◌, ℕ, ◌+◌, ◌*◌, ◌≤◌, true, cond, eqb, leb, ◌⊎◌, List, [], ◌∷◌, ◌++◌, length, drop, None, Ok, Err, vec_items, refl, ap, ◌∙◌, subst, inl, inr, mul-pos, arith}
use Rattle.std.proofs.lemmas.Bool.{and_parts, and_from, cases_eq, eq-eqb, ne_eqb, leb-true, le-leb, eqb-true}
use Rattle.rail_floor.specs.declared.legs.Leg.{Leg}
use Rattle.rail_floor.specs.Rails.{fits_rail}
use Rattle.rail_floor.specs.Ordered.{rail_fit}
use Rattle.hall_floor.specs.Halls.{Hall, cells, bytes_for, spare_free, fits_hall}
use Rattle.store_floor.specs.Layout.{Layout, rails, cellular, places, fits_layout}
use Rattle.store_floor.specs.Held.{layout_of}
use Rattle.plans.specs.declared.carriers.Carrier.{Carrier}
use Rattle.plans.specs.Plan.{Route, Plan, entries_of, all_on_floor, fits_carriers, fits}
use Rattle.plans.specs.Held.{routes_of}
use Rattle.files.specs.declared.draft.Draft.{Draft}
use Rattle.files.specs.declared.faults.FileFault.TheVariants.{OutOfRange, WrongMark}
use Rattle.files.specs.Parse.{guard, number_at, ranged_at, legs_at, rail_at, cells_at, hall_at, floor_at, record_size, carriers_at, parse}
use Rattle.files.specs.Written.{two, legs_bytes, floor_bytes, routes_bytes, written}
use Rattle.files.specs.Reading.{draft_of}
use Rattle.files.specs.Laws.{Bytes, FilesArePlans}
use Rattle.files.proofs.Numbered.{both_ok, guard_ok, ranged_ok, ranged_of, number_bytes, number_of_lem}
use Rattle.files.proofs.Legged.{legs_of_lem, legs_ok}
use Rattle.files.proofs.Celled.{cells_of, cells_ok}
use Rattle.files.proofs.Carried.{routes_of_lem, routes_ok}

-- a floor that was read behind its mark
pub record Marked (mark : ℕ) (bytes : List ℕ) (f : Layout) : Type 0 where
  pub fit : fits_layout f ≡ true
  pub some : 1 ≤ places f
  pub bytes_are : number_at bytes 0 0 ≡ Ok mark → Bytes bytes → bytes ≡ floor_bytes f ++ drop (record_size f) bytes

-- a rail floor
rail_of : (bytes : List ℕ) (size : ℕ) (legs : List Leg) (rest : List ℕ) → bytes ≡ floor_bytes (rails size legs) ++ rest → fits_rail size legs ≡ true → (floor_at bytes ≡ Ok (rails size legs)) × (drop (6 + 6 * length legs) bytes ≡ rest)
unfolding floor_at rail_at
rail_of bytes size legs rest e f =
    let g = rail_fit size legs f in
    let m = number_of_lem bytes 0 0 0x4652 (two size ++ (two (length legs) ++ (legs_bytes legs ++ rest))) e in
    let a = number_of_lem bytes 0 2 size (two (length legs) ++ (legs_bytes legs ++ rest)) m.after in
    let b = number_of_lem bytes 0 4 (length legs) (legs_bytes legs ++ rest) a.after in
    let d = legs_of_lem bytes 0 6 size None legs rest b.after g.order in
    let x = ranged_of bytes 0 2 1 1024 size a.value g.some g.most in
    let y = ranged_of bytes 0 4 0 4096 (length legs) b.value (omega arith) g.few in
    (rw (m.value, x, y, d.0) refl, d.1)

pub rail_ok : (bytes : List ℕ) (f : Layout) → rail_at bytes ≡ Ok f → Marked 0x4652 bytes f
unfolding rail_at
rail_ok bytes f h =
    both_ok (ranged_at bytes 0 2 1 1024) _ f h (λ size x h.
    both_ok (ranged_at bytes 0 4 0 4096) _ f h (λ count y h.
    both_ok (legs_at bytes 0 6 size None count) _ f h (λ legs z h.
    let e : rails size legs ≡ f = cc in
    let rx = ranged_ok bytes 0 2 1 1024 size x in
    let ry = ranged_ok bytes 0 4 0 4096 count y in
    let i = legs_ok bytes 0 6 size None count legs rx.low z in
    subst (λ (f : Layout). Marked 0x4652 bytes f) e
    (record {
      fit = and_from _ _ (le-leb _ _ rx.low) (and_from _ _ (le-leb _ _ rx.high) (and_from _ _ (le-leb (length legs) 4096 (omega (arith, ry.high, i.many))) i.fit));
      some = rx.low;
      bytes_are = λ m b.
          let ny : drop 4 bytes ≡ two (length legs) ++ drop 6 bytes = rw i.many (number_bytes bytes 0 4 count b ry.number) in
          number_bytes bytes 0 0 0x4652 b m
          ∙ (ap (λ (w : List ℕ). 82 ∷ 70 ∷ w) (number_bytes bytes 0 2 size b rx.number)
          ∙ (ap (λ (w : List ℕ). 82 ∷ 70 ∷ (two size ++ w)) ny
          ∙ ap (λ (w : List ℕ). 82 ∷ 70 ∷ (two size ++ (two (length legs) ++ w))) (i.bytes_are b)));
    }))))

-- a hall floor
pub record HallFits (h : Hall) : Type 0 where
  pub width_least : 1 ≤ h.width
  pub width_most : h.width ≤ 1024
  pub height_least : 1 ≤ h.height
  pub height_most : h.height ≤ 1024
  pub few : leb (cells h) 1024 ≡ true
  pub across_least : 1 ≤ h.across
  pub across_most : h.across ≤ 65535
  pub down_least : 1 ≤ h.down
  pub down_most : h.down ≤ 65535
  pub long : length h.blocked ≡ bytes_for (cells h)
  pub spare : spare_free (cells h) h.blocked ≡ true

pub hall_parts : (h : Hall) → fits_hall h ≡ true → HallFits h
hall_parts h f =
    let a = and_parts (leb 1 h.width) _ f in
    let b = and_parts (leb h.width 1024) _ a.1 in
    let c = and_parts (leb 1 h.height) _ b.1 in
    let d = and_parts (leb h.height 1024) _ c.1 in
    let e = and_parts (leb (cells h) 1024) _ d.1 in
    let g = and_parts (leb 1 h.across) _ e.1 in
    let i = and_parts (leb h.across 65535) _ g.1 in
    let j = and_parts (leb 1 h.down) _ i.1 in
    let k = and_parts (leb h.down 65535) _ j.1 in
    let l = and_parts (eqb (length h.blocked) (bytes_for (cells h))) _ k.1 in
    record {
      width_least = leb-true _ _ a.0;
      width_most = leb-true _ _ b.0;
      height_least = leb-true _ _ c.0;
      height_most = leb-true _ _ d.0;
      few = e.0;
      across_least = leb-true _ _ g.0;
      across_most = leb-true _ _ i.0;
      down_least = leb-true _ _ j.0;
      down_most = leb-true _ _ k.0;
      long = eqb-true _ _ l.0;
      spare = l.1;
    }

hall_whole : (h : Hall) → HallFits h → fits_hall h ≡ true
hall_whole h f =
    and_from _ _ (le-leb _ _ f.width_least) (and_from _ _ (le-leb _ _ f.width_most) (and_from _ _ (le-leb _ _ f.height_least) (and_from _ _ (le-leb _ _ f.height_most) (and_from _ _ f.few
    (and_from _ _ (le-leb _ _ f.across_least) (and_from _ _ (le-leb _ _ f.across_most) (and_from _ _ (le-leb _ _ f.down_least) (and_from _ _ (le-leb _ _ f.down_most)
    (and_from _ _ (eq-eqb _ _ f.long) f.spare)))))))))

hall_of_lem : (bytes : List ℕ) (h : Hall) (rest : List ℕ) → bytes ≡ floor_bytes (cellular h) ++ rest → fits_hall h ≡ true → (floor_at bytes ≡ Ok (cellular h)) × (drop (10 + length h.blocked) bytes ≡ rest)
unfolding floor_at hall_at
hall_of_lem bytes h rest e fit =
    let f = hall_parts h fit in
    let m = number_of_lem bytes 0 0 0x4648 (two h.width ++ (two h.height ++ (two h.across ++ (two h.down ++ (h.blocked ++ rest))))) e in
    let nw = number_of_lem bytes 0 2 h.width (two h.height ++ (two h.across ++ (two h.down ++ (h.blocked ++ rest)))) m.after in
    let nh = number_of_lem bytes 0 4 h.height (two h.across ++ (two h.down ++ (h.blocked ++ rest))) nw.after in
    let na = number_of_lem bytes 0 6 h.across (two h.down ++ (h.blocked ++ rest)) nh.after in
    let nd = number_of_lem bytes 0 8 h.down (h.blocked ++ rest) na.after in
    let c = cells_of bytes 10 (cells h) h.blocked rest nd.after (mul-pos f.width_least f.height_least) f.long f.spare in
    let xw = ranged_of bytes 0 2 1 1024 h.width nw.value f.width_least f.width_most in
    let xh = ranged_of bytes 0 4 1 1024 h.height nh.value f.height_least f.height_most in
    let xa = ranged_of bytes 0 6 1 65535 h.across na.value f.across_least f.across_most in
    let xd = ranged_of bytes 0 8 1 65535 h.down nd.value f.down_least f.down_most in
    (rw (m.value, xw, xh, f.few, xa, xd, c.0) refl, c.1)

pub hall_ok : (bytes : List ℕ) (f : Layout) → hall_at bytes ≡ Ok f → Marked 0x4648 bytes f
unfolding hall_at
hall_ok bytes f k =
    both_ok (ranged_at bytes 0 2 1 1024) _ f k (λ w xw k.
    both_ok (ranged_at bytes 0 4 1 1024) _ f k (λ h xh k.
    both_ok (guard (leb (w * h) 1024) (OutOfRange 4)) _ f k (λ u xu k.
    both_ok (ranged_at bytes 0 6 1 65535) _ f k (λ a xa k.
    both_ok (ranged_at bytes 0 8 1 65535) _ f k (λ d xd k.
    both_ok (cells_at bytes 10 (w * h)) _ f k (λ blocked xc k.
    let hall : Hall = record { width = w; height = h; across = a; down = d; blocked = blocked } in
    let e : cellular hall ≡ f = cc in
    let nw = ranged_ok bytes 0 2 1 1024 w xw in
    let nh = ranged_ok bytes 0 4 1 1024 h xh in
    let na = ranged_ok bytes 0 6 1 65535 a xa in
    let nd = ranged_ok bytes 0 8 1 65535 d xd in
    let p : 1 ≤ w * h = mul-pos nw.low nh.low in
    let c = cells_ok bytes 10 (w * h) blocked p xc in
    subst (λ (f : Layout). Marked 0x4648 bytes f) e
    (record {
      fit = hall_whole hall (record {
        width_least = nw.low;
        width_most = nw.high;
        height_least = nh.low;
        height_most = nh.high;
        few = guard_ok _ (OutOfRange 4) u xu;
        across_least = na.low;
        across_most = na.high;
        down_least = nd.low;
        down_most = nd.high;
        long = c.long;
        spare = c.spare;
      });
      some = p;
      bytes_are = λ m b.
          number_bytes bytes 0 0 0x4648 b m
          ∙ (ap (λ (v : List ℕ). 72 ∷ 70 ∷ v) (number_bytes bytes 0 2 w b nw.number)
          ∙ (ap (λ (v : List ℕ). 72 ∷ 70 ∷ (two w ++ v)) (number_bytes bytes 0 4 h b nh.number)
          ∙ (ap (λ (v : List ℕ). 72 ∷ 70 ∷ (two w ++ (two h ++ v))) (number_bytes bytes 0 6 a b na.number)
          ∙ (ap (λ (v : List ℕ). 72 ∷ 70 ∷ (two w ++ (two h ++ (two a ++ v)))) (number_bytes bytes 0 8 d b nd.number)
          ∙ ap (λ (v : List ℕ). 72 ∷ 70 ∷ (two w ++ (two h ++ (two a ++ (two d ++ v))))) c.bytes_are))));
    })))))))

-- either floor
floor_of : (bytes : List ℕ) (f : Layout) (rest : List ℕ) → bytes ≡ floor_bytes f ++ rest → fits_layout f ≡ true → (floor_at bytes ≡ Ok f) × (drop (record_size f) bytes ≡ rest)
floor_of bytes (rails size legs) rest e f = rail_of bytes size legs rest e f
floor_of bytes (cellular h) rest e f = hall_of_lem bytes h rest e f

pub record Floor (bytes : List ℕ) (f : Layout) : Type 0 where
  pub fit : fits_layout f ≡ true
  pub some : 1 ≤ places f
  pub bytes_are : Bytes bytes → bytes ≡ floor_bytes f ++ drop (record_size f) bytes

marked_floor : (mark : ℕ) (bytes : List ℕ) (f : Layout) → number_at bytes 0 0 ≡ Ok mark → Marked mark bytes f → Floor bytes f
marked_floor mark bytes f m r = record { fit = r.fit; some = r.some; bytes_are = r.bytes_are m }

pub floor_ok : (bytes : List ℕ) (f : Layout) → floor_at bytes ≡ Ok f → Floor bytes f
unfolding floor_at
floor_ok bytes f h = both_ok (number_at bytes 0 0) _ f h (λ m a h. go m a h (cases_eq m 0x4652) (cases_eq m 0x4648))
  where
    go : (m : ℕ) → number_at bytes 0 0 ≡ Ok m → cond (eqb m 0x4652) (rail_at bytes) (cond (eqb m 0x4648) (hall_at bytes) (Err (WrongMark 0))) ≡ Ok f → (m ≡ 0x4652) ⊎ (m ≡ 0x4652 → ⊥) → (m ≡ 0x4648) ⊎ (m ≡ 0x4648 → ⊥) → Floor bytes f
    go m a h (inl e) k = marked_floor 0x4652 bytes f (a ∙ ap (λ m. Ok m) e) (rail_ok bytes f (rw (eq-eqb m 0x4652 e) at h))
    go m a h (inr e) (inl k) = marked_floor 0x4648 bytes f (a ∙ ap (λ m. Ok m) k) (hall_ok bytes f (rw (ne_eqb m 0x4652 e, eq-eqb m 0x4648 k) at h))
    go m a h (inr e) (inr k) =
        let x : Err (WrongMark 0) ≡ Ok f = rw (ne_eqb m 0x4652 e, ne_eqb m 0x4648 k) at h in cc

-- a plan that was read
pub record File (bytes : List ℕ) (p : Plan) : Type 0 where
  pub fit : fits p ≡ true
  pub bytes_are : Bytes bytes → bytes ≡ written p

carriers_whole : (size : ℕ) (rs : List Route) → length rs ≤ 32 → length (entries_of rs) ≤ 2048 → all_on_floor size rs ≡ true → fits_carriers size rs ≡ true
carriers_whole size rs n k f = and_from _ _ (le-leb _ _ n) (and_from _ _ (le-leb _ _ k) f)

pub file_ok : (bytes : List ℕ) (p : Plan) → parse bytes ≡ Ok p → File bytes p
unfolding parse written
file_ok bytes p h =
    both_ok (floor_at bytes) _ p h (λ f x h.
    both_ok (carriers_at bytes (record_size f) (places f) 2048 32) _ p h (λ rs y h.
    let q : Plan = record { floor = f; carriers = rs } in
    let e : q ≡ p = cc in
    let i = floor_ok bytes f x in
    let j = routes_ok bytes (record_size f) (places f) 2048 32 rs i.some y in
    subst (λ (p : Plan). File bytes p) e
    (record {
      fit = and_from _ _ i.fit (carriers_whole (places f) rs j.few j.short j.fit);
      bytes_are = λ b. i.bytes_are b ∙ ap (λ (w : List ℕ). floor_bytes f ++ w) (j.bytes_are b);
    })))

file_of : (bytes : List ℕ) (p : Plan) → fits p ≡ true → bytes ≡ written p → parse bytes ≡ Ok p
unfolding parse written
file_of bytes p f e =
    let f1 = and_parts (fits_layout p.floor) (fits_carriers (places p.floor) p.carriers) f in
    let f2 = and_parts (leb (length p.carriers) 32) _ f1.1 in
    let f3 = and_parts (leb (length (entries_of p.carriers)) 2048) _ f2.1 in
    let x = floor_of bytes p.floor (routes_bytes p.carriers ++ (69 ∷ 78 ∷ [])) e f1.0 in
    let y = routes_of_lem bytes (record_size p.floor) (places p.floor) 2048 32 p.carriers x.1 (leb-true _ _ f2.0) (leb-true _ _ f3.0) f3.1 in
    rw (x.0, y) refl

pub files_are_plans : FilesArePlans
files_are_plans bytes p b = ((λ h. let i = file_ok bytes p h in (i.fit, i.bytes_are b)), (λ h. file_of bytes p h.0 h.1))

-- the carriers of a draft that was read fit its floor
pub draft_fits : (bytes : List ℕ) (d : Draft) (cs : List Carrier) → parse bytes ≡ Ok (draft_of d) → cs ≡ vec_items d.carriers → fits_carriers (places (layout_of d.floor)) (routes_of cs) ≡ true
draft_fits bytes d cs h e =
    ap (λ (cs : List Carrier). fits_carriers (places (layout_of d.floor)) (routes_of cs)) e ∙ (and_parts (fits_layout (layout_of d.floor)) _ (file_ok bytes (draft_of d) h).fit).1
