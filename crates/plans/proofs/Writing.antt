-- Writing a list into the front of a table, part by part.
use Rattle.std.proofs.Common.{◌≡◌, ℕ, ◌+◌, ◌-◌, ◌<◌, ◌≤◌, List, [], ◌∷◌, ◌++◌, length, take, drop, set, replicate, vec_items, Vec, sym, refl, ap, ◌∙◌, append_assoc, arith, length-append, length-drop}
use borrow.Rule.Slice.PartMut.{put_mid}
use Rattle.std.proofs.lemmas.List.{with_items_is, take_at, drop_at, drop-drop, drop_more, set_at, length-replicate, length-take-le}
use Rattle.std.specs.Vec.{with_items}
use Rattle.plans.specs.Tables.{filled}

-- `front` stands in front of what the table held from `at` on
module _ {X : Type 0} (front old : List X) (at : ℕ) (k : at ≡ length front) where
  -- a part is written behind it
  part_behind : (part : List X) (n : ℕ) → n ≡ length part → put_mid at n (front ++ drop at old) part ≡ (front ++ part) ++ drop (at + n) old
  part_behind part n e =
      ap (λ zs. zs ++ (part ++ drop n (drop at (front ++ drop at old)))) (take_at front (drop at old) at (sym k))
      ∙ ap (λ zs. front ++ (part ++ zs)) (ap (drop n) (drop_at front (drop at old) at (sym k)) ∙ drop-drop n at old)
      ∙ sym (append_assoc front part (drop (at + n) old))

  -- an element is written behind it
  pub one_behind : (x : X) → at < length old → set (front ++ drop at old) at x ≡ (front ++ x ∷ []) ++ drop (at + 1) old
  one_behind x h =
      ap (λ zs. set (front ++ zs) at x) (drop_more old at x h)
      ∙ set_at front _ _ x at (sym k)
      ∙ sym (append_assoc front (x ∷ []) (drop (at + 1) old))

  module _ {Z : Type 0} (v : Vec X Z) (stands : vec_items v ≡ front ++ drop at old) where
    long : length front ≤ length old → v.len ≡ length old
    long h = omega (arith, v.ok.0, ap length stands, length-append front (drop at old), length-drop at old)

    -- the elements of a vector in which a part was overwritten
    overwritten : (part : List X) (n : ℕ) → n ≡ length part → at + n ≤ length old → vec_items (with_items v (put_mid at n (vec_items v) part)) ≡ (front ++ part) ++ drop (at + n) old
    overwritten part n e h =
        with_items_is v (put_mid at n (vec_items v) part) (ap length (ap (λ zs. put_mid at n zs part) stands ∙ part_behind part n e) ∙ omega (arith, long (omega arith), length-append (front ++ part) (drop (at + n) old), length-append front part, length-drop (at + n) old))
        ∙ ap (λ zs. put_mid at n zs part) stands
        ∙ part_behind part n e

    -- the same, where a call wrote `ys` over a part of `table`, of n elements
    pub part_laid : (table part ys : List X) (n m : ℕ) → table ≡ vec_items v → ys ≡ part → m ≡ length part → n ≡ m → at + m ≤ length old → vec_items (with_items v (put_mid at n table ys)) ≡ (front ++ part) ++ drop (at + m) old
    part_laid table part ys n m t y e w h = (λ i. vec_items (with_items v (put_mid at (w i) (t i) (y i)))) ∙ overwritten part m e h

    -- the table is filled behind it up to n
    pub filled_laid : (table ys : List X) (n m : ℕ) (x : X) → table ≡ vec_items v → ys ≡ replicate (length (take m (drop at table))) x → at + m ≡ n → n ≤ length old → vec_items (with_items v (put_mid at m table ys)) ≡ filled n x front ++ drop n old
    filled_laid table ys n m x t y w h =
        let size : length (take m (drop at table)) ≡ m = length-take-le m (drop at table) (omega (arith, length-drop at table, ap length t, v.ok.0, long (omega arith))) in
        let rest : m ≡ n - length front = omega arith in
        part_laid table (replicate m x) ys m m t (y ∙ ap (λ i. replicate i x) size) (sym (length-replicate m x)) refl (omega arith)
        ∙ (λ i. (front ++ replicate (rest i) x) ++ drop (w i) old)
