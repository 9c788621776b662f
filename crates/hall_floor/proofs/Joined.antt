-- The legs of a hall join the open cells that share a side, and are as long as the pitches.
use Rattle.std.proofs.Common.{◌≡◌, ℕ, ◌≤◌, true, ◌⊎◌, Some, None, Option, sym, refl, ap, ◌∙◌, inl, inr, arith}
use Rattle.std.proofs.lemmas.Bool.{and_parts, and_from, ltb-true, lt-ltb, not-true, not_from_false}
use Rattle.hall_floor.specs.declared.sides.Side.{Side}
use Rattle.hall_floor.specs.declared.sides.Side.TheVariants.{North, West, East, South}
use Rattle.hall_floor.specs.Halls.{Hall, is_open, pitch, hall_length}
use Rattle.hall_floor.specs.Laws.{SideBySide, OneBelowOther, Open, LegsJoinNeighbours, LengthsArePitches}
use Rattle.hall_floor.specs.Fitting.{width_some}
use Rattle.hall_floor.specs.Grid.{right_row, right_column, below_row, below_column, right_from, below_from}
use Rattle.hall_floor.specs.Legs.{Lies, lengths_led, lengths_pitch}
use Rattle.hall_floor.proofs.Leading.{over_leads, leads_over, over_has, has_leads}

open_parts : (h : Hall) (c : ℕ) → is_open h c ≡ true → Open h c
unfolding is_open
open_parts h c e = let p = and_parts _ _ e in (ltb-true _ _ p.0, not-true _ p.1)

open_from : (h : Hall) (c : ℕ) → Open h c → is_open h c ≡ true
unfolding is_open
open_from h c o = and_from _ _ (lt-ltb _ _ o.0) (not_from_false _ o.1)

-- the cell beyond a side shares that side
lies_shares : (h : Hall) → 1 ≤ h.width → (c d : ℕ) (side : Side) → Lies h c d side → SideBySide h c d ⊎ OneBelowOther h c d
lies_shares h some c d North l = inr (sym (below_column h.width d c some l), inr (below_row h.width d c some l))
lies_shares h some c d West l = inl (sym (right_row h.width d c l), inr (right_column h.width d c l))
lies_shares h some c d East l = inl (right_row h.width c d l, inl (right_column h.width c d l))
lies_shares h some c d South l = inr (below_column h.width c d some l, inl (below_row h.width c d some l))

-- of two cells that share a side, one lies beyond a side of the other
shares_lies : (h : Hall) → 1 ≤ h.width → (c d : ℕ) → SideBySide h c d ⊎ OneBelowOther h c d → (side : Side) × Lies h c d side
shares_lies h some c d (inl (row, inl next)) = (East, right_from h.width c d some row next)
shares_lies h some c d (inl (row, inr next)) = (West, right_from h.width d c some (sym row) next)
shares_lies h some c d (inr (column, inl next)) = (South, below_from h.width c d column next)
shares_lies h some c d (inr (column, inr next)) = (North, below_from h.width d c (sym column) next)

pub legs_join : LegsJoinNeighbours
legs_join h fit c d =
    let some = width_some h fit in (
      (λ e. let p = has_leads h some c d e in
          (open_parts h c p.1.from, open_parts h d p.1.to, lies_shares h some c d p.0 p.1.lies)),
      (λ (from, to, shares). let p = shares_lies h some c d shares in
          over_has h c d p.0 (leads_over h c d p.0 to.0 (record { from = open_from h c from; to = open_from h d to; lies = p.1 }))),
    )

-- within a row the pitch is the one across, and within a column the one down
row_pitch : (h : Hall) → 1 ≤ h.width → (c d : ℕ) (side : Side) → Lies h c d side → SideBySide h c d → pitch h side ≡ h.across
row_pitch h some c d North l s = absurd (omega (arith, below_row h.width d c some l))
row_pitch h some c d West l s = refl
row_pitch h some c d East l s = refl
row_pitch h some c d South l s = absurd (omega (arith, below_row h.width c d some l))

column_pitch : (h : Hall) → 1 ≤ h.width → (c d : ℕ) (side : Side) → Lies h c d side → OneBelowOther h c d → pitch h side ≡ h.down
column_pitch h some c d North l s = refl
column_pitch h some c d West l s = absurd (omega (arith, right_column h.width d c l))
column_pitch h some c d East l s = absurd (omega (arith, right_column h.width c d l))
column_pitch h some c d South l s = refl

pub lengths_fit : LengthsArePitches
lengths_fit h fit c d e = go (hall_length h c d) refl
  where
    go : (o : Option ℕ) → hall_length h c d ≡ o → (SideBySide h c d → o ≡ Some h.across) × (OneBelowOther h c d → o ≡ Some h.down)
    go None k = absurd (let l = lengths_led h c d in cc)
    go (Some n) k =
        let some = width_some h fit in
        let p = lengths_pitch h c d n k in
        let lies = (over_leads h some c d p.0 p.1).lies in (
          (λ row. ap (λ (n : ℕ). Some n) (sym p.2 ∙ row_pitch h some c d p.0 lies row)),
          (λ column. ap (λ (n : ℕ). Some n) (sym p.2 ∙ column_pitch h some c d p.0 lies column)),
        )
