-- What an enter and a leave make of the cells, and of the holders that these give.
use Rattle.std.proofs.Common.{◌≡◌, ℕ, ◌<◌, List, length, set, position, nat_eq, Some, None, Option, sym, refl, ap, ◌∙◌}
use Rattle.std.specs.Option.{option_eq}
use Rattle.std.proofs.lemmas.Option.{none-some}
use Rattle.std.proofs.lemmas.Bool.{false≢true}
use Rattle.boards.specs.Holders.{Holds, Free, held}
use Rattle.boards.proofs.Holding.{none_below, some_below}
use Rattle.carrier_board.specs.Cells.{cells_of, has_place, carrier_of, spread, Pairs, Within, Apart}
use Rattle.carrier_board.specs.Finding.{nowhere, carries}
use Rattle.carrier_board.specs.Spreading.{holder_spread}
use Rattle.carrier_board.proofs.Parting.{has_at, is_carrier, written, pairs_written, within_written, apart_written, new_carrier, no_carrier, spread_written}
use Rattle.carrier_board.proofs.Looking.{found, room}

-- cells that are sound and give these holders
pub record Sound (n : ℕ) (cells : List (List (Option ℕ))) (holders : List (Option ℕ)) : Type 0 where
  pub pairs : Pairs cells
  pub within : Within n cells
  pub apart : Apart cells
  pub gives : spread n cells ≡ holders

same_place : (p q : ℕ) → ◌≡◌ {A = Option ℕ} (Some p) (Some q) → q ≡ p
same_place p q e = cc

module _ (n : ℕ) (cells : List (List (Option ℕ))) (c j p : ℕ) (pairs : Pairs cells) (within : Within n cells) (apart : Apart cells) (inside : c < length cells) (place : p < n) where
  -- a place that nobody holds is written into the carrier's free cell
  pub entered_sound : Free (spread n cells) p → position (λ cell. option_eq nat_eq cell None) (cells_of cells c) ≡ Some j → Sound n (written cells c j (Some p)) (set (spread n cells) p (Some c))
  entered_sound free looked =
      let f = found (cells_of cells c) None j looked in
      let absent : carrier_of cells p ≡ None = sym (holder_spread n cells p place) ∙ free in
      let a = apart_written cells c j (Some p) inside f.0 apart (λ d i q s t. absurd (false≢true (sym (nowhere cells p absent d) ∙ ap (has_place (cells_of cells d)) (sym (same_place p q s)) ∙ has_at (cells_of cells d) i q t))) in
      record {
        pairs = pairs_written cells c j (Some p) inside f.0 pairs;
        within = within_written cells c j (Some p) inside f.0 n within (some_below n p place);
        apart = a;
        gives = spread_written n cells c j (Some p) p (Some c) inside f.0 (λ q ne t. none-some q (sym f.1 ∙ t)) (λ q ne t. ne (same_place p q t)) (new_carrier cells c j (Some p) inside f.0 p refl a);
      }

  -- a carrier with a free cell holds fewer than two places
  pub has_room : position (λ cell. option_eq nat_eq cell None) (cells_of cells c) ≡ Some j → held (spread n cells) c < 2
  has_room looked =
      let f = found (cells_of cells c) None j looked in room n cells c pairs within apart inside j f.1 f.0

  -- a place is taken out of the carrier's cell
  pub left_sound : position (λ cell. option_eq nat_eq cell (Some p)) (cells_of cells c) ≡ Some j → Sound n (written cells c j None) (set (spread n cells) p None)
  left_sound looked =
      let f = found (cells_of cells c) (Some p) j looked in record {
        pairs = pairs_written cells c j None inside f.0 pairs;
        within = within_written cells c j None inside f.0 n within (none_below n);
        apart = apart_written cells c j None inside f.0 apart (λ d i q s t. none-some q s);
        gives = spread_written n cells c j None p None inside f.0 (λ q ne t. ne (same_place p q (sym f.1 ∙ t))) (λ q ne t. none-some q t) (no_carrier cells c j None inside f.0 p refl f.1 apart);
      }

  -- a carrier in whose cell a place is holds it
  pub holds : position (λ cell. option_eq nat_eq cell (Some p)) (cells_of cells c) ≡ Some j → Holds (spread n cells) c p
  holds looked =
      let f = found (cells_of cells c) (Some p) j looked in
      holder_spread n cells p place ∙ is_carrier (carrier_of cells p) c (carries cells apart c p ∙ has_at (cells_of cells c) j p f.1)
