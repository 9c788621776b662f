-- What a file means: the plan that it holds, or its first refusal.
-- Every number has two bytes, the low byte first, and is tested as soon as it is read.
use Rattle.std.specs.Prelude.{ℕ, zero, suc, ◌+◌, ◌-◌, ◌*◌, Bool, true, false, cond, ◌&&◌, List, [], ◌∷◌, length, take, drop, Some, None, Ok, Err, Option, Result, ◌==◌, nat_le, slice_index}
use Rattle.rail_floor.specs.declared.legs.Leg.{Leg}
use Rattle.rail_floor.specs.Rails.{in_order}
use Rattle.hall_floor.specs.Halls.{bytes_for, spare_free}
use Rattle.store_floor.specs.Layout.{Layout, rails, cellular, places}
use Rattle.plans.specs.Plan.{Route, Plan}
use Rattle.files.specs.declared.faults.FileFault.{FileFault}
use Rattle.files.specs.declared.faults.FileFault.TheVariants.{Ends, WrongMark, OutOfRange, OutOfOrder, Trailing}

-- reads on, unless the file is refused already
infixl 10 ◌>>=◌
abbrev pub ◌>>=◌ : {X Y : Type 0} → Result X FileFault → (X → Result Y FileFault) → Result Y FileFault
◌>>=◌ (Ok x) f = f x
◌>>=◌ (Err e) f = Err e

-- a test that is passed, or else a refusal
abbrev pub guard : Bool → FileFault → Result Unit FileFault
guard passed fault = cond passed (Ok tt) (Err fault)

-- Below, `mark` is the offset of the mark of the record that is being read: a file that ends in it is refused there.

-- the number at an offset
unfoldable pub number_at : List ℕ → ℕ → ℕ → Result ℕ FileFault
number_at bytes mark at =
    cond (nat_le (at + 2) (length bytes)) (Ok (slice_index bytes at + slice_index bytes (at + 1) * 256)) (Err (Ends mark))

-- the same, of a number that is to be from `least` to `most`
unfoldable pub ranged_at : List ℕ → ℕ → ℕ → ℕ → ℕ → Result ℕ FileFault
ranged_at bytes mark at least most =
    number_at bytes mark at >>= λ v.
    guard (nat_le least v && nat_le v most) (OutOfRange at) >>= λ _.
    Ok v

-- a leg, on a floor of `size` places and behind the leg `before`: from, to and length
unfoldable pub leg_at : List ℕ → ℕ → ℕ → ℕ → Option Leg → Result Leg FileFault
leg_at bytes mark at size before =
    ranged_at bytes mark at 0 (size - 1) >>= λ from.
    ranged_at bytes mark (at + 2) 0 (size - 1) >>= λ to.
    guard (in_order before from to) (OutOfOrder at) >>= λ _.
    ranged_at bytes mark (at + 4) 1 65535 >>= λ long.
    Ok (record { from = from; to = to; length = long })

-- so many legs
unfoldable pub legs_at : List ℕ → ℕ → ℕ → ℕ → Option Leg → ℕ → Result (List Leg) FileFault
legs_at bytes mark at size before zero = Ok []
legs_at bytes mark at size before (suc n) =
    leg_at bytes mark at size before >>= λ leg.
    legs_at bytes mark (at + 6) size (Some leg) n >>= λ more.
    Ok (leg ∷ more)

-- a rail floor, behind its mark: places, leg count, legs
unfoldable pub rail_at : List ℕ → Result Layout FileFault
rail_at bytes =
    ranged_at bytes 0 2 1 1024 >>= λ size.
    ranged_at bytes 0 4 0 4096 >>= λ count.
    legs_at bytes 0 6 size None count >>= λ legs.
    Ok (rails size legs)

-- one bit for each of so many cells; the bits of the last byte that are no cell's are 0
unfoldable pub cells_at : List ℕ → ℕ → ℕ → Result (List ℕ) FileFault
cells_at bytes at n =
    guard (nat_le (at + bytes_for n) (length bytes)) (Ends 0) >>= λ _.
    guard (spare_free n (drop at bytes)) (OutOfRange (at + bytes_for n - 1)) >>= λ _.
    Ok (take (bytes_for n) (drop at bytes))

-- a hall floor, behind its mark: columns, rows, pitch across and down, cells
unfoldable pub hall_at : List ℕ → Result Layout FileFault
hall_at bytes =
    ranged_at bytes 0 2 1 1024 >>= λ width.
    ranged_at bytes 0 4 1 1024 >>= λ height.
    guard (nat_le (width * height) 1024) (OutOfRange 4) >>= λ _.
    ranged_at bytes 0 6 1 65535 >>= λ across.
    ranged_at bytes 0 8 1 65535 >>= λ down.
    cells_at bytes 10 (width * height) >>= λ blocked.
    Ok (cellular (record { width = width; height = height; across = across; down = down; blocked = blocked }))

-- the floor: "RF" or "HF" first
unfoldable pub floor_at : List ℕ → Result Layout FileFault
floor_at bytes =
    number_at bytes 0 0 >>= λ mark.
    cond (mark == 0x4652) (rail_at bytes) (cond (mark == 0x4648) (hall_at bytes) (Err (WrongMark 0)))

-- how many bytes a floor's record has
abbrev pub record_size : Layout → ℕ
record_size (rails size legs) = 6 + 6 * length legs
record_size (cellular h) = 10 + length h.blocked

-- so many entries, none above `last`
unfoldable pub entries_at : List ℕ → ℕ → ℕ → ℕ → ℕ → Result (List ℕ) FileFault
entries_at bytes mark at last zero = Ok []
entries_at bytes mark at last (suc n) =
    ranged_at bytes mark at 0 last >>= λ entry.
    entries_at bytes mark (at + 2) last n >>= λ more.
    Ok (entry ∷ more)

-- a carrier, where room is left for `room` entries: start, goal, entry count, entries
unfoldable pub carrier_at : List ℕ → ℕ → ℕ → ℕ → Result Route FileFault
carrier_at bytes mark size room =
    ranged_at bytes mark (mark + 2) 0 (size - 1) >>= λ start.
    ranged_at bytes mark (mark + 4) 0 (size - 1) >>= λ goal.
    ranged_at bytes mark (mark + 6) 0 room >>= λ count.
    entries_at bytes mark (mark + 8) (size - 1) count >>= λ path.
    Ok (record { start = start; goal = goal; path = path })

-- whether a carrier follows, "CA", or the end, "EN"
unfoldable pub follows_at : List ℕ → ℕ → Result Bool FileFault
follows_at bytes at =
    number_at bytes at at >>= λ mark.
    cond (mark == 0x4143) (Ok true) (cond (mark == 0x4e45) (Ok false) (Err (WrongMark at)))

-- nothing stands behind the end
abbrev pub end_at : List ℕ → ℕ → Result (List Route) FileFault
end_at bytes at = guard (nat_le (length bytes) (at + 2)) (Trailing (at + 2)) >>= λ _. Ok []

-- the carriers and the end, where room is left for `room` entries and so many carriers
unfoldable pub carriers_at : List ℕ → ℕ → ℕ → ℕ → ℕ → Result (List Route) FileFault
carriers_at bytes at size room zero =
    follows_at bytes at >>= λ follows.
    cond follows (Err (OutOfRange at)) (end_at bytes at)
carriers_at bytes at size room (suc left) =
    follows_at bytes at >>= λ follows.
    cond follows
    (carrier_at bytes at size room >>= λ carrier.
    carriers_at bytes (at + (8 + 2 * length carrier.path)) size (room - length carrier.path) left >>= λ more.
    Ok (carrier ∷ more))
    (end_at bytes at)

-- a whole file
unfoldable pub parse : List ℕ → Result Plan FileFault
parse bytes =
    floor_at bytes >>= λ floor.
    carriers_at bytes (record_size floor) (places floor) 2048 32 >>= λ carriers.
    Ok (record { floor = floor; carriers = carriers })
