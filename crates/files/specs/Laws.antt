-- What holds of all files.
use Rattle.std.specs.Prelude.{◌≡◌, ℕ, ◌<◌, ◌≤◌, true, ◌↔◌, List, [], ◌∷◌, map, take, Ok, Err, Result, slice_index}
use Rattle.store_floor.specs.Layout.{rails}
use Rattle.plans.specs.Plan.{Plan, fits}
use Rattle.files.specs.declared.faults.FileFault.{FileFault}
use Rattle.files.specs.declared.faults.FileFault.TheVariants.{Ends, Trailing}
use Rattle.files.specs.Parse.{parse}
use Rattle.files.specs.Written.{written}

-- each is a byte
abbrev pub Bytes : List ℕ → Type 0
Bytes bytes = (i : ℕ) → slice_index bytes i < 256

-- Bytes are read as a plan exactly where the plan keeps to its bounds and they are its file.
-- So no sound file is refused, none is read as another plan, and no two files mean one plan.
abbrev pub FilesArePlans : Type 0
FilesArePlans = (bytes : List ℕ) (p : Plan) → Bytes bytes → (parse bytes ≡ Ok p) ↔ ((fits p ≡ true) × (bytes ≡ written p))

-- The longest file of a plan has 28,936 bytes. What stands behind one byte more does not change what a file means,
-- so it can be left unread.
abbrev pub FrontDecides : Type 0
FrontDecides = (bytes : List ℕ) (n : ℕ) → 28937 ≤ n → parse (take n bytes) ≡ parse bytes

-- "RF", one place, no leg, "EN"; the same with a byte behind it; and nothing at all
abbrev pub smallest : List ℕ
smallest = 0x52 ∷ 0x46 ∷ 0x01 ∷ 0x00 ∷ 0x00 ∷ 0x00 ∷ 0x45 ∷ 0x4e ∷ []

abbrev pub one_too_long : List ℕ
one_too_long = 0x52 ∷ 0x46 ∷ 0x01 ∷ 0x00 ∷ 0x00 ∷ 0x00 ∷ 0x45 ∷ 0x4e ∷ 0x00 ∷ []

-- what they mean
abbrev pub meanings : List (Result Plan FileFault)
meanings = Ok (record { floor = rails 1 []; carriers = [] }) ∷ Err (Trailing 8) ∷ Err (Ends 0) ∷ []

abbrev pub SmallFiles : Type 0
SmallFiles = map parse (smallest ∷ one_too_long ∷ [] ∷ []) ≡ meanings
