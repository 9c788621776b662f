-- The marks with which the records of a file begin.
use Rattle.std.specs.Prelude.{ℕ, cond, List, Some, None, Option, Result, ◌==◌, ok_or}
use Rattle.files.specs.declared.faults.FileFault.{FileFault}
use Rattle.files.specs.declared.faults.FileFault.TheVariants.{WrongMark}
use Rattle.files.specs.declared.marks.Mark.{Mark}
use Rattle.files.specs.declared.marks.Mark.TheVariants.{Rail, Hall, Carrier, End}
use Rattle.files.specs.Parse.{◌>>=◌, number_at}

-- the mark with a number, which has the low byte first: "RF", "HF", "CA" or "EN"
abbrev pub mark_of : ℕ → Option Mark
mark_of n = cond (n == 0x4652) (Some Rail) (cond (n == 0x4648) (Some Hall) (cond (n == 0x4143) (Some Carrier) (cond (n == 0x4e45) (Some End) None)))

-- the mark at an offset
unfoldable pub mark_at : List ℕ → ℕ → Result Mark FileFault
mark_at bytes at = number_at bytes at at >>= λ n. ok_or (mark_of n) (WrongMark at)
