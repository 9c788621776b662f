-- Why a file is refused: the number and what is returned.
use Rattle.std.specs.Prelude.{ℕ, List, [], ◌∷◌, codes}
use Rattle.refusals.specs.Refusal.{Refusal, spelt}
use Rattle.plans.specs.Short.{short_refusal}
use Rattle.files.specs.declared.faults.FileFault.{FileFault}
use Rattle.files.specs.declared.faults.FileFault.TheVariants.{Ends, WrongMark, OutOfRange, OutOfOrder, Trailing}
use Rattle.files.specs.declared.faults.ReadFault.{ReadFault}
use Rattle.files.specs.declared.faults.ReadFault.TheVariants.{Short, File, Memory}

abbrev pub refusal : FileFault → Refusal
refusal (Ends at) = record { number = 1; values = at ∷ [] }
refusal (WrongMark at) = record { number = 2; values = at ∷ [] }
refusal (OutOfRange at) = record { number = 3; values = at ∷ [] }
refusal (OutOfOrder at) = record { number = 4; values = at ∷ [] }
refusal (Trailing at) = record { number = 5; values = at ∷ [] }

-- what is printed of it; want of memory has no number
abbrev pub spelt_fault : ReadFault → List ℕ
spelt_fault (Short table) = spelt (short_refusal table)
spelt_fault (File fault) = spelt (refusal fault)
spelt_fault Memory = codes "no memory"
