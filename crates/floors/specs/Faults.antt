-- What is printed where a floor is not made.
use Rattle.std.specs.Prelude.{ℕ, List, codes}
use Rattle.floors.specs.declared.faults.FloorFault.{FloorFault}
use Rattle.floors.specs.declared.faults.FloorFault.TheVariants.{Unfit, Memory}

abbrev pub spelt_fault : FloorFault → List ℕ
spelt_fault Unfit = codes "no such floor"
spelt_fault Memory = codes "no memory"
