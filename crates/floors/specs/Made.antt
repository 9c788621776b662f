-- What a call answers that makes a floor.
use Rattle.std.specs.Prelude.{◌≡◌, Bool, true, false, Ok, Err, Result}
use Rattle.floors.specs.declared.faults.FloorFault.{FloorFault}
use Rattle.floors.specs.declared.faults.FloorFault.TheVariants.{Unfit, Memory}

-- Where what was passed in fits, the floor is made of it; else it is refused as unfit.
-- Left free: a floor that fits may be refused for want of memory.
abbrev pub Makes : {F : Type 0} → Bool → (F → Type 0) → Result F FloorFault → Type 0
Makes fits Is (Ok f) = (fits ≡ true) × Is f
Makes fits Is (Err Unfit) = fits ≡ false
Makes fits Is (Err Memory) = fits ≡ true
