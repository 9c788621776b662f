-- The refusals of boards.
use Rattle.std.specs.Prelude.{[], ◌∷◌, Some, None}
use Rattle.refusals.specs.Refusal.{Refusal}
use Rattle.boards.specs.declared.faults.BoardFault.{BoardFault}
use Rattle.boards.specs.declared.faults.BoardFault.TheVariants.{BeyondBoard, BeyondCarriers, Held, HoldsTwo, NotHolder}

-- each refusal's number and values; where a place has no holder, only the place is returned
abbrev pub refusal : BoardFault → Refusal
refusal (BeyondBoard place) = record { number = 30; values = place ∷ [] }
refusal (BeyondCarriers carrier) = record { number = 31; values = carrier ∷ [] }
refusal (Held place holder) = record { number = 32; values = place ∷ holder ∷ [] }
refusal (HoldsTwo carrier) = record { number = 33; values = carrier ∷ [] }
refusal (NotHolder place None) = record { number = 34; values = place ∷ [] }
refusal (NotHolder place (Some holder)) = record { number = 34; values = place ∷ holder ∷ [] }
