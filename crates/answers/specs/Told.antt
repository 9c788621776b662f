-- What is answered to a file, by what it means, and how that is printed.
use Rattle.std.specs.Prelude.{ℕ, List, ◌++◌, length, Ok, Err, codes, decimal, Result}
use Rattle.refusals.specs.Refusal.{spelt}
use Rattle.floors.specs.Exits.{legs_below}
use Rattle.store_floor.specs.Layout.{Layout, rails, cellular, places, exits_from}
use Rattle.plans.specs.Plan.{Plan, entries_of}
use Rattle.files.specs.declared.faults.FileFault.{FileFault}
use Rattle.files.specs.Faults.{refusal}
use Rattle.answers.specs.declared.answer.Account.{Account}
use Rattle.answers.specs.declared.answer.Answer.{Answer}
use Rattle.answers.specs.declared.answer.FloorKind.{FloorKind}
use Rattle.answers.specs.declared.answer.FloorKind.TheVariants.{Rail, Hall}

abbrev pub kind_of : Layout → FloorKind
kind_of (rails size legs) = Rail
kind_of (cellular hall) = Hall

-- how many legs a floor has
abbrev pub leg_count : Layout → ℕ
leg_count l = legs_below (exits_from l) (places l)

abbrev pub account_of : Plan → Account
account_of p = record {
  kind = kind_of p.floor;
  places = places p.floor;
  legs = leg_count p.floor;
  carriers = length p.carriers;
  entries = length (entries_of p.carriers);
}

abbrev pub told : Result Plan FileFault → Answer
told (Ok p) = record { 0 = Ok (account_of p) }
told (Err fault) = record { 0 = Err fault }

abbrev pub spelt_kind : FloorKind → List ℕ
spelt_kind Rail = codes "rail"
spelt_kind Hall = codes "hall"

abbrev pub spelt_account : Account → List ℕ
spelt_account a =
    spelt_kind a.kind ++ (codes " places " ++ (decimal a.places ++ (codes " legs " ++ (decimal a.legs
    ++ (codes " carriers " ++ (decimal a.carriers ++ (codes " entries " ++ decimal a.entries)))))))

abbrev pub spelt_told : Result Account FileFault → List ℕ
spelt_told (Ok account) = codes "plan read " ++ spelt_account account
spelt_told (Err fault) = codes "file refused " ++ spelt (refusal fault)

abbrev pub spelt_answer : Answer → List ℕ
spelt_answer a = spelt_told a.0
