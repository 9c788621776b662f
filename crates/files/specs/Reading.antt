-- What reading a file into tables answers, and what the tables then hold.
use Rattle.std.specs.Prelude.{◌≡◌, ℕ, List, ◌++◌, drop, Some, None, Ok, Err, vec_items, vec_len, Option, Result, Vec}
use Rattle.std.specs.declared.alloc.Global.{Global}
use Rattle.store_floor.specs.Held.{layout_of}
use Rattle.plans.specs.declared.carriers.Carrier.{Carrier}
use Rattle.plans.specs.declared.plans.ReadPlan.{ReadPlan}
use Rattle.plans.specs.declared.rows.CarrierRow.{CarrierRow}
use Rattle.plans.specs.declared.tables.ShortTable.{ShortTable}
use Rattle.plans.specs.Plan.{Route, Plan}
use Rattle.plans.specs.Held.{routes_of, plan_of}
use Rattle.plans.specs.Short.{short_table}
use Rattle.plans.specs.Tables.{entry_table, row_table}
use Rattle.files.specs.declared.faults.FileFault.{FileFault}
use Rattle.files.specs.declared.faults.ReadFault.{ReadFault}
use Rattle.files.specs.declared.faults.ReadFault.TheVariants.{Short, File, Memory}
use Rattle.files.specs.declared.draft.Draft.{Draft}
use Rattle.files.specs.declared.draft.ReadRefused.{ReadRefused}
use Rattle.files.specs.Parse.{parse}

-- what code answers beside what a file means: the same, but that memory may run out
abbrev pub Agrees : {X Y : Type 0} → (X → Y) → Result X ReadFault → Result Y FileFault → Type 0
Agrees f (Ok x) means = means ≡ Ok (f x)
Agrees f (Err (File fault)) means = means ≡ Err fault
Agrees f (Err (Short table)) means = ⊥
Agrees f (Err Memory) means = Unit {0}

abbrev pub carriers_in : Vec Carrier Global → List Route
carriers_in cs = routes_of (vec_items cs)

-- the plan that was decoded
abbrev pub draft_of : Draft → Plan
draft_of d = record { floor = layout_of d.floor; carriers = carriers_in d.carriers }

-- the answer of reading, but for want of memory: short tables come first
abbrev pub answer : Option ShortTable → Result Plan FileFault → Result Plan ReadFault
answer (Some table) means = Err (Short table)
answer None (Ok p) = Ok p
answer None (Err fault) = Err (File fault)

-- which refusal is due, or, where no table is too short, want of memory
abbrev pub Refuses : Option ShortTable → Result Plan FileFault → ReadFault → Type 0
Refuses short means (Short table) = answer short means ≡ Err (Short table)
Refuses short means (File fault) = answer short means ≡ Err (File fault)
Refuses short means Memory = short ≡ None

-- The plan that was read is what the file means; its tables hold it, and keep their rest.
-- A refusal hands both tables back as they were. Left free: whether memory runs out.
abbrev pub Reads : List ℕ → Vec ℕ Global → Vec CarrierRow Global → Result ReadPlan ReadRefused → Type 0
Reads bytes entries rows (Ok p) =
    (answer (short_table (vec_len entries) (vec_len rows)) (parse bytes) ≡ Ok (plan_of p))
    × (vec_items p.tables.entries ≡ entry_table (plan_of p).carriers ++ drop 2048 (vec_items entries))
    × (vec_items p.tables.rows ≡ row_table (plan_of p).carriers ++ drop 32 (vec_items rows))
Reads bytes entries rows (Err e) =
    (e.entries ≡ entries) × (e.rows ≡ rows) × Refuses (short_table (vec_len entries) (vec_len rows)) (parse bytes) e.fault
