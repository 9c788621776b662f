-- A table that is too short for a plan.
use Rattle.std.specs.Prelude.{◌≡◌, ℕ, cond, [], ◌∷◌, Some, None, Ok, Err, vec_len, Option, Result, Vec, nat_lt}
use Rattle.std.specs.declared.alloc.Global.{Global}
use Rattle.refusals.specs.Refusal.{Refusal}
use Rattle.plans.specs.declared.rows.CarrierRow.{CarrierRow}
use Rattle.plans.specs.declared.tables.ShortTable.{ShortTable}
use Rattle.plans.specs.declared.tables.ShortTable.TheVariants.{Entries, Rows}
use Rattle.plans.specs.declared.tables.Tables.{Tables}
use Rattle.plans.specs.declared.tables.TablesRefused.{TablesRefused}

-- the lowest such table, and the length due
abbrev pub short_refusal : ShortTable → Refusal
short_refusal Entries = record { number = 18; values = 1 ∷ 2048 ∷ [] }
short_refusal Rows = record { number = 18; values = 2 ∷ 32 ∷ [] }

-- the lowest table that is too short, of so many entries and so many rows
abbrev pub short_table : ℕ → ℕ → Option ShortTable
short_table entries rows = cond (nat_lt entries 2048) (Some Entries) (cond (nat_lt rows 32) (Some Rows) None)

-- what becomes of two tables: they are taken as they are, or handed back as they were
abbrev pub Takes : Vec ℕ Global → Vec CarrierRow Global → Result Tables TablesRefused → Type 0
Takes entries rows (Ok t) = (short_table (vec_len entries) (vec_len rows) ≡ None) × (t.entries ≡ entries) × (t.rows ≡ rows)
Takes entries rows (Err e) = (short_table (vec_len entries) (vec_len rows) ≡ Some e.short) × (e.entries ≡ entries) × (e.rows ≡ rows)
