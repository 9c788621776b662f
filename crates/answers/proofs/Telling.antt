-- What reading into 2,048 entries and 32 rows says of the file.
use Rattle.std.proofs.Common.{◌≡◌, ℕ, None, Ok, Err, Option, Result, refl, ap, subst, arith}
use Rattle.plans.specs.declared.tables.ShortTable.{ShortTable}
use Rattle.plans.specs.Plan.{Plan}
use Rattle.plans.specs.Short.{short_table}
use Rattle.files.specs.declared.faults.FileFault.{FileFault}
use Rattle.files.specs.declared.faults.ReadFault.{ReadFault}
use Rattle.files.specs.declared.faults.ReadFault.TheVariants.{Short, File}
use Rattle.files.specs.Reading.{answer, Refuses}

module _ (entries rows : ℕ) (e : entries ≡ 2048) (r : rows ≡ 32) where
  none_short : short_table entries rows ≡ None
  none_short = rw (e, r) refl

  pub read_is : (means : Result Plan FileFault) (p : Plan) → answer (short_table entries rows) means ≡ Ok p → means ≡ Ok p
  read_is means p h = go means (subst (λ (x : Option ShortTable). answer x means ≡ Ok p) none_short h)
    where
      go : (means : Result Plan FileFault) → answer None means ≡ Ok p → means ≡ Ok p
      go (Ok q) h = ap (λ (x : Plan). Ok x) (let k : q ≡ p = cc in k)
      go (Err f) h = let z : ◌≡◌ {A = ℕ} 0 1 = cc in absurd (omega arith)

  -- a refusal that is known, where no table is short
  refuses : (means : Result Plan FileFault) (given fault : ReadFault) → given ≡ fault → Refuses (short_table entries rows) means given → Refuses None means fault
  refuses means given fault k h = subst (λ (x : ReadFault). Refuses None means x) k (subst (λ (x : Option ShortTable). Refuses x means given) none_short h)

  pub refused_is : (means : Result Plan FileFault) (given : ReadFault) (f : FileFault) → given ≡ File f → Refuses (short_table entries rows) means given → means ≡ Err f
  refused_is means given f k h = go means (refuses means given (File f) k h)
    where
      go : (means : Result Plan FileFault) → answer None means ≡ Err (File f) → means ≡ Err f
      go (Ok q) h = let z : ◌≡◌ {A = ℕ} 0 1 = cc in absurd (omega arith)
      go (Err g) h = ap (λ (x : FileFault). Err x) (let k : g ≡ f = cc in k)

  pub never_short : (means : Result Plan FileFault) (given : ReadFault) (t : ShortTable) → given ≡ Short t → Refuses (short_table entries rows) means given → ⊥
  never_short means given t k h = go means (refuses means given (Short t) k h)
    where
      go : (means : Result Plan FileFault) → answer None means ≡ Err (Short t) → ⊥
      go (Ok q) h = let z : ◌≡◌ {A = ℕ} 0 1 = cc in omega arith
      go (Err g) h = let z : ◌≡◌ {A = ℕ} 0 1 = cc in omega arith
