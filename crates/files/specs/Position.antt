-- Where a file is read.
use Rattle.std.specs.Prelude.{ℕ, ◌+◌, List}

-- the bytes of the file, the offset of the mark of the record that is being read, and the offset of what is read next
pub record Position : Type 0 where
  pub bytes : List ℕ
  pub record_at : ℕ
  pub at : ℕ

-- so many bytes further on, in the same record
abbrev pub further : Position → ℕ → Position
further p n = record p { at = p.at + n }

-- behind the mark that stands there, in the record that it begins
abbrev pub behind_mark : Position → Position
behind_mark p = record p { record_at = p.at; at = p.at + 2 }

-- behind the mark with which a file begins
abbrev pub first_record : List ℕ → Position
first_record bytes = record { bytes = bytes; record_at = 0; at = 2 }
