-- The record number of a declaration, by its flags and lines. Assumes nothing.
use Rattle.std.specs.Prelude.{List, Bool, true, false, not, ℕ, zero, suc, ◌+◌, ◌-◌, ◌/◌, ◌%◌, eqb, get_or}
use Rattle.number_columns.specs.Column.{pick, ◌⇒◌∥◌}
use Rattle.sheet.specs.Line.{Line, number}
use Rattle.meaning.specs.Program.{field_line}
use Rattle.table_access.specs.Tables.{head_line, first_of}
use Rattle.keep_layouts.specs.Kept.{body_kind, body_last}
use Rattle.keep_layouts.specs.States.{state}

-- one of the n F lines from line f on is kept
unfoldable pub some_kept : List ℕ → ℕ → ℕ → Bool
some_kept keep f zero = false
some_kept keep f (suc n) = let r : Bool = some_kept keep (suc f) n in pick (eqb (get_or keep f 0) 1) true r

-- of a realized type what its source says; else a variant of one constructor that keeps a field
unfoldable pub record_by : List Line → List ℕ → List ℕ → List ℕ → ℕ → Bool
record_by ls u keep left d =
    eqb (get_or left d 0) 0 ⇒ false ∥
    eqb (number (head_line ls d) 1 / 2 % 2) 1 ⇒ eqb (number (head_line ls d) 1 / 16 % 2) 1 ∥
    eqb (state u d) 1 ⇒ false ∥
    not (eqb (body_kind ls d) 3) ⇒ false ∥
    not (eqb (body_last ls d) 1) ⇒ false ∥
    some_kept keep (first_of field_line ls d) (first_of field_line ls (d + 1) - first_of field_line ls d)
