-- The flags of Q lines by the tables of the passes: u says what becomes of a type's name, m where a constructor is declared, and
-- the keep table which fields are kept. Assumes nothing.
use Rattle.std.specs.Prelude.{◌≡◌, List, not, ℕ, zero, suc, ◌+◌, ◌-◌, ◌*◌, ◌≤◌, ◌<◌, eqb, ltb, length, get_or}
use Rattle.number_columns.specs.Column.{◌⇒◌∥◌}
use Rattle.sheet.specs.Line.{Line}
use Rattle.model.specs.Decl.{position}
use Rattle.meaning.specs.Program.{program}
use Rattle.meaning.specs.Rows.{nth_line}
use Rattle.meaning_patterns.specs.Patterns.{kind_of, name_of, previous_of, field_of}
use Rattle.keep_layouts.specs.States.{state}
use Rattle.pattern_laws.specs.Marks.{kept_if}
use Rattle.pattern_records.specs.Records.{record_flag}

-- an owner, a line's number plus one or 0, and a place for each line
pub record Owners (qs : List Line) (own place : List ℕ) : Type 0 where
  pub owned : length qs ≤ length own
  pub placed : length qs ≤ length place
  pub low : (j : ℕ) → get_or own j 0 ≤ length qs

unfoldable pub slot_flag : List ℕ → ℕ → ℕ → ℕ → ℕ → ℕ
slot_flag keep s f k place =
    eqb s 0 ⇒ 0 ∥
    ltb place k ⇒ kept_if (eqb (get_or keep (f + place) 0) 1) ∥
    kept_if (not (eqb s 1))

unfoldable pub ctor_flag : List ℕ → List ℕ → List ℕ → ℕ → ℕ → ℕ
ctor_flag keep u m n place =
    eqb (get_or m (3 * n) 0) 0 ⇒ 1 ∥
    slot_flag keep (state u (get_or m (3 * n) 0 - 1)) (get_or m (3 * n + 1) 0) (get_or m (3 * n + 2) 0) place

module _ (ls : List Line) (keep u m : List ℕ) (qs : List Line) where
  unfoldable pub part_flag : ℕ → ℕ → ℕ → ℕ → ℕ
  part_flag o place link f =
      eqb (kind_of (nth_line qs o)) 3 ⇒ ctor_flag keep u m (name_of (nth_line qs o)) place ∥
      eqb (kind_of (nth_line qs o)) 4 ⇒ record_flag ls keep u qs (position (program ls) (name_of (nth_line qs o))) link f ∥
      1

  unfoldable pub flag_at : ℕ → ℕ → ℕ → ℕ
  flag_at zero place i = 0
  flag_at (suc o) place i = part_flag o place (previous_of (nth_line qs i)) (field_of (nth_line qs i))

  -- those of the first n lines
  pub record FlagsTo (own place gs : List ℕ) (n : ℕ) : Type 0 where
    pub flag : (i : ℕ) → i < n → get_or gs i 0 ≡ flag_at (get_or own i 0) (get_or place i 0) i
