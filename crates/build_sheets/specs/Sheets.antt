-- What is asked and promised of the writing of both sheets. Assumes nothing.
use Rattle.std.specs.Prelude.{◌≡◌, List, ℕ, ◌*◌, ◌≤◌, length}
use Rattle.sheet.specs.Format.{base}
use Rattle.sheet.specs.Sheet.{lines}
use Rattle.meaning.specs.Program.{field_line}
use Rattle.meaning.specs.Rows.{count_of}
use Rattle.answer.specs.Answer.{verdict_sheet, left_sheet, after, input_refusal}
use Rattle.answer.specs.declared.Refusal.TheVariants.{Accepted}
use Rattle.table_access.specs.Tables.{decls_of, lines_in}
use Rattle.table_access.specs.OfSheet.{OfSheet}
use Rattle.rows_heads.specs.HeadRows.{Resolvable}
use Rattle.keep_fields.specs.Keeps.{Slotted}
use Rattle.keep_layouts.specs.States.{Settled}
use Rattle.form_normal.specs.Ranks.{Ranked}
use Rattle.left_laws.specs.Lefts.{Ready, left_written, Fit}

-- The normal forms are there, row 11 does not apply, and so much room there is for one type.
pub record Known (b t u f keep v : List ℕ) (scratch stack : ℕ) : Type 0 where
  pub of : OfSheet b t
  pub accepted : input_refusal base b ≡ Accepted
  pub ready : Ready (lines_in t) t u f keep
  pub keeps : count_of field_line (lines_in t) ≤ length keep
  pub verdict_room : length b ≤ length v
  pub small : scratch ≤ 1024
  pub stacked : scratch ≤ stack

-- Every type that is left has room, and so has the left sheet.
pub record Owed (b t u keep l : List ℕ) (scratch args types : ℕ) : Type 0 where
  pub fit : Fit (lines_in t) u keep scratch
  pub args_are : args ≡ length (left_written (lines_in t)).written.args
  pub types_are : types ≡ length (left_written (lines_in t)).written.types
  pub left_room : length (left_sheet base (lines 6 b)) ≤ length l

-- both sheets are written
pub record Written (b v l v' l' : List ℕ) : Type 0 where
  pub verdict : v' ≡ after (verdict_sheet base (lines 6 b)) v
  pub left : l' ≡ after (left_sheet base (lines 6 b)) l

-- No row that looks at no output applies, nor row 11; and so much memory is lent.
pub record Lent (b t u rank keep v : List ℕ) (forms scratch stack : ℕ) : Type 0 where
  pub of : OfSheet b t
  pub accepted : input_refusal base b ≡ Accepted
  pub ranked : Ranked (lines_in t) t u rank
  pub settled : Settled (lines_in t) u
  pub slotted : Slotted (lines_in t) keep
  pub resolvable : Resolvable base (lines_in t)
  pub keeps : count_of field_line (lines_in t) ≤ length keep
  pub verdict_room : length b ≤ length v
  pub cells : 2 * decls_of (lines_in t) ≤ forms
  pub small : scratch ≤ 1024
  pub stacked : scratch ≤ stack
