-- `input_rows::resolved` meets its contract, row by row. Assumes nothing.
use Rattle.std.proofs.Common.{◌≡◌, List, [], ◌∷◌, sym, ◌∙◌, refl}
use Rattle.sheet.specs.Format.{base}
use Rattle.sheet.specs.Line.{Line}
use Rattle.walk_cells.specs.Cells.{lines_of}
use Rattle.table_access.specs.Tables.{lines_in}
use Rattle.answer.specs.declared.Refusal.{Refusal}
use Rattle.answer.specs.declared.Refusal.TheVariants.{Accepted, Refused}
use Rattle.answer.specs.Answer.{refusal}
use Rattle.rows_heads.specs.HeadRows.{faults_row}
use Rattle.input_rows.specs.Judging.{miscounts_row}
use Rattle.input_rows.specs.JudgingLaws.{after_faults, at_faults}
use Rattle.input_rows.proofs.resolved.Goals as goal

stays : (ls qs : List Line) (r : Refusal) → (r ≡ Accepted → ⊥) → r ≡ refusal (faults_row base ls ∷ []) → r ≡ refusal (faults_row base ls ∷ miscounts_row ls qs ∷ [])
stays ls qs Accepted n e = absurd (n refl)
stays ls qs (Refused code place) n e = sym (at_faults ls qs code place (sym e))

pub returns-in-Accepted : goal.returns-in-Accepted
returns-in-Accepted c = c.row13.ensures ∙ sym (after_faults (lines_in c.args.t.now) (lines_of c.args.q.now) (sym c.in-Accepted.ensures))

pub returns-in_default : goal.returns-in_default
returns-in_default c = stays (lines_in c.args.t.now) (lines_of c.args.q.now) _ c.in_default.not-Accepted c.rows9_10.ensures
