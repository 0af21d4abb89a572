-- The two sheets of a sheet with a pattern, from those of what stands before its Q lines. Assumes nothing.
use Rattle.std.specs.Prelude.{◌≡◌, List, ◌++◌, ℕ, ◌+◌, length}
use Rattle.std.proofs.Common.{ap, ◌∙◌, length-append}
use Rattle.sheet.specs.Format.{Format}
use Rattle.sheet.specs.Line.{Line, is_bad}
use Rattle.sheet.specs.Sheet.{count, line, lines, encodes}
use Rattle.sheet.proofs.SheetLaws.{encodes_append, encodes_lines}
use Rattle.model.specs.Run.{run, left_program}
use Rattle.meaning.specs.Program.{program}
use Rattle.meaning.specs.Output.{verdict_lines, left_lines}
use Rattle.answer.specs.Answer.{Clear}
use Rattle.answer.specs.Answer as old
use Rattle.answer.specs.Cut.{Whole}
use Rattle.answer_patterns.specs.Whole.{following, verdict_sheet, left_sheet}

pub verdict_sheet_lines : (f : Format) (ls qs : List Line) → verdict_sheet f ls qs ≡ old.verdict_sheet f ls ++ encodes f.columns qs
unfolding verdict_sheet old.verdict_sheet
verdict_sheet_lines f ls qs = encodes_append f.columns (verdict_lines ls (run f.fuel (program ls)).infos) qs

-- Q lines stay
pub verdict_sheet_tail : (f : Format) (ls : List Line) (z : List ℕ) → Whole f.columns z → Clear (count f.columns z) (λ i. is_bad (line f.columns z i))
    → verdict_sheet f ls (lines f.columns z) ≡ old.verdict_sheet f ls ++ z
verdict_sheet_tail f ls z h g = verdict_sheet_lines f ls (lines f.columns z) ∙ ap (λ (x : List ℕ). old.verdict_sheet f ls ++ x) (encodes_lines f.columns z h g)

pub left_sheet_tail : (f : Format) (ls qs : List Line) → left_sheet f ls qs ≡ old.left_sheet f ls ++ encodes f.columns (following f ls qs)
unfolding left_sheet old.left_sheet
left_sheet_tail f ls qs = encodes_append f.columns (left_lines ls (left_program (run f.fuel (program ls)))) (following f ls qs)

pub left_length_tail : (f : Format) (ls qs : List Line) → length (left_sheet f ls qs) ≡ length (old.left_sheet f ls) + length (encodes f.columns (following f ls qs))
left_length_tail f ls qs = ap length (left_sheet_tail f ls qs) ∙ length-append (old.left_sheet f ls) (encodes f.columns (following f ls qs))
