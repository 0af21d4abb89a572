-- The lines of the declaration that were passed are written, with the lines before them counted.
use Rattle.std.proofs.Common.{◌≡◌, suc, false}
use Rattle.sheet.specs.Sheet.{lines}
use Rattle.meaning.specs.Program.{import_line, is}
use Rattle.row4_limits.specs.Limits.{start}
use Rattle.table_access.specs.Tables.{head_line}
use Rattle.verdict_sheet.specs.Upto.{upto, counts_before}
use Rattle.verdict_sheet.proofs.put_decl.Given as goal

abbrev pub invariant-loop-i : goal.invariant-loop-i
invariant-loop-i l =
    (l.start ≡ start (lines 6 l.s) l.d)
    × (l.end ≡ start (lines 6 l.s) (suc l.d))
    × (is import_line (head_line (lines 6 l.s) l.d) ≡ false)
    × (l.c ≡ counts_before (lines 6 l.s) l.i)
    × (l.out ≡ upto l.s l.i l.initial.out)
