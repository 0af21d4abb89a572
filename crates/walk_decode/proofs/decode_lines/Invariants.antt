-- No line passed is bad, and their cells are filled.
use Rattle.std.proofs.Common.{◌≡◌, ◌++◌, ◌*◌, length, drop}
use Rattle.sheet.specs.Line.{is_bad}
use Rattle.sheet.specs.Sheet.{first, line, lines_from}
use Rattle.walk_cells.specs.Cells.{cells}
use Rattle.walk_decode.proofs.decode_lines.Given as goal

abbrev pub invariant-loop-i : goal.invariant-loop-i
invariant-loop-i l =
    (first (λ j. is_bad (line l.w l.s j)) l.i ≡ l.i) × (length l.t ≡ length l.fn.t) × (l.t ≡ cells (lines_from l.w l.s 0 l.i) ++ drop (l.i * 6) l.fn.t)
