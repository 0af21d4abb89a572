-- What is due is what the lines passed leave due.
use Rattle.std.proofs.Common.{◌≡◌, take}
use Rattle.sheet.specs.Sheet.{first}
use Rattle.walk_cells.specs.Cells.{lines_of}
use Rattle.meaning.specs.declared.Due.TheVariants.{Header}
use Rattle.meaning.specs.Rows.{due_after, row3}
use Rattle.row3_order.proofs.row3.Given as goal

abbrev pub invariant-loop-i : goal.invariant-loop-i
invariant-loop-i l = record { due : l.q ≡ due_after (Header 0) (take l.i (lines_of l.fn.t)); none : first (row3 (lines_of l.fn.t)) l.i ≡ l.i }
