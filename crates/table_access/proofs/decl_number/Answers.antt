-- `table_access::decl_number` meets its contract: the line is the declaration's first. Assumes nothing.
use mathlib.Core.Path.{ap, ◌∙◌}
use Prim.Native.Nat.{ℕ}
use native.Mathlib.Omega.{arith}
use Rattle.sheet.specs.Line.{number}
use Rattle.meaning.specs.Rows.{nth_line}
use Rattle.table_access.specs.Tables.{lines_in}
use Rattle.table_access.specs.CellsLaws.{head_inside, read_head}
use Rattle.table_access.proofs.decl_number.Goals as goal

pub line_number-requires-clause-i_in_bounds : goal.line_number-requires-clause-i_in_bounds
line_number-requires-clause-i_in_bounds c =
    let a = c in (omega (arith, c.line_of-i.ensures, head_inside (lines_in a.args.t.now) a.args.t.now a.requires.tabled a.args.d a.requires.d_bound.0), a.requires.d_bound.1)

pub returns : goal.returns
returns c =
    let a = c in
    c.line_number.ensures
    ∙ ap (λ (i : ℕ). number (nth_line (lines_in a.args.t.now) i) a.args.k) c.line_of-i.ensures
    ∙ read_head (lines_in a.args.t.now) a.args.t.now a.requires.tabled a.args.d a.args.k a.requires.d_bound.0
