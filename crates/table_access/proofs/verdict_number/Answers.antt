-- `table_access::verdict_number` meets its contract: the line is the declaration's last. Assumes nothing.
use mathlib.Core.Path.{◌≡◌, ap, sym, ◌∙◌}
use Prim.Native.Nat.{ℕ, suc, ◌+◌, ◌-◌}
use native.Mathlib.Omega.{arith}
use Rattle.sheet.specs.Line.{Line, number}
use Rattle.meaning.specs.Rows.{nth_line}
use Rattle.row4_limits.specs.Limits.{start}
use Rattle.table_access.specs.Tables.{lines_in}
use Rattle.table_access.specs.CellsLaws.{read_decls, read_verdict}
use Rattle.table_access.proofs.verdict_number.Goals as goal

pub overflow_add-d : goal.overflow_add-d
overflow_add-d c =
    let a = c in
    omega (arith, a.requires.d_bound.0, c.shared_slice_known-1.given 1, (read_decls (lines_in a.args.t.now) a.args.t.now a.requires.tabled).1)

pub overflow_sub-end : goal.overflow_sub-end
overflow_sub-end c =
    let a = c in
    let e : a.args.d + 1 ≡ suc a.args.d = omega arith in
    omega (arith, c.line_of-end.ensures, (read_verdict (lines_in a.args.t.now) a.args.t.now a.requires.tabled a.args.d a.requires.d_bound.0).0, ap (start (lines_in a.args.t.now)) e)

pub line_number-requires-clause-i_in_bounds : goal.line_number-requires-clause-i_in_bounds
line_number-requires-clause-i_in_bounds c =
    let a = c in
    let e : a.args.d + 1 ≡ suc a.args.d = omega arith in (omega (arith, c.line_of-end.ensures, (read_verdict (lines_in a.args.t.now) a.args.t.now a.requires.tabled a.args.d a.requires.d_bound.0).1, ap (start (lines_in a.args.t.now)) e), omega (arith, a.requires.d_bound.1))

pub returns : goal.returns
returns c =
    let a = c in
    let e : a.args.d + 1 ≡ suc a.args.d = omega arith in
    c.line_number.ensures
    ∙ ap (λ (i : ℕ). number (nth_line (lines_in a.args.t.now) (i - 1)) a.args.k) (c.line_of-end.ensures ∙ ap (start (lines_in a.args.t.now)) e)
    ∙ ap (λ (l : Line). number l a.args.k) (sym (read_verdict (lines_in a.args.t.now) a.args.t.now a.requires.tabled a.args.d a.requires.d_bound.0).2)
