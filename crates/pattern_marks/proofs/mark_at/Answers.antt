-- `pattern_marks::mark_at` meets its contract, by the kind.
use Rattle.std.proofs.Common.{sym, ◌∙◌, arith}
use borrow.Author.Tests.{ne_eqb}
use Rattle.walk_cells.specs.Cells.{lines_of}
use Rattle.walk_cells.specs.CellsLaws.{length_lines_of}
use Rattle.meaning.specs.Rows.{nth_line}
use Rattle.meaning_patterns.specs.Patterns.{kind_of}
use Rattle.table_declared.specs.PassedLaws.{position_few}
use Rattle.table_access.specs.Tables.{lines_in}
use Rattle.pattern_marks.specs.Tables.{mark_at}
use Rattle.pattern_marks.specs.TablesLaws.{record_named, ctor_entry}
use Rattle.pattern_marks.proofs.mark_at.Goals as goal

pub number-requires : goal.number-requires
number-requires c = (omega (arith, length_lines_of c.args.q.now, c.requires.1), omega arith)

pub number-requires-in-3 : goal.number-requires-in-3
number-requires-in-3 c = (omega (arith, length_lines_of c.args.q.now, c.requires.1), omega arith)

pub ctor_mark-requires : goal.ctor_mark-requires
ctor_mark-requires c =
    let e = sym c.number.ensures ∙ c.in-3.is in
    rw c.number-in-3.ensures (ctor_entry c.args.t.now c.args.m.now (lines_of c.args.q.now) c.requires.0 c.args.i c.requires.1 e)

pub returns-in-3 : goal.returns-in-3
unfolding mark_at
returns-in-3 c =
    let e = sym c.number.ensures ∙ c.in-3.is in
    rw (c.ctor_mark.ensures, e, c.number-in-3.ensures)

pub number-requires-in-4 : goal.number-requires-in-4
number-requires-in-4 c = (omega (arith, length_lines_of c.args.q.now, c.requires.1), omega arith)

pub decl_of-d-requires-clause-n_bound : goal.decl_of-d-requires-clause-n_bound
decl_of-d-requires-clause-n_bound c =
    let e = sym c.number.ensures ∙ c.in-4.is in
    rw c.number-in-4.ensures (record_named c.args.t.now c.args.m.now (lines_of c.args.q.now) c.requires.0 c.args.i c.requires.1 e)

pub state-requires : goal.state-requires
state-requires c = rw c.decl_of-d.ensures (position_few (lines_in c.args.t.now) c.requires.0.tabled.passed _)

pub returns-in-4 : goal.returns-in-4
unfolding mark_at
returns-in-4 c =
    let e = sym c.number.ensures ∙ c.in-4.is in
    rw (c.state_mark.ensures, e, c.state.ensures, c.decl_of-d.ensures, c.number-in-4.ensures)

pub returns-in_default : goal.returns-in_default
unfolding mark_at
returns-in_default c =
    let k = kind_of (nth_line (lines_of c.args.q.now) c.args.i) in
    rw (ne_eqb k 3 (λ z. omega (arith, c.number.ensures)), ne_eqb k 4 (λ z. omega (arith, c.number.ensures)))
