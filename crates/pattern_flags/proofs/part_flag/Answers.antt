-- `pattern_flags::part_flag` meets its contract, by the kind of the line that owns the part.
use Rattle.std.proofs.Common.{sym, ◌∙◌, arith}
use borrow.Author.Tests.{ne_eqb}
use Rattle.walk_cells.specs.Cells.{lines_of}
use Rattle.walk_cells.specs.CellsLaws.{length_lines_of}
use Rattle.meaning.specs.Rows.{nth_line}
use Rattle.meaning.specs.Program.{program}
use Rattle.meaning_laws.specs.Program.{length_program}
use Rattle.meaning_patterns.specs.Patterns.{kind_of}
use Rattle.model_laws.specs.Names.{position_le}
use Rattle.table_access.specs.Tables.{lines_in}
use Rattle.pattern_flags.specs.Flags.{part_flag}
use Rattle.pattern_marks.specs.TablesLaws.{record_named, ctor_entry, ctor_fits, given_linked}
use Rattle.pattern_flags.proofs.part_flag.Goals as goal

pub number-requires : goal.number-requires
number-requires c = (omega (arith, length_lines_of c.args.q.now, c.requires.given.1), omega arith)

pub number-requires-in-3 : goal.number-requires-in-3
number-requires-in-3 c = (omega (arith, length_lines_of c.args.q.now, c.requires.given.1), omega arith)

pub ctor_flag-requires : goal.ctor_flag-requires
ctor_flag-requires c =
    let e = sym c.number.ensures ∙ c.in-3.is in
    let a = c.args in
    let g = c.requires.given in
    rw c.number-in-3.ensures
    (ctor_entry a.t.now a.m.now (lines_of a.q.now) g.0 a.o g.1 e, omega (arith, ctor_fits a.t.now a.m.now (lines_of a.q.now) g.0 a.o g.1 e, c.requires.t_in_bounds))

pub returns-in-3 : goal.returns-in-3
unfolding part_flag
returns-in-3 c =
    let e = sym c.number.ensures ∙ c.in-3.is in
    rw (c.ctor_flag.ensures, e, c.number-in-3.ensures)

pub number-requires-in-4 : goal.number-requires-in-4
number-requires-in-4 c = (omega (arith, length_lines_of c.args.q.now, c.requires.given.1), omega arith)

pub decl_of-d-requires-clause-n_bound : goal.decl_of-d-requires-clause-n_bound
decl_of-d-requires-clause-n_bound c =
    let e = sym c.number.ensures ∙ c.in-4.is in
    let g = c.requires.given in
    rw c.number-in-4.ensures (record_named c.args.t.now c.args.m.now (lines_of c.args.q.now) g.0 c.args.o g.1 e)

pub record_flag-requires : goal.record_flag-requires
record_flag-requires c =
    let ls = lines_in c.args.t.now in
    let g = c.requires.given in
    record {
      tabled = (g.0.tabled, omega (arith, c.decl_of-d.ensures, position_le (program ls) c.number-in-4.result, length_program ls), c.requires.t_in_bounds);
      linked = (given_linked c.args.t.now c.args.m.now (lines_of c.args.q.now) g.0, g.2);
    }

pub returns-in-4 : goal.returns-in-4
unfolding part_flag
returns-in-4 c =
    let e = sym c.number.ensures ∙ c.in-4.is in
    rw (c.record_flag.ensures, e, c.decl_of-d.ensures, c.number-in-4.ensures)

pub returns-in_default : goal.returns-in_default
unfolding part_flag
returns-in_default c =
    let k = kind_of (nth_line (lines_of c.args.q.now) c.args.o) in
    rw (ne_eqb k 3 (λ z. omega (arith, c.number.ensures)), ne_eqb k 4 (λ z. omega (arith, c.number.ensures)))
