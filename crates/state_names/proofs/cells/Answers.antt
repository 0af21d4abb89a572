-- `state_names::cells` meets its contract, layout by layout.
use Rattle.std.proofs.Common.{arith}
use Rattle.state_names.specs.CellsLaws.{told_erased, told_newtype, told_struct, told_abbreviation, told_opaque, payload_fits, last_fits}
use Rattle.table_access.specs.Tables.{lines_in}
use Rattle.state_names.proofs.cells.Goals as goal

pub payload-requires-clause-f_bound : goal.payload-requires-clause-f_bound
payload-requires-clause-f_bound c = c.requires.known.field _ _ c.in-Newtype.is

pub overflow_cast-result : goal.overflow_cast-result
overflow_cast-result c = omega (arith, payload_fits (lines_in c.args.t.now) c.requires.tabled.passed _ _ c.payload.ensures)

pub overflow_cast-result-in-Abbreviation : goal.overflow_cast-result-in-Abbreviation
overflow_cast-result-in-Abbreviation c =
    omega (arith, c.decl_number.ensures, last_fits (lines_in c.args.t.now) c.requires.tabled.passed c.args.d c.requires.d_bound c.args.l c.requires.known c.in-Abbreviation.is)

pub returns-in-Erased : goal.returns-in-Erased
returns-in-Erased c = told_erased (lines_in c.args.t.now) c.args.d c.args.l 0 c.in-Erased.is

pub returns-in-Newtype : goal.returns-in-Newtype
returns-in-Newtype c = told_newtype (lines_in c.args.t.now) c.args.d c.args.l _ _ _ c.in-Newtype.is c.payload.ensures

pub returns-in-Struct : goal.returns-in-Struct
returns-in-Struct c = told_struct (lines_in c.args.t.now) c.args.d c.args.l 0 c.in-Struct.is

pub returns-in-Abbreviation : goal.returns-in-Abbreviation
returns-in-Abbreviation c = told_abbreviation (lines_in c.args.t.now) c.args.d c.args.l _ _ c.in-Abbreviation.is c.abbreviation.ensures c.decl_number.ensures

pub returns-in-Opaque : goal.returns-in-Opaque
returns-in-Opaque c = told_opaque (lines_in c.args.t.now) c.args.d c.args.l 0 c.in-Opaque.is
