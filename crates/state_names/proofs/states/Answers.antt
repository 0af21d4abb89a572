-- `state_names::states` meets its contract: each turn puts the cells of one more declaration.
use Rattle.std.proofs.Common.{◌<◌, arith}
use Rattle.sheet.specs.Format.{base}
use Rattle.table_declared.specs.PassedLaws.{decls_within}
use Rattle.table_access.specs.Tables.{decls_of, lines_in}
use Rattle.state_names.specs.CellsLaws.{filled_none, filled_more, known, settled_at}
use Rattle.state_names.proofs.states.Goals as goal

pub loop-d-init : goal.loop-d-init
loop-d-init c = filled_none (lines_in c.args.t.now) c.args.vs c.args.u.now c.requires.u_len

pub offset_bounds-vs-d : goal.offset_bounds-vs-d
offset_bounds-vs-d c = omega (arith, decls_within base (lines_in c.args.t.now) c.requires.tabled_in.bounded)

pub bounds-vs-d : goal.bounds-vs-d
bounds-vs-d c = omega (arith, decls_within base (lines_in c.args.t.now) c.requires.tabled_in.bounded)

pub put_state-requires : goal.put_state-requires
put_state-requires c =
    let d = c.loop-d.d in
    let h : d < decls_of (lines_in c.args.t.now) = omega arith in
    record { tabled = c.requires.tabled_in.tabled; d_bound = (h, omega (arith, c.loop-d.invariant.long)); known = known (lines_in c.args.t.now) c.requires.tabled_in.tabled.passed c.args.vs c.requires.laid d h _ }

pub loop-d-preserved : goal.loop-d-preserved
loop-d-preserved c =
    let d = c.loop-d.d in
    let h : d < decls_of (lines_in c.args.t.now) = omega arith in
    filled_more (lines_in c.args.t.now) c.requires.tabled_in.tabled.passed c.args.vs c.requires.laid d h _ c.loop-d.u _ c.loop-d.invariant c.put_state.ensures

pub returns : goal.returns
returns c = settled_at (lines_in c.args.t.now) c.requires.tabled_in.tabled.passed c.args.vs c.requires.laid c.loop-d.d (omega arith) c.loop-d.u c.loop-d.invariant
