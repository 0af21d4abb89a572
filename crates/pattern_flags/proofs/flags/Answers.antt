-- `pattern_flags::flags` meets its contract, line after line.
use Rattle.std.proofs.Common.{arith}
use Rattle.walk_cells.specs.Cells.{lines_of}
use Rattle.walk_cells.specs.CellsLaws.{length_lines_of}
use Rattle.table_access.specs.Tables.{lines_in}
use Rattle.pattern_flags.specs.FlagsLaws.{flags_none, flags_next}
use Rattle.pattern_flags.proofs.flags.Goals as goal

pub loop-i-init : goal.loop-i-init
loop-i-init c =
    let a = c.args in
    flags_none (lines_in a.t.now) a.keep.now a.u.now a.m.now (lines_of a.q.now) a.own.now a.place.now a.flags.now

pub bounds-own-i : goal.bounds-own-i
bounds-own-i c = omega (arith, length_lines_of c.args.q.now, c.requires.given.1.owned)

pub bounds-place-i : goal.bounds-place-i
bounds-place-i c = omega (arith, length_lines_of c.args.q.now, c.requires.given.1.placed)

pub flag_at-requires : goal.flag_at-requires
flag_at-requires c =
    record { given = (c.requires.given.0, c.requires.given.1.low c.loop-i.i, omega (arith, length_lines_of c.args.q.now)); t_in_bounds = c.requires.t_in_bounds.0 }

pub bounds-flags-i : goal.bounds-flags-i
bounds-flags-i c = omega (arith, length_lines_of c.args.q.now, c.requires.t_in_bounds.1)

pub loop-i-preserved : goal.loop-i-preserved
loop-i-preserved c =
    let a = c.args in
    let l = c.loop-i in
    flags_next (lines_in a.t.now) a.keep.now a.u.now a.m.now (lines_of a.q.now) a.own.now a.place.now l.flags l.i c.flag_at.result (omega (arith, length_lines_of a.q.now, c.requires.t_in_bounds.1)) c.flag_at.ensures l.invariant

pub returns : goal.returns
returns c = record { flag = λ i h. c.loop-i.invariant.flag i (omega (arith, length_lines_of c.args.q.now)) }
