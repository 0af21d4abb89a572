-- `table_index::put_lines` meets its contract, line after line.
use Rattle.std.proofs.Common.{◌≡◌, ◌<◌, length, arith, add-one}
use Rattle.rows_header.specs.LettersLaws.{lettered}
use Rattle.rows_header.specs.OrderLaws.{header_le}
use Rattle.table_access.specs.Tables.{lines_in}
use Rattle.table_index.specs.WalkLaws.{reached_first, lines_kept, reached_here, reached_there, last_room, filled_all}
use Rattle.table_index.proofs.put_lines.Goals as goal

pub loop-i-init : goal.loop-i-init
loop-i-init c = rw c.requires.from_value.0 (reached_first _ c.requires.begun.passed _ c.requires.begun)

pub put_line-c-requires : goal.put_line-c-requires
put_line-c-requires c =
    let l = c.loop-i in
    let s = lines_in c.args.t.now in
    let h : l.i < length s = omega (arith, c.requires.from_value.1) in
    record {
      reached = reached_here c.args.t.now l.t l.i l.c l.invariant;
      i_in_bounds = rw (lines_kept c.args.t.now l.t l.i l.c l.invariant) (h, lettered s c.requires.begun.passed.in_order l.i (omega (arith, c.requires.from_value.0)) h);
    }

pub loop-i-preserved : goal.loop-i-preserved
loop-i-preserved c =
    let l = c.loop-i in
    let q = c.put_line-c in
    rw add-one (reached_there c.args.t.now l.t q.new.t _ q.result (lines_kept c.args.t.now l.t l.i l.c l.invariant) q.ensures)

pub put_begin-requires : goal.put_begin-requires
put_begin-requires c =
    let l = c.loop-i in
    let s = lines_in c.args.t.now in
    let e : l.i ≡ length s = omega (arith, c.requires.from_value.0, c.requires.from_value.1, header_le s) in
    rw c.requires.from_value.1 (last_room s l.t l.c (rw e at l.invariant))

pub returns : goal.returns
returns c =
    let l = c.loop-i in
    let s = lines_in c.args.t.now in
    let e : l.i ≡ length s = omega (arith, c.requires.from_value.0, c.requires.from_value.1, header_le s) in
    filled_all s l.t l.c (rw e at l.invariant) c.put_begin.new.t (rw c.requires.from_value.1 at c.put_begin.ensures)
