-- `left_count::count_decl` meets its contract: nothing for a declaration that is not left. Assumes nothing.
use Rattle.std.proofs.Common.{refl, length, Some, arith}
use Rattle.table_access.specs.Tables.{lines_in}
use Rattle.left_count.specs.SumsLaws.{added_lines}
use Rattle.left_count.specs.CountsLaws.{params_few_of, left_open, decl_skip, decl_left}
use Rattle.left_count.proofs.count_decl.Goals as goal

pub returns-then-left-d-eq0 : goal.returns-then-left-d-eq0
returns-then-left-d-eq0 c =
    let a = c.args in
    let p = c.requires in
    decl_skip (lines_in a.t.now) a.t.now a.u.now a.f.now a.keep.now p.ready.0 a.d p.ready.1 a.left.now p.ready.3 (length a.scratch.now) a.c (Some a.c) c.if-left-d-eq0.true
    (added_lines (lines_in a.t.now) a.d 0 (length a.scratch.now) a.c a.c refl refl (omega arith))

pub overflow_add-n : goal.overflow_add-n
overflow_add-n c = omega (arith, c.params-n.ensures, params_few_of (lines_in c.args.t.now) c.requires.ready.0.tabled.passed c.args.d)

pub add_lines-requires : goal.add_lines-requires
add_lines-requires c =
    let a = c.args in
    let p = c.requires in
    (omega (arith, p.room_value.2), omega (arith, c.params-n.ensures, params_few_of (lines_in a.t.now) p.ready.0.tabled.passed a.d))

pub count_body-requires-clause-fact : goal.count_body-requires-clause-fact
count_body-requires-clause-fact c =
    let a = c.args in
    let p = c.requires in
    let l = c.add_lines.ensures in
    (left_open (lines_in a.t.now) a.t.now a.u.now a.f.now a.keep.now p.ready.0 a.d p.ready.1 a.left.now p.ready.3 c.if-left-d-eq0.false, omega (arith, l.0, p.room_value.0), omega (arith, l.1, p.room_value.1), omega (arith, l.2, p.room_value.2, c.params-n.ensures, params_few_of (lines_in a.t.now) p.ready.0.tabled.passed a.d))

pub returns : goal.returns
returns c =
    let a = c.args in
    let p = c.requires in
    let m = c.add_lines in
    decl_left (lines_in a.t.now) a.t.now a.u.now a.f.now a.keep.now p.ready.0 a.d p.ready.1 a.left.now p.ready.3 (length a.scratch.now) a.c _ m.result c.params-n.result c.if-left-d-eq0.false c.params-n.ensures m.ensures c.count_body.ensures
