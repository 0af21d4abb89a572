-- `left_count::types::count_type` meets its contract. Assumes nothing.
use Rattle.std.proofs.Common.{refl, arith}
use Rattle.table_access.specs.Tables.{lines_in}
use Rattle.left_count.specs.SumsLaws.{added_type, args_small}
use Rattle.left_count.proofs.types.count_type.Goals as goal

pub overflow_add-result : goal.overflow_add-result
overflow_add-result c =
    let a = c.args in
    let e = c.emit-n in
    omega (arith, c.requires.1, args_small (lines_in a.t.now) a.t.now a.u.now a.f.now a.d a.y c.requires.0 a.scratch.now _ e.result c.count_args-a.result e.ensures (omega (arith, c.if-n-scratch.false, e.ensures.long)) c.count_args-a.ensures)

pub returns : goal.returns
returns c =
    let a = c.args in
    let e = c.emit-n in
    added_type (lines_in a.t.now) a.t.now a.u.now a.f.now a.d a.y c.requires.0 a.scratch.now _ e.result c.count_args-a.result a.c _ e.ensures (omega (arith, c.if-n-scratch.false, e.ensures.long)) c.count_args-a.ensures refl refl refl
