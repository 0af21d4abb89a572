-- `pattern_ctors::put_ctors` meets its contract, from the last constructor to the first.
use Rattle.std.proofs.Common.{◌<◌, arith, add-one}
use Rattle.meaning.specs.Program.{ctor_line}
use Rattle.table_declared.specs.PassedLaws.{decls_few}
use Rattle.table_access.specs.Tables.{first_of, lines_in}
use Rattle.pattern_ctors.specs.SitesLaws.{amid_none, put_ready, amid_next, amid_all}
use Rattle.pattern_ctors.proofs.put_ctors.Goals as goal

pub overflow_add-d : goal.overflow_add-d
overflow_add-d c = omega (arith, c.requires.tabled.1, decls_few (lines_in c.args.t.now) c.requires.tabled.0.passed)

pub overflow_add-d-2 : goal.overflow_add-d-2
overflow_add-d-2 c = omega (arith, c.requires.tabled.1, decls_few (lines_in c.args.t.now) c.requires.tabled.0.passed)

pub loop-c-init : goal.loop-c-init
loop-c-init c =
    let s = c.requires.tabled in
    rw (c.first_ctor-end.ensures, c.first_field-f.ensures, add-one) (amid_none (lines_in c.args.t.now) s.0.passed c.args.d s.1 s.2 c.args.m.now c.requires.sited_from)

pub ctor_number-k-requires-clause-c_bound : goal.ctor_number-k-requires-clause-c_bound
ctor_number-k-requires-clause-c_bound c =
    let ls = lines_in c.args.t.now in
    let s = c.requires.tabled in
    let l = c.loop-c in
    let h : first_of ctor_line ls c.args.d < l.c = omega (arith, c.first_ctor-first.ensures) in
    ((put_ready ls s.0.passed c.args.d s.1 s.2 l.m l.c l.f h l.invariant).is_ctor, omega arith)

pub overflow_sub-f : goal.overflow_sub-f
overflow_sub-f c =
    let ls = lines_in c.args.t.now in
    let s = c.requires.tabled in
    let l = c.loop-c in
    let h : first_of ctor_line ls c.args.d < l.c = omega (arith, c.first_ctor-first.ensures) in
    omega (arith, c.ctor_number-k.ensures, (put_ready ls s.0.passed c.args.d s.1 s.2 l.m l.c l.f h l.invariant).enough)

pub ctor_number-requires-clause-c_bound : goal.ctor_number-requires-clause-c_bound
ctor_number-requires-clause-c_bound c =
    let ls = lines_in c.args.t.now in
    let s = c.requires.tabled in
    let l = c.loop-c in
    let h : first_of ctor_line ls c.args.d < l.c = omega (arith, c.first_ctor-first.ensures) in
    ((put_ready ls s.0.passed c.args.d s.1 s.2 l.m l.c l.f h l.invariant).is_ctor, omega arith)

pub put-requires : goal.put-requires
put-requires c =
    let ls = lines_in c.args.t.now in
    let s = c.requires.tabled in
    let l = c.loop-c in
    let h : first_of ctor_line ls c.args.d < l.c = omega (arith, c.first_ctor-first.ensures) in
    let q = put_ready ls s.0.passed c.args.d s.1 s.2 l.m l.c l.f h l.invariant in
    (rw c.ctor_number.ensures q.roomy, omega (arith, s.1, decls_few ls s.0.passed), omega (arith, q.few), omega (arith, c.ctor_number-k.ensures, q.enough, q.few))

pub loop-c-preserved : goal.loop-c-preserved
loop-c-preserved c =
    let ls = lines_in c.args.t.now in
    let s = c.requires.tabled in
    let l = c.loop-c in
    let h : first_of ctor_line ls c.args.d < l.c = omega (arith, c.first_ctor-first.ensures) in
    rw c.put.ensures (amid_next ls s.0.passed c.args.d s.1 s.2 l.m l.c l.f h l.invariant _ _ c.ctor_number.ensures c.ctor_number-k.ensures)

pub returns : goal.returns
returns c =
    let s = c.requires.tabled in
    amid_all (lines_in c.args.t.now) s.0.passed c.args.d s.1 s.2 c.loop-c.m c.loop-c.c c.loop-c.f (omega (arith, c.first_ctor-first.ensures)) c.loop-c.invariant
