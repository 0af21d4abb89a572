-- `left_count::count` meets its contract, declaration after declaration. Assumes nothing.
use Rattle.std.proofs.Common.{ℕ, ◌<◌, refl, subst, length, Some, arith}
use Rattle.table_declared.specs.PassedLaws.{decls_few}
use Rattle.table_access.specs.Tables.{decls_of, lines_in}
use Rattle.left_count.specs.Sums.{Added}
use Rattle.left_count.specs.Counts.{decl_types, decl_count}
use Rattle.left_count.specs.CountsLaws.{upto_none, upto_more, counted_all, few_upto}
use Rattle.left_count.proofs.count.Goals as goal

pub loop-d-init : goal.loop-d-init
loop-d-init c = let a = c.args in upto_none (lines_in a.t.now) a.u.now a.keep.now (length a.scratch.now) _ refl refl refl

pub count_decl-requires-clause-room_value : goal.count_decl-requires-clause-room_value
count_decl-requires-clause-room_value c =
    let x = c.loop-d.invariant in
    let w = decls_few (lines_in c.args.t.now) c.requires.0.tabled.passed in
    (omega (arith, c.loop-d-test.true, c.decls-n.ensures, x.few_args, w), omega (arith, c.loop-d-test.true, c.decls-n.ensures, x.few_types, w), omega (arith, c.loop-d-test.true, c.decls-n.ensures, x.few_lines, w))

pub loop-d-preserved : goal.loop-d-preserved
loop-d-preserved c =
    let a = c.args in
    let p = c.requires in
    let l = c.loop-d in
    let h : l.d < decls_of (lines_in a.t.now) = omega (arith, c.loop-d-test.true, c.decls-n.ensures) in
    upto_more (lines_in a.t.now) a.t.now a.u.now a.f.now a.keep.now a.left.now p.0 p.2 (length a.scratch.now) l.d h l.c c.in_ok-c.c l.invariant
    (subst (λ (n : ℕ). Added (lines_in a.t.now) l.d (decl_types (lines_in a.t.now) a.u.now a.keep.now a.left.now l.d) (decl_count (lines_in a.t.now) a.u.now a.keep.now a.left.now l.d) n l.c (Some c.in_ok-c.c)) l.auto.scratch c.in_ok-c.ensures)

pub returns : goal.returns
returns c =
    let a = c.args in
    let l = c.loop-d in
    let w = decls_few (lines_in a.t.now) c.requires.0.tabled.passed in
    (counted_all (lines_in a.t.now) a.u.now a.keep.now (length a.scratch.now) l.d l.c (omega (arith, c.loop-d-test.false, c.decls-n.ensures)) (omega (arith, l.auto.d-end, c.decls-n.ensures)) l.invariant, few_upto (lines_in a.t.now) a.u.now a.keep.now (length a.scratch.now) l.d l.c (omega (arith, l.auto.d-end, c.decls-n.ensures, w)) l.invariant)
