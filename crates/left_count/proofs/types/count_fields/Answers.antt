-- `left_count::types::count_fields` meets its contract: what the fields from F line i on add, the whole adds. Assumes nothing.
use Rattle.std.proofs.Common.{ℕ, ◌+◌, ◌≤◌, refl, subst, length, Some, arith}
use Rattle.meaning.specs.Program.{field_line}
use Rattle.row4_limits.specs.Limits.{start}
use Rattle.table_declared.specs.PassedLaws.{fields_few}
use Rattle.table_access.specs.Tables.{first_of, lines_in}
use Rattle.resolve_kids.specs.ParamsLaws.{count_before_le}
use Rattle.left_count.specs.SumsLaws.{One, Rest, tells, rest_step, rest_end, one_few}
use Rattle.left_count.proofs.types.count_fields.Goals as goal

pub count_field-requires : goal.count_field-requires
count_field-requires c =
    let a = c.args in
    let p = c.requires in
    let l = c.loop-i in
    let e = c.first_field-end in
    let m : l.i ≤ 2048 = omega (arith, c.loop-i-test.true, e.ensures, count_before_le field_line (lines_in a.t.now) (start (lines_in a.t.now) (a.d + 1)), fields_few (lines_in a.t.now) p.ready.0.tabled.passed) in (
      omega (arith, c.loop-i-test.true, e.ensures, count_before_le field_line (lines_in a.t.now) (start (lines_in a.t.now) (a.d + 1)), p.ready.2),
      λ k. tells (lines_in a.t.now) a.t.now a.u.now a.f.now a.keep.now p.ready.0 a.d l.i c.first_field-first.result e.result p.ready.1 p.fact.0 p.fact.1 p.fact.2 c.first_field-first.ensures e.ensures l.auto.i c.loop-i-test.true k,
      omega (arith, l.invariant.args, m),
      omega (arith, l.invariant.types, m),
      omega (arith, l.invariant.lines, m),
    )

pub loop-i-preserved : goal.loop-i-preserved
loop-i-preserved c =
    let a = c.args in
    let l = c.loop-i in
    let e = c.first_field-end in
    let s = c.in_ok-r.ensures.sums _ refl in
    let w = one_few (lines_in a.t.now) a.keep.now a.d l.i in
    record {
      args = omega (arith, l.invariant.args, s.few_args, w);
      types = omega (arith, l.invariant.types, s.few_types, w);
      lines = omega (arith, l.invariant.lines, s.lines_are, w);
      rest = λ x y. l.invariant.rest x
          (rest_step (lines_in a.t.now) a.keep.now a.d l.i e.result (length a.scratch.now) l.r c.in_ok-r.r x c.loop-i-test.true (subst (λ (n : ℕ). One (lines_in a.t.now) a.keep.now a.d l.i n l.r (Some c.in_ok-r.r)) l.auto.scratch c.in_ok-r.ensures) y);
    }

pub returns : goal.returns
returns c =
    let a = c.args in
    let l = c.loop-i in
    subst (λ (e : ℕ). Rest (lines_in a.t.now) a.keep.now a.d (first_of field_line (lines_in a.t.now) a.d) e (length a.scratch.now) a.c (Some l.r)) c.first_field-end.ensures
    (subst (λ (i : ℕ). Rest (lines_in a.t.now) a.keep.now a.d i c.first_field-end.result (length a.scratch.now) a.c (Some l.r)) c.first_field-first.ensures
    (l.invariant.rest (Some l.r) (rest_end (lines_in a.t.now) a.keep.now a.d l.i c.first_field-end.result (length a.scratch.now) l.r c.loop-i-test.false)))
