-- `verdict_sheet::put_line` meets its contract, by the letter.
use mathlib.Core.Path.{ap}
use native.Mathlib.Omega.{arith}
use Rattle.verdict_sheet.specs.declared.Counts.{Counts}
use Rattle.verdict_sheet.specs.StepLaws.{here_room, field_inside, field_small, ctor_few, step_head, step_field, ctor_moved, verdict_moved, step_other, sheet_of}
use Rattle.verdict_sheet.proofs.put_line.Goals as goal

pub overflow_mul-at : goal.overflow_mul-at
overflow_mul-at c =
    let a = c in
    omega (arith, here_room a.args.s.now a.args.out.now (sheet_of a.args.s.now a.args.t.now a.requires.known.of) a.args.d a.args.i a.requires.next.0)

pub bounds-s-at : goal.bounds-s-at
bounds-s-at c =
    let a = c in
    omega (arith, here_room a.args.s.now a.args.out.now (sheet_of a.args.s.now a.args.t.now a.requires.known.of) a.args.d a.args.i a.requires.next.0)

pub put_verdict-requires : goal.put_verdict-requires
put_verdict-requires c =
    let a = c in
    record { of_sheet = (a.requires.known.of, a.requires.known.settled, a.requires.known.recorded); next = (a.requires.next.0, c.if-letter-eq86.true) }

pub returns-then-letter-eq86 : goal.returns-then-letter-eq86
returns-then-letter-eq86 c =
    let a = c in
    verdict_moved a.args.s.now a.args.out.now (sheet_of a.args.s.now a.args.t.now a.requires.known.of) a.args.d a.args.i a.requires.next.0 _ a.args.c a.requires.next.1 c.if-letter-eq86.true c.put_verdict.ensures

pub returns-then-letter-gt70 : goal.returns-then-letter-gt70
returns-then-letter-gt70 c =
    let a = c in
    let h = c.if-letter-gt70.true in
    step_other a.args.s.now a.args.out.now (sheet_of a.args.s.now a.args.t.now a.requires.known.of) a.args.d a.args.i a.requires.next.0 a.args.c a.requires.next.1 (λ q. omega (arith, h, q)) (λ q. omega (arith, h, q)) (λ q. omega (arith, h, q)) c.if-letter-eq86.false

pub bounds-keep-f : goal.bounds-keep-f
bounds-keep-f c =
    let a = c in
    omega (arith, a.requires.known.sized, field_inside a.args.s.now a.args.out.now (sheet_of a.args.s.now a.args.t.now a.requires.known.of) a.args.d a.args.i a.requires.next.0 a.args.c.fields (ap (λ (x : Counts). x.fields) a.requires.next.1) c.if-letter-eq70.true)

pub overflow_add-out : goal.overflow_add-out
overflow_add-out c =
    let a = c in
    omega (arith, field_small a.args.s.now a.args.out.now (sheet_of a.args.s.now a.args.t.now a.requires.known.of) a.args.d a.args.i a.requires.next.0 a.args.keep.now a.requires.known.slotted a.args.c.fields (ap (λ (x : Counts). x.fields) a.requires.next.1) c.if-letter-eq70.true)

pub overflow_add-out-then-letter-eq70 : goal.overflow_add-out-then-letter-eq70
overflow_add-out-then-letter-eq70 c =
    let a = c in
    omega (arith, here_room a.args.s.now a.args.out.now (sheet_of a.args.s.now a.args.t.now a.requires.known.of) a.args.d a.args.i a.requires.next.0)

pub bounds-out-at : goal.bounds-out-at
bounds-out-at c =
    let a = c in
    omega (arith, a.requires.next.0.room, here_room a.args.s.now a.args.out.now (sheet_of a.args.s.now a.args.t.now a.requires.known.of) a.args.d a.args.i a.requires.next.0)

pub overflow_add-fields : goal.overflow_add-fields
overflow_add-fields c =
    let a = c in
    omega (arith, a.requires.known.sized, field_inside a.args.s.now a.args.out.now (sheet_of a.args.s.now a.args.t.now a.requires.known.of) a.args.d a.args.i a.requires.next.0 a.args.c.fields (ap (λ (x : Counts). x.fields) a.requires.next.1) c.if-letter-eq70.true)

pub returns-then-letter-eq70 : goal.returns-then-letter-eq70
returns-then-letter-eq70 c =
    let a = c in
    step_field a.args.s.now a.args.out.now (sheet_of a.args.s.now a.args.t.now a.requires.known.of) a.args.d a.args.i a.requires.next.0 a.args.keep.now a.requires.known.slotted a.args.c a.requires.next.1 c.if-letter-eq70.true

pub overflow_add-ctors : goal.overflow_add-ctors
overflow_add-ctors c =
    let a = c in
    omega (arith, ctor_few a.args.s.now a.args.out.now (sheet_of a.args.s.now a.args.t.now a.requires.known.of) a.args.d a.args.i a.requires.next.0 a.args.c.ctors (ap (λ (x : Counts). x.ctors) a.requires.next.1) c.if-letter-eq67.true)

pub put_tag-requires : goal.put_tag-requires
put_tag-requires c =
    let a = c in
    record { of_sheet = (a.requires.known.of, a.requires.next.0); i_value = (c.if-letter-eq67.true, ap (λ (x : Counts). x.ctors) a.requires.next.1) }

pub returns-then-letter-eq67 : goal.returns-then-letter-eq67
returns-then-letter-eq67 c =
    let a = c in
    ctor_moved a.args.s.now a.args.out.now (sheet_of a.args.s.now a.args.t.now a.requires.known.of) a.args.d a.args.i a.requires.next.0 _ a.args.c a.requires.next.1 c.if-letter-eq67.true c.put_tag.ensures

pub bounds-out-at-then-letter-eq68 : goal.bounds-out-at-then-letter-eq68
bounds-out-at-then-letter-eq68 c =
    let a = c in
    omega (arith, a.requires.next.0.room, here_room a.args.s.now a.args.out.now (sheet_of a.args.s.now a.args.t.now a.requires.known.of) a.args.d a.args.i a.requires.next.0)

pub returns-then-letter-eq68 : goal.returns-then-letter-eq68
returns-then-letter-eq68 c =
    let a = c in
    step_head a.args.s.now a.args.out.now (sheet_of a.args.s.now a.args.t.now a.requires.known.of) a.args.d a.args.i a.requires.next.0 a.args.c a.requires.next.1 c.if-letter-eq68.true

pub returns : goal.returns
returns c =
    let a = c in
    step_other a.args.s.now a.args.out.now (sheet_of a.args.s.now a.args.t.now a.requires.known.of) a.args.d a.args.i a.requires.next.0 a.args.c a.requires.next.1 c.if-letter-eq70.false c.if-letter-eq67.false c.if-letter-eq68.false (λ q. omega (arith, c.if-letter-gt70.false, q))
