-- `erasure_settling::settle` meets its contract, round after round. Assumes nothing.
use mathlib.Core.Path.{◌≡◌, ap, sym, ◌∙◌}
use Prim.Native.Nat.{suc, ◌+◌, ◌-◌, ◌≤◌}
use native.Mathlib.Omega.{arith}
use Rattle.model.specs.Erasure.{rule, settle, round}
use Rattle.meaning.specs.Program.{program}
use Rattle.model_laws.specs.Lists.{trues}
use Rattle.table_declared.specs.PassedLaws.{decls_few}
use Rattle.table_access.specs.Tables.{decls_of, lines_in}
use Rattle.erasure_marks.specs.Marks.{marks_of}
use Rattle.erasure_laws.specs.Rounds.{Running, ends_in}
use Rattle.erasure_laws.specs.RoundsLaws.{settle_last, settle_more, marks_few}
use Rattle.erasure_settling.proofs.settle.Statement.{statement}
use Rattle.erasure_settling.proofs.settle.Tie as tie

abbrev invariant-loop : tie.invariant-loop
invariant-loop t used decl₀ node₀ member₀ field₀ wait₀ n₀ right₀ decl node member field wait n right =
    Running (lines_in t) used decl node member field wait right
    × (n ≤ trues (marks_of decl))
    × ((ends_in (lines_in t) decl₀).marks ≡ (settle (rule (program (lines_in t))) (suc (decls_of (lines_in t)) - n) (marks_of decl)).marks)
    × ((ends_in (lines_in t) decl₀).rounds ≡ n + (settle (rule (program (lines_in t))) (suc (decls_of (lines_in t)) - n) (marks_of decl)).rounds)
    × Running (lines_in t) used decl₀ node₀ member₀ field₀ wait₀ 0

abbrev decreases-loop : tie.decreases-loop
decreases-loop t used decl₀ node₀ member₀ field₀ wait₀ n₀ right₀ decl node member field wait n right = decls_of (lines_in t) - trues (marks_of decl)

loop-holds : tie.Need-loop-init invariant-loop decreases-loop
loop-holds c =
    let a = c in
    let n = decls_of (lines_in a.args.t.now) in
    let e : suc n - 0 ≡ suc n = omega arith in
    (a.requires.1, omega arith, rw e, rw e (omega arith), a.requires.1)

add-n : tie.Need-overflow_add-n invariant-loop decreases-loop
add-n c =
    let a = c in
    let l = c.loop in
    omega (arith, l.invariant.1, marks_few (lines_in a.args.t.now) l.decl l.invariant.0.state.decl_size, decls_few (lines_in a.args.t.now) a.requires.0.passed)

sweep-requires : tie.Need-sweep-r-requires invariant-loop decreases-loop
sweep-requires c κs = let a = c in (a.requires.0, c.loop.invariant.0)

loop-less : tie.Need-loop-smaller invariant-loop decreases-loop
loop-less c =
    let a = c in
    let l = c.loop in
    let w = c.sweep-r in
    let m = w.new.decl in
    let z = c.if-r-eq0.false in
    omega (arith, w.ensures.counted, marks_few (lines_in a.args.t.now) m w.ensures.running.state.decl_size)

loop-again : tie.Need-loop-preserved invariant-loop decreases-loop
loop-again c =
    let a = c in
    let ls = lines_in a.args.t.now in
    let r = rule (program ls) in
    let l = c.loop in
    let w = c.sweep-r in
    let m = marks_of w.new.decl in
    let z = c.if-r-eq0.false in
    let f : suc (decls_of ls) - (l.n + 1) ≡ suc (decls_of ls) - l.n - 1 = omega arith in
    let t : trues (round r (marks_of l.decl)) ≡ trues m = ap trues (sym w.ensures.marks) in
    let k = settle_more r (suc (decls_of ls) - l.n) (marks_of l.decl) (omega (arith, l.invariant.1, marks_few ls l.decl l.invariant.0.state.decl_size)) (omega (arith, t, w.ensures.counted)) in
    (w.ensures.running, omega (arith, l.invariant.1, w.ensures.counted), l.invariant.2 ∙ k.0 ∙ rw (f, ← w.ensures.marks), l.invariant.3 ∙ rw (k.1, f, ← w.ensures.marks) (omega arith), l.invariant.4)

types-requires : tie.Need-types-requires invariant-loop decreases-loop
types-requires c κs = let a = c in a.requires.0

mark-types-requires : tie.Need-mark_types-requires invariant-loop decreases-loop
mark-types-requires c κs =
    let a = c in
    let w = c.sweep-r in
    (a.requires.0, ((omega (arith, c.types.ensures), w.ensures.running.state.decl_size), w.ensures.running.state.marks))

same_length : tie.Need-shape_of-decl invariant-loop decreases-loop
same_length c = c.sweep-r.ensures.running.state.decl_size ∙ sym c.loop.invariant.4.state.decl_size

same-length-2 : tie.Need-shape_of-node invariant-loop decreases-loop
same-length-2 c = c.mark_types.ensures.0.node_size ∙ sym c.loop.invariant.4.state.marks.node_size

same-length-3 : tie.Need-shape_of-member invariant-loop decreases-loop
same-length-3 c = c.mark_types.ensures.0.member_size ∙ sym c.loop.invariant.4.state.marks.member_size

same-length-4 : tie.Need-shape_of-field invariant-loop decreases-loop
same-length-4 c = c.sweep-r.ensures.running.state.places.field_size ∙ sym c.loop.invariant.4.state.places.field_size

same-length-5 : tie.Need-shape_of-wait invariant-loop decreases-loop
same-length-5 c = c.sweep-r.ensures.running.state.places.wait_size ∙ sym c.loop.invariant.4.state.places.wait_size

returns : tie.Need-returns invariant-loop decreases-loop
returns c =
    let a = c in
    let ls = lines_in a.args.t.now in
    let r = rule (program ls) in
    let l = c.loop in
    let w = c.sweep-r in
    let q = w.ensures.still c.if-r-eq0.true in
    let k = settle_last r (suc (decls_of ls) - l.n) (marks_of l.decl) (omega (arith, l.invariant.1, marks_few ls l.decl l.invariant.0.state.decl_size)) (sym w.ensures.marks ∙ q) in
    let y = c.mark_types.ensures in
    record {
      marks = q ∙ sym (l.invariant.2 ∙ k.0);
      counted = sym (l.invariant.3 ∙ rw k.1);
      types = λ z h. y.0.right z (omega (arith, y.1, c.types.ensures));
    }

pub settle_spec : {M : Type 1} → statement M
settle_spec =
    tie.close
    (tie.spec
    invariant-loop
    decreases-loop
    loop-holds
    add-n
    sweep-requires
    loop-less
    loop-again
    types-requires
    mark-types-requires
    same_length
    same-length-2
    same-length-3
    same-length-4
    same-length-5
    returns)
