-- `sweeps::sweep` meets its contract, one declaration after the other.
use Rattle.std.proofs.Common.{◌+◌, ◌-◌, ◌∙◌, refl, ap, sym, length, eqb, arith}
use Rattle.std.proofs.lemmas.List.{length-map}
use Rattle.model.specs.Erasure.{rule, sweep}
use Rattle.meaning.specs.Program.{program}
use Rattle.model_laws.specs.Rounds.{trues_le}
use Rattle.table_declared.specs.PassedLaws.{decls_few}
use Rattle.table_access.specs.Tables.{lines_in}
use Rattle.erasure_marks.specs.Marks.{marks_of}
use Rattle.erasure_laws.specs.RoundsLaws.{sweep_next, sweep_end, sweep_begin}
use Rattle.erasure_settling.proofs.sweeps.sweep.Goals as goal

pub loop-d-init : goal.loop-d-init
loop-d-init c =
    let m = c.args.decl.now in
    record {
      running = c.requires.running;
      marks = sweep_begin (rule (program (lines_in c.args.t.now))) (length m) (marks_of m) (length-map m (λ x. eqb x 1));
      counted = omega arith;
      still = λ _. refl;
    }

pub update-r-requires : goal.update-r-requires
update-r-requires c =
    record { tabled = c.requires.tabled; d_bound = omega (arith, c.requires.running.state.decl_size); running = c.loop-d.invariant.running }

pub overflow_add-erased : goal.overflow_add-erased
overflow_add-erased c =
    let u = c.update-r in
    let m = u.new.decl in
    omega (arith, c.loop-d.invariant.counted, u.ensures.counted, trues_le (marks_of m), length-map m (λ x. eqb x 1), u.ensures.running.state.decl_size, decls_few _ c.requires.tabled.passed)

pub loop-d-preserved : goal.loop-d-preserved
loop-d-preserved c =
    let l = c.loop-d in
    let u = c.update-r in
    let r = rule (program (lines_in c.args.t.now)) in
    let n = length c.args.decl.now in
    record {
      running = u.ensures.running;
      marks = ap (sweep r (n - (l.d + 1)) (l.d + 1)) u.ensures.marks ∙ sym (sweep_next r n l.d (marks_of l.decl) c.loop-d-test.true) ∙ l.invariant.marks;
      counted = omega (arith, l.invariant.counted, u.ensures.counted);
      still = λ z. u.ensures.still (omega arith) ∙ l.invariant.still (omega arith);
    }

pub returns : goal.returns
returns c =
    let i = c.loop-d.invariant in
    record {
      running = i.running;
      marks = sym (sweep_end (rule (program (lines_in c.args.t.now))) (length c.args.decl.now) c.loop-d.d (marks_of c.loop-d.decl) c.loop-d-test.false) ∙ i.marks;
      counted = i.counted;
      still = i.still;
    }
