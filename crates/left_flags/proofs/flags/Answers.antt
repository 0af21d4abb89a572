-- `left_flags::flags` meets its contract: the flags of the declarations below d are there.
use Rattle.std.proofs.Common.{◌≡◌, ◌<◌, Bool, true, false, refl, ap, ◌∙◌, arith}
use Rattle.std.specs.Int.{from_bool}
use Rattle.model.specs.Decl.{bit}
use Rattle.model.specs.Run.{left_at}
use Rattle.meaning.specs.Program.{program}
use Rattle.table_declared.specs.PassedLaws.{decls_few}
use Rattle.table_access.specs.Tables.{decls_of, lines_in}
use Rattle.left_laws.specs.Lefts.{is_left}
use Rattle.left_flags.specs.FlagsLaws.{ready_forms, leaves_is, flag_more}
use Rattle.left_flags.proofs.flags.Goals as goal

bit_of : (b : Bool) → from_bool b ≡ bit b
bit_of true = refl
bit_of false = refl

pub is_left-requires : goal.is_left-requires
is_left-requires c =
    let a = c.args in
    let p = c.requires in
    (p.0.tabled, ready_forms (lines_in a.t.now) a.t.now a.u.now a.f.now a.keep.now p.0, omega (arith, c.decls-n.ensures))

pub overflow_step-d : goal.overflow_step-d
overflow_step-d c = omega (arith, c.decls-n.ensures, decls_few (lines_in c.args.t.now) c.requires.0.tabled.passed)

pub loop-d-preserved : goal.loop-d-preserved
loop-d-preserved c =
    let a = c.args in
    let p = c.requires in
    let l = c.loop-d in
    let h : l.d < decls_of (lines_in a.t.now) = omega (arith, c.decls-n.ensures) in
    flag_more (λ e. bit (is_left (left_at 100 (program (lines_in a.t.now)) e))) l.left l.d (omega (arith, p.1)) l.invariant c.from.result
    (c.from.ensures ∙ (bit_of _ ∙ ap bit (c.is_left.ensures ∙ leaves_is (lines_in a.t.now) a.t.now a.u.now a.f.now a.keep.now p.0 l.d h)))

pub returns : goal.returns
returns c =
    let l = c.loop-d in
    record { long = omega (arith, c.requires.1); flags = λ d h. l.invariant d (omega (arith, c.decls-n.ensures)) }
