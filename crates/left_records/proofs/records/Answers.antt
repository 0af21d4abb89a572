-- `left_records::records` meets its contract: the numbers of the declarations below d are there.
use Rattle.std.proofs.Common.{◌≡◌, ◌<◌, Bool, true, false, refl, ap, ◌∙◌, arith}
use Rattle.std.specs.Int.{from_bool}
use Rattle.model.specs.Decl.{bit}
use Rattle.model.specs.Run.{record_of, left_at}
use Rattle.meaning.specs.Program.{program}
use Rattle.table_declared.specs.PassedLaws.{decls_few}
use Rattle.table_access.specs.Tables.{decls_of, lines_in}
use Rattle.left_records.specs.RecordsLaws.{record_is, number_more}
use Rattle.left_records.proofs.records.Goals as goal

bit_of : (b : Bool) → from_bool b ≡ bit b
bit_of true = refl
bit_of false = refl

pub record_of-requires : goal.record_of-requires
record_of-requires c =
    let p = c.requires in
    record { tabled = (p.ready.0.tabled, omega (arith, c.decls-n.ensures)); t_in_bounds = (p.t_in_bounds.0, omega (arith, c.decls-n.ensures, p.ready.1.long)) }

pub overflow_step-d : goal.overflow_step-d
overflow_step-d c = omega (arith, c.decls-n.ensures, decls_few (lines_in c.args.t.now) c.requires.ready.0.tabled.passed)

pub loop-d-preserved : goal.loop-d-preserved
loop-d-preserved c =
    let a = c.args in
    let p = c.requires in
    let l = c.loop-d in
    let h : l.d < decls_of (lines_in a.t.now) = omega (arith, c.decls-n.ensures) in
    number_more (λ e. bit (record_of (left_at 100 (program (lines_in a.t.now)) e))) l.records l.d (omega (arith, p.t_in_bounds.1)) l.invariant c.from.result
    (c.from.ensures ∙ (bit_of _ ∙ ap bit (c.record_of.ensures ∙ record_is (lines_in a.t.now) a.t.now a.u.now a.f.now a.keep.now a.left.now p.ready.0 p.ready.1 l.d h)))

pub returns : goal.returns
returns c =
    let l = c.loop-d in
    record { long = omega (arith, c.requires.t_in_bounds.1); numbers = λ d h. l.invariant d (omega (arith, c.decls-n.ensures)) }
