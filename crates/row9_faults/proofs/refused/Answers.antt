-- `row9_faults::refused` meets its contract: the first fault, at its declaration's line.
use Rattle.std.proofs.Common.{◌≡◌, Result, Err, ap, ◌∙◌, arith}
use Rattle.sheet.specs.Format.{base}
use Rattle.table_declared.specs.PassedLaws.{decls_within}
use Rattle.row9_faults.specs.declared.attempts.Fault.{Fault}
use Rattle.row9_faults.specs.declared.attempts.Fault.TheVariants.{Refused, NoRoom}
use Rattle.row9_faults.specs.Rows9Laws.{refused_none, refused_at}
use Rattle.row9_faults.proofs.refused.Goals as goal

ended : (r : Result (Unit {0}) Fault) (f g : Fault) → r ≡ Err f → f ≡ g → r ≡ Err g
ended r f g e q = e ∙ ap (λ (x : Fault). Err x) q

pub returns-in-Err-Refused : goal.returns-in-Err-Refused
returns-in-Err-Refused c =
    let w = c.in-Err-Refused in
    let e : c.args.r ≡ Err (Refused w.code w.decl) = ended c.args.r w.field-0 (Refused w.code w.decl) w.is (rw w.is at w.field-0-is) in
    refused_at _ _ _ _ (rw e at c.requires.comes) c.line_of.ensures

pub returns-in-Ok : goal.returns-in-Ok
returns-in-Ok c = refused_none _ (rw c.in-Ok.is at c.requires.comes)

pub returns-in-Err-NoRoom : goal.returns-in-Err-NoRoom
returns-in-Err-NoRoom c =
    let w = c.in-Err-NoRoom in
    let e : c.args.r ≡ Err NoRoom = ended c.args.r w.field-0 NoRoom w.is (rw w.is at w.field-0-is) in
    absurd (omega (arith, decls_within base _ c.requires.tabled_in.bounded, rw e at c.requires.comes))
