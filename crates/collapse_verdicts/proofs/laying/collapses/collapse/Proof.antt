-- `collapses::collapse` meets its contract, by the guard's mark and the candidate. Assumes nothing.
use native.Mathlib.Omega.{arith}
use borrow.Author.Rules.{rules}
use Rattle.table_declared.specs.PassedLaws.{fields_few}
use Rattle.collapse_verdicts.proofs.ChosenLaws.{candidate_dropped, candidate_none, candidate_some}
use Rattle.collapse_verdicts.proofs.laying.collapses.collapse.Statement.{statement}
use Rattle.table_access.specs.Tables.{lines_in}
use Rattle.collapse_verdicts.proofs.laying.collapses.collapse.Tie as tie

returns : tie.Need-returns-then-found-d-eq1
returns c = let a = c in candidate_dropped (lines_in a.args.t.now) a.args.d a.args.fields.now a.args.found.now a.requires.1.1 a.requires.1.0 c.if-found-d-eq1.true

returns-2 : tie.Need-returns-then-f
returns-2 c =
    let a = c in
    candidate_none (lines_in a.args.t.now) a.args.d a.args.fields.now a.args.found.now a.requires.1.1 a.requires.1.0 (omega (arith, fields_few (lines_in a.args.t.now) a.requires.0.passed)) c.if-f.true

newtype-requires : tie.Need-newtype-requires
newtype-requires c κs = let p = c.requires in let k = p.1.1.candidates.each c.args.d p.1.0 in (p.0, (p.1.0, k.one (k.named c.if-f.false)))

returns-3 : tie.Need-returns
returns-3 c =
    let a = c in
    rw c.newtype.ensures (candidate_some (lines_in a.args.t.now) a.args.d a.args.fields.now a.args.found.now a.requires.1.1 a.requires.1.0 c.if-found-d-eq1.false c.if-f.false)

pub collapse_spec : {M : Type 1} → statement M
collapse_spec =
    tie.close
    (tie.spec
    (λ c. search rules)
    returns
    (λ c. search rules)
    (λ c. search rules)
    returns-2
    newtype-requires
    returns-3)
