-- `collapse_passes::passed` meets its contract, by the candidate. Assumes nothing.
use mathlib.Core.Path.{◌∙◌}
use native.Mathlib.Omega.{arith}
use borrow.Author.Rules.{rules}
use Rattle.table_declared.specs.PassedLaws.{types_few}
use Rattle.collapse_passes.specs.PassesLaws.{passed_none, passed_some}
use Rattle.collapse_passes.proofs.passed.Statement.{statement}
use Rattle.table_access.specs.Tables.{lines_in}
use Rattle.collapse_passes.proofs.passed.Tie as tie

returns : tie.Need-returns-then-f-eq-NONE
returns c =
    let a = c in
    passed_none (lines_in a.args.t.now) a.requires.0.passed a.args.d a.requires.1.0 a.args.f a.requires.1.1.1 c.if-f-eq-NONE.true ∙ c.abbreviation.ensures

payload-requires : tie.Need-payload-requires
payload-requires c κs = let p = c.requires in (p.0, p.1.1.1.named c.if-f-eq-NONE.false)

cast-result : tie.Need-overflow_cast-result
cast-result c = let a = c in omega (arith, c.payload.ensures.inside, types_few (lines_in a.args.t.now) a.requires.0.passed)

returns-2 : tie.Need-returns
returns-2 c =
    let a = c in
    passed_some (lines_in a.args.t.now) a.requires.0.passed a.args.d a.requires.1.0 a.args.f a.requires.1.1.1 c.if-f-eq-NONE.false _ c.payload.ensures

pub passed_spec : {M : Type 1} → statement M
passed_spec = tie.close (tie.spec (λ c κs. search rules) returns payload-requires cast-result returns-2)
