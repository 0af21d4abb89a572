-- `collapse_newtypes::ctor_of` meets its contract: a name of the D or I line, or of the only C line. Assumes nothing.
use mathlib.Core.Path.{◌∙◌}
use native.Mathlib.Omega.{arith}
use borrow.Author.Rules.{rules}
use borrow.Author.Tests.{ne_eqb}
use Rattle.collapse_newtypes.specs.Newtypes.{ctor_told}
use Rattle.collapse_newtypes.specs.NewtypesLaws.{head_name_low, ctor_name_low, ctor_within}
use Rattle.collapse_newtypes.proofs.ctor_of.Statement.{statement}
use Rattle.table_access.specs.Tables.{lines_in}
use Rattle.collapse_newtypes.proofs.ctor_of.Tie as tie

returns : tie.Need-returns-then-decl_number-eq2
unfolding ctor_told
returns c =
    let a = c in
    let e = c.decl_number.ensures in
    let r = c.decl_number-then-decl_number-eq2.ensures in
    (rw (← e, c.if-decl_number-eq2.true) r, omega (arith, r, head_name_low (lines_in a.args.t.now) a.requires.0.passed a.args.d a.requires.1.0))

ctor-number-requires : tie.Need-ctor_number-requires
ctor-number-requires c κs =
    let a = c in
    let e = c.decl_number.ensures in
    (a.requires.0, (omega (arith, c.first_ctor.ensures, ctor_within (lines_in a.args.t.now) a.requires.0.passed a.args.d a.requires.1.0 a.requires.1.1 (λ z. c.if-decl_number-eq2.false (e ∙ z))), omega arith))

returns-2 : tie.Need-returns
unfolding ctor_told
returns-2 c =
    let a = c in
    let e = c.decl_number.ensures in
    let f = c.first_ctor.ensures in
    let r = c.ctor_number.ensures in
    let w = ctor_within (lines_in a.args.t.now) a.requires.0.passed a.args.d a.requires.1.0 a.requires.1.1 (λ z. c.if-decl_number-eq2.false (e ∙ z)) in
    (rw (← e, ne_eqb _ _ c.if-decl_number-eq2.false, ← f) r, rw (r, f) (ctor_name_low (lines_in a.args.t.now) a.requires.0.passed a.args.d a.requires.1.0 _ w))

pub ctor_of_spec : {M : Type 1} → statement M
ctor_of_spec =
    tie.close
    (tie.spec
    (λ c κs. search rules)
    (λ c κs. search rules)
    (λ c. search rules)
    returns
    (λ c κs. search rules)
    ctor-number-requires
    (λ c. search rules)
    returns-2)
