-- `collapse_newtypes::only_kept` meets its contract, by the count of constructors. Assumes nothing.
use mathlib.Core.Path.{ap, sym, ◌∙◌}
use Prim.Native.Nat.{◌+◌}
use native.Mathlib.Omega.{arith}
use native.Mathlib.Numerals.{add-one}
use borrow.Author.Rules.{rules}
use Rattle.meaning.specs.Program.{field_line}
use Rattle.table_declared.specs.PassedLaws.{decls_few}
use Rattle.table_access.specs.Tables.{first_of, lines_in}
use Rattle.erasure_laws.specs.BodiesLaws.{first_rises, first_le}
use Rattle.collapse_newtypes.specs.NewtypesLaws.{told_none, told_one}
use Rattle.collapse_newtypes.proofs.only_kept.Statement.{statement}
use Rattle.collapse_newtypes.proofs.only_kept.Tie as tie

add-first-field : tie.Need-overflow_add-d
add-first-field c = let a = c in omega (arith, a.requires.1.0, decls_few (lines_in a.args.t.now) a.requires.0.passed)

only-in-requires : tie.Need-only_in-requires
only-in-requires c κs =
    let a = c in
    let ls = lines_in a.args.t.now in
    let e = c.first_field-then-one_ctor.ensures ∙ ap (first_of field_line ls) (add-one a.args.d) in
    (omega (arith, e, c.first_field.ensures, first_rises ls a.args.d a.requires.1.0), omega (arith, c.first_field-then-one_ctor.ensures, first_le field_line ls (a.args.d + 1), a.requires.1.2))

returns : tie.Need-returns-then-one_ctor
returns c =
    let a = c in
    told_one (lines_in a.args.t.now) a.requires.0.passed a.args.d a.requires.1.0 a.args.keep.now a.requires.1.1 c.only_in.result c.first_field.result c.first_field-then-one_ctor.result
    (sym c.one_ctor.ensures ∙ c.if-one_ctor.true) c.first_field.ensures c.first_field-then-one_ctor.ensures c.only_in.ensures

returns-2 : tie.Need-returns
returns-2 c =
    let a = c in
    told_none (lines_in a.args.t.now) a.requires.0.passed a.args.d a.requires.1.0 a.args.keep.now a.requires.1.1 (sym c.one_ctor.ensures ∙ c.if-one_ctor.false)

pub only_kept_spec : {M : Type 1} → statement M
only_kept_spec =
    tie.close
    (tie.spec
    (λ c κs. search rules)
    (λ c κs. search rules)
    add-first-field
    (λ c κs. search rules)
    only-in-requires
    returns
    returns-2)
