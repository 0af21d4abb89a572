-- `pattern_records::decl_names` meets its contract. Assumes nothing.
use native.Mathlib.Omega.{arith}
use native.Mathlib.Numerals.{add-one}
use borrow.Author.Rules.{rules}
use Prim.Native.Nat.{◌+◌}
use Rattle.meaning.specs.Program.{field_line}
use Rattle.table_declared.specs.PassedLaws.{decls_few}
use Rattle.table_access.specs.Tables.{lines_in}
use Rattle.erasure_laws.specs.BodiesLaws.{first_le}
use Rattle.pattern_records.specs.Records.{decl_names}
use Rattle.pattern_records.proofs.decl_names.Statement.{statement}
use Rattle.pattern_records.proofs.decl_names.Tie as tie

add-first-field : tie.Need-overflow_add-d
add-first-field c = let a = c in omega (arith, a.requires.0.1, decls_few (lines_in a.args.t.now) a.requires.0.0.passed)

names-kept-requires : tie.Need-names_kept-requires
names-kept-requires c κs =
    let a = c in
    let l = first_le field_line (lines_in a.args.t.now) (a.args.d + 1) in
    (a.requires.0.0, (omega (arith, c.first_field-end.ensures, l), omega (arith, c.first_field-end.ensures, l, a.requires.1)))

returns : tie.Need-returns
unfolding decl_names
returns c = rw (c.names_kept.ensures, c.first_field-from.ensures, c.first_field-end.ensures, add-one)

pub decl_names_spec : {M : Type 1} → statement M
decl_names_spec = tie.close (tie.spec (λ c κs. search rules) add-first-field (λ c κs. search rules) names-kept-requires returns)
