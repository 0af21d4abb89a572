-- `keep_fields::is_kept` meets its contract, by the letter of the declaration. Assumes nothing.
use native.Mathlib.Omega.{arith}
use borrow.Author.Rules.{rules}
use Rattle.erasure_laws.specs.BodiesLaws.{field_types}
use Rattle.keep_fields.specs.KeepsLaws.{kept_local}
use Rattle.keep_fields.proofs.is_kept.Statement.{statement}
use Rattle.table_access.specs.Tables.{lines_in}
use Rattle.keep_fields.proofs.is_kept.Tie as tie

returns : tie.Need-returns-then-import
returns c = rw (c.if-import.true, c.field_number.ensures)

shared-slice-read-result : tie.Need-bounds-node-y
shared-slice-read-result c =
    let a = c in
    omega (arith, c.field_number-y.ensures, field_types (lines_in a.args.t.now) a.requires.0.passed a.args.f a.requires.1.0, a.requires.1.1.size)

returns-2 : tie.Need-returns
returns-2 c =
    let a = c in
    rw (c.if-import.false, c.field_number-y.ensures) (kept_local (lines_in a.args.t.now) a.args.node.now a.args.f a.requires.1.1 (field_types (lines_in a.args.t.now) a.requires.0.passed a.args.f a.requires.1.0))

pub is_kept_spec : {M : Type 1} → statement M
is_kept_spec =
    tie.close
    (tie.spec
    (λ c κs. search rules)
    returns
    (λ c κs. search rules)
    (λ c. search rules)
    shared-slice-read-result
    returns-2)
