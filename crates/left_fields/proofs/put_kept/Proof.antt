-- `left_fields::put_kept` meets its contract. Assumes nothing.
use Rattle.left_fields.specs.FieldsLaws.{kept_no, kept_room, kept_writes}
use native.Mathlib.Omega.{arith}
use borrow.Author.Rules.{rules}
use Rattle.left_fields.proofs.put_kept.Statement.{statement}
use Rattle.table_access.specs.Tables.{lines_in}
use Rattle.left_fields.proofs.put_kept.Tie as tie

returns : tie.Need-returns-then-keep-i-ne1
returns c =
    let a = c.args in
    kept_no (lines_in a.t.now) a.keep.now a.d a.i a.p a.p a.out.now a.out.now c.if-keep-i-ne1.true

put-field-requires : tie.Need-put_field-requires
put-field-requires c κs =
    let z = c in
    let a = z.args in
    let e = c.if-keep-i-ne1.false in
    ((z.requires.0.types a.i (omega arith) (omega arith) e, omega (arith, z.requires.0.inside)), (z.requires.1.0, kept_room (lines_in a.t.now) a.keep.now a.d a.i a.p a.p a.out.now a.out.now e z.requires.1.1))

returns-2 : tie.Need-returns
returns-2 c =
    let a = c.args in
    let w = c.put_field in
    kept_writes (lines_in a.t.now) a.keep.now a.d a.i a.p w.result a.out.now _ c.if-keep-i-ne1.false w.ensures

pub put_kept_spec : {M : Type 1} → statement M
put_kept_spec =
    tie.close
    (tie.spec
    (λ c. let z = c in omega (arith, z.requires.0.inside, z.requires.0.long))
    returns
    put-field-requires
    (λ c. search rules)
    (λ c. search rules)
    (λ c. search rules)
    returns-2)
