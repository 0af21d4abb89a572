-- `left_ctors::put_ctor` meets its contract: the kept fields are counted, and then written behind the C line. Assumes nothing.
use Rattle.left_fields.specs.FieldsLaws.{kept_few}
use Rattle.left_ctors.specs.CtorsLaws.{ctor_line_room, ctor_fields_room, ctor_writes}
use native.Mathlib.Omega.{arith}
use borrow.Author.Rules.{rules}
use Rattle.table_declared.specs.PassedLaws.{fields_few}
use Rattle.left_ctors.proofs.put_ctor.Statement.{statement}
use Rattle.table_access.specs.Tables.{lines_in}
use Rattle.left_ctors.proofs.put_ctor.Tie as tie

count-kept-requires : tie.Need-count_kept-m-requires
count-kept-requires c κs =
    let z = c in
    omega (arith, c.ctor_number-n.ensures, z.requires.0.0.inside, z.requires.0.0.long)

cast-t16 : tie.Need-overflow_cast-m
cast-t16 c =
    let z = c in
    let a = z.args in
    omega (arith, c.count_kept-m.ensures, kept_few a.keep.now a.i c.ctor_number-n.result, c.ctor_number-n.ensures, z.requires.0.0.inside, fields_few (lines_in a.t.now) z.requires.0.0.tabled.passed)

put-line-requires : tie.Need-put_line-q-requires
put-line-requires c κs =
    let z = c in
    let a = z.args in
    ctor_line_room (lines_in a.t.now) a.keep.now a.d a.c a.i _ c.ctor_number-n.result _ a.p a.p a.out.now a.out.now z.requires.1.1 c.ctor_number-name.ensures c.ctor_number-n.ensures c.count_kept-m.ensures

put-fields-requires : tie.Need-put_fields-requires
put-fields-requires c κs =
    let z = c in
    let a = z.args in
    let e = c.ctor_number-n.ensures in
    (rw e z.requires.0.0, (z.requires.1.0, ctor_fields_room (lines_in a.t.now) a.keep.now a.d a.c a.i _ c.ctor_number-n.result _ a.p c.put_line-q.result a.out.now _ z.requires.1.1 c.ctor_number-name.ensures e c.count_kept-m.ensures c.put_line-q.ensures))

returns : tie.Need-returns
returns c =
    let z = c in
    let a = z.args in
    ctor_writes (lines_in a.t.now) a.keep.now a.d a.c a.i _ c.ctor_number-n.result _ a.p c.put_line-q.result a.out.now _ z.requires.1.1 c.ctor_number-name.ensures c.ctor_number-n.ensures c.count_kept-m.ensures c.put_line-q.ensures _ _ c.put_fields.ensures

pub put_ctor_spec : {M : Type 1} → statement M
put_ctor_spec =
    tie.close
    (tie.spec
    (λ c κs. search rules)
    (λ c. search rules)
    (λ c κs. search rules)
    count-kept-requires
    cast-t16
    put-line-requires
    put-fields-requires
    (λ c. search rules)
    (λ c. search rules)
    (λ c. search rules)
    returns)
