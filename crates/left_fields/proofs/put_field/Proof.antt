-- `left_fields::put_field` meets its contract: the type first, and then the line with its number. Assumes nothing.
use Rattle.left_fields.specs.FieldsLaws.{type_room_at, number_at, line_room_at, writes_at}
use native.Mathlib.Omega.{arith}
use borrow.Author.Rules.{rules}
use Rattle.left_fields.proofs.put_field.Statement.{statement}
use Rattle.table_access.specs.Tables.{lines_in}
use Rattle.left_fields.proofs.put_field.Tie as tie

put-type-requires : tie.Need-put_type-q-requires
put-type-requires c κs =
    let z = c in
    let a = z.args in
    let e = c.field_number-y.ensures in
    (rw e z.requires.0.0, (z.requires.1.0, type_room_at (lines_in a.t.now) a.d a.i c.field_number-y.result a.p a.p a.out.now a.out.now z.requires.1.1 e))

sub-n : tie.Need-overflow_sub-n
sub-n c =
    let z = c in
    let a = z.args in
    let w = c.put_type-q in
    omega (arith, number_at (lines_in a.t.now) a.d a.i c.field_number-y.result a.p w.result a.out.now _ z.requires.1.1 c.field_number-y.ensures w.ensures)

cast-n : tie.Need-overflow_cast-n
cast-n c =
    let z = c in
    let a = z.args in
    let w = c.put_type-q in
    omega (arith, number_at (lines_in a.t.now) a.d a.i c.field_number-y.result a.p w.result a.out.now _ z.requires.1.1 c.field_number-y.ensures w.ensures)

put-line-requires : tie.Need-put_line-requires
put-line-requires c κs =
    let z = c in
    let a = z.args in
    let w = c.put_type-q in
    line_room_at (lines_in a.t.now) a.d a.i c.field_number-y.result a.p w.result a.out.now _ z.requires.1.1 c.field_number-y.ensures w.ensures _ c.field_number-name.ensures

returns : tie.Need-returns
returns c =
    let z = c in
    let a = z.args in
    let w = c.put_type-q in
    writes_at (lines_in a.t.now) a.d a.i c.field_number-y.result a.p w.result a.out.now _ z.requires.1.1 c.field_number-y.ensures w.ensures _ c.field_number-name.ensures _ _ c.put_line.ensures

pub put_field_spec : {M : Type 1} → statement M
put_field_spec =
    tie.close
    (tie.spec
    (λ c κs. search rules)
    (λ c. search rules)
    put-type-requires
    (λ c κs. let z = c in (z.requires.0.0.asked.tabled, (z.requires.0.1, omega arith)))
    sub-n
    cast-n
    put-line-requires
    (λ c. search rules)
    (λ c. search rules)
    (λ c. search rules)
    returns)
