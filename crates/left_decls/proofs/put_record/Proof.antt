-- `left_decls::put_record` meets its contract: the D and P lines with the count of kept fields, these, and the V line. Assumes nothing.
use Rattle.meaning.specs.Output.{field_lines}
use Rattle.table_declared.specs.PassedLaws.{fields_few}
use Rattle.left_fields.specs.Fields.{left_fields}
use Rattle.left_fields.specs.FieldsLaws.{growing_fields, kept_few}
use Rattle.left_decls.specs.HeadsLaws.{frame_head, frame_body, frame_end, frame_writes}
use Rattle.left_decls.specs.DeclsLaws.{record_is, room_same, writes_same}
use native.Mathlib.Omega.{arith}
use borrow.Author.Rules.{rules}
use Rattle.left_decls.proofs.put_record.Statement.{statement}
use Rattle.table_access.specs.Tables.{lines_in}
use Rattle.left_decls.proofs.put_record.Tie as tie

count-kept-requires : tie.Need-count_kept-m-requires
count-kept-requires c κs =
    let z = c in
    omega (arith, c.decl_number-n.ensures, c.first_field-i.ensures, z.requires.0.1.inside, z.requires.0.1.long)

cast-put-head : tie.Need-overflow_cast-m
cast-put-head c =
    let z = c in
    let a = z.args in
    omega (arith, c.count_kept-m.ensures, kept_few a.keep.now c.first_field-i.result c.decl_number-n.result, c.decl_number-n.ensures, z.requires.0.1.inside, fields_few (lines_in a.t.now) z.requires.0.1.tabled.passed)

put-head-requires : tie.Need-put_head-q-requires
put-head-requires c κs =
    let z = c in
    let a = z.args in
    let i = c.first_field-i.result in
    let n = c.decl_number-n.result in
    let m = c.count_kept-m.result in
    let e = record_is (lines_in a.t.now) a.keep.now a.d i n c.first_field-i.ensures c.decl_number-n.ensures m c.count_kept-m.ensures in
    let g = growing_fields (left_fields (lines_in a.t.now) a.keep.now a.d i n) in
    let r = room_same _ _ e a.p a.out.now z.requires.1.1 in
    ((z.requires.0.1.tabled, z.requires.0.0), frame_head (lines_in a.t.now) a.d 2 m (field_lines (left_fields (lines_in a.t.now) a.keep.now a.d i n)) g a.p a.p a.out.now a.out.now r)

put-fields-requires : tie.Need-put_fields-r-requires
put-fields-requires c κs =
    let z = c in
    let a = z.args in
    let i = c.first_field-i.result in
    let n = c.decl_number-n.result in
    let m = c.count_kept-m.result in
    let e = record_is (lines_in a.t.now) a.keep.now a.d i n c.first_field-i.ensures c.decl_number-n.ensures m c.count_kept-m.ensures in
    let g = growing_fields (left_fields (lines_in a.t.now) a.keep.now a.d i n) in
    let r = room_same _ _ e a.p a.out.now z.requires.1.1 in
    let w = c.put_head-q in
    (rw (c.first_field-i.ensures, c.decl_number-n.ensures) z.requires.0.1, (z.requires.1.0, frame_body (lines_in a.t.now) a.d 2 m (field_lines (left_fields (lines_in a.t.now) a.keep.now a.d i n)) g a.p w.result a.out.now _ r w.ensures))

put-end-requires : tie.Need-put_end-requires
put-end-requires c κs =
    let z = c in
    let a = z.args in
    let i = c.first_field-i.result in
    let n = c.decl_number-n.result in
    let m = c.count_kept-m.result in
    let e = record_is (lines_in a.t.now) a.keep.now a.d i n c.first_field-i.ensures c.decl_number-n.ensures m c.count_kept-m.ensures in
    let g = growing_fields (left_fields (lines_in a.t.now) a.keep.now a.d i n) in
    let r = room_same _ _ e a.p a.out.now z.requires.1.1 in
    let w = c.put_head-q in
    let v = c.put_fields-r in
    frame_end (lines_in a.t.now) a.d 2 m (field_lines (left_fields (lines_in a.t.now) a.keep.now a.d i n)) g a.p w.result a.out.now _ r w.ensures v.result _ v.ensures

returns : tie.Need-returns
returns c =
    let z = c in
    let a = z.args in
    let i = c.first_field-i.result in
    let n = c.decl_number-n.result in
    let m = c.count_kept-m.result in
    let e = record_is (lines_in a.t.now) a.keep.now a.d i n c.first_field-i.ensures c.decl_number-n.ensures m c.count_kept-m.ensures in
    let g = growing_fields (left_fields (lines_in a.t.now) a.keep.now a.d i n) in
    let r = room_same _ _ e a.p a.out.now z.requires.1.1 in
    let w = c.put_head-q in
    let v = c.put_fields-r in
    let y = c.put_end in
    writes_same _ _ e a.p y.result a.out.now _ (frame_writes (lines_in a.t.now) a.d 2 m (field_lines (left_fields (lines_in a.t.now) a.keep.now a.d i n)) g a.p w.result a.out.now _ r w.ensures v.result _ v.ensures y.result _ y.ensures)

pub put_record_spec : {M : Type 1} → statement M
put_record_spec =
    tie.close
    (tie.spec
    (λ c κs. let z = c in (z.requires.0.1.tabled, omega (arith, z.requires.0.0)))
    (λ c κs. let z = c in (z.requires.0.1.tabled, (z.requires.0.0, omega arith)))
    (λ c. search rules)
    count-kept-requires
    cast-put-head
    put-head-requires
    put-fields-requires
    put-end-requires
    (λ c. search rules)
    (λ c. search rules)
    (λ c. search rules)
    returns)
