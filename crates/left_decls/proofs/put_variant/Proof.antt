-- `left_decls::put_variant` meets its contract: the D and P lines, the constructors, and the V line. Assumes nothing.
use Rattle.meaning.specs.Output.{ctor_lines}
use Rattle.left_ctors.specs.Ctors.{left_ctors}
use Rattle.left_ctors.specs.CtorsLaws.{growing_ctors}
use Rattle.left_decls.specs.HeadsLaws.{frame_head, frame_body, frame_end, frame_writes}
use Rattle.left_decls.specs.DeclsLaws.{variant_is, room_same, writes_same}
use native.Mathlib.Omega.{arith}
use borrow.Author.Rules.{rules}
use Rattle.left_decls.proofs.put_variant.Statement.{statement}
use Rattle.table_access.specs.Tables.{lines_in}
use Rattle.left_decls.proofs.put_variant.Tie as tie

put-head-requires : tie.Need-put_head-q-requires
put-head-requires c κs =
    let z = c in
    let a = z.args in
    let x = c.first_ctor-c.result in
    let i = c.first_field-i.result in
    let k = c.decl_number-k.result in
    let e = variant_is (lines_in a.t.now) a.keep.now a.d i k c.first_field-i.ensures c.decl_number-k.ensures x c.first_ctor-c.ensures in
    let g = growing_ctors (left_ctors (lines_in a.t.now) a.keep.now a.d x i k) in
    let r = room_same _ _ e a.p a.out.now z.requires.1.1 in
    ((z.requires.0.1.fields.tabled, z.requires.0.0), frame_head (lines_in a.t.now) a.d 3 k (ctor_lines (left_ctors (lines_in a.t.now) a.keep.now a.d x i k)) g a.p a.p a.out.now a.out.now r)

put-ctors-requires : tie.Need-put_ctors-r-requires
put-ctors-requires c κs =
    let z = c in
    let a = z.args in
    let x = c.first_ctor-c.result in
    let i = c.first_field-i.result in
    let k = c.decl_number-k.result in
    let e = variant_is (lines_in a.t.now) a.keep.now a.d i k c.first_field-i.ensures c.decl_number-k.ensures x c.first_ctor-c.ensures in
    let g = growing_ctors (left_ctors (lines_in a.t.now) a.keep.now a.d x i k) in
    let r = room_same _ _ e a.p a.out.now z.requires.1.1 in
    let w = c.put_head-q in
    (rw (c.first_ctor-c.ensures, c.first_field-i.ensures, c.decl_number-k.ensures) z.requires.0.1, (z.requires.1.0, frame_body (lines_in a.t.now) a.d 3 k (ctor_lines (left_ctors (lines_in a.t.now) a.keep.now a.d x i k)) g a.p w.result a.out.now _ r w.ensures))

put-end-requires : tie.Need-put_end-requires
put-end-requires c κs =
    let z = c in
    let a = z.args in
    let x = c.first_ctor-c.result in
    let i = c.first_field-i.result in
    let k = c.decl_number-k.result in
    let e = variant_is (lines_in a.t.now) a.keep.now a.d i k c.first_field-i.ensures c.decl_number-k.ensures x c.first_ctor-c.ensures in
    let g = growing_ctors (left_ctors (lines_in a.t.now) a.keep.now a.d x i k) in
    let r = room_same _ _ e a.p a.out.now z.requires.1.1 in
    let w = c.put_head-q in
    let v = c.put_ctors-r in
    frame_end (lines_in a.t.now) a.d 3 k (ctor_lines (left_ctors (lines_in a.t.now) a.keep.now a.d x i k)) g a.p w.result a.out.now _ r w.ensures v.result _ v.ensures

returns : tie.Need-returns
returns c =
    let z = c in
    let a = z.args in
    let x = c.first_ctor-c.result in
    let i = c.first_field-i.result in
    let k = c.decl_number-k.result in
    let e = variant_is (lines_in a.t.now) a.keep.now a.d i k c.first_field-i.ensures c.decl_number-k.ensures x c.first_ctor-c.ensures in
    let g = growing_ctors (left_ctors (lines_in a.t.now) a.keep.now a.d x i k) in
    let r = room_same _ _ e a.p a.out.now z.requires.1.1 in
    let w = c.put_head-q in
    let v = c.put_ctors-r in
    let y = c.put_end in
    writes_same _ _ e a.p y.result a.out.now _ (frame_writes (lines_in a.t.now) a.d 3 k (ctor_lines (left_ctors (lines_in a.t.now) a.keep.now a.d x i k)) g a.p w.result a.out.now _ r w.ensures v.result _ v.ensures y.result _ y.ensures)

pub put_variant_spec : {M : Type 1} → statement M
put_variant_spec =
    tie.close
    (tie.spec
    (λ c κs. let z = c in (z.requires.0.1.fields.tabled, omega (arith, z.requires.0.0)))
    (λ c κs. let z = c in (z.requires.0.1.fields.tabled, omega (arith, z.requires.0.0)))
    (λ c κs. let z = c in (z.requires.0.1.fields.tabled, (z.requires.0.0, omega arith)))
    put-head-requires
    (λ c. search rules)
    put-ctors-requires
    put-end-requires
    (λ c. search rules)
    (λ c. search rules)
    (λ c. search rules)
    returns)
