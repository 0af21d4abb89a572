-- `keep_fields::put_fields` meets its contract, field after field.
use Rattle.std.proofs.Common.{◌≡◌, ◌∙◌, Bool, suc, ap, arith, add-one}
use Rattle.model.specs.Decl.{bit}
use Rattle.meaning.specs.Program.{field_line}
use Rattle.table_declared.specs.PassedLaws.{decls_few}
use Rattle.table_access.specs.Tables.{first_of, lines_in}
use Rattle.erasure_marks.specs.MarksLaws.{byte_bit}
use Rattle.erasure_laws.specs.BodiesLaws.{first_rises, first_le}
use Rattle.keep_fields.specs.Keeps.{field_kept}
use Rattle.keep_fields.specs.KeepsLaws.{partly_none, partly_next, partly_all}
use Rattle.keep_fields.proofs.put_fields.Goals as goal

pub overflow_add-d : goal.overflow_add-d
overflow_add-d c = omega (arith, c.requires.d_bound.0, decls_few _ c.requires.tabled.passed)

pub loop-f-init : goal.loop-f-init
loop-f-init c = rw c.first_field-first.ensures (partly_none _ _ _ c.requires.kept)

pub is_kept-requires : goal.is_kept-requires
is_kept-requires c =
    let ls = lines_in c.args.t.now in
    let e : c.first_field-end.result ≡ first_of field_line ls (suc c.args.d) = c.first_field-end.ensures ∙ rw add-one in
    record { tabled = c.requires.tabled; f_bound = (omega (arith, first_le field_line ls (suc c.args.d)), c.requires.d_bound.1) }

pub bounds-keep-f : goal.bounds-keep-f
bounds-keep-f c =
    let ls = lines_in c.args.t.now in
    let e : c.first_field-end.result ≡ first_of field_line ls (suc c.args.d) = c.first_field-end.ensures ∙ rw add-one in
    omega (arith, first_le field_line ls (suc c.args.d), c.loop-f.invariant.before.size)

pub loop-f-preserved : goal.loop-f-preserved
loop-f-preserved c =
    let ls = lines_in c.args.t.now in
    let l = c.loop-f in
    let e : c.first_field-end.result ≡ first_of field_line ls (suc c.args.d) = c.first_field-end.ensures ∙ rw add-one in
    let n = first_le field_line ls (suc c.args.d) in
    partly_next _ _ _ _ _ c.requires.d_bound.0 (omega (arith, c.first_field-first.ensures)) (omega (arith, l.invariant.before.size))
    (c.from.ensures ∙ byte_bit c.is_kept.result ∙ ap bit (c.is_kept.ensures ∙ ap (λ (v : Bool). field_kept ls l.f v) c.is_import-import.ensures))
    l.invariant

pub returns : goal.returns
returns c =
    let ls = lines_in c.args.t.now in
    let e : c.first_field-end.result ≡ first_of field_line ls (suc c.args.d) = c.first_field-end.ensures ∙ rw add-one in
    let r = first_rises ls c.args.d c.requires.d_bound.0 in
    partly_all _ _ _ _ (omega (arith, c.first_field-first.ensures)) c.loop-f.invariant
