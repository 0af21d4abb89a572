-- `erasure_fields::fields_erased` meets its contract, by its search.
use Rattle.std.proofs.Common.{◌≡◌, ◌∙◌, ℕ, suc, max, arith, add-one}
use Rattle.meaning.specs.Program.{field_line}
use Rattle.table_declared.specs.PassedLaws.{types_few, fields_few}
use Rattle.table_access.specs.Tables.{first_of, lines_in}
use Rattle.erasure_laws.specs.Bodies.{Higher}
use Rattle.erasure_laws.specs.BodiesLaws.{first_rises, below_of, field_types, first_le, fields_kept, fields_gone}
use Rattle.erasure_fields.proofs.fields_erased.Goals as goal

higher : (a b r : ℕ) → r ≡ max a b → Higher a b r
higher a b r e = record { left = omega arith; right = omega arith; one = λ c h k. omega arith }

pub first_kept-r-requires : goal.first_kept-r-requires
first_kept-r-requires c =
    let p = c.requires in
    let ls = lines_in c.args.t.now in
    let e : c.first_field-end.result ≡ first_of field_line ls (suc c.args.d) = c.first_field-end.ensures ∙ rw add-one in
    let w = p.state.places.within c.args.d p.d_bound.0 in
    let r = first_rises ls c.args.d p.d_bound.0 in
    record {
      tabled = p.tabled;
      decl_len = p.state.decl_size;
      from_le_end = (omega (arith, c.first_field-first.ensures, c.max-from.ensures), rw e (below_of ls p.tabled.passed (suc c.args.d)));
      marks = p.state.marks;
    }

pub overflow_cast-field-then-f-end : goal.overflow_cast-field-then-f-end
overflow_cast-field-then-f-end c =
    let ls = lines_in c.args.t.now in
    let e : c.first_field-end.result ≡ first_of field_line ls (suc c.args.d) = c.first_field-end.ensures ∙ rw add-one in
    omega (arith, first_le field_line ls (suc c.args.d), fields_few ls c.requires.tabled.passed)

pub field_number-requires-clause-f_bound : goal.field_number-requires-clause-f_bound
field_number-requires-clause-f_bound c =
    let ls = lines_in c.args.t.now in
    let e : c.first_field-end.result ≡ first_of field_line ls (suc c.args.d) = c.first_field-end.ensures ∙ rw add-one in
    (omega (arith, first_le field_line ls (suc c.args.d)), omega arith)

pub overflow_cast-wait : goal.overflow_cast-wait
overflow_cast-wait c =
    let ls = lines_in c.args.t.now in
    let p = c.requires.tabled.passed in
    let e : c.first_field-end.result ≡ first_of field_line ls (suc c.args.d) = c.first_field-end.ensures ∙ rw add-one in
    omega (arith, c.field_number.ensures, field_types ls p c.first_kept-r.result.number (omega (arith, first_le field_line ls (suc c.args.d))), types_few ls p)

pub returns-then-f-end : goal.returns-then-f-end
returns-then-f-end c =
    let p = c.requires in
    let k = c.first_kept-r in
    let e : c.first_field-end.result ≡ first_of field_line (lines_in c.args.t.now) (suc c.args.d) = c.first_field-end.ensures ∙ rw add-one in
    rw c.field_number.ensures
    (fields_kept _ _ _ _ _ _ _ _ _ _ p.state p.d_bound.0 p.d_bound.1 _ (rw c.first_field-first.ensures at (higher _ _ _ c.max-from.ensures)) _ (rw e at k.ensures) (rw e at c.if-f-end.true))

pub returns : goal.returns
returns c =
    let p = c.requires in
    let k = c.first_kept-r in
    let e : c.first_field-end.result ≡ first_of field_line (lines_in c.args.t.now) (suc c.args.d) = c.first_field-end.ensures ∙ rw add-one in
    fields_gone _ _ _ _ _ _ _ _ _ _ p.state p.d_bound.0 p.d_bound.1 _ (rw c.first_field-first.ensures at (higher _ _ _ c.max-from.ensures)) _ (rw e at k.ensures) (rw e at c.if-f-end.false)
