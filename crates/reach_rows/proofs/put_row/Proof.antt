-- `reach_rows::put_row` meets its contract. Assumes nothing.
use mathlib.Core.Path.{◌≡◌, sym, ◌∙◌}
use Prim.Native.Nat.{suc}
use native.Mathlib.Omega.{arith}
use native.Mathlib.Numerals.{add-one}
use borrow.Author.Rules.{rules}
use Rattle.meaning.specs.Program.{field_line}
use Rattle.table_declared.specs.PassedLaws.{decls_few}
use Rattle.table_access.specs.Tables.{lines_in, first_of}
use Rattle.erasure_laws.specs.BodiesLaws.{first_le, first_rises}
use Rattle.reach_rows.specs.StepsLaws.{last_room, row_type, row_fields}
use Rattle.reach_rows.proofs.put_row.Statement.{statement}
use Rattle.reach_rows.proofs.put_row.Tie as tie

mul-unite : tie.Need-overflow_mul-y
mul-unite c =
    let p = c.requires in
    omega (arith, last_room _ p.0.passed _ _ p.1.0 _ _ p.1.1.0 (sym c.decl_number.ensures ∙ c.if-decl_number-eq1.true) c.decl_number-y.ensures)

unite-requires : tie.Need-unite-requires
unite-requires c κs =
    let p = c.requires in (
      omega (arith, p.1.1.1, c.clear.auto.s),
      last_room _ p.0.passed _ _ p.1.0 _ _ p.1.1.0 (sym c.decl_number.ensures ∙ c.if-decl_number-eq1.true) c.decl_number-y.ensures,
    )

returns : tie.Need-returns-then-decl_number-eq1
returns c =
    rw
    (c.unite.ensures, c.clear.ensures)
    (row_type _ _ _ _ _ _ (sym c.decl_number.ensures ∙ c.if-decl_number-eq1.true) c.decl_number-y.ensures)

add-first-field : tie.Need-overflow_add-d
add-first-field c =
    let a = c in
    omega (arith, a.requires.1.1.0, decls_few (lines_in a.args.t.now) a.requires.0.passed)

put-fields-requires : tie.Need-put_fields-requires
put-fields-requires c κs =
    let a = c in
    let ls = lines_in a.args.t.now in
    let e : c.first_field-end.result ≡ first_of field_line ls (suc a.args.d) = c.first_field-end.ensures ∙ rw add-one in (
      a.requires.0,
      (
        a.requires.1.0,
        (
          (omega (arith, c.first_field-first.ensures, e, first_rises ls a.args.d a.requires.1.1.0), omega (arith, e, first_le field_line ls (suc a.args.d))),
          omega (arith, a.requires.1.1.1, c.clear.auto.s),
        ),
      ),
    )

returns-2 : tie.Need-returns
returns-2 c =
    rw
    (c.put_fields.ensures, c.clear.ensures)
    (row_fields _ _ _ _ _ _ _ (λ k. c.if-decl_number-eq1.false (c.decl_number.ensures ∙ k)) c.first_field-first.ensures (c.first_field-end.ensures ∙ rw add-one))

pub put_row_spec : {M : Type 1} → statement M
put_row_spec =
    tie.close
    (tie.spec
    (λ c. search rules)
    (λ c κs. search rules)
    (λ c κs. search rules)
    (λ c κs. search rules)
    (λ c. search rules)
    mul-unite
    unite-requires
    (λ c. search rules)
    returns
    (λ c κs. search rules)
    add-first-field
    (λ c κs. search rules)
    put-fields-requires
    (λ c. search rules)
    returns-2)
