-- `left_records::record_of` meets its contract, test after test. Assumes nothing.
use mathlib.Core.Path.{refl, sym, ap, ◌∙◌}
use Prim.Native.Nat.{◌+◌}
use native.Mathlib.Omega.{arith}
use native.Mathlib.Numerals.{add-one}
use Rattle.sheet.specs.Line.{number}
use Rattle.meaning.specs.Program.{field_line}
use Rattle.row4_limits.specs.Limits.{start}
use Rattle.table_declared.specs.PassedLaws.{decls_few}
use Rattle.table_access.specs.Tables.{head_line, first_of, lines_in}
use Rattle.keep_laws.specs.KeptLaws.{total_variant}
use Rattle.resolve_kids.specs.ParamsLaws.{count_before_le}
use Rattle.left_records.specs.RecordsLaws.{by_none, by_source, by_newtype, by_kind, by_last, by_kept}
use borrow.Author.Rules.{rules}
use Rattle.left_records.proofs.record_of.Statement.{statement}
use Rattle.left_records.proofs.record_of.Tie as tie

returns : tie.Need-returns-then-left-d-eq0
returns c = let a = c.args in sym (by_none (lines_in a.t.now) a.u.now a.keep.now a.left.now a.d (number (head_line (lines_in a.t.now) a.d) 1) refl c.if-left-d-eq0.true)

returns-2 : tie.Need-returns-then-flags-eq1
returns-2 c = let a = c.args in sym (by_source (lines_in a.t.now) a.u.now a.keep.now a.left.now a.d c.decl_number-flags.result c.decl_number-flags.ensures c.if-left-d-eq0.false c.if-flags-eq1.true)

state-requires : tie.Need-state-requires
state-requires c κs = omega (arith, c.requires.0.1, decls_few (lines_in c.args.t.now) c.requires.0.0.passed)

returns-3 : tie.Need-returns-then-state-eq1
returns-3 c = let a = c.args in sym (by_newtype (lines_in a.t.now) a.u.now a.keep.now a.left.now a.d c.decl_number-flags.result c.decl_number-flags.ensures c.if-left-d-eq0.false c.if-flags-eq1.false (sym c.state.ensures ∙ c.if-state-eq1.true))

returns-4 : tie.Need-returns-then-decl_number-ne3
returns-4 c =
    let a = c.args in
    sym (by_kind (lines_in a.t.now) a.u.now a.keep.now a.left.now a.d c.decl_number-flags.result c.decl_number-flags.ensures c.if-left-d-eq0.false c.if-flags-eq1.false (λ e. c.if-state-eq1.false (c.state.ensures ∙ e)) (λ e. c.if-decl_number-ne3.true (c.decl_number.ensures ∙ e)))

returns-5 : tie.Need-returns-then-decl_number-ne1
returns-5 c =
    let a = c.args in
    sym (by_last (lines_in a.t.now) a.u.now a.keep.now a.left.now a.d c.decl_number-flags.result c.decl_number-flags.ensures c.if-left-d-eq0.false c.if-flags-eq1.false (λ e. c.if-state-eq1.false (c.state.ensures ∙ e)) (sym c.decl_number.ensures ∙ c.if-decl_number-ne3.false) (λ e. c.if-decl_number-ne1.true (c.decl_number-2.ensures ∙ e)))

any-kept-requires : tie.Need-any_kept-requires
any-kept-requires c κs =
    let a = c.args in
    let ls = lines_in a.t.now in (
      omega (arith, c.first_field.ensures, c.first_field-2.ensures, ap (first_of field_line ls) (add-one a.d), total_variant ls c.requires.0.0.passed a.d c.requires.0.1 (sym c.decl_number.ensures ∙ c.if-decl_number-ne3.false)),
      omega (arith, c.first_field-2.ensures, c.requires.1.0, count_before_le field_line ls (start ls (a.d + 1))),
    )

returns-6 : tie.Need-returns
returns-6 c =
    let a = c.args in
    c.any_kept.ensures
    ∙ sym (by_kept (lines_in a.t.now) a.u.now a.keep.now a.left.now a.d c.decl_number-flags.result c.decl_number-flags.ensures c.if-left-d-eq0.false c.if-flags-eq1.false (λ e. c.if-state-eq1.false (c.state.ensures ∙ e)) (sym c.decl_number.ensures ∙ c.if-decl_number-ne3.false) (sym c.decl_number-2.ensures ∙ c.if-decl_number-ne1.false) c.first_field.result c.first_field-2.result c.first_field.ensures c.first_field-2.ensures)

pub record_of_spec : {M : Type 1} → statement M
record_of_spec =
    tie.close
    (tie.spec
    (λ c. search rules)
    returns
    (λ c κs. search rules)
    returns-2
    state-requires
    returns-3
    (λ c κs. search rules)
    returns-4
    (λ c κs. search rules)
    returns-5
    (λ c κs. search rules)
    (λ c. search rules)
    (λ c κs. search rules)
    any-kept-requires
    returns-6)
