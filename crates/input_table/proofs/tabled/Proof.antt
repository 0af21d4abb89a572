-- `input_table::tabled` meets its contract, by the refusal of rows 2 to 7. Assumes nothing.
use mathlib.Core.Path.{refl, ap, sym, ◌∙◌}
use Prim.Native.Nat.{◌+◌, ◌*◌, ◌/◌}
use native.Mathlib.Omega.{arith}
use lib.ListN.{length}
use borrow.Author.Rules.{rules}
use Rattle.rows_refusals.specs.declared.Checked.{Checked}
use Rattle.input_table.specs.TableLaws.{checked_lines, refuses_of, refusal_is, fronted_all}
use Rattle.input_table.proofs.tabled.Statement.{statement}
use Rattle.input_table.proofs.tabled.Tie as tie

filled-requires : tie.Need-filled-cells-requires
filled-requires c κs =
    let s = c in
    let r = c.check_rows-checked in
    checked_lines s.args.s.now s.args.t.now c.check_rows-checked.result s.requires.0 (11 + length s.args.s.now / 32 * 6) c.check_rows-checked.new.t c.check_rows-checked.ensures c.in-Accepted.is (search rules) (omega (arith, s.requires.1))

refused-requires : tie.Need-refused-requires
refused-requires c κs =
    let s = c in
    let r = c.check_rows-checked in
    refuses_of s.args.s.now _ _ _ s.requires.0 (ap (λ (k : Checked). k.refusal) (sym c.check_rows-checked.ensures.answer) ∙ c.in-Refused.is) (search rules)

returns : tie.Need-returns-in-Accepted
returns c =
    let s = c in
    let r = c.check_rows-checked in
    let sheet = sym (refusal_is s.args.s.now c.check_rows-checked.result c.check_rows-checked.ensures.answer) ∙ c.in-Accepted.is in
    fronted_all s.args.s.now _ _ s.requires.0 sheet (omega (arith, s.requires.1, c.t-1.given.1)) _ c.filled-cells.ensures _ refl

pub tabled_spec : {M : Type 1} → statement M
tabled_spec =
    tie.close
    (tie.spec
    (λ c. search rules)
    (λ c. search rules)
    (λ c. search rules)
    (λ c. search rules)
    (λ c. search rules)
    (λ c κs. search rules)
    (λ c. search rules)
    filled-requires
    (λ c. search rules)
    refused-requires
    (λ c. search rules)
    returns
    (λ c. search rules)
    (λ c. search rules))
