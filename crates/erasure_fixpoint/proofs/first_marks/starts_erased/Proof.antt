-- `first_marks::starts_erased` meets its contract, by the letter of the declaration. Assumes nothing.
use mathlib.Core.Path.{ap, sym, ◌∙◌}
use Prim.Native.Nat.{ℕ}
use lib.Dec.{eqb}
use borrow.Author.Rules.{rules}
use Rattle.erasure_laws.specs.FixpointLaws.{starts_import, starts_local}
use Rattle.erasure_fixpoint.proofs.first_marks.starts_erased.Statement.{statement}
use Rattle.table_access.specs.Tables.{lines_in}
use Rattle.erasure_fixpoint.proofs.first_marks.starts_erased.Tie as tie

returns : tie.Need-returns-then-is_import
returns c =
    let a = c in
    ap (λ (x : ℕ). eqb x 1) c.verdict_number.ensures ∙ sym (starts_import (lines_in a.args.t.now) a.requires.0.passed a.args.d a.requires.1 (sym c.is_import.ensures ∙ c.if-is_import.true))

returns-2 : tie.Need-returns
returns-2 c =
    let a = c in
    sym (starts_local (lines_in a.args.t.now) a.args.d a.requires.1 (sym c.is_import.ensures ∙ c.if-is_import.false))

pub starts_erased_spec : {M : Type 1} → statement M
starts_erased_spec =
    tie.close
    (tie.spec
    (λ c κs. search rules)
    (λ c κs. search rules)
    returns
    returns-2)
