-- `rank_bounds::mark` meets its contract. Assumes nothing.
use native.Mathlib.Omega.{arith}
use borrow.Author.Rules.{rules}
use Rattle.form_tables.specs.Bounds.{marked_set, marked_past}
use Rattle.form_tables.proofs.rank_bounds.mark.Statement.{statement}
use Rattle.form_tables.proofs.rank_bounds.mark.Tie as tie

pub mark_spec : {M : Type 1} → statement M
mark_spec =
    tie.close
    (tie.spec
    (λ c. search rules)
    (λ c. search rules)
    (λ c. search rules)
    (λ c. marked_set _ _ _ (omega (arith, c.if-r-a.true)))
    (λ c. marked_past _ _ _ (omega (arith, c.if-r-a.false))))
