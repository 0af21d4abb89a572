-- `left_flags::is_variable` meets its contract, by the kind and the own number.
use Rattle.std.proofs.Common.{sym, ◌∙◌, eq-eqb, ne_eqb}
use Rattle.left_flags.specs.Flags.{is_var}
use Rattle.left_flags.proofs.is_variable.Goals as goal

pub returns-then-kind-eq3 : goal.returns-then-kind-eq3
unfolding is_var
returns-then-kind-eq3 c = rw (eq-eqb _ 3 (sym c.kind.ensures ∙ c.if-kind-eq3.true), ← c.own.ensures)

pub returns-else-kind-eq3 : goal.returns-else-kind-eq3
unfolding is_var
returns-else-kind-eq3 c = rw (ne_eqb _ 3 (λ e. c.if-kind-eq3.false (c.kind.ensures ∙ e))) (ne_eqb _ 3 c.if-kind-eq3.false)
