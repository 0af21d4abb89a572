-- `node_lines::first_of` meets its contract, by the test. Assumes nothing.
use borrow.Author.Tests.{eq-eqb, ne_eqb}
use Rattle.form_laws.specs.Nodes.{first_of}
use Rattle.left_emitter.proofs.node_lines.first_of.Statement.{statement}
use Rattle.left_emitter.proofs.node_lines.first_of.Tie as tie

returns : tie.Need-returns-then-n-eq0
unfolding first_of
returns c = rw (eq-eqb _ _ c.if-n-eq0.true)

returns-2 : tie.Need-returns
unfolding first_of
returns-2 c = rw (ne_eqb _ _ c.if-n-eq0.false)

pub first_of_spec : {M : Type 1} → statement M
first_of_spec = tie.close (tie.spec returns returns-2)
