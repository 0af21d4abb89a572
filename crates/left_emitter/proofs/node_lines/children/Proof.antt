-- `node_lines::children` meets its contract, by the test of the kind. Assumes nothing.
use Prim.Native.Nat.{◌≤◌, ◌<◌}
use native.Mathlib.Omega.{arith}
use borrow.Author.Rules.{rules}
use borrow.Author.Tests.{le-leb, lt-leb}
use Rattle.form_laws.specs.Nodes.{taken}
use Rattle.left_emitter.proofs.node_lines.children.Statement.{statement}
use Rattle.left_emitter.proofs.node_lines.children.Tie as tie

returns : tie.Need-returns-then-kind-le6
unfolding taken
returns c =
    let h : c.kind.result ≤ 6 = omega arith in
    rw (← c.kind.ensures, le-leb _ _ h)

returns-2 : tie.Need-returns
unfolding taken
returns-2 c =
    let h : 6 < c.kind.result = omega arith in
    rw (← c.kind.ensures, lt-leb _ _ h, ← c.count.ensures)

pub children_spec : {M : Type 1} → statement M
children_spec = tie.close (tie.spec (λ c κs. search rules) returns (λ c κs. search rules) (λ c. search rules) returns-2)
