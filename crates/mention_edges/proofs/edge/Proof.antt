-- `mention_edges::edge` meets its contract. Assumes nothing.
use native.Mathlib.Omega.{arith}
use lib.ListN.{length}
use Rattle.set_bits.specs.BitsLaws.{row_room}
use Rattle.mention_edges.specs.EdgesLaws.{edge_none, edge_some}
use borrow.Author.Rules.{rules}
use Rattle.mention_edges.proofs.edge.Statement.{statement}
use Rattle.mention_edges.proofs.edge.Tie as tie

mul-unite : tie.Need-overflow_mul-body
mul-unite c =
    let a = c.args in
    omega (arith, row_room a.body a.types a.words (length a.sets.now) c.if-body-types.true c.requires.0)

unite-requires : tie.Need-unite-requires
unite-requires c κs =
    let a = c.args in
    let p = c.requires in
    (omega (arith, p.1, c.clear.auto.s), omega (arith, row_room a.body a.types a.words (length a.sets.now) c.if-body-types.true p.0))

returns : tie.Need-returns-then-body-types
returns c =
    let a = c.args in
    rw
    (c.unite.ensures, c.clear.ensures)
    (edge_some a.words a.types a.sets.now a.body a.d a.steps.now c.requires.1 c.if-body-types.true)

returns-2 : tie.Need-returns-else-body-types
returns-2 c =
    let a = c.args in
    rw c.clear.ensures (edge_none a.words a.types a.sets.now a.body a.d a.steps.now c.requires.1 c.if-body-types.false)

pub edge_spec : {M : Type 1} → statement M
edge_spec =
    tie.close
    (tie.spec
    (λ c. search rules)
    (λ c κs. search rules)
    mul-unite
    unite-requires
    (λ c. search rules)
    returns
    (λ c. search rules)
    returns-2)
