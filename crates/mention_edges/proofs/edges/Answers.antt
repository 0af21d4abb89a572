-- `mention_edges::edges` meets its contract: each turn puts one more row.
use Rattle.std.proofs.Common.{◌≡◌, refl, length, arith}
use Rattle.set_bits.specs.BitsLaws.{row_room}
use Rattle.mention_edges.specs.EdgesLaws.{edges_more}
use Rattle.mention_edges.proofs.edges.Goals as goal

pub loop-d-init : goal.loop-d-init
loop-d-init c = record { long = refl; rows = λ d m l h. absurd (omega arith) }

pub edge-requires-clause-words_in_bounds_2 : goal.edge-requires-clause-words_in_bounds_2
edge-requires-clause-words_in_bounds_2 c =
    let a = c.args in
    omega (arith, row_room c.loop-d.d (length a.bodies.now) a.words (length a.steps.now) (omega arith) c.requires.words_in_bounds_2, c.loop-d.invariant.long)

pub loop-d-preserved : goal.loop-d-preserved
loop-d-preserved c = edges_more _ _ _ _ _ _ _ _ _ c.from.ensures c.loop-d.invariant c.edge.ensures

pub returns : goal.returns
returns c =
    let e : c.loop-d.d ≡ length c.args.bodies.now = omega arith in
    rw e at c.loop-d.invariant
