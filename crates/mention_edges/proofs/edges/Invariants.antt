-- The rows of the bodies passed are there.
use Rattle.mention_edges.specs.Edges.{Edges}
use Rattle.mention_edges.proofs.edges.Given as goal

abbrev pub invariant-loop-d : goal.invariant-loop-d
invariant-loop-d l = Edges l.words l.types l.sets l.bodies l.d l.initial.steps l.steps
