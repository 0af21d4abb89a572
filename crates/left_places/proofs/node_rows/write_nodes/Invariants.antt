-- The lines of the nodes that were passed are written, and there is room for the others.
use Rattle.std.proofs.Common.{◌≡◌, map, take, drop}
use Rattle.form_nodes.specs.Words.{node_of}
use Rattle.left_emitter.specs.Pens.{Room, sheet, write_lines}
use Rattle.left_places.proofs.node_rows.write_nodes.Given as goal

abbrev pub invariant-loop-w : goal.invariant-loop-w
invariant-loop-w l =
    Room (map node_of (drop l.w-index l.nodes)) l.q l.out l.stack
    × (sheet l.q l.out l.stack ≡ write_lines (map node_of (take l.w-index l.nodes)) (sheet l.initial.q l.initial.out l.initial.stack))
