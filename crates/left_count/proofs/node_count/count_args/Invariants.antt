-- The sum is that of the nodes passed.
use Rattle.std.proofs.Common.{◌≡◌, ◌*◌, ◌≤◌, map, take}
use Rattle.form_laws.specs.Nodes.{count_args}
use Rattle.form_nodes.specs.Words.{node_of}
use Rattle.left_count.proofs.node_count.count_args.Given as goal

abbrev pub invariant-loop-w : goal.invariant-loop-w
invariant-loop-w l = record { few : l.sum ≤ 1023 * l.w-index; so_far : l.sum ≡ count_args (map node_of (take l.w-index l.nodes)) }
