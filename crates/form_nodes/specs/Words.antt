-- A node as one number below 2 ^ 46: four bits for the kind, ten for the count, thirty-two for its own
-- number. Every number is read as some node, and of a node the numbers are cut to these bits. Assumes nothing.
use Rattle.std.specs.Prelude.{ℕ, ◌+◌, ◌*◌, ◌/◌, ◌%◌}
use Rattle.form_laws.specs.Nodes.{Node, node}

unfoldable pub word : Node → ℕ
word x = x.kind % 16 + 16 * (x.count % 1024 + 1024 * (x.own % 4294967296))

unfoldable pub node_of : ℕ → Node
node_of w = node (w % 16) (w / 16 % 1024) (w / 16384 % 4294967296)
