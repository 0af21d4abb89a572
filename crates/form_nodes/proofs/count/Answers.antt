-- `form_nodes::count` meets its contract: the ten bits above the kind.
use borrow.Author.Rules.{rules}
use Rattle.form_nodes.specs.Words.{node_of}
use Rattle.form_nodes.proofs.count.Goals as goal

pub returns : goal.returns
unfolding node_of
returns c = search rules
