-- `form_nodes::kind` meets its contract: the lowest four bits.
use borrow.Author.Rules.{rules}
use Rattle.form_nodes.specs.Words.{node_of}
use Rattle.form_nodes.proofs.kind.Goals as goal

pub returns : goal.returns
unfolding node_of
returns c = search rules
