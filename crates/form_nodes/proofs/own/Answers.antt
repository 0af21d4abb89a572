-- `form_nodes::own` meets its contract: the rest of the word above fourteen bits, cut to thirty-two.
use borrow.Author.Rules.{rules}
use Rattle.form_nodes.specs.Words.{node_of}
use Rattle.form_nodes.proofs.own.Goals as goal

pub returns : goal.returns
unfolding node_of
returns c = search rules
