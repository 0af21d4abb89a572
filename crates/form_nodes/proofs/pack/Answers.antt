-- `form_nodes::pack` meets its contract: the sum is the word.
use borrow.Author.Rules.{rules}
use Rattle.form_nodes.specs.Words.{word}
use Rattle.form_nodes.proofs.pack.Goals as goal

pub returns : goal.returns
unfolding word
returns c = search rules
