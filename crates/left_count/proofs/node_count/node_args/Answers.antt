-- `node_count::node_args` meets its contract, by the kind. Assumes nothing.
use Rattle.std.proofs.Common.{arith}
use Rattle.std.proofs.lemmas.Grind.{common_steps}
use Rattle.form_laws.specs.Nodes.{args_of}
use Rattle.left_count.specs.CountLaws.{count_few}
use Rattle.left_count.proofs.node_count.node_args.Goals as goal

pub returns-in-8 : goal.returns-in-8
unfolding args_of
returns-in-8 c = (grind (arith, common_steps), omega (arith, c.count.ensures, count_few c.args.w))

pub returns-in_default : goal.returns-in_default
unfolding args_of
returns-in_default c = (grind (arith, common_steps), omega arith)

pub returns-in_default-2 : goal.returns-in_default-2
unfolding args_of
returns-in_default-2 c = (grind (arith, common_steps), omega arith)
