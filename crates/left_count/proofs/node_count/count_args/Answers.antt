-- `node_count::count_args` meets its contract. Assumes nothing.
use Rattle.std.proofs.Common.{refl, arith}
use Rattle.form_laws.specs.Nodes.{count_args}
use Rattle.left_count.specs.CountLaws.{count_more}
use Rattle.left_count.proofs.node_count.count_args.Goals as goal

pub loop-w-init : goal.loop-w-init
unfolding count_args
loop-w-init c = record { few = omega arith; so_far = refl }

pub loop-w-preserved : goal.loop-w-preserved
loop-w-preserved c =
    record { few = omega (arith, c.loop-w.invariant.few, c.node_args-sum.ensures.1); so_far = omega (arith, c.loop-w.invariant.so_far, c.node_args-sum.ensures.0, count_more c.args.nodes.now c.loop-w.w-index (omega arith)) }
