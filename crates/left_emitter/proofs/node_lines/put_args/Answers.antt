-- `node_lines::put_args` meets its contract: each child's A line goes behind those of the children before it.
use Rattle.std.proofs.Common.{refl, sym, ◌∙◌, arith}
use Rattle.std.proofs.Math.Seq.{take_all}
use Rattle.sheet.specs.Output.{puts}
use Rattle.left_emitter.specs.LinesLaws.{args_more}
use borrow.Author.Rules.{rules}
use Rattle.left_emitter.proofs.node_lines.put_args.Goals as goal

pub loop-j-init : goal.loop-j-init
unfolding puts
loop-j-init c = refl

pub loop-j-preserved : goal.loop-j-preserved
loop-j-preserved c =
    let s = c.loop-j in
    let a = c.args in
    c.row_at.ensures ∙ rw s.invariant (sym (args_more a.out.now a.ns.now a.i s.j (search rules)))

pub returns : goal.returns
returns c =
    let s = c.loop-j in
    s.invariant ∙ rw (take_all s.j c.args.ns.now (omega arith))
