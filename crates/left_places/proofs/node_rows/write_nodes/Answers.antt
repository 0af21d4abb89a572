-- `node_rows::write_nodes` meets its contract: each node's lines go behind those of the nodes before it.
use Rattle.std.proofs.Common.{map, ◌+◌, refl, sym, ◌∙◌, arith, get_or, drop}
use Rattle.std.proofs.Math.Seq.{take_all}
use Rattle.form_nodes.specs.Words.{node_of}
use Rattle.left_emitter.specs.Pens.{write_lines}
use Rattle.left_emitter.specs.PensLaws.{words_more, words_drop, room_first, room_rest}
use borrow.Author.Rules.{rules}
use Rattle.left_places.proofs.node_rows.write_nodes.Goals as goal

pub loop-w-init : goal.loop-w-init
unfolding write_lines
loop-w-init c = (c.requires, refl)

pub write_node-q-requires : goal.write_node-q-requires
write_node-q-requires c =
    let s = c.loop-w in
    let a = c.args in
    room_first (node_of (get_or a.nodes.now s.w-index 0)) (map node_of (drop (s.w-index + 1) a.nodes.now)) s.q s.out s.stack (rw (words_drop a.nodes.now s.w-index (search rules)) at s.invariant.0)

pub loop-w-preserved : goal.loop-w-preserved
loop-w-preserved c =
    let s = c.loop-w in
    let a = c.args in
    let w = c.write_node-q in
    let r = rw (words_drop a.nodes.now s.w-index (search rules)) at s.invariant.0 in (
      room_rest (node_of (get_or a.nodes.now s.w-index 0)) (map node_of (drop (s.w-index + 1) a.nodes.now)) s.q w.result s.out _ s.stack _ r (search rules) (search rules) w.ensures,
      w.ensures ∙ (rw s.invariant.1 (sym (words_more a.nodes.now _ s.w-index (search rules)))),
    )

pub returns : goal.returns
returns c =
    let s = c.loop-w in
    s.invariant.1 ∙ rw (take_all s.w-index c.args.nodes.now (omega arith))
