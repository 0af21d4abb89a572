-- `left_emitter::write_node` meets its contract: the children are the part of the stack that is lent, and the node's number takes their place.
use mathlib.Core.Path.{◌≡◌, ap, ◌∙◌}
use mathlib.Core.List.{List}
use Prim.Native.Nat.{ℕ, ◌-◌, ◌≤◌}
use native.Mathlib.Omega.{arith}
use lib.ListN.{length, take, drop}
use Rattle.form_laws.specs.Nodes.{taken, args_of}
use Rattle.form_nodes.specs.Words.{node_of}
use Rattle.left_emitter.specs.Lines.{listed}
use Rattle.left_emitter.specs.PensLaws.{listed_few, part_few, write_law}
use Rattle.left_emitter.proofs.write_node.Goals as goal

few : (w : ℕ) (st : List ℕ) (at top : ℕ) → at ≡ top - taken (node_of w) → length (listed (node_of w) (take (top - at) (drop at st))) ≤ args_of (node_of w)
few w st at top e = listed_few (node_of w) (take (top - at) (drop at st)) (part_few st at top (taken (node_of w)) e)

pub put_list-n-requires : goal.put_list-n-requires
put_list-n-requires c =
    let a = c.args in
    let at = c.saturating_sub-at.result in
    let e = c.saturating_sub-at.ensures ∙ ap (λ (t : ℕ). a.p.waiting - t) c.children.ensures in
    omega (arith, c.requires.args_room, few a.w a.stack.now at a.p.waiting e)

pub overflow_add-result : goal.overflow_add-result
overflow_add-result c =
    let a = c.args in
    let at = c.saturating_sub-at.result in
    let e = c.saturating_sub-at.ensures ∙ ap (λ (t : ℕ). a.p.waiting - t) c.children.ensures in
    omega (arith, c.requires.args_few, c.put_list-n.ensures.0, few a.w a.stack.now at a.p.waiting e)

pub overflow_add-result-3 : goal.overflow_add-result-3
overflow_add-result-3 c = omega (arith, c.saturating_sub-at.ensures, c.requires.waits, c.well_formed.1.0.0)

pub returns : goal.returns
returns c =
    let a = c.args in
    let at = c.saturating_sub-at.result in
    let e = c.saturating_sub-at.ensures ∙ ap (λ (t : ℕ). a.p.waiting - t) c.children.ensures in
    write_law (node_of a.w) a.p a.out.now _ _ a.stack.now _ at _ e c.requires.waits c.y_numbers-numbers.ensures c.put_list-n.ensures.0 c.put_list-n.ensures.1 c.row_at.ensures
