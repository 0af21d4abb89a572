-- `left_places::put_type` meets its contract: the words that are put into the scratch are the nodes of the type.
use mathlib.Core.Path.{ap, ◌∙◌}
use mathlib.Core.List.{List}
use native.Mathlib.Omega.{arith}
use Rattle.form_laws.specs.Nodes.{Node}
use Rattle.form_emit.specs.Left.{left_type}
use Rattle.left_places.specs.PlacesLaws.{pen_of, type_room, type_writes, words_fit, nodes_taken}
use Rattle.table_access.specs.Tables.{lines_in}
use Rattle.left_emitter.specs.Pens as pens
use borrow.Author.Rules.{rules}
use Rattle.left_places.proofs.put_type.Goals as goal

pub slice_bounds-write_nodes-end : goal.slice_bounds-write_nodes-end
slice_bounds-write_nodes-end c =
    let z = c in
    let a = z.args in
    let e = c.emit-n in
    let h = words_fit (lines_in a.t.now) a.t.now a.u.now a.f.now a.y a.d a.scratch.now z.requires.typed e.result _ e.ensures in
    search rules

pub write_nodes-q-requires : goal.write_nodes-q-requires
write_nodes-q-requires c =
    let z = c in
    let a = z.args in
    let e = c.emit-n in
    rw (nodes_taken (lines_in a.t.now) a.t.now a.u.now a.f.now a.y a.d a.scratch.now z.requires.typed e.result _ e.ensures)
    (type_room (left_type (lines_in a.t.now) a.d a.y) a.p a.out.now a.stack.now z.requires.room (omega (arith, z.requires.typed.small, z.requires.scratch_in_bounds)))

pub returns : goal.returns
returns c =
    let z = c in
    let a = z.args in
    let e = c.emit-n in
    let w = c.write_nodes-q in
    type_writes (left_type (lines_in a.t.now) a.d a.y) a.p w.result a.out.now _ a.stack.now _
    (w.ensures ∙ ap (λ (xs : List Node). pens.write_lines xs (pens.sheet (pen_of a.p) a.out.now a.stack.now)) (nodes_taken (lines_in a.t.now) a.t.now a.u.now a.f.now a.y a.d a.scratch.now z.requires.typed e.result _ e.ensures))
