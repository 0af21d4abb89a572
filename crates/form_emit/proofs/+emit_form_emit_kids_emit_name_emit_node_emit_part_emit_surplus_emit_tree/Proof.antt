-- `form_emit::emit_tree` and the functions that it calls in turn meet their contracts: each puts what its callees put, and the Y line falls.
-- Assumes nothing.
use Prim.Native.Nat.{ℕ, ◌+◌, ◌-◌, ◌*◌, ◌≤◌, ◌<◌}
use Rattle.form_emit.proofs.+emit_form_emit_kids_emit_name_emit_node_emit_part_emit_surplus_emit_tree.Lts-emit_form.{else-p-y, then-p-y}
use mathlib.Core.List.{[], ◌∷◌}
use mathlib.Core.Path.{◌≡◌, refl, ap, sym, ◌∙◌}
use native.Mathlib.Omega.{arith}
use lib.ListN.{length, get_or, take, drop}
use borrow.Author.Rules.{rules}
use Rattle.resolve_kids.specs.Nodes.{kids_of}
use Rattle.form_puts.specs.Put.{Put, put_none, put_more}
use Rattle.resolve_kids.specs.NodesLaws.{node_at}
use Rattle.form_puts.specs.Stands.{Stands, stands_put, stands_kept, stands_at, stands_by, put_stands}
use Rattle.form_emit.specs.Filling.{step_given, step_left}
use Rattle.form_emit.specs.CodeLaws.{put_same, run_none, run_more, run_stop, filled_none, filled_more, filled_all, filled_stop, put_leaf, put_plain, stop_plain, put_gone, put_stays, stop_stays, stop_form, put_form, put_surplus, surplus_none, surplus_kept, surplus_stop, surplus_put, grown_word, below, state_below, count_few, name_kids, asked_kid}
use Rattle.form_emit.specs.Emit.{run, filled, words, kid_words}
use borrow.Fn.Kinds.{In}
use borrow.Fn.PlainCycle.{Measures, is, falls, and}
use Rattle.form_emit.proofs.+emit_form_emit_kids_emit_name_emit_node_emit_part_emit_surplus_emit_tree.{statement}
use Rattle.form_emit.proofs.+emit_form_emit_kids_emit_name_emit_node_emit_part_emit_surplus_emit_tree.Tie.{close}
use Rattle.table_declared.specs.PassedLaws.{position_few}
use Rattle.table_access.specs.Tables.{lines_in}
use Rattle.form_emit.proofs.emit_form.Reads as emit-form
use Rattle.form_emit.proofs.emit_form.Kinds as emit-form-kinds
use Rattle.form_emit.proofs.+emit_form_emit_kids_emit_name_emit_node_emit_part_emit_surplus_emit_tree.Lts-emit_form as emit-form-lts
use Rattle.form_emit.proofs.emit_kids.Reads as emit-kids
use Rattle.form_emit.proofs.emit_kids.Kinds as emit-kids-kinds
use Rattle.form_emit.proofs.+emit_form_emit_kids_emit_name_emit_node_emit_part_emit_surplus_emit_tree.Lts-emit_kids as emit-kids-lts
use Rattle.form_emit.proofs.emit_name.Reads as emit-name
use Rattle.form_emit.proofs.emit_name.Kinds as emit-name-kinds
use Rattle.form_emit.proofs.+emit_form_emit_kids_emit_name_emit_node_emit_part_emit_surplus_emit_tree.Lts-emit_name as emit-name-lts
use Rattle.form_emit.proofs.emit_node.Reads as emit-node
use Rattle.form_emit.proofs.emit_node.Kinds as emit-node-kinds
use Rattle.form_emit.proofs.+emit_form_emit_kids_emit_name_emit_node_emit_part_emit_surplus_emit_tree.Lts-emit_node as emit-node-lts
use Rattle.form_emit.proofs.emit_part.Reads as emit-part
use Rattle.form_emit.proofs.emit_part.Kinds as emit-part-kinds
use Rattle.form_emit.proofs.+emit_form_emit_kids_emit_name_emit_node_emit_part_emit_surplus_emit_tree.Lts-emit_part as emit-part-lts
use Rattle.form_emit.proofs.emit_surplus.Reads as emit-surplus
use Rattle.form_emit.proofs.emit_surplus.Kinds as emit-surplus-kinds
use Rattle.form_emit.proofs.+emit_form_emit_kids_emit_name_emit_node_emit_part_emit_surplus_emit_tree.Lts-emit_surplus as emit-surplus-lts
use Rattle.form_emit.proofs.emit_tree.Reads as emit-tree
use Rattle.form_emit.proofs.emit_tree.Kinds as emit-tree-kinds
use Rattle.form_emit.proofs.+emit_form_emit_kids_emit_name_emit_node_emit_part_emit_surplus_emit_tree.Lts-emit_tree as emit-tree-lts
use Rattle.form_emit.proofs.words.argument_line.Reads as argument-line-reads
use Rattle.form_emit.proofs.words.leaf_word.Reads as leaf-word-reads
use Rattle.form_emit.proofs.words.left_word.Reads as left-word-reads
use Rattle.resolve_kids.proofs.params.Reads as params-reads
use Rattle.form_puts.proofs.again.Reads as again-reads
use Rattle.resolve_kids.proofs.kid.Reads as kid-reads
use Rattle.resolve_kids.proofs.kids.Reads as kids-reads
use Rattle.form_node_words.proofs.own_word.Reads as own-word-reads
use Rattle.form_puts.proofs.put.Reads as put_reads
use Rattle.form_node_words.proofs.state.Reads as state-reads
use Rattle.form_nodes.proofs.count.Reads as count-reads
use Rattle.form_nodes.proofs.kind.Reads as kind-reads
use Rattle.form_nodes.proofs.own.Reads as own-reads
use Rattle.form_nodes.proofs.pack.Reads as pack-reads
use Rattle.table_access.proofs.decl_of.Reads as decl-of-reads
use Rattle.table_access.proofs.type_number.Reads as type-number-reads

abbrev μ_emit_form : Measures 4 emit-form-kinds.ps ℕ
μ_emit_form κs a = 6 * a.1.1.1.0 + 2

abbrev μ_emit_kids : Measures 4 emit-kids-kinds.ps ℕ
μ_emit_kids κs a = 6 * a.1.1.1.0 + 1

abbrev μ_emit_name : Measures 4 emit-name-kinds.ps ℕ
μ_emit_name κs a = 6 * a.1.1.1.0 + 3

abbrev μ_emit_node : Measures 4 emit-node-kinds.ps ℕ
μ_emit_node κs a = 6 * a.1.1.1.0 + 1

abbrev μ_emit_part : Measures 4 emit-part-kinds.ps ℕ
μ_emit_part κs a = 6 * a.1.1.1.0 + 5

abbrev μ_emit_surplus : Measures 4 emit-surplus-kinds.ps ℕ
μ_emit_surplus κs a = 6 * a.1.1.1.0 + 2

abbrev μ_emit_tree : Measures 4 emit-tree-kinds.ps ℕ
μ_emit_tree κs a = 6 * a.1.1.1.0 + 4

abbrev emit_form_at : ℕ → In 4 emit-form-kinds.ps
emit_form_at t = and 4 emit-form-kinds.ps (is 4 emit-form-kinds.ps μ_emit_form t) emit-form.Pre

abbrev emit_form_below : ℕ → In 4 emit-form-kinds.ps
emit_form_below t =
    and 4 emit-form-kinds.ps (falls 4 emit-form-kinds.ps ◌<◌ μ_emit_form t) emit-form.Pre

abbrev emit_kids_at : ℕ → In 4 emit-kids-kinds.ps
emit_kids_at t = and 4 emit-kids-kinds.ps (is 4 emit-kids-kinds.ps μ_emit_kids t) emit-kids.Pre

abbrev emit_kids_below : ℕ → In 4 emit-kids-kinds.ps
emit_kids_below t =
    and 4 emit-kids-kinds.ps (falls 4 emit-kids-kinds.ps ◌<◌ μ_emit_kids t) emit-kids.Pre

abbrev emit_name_at : ℕ → In 4 emit-name-kinds.ps
emit_name_at t = and 4 emit-name-kinds.ps (is 4 emit-name-kinds.ps μ_emit_name t) emit-name.Pre

abbrev emit_name_below : ℕ → In 4 emit-name-kinds.ps
emit_name_below t =
    and 4 emit-name-kinds.ps (falls 4 emit-name-kinds.ps ◌<◌ μ_emit_name t) emit-name.Pre

abbrev emit_node_at : ℕ → In 4 emit-node-kinds.ps
emit_node_at t = and 4 emit-node-kinds.ps (is 4 emit-node-kinds.ps μ_emit_node t) emit-node.Pre

abbrev emit_node_below : ℕ → In 4 emit-node-kinds.ps
emit_node_below t =
    and 4 emit-node-kinds.ps (falls 4 emit-node-kinds.ps ◌<◌ μ_emit_node t) emit-node.Pre

abbrev emit_part_at : ℕ → In 4 emit-part-kinds.ps
emit_part_at t = and 4 emit-part-kinds.ps (is 4 emit-part-kinds.ps μ_emit_part t) emit-part.Pre

abbrev emit_part_below : ℕ → In 4 emit-part-kinds.ps
emit_part_below t =
    and 4 emit-part-kinds.ps (falls 4 emit-part-kinds.ps ◌<◌ μ_emit_part t) emit-part.Pre

abbrev emit_surplus_at : ℕ → In 4 emit-surplus-kinds.ps
emit_surplus_at t =
    and 4 emit-surplus-kinds.ps (is 4 emit-surplus-kinds.ps μ_emit_surplus t) emit-surplus.Pre

abbrev emit_surplus_below : ℕ → In 4 emit-surplus-kinds.ps
emit_surplus_below t =
    and
    4
    emit-surplus-kinds.ps
    (falls 4 emit-surplus-kinds.ps ◌<◌ μ_emit_surplus t)
    emit-surplus.Pre

abbrev emit_tree_at : ℕ → In 4 emit-tree-kinds.ps
emit_tree_at t = and 4 emit-tree-kinds.ps (is 4 emit-tree-kinds.ps μ_emit_tree t) emit-tree.Pre

abbrev emit_tree_below : ℕ → In 4 emit-tree-kinds.ps
emit_tree_below t =
    and 4 emit-tree-kinds.ps (falls 4 emit-tree-kinds.ps ◌<◌ μ_emit_tree t) emit-tree.Pre

abbrev emit_form_Inv_loop : emit-form-lts.invariant-loop-i
emit_form_Inv_loop t u f y d places m out₀ at start n last₀ from₀ end₀ r₀ i₀ out last from end r i =
    (i ≤ n) × (length out ≡ length out₀) × (r ≤ length out) × Put (filled (kid_words (lines_in t) u f d places y) (kids_of (lines_in t) y) (take i (take n (drop start f)))) out₀ at r out × (last < y → Stands (words (lines_in t) u f d places last) out from end r)

abbrev emit_form_μ_loop : emit-form-lts.decreases-loop-i
emit_form_μ_loop t u f y d places m out₀ at start n last₀ from₀ end₀ r₀ i₀ out last from end r i =
    n - i

emit_form_loop_holds : (t : ℕ) → emit-form-lts.Need-loop-i-init (
  argument-line-reads.Asked,
  argument-line-reads.Learnt,
  emit_node_below t,
  emit-node.Post,
) (emit_form_at t) emit-form.Post emit_form_Inv_loop emit_form_μ_loop
emit_form_loop_holds t c =
    let a = c.args in
    let p = c.requires in
    (omega arith, refl, p.1.1, put_same _ _ _ _ _ _ (sym (filled_none (kid_words (lines_in a.t.now) a.u.now a.f.now a.d a.places a.y) (kids_of (lines_in a.t.now) a.y) a.f.now (get_or a.f.now (2 * a.m) 0) (get_or a.f.now (2 * a.m + 1) 0) (p.1.0.forms.inside a.m p.1.2))) (put_none a.out.now a.at p.1.1), λ q. absurd (omega arith))

emit_form_add_w : (t : ℕ) → emit-form-lts.Need-overflow_add-w (
  argument-line-reads.Asked,
  argument-line-reads.Learnt,
  emit_node_below t,
  emit-node.Post,
) (emit_form_at t) emit-form.Post emit_form_Inv_loop emit_form_μ_loop
emit_form_add_w t c =
    let a = c.args in
    let p = c.requires in
    omega (arith, c.loop-i-test.true, (p.1.0.forms.inside a.m p.1.2))

emit_form_mul_w : (t : ℕ) → emit-form-lts.Need-offset_bounds-f-start (
  argument-line-reads.Asked,
  argument-line-reads.Learnt,
  emit_node_below t,
  emit-node.Post,
) (emit_form_at t) emit-form.Post emit_form_Inv_loop emit_form_μ_loop
emit_form_mul_w t c =
    let a = c.args in
    let p = c.requires in
    omega (arith, c.loop-i-test.true, (p.1.0.forms.inside a.m p.1.2), c.well_formed.1.1.0.1)

emit_form_shared_slice_read_w : (t : ℕ) → emit-form-lts.Need-bounds-f-start (
  argument-line-reads.Asked,
  argument-line-reads.Learnt,
  emit_node_below t,
  emit-node.Post,
) (emit_form_at t) emit-form.Post emit_form_Inv_loop emit_form_μ_loop
emit_form_shared_slice_read_w t c =
    let a = c.args in
    let p = c.requires in
    omega (arith, c.loop-i-test.true, (p.1.0.forms.inside a.m p.1.2))

emit_form_argument_line_requires : (t : ℕ) → emit-form-lts.Need-argument_line-p-requires (
  argument-line-reads.Asked,
  argument-line-reads.Learnt,
  emit_node_below t,
  emit-node.Post,
) (emit_form_at t) emit-form.Post emit_form_Inv_loop emit_form_μ_loop
emit_form_argument_line_requires t c κs =
    let a = c.args in
    let p = c.requires in
    (p.1.0.tabled, p.1.0.type)

emit_form_emit_node_requires : (t : ℕ) → emit-form-lts.Need-emit_node-e-requires (
  argument-line-reads.Asked,
  argument-line-reads.Learnt,
  emit_node_below t,
  emit-node.Post,
) (emit_form_at t) emit-form.Post emit_form_Inv_loop emit_form_μ_loop
emit_form_emit_node_requires t c κs =
    let a = c.args in
    let p = c.requires in
    let l = c.loop-i in
    (omega (arith, p.0), ((p.1.0, l.invariant.2, c.argument_line-p.ensures), l.invariant.4))

emit_form_same_length : (t : ℕ) → emit-form-lts.Need-shape_of-out-then-e-out (
  argument-line-reads.Asked,
  argument-line-reads.Learnt,
  emit_node_below t,
  emit-node.Post,
) (emit_form_at t) emit-form.Post emit_form_Inv_loop emit_form_μ_loop
emit_form_same_length t c =
    omega (arith, c.emit_node-e.ensures.long, c.loop-i.invariant.1)

emit_form_returns : (t : ℕ) → emit-form-lts.Need-returns-then-e-out (
  argument-line-reads.Asked,
  argument-line-reads.Learnt,
  emit_node_below t,
  emit-node.Post,
) (emit_form_at t) emit-form.Post emit_form_Inv_loop emit_form_μ_loop
emit_form_returns t c =
    let a = c.args in
    let p = c.requires in
    let l = c.loop-i in
    filled_stop (kid_words (lines_in a.t.now) a.u.now a.f.now a.d a.places a.y) (kids_of (lines_in a.t.now) a.y) a.f.now (get_or a.f.now (2 * a.m) 0) (get_or a.f.now (2 * a.m + 1) 0) (p.1.0.forms.inside a.m p.1.2) (l.i + 1) a.out.now a.at _ _ (omega (arith, c.if-e-out.true, c.emit_node-e.ensures.long, l.invariant.1)) (put_same _ _ _ _ _ _ (filled_more (kid_words (lines_in a.t.now) a.u.now a.f.now a.d a.places a.y) (kids_of (lines_in a.t.now) a.y) a.f.now (get_or a.f.now (2 * a.m) 0) (get_or a.f.now (2 * a.m + 1) 0) (p.1.0.forms.inside a.m p.1.2) l.i c.loop-i-test.true) (put_more _ _ a.out.now a.at l.r _ l.out _ p.1.1 (omega (arith, l.invariant.1, l.invariant.2)) l.invariant.3 c.emit_node-e.ensures))

emit_form_add_i : (t : ℕ) → emit-form-lts.Need-overflow_step-i (
  argument-line-reads.Asked,
  argument-line-reads.Learnt,
  emit_node_below t,
  emit-node.Post,
) (emit_form_at t) emit-form.Post emit_form_Inv_loop emit_form_μ_loop
emit_form_add_i t c =
    let a = c.args in
    let p = c.requires in
    omega (arith, c.loop-i-test.true, (p.1.0.forms.inside a.m p.1.2), c.well_formed.1.1.0.0)

emit_form_loop_less : (t : ℕ) → emit-form-lts.Need-loop-i-smaller (
  argument-line-reads.Asked,
  argument-line-reads.Learnt,
  emit_node_below t,
  emit-node.Post,
) (emit_form_at t) emit-form.Post emit_form_Inv_loop emit_form_μ_loop
emit_form_loop_less t c =
    omega (arith, c.loop-i-test.true)

emit_form_loop_again : (t : ℕ) → emit-form-lts.Need-loop-i-preserved (
  argument-line-reads.Asked,
  argument-line-reads.Learnt,
  emit_node_below t,
  emit-node.Post,
) (emit_form_at t) emit-form.Post emit_form_Inv_loop emit_form_μ_loop
emit_form_loop_again t c =
    let a = c.args in
    let p = c.requires in
    let l = c.loop-i in
    let e = c.emit_node-e in
    let g = c.argument_line-p in
    let h : e.result ≤ length l.out = omega (arith, c.if-e-out.false, e.ensures.long) in (
      omega (arith, c.loop-i-test.true),
      omega (arith, e.ensures.long, l.invariant.1),
      omega (arith, c.if-e-out.false),
      put_same _ _ _ _ _ _ (filled_more (kid_words (lines_in a.t.now) a.u.now a.f.now a.d a.places a.y) (kids_of (lines_in a.t.now) a.y) a.f.now (get_or a.f.now (2 * a.m) 0) (get_or a.f.now (2 * a.m + 1) 0) (p.1.0.forms.inside a.m p.1.2) l.i c.loop-i-test.true) (put_more _ _ a.out.now a.at l.r _ l.out _ p.1.1 (omega (arith, l.invariant.1, l.invariant.2)) l.invariant.3 c.emit_node-e.ensures),
      elim c.if-p-y.branch [
        | then-p-y w ↦ λ q. stands_by (words (lines_in a.t.now) a.u.now a.f.now a.d a.places) _ _ _ _ _ _ _ _ w.last-is w.from-is w.end-is (stands_put (words (lines_in a.t.now) a.u.now a.f.now a.d a.places g.result) l.out l.r e.result _ l.invariant.2 h (put_same _ _ _ _ _ _ (sym (step_given (lines_in a.t.now) a.u.now a.f.now a.d a.places a.y _ _ g.ensures w.if-p-y.true)) e.ensures))
        | else-p-y w ↦ λ q. stands_by (words (lines_in a.t.now) a.u.now a.f.now a.d a.places) _ _ _ _ _ _ _ _ w.last-is w.from-is w.end-is (stands_kept _ l.out l.r e.result _ l.invariant.2 h (words (lines_in a.t.now) a.u.now a.f.now a.d a.places l.last) l.from l.end e.ensures (l.invariant.4 (omega (arith, w.last-is))))
      ],
    )

emit_form_same_length_2 : (t : ℕ) → emit-form-lts.Need-shape_of-out (
  argument-line-reads.Asked,
  argument-line-reads.Learnt,
  emit_node_below t,
  emit-node.Post,
) (emit_form_at t) emit-form.Post emit_form_Inv_loop emit_form_μ_loop
emit_form_same_length_2 t c =
    c.loop-i.invariant.1

emit_form_returns_2 : (t : ℕ) → emit-form-lts.Need-returns (
  argument-line-reads.Asked,
  argument-line-reads.Learnt,
  emit_node_below t,
  emit-node.Post,
) (emit_form_at t) emit-form.Post emit_form_Inv_loop emit_form_μ_loop
emit_form_returns_2 t c =
    let a = c.args in
    let p = c.requires in
    put_same _ _ _ _ _ _ (filled_all (kid_words (lines_in a.t.now) a.u.now a.f.now a.d a.places a.y) (kids_of (lines_in a.t.now) a.y) a.f.now (get_or a.f.now (2 * a.m) 0) (get_or a.f.now (2 * a.m + 1) 0) (p.1.0.forms.inside a.m p.1.2) c.loop-i.i (omega (arith, c.loop-i-test.false))) c.loop-i.invariant.3

abbrev emit_kids_Inv_loop : emit-kids-lts.invariant-loop-i
emit_kids_Inv_loop t u f y d places from out₀ at n last₀ start₀ r₀ i₀ out last start r i =
    (from ≤ i) × (i ≤ n) × (length out ≡ length out₀) × (r ≤ length out) × Put (run (kid_words (lines_in t) u f d places y) from (i - from)) out₀ at r out × (last < y → Stands (words (lines_in t) u f d places last) out start r r)

abbrev emit_kids_μ_loop : emit-kids-lts.decreases-loop-i
emit_kids_μ_loop t u f y d places from out₀ at n last₀ start₀ r₀ i₀ out last start r i =
    n - i

emit_kids_loop_holds : (t : ℕ) → emit-kids-lts.Need-loop-i-init (
  kids-reads.Asked,
  kids-reads.Learnt,
  kid-reads.Asked,
  kid-reads.Learnt,
  emit_part_below t,
  emit-part.Post,
) (emit_kids_at t) emit-kids.Post emit_kids_Inv_loop emit_kids_μ_loop
emit_kids_loop_holds t c =
    let a = c.args in
    let p = c.requires in
    (omega arith, omega (arith, p.1.2, c.kids-n.ensures), refl, p.1.1, put_same _ _ _ _ _ _ (sym (run_none (kid_words (lines_in a.t.now) a.u.now a.f.now a.d a.places a.y) a.from)) (put_none a.out.now a.at p.1.1), λ q. absurd (omega arith))

emit_kids_kid_requires : (t : ℕ) → emit-kids-lts.Need-kid-p-requires (
  kids-reads.Asked,
  kids-reads.Learnt,
  kid-reads.Asked,
  kid-reads.Learnt,
  emit_part_below t,
  emit-part.Post,
) (emit_kids_at t) emit-kids.Post emit_kids_Inv_loop emit_kids_μ_loop
emit_kids_kid_requires t c κs =
    let a = c.args in
    let p = c.requires in
    (p.1.0.tabled, (p.1.0.type, omega (arith, c.loop-i-test.true, c.kids-n.ensures)))

emit_kids_emit_part_requires : (t : ℕ) → emit-kids-lts.Need-emit_part-e-requires (
  kids-reads.Asked,
  kids-reads.Learnt,
  kid-reads.Asked,
  kid-reads.Learnt,
  emit_part_below t,
  emit-part.Post,
) (emit_kids_at t) emit-kids.Post emit_kids_Inv_loop emit_kids_μ_loop
emit_kids_emit_part_requires t c κs =
    let a = c.args in
    let p = c.requires in
    let l = c.loop-i in
    let q = asked_kid (lines_in a.t.now) a.t.now a.u.now a.f.now a.y a.d l.i c.kid-p.result p.1.0 (omega (arith, c.loop-i-test.true, c.kids-n.ensures)) c.kid-p.ensures in
    (omega (arith, p.0, q.0), ((q.1, l.invariant.3), stands_at (words (lines_in a.t.now) a.u.now a.f.now a.d a.places) l.out l.start l.r l.r l.last c.kid-p.result a.y q.0 l.invariant.5))

emit_kids_same_length : (t : ℕ) → emit-kids-lts.Need-shape_of-out-then-e-out (
  kids-reads.Asked,
  kids-reads.Learnt,
  kid-reads.Asked,
  kid-reads.Learnt,
  emit_part_below t,
  emit-part.Post,
) (emit_kids_at t) emit-kids.Post emit_kids_Inv_loop emit_kids_μ_loop
emit_kids_same_length t c =
    omega (arith, c.emit_part-e.ensures.long, c.loop-i.invariant.2)

emit_kids_returns : (t : ℕ) → emit-kids-lts.Need-returns-then-e-out (
  kids-reads.Asked,
  kids-reads.Learnt,
  kid-reads.Asked,
  kid-reads.Learnt,
  emit_part_below t,
  emit-part.Post,
) (emit_kids_at t) emit-kids.Post emit_kids_Inv_loop emit_kids_μ_loop
emit_kids_returns t c =
    let a = c.args in
    let p = c.requires in
    let l = c.loop-i in
    run_stop (kid_words (lines_in a.t.now) a.u.now a.f.now a.d a.places a.y) a.from (l.i + 1 - a.from) (kids_of (lines_in a.t.now) a.y - a.from) a.out.now a.at _ _ (omega (arith, c.loop-i-test.true, c.kids-n.ensures)) (omega (arith, c.if-e-out.true, c.emit_part-e.ensures.long, l.invariant.2)) (put_same _ _ _ _ _ _ (run_more (kid_words (lines_in a.t.now) a.u.now a.f.now a.d a.places a.y) a.from l.i l.invariant.0) (put_more _ _ a.out.now a.at l.r _ l.out _ p.1.1 (omega (arith, l.invariant.2, l.invariant.3)) l.invariant.4 (put_same _ _ _ _ _ _ (ap (words (lines_in a.t.now) a.u.now a.f.now a.d a.places) c.kid-p.ensures) c.emit_part-e.ensures)))

emit_kids_add_i : (t : ℕ) → emit-kids-lts.Need-overflow_step-i (
  kids-reads.Asked,
  kids-reads.Learnt,
  kid-reads.Asked,
  kid-reads.Learnt,
  emit_part_below t,
  emit-part.Post,
) (emit_kids_at t) emit-kids.Post emit_kids_Inv_loop emit_kids_μ_loop
emit_kids_add_i t c =
    search rules

emit_kids_loop_less : (t : ℕ) → emit-kids-lts.Need-loop-i-smaller (
  kids-reads.Asked,
  kids-reads.Learnt,
  kid-reads.Asked,
  kid-reads.Learnt,
  emit_part_below t,
  emit-part.Post,
) (emit_kids_at t) emit-kids.Post emit_kids_Inv_loop emit_kids_μ_loop
emit_kids_loop_less t c =
    omega (arith, c.loop-i-test.true)

emit_kids_loop_again : (t : ℕ) → emit-kids-lts.Need-loop-i-preserved (
  kids-reads.Asked,
  kids-reads.Learnt,
  kid-reads.Asked,
  kid-reads.Learnt,
  emit_part_below t,
  emit-part.Post,
) (emit_kids_at t) emit-kids.Post emit_kids_Inv_loop emit_kids_μ_loop
emit_kids_loop_again t c =
    let a = c.args in
    let p = c.requires in
    let l = c.loop-i in
    let e = c.emit_part-e in (
      omega (arith, l.invariant.0),
      omega (arith, c.loop-i-test.true),
      omega (arith, e.ensures.long, l.invariant.2),
      omega (arith, c.if-e-out.false),
      put_same _ _ _ _ _ _ (run_more (kid_words (lines_in a.t.now) a.u.now a.f.now a.d a.places a.y) a.from l.i l.invariant.0) (put_more _ _ a.out.now a.at l.r _ l.out _ p.1.1 (omega (arith, l.invariant.2, l.invariant.3)) l.invariant.4 (put_same _ _ _ _ _ _ (ap (words (lines_in a.t.now) a.u.now a.f.now a.d a.places) c.kid-p.ensures) c.emit_part-e.ensures)),
      λ q. stands_put (words (lines_in a.t.now) a.u.now a.f.now a.d a.places c.kid-p.result) l.out l.r e.result _ l.invariant.3 (omega (arith, c.if-e-out.false, e.ensures.long)) e.ensures,
    )

emit_kids_same_length_2 : (t : ℕ) → emit-kids-lts.Need-shape_of-out (
  kids-reads.Asked,
  kids-reads.Learnt,
  kid-reads.Asked,
  kid-reads.Learnt,
  emit_part_below t,
  emit-part.Post,
) (emit_kids_at t) emit-kids.Post emit_kids_Inv_loop emit_kids_μ_loop
emit_kids_same_length_2 t c =
    c.loop-i.invariant.2

emit_kids_returns_2 : (t : ℕ) → emit-kids-lts.Need-returns (
  kids-reads.Asked,
  kids-reads.Learnt,
  kid-reads.Asked,
  kid-reads.Learnt,
  emit_part_below t,
  emit-part.Post,
) (emit_kids_at t) emit-kids.Post emit_kids_Inv_loop emit_kids_μ_loop
emit_kids_returns_2 t c =
    let a = c.args in
    let p = c.requires in
    let e : c.loop-i.i ≡ kids_of (lines_in a.t.now) a.y = omega (arith, c.loop-i-test.false, c.loop-i.invariant.1, c.kids-n.ensures) in
    put_same _ _ _ _ _ _ (ap (λ (i : ℕ). run (kid_words (lines_in a.t.now) a.u.now a.f.now a.d a.places a.y) a.from (i - a.from)) e) c.loop-i.invariant.4

emit_name_decl_of_requires : (t : ℕ) → emit-name-lts.Need-decl_of-m-requires (
  type-number-reads.Asked,
  type-number-reads.Learnt,
  decl-of-reads.Asked,
  decl-of-reads.Learnt,
  state-reads.Asked,
  state-reads.Learnt,
  pack-reads.Asked,
  pack-reads.Learnt,
  put_reads.Asked,
  put_reads.Learnt,
  emit_kids_below t,
  emit-kids.Post,
  kids-reads.Asked,
  kids-reads.Learnt,
  emit_form_below t,
  emit-form.Post,
  params-reads.Asked,
  params-reads.Learnt,
  emit_surplus_below t,
  emit-surplus.Post,
) (emit_name_at t) emit-name.Post
emit_name_decl_of_requires t c κs =
    let a = c.args in
    let p = c.requires in
    (p.1.0.0.tabled, omega (arith, c.type_number-n.ensures, (node_at (lines_in a.t.now) p.1.0.0.tabled.passed a.y p.1.0.0.type).named p.1.1))

emit_name_state_requires : (t : ℕ) → emit-name-lts.Need-state-x-requires (
  type-number-reads.Asked,
  type-number-reads.Learnt,
  decl-of-reads.Asked,
  decl-of-reads.Learnt,
  state-reads.Asked,
  state-reads.Learnt,
  pack-reads.Asked,
  pack-reads.Learnt,
  put_reads.Asked,
  put_reads.Learnt,
  emit_kids_below t,
  emit-kids.Post,
  kids-reads.Asked,
  kids-reads.Learnt,
  emit_form_below t,
  emit-form.Post,
  params-reads.Asked,
  params-reads.Learnt,
  emit_surplus_below t,
  emit-surplus.Post,
) (emit_name_at t) emit-name.Post
emit_name_state_requires t c κs =
    let a = c.args in
    let p = c.requires in
    omega (arith, c.decl_of-m.ensures, position_few (lines_in a.t.now) p.1.0.0.tabled.passed c.type_number-n.result)

emit_name_returns : (t : ℕ) → emit-name-lts.Need-returns-then-x-eq0 (
  type-number-reads.Asked,
  type-number-reads.Learnt,
  decl-of-reads.Asked,
  decl-of-reads.Learnt,
  state-reads.Asked,
  state-reads.Learnt,
  pack-reads.Asked,
  pack-reads.Learnt,
  put_reads.Asked,
  put_reads.Learnt,
  emit_kids_below t,
  emit-kids.Post,
  kids-reads.Asked,
  kids-reads.Learnt,
  emit_form_below t,
  emit-form.Post,
  params-reads.Asked,
  params-reads.Learnt,
  emit_surplus_below t,
  emit-surplus.Post,
) (emit_name_at t) emit-name.Post
emit_name_returns t c =
    let a = c.args in
    let p = c.requires in
    put_gone (lines_in a.t.now) p.1.0.0.tabled.passed a.u.now a.f.now a.d a.places a.y p.1.0.0.type a.out.now a.at p.1.0.1 p.1.1 c.type_number-n.result c.decl_of-m.result c.state-x.result c.type_number-n.ensures c.decl_of-m.ensures c.state-x.ensures _ _ _ c.if-x-eq0.true c.pack.ensures c.put.ensures

emit_name_returns_2 : (t : ℕ) → emit-name-lts.Need-returns-then-r-out (
  type-number-reads.Asked,
  type-number-reads.Learnt,
  decl-of-reads.Asked,
  decl-of-reads.Learnt,
  state-reads.Asked,
  state-reads.Learnt,
  pack-reads.Asked,
  pack-reads.Learnt,
  put_reads.Asked,
  put_reads.Learnt,
  emit_kids_below t,
  emit-kids.Post,
  kids-reads.Asked,
  kids-reads.Learnt,
  emit_form_below t,
  emit-form.Post,
  params-reads.Asked,
  params-reads.Learnt,
  emit_surplus_below t,
  emit-surplus.Post,
) (emit_name_at t) emit-name.Post
emit_name_returns_2 t c =
    let a = c.args in
    let p = c.requires in
    stop_stays (lines_in a.t.now) p.1.0.0.tabled.passed a.u.now a.f.now a.d a.places a.y p.1.0.0.type a.out.now a.at p.1.0.1 p.1.1 c.type_number-n.result c.decl_of-m.result c.state-x.result c.type_number-n.ensures c.decl_of-m.ensures c.state-x.ensures _ _ (omega (arith, c.if-x-gt2.true)) (omega (arith, c.if-r-out.true, c.emit_kids-r.ensures.long)) c.emit_kids-r.ensures

emit_name_cast_pack : (t : ℕ) → emit-name-lts.Need-overflow_cast-kids (
  type-number-reads.Asked,
  type-number-reads.Learnt,
  decl-of-reads.Asked,
  decl-of-reads.Learnt,
  state-reads.Asked,
  state-reads.Learnt,
  pack-reads.Asked,
  pack-reads.Learnt,
  put_reads.Asked,
  put_reads.Learnt,
  emit_kids_below t,
  emit-kids.Post,
  kids-reads.Asked,
  kids-reads.Learnt,
  emit_form_below t,
  emit-form.Post,
  params-reads.Asked,
  params-reads.Learnt,
  emit_surplus_below t,
  emit-surplus.Post,
) (emit_name_at t) emit-name.Post
emit_name_cast_pack t c =
    let a = c.args in
    let p = c.requires in
    omega (arith, c.kids.ensures, name_kids (lines_in a.t.now) p.1.0.0.tabled.passed a.y p.1.0.0.type p.1.1)

emit_name_returns_3 : (t : ℕ) → emit-name-lts.Need-returns-then-x-gt2 (
  type-number-reads.Asked,
  type-number-reads.Learnt,
  decl-of-reads.Asked,
  decl-of-reads.Learnt,
  state-reads.Asked,
  state-reads.Learnt,
  pack-reads.Asked,
  pack-reads.Learnt,
  put_reads.Asked,
  put_reads.Learnt,
  emit_kids_below t,
  emit-kids.Post,
  kids-reads.Asked,
  kids-reads.Learnt,
  emit_form_below t,
  emit-form.Post,
  params-reads.Asked,
  params-reads.Learnt,
  emit_surplus_below t,
  emit-surplus.Post,
) (emit_name_at t) emit-name.Post
emit_name_returns_3 t c =
    let a = c.args in
    let p = c.requires in
    put_stays (lines_in a.t.now) p.1.0.0.tabled.passed a.u.now a.f.now a.d a.places a.y p.1.0.0.type a.out.now a.at p.1.0.1 p.1.1 c.type_number-n.result c.decl_of-m.result c.state-x.result c.type_number-n.ensures c.decl_of-m.ensures c.state-x.ensures c.kids.result _ _ _ _ _ (omega (arith, c.if-x-gt2.true)) (omega (arith, c.if-r-out.false, c.emit_kids-r.ensures.long)) c.emit_kids-r.ensures c.kids.ensures c.pack-then-x-gt2.ensures c.put-then-x-gt2.ensures

emit_name_emit_form_requires : (t : ℕ) → emit-name-lts.Need-emit_form-r-requires (
  type-number-reads.Asked,
  type-number-reads.Learnt,
  decl-of-reads.Asked,
  decl-of-reads.Learnt,
  state-reads.Asked,
  state-reads.Learnt,
  pack-reads.Asked,
  pack-reads.Learnt,
  put_reads.Asked,
  put_reads.Learnt,
  emit_kids_below t,
  emit-kids.Post,
  kids-reads.Asked,
  kids-reads.Learnt,
  emit_form_below t,
  emit-form.Post,
  params-reads.Asked,
  params-reads.Learnt,
  emit_surplus_below t,
  emit-surplus.Post,
) (emit_name_at t) emit-name.Post
emit_name_emit_form_requires t c κs =
    let a = c.args in
    let p = c.requires in
    (omega (arith, p.0), (p.1.0.0, p.1.0.1, state_below a.u.now c.decl_of-m.result c.state-x.result _ c.state-x.ensures (omega (arith, c.if-x-gt2.false)) p.1.0.0.states))

emit_name_returns_4 : (t : ℕ) → emit-name-lts.Need-returns-then-r-out-2 (
  type-number-reads.Asked,
  type-number-reads.Learnt,
  decl-of-reads.Asked,
  decl-of-reads.Learnt,
  state-reads.Asked,
  state-reads.Learnt,
  pack-reads.Asked,
  pack-reads.Learnt,
  put_reads.Asked,
  put_reads.Learnt,
  emit_kids_below t,
  emit-kids.Post,
  kids-reads.Asked,
  kids-reads.Learnt,
  emit_form_below t,
  emit-form.Post,
  params-reads.Asked,
  params-reads.Learnt,
  emit_surplus_below t,
  emit-surplus.Post,
) (emit_name_at t) emit-name.Post
emit_name_returns_4 t c =
    let a = c.args in
    let p = c.requires in
    stop_form (lines_in a.t.now) p.1.0.0.tabled.passed a.u.now a.f.now a.d a.places a.y p.1.0.0.type a.out.now a.at p.1.0.1 p.1.1 c.type_number-n.result c.decl_of-m.result c.state-x.result c.type_number-n.ensures c.decl_of-m.ensures c.state-x.ensures (λ e. c.if-x-eq0.false e) (omega (arith, c.if-x-gt2.false)) _ _ (omega (arith, c.if-r-out-2.true, c.emit_form-r.ensures.long)) c.emit_form-r.ensures

emit_name_params_requires : (t : ℕ) → emit-name-lts.Need-params-k-requires (
  type-number-reads.Asked,
  type-number-reads.Learnt,
  decl-of-reads.Asked,
  decl-of-reads.Learnt,
  state-reads.Asked,
  state-reads.Learnt,
  pack-reads.Asked,
  pack-reads.Learnt,
  put_reads.Asked,
  put_reads.Learnt,
  emit_kids_below t,
  emit-kids.Post,
  kids-reads.Asked,
  kids-reads.Learnt,
  emit_form_below t,
  emit-form.Post,
  params-reads.Asked,
  params-reads.Learnt,
  emit_surplus_below t,
  emit-surplus.Post,
) (emit_name_at t) emit-name.Post
emit_name_params_requires t c κs =
    let a = c.args in
    let p = c.requires in
    (p.1.0.0.tabled, state_below a.u.now c.decl_of-m.result c.state-x.result _ c.state-x.ensures (omega (arith, c.if-x-gt2.false)) p.1.0.0.states)

emit_name_returns_5 : (t : ℕ) → emit-name-lts.Need-returns-then-kids-k (
  type-number-reads.Asked,
  type-number-reads.Learnt,
  decl-of-reads.Asked,
  decl-of-reads.Learnt,
  state-reads.Asked,
  state-reads.Learnt,
  pack-reads.Asked,
  pack-reads.Learnt,
  put_reads.Asked,
  put_reads.Learnt,
  emit_kids_below t,
  emit-kids.Post,
  kids-reads.Asked,
  kids-reads.Learnt,
  emit_form_below t,
  emit-form.Post,
  params-reads.Asked,
  params-reads.Learnt,
  emit_surplus_below t,
  emit-surplus.Post,
) (emit_name_at t) emit-name.Post
emit_name_returns_5 t c =
    let a = c.args in
    let p = c.requires in
    put_form (lines_in a.t.now) p.1.0.0.tabled.passed a.u.now a.f.now a.d a.places a.y p.1.0.0.type a.out.now a.at p.1.0.1 p.1.1 c.type_number-n.result c.decl_of-m.result c.state-x.result c.type_number-n.ensures c.decl_of-m.ensures c.state-x.ensures (λ e. c.if-x-eq0.false e) (omega (arith, c.if-x-gt2.false)) _ _ (omega (arith, c.if-kids-k.true, c.kids-2.ensures, c.params-k.ensures)) c.emit_form-r.ensures

emit_name_emit_surplus_requires : (t : ℕ) → emit-name-lts.Need-emit_surplus-requires (
  type-number-reads.Asked,
  type-number-reads.Learnt,
  decl-of-reads.Asked,
  decl-of-reads.Learnt,
  state-reads.Asked,
  state-reads.Learnt,
  pack-reads.Asked,
  pack-reads.Learnt,
  put_reads.Asked,
  put_reads.Learnt,
  emit_kids_below t,
  emit-kids.Post,
  kids-reads.Asked,
  kids-reads.Learnt,
  emit_form_below t,
  emit-form.Post,
  params-reads.Asked,
  params-reads.Learnt,
  emit_surplus_below t,
  emit-surplus.Post,
) (emit_name_at t) emit-name.Post
emit_name_emit_surplus_requires t c κs =
    let a = c.args in
    let p = c.requires in
    (omega (arith, p.0), ((p.1.0.0, omega (arith, (c.emit_form-r.ensures.room (omega (arith, c.if-r-out-2.false, c.emit_form-r.ensures.long))).0), omega (arith, c.if-r-out-2.false), omega (arith, c.if-kids-k.false, c.kids-2.ensures)), p.1.1))

emit_name_returns_6 : (t : ℕ) → emit-name-lts.Need-returns (
  type-number-reads.Asked,
  type-number-reads.Learnt,
  decl-of-reads.Asked,
  decl-of-reads.Learnt,
  state-reads.Asked,
  state-reads.Learnt,
  pack-reads.Asked,
  pack-reads.Learnt,
  put_reads.Asked,
  put_reads.Learnt,
  emit_kids_below t,
  emit-kids.Post,
  kids-reads.Asked,
  kids-reads.Learnt,
  emit_form_below t,
  emit-form.Post,
  params-reads.Asked,
  params-reads.Learnt,
  emit_surplus_below t,
  emit-surplus.Post,
) (emit_name_at t) emit-name.Post
emit_name_returns_6 t c =
    let a = c.args in
    let p = c.requires in
    put_surplus (lines_in a.t.now) p.1.0.0.tabled.passed a.u.now a.f.now a.d a.places a.y p.1.0.0.type a.out.now a.at p.1.0.1 p.1.1 c.type_number-n.result c.decl_of-m.result c.state-x.result c.type_number-n.ensures c.decl_of-m.ensures c.state-x.ensures (λ e. c.if-x-eq0.false e) (omega (arith, c.if-x-gt2.false)) c.params-k.result c.emit_form-r.result _ _ _ c.params-k.ensures (omega (arith, c.if-r-out-2.false, c.emit_form-r.ensures.long)) c.emit_form-r.ensures c.emit_surplus.ensures

emit_node_emit_part_requires : (t : ℕ) → emit-node-lts.Need-emit_part-requires (
  emit_part_below t,
  emit-part.Post,
  left-word-reads.Asked,
  left-word-reads.Learnt,
  put_reads.Asked,
  put_reads.Learnt,
) (emit_node_at t) emit-node.Post
emit_node_emit_part_requires t c κs =
    let a = c.args in
    let p = c.requires in
    let h = p.1.0.2.given c.if-p-y.true in
    let q = asked_kid (lines_in a.t.now) a.t.now a.u.now a.f.now a.y a.d _ a.p p.1.0.0 h.1 h.2 in
    (omega (arith, p.0, q.0), ((q.1, p.1.0.1), stands_at (words (lines_in a.t.now) a.u.now a.f.now a.d a.places) a.out.now a.from a.end a.at a.last a.p a.y q.0 p.1.1))

emit_node_returns : (t : ℕ) → emit-node-lts.Need-returns-then-p-y (
  emit_part_below t,
  emit-part.Post,
  left-word-reads.Asked,
  left-word-reads.Learnt,
  put_reads.Asked,
  put_reads.Learnt,
) (emit_node_at t) emit-node.Post
emit_node_returns t c =
    let a = c.args in
    let p = c.requires in
    put_same _ _ _ _ _ _ (step_given (lines_in a.t.now) a.u.now a.f.now a.d a.places a.y a.w a.p p.1.0.2 c.if-p-y.true) c.emit_part.ensures

emit_node_returns_2 : (t : ℕ) → emit-node-lts.Need-returns (
  emit_part_below t,
  emit-part.Post,
  left-word-reads.Asked,
  left-word-reads.Learnt,
  put_reads.Asked,
  put_reads.Learnt,
) (emit_node_at t) emit-node.Post
emit_node_returns_2 t c =
    let a = c.args in
    let p = c.requires in
    put_same _ _ _ _ _ _ (ap (λ (x : ℕ). x ∷ []) c.left_word.ensures ∙ step_left (lines_in a.t.now) a.u.now a.f.now a.d a.places a.y a.w a.p p.1.0.2 c.if-p-y.false) c.put.ensures

emit_part_again_requires : (t : ℕ) → emit-part-lts.Need-again-requires (
  again-reads.Asked,
  again-reads.Learnt,
  type-number-reads.Asked,
  type-number-reads.Learnt,
  leaf-word-reads.Asked,
  leaf-word-reads.Learnt,
  put_reads.Asked,
  put_reads.Learnt,
  emit_tree_below t,
  emit-tree.Post,
) (emit_part_at t) emit-part.Post
emit_part_again_requires t c κs =
    let p = c.requires in
    let z = p.1.1 c.if-last-y.true in (z.order, z.before, p.1.0.1)

emit_part_returns : (t : ℕ) → emit-part-lts.Need-returns-then-last-y (
  again-reads.Asked,
  again-reads.Learnt,
  type-number-reads.Asked,
  type-number-reads.Learnt,
  leaf-word-reads.Asked,
  leaf-word-reads.Learnt,
  put_reads.Asked,
  put_reads.Learnt,
  emit_tree_below t,
  emit-tree.Post,
) (emit_part_at t) emit-part.Post
emit_part_returns t c =
    put_stands _ _ _ _ _ _ _ (c.requires.1.1 c.if-last-y.true) c.again.ensures

emit_part_returns_2 : (t : ℕ) → emit-part-lts.Need-returns-then-k-lt7 (
  again-reads.Asked,
  again-reads.Learnt,
  type-number-reads.Asked,
  type-number-reads.Learnt,
  leaf-word-reads.Asked,
  leaf-word-reads.Learnt,
  put_reads.Asked,
  put_reads.Learnt,
  emit_tree_below t,
  emit-tree.Post,
) (emit_part_at t) emit-part.Post
emit_part_returns_2 t c =
    let a = c.args in
    let p = c.requires in
    put_leaf (lines_in a.t.now) p.1.0.0.tabled.passed a.u.now a.f.now a.d a.places a.y p.1.0.0.type a.out.now a.at p.1.0.1 _ _ _ (omega (arith, c.if-k-lt7.true, c.type_number-k.ensures)) c.leaf_word.ensures c.put.ensures

emit_part_emit_tree_requires : (t : ℕ) → emit-part-lts.Need-emit_tree-requires (
  again-reads.Asked,
  again-reads.Learnt,
  type-number-reads.Asked,
  type-number-reads.Learnt,
  leaf-word-reads.Asked,
  leaf-word-reads.Learnt,
  put_reads.Asked,
  put_reads.Learnt,
  emit_tree_below t,
  emit-tree.Post,
) (emit_part_at t) emit-part.Post
emit_part_emit_tree_requires t c κs =
    let p = c.requires in (omega (arith, p.0), (p.1.0, omega (arith, c.if-k-lt7.false, c.type_number-k.ensures)))

emit_part_returns_3 : (t : ℕ) → emit-part-lts.Need-returns (
  again-reads.Asked,
  again-reads.Learnt,
  type-number-reads.Asked,
  type-number-reads.Learnt,
  leaf-word-reads.Asked,
  leaf-word-reads.Learnt,
  put_reads.Asked,
  put_reads.Learnt,
  emit_tree_below t,
  emit-tree.Post,
) (emit_part_at t) emit-part.Post
emit_part_returns_3 t c =
    c.emit_tree.ensures

emit_surplus_returns : (t : ℕ) → emit-surplus-lts.Need-returns-then-r-at (
  kind-reads.Asked,
  kind-reads.Learnt,
  kids-reads.Asked,
  kids-reads.Learnt,
  emit_kids_below t,
  emit-kids.Post,
  count-reads.Asked,
  count-reads.Learnt,
  own-reads.Asked,
  own-reads.Learnt,
  pack-reads.Asked,
  pack-reads.Learnt,
  put_reads.Asked,
  put_reads.Learnt,
) (emit_surplus_at t) emit-surplus.Post
emit_surplus_returns t c =
    let a = c.args in
    let p = c.requires in
    surplus_none a.out.now a.at a.r (kids_of (lines_in a.t.now) a.y - a.k) (run (kid_words (lines_in a.t.now) a.u.now a.f.now a.d a.places a.y) a.k (kids_of (lines_in a.t.now) a.y - a.k)) c.if-r-at.true (omega (arith, p.1.0.1, p.1.0.2))

emit_surplus_returns_2 : (t : ℕ) → emit-surplus-lts.Need-returns-then-kind-ne8 (
  kind-reads.Asked,
  kind-reads.Learnt,
  kids-reads.Asked,
  kids-reads.Learnt,
  emit_kids_below t,
  emit-kids.Post,
  count-reads.Asked,
  count-reads.Learnt,
  own-reads.Asked,
  own-reads.Learnt,
  pack-reads.Asked,
  pack-reads.Learnt,
  put_reads.Asked,
  put_reads.Learnt,
) (emit_surplus_at t) emit-surplus.Post
emit_surplus_returns_2 t c =
    let a = c.args in
    let p = c.requires in
    surplus_kept a.out.now a.at a.r (kids_of (lines_in a.t.now) a.y - a.k) (run (kid_words (lines_in a.t.now) a.u.now a.f.now a.d a.places a.y) a.k (kids_of (lines_in a.t.now) a.y - a.k)) (below a.at a.r p.1.0.1 c.if-r-at.false) p.1.0.2 (λ e. c.if-kind-ne8.true (c.kind.ensures ∙ e))

emit_surplus_emit_kids_requires : (t : ℕ) → emit-surplus-lts.Need-emit_kids-e-requires (
  kind-reads.Asked,
  kind-reads.Learnt,
  kids-reads.Asked,
  kids-reads.Learnt,
  emit_kids_below t,
  emit-kids.Post,
  count-reads.Asked,
  count-reads.Learnt,
  own-reads.Asked,
  own-reads.Learnt,
  pack-reads.Asked,
  pack-reads.Learnt,
  put_reads.Asked,
  put_reads.Learnt,
) (emit_surplus_at t) emit-surplus.Post
emit_surplus_emit_kids_requires t c κs =
    let a = c.args in
    let p = c.requires in
    (omega (arith, p.0), (p.1.0.0, omega (arith, p.1.0.2), p.1.0.3))

emit_surplus_returns_3 : (t : ℕ) → emit-surplus-lts.Need-returns-then-e-out (
  kind-reads.Asked,
  kind-reads.Learnt,
  kids-reads.Asked,
  kids-reads.Learnt,
  emit_kids_below t,
  emit-kids.Post,
  count-reads.Asked,
  count-reads.Learnt,
  own-reads.Asked,
  own-reads.Learnt,
  pack-reads.Asked,
  pack-reads.Learnt,
  put_reads.Asked,
  put_reads.Learnt,
) (emit_surplus_at t) emit-surplus.Post
emit_surplus_returns_3 t c =
    let a = c.args in
    let p = c.requires in
    surplus_stop a.out.now a.at a.r (kids_of (lines_in a.t.now) a.y - a.k) (run (kid_words (lines_in a.t.now) a.u.now a.f.now a.d a.places a.y) a.k (kids_of (lines_in a.t.now) a.y - a.k)) (below a.at a.r p.1.0.1 c.if-r-at.false) p.1.0.2 _ _ (sym c.kind.ensures ∙ c.if-kind-ne8.false) (omega (arith, c.if-e-out.true, c.emit_kids-e.ensures.long)) c.emit_kids-e.ensures

emit_surplus_cast_pack : (t : ℕ) → emit-surplus-lts.Need-overflow_cast-n (
  kind-reads.Asked,
  kind-reads.Learnt,
  kids-reads.Asked,
  kids-reads.Learnt,
  emit_kids_below t,
  emit-kids.Post,
  count-reads.Asked,
  count-reads.Learnt,
  own-reads.Asked,
  own-reads.Learnt,
  pack-reads.Asked,
  pack-reads.Learnt,
  put_reads.Asked,
  put_reads.Learnt,
) (emit_surplus_at t) emit-surplus.Post
emit_surplus_cast_pack t c =
    let a = c.args in
    let p = c.requires in
    omega (arith, c.kids.ensures, name_kids (lines_in a.t.now) p.1.0.0.tabled.passed a.y p.1.0.0.type p.1.1)

emit_surplus_add_pack : (t : ℕ) → emit-surplus-lts.Need-overflow_add-count (
  kind-reads.Asked,
  kind-reads.Learnt,
  kids-reads.Asked,
  kids-reads.Learnt,
  emit_kids_below t,
  emit-kids.Post,
  count-reads.Asked,
  count-reads.Learnt,
  own-reads.Asked,
  own-reads.Learnt,
  pack-reads.Asked,
  pack-reads.Learnt,
  put_reads.Asked,
  put_reads.Learnt,
) (emit_surplus_at t) emit-surplus.Post
emit_surplus_add_pack t c =
    let a = c.args in
    let p = c.requires in
    omega (arith, c.kids.ensures, name_kids (lines_in a.t.now) p.1.0.0.tabled.passed a.y p.1.0.0.type p.1.1, c.count.ensures, count_few (get_or a.out.now (a.r - 1) 0))

emit_surplus_returns_4 : (t : ℕ) → emit-surplus-lts.Need-returns (
  kind-reads.Asked,
  kind-reads.Learnt,
  kids-reads.Asked,
  kids-reads.Learnt,
  emit_kids_below t,
  emit-kids.Post,
  count-reads.Asked,
  count-reads.Learnt,
  own-reads.Asked,
  own-reads.Learnt,
  pack-reads.Asked,
  pack-reads.Learnt,
  put_reads.Asked,
  put_reads.Learnt,
) (emit_surplus_at t) emit-surplus.Post
emit_surplus_returns_4 t c =
    let a = c.args in
    let p = c.requires in
    surplus_put a.out.now a.at a.r (kids_of (lines_in a.t.now) a.y - a.k) (run (kid_words (lines_in a.t.now) a.u.now a.f.now a.d a.places a.y) a.k (kids_of (lines_in a.t.now) a.y - a.k)) (below a.at a.r p.1.0.1 c.if-r-at.false) p.1.0.2 _ _ _ _ _ (sym c.kind.ensures ∙ c.if-kind-ne8.false) (omega (arith, c.if-e-out.false, c.emit_kids-e.ensures.long)) (c.pack.ensures ∙ grown_word _ _ _ _ _ _ c.count.ensures c.own.ensures (ap (λ (i : ℕ). i - a.k) c.kids.ensures)) c.emit_kids-e.ensures c.put.ensures

emit_tree_returns : (t : ℕ) → emit-tree-lts.Need-returns-then-k-eq8 (
  type-number-reads.Asked,
  type-number-reads.Learnt,
  emit_name_below t,
  emit-name.Post,
  emit_kids_below t,
  emit-kids.Post,
  own-word-reads.Asked,
  own-word-reads.Learnt,
  put_reads.Asked,
  put_reads.Learnt,
) (emit_tree_at t) emit-tree.Post
emit_tree_returns t c =
    c.emit_name.ensures

emit_tree_returns_2 : (t : ℕ) → emit-tree-lts.Need-returns-then-r-out (
  type-number-reads.Asked,
  type-number-reads.Learnt,
  emit_name_below t,
  emit-name.Post,
  emit_kids_below t,
  emit-kids.Post,
  own-word-reads.Asked,
  own-word-reads.Learnt,
  put_reads.Asked,
  put_reads.Learnt,
) (emit_tree_at t) emit-tree.Post
emit_tree_returns_2 t c =
    let a = c.args in
    let p = c.requires in
    stop_plain (lines_in a.t.now) p.1.0.0.tabled.passed a.u.now a.f.now a.d a.places a.y p.1.0.0.type a.out.now a.at p.1.0.1 (λ e. omega (arith, p.1.1)) (λ e. c.if-k-eq8.false (c.type_number-k.ensures ∙ e)) _ _ (omega (arith, c.if-r-out.true, c.emit_kids-r.ensures.long)) c.emit_kids-r.ensures

emit_tree_returns_3 : (t : ℕ) → emit-tree-lts.Need-returns (
  type-number-reads.Asked,
  type-number-reads.Learnt,
  emit_name_below t,
  emit-name.Post,
  emit_kids_below t,
  emit-kids.Post,
  own-word-reads.Asked,
  own-word-reads.Learnt,
  put_reads.Asked,
  put_reads.Learnt,
) (emit_tree_at t) emit-tree.Post
emit_tree_returns_3 t c =
    let a = c.args in
    let p = c.requires in
    put_plain (lines_in a.t.now) p.1.0.0.tabled.passed a.u.now a.f.now a.d a.places a.y p.1.0.0.type a.out.now a.at p.1.0.1 (λ e. omega (arith, p.1.1)) (λ e. c.if-k-eq8.false (c.type_number-k.ensures ∙ e)) _ _ _ _ _ (omega (arith, c.if-r-out.false, c.emit_kids-r.ensures.long)) c.emit_kids-r.ensures c.own_word.ensures c.put.ensures

pub +emit_form_emit_kids_emit_name_emit_node_emit_part_emit_surplus_emit_tree_spec :
    {M : Type 1} → statement M
+emit_form_emit_kids_emit_name_emit_node_emit_part_emit_surplus_emit_tree_spec =
    close
    μ_emit_form
    μ_emit_kids
    μ_emit_name
    μ_emit_node
    μ_emit_part
    μ_emit_surplus
    μ_emit_tree
    (λ t. emit-form-lts.spec (
      argument-line-reads.Asked,
      argument-line-reads.Learnt,
      emit_node_below t,
      emit-node.Post,
    )
    (emit_form_at t)
    emit-form.Post
    emit_form_Inv_loop
    emit_form_μ_loop
    (λ c. search rules)
    (λ c. search rules)
    (λ c. search rules)
    (λ c. search rules)
    (λ c. search rules)
    (λ c. search rules)
    (λ c. search rules)
    (emit_form_loop_holds t)
    (emit_form_add_w t)
    (emit_form_mul_w t)
    (emit_form_shared_slice_read_w t)
    (emit_form_argument_line_requires t)
    (emit_form_emit_node_requires t)
    (emit_form_same_length t)
    (emit_form_returns t)
    (emit_form_add_i t)
    (emit_form_loop_less t)
    (emit_form_loop_again t)
    (emit_form_same_length_2 t)
    (emit_form_returns_2 t))
    (λ t. emit-kids-lts.spec (
      kids-reads.Asked,
      kids-reads.Learnt,
      kid-reads.Asked,
      kid-reads.Learnt,
      emit_part_below t,
      emit-part.Post,
    )
    (emit_kids_at t)
    emit-kids.Post
    emit_kids_Inv_loop
    emit_kids_μ_loop
    (λ c κs. search rules)
    (emit_kids_loop_holds t)
    (emit_kids_kid_requires t)
    (emit_kids_emit_part_requires t)
    (emit_kids_same_length t)
    (emit_kids_returns t)
    (emit_kids_add_i t)
    (emit_kids_loop_less t)
    (emit_kids_loop_again t)
    (emit_kids_same_length_2 t)
    (emit_kids_returns_2 t))
    (λ t. emit-name-lts.spec (
      type-number-reads.Asked,
      type-number-reads.Learnt,
      decl-of-reads.Asked,
      decl-of-reads.Learnt,
      state-reads.Asked,
      state-reads.Learnt,
      pack-reads.Asked,
      pack-reads.Learnt,
      put_reads.Asked,
      put_reads.Learnt,
      emit_kids_below t,
      emit-kids.Post,
      kids-reads.Asked,
      kids-reads.Learnt,
      emit_form_below t,
      emit-form.Post,
      params-reads.Asked,
      params-reads.Learnt,
      emit_surplus_below t,
      emit-surplus.Post,
    )
    (emit_name_at t)
    emit-name.Post
    (λ c κs. search rules)
    (λ c. search rules)
    (emit_name_decl_of_requires t)
    (emit_name_state_requires t)
    (λ c κs. search rules)
    (λ c κs. search rules)
    (λ c. search rules)
    (emit_name_returns t)
    (λ c κs. search rules)
    (λ c. search rules)
    (emit_name_returns_2 t)
    (λ c κs. search rules)
    (emit_name_cast_pack t)
    (λ c κs. search rules)
    (λ c κs. search rules)
    (λ c. search rules)
    (emit_name_returns_3 t)
    (emit_name_emit_form_requires t)
    (λ c. search rules)
    (emit_name_returns_4 t)
    (emit_name_params_requires t)
    (λ c κs. search rules)
    (λ c. search rules)
    (emit_name_returns_5 t)
    (emit_name_emit_surplus_requires t)
    (λ c. search rules)
    (emit_name_returns_6 t))
    (λ t. emit-node-lts.spec (
      emit_part_below t,
      emit-part.Post,
      left-word-reads.Asked,
      left-word-reads.Learnt,
      put_reads.Asked,
      put_reads.Learnt,
    )
    (emit_node_at t)
    emit-node.Post
    (emit_node_emit_part_requires t)
    (λ c. search rules)
    (emit_node_returns t)
    (λ c κs. search rules)
    (λ c κs. search rules)
    (λ c. search rules)
    (emit_node_returns_2 t))
    (λ t. emit-part-lts.spec (
      again-reads.Asked,
      again-reads.Learnt,
      type-number-reads.Asked,
      type-number-reads.Learnt,
      leaf-word-reads.Asked,
      leaf-word-reads.Learnt,
      put_reads.Asked,
      put_reads.Learnt,
      emit_tree_below t,
      emit-tree.Post,
    )
    (emit_part_at t)
    emit-part.Post
    (emit_part_again_requires t)
    (λ c. search rules)
    (emit_part_returns t)
    (λ c κs. search rules)
    (λ c κs. search rules)
    (λ c κs. search rules)
    (λ c. search rules)
    (emit_part_returns_2 t)
    (emit_part_emit_tree_requires t)
    (λ c. search rules)
    (emit_part_returns_3 t))
    (λ t. emit-surplus-lts.spec (
      kind-reads.Asked,
      kind-reads.Learnt,
      kids-reads.Asked,
      kids-reads.Learnt,
      emit_kids_below t,
      emit-kids.Post,
      count-reads.Asked,
      count-reads.Learnt,
      own-reads.Asked,
      own-reads.Learnt,
      pack-reads.Asked,
      pack-reads.Learnt,
      put_reads.Asked,
      put_reads.Learnt,
    )
    (emit_surplus_at t)
    emit-surplus.Post
    (emit_surplus_returns t)
    (λ c. search rules)
    (λ c. search rules)
    (λ c. search rules)
    (λ c κs. search rules)
    (emit_surplus_returns_2 t)
    (λ c κs. search rules)
    (λ c. search rules)
    (λ c. search rules)
    (emit_surplus_emit_kids_requires t)
    (λ c. search rules)
    (emit_surplus_returns_3 t)
    (λ c κs. search rules)
    (emit_surplus_cast_pack t)
    (emit_surplus_add_pack t)
    (λ c κs. search rules)
    (λ c κs. search rules)
    (λ c κs. search rules)
    (λ c. search rules)
    (emit_surplus_returns_4 t))
    λ t. emit-tree-lts.spec (
      type-number-reads.Asked,
      type-number-reads.Learnt,
      emit_name_below t,
      emit-name.Post,
      emit_kids_below t,
      emit-kids.Post,
      own-word-reads.Asked,
      own-word-reads.Learnt,
      put_reads.Asked,
      put_reads.Learnt,
    )
    (emit_tree_at t)
    emit-tree.Post
    (λ c κs. search rules)
    (λ c κs. search rules)
    (λ c. search rules)
    (emit_tree_returns t)
    (λ c κs. search rules)
    (λ c. search rules)
    (emit_tree_returns_2 t)
    (λ c κs. search rules)
    (λ c κs. search rules)
    (λ c. search rules)
    (emit_tree_returns_3 t)
