-- The functions of the resolution by outcomes meet their contracts. The measure falls with the fuel, then with the Y line,
-- then from a part to its node and from a node to its parts. Assumes nothing.
use mathlib.Core.Path.{◌≡◌, refl, sym, ◌∙◌, ap, subst}
use Prim.Native.Nat.{◌+◌, ◌-◌, ◌*◌, ◌≤◌, ℕ, ◌<◌}
use native.Mathlib.Omega.{arith}
use lib.ListN.{length}
use borrow.Author.Rules.{rules}
use Rattle.resolve_outcomes.specs.Scratch.{part, Nodes}
use Rattle.resolve_outcomes.proofs.Laws.Scratch.{part_same}
use Rattle.resolve_laws.specs.Resolver.{evals_of, call_of, Again, Done}
use Rattle.resolve_laws.specs.ResolverLaws.{node_var, node_again, node_stop, node_built, node_full, joined_args, node_apply, args_none, again_none, again_kept, args_more, args_again, args_stop, args_full, args_done, unfolded_here, body_here, apply_enter, kid_below, name_within, apply_kept}
use borrow.Fn.Kinds.{In}
use borrow.Fn.PlainCycle.{Measures, is, falls, and}
use Rattle.table_declared.specs.PassedLaws.{decls_few, types_few, names_few}
use Rattle.resolve_types.proofs.resolution.+apply_args_enter_node_once.{statement}
use Rattle.resolve_types.proofs.resolution.+apply_args_enter_node_once.Tie.{close}
use Rattle.table_access.specs.Tables.{lines_in}
use Rattle.resolve_types.proofs.resolution.apply.Reads as apply
use Rattle.resolve_types.proofs.resolution.apply.Kinds as apply-kinds
use Rattle.resolve_types.proofs.resolution.+apply_args_enter_node_once.Lts-apply as apply-lts
use Rattle.resolve_types.proofs.resolution.args.Reads as args
use Rattle.resolve_types.proofs.resolution.args.Kinds as args-kinds
use Rattle.resolve_types.proofs.resolution.+apply_args_enter_node_once.Lts-args as args-lts
use Rattle.resolve_types.proofs.resolution.enter.Reads as enter
use Rattle.resolve_types.proofs.resolution.enter.Kinds as enter-kinds
use Rattle.resolve_types.proofs.resolution.+apply_args_enter_node_once.Lts-enter as enter-lts
use Rattle.resolve_types.proofs.resolution.node.Reads as node
use Rattle.resolve_types.proofs.resolution.node.Kinds as node-kinds
use Rattle.resolve_types.proofs.resolution.+apply_args_enter_node_once.Lts-node as node-lts
use Rattle.resolve_types.proofs.resolution.once.Reads as once
use Rattle.resolve_types.proofs.resolution.once.Kinds as once-kinds
use Rattle.resolve_types.proofs.resolution.+apply_args_enter_node_once.Lts-once as once-lts
use Rattle.resolve_kids.proofs.arguments.argument.Reads as argument-reads
use Rattle.resolve_calls.proofs.copy.Reads as copy-reads
use Rattle.resolve_kids.proofs.params.Reads as params-reads
use Rattle.resolve_kids.proofs.kid.Reads as kid-reads
use Rattle.resolve_kids.proofs.kids.Reads as kids-reads
use Rattle.resolve_memory.proofs.remembering.remember.Reads as remember-reads
use Rattle.resolve_types.proofs.recalls.answered.Reads as answered-reads
use Rattle.resolve_types.proofs.recalls.body.Reads as body-Reads
use Rattle.resolve_types.proofs.entries.entry.Reads as entry-reads
use Rattle.resolve_outcomes.proofs.sums.built.Reads as built-reads
use Rattle.table_access.proofs.decl_of.Reads as decl-of-reads
use Rattle.table_access.proofs.type_number.Reads as type-number-reads

abbrev μ_apply : Measures 4 apply-kinds.ps ℕ
μ_apply κs a = 16400 * a.1.1.1.1.0 + 1

abbrev μ_args : Measures 4 args-kinds.ps ℕ
μ_args κs a = 16400 * a.1.1.1.1.0 + 4 * a.1.1.1.1.1.0 + 1

abbrev μ_enter : Measures 4 enter-kinds.ps ℕ
μ_enter κs a = 16400 * a.1.1.1.1.0

abbrev μ_node : Measures 4 node-kinds.ps ℕ
μ_node κs a = 16400 * a.1.1.1.1.0 + 4 * a.1.1.1.1.1.0 + 2

abbrev μ_once : Measures 4 once-kinds.ps ℕ
μ_once κs a = 16400 * a.1.1.1.1.0 + 4 * a.1.1.1.1.1.0 + 3

abbrev apply_at : ℕ → In 4 apply-kinds.ps
apply_at t = and 4 apply-kinds.ps (is 4 apply-kinds.ps μ_apply t) apply.Pre

abbrev apply_below : ℕ → In 4 apply-kinds.ps
apply_below t = and 4 apply-kinds.ps (falls 4 apply-kinds.ps ◌<◌ μ_apply t) apply.Pre

abbrev args_at : ℕ → In 4 args-kinds.ps
args_at t = and 4 args-kinds.ps (is 4 args-kinds.ps μ_args t) args.Pre

abbrev args_below : ℕ → In 4 args-kinds.ps
args_below t = and 4 args-kinds.ps (falls 4 args-kinds.ps ◌<◌ μ_args t) args.Pre

abbrev enter_at : ℕ → In 4 enter-kinds.ps
enter_at t = and 4 enter-kinds.ps (is 4 enter-kinds.ps μ_enter t) enter.Pre

abbrev enter_below : ℕ → In 4 enter-kinds.ps
enter_below t = and 4 enter-kinds.ps (falls 4 enter-kinds.ps ◌<◌ μ_enter t) enter.Pre

abbrev node_at : ℕ → In 4 node-kinds.ps
node_at t = and 4 node-kinds.ps (is 4 node-kinds.ps μ_node t) node.Pre

abbrev node_below : ℕ → In 4 node-kinds.ps
node_below t = and 4 node-kinds.ps (falls 4 node-kinds.ps ◌<◌ μ_node t) node.Pre

abbrev once_at : ℕ → In 4 once-kinds.ps
once_at t = and 4 once-kinds.ps (is 4 once-kinds.ps μ_once t) once.Pre

abbrev once_below : ℕ → In 4 once-kinds.ps
once_below t = and 4 once-kinds.ps (falls 4 once-kinds.ps ◌<◌ μ_once t) once.Pre

apply_answered_requires : (t : ℕ) → apply-lts.Need-answered-known-requires (
  answered-reads.Asked,
  answered-reads.Learnt,
  decl-of-reads.Asked,
  decl-of-reads.Learnt,
  enter_below t,
  enter.Post,
  remember-reads.Asked,
  remember-reads.Learnt,
) (apply_at t) apply.Post
apply_answered_requires t c κs = let p = c.requires.1 in (p.0, (p.1.0, p.1.1))

apply_same_length : (t : ℕ) → apply-lts.Need-shape_of-out-then-known-ne0 (
  answered-reads.Asked,
  answered-reads.Learnt,
  decl-of-reads.Asked,
  decl-of-reads.Learnt,
  enter_below t,
  enter.Post,
  remember-reads.Asked,
  remember-reads.Learnt,
) (apply_at t) apply.Post
apply_same_length t c = search rules

apply_same_length_2 : (t : ℕ) → apply-lts.Need-shape_of-slots-then-known-ne0 (
  answered-reads.Asked,
  answered-reads.Learnt,
  decl-of-reads.Asked,
  decl-of-reads.Learnt,
  enter_below t,
  enter.Post,
  remember-reads.Asked,
  remember-reads.Learnt,
) (apply_at t) apply.Post
apply_same_length_2 t c = search rules

apply_returns : (t : ℕ) → apply-lts.Need-returns-then-known-ne0 (
  answered-reads.Asked,
  answered-reads.Learnt,
  decl-of-reads.Asked,
  decl-of-reads.Learnt,
  enter_below t,
  enter.Post,
  remember-reads.Asked,
  remember-reads.Learnt,
) (apply_at t) apply.Post
apply_returns t c = c.answered-known.ensures.found c.if-known-ne0.true c.args.k

apply_decl_of_requires : (t : ℕ) → apply-lts.Need-decl_of-d-requires (
  answered-reads.Asked,
  answered-reads.Learnt,
  decl-of-reads.Asked,
  decl-of-reads.Learnt,
  enter_below t,
  enter.Post,
  remember-reads.Asked,
  remember-reads.Learnt,
) (apply_at t) apply.Post
apply_decl_of_requires t c κs = let p = c.requires.1 in (p.0.0.tabled, p.0.1)

apply_enter_requires : (t : ℕ) → apply-lts.Need-enter-r-requires (
  answered-reads.Asked,
  answered-reads.Learnt,
  decl-of-reads.Asked,
  decl-of-reads.Learnt,
  enter_below t,
  enter.Post,
  remember-reads.Asked,
  remember-reads.Learnt,
) (apply_at t) apply.Post
apply_enter_requires t c κs =
    let a = c.args in
    let p = c.requires.1 in
    (omega (arith, c.requires.0), (unfolded_here (lines_in a.t.now) a.t.now a.u.now p.0.0 a.n _ a.at a.count c.decl_of-d.ensures a.out.now p.1.0 a.slots.now p.1.1 _ c.answered-known.ensures c.if-known-ne0.false, (p.1.0, p.1.1)))

apply_remember_requires : (t : ℕ) → apply-lts.Need-remember-requires (
  answered-reads.Asked,
  answered-reads.Learnt,
  decl-of-reads.Asked,
  decl-of-reads.Learnt,
  enter_below t,
  enter.Post,
  remember-reads.Asked,
  remember-reads.Learnt,
) (apply_at t) apply.Post
apply_remember_requires t c κs = let p = c.requires.1 in let e = c.enter-r.ensures in (omega (arith, p.0.1, names_few (lines_in c.args.t.now) p.0.0.tabled.passed), omega (arith, p.1.0.room, e.kept.long), e.small)

apply_same_length_3 : (t : ℕ) → apply-lts.Need-shape_of-out (
  answered-reads.Asked,
  answered-reads.Learnt,
  decl-of-reads.Asked,
  decl-of-reads.Learnt,
  enter_below t,
  enter.Post,
  remember-reads.Asked,
  remember-reads.Learnt,
) (apply_at t) apply.Post
apply_same_length_3 t c = c.enter-r.ensures.kept.long

apply_same_length_4 : (t : ℕ) → apply-lts.Need-shape_of-slots (
  answered-reads.Asked,
  answered-reads.Learnt,
  decl-of-reads.Asked,
  decl-of-reads.Learnt,
  enter_below t,
  enter.Post,
  remember-reads.Asked,
  remember-reads.Learnt,
) (apply_at t) apply.Post
apply_same_length_4 t c = search rules

apply_returns_2 : (t : ℕ) → apply-lts.Need-returns (
  answered-reads.Asked,
  answered-reads.Learnt,
  decl-of-reads.Asked,
  decl-of-reads.Learnt,
  enter_below t,
  enter.Post,
  remember-reads.Asked,
  remember-reads.Learnt,
) (apply_at t) apply.Post
apply_returns_2 t c =
    let a = c.args in
    let p = c.requires.1 in
    apply_kept (lines_in a.t.now) a.t.now a.u.now a.n a.at a.count a.out.now a.k _ _ _ _ p.1.0.room
    (apply_enter (lines_in a.t.now) a.t.now a.u.now p.0.0 a.n _ _ a.at a.count c.decl_of-d.ensures refl a.out.now p.1.0 a.slots.now p.1.1 a.k _ _ _ c.enter-r.ensures)
    c.remember.ensures

abbrev args_Inv_loop : args-lts.invariant-loop-i
args_Inv_loop t u out₀ slots₀ k y d at count top n next₀ last₀ i₀ out slots next last i = (i ≤ n) × (next ≡ top + i) × (length slots ≡ length slots₀) × Done (evals_of (lines_in t) u d (part at count out₀) y) top i out₀ out (call_of (lines_in t) u) slots × ((z : ℕ) → z < y → Again (lines_in t) u d (part at count out₀) z last next out)

abbrev args_μ_loop : args-lts.decreases-loop-i
args_μ_loop t u out₀ slots₀ k y d at count top n next₀ last₀ i₀ out slots next last i = n - i

args_kids_requires : (t : ℕ) → args-lts.Need-kids-n-requires (
  kids-reads.Asked,
  kids-reads.Learnt,
  kid-reads.Asked,
  kid-reads.Learnt,
  once_below t,
  once.Post,
) (args_at t) args.Post args_Inv_loop args_μ_loop
args_kids_requires t c κs = let p = c.requires.1 in (p.0.setup.tabled, p.0.type)

args_loop_holds : (t : ℕ) → args-lts.Need-loop-i-init (
  kids-reads.Asked,
  kids-reads.Learnt,
  kid-reads.Asked,
  kid-reads.Learnt,
  once_below t,
  once.Post,
) (args_at t) args.Post args_Inv_loop args_μ_loop
args_loop_holds t c =
    let a = c.args in
    let p = c.requires.1 in
    (omega arith, omega arith, refl, args_none (lines_in a.t.now) a.t.now a.u.now a.y a.d p.0 a.at a.count a.top a.out.now p.1.0 a.slots.now p.1.1, λ z h. again_none (lines_in a.t.now) a.t.now a.u.now a.y a.d p.0 a.at a.count a.top a.out.now p.1.0 z a.top a.out.now h)

args_same_length : (t : ℕ) → args-lts.Need-shape_of-out-then-next-out (
  kids-reads.Asked,
  kids-reads.Learnt,
  kid-reads.Asked,
  kid-reads.Learnt,
  once_below t,
  once.Post,
) (args_at t) args.Post args_Inv_loop args_μ_loop
args_same_length t c = c.loop-i.invariant.3.kept.long

args_same_length_2 : (t : ℕ) → args-lts.Need-shape_of-slots-then-next-out (
  kids-reads.Asked,
  kids-reads.Learnt,
  kid-reads.Asked,
  kid-reads.Learnt,
  once_below t,
  once.Post,
) (args_at t) args.Post args_Inv_loop args_μ_loop
args_same_length_2 t c = c.loop-i.invariant.2

args_returns : (t : ℕ) → args-lts.Need-returns-then-next-out (
  kids-reads.Asked,
  kids-reads.Learnt,
  kid-reads.Asked,
  kid-reads.Learnt,
  once_below t,
  once.Post,
) (args_at t) args.Post args_Inv_loop args_μ_loop
args_returns t c =
    let a = c.args in
    let p = c.requires.1 in
    args_full (lines_in a.t.now) a.t.now a.u.now a.y a.d p.0 a.at a.count a.top a.out.now p.1.0 c.loop-i.i a.k c.loop-i.out c.loop-i.slots c.loop-i.invariant.3 (omega (arith, c.kids-n.ensures, c.loop-i-test.true)) (omega (arith, c.if-next-out.true, c.loop-i.invariant.1))

args_kid_requires : (t : ℕ) → args-lts.Need-kid-kid-requires (
  kids-reads.Asked,
  kids-reads.Learnt,
  kid-reads.Asked,
  kid-reads.Learnt,
  once_below t,
  once.Post,
) (args_at t) args.Post args_Inv_loop args_μ_loop
args_kid_requires t c κs = let p = c.requires.1 in (p.0.setup.tabled, (p.0.type, omega (arith, c.kids-n.ensures, c.loop-i-test.true)))

args_once_requires : (t : ℕ) → args-lts.Need-once-r-requires (
  kids-reads.Asked,
  kids-reads.Learnt,
  kid-reads.Asked,
  kid-reads.Learnt,
  once_below t,
  once.Post,
) (args_at t) args.Post args_Inv_loop args_μ_loop
args_once_requires t c κs =
    let a = c.args in
    let p = c.requires.1 in
    let l = kid_below (lines_in a.t.now) p.0.setup.tabled.passed a.y p.0.type c.loop-i.i (omega (arith, c.kids-n.ensures, c.loop-i-test.true)) in (
      omega (arith, l, c.kid-kid.ensures, c.requires.0),
      (
        record { setup = p.0.setup; type = omega (arith, l, c.kid-kid.ensures, p.0.type); decl = p.0.decl },
        (
          (record { inside = omega (arith, p.1.0.inside, c.loop-i.invariant.1); room = omega (arith, c.if-next-out.false); nodes = subst Nodes (sym (part_same a.at a.count a.top c.loop-i.out a.out.now p.1.0.inside c.loop-i.invariant.3.kept)) p.1.0.nodes }, again_kept (lines_in a.t.now) a.t.now a.u.now a.y a.d p.0 a.at a.count a.top a.out.now p.1.0 c.loop-i.i _ _ _ c.loop-i.out c.loop-i.slots c.loop-i.invariant.3 (c.loop-i.invariant.4 _ (omega (arith, l, c.kid-kid.ensures)))),
          c.loop-i.invariant.3.slots,
        ),
      ),
    )

args_same_length_3 : (t : ℕ) → args-lts.Need-shape_of-out-then-r-lt-VALUE (
  kids-reads.Asked,
  kids-reads.Learnt,
  kid-reads.Asked,
  kid-reads.Learnt,
  once_below t,
  once.Post,
) (args_at t) args.Post args_Inv_loop args_μ_loop
args_same_length_3 t c = c.once-r.ensures.kept.long ∙ c.loop-i.invariant.3.kept.long

args_same_length_4 : (t : ℕ) → args-lts.Need-shape_of-slots-then-r-lt-VALUE (
  kids-reads.Asked,
  kids-reads.Learnt,
  kid-reads.Asked,
  kid-reads.Learnt,
  once_below t,
  once.Post,
) (args_at t) args.Post args_Inv_loop args_μ_loop
args_same_length_4 t c = search rules

args_returns_2 : (t : ℕ) → args-lts.Need-returns-then-r-lt-VALUE (
  kids-reads.Asked,
  kids-reads.Learnt,
  kid-reads.Asked,
  kid-reads.Learnt,
  once_below t,
  once.Post,
) (args_at t) args.Post args_Inv_loop args_μ_loop
args_returns_2 t c =
    let a = c.args in
    let p = c.requires.1 in
    args_stop (lines_in a.t.now) a.t.now a.u.now a.y a.d p.0 a.at a.count a.top a.out.now p.1.0 c.loop-i.i _ c.loop-i.out c.loop-i.slots c.loop-i.invariant.3 (omega (arith, c.kids-n.ensures, c.loop-i-test.true)) c.kid-kid.ensures a.k _ _ _ (rw c.loop-i.invariant.1 at c.once-r.ensures) c.if-r-lt-VALUE.true (omega (arith, c.if-next-out.false, c.loop-i.invariant.1))

args_cast_out : (t : ℕ) → args-lts.Need-overflow_cast-out (
  kids-reads.Asked,
  kids-reads.Learnt,
  kid-reads.Asked,
  kid-reads.Learnt,
  once_below t,
  once.Post,
) (args_at t) args.Post args_Inv_loop args_μ_loop
args_cast_out t c = omega (arith, c.once-r.ensures.small)

args_mul_out : (t : ℕ) → args-lts.Need-offset_bounds-out-next (
  kids-reads.Asked,
  kids-reads.Learnt,
  kid-reads.Asked,
  kid-reads.Learnt,
  once_below t,
  once.Post,
) (args_at t) args.Post args_Inv_loop args_μ_loop
args_mul_out t c = omega (arith, c.if-next-out.false, c.loop-i.invariant.3.kept.long, c.well_formed.1.1.0)

args_slice_write_out : (t : ℕ) → args-lts.Need-bounds-out-next (
  kids-reads.Asked,
  kids-reads.Learnt,
  kid-reads.Asked,
  kid-reads.Learnt,
  once_below t,
  once.Post,
) (args_at t) args.Post args_Inv_loop args_μ_loop
args_slice_write_out t c = omega (arith, c.if-next-out.false, c.once-r.ensures.kept.long)

args_add_next : (t : ℕ) → args-lts.Need-overflow_add-next (
  kids-reads.Asked,
  kids-reads.Learnt,
  kid-reads.Asked,
  kid-reads.Learnt,
  once_below t,
  once.Post,
) (args_at t) args.Post args_Inv_loop args_μ_loop
args_add_next t c = omega (arith, c.if-next-out.false, c.loop-i.invariant.3.kept.long, c.well_formed.1.1.0)

args_add_i : (t : ℕ) → args-lts.Need-overflow_step-i (
  kids-reads.Asked,
  kids-reads.Learnt,
  kid-reads.Asked,
  kid-reads.Learnt,
  once_below t,
  once.Post,
) (args_at t) args.Post args_Inv_loop args_μ_loop
args_add_i t c = omega (arith, c.loop-i-test.true)

args_loop_less : (t : ℕ) → args-lts.Need-loop-i-smaller (
  kids-reads.Asked,
  kids-reads.Learnt,
  kid-reads.Asked,
  kid-reads.Learnt,
  once_below t,
  once.Post,
) (args_at t) args.Post args_Inv_loop args_μ_loop
args_loop_less t c = omega (arith, c.loop-i-test.true)

args_loop_again : (t : ℕ) → args-lts.Need-loop-i-preserved (
  kids-reads.Asked,
  kids-reads.Learnt,
  kid-reads.Asked,
  kid-reads.Learnt,
  once_below t,
  once.Post,
) (args_at t) args.Post args_Inv_loop args_μ_loop
args_loop_again t c =
    let a = c.args in
    let p = c.requires.1 in (
      omega (arith, c.loop-i-test.true),
      omega (arith, c.loop-i.invariant.1),
      search rules,
      rw (sym c.loop-i.invariant.1) at (args_more (lines_in a.t.now) a.t.now a.u.now a.y a.d p.0 a.at a.count a.top a.out.now p.1.0 c.loop-i.i _ c.loop-i.out c.loop-i.slots c.loop-i.invariant.3 (omega (arith, c.kids-n.ensures, c.loop-i-test.true)) c.kid-kid.ensures a.k _ _ _ (rw c.loop-i.invariant.1 at c.once-r.ensures) c.if-r-lt-VALUE.false (omega (arith, c.if-next-out.false, c.loop-i.invariant.1))),
      λ z h. rw (sym c.loop-i.invariant.1) at (args_again (lines_in a.t.now) a.t.now a.u.now a.y a.d p.0 a.at a.count a.top a.out.now p.1.0 c.loop-i.i _ c.loop-i.out c.loop-i.slots c.loop-i.invariant.3 (omega (arith, c.kids-n.ensures, c.loop-i-test.true)) c.kid-kid.ensures a.k _ _ _ (rw c.loop-i.invariant.1 at c.once-r.ensures) c.if-r-lt-VALUE.false (omega (arith, c.if-next-out.false, c.loop-i.invariant.1)) z),
    )

args_same_length_5 : (t : ℕ) → args-lts.Need-shape_of-out (
  kids-reads.Asked,
  kids-reads.Learnt,
  kid-reads.Asked,
  kid-reads.Learnt,
  once_below t,
  once.Post,
) (args_at t) args.Post args_Inv_loop args_μ_loop
args_same_length_5 t c = c.loop-i.invariant.3.kept.long

args_same_length_6 : (t : ℕ) → args-lts.Need-shape_of-slots (
  kids-reads.Asked,
  kids-reads.Learnt,
  kid-reads.Asked,
  kid-reads.Learnt,
  once_below t,
  once.Post,
) (args_at t) args.Post args_Inv_loop args_μ_loop
args_same_length_6 t c = c.loop-i.invariant.2

args_returns_3 : (t : ℕ) → args-lts.Need-returns (
  kids-reads.Asked,
  kids-reads.Learnt,
  kid-reads.Asked,
  kid-reads.Learnt,
  once_below t,
  once.Post,
) (args_at t) args.Post args_Inv_loop args_μ_loop
args_returns_3 t c =
    let a = c.args in
    let p = c.requires.1 in
    args_done (lines_in a.t.now) a.t.now a.u.now a.y a.d p.0 a.at a.count a.top a.out.now p.1.0 c.loop-i.i a.k c.loop-i.out c.loop-i.slots c.loop-i.invariant.3 (omega (arith, c.kids-n.ensures, c.loop-i-test.false, c.loop-i.invariant.0))

enter_body_requires : (t : ℕ) → enter-lts.Need-body-y-requires (
  body-Reads.Asked,
  body-Reads.Learnt,
  entry-reads.Asked,
  entry-reads.Learnt,
  params-reads.Asked,
  params-reads.Learnt,
  node_below t,
  node.Post,
) (enter_at t) enter.Post
enter_body_requires t c κs =
    let a = c.args in
    let p = c.requires.1 in
    (omega (arith, p.0.0.decl, decls_few (lines_in a.t.now) p.0.0.setup.tabled.passed), omega (arith, p.0.0.decl, p.0.0.setup.states.long))

enter_entry_requires : (t : ℕ) → enter-lts.Need-entry-r-requires (
  body-Reads.Asked,
  body-Reads.Learnt,
  entry-reads.Asked,
  entry-reads.Learnt,
  params-reads.Asked,
  params-reads.Learnt,
  node_below t,
  node.Post,
) (enter_at t) enter.Post
enter_entry_requires t c κs =
    let a = c.args in
    let p = c.requires.1 in
    (body_here (lines_in a.t.now) a.t.now a.u.now _ a.d c.body-y.ensures p.0, p.1.0)

enter_same_length : (t : ℕ) → enter-lts.Need-shape_of-out-then-r-ne-OPEN (
  body-Reads.Asked,
  body-Reads.Learnt,
  entry-reads.Asked,
  entry-reads.Learnt,
  params-reads.Asked,
  params-reads.Learnt,
  node_below t,
  node.Post,
) (enter_at t) enter.Post
enter_same_length t c = search rules

enter_returns : (t : ℕ) → enter-lts.Need-returns-then-r-ne-OPEN (
  body-Reads.Asked,
  body-Reads.Learnt,
  entry-reads.Asked,
  entry-reads.Learnt,
  params-reads.Asked,
  params-reads.Learnt,
  node_below t,
  node.Post,
) (enter_at t) enter.Post
enter_returns t c =
    let a = c.args in
    let p = c.requires.1 in
    c.entry-r.ensures.found c.if-r-ne-OPEN.true a.slots.now p.1.1

enter_params_requires : (t : ℕ) → enter-lts.Need-params-requires (
  body-Reads.Asked,
  body-Reads.Learnt,
  entry-reads.Asked,
  entry-reads.Learnt,
  params-reads.Asked,
  params-reads.Learnt,
  node_below t,
  node.Post,
) (enter_at t) enter.Post
enter_params_requires t c κs = let p = c.requires.1 in (p.0.0.setup.tabled, p.0.0.decl)

enter_sub_over : (t : ℕ) → enter-lts.Need-overflow_sub-over (
  body-Reads.Asked,
  body-Reads.Learnt,
  entry-reads.Asked,
  entry-reads.Learnt,
  params-reads.Asked,
  params-reads.Learnt,
  node_below t,
  node.Post,
) (enter_at t) enter.Post
enter_sub_over t c = omega (arith, c.entry-r.ensures.enough c.if-r-ne-OPEN.false, c.params.ensures)

enter_sub_node : (t : ℕ) → enter-lts.Need-overflow_sub-k (
  body-Reads.Asked,
  body-Reads.Learnt,
  entry-reads.Asked,
  entry-reads.Learnt,
  params-reads.Asked,
  params-reads.Learnt,
  node_below t,
  node.Post,
) (enter_at t) enter.Post
enter_sub_node t c = omega (arith, c.entry-r.ensures.fuel c.if-r-ne-OPEN.false)

enter_add_node : (t : ℕ) → enter-lts.Need-overflow_add-at (
  body-Reads.Asked,
  body-Reads.Learnt,
  entry-reads.Asked,
  entry-reads.Learnt,
  params-reads.Asked,
  params-reads.Learnt,
  node_below t,
  node.Post,
) (enter_at t) enter.Post
enter_add_node t c = omega (arith, c.requires.1.1.0.room, c.well_formed.1.1.0)

enter_node_requires : (t : ℕ) → enter-lts.Need-node-requires (
  body-Reads.Asked,
  body-Reads.Learnt,
  entry-reads.Asked,
  entry-reads.Learnt,
  params-reads.Asked,
  params-reads.Learnt,
  node_below t,
  node.Post,
) (enter_at t) enter.Post
enter_node_requires t c κs =
    let a = c.args in
    let p = c.requires.1 in
    let w = c.entry-r.ensures in
    let z = c.if-r-ne-OPEN.false in
    let q = (body_here (lines_in a.t.now) a.t.now a.u.now _ a.d c.body-y.ensures p.0).0 in
    (omega (arith, c.requires.0, w.fuel z, q.type, types_few (lines_in a.t.now) q.setup.tabled.passed), (q, ((p.1.0, omega arith, λ e. ap (λ (i : ℕ). a.count - i) c.params.ensures ∙ w.bare z e), p.1.1)))

enter_same_length_2 : (t : ℕ) → enter-lts.Need-shape_of-out (
  body-Reads.Asked,
  body-Reads.Learnt,
  entry-reads.Asked,
  entry-reads.Learnt,
  params-reads.Asked,
  params-reads.Learnt,
  node_below t,
  node.Post,
) (enter_at t) enter.Post
enter_same_length_2 t c = c.node.ensures.kept.long

enter_same_length_3 : (t : ℕ) → enter-lts.Need-shape_of-slots (
  body-Reads.Asked,
  body-Reads.Learnt,
  entry-reads.Asked,
  entry-reads.Learnt,
  params-reads.Asked,
  params-reads.Learnt,
  node_below t,
  node.Post,
) (enter_at t) enter.Post
enter_same_length_3 t c = search rules

enter_returns_2 : (t : ℕ) → enter-lts.Need-returns (
  body-Reads.Asked,
  body-Reads.Learnt,
  entry-reads.Asked,
  entry-reads.Learnt,
  params-reads.Asked,
  params-reads.Learnt,
  node_below t,
  node.Post,
) (enter_at t) enter.Post
enter_returns_2 t c =
    let a = c.args in
    let p = c.requires.1 in
    c.entry-r.ensures.goes c.if-r-ne-OPEN.false a.slots.now p.1.1 _ (ap (λ (i : ℕ). a.count - i) c.params.ensures) _ _ _ c.node.ensures

node_type_number_requires : (t : ℕ) → node-lts.Need-type_number-kind-requires (
  type-number-reads.Asked,
  type-number-reads.Learnt,
  argument-reads.Asked,
  argument-reads.Learnt,
  args_below t,
  args.Post,
  kids-reads.Asked,
  kids-reads.Learnt,
  copy-reads.Asked,
  copy-reads.Learnt,
  apply_below t,
  apply.Post,
  built-reads.Asked,
  built-reads.Learnt,
) (node_at t) node.Post
node_type_number_requires t c κs = let p = c.requires.1.0 in (p.setup.tabled, (p.type, omega arith))

node_type_number_requires_2 : (t : ℕ) → node-lts.Need-type_number-a-requires (
  type-number-reads.Asked,
  type-number-reads.Learnt,
  argument-reads.Asked,
  argument-reads.Learnt,
  args_below t,
  args.Post,
  kids-reads.Asked,
  kids-reads.Learnt,
  copy-reads.Asked,
  copy-reads.Learnt,
  apply_below t,
  apply.Post,
  built-reads.Asked,
  built-reads.Learnt,
) (node_at t) node.Post
node_type_number_requires_2 t c κs = let p = c.requires.1.0 in (p.setup.tabled, (p.type, omega arith))

node_cast_a : (t : ℕ) → node-lts.Need-overflow_cast-a (
  type-number-reads.Asked,
  type-number-reads.Learnt,
  argument-reads.Asked,
  argument-reads.Learnt,
  args_below t,
  args.Post,
  kids-reads.Asked,
  kids-reads.Learnt,
  copy-reads.Asked,
  copy-reads.Learnt,
  apply_below t,
  apply.Post,
  built-reads.Asked,
  built-reads.Learnt,
) (node_at t) node.Post
node_cast_a t c = search rules

node_argument_requires : (t : ℕ) → node-lts.Need-argument-requires (
  type-number-reads.Asked,
  type-number-reads.Learnt,
  argument-reads.Asked,
  argument-reads.Learnt,
  args_below t,
  args.Post,
  kids-reads.Asked,
  kids-reads.Learnt,
  copy-reads.Asked,
  copy-reads.Learnt,
  apply_below t,
  apply.Post,
  built-reads.Asked,
  built-reads.Learnt,
) (node_at t) node.Post
node_argument_requires t c κs = let p = c.requires.1 in (p.0.setup.tabled, p.0.decl, omega (arith, p.1.0.0.inside, p.1.0.0.room))

node_same_length : (t : ℕ) → node-lts.Need-shape_of-out-then-kind-eq3 (
  type-number-reads.Asked,
  type-number-reads.Learnt,
  argument-reads.Asked,
  argument-reads.Learnt,
  args_below t,
  args.Post,
  kids-reads.Asked,
  kids-reads.Learnt,
  copy-reads.Asked,
  copy-reads.Learnt,
  apply_below t,
  apply.Post,
  built-reads.Asked,
  built-reads.Learnt,
) (node_at t) node.Post
node_same_length t c = search rules

node_returns : (t : ℕ) → node-lts.Need-returns-then-kind-eq3 (
  type-number-reads.Asked,
  type-number-reads.Learnt,
  argument-reads.Asked,
  argument-reads.Learnt,
  args_below t,
  args.Post,
  kids-reads.Asked,
  kids-reads.Learnt,
  copy-reads.Asked,
  copy-reads.Learnt,
  apply_below t,
  apply.Post,
  built-reads.Asked,
  built-reads.Learnt,
) (node_at t) node.Post
node_returns t c =
    let a = c.args in
    let p = c.requires.1 in
    let q = sym c.type_number-kind.ensures ∙ c.if-kind-eq3.true in
    node_var (lines_in a.t.now) a.t.now a.u.now a.y a.d p.0 a.at a.count a.over a.top a.out.now p.1.0.0 a.k _ _ _ a.slots.now (p.1.0.2 q) q c.type_number-a.ensures c.argument.ensures.0 c.argument.ensures.1 p.1.1

node_args_requires : (t : ℕ) → node-lts.Need-args-r-requires (
  type-number-reads.Asked,
  type-number-reads.Learnt,
  argument-reads.Asked,
  argument-reads.Learnt,
  args_below t,
  args.Post,
  kids-reads.Asked,
  kids-reads.Learnt,
  copy-reads.Asked,
  copy-reads.Learnt,
  apply_below t,
  apply.Post,
  built-reads.Asked,
  built-reads.Learnt,
) (node_at t) node.Post
node_args_requires t c κs = let p = c.requires.1 in (omega (arith, c.requires.0), (p.0, (p.1.0.0, p.1.1)))

node_same_length_2 : (t : ℕ) → node-lts.Need-shape_of-out-then-r-lt-VALUE (
  type-number-reads.Asked,
  type-number-reads.Learnt,
  argument-reads.Asked,
  argument-reads.Learnt,
  args_below t,
  args.Post,
  kids-reads.Asked,
  kids-reads.Learnt,
  copy-reads.Asked,
  copy-reads.Learnt,
  apply_below t,
  apply.Post,
  built-reads.Asked,
  built-reads.Learnt,
) (node_at t) node.Post
node_same_length_2 t c = c.args-r.ensures.kept.long

node_same_length_3 : (t : ℕ) → node-lts.Need-shape_of-slots-then-r-lt-VALUE (
  type-number-reads.Asked,
  type-number-reads.Learnt,
  argument-reads.Asked,
  argument-reads.Learnt,
  args_below t,
  args.Post,
  kids-reads.Asked,
  kids-reads.Learnt,
  copy-reads.Asked,
  copy-reads.Learnt,
  apply_below t,
  apply.Post,
  built-reads.Asked,
  built-reads.Learnt,
) (node_at t) node.Post
node_same_length_3 t c = search rules

node_returns_2 : (t : ℕ) → node-lts.Need-returns-then-r-lt-VALUE (
  type-number-reads.Asked,
  type-number-reads.Learnt,
  argument-reads.Asked,
  argument-reads.Learnt,
  args_below t,
  args.Post,
  kids-reads.Asked,
  kids-reads.Learnt,
  copy-reads.Asked,
  copy-reads.Learnt,
  apply_below t,
  apply.Post,
  built-reads.Asked,
  built-reads.Learnt,
) (node_at t) node.Post
node_returns_2 t c =
    let a = c.args in
    let p = c.requires.1 in
    node_stop (lines_in a.t.now) a.t.now a.u.now a.y a.d p.0 a.at a.count a.over a.top a.out.now p.1.0.0 a.k _ _ _ (λ e. c.if-kind-eq3.false (c.type_number-kind.ensures ∙ e)) c.args-r.ensures c.if-r-lt-VALUE.true

node_kids_requires : (t : ℕ) → node-lts.Need-kids-n-requires (
  type-number-reads.Asked,
  type-number-reads.Learnt,
  argument-reads.Asked,
  argument-reads.Learnt,
  args_below t,
  args.Post,
  kids-reads.Asked,
  kids-reads.Learnt,
  copy-reads.Asked,
  copy-reads.Learnt,
  apply_below t,
  apply.Post,
  built-reads.Asked,
  built-reads.Learnt,
) (node_at t) node.Post
node_kids_requires t c κs = let p = c.requires.1 in (p.0.setup.tabled, p.0.type)

node_sub_copy : (t : ℕ) → node-lts.Need-overflow_sub-count (
  type-number-reads.Asked,
  type-number-reads.Learnt,
  argument-reads.Asked,
  argument-reads.Learnt,
  args_below t,
  args.Post,
  kids-reads.Asked,
  kids-reads.Learnt,
  copy-reads.Asked,
  copy-reads.Learnt,
  apply_below t,
  apply.Post,
  built-reads.Asked,
  built-reads.Learnt,
) (node_at t) node.Post
node_sub_copy t c = c.requires.1.1.0.1

node_add_copy : (t : ℕ) → node-lts.Need-overflow_add-at (
  type-number-reads.Asked,
  type-number-reads.Learnt,
  argument-reads.Asked,
  argument-reads.Learnt,
  args_below t,
  args.Post,
  kids-reads.Asked,
  kids-reads.Learnt,
  copy-reads.Asked,
  copy-reads.Learnt,
  apply_below t,
  apply.Post,
  built-reads.Asked,
  built-reads.Learnt,
) (node_at t) node.Post
node_add_copy t c = omega (arith, c.requires.1.1.0.0.inside, c.requires.1.1.0.0.room)

node_add_copy_2 : (t : ℕ) → node-lts.Need-overflow_add-top (
  type-number-reads.Asked,
  type-number-reads.Learnt,
  argument-reads.Asked,
  argument-reads.Learnt,
  args_below t,
  args.Post,
  kids-reads.Asked,
  kids-reads.Learnt,
  copy-reads.Asked,
  copy-reads.Learnt,
  apply_below t,
  apply.Post,
  built-reads.Asked,
  built-reads.Learnt,
) (node_at t) node.Post
node_add_copy_2 t c = omega (arith, c.well_formed.1.1.0, c.args-r.ensures.fit c.if-r-lt-VALUE.false, c.kids-n.ensures)

node_copy_requires : (t : ℕ) → node-lts.Need-copy-requires (
  type-number-reads.Asked,
  type-number-reads.Learnt,
  argument-reads.Asked,
  argument-reads.Learnt,
  args_below t,
  args.Post,
  kids-reads.Asked,
  kids-reads.Learnt,
  copy-reads.Asked,
  copy-reads.Learnt,
  apply_below t,
  apply.Post,
  built-reads.Asked,
  built-reads.Learnt,
) (node_at t) node.Post
node_copy_requires t c κs =
    let p = c.requires.1 in
    (omega (arith, p.1.0.0.inside, p.1.0.1), omega (arith, c.args-r.ensures.fit c.if-r-lt-VALUE.false, c.kids-n.ensures, c.args-r.ensures.kept.long))

node_add_apply : (t : ℕ) → node-lts.Need-overflow_add-n (
  type-number-reads.Asked,
  type-number-reads.Learnt,
  argument-reads.Asked,
  argument-reads.Learnt,
  args_below t,
  args.Post,
  kids-reads.Asked,
  kids-reads.Learnt,
  copy-reads.Asked,
  copy-reads.Learnt,
  apply_below t,
  apply.Post,
  built-reads.Asked,
  built-reads.Learnt,
) (node_at t) node.Post
node_add_apply t c = omega (arith, c.well_formed.1.1.0, c.args-r.ensures.fit c.if-r-lt-VALUE.false, c.kids-n.ensures, c.requires.1.1.0.1, c.requires.1.1.0.0.inside, c.requires.1.1.0.0.room)

node_apply_requires : (t : ℕ) → node-lts.Need-apply-requires (
  type-number-reads.Asked,
  type-number-reads.Learnt,
  argument-reads.Asked,
  argument-reads.Learnt,
  args_below t,
  args.Post,
  kids-reads.Asked,
  kids-reads.Learnt,
  copy-reads.Asked,
  copy-reads.Learnt,
  apply_below t,
  apply.Post,
  built-reads.Asked,
  built-reads.Learnt,
) (node_at t) node.Post
node_apply_requires t c κs =
    let a = c.args in
    let p = c.requires.1 in
    let w = rw c.if-copy.true at c.copy.ensures in (
      omega (arith, c.requires.0),
      (
        (p.0.setup, omega (arith, c.type_number-a.ensures, name_within (lines_in a.t.now) p.0.setup.tabled.passed a.y p.0.type (sym c.type_number-kind.ensures ∙ c.if-kind-eq8.true))),
        (
          joined_args (lines_in a.t.now) a.t.now a.u.now a.y a.d p.0 a.at a.count a.over a.top a.out.now p.1.0.0 a.k _ _ _ (λ e. c.if-kind-eq3.false (c.type_number-kind.ensures ∙ e)) c.args-r.ensures _ c.kids-n.ensures c.if-r-lt-VALUE.false p.1.0.1 _ w.0 w.1,
          c.args-r.ensures.slots,
        ),
      ),
    )

node_same_length_4 : (t : ℕ) → node-lts.Need-shape_of-out-then-copy (
  type-number-reads.Asked,
  type-number-reads.Learnt,
  argument-reads.Asked,
  argument-reads.Learnt,
  args_below t,
  args.Post,
  kids-reads.Asked,
  kids-reads.Learnt,
  copy-reads.Asked,
  copy-reads.Learnt,
  apply_below t,
  apply.Post,
  built-reads.Asked,
  built-reads.Learnt,
) (node_at t) node.Post
node_same_length_4 t c =
    let w = rw c.if-copy.true at c.copy.ensures in
    c.apply.ensures.kept.long ∙ (w.1.kept.long ∙ c.args-r.ensures.kept.long)

node_same_length_5 : (t : ℕ) → node-lts.Need-shape_of-slots-then-copy (
  type-number-reads.Asked,
  type-number-reads.Learnt,
  argument-reads.Asked,
  argument-reads.Learnt,
  args_below t,
  args.Post,
  kids-reads.Asked,
  kids-reads.Learnt,
  copy-reads.Asked,
  copy-reads.Learnt,
  apply_below t,
  apply.Post,
  built-reads.Asked,
  built-reads.Learnt,
) (node_at t) node.Post
node_same_length_5 t c = search rules

node_returns_3 : (t : ℕ) → node-lts.Need-returns-then-copy (
  type-number-reads.Asked,
  type-number-reads.Learnt,
  argument-reads.Asked,
  argument-reads.Learnt,
  args_below t,
  args.Post,
  kids-reads.Asked,
  kids-reads.Learnt,
  copy-reads.Asked,
  copy-reads.Learnt,
  apply_below t,
  apply.Post,
  built-reads.Asked,
  built-reads.Learnt,
) (node_at t) node.Post
node_returns_3 t c =
    let a = c.args in
    let p = c.requires.1 in
    let w = rw c.if-copy.true at c.copy.ensures in
    node_apply (lines_in a.t.now) a.t.now a.u.now a.y a.d p.0 a.at a.count a.over a.top a.out.now p.1.0.0 a.k _ _ _ (λ e. c.if-kind-eq3.false (c.type_number-kind.ensures ∙ e)) c.args-r.ensures _ c.kids-n.ensures c.if-r-lt-VALUE.false p.1.0.1 _ w.0 w.1 _ _ _ _ (sym c.type_number-kind.ensures ∙ c.if-kind-eq8.true) c.type_number-a.ensures c.apply.ensures

node_same_length_6 : (t : ℕ) → node-lts.Need-shape_of-out-then-kind-eq8 (
  type-number-reads.Asked,
  type-number-reads.Learnt,
  argument-reads.Asked,
  argument-reads.Learnt,
  args_below t,
  args.Post,
  kids-reads.Asked,
  kids-reads.Learnt,
  copy-reads.Asked,
  copy-reads.Learnt,
  apply_below t,
  apply.Post,
  built-reads.Asked,
  built-reads.Learnt,
) (node_at t) node.Post
node_same_length_6 t c =
    let w = rw c.if-copy.false at c.copy.ensures in
    ap length w.1 ∙ c.args-r.ensures.kept.long

node_same_length_7 : (t : ℕ) → node-lts.Need-shape_of-slots-then-kind-eq8 (
  type-number-reads.Asked,
  type-number-reads.Learnt,
  argument-reads.Asked,
  argument-reads.Learnt,
  args_below t,
  args.Post,
  kids-reads.Asked,
  kids-reads.Learnt,
  copy-reads.Asked,
  copy-reads.Learnt,
  apply_below t,
  apply.Post,
  built-reads.Asked,
  built-reads.Learnt,
) (node_at t) node.Post
node_same_length_7 t c = search rules

node_returns_4 : (t : ℕ) → node-lts.Need-returns-then-kind-eq8 (
  type-number-reads.Asked,
  type-number-reads.Learnt,
  argument-reads.Asked,
  argument-reads.Learnt,
  args_below t,
  args.Post,
  kids-reads.Asked,
  kids-reads.Learnt,
  copy-reads.Asked,
  copy-reads.Learnt,
  apply_below t,
  apply.Post,
  built-reads.Asked,
  built-reads.Learnt,
) (node_at t) node.Post
node_returns_4 t c =
    let a = c.args in
    let p = c.requires.1 in
    let w = rw c.if-copy.false at c.copy.ensures in
    node_full (lines_in a.t.now) a.t.now a.u.now a.y a.d p.0 a.at a.count a.over a.top a.out.now p.1.0.0 a.k _ _ _ (λ e. c.if-kind-eq3.false (c.type_number-kind.ensures ∙ e)) c.args-r.ensures _ _ c.kids-n.ensures w.0 w.1

node_built_requires : (t : ℕ) → node-lts.Need-built-requires (
  type-number-reads.Asked,
  type-number-reads.Learnt,
  argument-reads.Asked,
  argument-reads.Learnt,
  args_below t,
  args.Post,
  kids-reads.Asked,
  kids-reads.Learnt,
  copy-reads.Asked,
  copy-reads.Learnt,
  apply_below t,
  apply.Post,
  built-reads.Asked,
  built-reads.Learnt,
) (node_at t) node.Post
node_built_requires t c κs = (omega (arith, c.args-r.ensures.fit c.if-r-lt-VALUE.false, c.kids-n.ensures, c.args-r.ensures.kept.long), omega arith)

node_same_length_8 : (t : ℕ) → node-lts.Need-shape_of-out (
  type-number-reads.Asked,
  type-number-reads.Learnt,
  argument-reads.Asked,
  argument-reads.Learnt,
  args_below t,
  args.Post,
  kids-reads.Asked,
  kids-reads.Learnt,
  copy-reads.Asked,
  copy-reads.Learnt,
  apply_below t,
  apply.Post,
  built-reads.Asked,
  built-reads.Learnt,
) (node_at t) node.Post
node_same_length_8 t c = c.args-r.ensures.kept.long

node_same_length_9 : (t : ℕ) → node-lts.Need-shape_of-slots (
  type-number-reads.Asked,
  type-number-reads.Learnt,
  argument-reads.Asked,
  argument-reads.Learnt,
  args_below t,
  args.Post,
  kids-reads.Asked,
  kids-reads.Learnt,
  copy-reads.Asked,
  copy-reads.Learnt,
  apply_below t,
  apply.Post,
  built-reads.Asked,
  built-reads.Learnt,
) (node_at t) node.Post
node_same_length_9 t c = search rules

node_returns_5 : (t : ℕ) → node-lts.Need-returns (
  type-number-reads.Asked,
  type-number-reads.Learnt,
  argument-reads.Asked,
  argument-reads.Learnt,
  args_below t,
  args.Post,
  kids-reads.Asked,
  kids-reads.Learnt,
  copy-reads.Asked,
  copy-reads.Learnt,
  apply_below t,
  apply.Post,
  built-reads.Asked,
  built-reads.Learnt,
) (node_at t) node.Post
node_returns_5 t c =
    let a = c.args in
    let p = c.requires.1 in
    node_built (lines_in a.t.now) a.t.now a.u.now a.y a.d p.0 a.at a.count a.over a.top a.out.now p.1.0.0 a.k _ _ _ (λ e. c.if-kind-eq3.false (c.type_number-kind.ensures ∙ e)) c.args-r.ensures _ _ c.if-r-lt-VALUE.false c.kids-n.ensures (λ e. c.if-kind-eq8.false (c.type_number-kind.ensures ∙ e)) c.built.ensures

once_sub_result : (t : ℕ) → once-lts.Need-overflow_sub-result (
  node_below t,
  node.Post,
) (once_at t) once.Post
once_sub_result t c = omega (arith, c.requires.1.1.0.1.behind c.if-y-last.true)

once_mul_result : (t : ℕ) → once-lts.Need-offset_bounds-out-top (
  node_below t,
  node.Post,
) (once_at t) once.Post
once_mul_result t c = omega (arith, c.requires.1.1.0.0.room, c.well_formed.1.1.0)

once_slice_read_result : (t : ℕ) → once-lts.Need-bounds-out-top (
  node_below t,
  node.Post,
) (once_at t) once.Post
once_slice_read_result t c = omega (arith, c.requires.1.1.0.1.behind c.if-y-last.true, c.requires.1.1.0.0.room)

once_cast_result : (t : ℕ) → once-lts.Need-overflow_cast-result (
  node_below t,
  node.Post,
) (once_at t) once.Post
once_cast_result t c = omega (arith, c.slice_known-then-y-last-1.given (c.args.top - 1))

once_returns : (t : ℕ) → once-lts.Need-returns-then-y-last (
  node_below t,
  node.Post,
) (once_at t) once.Post
once_returns t c =
    let a = c.args in
    let p = c.requires.1 in
    node_again (lines_in a.t.now) a.t.now a.u.now a.y a.d p.0 a.at a.count 0 a.top a.out.now p.1.0.0 a.k _ a.last _ a.slots.now refl p.1.0.1 c.if-y-last.true refl (omega (arith, c.slice_known-then-y-last-1.given (a.top - 1))) p.1.1

once_node_requires : (t : ℕ) → once-lts.Need-node-requires (
  node_below t,
  node.Post,
) (once_at t) once.Post
once_node_requires t c κs =
    let p = c.requires.1 in
    (omega (arith, c.requires.0), (p.0, ((p.1.0.0, omega arith, λ e. refl), p.1.1)))

once_same_length : (t : ℕ) → once-lts.Need-shape_of-out (
  node_below t,
  node.Post,
) (once_at t) once.Post
once_same_length t c = c.node.ensures.kept.long

once_same_length_2 : (t : ℕ) → once-lts.Need-shape_of-slots (
  node_below t,
  node.Post,
) (once_at t) once.Post
once_same_length_2 t c = search rules

once_returns_2 : (t : ℕ) → once-lts.Need-returns (
  node_below t,
  node.Post,
) (once_at t) once.Post
once_returns_2 t c = c.node.ensures

pub +apply_args_enter_node_once_spec : {M : Type 1} → statement M
+apply_args_enter_node_once_spec = close μ_apply μ_args μ_enter μ_node μ_once (λ t. apply-lts.spec (
  answered-reads.Asked,
  answered-reads.Learnt,
  decl-of-reads.Asked,
  decl-of-reads.Learnt,
  enter_below t,
  enter.Post,
  remember-reads.Asked,
  remember-reads.Learnt,
)
    (apply_at t)
    apply.Post
    (apply_answered_requires t)
    (apply_same_length t)
    (apply_same_length_2 t)
    (apply_returns t)
    (apply_decl_of_requires t)
    (apply_enter_requires t)
    (apply_remember_requires t)
    (apply_same_length_3 t)
    (apply_same_length_4 t)
    (apply_returns_2 t))
    (λ t. args-lts.spec (
      kids-reads.Asked,
      kids-reads.Learnt,
      kid-reads.Asked,
      kid-reads.Learnt,
      once_below t,
      once.Post,
    )
    (args_at t)
    args.Post
    args_Inv_loop
    args_μ_loop
    (args_kids_requires t)
    (args_loop_holds t)
    (args_same_length t)
    (args_same_length_2 t)
    (args_returns t)
    (args_kid_requires t)
    (args_once_requires t)
    (args_same_length_3 t)
    (args_same_length_4 t)
    (args_returns_2 t)
    (args_cast_out t)
    (args_mul_out t)
    (args_slice_write_out t)
    (args_add_next t)
    (args_add_i t)
    (args_loop_less t)
    (args_loop_again t)
    (args_same_length_5 t)
    (args_same_length_6 t)
    (args_returns_3 t))
    (λ t. enter-lts.spec (
      body-Reads.Asked,
      body-Reads.Learnt,
      entry-reads.Asked,
      entry-reads.Learnt,
      params-reads.Asked,
      params-reads.Learnt,
      node_below t,
      node.Post,
    )
    (enter_at t)
    enter.Post
    (enter_body_requires t)
    (enter_entry_requires t)
    (enter_same_length t)
    (enter_returns t)
    (enter_params_requires t)
    (enter_sub_over t)
    (enter_sub_node t)
    (enter_add_node t)
    (enter_node_requires t)
    (enter_same_length_2 t)
    (enter_same_length_3 t)
    (enter_returns_2 t))
    (λ t. node-lts.spec (
      type-number-reads.Asked,
      type-number-reads.Learnt,
      argument-reads.Asked,
      argument-reads.Learnt,
      args_below t,
      args.Post,
      kids-reads.Asked,
      kids-reads.Learnt,
      copy-reads.Asked,
      copy-reads.Learnt,
      apply_below t,
      apply.Post,
      built-reads.Asked,
      built-reads.Learnt,
    )
    (node_at t)
    node.Post
    (node_type_number_requires t)
    (node_type_number_requires_2 t)
    (node_cast_a t)
    (node_argument_requires t)
    (node_same_length t)
    (node_returns t)
    (node_args_requires t)
    (node_same_length_2 t)
    (node_same_length_3 t)
    (node_returns_2 t)
    (node_kids_requires t)
    (node_sub_copy t)
    (node_add_copy t)
    (node_add_copy_2 t)
    (node_copy_requires t)
    (node_add_apply t)
    (node_apply_requires t)
    (node_same_length_4 t)
    (node_same_length_5 t)
    (node_returns_3 t)
    (node_same_length_6 t)
    (node_same_length_7 t)
    (node_returns_4 t)
    (node_built_requires t)
    (node_same_length_8 t)
    (node_same_length_9 t)
    (node_returns_5 t))
    λ t. once-lts.spec (
      node_below t,
      node.Post,
    )
    (once_at t)
    once.Post
    (once_sub_result t)
    (once_mul_result t)
    (once_slice_read_result t)
    (once_cast_result t)
    (once_returns t)
    (once_node_requires t)
    (once_same_length t)
    (once_same_length_2 t)
    (once_returns_2 t)
