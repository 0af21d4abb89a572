-- `resolve_weights::weigh`, `resolve_weights::weigh_kids` and `resolve_weights::weigh_once` meet their contracts. The measure falls with the Y line, then from a
-- part to its node and from a node to its parts. Assumes nothing.
use mathlib.Core.Path.{◌≡◌, sym, ◌∙◌, ap}
use Prim.Native.Nat.{◌+◌, ◌-◌, ◌*◌, ◌≤◌, ℕ, ◌<◌}
use native.Mathlib.Omega.{arith}
use borrow.Author.Rules.{rules}
use Rattle.resolve_outcomes.specs.Scratch.{part, capped}
use Rattle.resolve_outcomes.proofs.Laws.Scratch.{capped_most}
use Rattle.resolve_kids.specs.Nodes.{kids_of, kid_of, type_of}
use Rattle.resolve_kids.specs.NodesLaws.{node_at}
use Rattle.resolve_kids.specs.Params.{params_of}
use Rattle.resolve_weights.specs.Weigh.{weight_of, weights_of}
use Rattle.resolve_weights.specs.WeighLaws.{weigh_var, weigh_node, kids_none, kids_more, kids_over, once_more, once_last}
use borrow.Fn.Kinds.{In}
use borrow.Fn.PlainCycle.{Measures, is, falls, and}
use Rattle.resolve_weights.proofs.+weigh_weigh_kids_weigh_once.{statement}
use Rattle.resolve_weights.proofs.+weigh_weigh_kids_weigh_once.Tie.{close}
use Rattle.table_access.specs.Tables.{lines_in}
use Rattle.resolve_weights.proofs.weigh.Reads as weigh
use Rattle.resolve_weights.proofs.weigh.Kinds as weigh-kinds
use Rattle.resolve_weights.proofs.+weigh_weigh_kids_weigh_once.Lts-weigh as weigh-lts
use Rattle.resolve_weights.proofs.weigh_kids.Reads as weigh-kids
use Rattle.resolve_weights.proofs.weigh_kids.Kinds as weigh-kids-kinds
use Rattle.resolve_weights.proofs.+weigh_weigh_kids_weigh_once.Lts-weigh_kids as weigh-kids-lts
use Rattle.resolve_weights.proofs.weigh_once.Reads as weigh-once
use Rattle.resolve_weights.proofs.weigh_once.Kinds as weigh-once-kinds
use Rattle.resolve_weights.proofs.+weigh_weigh_kids_weigh_once.Lts-weigh_once as weigh-once-lts
use Rattle.resolve_kids.proofs.arguments.argument.Reads as argument-reads
use Rattle.resolve_kids.proofs.kid.Reads as kid-reads
use Rattle.resolve_kids.proofs.kids.Reads as kids-reads
use Rattle.resolve_outcomes.proofs.sums.more.Reads as more-reads
use Rattle.table_access.proofs.type_number.Reads as type-number-reads

abbrev μ_weigh : Measures 2 weigh-kinds.ps ℕ
μ_weigh κs a = 3 * a.1.0 + 1

abbrev μ_weigh_kids : Measures 2 weigh-kids-kinds.ps ℕ
μ_weigh_kids κs a = 3 * a.1.0

abbrev μ_weigh_once : Measures 2 weigh-once-kinds.ps ℕ
μ_weigh_once κs a = 3 * a.1.0 + 2

abbrev weigh_at : ℕ → In 2 weigh-kinds.ps
weigh_at t = and 2 weigh-kinds.ps (is 2 weigh-kinds.ps μ_weigh t) weigh.Pre

abbrev weigh_below : ℕ → In 2 weigh-kinds.ps
weigh_below t = and 2 weigh-kinds.ps (falls 2 weigh-kinds.ps ◌<◌ μ_weigh t) weigh.Pre

abbrev weigh_kids_at : ℕ → In 2 weigh-kids-kinds.ps
weigh_kids_at t =
    and 2 weigh-kids-kinds.ps (is 2 weigh-kids-kinds.ps μ_weigh_kids t) weigh-kids.Pre

abbrev weigh_kids_below : ℕ → In 2 weigh-kids-kinds.ps
weigh_kids_below t =
    and 2 weigh-kids-kinds.ps (falls 2 weigh-kids-kinds.ps ◌<◌ μ_weigh_kids t) weigh-kids.Pre

abbrev weigh_once_at : ℕ → In 2 weigh-once-kinds.ps
weigh_once_at t =
    and 2 weigh-once-kinds.ps (is 2 weigh-once-kinds.ps μ_weigh_once t) weigh-once.Pre

abbrev weigh_once_below : ℕ → In 2 weigh-once-kinds.ps
weigh_once_below t =
    and 2 weigh-once-kinds.ps (falls 2 weigh-once-kinds.ps ◌<◌ μ_weigh_once t) weigh-once.Pre

weigh_type_number_requires : (t : ℕ) → weigh-lts.Need-type_number-requires (
  type-number-reads.Asked,
  type-number-reads.Learnt,
  argument-reads.Asked,
  argument-reads.Learnt,
  more-reads.Asked,
  more-reads.Learnt,
  weigh_kids_below t,
  weigh-kids.Post,
) (weigh_at t) weigh.Post
weigh_type_number_requires t c κs = let p = c.requires.1 in (p.0.0, (p.0.1, omega arith))

weigh_type_number_requires_2 : (t : ℕ) → weigh-lts.Need-type_number-v-requires (
  type-number-reads.Asked,
  type-number-reads.Learnt,
  argument-reads.Asked,
  argument-reads.Learnt,
  more-reads.Asked,
  more-reads.Learnt,
  weigh_kids_below t,
  weigh-kids.Post,
) (weigh_at t) weigh.Post
weigh_type_number_requires_2 t c κs = let p = c.requires.1 in (p.0.0, (p.0.1, omega arith))

weigh_cast_v : (t : ℕ) → weigh-lts.Need-overflow_cast-v (
  type-number-reads.Asked,
  type-number-reads.Learnt,
  argument-reads.Asked,
  argument-reads.Learnt,
  more-reads.Asked,
  more-reads.Learnt,
  weigh_kids_below t,
  weigh-kids.Post,
) (weigh_at t) weigh.Post
weigh_cast_v t c = search rules

weigh_argument_requires : (t : ℕ) → weigh-lts.Need-argument-requires (
  type-number-reads.Asked,
  type-number-reads.Learnt,
  argument-reads.Asked,
  argument-reads.Learnt,
  more-reads.Asked,
  more-reads.Learnt,
  weigh_kids_below t,
  weigh-kids.Post,
) (weigh_at t) weigh.Post
weigh_argument_requires t c κs = let p = c.requires.1 in (p.0.0, p.1.0, p.1.1)

weigh_more_requires : (t : ℕ) → weigh-lts.Need-more-requires (
  type-number-reads.Asked,
  type-number-reads.Learnt,
  argument-reads.Asked,
  argument-reads.Learnt,
  more-reads.Asked,
  more-reads.Learnt,
  weigh_kids_below t,
  weigh-kids.Post,
) (weigh_at t) weigh.Post
weigh_more_requires t c κs = (omega (arith, c.requires.1.1.2), omega (arith, c.argument.ensures.1))

weigh_returns : (t : ℕ) → weigh-lts.Need-returns-then-type_number-eq3 (
  type-number-reads.Asked,
  type-number-reads.Learnt,
  argument-reads.Asked,
  argument-reads.Learnt,
  more-reads.Asked,
  more-reads.Learnt,
  weigh_kids_below t,
  weigh-kids.Post,
) (weigh_at t) weigh.Post
weigh_returns t c =
    let a = c.args in
    let p = c.requires.1 in
    weigh_var (lines_in a.t.now) p.0.0.passed (params_of (lines_in a.t.now) a.d) (part a.at a.count a.out.now) a.y p.0.1 a.from _ _ _ (sym c.type_number.ensures ∙ c.if-type_number-eq3.true) c.type_number-v.ensures c.argument.ensures.0 c.more.ensures

weigh_more_requires_2 : (t : ℕ) → weigh-lts.Need-more-requires-2 (
  type-number-reads.Asked,
  type-number-reads.Learnt,
  argument-reads.Asked,
  argument-reads.Learnt,
  more-reads.Asked,
  more-reads.Learnt,
  weigh_kids_below t,
  weigh-kids.Post,
) (weigh_at t) weigh.Post
weigh_more_requires_2 t c κs = (omega (arith, c.requires.1.1.2), omega arith)

weigh_weigh_kids_requires : (t : ℕ) → weigh-lts.Need-weigh_kids-requires (
  type-number-reads.Asked,
  type-number-reads.Learnt,
  argument-reads.Asked,
  argument-reads.Learnt,
  more-reads.Asked,
  more-reads.Learnt,
  weigh_kids_below t,
  weigh-kids.Post,
) (weigh_at t) weigh.Post
weigh_weigh_kids_requires t c κs =
    let p = c.requires.1 in
    (omega (arith, c.requires.0), ((p.0.0, p.0.1), (p.1.0, p.1.1, omega (arith, c.more-2.ensures, capped_most 1024 (c.args.from + 1)))))

weigh_returns_2 : (t : ℕ) → weigh-lts.Need-returns (
  type-number-reads.Asked,
  type-number-reads.Learnt,
  argument-reads.Asked,
  argument-reads.Learnt,
  more-reads.Asked,
  more-reads.Learnt,
  weigh_kids_below t,
  weigh-kids.Post,
) (weigh_at t) weigh.Post
weigh_returns_2 t c =
    let a = c.args in
    let p = c.requires.1 in
    weigh_node (lines_in a.t.now) p.0.0.passed (params_of (lines_in a.t.now) a.d) (part a.at a.count a.out.now) a.y p.0.1 a.from _ _ (λ e. c.if-type_number-eq3.false (c.type_number.ensures ∙ e)) c.more-2.ensures c.weigh_kids.ensures

abbrev weigh_kids_Inv_loop : weigh-kids-lts.invariant-loop-i
weigh_kids_Inv_loop t y d out at count from n w₀ last₀ prior₀ i₀ w last prior i = (i ≤ n) × (w ≡ capped 1024 (from + weights_of (lines_in t) d out at count y i)) × ((z : ℕ) → z < y → w ≤ 1024 → z ≡ last → w ≡ prior + weight_of (lines_in t) d out at count z)

abbrev weigh_kids_μ_loop : weigh-kids-lts.decreases-loop-i
weigh_kids_μ_loop t y d out at count from n w₀ last₀ prior₀ i₀ w last prior i = n - i

weigh_kids_kids_requires : (t : ℕ) → weigh-kids-lts.Need-kids-n-requires (
  kids-reads.Asked,
  kids-reads.Learnt,
  kid-reads.Asked,
  kid-reads.Learnt,
  weigh_once_below t,
  weigh-once.Post,
) (weigh_kids_at t) weigh-kids.Post weigh_kids_Inv_loop weigh_kids_μ_loop
weigh_kids_kids_requires t c κs = let p = c.requires.1 in (p.0.0, p.0.1)

weigh_kids_loop_holds : (t : ℕ) → weigh-kids-lts.Need-loop-i-init (
  kids-reads.Asked,
  kids-reads.Learnt,
  kid-reads.Asked,
  kid-reads.Learnt,
  weigh_once_below t,
  weigh-once.Post,
) (weigh_kids_at t) weigh-kids.Post weigh_kids_Inv_loop weigh_kids_μ_loop
weigh_kids_loop_holds t c =
    let a = c.args in
    (omega arith, kids_none (params_of (lines_in a.t.now) a.d) (part a.at a.count a.out.now) (λ i. type_of (lines_in a.t.now) (kid_of (lines_in a.t.now) a.y i)) a.from c.requires.1.1.2, λ z h f e. absurd (omega arith))

weigh_kids_returns : (t : ℕ) → weigh-kids-lts.Need-returns-then-w-gt-LIMIT (
  kids-reads.Asked,
  kids-reads.Learnt,
  kid-reads.Asked,
  kid-reads.Learnt,
  weigh_once_below t,
  weigh-once.Post,
) (weigh_kids_at t) weigh-kids.Post weigh_kids_Inv_loop weigh_kids_μ_loop
weigh_kids_returns t c =
    let a = c.args in
    kids_over (params_of (lines_in a.t.now) a.d) (part a.at a.count a.out.now) (λ i. type_of (lines_in a.t.now) (kid_of (lines_in a.t.now) a.y i)) a.from c.loop-i.i (kids_of (lines_in a.t.now) a.y) c.loop-i.w (omega (arith, c.loop-i.invariant.0, c.kids-n.ensures)) c.loop-i.invariant.1 c.if-w-gt-LIMIT.true

weigh_kids_kid_requires : (t : ℕ) → weigh-kids-lts.Need-kid-kid-requires (
  kids-reads.Asked,
  kids-reads.Learnt,
  kid-reads.Asked,
  kid-reads.Learnt,
  weigh_once_below t,
  weigh-once.Post,
) (weigh_kids_at t) weigh-kids.Post weigh_kids_Inv_loop weigh_kids_μ_loop
weigh_kids_kid_requires t c κs = let p = c.requires.1 in (p.0.0, (p.0.1, omega (arith, c.kids-n.ensures, c.loop-i-test.true)))

weigh_kids_weigh_once_requires : (t : ℕ) → weigh-kids-lts.Need-weigh_once-sum-requires (
  kids-reads.Asked,
  kids-reads.Learnt,
  kid-reads.Asked,
  kid-reads.Learnt,
  weigh_once_below t,
  weigh-once.Post,
) (weigh_kids_at t) weigh-kids.Post weigh_kids_Inv_loop weigh_kids_μ_loop
weigh_kids_weigh_once_requires t c κs =
    let a = c.args in
    let p = c.requires.1 in
    let l = (node_at (lines_in a.t.now) p.0.0.passed a.y p.0.1).lower c.loop-i.i (omega (arith, c.kids-n.ensures, c.loop-i-test.true)) in
    (omega (arith, l, c.kid-kid.ensures, c.requires.0), ((p.0.0, omega (arith, l, c.kid-kid.ensures, p.0.1)), ((p.1.0, p.1.1, omega (arith, c.if-w-gt-LIMIT.false)), c.loop-i.invariant.2 _ (omega (arith, l, c.kid-kid.ensures)) c.if-w-gt-LIMIT.false)))

weigh_kids_add_i : (t : ℕ) → weigh-kids-lts.Need-overflow_step-i (
  kids-reads.Asked,
  kids-reads.Learnt,
  kid-reads.Asked,
  kid-reads.Learnt,
  weigh_once_below t,
  weigh-once.Post,
) (weigh_kids_at t) weigh-kids.Post weigh_kids_Inv_loop weigh_kids_μ_loop
weigh_kids_add_i t c = omega (arith, c.loop-i-test.true)

weigh_kids_loop_less : (t : ℕ) → weigh-kids-lts.Need-loop-i-smaller (
  kids-reads.Asked,
  kids-reads.Learnt,
  kid-reads.Asked,
  kid-reads.Learnt,
  weigh_once_below t,
  weigh-once.Post,
) (weigh_kids_at t) weigh-kids.Post weigh_kids_Inv_loop weigh_kids_μ_loop
weigh_kids_loop_less t c = omega (arith, c.loop-i-test.true)

weigh_kids_loop_again : (t : ℕ) → weigh-kids-lts.Need-loop-i-preserved (
  kids-reads.Asked,
  kids-reads.Learnt,
  kid-reads.Asked,
  kid-reads.Learnt,
  weigh_once_below t,
  weigh-once.Post,
) (weigh_kids_at t) weigh-kids.Post weigh_kids_Inv_loop weigh_kids_μ_loop
weigh_kids_loop_again t c =
    let a = c.args in
    (omega (arith, c.loop-i-test.true), kids_more (params_of (lines_in a.t.now) a.d) (part a.at a.count a.out.now) (λ i. type_of (lines_in a.t.now) (kid_of (lines_in a.t.now) a.y i)) a.from c.loop-i.i c.loop-i.w _ c.loop-i.invariant.1 (c.weigh_once-sum.ensures ∙ ap (λ k. capped 1024 (c.loop-i.w + weight_of (lines_in a.t.now) a.d a.out.now a.at a.count k)) c.kid-kid.ensures), λ z h f e. once_last c.loop-i.w (weight_of (lines_in a.t.now) a.d a.out.now a.at a.count z) _ (c.weigh_once-sum.ensures ∙ ap (λ k. capped 1024 (c.loop-i.w + weight_of (lines_in a.t.now) a.d a.out.now a.at a.count k)) (sym e)) f)

weigh_kids_returns_2 : (t : ℕ) → weigh-kids-lts.Need-returns (
  kids-reads.Asked,
  kids-reads.Learnt,
  kid-reads.Asked,
  kid-reads.Learnt,
  weigh_once_below t,
  weigh-once.Post,
) (weigh_kids_at t) weigh-kids.Post weigh_kids_Inv_loop weigh_kids_μ_loop
weigh_kids_returns_2 t c =
    let a = c.args in
    c.loop-i.invariant.1 ∙ ap (λ k. capped 1024 (a.from + weights_of (lines_in a.t.now) a.d a.out.now a.at a.count a.y k)) (omega (arith, c.kids-n.ensures, c.loop-i.invariant.0, c.loop-i-test.false))

weigh_once_sub_more : (t : ℕ) → weigh-once-lts.Need-overflow_sub-from (
  more-reads.Asked,
  more-reads.Learnt,
  weigh_below t,
  weigh.Post,
) (weigh_once_at t) weigh-once.Post
weigh_once_sub_more t c = omega (arith, c.requires.1.1.1 c.if-y-last.true)

weigh_once_more_requires : (t : ℕ) → weigh-once-lts.Need-more-requires (
  more-reads.Asked,
  more-reads.Learnt,
  weigh_below t,
  weigh.Post,
) (weigh_once_at t) weigh-once.Post
weigh_once_more_requires t c κs = (omega (arith, c.requires.1.1.0.2), omega (arith, c.requires.1.1.0.2))

weigh_once_returns : (t : ℕ) → weigh-once-lts.Need-returns-then-y-last (
  more-reads.Asked,
  more-reads.Learnt,
  weigh_below t,
  weigh.Post,
) (weigh_once_at t) weigh-once.Post
weigh_once_returns t c = once_more _ _ _ _ (c.requires.1.1.1 c.if-y-last.true) c.more.ensures

weigh_once_weigh_requires : (t : ℕ) → weigh-once-lts.Need-weigh-requires (
  more-reads.Asked,
  more-reads.Learnt,
  weigh_below t,
  weigh.Post,
) (weigh_once_at t) weigh-once.Post
weigh_once_weigh_requires t c κs = let p = c.requires.1 in (omega (arith, c.requires.0), (p.0, p.1.0))

weigh_once_returns_2 : (t : ℕ) → weigh-once-lts.Need-returns (
  more-reads.Asked,
  more-reads.Learnt,
  weigh_below t,
  weigh.Post,
) (weigh_once_at t) weigh-once.Post
weigh_once_returns_2 t c = c.weigh.ensures

pub +weigh_weigh_kids_weigh_once_spec : {M : Type 1} → statement M
+weigh_weigh_kids_weigh_once_spec = close μ_weigh μ_weigh_kids μ_weigh_once (λ t. weigh-lts.spec (
  type-number-reads.Asked,
  type-number-reads.Learnt,
  argument-reads.Asked,
  argument-reads.Learnt,
  more-reads.Asked,
  more-reads.Learnt,
  weigh_kids_below t,
  weigh-kids.Post,
)
    (weigh_at t)
    weigh.Post
    (weigh_type_number_requires t)
    (weigh_type_number_requires_2 t)
    (weigh_cast_v t)
    (weigh_argument_requires t)
    (weigh_more_requires t)
    (weigh_returns t)
    (weigh_more_requires_2 t)
    (weigh_weigh_kids_requires t)
    (weigh_returns_2 t))
    (λ t. weigh-kids-lts.spec (
      kids-reads.Asked,
      kids-reads.Learnt,
      kid-reads.Asked,
      kid-reads.Learnt,
      weigh_once_below t,
      weigh-once.Post,
    )
    (weigh_kids_at t)
    weigh-kids.Post
    weigh_kids_Inv_loop
    weigh_kids_μ_loop
    (weigh_kids_kids_requires t)
    (weigh_kids_loop_holds t)
    (weigh_kids_returns t)
    (weigh_kids_kid_requires t)
    (weigh_kids_weigh_once_requires t)
    (weigh_kids_add_i t)
    (weigh_kids_loop_less t)
    (weigh_kids_loop_again t)
    (weigh_kids_returns_2 t))
    λ t. weigh-once-lts.spec (
      more-reads.Asked,
      more-reads.Learnt,
      weigh_below t,
      weigh.Post,
    )
    (weigh_once_at t)
    weigh-once.Post
    (weigh_once_sub_more t)
    (weigh_once_more_requires t)
    (weigh_once_returns t)
    (weigh_once_weigh_requires t)
    (weigh_once_returns_2 t)
