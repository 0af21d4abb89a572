-- `pattern_emit::put_inner` meets its contract: three lists one after the other, and the link falls. Assumes nothing.
use mathlib.Core.List.{[]}
use Prim.Native.Nat.{ℕ, ◌<◌}
use native.Mathlib.Omega.{arith}
use borrow.Author.Rules.{rules}
use borrow.Fn.Kinds.{In}
use borrow.Fn.PlainCycle.{Measures, is, falls, and}
use Rattle.pattern_emit.specs.PutLaws.{put_none, put_same}
use Rattle.pattern_emit.specs.StepLaws.{dropped_names, lower_last, lower_previous, none_inner, inner_first, inner_second, inner_third, inner_put}
use Rattle.pattern_emit.proofs.put_inner.Reads as put-inner
use Rattle.pattern_emit.proofs.put_inner.Kinds as put-inner-kinds
use Rattle.pattern_emit.proofs.+put_inner.Lts-put_inner as put-inner-lts
use Rattle.pattern_emit.proofs.put_parts.Reads as put-parts-reads
use Rattle.walk_cells.proofs.number.Reads as number-reads
use Rattle.pattern_emit.proofs.+put_inner.{statement}
use Rattle.pattern_emit.proofs.+put_inner.Tie.{close}

abbrev μ_put_inner : Measures 4 put-inner-kinds.ps ℕ
μ_put_inner κs a = a.1.1.1.0

abbrev put_inner_at : ℕ → In 4 put-inner-kinds.ps
put_inner_at t = and 4 put-inner-kinds.ps (is 4 put-inner-kinds.ps μ_put_inner t) put-inner.Pre

abbrev put_inner_below : ℕ → In 4 put-inner-kinds.ps
put_inner_below t = and 4 put-inner-kinds.ps (falls 4 put-inner-kinds.ps ◌<◌ μ_put_inner t) put-inner.Pre

pub +put_inner_spec : {M : Type 1} → statement M
+put_inner_spec = close μ_put_inner λ t. put-inner-lts.spec (
  number-reads.Asked,
  number-reads.Learnt,
  put_inner_below t,
  put-inner.Post,
  put-parts-reads.Asked,
  put-parts-reads.Learnt,
)
    (put_inner_at t)
    put-inner.Post
    -- returns
    (λ c.
    let s = c in
    let a = s.args in
    let p = s.requires.1 in
    put_same _ [] _ _ _ _ (none_inner a.q.now a.marks.now a.flags.now a.k c.if-k-eq0.true) (put_none a.out.now a.at))
    (λ c. search rules)
    -- number-requires
    (λ c κs.
    let s = c in
    let a = s.args in
    let p = s.requires.1 in
    let some : 0 < a.k = omega (arith, c.if-k-eq0.false) in
    (omega (arith, p.0.1), omega arith))
    (λ c. search rules)
    (λ c. search rules)
    -- number-requires-2
    (λ c κs.
    let s = c in
    let a = s.args in
    let p = s.requires.1 in
    let some : 0 < a.k = omega (arith, c.if-k-eq0.false) in
    (omega (arith, p.0.1), omega arith))
    (λ c. search rules)
    -- put-inner-requires
    (λ c κs.
    let s = c in
    let a = s.args in
    let p = s.requires.1 in
    let some : 0 < a.k = omega (arith, c.if-k-eq0.false) in
    let l = lower_previous a.q.now a.marks.now a.flags.now p.0.0 a.k some p.0.1 _ c.number-previous.ensures in
    (omega (arith, s.requires.0), ((p.0.0, omega (arith, p.0.1)), inner_first a.q.now a.marks.now a.flags.now p.0.0 a.k some p.0.1 _ _ a.at a.out.now c.number-previous.ensures c.number-last.ensures p.1)))
    -- put-inner-requires-2
    (λ c κs.
    let s = c in
    let a = s.args in
    let p = s.requires.1 in
    let some : 0 < a.k = omega (arith, c.if-k-eq0.false) in
    let l = lower_last a.q.now a.marks.now a.flags.now p.0.0 a.k some p.0.1 _ c.number-last.ensures in
    (omega (arith, s.requires.0), ((p.0.0, omega (arith, p.0.1)), inner_second a.q.now a.marks.now a.flags.now p.0.0 a.k some p.0.1 _ _ a.at a.out.now c.number-previous.ensures c.number-last.ensures p.1 _ _ c.put_inner-r.ensures)))
    -- put-parts-requires
    (λ c κs.
    let s = c in
    let a = s.args in
    let p = s.requires.1 in
    let some : 0 < a.k = omega (arith, c.if-k-eq0.false) in
    let l = lower_last a.q.now a.marks.now a.flags.now p.0.0 a.k some p.0.1 _ c.number-last.ensures in
    ((p.0.0, omega (arith, p.0.1), dropped_names), inner_third a.q.now a.marks.now a.flags.now p.0.0 a.k some p.0.1 _ _ a.at a.out.now c.number-previous.ensures c.number-last.ensures p.1 _ _ c.put_inner-r.ensures _ _ c.put_inner-s.ensures))
    (λ c. search rules)
    -- returns-2
    (λ c.
    let s = c in
    let a = s.args in
    let p = s.requires.1 in
    let some : 0 < a.k = omega (arith, c.if-k-eq0.false) in
    inner_put a.q.now a.marks.now a.flags.now p.0.0 a.k some p.0.1 _ _ a.at a.out.now c.number-previous.ensures c.number-last.ensures p.1 _ _ c.put_inner-r.ensures _ _ c.put_inner-s.ensures _ _ c.put_parts.ensures)
