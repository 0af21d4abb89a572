-- `pattern_emit::put_pattern` and `put_parts` meet their contracts: each puts what its callees put, and the link falls. Assumes nothing.
use mathlib.Core.Path.{sym, ◌∙◌}
use mathlib.Core.List.{[]}
use Prim.Native.Nat.{ℕ, ◌+◌, ◌*◌, ◌<◌}
use native.Mathlib.Omega.{arith}
use borrow.Author.Rules.{rules}
use borrow.Fn.Kinds.{In}
use borrow.Fn.PlainCycle.{Measures, is, falls, and}
use Rattle.pattern_emit.specs.PutLaws.{put_none, put_same, room_same}
use Rattle.pattern_emit.specs.StepLaws.{kept_parts, mark_some, lower_last, lower_previous, listed_none, listed_left, wild_lines, only_lines, own_first, own_next, own_rest, own_put, part_first, part_next, part_rest, part_put}
use Rattle.pattern_emit.proofs.put_parts.Reads as put-parts
use Rattle.pattern_emit.proofs.put_parts.Kinds as put-parts-kinds
use Rattle.pattern_emit.proofs.+put_parts_put_pattern.Lts-put_parts as put-parts-lts
use Rattle.pattern_emit.proofs.put_pattern.Reads as put-pattern
use Rattle.pattern_emit.proofs.put_pattern.Kinds as put-pattern-kinds
use Rattle.pattern_emit.proofs.+put_parts_put_pattern.Lts-put_pattern as put-pattern-lts
use Rattle.pattern_emit.proofs.behind.Reads as behind-reads
use Rattle.pattern_emit.proofs.first_kept.Reads as first-kept-reads
use Rattle.pattern_emit.proofs.mark_to.Reads as mark-to-reads
use Rattle.pattern_emit.proofs.put_own.Reads as put-own-reads
use Rattle.walk_cells.proofs.number.Reads as number-reads
use Rattle.pattern_emit.proofs.+put_parts_put_pattern.{statement}
use Rattle.pattern_emit.proofs.+put_parts_put_pattern.Tie.{close}

abbrev μ_put_parts : Measures 4 put-parts-kinds.ps ℕ
μ_put_parts κs a = 2 * a.1.1.1.1.1.0 + 1

abbrev μ_put_pattern : Measures 4 put-pattern-kinds.ps ℕ
μ_put_pattern κs a = 2 * a.1.1.1.1.0

abbrev put_parts_at : ℕ → In 4 put-parts-kinds.ps
put_parts_at t = and 4 put-parts-kinds.ps (is 4 put-parts-kinds.ps μ_put_parts t) put-parts.Pre

abbrev put_parts_below : ℕ → In 4 put-parts-kinds.ps
put_parts_below t =
    and 4 put-parts-kinds.ps (falls 4 put-parts-kinds.ps ◌<◌ μ_put_parts t) put-parts.Pre

abbrev put_pattern_at : ℕ → In 4 put-pattern-kinds.ps
put_pattern_at t =
    and 4 put-pattern-kinds.ps (is 4 put-pattern-kinds.ps μ_put_pattern t) put-pattern.Pre

abbrev put_pattern_below : ℕ → In 4 put-pattern-kinds.ps
put_pattern_below t =
    and 4 put-pattern-kinds.ps (falls 4 put-pattern-kinds.ps ◌<◌ μ_put_pattern t) put-pattern.Pre

pub +put_parts_put_pattern_spec : {M : Type 1} → statement M
+put_parts_put_pattern_spec = close μ_put_parts μ_put_pattern (λ t. put-parts-lts.spec (
  number-reads.Asked,
  number-reads.Learnt,
  put_parts_below t,
  put-parts.Post,
  behind-reads.Asked,
  behind-reads.Learnt,
  put_pattern_below t,
  put-pattern.Post,
)
    (put_parts_at t)
    put-parts.Post
    -- returns
    (λ c.
    let s = c in
    let a = s.args in
    let p = s.requires.1 in
    put_same _ [] _ _ _ _ (listed_none a.q.now a.marks.now a.flags.now a.k c.if-k-eq0.true a.names a.flag a.at) (put_none a.out.now a.at))
    (λ c. search rules)
    -- number-requires
    (λ c κs.
    let s = c in
    let a = s.args in
    let p = s.requires.1 in
    let some : 0 < a.k = omega (arith, c.if-k-eq0.false) in
    (omega (arith, p.0.1), omega arith))
    (λ c. search rules)
    (λ c. search rules)
    -- shared-slice-read-if2
    (λ c.
    let s = c in
    let a = s.args in
    let p = s.requires.1 in
    let some : 0 < a.k = omega (arith, c.if-k-eq0.false) in
    omega (arith, p.0.0.flagged, p.0.1))
    -- put-parts-requires
    (λ c κs.
    let s = c in
    let a = s.args in
    let p = s.requires.1 in
    let some : 0 < a.k = omega (arith, c.if-k-eq0.false) in
    let l = lower_previous a.q.now a.marks.now a.flags.now p.0.0 a.k some p.0.1 _ c.number-previous.ensures in
    (omega (arith, s.requires.0), ((p.0.0, omega (arith, p.0.1), p.0.2), room_same _ _ _ _ (listed_left a.q.now a.marks.now a.flags.now p.0.0 a.k some p.0.1 a.names a.flag _ a.at p.0.2 c.if-flags-k.true c.number-previous.ensures) p.1)))
    (λ c. search rules)
    -- returns-2
    (λ c.
    let s = c in
    let a = s.args in
    let p = s.requires.1 in
    let some : 0 < a.k = omega (arith, c.if-k-eq0.false) in
    put_same _ _ _ _ _ _ (listed_left a.q.now a.marks.now a.flags.now p.0.0 a.k some p.0.1 a.names a.flag _ a.at p.0.2 c.if-flags-k.true c.number-previous.ensures) c.put_parts.ensures)
    (λ c. search rules)
    -- number-requires-2
    (λ c κs.
    let s = c in
    let a = s.args in
    let p = s.requires.1 in
    let some : 0 < a.k = omega (arith, c.if-k-eq0.false) in
    (omega (arith, p.0.1), omega arith))
    -- put-parts-requires-2
    (λ c κs.
    let s = c in
    let a = s.args in
    let p = s.requires.1 in
    let some : 0 < a.k = omega (arith, c.if-k-eq0.false) in
    let l = lower_previous a.q.now a.marks.now a.flags.now p.0.0 a.k some p.0.1 _ c.number-previous.ensures in
    (omega (arith, s.requires.0), ((p.0.0, omega (arith, p.0.1), p.0.2), part_first a.q.now a.marks.now a.flags.now p.0.0 a.k some p.0.1 a.names a.flag _ _ a.at a.out.now p.0.2 c.if-flags-k.false c.number-previous.ensures c.number-field.ensures p.1)))
    -- behind-requires
    (λ c κs.
    let s = c in
    let a = s.args in
    let p = s.requires.1 in
    let some : 0 < a.k = omega (arith, c.if-k-eq0.false) in
    part_next a.q.now a.marks.now a.flags.now p.0.0 a.k some p.0.1 a.names a.flag _ _ a.at a.out.now p.0.2 c.if-flags-k.false c.number-previous.ensures c.number-field.ensures p.1 _ _ c.put_parts-r.ensures)
    -- put-pattern-requires
    (λ c κs.
    let s = c in
    let a = s.args in
    let p = s.requires.1 in
    let some : 0 < a.k = omega (arith, c.if-k-eq0.false) in
    (omega (arith, s.requires.0), ((p.0.0, p.0.1), part_rest a.q.now a.marks.now a.flags.now p.0.0 a.k some p.0.1 a.names a.flag _ _ a.at a.out.now p.0.2 c.if-flags-k.false c.number-previous.ensures c.number-field.ensures p.1 _ _ c.put_parts-r.ensures _ c.behind.ensures)))
    (λ c. search rules)
    -- returns-3
    (λ c.
    let s = c in
    let a = s.args in
    let p = s.requires.1 in
    let some : 0 < a.k = omega (arith, c.if-k-eq0.false) in
    part_put a.q.now a.marks.now a.flags.now p.0.0 a.k some p.0.1 a.names a.flag _ _ a.at a.out.now p.0.2 c.if-flags-k.false c.number-previous.ensures c.number-field.ensures p.1 _ _ c.put_parts-r.ensures _ c.behind.ensures _ _ c.put_pattern.ensures))
    λ t. put-pattern-lts.spec (
      mark-to-reads.Asked,
      mark-to-reads.Learnt,
      put-own-reads.Asked,
      put-own-reads.Learnt,
      number-reads.Asked,
      number-reads.Learnt,
      first-kept-reads.Asked,
      first-kept-reads.Learnt,
      put_pattern_below t,
      put-pattern.Post,
      put_parts_below t,
      put-parts.Post,
      behind-reads.Asked,
      behind-reads.Learnt,
    )
    (put_pattern_at t)
    put-pattern.Post
    -- mark-to-requires
    (λ c κs.
    let s = c in
    let a = s.args in
    let p = s.requires.1 in
    omega (arith, p.0.0.marked, p.0.1))
    -- put-own-requires
    (λ c κs.
    let s = c in
    let a = s.args in
    let p = s.requires.1 in
    room_same _ _ _ _ (wild_lines a.q.now a.marks.now a.flags.now p.0.0 a.k p.0.1 a.names a.at a.previous a.field (sym c.mark_to-mark.ensures ∙ c.if-mark-eq0.true)) p.1)
    (λ c. search rules)
    -- returns
    (λ c.
    let s = c in
    let a = s.args in
    let p = s.requires.1 in
    put_same _ _ _ _ _ _ (wild_lines a.q.now a.marks.now a.flags.now p.0.0 a.k p.0.1 a.names a.at a.previous a.field (sym c.mark_to-mark.ensures ∙ c.if-mark-eq0.true)) c.put_own.ensures)
    -- sub-number
    (λ c.
    let s = c in
    let a = s.args in
    let p = s.requires.1 in
    let some = mark_some a.marks.now a.k (λ z. c.if-mark-eq0.false (c.mark_to-mark.ensures ∙ z)) in
    some)
    -- number-requires
    (λ c κs.
    let s = c in
    let a = s.args in
    let p = s.requires.1 in
    let some = mark_some a.marks.now a.k (λ z. c.if-mark-eq0.false (c.mark_to-mark.ensures ∙ z)) in
    (omega (arith, p.0.1), omega arith))
    (λ c. search rules)
    -- first-kept-requires
    (λ c κs.
    let s = c in
    let a = s.args in
    let p = s.requires.1 in
    let some = mark_some a.marks.now a.k (λ z. c.if-mark-eq0.false (c.mark_to-mark.ensures ∙ z)) in
    let l = lower_last a.q.now a.marks.now a.flags.now p.0.0 a.k some p.0.1 _ c.number-last.ensures in
    (p.0.0.linked, p.0.0.flagged, omega (arith, p.0.1)))
    -- put-pattern-requires
    (λ c κs.
    let s = c in
    let a = s.args in
    let p = s.requires.1 in
    let some = mark_some a.marks.now a.k (λ z. c.if-mark-eq0.false (c.mark_to-mark.ensures ∙ z)) in
    let l = lower_last a.q.now a.marks.now a.flags.now p.0.0 a.k some p.0.1 _ c.number-last.ensures in
    let f = c.first_kept-only.ensures.low in
    (omega (arith, s.requires.0), ((p.0.0, omega (arith, p.0.1)), room_same _ _ _ _ (only_lines a.q.now a.marks.now a.flags.now p.0.0 a.k some p.0.1 a.names _ _ a.at a.previous a.field (λ z. c.if-mark-eq0.false (c.mark_to-mark.ensures ∙ z)) (λ z. c.if-mark-ne1.true (c.mark_to-mark.ensures ∙ z)) c.number-last.ensures c.first_kept-only.ensures) p.1)))
    (λ c. search rules)
    -- returns-2
    (λ c.
    let s = c in
    let a = s.args in
    let p = s.requires.1 in
    let some = mark_some a.marks.now a.k (λ z. c.if-mark-eq0.false (c.mark_to-mark.ensures ∙ z)) in
    put_same _ _ _ _ _ _ (only_lines a.q.now a.marks.now a.flags.now p.0.0 a.k some p.0.1 a.names _ _ a.at a.previous a.field (λ z. c.if-mark-eq0.false (c.mark_to-mark.ensures ∙ z)) (λ z. c.if-mark-ne1.true (c.mark_to-mark.ensures ∙ z)) c.number-last.ensures c.first_kept-only.ensures) c.put_pattern.ensures)
    -- sub-number-2
    (λ c.
    let s = c in
    let a = s.args in
    let p = s.requires.1 in
    let some = mark_some a.marks.now a.k (λ z. c.if-mark-eq0.false (c.mark_to-mark.ensures ∙ z)) in
    some)
    -- number-requires-2
    (λ c κs.
    let s = c in
    let a = s.args in
    let p = s.requires.1 in
    let some = mark_some a.marks.now a.k (λ z. c.if-mark-eq0.false (c.mark_to-mark.ensures ∙ z)) in
    (omega (arith, p.0.1), omega arith))
    -- sub-number-3
    (λ c.
    let s = c in
    let a = s.args in
    let p = s.requires.1 in
    let some = mark_some a.marks.now a.k (λ z. c.if-mark-eq0.false (c.mark_to-mark.ensures ∙ z)) in
    some)
    -- number-requires-3
    (λ c κs.
    let s = c in
    let a = s.args in
    let p = s.requires.1 in
    let some = mark_some a.marks.now a.k (λ z. c.if-mark-eq0.false (c.mark_to-mark.ensures ∙ z)) in
    (omega (arith, p.0.1), omega arith))
    -- put-parts-requires
    (λ c κs.
    let s = c in
    let a = s.args in
    let p = s.requires.1 in
    let some = mark_some a.marks.now a.k (λ z. c.if-mark-eq0.false (c.mark_to-mark.ensures ∙ z)) in
    let l = lower_last a.q.now a.marks.now a.flags.now p.0.0 a.k some p.0.1 _ c.number-last.ensures in
    (omega (arith, s.requires.0), ((p.0.0, omega (arith, p.0.1), kept_parts a.names), own_first a.q.now a.marks.now a.flags.now p.0.0 a.k some p.0.1 a.names _ _ _ a.at a.previous a.field a.out.now (sym c.mark_to-mark.ensures ∙ c.if-mark-ne1.false) c.number-last.ensures c.number-kind.ensures c.number-name.ensures p.1)))
    -- behind-requires
    (λ c κs.
    let s = c in
    let a = s.args in
    let p = s.requires.1 in
    let some = mark_some a.marks.now a.k (λ z. c.if-mark-eq0.false (c.mark_to-mark.ensures ∙ z)) in
    own_next a.q.now a.marks.now a.flags.now p.0.0 a.k some p.0.1 a.names _ _ _ a.at a.previous a.field a.out.now (sym c.mark_to-mark.ensures ∙ c.if-mark-ne1.false) c.number-last.ensures c.number-kind.ensures c.number-name.ensures p.1 _ _ c.put_parts-r.ensures)
    -- put-own-requires-2
    (λ c κs.
    let s = c in
    let a = s.args in
    let p = s.requires.1 in
    let some = mark_some a.marks.now a.k (λ z. c.if-mark-eq0.false (c.mark_to-mark.ensures ∙ z)) in
    own_rest a.q.now a.marks.now a.flags.now p.0.0 a.k some p.0.1 a.names _ _ _ a.at a.previous a.field a.out.now (sym c.mark_to-mark.ensures ∙ c.if-mark-ne1.false) c.number-last.ensures c.number-kind.ensures c.number-name.ensures p.1 _ _ c.put_parts-r.ensures _ c.behind.ensures)
    (λ c. search rules)
    -- returns-3
    (λ c.
    let s = c in
    let a = s.args in
    let p = s.requires.1 in
    let some = mark_some a.marks.now a.k (λ z. c.if-mark-eq0.false (c.mark_to-mark.ensures ∙ z)) in
    own_put a.q.now a.marks.now a.flags.now p.0.0 a.k some p.0.1 a.names _ _ _ a.at a.previous a.field a.out.now (sym c.mark_to-mark.ensures ∙ c.if-mark-ne1.false) c.number-last.ensures c.number-kind.ensures c.number-name.ensures p.1 _ _ c.put_parts-r.ensures _ c.behind.ensures _ _ c.put_own-2.ensures)
