-- `pattern_emit::emit` meets its contract: the pattern of the last line, then the names freed in its parts and with them. Assumes nothing.
use Prim.Native.Nat.{◌/◌}
use native.Mathlib.Omega.{arith}
use lib.ListN.{length}
use borrow.Author.Rules.{rules}
use Rattle.pattern_emit.specs.StepLaws.{dropped_names, lower_last, whole_first, whole_second, whole_third, whole_put}
use Rattle.pattern_emit.proofs.emit.Statement.{statement}
use Rattle.pattern_emit.proofs.emit.Tie as tie

put-pattern-requires : tie.Need-put_pattern-r-requires
put-pattern-requires c κs =
    let s = c in let a = s.args in let p = s.requires in let last = c.number-last in
    ((p.0.0, omega arith), whole_first a.q.now a.marks.now a.flags.now p.0.0 _ a.out.now p.0.1 last.ensures p.1.0 p.1.1)

put-inner-requires : tie.Need-put_inner-s-requires
put-inner-requires c κs =
    let s = c in let a = s.args in let p = s.requires in let last = c.number-last in
    let l = lower_last a.q.now a.marks.now a.flags.now p.0.0 (length a.q.now / 6) (omega (arith, p.0.1)) (omega arith) _ last.ensures in ((p.0.0, omega arith), whole_second a.q.now a.marks.now a.flags.now p.0.0 _ a.out.now p.0.1 last.ensures p.1.0 p.1.1 _ _ c.put_pattern-r.ensures)

put-parts-requires : tie.Need-put_parts-requires
put-parts-requires c κs =
    let s = c in let a = s.args in let p = s.requires in let last = c.number-last in
    let l = lower_last a.q.now a.marks.now a.flags.now p.0.0 (length a.q.now / 6) (omega (arith, p.0.1)) (omega arith) _ last.ensures in ((p.0.0, omega arith, dropped_names), whole_third a.q.now a.marks.now a.flags.now p.0.0 _ a.out.now p.0.1 last.ensures p.1.0 p.1.1 _ _ c.put_pattern-r.ensures _ _ c.put_inner-s.ensures)

returns : tie.Need-returns
returns c =
    let s = c in let a = s.args in let p = s.requires in let last = c.number-last in
    whole_put a.q.now a.marks.now a.flags.now p.0.0 _ a.out.now p.0.1 last.ensures p.1.0 p.1.1 _ _ c.put_pattern-r.ensures _ _ c.put_inner-s.ensures _ _ c.put_parts.ensures

pub emit_spec : {M : Type 1} → statement M
emit_spec = tie.close (tie.spec (λ c. search rules) (λ c κs. search rules) (λ c. search rules) put-pattern-requires put-inner-requires put-parts-requires (λ c. search rules) returns)
