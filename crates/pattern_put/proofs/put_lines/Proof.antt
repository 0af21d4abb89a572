-- `put_lines` meets its contract: after i turns the first i lines are written. Assumes nothing.
use mathlib.Core.Path.{◌≡◌, refl, sym, ◌∙◌}
use mathlib.Core.List.{◌++◌}
use Prim.Native.Nat.{suc, ◌+◌, ◌-◌, ◌*◌, ◌/◌, ◌≤◌}
use native.Mathlib.Omega.{arith}
use lib.ListN.{length, take, drop}
use Rattle.sheet.specs.Sheet.{encodes}
use Rattle.walk_cells.specs.Cells.{lines_of}
use Rattle.pattern_put.specs.PutsLaws.{put_next, put_all}
use borrow.Author.Rules.{rules}
use Rattle.pattern_put.proofs.put_lines.Statement.{statement}
use Rattle.pattern_put.proofs.put_lines.Tie as tie

abbrev invariant-loop : tie.invariant-loop-i
invariant-loop q out₀ n i₀ out i = (i ≤ n) × (length out ≡ length out₀) × (out ≡ encodes 6 (take i (lines_of q)) ++ drop (32 * i) out₀)

abbrev decreases-loop : tie.decreases-loop-i
decreases-loop q out₀ n i₀ out i = n - i

loop-holds : tie.Need-loop-i-init invariant-loop decreases-loop
unfolding encodes
loop-holds c = (omega arith, refl, refl)

put-line-requires : tie.Need-put_line-requires invariant-loop decreases-loop
put-line-requires c κs =
    let p = c.requires in
    (search rules, omega (arith, p.0, c.loop-i.invariant.1), p.1)

loop-again : tie.Need-loop-i-preserved invariant-loop decreases-loop
loop-again c =
    let s = c.loop-i in
    let a = c.args in
    (search rules, search rules, c.put_line.ensures ∙ put_next a.q.now s.out a.out.now s.i (search rules) s.invariant.2)

returns : tie.Need-returns invariant-loop decreases-loop
returns c =
    let s = c.loop-i in
    let a = c.args in
    put_all a.q.now s.out a.out.now s.i (omega arith) (omega (arith, c.requires.0)) s.invariant.2

pub put_lines_spec : {M : Type 1} → statement M
put_lines_spec =
    tie.close
    (tie.spec
    invariant-loop
    decreases-loop
    loop-holds
    put-line-requires
    (λ c. search rules)
    (λ c. search rules)
    loop-again
    (λ c. search rules)
    returns)
