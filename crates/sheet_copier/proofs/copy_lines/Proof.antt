-- `sheet_copier::copy_lines` meets its contract: after i turns the part begins with the first i bytes of the lines. Assumes nothing.
use mathlib.Core.Path.{◌≡◌, refl, ◌∙◌}
use mathlib.Core.List.{◌++◌, append-nil}
use Prim.Native.Nat.{◌-◌, ◌≤◌}
use native.Mathlib.Omega.{arith}
use lib.ListN.{length, take, drop, drop_of_length-le}
use lib.Seq.{take_all}
use borrow.Author.Rules.{rules}
use Rattle.sheet_copier.specs.CopyLaws.{copy_more}
use Rattle.sheet_copier.proofs.copy_lines.Statement.{statement}
use Rattle.sheet_copier.proofs.copy_lines.Tie as tie

abbrev invariant-loop : tie.invariant-loop-i
invariant-loop out₀ lines i₀ i-end out i =
    (i ≤ length lines) × (i-end ≡ length lines) × (length lines ≡ length out₀) × (length out ≡ length out₀) × (out ≡ take i lines ++ drop i out₀)

abbrev decreases-loop : tie.decreases-loop-i
decreases-loop out₀ lines i₀ i-end out i = i-end - i

loop-again : tie.Need-loop-i-preserved invariant-loop decreases-loop
loop-again c =
    let s = c.loop-i in
    let a = c.args in
    (search rules, refl, s.invariant.2, search rules, rw s.invariant.4 (copy_more a.lines.now a.out.now s.i (search rules) (omega arith)))

returns : tie.Need-returns invariant-loop decreases-loop
returns c =
    let s = c.loop-i in
    let a = c.args in
    s.invariant.4 ∙ rw (take_all s.i a.lines.now (omega arith), drop_of_length-le a.out.now {i = s.i} (omega arith)) (append-nil a.lines.now)

pub copy_lines_spec : {M : Type 1} → statement M
copy_lines_spec =
    tie.close
    (tie.spec
    invariant-loop
    decreases-loop
    (λ c. search rules)
    (λ c. search rules)
    (λ c. search rules)
    (λ c. search rules)
    (λ c. search rules)
    loop-again
    (λ c. search rules)
    returns)
