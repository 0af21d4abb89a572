-- `set_unions::unite` meets its contract: after w turns the first w words are united. Assumes nothing.
use mathlib.Core.Path.{◌≡◌, refl, ap, ◌∙◌}
use Prim.Native.Nat.{◌-◌, ◌≤◌}
use native.Mathlib.Numerals.{add-one}
use native.Mathlib.Omega.{arith}
use lib.ListN.{length}
use borrow.Author.Rules.{rules}
use Rattle.set_bits.specs.Bits.{united}
use Rattle.set_unions.proofs.unite.Statement.{statement}
use Rattle.set_unions.proofs.unite.Tie as tie

abbrev invariant-loop : tie.invariant-loop-w
invariant-loop s₀ to t from words w₀ s w = (w ≤ words) × (length s ≡ length s₀) × (s ≡ united s₀ to t from w)

abbrev decreases-loop : tie.decreases-loop-w
decreases-loop s₀ to t from words w₀ s w = words - w

loop-holds : tie.Need-loop-w-init invariant-loop decreases-loop
unfolding united
loop-holds c = (search rules, refl, refl)

loop-again : tie.Need-loop-w-preserved invariant-loop decreases-loop
unfolding united
loop-again c = (search rules, search rules, rw (add-one, c.loop-w.invariant.2))

returns : tie.Need-returns invariant-loop decreases-loop
returns c = c.loop-w.invariant.2 ∙ ap (united c.args.s.now c.args.to c.args.t.now c.args.from) (omega arith)

pub unite_spec : {M : Type 1} → statement M
unite_spec =
    tie.close
    (tie.spec
    invariant-loop
    decreases-loop
    loop-holds
    (λ c. search rules)
    (λ c. search rules)
    (λ c. search rules)
    (λ c. search rules)
    (λ c. search rules)
    (λ c. search rules)
    (λ c. search rules)
    (λ c. search rules)
    (λ c. search rules)
    (λ c. search rules)
    (λ c. search rules)
    loop-again
    (λ c. search rules)
    returns)
