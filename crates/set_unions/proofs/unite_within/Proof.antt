-- `set_unions::unite_within` meets its contract: after w turns the first w words are united, and the word that is read next stands as it was. Assumes nothing.
use mathlib.Core.Logic.{◌⊎◌, ⊎_elim}
use mathlib.Core.Path.{◌≡◌, refl, ap, ◌∙◌}
use Prim.Native.Nat.{ℕ, ◌+◌, ◌-◌, ◌≤◌, ◌<◌}
use native.Mathlib.Numerals.{add-one}
use native.Mathlib.Omega.{arith}
use lib.ListN.{length}
use borrow.Author.Rules.{rules}
use Rattle.set_bits.specs.Bits.{united}
use Rattle.set_bits.specs.BitsLaws.{united_far}
use Rattle.set_unions.proofs.unite_within.Statement.{statement}
use Rattle.set_unions.proofs.unite_within.Tie as tie

apart : (to from words w : ℕ) → w < words → (to ≤ from) ⊎ (from + words ≤ to) → to ≤ from + w → to + w ≤ from + w
apart to from words w h q k = ⊎_elim (λ e. omega arith) (λ e. absurd (omega arith)) q

abbrev invariant-loop : tie.invariant-loop-w
invariant-loop s₀ to from words w₀ s w = (w ≤ words) × (length s ≡ length s₀) × (s ≡ united s₀ to s₀ from w)

abbrev decreases-loop : tie.decreases-loop-w
decreases-loop s₀ to from words w₀ s w = words - w

loop-holds : tie.Need-loop-w-init invariant-loop decreases-loop
unfolding united
loop-holds c = (search rules, refl, refl)

loop-again : tie.Need-loop-w-preserved invariant-loop decreases-loop
unfolding united
loop-again c =
    let a = c.args in
    let s = c.loop-w in
    (search rules, search rules, rw (add-one, s.invariant.2, united_far a.s.now a.to a.s.now a.from s.w (a.from + s.w) (apart a.to a.from a.words s.w (omega arith) c.requires.1)))

returns : tie.Need-returns invariant-loop decreases-loop
returns c = c.loop-w.invariant.2 ∙ ap (united c.args.s.now c.args.to c.args.s.now c.args.from) (omega arith)

pub unite_within_spec : {M : Type 1} → statement M
unite_within_spec =
    tie.close
    (tie.spec
    invariant-loop
    decreases-loop
    loop-holds
    (λ c. search rules)
    (λ c. search rules)
    (λ c. search rules)
    (λ c. search rules)
    (λ c. search rules)
    (λ c. search rules)
    (λ c. search rules)
    (λ c. search rules)
    (λ c. search rules)
    (λ c. search rules)
    (λ c. search rules)
    loop-again
    (λ c. search rules)
    returns)
