-- `set_bits::first_outside` meets its contract: no bit of the words passed is outside. Assumes nothing.
use mathlib.Core.Path.{◌≡◌, refl, sym}
use mathlib.Core.Bool.{false}
use Prim.Native.Nat.{ℕ, ◌+◌, ◌*◌, ◌-◌, ◌≤◌, ◌<◌}
use native.Mathlib.Omega.{arith}
use native.Mathlib.Nat.{lt_of_le_of_lt}
use lib.Bits.{and_le_l}
use lib.Count.{count_trailing_zeros, trailing_le}
use lib.Dec.{lit<}
use lib.ListN.{get_or}
use mir.Syntax.{w64}
use mir.Val.{Fits}
use borrow.Author.Rules.{rules}
use Rattle.sheet.proofs.FirstLaws.{first_none}
use Rattle.set_bits.specs.Outside.{outside}
use Rattle.set_bits.specs.OutsideLaws.{outside_more, outside_found}
use Rattle.set_bits.proofs.first_outside.Statement.{statement}
use Rattle.set_bits.proofs.first_outside.Tie as tie

abbrev invariant-loop : tie.invariant-loop-w
invariant-loop s at t to words w₀ w = (w ≤ words) × ((m : ℕ) → m < 64 * w → outside s at t to m ≡ false)

abbrev decreases-loop : tie.decreases-loop-w
decreases-loop s at t to words w₀ w = words - w

-- the place of a bit of a word fits
place_fits : (w x : ℕ) → w < 1024 → Fits w64 (64 * w + count_trailing_zeros 64 x)
place_fits w x h = omega (arith, trailing_le 64 x)

loop-holds : tie.Need-loop-w-init invariant-loop decreases-loop
loop-holds c = (search rules, λ m l. absurd (omega arith))

cast-k : tie.Need-overflow_cast-k invariant-loop decreases-loop
cast-k c = record { fits = lt_of_le_of_lt (trailing_le 64 _) (lit< tt) }

add-result : tie.Need-overflow_add-result invariant-loop decreases-loop
add-result c = place_fits _ _ (search rules)

returns : tie.Need-returns-then-new-ne0 invariant-loop decreases-loop
returns c =
    let a = c.args in
    let l = c.before.before.before.before.loop-w in
    let x : ℕ = get_or a.s.now (a.at + l.w) 0 in
    outside_found a.s.now a.at a.t.now a.to l.w l.invariant.1 _ a.words (search rules) refl (lt_of_le_of_lt (and_le_l x _) (c.before.before.shared_slice_known-1.given (a.at + l.w)).fits) c.if-new-ne0.true

loop-again : tie.Need-loop-w-preserved invariant-loop decreases-loop
loop-again c =
    let a = c.args in
    let l = c.before.before.before.before.loop-w in
    (search rules, outside_more a.s.now a.at a.t.now a.to l.w l.invariant.1 c.if-new-ne0.false)

returns-2 : tie.Need-returns invariant-loop decreases-loop
returns-2 c =
    let a = c.args in
    sym (first_none (outside a.s.now a.at a.t.now a.to) (64 * a.words) (λ m l. c.before.loop-w.invariant.1 m (omega arith)))

pub first_outside_spec : {M : Type 1} → statement M
first_outside_spec =
    tie.close
    (tie.spec
    invariant-loop
    decreases-loop
    loop-holds
    (λ c. search rules)
    (λ c. search rules)
    (λ c. search rules)
    (λ c. search rules)
    (λ c. search rules)
    (λ c. search rules)
    cast-k
    (λ c. search rules)
    add-result
    returns
    (λ c. search rules)
    (λ c. search rules)
    loop-again
    (λ c. search rules)
    returns-2)
