-- Body kinds by ranges. Assumes nothing.
use Rattle.std.specs.Prelude.{◌≡◌, refl, Bool, true, false, ◌||◌, ℕ, ◌≤◌, ◌<◌, eqb}
use Rattle.std.proofs.Common.{arith, eq-eqb, ne_eqb}
use Rattle.std.proofs.lemmas.Bool.{eqb-false}
use Rattle.row7_verdicts.specs.VerdictLines.{has_ctors}

pub ctors_within : (k : ℕ) → 2 ≤ k → k < 4 → has_ctors k ≡ true
ctors_within k h l = go (eqb k 2) refl
  where
    go : (b : Bool) → eqb k 2 ≡ b → (b || eqb k 3) ≡ true
    go true e = refl
    go false e = eq-eqb k 3 (omega (arith, eqb-false k 2 e))

-- neither below nor above
pub ctors_outside : (k : ℕ) → (k ≡ 2 → ⊥) → (k ≡ 3 → ⊥) → has_ctors k ≡ false
ctors_outside k e f = rw (ne_eqb k 2 e, ne_eqb k 3 f)
