-- `node_lines::lists` meets its contract: 8 and 9 are the kinds from 8 to 9.
use Rattle.std.proofs.Common.{◌≡◌, ℕ, ◌≤◌, ◌<◌, Bool, true, false, ◌||◌, eqb, refl, sym, arith, eq-eqb, ne_eqb}
use Rattle.std.proofs.lemmas.Bool.{eqb-false}
use Rattle.left_emitter.specs.Lines.{has_list}
use Rattle.left_emitter.proofs.node_lines.lists.Goals as goal

within : (k : ℕ) → 8 ≤ k → k < 10 → (eqb k 8 || eqb k 9) ≡ true
within k a b = go (eqb k 8) refl
  where
    go : (x : Bool) → eqb k 8 ≡ x → (x || eqb k 9) ≡ true
    go true e = refl
    go false e = eq-eqb k 9 (omega (arith, eqb-false k 8 e))

apart : (k : ℕ) → (k ≡ 8 → ⊥) → (k ≡ 9 → ⊥) → (eqb k 8 || eqb k 9) ≡ false
apart k a b = rw (ne_eqb k 8 a, ne_eqb k 9 b) refl

pub returns-in-8-to-9 : goal.returns-in-8-to-9
unfolding has_list
returns-in-8-to-9 c = rw (← c.kind.ensures) (sym (within c.kind.result (omega arith) (omega arith)))

pub returns-in_default : goal.returns-in_default
unfolding has_list
returns-in_default c = rw (← c.kind.ensures) (sym (apart c.kind.result (λ e. omega arith) (λ e. omega arith)))

pub returns-in_default-2 : goal.returns-in_default-2
unfolding has_list
returns-in_default-2 c = rw (← c.kind.ensures) (sym (apart c.kind.result (λ e. omega arith) (λ e. omega arith)))
