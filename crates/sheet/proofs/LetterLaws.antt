-- The letters of lines with five numbers are A, C, D, F, I, P, Q, V and Y, and no other byte. Assumes nothing.
use Rattle.std.specs.Prelude.{◌≡◌, refl, true, false, ◌⊎◌, ℕ}
use Rattle.std.proofs.Common.{inl, inr, ne_eqb}
use Rattle.sheet.specs.Line.{lettered}

-- as `match` tells them: some together, and C, D and Q by themselves
abbrev pub Single : ℕ → Type 0
Single x = (x ≡ 65) ⊎ ((x ≡ 70) ⊎ ((x ≡ 73) ⊎ ((x ≡ 80) ⊎ ((x ≡ 86) ⊎ (x ≡ 89)))))

lettered_at : (x k : ℕ) → x ≡ k → lettered k ≡ true → lettered x ≡ true
lettered_at x k e h = rw e h

pub lettered_single : (x : ℕ) → Single x → lettered x ≡ true
unfolding lettered
lettered_single x (inl e) = lettered_at x 65 e refl
lettered_single x (inr (inl e)) = lettered_at x 70 e refl
lettered_single x (inr (inr (inl e))) = lettered_at x 73 e refl
lettered_single x (inr (inr (inr (inl e)))) = lettered_at x 80 e refl
lettered_single x (inr (inr (inr (inr (inl e))))) = lettered_at x 86 e refl
lettered_single x (inr (inr (inr (inr (inr e))))) = lettered_at x 89 e refl

pub lettered_c : (x : ℕ) → x ≡ 67 → lettered x ≡ true
unfolding lettered
lettered_c x e = lettered_at x 67 e refl

pub lettered_d : (x : ℕ) → x ≡ 68 → lettered x ≡ true
unfolding lettered
lettered_d x e = lettered_at x 68 e refl

pub lettered_q : (x : ℕ) → x ≡ 81 → lettered x ≡ true
unfolding lettered
lettered_q x e = lettered_at x 81 e refl

pub lettered_none : (x : ℕ) → (Single x → ⊥) → (x ≡ 67 → ⊥) → (x ≡ 68 → ⊥) → (x ≡ 81 → ⊥) → lettered x ≡ false
unfolding lettered
lettered_none x h c d q =
    simp (
      ne_eqb x 65 (λ e. h (inl e)),
      ne_eqb x 67 c,
      ne_eqb x 68 d,
      ne_eqb x 70 (λ e. h (inr (inl e))),
      ne_eqb x 73 (λ e. h (inr (inr (inl e)))),
      ne_eqb x 80 (λ e. h (inr (inr (inr (inl e))))),
      ne_eqb x 81 q,
      ne_eqb x 86 (λ e. h (inr (inr (inr (inr (inl e)))))),
      ne_eqb x 89 (λ e. h (inr (inr (inr (inr (inr e)))))),
    )
