-- Numbers of one and of two digits in six columns. Assumes nothing.
use Rattle.std.specs.Prelude.{◌≡◌, refl, List, [], ◌∷◌, ℕ, ◌+◌, ◌/◌, ◌%◌, ◌<◌, ◌≤◌, length, set}
use Rattle.std.proofs.Common.{arith, ne_eqb}
use Rattle.number_columns.specs.Column.{shown, write}

-- four spaces, and two columns more
abbrev pub six : List ℕ → ℕ → ℕ → List ℕ
six l x y = set (set (set (set (set (set l 0 32) 1 32) 2 32) 3 32) 4 x) 5 y

six_is : (l : List ℕ) (x y : ℕ) → length l ≡ 6 → six l x y ≡ 32 ∷ 32 ∷ 32 ∷ 32 ∷ x ∷ y ∷ []
six_is [] x y h = absurd (omega arith)
six_is (a ∷ []) x y h = absurd (omega arith)
six_is (a ∷ b ∷ []) x y h = absurd (omega arith)
six_is (a ∷ b ∷ c ∷ []) x y h = absurd (omega arith)
six_is (a ∷ b ∷ c ∷ d ∷ []) x y h = absurd (omega arith)
six_is (a ∷ b ∷ c ∷ d ∷ e ∷ []) x y h = absurd (omega arith)
six_is (a ∷ b ∷ c ∷ d ∷ e ∷ f ∷ []) x y h = refl
six_is (a ∷ b ∷ c ∷ d ∷ e ∷ f ∷ g ∷ l) x y h = absurd (omega arith)

pub two_digits : (l : List ℕ) (n : ℕ) → length l ≡ 6 → n ≤ 99 → 9 < n → six l (48 + n / 10) (48 + n % 10) ≡ write 6 n
unfolding write shown
two_digits l n h k q =
    let z : n / 10 / 10 ≡ 0 = omega arith in
    let m : n / 10 % 10 ≡ n / 10 = omega arith in
    rw (six_is l (48 + n / 10) (48 + n % 10) h, z, ne_eqb (n / 10) 0 (λ e. omega arith), m)

pub one_digit : (l : List ℕ) (n : ℕ) → length l ≡ 6 → n ≤ 9 → six l 32 (48 + n) ≡ write 6 n
unfolding write shown
one_digit l n h k =
    let z : n / 10 ≡ 0 = omega arith in
    let m : n % 10 ≡ n = omega arith in
    rw (six_is l 32 (48 + n) h, z, m)
