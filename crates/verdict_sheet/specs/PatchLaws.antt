-- What is changed of a line in an output: its letter, a number of one digit in the place of a 0, or the columns of its third number.
-- Assumes nothing.
use Rattle.std.specs.Prelude.{◌≡◌, length, get_or, set}
use Rattle.std.proofs.Math.Path.{ap, sym}
use Rattle.std.proofs.Common.{◌∙◌, length-append}
use mathlib.Core.List.{List, [], ◌∷◌, ◌++◌, append_assoc}
use Prim.Native.Nat.{ℕ, zero, suc, ◌+◌, ◌*◌, ◌/◌, ◌%◌, ◌<◌}
use native.Mathlib.Omega.{arith}
use Rattle.std.proofs.Math.ListN.{take, drop}
use Rattle.std.proofs.lemmas.List.{set-append_left}
use Rattle.std.proofs.Math.Seq.{take_at, drop_at}
use Rattle.number_columns.specs.Column.{shown, write}
use Rattle.number_columns.specs.ColumnLaws.{write_length}
use Rattle.sheet.specs.Line.{row, writes, encode}
use Rattle.sheet.proofs.LineLaws.{row_length}

-- ---- a store in a part of a list
set_right : (xs ys : List ℕ) (n j a : ℕ) → length xs ≡ n → set (xs ++ ys) (n + j) a ≡ xs ++ set ys j a
set_right [] ys n j a h = let e : n + j ≡ j = omega arith in rw e
set_right (x ∷ xs) ys zero j a h = absurd (omega arith)
set_right (x ∷ xs) ys (suc n) j a h =
    let e : suc n + j ≡ suc (n + j) = omega arith in
    rw e (ap (λ (r : List ℕ). x ∷ r) (set_right xs ys n j a (omega arith)))

set_part : (p e q : List ℕ) (n j a : ℕ) → length p ≡ n → j < length e → set (p ++ (e ++ q)) (n + j) a ≡ p ++ (set e j a ++ q)
set_part p e q n j a h l = set_right p (e ++ q) n j a h ∙ ap (λ (r : List ℕ). p ++ r) (set-append_left e q j a l)

-- ---- a digit in the place of a 0
digit_column : (k : ℕ) → k < 10 → set (write 6 0) 5 (48 + k) ≡ write 6 k
unfolding write shown
digit_column k h =
    let e : k / 10 ≡ 0 = omega arith in
    let f : k % 10 ≡ k = omega arith in
    rw (e, f)

digit_writes : (ns r : List ℕ) (m k : ℕ) → m < length ns → get_or ns m 0 ≡ 0 → k < 10 → set (writes 6 ns ++ r) (6 * m + 5) (48 + k) ≡ writes 6 (set ns m k) ++ r
unfolding writes
digit_writes [] r m k h z l = absurd (omega arith)
digit_writes (n ∷ ns) r zero k h z l =
    rw (append_assoc, append_assoc, z)
    (set-append_left (write 6 0) (writes 6 ns ++ r) 5 (48 + k) (omega (arith, write_length 6 0)) ∙ ap (λ (x : List ℕ). x ++ (writes 6 ns ++ r)) (digit_column k l))
digit_writes (n ∷ ns) r (suc m) k h z l =
    let e : 6 * suc m + 5 ≡ 6 + (6 * m + 5) = omega arith in
    rw (append_assoc, append_assoc, e)
    (set_right (write 6 n) (writes 6 ns ++ r) 6 (6 * m + 5) (48 + k) (write_length 6 n) ∙ ap (λ (x : List ℕ). write 6 n ++ x) (digit_writes ns r m k (omega arith) z l))

digit_line : (x : ℕ) (ns : List ℕ) (m k : ℕ) → m < length ns → get_or ns m 0 ≡ 0 → k < 10 → set (encode 6 (row x ns)) (6 * m + 6) (48 + k) ≡ encode 6 (row x (set ns m k))
unfolding encode
digit_line x ns m k h z l =
    let e : 6 * m + 6 ≡ suc (6 * m + 5) = omega arith in
    rw e (ap (λ (r : List ℕ). x ∷ r) (digit_writes ns (10 ∷ []) m k h z l))

-- ---- in an output
-- line i of the output is that of letter x and five numbers
module _ (p q : List ℕ) (i : ℕ) (sized : length p ≡ i * 32) where
  pub put_letter : (x y : ℕ) (ns : List ℕ) → set (p ++ (encode 6 (row x ns) ++ q)) (i * 32) y ≡ p ++ (encode 6 (row y ns) ++ q)
  unfolding encode
  put_letter x y ns =
      let e : i * 32 + 0 ≡ i * 32 = omega arith in
      rw e at (set_right p (encode 6 (row x ns) ++ q) (i * 32) 0 y sized)

  pub put_digit : (x : ℕ) (ns : List ℕ) (m k at : ℕ) → length ns ≡ 5 → m < 5 → get_or ns m 0 ≡ 0 → k < 10 → at ≡ i * 32 + (6 * m + 6)
      → set (p ++ (encode 6 (row x ns) ++ q)) at (48 + k) ≡ p ++ (encode 6 (row x (set ns m k)) ++ q)
  put_digit x ns m k at n h z l e =
      rw e
      (set_part p (encode 6 (row x ns)) q (i * 32) (6 * m + 6) (48 + k) sized (omega (arith, row_length 6 x ns n))
      ∙ ap (λ (r : List ℕ). p ++ (r ++ q)) (digit_line x ns m k (omega arith) z l))

  -- a third number in the columns of another
  pub put_third : (x m n z k : ℕ) (r out : List ℕ) → out ≡ p ++ (encode 6 (row x (m ∷ n ∷ z ∷ r)) ++ q)
      → take (i * 32 + 13) out ++ (write 6 k ++ drop (i * 32 + 13 + 6) out) ≡ p ++ (encode 6 (row x (m ∷ n ∷ k ∷ r)) ++ q)
  unfolding encode writes
  put_third x m n z k r out e =
      let at : ℕ = i * 32 + 13 in
      let f : out ≡ lead ++ (write 6 z ++ rest) = e ∙ shape z in
      let g : out ≡ (lead ++ write 6 z) ++ rest = f ∙ sym (append_assoc lead (write 6 z) rest) in
      let t : take at out ≡ lead = ap (take at) f ∙ take_at lead (write 6 z ++ rest) at length_lead in
      let d : drop (at + 6) out ≡ rest = ap (drop (at + 6)) g ∙ drop_at (lead ++ write 6 z) rest (at + 6) (length-append lead (write 6 z) ∙ omega (arith, length_lead, write_length 6 z)) in
      rw (t, d) (sym (shape k))
    where
      lead : List ℕ
      lead = p ++ (x ∷ (write 6 m ++ write 6 n))

      rest : List ℕ
      rest = writes 6 r ++ ((10 ∷ []) ++ q)

      length_lead : length lead ≡ i * 32 + 13
      length_lead = length-append p (x ∷ (write 6 m ++ write 6 n)) ∙ omega (arith, sized, length-append (write 6 m) (write 6 n), write_length 6 m, write_length 6 n)

      shape : (j : ℕ) → p ++ (encode 6 (row x (m ∷ n ∷ j ∷ r)) ++ q) ≡ lead ++ (write 6 j ++ rest)
      shape j = simp append_assoc
