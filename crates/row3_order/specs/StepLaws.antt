-- What the definitions of rows 3 to 7 count over the lines before line i, from line i to line i + 1. Assumes nothing.
use Rattle.std.specs.Prelude.{◌≡◌, refl, List, [], ◌∷◌, ◌++◌, Bool, ◌&&◌, ◌||◌, not, eqb, leb, length, take}
use Rattle.std.proofs.Common.{◌∙◌, length-append, take-suc, eqb-true, leb-true, leb-false}
use Rattle.std.proofs.Math.Bool.{true, false}
use Prim.Native.Nat.{ℕ, zero, suc, ◌+◌, ◌≤◌, ◌<◌}
use native.Mathlib.Omega.{arith}
use Rattle.number_columns.specs.Column.{pick}
use Rattle.sheet.specs.Line.{Line, bad, letter, number}
use Rattle.meaning.specs.declared.Due.{Due}
use Rattle.meaning.specs.Program.{local_line, import_line, param_line, field_line, is, is_head, select}
use Rattle.meaning.specs.Rows.{
  nth_line,
  count_of,
  count_before,
  heads_before,
  due,
  due_after,
  params_after,
  last_head,
  kept_after,
}
use Rattle.meaning_laws.specs.Program.{select_append}
use Rattle.meaning_laws.specs.Rows.{due_after_append, last_head_append, kept_after_append}

-- ---- how many lines of a letter
one : (x : ℕ) (l : Line) → count_of x (l ∷ []) ≡ pick (is x l) 1 0
unfolding select
one x l = go (is x l)
  where
    go : (c : Bool) → length (pick c (l ∷ []) []) ≡ pick c 1 0
    go true = refl
    go false = refl

-- ---- what is known after the lines of two lists
params_after_append : (n : ℕ) (ls ms : List Line) → params_after n (ls ++ ms) ≡ params_after (params_after n ls) ms
unfolding params_after
params_after_append n [] ms = refl
params_after_append n (l ∷ ls) ms = params_after_append (pick (is_head l) 0 (pick (is param_line l) (suc n) n)) ls ms

-- ---- one line more
plus : (n : ℕ) (b : Bool) → n + pick b 1 0 ≡ pick b (n + 1) n
plus n true = refl
plus n false = omega arith

module _ (ls : List Line) (i : ℕ) (h : i < length ls) where
  pub count_before_suc : (x : ℕ) → count_before x ls (suc i) ≡ count_before x ls i + pick (is x (nth_line ls i)) 1 0
  count_before_suc x = rw (take-suc ls i bad, select_append, length-append, one)

  -- the same, for lines of two letters
  pub heads_before_suc : heads_before ls (suc i) ≡ heads_before ls i + pick (is_head (nth_line ls i)) 1 0
  heads_before_suc = rw (count_before_suc local_line, count_before_suc import_line) (go (is local_line (nth_line ls i)) refl (is import_line (nth_line ls i)) refl)
    where
      go : (a : Bool) → is local_line (nth_line ls i) ≡ a → (b : Bool) → is import_line (nth_line ls i) ≡ b →
          count_before local_line ls i + pick a 1 0 + (count_before import_line ls i + pick b 1 0)
          ≡ heads_before ls i + pick (a || b) 1 0
      go true d true e = absurd (omega (arith, eqb-true (letter (nth_line ls i)) 68 d, eqb-true (letter (nth_line ls i)) 73 e))
      go true d false e = omega arith
      go false d true e = omega arith
      go false d false e = omega arith

  -- the same, with what the line adds at the outside
  pub count_before_step : (x : ℕ) → count_before x ls (suc i) ≡ pick (is x (nth_line ls i)) (count_before x ls i + 1) (count_before x ls i)
  count_before_step x = count_before_suc x ∙ plus (count_before x ls i) (is x (nth_line ls i))

  pub heads_before_step : heads_before ls (suc i) ≡ pick (is_head (nth_line ls i)) (heads_before ls i + 1) (heads_before ls i)
  heads_before_step = heads_before_suc ∙ plus (heads_before ls i) (is_head (nth_line ls i))

  pub due_after_suc : (q : Due) → due_after q (take (suc i) ls) ≡ due (due_after q (take i ls)) (nth_line ls i)
  unfolding due_after
  due_after_suc q = rw (take-suc ls i bad, due_after_append)

  pub params_after_suc : (n : ℕ) → params_after n (take (suc i) ls)
      ≡ pick (is_head (nth_line ls i)) 0 (pick (is param_line (nth_line ls i)) (suc (params_after n (take i ls))) (params_after n (take i ls)))
  unfolding params_after
  params_after_suc n = rw (take-suc ls i bad, params_after_append)

  pub last_head_suc : (l : Line) → last_head l (take (suc i) ls) ≡ pick (is_head (nth_line ls i)) (nth_line ls i) (last_head l (take i ls))
  unfolding last_head
  last_head_suc l = rw (take-suc ls i bad, last_head_append)

  pub kept_after_suc : (n : ℕ) → kept_after n (take (suc i) ls)
      ≡ pick (is_head (nth_line ls i)) 0
      (pick (is field_line (nth_line ls i) && not (eqb (number (nth_line ls i) 2) 0)) (suc (kept_after n (take i ls))) (kept_after n (take i ls)))
  unfolding kept_after
  kept_after_suc n = rw (take-suc ls i bad, kept_after_append)

-- ---- bounds
bit_le : (b : Bool) → pick b 1 0 ≤ 1
bit_le true = omega arith
bit_le false = omega arith

-- a line of a letter and its place
module _ (ls : List Line) where
  pub count_before_le : (x i : ℕ) → i ≤ length ls → count_before x ls i ≤ i
  unfolding select
  count_before_le x zero h = omega arith
  count_before_le x (suc i) h = rw (count_before_suc ls i h x) (omega (arith, count_before_le x i (omega arith), bit_le (is x (nth_line ls i))))

  pub heads_before_le : (i : ℕ) → i ≤ length ls → heads_before ls i ≤ i
  unfolding select
  heads_before_le zero h = omega arith
  heads_before_le (suc i) h = rw (heads_before_suc ls i h) (omega (arith, heads_before_le i (omega arith), bit_le (is_head (nth_line ls i))))

  pub params_after_le : (i : ℕ) → i ≤ length ls → params_after 0 (take i ls) ≤ i
  unfolding params_after
  params_after_le zero h = omega arith
  params_after_le (suc i) h = rw (params_after_suc ls i h 0) (go (is_head (nth_line ls i)) (is param_line (nth_line ls i)) (params_after_le i (omega arith)))
    where
      go : (a b : Bool) → params_after 0 (take i ls) ≤ i → pick a 0 (pick b (suc (params_after 0 (take i ls))) (params_after 0 (take i ls))) ≤ suc i
      go true b k = omega arith
      go false true k = omega arith
      go false false k = omega arith

  -- counts do not fall
  pub count_before_mono : (x j i : ℕ) → j ≤ i → i ≤ length ls → count_before x ls j ≤ count_before x ls i
  count_before_mono x j zero h k = let e : j ≡ 0 = omega arith in rw e (omega arith)
  count_before_mono x j (suc i) h k = go (leb j i) refl (λ l. count_before_mono x j i l (omega arith))
    where
      go : (b : Bool) → leb j i ≡ b → (j ≤ i → count_before x ls j ≤ count_before x ls i) → count_before x ls j ≤ count_before x ls (suc i)
      go true e m = rw (count_before_suc ls i k x) (omega (arith, m (leb-true j i e)))
      go false e m = let d : j ≡ suc i = omega (arith, leb-false j i e) in rw d (omega arith)

  pub heads_before_mono : (j i : ℕ) → j ≤ i → i ≤ length ls → heads_before ls j ≤ heads_before ls i
  heads_before_mono j i h k = omega (arith, count_before_mono local_line j i h k, count_before_mono import_line j i h k)
