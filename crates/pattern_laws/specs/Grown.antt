-- A list that grows by a line at a time, each new element made from those before it: pieces and mades are such. Its
-- prefixes are grown from prefixes, and an element is made from the list before it. And induction over lines. Assumes nothing.
use Rattle.std.specs.Prelude.{◌≡◌, Bool, true, false, ℕ, zero, suc, ◌+◌, ◌≤◌, ◌<◌, ltb, length, take, drop}
use Rattle.std.proofs.Math.Path.{refl, sym, ap}
use Rattle.std.proofs.Common.{◌∙◌, take-append-drop, take-suc, get_or-take, ltb-true, ltb-false}
use mathlib.Core.List.{List, [], ◌∷◌, ◌++◌}
use native.Mathlib.Omega.{arith}
use Rattle.std.proofs.Math.ListN.{get_or, length-append}
use Rattle.std.proofs.Math.Seq.{length-take-le, take-append-le, get_or_at, take-length}
use Rattle.sheet.specs.Line.{Line, bad}
use Rattle.meaning.specs.Rows.{nth_line}

-- What holds of a line if it holds of all lines before it holds of every line.
pub by_lines : (P : ℕ → Type 0) (n : ℕ) → ((q : ℕ) → q < n → ((j : ℕ) → j < q → P j) → P q) → (q : ℕ) → q < n → P q
by_lines P n f q h = below (suc q) h q (omega arith)
  where
    below : (m : ℕ) → m ≤ n → (j : ℕ) → j < m → P j
    below zero h j i = absurd (omega arith)
    below (suc m) h j i = by (ltb j m) refl (below m (omega arith))
      where
        by : (t : Bool) → ltb j m ≡ t → ((j : ℕ) → j < m → P j) → P j
        by true t d = d j (ltb-true j m t)
        by false t d = let e : j ≡ m = omega (arith, ltb-false j m t) in rw e (f m h d)

module _ {A : Type 0} (step : List A → Line → A) where
  unfoldable pub grown : List A → List Line → List A
  grown xs [] = xs
  grown xs (l ∷ ls) = grown (xs ++ (step xs l ∷ [])) ls

  pub grown_append : (xs : List A) (ks ls : List Line) → grown xs (ks ++ ls) ≡ grown (grown xs ks) ls
  unfolding grown
  grown_append xs [] ls = refl
  grown_append xs (k ∷ ks) ls = grown_append (xs ++ (step xs k ∷ [])) ks ls

  pub length_grown : (xs : List A) (ls : List Line) → length (grown xs ls) ≡ length xs + length ls
  unfolding grown
  length_grown xs [] = omega arith
  length_grown xs (l ∷ ls) = omega (arith, length_grown (xs ++ (step xs l ∷ [])) ls, length-append xs (step xs l ∷ []))

  -- what was there stays
  pub grown_keeps : (xs : List A) (ls : List Line) (n : ℕ) → n ≤ length xs → take n (grown xs ls) ≡ take n xs
  unfolding grown
  grown_keeps xs [] n h = refl
  grown_keeps xs (l ∷ ls) n h =
      grown_keeps (xs ++ (step xs l ∷ [])) ls n (omega (arith, length-append xs (step xs l ∷ []))) ∙ take-append-le n xs (step xs l ∷ []) h

  -- no prefix depends on later lines
  pub grown_take : (ls : List Line) (n : ℕ) → n ≤ length ls → take n (grown [] ls) ≡ grown [] (take n ls)
  grown_take ls n h =
      let g : length (grown [] (take n ls)) ≡ n = length_grown [] (take n ls) ∙ (omega (arith, length-take-le n ls h)) in
      ap (λ (ks : List Line). take n (grown [] ks)) (sym (take-append-drop n ls))
      ∙ ap (take n) (grown_append [] (take n ls) (drop n ls))
      ∙ grown_keeps (grown [] (take n ls)) (drop n ls) n (omega arith)
      ∙ ap (λ (k : ℕ). take k (grown [] (take n ls))) (sym g)
      ∙ take-length (grown [] (take n ls))

  -- element q is made of the elements before it
  pub grown_at : (ls : List Line) (q : ℕ) (d : A) → q < length ls → get_or (grown [] ls) q d ≡ step (take q (grown [] ls)) (nth_line ls q)
  unfolding grown
  grown_at ls q d h =
      sym (get_or-take (suc q) (grown [] ls) q d (omega arith))
      ∙ ap (λ (xs : List A). get_or xs q d) (grown_take ls (suc q) h)
      ∙ ap (λ (ks : List Line). get_or (grown [] ks) q d) (take-suc ls q bad h)
      ∙ ap (λ (xs : List A). get_or xs q d) (grown_append [] (take q ls) (nth_line ls q ∷ []))
      ∙ get_or_at before (step before (nth_line ls q)) [] d q (length_grown [] (take q ls) ∙ (omega (arith, length-take-le q ls (omega arith))))
      ∙ ap (λ (xs : List A). step xs (nth_line ls q)) (sym (grown_take ls q (omega arith)))
    where
      before : List A
      before = grown [] (take q ls)
