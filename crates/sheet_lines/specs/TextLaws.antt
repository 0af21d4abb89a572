-- The text of a name at each of its bytes, and its length by what stands after it. Assumes nothing.
use Rattle.std.specs.Prelude.{◌≡◌, ◌↔◌, refl, List, [], ◌∷◌, Bool, true, false, IsTrue, EachIndex, ◌&&◌, ℕ, zero, suc, ◌+◌, ◌≤◌, ◌<◌, eqb, leb, length, get_or, drop}
use Rattle.std.proofs.Math.Bool.{and-false}
use Rattle.std.proofs.Common.{arith, drop-cons, eqb-true, leb-false}
use Rattle.number_columns.specs.Column.{pick}
use Rattle.sheet.proofs.ListLaws.{both, same_test}
use Rattle.sheet.specs.Line.{graphic, spelling, spaces, proper}
use Rattle.sheet_lines.specs.Text.{text_length}

-- at each byte, for a loop
pub spelling_here : (t : List ℕ) (i : ℕ) → i < length t → length (spelling (drop i t)) ≡ pick (graphic (get_or t i 0)) (suc (length (spelling (drop (suc i) t)))) 0
unfolding spelling
spelling_here t i h = rw (drop-cons t i 0 h) (go (graphic (get_or t i 0)))
  where
    go : (g : Bool) → length (pick g (get_or t i 0 ∷ spelling (drop (suc i) t)) []) ≡ pick g (suc (length (spelling (drop (suc i) t)))) 0
    go true = refl
    go false = refl

pub spaces_here : (t : List ℕ) (i : ℕ) → i < length t → spaces (drop i t) ≡ eqb (get_or t i 0) 32 && spaces (drop (suc i) t)
unfolding spaces
spaces_here t i h = rw (drop-cons t i 0 h)

-- all bytes at once, by index
spaces_at : (t : List ℕ) → spaces t ≡ true → (i : ℕ) → i < length t → get_or t i 0 ≡ 32
unfolding spaces
spaces_at [] e i h = absurd (omega arith)
spaces_at (b ∷ t) e zero h = eqb-true b 32 (both (eqb b 32) (spaces t) e).0
spaces_at (b ∷ t) e (suc i) h = spaces_at t (both (eqb b 32) (spaces t) e).1 i (omega arith)

at_spaces : (t : List ℕ) → ((i : ℕ) → i < length t → get_or t i 0 ≡ 32) → spaces t ≡ true
unfolding spaces
at_spaces [] f = refl
at_spaces (b ∷ t) f = rw (f 0 (omega arith)) (at_spaces t (λ i h. f (suc i) (omega arith)))

pub spaces_each : (t : List ℕ) (r : Bool) → (IsTrue r ↔ EachIndex t (λ i. get_or t i 0 ≡ 32)) → r ≡ spaces t
spaces_each t r e = same_test r (spaces t) (λ h. at_spaces t (e.0 h)) (λ h. e.1 (spaces_at t h))

-- at four bytes at a time
spaces_four : (t : List ℕ) (i : ℕ) → i + 4 ≤ length t
    → spaces (drop i t) ≡ eqb (get_or t i 0) 32 && eqb (get_or t (i + 1) 0) 32 && eqb (get_or t (i + 2) 0) 32 && eqb (get_or t (i + 3) 0) 32 && spaces (drop (i + 4) t)
spaces_four t i h =
    let e1 : suc i ≡ i + 1 = omega arith in
    let e2 : suc (i + 1) ≡ i + 2 = omega arith in
    let e3 : suc (i + 2) ≡ i + 3 = omega arith in
    let e4 : suc (i + 3) ≡ i + 4 = omega arith in
    rw (spaces_here t i (omega arith), e1, spaces_here t (i + 1) (omega arith), e2, spaces_here t (i + 2) (omega arith), e3, spaces_here t (i + 3) (omega arith), e4)
    (go (eqb (get_or t i 0) 32) (eqb (get_or t (i + 1) 0) 32) (eqb (get_or t (i + 2) 0) 32) (eqb (get_or t (i + 3) 0) 32) (spaces (drop (i + 4) t)))
  where
    go : (a b c d s : Bool) → a && (b && (c && (d && s))) ≡ a && b && c && d && s
    go true true true true s = refl
    go true true true false s = refl
    go true true false d s = refl
    go true false c d s = refl
    go false b c d s = refl

module _ (t : List ℕ) (i : ℕ) (h : i + 4 ≤ length t) (f : Bool) (e : f ≡ eqb (get_or t i 0) 32 && eqb (get_or t (i + 1) 0) 32 && eqb (get_or t (i + 2) 0) 32 && eqb (get_or t (i + 3) 0) 32) where
  pub spaces_past : f ≡ true → spaces (drop (i + 4) t) ≡ spaces (drop i t)
  spaces_past q = rw (spaces_four t i h, ← e, q)

  pub spaces_not : f ≡ false → spaces (drop i t) ≡ false
  spaces_not q = rw (spaces_four t i h, ← e, q)

-- the text's length by what stands after it
pub text_length_blank : (t : List ℕ) → spaces (drop (length (spelling t)) t) ≡ true → text_length t ≡ length (spelling t)
unfolding text_length proper
text_length_blank t h = rw h (go (leb 1 (length (spelling t))) refl)
  where
    go : (a : Bool) → leb 1 (length (spelling t)) ≡ a → pick (a && true) (length (spelling t)) 0 ≡ length (spelling t)
    go true e = refl
    go false e = omega (arith, leb-false 1 (length (spelling t)) e)

pub text_length_other : (t : List ℕ) → spaces (drop (length (spelling t)) t) ≡ false → text_length t ≡ 0
unfolding text_length proper
text_length_other t h = simp (h, and-false)
