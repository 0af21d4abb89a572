-- Remembered calls: slots of 11 cells, the name plus 1, a count, as many outcomes of arguments (at most
-- 8), and the answer. A slot whose first cell is 0 is not used. Assumes nothing.
use Rattle.std.specs.Prelude.{◌⊎◌, ◌≡◌, List, ℕ, suc, ◌+◌, ◌*◌, ◌≤◌, ◌<◌, length, get_or}
use Rattle.std.proofs.Common.{⊎_elim, sym, subst, arith}
use Rattle.model.specs.Resolve.{Result}
use Rattle.resolve_outcomes.specs.Answer.{nine, answer}
use Rattle.resolve_outcomes.specs.Scratch.{part}
use Rattle.resolve_outcomes.specs.Leads.{Leads}

-- some slot has this call and this answer
pub record Holds (xs : List ℕ) (n : ℕ) (os : List ℕ) (r : ℕ) : Type 0 where
  pub spot : ℕ
  pub within : 11 * spot + 11 ≤ length xs
  pub name : get_or xs (11 * spot) 0 ≡ suc n
  pub few : get_or xs (11 * spot + 1) 0 ≤ 8
  pub args : part (11 * spot + 2) (get_or xs (11 * spot + 1) 0) xs ≡ os
  pub answered : get_or xs (11 * spot + 10) 0 ≡ r

-- r is what every fuel gives that is not spent
pub record Known (e : ℕ → Result ℕ) (r : ℕ) : Type 0 where
  pub decided : nine ≤ r
  pub small : r < 65536
  pub gives : (j : ℕ) → Leads (e j) (answer r r)

-- every slot that is used has the answer of its call
pub record Slots (call : ℕ → List ℕ → ℕ → Result ℕ) (xs : List ℕ) : Type 0 where
  pub right : (n : ℕ) (os : List ℕ) (r : ℕ) → Holds xs n os r → Known (call n os) r

-- What a slot is overwritten with is all that is new, and only an answer is remembered.
pub record Written (n : ℕ) (os : List ℕ) (r : ℕ) (xs ys : List ℕ) : Type 0 where
  pub long : length ys ≡ length xs
  pub holds : (m : ℕ) (us : List ℕ) (q : ℕ) → Holds ys m us q → Holds xs m us q ⊎ ((m ≡ n) × (us ≡ os) × (q ≡ r) × (nine ≤ r))

-- no slot is used
pub slots_none : (call : ℕ → List ℕ → ℕ → Result ℕ) (xs : List ℕ) → ((i : ℕ) → get_or xs i 0 ≡ 0) → Slots call xs
slots_none call xs z = record { right = λ n os r h. absurd (omega (arith, h.name, z (11 * h.spot))) }

pub slots_written : (call : ℕ → List ℕ → ℕ → Result ℕ) (n : ℕ) (os : List ℕ) (r : ℕ) (xs ys : List ℕ) → Slots call xs → (nine ≤ r → Known (call n os) r) → Written n os r xs ys → Slots call ys
slots_written call n os r xs ys s k w =
    record { right = λ m us q h. ⊎_elim (λ a. s.right m us q a) (λ a. subst (λ (x : ℕ). Known (call m us) x) (sym a.2) (subst (λ (x : List ℕ). Known (call m x) r) (sym a.1) (subst (λ (x : ℕ). Known (call x os) r) (sym a.0) (k a.3)))) (w.holds m us q h) }

-- ---- the cells of a slot
-- those of the slot that begins at place `base` are a call's, all others as they were
pub record Put (base n : ℕ) (os : List ℕ) (r : ℕ) (xs ys : List ℕ) : Type 0 where
  pub long : length ys ≡ length xs
  pub outside : (i : ℕ) → (i < base) ⊎ (base + 11 ≤ i) → get_or ys i 0 ≡ get_or xs i 0
  pub name : get_or ys base 0 ≡ suc n
  pub count : get_or ys (base + 1) 0 ≡ length os
  pub args : part (base + 2) (length os) ys ≡ os
  pub answered : get_or ys (base + 10) 0 ≡ r

-- n cells from place `base` on are the numbers os, all others as they were
pub record Filled (base n : ℕ) (os xs ys : List ℕ) : Type 0 where
  pub long : length ys ≡ length xs
  pub outside : (i : ℕ) → (i < base) ⊎ (base + n ≤ i) → get_or ys i 0 ≡ get_or xs i 0
  pub is : part base n ys ≡ os

-- what the look-up finds is in a slot
abbrev pub Recalled : List ℕ → ℕ → List ℕ → ℕ → Type 0
Recalled xs n os r = (r ≡ 0 → ⊥) → Holds xs n os r
