-- The owners and the places of Q lines, line after line. Assumes nothing.
use Rattle.std.specs.Prelude.{◌≡◌, refl, set}
use Rattle.std.proofs.Math.Path.{ap, sym}
use Rattle.std.proofs.Common.{◌∙◌, add-one, length-set, get_or-set_same, get_or-set_other}
use mathlib.Core.List.{List, [], ◌∷◌, ◌++◌}
use Prim.Native.Nat.{ℕ, zero, suc, ◌+◌, ◌-◌, ◌≤◌, ◌<◌}
use native.Mathlib.Omega.{arith}
use Rattle.std.proofs.Math.ListN.{length, get_or, replicate, length-append}
use Rattle.std.proofs.lemmas.List.{length-replicate}
use Rattle.sheet.specs.Line.{Line}
use Rattle.model_laws.specs.Rounds.{cases_eq}
use Rattle.model_patterns.specs.Pat.{part_fields}
use Rattle.meaning.specs.Rows.{nth_line}
use Rattle.meaning_patterns.specs.Patterns.{kind_of, name_of, last_of, previous_of, field_of, Piece, list_to, pattern_of, piece, pieces}
use Rattle.pattern_laws.specs.Linked.{Linked}
use Rattle.pattern_laws.proofs.Pieces.{piece_at}
use Rattle.pattern_laws.proofs.Kept.{fields_last}
use Rattle.pattern_laws.specs.Marks.{claim, owners_from, owners_of, fields_to}
use Rattle.pattern_owners.specs.Places.{Zeros, claimed, ended, PlacedTo}

-- ---- owners
pub zeros_next : (os : List ℕ) (i : ℕ) → i < length os → Zeros os i → Zeros (set os i 0) (i + 1)
zeros_next os i h c = λ j l. cases_eq j i (λ e. rw e (get_or-set_same os i 0 0 h)) (λ e. get_or-set_other os i j 0 0 e ∙ c j (omega arith))

zeros_are : (os : List ℕ) → Zeros os (length os) → os ≡ replicate (length os) 0
unfolding replicate
zeros_are [] h = refl
zeros_are (o ∷ os) h =
    ap (λ (x : ℕ). x ∷ os) (h 0 (omega arith)) ∙ ap (λ (r : List ℕ). 0 ∷ r) (zeros_are os (λ j l. h (suc j) (omega arith)))

-- none is claimed
pub owners_none : (qs : List Line) (os : List ℕ) → Zeros os (length os) → length os ≡ length qs → owners_from qs (length qs) os ≡ owners_of qs
unfolding owners_of
owners_none qs os z e = ap (owners_from qs (length qs)) (zeros_are os z ∙ ap (λ (n : ℕ). replicate n 0) e)

pub owners_next : (qs : List Line) (i : ℕ) (os : List ℕ) → 0 < i → owners_from qs i os ≡ owners_from qs (i - 1) (claimed qs (i - 1) os)
unfolding owners_from claimed
owners_next qs i os h = let e : i ≡ suc (i - 1) = omega arith in ap (λ (k : ℕ). owners_from qs k os) e

pub owners_done : (qs : List Line) (i : ℕ) (os : List ℕ) → i ≡ 0 → owners_from qs i os ≡ os
unfolding owners_from
owners_done qs i os e = ap (λ (k : ℕ). owners_from qs k os) e

length_claim : (os : List ℕ) (a v : ℕ) → length (claim os a v) ≡ length os
unfolding claim
length_claim os zero v = refl
length_claim os (suc k) v = length-set os k v

pub claim_none : (os : List ℕ) (a v : ℕ) → a ≡ 0 → os ≡ claim os a v
unfolding claim
claim_none os a v e = ap (λ (k : ℕ). claim os k v) (sym e)

pub claim_some : (os : List ℕ) (a v : ℕ) → (a ≡ 0 → ⊥) → set os (a - 1) v ≡ claim os a v
unfolding claim
claim_some os zero v h = absurd (h refl)
claim_some os (suc k) v h = let e : suc k - 1 ≡ k = omega arith in rw e

-- an owner is a line
module _ (b : ℕ) where
  abbrev Low : List ℕ → Type 0
  Low os = (j : ℕ) → get_or os j 0 ≤ b

  claim_low : (os : List ℕ) (a v : ℕ) → v ≤ b → Low os → Low (claim os a v)
  unfolding claim
  claim_low os zero v h l = l
  claim_low os (suc k) v h l = λ j. set_low os k j v h l
    where
      set_low : (xs : List ℕ) (i j v : ℕ) → v ≤ b → Low xs → get_or (set xs i v) j 0 ≤ b
      set_low [] i j v h l = l j
      set_low (x ∷ xs) zero zero v h l = h
      set_low (x ∷ xs) zero (suc j) v h l = l (suc j)
      set_low (x ∷ xs) (suc i) zero v h l = l 0
      set_low (x ∷ xs) (suc i) (suc j) v h l = set_low xs i j v h (λ m. l (suc m))

  from_low : (qs : List Line) (n : ℕ) (os : List ℕ) → n ≤ b → Low os → Low (owners_from qs n os)
  unfolding owners_from
  from_low qs zero os h l = l
  from_low qs (suc q) os h l =
      from_low qs q (claim (claim os (last_of (nth_line qs q)) (suc q)) (previous_of (nth_line qs q)) (get_or os q 0)) (omega arith)
      (claim_low (claim os (last_of (nth_line qs q)) (suc q)) (previous_of (nth_line qs q)) (get_or os q 0) (l q) (claim_low os (last_of (nth_line qs q)) (suc q) h l))

replicate_low : (n j : ℕ) → ◌≡◌ {A = ℕ} (get_or (replicate n 0) j 0) 0
unfolding replicate
replicate_low zero j = refl
replicate_low (suc n) zero = refl
replicate_low (suc n) (suc j) = replicate_low n j

pub owners_low : (qs : List Line) (j : ℕ) → get_or (owners_of qs) j 0 ≤ length qs
unfolding owners_of
owners_low qs = from_low (length qs) qs (length qs) (replicate (length qs) 0) (omega arith) (λ j. omega (arith, replicate_low (length qs) j))

-- as many as lines
from_long : (qs : List Line) (n : ℕ) (os : List ℕ) → length (owners_from qs n os) ≡ length os
unfolding owners_from
from_long qs zero os = refl
from_long qs (suc q) os =
    from_long qs q (claim (claim os (last_of (nth_line qs q)) (suc q)) (previous_of (nth_line qs q)) (get_or os q 0))
    ∙ length_claim (claim os (last_of (nth_line qs q)) (suc q)) (previous_of (nth_line qs q)) (get_or os q 0)
    ∙ length_claim os (last_of (nth_line qs q)) (suc q)

pub owners_long : (qs : List Line) → length (owners_of qs) ≡ length qs
unfolding owners_of
owners_long qs = from_long qs (length qs) (replicate (length qs) 0) ∙ length-replicate (length qs) 0

-- ---- places
-- the fields of a list are those of the list before its last part, and that part's
pub fields_more : (qs : List Line) → Linked qs → (q : ℕ) → q < length qs
    → fields_to qs (suc q) ≡ fields_to qs (previous_of (nth_line qs q)) ++ (field_of (nth_line qs q) ∷ [])
unfolding list_to piece
fields_more qs k q h =
    let l : Line = nth_line qs q in
    ap (λ (p : Piece). part_fields p.list) (piece_at qs q h (k.last q h) (k.previous q h))
    ∙ fields_last (list_to (pieces qs) (previous_of l)) (field_of l) (pattern_of (kind_of l) (name_of l) (list_to (pieces qs) (last_of l)))

pub fields_none : (qs : List Line) → fields_to qs 0 ≡ []
unfolding list_to part_fields
fields_none qs = refl

module _ (qs : List Line) (linked : Linked qs) (ps : List ℕ) (n : ℕ) (h : n ≤ length qs) (p : PlacedTo qs ps n) where
  pub ended_is : (k : ℕ) → k ≤ n → ended ps k ≡ length (fields_to qs k)
  unfolding ended
  ended_is zero l = sym (ap length (fields_none qs))
  ended_is (suc q) l =
      ap suc (p.held q l)
      ∙ sym (ap length (fields_more qs linked q (omega arith)) ∙ length-append (fields_to qs (previous_of (nth_line qs q))) (field_of (nth_line qs q) ∷ []) ∙ omega arith)

  pub ended_few : (k : ℕ) → k ≤ n → ended ps k ≤ k
  unfolding ended
  ended_few zero l = omega arith
  ended_few (suc q) l = omega (arith, p.few q l)

pub placed_none : (qs : List Line) (ps : List ℕ) → PlacedTo qs ps 0
placed_none qs ps = record { held = λ q l. absurd (omega arith); few = λ q l. absurd (omega arith) }

pub placed_next : (qs : List Line) → Linked qs → (ps : List ℕ) (n x : ℕ) → n < length qs → length ps ≡ length qs → PlacedTo qs ps n
    → x ≡ ended ps (previous_of (nth_line qs n)) → PlacedTo qs (set ps n x) (n + 1)
placed_next qs linked ps n x h e p q =
    let l = linked.previous n h in
    record {
      held = λ j i. cases_eq j n (λ z. rw z (get_or-set_same ps n x 0 (omega arith) ∙ q ∙ ended_is qs linked ps n (omega arith) p (previous_of (nth_line qs n)) l)) (λ z. get_or-set_other ps n j x 0 z ∙ p.held j (omega arith));
      few = λ j i. cases_eq j n
          (λ z. rw z (omega (arith, get_or-set_same ps n x 0 (omega arith), q, ended_few qs linked ps n (omega arith) p (previous_of (nth_line qs n)) l)))
          (λ z. omega (arith, get_or-set_other ps n j x 0 z, p.few j (omega arith)));
    }

pub place_some : (ps : List ℕ) (k : ℕ) → (k ≡ 0 → ⊥) → get_or ps (k - 1) 0 + 1 ≡ ended ps k
unfolding ended
place_some ps zero h = absurd (h refl)
place_some ps (suc k) h = let e : suc k - 1 ≡ k = omega arith in rw (e, add-one)

pub place_none : (ps : List ℕ) (k : ℕ) → k ≡ 0 → 0 ≡ ended ps k
unfolding ended
place_none ps k e = ap (ended ps) (sym e)
