-- Lines that pass row 5 are linked. Assumes nothing.
use Rattle.std.specs.Prelude.{◌≡◌, refl, List, Bool, true, false, ◌&&◌, ◌||◌, not, ℕ, suc, ◌≤◌, ◌<◌, eqb, leb, length}
use Rattle.std.proofs.Common.{arith, eqb-true, leb-true, le-leb, ne_eqb}
use Rattle.sheet.specs.Line.{Line}
use Rattle.meaning.specs.Rows.{nth_line}
use Rattle.meaning_patterns.specs.Patterns.{kind_of, name_of, last_of, previous_of, field_of, linked_before, good_link, good_name, good_last, good_previous, good_pattern}
use Rattle.pattern_emit.specs.Emit.{Linked}

left : (a b : Bool) → (a && b) ≡ true → a ≡ true
left true b h = refl
left false b h = h

right : (a b : Bool) → (a && b) ≡ true → b ≡ true
right true b h = h
right false b h = let z : ◌≡◌ {A = ℕ} 0 1 = cc in absurd (omega arith)

link_low : (qs : List Line) (q k : ℕ) → good_link qs q k ≡ true → k ≤ q
unfolding good_link
link_low qs q k h = go (eqb k 0) refl h
  where
    go : (b : Bool) → eqb k 0 ≡ b → (b || (leb k q && not (linked_before qs q k))) ≡ true → k ≤ q
    go true e h = omega (arith, eqb-true k 0 e)
    go false e h = leb-true k q (left (leb k q) (not (linked_before qs q k)) h)

leaf_last : (qs : List Line) (l : Line) → good_last qs l ≡ true → kind_of l ≤ 2 → last_of l ≡ 0
unfolding good_last
leaf_last qs l h k = eqb-true (last_of l) 0 (rw (le-leb (kind_of l) 2 k) at h)

no_name : (names : ℕ) (l : Line) → good_name names l ≡ true → (kind_of l ≡ 1 → ⊥) → (kind_of l ≡ 2 → ⊥) → (kind_of l ≡ 3 → ⊥) → (kind_of l ≡ 4 → ⊥) → name_of l ≡ 0
unfolding good_name
no_name names l h a b c d =
    eqb-true (name_of l) 0 (rw (ne_eqb (kind_of l) 1 a, ne_eqb (kind_of l) 2 b, ne_eqb (kind_of l) 3 c, ne_eqb (kind_of l) 4 d) at h)

-- what row 5 says of a line
record Row (names : ℕ) (qs : List Line) (i : ℕ) : Type 0 where
  kind : kind_of (nth_line qs i) ≤ 6
  name : good_name names (nth_line qs i) ≡ true
  last : last_of (nth_line qs i) ≤ i
  previous : previous_of (nth_line qs i) ≤ i
  leaf : good_last qs (nth_line qs i) ≡ true

row_five : (names : ℕ) (qs : List Line) (i : ℕ) → good_pattern names qs i ≡ true → Row names qs i
unfolding good_pattern
row_five names qs i g =
    let l : Line = nth_line qs i in
    go
    (leb (kind_of l) 6)
    (good_name names l)
    (good_link qs i (last_of l))
    (good_link qs i (previous_of l))
    (eqb (last_of l) 0 || not (eqb (last_of l) (previous_of l)))
    (leb (field_of l) names)
    (good_previous qs l)
    (good_last qs l)
    (not (eqb (suc i) (length qs)) || (eqb (previous_of l) 0 && eqb (field_of l) 0))
    (λ a b c d h. record { kind = leb-true (kind_of l) 6 a; name = b; last = link_low qs i (last_of l) c; previous = link_low qs i (previous_of l) d; leaf = h })
    g
  where
    go : (a b c d e f g h i : Bool) {A : Type 0} → (a ≡ true → b ≡ true → c ≡ true → d ≡ true → h ≡ true → A) → (a && b && c && d && e && f && g && h && i) ≡ true → A
    go a b c d e f g h i k t =
        let t₈ = left (a && b && c && d && e && f && g && h) i t in
        let t₄ = left (a && b && c && d) e (left (a && b && c && d && e) f (left (a && b && c && d && e && f) g (left (a && b && c && d && e && f && g) h t₈))) in
        let t₃ = left (a && b && c) d t₄ in
        let t₂ = left (a && b) c t₃ in
        k (left a b t₂) (right a b t₂) (right (a && b) c t₃) (right (a && b && c) d t₄) (right (a && b && c && d && e && f && g) h t₈)

pub linked_good : (names : ℕ) (qs : List Line) → ((i : ℕ) → i < length qs → good_pattern names qs i ≡ true) → Linked qs
linked_good names qs good =
    record {
      last = λ i h. (row i h).last;
      previous = λ i h. (row i h).previous;
      kind = λ i h. (row i h).kind;
      leaf = λ i h. leaf_last qs (nth_line qs i) (row i h).leaf;
      unnamed = λ i h k. no_name names (nth_line qs i) (row i h).name (λ e. omega arith) (λ e. omega arith) (λ e. omega arith) (λ e. omega arith);
      wild = λ i h k. no_name names (nth_line qs i) (row i h).name (λ e. omega arith) (λ e. omega arith) (λ e. omega arith) (λ e. omega arith);
    }
  where
    row : (i : ℕ) → i < length qs → Row names qs i
    row i h = row_five names qs i (good i h)
