-- Row 13 by the tables, and the counts of parts, one Q line more. Assumes nothing.
use Rattle.std.specs.Prelude.{◌≡◌, List, Bool, true, false, ◌&&◌, not, ℕ, ◌+◌, ◌-◌, ◌≤◌, ◌<◌, eqb, length, get_or, set, replicate}
use Rattle.std.proofs.Math.Path.{refl}
use Rattle.std.proofs.Common.{◌∙◌, arith, add-one, length-set, get_or-set_same, get_or-set_other, ne_eqb, eqb-true}
use Rattle.std.proofs.Math.Option.{Option, none, some}
use Rattle.std.proofs.lemmas.List.{length-replicate, get_or-replicate}
use Rattle.std.proofs.lemmas.Bool.{eqb-false}
use Rattle.sheet.specs.Line.{Line}
use Rattle.model.specs.Decl.{Decl}
use Rattle.model_patterns.specs.Pat.{parts}
use Rattle.meaning.specs.Rows.{nth_line}
use Rattle.meaning_patterns.specs.Patterns.{kind_of, name_of, last_of, previous_of, list_to, pieces, declared_fields, miscounts, row13, good_pattern}
use Rattle.pattern_rows.specs.LinksLaws.{good_lower, name_within}
use Rattle.pattern_counts.specs.Counts.{field_mark, Fielded, PartCounts, miscounted}
use Rattle.pattern_laws.proofs.Pieces.{parts_count}

-- before the first line
pub parts_none : (qs : List Line) → PartCounts qs 0 (replicate 257 0)
unfolding list_to parts
parts_none qs = record {
  size = length-replicate 257 zero_count;
  held = λ k h. let e : k ≡ 0 = omega arith in rw e;
  few = λ k h. omega (arith, get_or-replicate 257 k zero_count zero_count (omega arith));
}
  where
    zero_count : ℕ
    zero_count = 0

module _ (names : ℕ) (qs : List Line) (q : ℕ) (w : q < length qs) (r : q < 256) (g : good_pattern names qs q ≡ true) (ends : List ℕ) (p : PartCounts qs q ends) where
  -- line q is passed, and ends a list that has one part more
  pub parts_more : (previous : ℕ) → previous ≡ previous_of (nth_line qs q) → PartCounts qs (q + 1) (set ends (q + 1) (get_or ends previous 0 + 1))
  parts_more previous e = record {
    size = length-set ends (q + 1) (get_or ends previous 0 + 1) ∙ p.size;
    held = λ k h. at k h (eqb k (q + 1)) refl;
    few = λ k h. within k h (eqb k (q + 1)) refl;
  }
    where
      low : previous ≤ q
      low = omega (arith, (good_lower names qs q g).previous_lower)

      at : (k : ℕ) → k ≤ q + 1 → (b : Bool) → eqb k (q + 1) ≡ b → get_or (set ends (q + 1) (get_or ends previous 0 + 1)) k 0 ≡ parts (list_to (pieces qs) k)
      at k h true f =
          rw (eqb-true k (q + 1) f, get_or-set_same ends (q + 1) (get_or ends previous 0 + 1) 0 (omega (arith, p.size)), p.held previous low, add-one q, parts_count qs q w (good_lower names qs q g).last_lower (good_lower names qs q g).previous_lower, ← e)
          (add-one (parts (list_to (pieces qs) previous)))
      at k h false f =
          let n = eqb-false k (q + 1) f in
          rw (get_or-set_other ends (q + 1) k (get_or ends previous 0 + 1) 0 n) (p.held k (omega (arith, n)))

      within : (k : ℕ) → k ≤ q + 1 → (b : Bool) → eqb k (q + 1) ≡ b → get_or (set ends (q + 1) (get_or ends previous 0 + 1)) k 0 ≤ k
      within k h true f =
          rw (eqb-true k (q + 1) f, get_or-set_same ends (q + 1) (get_or ends previous 0 + 1) 0 (omega (arith, p.size))) (omega (arith, p.few previous low, low))
      within k h false f =
          let n = eqb-false k (q + 1) f in
          rw (get_or-set_other ends (q + 1) k (get_or ends previous 0 + 1) 0 n) (p.few k (omega (arith, n)))

  -- row 13's test
  pub row13_by : (ds : List Decl) (fields : List ℕ) → Fielded ds fields → length fields ≡ names → row13 ds qs q ≡ miscounted fields ends (nth_line qs q)
  unfolding row13
  row13_by ds fields d n = go (eqb (kind_of l) 3) refl
    where
      l : Line
      l = nth_line qs q

      told : (o : Option ℕ) (f k : ℕ) → f ≡ field_mark o → miscounts o k ≡ (not (eqb f 0) && not (eqb k (f - 1)))
      told none f k e = rw e
      told (some m) f k e =
          let s : f - 1 ≡ m = omega arith in
          rw (ne_eqb f 0 (λ z. omega arith), s)

      go : (b : Bool) → eqb (kind_of l) 3 ≡ b
          → elim b [ true ↦ miscounts (declared_fields ds (name_of l)) (parts (list_to (pieces qs) (last_of l))) | false ↦ false ]
          ≡ (b && (not (eqb (get_or fields (name_of l) 0) 0) && not (eqb (get_or ends (last_of l) 0) (get_or fields (name_of l) 0 - 1))))
      go true e =
          let i : name_of l < names = name_within names qs q g (rw (eqb-true (kind_of l) 3 e)) in
          rw (← (p.held (last_of l) (good_lower names qs q g).last_lower))
          (told (declared_fields ds (name_of l)) (get_or fields (name_of l) 0) (get_or ends (last_of l) 0) (d.marks (name_of l) (omega arith)))
      go false e = refl
