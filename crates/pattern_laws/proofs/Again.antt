-- The Q lines of the new pattern pass row 5, if those of the sheet do: its names and fields are theirs, and its records'
-- parts alone have fields. Assumes nothing.
use Rattle.std.specs.Prelude.{◌≡◌, List, map, Bool, true, false, ◌||◌, not, eqb, leb, length, get_or}
use Rattle.std.proofs.Math.Path.{refl}
use Rattle.std.proofs.Common.{sym, ap, ◌∙◌, arith, eqb-true, ne_eqb}
use Rattle.std.proofs.Math.Option.{Option}
use Prim.Native.Nat.{ℕ, zero, suc, ◌-◌, ◌≤◌, ◌<◌}
use Rattle.std.proofs.lemmas.Bool.{lt-leb, eqb-false}
use Rattle.number_columns.specs.Column.{pick, ◌⇒◌∥◌}
use Rattle.sheet.specs.Line.{Line, row}
use Rattle.sheet.proofs.ListLaws.{false_true}
use Rattle.model.specs.Decl.{Layout}
use Rattle.model_patterns.specs.Pat.{Pat, Pats, PWild, no_parts, part, Owner, rw_pat}
use Rattle.meaning.specs.Rows.{nth_line}
use Rattle.meaning_patterns.specs.Patterns.{pattern_line, kind_of, name_of, last_of, previous_of, field_of, linked_field, good_last, good_previous, and_last, pattern_of, pattern, pat_lines}
use Rattle.pattern_laws.specs.Made.{Made, no_made, made_to, only, become, mades, made_of}
use Rattle.pattern_laws.specs.Grown.{by_lines}
use Rattle.pattern_laws.proofs.Pieces.{made_at, made_with, made_links}
use Rattle.pattern_laws.specs.Linked.{good_is, Linked, AllGood, linked_is, name_is}
use Rattle.pattern_laws.specs.Marks.{marks_of, flags_of}
use Rattle.pattern_laws.proofs.Rewrites.{made_is_rewritten}
use Rattle.pattern_laws.proofs.Written.{Fits, Well, Wells, written_good}

module _ (names : ℕ) where
  last_well : (b : Bool) (ps : Pats) (f : ℕ) (p : Pat) → Wells names b ps → Fits names b f → Well names p → Wells names b (and_last ps f p)
  unfolding and_last
  last_well b no_parts f p h i k = (i, (k, tt))
  last_well b (part g q qs) f p h i k = (h.0, (h.1.0, last_well b qs f p h.1.1 i k))

  only_well : (b : Bool) (ps : Pats) → Wells names b ps → Well names (only ps)
  unfolding only
  only_well b no_parts h = tt
  only_well b (part f p ps) h = h.1.0

  pattern_well : (kind n : ℕ) (ps : Pats) → kind ≤ 6 → (eqb kind 2 ≡ false → (eqb kind 1 || eqb kind 3 || eqb kind 4) ≡ true → n < names)
      → (2 < kind → Wells names (eqb kind 4) ps) → Well names (pattern_of kind n ps)
  unfolding pattern_of
  pattern_well zero n ps h i k = tt
  pattern_well (suc zero) n ps h i k = i refl refl
  pattern_well (suc (suc zero)) n ps h i k = tt
  pattern_well (suc (suc (suc zero))) n ps h i k = (i refl refl, k (omega arith))
  pattern_well (suc (suc (suc (suc zero)))) n ps h i k = (i refl refl, k (omega arith))
  pattern_well (suc (suc (suc (suc (suc zero))))) n ps h i k = k (omega arith)
  pattern_well (suc (suc (suc (suc (suc (suc zero)))))) n ps h i k = k (omega arith)
  pattern_well (suc (suc (suc (suc (suc (suc (suc j))))))) n ps h i k = absurd (omega arith)

  -- whether it is a field, by the number
  fits_own : (f : ℕ) → f ≤ names → Fits names (not (eqb f 0)) f
  fits_own f h = by (eqb f 0) refl
    where
      by : (b : Bool) → eqb f 0 ≡ b → Fits names (not b) f
      by true e = eqb-true f 0 e
      by false e = (omega (arith, eqb-false f 0 e), h)

  module _ (qs : List Line) (good : AllGood names qs) (xs gs : List ℕ) where
    -- whether line q has a field
    abbrev sort : ℕ → Bool
    sort q = not (eqb (field_of (nth_line qs q)) 0)

    record WellAt (q : ℕ) : Type 0 where
      pat : Well names (get_or (mades xs gs qs) q no_made).pat
      list : Wells names (sort q) (get_or (mades xs gs qs) q no_made).kept

    linked_sort : (j : ℕ) → not (eqb (linked_field qs (suc j)) 0) ≡ sort j
    linked_sort j = ap (λ (k : ℕ). not (eqb (field_of (nth_line qs k)) 0)) (omega arith)

    link_well : (q : ℕ) → ((j : ℕ) → j < q → WellAt j) → (k : ℕ) → k ≤ q → (b : Bool) → (0 < k → not (eqb (linked_field qs k) 0) ≡ b)
        → Wells names b (made_to (mades xs gs qs) k).kept
    unfolding made_to
    link_well q d zero h b e = tt
    link_well q d (suc k) h b e = rw (sym (linked_sort k) ∙ e (omega arith)) at (d k h).list

    previous_sort : (q : ℕ) → q < length qs → 0 < previous_of (nth_line qs q) → not (eqb (linked_field qs (previous_of (nth_line qs q))) 0) ≡ sort q
    unfolding good_previous
    previous_sort q h z =
        by (eqb (previous_of l) 0) (eqb (field_of l) 0) (eqb (linked_field qs (previous_of l)) 0) (ne_eqb (previous_of l) 0 (λ e. omega arith)) (good_is names qs q (good q h)).before
      where
        l : Line
        l = nth_line qs q

        by : (a b c : Bool) → a ≡ false → pick a true (pick b c (not c)) ≡ true → not c ≡ not b
        by true b c e t = false_true (sym e)
        by false true c e t = ap not t
        by false false c e t = t

    last_sort : (q : ℕ) → q < length qs → 2 < kind_of (nth_line qs q) → 0 < last_of (nth_line qs q)
        → not (eqb (linked_field qs (last_of (nth_line qs q))) 0) ≡ eqb (kind_of (nth_line qs q)) 4
    unfolding good_last
    last_sort q h k z =
        by (leb (kind_of l) 2) (eqb (last_of l) 0) (eqb (kind_of l) 4) (eqb (linked_field qs (last_of l)) 0) (lt-leb (kind_of l) 2 k) (ne_eqb (last_of l) 0 (λ e. omega arith)) (good_is names qs q (good q h)).parts
      where
        l : Line
        l = nth_line qs q

        by : (a b d c : Bool) → a ≡ false → b ≡ false → pick a b (pick b true (pick d (not c) c)) ≡ true → not c ≡ d
        by true b d c e f t = false_true (sym e)
        by false true d c e f t = false_true (sym f)
        by false false true c e f t = t
        by false false false c e f t = ap not t

    become_well : (q : ℕ) → q < length qs → ((j : ℕ) → j < q → WellAt j) → (mark : ℕ)
        → Well names (become mark (kind_of (nth_line qs q)) (name_of (nth_line qs q)) (made_to (mades xs gs qs) (last_of (nth_line qs q))).kept)
    unfolding become
    become_well q h d mark = by (eqb mark 0) (eqb mark 1)
      where
        l : Line
        l = nth_line qs q

        ps : Pats
        ps = (made_to (mades xs gs qs) (last_of l)).kept

        lower : last_of l ≤ q
        lower = (linked_is names qs good).last q h

        by : (a b : Bool) → Well names (a ⇒ PWild ∥ b ⇒ pattern_of (kind_of l) (name_of l) ps ∥ only ps)
        by true b = tt
        by false true =
            pattern_well (kind_of l) (name_of l) ps (good_is names qs q (good q h)).kind (λ i j. name_is names qs q (kind_of l) (good q h) refl i j) (λ k. link_well q d (last_of l) lower (eqb (kind_of l) 4) (last_sort q h k))
        by false false =
            only_well (not (eqb (linked_field qs (last_of l)) 0)) ps (link_well q d (last_of l) lower (not (eqb (linked_field qs (last_of l)) 0)) (λ z. refl))

    well_at : (q : ℕ) → q < length qs → ((j : ℕ) → j < q → WellAt j) → WellAt q
    unfolding made_with
    well_at q h d = record { pat = rw at_q p; list = rw at_q (list (eqb (get_or gs q 0) 1)) }
      where
        l : Line
        l = nth_line qs q

        lower : Linked qs
        lower = linked_is names qs good

        x : Made
        x = made_to (mades xs gs qs) (last_of l)

        y : Made
        y = made_to (mades xs gs qs) (previous_of l)

        v : Pat
        v = become (get_or xs q 0) (kind_of l) (name_of l) x.kept

        at_q : get_or (mades xs gs qs) q no_made ≡ made_with x y l (get_or xs q 0) (get_or gs q 0)
        at_q = made_at xs gs qs q h (lower.last q h) (lower.previous q h) ∙ made_links (mades xs gs qs) l (get_or xs q 0) (get_or gs q 0)

        p : Well names v
        p = become_well q h d (get_or xs q 0)

        before : Wells names (sort q) y.kept
        before = link_well q d (previous_of l) (lower.previous q h) (sort q) (previous_sort q h)

        list : (b : Bool) → Wells names (sort q) (elim b [ true ↦ and_last y.kept (field_of l) v | false ↦ y.kept ])
        list true = last_well (sort q) y.kept (field_of l) v before (fits_own (field_of l) (good_is names qs q (good q h)).field) p
        list false = before

    -- whatever the marks and flags are
    pub made_well : 0 < length qs → Well names (made_of xs gs qs).pat
    unfolding made_of
    made_well h = (by_lines WellAt (length qs) well_at (length qs - 1) (omega arith)).pat

  pub left_well : (owner : ℕ → Option Owner) (layout : ℕ → Option Layout) (qs : List Line) → AllGood names qs → 0 < length qs
      → Well names (rw_pat owner layout (pattern qs)).pat
  left_well owner layout qs g h =
      rw (made_is_rewritten owner layout names qs g h) at (made_well qs g (marks_of owner layout qs) (flags_of owner layout qs) h)

  -- the Q lines of the new pattern pass row 5
  pub left_good : (owner : ℕ → Option Owner) (layout : ℕ → Option Layout) (qs : List Line) → AllGood names qs → 0 < length qs
      → AllGood names (map (row pattern_line) (pat_lines (rw_pat owner layout (pattern qs)).pat 0 0 0))
  left_good owner layout qs g h = written_good names (rw_pat owner layout (pattern qs)).pat (left_well owner layout qs g h)
