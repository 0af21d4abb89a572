-- A sheet that rows 2 to 7 refuse as if it had no Q lines: where the line that is out of order is no Q line, it is refused so; else its
-- Q lines begin there. Assumes nothing.
use Rattle.std.specs.Prelude.{Bool, true, false, ◌≡◌, ℕ, suc, ◌+◌, ◌*◌, ◌≤◌, ◌<◌, eqb, ltb, get_or, drop}
use Rattle.std.proofs.Math.Path.{refl, subst}
use Rattle.std.proofs.Common.{sym, ◌∙◌, ap, arith, get_or-take, get_or-drop, ltb-true, ltb-false, ne_eqb, eq-eqb}
use mathlib.Core.List.{List, [], ◌∷◌}
use Rattle.sheet.specs.Format.{base}
use Rattle.sheet.specs.Line.{letter, is_bad}
use Rattle.sheet.specs.Sheet.{first, count, line, lines, line_at, row1, row2}
use Rattle.sheet.proofs.FirstLaws.{first_le, none_first}
use Rattle.meaning.specs.Program.{is}
use Rattle.meaning.specs.Rows.{raw, raws, row3, row4, row5, row6, row7}
use Rattle.meaning_patterns.specs.Patterns.{pattern_line}
use Rattle.answer.specs.declared.Refusal.{Refusal}
use Rattle.answer.specs.declared.Refusal.TheVariants.{Accepted, Refused}
use Rattle.answer.specs.Answer.{Row, line_row, whole_row, refusal, Clear}
use Rattle.answer.specs.Answer as old
use Rattle.answer_laws.specs.Refused.{Coding, InRange, refusal_in_range}
use Rattle.answer_patterns.specs.Whole.{front_count, front, tail, sheet_rows}
use Rattle.answer_pattern_laws.specs.Parts.{NoPattern, row1_whole}
use Rattle.answer_pattern_laws.specs.Order.{passed_plain, first_broken}
use Rattle.answer_pattern_laws.specs.Plain.{sheet_refusal_plain}
use Rattle.answer_pattern_laws.specs.Refusals.{code_of, refusal_skip, row_first, broken_new}
use Rattle.input_table.specs.Table.{Refuses, Breaks}

abbrev place_in : Refusal → ℕ
place_in Accepted = 0
place_in (Refused code place) = place

-- the byte that a line begins with is its raw letter
pub raw_letter : (b : List ℕ) (i : ℕ) → letter (raw 6 b i) ≡ get_or b (i * 32) 0
unfolding raw line_at
raw_letter b i =
    let e : 32 * i + 0 ≡ i * 32 = omega arith in
    get_or-take 32 (drop (32 * i) b) 0 0 (omega arith) ∙ (get_or-drop (32 * i) b 0 0 ∙ ap (λ (k : ℕ). get_or b k 0) e)

module _ (b : List ℕ) (one : row1 base b ≡ false) where
  -- a bad line, with Q lines as without
  bad_new : row2 6 b < count 6 b → refusal (sheet_rows base b) ≡ Refused 2 (row2 6 b)
  unfolding sheet_rows row2
  bad_new h = refusal_skip (whole_row 1 0 (row1 base b)) _ (λ i k. one) ∙ row_first (line_row 2 (count 6 b) (λ i. is_bad (line 6 b i))) _ (row2 6 b) refl h

  bad_old : row2 6 b < count 6 b → refusal (old.sheet_rows base b) ≡ Refused 2 (row2 6 b)
  unfolding old.sheet_rows row2
  bad_old h = refusal_skip (whole_row 1 0 (row1 base b)) _ (λ i k. one) ∙ row_first (line_row 2 (count 6 b) (λ i. is_bad (line 6 b i))) _ (row2 6 b) refl h

  module _ (no_bad : row2 6 b ≡ count 6 b) where
    two : Clear (count 6 b) (λ i. is_bad (line 6 b i))
    unfolding row2
    two = none_first (λ i. is_bad (line 6 b i)) (count 6 b) no_bad

    -- a line that is out of order, or an end
    order_old : first (row3 (raws 6 b)) (suc (count 6 b)) ≤ count 6 b → refusal (old.sheet_rows base b) ≡ Refused 3 (first (row3 (raws 6 b)) (suc (count 6 b)))
    unfolding old.sheet_rows
    order_old h =
        refusal_skip (whole_row 1 0 (row1 base b)) _ (λ i k. one)
        ∙ (refusal_skip (line_row 2 (count 6 b) (λ i. is_bad (line 6 b i))) _ two
        ∙ row_first (line_row 3 (suc (count 6 b)) (row3 (raws 6 b))) _ (first (row3 (raws 6 b)) (suc (count 6 b))) refl (omega (arith, h)))

    -- where row 3 passes, no code is 3
    later : first (row3 (raws 6 b)) (suc (count 6 b)) ≡ suc (count 6 b) → InRange 4 7 (refusal (old.sheet_rows base b))
    unfolding old.sheet_rows
    later e = subst (InRange 4 7) (sym skipped) (refusal_in_range 4 7 from4 (coding 4 (omega arith) (omega arith), (coding 5 (omega arith) (omega arith), (coding 6 (omega arith) (omega arith), (coding 7 (omega arith) (omega arith), tt)))))
      where
        from4 : List Row
        from4 = line_row 4 (count 6 b) (row4 base (lines 6 b)) ∷ line_row 5 (count 6 b) (row5 (lines 6 b)) ∷ line_row 6 (count 6 b) (row6 (lines 6 b)) ∷ line_row 7 (count 6 b) (row7 (lines 6 b)) ∷ []

        skipped : refusal (old.sheet_rows base b) ≡ refusal from4
        skipped =
            refusal_skip (whole_row 1 0 (row1 base b)) _ (λ i k. one)
            ∙ (refusal_skip (line_row 2 (count 6 b) (λ i. is_bad (line 6 b i))) _ two
            ∙ refusal_skip (line_row 3 (suc (count 6 b)) (row3 (raws 6 b))) from4 (none_first (row3 (raws 6 b)) (suc (count 6 b)) e))

        coding : (code : ℕ) → 4 ≤ code → code ≤ 7 → {bound : ℕ} {test : ℕ → Bool} {place : ℕ → ℕ} → Coding 4 7 (record { bound = bound; test = test; code = λ i. code; place = place })
        coding code lo hi = record { in_range = λ i h. (lo, hi) }

decide : (A : Type 0) (x y : ℕ) → (x < y → A) → (y ≤ x → A) → A
decide A x y f g = go (ltb x y) refl
  where
    go : (c : Bool) → ltb x y ≡ c → A
    go true e = f (ltb-true x y e)
    go false e = g (ltb-false x y e)

module _ (b : List ℕ) (room code place : ℕ) (r : Refuses b room code place) where
  row2_le : row2 6 b ≤ count 6 b
  unfolding row2
  row2_le = first_le (λ i. is_bad (line 6 b i)) (count 6 b)

  abbrev p : ℕ
  p = first (row3 (raws 6 b)) (suc (count 6 b))

  told : (c q : ℕ) → refusal (old.sheet_rows base b) ≡ Refused c q → (code ≡ c) × (place ≡ q)
  told c q e = (ap code_of (sym r.refused ∙ e), ap place_in (sym r.refused ∙ e))

  -- refused with Q lines as without
  pub same_refused : (code ≡ 3 → place < count 6 b → is pattern_line (raw 6 b place) ≡ false) → refusal (sheet_rows base b) ≡ Refused code place
  same_refused other = decide (refusal (sheet_rows base b) ≡ Refused code place) (row2 6 b) (count 6 b) bad (λ h. good (omega (arith, row2_le, h)))
    where
      bad : row2 6 b < count 6 b → refusal (sheet_rows base b) ≡ Refused code place
      bad h = let t = told 2 (row2 6 b) (bad_old b r.short h) in bad_new b r.short h ∙ rw (t.0, t.1) refl

      broken : row2 6 b ≡ count 6 b → p ≤ count 6 b → refusal (sheet_rows base b) ≡ Refused code place
      broken n h =
          let t = told 3 p (order_old b r.short n h) in
          let o : p < count 6 b → is pattern_line (raw 6 b p) ≡ false = λ k. rw t.1 at (other t.0 (omega (arith, k, t.1))) in
          broken_new base b r.short (two b r.short n) p refl h o ∙ rw (t.0, t.1) refl

      good : row2 6 b ≡ count 6 b → refusal (sheet_rows base b) ≡ Refused code place
      good n = decide (refusal (sheet_rows base b) ≡ Refused code place) p (suc (count 6 b)) (λ h. broken n (omega (arith, h)))
          (λ h. sheet_refusal_plain base b (row1_whole base b r.short) (passed_plain 6 b (none_first (row3 (raws 6 b)) (suc (count 6 b)) (omega (arith, h, first_le (row3 (raws 6 b)) (suc (count 6 b)))))) ∙ r.refused)

  -- a Q line that is out of order: the Q lines begin there
  pub breaks_of : code ≡ 3 → place < count 6 b → is pattern_line (raw 6 b place) ≡ true → Breaks b room place
  breaks_of c h q = decide (Breaks b room place) (row2 6 b) (count 6 b) (λ k. absurd (omega (arith, (told 2 (row2 6 b) (bad_old b r.short k)).0, c))) (λ k. good (omega (arith, row2_le, k)))
    where
      good : row2 6 b ≡ count 6 b → Breaks b room place
      good n = decide (Breaks b room place) p (suc (count 6 b)) broken past
        where
          broken : p < suc (count 6 b) → Breaks b room place
          broken k =
              let t = told 3 p (order_old b r.short n (omega (arith, k))) in
              record { short = r.short; no_bad = n; inside = h; begins = first_broken 6 b place (sym t.1) h q; roomy = r.roomy }

          past : suc (count 6 b) ≤ p → Breaks b room place
          past k =
              let e : p ≡ suc (count 6 b) = omega (arith, k, first_le (row3 (raws 6 b)) (suc (count 6 b))) in
              let w = rw r.refused at (later b r.short n e) in
              absurd (omega (arith, w.0, c))

  -- row 3's place is a line, or the end
  pub place_within : code ≡ 3 → place ≤ count 6 b
  place_within c = decide (place ≤ count 6 b) (row2 6 b) (count 6 b) (λ k. absurd (omega (arith, (told 2 (row2 6 b) (bad_old b r.short k)).0, c))) (λ k. good (omega (arith, row2_le, k)))
    where
      good : row2 6 b ≡ count 6 b → place ≤ count 6 b
      good n = decide (place ≤ count 6 b) p (suc (count 6 b)) (λ k. omega (arith, (told 3 p (order_old b r.short n (omega (arith, k)))).1, k)) past
        where
          past : suc (count 6 b) ≤ p → place ≤ count 6 b
          past k =
              let e : p ≡ suc (count 6 b) = omega (arith, k, first_le (row3 (raws 6 b)) (suc (count 6 b))) in
              let w = rw r.refused at (later b r.short n e) in
              absurd (omega (arith, w.0, c))

  pub place_line : code ≡ 3 → (place ≡ count 6 b → ⊥) → place < count 6 b
  place_line c n = decide (place < count 6 b) place (count 6 b) (λ h. h) (λ h. absurd (n (omega (arith, h, place_within c))))

-- ---- by the byte that a line begins with
pub other_line : (b : List ℕ) (i : ℕ) → (get_or b (i * 32) 0 ≡ 81 → ⊥) → is pattern_line (raw 6 b i) ≡ false
other_line b i n = ne_eqb (letter (raw 6 b i)) 81 (λ e. n (sym (raw_letter b i) ∙ e))

pub pattern_begins : (b : List ℕ) (i : ℕ) → get_or b (i * 32) 0 ≡ 81 → is pattern_line (raw 6 b i) ≡ true
pattern_begins b i e = eq-eqb (letter (raw 6 b i)) 81 (raw_letter b i ∙ e)
