-- The refusal of a sheet with a pattern, from that of what stands before its Q lines and from the rows of the Q lines. Assumes
-- nothing.
use Rattle.std.specs.Prelude.{◌≡◌, List, [], ◌∷◌, ◌++◌, Bool, true, false, not, ℕ, suc, ◌+◌, ◌*◌, ◌%◌, ◌≤◌, ◌<◌, eqb, leb, ltb}
use Rattle.std.proofs.Math.Path.{refl, ap}
use Rattle.std.proofs.Common.{ap₂, sym, ◌∙◌, subst, arith}
use Rattle.std.proofs.Math.ListN.{length, length-append}
use borrow.Author.Tests.{lt-ltb, le-ltb, le-leb, lt-leb, eq-eqb}
use Rattle.sheet.specs.Format.{Format, line_bytes}
use Rattle.sheet.specs.Line.{Line, is_bad, letter}
use Rattle.sheet.specs.Sheet.{first, count, line, lines, row1, row2}
use Rattle.sheet.proofs.FirstLaws.{first_none, first_congr, place_unique, first_place}
use Rattle.sheet.proofs.SheetLaws.{get_or_lines}
use Rattle.meaning.specs.Program.{is, name_line}
use Rattle.meaning.specs.Rows.{nth_line, count_of, raw, raws, row3, row4, row5, row6, row7}
use Rattle.meaning_laws.specs.Rows.{raw_rawly}
use Rattle.meaning_patterns.specs.Patterns.{pattern_line, good_pattern}
use Rattle.answer.specs.declared.Refusal.{Refusal}
use Rattle.answer.specs.declared.Refusal.TheVariants.{Accepted, Refused}
use Rattle.answer.specs.Answer.{Row, line_row, whole_row, refusal, Clear}
use Rattle.answer.specs.Answer as old
use Rattle.answer.specs.Cut.{Whole}
use Rattle.answer_laws.specs.Answer.{or_later, refusal_append}
use Rattle.answer_laws.specs.Build.{row1_small}
use Rattle.answer_patterns.specs.Whole.{front, tail, tail_row, sheet_rows}
use Rattle.answer_pattern_laws.specs.Parts.{row1_whole, count_parts, line_first, line_second, parts_are, front_whole}
use Rattle.answer_pattern_laws.specs.Plain.{sheet_rows_are}
use Rattle.answer_pattern_laws.specs.Order.{broken_front}

-- ---- one row
pub refusal_skip : (r : Row) (rs : List Row) → Clear r.bound r.test → refusal (r ∷ rs) ≡ refusal rs
unfolding refusal
refusal_skip r rs h =
    ap (λ (c : Bool). elim c [ true ↦ Refused (r.code (first r.test r.bound)) (r.place (first r.test r.bound)) | false ↦ refusal rs ])
    (le-ltb (first r.test r.bound) r.bound (omega (arith, first_none r.test r.bound h)))

pub row_passed : (r : Row) → first r.test r.bound ≡ r.bound → refusal (r ∷ []) ≡ Accepted
unfolding refusal
row_passed r e =
    ap (λ (c : Bool). elim c [ true ↦ Refused (r.code (first r.test r.bound)) (r.place (first r.test r.bound)) | false ↦ Accepted ])
    (le-ltb (first r.test r.bound) r.bound (omega arith))

pub row_refused : (r : Row) (i : ℕ) → first r.test r.bound ≡ i → i < r.bound → refusal (r ∷ []) ≡ Refused (r.code i) (r.place i)
unfolding refusal
row_refused r i e h =
    ap (λ (c : Bool). elim c [ true ↦ Refused (r.code (first r.test r.bound)) (r.place (first r.test r.bound)) | false ↦ Accepted ])
    (lt-ltb (first r.test r.bound) r.bound (omega arith))
    ∙ ap (λ (j : ℕ). Refused (r.code j) (r.place j)) e

pub row_first : (r : Row) (rs : List Row) (i : ℕ) → first r.test r.bound ≡ i → i < r.bound → refusal (r ∷ rs) ≡ Refused (r.code i) (r.place i)
row_first r rs i e h = refusal_append (r ∷ []) rs ∙ ap (λ (x : Refusal). or_later x (refusal rs)) (row_refused r i e h)

-- ---- codes
-- 0 of an acceptance
abbrev pub code_of : Refusal → ℕ
code_of Accepted = 0
code_of (Refused code place) = code

abbrev Coded : ℕ → ℕ → Refusal → Type 0
Coded lo hi Accepted = Unit {0}
Coded lo hi (Refused code place) = (lo ≤ code) × (code ≤ hi)

coded_row : (lo hi code bound : ℕ) (test : ℕ → Bool) (place : ℕ → ℕ) → lo ≤ code → code ≤ hi → Coded lo hi (refusal (record { bound = bound; test = test; code = λ i. code; place = place } ∷ []))
unfolding refusal
coded_row lo hi code bound test place h k = go (ltb (first test bound) bound)
  where
    go : (c : Bool) → Coded lo hi (elim c [ true ↦ Refused code (place (first test bound)) | false ↦ Accepted ])
    go true = (h, k)
    go false = tt

coded_later : (lo hi : ℕ) (x y : Refusal) → Coded lo hi x → Coded lo hi y → Coded lo hi (or_later x y)
coded_later lo hi Accepted y p q = q
coded_later lo hi (Refused code place) y p q = p

-- ---- rows of the front and of the tail, in turn
abbrev alone : Refusal → Refusal → Refusal → Refusal → Refusal
alone x3 x4 x5 x6 = or_later x3 (or_later x4 (or_later x5 x6))

abbrev in_turn : Refusal → Refusal → Refusal → Refusal → Refusal → Refusal → Refusal → Refusal
in_turn x3 y3 x4 y4 x5 y5 x6 = or_later x3 (or_later y3 (or_later x4 (or_later y4 (or_later x5 (or_later y5 x6)))))

turn_three : (x3 y3 x4 y4 x5 y5 x6 : Refusal) → Coded 4 4 x4 → Coded 5 5 x5 → Coded 6 7 x6 → code_of (alone x3 x4 x5 x6) ≡ 3 → in_turn x3 y3 x4 y4 x5 y5 x6 ≡ alone x3 x4 x5 x6
turn_three (Refused c p) y3 x4 y4 x5 y5 x6 k4 k5 k6 e = refl
turn_three Accepted y3 (Refused c p) y4 x5 y5 x6 k4 k5 k6 e = absurd (omega (arith, k4.0))
turn_three Accepted y3 Accepted y4 (Refused c p) y5 x6 k4 k5 k6 e = absurd (omega (arith, k5.0))
turn_three Accepted y3 Accepted y4 Accepted y5 (Refused c p) k4 k5 k6 e = absurd (omega (arith, k6.0))
turn_three Accepted y3 Accepted y4 Accepted y5 Accepted k4 k5 k6 e = absurd (omega arith)

turn_order : (x3 x4 y4 x5 y5 x6 : Refusal) (c p : ℕ) → Coded 3 3 x3 → (code_of (alone x3 x4 x5 x6) ≡ 3 → ⊥) → in_turn x3 (Refused c p) x4 y4 x5 y5 x6 ≡ Refused c p
turn_order (Refused d q) x4 y4 x5 y5 x6 c p k3 n = absurd (n (omega (arith, k3.0, k3.1)))
turn_order Accepted x4 y4 x5 y5 x6 c p k3 n = refl

turn_four : (x3 x4 y4 x5 y5 x6 : Refusal) → Coded 5 5 x5 → Coded 6 7 x6 → code_of (alone x3 x4 x5 x6) ≡ 4 → in_turn x3 Accepted x4 y4 x5 y5 x6 ≡ alone x3 x4 x5 x6
turn_four (Refused c p) x4 y4 x5 y5 x6 k5 k6 e = refl
turn_four Accepted (Refused c p) y4 x5 y5 x6 k5 k6 e = refl
turn_four Accepted Accepted y4 (Refused c p) y5 x6 k5 k6 e = absurd (omega (arith, k5.0))
turn_four Accepted Accepted y4 Accepted y5 (Refused c p) k5 k6 e = absurd (omega (arith, k6.0))
turn_four Accepted Accepted y4 Accepted y5 Accepted k5 k6 e = absurd (omega arith)

turn_limit : (x3 x4 x5 y5 x6 : Refusal) (c p : ℕ) → Coded 3 3 x3 → Coded 4 4 x4 → (code_of (alone x3 x4 x5 x6) ≡ 3 → ⊥) → (code_of (alone x3 x4 x5 x6) ≡ 4 → ⊥) → in_turn x3 Accepted x4 (Refused c p) x5 y5 x6 ≡ Refused c p
turn_limit (Refused d q) x4 x5 y5 x6 c p k3 k4 n m = absurd (n (omega (arith, k3.0, k3.1)))
turn_limit Accepted (Refused d q) x5 y5 x6 c p k3 k4 n m = absurd (m (omega (arith, k4.0, k4.1)))
turn_limit Accepted Accepted x5 y5 x6 c p k3 k4 n m = refl

turn_five : (x3 x4 x5 y5 x6 : Refusal) → Coded 6 7 x6 → code_of (alone x3 x4 x5 x6) ≡ 5 → in_turn x3 Accepted x4 Accepted x5 y5 x6 ≡ alone x3 x4 x5 x6
turn_five (Refused c p) x4 x5 y5 x6 k6 e = refl
turn_five Accepted (Refused c p) x5 y5 x6 k6 e = refl
turn_five Accepted Accepted (Refused c p) y5 x6 k6 e = refl
turn_five Accepted Accepted Accepted y5 (Refused c p) k6 e = absurd (omega (arith, k6.0))
turn_five Accepted Accepted Accepted y5 Accepted k6 e = absurd (omega arith)

turn_pattern : (x3 x4 x5 x6 : Refusal) (c p : ℕ) → Coded 3 3 x3 → Coded 4 4 x4 → Coded 5 5 x5
    → (code_of (alone x3 x4 x5 x6) ≡ 3 → ⊥) → (code_of (alone x3 x4 x5 x6) ≡ 4 → ⊥) → (code_of (alone x3 x4 x5 x6) ≡ 5 → ⊥)
    → in_turn x3 Accepted x4 Accepted x5 (Refused c p) x6 ≡ Refused c p
turn_pattern (Refused d q) x4 x5 x6 c p k3 k4 k5 n m o = absurd (n (omega (arith, k3.0, k3.1)))
turn_pattern Accepted (Refused d q) x5 x6 c p k3 k4 k5 n m o = absurd (m (omega (arith, k4.0, k4.1)))
turn_pattern Accepted Accepted (Refused d q) x6 c p k3 k4 k5 n m o = absurd (o (omega (arith, k5.0, k5.1)))
turn_pattern Accepted Accepted Accepted x6 c p k3 k4 k5 n m o = refl

-- ---- rows 1 and 2
pub refusal_one : (f : Format) (b : List ℕ) → row1 f b ≡ true → refusal (sheet_rows f b) ≡ Refused 1 0
unfolding sheet_rows refusal first
refusal_one f b e = rw e refl

pub refusal_two : (f : Format) (b : List ℕ) → row1 f b ≡ false → (p : ℕ) → row2 f.columns b ≡ p → p < count f.columns b → refusal (sheet_rows f b) ≡ Refused 2 p
unfolding row2
refusal_two f b one p e h =
    ap refusal (sheet_rows_are f b (front f.columns b) (tail f.columns b) refl refl)
    ∙ (refusal_skip (whole_row 1 0 (row1 f b)) _ (λ i k. one) ∙ row_first (line_row 2 (count f.columns b) (λ i. is_bad (line f.columns b i))) _ p e h)

-- ---- rows 1 to 7 of a sheet with the parts a and z
module _ (f : Format) (b a z : List ℕ) (at_front : front f.columns b ≡ a) (at_tail : tail f.columns b ≡ z)
    (one : row1 f b ≡ false) (two : Clear (count f.columns b) (λ i. is_bad (line f.columns b i))) where
  parts : b ≡ a ++ z
  parts = parts_are f.columns b ∙ ap₂ (λ (x y : List ℕ). x ++ y) at_front at_tail

  pub first_whole : Whole f.columns a
  first_whole = subst (Whole f.columns) at_front (front_whole f.columns b)

  pub front_row1 : row1 f a ≡ false
  unfolding row1
  front_row1 =
      rw (le-ltb (line_bytes f.columns * f.lines) (length a) (omega (arith, row1_small f b one, ap length parts, length-append a z)), eq-eqb (length a % line_bytes f.columns) 0 first_whole) refl

  pub front_good : Clear (count f.columns a) (λ i. is_bad (line f.columns a i))
  front_good i h =
      ap is_bad (sym (line_first f.columns a z first_whole i h) ∙ ap (λ (x : List ℕ). line f.columns x i) (sym parts))
      ∙ two i (omega (arith, ap (count f.columns) parts, count_parts f.columns a z first_whole))

  pub tail_good : Clear (count f.columns z) (λ i. is_bad (line f.columns z i))
  tail_good i h =
      ap is_bad (sym (line_second f.columns a z first_whole i) ∙ ap (λ (x : List ℕ). line f.columns x (count f.columns a + i)) (sym parts))
      ∙ two (count f.columns a + i) (omega (arith, ap (count f.columns) parts, count_parts f.columns a z first_whole))

  -- the refusal of the front alone, and that of the sheet
  abbrev pub front_refusal : Refusal
  front_refusal = refusal (old.sheet_rows f a)

  abbrev pub sheet_refusal : Refusal
  sheet_refusal = refusal (sheet_rows f b)

  abbrev m : ℕ
  m = count f.columns a

  abbrev k : ℕ
  k = count f.columns z

  abbrev ls : List Line
  ls = lines f.columns a

  abbrev x3 : Refusal
  x3 = refusal (line_row 3 (suc m) (row3 (raws f.columns a)) ∷ [])

  abbrev y3 : Refusal
  y3 = refusal (tail_row 3 m k (λ q. not (is pattern_line (raw f.columns z q))) ∷ [])

  abbrev x4 : Refusal
  x4 = refusal (line_row 4 m (row4 f ls) ∷ [])

  abbrev y4 : Refusal
  y4 = refusal (tail_row 4 m k (leb f.patterns) ∷ [])

  abbrev x5 : Refusal
  x5 = refusal (line_row 5 m (row5 ls) ∷ [])

  abbrev y5 : Refusal
  y5 = refusal (tail_row 5 m k (λ q. not (good_pattern (count_of name_line ls) (lines f.columns z) q)) ∷ [])

  abbrev last_rows : List Row
  last_rows = line_row 6 m (row6 ls) ∷ line_row 7 m (row7 ls) ∷ []

  one_more : (r : Row) (rs : List Row) (y : Refusal) → refusal rs ≡ y → refusal (r ∷ rs) ≡ or_later (refusal (r ∷ [])) y
  one_more r rs y e = refusal_append (r ∷ []) rs ∙ ap (or_later (refusal (r ∷ []))) e

  front_is : front_refusal ≡ alone x3 x4 x5 (refusal last_rows)
  unfolding old.sheet_rows
  front_is =
      refusal_skip (whole_row 1 0 (row1 f a)) _ (λ i h. front_row1)
      ∙ (refusal_skip (line_row 2 m (λ i. is_bad (line f.columns a i))) _ front_good ∙ one_more _ _ _ (one_more _ _ _ (one_more _ _ _ refl)))

  sheet_is : sheet_refusal ≡ in_turn x3 y3 x4 y4 x5 y5 (refusal last_rows)
  sheet_is =
      ap refusal (sheet_rows_are f b a z at_front at_tail)
      ∙ (refusal_skip (whole_row 1 0 (row1 f b)) _ (λ i h. one)
      ∙ (refusal_skip (line_row 2 (count f.columns b) (λ i. is_bad (line f.columns b i))) _ two
      ∙ one_more _ _ _ (one_more _ _ _ (one_more _ _ _ (one_more _ _ _ (one_more _ _ _ (one_more _ _ _ refl)))))))

  k3 : Coded 3 3 x3
  k3 = coded_row 3 3 3 _ _ _ (omega arith) (omega arith)

  k4 : Coded 4 4 x4
  k4 = coded_row 4 4 4 _ _ _ (omega arith) (omega arith)

  k5 : Coded 5 5 x5
  k5 = coded_row 5 5 5 _ _ _ (omega arith) (omega arith)

  k6 : Coded 6 7 (refusal last_rows)
  k6 =
      subst (Coded 6 7) (sym (refusal_append (line_row 6 m (row6 ls) ∷ []) (line_row 7 m (row7 ls) ∷ [])))
      (coded_later 6 7 (refusal (line_row 6 m (row6 ls) ∷ [])) (refusal (line_row 7 m (row7 ls) ∷ []))
      (coded_row 6 7 6 m (row6 ls) (λ i. i) (omega arith) (omega arith)) (coded_row 6 7 7 m (row7 ls) (λ i. i) (omega arith) (omega arith)))

  -- the front breaks row 3
  pub refusal_three : code_of front_refusal ≡ 3 → sheet_refusal ≡ front_refusal
  refusal_three e = sheet_is ∙ (turn_three x3 y3 x4 y4 x5 y5 (refusal last_rows) k4 k5 k6 (ap code_of (sym front_is) ∙ e) ∙ sym front_is)

  -- else a line of the tail is no Q line
  pub refusal_order : (code_of front_refusal ≡ 3 → ⊥) → (q : ℕ) → first (λ q. not (is pattern_line (raw f.columns z q))) k ≡ q → q < k → sheet_refusal ≡ Refused 3 (m + q)
  refusal_order n q e h =
      sheet_is
      ∙ (ap (λ (y : Refusal). in_turn x3 y x4 y4 x5 y5 (refusal last_rows)) (row_refused (tail_row 3 m k (λ q. not (is pattern_line (raw f.columns z q)))) q e h)
      ∙ turn_order x3 x4 y4 x5 y5 (refusal last_rows) 3 (m + q) k3 (λ c. n (ap code_of front_is ∙ c)))

  module _ (three : first (λ q. not (is pattern_line (raw f.columns z q))) k ≡ k) where
    after_three : sheet_refusal ≡ in_turn x3 Accepted x4 y4 x5 y5 (refusal last_rows)
    after_three = sheet_is ∙ ap (λ (y : Refusal). in_turn x3 y x4 y4 x5 y5 (refusal last_rows)) (row_passed (tail_row 3 m k (λ q. not (is pattern_line (raw f.columns z q)))) three)

    -- else the front breaks row 4
    pub refusal_four : code_of front_refusal ≡ 4 → sheet_refusal ≡ front_refusal
    refusal_four e = after_three ∙ (turn_four x3 x4 y4 x5 y5 (refusal last_rows) k5 k6 (ap code_of (sym front_is) ∙ e) ∙ sym front_is)

    -- else there are too many Q lines
    pub refusal_limit : (code_of front_refusal ≡ 3 → ⊥) → (code_of front_refusal ≡ 4 → ⊥) → f.patterns < k → sheet_refusal ≡ Refused 4 (m + f.patterns)
    refusal_limit n o h =
        after_three
        ∙ (ap (λ (y : Refusal). in_turn x3 Accepted x4 y x5 y5 (refusal last_rows)) (row_refused (tail_row 4 m k (leb f.patterns)) f.patterns (limit_place h) h)
        ∙ turn_limit x3 x4 x5 y5 (refusal last_rows) 4 (m + f.patterns) k3 k4 (λ c. n (ap code_of front_is ∙ c)) (λ c. o (ap code_of front_is ∙ c)))
      where
        limit_place : f.patterns < k → first (leb f.patterns) k ≡ f.patterns
        limit_place h =
            place_unique (leb f.patterns) k (first (leb f.patterns) k) f.patterns (first_place (leb f.patterns) k)
            (record { within = omega arith; holds = λ _. le-leb f.patterns f.patterns (omega arith); before = λ i j. lt-leb f.patterns i (omega arith) })

    module _ (few : k ≤ f.patterns) where
      after_four : sheet_refusal ≡ in_turn x3 Accepted x4 Accepted x5 y5 (refusal last_rows)
      after_four =
          after_three
          ∙ ap (λ (y : Refusal). in_turn x3 Accepted x4 y x5 y5 (refusal last_rows)) (row_passed (tail_row 4 m k (leb f.patterns)) (first_none (leb f.patterns) k (λ i j. lt-leb f.patterns i (omega arith))))

      -- else the front breaks row 5
      pub refusal_five : code_of front_refusal ≡ 5 → sheet_refusal ≡ front_refusal
      refusal_five e = after_four ∙ (turn_five x3 x4 x5 y5 (refusal last_rows) k6 (ap code_of (sym front_is) ∙ e) ∙ sym front_is)

      -- else a Q line breaks row 5
      pub refusal_pattern : (code_of front_refusal ≡ 3 → ⊥) → (code_of front_refusal ≡ 4 → ⊥) → (code_of front_refusal ≡ 5 → ⊥)
          → (q : ℕ) → first (λ q. not (good_pattern (count_of name_line ls) (lines f.columns z) q)) k ≡ q → q < k → sheet_refusal ≡ Refused 5 (m + q)
      refusal_pattern n o p q e h =
          after_four
          ∙ (ap (λ (y : Refusal). in_turn x3 Accepted x4 Accepted x5 y (refusal last_rows)) (row_refused (tail_row 5 m k (λ q. not (good_pattern (count_of name_line ls) (lines f.columns z) q))) q e h)
          ∙ turn_pattern x3 x4 x5 (refusal last_rows) 5 (m + q) k3 k4 k5 (λ c. n (ap code_of front_is ∙ c)) (λ c. o (ap code_of front_is ∙ c)) (λ c. p (ap code_of front_is ∙ c)))

      -- else the front alone decides
      pub refusal_rest : first (λ q. not (good_pattern (count_of name_line ls) (lines f.columns z) q)) k ≡ k → sheet_refusal ≡ front_refusal
      refusal_rest e =
          after_four
          ∙ (ap (λ (y : Refusal). in_turn x3 Accepted x4 Accepted x5 y (refusal last_rows)) (row_passed (tail_row 5 m k (λ q. not (good_pattern (count_of name_line ls) (lines f.columns z) q))) e)
          ∙ sym front_is)

  -- row 3 of the tail, by the letters of its lines
  pub tail_letters : first (λ q. not (is pattern_line (raw f.columns z q))) k ≡ first (λ q. not (is pattern_line (nth_line (lines f.columns z) q))) k
  tail_letters =
      first_congr (λ q. not (is pattern_line (raw f.columns z q))) (λ q. not (is pattern_line (nth_line (lines f.columns z) q))) k
      (λ q h. ap (λ (n : ℕ). not (eqb n pattern_line)) ((raw_rawly f.columns z q (tail_good q h)).letters ∙ ap letter (sym (get_or_lines f.columns z q))))

-- ---- a line of another letter that does not fit, or an end that does not: row 3 refuses with the tail as without it
module _ (f : Format) (b : List ℕ) (one : row1 f b ≡ false) (two : Clear (count f.columns b) (λ i. is_bad (line f.columns b i)))
    (p : ℕ) (broken : first (row3 (raws f.columns b)) (suc (count f.columns b)) ≡ p) (inside : p ≤ count f.columns b)
    (other : p < count f.columns b → is pattern_line (raw f.columns b p) ≡ false) where
  pub broken_new : refusal (sheet_rows f b) ≡ Refused 3 p
  broken_new =
      let whole : Whole f.columns b = row1_whole f b one in
      let r = broken_front f.columns b p broken whole inside other in
      ap refusal (sheet_rows_are f b (front f.columns b) (tail f.columns b) refl refl)
      ∙ (refusal_skip (whole_row 1 0 (row1 f b)) _ (λ i h. one)
      ∙ (refusal_skip (line_row 2 (count f.columns b) (λ i. is_bad (line f.columns b i))) _ two
      ∙ row_first (line_row 3 (suc (count f.columns (front f.columns b))) (row3 (raws f.columns (front f.columns b)))) _ p r.0 (omega (arith, r.1))))

  pub broken_old : refusal (old.sheet_rows f b) ≡ Refused 3 p
  unfolding old.sheet_rows
  broken_old =
      refusal_skip (whole_row 1 0 (row1 f b)) _ (λ i h. one)
      ∙ (refusal_skip (line_row 2 (count f.columns b) (λ i. is_bad (line f.columns b i))) _ two
      ∙ row_first (line_row 3 (suc (count f.columns b)) (row3 (raws f.columns b))) _ p broken (omega arith))
