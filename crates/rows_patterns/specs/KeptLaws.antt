-- Lines of Q lines and of N lines, and the refusal test by test. Assumes nothing.
use Rattle.std.specs.Prelude.{◌≡◌, refl, List, ◌∷◌, ◌++◌, map, Bool, true, false, not, ℕ, zero, suc, ◌+◌, ◌*◌, ◌-◌, ◌≤◌, ◌<◌, ltb, length, take, drop, get_or}
use Rattle.std.proofs.Common.{ap, ap₂, sym, ◌∙◌, arith, take_all, take_at, length-take-le, eqb-true, ne_eqb, ltb-true, ltb-false}
use borrow.Rule.Slice.PartMut.{mid_of, post_of, put_mid}
use Rattle.std.proofs.lemmas.Bool.{not-false}
use Rattle.number_columns.specs.Column.{pick}
use Rattle.sheet.specs.Format.{base}
use Rattle.sheet.specs.Line.{Line, letter, is_bad}
use Rattle.sheet.specs.Sheet.{first, count, line_at, line, lines_from, lines, row1, row2}
use Rattle.sheet.proofs.FirstLaws.{first_le, first_none, none_first}
use Rattle.sheet.proofs.SheetLaws.{get_or_lines, length_lines}
use Rattle.model.specs.Decl.{table}
use Rattle.meaning.specs.Program.{is, name_line}
use Rattle.meaning.specs.Rows.{count_of, count_before, raw}
use Rattle.meaning_laws.specs.Rows.{raw_rawly}
use Rattle.meaning_patterns.specs.Patterns.{pattern_line}
use Rattle.answer.specs.declared.Refusal.{Refusal}
use Rattle.answer.specs.declared.Refusal.TheVariants.{Accepted, Refused}
use Rattle.answer.specs.Answer.{refusal}
use Rattle.answer.specs.Answer as old
use Rattle.answer_laws.specs.Build.{row1_small}
use Rattle.answer_patterns.specs.Whole as whole
use Rattle.answer_pattern_laws.specs.Parts.{count_parts, line_first, line_second, front_of, tail_of}
use Rattle.answer_pattern_laws.specs.Parted.{Parted}
use Rattle.answer_pattern_laws.specs.Refusals.{code_of}
use Rattle.answer_pattern_laws.specs.Refusals as refusals
use Rattle.walk_cells.specs.Cells.{lines_of, bare, cells}
use Rattle.walk_decode.specs.DecodeLaws.{decoded_lines}
use Rattle.pattern_rows.specs.Links as links
use Rattle.row3_order.specs.StepLaws.{count_before_step}
use Rattle.rows_patterns.specs.Kept.{NoBad, Patterned, Ranged, Kept}

-- ---- lines that are not bad
pub raw_letter : (b : List ℕ) (i : ℕ) → letter (raw 6 b i) ≡ get_or (line_at 6 b i) 0 0
unfolding raw
raw_letter b i = refl

pub line_letter : (b : List ℕ) (i : ℕ) → NoBad b → i < count 6 b → letter (line 6 b i) ≡ get_or (line_at 6 b i) 0 0
line_letter b i good h = sym (raw_rawly 6 b i (good i h)).letters ∙ raw_letter b i

pub row2_none : (b : List ℕ) → NoBad b → row2 6 b ≡ count 6 b
unfolding row2
row2_none b good = first_none (λ i. is_bad (line 6 b i)) (count 6 b) good

-- a row's place that is no line
pub none_at : (p : ℕ → Bool) (n r : ℕ) → r ≡ first p n → n ≤ r → first p n ≡ n
none_at p n r e h = omega (arith, first_le p n)

-- ---- N lines
-- the count with one line more
pub names_more : (b : List ℕ) (i names : ℕ) → i < count 6 b → names ≡ count_before name_line (lines 6 b) i
    → pick (is name_line (line 6 b i)) (names + 1) names ≡ count_before name_line (lines 6 b) (i + 1)
names_more b i names h e =
    let k : suc i ≡ i + 1 = omega arith in
    ap (λ (n : ℕ). pick (is name_line (line 6 b i)) (n + 1) n) e
    ∙ (ap (λ (l : Line). pick (is name_line l) (count_before name_line (lines 6 b) i + 1) (count_before name_line (lines 6 b) i)) (sym (get_or_lines 6 b i))
    ∙ (sym (count_before_step (lines 6 b) i (omega (arith, length_lines 6 b)) name_line) ∙ ap (count_before name_line (lines 6 b)) k))

pub names_le : (b : List ℕ) (i names : ℕ) → names ≤ i → pick (is name_line (line 6 b i)) (names + 1) names ≤ i + 1
names_le b i names h = go (is name_line (line 6 b i))
  where
    go : (c : Bool) → pick c (names + 1) names ≤ i + 1
    go true = omega arith
    go false = omega arith

pub names_all : (b : List ℕ) (i : ℕ) → count 6 b ≤ i → count_before name_line (lines 6 b) i ≡ count_of name_line (lines 6 b)
names_all b i h = ap (count_of name_line) (take_all i (lines 6 b) (omega (arith, length_lines 6 b)))

-- ---- Q lines have no text
raw_bare : (b : List ℕ) (i : ℕ) → bare (raw 6 b i) ≡ raw 6 b i
unfolding raw table
raw_bare b i = refl

pattern_bare : (b : List ℕ) (i : ℕ) → Patterned b → i < count 6 b → bare (line 6 b i) ≡ line 6 b i
pattern_bare b i p h =
    let y = raw_rawly 6 b i (p.no_bad i h) in
    let x : letter (raw 6 b i) ≡ pattern_line =
    eqb-true (letter (raw 6 b i)) pattern_line (not-false (is pattern_line (raw 6 b i)) (none_first (λ j. not (is pattern_line (raw 6 b j))) (count 6 b) p.letters i h)) in
    let e : raw 6 b i ≡ line 6 b i = y.lines (ne_eqb (letter (line 6 b i)) name_line (λ k. absurd (omega (arith, y.letters)))) in
    rw (sym e) (raw_bare b i)

bare_from : (b : List ℕ) (i n : ℕ) → ((j : ℕ) → j < i + n → bare (line 6 b j) ≡ line 6 b j) → map bare (lines_from 6 b i n) ≡ lines_from 6 b i n
unfolding lines_from
bare_from b i zero h = refl
bare_from b i (suc n) h = ap₂ (λ (l : Line) (ls : List Line). l ∷ ls) (h i (omega arith)) (bare_from b (suc i) n (λ j k. h j (omega arith)))

pub bare_patterns : (b : List ℕ) → Patterned b → map bare (lines 6 b) ≡ lines 6 b
unfolding lines
bare_patterns b p = bare_from b 0 (count 6 b) (λ j k. pattern_bare b j p (omega arith))

-- ---- the cells of Q lines, put into the first of cells q
module _ (z q x : List ℕ) (e : ℕ) (p : Patterned z) (n : e ≡ count 6 z * 6) (room : e ≤ length q)
    (put : x ≡ cells (lines 6 z) ++ drop (6 * count 6 z) (mid_of 0 (e - 0) q)) where
  decoded : (length x ≡ 6 * count 6 z) × (lines_of x ≡ lines 6 z)
  decoded =
      let d = decoded_lines 6 z (mid_of 0 (e - 0) q) x (length-take-le (e - 0) q (omega arith) ∙ omega arith) put in
      (d.0, d.1 ∙ bare_patterns z p)

  lent_lines : lines_of (take (e - 0) (drop 0 (put_mid 0 (e - 0) q x))) ≡ lines 6 z
  lent_lines = ap lines_of (take_at x (post_of 0 (e - 0) q) (e - 0) (omega (arith, decoded.0))) ∙ decoded.1

  put_lines : lines_of (take (6 * count 6 z) (put_mid 0 (e - 0) q x)) ≡ lines 6 z
  put_lines = ap lines_of (take_at x (post_of 0 (e - 0) q) (6 * count 6 z) decoded.0) ∙ decoded.1

  pub ranged : (names r : ℕ) → (let ls : List Line = lines_of (take (e - 0) (drop 0 (put_mid 0 (e - 0) q x))) in r ≡ first (links.row5 names ls) (length ls))
      → Ranged names z (put_mid 0 (e - 0) q x) r
  ranged names r h =
      record { place = h ∙ (ap (λ (ls : List Line). first (links.row5 names ls) (length ls)) lent_lines ∙ ap (first (links.row5 names (lines 6 z))) (length_lines 6 z)); lines_are = put_lines }

-- ---- the cells that an answer leaves
never : {A : Type 0} {r : Refusal} (code : ℕ) → code_of r ≡ suc code → r ≡ Accepted → A
never code h e = absurd (omega (arith, sym h ∙ ap code_of e))

pub kept_refused : (a z q₀ q : List ℕ) (r : Refusal) (code : ℕ) → length q ≡ length q₀ → code_of r ≡ suc code → Kept a z q₀ q r
kept_refused a z q₀ q r code n h = record { same = n; accepts = never code h }

-- ---- the tests in turn
module _ (a z : List ℕ) (p : Parted 6 a z) (one : row1 base (a ++ z) ≡ false) (good : NoBad a) where
  no_bad : NoBad (a ++ z)
  no_bad i h = go (ltb i (count 6 a)) refl
    where
      go : (c : Bool) → ltb i (count 6 a) ≡ c → is_bad (line 6 (a ++ z) i) ≡ false
      go true e = let k : i < count 6 a = ltb-true i (count 6 a) e in ap is_bad (line_first 6 a z p.front_whole i k) ∙ good i k
      go false e =
          let k : count 6 a ≤ i = ltb-false i (count 6 a) e in
          let n : count 6 a + (i - count 6 a) ≡ i = omega arith in
          ap (λ (j : ℕ). is_bad (line 6 (a ++ z) j)) (sym n)
          ∙ (ap is_bad (line_second 6 a z p.front_whole (i - count 6 a)) ∙ p.no_bad (i - count 6 a) (omega (arith, count_parts 6 a z p.front_whole)))

  at_front : whole.front 6 (a ++ z) ≡ a
  at_front = front_of 6 a z p.front_whole p.plain p.begins

  at_tail : whole.tail 6 (a ++ z) ≡ z
  at_tail = tail_of 6 a z p.front_whole p.plain p.begins

  -- places are line numbers
  pub places : count 6 a + count 6 z ≤ 2048
  places = omega (arith, row1_small base (a ++ z) one, count_parts 6 a z p.front_whole)

  module _ (front : Refusal) (is_front : front ≡ refusal (old.sheet_rows base a)) where
    coded : (code : ℕ) → code_of front ≡ code → code_of (refusal (old.sheet_rows base a)) ≡ code
    coded code h = ap code_of (sym is_front) ∙ h

    pub at_three : code_of front ≡ 3 → front ≡ refusal (whole.sheet_rows base (a ++ z))
    at_three h = is_front ∙ sym (refusals.refusal_three base (a ++ z) a z at_front at_tail one no_bad (coded 3 h))

    module _ (not_three : code_of front ≡ 3 → ⊥) where
      none_three : code_of (refusal (old.sheet_rows base a)) ≡ 3 → ⊥
      none_three h = not_three (ap code_of is_front ∙ h)

      pub at_order : (i : ℕ) → i ≡ first (λ i. not (is pattern_line (raw 6 z i))) (count 6 z) → i < count 6 z
          → Refused 3 (count 6 a + i) ≡ refusal (whole.sheet_rows base (a ++ z))
      at_order i e h = sym (refusals.refusal_order base (a ++ z) a z at_front at_tail one no_bad none_three i (sym e) h)

      module _ (three : first (λ i. not (is pattern_line (raw 6 z i))) (count 6 z) ≡ count 6 z) where
        pub at_four : code_of front ≡ 4 → front ≡ refusal (whole.sheet_rows base (a ++ z))
        at_four h = is_front ∙ sym (refusals.refusal_four base (a ++ z) a z at_front at_tail one no_bad three (coded 4 h))

        module _ (not_four : code_of front ≡ 4 → ⊥) where
          none_four : code_of (refusal (old.sheet_rows base a)) ≡ 4 → ⊥
          none_four h = not_four (ap code_of is_front ∙ h)

          pub at_limit : 256 < count 6 z → Refused 4 (count 6 a + 256) ≡ refusal (whole.sheet_rows base (a ++ z))
          at_limit h = sym (refusals.refusal_limit base (a ++ z) a z at_front at_tail one no_bad three none_three none_four h)

          module _ (few : count 6 z ≤ 256) where
            pub at_five : code_of front ≡ 5 → front ≡ refusal (whole.sheet_rows base (a ++ z))
            at_five h = is_front ∙ sym (refusals.refusal_five base (a ++ z) a z at_front at_tail one no_bad three few (coded 5 h))

            pub patterned : Patterned z
            patterned = record { no_bad = p.no_bad; letters = three; few = few }

            pub at_pattern : (code_of front ≡ 5 → ⊥) → (i : ℕ) → i ≡ first (links.row5 (count_of name_line (lines 6 a)) (lines 6 z)) (count 6 z) → i < count 6 z
                → Refused 5 (count 6 a + i) ≡ refusal (whole.sheet_rows base (a ++ z))
            at_pattern n i e h =
                sym (refusals.refusal_pattern base (a ++ z) a z at_front at_tail one no_bad three few none_three none_four (λ c. n (ap code_of is_front ∙ c)) i (sym e) h)

            pub at_rest : (names i : ℕ) (q₀ q : List ℕ) → names ≡ count_of name_line (lines 6 a) → Ranged names z q i → count 6 z ≤ i → length q ≡ length q₀
                → (front ≡ refusal (whole.sheet_rows base (a ++ z))) × Kept a z q₀ q front
            at_rest names i q₀ q m y h n =
                let f : first (links.row5 names (lines 6 z)) (count 6 z) ≡ count 6 z = omega (arith, y.place, first_le (links.row5 names (lines 6 z)) (count 6 z)) in
                let e : first (links.row5 (count_of name_line (lines 6 a)) (lines 6 z)) (count 6 z) ≡ count 6 z =
                ap (λ (n : ℕ). first (links.row5 n (lines 6 z)) (count 6 z)) (sym m) ∙ f in (
                  is_front ∙ sym (refusals.refusal_rest base (a ++ z) a z at_front at_tail one no_bad three few e),
                  record { same = n; accepts = λ _. record { few = few; lines_are = y.lines_are; in_range = e } },
                )
