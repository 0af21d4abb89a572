-- The two parts of a sheet that may end in a pattern: what stands before the first line of letter Q, and the rest.
-- Assumes nothing.
use Rattle.std.specs.Prelude.{◌≡◌, refl, List, ◌++◌, Bool, true, false, not, ℕ, suc, ◌+◌, ◌*◌, ◌-◌, ◌/◌, ◌%◌, ◌≤◌, ◌<◌, eqb, ltb, length, take, drop}
use Rattle.std.proofs.Math.Path.{ap, sym}
use Rattle.std.proofs.Common.{◌∙◌, subst, mul-add, mul-le-mul_left, le_trans, length-append, take-append-drop, eqb-true, ltb-true, ltb-false}
use native.Mathlib.Omega.{arith}
use Rattle.std.proofs.Math.Nat.{mul-div-le, add-mul-div_left, mul-div_right, mul-mod_right}
use Rattle.std.proofs.Math.Seq.{length-take-le, take_at, drop_at}
use Rattle.std.proofs.lemmas.Bool.{not-false}
use Rattle.sheet.specs.Format.{Format, line_bytes}
use Rattle.sheet.specs.Line.{decode}
use Rattle.sheet.specs.Sheet.{count, line, lines, row1}
use Rattle.sheet.proofs.ListLaws.{neither}
use Rattle.sheet.proofs.FirstLaws.{first_place, place_unique, first_le, first_holds, first_before}
use Rattle.sheet.proofs.SheetLaws.{line_at_left, line_at_right, line_right, length_lines, lines_append}
use Rattle.meaning.specs.Program.{is}
use Rattle.meaning.specs.Rows.{raw}
use Rattle.meaning_patterns.specs.Patterns.{pattern_line}
use Rattle.answer.specs.Answer.{Clear}
use Rattle.answer.specs.Cut.{Whole}
use Rattle.answer_laws.specs.Build.{whole_length}
use Rattle.answer_patterns.specs.Whole.{front_count, front, tail}

-- bytes that row 1 passes are whole lines
pub row1_whole : (f : Format) (b : List ℕ) → row1 f b ≡ false → Whole f.columns b
unfolding row1
row1_whole f b e =
    let r : ℕ = length b % line_bytes f.columns in
    eqb-true r 0 (not-false (eqb r 0) (neither (ltb (line_bytes f.columns * f.lines) (length b)) (not (eqb r 0)) e).1)

-- ---- letters
-- no line has the raw letter Q
abbrev pub NoPattern : ℕ → List ℕ → Type 0
NoPattern w b = Clear (count w b) (λ i. is pattern_line (raw w b i))

-- the first line, if there is one, has the raw letter Q
abbrev pub Begins : ℕ → List ℕ → Type 0
Begins w z = 0 < count w z → is pattern_line (raw w z 0) ≡ true

-- ---- whole lines and what follows them
module _ (w : ℕ) (a z : List ℕ) (whole : Whole w a) where
  pub count_parts : count w (a ++ z) ≡ count w a + count w z
  count_parts =
      let e : length (a ++ z) ≡ length z + line_bytes w * count w a = length-append a z ∙ omega (arith, whole_length w a whole) in
      ap (λ (n : ℕ). n / line_bytes w) e ∙ (add-mul-div_left (length z) (count w a) {y = line_bytes w} (omega arith) ∙ omega arith)

  inside : (i : ℕ) → i < count w a → line_bytes w * suc i ≤ length a
  inside i h = le_trans (mul-le-mul_left (line_bytes w) h) (mul-div-le (length a) (line_bytes w))

  pub line_first : (i : ℕ) → i < count w a → line w (a ++ z) i ≡ line w a i
  unfolding line
  line_first i h = ap (decode w) (line_at_left w a z i (inside i h))

  pub raw_first : (i : ℕ) → i < count w a → raw w (a ++ z) i ≡ raw w a i
  unfolding raw
  raw_first i h = rw (line_at_left w a z i (inside i h))

  pub line_second : (i : ℕ) → line w (a ++ z) (count w a + i) ≡ line w z i
  line_second i = line_right w a z (count w a) i (whole_length w a whole)

  pub raw_second : (i : ℕ) → raw w (a ++ z) (count w a + i) ≡ raw w z i
  unfolding raw
  raw_second i = rw (line_at_right w a z (count w a) i (whole_length w a whole))

  pub lines_parts : lines w (a ++ z) ≡ lines w a ++ lines w z
  lines_parts = lines_append w (count w a) a z (whole_length w a whole)

  -- what stands behind whole lines is whole where all is
  pub second_whole : Whole w (a ++ z) → Whole w z
  second_whole h =
      let e : length (a ++ z) ≡ line_bytes w * (count w a + count w z) = whole_length w (a ++ z) h ∙ ap (λ (n : ℕ). line_bytes w * n) count_parts in
      let k : length z ≡ line_bytes w * count w z = omega (arith, e, length-append a z, whole_length w a whole, mul-add (line_bytes w) (count w a) (count w z)) in
      ap (λ (n : ℕ). n % line_bytes w) k ∙ mul-mod_right (line_bytes w) (count w z)

-- ---- the parts of a sheet
module _ (w : ℕ) (b : List ℕ) where
  pub parts_are : b ≡ front w b ++ tail w b
  unfolding front tail
  parts_are = sym (take-append-drop (line_bytes w * front_count w b) b)

  pub front_le : front_count w b ≤ count w b
  unfolding front_count
  front_le = first_le (λ i. is pattern_line (raw w b i)) (count w b)

  pub front_length : length (front w b) ≡ line_bytes w * front_count w b
  unfolding front
  front_length = length-take-le (line_bytes w * front_count w b) b (le_trans (mul-le-mul_left (line_bytes w) front_le) (mul-div-le (length b) (line_bytes w)))

  pub front_whole : Whole w (front w b)
  front_whole = ap (λ (n : ℕ). n % line_bytes w) front_length ∙ mul-mod_right (line_bytes w) (front_count w b)

  pub count_front : count w (front w b) ≡ front_count w b
  count_front = ap (λ (n : ℕ). n / line_bytes w) front_length ∙ mul-div_right (front_count w b) {m = line_bytes w} (omega arith)

  pub tail_whole : Whole w b → Whole w (tail w b)
  tail_whole h = second_whole w (front w b) (tail w b) front_whole (subst (Whole w) parts_are h)

  pub counts_add : count w b ≡ count w (front w b) + count w (tail w b)
  counts_add = ap (count w) parts_are ∙ count_parts w (front w b) (tail w b) front_whole

  pub lines_add : lines w b ≡ lines w (front w b) ++ lines w (tail w b)
  lines_add = ap (lines w) parts_are ∙ lines_parts w (front w b) (tail w b) front_whole

  -- the first lines, and those behind them
  pub lines_front : lines w (front w b) ≡ take (front_count w b) (lines w b)
  lines_front =
      sym (take_at (lines w (front w b)) (lines w (tail w b)) (front_count w b) (length_lines w (front w b) ∙ count_front)) ∙ ap (take (front_count w b)) (sym lines_add)

  pub lines_tail : lines w (tail w b) ≡ drop (front_count w b) (lines w b)
  lines_tail =
      sym (drop_at (lines w (front w b)) (lines w (tail w b)) (front_count w b) (length_lines w (front w b) ∙ count_front)) ∙ ap (drop (front_count w b)) (sym lines_add)

  pub line_front : (i : ℕ) → i < front_count w b → line w (front w b) i ≡ line w b i
  line_front i h =
      sym (line_first w (front w b) (tail w b) front_whole i (omega (arith, count_front))) ∙ ap (λ (c : List ℕ). line w c i) (sym parts_are)

  pub raw_front : (i : ℕ) → i < front_count w b → raw w (front w b) i ≡ raw w b i
  raw_front i h =
      sym (raw_first w (front w b) (tail w b) front_whole i (omega (arith, count_front))) ∙ ap (λ (c : List ℕ). raw w c i) (sym parts_are)

  pub line_tail : (i : ℕ) → line w (tail w b) i ≡ line w b (front_count w b + i)
  line_tail i =
      sym (line_second w (front w b) (tail w b) front_whole i) ∙ (ap (λ (c : List ℕ). line w c (count w (front w b) + i)) (sym parts_are) ∙ ap (λ (n : ℕ). line w b (n + i)) count_front)

  pub raw_tail : (i : ℕ) → raw w (tail w b) i ≡ raw w b (front_count w b + i)
  raw_tail i =
      sym (raw_second w (front w b) (tail w b) front_whole i) ∙ (ap (λ (c : List ℕ). raw w c (count w (front w b) + i)) (sym parts_are) ∙ ap (λ (n : ℕ). raw w b (n + i)) count_front)

  pub front_none : NoPattern w (front w b)
  unfolding front_count
  front_none i h =
      let k : i < front_count w b = omega (arith, count_front) in
      ap (is pattern_line) (raw_front i k) ∙ first_before (λ j. is pattern_line (raw w b j)) (count w b) i k

  pub tail_begins : Begins w (tail w b)
  unfolding front_count
  tail_begins h =
      let k : front_count w b < count w b = omega (arith, counts_add, count_front) in
      let e : front_count w b + 0 ≡ front_count w b = omega arith in
      ap (is pattern_line) (raw_tail 0 ∙ ap (raw w b) e) ∙ first_holds (λ j. is pattern_line (raw w b j)) (count w b) k

-- ---- the parts of what is put together from such parts
module _ (w : ℕ) (a z : List ℕ) (whole : Whole w a) (none : NoPattern w a) (begins : Begins w z) where
  pub front_count_of : front_count w (a ++ z) ≡ count w a
  unfolding front_count
  front_count_of =
      place_unique (λ i. is pattern_line (raw w (a ++ z) i)) (count w (a ++ z)) (front_count w (a ++ z)) (count w a)
      (first_place (λ i. is pattern_line (raw w (a ++ z) i)) (count w (a ++ z)))
      (record {
        within = omega (arith, count_parts w a z whole);
        holds = λ h.
            let e : count w a + 0 ≡ count w a = omega arith in
            ap (λ (n : ℕ). is pattern_line (raw w (a ++ z) n)) (sym e) ∙ (ap (is pattern_line) (raw_second w a z whole 0) ∙ begins (omega (arith, count_parts w a z whole)));
        before = λ i h. ap (is pattern_line) (raw_first w a z whole i h) ∙ none i h;
      })

  at_seam : length a ≡ line_bytes w * front_count w (a ++ z)
  at_seam = whole_length w a whole ∙ ap (λ (n : ℕ). line_bytes w * n) (sym front_count_of)

  pub front_of : front w (a ++ z) ≡ a
  unfolding front
  front_of = take_at a z (line_bytes w * front_count w (a ++ z)) at_seam

  pub tail_of : tail w (a ++ z) ≡ z
  unfolding tail
  tail_of = drop_at a z (line_bytes w * front_count w (a ++ z)) at_seam

pub no_pattern_append : (w : ℕ) (a b : List ℕ) → Whole w a → NoPattern w a → NoPattern w b → NoPattern w (a ++ b)
no_pattern_append w a b h p q i k = go (ltb i (count w a)) refl
  where
    go : (c : Bool) → ltb i (count w a) ≡ c → is pattern_line (raw w (a ++ b) i) ≡ false
    go true e = let m : i < count w a = ltb-true i (count w a) e in ap (is pattern_line) (raw_first w a b h i m) ∙ p i m
    go false e =
        let m : count w a ≤ i = ltb-false i (count w a) e in
        let n : count w a + (i - count w a) ≡ i = omega arith in
        ap (λ (j : ℕ). is pattern_line (raw w (a ++ b) j)) (sym n)
        ∙ (ap (is pattern_line) (raw_second w a b h (i - count w a)) ∙ q (i - count w a) (omega (arith, count_parts w a b h)))
