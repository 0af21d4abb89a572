-- Row 3 and lines of letter Q: among declarations such a line does not fit, and the first line that does not fit is the first
-- of them or stands before it. Assumes nothing.
use Rattle.std.specs.Prelude.{◌≡◌, List, [], ◌∷◌, ◌++◌, true, false, ltb, length, take}
use Rattle.std.proofs.Math.Path.{refl}
use Rattle.std.proofs.Common.{ap, ap₂, sym, ◌∙◌, subst, arith, length-append, take-suc, eqb-true, ltb-true, ltb-false}
use Rattle.std.proofs.Math.Bool.{Bool}
use Prim.Native.Nat.{ℕ, zero, suc, ◌+◌, ◌≤◌, ◌<◌}
use Rattle.std.proofs.lemmas.List.{take-append-le}
use Rattle.sheet.specs.Line.{Line, bad, letter}
use Rattle.sheet.specs.Sheet.{first, count}
use Rattle.sheet.proofs.FirstLaws.{first_place, place_unique, first_holds, first_before}
use Rattle.sheet.proofs.ListLaws.{contrary}
use Rattle.model.specs.Decl.{table}
use Rattle.model_laws.specs.Lists.{table_cong}
use Rattle.meaning.specs.declared.Due.{Due}
use Rattle.meaning.specs.declared.Due.TheVariants.{Header, Within, Broken}
use Rattle.meaning.specs.Program.{is}
use Rattle.meaning.specs.Rows.{nth_line, raw, raws, due_header, due, due_after, is_broken, row3}
use Rattle.meaning_laws.specs.Rows.{row3_inside, due_after_append, length_raws, line_raws}
use Rattle.meaning_patterns.specs.Patterns.{pattern_line}
use Rattle.answer.specs.Answer.{Clear}
use Rattle.answer.specs.Cut.{Whole}
use Rattle.answer_patterns.specs.Whole.{front_count, front, tail}
use Rattle.answer_pattern_laws.specs.Parts.{NoPattern, count_parts, raw_first, raw_second, parts_are, front_whole, count_front}
use Rattle.answer_pattern_laws.specs.Plain.{plain_front}

-- ---- the raw lines of two parts
table_parts : {A : Type 0} (f : ℕ → A) (m n : ℕ) → table f (m + n) ≡ table f m ++ table (λ i. f (m + i)) n
unfolding table
table_parts f zero n = let e : zero + n ≡ n = omega arith in rw e (table_cong f (λ i. f (zero + i)) n (λ i h. let k : zero + i ≡ i = omega arith in rw k refl))
table_parts f (suc m) n =
    let e : suc m + n ≡ suc (m + n) = omega arith in
    rw e (ap (λ (r : _). f 0 ∷ r) (table_parts (λ i. f (suc i)) m n ∙ ap (λ (r : _). table (λ i. f (suc i)) m ++ r) (table_cong (λ i. f (suc (m + i))) (λ i. f (suc m + i)) n (λ i h. let k : suc m + i ≡ suc (m + i) = omega arith in rw k refl))))

pub raws_parts : (w : ℕ) (a z : List ℕ) → Whole w a → raws w (a ++ z) ≡ raws w a ++ raws w z
unfolding raws
raws_parts w a z h =
    ap (table (raw w (a ++ z))) (count_parts w a z h)
    ∙ (table_parts (raw w (a ++ z)) (count w a) (count w z)
    ∙ ap₂ (λ (x y : List Line). x ++ y) (table_cong (raw w (a ++ z)) (raw w a) (count w a) (raw_first w a z h)) (table_cong (λ i. raw w (a ++ z) (count w a + i)) (raw w z) (count w z) (λ i k. raw_second w a z h i)))

-- row 3 at a line looks at no line behind it
pub row3_prefix : (ls ms : List Line) (i : ℕ) → i < length ls → row3 (ls ++ ms) i ≡ row3 ls i
row3_prefix ls ms i h =
    row3_inside (ls ++ ms) i (rw length-append (omega arith)) ∙ (ap (λ (x : List Line). is_broken (due_after (Header 0) x)) (take-append-le (suc i) ls ms (omega arith)) ∙ sym (row3_inside ls i h))

-- ---- a line of letter Q does not fit
due_pattern : (q : Due) (l : Line) → letter l ≡ 81 → due q l ≡ Broken
unfolding due due_header
due_pattern (Header place) l e = rw e refl
due_pattern (Within (suc p) f c) l e = rw e refl
due_pattern (Within zero (suc f) c) l e = rw e refl
due_pattern (Within zero zero (suc c)) l e = rw e refl
due_pattern (Within zero zero zero) l e = rw e refl
due_pattern Broken l e = refl

pub row3_pattern : (w : ℕ) (b : List ℕ) (i : ℕ) → i < count w b → is pattern_line (raw w b i) ≡ true → row3 (raws w b) i ≡ true
unfolding due_after
row3_pattern w b i h e =
    let n : i < length (raws w b) = omega (arith, length_raws w b) in
    row3_inside (raws w b) i n
    ∙ (ap (λ (x : List Line). is_broken (due_after (Header 0) x)) (take-suc (raws w b) i bad n)
    ∙ (ap is_broken (due_after_append (Header 0) (take i (raws w b)) (nth_line (raws w b) i ∷ []))
    ∙ ap is_broken (due_pattern (due_after (Header 0) (take i (raws w b))) (nth_line (raws w b) i) (ap letter (line_raws w b i h) ∙ eqb-true (letter (raw w b i)) 81 e))))

-- the same the other way
unbroken : (w : ℕ) (b : List ℕ) (i : ℕ) → i < count w b → row3 (raws w b) i ≡ false → is pattern_line (raw w b i) ≡ false
unbroken w b i h e = go (is pattern_line (raw w b i)) refl
  where
    go : (c : Bool) → is pattern_line (raw w b i) ≡ c → c ≡ false
    go true t = contrary (row3 (raws w b) i) (row3_pattern w b i h t) e
    go false t = refl

-- Where row 3 applies nowhere, no line has the letter Q.
pub passed_plain : (w : ℕ) (b : List ℕ) → Clear (suc (count w b)) (row3 (raws w b)) → NoPattern w b
passed_plain w b c i h = unbroken w b i h (c i (omega arith))

-- ---- the first line that does not fit
module _ (w : ℕ) (b : List ℕ) (p : ℕ) (broken : first (row3 (raws w b)) (suc (count w b)) ≡ p) where
  fits_before : (i : ℕ) → i < p → i < count w b → is pattern_line (raw w b i) ≡ false
  fits_before i h k = unbroken w b i k (first_before (row3 (raws w b)) (suc (count w b)) i (omega arith))

  -- has the letter Q: there the Q lines begin
  pub first_broken : p < count w b → is pattern_line (raw w b p) ≡ true → front_count w b ≡ p
  unfolding front_count
  first_broken h t =
      place_unique (λ i. is pattern_line (raw w b i)) (count w b) (front_count w b) p (first_place (λ i. is pattern_line (raw w b i)) (count w b))
      (record { within = omega arith; holds = λ _. t; before = λ i k. fits_before i k (omega arith) })

  -- has another letter, or is the end: it is the first such line of the front as well
  pub broken_front : Whole w b → p ≤ count w b → (p < count w b → is pattern_line (raw w b p) ≡ false)
      → (first (row3 (raws w (front w b))) (suc (count w (front w b))) ≡ p) × (p ≤ count w (front w b))
  unfolding front_count
  broken_front whole h t = go (ltb p (count w b)) refl
    where
      P : ℕ → Bool
      P = row3 (raws w b)

      Q : ℕ → Bool
      Q = row3 (raws w (front w b))

      -- the Q lines begin behind it
      past : p < count w b → p < front_count w b
      past k = behind (ltb p (front_count w b)) refl
        where
          behind : (c : Bool) → ltb p (front_count w b) ≡ c → p < front_count w b
          behind true e = ltb-true p (front_count w b) e
          behind false e =
              let m : front_count w b ≤ p = ltb-false p (front_count w b) e in
              let q : is pattern_line (raw w b (front_count w b)) ≡ true = first_holds (λ i. is pattern_line (raw w b i)) (count w b) (omega arith) in
              contrary (is pattern_line (raw w b (front_count w b))) q (at_most (ltb (front_count w b) p) refl m)
            where
              at_most : (c : Bool) → ltb (front_count w b) p ≡ c → front_count w b ≤ p → is pattern_line (raw w b (front_count w b)) ≡ false
              at_most true d m = fits_before (front_count w b) (ltb-true (front_count w b) p d) (omega arith)
              at_most false d m = let z : front_count w b ≡ p = omega (arith, ltb-false (front_count w b) p d) in rw z (t k)

      same : (i : ℕ) → i < count w (front w b) → P i ≡ Q i
      same i k =
          ap (λ (x : List Line). row3 x i) (ap (raws w) (parts_are w b) ∙ raws_parts w (front w b) (tail w b) (front_whole w b))
          ∙ row3_prefix (raws w (front w b)) (raws w (tail w b)) i (omega (arith, length_raws w (front w b)))

      go : (c : Bool) → ltb p (count w b) ≡ c → (first Q (suc (count w (front w b))) ≡ p) × (p ≤ count w (front w b))
      go true e =
          let k : p < count w b = ltb-true p (count w b) e in
          let m : p < count w (front w b) = omega (arith, past k, count_front w b) in (
            place_unique Q (suc (count w (front w b))) (first Q (suc (count w (front w b)))) p (first_place Q (suc (count w (front w b))))
                (record {
                  within = omega arith;
                  holds = λ _. sym (same p m) ∙ subst (λ (j : ℕ). P j ≡ true) broken (first_holds P (suc (count w b)) (omega arith));
                  before = λ i j. sym (same i (omega arith)) ∙ first_before P (suc (count w b)) i (omega arith);
                }),
            omega arith,
          )
      go false e =
          let k : p ≡ count w b = omega (arith, ltb-false p (count w b) e) in
          let z : front w b ≡ b = plain_front w b whole (λ i j. fits_before i (omega arith) j) in
          rw z (broken, omega arith)
