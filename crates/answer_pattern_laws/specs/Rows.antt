-- From the rows one after the other to what a call gives, of a sheet with the parts a and z. Assumes nothing.
use Rattle.std.specs.Prelude.{◌≡◌, List, [], ◌∷◌, Bool, ℕ, ◌+◌, ◌≤◌, ◌<◌, ltb, length}
use Rattle.std.proofs.Math.Path.{refl}
use Rattle.std.proofs.Common.{ap, ◌∙◌, lt-ltb, le-ltb}
use Rattle.std.proofs.Math.Bool.{true, false}
use Rattle.sheet.specs.Format.{Format}
use Rattle.sheet.specs.Sheet.{first, count, lines}
use Rattle.model.specs.Run.{run}
use Rattle.meaning.specs.Program.{program}
use Rattle.meaning_patterns.specs.Patterns.{row13}
use Rattle.answer.specs.declared.Refusal.{Refusal}
use Rattle.answer.specs.declared.Refusal.TheVariants.{Accepted, Refused}
use Rattle.answer.specs.Answer.{line_row, whole_row, row8, row9_10, fault_at, refusal, after}
use Rattle.answer_laws.specs.Answer.{or_later, refusal_append}
use Rattle.answer_patterns.specs.Whole.{front, tail, tail_row, sheet_rows, program_rows, input_rows, output_rows, rows, verdict_sheet, left_sheet, answered, answer, called}
use Rattle.answer_pattern_laws.specs.Plain.{output_rows_of, program_rows_are, output_rows_are}
use Rattle.answer_pattern_laws.specs.Refusals.{row_passed, row_refused}

-- rows 8, and 9 and 10, and 13, by themselves
abbrev pub row8_alone : Format → List ℕ → Refusal
row8_alone f a = refusal (line_row 8 (count f.columns a) (row8 (program (lines f.columns a)) (lines f.columns a)) ∷ [])

abbrev pub faults_alone : Format → List ℕ → Refusal
faults_alone f a =
    refusal (record {
      bound = count f.columns a;
      test = row9_10 f (program (lines f.columns a)) (lines f.columns a);
      code = fault_at f (program (lines f.columns a)) (lines f.columns a);
      place = λ i. i;
    }
    ∷ [])

abbrev pub row13_alone : Format → List ℕ → List ℕ → Refusal
row13_alone f a z = refusal (tail_row 13 (count f.columns a) (count f.columns z) (row13 (program (lines f.columns a)) (lines f.columns z)) ∷ [])

-- the length of the left sheet
abbrev pub needed : Format → List ℕ → List ℕ → ℕ
needed f a z = length (left_sheet f (lines f.columns a) (lines f.columns z))

module _ (f : Format) (b a z : List ℕ) (at_front : front f.columns b ≡ a) (at_tail : tail f.columns b ≡ z) where
  pub program_is : refusal (program_rows f b) ≡ or_later (row8_alone f a) (or_later (faults_alone f a) (row13_alone f a z))
  program_is =
      ap refusal (program_rows_are f b a z at_front at_tail)
      ∙ (refusal_append (line_row 8 (count f.columns a) (row8 (program (lines f.columns a)) (lines f.columns a)) ∷ []) _
      ∙ ap (or_later (row8_alone f a))
      (refusal_append
      (record {
        bound = count f.columns a;
        test = row9_10 f (program (lines f.columns a)) (lines f.columns a);
        code = fault_at f (program (lines f.columns a)) (lines f.columns a);
        place = λ i. i;
      }
      ∷ [])
      (tail_row 13 (count f.columns a) (count f.columns z) (row13 (program (lines f.columns a)) (lines f.columns z)) ∷ [])))

  input_is : refusal (input_rows f b) ≡ or_later (refusal (sheet_rows f b)) (or_later (row8_alone f a) (or_later (faults_alone f a) (row13_alone f a z)))
  input_is = refusal_append (sheet_rows f b) (program_rows f b) ∙ ap (or_later (refusal (sheet_rows f b))) program_is

  -- where no row of the input applies
  pub input_accepted : refusal (sheet_rows f b) ≡ Accepted → row8_alone f a ≡ Accepted → faults_alone f a ≡ Accepted
      → first (row13 (program (lines f.columns a)) (lines f.columns z)) (count f.columns z) ≡ count f.columns z → refusal (input_rows f b) ≡ Accepted
  input_accepted s e g h =
      input_is ∙ rw (s, e, g) (row_passed (tail_row 13 (count f.columns a) (count f.columns z) (row13 (program (lines f.columns a)) (lines f.columns z))) h)

  module _ (v l : ℕ) where
    rows_are : refusal (rows f b v l) ≡ or_later (refusal (input_rows f b)) (refusal (output_rows f b v l))
    rows_are = refusal_append (input_rows f b) (output_rows f b v l)

    pub rows_input : (code place : ℕ) → refusal (input_rows f b) ≡ Refused code place → refusal (rows f b v l) ≡ Refused code place
    rows_input code place e = rows_are ∙ rw e

    pub rows_sheet : (code place : ℕ) → refusal (sheet_rows f b) ≡ Refused code place → refusal (rows f b v l) ≡ Refused code place
    rows_sheet code place e = rows_input code place (input_is ∙ rw e)

    module _ (sheet : refusal (sheet_rows f b) ≡ Accepted) where
      pub rows_eight : (code place : ℕ) → row8_alone f a ≡ Refused code place → refusal (rows f b v l) ≡ Refused code place
      rows_eight code place e = rows_input code place (input_is ∙ rw (sheet, e))

      module _ (eight : row8_alone f a ≡ Accepted) where
        pub rows_faults : (code place : ℕ) → faults_alone f a ≡ Refused code place → refusal (rows f b v l) ≡ Refused code place
        rows_faults code place e = rows_input code place (input_is ∙ rw (sheet, eight, e))

        pub rows_thirteen : faults_alone f a ≡ Accepted
            → (q : ℕ) → first (row13 (program (lines f.columns a)) (lines f.columns z)) (count f.columns z) ≡ q → q < count f.columns z
            → refusal (rows f b v l) ≡ Refused 13 (count f.columns a + q)
        rows_thirteen e q p h =
            rows_input 13 (count f.columns a + q)
            (input_is ∙ rw (sheet, eight, e) (row_refused (tail_row 13 (count f.columns a) (count f.columns z) (row13 (program (lines f.columns a)) (lines f.columns z))) q p h))

    module _ (input : refusal (input_rows f b) ≡ Accepted) where
      past_input : refusal (rows f b v l) ≡ refusal (output_rows_of f b (needed f a z) v l)
      past_input = rows_are ∙ (ap (λ (r : Refusal). or_later r (refusal (output_rows f b v l))) input ∙ ap refusal (output_rows_are f b a z at_front at_tail v l))

      output_is : refusal (output_rows_of f b (needed f a z) v l)
          ≡ or_later (elim (ltb v (length b)) [ true ↦ Refused 11 (length b) | false ↦ Accepted ]) (or_later (elim (ltb l (needed f a z)) [ true ↦ Refused 12 (needed f a z) | false ↦ Accepted ]) Accepted)
      unfolding refusal first
      output_is = go (ltb v (length b)) (ltb l (needed f a z))
        where
          go : (x y : Bool) → refusal (whole_row 11 (length b) x ∷ whole_row 12 (needed f a z) y ∷ [])
              ≡ or_later (elim x [ true ↦ Refused 11 (length b) | false ↦ Accepted ]) (or_later (elim y [ true ↦ Refused 12 (needed f a z) | false ↦ Accepted ]) Accepted)
          go true y = refl
          go false true = refl
          go false false = refl

      pub rows_eleven : v < length b → refusal (rows f b v l) ≡ Refused 11 (length b)
      rows_eleven h = past_input ∙ (output_is ∙ rw (lt-ltb v (length b) h))

      pub rows_twelve : length b ≤ v → l < needed f a z → refusal (rows f b v l) ≡ Refused 12 (needed f a z)
      rows_twelve h k = past_input ∙ (output_is ∙ rw (le-ltb v (length b) h, lt-ltb l (needed f a z) k))

      pub rows_none : length b ≤ v → needed f a z ≤ l → refusal (rows f b v l) ≡ Accepted
      rows_none h k = past_input ∙ (output_is ∙ rw (le-ltb v (length b) h, le-ltb l (needed f a z) k))

  -- ---- the answer, and what a call gives
  pub answer_refused : (v l code place : ℕ) → refusal (rows f b v l) ≡ Refused code place → answer f b v l ≡ record { code = code; place = place; rounds = 0; verdict = []; left = [] }
  unfolding answer answered
  answer_refused v l code place e = rw e refl

  pub answer_accepted : (v l : ℕ) → refusal (rows f b v l) ≡ Accepted
      → answer f b v l
      ≡ record {
        code = 0;
        place = 0;
        rounds = (run f.fuel (program (lines f.columns a))).rounds;
        verdict = verdict_sheet f (lines f.columns a) (lines f.columns z);
        left = left_sheet f (lines f.columns a) (lines f.columns z);
      }
  unfolding answer answered
  answer_accepted v l e = rw (e, at_front, at_tail) refl

  pub called_refused : (v l : List ℕ) (code place : ℕ) → refusal (rows f b (length v) (length l)) ≡ Refused code place
      → called f b v l ≡ record { code = code; place = place; rounds = 0; verdict_output = v; left_output = l }
  unfolding called
  called_refused v l code place e = rw (answer_refused (length v) (length l) code place e) refl

  pub called_accepted : (v l : List ℕ) → refusal (rows f b (length v) (length l)) ≡ Accepted
      → called f b v l
      ≡ record {
        code = 0;
        place = 0;
        rounds = (run f.fuel (program (lines f.columns a))).rounds;
        verdict_output = after (verdict_sheet f (lines f.columns a) (lines f.columns z)) v;
        left_output = after (left_sheet f (lines f.columns a) (lines f.columns z)) l;
      }
  unfolding called
  called_accepted v l e = rw (answer_accepted (length v) (length l) e) refl
