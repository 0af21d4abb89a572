-- A sheet without lines of letter Q: the answer is the one to declarations alone. Assumes nothing.
use Rattle.std.specs.Prelude.{◌≡◌, Bool, not, ℕ, suc, ◌*◌, ◌%◌, leb, ltb, length}
use Rattle.std.proofs.Math.Path.{refl, ap}
use Rattle.std.proofs.Common.{ap₂, sym, ◌∙◌, arith, eqb-true}
use mathlib.Core.List.{List, [], ◌∷◌, ◌++◌, append-nil}
use Rattle.std.proofs.Math.Bool.{true, false, or-true}
use Rattle.std.proofs.Math.Nat.{zero-div}
use Rattle.std.proofs.Math.Dec.{eqb}
use Rattle.sheet.specs.Format.{Format, line_bytes}
use Rattle.sheet.specs.Line.{Line, is_bad}
use Rattle.sheet.specs.Sheet.{first, count, line, lines_from, lines, encodes, row1}
use Rattle.model.specs.Run.{run, left_program}
use Rattle.meaning.specs.Program.{is, name_line, program}
use Rattle.meaning.specs.Rows.{count_of, raw, raws, row3, row4, row5, row6, row7}
use Rattle.meaning.specs.Output.{verdict_lines, left_lines}
use Rattle.meaning_patterns.specs.Patterns.{pattern_line, good_pattern, row13}
use Rattle.answer.specs.declared.Refusal.{Refusal}
use Rattle.answer.specs.declared.Refusal.TheVariants.{Accepted, Refused}
use Rattle.answer.specs.Answer.{Row, line_row, whole_row, row8, fault_at, row9_10, refusal}
use Rattle.answer.specs.Answer as old
use Rattle.answer.specs.Cut.{Whole}
use Rattle.answer_laws.specs.Answer.{or_later, refusal_append}
use Rattle.answer_patterns.specs.Whole.{front, tail, tail_row, following, verdict_sheet, left_sheet, sheet_rows, program_rows, output_rows, rows, answered, answer, called}
use Rattle.answer_pattern_laws.specs.Parts.{NoPattern, Begins, front_of, tail_of}

-- ---- the rows by the parts
abbrev pub sheet_rows_of : Format → List ℕ → List ℕ → List ℕ → List Row
sheet_rows_of f b a z =
    whole_row 1 0 (row1 f b)
    ∷ line_row 2 (count f.columns b) (λ i. is_bad (line f.columns b i))
    ∷ line_row 3 (suc (count f.columns a)) (row3 (raws f.columns a))
    ∷ tail_row 3 (count f.columns a) (count f.columns z) (λ q. not (is pattern_line (raw f.columns z q)))
    ∷ line_row 4 (count f.columns a) (row4 f (lines f.columns a))
    ∷ tail_row 4 (count f.columns a) (count f.columns z) (leb f.patterns)
    ∷ line_row 5 (count f.columns a) (row5 (lines f.columns a))
    ∷ tail_row 5 (count f.columns a) (count f.columns z) (λ q. not (good_pattern (count_of name_line (lines f.columns a)) (lines f.columns z) q))
    ∷ line_row 6 (count f.columns a) (row6 (lines f.columns a))
    ∷ line_row 7 (count f.columns a) (row7 (lines f.columns a))
    ∷ []

abbrev pub program_rows_of : Format → List ℕ → List ℕ → List Row
program_rows_of f a z =
    line_row 8 (count f.columns a) (row8 (program (lines f.columns a)) (lines f.columns a))
    ∷ record {
      bound = count f.columns a;
      test = row9_10 f (program (lines f.columns a)) (lines f.columns a);
      code = fault_at f (program (lines f.columns a)) (lines f.columns a);
      place = λ i. i;
    }
    ∷ tail_row 13 (count f.columns a) (count f.columns z) (row13 (program (lines f.columns a)) (lines f.columns z))
    ∷ []

abbrev pub output_rows_of : Format → List ℕ → ℕ → ℕ → ℕ → List Row
output_rows_of f b needed v l = whole_row 11 (length b) (ltb v (length b)) ∷ whole_row 12 needed (ltb l needed) ∷ []

module _ (f : Format) (b a z : List ℕ) (at_front : front f.columns b ≡ a) (at_tail : tail f.columns b ≡ z) where
  pub sheet_rows_are : sheet_rows f b ≡ sheet_rows_of f b a z
  unfolding sheet_rows
  sheet_rows_are = rw (← at_front, ← at_tail) refl

  pub program_rows_are : program_rows f b ≡ program_rows_of f a z
  unfolding program_rows
  program_rows_are = rw (← at_front, ← at_tail) refl

  pub output_rows_are : (v l : ℕ) → output_rows f b v l ≡ output_rows_of f b (length (left_sheet f (lines f.columns a) (lines f.columns z))) v l
  unfolding output_rows
  output_rows_are v l = rw (← at_front, ← at_tail) refl

-- ---- without Q lines
lines_none : (w : ℕ) → lines w [] ≡ []
unfolding lines lines_from
lines_none w = rw (zero-div (line_bytes w))

count_none : (w : ℕ) → count w [] ≡ 0
count_none w = zero-div (line_bytes w)

pub verdict_sheet_plain : (f : Format) (ls : List Line) → verdict_sheet f ls [] ≡ old.verdict_sheet f ls
unfolding verdict_sheet old.verdict_sheet
verdict_sheet_plain f ls = ap (encodes f.columns) (append-nil (verdict_lines ls (run f.fuel (program ls)).infos))

pub left_sheet_plain : (f : Format) (ls : List Line) → left_sheet f ls [] ≡ old.left_sheet f ls
unfolding left_sheet old.left_sheet following
left_sheet_plain f ls = ap (encodes f.columns) (append-nil (left_lines ls (left_program (run f.fuel (program ls)))))

module _ (w : ℕ) (b : List ℕ) (whole : Whole w b) (none : NoPattern w b) where
  begins_none : Begins w []
  begins_none h = absurd (omega (arith, count_none w))

  pub plain_front : front w b ≡ b
  plain_front = ap (front w) (sym (append-nil b)) ∙ front_of w b [] whole none begins_none

  pub plain_tail : tail w b ≡ []
  plain_tail = ap (tail w) (sym (append-nil b)) ∙ tail_of w b [] whole none begins_none

module _ (f : Format) (b : List ℕ) where
  -- of whole lines
  module _ (whole : Whole f.columns b) (none : NoPattern f.columns b) where
    at_front : front f.columns b ≡ b
    at_front = plain_front f.columns b whole none

    at_tail : tail f.columns b ≡ []
    at_tail = plain_tail f.columns b whole none

    pub sheet_refusal_plain : refusal (sheet_rows f b) ≡ refusal (old.sheet_rows f b)
    unfolding old.sheet_rows refusal first
    sheet_refusal_plain = ap refusal (sheet_rows_are f b b [] at_front at_tail) ∙ rw (count_none f.columns) refl

    pub program_refusal_plain : refusal (program_rows f b) ≡ refusal (old.program_rows f b)
    unfolding old.program_rows refusal first
    program_refusal_plain = ap refusal (program_rows_are f b b [] at_front at_tail) ∙ rw (count_none f.columns) refl

    pub output_rows_plain : (v l : ℕ) → output_rows f b v l ≡ old.output_rows f b v l
    unfolding old.output_rows
    output_rows_plain v l = output_rows_are f b b [] at_front at_tail v l ∙ rw (lines_none f.columns, left_sheet_plain f (lines f.columns b)) refl

    whole_rows : (v l : ℕ) → refusal (rows f b v l) ≡ refusal (old.rows f b v l)
    whole_rows v l =
        refusal_append (sheet_rows f b ++ program_rows f b) (output_rows f b v l)
        ∙ (ap₂ or_later (refusal_append (sheet_rows f b) (program_rows f b) ∙ (ap₂ or_later sheet_refusal_plain program_refusal_plain ∙ sym (refusal_append (old.sheet_rows f b) (old.program_rows f b)))) (ap refusal (output_rows_plain v l))
        ∙ sym (refusal_append (old.sheet_rows f b ++ old.program_rows f b) (old.output_rows f b v l)))

    whole_answered : (r : Refusal) → answered f b r ≡ old.answered f b r
    unfolding answered old.answered
    whole_answered (Refused code place) = refl
    whole_answered Accepted = rw (at_front, at_tail, lines_none f.columns, verdict_sheet_plain f (lines f.columns b), left_sheet_plain f (lines f.columns b)) refl

    whole_answer : (v l : ℕ) → answer f b v l ≡ old.answer f b v l
    unfolding answer old.answer
    whole_answer v l = ap (answered f b) (whole_rows v l) ∙ whole_answered (refusal (old.rows f b v l))

  -- of bytes that row 1 refuses
  module _ (first_row : row1 f b ≡ true) where
    refused_new : (v l : ℕ) → refusal (rows f b v l) ≡ Refused 1 0
    unfolding sheet_rows refusal first
    refused_new v l = rw first_row refl

    refused_old : (v l : ℕ) → refusal (old.rows f b v l) ≡ Refused 1 0
    unfolding old.sheet_rows refusal first
    refused_old v l = rw first_row refl

    refused_answer : (v l : ℕ) → answer f b v l ≡ old.answer f b v l
    unfolding answer old.answer answered old.answered
    refused_answer v l = rw (refused_new v l, refused_old v l) refl

  pub answer_plain : (v l : ℕ) → NoPattern f.columns b → answer f b v l ≡ old.answer f b v l
  unfolding row1
  answer_plain v l none = go (eqb (length b % line_bytes f.columns) 0) refl
    where
      go : (c : Bool) → eqb (length b % line_bytes f.columns) 0 ≡ c → answer f b v l ≡ old.answer f b v l
      go true e = whole_answer (eqb-true (length b % line_bytes f.columns) 0 e) none v l
      go false e = refused_answer (rw e (or-true (ltb (line_bytes f.columns * f.lines) (length b)))) v l

  pub called_plain : (v l : List ℕ) → NoPattern f.columns b → called f b v l ≡ old.called f b v l
  unfolding called old.called
  called_plain v l none = rw (answer_plain (length v) (length l) none) refl
