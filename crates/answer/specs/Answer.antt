-- The answer that the build owes: code, place, rounds and what is written to each output, as a
-- function of the sheet's bytes and the two outputs' lengths (FORMAT, sections 4 and 9).
-- Assumes nothing.
use Rattle.std.specs.Prelude.{◌≡◌, List, [], ◌∷◌, ◌++◌, Bool, true, false, not, ◌+◌, ◌≤◌, ◌<◌, ℕ, suc, eqb, ltb, length, drop}
use Rattle.sheet.specs.Format.{Format}
use Rattle.sheet.specs.Line.{Line, is_bad}
use Rattle.sheet.proofs.ListLaws.{Every}
use Rattle.sheet.specs.Sheet.{first, count, line, lines, encodes, row1}
use Rattle.answer.specs.declared.Refusal.{Refusal}
use Rattle.answer.specs.declared.Refusal.TheVariants.{Accepted, Refused}
use Rattle.model.specs.Decl.{Decl}
use Rattle.model.specs.Run.{run, left_program, layouts_of, returns, decl_fault}
use Rattle.meaning.specs.Program.{is_head, program}
use Rattle.meaning.specs.Rows.{nth_line, heads_before, raws, row3, row4, row5, row6, row7}
use Rattle.meaning.specs.Output.{verdict_lines, left_lines}

-- One or more rows (FORMAT, sections 5 and 7) that share a pass: the first number below the bound at
-- which the test holds gives the code and the place.
pub record Row : Type 0 where
  pub bound : ℕ
  pub test : ℕ → Bool
  pub code : ℕ → ℕ
  pub place : ℕ → ℕ

-- a row whose place is a line
abbrev pub line_row : ℕ → ℕ → (ℕ → Bool) → Row
line_row code bound test = record { bound = bound; test = test; code = λ i. code; place = λ i. i }

-- a row of the whole sheet
abbrev pub whole_row : ℕ → ℕ → Bool → Row
whole_row code place test = record { bound = 1; test = λ i. test; code = λ i. code; place = λ i. place }

-- ---- the rows of an accepted program
-- line i begins a declaration of which the test holds
abbrev pub at_head : List Line → (ℕ → Bool) → ℕ → Bool
at_head ls p i = elim (is_head (nth_line ls i)) [ true ↦ p (heads_before ls i) | false ↦ false ]

unfoldable pub row8 : List Decl → List Line → ℕ → Bool
row8 ds ls = at_head ls (returns ds (layouts_of ds))

-- Rows 9 and 10 share one pass: the code of the fault that the declaration at line i meets first.
unfoldable pub fault_at : Format → List Decl → List Line → ℕ → ℕ
fault_at f ds ls i = decl_fault f.nodes f.fuel ds (layouts_of ds) (heads_before ls i)

unfoldable pub row9_10 : Format → List Decl → List Line → ℕ → Bool
row9_10 f ds ls = at_head ls (λ k. not (eqb (decl_fault f.nodes f.fuel ds (layouts_of ds) k) 0))

-- ---- the sheets
unfoldable pub verdict_sheet : Format → List Line → List ℕ
verdict_sheet f ls = encodes f.columns (verdict_lines ls (run f.fuel (program ls)).infos)

unfoldable pub left_sheet : Format → List Line → List ℕ
left_sheet f ls = encodes f.columns (left_lines ls (left_program (run f.fuel (program ls))))

-- ---- the rows, in the order in which they are tested
-- rows 1 to 7: the sheet itself
unfoldable pub sheet_rows : Format → List ℕ → List Row
sheet_rows f b =
    let ls : List Line = lines f.columns b in
    let n : ℕ = count f.columns b in
    whole_row 1 0 (row1 f b)
    ∷ line_row 2 n (λ i. is_bad (line f.columns b i))
    ∷ line_row 3 (suc n) (row3 (raws f.columns b))
    ∷ line_row 4 n (row4 f ls)
    ∷ line_row 5 n (row5 ls)
    ∷ line_row 6 n (row6 ls)
    ∷ line_row 7 n (row7 ls)
    ∷ []

-- rows 8 to 10: the program that it declares
unfoldable pub program_rows : Format → List ℕ → List Row
program_rows f b =
    let ls : List Line = lines f.columns b in
    let n : ℕ = count f.columns b in
    let ds : List Decl = program ls in
    line_row 8 n (row8 ds ls)
    ∷ record { bound = n; test = row9_10 f ds ls; code = fault_at f ds ls; place = λ i. i }
    ∷ []

-- every row that looks at no output
abbrev pub input_rows : Format → List ℕ → List Row
input_rows f b = sheet_rows f b ++ program_rows f b

-- rows 11 and 12: v and l are the outputs' lengths
unfoldable pub output_rows : Format → List ℕ → ℕ → ℕ → List Row
output_rows f b v l =
    let needed : ℕ = length (left_sheet f (lines f.columns b)) in
    whole_row 11 (length b) (ltb v (length b))
    ∷ whole_row 12 needed (ltb l needed)
    ∷ []

abbrev pub rows : Format → List ℕ → ℕ → ℕ → List Row
rows f b v l = input_rows f b ++ output_rows f b v l

-- the code and place of the first row that applies, or that none does
unfoldable pub refusal : List Row → Refusal
refusal [] = Accepted
refusal (r ∷ rs) =
    let i : ℕ = first r.test r.bound in
    elim (ltb i r.bound) [ true ↦ Refused (r.code i) (r.place i) | false ↦ refusal rs ]

-- whether the sheet is refused, whatever the outputs are
abbrev pub input_refusal : Format → List ℕ → Refusal
input_refusal f b = refusal (input_rows f b)

-- ---- the answer
pub record Answer : Type 0 where
  pub code : ℕ
  pub place : ℕ
  pub rounds : ℕ
  pub verdict : List ℕ
  pub left : List ℕ

unfoldable pub answered : Format → List ℕ → Refusal → Answer
answered f b (Refused code place) = record { code = code; place = place; rounds = 0; verdict = []; left = [] }
answered f b Accepted =
    let ls : List Line = lines f.columns b in
    record { code = 0; place = 0; rounds = (run f.fuel (program ls)).rounds; verdict = verdict_sheet f ls; left = left_sheet f ls }

unfoldable pub answer : Format → List ℕ → ℕ → ℕ → Answer
answer f b v l = answered f b (refusal (rows f b v l))

-- an output after the call: what is written, and then its bytes as they were
abbrev pub after : List ℕ → List ℕ → List ℕ
after written old = written ++ drop (length written) old

-- What a call gives: code, place, rounds, and all that both outputs hold afterwards. It is given the sheet
-- and the outputs as they are. The contract of the build is one equation with this.
pub record Given : Type 0 where
  pub code : ℕ
  pub place : ℕ
  pub rounds : ℕ
  pub verdict_output : List ℕ
  pub left_output : List ℕ

unfoldable pub called : Format → List ℕ → List ℕ → List ℕ → Given
called f sheet verdict left =
    let a : Answer = answer f sheet (length verdict) (length left) in
    record { code = a.code; place = a.place; rounds = a.rounds; verdict_output = after a.verdict verdict; left_output = after a.left left }

-- ---- what is claimed of it
-- the test of a row holds nowhere below its bound
abbrev pub Clear : ℕ → (ℕ → Bool) → Type 0
Clear n p = (i : ℕ) → i < n → p i ≡ false

-- no row applies
pub record Passes (f : Format) (b : List ℕ) (v l : ℕ) : Type 0 where
  pub pass1 : row1 f b ≡ false
  pub pass2 : Clear (count f.columns b) (λ i. is_bad (line f.columns b i))
  pub pass3 : Clear (suc (count f.columns b)) (row3 (raws f.columns b))
  pub pass4 : Clear (count f.columns b) (row4 f (lines f.columns b))
  pub pass5 : Clear (count f.columns b) (row5 (lines f.columns b))
  pub pass6 : Clear (count f.columns b) (row6 (lines f.columns b))
  pub pass7 : Clear (count f.columns b) (row7 (lines f.columns b))
  pub pass8 : Clear (count f.columns b) (row8 (program (lines f.columns b)) (lines f.columns b))
  pub pass9_10 : Clear (count f.columns b) (row9_10 f (program (lines f.columns b)) (lines f.columns b))
  pub pass11 : length b ≤ v
  pub pass12 : length (left_sheet f (lines f.columns b)) ≤ l

-- The rows refuse with this code and place: of the rows one applies at the place that it gives, at no
-- earlier number, and no row before it applies at all.
pub record Refuses (rs : List Row) (code place : ℕ) : Type 0 where
  pub earlier : List Row
  pub row : Row
  pub later : List Row
  pub split : rs ≡ earlier ++ (row ∷ later)
  pub passed : Every (λ r. Clear r.bound r.test) earlier
  pub at : ℕ
  pub inside : at < row.bound
  pub applies : row.test at ≡ true
  pub first_of : (j : ℕ) → j < at → row.test j ≡ false
  pub code_of : code ≡ row.code at
  pub place_of : place ≡ row.place at
