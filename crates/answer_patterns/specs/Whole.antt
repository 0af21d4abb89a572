-- The answer that the build owes to a sheet that may end in a pattern: code, place, rounds and what is written to each output, as
-- a function of the sheet's bytes and the two outputs' lengths (FORMAT, sections 4, 9 and 12). The sheet is cut where its Q
-- lines begin: what stands before them is held to the rows of `answer`, and the Q lines to rows of their own.
-- Assumes nothing.
use Rattle.std.specs.Prelude.{◌≡◌, List, [], ◌∷◌, ◌++◌, Bool, true, false, not, ◌+◌, ◌*◌, ◌≤◌, ℕ, suc, leb, ltb, length, take, drop}
use Rattle.sheet.specs.Format.{Format, line_bytes}
use Rattle.sheet.specs.Line.{Line, is_bad}
use Rattle.sheet.specs.Sheet.{first, count, line, lines, encodes, row1}
use Rattle.model.specs.Decl.{Decl}
use Rattle.model.specs.Run.{run, left_program}
use Rattle.model_patterns.specs.Pat.{rewritten}
use Rattle.meaning.specs.Program.{is, name_line, program}
use Rattle.meaning.specs.Rows.{count_of, raw, raws, row3, row4, row5, row6, row7}
use Rattle.meaning.specs.Output.{verdict_lines, left_lines}
use Rattle.meaning_patterns.specs.Patterns.{pattern_line, good_pattern, pattern, row13, rewritten_lines}
use Rattle.answer.specs.declared.Refusal.{Refusal}
use Rattle.answer.specs.declared.Refusal.TheVariants.{Accepted, Refused}
use Rattle.answer.specs.Answer.{Row, line_row, whole_row, row8, fault_at, row9_10, refusal, Answer, after, Given, Clear}

-- ---- where the Q lines begin
-- the number of the first line of letter Q, whatever row 2 says of it, or the count of lines
unfoldable pub front_count : ℕ → List ℕ → ℕ
front_count w b = first (λ i. is pattern_line (raw w b i)) (count w b)

-- the names, types and declarations
unfoldable pub front : ℕ → List ℕ → List ℕ
front w b = take (line_bytes w * front_count w b) b

-- the Q lines, and what may wrongly stand behind them
unfoldable pub tail : ℕ → List ℕ → List ℕ
tail w b = drop (line_bytes w * front_count w b) b

-- a row of the lines behind line m
abbrev pub tail_row : ℕ → ℕ → ℕ → (ℕ → Bool) → Row
tail_row code m bound test = record { bound = bound; test = test; code = λ i. code; place = λ i. m + i }

-- ---- the sheets
-- what follows the left declarations: the new pattern's lines and the freed names, nothing where there are no Q lines
unfoldable pub following : Format → List Line → List Line → List Line
following f ls [] = []
following f ls (q ∷ qs) = rewritten_lines (rewritten f.fuel (program ls) (pattern (q ∷ qs)))

-- ls are the lines before the Q lines qs, which stay
unfoldable pub verdict_sheet : Format → List Line → List Line → List ℕ
verdict_sheet f ls qs = encodes f.columns (verdict_lines ls (run f.fuel (program ls)).infos ++ qs)

unfoldable pub left_sheet : Format → List Line → List Line → List ℕ
left_sheet f ls qs = encodes f.columns (left_lines ls (left_program (run f.fuel (program ls))) ++ following f ls qs)

-- ---- the rows, in the order in which they are tested
unfoldable pub sheet_rows : Format → List ℕ → List Row
sheet_rows f b =
    let w : ℕ = f.columns in
    let a : List ℕ = front w b in
    let z : List ℕ = tail w b in
    let ls : List Line = lines w a in
    let m : ℕ = count w a in
    let k : ℕ = count w z in
    whole_row 1 0 (row1 f b)
    ∷ line_row 2 (count w b) (λ i. is_bad (line w b i))
    ∷ line_row 3 (suc m) (row3 (raws w a))
    ∷ tail_row 3 m k (λ q. not (is pattern_line (raw w z q)))
    ∷ line_row 4 m (row4 f ls)
    ∷ tail_row 4 m k (leb f.patterns)
    ∷ line_row 5 m (row5 ls)
    ∷ tail_row 5 m k (λ q. not (good_pattern (count_of name_line ls) (lines w z) q))
    ∷ line_row 6 m (row6 ls)
    ∷ line_row 7 m (row7 ls)
    ∷ []

unfoldable pub program_rows : Format → List ℕ → List Row
program_rows f b =
    let w : ℕ = f.columns in
    let ls : List Line = lines w (front w b) in
    let m : ℕ = count w (front w b) in
    let ds : List Decl = program ls in
    line_row 8 m (row8 ds ls)
    ∷ record { bound = m; test = row9_10 f ds ls; code = fault_at f ds ls; place = λ i. i }
    ∷ tail_row 13 m (count w (tail w b)) (row13 ds (lines w (tail w b)))
    ∷ []

-- every row that looks at no output
abbrev pub input_rows : Format → List ℕ → List Row
input_rows f b = sheet_rows f b ++ program_rows f b

-- rows 11 and 12: v and l are the outputs' lengths
unfoldable pub output_rows : Format → List ℕ → ℕ → ℕ → List Row
output_rows f b v l =
    let w : ℕ = f.columns in
    let needed : ℕ = length (left_sheet f (lines w (front w b)) (lines w (tail w b))) in
    whole_row 11 (length b) (ltb v (length b))
    ∷ whole_row 12 needed (ltb l needed)
    ∷ []

abbrev pub rows : Format → List ℕ → ℕ → ℕ → List Row
rows f b v l = input_rows f b ++ output_rows f b v l

-- ---- the answer
unfoldable pub answered : Format → List ℕ → Refusal → Answer
answered f b (Refused code place) = record { code = code; place = place; rounds = 0; verdict = []; left = [] }
answered f b Accepted =
    let ls : List Line = lines f.columns (front f.columns b) in
    let qs : List Line = lines f.columns (tail f.columns b) in
    record { code = 0; place = 0; rounds = (run f.fuel (program ls)).rounds; verdict = verdict_sheet f ls qs; left = left_sheet f ls qs }

unfoldable pub answer : Format → List ℕ → ℕ → ℕ → Answer
answer f b v l = answered f b (refusal (rows f b v l))

unfoldable pub called : Format → List ℕ → List ℕ → List ℕ → Given
called f sheet verdict left =
    let a : Answer = answer f sheet (length verdict) (length left) in
    record { code = a.code; place = a.place; rounds = a.rounds; verdict_output = after a.verdict verdict; left_output = after a.left left }
