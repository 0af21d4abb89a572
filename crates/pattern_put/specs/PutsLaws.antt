-- What one line's cells give, and the lines written so far. Assumes nothing.
use Rattle.std.specs.Prelude.{◌≡◌, refl, List, [], ◌∷◌, ◌++◌, ℕ, zero, suc, ◌+◌, ◌*◌, ◌/◌, ◌≤◌, ◌<◌, length, get_or, take, drop}
use Rattle.std.proofs.Common.{ap, sym, ◌∙◌, append-nil, arith, length-append, drop_of_length-le, take-suc, take_all}
use Rattle.sheet.specs.Format.{line_bytes}
use Rattle.sheet.specs.Line.{Line, row, bad, encode, letter, number}
use Rattle.sheet.proofs.LineLaws.{row_length}
use Rattle.sheet.specs.Sheet.{encodes}
use Rattle.sheet.proofs.SheetLaws.{encodes_append, encodes_one}
use Rattle.sheet.specs.Output.{put_at}
use Rattle.sheet.proofs.OutputLaws.{put_more}
use Rattle.walk_cells.specs.Cells.{lines_of}
use Rattle.walk_cells.specs.CellsLaws.{length_lines_of}
use Rattle.pattern_put.specs.Puts.{nth_line}

-- a line of cells is its letter and its numbers
pub line_parts : (q : List ℕ) (i : ℕ) → i < length q / 6
    → nth_line q i ≡ row (letter (nth_line q i)) (number (nth_line q i) 0 ∷ number (nth_line q i) 1 ∷ number (nth_line q i) 2 ∷ number (nth_line q i) 3 ∷ number (nth_line q i) 4 ∷ [])
unfolding lines_of
line_parts [] i h = absurd (omega arith)
line_parts (x ∷ []) i h = absurd (omega arith)
line_parts (x ∷ a ∷ []) i h = absurd (omega arith)
line_parts (x ∷ a ∷ b ∷ []) i h = absurd (omega arith)
line_parts (x ∷ a ∷ b ∷ c ∷ []) i h = absurd (omega arith)
line_parts (x ∷ a ∷ b ∷ c ∷ d ∷ []) i h = absurd (omega arith)
line_parts (x ∷ a ∷ b ∷ c ∷ d ∷ e ∷ t) zero h = refl
line_parts (x ∷ a ∷ b ∷ c ∷ d ∷ e ∷ t) (suc i) h = line_parts t i (omega arith)

line_length : (q : List ℕ) (i : ℕ) → i < length q / 6 → length (encode 6 (nth_line q i)) ≡ 32
line_length q i h = ap (λ (l : Line). length (encode 6 l)) (line_parts q i h) ∙ row_length 6 (letter (nth_line q i)) _ refl

-- the first i lines, and one more
pub lines_more : (q : List ℕ) (i : ℕ) → i < length q / 6 → take (suc i) (lines_of q) ≡ take i (lines_of q) ++ (nth_line q i ∷ [])
lines_more q i h = take-suc (lines_of q) i bad (omega (arith, length_lines_of q))

pub lines_length : (q : List ℕ) (i : ℕ) → i ≤ length q / 6 → length (encodes 6 (take i (lines_of q))) ≡ 32 * i
unfolding encodes
lines_length q zero h = refl
lines_length q (suc i) h =
    ap (λ (ls : List Line). length (encodes 6 ls)) (lines_more q i h)
    ∙ ap length (encodes_append 6 (take i (lines_of q)) (nth_line q i ∷ []))
    ∙ ap (λ (x : List ℕ). length (encodes 6 (take i (lines_of q)) ++ x)) (encodes_one 6 (nth_line q i))
    ∙ length-append (encodes 6 (take i (lines_of q))) (encode 6 (nth_line q i))
    ∙ omega (arith, lines_length q i (omega (arith, h)), line_length q i h)

-- a line more is written
pub put_next : (q out d : List ℕ) (i : ℕ) → i < length q / 6 → out ≡ encodes 6 (take i (lines_of q)) ++ drop (32 * i) d
    → put_at 6 out i (encode 6 (nth_line q i)) ≡ encodes 6 (take (i + 1) (lines_of q)) ++ drop (32 * (i + 1)) d
put_next q out d i h e =
    let k : i + 1 ≡ suc i = omega arith in
    rw k (put_more 6 i out (encodes 6 (take i (lines_of q))) (encode 6 (nth_line q i)) d e (lines_length q i (omega (arith, h)))
    ∙ ap (λ (x : List ℕ). x ++ drop (32 * suc i) d)
    (ap (λ (x : List ℕ). encodes 6 (take i (lines_of q)) ++ x) (sym (encodes_one 6 (nth_line q i)))
    ∙ sym (encodes_append 6 (take i (lines_of q)) (nth_line q i ∷ []))
    ∙ ap (encodes 6) (sym (lines_more q i h))))

-- all lines are written
pub put_all : (q out d : List ℕ) (n : ℕ) → n ≡ length q / 6 → length d ≡ 32 * n → out ≡ encodes 6 (take n (lines_of q)) ++ drop (32 * n) d → out ≡ encodes 6 (lines_of q)
put_all q out d n h k e =
    e
    ∙ ap (λ (x : List ℕ). encodes 6 (take n (lines_of q)) ++ x) (drop_of_length-le d {i = 32 * n} (omega (arith, k)))
    ∙ append-nil (encodes 6 (take n (lines_of q)))
    ∙ ap (encodes 6) (take_all n (lines_of q) (omega (arith, h, length_lines_of q)))
