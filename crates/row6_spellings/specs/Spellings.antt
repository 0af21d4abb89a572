-- The part of row 6 that is about spellings. Assumes nothing.
use Rattle.std.specs.Prelude.{◌≡◌, List, Bool, false, ◌&&◌, ℕ, suc, ◌+◌, take, drop}
use Rattle.sheet.specs.Format.{base, text_bytes}
use Rattle.sheet.specs.Line.{Line, text}
use Rattle.sheet.specs.Sheet.{first, count, line_at, lines, row1, row2}
use Rattle.meaning.specs.Program.{name_line, is}
use Rattle.meaning.specs.Rows.{some_below, nth_line, raws, row3, row4, row5, equal}

-- the bytes passed rows 1 to 5
pub record Ranged (b : List ℕ) : Type 0 where
  pub short : row1 base b ≡ false
  pub no_bad : row2 6 b ≡ count 6 b
  pub in_order : first (row3 (raws 6 b)) (suc (count 6 b)) ≡ suc (count 6 b)
  pub in_limits : first (row4 base (lines 6 b)) (count 6 b) ≡ count 6 b
  pub in_range : first (row5 (lines 6 b)) (count 6 b) ≡ count 6 b

-- ---- spellings
-- an N line has the spelling of an earlier one
unfoldable pub respelled : List Line → ℕ → Bool
respelled ls i =
    some_below (λ j. is name_line (nth_line ls j) && is name_line (nth_line ls i) && equal (text (nth_line ls j)) (text (nth_line ls i))) i

-- the part of line i where an N line has its text and the spaces after it
unfoldable pub text_at : ℕ → List ℕ → ℕ → List ℕ
text_at w b i = take (text_bytes w) (drop (1 + w) (line_at w b i))

-- an earlier line has the same bytes there
unfoldable pub spelled_before : ℕ → List ℕ → ℕ → Bool
spelled_before w b i = some_below (λ j. equal (text_at w b j) (text_at w b i)) i
