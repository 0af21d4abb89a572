-- A sheet: a run of lines, the name leaf (FORMAT, section 1), and rows 1 and 2 (section 5).
-- Assumes nothing.
use Rattle.std.specs.Prelude.{List, [], ◌∷◌, ◌++◌, Bool, true, false, ◌||◌, not, ℕ, zero, suc, ◌*◌, ◌/◌, ◌%◌, eqb, ltb, length, take, drop}
use Rattle.number_columns.specs.Column.{pick}
use Rattle.sheet.specs.Format.{Format, line_bytes}
use Rattle.sheet.specs.Line.{Line, named, row, bad, decode, encode, is_bad}

-- The place that every row gives: the first number below n at which the test holds, or n where there is none.
unfoldable pub first : (ℕ → Bool) → ℕ → ℕ
first p zero = zero
first p (suc n) = let f = first p n in elim (ltb f n) [ true ↦ f | false ↦ elim (p n) [ true ↦ n | false ↦ suc n ] ]

-- the bytes of line i
unfoldable pub line_at : ℕ → List ℕ → ℕ → List ℕ
line_at w b i = take (line_bytes w) (drop (line_bytes w * i) b)

-- how many whole lines there are
abbrev pub count : ℕ → List ℕ → ℕ
count w b = length b / line_bytes w

-- line i, bad past the end
unfoldable pub line : ℕ → List ℕ → ℕ → Line
line w b i = decode w (line_at w b i)

-- n lines from line i on, and all of them
unfoldable pub lines_from : ℕ → List ℕ → ℕ → ℕ → List Line
lines_from w b i zero = []
lines_from w b i (suc n) = line w b i ∷ lines_from w b (suc i) n

unfoldable pub lines : ℕ → List ℕ → List Line
lines w b = lines_from w b 0 (count w b)

unfoldable pub encodes : ℕ → List Line → List ℕ
encodes w [] = []
encodes w (l ∷ ls) = encode w l ++ encodes w ls

-- Row 1: too many bytes, or not whole lines.
unfoldable pub row1 : Format → List ℕ → Bool
row1 f b = ltb (line_bytes f.columns * f.lines) (length b) || not (eqb (length b % line_bytes f.columns) 0)

-- Row 2: the first bad line, or the count of lines.
unfoldable pub row2 : ℕ → List ℕ → ℕ
row2 w b = first (λ i. is_bad (line w b i)) (count w b)

-- The spelling of name n: the text of line n if that is an N line of number n, else nothing.
abbrev pub text_of : ℕ → Line → List ℕ
text_of n (named m t) = pick (eqb m n) t []
text_of n (row x ns) = []
text_of n bad = []

unfoldable pub name_text : ℕ → List ℕ → ℕ → List ℕ
name_text w b n = text_of n (line w b n)
