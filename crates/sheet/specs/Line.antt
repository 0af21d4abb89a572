-- One line of a sheet whose numbers have w columns (FORMAT, section 1), its decoding and its
-- encoding. Assumes nothing.
use Rattle.std.specs.Prelude.{Option, Some, None, List, [], ◌∷◌, ◌++◌, Bool, true, false, ◌&&◌, ℕ, ◌+◌, ◌*◌, ◌-◌, eqb, leb, length, take, drop, get_or, replicate}
use Rattle.number_columns.specs.Column.{pick, read, write}
pub use Rattle.number_columns.specs.Column.{is_value}
use Rattle.sheet.specs.Format.{text_bytes}

-- An N line: its number, and its text without the spaces after it. Any other line: its letter and
-- five numbers. Or what no line may be.
pub data Line : Type 0 where
  named : ℕ → List ℕ → Line
  row : ℕ → List ℕ → Line
  bad : Line

-- ---- names
-- a byte of a name's text
abbrev pub graphic : ℕ → Bool
graphic b = leb 33 b && leb b 126

-- the text up to its first byte that is not such
unfoldable pub spelling : List ℕ → List ℕ
spelling [] = []
spelling (b ∷ t) = pick (graphic b) (b ∷ spelling t) []

unfoldable pub spaces : List ℕ → Bool
spaces [] = true
spaces (b ∷ t) = eqb b 32 && spaces t

-- at least one byte of text, and then spaces alone
unfoldable pub proper : List ℕ → Bool
proper t = leb 1 (length (spelling t)) && spaces (drop (length (spelling t)) t)

-- the text with spaces after it, n bytes
unfoldable pub padded : ℕ → List ℕ → List ℕ
padded n t = t ++ replicate (n - length t) 32

-- ---- numbers
-- the letters of lines with five numbers: A, C, D, F, I, P, Q, V, Y
unfoldable pub lettered : ℕ → Bool
lettered x = pick (eqb x 65) true (pick (eqb x 67) true (pick (eqb x 68) true (pick (eqb x 70) true
    (pick (eqb x 73) true (pick (eqb x 80) true (pick (eqb x 81) true (pick (eqb x 86) true (eqb x 89))))))))

-- the columns of number k
unfoldable pub cell : ℕ → List ℕ → ℕ → Option ℕ
cell w b k = read (take w (drop (1 + k * w) b))

abbrev pub value : Option ℕ → ℕ
value (Some n) = n
value None = 0

-- ---- the line
-- Row 2 for one line: bad is the answer for a letter, a number, a name's text or a last byte that is not right.
unfoldable pub decode_named : ℕ → List ℕ → Line
decode_named w b =
    let t = take (text_bytes w) (drop (1 + w) b) in
    pick (is_value (cell w b 0) && proper t) (named (value (cell w b 0)) (spelling t)) bad

unfoldable pub decode_row : ℕ → List ℕ → Line
decode_row w b =
    pick (is_value (cell w b 0) && is_value (cell w b 1) && is_value (cell w b 2) && is_value (cell w b 3) && is_value (cell w b 4))
    (row (get_or b 0 0) (value (cell w b 0) ∷ value (cell w b 1) ∷ value (cell w b 2) ∷ value (cell w b 3) ∷ value (cell w b 4) ∷ []))
    bad

unfoldable pub decode : ℕ → List ℕ → Line
decode w b =
    pick (eqb (get_or b (5 * w + 1) 0) 10)
    (pick (eqb (get_or b 0 0) 78) (decode_named w b) (pick (lettered (get_or b 0 0)) (decode_row w b) bad))
    bad

unfoldable pub writes : ℕ → List ℕ → List ℕ
writes w [] = []
writes w (n ∷ ns) = write w n ++ writes w ns

unfoldable pub encode : ℕ → Line → List ℕ
encode w (named n t) = 78 ∷ write w n ++ padded (text_bytes w) t ++ (10 ∷ [])
encode w (row x ns) = x ∷ writes w ns ++ (10 ∷ [])
encode w bad = []

-- ---- a line's parts, by which the rows read it
abbrev pub letter : Line → ℕ
letter (named n t) = 78
letter (row x ns) = x
letter bad = 0

abbrev pub number : Line → ℕ → ℕ
number (named n t) k = get_or (n ∷ []) k 0
number (row x ns) k = get_or ns k 0
number bad k = 0

abbrev pub text : Line → List ℕ
text (named n t) = t
text (row x ns) = []
text bad = []

abbrev pub is_bad : Line → Bool
is_bad (named n t) = false
is_bad (row x ns) = false
is_bad bad = true
