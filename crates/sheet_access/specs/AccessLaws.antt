-- The text of a line is a part of it; and on a sheet that row 2 passed, what is read by columns is what the lines hold.
-- For any width.
-- Assumes nothing.
use Rattle.std.specs.Prelude.{◌≡◌, Some, Ok, List, ℕ, ◌+◌, ◌≤◌, ◌<◌, length, take, drop}
use Rattle.std.proofs.Common.{sym, ◌∙◌}
use borrow.Author.Tests.{lt-ltb}
use Rattle.sheet.specs.Format.{text_bytes}
use Rattle.sheet.specs.Line.{decode, letter, number, text}
use Rattle.sheet.specs.Sheet.{count, line_at, line, row2}
use Rattle.sheet.proofs.LineLaws.{letter_decode, number_decode}
use Rattle.sheet.proofs.SheetLaws.{line_good, text_part, text_le}
use Rattle.sheet_lines.specs.Shape.{shape_of, text_in}
use Rattle.sheet_lines.specs.ShapeLaws.{text_in_shape}
use Rattle.sheet_access.specs.Access.{letter_at, cell_at, text_at}

-- ---- a text of k bytes, as the shape of the line l gives it
module _ (w k : ℕ) (l : List ℕ) (h : k ≡ text_in (shape_of (decode w l))) where
  length_of_text : k ≡ length (text (decode w l))
  length_of_text = h ∙ text_in_shape (decode w l)

  pub text_fits : k ≤ text_bytes w
  text_fits = rw length_of_text (text_le w l)

  pub text_lent : (b : List ℕ) (i : ℕ) → l ≡ line_at w b i → take k (drop (1 + w) l) ≡ text_at w b i
  unfolding text_at line
  text_lent b i e = rw (← e, length_of_text) (sym (text_part w l))

-- ---- a sheet that row 2 passed
module _ (w : ℕ) (b : List ℕ) (good : row2 w b ≡ count w b) where
  pub letter_at_good : (i : ℕ) → i < count w b → letter_at w b i ≡ Some (letter (line w b i))
  unfolding letter_at line
  letter_at_good i h = rw (lt-ltb i (count w b) h, letter_decode w (line_at w b i) (line_good w b good i h))

  pub cell_at_good : (i k : ℕ) → i < count w b → k < 5 → (letter (line w b i) ≡ 78 → k ≡ 0) → cell_at w b i k ≡ Ok (number (line w b i) k)
  unfolding cell_at line
  cell_at_good i k h q o =
      rw (lt-ltb i (count w b) h, lt-ltb k 5 q, number_decode w (line_at w b i) k (line_good w b good i h) q (λ z. o (letter_decode w (line_at w b i) (line_good w b good i h) ∙ z)))
