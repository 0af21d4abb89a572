-- The shape of a line by its bytes: its text, its numbers and its letter, for any width.
-- Assumes nothing.
use Rattle.std.specs.Prelude.{◌≡◌, refl, Option, Some, None, List, Bool, true, false, ◌&&◌, ℕ, zero, suc, ◌+◌, ◌*◌, ◌<◌, leb, length, get_or, take, drop}
use Rattle.std.proofs.Math.Bool.{and-false}
use Rattle.std.proofs.Common.{arith}
use borrow.Author.Tests.{eq-eqb, ne_eqb}
use Rattle.number_columns.specs.Column.{pick}
use Rattle.sheet.specs.Format.{text_bytes}
use Rattle.sheet.specs.Line.{Line, named, row, bad, spelling, spaces, proper, lettered, cell, is_value, value, decode, decode_named, decode_row, text}
use Rattle.sheet.proofs.LineLaws.{lettered_other}
use Rattle.sheet_lines.specs.Text.{text_length}
use Rattle.sheet_lines.specs.declared.Shape.TheVariants.{Named, Row}
use Rattle.sheet_lines.specs.Shape.{shape_of, named_shape, text_in}

-- ---- shapes
-- a line of name n by its text t
shape_of_named : (n : ℕ) (t : List ℕ) → shape_of (pick (proper t) (named n (spelling t)) bad) ≡ pick (leb 1 (text_length t)) (Some (Named n (text_length t))) None
unfolding text_length proper
shape_of_named n t = go (leb 1 (length (spelling t))) (spaces (drop (length (spelling t)) t)) refl
  where
    go : (a s : Bool) → leb 1 (length (spelling t)) ≡ a
        → shape_of (pick (a && s) (named n (spelling t)) bad) ≡ pick (leb 1 (pick (a && s) (length (spelling t)) 0)) (Some (Named n (pick (a && s) (length (spelling t)) 0))) None
    go true true e = rw e
    go true false e = refl
    go false s e = refl

pub decode_named_shape : (w : ℕ) (b : List ℕ) → shape_of (decode_named w b) ≡ named_shape (cell w b 0) (text_length (take (text_bytes w) (drop (1 + w) b)))
unfolding decode_named
decode_named_shape w b = go (cell w b 0)
  where
    t : List ℕ
    t = take (text_bytes w) (drop (1 + w) b)

    go : (c : Option ℕ) → shape_of (pick (is_value c && proper t) (named (value c) (spelling t)) bad) ≡ named_shape c (text_length t)
    go (Some n) = shape_of_named n t
    go None = refl

-- a line of numbers: each of them, or one that is none
pub decode_row_row : (w : ℕ) (b : List ℕ) → ((k : ℕ) → k < 5 → is_value (cell w b k) ≡ true) → shape_of (decode_row w b) ≡ Some Row
unfolding decode_row
decode_row_row w b h = rw (h 0 (omega arith), h 1 (omega arith), h 2 (omega arith), h 3 (omega arith), h 4 (omega arith))

pub decode_row_bad : (w : ℕ) (b : List ℕ) (k : ℕ) → k < 5 → is_value (cell w b k) ≡ false → shape_of (decode_row w b) ≡ None
unfolding decode_row
decode_row_bad w b zero l h = rw h
decode_row_bad w b (suc zero) l h = simp (h, and-false)
decode_row_bad w b (suc (suc zero)) l h = simp (h, and-false)
decode_row_bad w b (suc (suc (suc zero))) l h = simp (h, and-false)
decode_row_bad w b (suc (suc (suc (suc zero)))) l h = simp (h, and-false)
decode_row_bad w b (suc (suc (suc (suc (suc k))))) l h = absurd (omega arith)

pub text_in_shape : (l : Line) → text_in (shape_of l) ≡ length (text l)
text_in_shape (named n t) = refl
text_in_shape (row x ns) = refl
text_in_shape bad = refl

-- ---- by the last byte and the letter
module _ (w : ℕ) (b : List ℕ) where
  pub decode_last : (get_or b (5 * w + 1) 0 ≡ 10 → ⊥) → decode w b ≡ bad
  unfolding decode
  decode_last h = rw (ne_eqb _ 10 h)

  pub decode_is_named : get_or b (5 * w + 1) 0 ≡ 10 → get_or b 0 0 ≡ 78 → decode w b ≡ decode_named w b
  unfolding decode
  decode_is_named h e = rw (eq-eqb _ 10 h, eq-eqb _ 78 e)

  pub decode_is_row : get_or b (5 * w + 1) 0 ≡ 10 → lettered (get_or b 0 0) ≡ true → decode w b ≡ decode_row w b
  unfolding decode
  decode_is_row h l = rw (eq-eqb _ 10 h, lettered_other (get_or b 0 0) l, l)

  pub decode_unknown : get_or b (5 * w + 1) 0 ≡ 10 → (get_or b 0 0 ≡ 78 → ⊥) → lettered (get_or b 0 0) ≡ false → decode w b ≡ bad
  unfolding decode
  decode_unknown h e l = rw (eq-eqb _ 10 h, ne_eqb _ 78 e, l)
