-- The spelling of a name is the text of its line, where the line has its number. For any width. Assumes nothing.
use Rattle.std.specs.Prelude.{◌≡◌, refl, Result, Ok, Err, List, [], Bool, true, false, ℕ, eqb, ltb}
use Rattle.std.proofs.Common.{ap, ltb-false}
use Rattle.number_columns.specs.Column.{pick}
use Rattle.sheet.specs.Line.{Line, decode, cell, text}
use Rattle.sheet.specs.Sheet.{count, line_at, line, text_of, name_text}
use Rattle.sheet.proofs.LineLaws.{Decoded, as_named, as_row, as_bad, decoded}
use Rattle.sheet.proofs.SheetLaws.{line_past}
use Rattle.sheet_access.specs.declared.NoNumber.{NoNumber}
use Rattle.sheet_access.specs.declared.NoNumber.TheVariants.{Past}
use Rattle.sheet_access.specs.Access.{cell_of, cell_at, text_at}

-- the text t of a line with number c, where that is n
abbrev pub spelled : ℕ → Result ℕ NoNumber → List ℕ → List ℕ
spelled n (Ok m) t = pick (eqb m n) t []
spelled n (Err e) t = []

spelled_none : (n : ℕ) (c : Result ℕ NoNumber) → [] ≡ spelled n c []
spelled_none n (Ok m) = go (eqb m n)
  where
    go : (b : Bool) → ◌≡◌ {A = List ℕ} [] (pick b [] [])
    go true = refl
    go false = refl
spelled_none n (Err e) = refl

spelled_line : (w n : ℕ) (b : List ℕ) → text_of n (decode w b) ≡ spelled n (cell_of (cell w b 0)) (text (decode w b))
spelled_line w n b = go (decoded w b)
  where
    go : {l : Line} → Decoded w b l → text_of n l ≡ spelled n (cell_of (cell w b 0)) (text l)
    go (as_named m z e p) = rw e
    go (as_row ns z l k e) = spelled_none n (cell_of (cell w b 0))
    go as_bad = spelled_none n (cell_of (cell w b 0))

pub name_at : (w : ℕ) (b : List ℕ) (n : ℕ) → name_text w b n ≡ spelled n (cell_at w b n 0) (text_at w b n)
unfolding name_text cell_at text_at line
name_at w b n = go (ltb n (count w b)) refl
  where
    go : (q : Bool) → ltb n (count w b) ≡ q → text_of n (line w b n) ≡ spelled n (pick q (cell_of (cell w (line_at w b n) 0)) (Err Past)) (text (line w b n))
    go true e = spelled_line w n (line_at w b n)
    go false e = ap (text_of n) (line_past w b n (ltb-false n (count w b) e))
