-- The types and lines of a declaration that is left, none of one that is not. Assumes nothing.
use Rattle.std.specs.Prelude.{◌≡◌, List, [], ℕ, ◌+◌, ◌≤◌, eqb, length, get_or, Option, Some}
use Rattle.number_columns.specs.Column.{pick}
use Rattle.sheet.specs.Line.{Line}
use Rattle.left_laws.specs.declared.Count.{Count}
use Rattle.resolve_kids.specs.Params.{params_of}
use Rattle.keep_layouts.specs.States.{resolves_of}
use Rattle.left_laws.specs.BodyLaws.{left_body, body_lines}

-- the Y lines that are resolved
unfoldable pub decl_types : List Line → List ℕ → List ℕ → List ℕ → ℕ → List ℕ
decl_types ls u keep left d = pick (eqb (get_or left d 0) 0) [] (resolves_of ls u keep d)

-- a D line, a V line, the P lines and those of the body
unfoldable pub decl_count : List Line → List ℕ → List ℕ → List ℕ → ℕ → ℕ
decl_count ls u keep left d = pick (eqb (get_or left d 0) 0) 0 (length (params_of ls d) + 2 + body_lines (left_body ls u keep d))

-- counts far below what a word holds
pub record Few (r : Option Count) : Type 0 where
  pub args : (c : Count) → r ≡ Some c → c.args ≤ 2000000000
  pub types : (c : Count) → r ≡ Some c → c.types ≤ 2000000000
  pub lines : (c : Count) → r ≡ Some c → c.lines ≤ 2000000000
