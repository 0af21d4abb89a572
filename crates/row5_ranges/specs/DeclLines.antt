-- A part of a D or I line, and C and F lines. Assumes nothing.
use Rattle.std.specs.Prelude.{Bool, true, ◌&&◌, ℕ, eqb, ltb}
use Rattle.number_columns.specs.Column.{pick, ◌⇒◌∥◌}
use Rattle.sheet.specs.Line.{Line, number}

-- a D or I line's last number, by its body kind
abbrev pub good_last : ℕ → ℕ → ℕ → Bool
good_last kind last types = eqb kind 0 ⇒ eqb last 0 ∥ eqb kind 1 ⇒ ltb last types ∥ true

-- an F line, whose type is tested besides, or a C line
abbrev pub good_member : Bool → ℕ → ℕ → Line → Bool
good_member field names types l =
    ltb (pick field (number l 1) 0) (pick field types 1) && (ltb (number l 0) names && (eqb (number l 3) 0 && eqb (number l 4) 0))
