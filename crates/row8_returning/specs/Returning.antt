-- The bodies that row 8 goes on through (FORMAT, section 7), and the room that its search takes. Assumes nothing.
use Rattle.std.specs.Prelude.{◌≡◌, List, ℕ, ◌*◌, ◌≤◌, ◌<◌, eqb, length, get_or}
use Rattle.number_columns.specs.Column.{◌⇒◌∥◌}
use Rattle.sheet.specs.Line.{Line}
use Rattle.meaning.specs.Program.{type_line}
use Rattle.meaning.specs.Rows.{count_of}
use Rattle.keep_layouts.specs.States.{state, body_of}

-- the body of an unfolded declaration d, else the number of types
abbrev pub through : ℕ → List ℕ → ℕ → ℕ
through types u d = eqb (state u d) 1 ⇒ body_of u d ∥ eqb (state u d) 2 ⇒ body_of u d ∥ types

-- the bodies of the first n declarations
pub record Through (ls : List Line) (u : List ℕ) (n : ℕ) (bodies : List ℕ) : Type 0 where
  pub long : length bodies ≡ n
  pub each : (d : ℕ) → d < n → get_or bodies d 0 ≡ through (count_of type_line ls) u d

-- what n declarations are lent, in sets of so many words
pub record Room (n words : ℕ) (bodies steps rank : List ℕ) : Type 0 where
  pub limit : words < 1024
  pub bodies_long : length bodies ≡ n
  pub steps_long : n * words ≤ length steps
  pub rank_long : n ≤ length rank
