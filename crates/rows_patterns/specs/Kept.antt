-- What the test of a sheet's Q lines asks, and what its cells hold where the sheet passes. Assumes nothing.
use Rattle.std.specs.Prelude.{◌≡◌, List, not, ℕ, ◌*◌, ◌≤◌, length, take}
use Rattle.sheet.specs.Line.{is_bad}
use Rattle.sheet.specs.Sheet.{first, count, line, lines}
use Rattle.meaning.specs.Program.{is, name_line}
use Rattle.meaning.specs.Rows.{count_of, raw}
use Rattle.meaning_patterns.specs.Patterns.{pattern_line}
use Rattle.answer.specs.declared.Refusal.{Refusal}
use Rattle.answer.specs.declared.Refusal.TheVariants.{Accepted}
use Rattle.answer.specs.Answer.{Clear}
use Rattle.walk_cells.specs.Cells.{lines_of}
use Rattle.pattern_rows.specs.Links as links

-- no line is bad
abbrev pub NoBad : List ℕ → Type 0
NoBad b = Clear (count 6 b) (λ i. is_bad (line 6 b i))

-- Q lines, which passed rows 2 to 4
pub record Patterned (z : List ℕ) : Type 0 where
  pub no_bad : NoBad z
  pub letters : first (λ i. not (is pattern_line (raw 6 z i))) (count 6 z) ≡ count 6 z
  pub few : count 6 z ≤ 256

-- row 5's answer r, and the cells q that hold the lines
pub record Ranged (names : ℕ) (z q : List ℕ) (r : ℕ) : Type 0 where
  pub place : r ≡ first (links.row5 names (lines 6 z)) (count 6 z)
  pub lines_are : lines_of (take (6 * count 6 z) q) ≡ lines 6 z

-- Q lines z, which passed rows 3 to 5 behind the declarations a, and the cells q that hold them
pub record Held (a z q : List ℕ) : Type 0 where
  pub few : count 6 z ≤ 256
  pub lines_are : lines_of (take (6 * count 6 z) q) ≡ lines 6 z
  pub in_range : first (links.row5 (count_of name_line (lines 6 a)) (lines 6 z)) (count 6 z) ≡ count 6 z

-- the cells q that the answer r leaves of the cells q₀
pub record Kept (a z q₀ q : List ℕ) (r : Refusal) : Type 0 where
  pub same : length q ≡ length q₀
  pub accepts : r ≡ Accepted → Held a z q
