-- The owners and the places of Q lines, line after line. Assumes nothing.
use Rattle.std.specs.Prelude.{◌≡◌, List, ℕ, zero, suc, ◌≤◌, ◌<◌, length, get_or}
use Rattle.sheet.specs.Line.{Line}
use Rattle.meaning.specs.Rows.{nth_line}
use Rattle.meaning_patterns.specs.Patterns.{last_of, previous_of}
use Rattle.pattern_laws.specs.Marks.{claim, fields_to}

-- the first i are 0
abbrev pub Zeros : List ℕ → ℕ → Type 0
Zeros os i = (j : ℕ) → j < i → get_or os j 0 ≡ 0

-- with the parts that line q names
unfoldable pub claimed : List Line → ℕ → List ℕ → List ℕ
claimed qs q os = claim (claim os (last_of (nth_line qs q)) (suc q)) (previous_of (nth_line qs q)) (get_or os q 0)

-- how many parts the list that a link ends has, by the places of lines
unfoldable pub ended : List ℕ → ℕ → ℕ
ended ps zero = 0
ended ps (suc k) = suc (get_or ps k 0)

-- the lines before line n have their places: as many as there are fields before them
pub record PlacedTo (qs : List Line) (ps : List ℕ) (n : ℕ) : Type 0 where
  pub held : (q : ℕ) → q < n → get_or ps q 0 ≡ length (fields_to qs (previous_of (nth_line qs q)))
  pub few : (q : ℕ) → q < n → get_or ps q 0 ≤ q

abbrev pub Placed : List Line → List ℕ → Type 0
Placed qs ps = PlacedTo qs ps (length qs)
