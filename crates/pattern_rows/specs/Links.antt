-- Row 5 of Q lines, by marks of the lines that were named. Assumes nothing.
use Rattle.std.specs.Prelude.{◌≡◌, List, Bool, ◌&&◌, ◌||◌, not, ℕ, suc, ◌≤◌, eqb, leb, length, get_or}
use Rattle.sheet.specs.Line.{Line}
use Rattle.meaning.specs.Rows.{nth_line}
use Rattle.meaning_patterns.specs.Patterns.{kind_of, last_of, previous_of, field_of, linked_before, good_link, good_name, good_last, good_previous, good_pattern}

-- Q line q is not as it should be
abbrev pub row5 : ℕ → List Line → ℕ → Bool
row5 names qs q = not (good_pattern names qs q)

-- ---- row 5 in parts, in the order that the code looks at them
abbrev pub good_links : List Line → ℕ → Bool
good_links qs q =
    good_link qs q (last_of (nth_line qs q))
    && good_link qs q (previous_of (nth_line qs q))
    && (eqb (last_of (nth_line qs q)) 0 || not (eqb (last_of (nth_line qs q)) (previous_of (nth_line qs q))))

abbrev pub good_own : ℕ → Line → Bool
good_own names l = leb (kind_of l) 6 && good_name names l && leb (field_of l) names

-- the last line is the whole, and so no part
abbrev pub good_whole : List Line → ℕ → Bool
good_whole qs q = not (eqb (suc q) (length qs)) || (eqb (previous_of (nth_line qs q)) 0 && eqb (field_of (nth_line qs q)) 0)

abbrev pub good_parts : List Line → ℕ → Bool
good_parts qs q = good_previous qs (nth_line qs q) && good_last qs (nth_line qs q) && good_whole qs q

-- the links of line q are to lower lines
pub record Lower (l : Line) (q : ℕ) : Type 0 where
  pub last_lower : last_of l ≤ q
  pub previous_lower : previous_of l ≤ q

-- ---- marks
-- each link has mark 0 exactly if no line before line q has it
pub record Marked (qs : List Line) (q : ℕ) (marks : List ℕ) : Type 0 where
  pub size : length marks ≡ 257
  pub held : (k : ℕ) → k ≤ 256 → eqb (get_or marks k 0) 0 ≡ not (linked_before qs q k)

-- a link of line q, by the marks
abbrev pub free_link : List ℕ → ℕ → ℕ → Bool
free_link marks q k = eqb k 0 || (leb k q && eqb (get_or marks k 0) 0)
