-- What is written of a pattern, or of its variables, piece by piece; and lines put into an array of cells. Assumes
-- nothing.
use Rattle.std.specs.Prelude.{◌≡◌, List, [], ◌∷◌, ◌++◌, map, Bool, true, false, ℕ, zero, suc, ◌+◌, ◌*◌, ◌-◌, ◌/◌, ◌≤◌, ◌<◌, eqb, length, get_or, take, drop}
use Rattle.number_columns.specs.Column.{pick}
use Rattle.sheet.specs.Line.{Line, row}
use Rattle.model_patterns.specs.Pat.{Pat, Pats, pat_vars, pats_vars}
use Rattle.meaning.specs.Rows.{nth_line}
use Rattle.meaning_patterns.specs.Patterns.{pattern_line, kind_of, name_of, last_of, previous_of, pat_lines, part_lines, freed_lines}
use Rattle.walk_cells.specs.Cells.{cells, lines_of}
use Rattle.pattern_laws.specs.Made.{Made, made_to, only, mades}

-- ---- lines
-- the link to the last of the parts that stand from line `from` to line `next`
abbrev pub behind : ℕ → ℕ → ℕ
behind from next = pick (eqb next from) 0 next

-- of a pattern the own line; of names the U line of a variable
unfoldable pub own : Bool → ℕ → ℕ → ℕ → ℕ → ℕ → List Line
own true kind n last previous f = elim (eqb kind 1) [ true ↦ freed_lines (n ∷ []) | false ↦ [] ]
own false kind n last previous f = row pattern_line (kind ∷ n ∷ last ∷ previous ∷ f ∷ []) ∷ []

-- of a pattern its lines, the first of these being line `at`; of names the U lines of its variables
unfoldable pub emitted : Bool → Pat → ℕ → ℕ → ℕ → List Line
emitted true p at previous f = freed_lines (pat_vars p)
emitted false p at previous f = map (row pattern_line) (pat_lines p at previous f)

-- the same of a list
unfoldable pub emitted_parts : Bool → Pats → ℕ → List Line
emitted_parts true ps at = freed_lines (pats_vars ps)
emitted_parts false ps at = map (row pattern_line) (part_lines ps at 0).lines

-- of the list that m ends, the parts with this flag: kept ones, or the names of dropped ones
abbrev pub listed : Bool → ℕ → Made → ℕ → List Line
listed names flag m at = elim (eqb flag 1) [ true ↦ emitted_parts names m.kept at | false ↦ freed_lines m.outer ]

-- ---- what is asked
-- Of Q lines, by row 5: links go down, and a line holds what its kind has.
pub record Linked (qs : List Line) : Type 0 where
  pub last : (i : ℕ) → i < length qs → last_of (nth_line qs i) ≤ i
  pub previous : (i : ℕ) → i < length qs → previous_of (nth_line qs i) ≤ i
  pub kind : (i : ℕ) → i < length qs → kind_of (nth_line qs i) ≤ 6
  pub leaf : (i : ℕ) → i < length qs → kind_of (nth_line qs i) ≤ 2 → last_of (nth_line qs i) ≡ 0
  pub unnamed : (i : ℕ) → i < length qs → 5 ≤ kind_of (nth_line qs i) → name_of (nth_line qs i) ≡ 0
  pub wild : (i : ℕ) → i < length qs → kind_of (nth_line qs i) ≡ 0 → name_of (nth_line qs i) ≡ 0

-- of cells, marks and flags
pub record Asked (q marks flags : List ℕ) : Type 0 where
  pub linked : Linked (lines_of q)
  pub marked : length q / 6 ≤ length marks
  pub flagged : length q / 6 ≤ length flags

-- parts are kept, or dropped ones whose names are asked
pub record Wanted (names : Bool) (flag : ℕ) : Type 0 where
  pub known : flag ≤ 1
  pub dropped : flag ≡ 0 → names ≡ true

-- what link k stands for
abbrev pub at_link : List ℕ → List ℕ → List ℕ → ℕ → Made
at_link q marks flags k = made_to (mades marks flags (lines_of q)) k

-- the mark of what link k names
unfoldable pub mark_to : List ℕ → ℕ → ℕ
mark_to xs zero = 0
mark_to xs (suc k) = get_or xs k 0

-- the part that link k names where it is kept, else part r
abbrev pub kept_or : List ℕ → ℕ → ℕ → ℕ
kept_or gs k r = pick (eqb (get_or gs (k - 1) 0) 1) k r

-- link r names the first kept part of the list that link k ends, whatever the marks
pub record First (q flags : List ℕ) (k r : ℕ) : Type 0 where
  pub low : r ≤ k
  pub is : (marks : List ℕ) → only (at_link q marks flags k).kept ≡ (at_link q marks flags r).pat

-- ---- lines put
-- there is room for the lines from line `at` on, and every number of a line fits
pub record Room (ls : List Line) (out : List ℕ) (at : ℕ) : Type 0 where
  pub enough : 6 * (at + length ls) ≤ length out
  pub narrow : length out < 4294967296

-- they are put from line `at` on, and r is the line after them
pub record Put (ls : List Line) (out : List ℕ) (at r : ℕ) (res : List ℕ) : Type 0 where
  pub next : r ≡ at + length ls
  pub long : length res ≡ length out
  pub stands : res ≡ take (6 * at) out ++ (cells ls ++ drop (6 * r) out)
