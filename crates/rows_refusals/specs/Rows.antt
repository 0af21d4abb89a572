-- What the test of rows 1 to 7 answers, and what its cells hold where the sheet passes them. Assumes nothing.
use Rattle.std.specs.Prelude.{◌≡◌, List, map, false, ℕ, suc, ◌*◌, length}
use Rattle.sheet.specs.Format.{base}
use Rattle.sheet.specs.Sheet.{first, count, lines, row1, row2}
use Rattle.walk_cells.specs.Cells.{lines_of, bare}
use Rattle.answer.specs.declared.Refusal.{Refusal}
use Rattle.answer.specs.declared.Refusal.TheVariants.{Accepted, Refused}
use Rattle.meaning.specs.Rows.{raws, row3, row4, row5, row6, row7}
use Rattle.answer.specs.Answer.{sheet_rows, refusal}
use Rattle.row4_limits.specs.declared.Counts.{Counts}
use Rattle.row4_limits.specs.Limits.{counts_of}
use Rattle.table_declared.specs.Passed.{Bounded, Passed}
use Rattle.rows_refusals.specs.declared.Checked.{Checked}

-- ---- what the test of these rows answers
abbrev pub no_counts : Counts
no_counts = record { names = 0; args = 0; types = 0; decls = 0; ctors = 0; fields = 0 }

abbrev pub refused_as : ℕ → ℕ → Checked
refused_as code place = record { refusal = Refused code place; counts = no_counts }

abbrev pub with_counts : Refusal → Counts → Checked
with_counts Accepted c = record { refusal = Accepted; counts = c }
with_counts (Refused code place) c = refused_as code place

unfoldable pub checked_of : List ℕ → Checked
checked_of b = with_counts (refusal (sheet_rows base b)) (counts_of (lines 6 b))

-- ---- where none of them applies
-- each row of the bytes
pub record PassesRows (b : List ℕ) : Type 0 where
  pub short : row1 base b ≡ false
  pub no_bad : row2 6 b ≡ count 6 b
  pub in_order : first (row3 (raws 6 b)) (suc (count 6 b)) ≡ suc (count 6 b)
  pub in_limits : first (row4 base (lines 6 b)) (count 6 b) ≡ count 6 b
  pub in_range : first (row5 (lines 6 b)) (count 6 b) ≡ count 6 b
  pub distinct : first (row6 (lines 6 b)) (count 6 b) ≡ count 6 b
  pub in_verdict : first (row7 (lines 6 b)) (count 6 b) ≡ count 6 b

-- An accepted sheet: the cells hold its lines but for their texts, and these passed, within the limits of the format; so what reads the cells needs the bytes no more.
pub record Accepts (b t : List ℕ) (r : Checked) : Type 0 where
  pub no_bad : row2 6 b ≡ count 6 b
  pub sized : length t ≡ 6 * count 6 b
  pub lines_are : lines_of t ≡ map bare (lines 6 b)
  pub passed : Passed (lines_of t)
  pub bounded : Bounded base (lines_of t)
  pub counts_are : r.counts ≡ counts_of (lines_of t)

-- the answer r, and the cells t that it leaves
pub record Checks (b t : List ℕ) (r : Checked) : Type 0 where
  pub answer : r ≡ checked_of b
  pub accepts : r.refusal ≡ Accepted → Accepts b t r
