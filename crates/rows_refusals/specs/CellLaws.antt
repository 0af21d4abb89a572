-- The rows of the cells of a sheet's lines are those of its bytes. Assumes nothing.
use Rattle.std.specs.Prelude.{◌≡◌, List, map, ℕ, suc, length}
use Rattle.std.proofs.Common.{ap, ◌∙◌}
use Rattle.sheet.specs.Format.{base}
use Rattle.sheet.specs.Sheet.{first, count, lines, row2}
use Rattle.meaning.specs.Program.{name_line, arg_line, type_line, local_line, import_line, ctor_line, field_line}
use Rattle.meaning.specs.Rows.{raws, row3, row4, row5, row7}
use Rattle.row4_limits.specs.Limits.{counts_of}
use Rattle.walk_cells.specs.Cells.{lines_of, bare}
use Rattle.meaning_bares.specs.PlaceLaws.{count_bare, place3, place4, place5, place7}
use Rattle.meaning_bares.specs.RowLaws as rows

module _ (b t : List ℕ) (e : lines_of t ≡ map bare (lines 6 b)) where
  pub count_cells : length (lines_of t) ≡ count 6 b
  count_cells = ap length e ∙ count_bare 6 b

  pub order_cells : row2 6 b ≡ count 6 b → first (row3 (lines_of t)) (suc (length (lines_of t))) ≡ first (row3 (raws 6 b)) (suc (count 6 b))
  order_cells good = rw e (place3 6 b good)

  pub limits_cells : first (row4 base (lines_of t)) (length (lines_of t)) ≡ first (row4 base (lines 6 b)) (count 6 b)
  limits_cells = rw e (place4 6 b base)

  pub ranges_cells : first (row5 (lines_of t)) (length (lines_of t)) ≡ first (row5 (lines 6 b)) (count 6 b)
  ranges_cells = rw e (place5 6 b)

  pub verdicts_cells : first (row7 (lines_of t)) (length (lines_of t)) ≡ first (row7 (lines 6 b)) (count 6 b)
  verdicts_cells = rw e (place7 6 b)

  pub counts_cells : counts_of (lines_of t) ≡ counts_of (lines 6 b)
  unfolding counts_of
  counts_cells =
      rw (e, rows.count_bare name_line (lines 6 b), rows.count_bare arg_line (lines 6 b), rows.count_bare type_line (lines 6 b), rows.count_bare local_line (lines 6 b), rows.count_bare import_line (lines 6 b), rows.count_bare ctor_line (lines 6 b), rows.count_bare field_line (lines 6 b))
