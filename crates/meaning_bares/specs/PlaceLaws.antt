-- The places that rows 3, 4, 5 and 7 give, by the lines without their texts, are those that they give by a sheet's bytes.
-- Assumes nothing.
use Rattle.std.specs.Prelude.{◌≡◌, List, map, Bool, ℕ, suc, length}
use Rattle.std.proofs.Common.{ap, sym, ◌∙◌}
use Rattle.std.proofs.lemmas.List.{length-map}
use Rattle.sheet.specs.Format.{Format}
use Rattle.sheet.specs.Line.{Line}
use Rattle.sheet.specs.Sheet.{first, count, lines, row2}
use Rattle.sheet.proofs.FirstLaws.{first_congr}
use Rattle.sheet.proofs.SheetLaws.{length_lines, line_good}
use Rattle.meaning.specs.Rows.{raws, row3, row4, row5, row7}
use Rattle.meaning_laws.specs.Rows.{row3_raws}
use Rattle.walk_cells.specs.Cells.{bare}
use Rattle.meaning_bares.specs.RowLaws.{row3_bare, row4_bare, row5_bare, row7_bare}

module _ (w : ℕ) (b : List ℕ) where
  -- as many lines
  pub count_bare : length (map bare (lines w b)) ≡ count w b
  count_bare = length-map (lines w b) bare ∙ length_lines w b

  pub place3 : row2 w b ≡ count w b → first (row3 (map bare (lines w b))) (suc (length (map bare (lines w b)))) ≡ first (row3 (raws w b)) (suc (count w b))
  place3 good = rw count_bare (first_congr (row3 (map bare (lines w b))) (row3 (raws w b)) (suc (count w b)) (λ i h. row3_bare (lines w b) i ∙ sym (row3_raws w b (line_good w b good) i)))

  -- a row that goes by letters and numbers
  place : (p : List Line → ℕ → Bool) → ((ls : List Line) (i : ℕ) → p (map bare ls) i ≡ p ls i) → first (p (map bare (lines w b))) (length (map bare (lines w b))) ≡ first (p (lines w b)) (count w b)
  place p e = rw count_bare (first_congr (p (map bare (lines w b))) (p (lines w b)) (count w b) (λ i h. e (lines w b) i))

  pub place4 : (f : Format) → first (row4 f (map bare (lines w b))) (length (map bare (lines w b))) ≡ first (row4 f (lines w b)) (count w b)
  place4 f = place (row4 f) (row4_bare f)

  pub place5 : first (row5 (map bare (lines w b))) (length (map bare (lines w b))) ≡ first (row5 (lines w b)) (count w b)
  place5 = place row5 row5_bare

  pub place7 : first (row7 (map bare (lines w b))) (length (map bare (lines w b))) ≡ first (row7 (lines w b)) (count w b)
  place7 = place row7 row7_bare
