-- A table beside the bytes of its sheet, for what copies lines with their texts. Assumes nothing.
use Rattle.std.specs.Prelude.{◌≡◌, refl, List, [], ◌∷◌, map, false, ℕ, zero, suc, ◌<◌, length}
use Rattle.std.proofs.Common.{ap, sym, ◌∙◌, arith}
use Rattle.std.proofs.lemmas.List.{length-map}
use Rattle.sheet.specs.Format.{base}
use Rattle.sheet.specs.Line.{Line, letter, number}
use Rattle.sheet.specs.Sheet.{count, lines, row1, row2}
use Rattle.sheet.proofs.SheetLaws.{AllFit, fit_lines, line_good, length_lines}
use Rattle.sheet.proofs.FirstLaws.{first_congr}
use Rattle.walk_cells.specs.Cells.{bare}
use Rattle.meaning_bares.specs.ProgramLaws.{map_bare, program_bare}
use Rattle.meaning_bares.specs.RowLaws.{count_bare, row3_bare, row4_bare, row5_bare, row7_bare, repeats_bare}
use Rattle.meaning.specs.Program.{is, program}
use Rattle.meaning.specs.Rows.{nth_line, count_of, row3, row4, row5, row7}
use Rattle.meaning_laws.specs.Output.{number_fits}
use Rattle.rows_header.specs.OrderLaws.{Ordered}
use Rattle.row4_limits.specs.Limits.{start}
use Rattle.table_declared.specs.Passed.{Bounded, Passed}
use Rattle.table_declared.specs.BareLaws.{decls_bare, start_bare, first_of_bare, head_is}
use Rattle.table_declared.specs.PassedLaws.{ordered, bounded_largest}
use Rattle.table_access.specs.Tables.{head_line, decls_of, first_of, lines_in, Tabled, TabledIn}
use Rattle.meaning_bares.specs.PlaceLaws as place

-- The bytes passed rows 1 and 2, and the table's lines are theirs without texts, within the limits of the format.
pub record OfSheet (b t : List ℕ) : Type 0 where
  pub tabled : Tabled t
  pub short : row1 base b ≡ false
  pub no_bad : row2 6 b ≡ count 6 b
  pub lines_are : lines_in t ≡ map bare (lines 6 b)
  pub bounded : Bounded base (lines_in t)

-- numbers of six columns, also past the end, where they are 0
numbers_small : (ls : List Line) → AllFit 6 ls → (i k : ℕ) → number (nth_line ls i) k < 1000000
numbers_small [] h i k = omega arith
numbers_small (l ∷ ls) h zero k = number_fits 6 (omega arith) l k h.0
numbers_small (l ∷ ls) h (suc i) k = numbers_small ls h.1 i k

module _ (b t : List ℕ) (of : OfSheet b t) where
  pub program_same : program (lines_in t) ≡ program (lines 6 b)
  program_same = ap program of.lines_are ∙ program_bare (lines 6 b)

  pub count_same : (x : ℕ) → count_of x (lines_in t) ≡ count_of x (lines 6 b)
  count_same x = ap (count_of x) of.lines_are ∙ count_bare x (lines 6 b)

  pub decls_same : decls_of (lines_in t) ≡ decls_of (lines 6 b)
  decls_same = ap decls_of of.lines_are ∙ decls_bare (lines 6 b)

  pub start_same : (d : ℕ) → start (lines_in t) d ≡ start (lines 6 b) d
  start_same d = ap (λ (ls : List Line). start ls d) of.lines_are ∙ start_bare (lines 6 b) d

  pub first_same : (x d : ℕ) → first_of x (lines_in t) d ≡ first_of x (lines 6 b) d
  first_same x d = ap (λ (ls : List Line). first_of x ls d) of.lines_are ∙ first_of_bare (lines 6 b) x d

  pub head_same : (x d : ℕ) → is x (head_line (lines_in t) d) ≡ is x (head_line (lines 6 b) d)
  head_same x d = ap (λ (ls : List Line). is x (head_line ls d)) of.lines_are ∙ head_is (lines 6 b) x d

  pub sheet_ordered : Ordered 0 (map letter (lines 6 b))
  sheet_ordered = let e : map letter (lines_in t) ≡ map letter (lines 6 b) = ap (map letter) of.lines_are ∙ map_bare letter (λ l. refl) (lines 6 b) in rw e at (ordered (lines_in t) of.tabled.passed)

  pub tabled_in : TabledIn base t
  tabled_in = record { tabled = of.tabled; bounded = of.bounded }

  -- the lines with their texts passed as well
  sheet_bounded : Bounded base (lines 6 b)
  sheet_bounded =
      let ls : List Line = lines 6 b in
      let p : Bounded base (map bare ls) = rw of.lines_are at of.bounded in
      let n : length (map bare ls) ≡ length ls = length-map ls bare in
      record {
        few = omega (arith, p.few);
        small = numbers_small ls (fit_lines 6 b (line_good 6 b of.no_bad));
        in_limits = first_congr (row4 base ls) (row4 base (map bare ls)) (length ls) (λ i h. sym (row4_bare base ls i)) ∙ (rw n at p.in_limits);
      }

  pub sheet_passed : Passed (lines 6 b)
  sheet_passed =
      let ls : List Line = lines 6 b in
      let p : Passed (map bare ls) = rw of.lines_are at of.tabled.passed in
      let n : length (map bare ls) ≡ length ls = length-map ls bare in
      let m : length ls ≡ count 6 b = length_lines 6 b in
      record {
        bounded = bounded_largest ls sheet_bounded;
        in_order = first_congr (row3 ls) (row3 (map bare ls)) (suc (length ls)) (λ i h. sym (row3_bare ls i)) ∙ (rw n at p.in_order);
        in_range = first_congr (row5 ls) (row5 (map bare ls)) (length ls) (λ i h. sym (row5_bare ls i)) ∙ (rw n at p.in_range);
        distinct = λ i j h l. sym (repeats_bare ls i j) ∙ p.distinct i j (omega arith) l;
        in_verdict = first_congr (row7 ls) (row7 (map bare ls)) (length ls) (λ i h. sym (row7_bare ls i)) ∙ (rw n at p.in_verdict);
      }
