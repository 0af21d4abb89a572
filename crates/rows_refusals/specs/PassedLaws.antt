-- The lines of an accepted sheet, without their texts, passed rows 1 to 7; so the cells that hold them did. Assumes nothing.
use Rattle.std.specs.Prelude.{◌≡◌, List, [], ◌∷◌, map, false, ◌&&◌, ℕ, zero, suc, ◌*◌, ◌<◌, length}
use Rattle.std.proofs.Common.{ap, sym, ◌∙◌, arith, ltb-false}
use Rattle.sheet.specs.Format.{base}
use Rattle.sheet.specs.Line.{Line, number, text}
use Rattle.sheet.proofs.ListLaws.{neither}
use Rattle.sheet.proofs.LineLaws.{Fits}
use Rattle.sheet.specs.Sheet.{first, count, lines, row2}
use Rattle.sheet.proofs.FirstLaws.{first_before, none_first}
use Rattle.sheet.proofs.SheetLaws.{AllFit, line_good, fit_lines}
use Rattle.walk_cells.specs.Cells.{lines_of, bare}
use Rattle.meaning.specs.Program.{name_line, is}
use Rattle.meaning.specs.Rows.{nth_line, equal, repeats, row6}
use Rattle.answer.specs.declared.Refusal.{Refusal}
use Rattle.answer.specs.declared.Refusal.TheVariants.{Accepted}
use Rattle.answer.specs.Answer.{sheet_rows, refusal}
use Rattle.meaning_bares.specs.RowLaws.{repeats_number, repeats_split, repeats_bare}
use Rattle.meaning_bares.specs.PlaceLaws.{count_bare, place3, place4, place5, place7}
use Rattle.row4_limits.specs.Limits.{counts_of}
use Rattle.row4_limits.specs.LimitsLaws.{short_bytes}
use Rattle.table_declared.specs.Passed.{Bounded, Passed}
use Rattle.table_declared.specs.PassedLaws.{bounded_largest}
use Rattle.rows_refusals.specs.declared.Checked.{Checked}
use Rattle.rows_refusals.specs.Rows.{refused_as, with_counts, checked_of, PassesRows, Checks}
use Rattle.rows_refusals.specs.CellLaws.{counts_cells}
use Rattle.rows_refusals.specs.RowsLaws.{never, accepted_rows, checked_accepted}
use Rattle.meaning_laws.specs.Output.{number_fits}

-- ---- numbers of six columns
number_small : (l : Line) → Fits 6 l → (k : ℕ) → number l k < 1000000
number_small l h k = number_fits 6 (omega arith) l k h

bare_small : (l : Line) → Fits 6 l → (k : ℕ) → number (bare l) k < 1000000
bare_small l h zero = number_small l h 0
bare_small l h (suc zero) = number_small l h 1
bare_small l h (suc (suc zero)) = number_small l h 2
bare_small l h (suc (suc (suc zero))) = number_small l h 3
bare_small l h (suc (suc (suc (suc zero)))) = number_small l h 4
bare_small l h (suc (suc (suc (suc (suc k))))) = omega arith

-- also past the end, where all numbers are 0
lines_small : (ls : List Line) → AllFit 6 ls → (i k : ℕ) → number (nth_line (map bare ls) i) k < 1000000
lines_small [] h i k = omega arith
lines_small (l ∷ ls) h zero k = bare_small l h.0 k
lines_small (l ∷ ls) h (suc i) k = lines_small ls h.1 i k

-- ---- row 6, by numbers
none_repeats : (ls : List Line) (n : ℕ) → first (row6 ls) n ≡ n → (i j : ℕ) → i < n → j < i → repeats_number ls i j ≡ false
unfolding row6
none_repeats ls n e i j h l =
    let r : repeats ls i j ≡ false = first_before (repeats ls i) i j (omega (arith, ltb-false (first (repeats ls i) i) i (none_first (row6 ls) n e i h))) in
    (neither (is name_line (nth_line ls j) && is name_line (nth_line ls i) && equal (text (nth_line ls j)) (text (nth_line ls i))) (repeats_number ls i j) (sym (repeats_split ls i j) ∙ r)).1

module _ (b : List ℕ) where
  rows_bounded : PassesRows b → Bounded base (map bare (lines 6 b))
  rows_bounded p =
      let n : length (map bare (lines 6 b)) ≡ count 6 b = count_bare 6 b in
      record {
        few = omega (arith, short_bytes b p.short);
        small = lines_small (lines 6 b) (fit_lines 6 b (line_good 6 b p.no_bad));
        in_limits = place4 6 b base ∙ p.in_limits ∙ sym n;
      }

  rows_passed : PassesRows b → Passed (map bare (lines 6 b))
  rows_passed p =
      let n : length (map bare (lines 6 b)) ≡ count 6 b = count_bare 6 b in
      record {
        bounded = bounded_largest (map bare (lines 6 b)) (rows_bounded p);
        in_order = place3 6 b p.no_bad ∙ p.in_order ∙ ap suc (sym n);
        in_range = place5 6 b ∙ p.in_range ∙ sym n;
        distinct = λ i j h l. repeats_bare (lines 6 b) i j ∙ none_repeats (lines 6 b) (count 6 b) p.distinct i j (omega arith) l;
        in_verdict = place7 6 b ∙ p.in_verdict ∙ sym n;
      }

  pub accepted_passed : refusal (sheet_rows base b) ≡ Accepted → Passed (map bare (lines 6 b))
  accepted_passed e = rows_passed (accepted_rows b e)

  pub accepted_bounded : refusal (sheet_rows base b) ≡ Accepted → Bounded base (map bare (lines 6 b))
  accepted_bounded e = rows_bounded (accepted_rows b e)

-- ---- what the test promises
-- of a refused sheet
pub checks_refused : (b t : List ℕ) (r : Checked) (code place : ℕ) → r ≡ refused_as code place → checked_of b ≡ refused_as code place → Checks b t r
checks_refused b t r code place e q = record { answer = e ∙ sym q; accepts = λ a. never (ap (λ (c : Checked). c.refusal) (sym e) ∙ a) }

-- of one whose lines the cells hold
pub checks_lines : (b t : List ℕ) (r : Checked) → r ≡ checked_of b → row2 6 b ≡ count 6 b → length t ≡ 6 * count 6 b → lines_of t ≡ map bare (lines 6 b) → Checks b t r
unfolding checked_of
checks_lines b t r answer good n e =
    record {
      answer = answer;
      accepts =
          λ a.
          let q : refusal (sheet_rows base b) ≡ Accepted = checked_accepted b r answer a in
          record {
            no_bad = good;
            sized = n;
            lines_are = e;
            passed = rw e (accepted_passed b q);
            bounded = rw e (accepted_bounded b q);
            counts_are = ap (λ (c : Checked). c.counts) answer ∙ ap (λ (x : Refusal). (with_counts x (counts_of (lines 6 b))).counts) q ∙ sym (counts_cells b t e);
          };
    }
