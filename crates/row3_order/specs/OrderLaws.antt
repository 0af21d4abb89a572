-- Row 3 by what is due, line by line. Assumes nothing.
use Rattle.std.proofs.Math.Path.{◌≡◌, refl}
use Rattle.std.proofs.Common.{ap, sym, ◌∙◌, arith, add-one, take_all, eq-eqb, ne_eqb}
use Rattle.std.specs.Prelude.{List, Bool, ℕ, suc, ◌≤◌, ◌<◌, eqb, length, take}
use Rattle.std.proofs.Math.Bool.{true, false}
use Rattle.number_columns.specs.Column.{pick}
use Rattle.sheet.specs.Line.{Line, letter}
use Rattle.sheet.specs.Sheet.{first}
use Rattle.sheet.proofs.FirstLaws.{first_more}
use Rattle.meaning.specs.declared.Due.{Due}
use Rattle.meaning.specs.declared.Due.TheVariants.{Header}
use Rattle.meaning.specs.Rows.{nth_line, due, due_after, is_broken, is_within, row3}
use Rattle.row3_order.specs.DueLaws.{due_name, due_arg, due_type}
use Rattle.rows_runs.specs.declared.Runs.{Runs}
use Rattle.rows_runs.specs.RunsLaws.{upward, Spans}
use Rattle.row3_order.specs.StepLaws.{due_after_suc}
use Rattle.meaning_laws.specs.Rows.{row3_inside, row3_past}

-- ---- row 3 of a list of lines
module _ (ls : List Line) where
  pub row3_at : (i : ℕ) → i < length ls → row3 ls i ≡ is_broken (due (due_after (Header 0) (take i ls)) (nth_line ls i))
  row3_at i h = row3_inside ls i h ∙ ap is_broken (due_after_suc ls i h (Header 0))

  pub row3_end : row3 ls (length ls) ≡ is_within (due_after (Header 0) ls)
  row3_end = row3_past ls (length ls) (omega arith)

-- ---- the runs at the front
-- what is due after them
abbrev pub after_runs : Runs → Due
after_runs r = Header (pick (eqb r.types r.args) (pick (eqb r.args r.names) 0 1) 2)

-- row 3 applies to no line before line j, and the header is at part p
pub record Reached (ls : List Line) (j p : ℕ) : Type 0 where
  pub at : due_after (Header 0) (take j ls) ≡ Header p
  pub none : first (row3 ls) j ≡ j

module _ (ls : List Line) where
  -- over a run of the lines of part q, from line i to line k
  over : (x q i k p : ℕ) → ((l : Line) (p : ℕ) → letter l ≡ x → p ≤ q → due (Header p) l ≡ Header q)
      → i ≤ k → k ≤ length ls → ((j : ℕ) → i ≤ j → j < k → letter (nth_line ls j) ≡ x) → p ≤ q → Reached ls i p → Reached ls k (pick (eqb k i) p q)
  over x q i k p fits h m run b r = upward (λ j. j ≤ k → Reached ls j (pick (eqb j i) p q)) i (λ l. rw (eq-eqb i i refl) r) next k h (omega arith)
    where
      low : (c : Bool) → pick c p q ≤ q
      low true = b
      low false = omega arith

      next : (j : ℕ) → i ≤ j → (j ≤ k → Reached ls j (pick (eqb j i) p q)) → suc j ≤ k → Reached ls (suc j) (pick (eqb (suc j) i) p q)
      next j a f l =
          let g : Reached ls j (pick (eqb j i) p q) = f (omega arith) in
          let d : due_after (Header 0) (take (suc j) ls) ≡ Header q =
          due_after_suc ls j (omega arith) (Header 0) ∙ rw g.at (fits (nth_line ls j) (pick (eqb j i) p q) (run j a l) (low (eqb j i))) in
          rw (ne_eqb (suc j) i (λ e. omega arith))
          (record { at = d; none = rw add-one at (first_more (row3 ls) j g.none (row3_inside ls j (omega arith) ∙ ap is_broken d)) })

  pub front : (r : Runs) → Spans ls r → Reached ls r.types (pick (eqb r.types r.args) (pick (eqb r.args r.names) 0 1) 2)
  unfolding due_after first
  front r s =
      let begin : Reached ls 0 0 = record { at = refl; none = refl } in
      let names : Reached ls r.names 0 = rw (same (eqb r.names 0)) at (over 78 0 0 r.names 0 due_name (omega arith) (omega (arith, s.to_args, s.to_types, s.to_end)) s.names (omega arith) begin) in
      let args : Reached ls r.args (pick (eqb r.args r.names) 0 1) = over 65 1 r.names r.args 0 due_arg s.to_args (omega (arith, s.to_types, s.to_end)) s.args (omega arith) names in
      over 89 2 r.args r.types (pick (eqb r.args r.names) 0 1) due_type s.to_types s.to_end s.types (small (eqb r.args r.names)) args
    where
      same : (c : Bool) → ◌≡◌ {A = ℕ} (pick c 0 0) 0
      same true = refl
      same false = refl

      small : (c : Bool) → pick c 0 1 ≤ 2
      small true = omega arith
      small false = omega arith

-- ---- for a loop over the lines, with what is due before line i
module _ (ls : List Line) (q : Due) (i : ℕ) (e : q ≡ due_after (Header 0) (take i ls)) where
  -- what is due after it
  pub due_next : i < length ls → due q (nth_line ls i) ≡ due_after (Header 0) (take (suc i) ls)
  due_next h = rw (due_after_suc ls i h (Header 0), e)

  -- whether row 3 applies at it
  pub row3_step : i < length ls → row3 ls i ≡ is_broken (due q (nth_line ls i))
  row3_step h = rw (row3_at ls i h, e)

  -- and after the last line
  pub row3_stop : i ≡ length ls → row3 ls i ≡ is_within q
  row3_stop h = ap (row3 ls) h ∙ row3_end ls ∙ ap is_within (ap (due_after (Header 0)) (sym (take_all i ls (omega arith))) ∙ sym e)
