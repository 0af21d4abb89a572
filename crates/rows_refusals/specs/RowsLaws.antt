-- What each of rows 1 to 7 decides; and a sheet passes them exactly if none applies.
-- Assumes nothing.
use Rattle.std.specs.Prelude.{◌≡◌, Bool, ℕ, suc, ◌≤◌, ◌<◌}
use Rattle.std.proofs.Math.Path.{refl}
use Rattle.std.proofs.Common.{ap, sym, ◌∙◌, arith}
use mathlib.Core.List.{List, [], ◌∷◌}
use Rattle.std.proofs.Math.Bool.{true, false}
use Rattle.std.proofs.Math.Dec.{ltb}
use borrow.Author.Tests.{lt-ltb, le-ltb, ltb-false}
use Rattle.sheet.specs.Format.{base}
use Rattle.sheet.specs.Line.{is_bad}
use Rattle.sheet.specs.Sheet.{first, count, line, lines, row1, row2}
use Rattle.sheet.proofs.FirstLaws.{first_le}
use Rattle.answer.specs.declared.Refusal.{Refusal}
use Rattle.answer.specs.declared.Refusal.TheVariants.{Accepted, Refused}
use Rattle.meaning.specs.Rows.{raws, row3, row4, row5, row6, row7}
use Rattle.answer.specs.Answer.{Row, line_row, whole_row, refusal, sheet_rows}
use Rattle.row4_limits.specs.Limits.{counts_of}
use Rattle.rows_refusals.specs.declared.Checked.{Checked}
use Rattle.rows_refusals.specs.Rows.{refused_as, with_counts, checked_of, PassesRows}

-- ---- one row
pub never : {A : Type 0} {code place : ℕ} → Refused code place ≡ Accepted → A
never e = let z : ◌≡◌ {A = ℕ} 0 1 = cc in absurd (omega arith)

module _ (code n : ℕ) (test : ℕ → Bool) (rs : List Row) where
  row_applies : first test n < n → refusal (line_row code n test ∷ rs) ≡ Refused code (first test n)
  unfolding refusal
  row_applies h = rw (lt-ltb (first test n) n h, refusal)

  row_passes : first test n ≡ n → refusal (line_row code n test ∷ rs) ≡ refusal rs
  unfolding refusal
  row_passes e = rw (le-ltb (first test n) n (omega arith), refusal)

  row_accepted : refusal (line_row code n test ∷ rs) ≡ Accepted → (first test n ≡ n) × (refusal rs ≡ Accepted)
  unfolding refusal
  row_accepted = go (ltb (first test n) n) refl
    where
      go : (c : Bool) → ltb (first test n) n ≡ c → elim c [ true ↦ Refused code (first test n) | false ↦ refusal rs ] ≡ Accepted → (first test n ≡ n) × (refusal rs ≡ Accepted)
      go true e k = never k
      go false e k = (omega (arith, ltb-false (first test n) n e, first_le test n), k)

module _ (code place : ℕ) (rs : List Row) where
  whole_applies : (test : Bool) → test ≡ true → refusal (whole_row code place test ∷ rs) ≡ Refused code place
  unfolding refusal first
  whole_applies test e = rw e

  whole_passes : (test : Bool) → test ≡ false → refusal (whole_row code place test ∷ rs) ≡ refusal rs
  unfolding refusal first
  whole_passes test e = rw e

  whole_accepted : (test : Bool) → refusal (whole_row code place test ∷ rs) ≡ Accepted → (test ≡ false) × (refusal rs ≡ Accepted)
  unfolding refusal first
  whole_accepted true e = never e
  whole_accepted false e = (refl, e)

-- a row's place that is no line
pub none_at : (p : ℕ → Bool) (n r : ℕ) → r ≡ first p n → n ≤ r → first p n ≡ n
none_at p n r e h = omega (arith, first_le p n)

pub no_bad_at : (b : List ℕ) (r : ℕ) → r ≡ row2 6 b → count 6 b ≤ r → row2 6 b ≡ count 6 b
unfolding row2
no_bad_at b r e h = none_at (λ i. is_bad (line 6 b i)) (count 6 b) r e h

-- ---- rows 1 to 7 of a sheet, one after the other
module _ (b : List ℕ) where
  -- the rows from the second on, and so on
  from7 : List Row
  from7 = line_row 7 (count 6 b) (row7 (lines 6 b)) ∷ []

  from6 : List Row
  from6 = line_row 6 (count 6 b) (row6 (lines 6 b)) ∷ from7

  from5 : List Row
  from5 = line_row 5 (count 6 b) (row5 (lines 6 b)) ∷ from6

  from4 : List Row
  from4 = line_row 4 (count 6 b) (row4 base (lines 6 b)) ∷ from5

  from3 : List Row
  from3 = line_row 3 (suc (count 6 b)) (row3 (raws 6 b)) ∷ from4

  from2 : List Row
  from2 = line_row 2 (count 6 b) (λ i. is_bad (line 6 b i)) ∷ from3

  first_is : sheet_rows base b ≡ whole_row 1 0 (row1 base b) ∷ from2
  unfolding sheet_rows from2 from3 from4 from5 from6 from7
  first_is = refl

  refused_at : (code place : ℕ) → refusal (sheet_rows base b) ≡ Refused code place → checked_of b ≡ refused_as code place
  unfolding checked_of
  refused_at code place e = rw e

  pub at1 : row1 base b ≡ true → checked_of b ≡ refused_as 1 0
  at1 e = refused_at 1 0 (ap refusal first_is ∙ whole_applies 1 0 from2 (row1 base b) e)

  module _ (short : row1 base b ≡ false) where
    past1 : refusal (sheet_rows base b) ≡ refusal from2
    past1 = ap refusal first_is ∙ whole_passes 1 0 from2 (row1 base b) short

    pub at2 : row2 6 b < count 6 b → checked_of b ≡ refused_as 2 (row2 6 b)
    unfolding row2 from2
    at2 h = refused_at 2 (row2 6 b) (past1 ∙ row_applies 2 (count 6 b) (λ i. is_bad (line 6 b i)) from3 h)

    module _ (no_bad : row2 6 b ≡ count 6 b) where
      past2 : refusal (sheet_rows base b) ≡ refusal from3
      unfolding row2 from2
      past2 = past1 ∙ row_passes 2 (count 6 b) (λ i. is_bad (line 6 b i)) from3 no_bad

      pub at3 : first (row3 (raws 6 b)) (suc (count 6 b)) < suc (count 6 b) → checked_of b ≡ refused_as 3 (first (row3 (raws 6 b)) (suc (count 6 b)))
      unfolding from3
      at3 h = refused_at 3 (first (row3 (raws 6 b)) (suc (count 6 b))) (past2 ∙ row_applies 3 (suc (count 6 b)) (row3 (raws 6 b)) from4 h)

      module _ (in_order : first (row3 (raws 6 b)) (suc (count 6 b)) ≡ suc (count 6 b)) where
        past3 : refusal (sheet_rows base b) ≡ refusal from4
        unfolding from3
        past3 = past2 ∙ row_passes 3 (suc (count 6 b)) (row3 (raws 6 b)) from4 in_order

        pub at4 : first (row4 base (lines 6 b)) (count 6 b) < count 6 b → checked_of b ≡ refused_as 4 (first (row4 base (lines 6 b)) (count 6 b))
        unfolding from4
        at4 h = refused_at 4 (first (row4 base (lines 6 b)) (count 6 b)) (past3 ∙ row_applies 4 (count 6 b) (row4 base (lines 6 b)) from5 h)

        module _ (in_limits : first (row4 base (lines 6 b)) (count 6 b) ≡ count 6 b) where
          past4 : refusal (sheet_rows base b) ≡ refusal from5
          unfolding from4
          past4 = past3 ∙ row_passes 4 (count 6 b) (row4 base (lines 6 b)) from5 in_limits

          pub at5 : first (row5 (lines 6 b)) (count 6 b) < count 6 b → checked_of b ≡ refused_as 5 (first (row5 (lines 6 b)) (count 6 b))
          unfolding from5
          at5 h = refused_at 5 (first (row5 (lines 6 b)) (count 6 b)) (past4 ∙ row_applies 5 (count 6 b) (row5 (lines 6 b)) from6 h)

          module _ (in_range : first (row5 (lines 6 b)) (count 6 b) ≡ count 6 b) where
            past5 : refusal (sheet_rows base b) ≡ refusal from6
            unfolding from5
            past5 = past4 ∙ row_passes 5 (count 6 b) (row5 (lines 6 b)) from6 in_range

            pub at6 : first (row6 (lines 6 b)) (count 6 b) < count 6 b → checked_of b ≡ refused_as 6 (first (row6 (lines 6 b)) (count 6 b))
            unfolding from6
            at6 h = refused_at 6 (first (row6 (lines 6 b)) (count 6 b)) (past5 ∙ row_applies 6 (count 6 b) (row6 (lines 6 b)) from7 h)

            module _ (distinct : first (row6 (lines 6 b)) (count 6 b) ≡ count 6 b) where
              past6 : refusal (sheet_rows base b) ≡ refusal from7
              unfolding from6
              past6 = past5 ∙ row_passes 6 (count 6 b) (row6 (lines 6 b)) from7 distinct

              pub at7 : first (row7 (lines 6 b)) (count 6 b) < count 6 b → checked_of b ≡ refused_as 7 (first (row7 (lines 6 b)) (count 6 b))
              unfolding from7
              at7 h = refused_at 7 (first (row7 (lines 6 b)) (count 6 b)) (past6 ∙ row_applies 7 (count 6 b) (row7 (lines 6 b)) [] h)

  -- ---- where none applies
  rows_accepted : PassesRows b → refusal (sheet_rows base b) ≡ Accepted
  unfolding refusal from7
  rows_accepted p =
      past6 p.short p.no_bad p.in_order p.in_limits p.in_range p.distinct
      ∙ row_passes 7 (count 6 b) (row7 (lines 6 b)) [] p.in_verdict

  pub rows_checked : PassesRows b → checked_of b ≡ record { refusal = Accepted; counts = counts_of (lines 6 b) }
  unfolding checked_of
  rows_checked p = rw (rows_accepted p)

  pub accepted_rows : refusal (sheet_rows base b) ≡ Accepted → PassesRows b
  unfolding row2 from2 from3 from4 from5 from6 from7
  accepted_rows e =
      let r1 = whole_accepted 1 0 from2 (row1 base b) (ap refusal (sym first_is) ∙ e) in
      let r2 = row_accepted 2 (count 6 b) (λ i. is_bad (line 6 b i)) from3 r1.1 in
      let r3 = row_accepted 3 (suc (count 6 b)) (row3 (raws 6 b)) from4 r2.1 in
      let r4 = row_accepted 4 (count 6 b) (row4 base (lines 6 b)) from5 r3.1 in
      let r5 = row_accepted 5 (count 6 b) (row5 (lines 6 b)) from6 r4.1 in
      let r6 = row_accepted 6 (count 6 b) (row6 (lines 6 b)) from7 r5.1 in
      let r7 = row_accepted 7 (count 6 b) (row7 (lines 6 b)) [] r6.1 in
      record { short = r1.0; no_bad = r2.0; in_order = r3.0; in_limits = r4.0; in_range = r5.0; distinct = r6.0; in_verdict = r7.0 }

  -- where the test says so
  pub checked_accepted : (r : Checked) → r ≡ checked_of b → r.refusal ≡ Accepted → refusal (sheet_rows base b) ≡ Accepted
  unfolding checked_of
  checked_accepted r e a = go (refusal (sheet_rows base b)) (ap (λ (c : Checked). c.refusal) (sym e) ∙ a)
    where
      go : (q : Refusal) → (with_counts q (counts_of (lines 6 b))).refusal ≡ Accepted → q ≡ Accepted
      go Accepted k = refl
      go (Refused code place) k = never k
