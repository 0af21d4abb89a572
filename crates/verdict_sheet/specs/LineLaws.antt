-- What each line of the verdict sheet is, by the declaration that it stands in. Assumes nothing.
use Rattle.std.proofs.Common.{⊎_elim, sym, ◌∙◌, take-suc}
use Rattle.std.specs.Prelude.{◌≡◌, refl, Bool, ◌&&◌, take}
use Rattle.std.proofs.Math.Path.{ap}
use mathlib.Core.List.{List, [], ◌∷◌}
use Rattle.std.proofs.Math.Bool.{true, false, not}
use Prim.Native.Nat.{ℕ, zero, suc, ◌+◌, ◌-◌, ◌≤◌, ◌<◌}
use native.Mathlib.Omega.{arith}
use Rattle.std.proofs.Math.Dec.{eqb, leb, ltb}
use Rattle.std.proofs.Math.ListN.{length, get_or}
use Rattle.std.proofs.Math.Seq.{take-length}
use borrow.Author.Tests.{eqb-true, eqb-false, leb-true, ltb-false, le-leb, ne_eqb, not-true, not-false}
use Rattle.number_columns.specs.Column.{pick}
use Rattle.sheet.specs.Line.{Line, named, row, bad, letter, number}
use Rattle.sheet.proofs.LineLaws.{Fits, five_numbers}
use Rattle.sheet.specs.Sheet.{lines}
use Rattle.sheet.proofs.SheetLaws.{AllFit, fit_lines, line_good}
use Rattle.sheet.proofs.FirstLaws.{first_before, none_first, first_le}
use Rattle.sheet.proofs.ListLaws.{contrary, both, false_true, every_at}
use Rattle.model.specs.Decl.{bit, tag_number, layout_number}
use Rattle.model.specs.Erasure.{cty_erased, marked, erasure_fixpoint}
use Rattle.model.specs.Layout.{ctor_tag}
use Rattle.model.specs.Run.{info_at, layout_of_decl, left_at, record_of}
use Rattle.model_laws.specs.Run.{local_info}
use Rattle.meaning.specs.Program.{local_line, import_line, ctor_line, field_line, is, is_head, select, type_at, trees, program}
use Rattle.meaning.specs.Rows.{nth_line, count_of, count_before, heads_before, some_below, zeros_from, good_numbers, last_head, head_of, ctors_after, good_verdicts, row7}
use Rattle.meaning.specs.Output.{verdict_line_of}
use Rattle.meaning_laws.specs.Program.{head_cases}
use Rattle.meaning_laws.specs.Rows.{ctors_after_append}
use Rattle.meaning_laws.specs.Verdict.{verdict_line_at}
use Rattle.row3_order.specs.StepLaws.{heads_before_suc, heads_before_mono, count_before_mono, count_before_suc, last_head_suc}
use Rattle.row4_limits.specs.Limits.{start}
use Rattle.row4_limits.specs.LimitsLaws.{start_counts}
use Rattle.row5_ranges.specs.UnusedLaws.{stray, some_at}
use Rattle.table_access.specs.Tables.{nth, head_line, decls_of, first_of}
use Rattle.table_declared.specs.LineLaws.{good_line, nth_at}
use Rattle.table_declared.specs.DeclLaws.{line_inside, line_of_head, group_is, head_is_head, origin_local, wholes}
use Rattle.erasure_marks.specs.Marks.{type_erased}
use Rattle.keep_fields.specs.Keeps.{slots_at, erased_at, Slotted}
use Rattle.keep_fields.specs.KeepsLaws.{slot_is}
use Rattle.verdict_sheet.specs.Upto.{verdicts, Sheet}

-- ---- where a line stands
module _ (ls : List Line) where
  -- no declaration begins at a line past which there are no more than before it
  not_head : (i : ℕ) → i < length ls → heads_before ls (suc i) ≡ heads_before ls i → is_head (nth_line ls i) ≡ false
  not_head i h e = go (is_head (nth_line ls i)) refl
    where
      go : (c : Bool) → is_head (nth_line ls i) ≡ c → is_head (nth_line ls i) ≡ false
      go true q = absurd (omega (arith, rw q at (heads_before_suc ls i h)))
      go false q = q

  pub start_le : (d : ℕ) → start ls d ≤ length ls
  unfolding start
  start_le d = first_le (λ i. ltb d (heads_before ls (suc i))) (length ls)

  heads_most : (d i : ℕ) → i < start ls d → heads_before ls (suc i) ≤ d
  unfolding start
  heads_most d i h = ltb-false d (heads_before ls (suc i)) (first_before (λ j. ltb d (heads_before ls (suc j))) (length ls) i h)

  -- the C lines of a declaration, one line more
  ctors_suc : (i : ℕ) → i < length ls → ctors_after 0 (take (suc i) ls)
      ≡ pick (is_head (nth_line ls i)) 0 (pick (is ctor_line (nth_line ls i)) (suc (ctors_after 0 (take i ls))) (ctors_after 0 (take i ls)))
  unfolding ctors_after
  ctors_suc i h = rw (take-suc ls i bad, ctors_after_append)

  -- line i is one of declaration d
  module _ (d : ℕ) (h : d < decls_of ls) where
    starts : heads_before ls (start ls d) ≡ d
    starts = start_counts ls d (rw (take-length ls) h)

    pub heads_here : (i : ℕ) → start ls d ≤ i → i < start ls (suc d) → heads_before ls (suc i) ≡ suc d
    heads_here i a e =
        let n : i < length ls = omega (arith, start_le (suc d)) in
        let s = heads_before_suc ls (start ls d) (line_inside ls d h) in
        let t : heads_before ls (suc (start ls d)) ≡ d + 1 = rw (line_of_head ls d h, starts) at s in
        omega (arith, heads_most (suc d) i e, heads_before_mono ls (suc (start ls d)) (suc i) (omega arith) n)

    head_is : nth_line ls (start ls d) ≡ head_line ls d
    head_is = sym (ap (λ g. g.head) (group_is ls d h))

    -- no declaration begins past the first line
    none_from : (k : ℕ) → start ls d + suc k < start ls (suc d) → is_head (nth_line ls (suc (start ls d + k))) ≡ false
    none_from k l =
        not_head (suc (start ls d + k)) (omega (arith, start_le (suc d)))
        (omega (arith, heads_here (start ls d + k) (omega arith) (omega arith), heads_here (suc (start ls d + k)) (omega arith) (omega arith)))

    head_from : (k : ℕ) → start ls d + k < start ls (suc d) → head_of ls (start ls d + k) ≡ head_line ls d
    head_from zero l =
        let e : start ls d + 0 ≡ start ls d = omega arith in
        rw (e, last_head_suc ls (start ls d) (line_inside ls d h) bad, line_of_head ls d h) head_is
    head_from (suc k) l =
        let e : start ls d + suc k ≡ suc (start ls d + k) = omega arith in
        let n : suc (start ls d + k) < length ls = omega (arith, start_le (suc d)) in
        rw (e, last_head_suc ls (suc (start ls d + k)) n bad, none_from k l) (head_from k (omega arith))

    pub head_here : (i : ℕ) → start ls d ≤ i → i < start ls (suc d) → head_of ls i ≡ head_line ls d
    head_here i a e = let k : start ls d + (i - start ls d) ≡ i = omega arith in rw k at (head_from (i - start ls d) (omega arith))

    -- the C lines up to a line of the declaration are those before it and its own
    ctors_from : (k : ℕ) → start ls d + k < start ls (suc d)
        → count_before ctor_line ls (suc (start ls d + k)) ≡ first_of ctor_line ls d + ctors_after 0 (take (suc (start ls d + k)) ls)
    ctors_from zero l =
        let e : start ls d + 0 ≡ start ls d = omega arith in
        let c : is ctor_line (nth_line ls (start ls d)) ≡ false = ⊎_elim (λ q. rw q) (λ q. rw q) (head_cases (nth_line ls (start ls d)) (line_of_head ls d h)) in
        rw (e, count_before_suc ls (start ls d) (line_inside ls d h) ctor_line, ctors_suc (start ls d) (line_inside ls d h), line_of_head ls d h, c)
    ctors_from (suc k) l =
        let e : start ls d + suc k ≡ suc (start ls d + k) = omega arith in
        let n : suc (start ls d + k) < length ls = omega (arith, start_le (suc d)) in
        rw (e, count_before_suc ls (suc (start ls d + k)) n ctor_line, ctors_suc (suc (start ls d + k)) n, none_from k l)
        (go (is ctor_line (nth_line ls (suc (start ls d + k)))) _ _ _ (ctors_from k (omega arith)))
      where
        go : (c : Bool) (x y z : ℕ) → x ≡ y + z → x + pick c 1 0 ≡ y + pick c (suc z) z
        go true x y z q = omega arith
        go false x y z q = omega arith

    ctors_here : (i : ℕ) → start ls d ≤ i → i < start ls (suc d) → is_head (nth_line ls i) ≡ false → count_before ctor_line ls i ≡ first_of ctor_line ls d + ctors_after 0 (take i ls)
    ctors_here i a e n = go (eqb (start ls d) i) refl
      where
        go : (c : Bool) → eqb (start ls d) i ≡ c → count_before ctor_line ls i ≡ first_of ctor_line ls d + ctors_after 0 (take i ls)
        go true q = let z : start ls d ≡ i = eqb-true (start ls d) i q in contrary (is_head (nth_line ls i)) (rw z at (line_of_head ls d h)) n
        go false q =
            let z : start ls d ≡ i → ⊥ = eqb-false (start ls d) i q in
            let k : suc (start ls d + (i - start ls d - 1)) ≡ i = omega arith in
            rw k at (ctors_from (i - start ls d - 1) (omega arith))

  -- before the first declaration
  pub head_before : (i : ℕ) → i < start ls 0 → head_of ls i ≡ bad
  unfolding last_head select
  head_before zero h =
      let n : 0 < length ls = omega (arith, start_le 0) in
      rw (last_head_suc ls 0 n bad, not_head 0 n (omega (arith, heads_most 0 0 h)))
  head_before (suc i) h =
      let n : suc i < length ls = omega (arith, start_le 0) in
      rw (last_head_suc ls (suc i) n bad, not_head (suc i) n (omega (arith, heads_most 0 (suc i) h, heads_most 0 i (omega arith)))) (head_before i (omega arith))

-- ---- lines
-- a line of a letter other than N, by its numbers
as_row : (l : Line) (x : ℕ) → Fits 6 l → letter l ≡ x → (x ≡ 78 → ⊥) → l ≡ row x (number l 0 ∷ number l 1 ∷ number l 2 ∷ number l 3 ∷ number l 4 ∷ [])
as_row (named n t) x f e z = absurd (z (sym e))
as_row (row y ns) x f e z = rw (five_numbers ns f.1) (ap (λ (v : ℕ). row v ns) e)
as_row bad x f e z = absurd f

-- an unused number is 0
unused : (k : ℕ) (l : Line) → zeros_from k l ≡ true → (j : ℕ) → k ≤ j → j < 5 → number l j ≡ 0
unfolding zeros_from
unused k l e j a h = go (eqb (number l j) 0) refl
  where
    go : (c : Bool) → eqb (number l j) 0 ≡ c → number l j ≡ 0
    go true q = eqb-true (number l j) 0 q
    go false q = contrary (some_below (stray k l) 5) (some_at (stray k l) 5 j h (rw (le-leb k j a, q))) (not-true (some_below (stray k l) 5) e)

module _ (b : List ℕ) (p : Sheet b) where
  pub fits : AllFit 6 (lines 6 b)
  fits = fit_lines 6 b (line_good 6 b p.no_bad)

  pub fits_at : (i : ℕ) → i < length (lines 6 b) → Fits 6 (nth_line (lines 6 b) i)
  fits_at i h = every_at (Fits 6) bad (lines 6 b) fits i h

  good7 : (i : ℕ) → i < length (lines 6 b) → good_verdicts (lines 6 b) i ≡ true
  unfolding row7
  good7 i h = not-false (good_verdicts (lines 6 b) i) (none_first (row7 (lines 6 b)) (length (lines 6 b)) p.passed.in_verdict i h)

  -- line i of the verdict sheet
  told : (d i : ℕ) → i < length (lines 6 b) → heads_before (lines 6 b) (suc i) ≡ suc d
      → nth_line (verdicts (lines 6 b)) i
      ≡ verdict_line_of (marked (program (lines 6 b)) (erasure_fixpoint (program (lines 6 b))).marks) (trees (lines 6 b)) (info_at 100 (program (lines 6 b)) d) (head_of (lines 6 b) i) (ctors_after 0 (take i (lines 6 b))) (nth_line (lines 6 b) i)
  told d i h e =
      let n : heads_before (lines 6 b) (suc i) - 1 ≡ d = omega arith in
      rw n at (verdict_line_at 100 (lines 6 b) (wholes (lines 6 b) p.passed) i h)

  -- where no local declaration stands, lines stay
  stays : (i : ℕ) → i < length (lines 6 b) → is local_line (head_of (lines 6 b) i) ≡ false → nth_line (verdicts (lines 6 b)) i ≡ nth_line (lines 6 b) i
  unfolding verdict_line_of
  stays i h e = verdict_line_at 100 (lines 6 b) (wholes (lines 6 b) p.passed) i h ∙ rw e

  pub header_stays : (i : ℕ) → i < start (lines 6 b) 0 → nth_line (verdicts (lines 6 b)) i ≡ nth_line (lines 6 b) i
  header_stays i h = stays i (omega (arith, start_le (lines 6 b) 0)) (rw (head_before (lines 6 b) i h))

  import_not_local : (l : Line) → is import_line l ≡ true → is local_line l ≡ false
  import_not_local l e = rw (eqb-true (letter l) 73 e)

  pub import_stays : (d : ℕ) → d < decls_of (lines 6 b) → is import_line (head_line (lines 6 b) d) ≡ true
      → (i : ℕ) → start (lines 6 b) d ≤ i → i < start (lines 6 b) (suc d) → nth_line (verdicts (lines 6 b)) i ≡ nth_line (lines 6 b) i
  import_stays d h e i a l =
      stays i (omega (arith, start_le (lines 6 b) (suc d))) (rw (head_here (lines 6 b) d h i a l) (import_not_local (head_line (lines 6 b) d) e))

  -- line i of declaration d, which is local
  module _ (d i : ℕ) (h : d < decls_of (lines 6 b)) (e : is import_line (head_line (lines 6 b) d) ≡ false) (a : start (lines 6 b) d ≤ i) (o : i < start (lines 6 b) (suc d)) where
    abbrev at : Line
    at = nth_line (lines 6 b) i

    pub inside : i < length (lines 6 b)
    inside = omega (arith, start_le (lines 6 b) (suc d))

    is_local : is local_line (head_line (lines 6 b) d) ≡ true
    is_local = go (is local_line (head_line (lines 6 b) d)) refl (head_is_head (lines 6 b) d h)
      where
        go : (c : Bool) → is local_line (head_line (lines 6 b) d) ≡ c → is_head (head_line (lines 6 b) d) ≡ true → is local_line (head_line (lines 6 b) d) ≡ true
        go true q m = q
        go false q m = false_true (rw (q, e) at m)

    here_told : nth_line (verdicts (lines 6 b)) i
        ≡ verdict_line_of (marked (program (lines 6 b)) (erasure_fixpoint (program (lines 6 b))).marks) (trees (lines 6 b)) (info_at 100 (program (lines 6 b)) d) (head_line (lines 6 b) d) (ctors_after 0 (take i (lines 6 b))) at
    here_told = rw (head_here (lines 6 b) d h i a o) at (told d i inside (heads_here (lines 6 b) d h i a o))

    pub local_head : letter at ≡ 68 → (at ≡ row 68 (number at 0 ∷ number at 1 ∷ number at 2 ∷ number at 3 ∷ number at 4 ∷ []))
        × (nth_line (verdicts (lines 6 b)) i ≡ row 73 (number at 0 ∷ number at 1 ∷ number at 2 ∷ number at 3 ∷ number at 4 ∷ []))
    unfolding verdict_line_of
    local_head q = (as_row at 68 (fits_at i inside) q (λ z. omega arith), here_told ∙ rw (is_local, q))

    zero_tag : letter at ≡ 67 → number at 2 ≡ 0
    unfolding good_verdicts
    zero_tag q = eqb-true (number at 2) 0 (rw (head_here (lines 6 b) d h i a o, q, e) at (good7 i inside))

    zero_ctor : letter at ≡ 67 → (j : ℕ) → 3 ≤ j → j < 5 → number at j ≡ 0
    unfolding good_numbers
    zero_ctor q j =
        let g : (ltb (number at 0) (count_of 78 (lines 6 b)) && zeros_from 3 at) ≡ true = rw q at (good_line (lines 6 b) p.passed i inside) in
        unused 3 at (both (ltb (number at 0) (count_of 78 (lines 6 b))) (zeros_from 3 at) g).1 j

    -- a C line's place among those of its declaration
    pub local_place : letter at ≡ 67 → count_before ctor_line (lines 6 b) i ≡ first_of ctor_line (lines 6 b) d + ctors_after 0 (take i (lines 6 b))
    local_place q = ctors_here (lines 6 b) d h i a o (rw q)

    pub local_ctor : letter at ≡ 67
        → (at ≡ row 67 (number at 0 ∷ number at 1 ∷ 0 ∷ 0 ∷ 0 ∷ []))
        × (nth_line (verdicts (lines 6 b)) i ≡ row 67 (number at 0 ∷ number at 1 ∷ tag_number (ctor_tag (number (head_line (lines 6 b) d) 4) (ctors_after 0 (take i (lines 6 b)))) ∷ 0 ∷ 0 ∷ []))
    unfolding verdict_line_of
    local_ctor q = (
      as_row at 67 (fits_at i inside) q (λ z. omega arith) ∙ rw (zero_tag q, zero_ctor q 3 (omega arith) (omega arith), zero_ctor q 4 (omega arith) (omega arith)),
      here_told ∙ rw (is_local, q),
    )

    zero_keep : letter at ≡ 70 → number at 2 ≡ 0
    unfolding good_verdicts
    zero_keep q =
        let g : leb (number at 2) 0 ≡ true = rw (head_here (lines 6 b) d h i a o, q, e) at (good7 i inside) in
        omega (arith, leb-true (number at 2) 0 g)

    zero_field : letter at ≡ 70 → (j : ℕ) → 3 ≤ j → j < 5 → number at j ≡ 0
    unfolding good_numbers
    zero_field q j =
        let g : (ltb (number at 0) (count_of 78 (lines 6 b)) && ltb (number at 1) (count_of 89 (lines 6 b)) && zeros_from 3 at) ≡ true = rw q at (good_line (lines 6 b) p.passed i inside) in
        unused 3 at (both (ltb (number at 0) (count_of 78 (lines 6 b)) && ltb (number at 1) (count_of 89 (lines 6 b))) (zeros_from 3 at) g).1 j

    -- the keep table's entry of an F line
    pub local_entry : (keep : List ℕ) → Slotted (lines 6 b) keep → letter at ≡ 70
        → get_or keep (count_before field_line (lines 6 b) i) 0 ≡ bit (not (cty_erased (marked (program (lines 6 b)) (erasure_fixpoint (program (lines 6 b))).marks) (type_at (trees (lines 6 b)) (number at 1))))
    unfolding type_erased
    local_entry keep s q =
        let ls : List Line = lines 6 b in
        let f : ℕ = count_before field_line ls i in
        let lo : first_of field_line ls d ≤ f = count_before_mono ls field_line (start ls d) i a (omega (arith, inside)) in
        let one : is field_line at ≡ true = rw q in
        let up : count_before field_line ls (suc i) ≡ f + 1 = rw one at (count_before_suc ls i inside field_line) in
        let hi : count_before field_line ls (suc i) ≤ first_of field_line ls (suc d) = count_before_mono ls field_line (suc i) (start ls (suc d)) o (start_le ls (suc d)) in
        let k : f - first_of field_line ls d < length (slots_at (program ls) d) = omega (arith, s.sized d h) in
        let m : first_of field_line ls d + (f - first_of field_line ls d) ≡ f = omega arith in
        let n : nth field_line ls f ≡ at = (nth_at field_line ls i inside one).1 in
        let v = slot_is (lines 6 b) p.passed d h (f - first_of field_line ls d) k in
        let w : get_or (slots_at (program ls) d) (f - first_of field_line ls d) false ≡ not (erased_at ls (number at 1)) = rw (m, e, n) at v in
        (rw m at (s.slots d h (f - first_of field_line ls d) k)) ∙ ap bit w

    pub local_field : (keep : List ℕ) → Slotted (lines 6 b) keep → letter at ≡ 70
        → (at ≡ row 70 (number at 0 ∷ number at 1 ∷ 0 ∷ 0 ∷ 0 ∷ []))
        × (nth_line (verdicts (lines 6 b)) i ≡ row 70 (number at 0 ∷ number at 1 ∷ get_or keep (count_before field_line (lines 6 b) i) 0 ∷ 0 ∷ 0 ∷ []))
    unfolding verdict_line_of
    local_field keep s q = (
      as_row at 70 (fits_at i inside) q (λ z. omega arith) ∙ rw (zero_keep q, zero_field q 3 (omega arith) (omega arith), zero_field q 4 (omega arith) (omega arith)),
      here_told ∙ rw (is_local, q, local_entry keep s q),
    )

    zero_told : letter at ≡ 86 → (number at 0 ≡ 0) × (number at 1 ≡ 0) × (number at 2 ≡ 0)
    unfolding good_verdicts
    zero_told q =
        let g : (eqb (number at 0) 0 && eqb (number at 1) 0 && eqb (number at 2) 0) ≡ true = rw (head_here (lines 6 b) d h i a o, q, e) at (good7 i inside) in
        let x = both (eqb (number at 0) 0 && eqb (number at 1) 0) (eqb (number at 2) 0) g in
        let y = both (eqb (number at 0) 0) (eqb (number at 1) 0) x.0 in
        (eqb-true (number at 0) 0 y.0, eqb-true (number at 1) 0 y.1, eqb-true (number at 2) 0 x.1)

    zero_verdict : letter at ≡ 86 → (j : ℕ) → 3 ≤ j → j < 5 → number at j ≡ 0
    unfolding good_numbers
    zero_verdict q j = unused 3 at (rw q at (good_line (lines 6 b) p.passed i inside)) j

    pub local_verdict : letter at ≡ 86
        → (at ≡ row 86 (0 ∷ 0 ∷ 0 ∷ 0 ∷ 0 ∷ []))
        × (nth_line (verdicts (lines 6 b)) i
        ≡ row 86 (bit (get_or (erasure_fixpoint (program (lines 6 b))).marks d false) ∷ layout_number (layout_of_decl (program (lines 6 b)) d) ∷ bit (record_of (left_at 100 (program (lines 6 b)) d)) ∷ 0 ∷ 0 ∷ []))
    unfolding verdict_line_of
    local_verdict q =
        let z = zero_told q in (
          as_row at 86 (fits_at i inside) q (λ z. omega arith) ∙ rw (z.0, z.1, z.2, zero_verdict q 3 (omega arith) (omega arith), zero_verdict q 4 (omega arith) (omega arith)),
          here_told ∙ rw (is_local, q, local_info 100 (program (lines 6 b)) d (origin_local (lines 6 b) d h e)),
        )

    -- a D or I line here is the declaration's first
    no_import : is import_line at ≡ false
    no_import = go (is import_line at) refl
      where
        go : (c : Bool) → is import_line at ≡ c → is import_line at ≡ false
        go true q =
            let x : letter at ≡ 73 = eqb-true (letter at) 73 q in
            let y : head_of (lines 6 b) i ≡ at = rw x at (last_head_suc (lines 6 b) i inside bad) in
            contrary (is import_line at) q (ap (is import_line) (sym y ∙ head_here (lines 6 b) d h i a o) ∙ e)
        go false q = q

    pub local_other : (letter at ≡ 70 → ⊥) → (letter at ≡ 67 → ⊥) → (letter at ≡ 68 → ⊥) → (letter at ≡ 86 → ⊥) → nth_line (verdicts (lines 6 b)) i ≡ at
    unfolding verdict_line_of
    local_other w x y z = here_told ∙ rw (is_local, ne_eqb (letter at) 70 w, ne_eqb (letter at) 67 x, ne_eqb (letter at) 68 y, no_import, ne_eqb (letter at) 86 z)
