-- Rows 8 to 10 test declarations and tell lines: the first line that begins a declaration of which the test holds is the line
-- of the first such declaration. So each of the rows is told by the number of that declaration. Assumes nothing.
use Rattle.std.specs.Prelude.{◌≡◌, List, [], ◌∷◌, Bool, not, ℕ, suc, ◌+◌, ◌≤◌, ◌<◌, eqb, length}
use Rattle.std.proofs.Math.Path.{refl}
use Rattle.std.proofs.Common.{ap, sym, ◌∙◌, arith, lt-ltb, le-ltb, ltb-true, ltb-false}
use Rattle.std.proofs.Math.Bool.{true, false}
use Rattle.std.proofs.Math.Dec.{ltb}
use Rattle.std.proofs.Math.Seq.{take-length}
use Rattle.number_columns.specs.Column.{pick}
use Rattle.sheet.specs.Format.{Format}
use Rattle.sheet.specs.Line.{Line}
use Rattle.sheet.specs.Sheet.{first}
use Rattle.sheet.proofs.FirstLaws.{first_place, place_unique, first_le, first_holds, first_before}
use Rattle.model.specs.Decl.{Decl}
use Rattle.model.specs.Run.{layouts_of, returns, decl_fault, resolves, lay, layout_of_decl}
use Rattle.meaning.specs.Program.{is_head, program}
use Rattle.meaning.specs.Rows.{nth_line, heads_before}
use Rattle.answer.specs.declared.Refusal.TheVariants.{Accepted, Refused}
use Rattle.answer.specs.Answer.{Row, line_row, at_head, row8, fault_at, row9_10, refusal}
use Rattle.row3_order.specs.StepLaws.{heads_before_step, heads_before_mono}
use Rattle.row4_limits.specs.Limits.{start}
use Rattle.row4_limits.specs.LimitsLaws.{start_past, start_within, start_head, start_counts}
use Rattle.table_access.specs.Tables.{decls_of}
use Rattle.sheet.proofs.ListLaws.{Every}
use Rattle.model_laws.specs.Fuel.{NoReturn}
use Rattle.model_laws.specs.Resolve.{Resolved}
use Rattle.answer_laws.specs.Left.{lines_no_return, lines_resolved}
use Rattle.answer_laws.specs.Answer.{accepted_clear}

-- a row by the first number i at which its test holds, and whether that is below its bound
row_told : (row : Row) (rs : List Row) (i : ℕ) (c : Bool) → first row.test row.bound ≡ i → ltb i row.bound ≡ c → refusal (row ∷ rs) ≡ pick c (Refused (row.code i) (row.place i)) (refusal rs)
unfolding refusal
row_told row rs i c e q = go (first row.test row.bound) e c (ap (λ (k : ℕ). ltb k row.bound) e ∙ q)
  where
    go : (k : ℕ) → k ≡ i → (c : Bool) → ltb k row.bound ≡ c
        → elim (ltb k row.bound) [ true ↦ Refused (row.code k) (row.place k) | false ↦ refusal rs ] ≡ pick c (Refused (row.code i) (row.place i)) (refusal rs)
    go k z true x = rw (x, z)
    go k z false x = rw x

module _ (ls : List Line) where
  all_heads : heads_before ls (length ls) ≡ decls_of ls
  all_heads = rw (take-length ls)

  -- declaration d begins at a line of the sheet, before which d others begin
  pub start_inside : (d : ℕ) → d < decls_of ls → start ls d < length ls
  start_inside d h = start_within ls d (rw all_heads h)

  pub heads_at : (d : ℕ) → d < decls_of ls → heads_before ls (start ls d) ≡ d
  heads_at d h = start_counts ls d (rw all_heads h)

  -- past the last declaration the lines end
  pub start_end : (d : ℕ) → decls_of ls ≤ d → start ls d ≡ length ls
  start_end d h = start_past ls d (rw all_heads h)

  start_le : (d : ℕ) → start ls d ≤ length ls
  start_le d = go (ltb d (decls_of ls)) refl
    where
      go : (c : Bool) → ltb d (decls_of ls) ≡ c → start ls d ≤ length ls
      go true e = omega (arith, start_inside d (ltb-true d (decls_of ls) e))
      go false e = omega (arith, start_end d (ltb-false d (decls_of ls) e))

  heads_le : (d : ℕ) → d ≤ decls_of ls → heads_before ls (start ls d) ≤ d
  heads_le d h = go (ltb d (decls_of ls)) refl
    where
      go : (c : Bool) → ltb d (decls_of ls) ≡ c → heads_before ls (start ls d) ≤ d
      go true e = omega (arith, heads_at d (ltb-true d (decls_of ls) e))
      go false e = rw (start_end d (ltb-false d (decls_of ls) e), all_heads) (ltb-false d (decls_of ls) e)

  -- a number starts at a line exactly where it is that of a declaration
  head_test : (r : ℕ) (c : Bool) → ltb r (decls_of ls) ≡ c → ltb (start ls r) (length ls) ≡ c
  head_test r true e = lt-ltb (start ls r) (length ls) (start_inside r (ltb-true r (decls_of ls) e))
  head_test r false e = le-ltb (start ls r) (length ls) (omega (arith, start_end r (ltb-false r (decls_of ls) e)))

  -- ---- the first line of a row
  module _ (p : ℕ → Bool) where
    at_start : (d : ℕ) → d < decls_of ls → p d ≡ true → at_head ls p (start ls d) ≡ true
    at_start d h e = go (is_head (nth_line ls (start ls d))) (start_head ls d (rw all_heads h))
      where
        go : (c : Bool) → c ≡ true → elim c [ true ↦ p (heads_before ls (start ls d)) | false ↦ false ] ≡ true
        go true q = rw (heads_at d h) e
        go false q = q

    none_before : (d : ℕ) → d ≤ decls_of ls → ((k : ℕ) → k < d → p k ≡ false) → (i : ℕ) → i < start ls d → at_head ls p i ≡ false
    none_before d h n i l = go (is_head (nth_line ls i)) refl
      where
        go : (c : Bool) → is_head (nth_line ls i) ≡ c → elim c [ true ↦ p (heads_before ls i) | false ↦ false ] ≡ false
        go true e =
            let a : i < length ls = omega (arith, start_le d) in
            let s : heads_before ls (suc i) ≡ heads_before ls i + 1 = rw e at (heads_before_step ls i a) in
            n (heads_before ls i) (omega (arith, heads_before_mono ls (suc i) (start ls d) l (start_le d), heads_le d h))
        go false e = refl

    -- The first line at which a declaration begins of which the test holds: the line of the first such declaration, and where there
    -- is none the count of lines, at which the number of declarations starts.
    pub head_first : first (at_head ls p) (length ls) ≡ start ls (first p (decls_of ls))
    head_first =
        let r : ℕ = first p (decls_of ls) in
        place_unique (at_head ls p) (length ls) (first (at_head ls p) (length ls)) (start ls r) (first_place (at_head ls p) (length ls))
        (record {
          within = start_le r;
          holds = λ l. go (ltb r (decls_of ls)) refl l;
          before = none_before r (first_le p (decls_of ls)) (first_before p (decls_of ls));
        })
      where
        go : (c : Bool) → ltb (first p (decls_of ls)) (decls_of ls) ≡ c → start ls (first p (decls_of ls)) < length ls → at_head ls p (start ls (first p (decls_of ls))) ≡ true
        go true e l =
            let k = ltb-true (first p (decls_of ls)) (decls_of ls) e in
            at_start (first p (decls_of ls)) k (first_holds p (decls_of ls) k)
        go false e l = absurd (omega (arith, start_end (first p (decls_of ls)) (ltb-false (first p (decls_of ls)) (decls_of ls) e)))

    -- ---- the row
    -- Where r is the first declaration of which the test holds, the row refuses at its line.
    pub head_refusal : (n : ℕ) → length ls ≡ n → (code : ℕ → ℕ) (rs : List Row) (r : ℕ) → r ≡ first p (decls_of ls)
        → refusal (record { bound = n; test = at_head ls p; code = code; place = λ i. i } ∷ rs) ≡ pick (ltb r (decls_of ls)) (Refused (code (start ls r)) (start ls r)) (refusal rs)
    head_refusal n e code rs r q =
        row_told (record { bound = n; test = at_head ls p; code = code; place = λ i. i }) rs (start ls r) (ltb r (decls_of ls))
        (ap (first (at_head ls p)) (sym e) ∙ head_first ∙ ap (start ls) (sym q))
        (ap (ltb (start ls r)) (sym e) ∙ head_test r (ltb r (decls_of ls)) refl)

-- ---- rows 8 to 10 of a sheet
-- declaration k meets a fault
unfoldable pub faulty : Format → List Decl → ℕ → Bool
faulty f ds k = not (eqb (decl_fault f.nodes f.fuel ds (layouts_of ds) k) 0)

-- row 8; rows 9 and 10, which share one pass over the lines where declarations begin
abbrev pub returns_row : List Line → Row
returns_row ls = line_row 8 (length ls) (row8 (program ls) ls)

abbrev pub faults_row : Format → List Line → Row
faults_row f ls = record { bound = length ls; test = row9_10 f (program ls) ls; code = fault_at f (program ls) ls; place = λ i. i }

module _ (ls : List Line) where
  abbrev ds : List Decl
  ds = program ls

  -- Row 8, with the rows behind it.
  pub row8_refusal : (rs : List Row) (r : ℕ) → r ≡ first (returns ds (layouts_of ds)) (decls_of ls) → refusal (returns_row ls ∷ rs) ≡ pick (ltb r (decls_of ls)) (Refused 8 (start ls r)) (refusal rs)
  unfolding row8
  row8_refusal rs r q = head_refusal ls (returns ds (layouts_of ds)) (length ls) refl (λ i. 8) rs r q

  -- Rows 9 and 10.
  pub fault_refusal : (f : Format) (rs : List Row) (r : ℕ) → r ≡ first (faulty f ds) (decls_of ls)
      → refusal (faults_row f ls ∷ rs) ≡ pick (ltb r (decls_of ls)) (Refused (decl_fault f.nodes f.fuel ds (layouts_of ds) r) (start ls r)) (refusal rs)
  unfolding row9_10 faulty fault_at
  fault_refusal f rs r q = head_refusal ls (faulty f ds) (length ls) refl (fault_at f ds ls) rs r q ∙ go (ltb r (decls_of ls)) refl
    where
      go : (c : Bool) → ltb r (decls_of ls) ≡ c
          → pick c (Refused (decl_fault f.nodes f.fuel ds (layouts_of ds) (heads_before ls (start ls r))) (start ls r)) (refusal rs)
          ≡ pick c (Refused (decl_fault f.nodes f.fuel ds (layouts_of ds) r) (start ls r)) (refusal rs)
      go true e = rw (heads_at ls r (ltb-true r (decls_of ls) e))
      go false e = refl

-- ---- lines to which none of them applies
-- nothing returns to itself, and every type that is resolved resolves without fault and is small
pub record Resolvable (f : Format) (ls : List Line) : Type 0 where
  pub no_return : NoReturn (program ls)
  pub resolved : (i : ℕ) → i < length (program ls) → Every (Resolved f.nodes (lay (program ls)) f.fuel) (resolves (layout_of_decl (program ls) i))

pub resolvable : (f : Format) (ls : List Line) → refusal (returns_row ls ∷ []) ≡ Accepted → refusal (faults_row f ls ∷ []) ≡ Accepted → Resolvable f ls
resolvable f ls r e =
    record {
      no_return = lines_no_return ls (accepted_clear (returns_row ls ∷ []) r).0;
      resolved = lines_resolved f ls (accepted_clear (faults_row f ls ∷ []) e).0;
    }
