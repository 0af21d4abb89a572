-- A sheet in two parts, by its lines: the first part passes with the whole, and its verdict sheet may
-- stand for it. Assumes nothing.
use Rattle.std.specs.Prelude.{◌↔◌, ◌≡◌, List, ◌++◌, map, Bool, not, ℕ, ◌+◌, ◌<◌, eqb, length, drop}
use Rattle.std.proofs.Common.{sym, ◌∙◌, ap, subst, arith, length-append}
use Rattle.sheet.specs.Format.{Format}
use Rattle.sheet.specs.Line.{Line}
use Rattle.model.specs.Decl.{Decl, TypeInfo}
use Rattle.meaning.specs.Program.{is_head, groups, trees, decl_of, program}
use Rattle.meaning.specs.Rows.{row3, row4, row5, row6, row7}
use Rattle.model.specs.Run.{somes, left_program, run, layouts_of, returns, decl_fault}
use Rattle.meaning.specs.Output.{verdict_lines, left_lines}
use Rattle.model.specs.Names.{Distinct, pins, OwnImports}
use Rattle.meaning_laws.specs.Program.{Starts, program_append, AllEnded, AllTold, length_verdict_lines, told_groups, run_told, program_cut, verdict_lines_cut, left_lines_cut}
use Rattle.meaning_laws.specs.Rows.{Ends, row3_ends, ends_row3, ends_prefix, ends_whole, ended_row5, row3_verdict, row4_verdict, row5_verdict, row6_verdict, row7_cut, NoHeader, no_header, row4_prefix, row5_prefix, row6_prefix, row7_prefix}
use Rattle.answer.specs.Answer.{Clear}
use Rattle.answer_laws.specs.Pass.{distinct_program, own_imports}
use Rattle.model_laws.specs.Pinning.{Apart, prefix_fault, prefix_returns, first_length, prefix_infos, imported_lefts, imported_infos, imported_fault, imported_returns}

-- ---- rows 3 to 10 on lines
pub record Checks (f : Format) (ls : List Line) : Type 0 where
  pub ends : Ends ls
  pub clear4 : Clear (length ls) (row4 f ls)
  pub clear5 : Clear (length ls) (row5 ls)
  pub clear6 : Clear (length ls) (row6 ls)
  pub clear7 : Clear (length ls) (row7 ls)
  pub clear8 : Clear (length (program ls)) (returns (program ls) (layouts_of (program ls)))
  pub clear9_10 : Clear (length (program ls)) (λ k. not (eqb (decl_fault f.nodes f.fuel (program ls) (layouts_of (program ls)) k) 0))

-- the declarations of the second part, with the types of the first
abbrev pub later : List Line → List Line → List Decl
later ps qs = map (decl_of (trees ps)) (groups is_head qs)

pub program_parts : (ps qs : List Line) → Starts is_head qs → Ends (ps ++ qs) → program (ps ++ qs) ≡ program ps ++ later ps qs
program_parts ps qs s e = let n : NoHeader qs = no_header ps qs s e in program_append ps qs s n.args n.types

clear_left : (ps qs : List Line) (p q : ℕ → Bool) → Clear (length (ps ++ qs)) p → ((i : ℕ) → i < length ps → p i ≡ q i) → Clear (length ps) q
clear_left ps qs p q h e i k = sym (e i k) ∙ h i (rw length-append (omega arith))

-- facts of the whole's program, by its parts
module _ (ps qs : List Line) (starts : Starts is_head qs) (ends : Ends (ps ++ qs)) where
  abbrev pub parts : List Decl
  parts = program ps ++ later ps qs

  pub whole_parts : program (ps ++ qs) ≡ program ps ++ later ps qs
  whole_parts = program_parts ps qs starts ends

  pub parts_distinct : Clear (length (ps ++ qs)) (row6 (ps ++ qs)) → Distinct (program ps ++ later ps qs)
  parts_distinct c = subst Distinct whole_parts (distinct_program (ps ++ qs) c)

  pub parts_own : OwnImports (program ps ++ later ps qs)
  parts_own = subst OwnImports whole_parts (own_imports (ps ++ qs))

module _ (f : Format) (ps qs : List Line) (starts : Starts is_head qs) (apart : Apart (program ps) (later ps qs)) where
  -- the first part passes with the whole
  pub checks_prefix : Checks f (ps ++ qs) → Checks f ps
  checks_prefix c =
      let n : NoHeader qs = no_header ps qs starts c.ends in
      let e : program (ps ++ qs) ≡ program ps ++ later ps qs = whole_parts ps qs starts c.ends in
      let d : Distinct (program ps ++ later ps qs) = parts_distinct ps qs starts c.ends c.clear6 in
      let c8 : Clear (length (program ps ++ later ps qs)) (returns (program ps ++ later ps qs) (layouts_of (program ps ++ later ps qs))) =
      subst (λ (ds : List Decl). Clear (length ds) (returns ds (layouts_of ds))) e c.clear8 in
      let c9 : Clear (length (program ps ++ later ps qs)) (λ k. not (eqb (decl_fault f.nodes f.fuel (program ps ++ later ps qs) (layouts_of (program ps ++ later ps qs)) k) 0)) =
      subst (λ (ds : List Decl). Clear (length ds) (λ k. not (eqb (decl_fault f.nodes f.fuel ds (layouts_of ds) k) 0))) e c.clear9_10 in
      record {
        ends = ends_prefix ps qs starts c.ends;
        clear4 = clear_left ps qs (row4 f (ps ++ qs)) (row4 f ps) c.clear4 (λ i h. row4_prefix f ps qs i h);
        clear5 = clear_left ps qs (row5 (ps ++ qs)) (row5 ps) c.clear5 (λ i h. row5_prefix ps qs i n.names n.args n.types h);
        clear6 = clear_left ps qs (row6 (ps ++ qs)) (row6 ps) c.clear6 (λ i h. row6_prefix ps qs i h);
        clear7 = clear_left ps qs (row7 (ps ++ qs)) (row7 ps) c.clear7 (λ i h. row7_prefix ps qs i h);
        clear8 = λ k h. prefix_returns (program ps) (later ps qs) d apart f.fuel (own_imports ps) (parts_own ps qs starts c.ends) k h ∙ c8 k (rw length-append (omega arith));
        clear9_10 = λ k h. ap (λ (x : ℕ). not (eqb x 0)) (prefix_fault (program ps) (later ps qs) d apart f.fuel (own_imports ps) f.nodes k h) ∙ c9 k (rw length-append (omega arith));
      }

-- ---- the first part's verdict sheet in its place
abbrev pub verdicts : Format → List Line → List Line
verdicts f ps = verdict_lines ps (run f.fuel (program ps)).infos

-- The rows that look at lines alone test the same at each line.
pub record SameRows (f : Format) (ps qs : List Line) : Type 0 where
  pub same_length : length (verdicts f ps ++ qs) ≡ length (ps ++ qs)
  pub same_ends : Ends (verdicts f ps ++ qs) ↔ Ends (ps ++ qs)
  pub same4 : (i : ℕ) → row4 f (verdicts f ps ++ qs) i ≡ row4 f (ps ++ qs) i
  pub same5 : (i : ℕ) → row5 (verdicts f ps ++ qs) i ≡ row5 (ps ++ qs) i
  pub same6 : (i : ℕ) → row6 (verdicts f ps ++ qs) i ≡ row6 (ps ++ qs) i
  pub same7 : (i : ℕ) → row7 (verdicts f ps ++ qs) i ≡ row7 (ps ++ qs) i

pub same_rows : (f : Format) (ps qs : List Line) → Checks f ps → Starts is_head qs → SameRows f ps qs
same_rows f ps qs c st =
    let tis : List TypeInfo = (run f.fuel (program ps)).infos in
    let t : AllTold (program ps) tis = run_told f.fuel (program ps) in
    let n : length tis ≡ length (groups is_head ps) = told_groups ps tis t in
    let h : AllEnded ps = ended_row5 ps c.clear5 in
    let three : (i : ℕ) → row3 (verdicts f ps ++ qs) i ≡ row3 (ps ++ qs) i = row3_verdict ps qs tis n h in
    record {
      same_length = length-append (verdicts f ps) qs ∙ (ap (λ (k : ℕ). k + length qs) (length_verdict_lines ps tis n) ∙ sym (length-append ps qs));
      same_ends = (
        λ e. row3_ends (ps ++ qs) (λ i k. sym (three i) ∙ ends_row3 (verdicts f ps ++ qs) e i),
        λ e. row3_ends (verdicts f ps ++ qs) (λ i k. three i ∙ ends_row3 (ps ++ qs) e i),
      );
      same4 = row4_verdict ps qs tis n h f;
      same5 = row5_verdict ps qs tis n h;
      same6 = row6_verdict ps qs tis n h;
      same7 = row7_cut ps qs tis st (ends_whole ps c.ends) t c.clear7;
    }

clear_same : (m n : ℕ) (p q : ℕ → Bool) → m ≡ n → ((i : ℕ) → p i ≡ q i) → Clear m p → Clear n q
clear_same m n p q e s h i k = sym (s i) ∙ h i (omega arith)

module _ (f : Format) (ps qs : List Line) (starts : Starts is_head qs) (apart : Apart (program ps) (later ps qs)) (c : Checks f ps) (r : SameRows f ps qs) where
  ended : AllEnded ps
  ended = ended_row5 ps c.clear5

  -- its program has the first part imported
  pub program_imported : Ends (ps ++ qs) → program (verdicts f ps ++ qs) ≡ pins (program ps) (run f.fuel (program ps)).infos ++ later ps qs
  program_imported e =
      let n : NoHeader qs = no_header ps qs starts e in
      program_cut ps qs (run f.fuel (program ps)).infos (run_told f.fuel (program ps)) (ends_whole ps c.ends) ended starts n.args n.types

  pub checks_import : Checks f (verdicts f ps ++ qs) ↔ Checks f (ps ++ qs)
  checks_import = (
    λ k.
        let e : Ends (ps ++ qs) = r.same_ends.0 k.ends in
        let six : Clear (length (ps ++ qs)) (row6 (ps ++ qs)) = clear_same (length (verdicts f ps ++ qs)) (length (ps ++ qs)) (row6 (verdicts f ps ++ qs)) (row6 (ps ++ qs)) r.same_length r.same6 k.clear6 in
        let d : Distinct (program ps ++ later ps qs) = parts_distinct ps qs starts e six in
        record {
          ends = e;
          clear4 = clear_same (length (verdicts f ps ++ qs)) (length (ps ++ qs)) (row4 f (verdicts f ps ++ qs)) (row4 f (ps ++ qs)) r.same_length r.same4 k.clear4;
          clear5 = clear_same (length (verdicts f ps ++ qs)) (length (ps ++ qs)) (row5 (verdicts f ps ++ qs)) (row5 (ps ++ qs)) r.same_length r.same5 k.clear5;
          clear6 = six;
          clear7 = clear_same (length (verdicts f ps ++ qs)) (length (ps ++ qs)) (row7 (verdicts f ps ++ qs)) (row7 (ps ++ qs)) r.same_length r.same7 k.clear7;
          clear8 = (loops e d).0 k.clear8;
          clear9_10 = (faults e d).0 k.clear9_10;
        },
    λ k.
        let d : Distinct (program ps ++ later ps qs) = parts_distinct ps qs starts k.ends k.clear6 in
        record {
          ends = r.same_ends.1 k.ends;
          clear4 = clear_same (length (ps ++ qs)) (length (verdicts f ps ++ qs)) (row4 f (ps ++ qs)) (row4 f (verdicts f ps ++ qs)) (sym r.same_length) (λ i. sym (r.same4 i)) k.clear4;
          clear5 = clear_same (length (ps ++ qs)) (length (verdicts f ps ++ qs)) (row5 (ps ++ qs)) (row5 (verdicts f ps ++ qs)) (sym r.same_length) (λ i. sym (r.same5 i)) k.clear5;
          clear6 = clear_same (length (ps ++ qs)) (length (verdicts f ps ++ qs)) (row6 (ps ++ qs)) (row6 (verdicts f ps ++ qs)) (sym r.same_length) (λ i. sym (r.same6 i)) k.clear6;
          clear7 = clear_same (length (ps ++ qs)) (length (verdicts f ps ++ qs)) (row7 (ps ++ qs)) (row7 (verdicts f ps ++ qs)) (sym r.same_length) (λ i. sym (r.same7 i)) k.clear7;
          clear8 = (loops k.ends d).1 k.clear8;
          clear9_10 = (faults k.ends d).1 k.clear9_10;
        },
  )
    where
      A : List Decl
      A = program ps ++ later ps qs

      A' : List Decl
      A' = pins (program ps) (run f.fuel (program ps)).infos ++ later ps qs

      Loops : List Decl → Type 0
      Loops ds = Clear (length ds) (returns ds (layouts_of ds))

      Faults : List Decl → Type 0
      Faults ds = Clear (length ds) (λ k. not (eqb (decl_fault f.nodes f.fuel ds (layouts_of ds) k) 0))

      loops : Ends (ps ++ qs) → Distinct A → Loops (program (verdicts f ps ++ qs)) ↔ Loops (program (ps ++ qs))
      loops e d =
          let s = imported_returns (program ps) (later ps qs) d apart f.fuel (own_imports ps) in
          let n : length A ≡ length A' = first_length (program ps) (later ps qs) d apart f.fuel (own_imports ps) in (
            λ k. subst Loops (sym (whole_parts ps qs starts e)) (clear_same (length A') (length A) (returns A' (layouts_of A')) (returns A (layouts_of A)) (sym n) (λ i. sym (s i)) (subst Loops (program_imported e) k)),
            λ k. subst Loops (sym (program_imported e)) (clear_same (length A) (length A') (returns A (layouts_of A)) (returns A' (layouts_of A')) n s (subst Loops (whole_parts ps qs starts e) k)),
          )

      faults : Ends (ps ++ qs) → Distinct A → Faults (program (verdicts f ps ++ qs)) ↔ Faults (program (ps ++ qs))
      faults e d =
          let s = imported_fault (program ps) (later ps qs) d apart f.fuel (own_imports ps) f.nodes in
          let n : length A ≡ length A' = first_length (program ps) (later ps qs) d apart f.fuel (own_imports ps) in
          let t : (ds : List Decl) → ℕ → Bool = λ ds k. not (eqb (decl_fault f.nodes f.fuel ds (layouts_of ds) k) 0) in (
            λ k. subst Faults (sym (whole_parts ps qs starts e)) (clear_same (length A') (length A) (t A') (t A) (sym n) (λ i. ap (λ (x : ℕ). not (eqb x 0)) (sym (s i))) (subst Faults (program_imported e) k)),
            λ k. subst Faults (sym (program_imported e)) (clear_same (length A) (length A') (t A) (t A') n (λ i. ap (λ (x : ℕ). not (eqb x 0)) (s i)) (subst Faults (whole_parts ps qs starts e) k)),
          )

  -- the two sheets are those of the whole
  pub verdict_lines_import : Checks f (ps ++ qs)
      → verdict_lines (verdicts f ps ++ qs) (run f.fuel (program (verdicts f ps ++ qs))).infos ≡ verdict_lines (ps ++ qs) (run f.fuel (program (ps ++ qs))).infos
  verdict_lines_import k =
      let d : Distinct (program ps ++ later ps qs) = parts_distinct ps qs starts k.ends k.clear6 in
      let own : OwnImports (program ps) = own_imports ps in
      let tis : List TypeInfo = (run f.fuel (program ps)).infos in
      let us : List TypeInfo = drop (length (program ps)) (run f.fuel (program ps ++ later ps qs)).infos in
      let n : length tis ≡ length (groups is_head ps) = told_groups ps tis (run_told f.fuel (program ps)) in
      let a : (run f.fuel (program (verdicts f ps ++ qs))).infos ≡ tis ++ us =
      ap (λ (ds : List Decl). (run f.fuel ds).infos) (program_imported k.ends) ∙ (sym (imported_infos (program ps) (later ps qs) d apart f.fuel own) ∙ prefix_infos (program ps) (later ps qs) d apart f.fuel own) in
      let b : (run f.fuel (program (ps ++ qs))).infos ≡ tis ++ us =
      ap (λ (ds : List Decl). (run f.fuel ds).infos) (whole_parts ps qs starts k.ends) ∙ prefix_infos (program ps) (later ps qs) d apart f.fuel own in
      ap (verdict_lines (verdicts f ps ++ qs)) a ∙ (verdict_lines_cut ps qs tis tis us starts n n ∙ ap (verdict_lines (ps ++ qs)) (sym b))

  pub left_lines_import : Checks f (ps ++ qs)
      → left_lines (verdicts f ps ++ qs) (left_program (run f.fuel (program (verdicts f ps ++ qs)))) ≡ left_lines (ps ++ qs) (left_program (run f.fuel (program (ps ++ qs))))
  left_lines_import k =
      let d : Distinct (program ps ++ later ps qs) = parts_distinct ps qs starts k.ends k.clear6 in
      let own : OwnImports (program ps) = own_imports ps in
      let tis : List TypeInfo = (run f.fuel (program ps)).infos in
      let n : length tis ≡ length (groups is_head ps) = told_groups ps tis (run_told f.fuel (program ps)) in
      let e : left_program (run f.fuel (program (verdicts f ps ++ qs))) ≡ left_program (run f.fuel (program (ps ++ qs))) =
      ap (λ (ds : List Decl). left_program (run f.fuel ds)) (program_imported k.ends)
      ∙ (sym (ap somes (imported_lefts (program ps) (later ps qs) d apart f.fuel own)) ∙ ap (λ (ds : List Decl). left_program (run f.fuel ds)) (sym (whole_parts ps qs starts k.ends))) in
      ap (left_lines (verdicts f ps ++ qs)) e ∙ left_lines_cut ps qs tis (left_program (run f.fuel (program (ps ++ qs)))) n ended
