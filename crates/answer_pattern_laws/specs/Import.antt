-- A sheet in two parts with Q lines behind it: the first part's verdict sheet may stand for it. Assumes nothing.
use Rattle.std.specs.Prelude.{◌↔◌, ◌≡◌, refl, not, ℕ, ◌+◌, ◌%◌, ◌≤◌, ◌<◌, length}
use Rattle.std.proofs.Math.Path.{sym}
use Rattle.std.proofs.Common.{◌∙◌, ap, ap₂, subst, arith, length-append}
use mathlib.Core.List.{List, [], ◌++◌, append-nil, map-append}
use Rattle.sheet.specs.Format.{Format, line_bytes}
use Rattle.sheet.specs.Line.{Line, is_bad}
use Rattle.sheet.specs.Sheet.{count, lines, encodes}
use Rattle.model.specs.Decl.{Decl, Dtype, TypeInfo}
use Rattle.model.specs.Names.{pins}
use Rattle.model.specs.Run.{run}
use Rattle.model_laws.specs.Run.{length_infos}
use Rattle.model_laws.specs.Pinning.{Apart, imported_infos}
use Rattle.meaning.specs.Program.{is_head, name_line, select, groups, program}
use Rattle.meaning.specs.Rows.{count_of}
use Rattle.meaning_laws.specs.Program.{Starts, none_right, run_told, told_groups, select_append, select_verdict_lines}
use Rattle.meaning_laws.specs.Rows.{ended_row5}
use Rattle.meaning_patterns.specs.Patterns.{good_pattern}
use Rattle.answer.specs.Answer.{Clear}
use Rattle.answer.specs.Answer as old
use Rattle.answer.specs.Cut.{Sheets, Whole}
use Rattle.answer.specs.Cut as old_cut
use Rattle.answer_laws.specs.Answer as old_laws
use Rattle.answer_laws.specs.Pass.{own_imports}
use Rattle.answer_laws.specs.Step.{Checks, later, whole_parts, parts_distinct, verdicts, same_rows, program_imported}
use Rattle.answer_laws.specs.Build.{NoBad, passes_sound, Split, split_steps, split_nothing, pass_whole, whole_append, verdict_sheet_length, verdict_lines_behind}
use Rattle.answer_patterns.specs.Whole.{following, verdict_sheet, left_sheet}
use Rattle.answer_pattern_laws.specs.Parts.{NoPattern, Begins, lines_parts, no_pattern_append}
use Rattle.answer_pattern_laws.specs.Order.{passed_plain}
use Rattle.answer_pattern_laws.specs.Sheets.{verdict_sheet_lines, left_sheet_tail}
use Rattle.answer_patterns.specs.Passes.{Passes}
use Rattle.answer_patterns.specs.Cut.{build}
use Rattle.answer_pattern_laws.specs.PassesLaws.{some_same, sheets, build_equal, build_passes, Joined, passes_parts, joined_passes, sheets_parts}
use Rattle.answer_pattern_laws.specs.Types.{types, types_pins, row13_types, following_types}

module _ (f : Format) (v l : ℕ) (pos : 0 < f.columns) (p : List ℕ) (pass : old.Passes f p v l) where
  -- the first part's verdict sheet
  abbrev pub told : List ℕ
  told = (old_laws.sheets f p).verdict

  pub told_length : length told ≡ length p
  unfolding old_laws.sheets
  told_length = verdict_sheet_length f p v l pos pass

  pub told_whole : Whole f.columns told
  told_whole = ap (λ (n : ℕ). n % line_bytes f.columns) told_length ∙ pass_whole f p v l pass

  -- it is a sheet that no row refuses
  pub told_passes : old.Passes f told v l
  told_passes =
      old_laws.build_passes f told v l (old_laws.sheets f p)
      (ap (old_cut.build f v l) (sym (append-nil told))
      ∙ ((split_steps f v l pos).import_step p [] (old_laws.sheets f p) (split_nothing f.columns p (pass_whole f p v l pass)) (old_laws.passes_build f p v l pass)
      ∙ (ap (old_cut.build f v l) (append-nil p) ∙ old_laws.passes_build f p v l pass)))

  pub told_plain : NoPattern f.columns told
  told_plain = passed_plain f.columns told told_passes.pass3

  module _ (q : List ℕ) where
    abbrev ps : List Line
    ps = lines f.columns p

    abbrev qs : List Line
    qs = lines f.columns q

    lines_told : lines f.columns (told ++ q) ≡ verdicts f ps ++ qs
    unfolding old_laws.sheets
    lines_told = verdict_lines_behind f v l pos p q pass

    lines_first : lines f.columns (p ++ q) ≡ ps ++ qs
    lines_first = lines_parts f.columns p q (pass_whole f p v l pass)

    pub both_length : length (told ++ q) ≡ length (p ++ q)
    both_length = length-append told q ∙ (ap (λ (n : ℕ). n + length q) told_length ∙ sym (length-append p q))

    -- there are as many N lines
    pub names_same : count_of name_line (lines f.columns (told ++ q)) ≡ count_of name_line (lines f.columns (p ++ q))
    names_same =
        let c : Checks f ps = (passes_sound f p v l pass).checks in
        let tis : List TypeInfo = (run f.fuel (program ps)).infos in
        let n : length tis ≡ length (groups is_head ps) = told_groups ps tis (run_told f.fuel (program ps)) in
        ap length
        (ap (select name_line) lines_told
        ∙ (select_append name_line (verdicts f ps) qs
        ∙ (ap (λ (r : List Line). r ++ select name_line qs) (select_verdict_lines name_line refl refl refl refl refl ps tis n (ended_row5 ps c.clear5))
        ∙ (sym (select_append name_line ps qs) ∙ ap (select name_line) (sym lines_first)))))

    module _ (split : Split f.columns p q) where
      builds_same : old_cut.build f v l (told ++ q) ≡ old_cut.build f v l (p ++ q)
      builds_same = (split_steps f v l pos).import_step p q (old_laws.sheets f p) split (old_laws.passes_build f p v l pass)

      pub passes_told : old.Passes f (told ++ q) v l ↔ old.Passes f (p ++ q) v l
      passes_told = (
        λ k. old_laws.build_passes f (p ++ q) v l (old_laws.sheets f (told ++ q)) (sym builds_same ∙ old_laws.passes_build f (told ++ q) v l k),
        λ k. old_laws.build_passes f (told ++ q) v l (old_laws.sheets f (p ++ q)) (builds_same ∙ old_laws.passes_build f (p ++ q) v l k),
      )

      -- what a pattern reads of the program is the same
      module _ (whole : old.Passes f (p ++ q) v l) where
        old_sheets : old_laws.sheets f (told ++ q) ≡ old_laws.sheets f (p ++ q)
        old_sheets =
            some_same (old_laws.sheets f (told ++ q)) (old_laws.sheets f (p ++ q))
            (sym (old_laws.passes_build f (told ++ q) v l (passes_told.1 whole)) ∙ (builds_same ∙ old_laws.passes_build f (p ++ q) v l whole))

        first_checks : Checks f ps
        first_checks = (passes_sound f p v l pass).checks

        none_bad : NoBad (ps ++ qs)
        none_bad = subst NoBad lines_first (passes_sound f (p ++ q) v l whole).no_bad

        all_checks : Checks f (ps ++ qs)
        all_checks = subst (Checks f) lines_first (passes_sound f (p ++ q) v l whole).checks

        starts : Starts is_head qs
        starts = split.starts (none_right is_bad ps qs none_bad)

        apart : Apart (program ps) (later ps qs)
        apart = split.apart none_bad all_checks.ends first_checks.clear5 all_checks.clear6

        imported : program (verdicts f ps ++ qs) ≡ pins (program ps) (run f.fuel (program ps)).infos ++ later ps qs
        imported = program_imported f ps qs starts apart first_checks (same_rows f ps qs first_checks starts) all_checks.ends

        parts : program (ps ++ qs) ≡ program ps ++ later ps qs
        parts = whole_parts ps qs starts all_checks.ends

        pub types_told : types (program (lines f.columns (told ++ q))) ≡ types (program (lines f.columns (p ++ q)))
        types_told =
            ap (λ (ls : List Line). types (program ls)) lines_told
            ∙ (ap types imported
            ∙ (map-append (λ d. d.dtype) (pins (program ps) (run f.fuel (program ps)).infos) (later ps qs)
            ∙ (ap (λ (r : List Dtype). r ++ types (later ps qs)) (types_pins (program ps) (run f.fuel (program ps)).infos (length_infos f.fuel (program ps)))
            ∙ (sym (map-append (λ d. d.dtype) (program ps) (later ps qs)) ∙ (ap types (sym parts) ∙ ap (λ (ls : List Line). types (program ls)) (sym lines_first))))))

        pub infos_told : (run f.fuel (program (lines f.columns (told ++ q)))).infos ≡ (run f.fuel (program (lines f.columns (p ++ q)))).infos
        infos_told =
            ap (λ (ls : List Line). (run f.fuel (program ls)).infos) lines_told
            ∙ (ap (λ (ds : List Decl). (run f.fuel ds).infos) imported
            ∙ (sym (imported_infos (program ps) (later ps qs) (parts_distinct ps qs starts all_checks.ends all_checks.clear6) apart f.fuel (own_imports ps))
            ∙ (ap (λ (ds : List Decl). (run f.fuel ds).infos) (sym parts) ∙ ap (λ (ls : List Line). (run f.fuel (program ls)).infos) (sym lines_first))))

        verdict_told : (zs : List Line) → verdict_sheet f (lines f.columns (told ++ q)) zs ≡ verdict_sheet f (lines f.columns (p ++ q)) zs
        unfolding old_laws.sheets
        verdict_told zs =
            verdict_sheet_lines f (lines f.columns (told ++ q)) zs
            ∙ (ap (λ (x : Sheets). x.verdict ++ encodes f.columns zs) old_sheets ∙ sym (verdict_sheet_lines f (lines f.columns (p ++ q)) zs))

        left_told : (zs : List Line) → left_sheet f (lines f.columns (told ++ q)) zs ≡ left_sheet f (lines f.columns (p ++ q)) zs
        unfolding old_laws.sheets
        left_told zs =
            left_sheet_tail f (lines f.columns (told ++ q)) zs
            ∙ (ap (λ (x : Sheets). x.left ++ encodes f.columns (following f (lines f.columns (told ++ q)) zs)) old_sheets
            ∙ (ap (λ (r : List Line). old.left_sheet f (lines f.columns (p ++ q)) ++ encodes f.columns r) (following_types f (lines f.columns (told ++ q)) (lines f.columns (p ++ q)) zs types_told infos_told)
            ∙ sym (left_sheet_tail f (lines f.columns (p ++ q)) zs)))

      -- ---- with Q lines behind
      module _ (z : List ℕ) where
        abbrev zs : List Line
        zs = lines f.columns z

        tail_length : length ((told ++ q) ++ z) ≡ length ((p ++ q) ++ z)
        tail_length = length-append (told ++ q) z ∙ (ap (λ (n : ℕ). n + length z) both_length ∙ sym (length-append (p ++ q) z))

        pub joined_told : Joined f (told ++ q) z v l ↔ Joined f (p ++ q) z v l
        joined_told = (
          λ j.
              let k : old.Passes f (p ++ q) v l = passes_told.0 j.front_passes in
              record {
                small = omega (arith, j.small, tail_length);
                front_passes = k;
                no_bad = j.no_bad;
                only = j.only;
                few = j.few;
                good = subst (λ (n : ℕ). Clear (count f.columns z) (λ i. not (good_pattern n zs i))) names_same j.good;
                counted = λ i h. sym (row13_types (program (lines f.columns (told ++ q))) (program (lines f.columns (p ++ q))) (types_told k) zs i) ∙ j.counted i h;
                verdict_room = omega (arith, j.verdict_room, tail_length);
                left_room = subst (λ (x : List ℕ). length x ≤ l) (left_told k zs) j.left_room;
              },
          λ j.
              let k : old.Passes f (p ++ q) v l = j.front_passes in
              record {
                small = omega (arith, j.small, tail_length);
                front_passes = passes_told.1 k;
                no_bad = j.no_bad;
                only = j.only;
                few = j.few;
                good = subst (λ (n : ℕ). Clear (count f.columns z) (λ i. not (good_pattern n zs i))) (sym names_same) j.good;
                counted = λ i h. row13_types (program (lines f.columns (told ++ q))) (program (lines f.columns (p ++ q))) (types_told k) zs i ∙ j.counted i h;
                verdict_room = omega (arith, j.verdict_room, tail_length);
                left_room = subst (λ (x : List ℕ). length x ≤ l) (sym (left_told k zs)) j.left_room;
              },
        )

        pub build_told : NoPattern f.columns q → Whole f.columns z → Begins f.columns z → build f v l ((told ++ q) ++ z) ≡ build f v l ((p ++ q) ++ z)
        build_told plain wz begins =
            build_equal f ((told ++ q) ++ z) ((p ++ q) ++ z) v l
            (λ k. joined_passes f v l (p ++ q) z wz (joined_told.0 (to k)), λ k. joined_passes f v l (told ++ q) z wz (joined_told.1 (passes_parts f v l (p ++ q) z whole_p plain_p begins k)))
            (λ k.
            let j : Joined f (p ++ q) z v l = joined_told.0 (to k) in
            sheets_parts f (told ++ q) z whole_t plain_t begins
            ∙ (ap₂ (λ (x y : List ℕ). record { verdict = x; left = y }) (verdict_told j.front_passes zs) (left_told j.front_passes zs) ∙ sym (sheets_parts f (p ++ q) z whole_p plain_p begins)))
          where
            whole_p : Whole f.columns (p ++ q)
            whole_p = whole_append f.columns p q split.first_whole split.second_whole

            whole_t : Whole f.columns (told ++ q)
            whole_t = whole_append f.columns told q told_whole split.second_whole

            plain_p : NoPattern f.columns (p ++ q)
            plain_p = no_pattern_append f.columns p q split.first_whole (passed_plain f.columns p pass.pass3) plain

            plain_t : NoPattern f.columns (told ++ q)
            plain_t = no_pattern_append f.columns told q told_whole told_plain plain

            to : Passes f ((told ++ q) ++ z) v l → Joined f (told ++ q) z v l
            to k = passes_parts f v l (told ++ q) z whole_t plain_t begins k
