-- When a sheet that may end in a pattern is accepted, with which sheets, and which codes its refusals have. Assumes nothing.
use Rattle.std.specs.Prelude.{◌↔◌, ◌≡◌, List, [], ◌∷◌, ◌++◌, Bool, ℕ, suc, ◌+◌, ◌*◌, ◌-◌, ◌%◌, ◌≤◌, ◌<◌, eqb, leb}
use Rattle.std.proofs.Math.Path.{refl, ap}
use Rattle.std.proofs.Common.{sym, ◌∙◌, ap₂, subst, arith, length-append}
use Rattle.std.proofs.Math.Bool.{true, false, not}
use Rattle.std.proofs.Math.Option.{Option, none, some}
use Rattle.std.proofs.Math.Dec.{ltb}
use Rattle.std.proofs.Math.ListN.{length}
use borrow.Author.Tests.{ltb-true, ltb-false, leb-false, lt-leb, le-ltb, eqb-true, eqb-false, not-true, not-false, eq-eqb}
use Rattle.number_columns.specs.Column.{pick}
use Rattle.sheet.specs.Format.{Format, Ample, line_bytes}
use Rattle.sheet.specs.Line.{Line, is_bad}
use Rattle.sheet.specs.Sheet.{count, line, lines, row1}
use Rattle.sheet.proofs.SheetLaws.{length_lines}
use Rattle.sheet.proofs.ListLaws.{Every}
use Rattle.model.specs.Decl.{Decl}
use Rattle.model.specs.Run.{layouts_of, returns, decl_fault}
use Rattle.model_laws.specs.Fuel.{NoReturn}
use Rattle.meaning.specs.Program.{is, is_head, name_line, program}
use Rattle.meaning_laws.specs.Program.{length_program}
use Rattle.meaning.specs.Rows.{nth_line, heads_before, count_of, raw, raws, row3, row4, row5, row6, row7}
use Rattle.meaning_patterns.specs.Patterns.{pattern_line, good_pattern, row13}
use Rattle.answer.specs.declared.Refusal.{Refusal}
use Rattle.answer.specs.declared.Refusal.TheVariants.{Accepted, Refused}
use Rattle.answer.specs.Answer.{Row, line_row, row8, row9_10, fault_at, refusal, Answer, Clear, Refuses}
use Rattle.answer.specs.Answer as old
use Rattle.answer.specs.Cut.{Sheets, sheets_of, Whole}
use Rattle.answer_laws.specs.Answer.{AllClear, clear_accepted, accepted_clear, or_later, or_accepted, refusal_append, Coded, AllCoded, CodeOf, refusal_coded, head_test, Nothing}
use Rattle.answer_laws.specs.Pass.{clear_heads}
use Rattle.answer_laws.specs.Left.{decls_limit}
use Rattle.answer_laws.specs.Build.{row1_small, whole_append}
use Rattle.answer_laws.specs.Refused.{RefusesAs, refusal_refuses, Within, Coding, InRange, refusal_in_range, fault_in_range}
use Rattle.answer_patterns.specs.Whole.{front, tail, tail_row, verdict_sheet, left_sheet, sheet_rows, program_rows, input_rows, output_rows, rows, answered, answer}
use Rattle.answer_pattern_laws.specs.Parts.{NoPattern, Begins, row1_whole, count_parts, line_first, line_second, parts_are, front_whole, front_of, tail_of}
use Rattle.answer_pattern_laws.specs.Order.{passed_plain}
use Rattle.answer_pattern_laws.specs.Sheets.{left_length_tail}
use Rattle.answer_patterns.specs.Passes.{Passes}
use Rattle.answer_patterns.specs.Cut.{build}

-- ---- the rows' tests, one by one
module _ (f : Format) (b : List ℕ) (v l : ℕ) where
  rows_clear : AllClear (rows f b v l) → Passes f b v l
  unfolding sheet_rows program_rows output_rows
  rows_clear h =
      record {
        pass1 = h.0 0 (omega arith);
        pass2 = h.1.0;
        pass3 = h.1.1.0;
        patterns3 = h.1.1.1.0;
        pass4 = h.1.1.1.1.0;
        patterns4 = few h.1.1.1.1.1.0;
        pass5 = h.1.1.1.1.1.1.0;
        patterns5 = h.1.1.1.1.1.1.1.0;
        pass6 = h.1.1.1.1.1.1.1.1.0;
        pass7 = h.1.1.1.1.1.1.1.1.1.0;
        pass8 = h.1.1.1.1.1.1.1.1.1.1.0;
        pass9_10 = h.1.1.1.1.1.1.1.1.1.1.1.0;
        pass13 = h.1.1.1.1.1.1.1.1.1.1.1.1.0;
        pass11 = ltb-false v (length b) (h.1.1.1.1.1.1.1.1.1.1.1.1.1.0 0 (omega arith));
        pass12 = ltb-false l _ (h.1.1.1.1.1.1.1.1.1.1.1.1.1.1.0 0 (omega arith));
      }
    where
      few : Clear (count f.columns (tail f.columns b)) (leb f.patterns) → count f.columns (tail f.columns b) ≤ f.patterns
      few c = go (ltb f.patterns (count f.columns (tail f.columns b))) refl
        where
          go : (t : Bool) → ltb f.patterns (count f.columns (tail f.columns b)) ≡ t → count f.columns (tail f.columns b) ≤ f.patterns
          go true e = absurd (omega (arith, leb-false f.patterns f.patterns (c f.patterns (ltb-true f.patterns (count f.columns (tail f.columns b)) e))))
          go false e = ltb-false f.patterns (count f.columns (tail f.columns b)) e

  clear_rows : Passes f b v l → AllClear (rows f b v l)
  unfolding sheet_rows program_rows output_rows
  clear_rows h =
      (λ i _. h.pass1, (h.pass2, (h.pass3, (h.patterns3, (h.pass4, (λ i k. lt-leb f.patterns i (omega (arith, h.patterns4)), (h.pass5, (h.patterns5, (h.pass6, (h.pass7, (h.pass8, (h.pass9_10, (h.pass13, (λ i _. le-ltb v (length b) h.pass11, (λ i _. le-ltb l _ h.pass12, tt)))))))))))))))

  -- no code is 0
  row9_10_coded : (ds : List Decl) (ls : List Line) (i : ℕ) → row9_10 f ds ls i ≡ true → fault_at f ds ls i ≡ 0 → ⊥
  unfolding row9_10 fault_at
  row9_10_coded ds ls i h e =
      let k = head_test ls (λ k. not (eqb (decl_fault f.nodes f.fuel ds (layouts_of ds) k) 0)) i (is_head (nth_line ls i)) refl h in
      eqb-false _ _ (not-true _ k) e

  plain : (code bound : ℕ) (test : ℕ → Bool) (place : ℕ → ℕ) → 0 < code → Coded (record { bound = bound; test = test; code = λ i. code; place = place })
  plain code bound test place h = record { coded = λ i t e. omega arith }

  rows_coded : AllCoded (rows f b v l)
  unfolding sheet_rows program_rows output_rows
  rows_coded =
      (plain _ _ _ _ (omega arith), (plain _ _ _ _ (omega arith), (plain _ _ _ _ (omega arith), (plain _ _ _ _ (omega arith), (plain _ _ _ _ (omega arith), (plain _ _ _ _ (omega arith), (plain _ _ _ _ (omega arith), (plain _ _ _ _ (omega arith), (plain _ _ _ _ (omega arith), (plain _ _ _ _ (omega arith), (plain _ _ _ _ (omega arith), (record { coded = row9_10_coded (program (lines f.columns (front f.columns b))) (lines f.columns (front f.columns b)) }, (plain _ _ _ _ (omega arith), (plain _ _ _ _ (omega arith), (plain _ _ _ _ (omega arith), tt)))))))))))))))

  -- ---- code 0 exactly where no row applies
  pub accepted_passes : (answer f b v l).code ≡ 0 → Passes f b v l
  unfolding answer answered
  accepted_passes h = rows_clear (accepted_clear (rows f b v l) (go (refusal (rows f b v l)) (refusal_coded (rows f b v l) rows_coded) h))
    where
      go : (r : Refusal) → CodeOf r → (answered f b r).code ≡ 0 → r ≡ Accepted
      go Accepted c k = refl
      go (Refused code place) c k = absurd (c k)

  -- the answer where no row applies
  pub passes_answer : Passes f b v l → answer f b v l ≡ answered f b Accepted
  unfolding answer
  passes_answer h = ap (answered f b) (clear_accepted (rows f b v l) (clear_rows h))

  -- nor is the sheet refused whatever the outputs are
  pub passes_input : Passes f b v l → refusal (input_rows f b) ≡ Accepted
  passes_input h = or_accepted (refusal (input_rows f b)) (refusal (output_rows f b v l)) (sym (refusal_append (input_rows f b) (output_rows f b v l)) ∙ clear_accepted (rows f b v l) (clear_rows h))

  pub passes_accepted : Passes f b v l → (answer f b v l).code ≡ 0
  unfolding answered
  passes_accepted h = ap (λ (a : Answer). a.code) (passes_answer h)

  -- a refusal writes nothing and counts no rounds
  pub refused_nothing : ((answer f b v l).code ≡ 0 → ⊥) → Nothing (answer f b v l)
  unfolding answer answered
  refused_nothing h = go (refusal (rows f b v l)) h
    where
      go : (r : Refusal) → ((answered f b r).code ≡ 0 → ⊥) → Nothing (answered f b r)
      go Accepted k = absurd (k refl)
      go (Refused code place) k = record { no_rounds = refl; no_verdict = refl; no_left = refl }

-- ---- builds
unfoldable pub sheets : Format → List ℕ → Sheets
sheets f b = record {
  verdict = verdict_sheet f (lines f.columns (front f.columns b)) (lines f.columns (tail f.columns b));
  left = left_sheet f (lines f.columns (front f.columns b)) (lines f.columns (tail f.columns b));
}

pub some_same : (x y : Sheets) → ◌≡◌ {A = Option Sheets} (some x) (some y) → x ≡ y
some_same x y e = cc

-- a build that no row applies to is accepted with these sheets
pub passes_build : (f : Format) (b : List ℕ) (v l : ℕ) → Passes f b v l → build f v l b ≡ some (sheets f b)
unfolding answered sheets_of sheets
passes_build f b v l h = rw (passes_answer f b v l h) refl

-- and no other is
pub build_passes : (f : Format) (b : List ℕ) (v l : ℕ) (x : Sheets) → build f v l b ≡ some x → Passes f b v l
unfolding sheets_of
build_passes f b v l x h = accepted_passes f b v l (go (answer f b v l) (eqb (answer f b v l).code 0) refl h)
  where
    go : (a : Answer) (c : Bool) → eqb a.code 0 ≡ c → pick c (some (record { verdict = a.verdict; left = a.left })) none ≡ some x → a.code ≡ 0
    go a true e k = eqb-true a.code 0 e
    go a false e k = let z : ◌≡◌ {A = ℕ} 0 1 = cc in absurd (omega arith)

-- two builds are one where the same passes both and the sheets are equal
pub build_equal : (f : Format) (b c : List ℕ) (v l : ℕ) → (Passes f b v l ↔ Passes f c v l) → (Passes f b v l → sheets f b ≡ sheets f c)
    → build f v l b ≡ build f v l c
build_equal f b c v l h e = go (build f v l b) (build f v l c) refl refl
  where
    go : (s t : Option Sheets) → build f v l b ≡ s → build f v l c ≡ t → s ≡ t
    go none none p q = refl
    go none (some y) p q =
        let k = passes_build f b v l (h.1 (build_passes f c v l y q)) in
        let z : ◌≡◌ {A = Option Sheets} none (some (sheets f b)) = sym p ∙ k in
        cc
    go (some x) none p q =
        let k = passes_build f c v l (h.0 (build_passes f b v l x p)) in
        let z : ◌≡◌ {A = Option Sheets} none (some (sheets f c)) = sym q ∙ k in
        cc
    go (some x) (some y) p q =
        let k = build_passes f b v l x p in
        sym p ∙ (passes_build f b v l k ∙ (ap some (e k) ∙ (sym (passes_build f c v l (h.0 k)) ∙ q)))

-- ---- by the parts
-- what a sheet of the parts a and z passes
pub record Joined (f : Format) (a z : List ℕ) (v l : ℕ) : Type 0 where
  pub small : length (a ++ z) ≤ line_bytes f.columns * f.lines
  pub front_passes : old.Passes f a v l
  pub no_bad : Clear (count f.columns z) (λ i. is_bad (line f.columns z i))
  pub only : Clear (count f.columns z) (λ q. not (is pattern_line (raw f.columns z q)))
  pub few : count f.columns z ≤ f.patterns
  pub good : Clear (count f.columns z) (λ q. not (good_pattern (count_of name_line (lines f.columns a)) (lines f.columns z) q))
  pub counted : Clear (count f.columns z) (row13 (program (lines f.columns a)) (lines f.columns z))
  pub verdict_room : length (a ++ z) ≤ v
  pub left_room : length (left_sheet f (lines f.columns a) (lines f.columns z)) ≤ l

row1_of : (f : Format) (b : List ℕ) → length b ≤ line_bytes f.columns * f.lines → Whole f.columns b → row1 f b ≡ false
unfolding row1
row1_of f b h e = rw (le-ltb (line_bytes f.columns * f.lines) (length b) h, eq-eqb (length b % line_bytes f.columns) 0 e) refl

module _ (f : Format) (v l : ℕ) where
  joined_at : (b a z : List ℕ) → front f.columns b ≡ a → tail f.columns b ≡ z → Passes f b v l → Joined f a z v l
  joined_at b a z at_front at_tail p =
      record {
        small = omega (arith, row1_small f b p.pass1, ap length parts);
        front_passes =
            record {
              pass1 = row1_of f a (omega (arith, row1_small f b p.pass1, ap length parts, length-append a z)) whole;
              pass2 = λ i h. ap is_bad (sym (line_first f.columns a z whole i h) ∙ ap (λ (x : List ℕ). line f.columns x i) (sym parts)) ∙ p.pass2 i (omega (arith, counts));
              pass3 = subst (λ (x : List ℕ). Clear (suc (count f.columns x)) (row3 (raws f.columns x))) at_front p.pass3;
              pass4 = subst (λ (x : List ℕ). Clear (count f.columns x) (row4 f (lines f.columns x))) at_front p.pass4;
              pass5 = subst (λ (x : List ℕ). Clear (count f.columns x) (row5 (lines f.columns x))) at_front p.pass5;
              pass6 = subst (λ (x : List ℕ). Clear (count f.columns x) (row6 (lines f.columns x))) at_front p.pass6;
              pass7 = subst (λ (x : List ℕ). Clear (count f.columns x) (row7 (lines f.columns x))) at_front p.pass7;
              pass8 = subst (λ (x : List ℕ). Clear (count f.columns x) (row8 (program (lines f.columns x)) (lines f.columns x))) at_front p.pass8;
              pass9_10 = subst (λ (x : List ℕ). Clear (count f.columns x) (row9_10 f (program (lines f.columns x)) (lines f.columns x))) at_front p.pass9_10;
              pass11 = omega (arith, p.pass11, ap length parts, length-append a z);
              pass12 = omega (arith, left, left_length_tail f (lines f.columns a) (lines f.columns z));
            };
        no_bad = λ i h. ap is_bad (sym (line_second f.columns a z whole i) ∙ ap (λ (x : List ℕ). line f.columns x (count f.columns a + i)) (sym parts)) ∙ p.pass2 (count f.columns a + i) (omega (arith, counts));
        only = subst (λ (x : List ℕ). Clear (count f.columns x) (λ q. not (is pattern_line (raw f.columns x q)))) at_tail p.patterns3;
        few = subst (λ (x : List ℕ). count f.columns x ≤ f.patterns) at_tail p.patterns4;
        good =
            subst (λ (x : List ℕ). Clear (count f.columns z) (λ q. not (good_pattern (count_of name_line (lines f.columns x)) (lines f.columns z) q))) at_front
            (subst (λ (y : List ℕ). Clear (count f.columns y) (λ q. not (good_pattern (count_of name_line (lines f.columns (front f.columns b))) (lines f.columns y) q))) at_tail p.patterns5);
        counted =
            subst (λ (x : List ℕ). Clear (count f.columns z) (row13 (program (lines f.columns x)) (lines f.columns z))) at_front
            (subst (λ (y : List ℕ). Clear (count f.columns y) (row13 (program (lines f.columns (front f.columns b))) (lines f.columns y))) at_tail p.pass13);
        verdict_room = omega (arith, p.pass11, ap length parts);
        left_room = left;
      }
    where
      parts : b ≡ a ++ z
      parts = parts_are f.columns b ∙ ap₂ (λ (x y : List ℕ). x ++ y) at_front at_tail

      whole : Whole f.columns a
      whole = subst (Whole f.columns) at_front (front_whole f.columns b)

      counts : count f.columns b ≡ count f.columns a + count f.columns z
      counts = ap (count f.columns) parts ∙ count_parts f.columns a z whole

      left : length (left_sheet f (lines f.columns a) (lines f.columns z)) ≤ l
      left =
          subst (λ (x : List ℕ). length (left_sheet f (lines f.columns x) (lines f.columns z)) ≤ l) at_front
          (subst (λ (y : List ℕ). length (left_sheet f (lines f.columns (front f.columns b)) (lines f.columns y)) ≤ l) at_tail p.pass12)

  pub passes_joined : (b : List ℕ) → Passes f b v l → Joined f (front f.columns b) (tail f.columns b) v l
  passes_joined b = joined_at b (front f.columns b) (tail f.columns b) refl refl

  -- the front by itself is a sheet that no row refuses
  pub passes_front : (b : List ℕ) → Passes f b v l → old.Passes f (front f.columns b) v l
  passes_front b p = (passes_joined b p).front_passes

  pub passes_parts : (a z : List ℕ) → Whole f.columns a → NoPattern f.columns a → Begins f.columns z → Passes f (a ++ z) v l → Joined f a z v l
  passes_parts a z h n g = joined_at (a ++ z) a z (front_of f.columns a z h n g) (tail_of f.columns a z h n g)

  -- ---- and back
  module _ (a z : List ℕ) (second : Whole f.columns z) (j : Joined f a z v l) where
    pub joined_whole : Whole f.columns a
    joined_whole = row1_whole f a j.front_passes.pass1

    pub joined_plain : NoPattern f.columns a
    joined_plain = passed_plain f.columns a j.front_passes.pass3

    pub joined_begins : Begins f.columns z
    joined_begins h = not-false (is pattern_line (raw f.columns z 0)) (j.only 0 h)

    at_front : front f.columns (a ++ z) ≡ a
    at_front = front_of f.columns a z joined_whole joined_plain joined_begins

    at_tail : tail f.columns (a ++ z) ≡ z
    at_tail = tail_of f.columns a z joined_whole joined_plain joined_begins

    good_lines : Clear (count f.columns (a ++ z)) (λ i. is_bad (line f.columns (a ++ z) i))
    good_lines i h = go (ltb i (count f.columns a)) refl
      where
        go : (c : Bool) → ltb i (count f.columns a) ≡ c → is_bad (line f.columns (a ++ z) i) ≡ false
        go true e =
            let k : i < count f.columns a = ltb-true i (count f.columns a) e in
            ap is_bad (line_first f.columns a z joined_whole i k) ∙ j.front_passes.pass2 i k
        go false e =
            let k : count f.columns a ≤ i = ltb-false i (count f.columns a) e in
            let m : count f.columns a + (i - count f.columns a) ≡ i = omega arith in
            ap (λ (n : ℕ). is_bad (line f.columns (a ++ z) n)) (sym m)
            ∙ (ap is_bad (line_second f.columns a z joined_whole (i - count f.columns a)) ∙ j.no_bad (i - count f.columns a) (omega (arith, count_parts f.columns a z joined_whole)))

    pub joined_passes : Passes f (a ++ z) v l
    joined_passes =
        record {
          pass1 = row1_of f (a ++ z) j.small (whole_append f.columns a z joined_whole second);
          pass2 = good_lines;
          pass3 = subst (λ (x : List ℕ). Clear (suc (count f.columns x)) (row3 (raws f.columns x))) (sym at_front) j.front_passes.pass3;
          patterns3 = subst (λ (x : List ℕ). Clear (count f.columns x) (λ q. not (is pattern_line (raw f.columns x q)))) (sym at_tail) j.only;
          pass4 = subst (λ (x : List ℕ). Clear (count f.columns x) (row4 f (lines f.columns x))) (sym at_front) j.front_passes.pass4;
          patterns4 = subst (λ (x : List ℕ). count f.columns x ≤ f.patterns) (sym at_tail) j.few;
          pass5 = subst (λ (x : List ℕ). Clear (count f.columns x) (row5 (lines f.columns x))) (sym at_front) j.front_passes.pass5;
          patterns5 =
              subst (λ (y : List ℕ). Clear (count f.columns y) (λ q. not (good_pattern (count_of name_line (lines f.columns (front f.columns (a ++ z)))) (lines f.columns y) q))) (sym at_tail)
              (subst (λ (x : List ℕ). Clear (count f.columns z) (λ q. not (good_pattern (count_of name_line (lines f.columns x)) (lines f.columns z) q))) (sym at_front) j.good);
          pass6 = subst (λ (x : List ℕ). Clear (count f.columns x) (row6 (lines f.columns x))) (sym at_front) j.front_passes.pass6;
          pass7 = subst (λ (x : List ℕ). Clear (count f.columns x) (row7 (lines f.columns x))) (sym at_front) j.front_passes.pass7;
          pass8 = subst (λ (x : List ℕ). Clear (count f.columns x) (row8 (program (lines f.columns x)) (lines f.columns x))) (sym at_front) j.front_passes.pass8;
          pass9_10 = subst (λ (x : List ℕ). Clear (count f.columns x) (row9_10 f (program (lines f.columns x)) (lines f.columns x))) (sym at_front) j.front_passes.pass9_10;
          pass13 =
              subst (λ (y : List ℕ). Clear (count f.columns y) (row13 (program (lines f.columns (front f.columns (a ++ z)))) (lines f.columns y))) (sym at_tail)
              (subst (λ (x : List ℕ). Clear (count f.columns z) (row13 (program (lines f.columns x)) (lines f.columns z))) (sym at_front) j.counted);
          pass11 = j.verdict_room;
          pass12 =
              subst (λ (y : List ℕ). length (left_sheet f (lines f.columns (front f.columns (a ++ z))) (lines f.columns y)) ≤ l) (sym at_tail)
              (subst (λ (x : List ℕ). length (left_sheet f (lines f.columns x) (lines f.columns z)) ≤ l) (sym at_front) j.left_room);
        }

pub sheets_parts : (f : Format) (a z : List ℕ) → Whole f.columns a → NoPattern f.columns a → Begins f.columns z
    → sheets f (a ++ z) ≡ record { verdict = verdict_sheet f (lines f.columns a) (lines f.columns z); left = left_sheet f (lines f.columns a) (lines f.columns z) }
unfolding sheets
sheets_parts f a z h n g = rw (front_of f.columns a z h n g, tail_of f.columns a z h n g) refl

-- ---- codes
module _ (f : Format) (b : List ℕ) (ample : Ample f) where
  abbrev ls : List Line
  ls = lines f.columns (front f.columns b)

  abbrev ds : List Decl
  ds = program ls

  in_code : (lo hi code bound : ℕ) (test : ℕ → Bool) (place : ℕ → ℕ) → lo ≤ code → code ≤ hi → Coding lo hi (record { bound = bound; test = test; code = λ i. code; place = place })
  in_code lo hi code bound test place h k = record { in_range = λ i t. (h, k) }

  -- rows 1 to 8
  abbrev eight : Row
  eight = line_row 8 (count f.columns (front f.columns b)) (row8 ds ls)

  first_eight : Every (Coding 1 13) (sheet_rows f b ++ (eight ∷ []))
  unfolding sheet_rows
  first_eight =
      (in_code _ _ _ _ _ _ (omega arith) (omega arith), (in_code _ _ _ _ _ _ (omega arith) (omega arith), (in_code _ _ _ _ _ _ (omega arith) (omega arith), (in_code _ _ _ _ _ _ (omega arith) (omega arith), (in_code _ _ _ _ _ _ (omega arith) (omega arith), (in_code _ _ _ _ _ _ (omega arith) (omega arith), (in_code _ _ _ _ _ _ (omega arith) (omega arith), (in_code _ _ _ _ _ _ (omega arith) (omega arith), (in_code _ _ _ _ _ _ (omega arith) (omega arith), (in_code _ _ _ _ _ _ (omega arith) (omega arith), (in_code _ _ _ _ _ _ (omega arith) (omega arith), tt)))))))))))

  -- the rows after them
  abbrev rest : ℕ → ℕ → List Row
  rest v l =
      record { bound = count f.columns (front f.columns b); test = row9_10 f ds ls; code = fault_at f ds ls; place = λ i. i }
      ∷ tail_row 13 (count f.columns (front f.columns b)) (count f.columns (tail f.columns b)) (row13 ds (lines f.columns (tail f.columns b)))
      ∷ output_rows f b v l

  rows_split : (v l : ℕ) → rows f b v l ≡ (sheet_rows f b ++ (eight ∷ [])) ++ rest v l
  unfolding sheet_rows program_rows
  rows_split v l = refl

  later_rows : (v l : ℕ) → AllClear (sheet_rows f b ++ (eight ∷ [])) → Every (Coding 1 13) (rest v l)
  unfolding sheet_rows output_rows row8 row9_10 fault_at
  later_rows v l h =
      let four : Clear (length ls) (row4 f ls) = λ i k. h.1.1.1.1.0 i (omega (arith, length_lines f.columns (front f.columns b))) in
      let none : NoReturn ds = clear_heads ls (returns ds (layouts_of ds)) (λ i k. h.1.1.1.1.1.1.1.1.1.1.0 i (omega (arith, length_lines f.columns (front f.columns b)))) in
      let few : length ds < f.fuel = omega (arith, length_program ls, decls_limit f ls four, ample.depth) in (
        record {
          in_range = λ i t.
              let k = head_test ls (λ k. not (eqb (decl_fault f.nodes f.fuel ds (layouts_of ds) k) 0)) i (is_head (nth_line ls i)) refl t in
              let r = fault_in_range f.nodes f.fuel ds none few (heads_before ls i) (eqb-false _ _ (not-true _ k)) in
              (omega (arith, r.0), omega (arith, r.1));
        },
        (in_code _ _ _ _ _ _ (omega arith) (omega arith), (in_code _ _ _ _ _ _ (omega arith) (omega arith), (in_code _ _ _ _ _ _ (omega arith) (omega arith), tt))),
      )

  -- no other code than 1 to 13
  pub refusal_codes : (v l : ℕ) → InRange 1 13 (refusal (rows f b v l))
  refusal_codes v l =
      subst (InRange 1 13) (sym (ap refusal (rows_split v l) ∙ refusal_append (sheet_rows f b ++ (eight ∷ [])) (rest v l)))
      (go (refusal (sheet_rows f b ++ (eight ∷ []))) refl (refusal_in_range 1 13 (sheet_rows f b ++ (eight ∷ [])) first_eight))
    where
      go : (q : Refusal) → refusal (sheet_rows f b ++ (eight ∷ [])) ≡ q → InRange 1 13 q → InRange 1 13 (or_later q (refusal (rest v l)))
      go Accepted e k = refusal_in_range 1 13 (rest v l) (later_rows v l (accepted_clear (sheet_rows f b ++ (eight ∷ [])) e))
      go (Refused code place) e k = k

  -- the row of a refusal, and its code
  pub answer_refuses : (v l : ℕ) → ((answer f b v l).code ≡ 0 → ⊥) → Refuses (rows f b v l) (answer f b v l).code (answer f b v l).place × Within 1 13 (answer f b v l).code
  unfolding answer answered
  answer_refuses v l h = go (refusal (rows f b v l)) h (refusal_refuses (rows f b v l)) (refusal_codes v l)
    where
      go : (q : Refusal) → ((answered f b q).code ≡ 0 → ⊥) → RefusesAs (rows f b v l) q → InRange 1 13 q
          → Refuses (rows f b v l) (answered f b q).code (answered f b q).place × Within 1 13 (answered f b q).code
      go Accepted k r c = absurd (k refl)
      go (Refused code place) k r c = (r, c)
