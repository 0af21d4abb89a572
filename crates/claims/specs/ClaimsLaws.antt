-- Steps from the laws of the definitions to the claims. Assumes nothing.
use Rattle.std.specs.Prelude.{◌≡◌, refl, List, [], ◌∷◌, ◌++◌, map, Bool, true, false, ◌||◌, not, ℕ, zero, suc, ◌*◌, ◌<◌, T, length, get_or, take}
use Rattle.std.proofs.Math.Path.{ap}
use Rattle.std.proofs.Common.{ap₂, sym, ◌∙◌, append-nil, arith, eqb-true}
use Rattle.std.proofs.Math.Option.{Option, some}
use Rattle.std.proofs.lemmas.Bool.{not-false}
use Rattle.number_columns.specs.Column.{pick, ◌⇒◌∥◌}
use Rattle.sheet.specs.Format.{Format, line_bytes}
use Rattle.sheet.specs.Line.{Line, row, letter, number}
use Rattle.sheet.specs.Sheet.{lines}
use Rattle.sheet.proofs.LineLaws.{Fits}
use Rattle.sheet.proofs.SheetLaws.{AllFit}
use Rattle.sheet.proofs.ListLaws.{every_map, false_true}
use Rattle.model.specs.Cty.{Cty}
use Rattle.model.specs.Decl.{table, Field, Ctor, CtorLayout, Dtype, ctors_of_tydef, TypeInfo, Origin, here, imported, Decl, dtype_at, origin_at, tag_number}
use Rattle.model.specs.Erasure.{cty_erased, marked, erasure_fixpoint}
use Rattle.model.specs.Layout.{layouts_of_ctors, slots, kept, kept_ctor, ctor_tag, ctor_layout, ctor_layouts}
use Rattle.model.specs.Run.{run, info_at, left_program}
use Rattle.model_laws.specs.Run.{get_or_infos, local_info, import_info}
use Rattle.meaning.specs.Program.{local_line, import_line, ctor_line, is, is_head, groups, program}
use Rattle.meaning.specs.Rows.{nth_line, head_of, ctors_after, good_verdicts, row7}
use Rattle.meaning.specs.Output.{left_lines, verdict_line_of}
use Rattle.meaning_laws.specs.Program.{AllWhole, tag_at, length_verdict_lines, told_groups, run_told}
use Rattle.meaning_laws.specs.Rows.{import_tags}
use Rattle.meaning_laws.specs.Output.{Sized, fits_sized, left_bytes}
use Rattle.answer.specs.Answer.{Answer}
use Rattle.answer.specs.Answer as old
use Rattle.answer.specs.Cut.{join}
use Rattle.answer.specs.Cut as old_cut
use Rattle.answer_laws.specs.Answer as old_laws
pub use Rattle.answer_laws.specs.Step.{verdicts}
use Rattle.answer_laws.specs.Build.{Split, split_steps, prefix_verdict, prefix_left_table, verdict_lines_behind}
use Rattle.answer_laws.specs.Split.{joined_parts, cut_splits, cut_first, passes_faultless}
use Rattle.answer_laws.specs.Split as old_split
use Rattle.answer_patterns.specs.Whole.{front, tail, left_sheet, answered, answer}
use Rattle.answer_pattern_laws.specs.PassesLaws.{sheets, accepted_passes, passes_answer, passes_front}
use Rattle.answer_pattern_laws.specs.Calls.{verdict_parts}
use Rattle.answer_pattern_laws.specs.Owners.{Laid, AllLaid, program_laid}
use Rattle.claims.specs.Unerased.{unerased, unerased_ctor}

pub true_of : (b : Bool) → T b → b ≡ true
true_of true h = refl
true_of false h = absurd h

-- ---- an accepted answer
module _ (f : Format) (b : List ℕ) (v l : ℕ) (a : (answer f b v l).code ≡ 0) where
  abbrev ls : List Line
  ls = lines f.columns (front f.columns b)

  abbrev qs : List Line
  qs = lines f.columns (tail f.columns b)

  pub answer_rounds : (answer f b v l).rounds ≡ (erasure_fixpoint (program ls)).rounds
  unfolding answered run
  answer_rounds = ap (λ (x : Answer). x.rounds) (passes_answer f b v l (accepted_passes f b v l a))

  pub answer_verdict : (answer f b v l).verdict ≡ old.verdict_sheet f ls ++ tail f.columns b
  unfolding answered sheets
  answer_verdict = ap (λ (x : Answer). x.verdict) (passes_answer f b v l (accepted_passes f b v l a)) ∙ verdict_parts f b v l (accepted_passes f b v l a)

  pub answer_left : (answer f b v l).left ≡ left_sheet f ls qs
  unfolding answered
  answer_left = ap (λ (x : Answer). x.left) (passes_answer f b v l (accepted_passes f b v l a))

  -- the front by itself
  pub front_passes : old.Passes f (front f.columns b) v l
  front_passes = passes_front f v l b (accepted_passes f b v l a)

  -- the lines of the verdict sheet
  pub told_lines : 0 < f.columns → lines f.columns (answer f b v l).verdict ≡ verdicts f ls ++ qs
  told_lines pos = ap (lines f.columns) answer_verdict ∙ verdict_lines_behind f v l pos (front f.columns b) (tail f.columns b) front_passes

pub length_verdicts : (f : Format) (ls : List Line) → length (verdicts f ls) ≡ length ls
length_verdicts f ls =
    length_verdict_lines ls (run f.fuel (program ls)).infos (told_groups ls (run f.fuel (program ls)).infos (run_told f.fuel (program ls)))

pub left_length : (f : Format) (ls : List Line) → AllFit f.columns ls
    → length (old.left_sheet f ls) ≡ line_bytes f.columns * length (left_lines ls (left_program (run f.fuel (program ls))))
unfolding old.left_sheet
left_length f ls h = left_bytes f.columns ls (left_program (run f.fuel (program ls))) (every_map (Fits f.columns) (Sized f.columns) (fits_sized f.columns) ls h)

-- ---- kept fields
kept_unerased : (er : ℕ → Bool) (fs : List Field) → kept (slots er fs) fs ≡ unerased er fs
unfolding kept slots unerased
kept_unerased er [] = refl
kept_unerased er (f ∷ fs) = go (cty_erased er f.fd_type) (kept_unerased er fs)
  where
    go : (e : Bool) → kept (slots er fs) fs ≡ unerased er fs → pick (not e) (f ∷ kept (slots er fs) fs) (kept (slots er fs) fs) ≡ pick e (unerased er fs) (f ∷ unerased er fs)
    go true h = h
    go false h = ap (λ (gs : List Field). f ∷ gs) h

pub kept_ctors : (er : ℕ → Bool) (tag : ℕ → Option ℕ) (cs : List Ctor)
    → map kept_ctor (layouts_of_ctors er tag cs) ≡ map (unerased_ctor er) cs
unfolding table ctor_layout
kept_ctors er tag [] = refl
kept_ctors er tag (c ∷ cs) =
    ap₂ (λ (fs : List Field) (r : List Ctor). record { ct_name = c.ct_name; ct_fields = fs } ∷ r) (kept_unerased er c.ct_fields) (kept_ctors er (λ i. tag (suc i)) cs)

pub kept_slots : (er : ℕ → Bool) (tag : ℕ → Option ℕ) (cs : List Ctor)
    → map (λ cl. cl.cl_slots) (layouts_of_ctors er tag cs) ≡ map (λ c. map (λ x. not (cty_erased er x.fd_type)) c.ct_fields) cs
unfolding table ctor_layout slots
kept_slots er tag [] = refl
kept_slots er tag (c ∷ cs) = ap (λ (r : List (List Bool)). slots er c.ct_fields ∷ r) (kept_slots er (λ i. tag (suc i)) cs)

-- ---- tags
-- as many constructors as are declared
pub laid_length : (cs : List Ctor) (cls : List CtorLayout) → Laid cs cls → length cls ≡ length cs
laid_length [] [] h = refl
laid_length [] (cl ∷ cls) h = absurd h
laid_length (c ∷ cs) [] h = absurd h
laid_length (c ∷ cs) (cl ∷ cls) h = ap suc (laid_length cs cls h.2)

pub laid_at : (ds : List Decl) (tis : List TypeInfo) → AllLaid ds tis → (i : ℕ) (d : TypeInfo) → i < length ds → length (get_or tis i d).ti_ctors ≡ length (ctors_of_tydef (dtype_at ds i))
laid_at [] tis h i d l = absurd (omega arith)
laid_at (x ∷ ds) [] h i d l = absurd h
laid_at (x ∷ ds) (ti ∷ tis) h zero d l = laid_length (ctors_of_tydef x.dtype) ti.ti_ctors h.0
laid_at (x ∷ ds) (ti ∷ tis) h (suc i) d l = laid_at ds tis h.1 i d (omega arith)

-- Where row 7 passes, every declaration's tags are those of the places of its constructors.
pub tag_placed : (fuel : ℕ) (ls : List Line) → AllWhole (groups is_head ls) → ((i : ℕ) → i < length ls → row7 ls i ≡ false) → (i : ℕ) → i < length (program ls)
    → (d : TypeInfo) (k : ℕ) (x : CtorLayout) → k < length (get_or (run fuel (program ls)).infos i d).ti_ctors
    → (get_or (get_or (run fuel (program ls)).infos i d).ti_ctors k x).cl_tag ≡ ctor_tag (length (get_or (run fuel (program ls)).infos i d).ti_ctors) k
unfolding ctor_layouts
tag_placed fuel ls w r i h d k x l = go (origin_at (program ls) i) refl ∙ ap (λ (m : ℕ). ctor_tag m k) (sym n)
  where
    n : length (get_or (run fuel (program ls)).infos i d).ti_ctors ≡ length (ctors_of_tydef (dtype_at (program ls) i))
    n = laid_at (program ls) (run fuel (program ls)).infos (program_laid fuel ls) i d h

    at : get_or (run fuel (program ls)).infos i d ≡ info_at fuel (program ls) i
    at = get_or_infos fuel (program ls) i d h

    go : (o : Origin) → origin_at (program ls) i ≡ o → (get_or (get_or (run fuel (program ls)).infos i d).ti_ctors k x).cl_tag ≡ ctor_tag (length (ctors_of_tydef (dtype_at (program ls) i))) k
    go here e =
        ap (λ (ti : TypeInfo). (get_or ti.ti_ctors k x).cl_tag) (at ∙ local_info fuel (program ls) i e)
        ∙ tag_at (marked (program ls) (erasure_fixpoint (program ls)).marks) (ctor_tag (length (ctors_of_tydef (dtype_at (program ls) i)))) (ctors_of_tydef (dtype_at (program ls) i)) k x (omega (arith, n))
    go (imported ti) e =
        let z : get_or (run fuel (program ls)).infos i d ≡ ti = at ∙ import_info fuel (program ls) i ti e in
        ap (λ (y : TypeInfo). (get_or y.ti_ctors k x).cl_tag) z ∙ import_tags ls w r i ti h e k x (omega (arith, ap (λ (y : TypeInfo). length y.ti_ctors) z)) (omega (arith, n))

-- the third number of a C line of the verdict sheet
pub tag_line : (er : ℕ → Bool) (ts : List Cty) (ti : TypeInfo) (h : Line) (k : ℕ) (l : Line) → is_head h ≡ true → is ctor_line l ≡ true → (is import_line h ≡ true → number l 2 ≡ tag_number (ctor_tag (number h 4) k))
    → number (verdict_line_of er ts ti h k l) 2 ≡ tag_number (ctor_tag (number h 4) k)
unfolding verdict_line_of
tag_line er ts ti h k l e c f = rw (eqb-true (letter l) ctor_line c) (go (is local_line h) refl)
  where
    go : (b : Bool) → is local_line h ≡ b → number (not b ⇒ l ∥ row ctor_line (number l 0 ∷ number l 1 ∷ tag_number (ctor_tag (number h 4) k) ∷ 0 ∷ 0 ∷ [])) 2 ≡ tag_number (ctor_tag (number h 4) k)
    go true q = refl
    go false q = f (other (is local_line h) (is import_line h) q e)
      where
        other : (a b : Bool) → a ≡ false → (a || b) ≡ true → b ≡ true
        other true b p t = false_true (sym p)
        other false b p t = t

-- row 7 at a C line of an import
pub row7_tag : (ls : List Line) (i : ℕ) → row7 ls i ≡ false → is ctor_line (nth_line ls i) ≡ true → is import_line (head_of ls i) ≡ true
    → number (nth_line ls i) 2 ≡ tag_number (ctor_tag (number (head_of ls i) 4) (ctors_after 0 (take i ls)))
unfolding row7 good_verdicts
row7_tag ls i r c m = eqb-true _ _ (rw (c, m) at (not-false (good_verdicts ls i) r))

-- ---- the first units of declarations that are accepted
module _ (f : Format) (v l : ℕ) (pos : 0 < f.columns) (b header u : List ℕ) (us ys : List (List ℕ)) (cut : old_cut.Cut f.columns b header (u ∷ (us ++ ys))) (pass : old.Passes f b v l) where
  abbrev first_bytes : List ℕ
  first_bytes = header ++ join (u ∷ us)

  first_split : Split f.columns first_bytes (join ys)
  first_split =
      cut_splits f.columns b header (u ∷ (us ++ ys)) cut (passes_faultless f b v l pass) (u ∷ us) ys [] (ap (λ (t : List (List ℕ)). (u ∷ us) ++ t) (sym (append-nil ys)))

  parts : b ≡ first_bytes ++ join ys
  parts = cut.joined ∙ joined_parts header (u ∷ us) ys

  whole_built : old_cut.build f v l (first_bytes ++ join ys) ≡ some (old_laws.sheets f b)
  whole_built = ap (old_cut.build f v l) (sym parts) ∙ old_laws.passes_build f b v l pass

  first_passes : old.Passes f first_bytes v l
  first_passes =
      let r = (split_steps f v l pos).prefix_step first_bytes (join ys) (old_laws.sheets f b) first_split whole_built in
      old_laws.build_passes f first_bytes v l r.0 r.1

  pub first_builds : old_cut.builds f v l header u us ≡ some (old_laws.sheets f first_bytes)
  first_builds =
      old_split.cut_builds f v l first_bytes header u us pos (cut_first f.columns b header (u ∷ us) ys cut (passes_faultless f b v l pass))
      ∙ old_laws.passes_build f first_bytes v l first_passes

  pub first_verdict : (r : List ℕ) × ((old_laws.sheets f b).verdict ≡ (old_laws.sheets f first_bytes).verdict ++ r)
  first_verdict = prefix_verdict f v l first_bytes (join ys) first_split (old_laws.sheets f b) whole_built

  pub first_lefts : (xs : List (Option Dtype)) × ((run f.fuel (program (lines f.columns b))).lefts ≡ (run f.fuel (program (lines f.columns first_bytes))).lefts ++ xs)
  first_lefts =
      let r = prefix_left_table f v l first_bytes (join ys) first_split (old_laws.sheets f b) whole_built in
      (r.0, ap (λ (x : List ℕ). (run f.fuel (program (lines f.columns x))).lefts) parts ∙ r.1)
