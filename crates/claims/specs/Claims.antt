-- What is promised of the layout build's answer: the three demands and the operator's checklist (README,
-- "Claims"), as theorems about the definitions of `model`, `meaning` and `answer`, and of `model_patterns`,
-- `meaning_patterns` and `answer_patterns` for the pattern that a sheet may end in, and of `answer_reach` for the reach index beside
-- a sheet. The lemmas stand there.
--
-- A sheet b is a list of bytes. v and l are the lengths of the outputs that are lent for the verdict sheet
-- and the left sheet. f is the format; `base` is the one of FORMAT, and `Ample f` says that its limits do
-- not outgrow its columns and the fuel, which `base_ample` of `FormatLaws` shows of it.
-- Assumes nothing.
use Rattle.std.specs.Prelude.{Some, ◌↔◌, ◌⊎◌, ◌≡◌, refl, Bool, true, false, not, ◌+◌, ◌*◌, ◌^◌, ◌-◌, ℕ, suc, ◌≤◌, ◌<◌, T, eqb, length, get_or, take, drop}
use Rattle.std.proofs.Common.{⊎_elim, sym, ◌∙◌, ap, subst, arith, get_or-append-add, eqb-true, ne_eqb}
use mathlib.Core.List.Memᴰ
use mathlib.Core.List.{List, [], ◌∷◌, ◌++◌, map, append-nil, append_assoc, Memᴰ}
use Rattle.std.proofs.Math.Option.{Option, none, some}
use Rattle.std.proofs.Math.ListN.{get_or-append}
use Rattle.std.proofs.lemmas.Bool.{eqb-false, not-false}
use Rattle.sheet.specs.Format.{Format, Ample, line_bytes}
use Rattle.sheet.specs.Line.{Line, row, bad, letter, number}
use Rattle.sheet.proofs.SheetLaws.{length_lines, lines_append}
use Rattle.sheet.proofs.ListLaws.{Every, every_left}
use Rattle.sheet.specs.Sheet.{count, lines, encodes}
use Rattle.model.specs.Cty.{Cty}
use Rattle.model.specs.Decl.{
  Dtype,
  CtorLayout,
  tag_number,
  NewtypeLayout,
  L_newtype,
  TypeInfo,
  here,
  imported,
  Decl,
  dtype_at,
  origin_at,
  table,
  position,
  ctors_of_tydef,
}
use Rattle.model.specs.Erasure.{cty_erased, marked, rule, start, erasure_fixpoint, Made, locals}
use Rattle.model.specs.Reach.{Reach, nodes}
use Rattle.model.specs.Layout.{kept_ctor, ctor_tag, ctor_layouts, guard_next, source_guard_next, Candidate, candidates_of, passes_of, source_layouts}
use Rattle.model.specs.Resolve.{stays, abbreviation_of, unfolds, resolve, ok, resolve_checked}
use Rattle.model.specs.Run.{record_of, left_program, run, layouts_of, resolves, decl_fault, unfold_next, returns, Abbreviates, ImportedNewtype, lay, layout_of_decl, left_at, info_at}
use Rattle.model.specs.Names.{Declared, Agree, OwnImports}
use Rattle.model_laws.specs.Erasure.{erasure_solves, erasure_least, erasure_made, erasure_rounds}
use Rattle.model_laws.specs.Lists.{trues, table_cong}
use Rattle.model_laws.specs.Reach.{cyclic_iff}
use Rattle.model_laws.specs.Layout as layouts
use Rattle.model_laws.specs.Guard as guard
use Rattle.model_laws.specs.Cty.{every_mem}
use Rattle.model_laws.specs.Run.{get_or_infos, local_info, import_info, import_layout}
use Rattle.model_laws.specs.Locality.{marks_local, layouts_local, info_local, left_local, fault_local, returns_local}
use Rattle.model_laws.specs.Fuel.{fuel_same}
use Rattle.model_laws.specs.Rename.{Injective, rename_decls, SameRenamed, locality_renamed}
use Rattle.model_patterns.specs.Pat.{Pat, pat_vars, ctor_owner, type_layout, Rewritten, rewritten, occurrences, Once, Fitting}
use Rattle.model_patterns.proofs.Laws.Accounted as accounted
use Rattle.model_patterns.proofs.Laws.Fields as fields
use Rattle.meaning.specs.Program.{name_line, type_line, ctor_line, is, trees, program}
use Rattle.meaning.specs.declared.Iwidth.{Iwidth}
use Rattle.meaning.specs.Rows.{nth_line, count_of, heads_before, width_number, iwidth_of, is_width, head_of, ctors_after}
use Rattle.meaning.specs.Output.{verdict_lines, verdict_line_of, left_lines}
use Rattle.meaning_laws.specs.Verdict.{verdict_line_at}
use Rattle.meaning_laws.specs.Rows.{ctor_declared}
use Rattle.meaning_laws.specs.Widths as widths
use Rattle.meaning_patterns.specs.Patterns.{pattern_line, pattern, good_pattern, pat_lines, rewritten_lines}
use Rattle.pattern_laws.specs.Linked.{AllGood}
use Rattle.pattern_laws.proofs.ReadBack as back
use Rattle.answer.specs.declared.Refusal.TheVariants.{Accepted}
use Rattle.answer.specs.Answer.{Refuses, Answer, after}
use Rattle.answer.specs.Answer as alone
use Rattle.answer.specs.Cut.{Sheets, join, Whole}
use Rattle.answer.specs.Cut as old_cut
use Rattle.answer_laws.specs.Answer.{Nothing, after_length, after_past}
use Rattle.answer_laws.specs.Answer as old_laws
use Rattle.answer_laws.specs.Left.{pass_no_return, pass_resolved, few_decls, left_sheet_names, pass_fit}
use Rattle.answer_laws.specs.Build.{passes_ends, passes_whole, whole_append}
use Rattle.answer_patterns.specs.Whole.{front, tail, rows, following, left_sheet, answer}
use Rattle.answer_patterns.specs.Passes.{Passes}
use Rattle.answer_patterns.specs.Cut.{build, builds, Cut, Call, Over, InTurn, last_call, AllAccept, Wrote}
use Rattle.answer_pattern_laws.specs.Parts.{NoPattern, no_pattern_append}
use Rattle.answer_pattern_laws.specs.Plain.{plain_front}
use Rattle.answer_pattern_laws.specs.Sheets.{left_sheet_tail}
use Rattle.answer_pattern_laws.specs.PassesLaws as passes
use Rattle.answer_pattern_laws.specs.Calls as calls
use Rattle.answer_pattern_laws.specs.CutLaws as cuts
use Rattle.answer_pattern_laws.specs.Owners.{slots_counted, program_sound, program_laid}
use Rattle.answer_pattern_laws.specs.Counted.{pattern_counted}
use Rattle.answer_pattern_laws.specs.Following.{following_letters, following_few}
use Rattle.answer_reach.specs.Index.{decl_next, reaches, reached_count, x_line}
use Rattle.answer_reach.specs.Given.{input_refusal, IndexOf}
use Rattle.set_bits.specs.Bits.{has}
use Rattle.set_closure.specs.Ones.{ones_of}
use Rattle.reach_laws.specs.IndexLaws as reach
use Rattle.claims.specs.Unerased.{unerased_ctor}
use Rattle.claims.specs.ClaimsLaws.{true_of, answer_rounds, answer_verdict, answer_left, front_passes, kept_ctors, kept_slots, laid_at, tag_placed, tag_line, row7_tag, left_length, verdicts, length_verdicts, told_lines, first_builds, first_verdict, first_lefts}

-- ---- words
-- accepted: the refusal line shows code 0
abbrev pub Accepts : Format → List ℕ → ℕ → ℕ → Type 0
Accepts f b v l = (answer f b v l).code ≡ 0

-- the lines before the Q lines, and the Q lines
abbrev pub decl_lines : Format → List ℕ → List Line
decl_lines f b = lines f.columns (front f.columns b)

abbrev pub pattern_lines : Format → List ℕ → List Line
pattern_lines f b = lines f.columns (tail f.columns b)

-- the declarations of a sheet, which of them are erased, and which names
abbrev pub decls : Format → List ℕ → List Decl
decls f b = program (decl_lines f b)

abbrev pub marks : List Decl → List Bool
marks ds = (erasure_fixpoint ds).marks

abbrev pub erased : List Decl → ℕ → Bool
erased ds = marked ds (marks ds)

-- ---- for every accepted sheet
-- LEAST. Erasure solves the rules of the declarations over the imported verdicts, and every other solution
-- erases at least as much.
pub record Least (ds : List Decl) : Type 0 where
  pub solves : (i : ℕ) → i < length ds → get_or (marks ds) i false ≡ rule ds (marks ds) i
  pub below :
      (t : List Bool) → length t ≡ length ds → ((i : ℕ) → i < length ds → get_or t i false ≡ rule ds t i)
      → (i : ℕ) → get_or (marks ds) i false ≡ true → get_or t i false ≡ true

pub least : (f : Format) (b : List ℕ) (v l : ℕ) → Accepts f b v l → Least (decls f b)
least f b v l a =
    let ds : List Decl = decls f b in
    record {
      solves = erasure_solves ds;
      below = λ t e s i h. true_of (get_or t i false) (erasure_least ds t e (λ j k r. subst T (sym (s j (rw e at k))) r) i (subst T (sym h) tt));
    }

-- ROUNDS. The reported number is that of the rounds made, the last one, which changes nothing, included:
-- each round before it changed a mark. It is at most one more than there are local types.
pub record Rounds (ds : List Decl) (n : ℕ) : Type 0 where
  pub reported : n ≡ (erasure_fixpoint ds).rounds
  pub made : Made (rule ds) (start ds) (erasure_fixpoint ds)
  pub few : n ≤ suc (locals ds)

pub rounds : (f : Format) (b : List ℕ) (v l : ℕ) → Accepts f b v l → Rounds (decls f b) (answer f b v l).rounds
rounds f b v l a =
    let ds : List Decl = decls f b in
    let e : (answer f b v l).rounds ≡ (erasure_fixpoint ds).rounds = answer_rounds f b v l a in
    record { reported = e; made = erasure_made ds; few = rw e (erasure_rounds ds) }

-- KEPT. A local type keeps exactly the fields whose types are not erased, in order, and has a slot for each field, which says
-- whether it is kept. Its verdict says whether it is erased, its layout is the computed one, and its record number is read off
-- what is left of it (no where nothing is).
pub record LocalVerdict (fuel : ℕ) (ds : List Decl) (i : ℕ) (ti : TypeInfo) : Type 0 where
  pub is_erased : ti.ti_erased ≡ get_or (marks ds) i false
  pub layout : ti.ti_layout ≡ layout_of_decl ds i
  pub fields : map kept_ctor ti.ti_ctors ≡ map (unerased_ctor (erased ds)) (ctors_of_tydef (dtype_at ds i))
  pub slots : map (λ cl. cl.cl_slots) ti.ti_ctors ≡ map (λ c. map (λ x. not (cty_erased (erased ds) x.fd_type)) c.ct_fields) (ctors_of_tydef (dtype_at ds i))
  pub record_number : ti.ti_record ≡ record_of (left_at fuel ds i)

pub kept_fields : (f : Format) (b : List ℕ) (v l : ℕ) → Accepts f b v l → (i : ℕ) → i < length (decls f b) → origin_at (decls f b) i ≡ here
    → (d : TypeInfo) → LocalVerdict f.fuel (decls f b) i (get_or (run f.fuel (decls f b)).infos i d)
unfolding ctor_layouts
kept_fields f b v l a i h o d =
    let ds : List Decl = decls f b in
    rw (get_or_infos f.fuel ds i d h, local_info f.fuel ds i o)
    (record { is_erased = refl; layout = refl; fields = kept_ctors (erased ds) _ (ctors_of_tydef (dtype_at ds i)); slots = kept_slots (erased ds) _ (ctors_of_tydef (dtype_at ds i)); record_number = refl })

-- TAGS. Of every declaration, local or imported, a constructor's layout is stored with its tag: none where it is the only one, else
-- 0, 1, .. in the order of the constructors. So two constructors of one type have different tags.
pub record Tags (d : Dtype) (cls : List CtorLayout) : Type 0 where
  pub as_many : length cls ≡ length (ctors_of_tydef d)
  pub single : length cls ≡ 1 → (x : CtorLayout) → (get_or cls 0 x).cl_tag ≡ none
  pub several : (length cls ≡ 1 → ⊥) → (k : ℕ) → k < length cls → (x : CtorLayout) → (get_or cls k x).cl_tag ≡ some k

pub tags : (f : Format) (b : List ℕ) (v l : ℕ) → Accepts f b v l → (i : ℕ) → i < length (decls f b) → (d : TypeInfo)
    → Tags (dtype_at (decls f b) i) (get_or (run f.fuel (decls f b)).infos i d).ti_ctors
tags f b v l a i h d =
    let p : alone.Passes f (front f.columns b) v l = front_passes f b v l a in
    let ls : List Line = decl_lines f b in
    let cls : List CtorLayout = (get_or (run f.fuel (decls f b)).infos i d).ti_ctors in
    let t = tag_placed f.fuel ls (passes_whole f (front f.columns b) v l p) (λ j k. p.pass7 j (omega (arith, length_lines f.columns (front f.columns b)))) i h d in
    record {
      as_many = laid_at (decls f b) (run f.fuel (decls f b)).infos (program_laid f.fuel ls) i d h;
      single = λ e x. t 0 x (omega arith) ∙ ap (λ (n : ℕ). ctor_tag n 0) e;
      several = λ n k q x. t k x q ∙ rw (ne_eqb (length cls) 1 n);
    }

pub tags_apart : (f : Format) (b : List ℕ) (v l : ℕ) → Accepts f b v l → (i : ℕ) → i < length (decls f b) → (d : TypeInfo) → let cls = (get_or (run f.fuel (decls f b)).infos i d).ti_ctors in
    (j k : ℕ) (x : CtorLayout) → j < length cls → k < length cls → (get_or cls j x).cl_tag ≡ (get_or cls k x).cl_tag → j ≡ k
tags_apart f b v l a i h d j k x p q e = go (eqb n 1) refl
  where
    n : ℕ
    n = length (get_or (run f.fuel (decls f b)).infos i d).ti_ctors

    t : Tags (dtype_at (decls f b) i) (get_or (run f.fuel (decls f b)).infos i d).ti_ctors
    t = tags f b v l a i h d

    go : (c : Bool) → eqb n 1 ≡ c → j ≡ k
    go true m = omega (arith, eqb-true n 1 m)
    go false m = some_injective (sym (t.several (eqb-false n 1 m) j p x) ∙ (e ∙ t.several (eqb-false n 1 m) k q x))
      where
        some_injective : {c d : ℕ} → some c ≡ some d → c ≡ d
        some_injective y = cc

-- IMPORTS. An import keeps what its lines say: erasure, layout, kept fields and record; and the layout that
-- its lines say is the one that resolution goes by.
pub imports : (f : Format) (b : List ℕ) (v l : ℕ) → Accepts f b v l → (i : ℕ) (ti : TypeInfo) → i < length (decls f b) → origin_at (decls f b) i ≡ imported ti
    → ((d : TypeInfo) → get_or (run f.fuel (decls f b)).infos i d ≡ ti) × (layout_of_decl (decls f b) i ≡ ti.ti_layout)
imports f b v l a i ti h o = (
  λ d. get_or_infos f.fuel (decls f b) i d h ∙ import_info f.fuel (decls f b) i ti o,
  import_layout (decls f b) i ti h o,
)

-- COLLAPSED. A local type is a newtype exactly where its guards allow it (`Candidate`: not erased, without
-- `NoNewtype`, one constructor, one kept field, whose type less one `TInline` is the payload) and no steps
-- from its payload, through payloads of candidates, also of those that are dropped, and bodies of unfolded
-- abbreviations lead back to its name.
pub collapsed : (f : Format) (b : List ℕ) (v l : ℕ) → Accepts f b v l → (i : ℕ) → i < length (decls f b) → origin_at (decls f b) i ≡ here → (nt : NewtypeLayout)
    → (layout_of_decl (decls f b) i ≡ L_newtype nt)
    ↔ (Candidate (erased (decls f b)) (dtype_at (decls f b) i) (get_or (marks (decls f b)) i false) nt
    × (Reach (guard_next (decls f b) (passes_of (decls f b) (marks (decls f b)))) i i → ⊥))
unfolding layouts_of
collapsed f b v l a i h o nt = layouts.collapsed (decls f b) (marks (decls f b)) i h o nt

-- ---- the guard and the source's
-- The source's guard (`source_guard_next`) goes on through payloads of candidates alone. The next three claims say what
-- differs; they are of any program.
--
-- GUARD MORE. What the source's guard drops is dropped. What is dropped and would not be by the source's guard lies on loops
-- that each have an unfolded abbreviation on them.
pub record GuardMore (ds : List Decl) (i : ℕ) : Type 0 where
  pub drops : Reach (source_guard_next ds (candidates_of ds (marks ds))) i i → Reach (guard_next ds (passes_of ds (marks ds))) i i
  pub alone :
      (Reach (source_guard_next ds (candidates_of ds (marks ds))) i i → ⊥)
      → (w : Reach (guard_next ds (passes_of ds (marks ds))) i i)
      → (j : ℕ) × Memᴰ j (nodes (guard_next ds (passes_of ds (marks ds))) w) × Abbreviates ds (layouts_of ds) j

pub guard_more : (ds : List Decl) (i : ℕ) → GuardMore ds i
unfolding layouts_of
guard_more ds i =
    record { drops = guard.source_dropped ds (marks ds); alone = λ n w. ⊎_elim (λ r. absurd (n r)) (λ q. q) (guard.guard_walk ds (marks ds) w) }

-- LOOPS LEFT. Row 8 refuses a declaration exactly where it is on a loop of unfolded names; every such loop is of abbreviations
-- alone, or an imported newtype is on it.
pub record LoopsLeft (ds : List Decl) (i : ℕ) : Type 0 where
  pub refused_by_loop : (returns ds (layouts_of ds) i ≡ true) ↔ Reach (unfold_next ds (layouts_of ds)) i i
  pub loop_is :
      (w : Reach (unfold_next ds (layouts_of ds)) i i)
      → ((j : ℕ) → Memᴰ j (nodes (unfold_next ds (layouts_of ds)) w) → Abbreviates ds (layouts_of ds) j)
      ⊎ ((j : ℕ) × Memᴰ j (nodes (unfold_next ds (layouts_of ds)) w) × ImportedNewtype ds j)

pub loops_left : (ds : List Decl) (i : ℕ) → LoopsLeft ds i
unfolding returns layouts_of
loops_left ds i =
    record {
      refused_by_loop = cyclic_iff (unfold_next ds (layouts_of ds)) (length ds) i (layouts.unfold_below ds (layouts_of ds));
      loop_is = guard.loop_left ds (marks ds) i;
    }

-- GUARD HERE. A program without unfolded abbreviations has the layouts that the source's guard gives, and so the source's
-- verdicts and left declarations.
pub guard_here : (ds : List Decl) → ((i : ℕ) → i < length ds → abbreviation_of (get_or (unfolds ds (layouts_of ds)) i stays) ≡ none) → layouts_of ds ≡ source_layouts ds (marks ds)
unfolding layouts_of
guard_here ds = guard.guard_source ds (marks ds)

-- RESOLVED. No type in the left sheet names a collapsed, erased or unfolded type: the name of every `TApp`
-- line read from its bytes stays. (The checklist's third line.)
pub resolved : (f : Format) (b : List ℕ) (v l : ℕ) → Ample f → Accepts f b v l → (y : Line) → Memᴰ y (lines f.columns (answer f b v l).left)
    → letter y ≡ type_line → number y 0 ≡ 8 → lay (decls f b) (number y 1) ≡ stays
resolved f b v l ample a y m e k =
    let p : alone.Passes f (front f.columns b) v l = front_passes f b v l a in
    let n : length (alone.left_sheet f (decl_lines f b)) ≡ line_bytes f.columns * length (left_lines (decl_lines f b) (left_program (run f.fuel (decls f b)))) = left_length f (decl_lines f b) (pass_fit f (front f.columns b) v l ample p) in
    let q : lines f.columns (answer f b v l).left ≡ lines f.columns (alone.left_sheet f (decl_lines f b)) ++ lines f.columns (encodes f.columns (following f (decl_lines f b) (pattern_lines f b))) =
    ap (lines f.columns) (answer_left f b v l a ∙ left_sheet_tail f (decl_lines f b) (pattern_lines f b))
    ∙ lines_append f.columns (length (left_lines (decl_lines f b) (left_program (run f.fuel (decls f b))))) (alone.left_sheet f (decl_lines f b)) (encodes f.columns (following f (decl_lines f b) (pattern_lines f b))) n in
    ⊎_elim
    (λ z. left_sheet_names f (front f.columns b) v l ample p y z e k)
    (λ z. absurd (following_letters f f.columns (decl_lines f b) (pattern_lines f b) y z e))
    (Memᴰ.append_cases (lines f.columns (alone.left_sheet f (decl_lines f b))) (subst (Memᴰ y) q m))

-- UNSPENT. The fuel, 100 in the base, is never spent: every type that is resolved is resolved to the end, without a
-- fault, and any larger fuel gives the same.
pub record Unspent (f : Format) (ds : List Decl) (c : Cty) : Type 0 where
  pub to_the_end : resolve_checked f.nodes (lay ds) f.fuel c ≡ ok (resolve (lay ds) f.fuel c)
  pub more : (m : ℕ) → f.fuel ≤ m → resolve (lay ds) m c ≡ resolve (lay ds) f.fuel c

pub unspent : (f : Format) (b : List ℕ) (v l : ℕ) → Ample f → Accepts f b v l → (i : ℕ) → i < length (decls f b)
    → (c : Cty) → Memᴰ c (resolves (layout_of_decl (decls f b) i)) → Unspent f (decls f b) c
unspent f b v l ample a i h c m =
    let p : alone.Passes f (front f.columns b) v l = front_passes f b v l a in
    let few : length (decls f b) < f.fuel = few_decls f (front f.columns b) v l ample p in
    record {
      to_the_end = (every_mem _ (resolves (layout_of_decl (decls f b) i)) (pass_resolved f (front f.columns b) v l ample p i h) c m).answers;
      more = λ m q. fuel_same (decls f b) (pass_no_return f (front f.columns b) v l ample p) m f.fuel (omega (arith, few)) few c;
    }

-- RUN. The verdicts and the declarations that are left are those of `run`: the source's, but for the guard, which goes on
-- through unfolded abbreviations too (`guard_more`, `loops_left`, `guard_here`). The Q lines stay in the verdict sheet, and in
-- the left sheet their pattern follows the declarations, rewritten (`pattern_of_source`).
pub record OfSource (f : Format) (b : List ℕ) (a : Answer) : Type 0 where
  pub verdicts : a.verdict ≡ encodes f.columns (verdict_lines (decl_lines f b) (run f.fuel (decls f b)).infos) ++ tail f.columns b
  pub declarations : a.left ≡ encodes f.columns (left_lines (decl_lines f b) (left_program (run f.fuel (decls f b)))) ++ encodes f.columns (following f (decl_lines f b) (pattern_lines f b))

pub run_of_source : (f : Format) (b : List ℕ) (v l : ℕ) → Accepts f b v l → OfSource f b (answer f b v l)
unfolding alone.verdict_sheet alone.left_sheet
run_of_source f b v l a =
    record { verdicts = answer_verdict f b v l a; declarations = answer_left f b v l a ∙ left_sheet_tail f (decl_lines f b) (pattern_lines f b) }

-- VERDICT LENGTH. The verdict sheet is as long as the sheet (the checklist's first line), and building it
-- alone is accepted and gives it back with the same left sheet.
pub verdict_length : (f : Format) (b : List ℕ) (v l : ℕ) → 0 < f.columns → Accepts f b v l → length (answer f b v l).verdict ≡ length b
verdict_length f b v l pos a =
    let p : Passes f b v l = passes.accepted_passes f b v l a in
    ap length (answer_verdict f b v l a ∙ sym (calls.verdict_parts f b v l p)) ∙ calls.verdict_length f b v l p pos

-- VERDICT LINES. Line i of the verdict sheet is line i of the sheet, but for D lines and the C, F and V lines of
-- D declarations (`verdict_line_of`): there D has become I, a C line has its tag's number, the keep number is 1 exactly
-- where the field's type is not erased, and V has the verdict's numbers. Q lines stay.
pub verdict_lines_told : (f : Format) (b : List ℕ) (v l : ℕ) → 0 < f.columns → Accepts f b v l → (i : ℕ) → i < count f.columns (front f.columns b)
    → nth_line (lines f.columns (answer f b v l).verdict) i
    ≡ verdict_line_of (erased (decls f b)) (trees (decl_lines f b)) (info_at f.fuel (decls f b) (heads_before (decl_lines f b) (suc i) - 1)) (head_of (decl_lines f b) i) (ctors_after 0 (take i (decl_lines f b))) (nth_line (decl_lines f b) i)
verdict_lines_told f b v l pos a i h =
    let p : alone.Passes f (front f.columns b) v l = front_passes f b v l a in
    let n : i < length (verdicts f (decl_lines f b)) = omega (arith, length_verdicts f (decl_lines f b), length_lines f.columns (front f.columns b)) in
    ap (λ (ls : List Line). nth_line ls i) (told_lines f b v l a pos)
    ∙ (get_or-append (verdicts f (decl_lines f b)) (pattern_lines f b) bad i n
    ∙ verdict_line_at f.fuel (decl_lines f b) (passes_whole f (front f.columns b) v l p) i (omega (arith, length_lines f.columns (front f.columns b))))

-- TAG LINES. In the verdict sheet the third number of a C line, of a local or an imported declaration, is 0 where the declaration
-- has one constructor, else one more than there are C lines of the declaration before it.
pub record TagLine (ctors before third : ℕ) : Type 0 where
  pub single : ctors ≡ 1 → third ≡ 0
  pub several : (ctors ≡ 1 → ⊥) → third ≡ suc before

pub tag_lines : (f : Format) (b : List ℕ) (v l : ℕ) → 0 < f.columns → Accepts f b v l → (i : ℕ) → i < count f.columns (front f.columns b) → letter (nth_line (decl_lines f b) i) ≡ ctor_line
    → TagLine (number (head_of (decl_lines f b) i) 4) (ctors_after 0 (take i (decl_lines f b))) (number (nth_line (lines f.columns (answer f b v l).verdict) i) 2)
tag_lines f b v l pos a i h e =
    record {
      single = λ n. t ∙ ap (λ (m : ℕ). tag_number (ctor_tag m k)) n;
      several = λ n. t ∙ rw (ne_eqb (number (head_of ls i) 4) 1 n);
    }
  where
    ls : List Line
    ls = decl_lines f b

    k : ℕ
    k = ctors_after 0 (take i ls)

    p : alone.Passes f (front f.columns b) v l
    p = front_passes f b v l a

    c : is ctor_line (nth_line ls i) ≡ true
    c = rw e

    t : number (nth_line (lines f.columns (answer f b v l).verdict) i) 2 ≡ tag_number (ctor_tag (number (head_of ls i) 4) k)
    t =
        ap (λ (x : Line). number x 2) (verdict_lines_told f b v l pos a i h)
        ∙ tag_line (erased (decls f b)) (trees ls) (info_at f.fuel (decls f b) (heads_before ls (suc i) - 1)) (head_of ls i) k (nth_line ls i)
        (ctor_declared ls (passes_ends f (front f.columns b) v l p) i (omega (arith, length_lines f.columns (front f.columns b))) c) c (row7_tag ls i (p.pass7 i h) c)

pub verdict_patterns_stay : (f : Format) (b : List ℕ) (v l : ℕ) → 0 < f.columns → Accepts f b v l → (i : ℕ)
    → nth_line (lines f.columns (answer f b v l).verdict) (count f.columns (front f.columns b) + i) ≡ nth_line (pattern_lines f b) i
verdict_patterns_stay f b v l pos a i =
    let n : count f.columns (front f.columns b) + i ≡ length (verdicts f (decl_lines f b)) + i = omega (arith, length_verdicts f (decl_lines f b), length_lines f.columns (front f.columns b)) in
    ap (λ (ls : List Line). nth_line ls (count f.columns (front f.columns b) + i)) (told_lines f b v l a pos)
    ∙ (ap (λ (k : ℕ). nth_line (verdicts f (decl_lines f b) ++ pattern_lines f b) k) n ∙ get_or-append-add (verdicts f (decl_lines f b)) (pattern_lines f b) i bad)

pub verdict_again : (f : Format) (b : List ℕ) (v l : ℕ) → 0 < f.columns → (x : Sheets) → build f v l b ≡ some x → build f v l x.verdict ≡ some x
verdict_again = calls.verdict_again

-- REFUSED. The refusal line shows 0 exactly where no row of the table applies (the checklist's fourth
-- line). Any other code is one of 1 to 13, and its row is the first that applies: it applies at the given
-- place, at no earlier one, and no row before it applies anywhere.
pub refused : (f : Format) (b : List ℕ) (v l : ℕ) → Accepts f b v l ↔ Passes f b v l
refused f b v l = (passes.accepted_passes f b v l, passes.passes_accepted f b v l)

pub refused_by : (f : Format) (b : List ℕ) (v l : ℕ) → Ample f → (Accepts f b v l → ⊥)
    → Refuses (rows f b v l) (answer f b v l).code (answer f b v l).place × (1 ≤ (answer f b v l).code) × ((answer f b v l).code ≤ 13)
refused_by f b v l ample h = let r = passes.answer_refuses f b ample v l h in (r.0, r.1.0, r.1.1)

-- On every refusal both outputs keep their bytes. On acceptance both sheets fit their outputs, and past a
-- sheet its output keeps its bytes.
pub record Unchanged (a : Answer) : Type 0 where
  pub no_rounds : a.rounds ≡ 0
  pub verdict_output : (old : List ℕ) → after a.verdict old ≡ old
  pub left_output : (old : List ℕ) → after a.left old ≡ old

pub unchanged : (f : Format) (b : List ℕ) (v l : ℕ) → (Accepts f b v l → ⊥) → Unchanged (answer f b v l)
unchanged f b v l h =
    let n : Nothing (answer f b v l) = passes.refused_nothing f b v l h in
    record {
      no_rounds = n.no_rounds;
      verdict_output = λ old. ap (λ (x : List ℕ). after x old) n.no_verdict;
      left_output = λ old. ap (λ (x : List ℕ). after x old) n.no_left;
    }

pub record Holds (sheet old : List ℕ) : Type 0 where
  pub same_length : length (after sheet old) ≡ length old
  pub begins : (k : ℕ) → k < length sheet → get_or (after sheet old) k 0 ≡ get_or sheet k 0
  pub past : (k : ℕ) → length sheet ≤ k → get_or (after sheet old) k 0 ≡ get_or old k 0

pub written : (f : Format) (b : List ℕ) (v l : ℕ) → 0 < f.columns → Accepts f b v l → (old old' : List ℕ) → length old ≡ v → length old' ≡ l
    → Holds (answer f b v l).verdict old × Holds (answer f b v l).left old'
written f b v l pos a old old' e e' =
    let p : Passes f b v l = passes.accepted_passes f b v l a in (
      fitted (answer f b v l).verdict old (omega (arith, verdict_length f b v l pos a, p.pass11)),
      fitted (answer f b v l).left old' (omega (arith, ap length (answer_left f b v l a), p.pass12)),
    )
  where
    fitted : (w o : List ℕ) → length w ≤ length o → Holds w o
    fitted w o h = record { same_length = after_length w o h; begins = get_or-append w (drop (length w) o) 0; past = after_past w o }

-- ---- locality
-- LOCALITY. Let two programs agree on a set of names whose declarations name nothing outside it, imports
-- counting by their verdicts: they give these names the same erasure, layouts, keeps, verdicts, left declarations,
-- faults and loops. Any declarations, any limit.
pub record Same (limit fuel : ℕ) (ds ds' : List Decl) (n : ℕ) : Type 0 where
  pub same_erasure : get_or (marks ds) (position ds n) false ≡ get_or (marks ds') (position ds' n) false
  pub same_layout : layout_of_decl ds (position ds n) ≡ layout_of_decl ds' (position ds' n)
  pub same_verdict : info_at fuel ds (position ds n) ≡ info_at fuel ds' (position ds' n)
  pub same_left : left_at fuel ds (position ds n) ≡ left_at fuel ds' (position ds' n)
  pub same_fault : decl_fault limit fuel ds (layouts_of ds) (position ds n) ≡ decl_fault limit fuel ds' (layouts_of ds') (position ds' n)
  pub same_loop : returns ds (layouts_of ds) (position ds n) ≡ returns ds' (layouts_of ds') (position ds' n)

pub locality : (limit fuel : ℕ) (S : ℕ → Bool) (ds ds' : List Decl) → Agree S ds ds' → OwnImports ds → OwnImports ds' → (n : ℕ) → S n ≡ true → Declared ds n → Same limit fuel ds ds' n
locality limit fuel S ds ds' agree own own' n h d =
    record {
      same_erasure = marks_local S ds ds' agree own n h;
      same_layout = layouts_local S ds ds' agree own n h;
      same_verdict = info_local S ds ds' agree own fuel n h d;
      same_left = left_local S ds ds' agree own fuel n h d;
      same_fault = fault_local S ds ds' agree own limit fuel n h d;
      same_loop = returns_local S ds ds' agree own own' n h d;
    }

-- The same of two programs that number their names differently: ρ gives each name of the first its number
-- in the second, and what the second gets is what the first gets, renamed.
pub locality_by_names : (ρ : ℕ → ℕ) → Injective ρ → (limit fuel : ℕ) (S : ℕ → Bool) (ds ds' : List Decl) → Agree S (rename_decls ρ ds) ds' → OwnImports ds → OwnImports ds'
    → (n : ℕ) → S (ρ n) ≡ true → Declared ds n → SameRenamed ρ limit fuel ds ds' n
locality_by_names = locality_renamed

-- ---- the cut
-- CUT (demand 3). For every sheet b cut into its N, A and Y lines, a list of one or more units, each of whole
-- declarations, empty ones allowed, and each naming only its own types, those of earlier units and names that the whole
-- declares nowhere, and the Q lines, of which there may be none and whose names may be any: build the units in turn, the
-- first from the N, A and Y lines and its own declarations, each later one from the verdict sheet that the build before it
-- returned and its own declarations, the last with the Q lines behind them, stopping at a refusal. All units are accepted
-- exactly where one build of the whole, with outputs of the same lengths, is accepted; then the last unit's two sheets and
-- the whole's are the same bytes, pattern and freed names included. Of the sheet nothing more is asked: it may break any row.
pub cut : (f : Format) (v l : ℕ) (b header u : List ℕ) (us : List (List ℕ)) (z : List ℕ) → 0 < f.columns → Cut f.columns b header (u ∷ us) z
    → builds f v l header u us z ≡ build f v l b
cut = cuts.cut_builds

-- The same of calls, each of which does what the build's contract says of it (`Call`). The calls build the
-- units in turn: the first is given the N, A and Y lines and the first unit; each later one the first bytes,
-- as many as its sheet had, of the verdict output that the call before left, and its own unit; the last also the Q lines.
-- `whole` is one call with the whole sheet. All calls have outputs of v and l bytes, and whatever these held: every call
-- shows code 0 exactly where the whole's does, and then the last call's outputs and the whole's begin with
-- the same two sheets, past which each output holds what it held.
-- How this is about the code: a `Call` holds the equation that the build's contract states of a call.
pub cut_calls : (f : Format) (v l : ℕ) (b header u : List ℕ) (us : List (List ℕ)) (z : List ℕ) → 0 < f.columns → Cut f.columns b header (u ∷ us) z
    → (c : Call f) (cs : List (Call f)) → InTurn f v l header u us z c cs → (whole : Call f) → Over f v l [] b whole
    → (AllAccept c cs ↔ (whole.gave.code ≡ 0)) × (whole.gave.code ≡ 0 → (x : Sheets) × Wrote whole x × Wrote (last_call c cs) x)
cut_calls f v l b header u us z pos cut c cs o whole w =
    (calls.cut_accepts f v l pos b header u us z cut c cs o whole w, calls.cut_wrote f v l pos b header u us z cut c cs o whole w)

-- SAME FIELDS (the checklist's second line). In an accepted sheet that is cut so, the first units build as
-- well, and their verdict sheet begins the whole's: every line of a type, its keeps among them, is the same
-- in every unit from the one that declares it. So is what is left of it: for each declaration of the first
-- units the left declaration, if there is one, is the whole's.
pub record FirstUnits (f : Format) (v l : ℕ) (b header u : List ℕ) (us : List (List ℕ)) (y : Sheets) : Type 0 where
  pub built : Sheets
  pub are_built : builds f v l header u us [] ≡ some built
  pub verdict_rest : List ℕ
  pub begin_verdict : y.verdict ≡ built.verdict ++ verdict_rest
  pub left_rest : List (Option Dtype)
  pub begin_left : (run f.fuel (decls f b)).lefts ≡ (run f.fuel (decls f (header ++ join (u ∷ us)))).lefts ++ left_rest

pub same_fields : (f : Format) (v l : ℕ) (b header u : List ℕ) (us ys : List (List ℕ)) (z : List ℕ) → 0 < f.columns → Cut f.columns b header (u ∷ (us ++ ys)) z
    → (y : Sheets) → build f v l b ≡ some y → FirstUnits f v l b header u us y
unfolding old_laws.sheets
same_fields f v l b header u us ys z pos c y e =
    record {
      built = old_laws.sheets f some_units;
      are_built =
          cuts.builds_plain f v l pos us header u (whole_append w header u c.header_whole wholes.0) (cuts.first_plain f v l b header u (us ++ ys) z pos c) wholes.1 plains.1
          ∙ first_builds f v l pos all_units header u us ys before j.front_passes;
      verdict_rest = r.0 ++ tail w b;
      begin_verdict = ap (λ (x : Sheets). x.verdict) same ∙ (calls.verdict_parts f b v l k ∙ (ap (λ (x : List ℕ). alone.verdict_sheet f (lines w x) ++ tail w b) at_front ∙ (ap (λ (x : List ℕ). x ++ tail w b) r.1 ∙ append_assoc (old_laws.sheets f some_units).verdict r.0 (tail w b))));
      left_rest = t.0;
      begin_left =
          ap (λ (x : List ℕ). (run f.fuel (program (lines w x))).lefts) at_front
          ∙ (t.1 ∙ ap (λ (x : List ℕ). (run f.fuel (program (lines w x))).lefts ++ t.0) (sym (plain_front w some_units (whole_append w header (join (u ∷ us)) c.header_whole (cuts.join_whole w (u ∷ us) wholes)) (no_pattern_append w header (join (u ∷ us)) c.header_whole c.header_plain (cuts.join_plain w (u ∷ us) wholes plains)))));
    }
  where
    w : ℕ
    w = f.columns

    some_units : List ℕ
    some_units = header ++ join (u ∷ us)

    all_units : List ℕ
    all_units = header ++ join (u ∷ (us ++ ys))

    k : Passes f b v l
    k = passes.build_passes f b v l y e

    same : y ≡ passes.sheets f b
    same = passes.some_same y (passes.sheets f b) (sym e ∙ passes.passes_build f b v l k)

    j : passes.Joined f (header ++ join (u ∷ (us ++ ys))) z v l
    j = cuts.front_joined f v l b header u (us ++ ys) z pos c k

    at_front : front w b ≡ header ++ join (u ∷ (us ++ ys))
    at_front = cuts.front_is f v l b header u (us ++ ys) z pos c

    before : old_cut.Cut w (header ++ join (u ∷ (us ++ ys))) header (u ∷ (us ++ ys))
    before = cuts.before_tail f v l b header u (us ++ ys) z pos c (λ h. record { declarations = h; no_bad = j.no_bad; good_patterns = j.good })

    wholes : Every (Whole w) (u ∷ us)
    wholes = every_left (Whole w) (u ∷ us) ys (cuts.all_whole f v l b header u (us ++ ys) z pos c)

    plains : cuts.Plain w (u ∷ us)
    plains = every_left (NoPattern w) (u ∷ us) ys (cuts.all_plain f v l b header u (us ++ ys) z pos c)

    r : (r : List ℕ) × ((old_laws.sheets f (header ++ join (u ∷ (us ++ ys)))).verdict ≡ (old_laws.sheets f (header ++ join (u ∷ us))).verdict ++ r)
    r = first_verdict f v l pos (header ++ join (u ∷ (us ++ ys))) header u us ys before j.front_passes

    t : (xs : List (Option Dtype)) × ((run f.fuel (program (lines w (header ++ join (u ∷ (us ++ ys)))))).lefts ≡ (run f.fuel (program (lines w (header ++ join (u ∷ us))))).lefts ++ xs)
    t = first_lefts f v l pos (header ++ join (u ∷ (us ++ ys))) header u us ys before j.front_passes

-- ---- patterns
-- PATTERN. The pattern that the Q lines denote, and what becomes of it: the source's `rw_pat` over the verdicts of `run`.
abbrev pub sheet_pattern : Format → List ℕ → Pat
sheet_pattern f b = pattern (pattern_lines f b)

abbrev pub sheet_rewritten : Format → List ℕ → Rewritten
sheet_rewritten f b = rewritten f.fuel (decls f b) (sheet_pattern f b)

-- PATTERN OF SOURCE. The left sheet is that of the declarations, and where there are Q lines the lines of the new pattern and
-- of the freed names stand behind it.
pub record PatternOfSource (f : Format) (b : List ℕ) (a : Answer) : Type 0 where
  pub without : count f.columns (tail f.columns b) ≡ 0 → a.left ≡ alone.left_sheet f (decl_lines f b)
  pub with_lines : 0 < count f.columns (tail f.columns b) → a.left ≡ alone.left_sheet f (decl_lines f b) ++ encodes f.columns (rewritten_lines (sheet_rewritten f b))

pub pattern_of_source : (f : Format) (b : List ℕ) (v l : ℕ) → Accepts f b v l → PatternOfSource f b (answer f b v l)
unfolding following encodes
pattern_of_source f b v l a = go (pattern_lines f b) refl
  where
    is_left : (answer f b v l).left ≡ alone.left_sheet f (decl_lines f b) ++ encodes f.columns (following f (decl_lines f b) (pattern_lines f b))
    is_left = answer_left f b v l a ∙ left_sheet_tail f (decl_lines f b) (pattern_lines f b)

    go : (qs : List Line) → pattern_lines f b ≡ qs → PatternOfSource f b (answer f b v l)
    go [] e =
        record {
          without = λ h. is_left ∙ (ap (λ (x : List Line). alone.left_sheet f (decl_lines f b) ++ encodes f.columns (following f (decl_lines f b) x)) e ∙ append-nil (alone.left_sheet f (decl_lines f b)));
          with_lines = λ h. absurd (omega (arith, length_lines f.columns (tail f.columns b), ap length e));
        }
    go (q ∷ qs) e =
        record {
          without = λ h. absurd (omega (arith, length_lines f.columns (tail f.columns b), ap length e));
          with_lines = λ h.
              is_left
              ∙ (ap (λ (x : List Line). alone.left_sheet f (decl_lines f b) ++ encodes f.columns (following f (decl_lines f b) x)) e
              ∙ ap (λ (x : List Line). alone.left_sheet f (decl_lines f b) ++ encodes f.columns (rewritten_lines (rewritten f.fuel (decls f b) (pattern x)))) (sym e));
        }

-- every Q line of an accepted sheet passes row 5
good_lines : (f : Format) (b : List ℕ) (v l : ℕ) → Accepts f b v l → AllGood (count_of name_line (decl_lines f b)) (pattern_lines f b)
good_lines f b v l a q h =
    not-false (good_pattern (count_of name_line (decl_lines f b)) (pattern_lines f b) q)
    ((passes.accepted_passes f b v l a).patterns5 q (omega (arith, length_lines f.columns (tail f.columns b))))

-- FIELDS LOST. In the new pattern every `PCtor` of a declared constructor has a struct for its type and as many parts as that
-- constructor has kept fields, and every `PRecord` of a declared struct of one constructor names kept fields only.
pub fields_lost : (f : Format) (b : List ℕ) (v l : ℕ) → Accepts f b v l
    → Fitting (ctor_owner (run f.fuel (decls f b)).infos) (type_layout (decls f b) (run f.fuel (decls f b)).infos) (sheet_rewritten f b).pat
unfolding rewritten
fields_lost f b v l a =
    let p : Passes f b v l = passes.accepted_passes f b v l a in
    let n : length (pattern_lines f b) ≡ count f.columns (tail f.columns b) = length_lines f.columns (tail f.columns b) in
    let m : length (decl_lines f b) ≡ count f.columns (front f.columns b) = length_lines f.columns (front f.columns b) in
    fields.fields_lost (ctor_owner (run f.fuel (decls f b)).infos) (type_layout (decls f b) (run f.fuel (decls f b)).infos)
    (program_sound (decl_lines f b) (λ i h. p.pass7 i (omega arith)) f.fuel)
    (sheet_pattern f b)
    (pattern_counted (ctor_owner (run f.fuel (decls f b)).infos) (count_of name_line (decl_lines f b)) (decls f b) (pattern_lines f b) (slots_counted f.fuel (decl_lines f b))
    (good_lines f b v l a)
    (λ q h. p.pass13 q (omega arith)))

-- NAMES ACCOUNTED. If no `PRecord` of the pattern names a field twice, its variables, counted with repetitions, are those of the
-- new pattern together with the freed ones.
pub names_accounted : (f : Format) (b : List ℕ) (v l : ℕ) → Accepts f b v l → Once (sheet_pattern f b)
    → (n : ℕ) → occurrences n (pat_vars (sheet_pattern f b)) ≡ occurrences n (pat_vars (sheet_rewritten f b).pat) + occurrences n (sheet_rewritten f b).freed
unfolding rewritten
names_accounted f b v l a h n =
    accounted.names_accounted (ctor_owner (run f.fuel (decls f b)).infos) (type_layout (decls f b) (run f.fuel (decls f b)).infos) (sheet_pattern f b) h n

-- LINES BOUNDED. The lines of the new pattern and of the freed names together are no more than the Q lines: so the left sheet is at
-- most so much longer than that of the declarations.
pub lines_bounded : (f : Format) (b : List ℕ) (v l : ℕ) → Accepts f b v l → length (following f (decl_lines f b) (pattern_lines f b)) ≤ count f.columns (tail f.columns b)
lines_bounded f b v l a =
    omega (arith, following_few f (decl_lines f b) (count_of name_line (decl_lines f b)) (pattern_lines f b) (good_lines f b v l a), length_lines f.columns (tail f.columns b))

-- READ BACK. The lines of the new pattern denote it.
pub read_back : (f : Format) (b : List ℕ) → pattern (map (row pattern_line) (pat_lines (sheet_rewritten f b).pat 0 0 0)) ≡ (sheet_rewritten f b).pat
read_back f b = back.read_back (sheet_rewritten f b).pat

-- ---- the reach index
-- REACH ANSWERED. Where a build accepts the sheet, whatever its outputs, so does a call that asks for the reach index.
pub reach_answered : (f : Format) (b : List ℕ) (v l : ℕ) → Accepts f b v l → input_refusal f b ≡ Accepted
reach_answered f b v l a = passes.passes_input f b v l (passes.accepted_passes f b v l a)

-- REACH SET. In words that hold the reach index of a program, bit j of set i is 1 exactly if declaration j is reached from declaration i
-- by one step or more, from a body to the declarations that it names: there is no search in `Reach`. Both are declarations then, so
-- that every bit of one that is not there is 0.
pub record ReachSet (ds : List Decl) (i j : ℕ) (bit : Bool) : Type 0 where
  pub exactly : (bit ≡ true) ↔ Reach (decl_next ds) i j
  pub past : (length ds ≤ i) ⊎ (length ds ≤ j) → bit ≡ false

pub reach_set : (n words : ℕ) (ds : List Decl) (s : List ℕ) → IndexOf n words ds s → (i j : ℕ) → i < n → j < 64 * words → ReachSet ds i j (has s (i * words) j)
reach_set n words ds s x i j h k =
    rw (x.bits i j h k) (record { exactly = reach.reaches_iff ds i j; past = ⊎_elim (λ l. reach.reaches_from ds i j l) (λ l. reach.reaches_past ds i j l) })

-- REACH COUNT. The number that line X shows of declaration i is how many declarations have their bit in its set, and the sum of the ones
-- of the set's words.
pub record ReachCount (words : ℕ) (ds : List Decl) (s : List ℕ) (i shown : ℕ) : Type 0 where
  pub members : shown ≡ trues (table (has s (i * words)) (length ds))
  pub ones : shown ≡ ones_of s (i * words) words

pub reach_count : (n words : ℕ) (ds : List Decl) (s : List ℕ) → IndexOf n words ds s → length ds ≤ 64 * words → ((k : ℕ) → get_or s k 0 < 2 ^ 64) → (i : ℕ) → i < n → ReachCount words ds s i (number (x_line ds i) 1)
unfolding x_line reached_count
reach_count n words ds s x wide fit i h =
    record {
      members = ap trues (table_cong (reaches ds i) (has s (i * words)) (length ds) (λ j l. sym (x.bits i j h (omega (arith, l, wide)))));
      ones = sym (reach.ones_count ds n words s x wide fit i h);
    }

-- REACH TRANSITIVE. What a reached declaration reaches is reached.
pub reach_transitive : (n words : ℕ) (ds : List Decl) (s : List ℕ) → IndexOf n words ds s → (i j k : ℕ) → i < n → j < n → j < 64 * words → k < 64 * words
    → has s (i * words) j ≡ true → has s (j * words) k ≡ true → has s (i * words) k ≡ true
reach_transitive n words ds s x i j k h l m o a b =
    x.bits i k h o ∙ reach.reaches_trans ds i j k (sym (x.bits i j h m) ∙ a) (sym (x.bits j k l o) ∙ b)

-- ---- the widths of integer types
-- WIDTH READ, WIDTH NUMBER OF. The number of a width stands for that width, and a number that stands for a width is that width's.
pub width_read : (w : Iwidth) → iwidth_of (width_number w) ≡ Some w
width_read = widths.width_read

pub width_number_of : (n : ℕ) (w : Iwidth) → iwidth_of n ≡ Some w → n ≡ width_number w
width_number_of = widths.width_number_of

-- WIDTHS APART. No two widths have one number.
pub widths_apart : (v w : Iwidth) → width_number v ≡ width_number w → v ≡ w
widths_apart = widths.widths_apart

-- WIDTH TAKEN, SIX. Row 5 takes a number for a width exactly if it stands for one, and exactly if it is one of the six of FORMAT.
pub width_taken : (n : ℕ) → (is_width n ≡ true) ↔ ((w : Iwidth) × (iwidth_of n ≡ Some w))
width_taken = widths.width_taken

pub six : (n : ℕ) → (is_width n ≡ true) ↔ Memᴰ n (8 ∷ 16 ∷ 32 ∷ 64 ∷ 128 ∷ 1 ∷ [])
six = widths.six
