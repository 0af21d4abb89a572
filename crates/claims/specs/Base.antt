-- What is promised of every call of the layout build, in the base format (FORMAT): the claims of
-- `Claims`, in short and with nothing assumed of the format. Read this first; `Claims` has the words in full.
--
-- b is the sheet, v and l the lengths of the outputs for the verdict sheet and the left sheet.
-- Assumes nothing.
use Rattle.std.specs.Prelude.{◌↔◌, ◌≡◌, Bool, true, false, ℕ, suc, ◌+◌, ◌*◌, ◌^◌, ◌-◌, ◌≤◌, ◌<◌, length, get_or, take}
use mathlib.Core.List.{List, [], ◌∷◌, ◌++◌, map, Memᴰ}
use Rattle.std.proofs.Math.Option.{none, some}
use Rattle.std.proofs.Common.{arith}
use Rattle.sheet.specs.Format.{base}
use Rattle.sheet.specs.Line.{Line, row, letter, number}
use Rattle.sheet.specs.Sheet.{count, lines}
use Rattle.model.specs.Cty.{Cty}
use Rattle.model.specs.Decl.{CtorLayout, NewtypeLayout, L_newtype, TypeInfo, here, imported, dtype_at, origin_at}
use Rattle.model.specs.Reach.{Reach}
use Rattle.model.specs.Layout.{guard_next, passes_of, source_layouts, Candidate}
use Rattle.model.specs.Resolve.{stays, abbreviation_of, unfolds}
use Rattle.model.specs.Run.{run, info_at, lay, layouts_of, layout_of_decl, resolves}
use Rattle.model.specs.Names.{Declared, Agree}
use Rattle.meaning.specs.Program.{type_line, ctor_line, trees}
use Rattle.meaning.specs.Rows.{nth_line, heads_before, head_of, ctors_after}
use Rattle.meaning.specs.Output.{verdict_line_of}
use Rattle.model_patterns.specs.Pat.{pat_vars, ctor_owner, type_layout, occurrences, Once, Fitting}
use Rattle.meaning_patterns.specs.Patterns.{pattern_line, pattern, pat_lines}
use Rattle.answer.specs.declared.Refusal.{Refusal}
use Rattle.answer.specs.declared.Refusal.TheVariants.{Accepted}
use Rattle.answer.specs.Answer.{Refuses}
use Rattle.answer.specs.Cut.{Sheets}
use Rattle.answer_patterns.specs.Whole.{front, tail, following, rows, answer}
use Rattle.answer_patterns.specs.Passes.{Passes}
use Rattle.answer_patterns.specs.Cut.{build, builds, Cut, Call, Over, InTurn, last_call, AllAccept, Wrote}
use Rattle.answer_reach.specs.Index.{x_line}
use Rattle.answer_reach.specs.Given.{input_refusal, declared, Indexes}
use Rattle.set_bits.specs.Bits.{has}
use Rattle.sheet.proofs.FormatLaws.{base_ample}
use Rattle.answer_laws.specs.Pass.{own_imports}
use Rattle.claims.specs.Claims.{Accepts, decl_lines, pattern_lines, decls, marks, erased, Least, Rounds, LocalVerdict, Tags, TagLine, GuardMore, LoopsLeft, Unspent, OfSource, Unchanged, Holds, Same, FirstUnits, ReachSet, ReachCount, sheet_pattern, sheet_rewritten, PatternOfSource}
use Rattle.claims.specs.Claims as claims

-- ---- demand 1: refusals
-- code 0 exactly where no row of the table applies
pub refused : (b : List ℕ) (v l : ℕ) → Accepts base b v l ↔ Passes base b v l
refused = claims.refused base

-- else one of the codes 1 to 13, of the first row that applies, at the first place where it does
pub refused_by : (b : List ℕ) (v l : ℕ) → (Accepts base b v l → ⊥) → Refuses (rows base b v l) (answer base b v l).code (answer base b v l).place × (1 ≤ (answer base b v l).code) × ((answer base b v l).code ≤ 13)
refused_by b v l = claims.refused_by base b v l base_ample

-- then both outputs keep their bytes
pub unchanged : (b : List ℕ) (v l : ℕ) → (Accepts base b v l → ⊥) → Unchanged (answer base b v l)
unchanged = claims.unchanged base

-- and on acceptance each begins with its sheet and keeps its bytes past it
pub written : (b : List ℕ) (v l : ℕ) → Accepts base b v l → (old old' : List ℕ) → length old ≡ v → length old' ≡ l → Holds (answer base b v l).verdict old × Holds (answer base b v l).left old'
written b v l = claims.written base b v l (omega arith)

-- ---- demand 2: the source's answer
-- erasure is the least solution of the rules
pub least : (b : List ℕ) (v l : ℕ) → Accepts base b v l → Least (decls base b)
least = claims.least base

-- found in the rounds that are told, at most one more than there are local types
pub rounds : (b : List ℕ) (v l : ℕ) → Accepts base b v l → Rounds (decls base b) (answer base b v l).rounds
rounds = claims.rounds base

-- a local type keeps the fields that are not erased, in order; its layout and record number
pub kept_fields : (b : List ℕ) (v l : ℕ) → Accepts base b v l → (i : ℕ) → i < length (decls base b) → origin_at (decls base b) i ≡ here
    → (d : TypeInfo) → LocalVerdict 100 (decls base b) i (get_or (run 100 (decls base b)).infos i d)
kept_fields = claims.kept_fields base

-- the tags of a declaration's constructors: none of a single one, else 0, 1, .. in order
pub tags : (b : List ℕ) (v l : ℕ) → Accepts base b v l → (i : ℕ) → i < length (decls base b) → (d : TypeInfo) → Tags (dtype_at (decls base b) i) (get_or (run 100 (decls base b)).infos i d).ti_ctors
tags = claims.tags base

-- so those of two constructors differ
pub tags_apart : (b : List ℕ) (v l : ℕ) → Accepts base b v l → (i : ℕ) → i < length (decls base b) → (d : TypeInfo) → let cls = (get_or (run 100 (decls base b)).infos i d).ti_ctors in
    (j k : ℕ) (x : CtorLayout) → j < length cls → k < length cls → (get_or cls j x).cl_tag ≡ (get_or cls k x).cl_tag → j ≡ k
tags_apart = claims.tags_apart base

-- a constructor collapses exactly where the guards allow
pub collapsed : (b : List ℕ) (v l : ℕ) → Accepts base b v l → (i : ℕ) → i < length (decls base b) → origin_at (decls base b) i ≡ here → (nt : NewtypeLayout)
    → (layout_of_decl (decls base b) i ≡ L_newtype nt)
    ↔ (Candidate (erased (decls base b)) (dtype_at (decls base b) i) (get_or (marks (decls base b)) i false) nt
    × (Reach (guard_next (decls base b) (passes_of (decls base b) (marks (decls base b)))) i i → ⊥))
collapsed = claims.collapsed base

-- the guard drops what the source's drops, and on loops through unfolded abbreviations more
pub guard_more : (b : List ℕ) (i : ℕ) → GuardMore (decls base b) i
guard_more b = claims.guard_more (decls base b)

-- a loop that code 8 refuses is of abbreviations alone, or has an imported newtype on it
pub loops_left : (b : List ℕ) (i : ℕ) → LoopsLeft (decls base b) i
loops_left b = claims.loops_left (decls base b)

-- without unfolded abbreviations the layouts are those of the source's guard
pub guard_here : (b : List ℕ) → ((i : ℕ) → i < length (decls base b) → abbreviation_of (get_or (unfolds (decls base b) (layouts_of (decls base b))) i stays) ≡ none)
    → layouts_of (decls base b) ≡ source_layouts (decls base b) (marks (decls base b))
guard_here b = claims.guard_here (decls base b)

-- imports keep what their lines say
pub imports : (b : List ℕ) (v l : ℕ) → Accepts base b v l → (i : ℕ) (ti : TypeInfo) → i < length (decls base b) → origin_at (decls base b) i ≡ imported ti
    → ((d : TypeInfo) → get_or (run 100 (decls base b)).infos i d ≡ ti) × (layout_of_decl (decls base b) i ≡ ti.ti_layout)
imports = claims.imports base

-- every type is resolved to the end, the fuel of 100 never spent
pub unspent : (b : List ℕ) (v l : ℕ) → Accepts base b v l → (i : ℕ) → i < length (decls base b) → (c : Cty) → Memᴰ c (resolves (layout_of_decl (decls base b) i)) → Unspent base (decls base b) c
unspent b v l = claims.unspent base b v l base_ample

-- the two sheets are those of `run`: the source's, with this guard
pub run_of_source : (b : List ℕ) (v l : ℕ) → Accepts base b v l → OfSource base b (answer base b v l)
run_of_source = claims.run_of_source base

-- where there are Q lines, the new pattern and the freed names follow what is left
pub pattern_of_source : (b : List ℕ) (v l : ℕ) → Accepts base b v l → PatternOfSource base b (answer base b v l)
pattern_of_source = claims.pattern_of_source base

-- in which constructors of declared types have their kept fields alone
pub fields_lost : (b : List ℕ) (v l : ℕ) → Accepts base b v l
    → Fitting (ctor_owner (run 100 (decls base b)).infos) (type_layout (decls base b) (run 100 (decls base b)).infos) (sheet_rewritten base b).pat
fields_lost = claims.fields_lost base

-- no variable is lost, and none is made
pub names_accounted : (b : List ℕ) (v l : ℕ) → Accepts base b v l → Once (sheet_pattern base b)
    → (n : ℕ) → occurrences n (pat_vars (sheet_pattern base b)) ≡ occurrences n (pat_vars (sheet_rewritten base b).pat) + occurrences n (sheet_rewritten base b).freed
names_accounted = claims.names_accounted base

-- and no more lines follow than there are Q lines
pub lines_bounded : (b : List ℕ) (v l : ℕ) → Accepts base b v l → length (following base (decl_lines base b) (pattern_lines base b)) ≤ count 6 (tail 6 b)
lines_bounded = claims.lines_bounded base

-- which denote the new pattern
pub read_back : (b : List ℕ) → pattern (map (row pattern_line) (pat_lines (sheet_rewritten base b).pat 0 0 0)) ≡ (sheet_rewritten base b).pat
read_back = claims.read_back base

-- ---- demand 3: the cut
-- units built in turn, the last with the Q lines z, give what the whole gives
pub cut : (v l : ℕ) (b header u : List ℕ) (us : List (List ℕ)) (z : List ℕ) → Cut 6 b header (u ∷ us) z → builds base v l header u us z ≡ build base v l b
cut v l b header u us z = claims.cut base v l b header u us z (omega arith)

-- and so do calls
pub cut_calls : (v l : ℕ) (b header u : List ℕ) (us : List (List ℕ)) (z : List ℕ) → Cut 6 b header (u ∷ us) z
    → (c : Call base) (cs : List (Call base)) → InTurn base v l header u us z c cs → (whole : Call base) → Over base v l [] b whole
    → (AllAccept c cs ↔ (whole.gave.code ≡ 0)) × (whole.gave.code ≡ 0 → (x : Sheets) × Wrote whole x × Wrote (last_call c cs) x)
cut_calls v l b header u us z = claims.cut_calls base v l b header u us z (omega arith)

-- ---- the operator's checklist
-- 1: the verdict sheet is as long as the sheet; built again it gives itself
pub verdict_length : (b : List ℕ) (v l : ℕ) → Accepts base b v l → length (answer base b v l).verdict ≡ length b
verdict_length b v l = claims.verdict_length base b v l (omega arith)

-- line by line: D has become I, and local declarations have their tags, keep and V numbers
pub verdict_lines_told : (b : List ℕ) (v l : ℕ) → Accepts base b v l → (i : ℕ) → i < count 6 (front 6 b)
    → nth_line (lines 6 (answer base b v l).verdict) i
    ≡ verdict_line_of (erased (decls base b)) (trees (decl_lines base b)) (info_at 100 (decls base b) (heads_before (decl_lines base b) (suc i) - 1)) (head_of (decl_lines base b) i) (ctors_after 0 (take i (decl_lines base b))) (nth_line (decl_lines base b) i)
verdict_lines_told b v l = claims.verdict_lines_told base b v l (omega arith)

-- the third number of a C line of the verdict sheet: 0 of a single constructor, else its place in its declaration plus one
pub tag_lines : (b : List ℕ) (v l : ℕ) → Accepts base b v l → (i : ℕ) → i < count 6 (front 6 b) → letter (nth_line (decl_lines base b) i) ≡ ctor_line
    → TagLine (number (head_of (decl_lines base b) i) 4) (ctors_after 0 (take i (decl_lines base b))) (number (nth_line (lines 6 (answer base b v l).verdict) i) 2)
tag_lines b v l = claims.tag_lines base b v l (omega arith)

-- Q lines stay
pub verdict_patterns_stay : (b : List ℕ) (v l : ℕ) → Accepts base b v l → (i : ℕ) → nth_line (lines 6 (answer base b v l).verdict) (count 6 (front 6 b) + i) ≡ nth_line (pattern_lines base b) i
verdict_patterns_stay b v l = claims.verdict_patterns_stay base b v l (omega arith)

pub verdict_again : (b : List ℕ) (v l : ℕ) (x : Sheets) → build base v l b ≡ some x → build base v l x.verdict ≡ some x
verdict_again b v l = claims.verdict_again base b v l (omega arith)

-- 2: a record keeps the same fields in every unit
pub same_fields : (v l : ℕ) (b header u : List ℕ) (us ys : List (List ℕ)) (z : List ℕ) → Cut 6 b header (u ∷ (us ++ ys)) z → (y : Sheets) → build base v l b ≡ some y → FirstUnits base v l b header u us y
same_fields v l b header u us ys z = claims.same_fields base v l b header u us ys z (omega arith)

-- 3: nothing in the left sheet names a collapsed or erased type
pub resolved : (b : List ℕ) (v l : ℕ) → Accepts base b v l → (y : Line) → Memᴰ y (lines 6 (answer base b v l).left) → letter y ≡ type_line → number y 0 ≡ 8 → lay (decls base b) (number y 1) ≡ stays
resolved b v l = claims.resolved base b v l base_ample

-- 4: the refusal line shows 0 exactly on acceptance (`refused`)

-- ---- locality
-- what a type gets depends on what it reaches alone
pub locality : (S : ℕ → Bool) (b b' : List ℕ) → Agree S (decls base b) (decls base b') → (n : ℕ) → S n ≡ true → Declared (decls base b) n → Same 1024 100 (decls base b) (decls base b') n
locality S b b' agree = claims.locality 1024 100 S (decls base b) (decls base b') agree (own_imports (decl_lines base b)) (own_imports (decl_lines base b'))

-- ---- request 3: the reach index, of a call that does what its contract says (`Indexes`), and accepts the sheet
-- bit j of set i is 1 exactly if i reaches j
pub reach_set : (b s : List ℕ) (r : Refusal) (s' : List ℕ) → Indexes base 2 b s r s' → r ≡ Accepted → (i j : ℕ) → i < 96 → j < 128 → ReachSet (decls base b) i j (has s' (i * 2) j)
unfolding declared
reach_set b s r s' x a = claims.reach_set 96 2 (decls base b) s' (x.index a)

-- what the program shows of declaration i is how many it reaches, the ones of its two words
pub reach_count : (b s : List ℕ) (r : Refusal) (s' : List ℕ) → Indexes base 2 b s r s' → r ≡ Accepted → length (decls base b) ≤ 128 → ((k : ℕ) → get_or s' k 0 < 2 ^ 64) → (i : ℕ) → i < 96
    → ReachCount 2 (decls base b) s' i (number (x_line (decls base b) i) 1)
unfolding declared
reach_count b s r s' x a = claims.reach_count 96 2 (decls base b) s' (x.index a)

-- and there is such a line wherever the build's line R shows 0
pub reach_answered : (b : List ℕ) (v l : ℕ) → Accepts base b v l → input_refusal base b ≡ Accepted
reach_answered = claims.reach_answered base

-- ---- request 5: which numbers are widths, and of which, is the same in every format (`six`, `width_read` and those beside them in `Claims`)
