-- A sheet in two parts, as builds: the first part is accepted with the whole, and its verdict sheet may
-- stand for it. Assumes nothing.
use Rattle.std.specs.Prelude.{◌↔◌, refl, false, not, ℕ, ◌+◌, ◌*◌, ◌-◌, ◌%◌, ◌≤◌, ◌<◌, eqb, ltb}
use Rattle.std.proofs.Math.Path.{◌≡◌, sym, ap, ap₂, subst}
use Rattle.std.proofs.Common.{◌∙◌, mul-add, ltb-false, le-ltb, eq-eqb, eqb-true}
use mathlib.Core.List.{List, [], ◌++◌, append-nil}
use Rattle.std.proofs.Math.Option.{Option, some}
use native.Mathlib.Omega.{arith}
use Rattle.std.proofs.Math.Nat.{div-add-mod, mul-mod_right, zero-div, zero-mod}
use Rattle.std.proofs.Math.ListN.{length, drop, length-append}
use Rattle.std.proofs.lemmas.Bool.{not-false}
use Rattle.sheet.specs.Format.{Format, line_bytes}
use Rattle.sheet.specs.Line.{Line, named, row, bad, is_bad}
use Rattle.sheet.specs.Sheet.{count, line, lines_from, lines, encodes, row1}
use Rattle.sheet.proofs.LineLaws.{Fits}
use Rattle.sheet.proofs.SheetLaws.{AllFit, length_lines, get_or_lines, lines_append, fit_lines, encodes_append}
use Rattle.sheet.proofs.ListLaws.{Every, every_map, neither, every_at, at_every}
use Rattle.model.specs.Decl.{Decl, Dtype, TypeInfo, position}
use Rattle.meaning.specs.Program.{name_line, is_head, select, groups, program}
use Rattle.meaning.specs.Rows.{row5, row6}
use Rattle.model.specs.Run.{left_program, run, layouts_of, somes, returns, decl_fault}
use Rattle.meaning.specs.Output.{fill_all, verdict_lines, left_lines}
use Rattle.answer.specs.Answer.{row8, row9_10, verdict_sheet, left_sheet, Clear, Passes}
use Rattle.answer.specs.Cut.{Sheets, build, Whole}
use Rattle.model.specs.Names.{Distinct, undeclared}
use Rattle.meaning_laws.specs.Program.{AllWhole, AllTold, None, Starts, select_append, told_groups, run_told, verdict_lines_append, none_left, none_right, none_append}
use Rattle.meaning_laws.specs.Rows.{ends_whole, Ends, row3_ends, ends_row3, row3_raws, NoHeader, no_header, row5_prefix}
use Rattle.meaning_laws.specs.Output.{Sized, fits_sized, left_bytes_prefix, ten, verdict_fits, verdict_bytes, verdict_round}
use Rattle.answer_laws.specs.Answer.{sheets, passes_build, build_passes, build_equal}
use Rattle.answer_laws.specs.Pass.{clear_heads, heads_clear, own_imports}
use Rattle.model_laws.specs.Pinning.{prefix_lefts, Apart, prefix_program, prefix_infos}
use Rattle.answer_laws.specs.Step.{
  Checks,
  later,
  whole_parts,
  parts_distinct,
  checks_prefix,
  verdicts,
  SameRows,
  same_rows,
  checks_import,
  verdict_lines_import,
  left_lines_import,
}
use Rattle.answer_laws.specs.Cut.{Steps}

-- ---- bytes and lines
pub whole_length : (w : ℕ) (b : List ℕ) → Whole w b → length b ≡ line_bytes w * count w b
whole_length w b h = omega (arith, div-add-mod (length b) (line_bytes w))

-- no line of the list is bad
abbrev pub NoBad : List Line → Type 0
NoBad = None is_bad

pub pass_no_bad : (w : ℕ) (b : List ℕ) → Clear (count w b) (λ i. is_bad (line w b i)) → NoBad (lines w b)
pass_no_bad w b h = at_every (λ l. is_bad l ≡ false) bad (lines w b) (λ i k. ap is_bad (get_or_lines w b i) ∙ h i (omega (arith, length_lines w b)))

pub no_bad_pass : (w : ℕ) (b : List ℕ) → NoBad (lines w b) → Clear (count w b) (λ i. is_bad (line w b i))
no_bad_pass w b h i k = ap is_bad (sym (get_or_lines w b i)) ∙ every_at (λ l. is_bad l ≡ false) bad (lines w b) h i (omega (arith, length_lines w b))

fits_not_bad : (w : ℕ) (l : Line) → Fits w l → is_bad l ≡ false
fits_not_bad w (named n t) h = refl
fits_not_bad w (row x ns) h = refl
fits_not_bad w bad h = absurd h

pub fit_no_bad : (w : ℕ) (ls : List Line) → AllFit w ls → NoBad ls
fit_no_bad w = every_map (Fits w) (λ l. is_bad l ≡ false) (fits_not_bad w)

pub no_bad_fit : (w : ℕ) (b : List ℕ) → NoBad (lines w b) → AllFit w (lines w b)
no_bad_fit w b h = fit_lines w b (no_bad_pass w b h)

-- ---- row 1
row1_false : (f : Format) (b : List ℕ) → length b ≤ line_bytes f.columns * f.lines → Whole f.columns b → row1 f b ≡ false
unfolding row1
row1_false f b h e =
    rw (le-ltb (line_bytes f.columns * f.lines) (length b) h, eq-eqb (length b % line_bytes f.columns) 0 e)

pub row1_small : (f : Format) (b : List ℕ) → row1 f b ≡ false → length b ≤ line_bytes f.columns * f.lines
unfolding row1
row1_small f b h =
    ltb-false (line_bytes f.columns * f.lines) (length b) (neither (ltb (line_bytes f.columns * f.lines) (length b)) (not (eqb (length b % line_bytes f.columns) 0)) h).0

-- ---- passing, by lines
pub record Sound (f : Format) (b : List ℕ) (v l : ℕ) : Type 0 where
  pub small : length b ≤ line_bytes f.columns * f.lines
  pub no_bad : NoBad (lines f.columns b)
  pub checks : Checks f (lines f.columns b)
  pub verdict_room : length b ≤ v
  pub left_room : length (left_sheet f (lines f.columns b)) ≤ l

pub passes_sound : (f : Format) (b : List ℕ) (v l : ℕ) → Passes f b v l → Sound f b v l
unfolding row8 row9_10
passes_sound f b v l h =
    let w : ℕ = f.columns in
    let n : count w b ≡ length (lines w b) = sym (length_lines w b) in
    record {
      small = row1_small f b h.pass1;
      no_bad = pass_no_bad w b h.pass2;
      checks = record {
        ends = row3_ends (lines w b) (λ i k. sym (row3_raws w b h.pass2 i) ∙ h.pass3 i (omega (arith, length_lines w b)));
        clear4 = λ i k. h.pass4 i (omega arith);
        clear5 = λ i k. h.pass5 i (omega arith);
        clear6 = λ i k. h.pass6 i (omega arith);
        clear7 = λ i k. h.pass7 i (omega arith);
        clear8 = clear_heads (lines w b) (returns (program (lines w b)) (layouts_of (program (lines w b)))) (λ i k. h.pass8 i (omega arith));
        clear9_10 = clear_heads (lines w b) (λ k. not (eqb (decl_fault f.nodes f.fuel (program (lines w b)) (layouts_of (program (lines w b))) k) 0)) (λ i k. h.pass9_10 i (omega arith));
      };
      verdict_room = h.pass11;
      left_room = h.pass12;
    }

pub sound_passes : (f : Format) (b : List ℕ) (v l : ℕ) → Whole f.columns b → Sound f b v l → Passes f b v l
unfolding row8 row9_10
sound_passes f b v l e h =
    let w : ℕ = f.columns in
    let n : count w b ≡ length (lines w b) = sym (length_lines w b) in
    let c : Checks f (lines w b) = h.checks in
    record {
      pass1 = row1_false f b h.small e;
      pass2 = no_bad_pass w b h.no_bad;
      pass3 = λ i k. row3_raws w b (no_bad_pass w b h.no_bad) i ∙ ends_row3 (lines w b) c.ends i;
      pass4 = λ i k. c.clear4 i (omega arith);
      pass5 = λ i k. c.clear5 i (omega arith);
      pass6 = λ i k. c.clear6 i (omega arith);
      pass7 = λ i k. c.clear7 i (omega arith);
      pass8 = λ i k. heads_clear (lines w b) (returns (program (lines w b)) (layouts_of (program (lines w b)))) c.clear8 i (omega arith);
      pass9_10 = λ i k. heads_clear (lines w b) (λ j. not (eqb (decl_fault f.nodes f.fuel (program (lines w b)) (layouts_of (program (lines w b))) j) 0)) c.clear9_10 i (omega arith);
      pass11 = h.verdict_room;
      pass12 = h.left_room;
    }

-- ---- a sheet in two parts
-- The second part is whole declarations, and in a sheet that passes rows 2, 3, 5 and 6 the first names
-- nothing that the second declares.
pub record Split (w : ℕ) (p q : List ℕ) : Type 0 where
  pub first_whole : Whole w p
  pub second_whole : Whole w q
  pub starts : NoBad (lines w q) → Starts is_head (lines w q)
  pub apart :
      NoBad (lines w p ++ lines w q)
      → Ends (lines w p ++ lines w q)
      → Clear (length (lines w p)) (row5 (lines w p))
      → Clear (length (lines w p ++ lines w q)) (row6 (lines w p ++ lines w q))
      → Apart (program (lines w p)) (later (lines w p) (lines w q))

pub whole_append : (w : ℕ) (p q : List ℕ) → Whole w p → Whole w q → Whole w (p ++ q)
whole_append w p q h k =
    let m : length (p ++ q) ≡ line_bytes w * (count w p + count w q) =
    length-append p q ∙ (ap₂ ◌+◌ (whole_length w p h) (whole_length w q k) ∙ sym (mul-add (line_bytes w) (count w p) (count w q))) in
    ap (λ (x : ℕ). x % line_bytes w) m ∙ mul-mod_right (line_bytes w) (count w p + count w q)

all_sized : (w : ℕ) (ls : List Line) → AllFit w ls → Every (Sized w) ls
all_sized w ls h = every_map (Fits w) (Sized w) (fits_sized w) ls h

module _ (f : Format) (v l : ℕ) (p q : List ℕ) (s : Split f.columns p q) where
  abbrev ps : List Line
  ps = lines f.columns p

  abbrev qs : List Line
  qs = lines f.columns q

  lines_parts : lines f.columns (p ++ q) ≡ ps ++ qs
  lines_parts = lines_append f.columns (count f.columns p) p q (whole_length f.columns p s.first_whole)

  -- the first part is accepted with the whole
  pub sound_prefix : Sound f (p ++ q) v l → Sound f p v l
  unfolding left_sheet
  sound_prefix h =
      let nb : NoBad (ps ++ qs) = subst NoBad lines_parts h.no_bad in
      let c : Checks f (ps ++ qs) = subst (Checks f) lines_parts h.checks in
      let st : Starts is_head qs = s.starts (none_right is_bad ps qs nb) in
      let n : NoHeader qs = no_header ps qs st c.ends in
      let c5 : Clear (length ps) (row5 ps) = λ i k. sym (row5_prefix ps qs i n.names n.args n.types k) ∙ c.clear5 i (rw length-append (omega arith)) in
      let ap' : Apart (program ps) (later ps qs) = s.apart nb c.ends c5 c.clear6 in
      let d : Distinct (program ps ++ later ps qs) = parts_distinct ps qs st c.ends c.clear6 in
      let x = prefix_program (program ps) (later ps qs) d ap' f.fuel (own_imports ps) in
      let e : select name_line ps ≡ select name_line (ps ++ qs) = sym (select_append name_line ps qs ∙ (ap (λ (r : List Line). select name_line ps ++ r) n.names ∙ append-nil (select name_line ps))) in
      let fit : AllFit f.columns ps = no_bad_fit f.columns p (none_left is_bad ps qs nb) in
      let fit' : Every (Sized f.columns) (ps ++ qs) = subst (Every (Sized f.columns)) lines_parts (all_sized f.columns (lines f.columns (p ++ q)) (no_bad_fit f.columns (p ++ q) h.no_bad)) in
      record {
        small = omega (arith, h.small, length-append p q);
        no_bad = none_left is_bad ps qs nb;
        checks = checks_prefix f ps qs st ap' c;
        verdict_room = omega (arith, h.verdict_room, length-append p q);
        left_room = left_small st c nb x (left_bytes_prefix f.columns ps (ps ++ qs) (left_program (run f.fuel (program ps))) (somes x.0) (all_sized f.columns ps fit) fit' e);
      }
    where
      left_small : Starts is_head qs → (c : Checks f (ps ++ qs)) → NoBad (ps ++ qs)
          → (x : (xs : List (Option Dtype)) × (left_program (run f.fuel (program ps ++ later ps qs)) ≡ left_program (run f.fuel (program ps)) ++ somes xs))
          → length (encodes f.columns (left_lines ps (left_program (run f.fuel (program ps))))) ≤ length (encodes f.columns (left_lines (ps ++ qs) (left_program (run f.fuel (program ps)) ++ somes x.0)))
          → length (left_sheet f ps) ≤ l
      left_small st c nb x k =
          let a : left_program (run f.fuel (program (ps ++ qs))) ≡ left_program (run f.fuel (program ps)) ++ somes x.0 = ap (λ (ds : List Decl). left_program (run f.fuel ds)) (whole_parts ps qs st c.ends) ∙ x.1 in
          let b : length (encodes f.columns (left_lines (ps ++ qs) (left_program (run f.fuel (program (ps ++ qs)))))) ≤ l =
          subst (λ (ls : List Line). length (encodes f.columns (left_lines ls (left_program (run f.fuel (program ls))))) ≤ l) lines_parts h.left_room in
          let b' : length (encodes f.columns (left_lines (ps ++ qs) (left_program (run f.fuel (program ps)) ++ somes x.0))) ≤ l =
          subst (λ (ds : List Dtype). length (encodes f.columns (left_lines (ps ++ qs) ds)) ≤ l) a b in
          omega arith

  -- ---- the first part's verdict sheet in its place
  module _ (pos : 0 < f.columns) (h : Sound f p v l) where
    abbrev vs : List Line
    vs = verdicts f ps

    abbrev vb : List ℕ
    vb = encodes f.columns (verdicts f ps)

    first_fit : AllFit f.columns ps
    first_fit = no_bad_fit f.columns p h.no_bad

    first_whole : AllWhole (groups is_head ps)
    first_whole = ends_whole ps h.checks.ends

    first_told : AllTold (program ps) (run f.fuel (program ps)).infos
    first_told = run_told f.fuel (program ps)

    verdict_length : length vb ≡ length p
    verdict_length =
        verdict_bytes f.columns ps (run f.fuel (program ps)).infos (ten f.columns pos) first_whole first_told first_fit
        ∙ (ap (λ (n : ℕ). line_bytes f.columns * n) (length_lines f.columns p) ∙ sym (whole_length f.columns p s.first_whole))

    verdict_whole : Whole f.columns vb
    verdict_whole = ap (λ (n : ℕ). n % line_bytes f.columns) verdict_length ∙ s.first_whole

    lines_verdict : lines f.columns (vb ++ q) ≡ vs ++ qs
    lines_verdict =
        lines_append f.columns (count f.columns p) vb q (verdict_length ∙ whole_length f.columns p s.first_whole)
        ∙ ap (λ (ls : List Line). ls ++ qs) (verdict_round f.columns ps (run f.fuel (program ps)).infos pos first_whole first_told first_fit)

    verdict_no_bad : NoBad vs
    verdict_no_bad = fit_no_bad f.columns vs (verdict_fits f.columns (ten f.columns pos) ps (run f.fuel (program ps)).infos first_whole first_told first_fit)

    rows : Starts is_head qs → SameRows f ps qs
    rows st = same_rows f ps qs h.checks st

    both_length : length (vb ++ q) ≡ length (p ++ q)
    both_length = length-append vb q ∙ (ap (λ (n : ℕ). n + length q) verdict_length ∙ sym (length-append p q))

    abbrev One : List Line → Type 0
    One ls = encodes f.columns (verdict_lines ls (run f.fuel (program ls)).infos) ≡ encodes f.columns (verdict_lines (ps ++ qs) (run f.fuel (program (ps ++ qs))).infos)

    -- the whole that passes, and its two sheets
    module _ (nb : NoBad (ps ++ qs)) (c : Checks f (ps ++ qs)) where
      st : Starts is_head qs
      st = s.starts (none_right is_bad ps qs nb)

      far : Apart (program ps) (later ps qs)
      far = s.apart nb c.ends h.checks.clear5 c.clear6

      pub left_equal : left_sheet f (vs ++ qs) ≡ left_sheet f (ps ++ qs)
      unfolding left_sheet
      left_equal = ap (encodes f.columns) (left_lines_import f ps qs st far h.checks (rows st) c)

      pub verdict_equal : verdict_sheet f (vs ++ qs) ≡ verdict_sheet f (ps ++ qs)
      unfolding verdict_sheet
      verdict_equal = ap (encodes f.columns) (verdict_lines_import f ps qs st far h.checks (rows st) c)

    checks_to : NoBad qs → Checks f (vs ++ qs) → Checks f (ps ++ qs)
    checks_to nb c =
        let st : Starts is_head qs = s.starts nb in
        let r : SameRows f ps qs = rows st in
        let e : Ends (ps ++ qs) = r.same_ends.0 c.ends in
        let c6 : Clear (length (ps ++ qs)) (row6 (ps ++ qs)) = λ i k. sym (r.same6 i) ∙ c.clear6 i (omega (arith, r.same_length)) in
        (checks_import f ps qs st (s.apart (none_append is_bad ps qs h.no_bad nb) e h.checks.clear5 c6) h.checks r).0 c

    checks_from : NoBad (ps ++ qs) → Checks f (ps ++ qs) → Checks f (vs ++ qs)
    checks_from nb c =
        let st : Starts is_head qs = s.starts (none_right is_bad ps qs nb) in
        (checks_import f ps qs st (far nb c) h.checks (rows st)).1 c

    pub sound_import : Sound f (vb ++ q) v l ↔ Sound f (p ++ q) v l
    sound_import = (
      λ k.
          let nv : NoBad (vs ++ qs) = subst NoBad lines_verdict k.no_bad in
          let nb : NoBad (ps ++ qs) = none_append is_bad ps qs h.no_bad (none_right is_bad vs qs nv) in
          let c : Checks f (ps ++ qs) = checks_to (none_right is_bad vs qs nv) (subst (Checks f) lines_verdict k.checks) in
          record {
            small = omega (arith, k.small, both_length);
            no_bad = subst NoBad (sym lines_parts) nb;
            checks = subst (Checks f) (sym lines_parts) c;
            verdict_room = omega (arith, k.verdict_room, both_length);
            left_room = subst (λ (ls : List Line). length (left_sheet f ls) ≤ l) (sym lines_parts) (subst (λ (x : List ℕ). length x ≤ l) (left_equal nb c) (subst (λ (ls : List Line). length (left_sheet f ls) ≤ l) lines_verdict k.left_room));
          },
      λ k.
          let nb : NoBad (ps ++ qs) = subst NoBad lines_parts k.no_bad in
          let c : Checks f (ps ++ qs) = subst (Checks f) lines_parts k.checks in
          record {
            small = omega (arith, k.small, both_length);
            no_bad = subst NoBad (sym lines_verdict) (none_append is_bad vs qs verdict_no_bad (none_right is_bad ps qs nb));
            checks = subst (Checks f) (sym lines_verdict) (checks_from nb c);
            verdict_room = omega (arith, k.verdict_room, both_length);
            left_room = subst (λ (ls : List Line). length (left_sheet f ls) ≤ l) (sym lines_verdict) (subst (λ (x : List ℕ). length x ≤ l) (sym (left_equal nb c)) (subst (λ (ls : List Line). length (left_sheet f ls) ≤ l) lines_parts k.left_room));
          },
    )

    pub sheets_import : Sound f (p ++ q) v l → sheets f (vb ++ q) ≡ sheets f (p ++ q)
    unfolding sheets
    sheets_import k =
        let nb : NoBad (ps ++ qs) = subst NoBad lines_parts k.no_bad in
        let c : Checks f (ps ++ qs) = subst (Checks f) lines_parts k.checks in
        ap₂ (λ (x y : List ℕ). record { verdict = x; left = y })
        (ap (verdict_sheet f) lines_verdict ∙ (verdict_equal nb c ∙ ap (verdict_sheet f) (sym lines_parts)))
        (ap (left_sheet f) lines_verdict ∙ (left_equal nb c ∙ ap (left_sheet f) (sym lines_parts)))

-- ---- as builds
pub split_steps : (f : Format) (v l : ℕ) → 0 < f.columns → Steps f v l (Split f.columns)
unfolding sheets verdict_sheet
split_steps f v l pos =
    record {
      prefix_step = λ p q y s e.
          let k : Sound f (p ++ q) v l = passes_sound f (p ++ q) v l (build_passes f (p ++ q) v l y e) in
          (sheets f p, passes_build f p v l (sound_passes f p v l s.first_whole (sound_prefix f v l p q s k)));
      import_step = λ p q x s e.
          let k : Passes f p v l = build_passes f p v l x e in
          let h : Sound f p v l = passes_sound f p v l k in
          let z : x ≡ sheets f p = some_same x (sheets f p) (sym e ∙ passes_build f p v l k) in
          let vb : List ℕ = encodes f.columns (verdicts f (lines f.columns p)) in
          let i = sound_import f v l p q s pos h in
          let wv : Whole f.columns (vb ++ q) = whole_append f.columns vb q (verdict_whole f v l p q s pos h) s.second_whole in
          let wp : Whole f.columns (p ++ q) = whole_append f.columns p q s.first_whole s.second_whole in
          ap (λ (y : Sheets). build f v l (y.verdict ++ q)) z
          ∙ build_equal f (vb ++ q) (p ++ q) v l
          (λ t. sound_passes f (p ++ q) v l wp (i.0 (passes_sound f (vb ++ q) v l t)), λ t. sound_passes f (vb ++ q) v l wv (i.1 (passes_sound f (p ++ q) v l t)))
          (λ t. sheets_import f v l p q s pos h (i.0 (passes_sound f (vb ++ q) v l t)));
    }
  where
    some_same : (x y : Sheets) → ◌≡◌ {A = Option Sheets} (some x) (some y) → x ≡ y
    some_same x y e = cc

-- ---- what the first part has begins what the whole has
-- two parts of an accepted sheet
record Parts (f : Format) (ps qs : List Line) : Type 0 where
  starts : Starts is_head qs
  ends : Ends (ps ++ qs)
  apart : Apart (program ps) (later ps qs)
  distinct : Distinct (program ps ++ later ps qs)

module _ (f : Format) (v l : ℕ) (p q : List ℕ) (s : Split f.columns p q) (y : Sheets) (e : build f v l (p ++ q) ≡ some y) where
  accepted_parts : Parts f (lines f.columns p) (lines f.columns q)
  accepted_parts =
      let ps : List Line = lines f.columns p in
      let qs : List Line = lines f.columns q in
      let k : Sound f (p ++ q) v l = passes_sound f (p ++ q) v l (build_passes f (p ++ q) v l y e) in
      let nb : NoBad (ps ++ qs) = subst NoBad (lines_parts f v l p q s) k.no_bad in
      let c : Checks f (ps ++ qs) = subst (Checks f) (lines_parts f v l p q s) k.checks in
      let h : Sound f p v l = sound_prefix f v l p q s k in
      let st : Starts is_head qs = s.starts (none_right is_bad ps qs nb) in
      record { starts = st; ends = c.ends; apart = s.apart nb c.ends h.checks.clear5 c.clear6; distinct = parts_distinct ps qs st c.ends c.clear6 }

  -- the verdict sheet
  pub prefix_verdict : (r : List ℕ) × (y.verdict ≡ (sheets f p).verdict ++ r)
  unfolding sheets verdict_sheet
  prefix_verdict =
      let ps : List Line = lines f.columns p in
      let qs : List Line = lines f.columns q in
      let z : y ≡ sheets f (p ++ q) = some_sheets y (sheets f (p ++ q)) (sym e ∙ passes_build f (p ++ q) v l (build_passes f (p ++ q) v l y e)) in
      let t : Parts f ps qs = accepted_parts in
      let tis : List TypeInfo = (run f.fuel (program ps)).infos in
      let us : List TypeInfo = drop (length (program ps)) (run f.fuel (program ps ++ later ps qs)).infos in
      let i : (run f.fuel (program (ps ++ qs))).infos ≡ tis ++ us = ap (λ (ds : List Decl). (run f.fuel ds).infos) (whole_parts ps qs t.starts t.ends) ∙ prefix_infos (program ps) (later ps qs) t.distinct t.apart f.fuel (own_imports ps) in
      let n : length tis ≡ length (groups is_head ps) = told_groups ps tis (run_told f.fuel (program ps)) in (
        encodes f.columns (fill_all (groups is_head qs) us),
        ap (λ (x : Sheets). x.verdict) z
            ∙ (ap (λ (ls : List Line). encodes f.columns (verdict_lines ls (run f.fuel (program ls)).infos)) (lines_parts f v l p q s)
            ∙ (ap (λ (t : List TypeInfo). encodes f.columns (verdict_lines (ps ++ qs) t)) i
            ∙ (ap (encodes f.columns) (verdict_lines_append ps qs tis us t.starts n) ∙ encodes_append f.columns (verdict_lines ps tis) (fill_all (groups is_head qs) us)))),
      )
    where
      some_sheets : (x y : Sheets) → ◌≡◌ {A = Option Sheets} (some x) (some y) → x ≡ y
      some_sheets x y e = cc

  -- and what is left of each declaration
  pub prefix_left_table : (xs : List (Option Dtype)) × ((run f.fuel (program (lines f.columns (p ++ q)))).lefts ≡ (run f.fuel (program (lines f.columns p))).lefts ++ xs)
  prefix_left_table =
      let ps : List Line = lines f.columns p in
      let qs : List Line = lines f.columns q in
      let t : Parts f ps qs = accepted_parts in
      let x = prefix_lefts (program ps) (later ps qs) t.distinct t.apart f.fuel (own_imports ps) in (
        x.0,
        ap (λ (ls : List Line). (run f.fuel (program ls)).lefts) (lines_parts f v l p q s)
            ∙ (ap (λ (ds : List Decl). (run f.fuel ds).lefts) (whole_parts ps qs t.starts t.ends) ∙ x.1),
      )

-- every sheet is its own first part, with nothing behind it
pub split_nothing : (w : ℕ) (p : List ℕ) → Whole w p → Split w p []
unfolding lines lines_from groups undeclared position
split_nothing w p h =
    let e : lines w [] ≡ [] = rw (zero-div (line_bytes w)) in
    record {
      first_whole = h;
      second_whole = zero-mod (line_bytes w);
      starts = λ nb. rw e tt;
      apart = λ nb ends c5 c6 i k n m. rw (zero-div (line_bytes w)) refl;
    }

-- a sheet that row 1 passes is whole lines
pub pass_whole : (f : Format) (b : List ℕ) (v l : ℕ) → Passes f b v l → Whole f.columns b
unfolding row1
pass_whole f b v l h =
    let r = length b % line_bytes f.columns in
    eqb-true r 0 (not-false (eqb r 0) (neither (ltb (line_bytes f.columns * f.lines) (length b)) (not (eqb r 0)) h.pass1).1)

-- The verdict sheet of an accepted sheet is as long as the sheet.
pub verdict_sheet_length : (f : Format) (b : List ℕ) (v l : ℕ) → 0 < f.columns → Passes f b v l → length (verdict_sheet f (lines f.columns b)) ≡ length b
unfolding verdict_sheet
verdict_sheet_length f b v l pos h =
    verdict_length f v l b [] (split_nothing f.columns b (pass_whole f b v l h)) pos (passes_sound f b v l h)

-- the lines of an accepted sheet pass row 3, and every declaration is as its counts say
pub passes_ends : (f : Format) (b : List ℕ) (v l : ℕ) → Passes f b v l → Ends (lines f.columns b)
passes_ends f b v l h = (passes_sound f b v l h).checks.ends

pub passes_whole : (f : Format) (b : List ℕ) (v l : ℕ) → Passes f b v l → AllWhole (groups is_head (lines f.columns b))
passes_whole f b v l h = ends_whole (lines f.columns b) (passes_ends f b v l h)

-- the lines that it reads as
pub verdict_sheet_lines : (f : Format) (b : List ℕ) (v l : ℕ) → 0 < f.columns → Passes f b v l → lines f.columns (verdict_sheet f (lines f.columns b)) ≡ verdicts f (lines f.columns b)
unfolding verdict_sheet
verdict_sheet_lines f b v l pos h =
    let w : ℕ = f.columns in
    verdict_round w (lines w b) (run f.fuel (program (lines w b))).infos pos (passes_whole f b v l h) (run_told f.fuel (program (lines w b))) (no_bad_fit w b (pass_no_bad w b h.pass2))

-- the lines of that sheet with lines behind it
pub verdict_lines_behind : (f : Format) (v l : ℕ) → 0 < f.columns → (p q : List ℕ) → Passes f p v l → lines f.columns (verdict_sheet f (lines f.columns p) ++ q) ≡ verdicts f (lines f.columns p) ++ lines f.columns q
unfolding verdict_sheet
verdict_lines_behind f v l pos p q h =
    let w : ℕ = f.columns in
    lines_append w (count w p) (verdict_sheet f (lines w p)) q (verdict_sheet_length f p v l pos h ∙ whole_length w p (pass_whole f p v l h))
    ∙ ap (λ (ls : List Line). ls ++ lines w q) (verdict_sheet_lines f p v l pos h)
