-- The layout of a declaration goes with its body kind: of a local type by the source's choice, of an import by row 7.
-- Assumes nothing.
use Rattle.std.proofs.Common.{⊎_elim, ap₂, ◌∙◌, arith, take-suc, get_or-drop, eqb-true}
use Rattle.std.specs.Prelude.{◌≡◌, Bool, ◌&&◌, ◌||◌, ℕ, suc, ◌+◌, ◌≤◌, ◌<◌, eqb, leb, take}
use Rattle.std.proofs.Math.Path.{refl, ap, sym, subst}
use mathlib.Core.List.{List, [], ◌∷◌, ◌++◌, append_assoc}
use Rattle.std.proofs.Math.Bool.{true, false}
use Rattle.std.proofs.Math.Option.{Option, none, some}
use Rattle.std.proofs.Math.ListN.{length, get_or, drop, length-append, length-drop}
use Rattle.std.proofs.Math.Seq.{get_or-append_seam}
use Rattle.std.proofs.lemmas.Bool.{not-false}
use Rattle.number_columns.specs.Column.{pick, ◌⇒◌∥◌}
use Rattle.sheet.specs.Line.{Line, bad, letter, number}
use Rattle.sheet.proofs.FirstLaws.{none_first}
use Rattle.sheet.proofs.ListLaws.{false_true, both, one_of}
use Rattle.model.specs.Decl.{NewtypeLayout, Body, TAbstract, TAbbrev, TRecord, TVariant, Dtype, CtorLayout, Layout, L_erased, L_newtype, L_struct, L_abbrev, L_opaque, Origin, here, imported, dtype_at, origin_at, close_fields}
use Rattle.model.specs.Erasure.{marked, erasure_fixpoint}
use Rattle.model.specs.Layout.{collapse, newtype_of, dropped, candidates_of, passes_of, ctor_layouts, layout_of_body, layout_of}
use Rattle.model.specs.Run.{layouts_of, layout_of_decl}
use Rattle.model_laws.specs.Layout.{get_or_layouts}
use Rattle.meaning.specs.Program.{import_line, verdict_line, is, is_head, select, before, Group, groups, trees, dtype_of, abbreviated, layout_by, info_of, verdict_of, program}
use Rattle.meaning.specs.Rows.{nth_line, heads_before, last_head, kept_after, ctors_after, one_ctor, good_verdict, row7}
use Rattle.meaning_laws.specs.Program.{none_before, select_append, select_none, select_yes, flat, before_flat, length_program, body_number, Whole}
use Rattle.meaning_laws.specs.Rows.{last_head_append, last_head_none}
use Rattle.row4_limits.specs.Limits.{start}
use Rattle.row7_verdicts.specs.Verdicts.{good_line}
use Rattle.row7_verdicts.specs.VerdictsLaws.{row7_line}
use Rattle.table_declared.specs.Passed.{Passed}
use Rattle.table_access.specs.Tables.{group, head_line, decls_of}
use Rattle.table_declared.specs.DeclLaws.{take_start, line_inside, line_of_head, group_is, dtype_is, origin_local, origin_import, whole_at}
use Rattle.keep_layouts.specs.Kept.{body_kind}
use Rattle.collapse_passes.specs.BodyLaws.{kind_is}

-- what a layout says of the body kind
abbrev pub Fits : ℕ → Layout → Type 0
Fits k L_erased = Unit {0}
Fits k (L_newtype nt) = Unit {0}
Fits k (L_struct cls) = (2 ≤ k) × (k ≤ 3)
Fits k (L_abbrev c) = k ≡ 1
Fits k L_opaque = k ≡ 0

collapse_fits : (k : ℕ) (drop : Bool) (cand : Option NewtypeLayout) (cls : List CtorLayout) → 2 ≤ k → k ≤ 3 → Fits k (collapse drop cand cls)
unfolding collapse
collapse_fits k true cand cls l m = (l, m)
collapse_fits k false none cls l m = (l, m)
collapse_fits k false (some nt) cls l m = tt

-- ---- a local type
local_fits : (d : Dtype) (e drop : Bool) (cand : Option NewtypeLayout) (cls : List CtorLayout) → Fits (body_number d.dt_body) (layout_of d here e drop cand cls)
unfolding layout_of layout_of_body body_number
local_fits d true drop cand cls = tt
local_fits d false drop cand cls = go d.dt_body
  where
    go : (b : Body) → Fits (body_number b) (layout_of_body b drop cand cls)
    go TAbstract = refl
    go (TAbbrev c) = refl
    go (TRecord fs) = collapse_fits 2 drop cand cls (omega arith) (omega arith)
    go (TVariant cs) = collapse_fits 3 drop cand cls (omega arith) (omega arith)

-- ---- an import, by a V line that row 7 passes
abbreviated_fits : (b : Body) → body_number b ≡ 1 → Fits 1 (abbreviated b)
unfolding body_number
abbreviated_fits TAbstract e = absurd (omega arith)
abbreviated_fits (TAbbrev c) e = refl
abbreviated_fits (TRecord fs) e = absurd (omega arith)
abbreviated_fits (TVariant cs) e = absurd (omega arith)

verdict_fits : (h v : Line) (kept : ℕ) (b : Body) (cls : List CtorLayout) → body_number b ≡ number h 2 → good_verdict h kept v ≡ true → Fits (number h 2) (layout_by (number v 1) b cls)
unfolding good_verdict layout_by
verdict_fits h v kept b cls n e =
    go (eqb (number v 1) 0) (eqb (number v 1) 1) (eqb (number v 1) 2) (eqb (number v 1) 3) (eqb (number v 1) 4)
    (both (leb (number v 2) 1) _ e).1
  where
    k : ℕ
    k = number h 2

    two : eqb k 2 ≡ true → (2 ≤ k) × (k ≤ 3)
    two p = let q : k ≡ 2 = eqb-true k 2 p in (omega arith, omega arith)

    three : eqb k 3 ≡ true → (2 ≤ k) × (k ≤ 3)
    three p = let q : k ≡ 3 = eqb-true k 3 p in (omega arith, omega arith)

    one : (one_ctor h && eqb kept 1) ≡ true → (2 ≤ k) × (k ≤ 3)
    one p = ⊎_elim two (λ q. three (both (eqb k 3) (eqb (number h 4) 1) q).0) (one_of (eqb k 2) (eqb k 3 && eqb (number h 4) 1) (both (one_ctor h) (eqb kept 1) p).0)

    go : (x0 x1 x2 x3 x4 : Bool) →
        (x0 ⇒ eqb (number v 0) 1 ∥
        eqb (number v 0) 0
        && (x1 ⇒ one_ctor h && eqb kept 1 ∥ x2 ⇒ eqb k 2 || eqb k 3 ∥ x3 ⇒ eqb k 1 ∥ x4 ⇒ eqb k 0 ∥ false)) ≡ true →
        Fits k (x0 ⇒ L_erased ∥ x1 ⇒ collapse false (newtype_of cls) cls ∥ x2 ⇒ L_struct cls ∥ x3 ⇒ abbreviated b ∥ L_opaque)
    go true x1 x2 x3 x4 p = tt
    go false true x2 x3 x4 p = let r = one (both (eqb (number v 0) 0) (one_ctor h && eqb kept 1) p).1 in collapse_fits k false (newtype_of cls) cls r.0 r.1
    go false false true x3 x4 p = ⊎_elim two three (one_of (eqb k 2) (eqb k 3) (both (eqb (number v 0) 0) (eqb k 2 || eqb k 3) p).1)
    go false false false true x4 p =
        let q : k ≡ 1 = eqb-true k 1 (both (eqb (number v 0) 0) (eqb k 1) p).1 in
        subst (λ (x : ℕ). Fits x (abbreviated b)) (sym q) (abbreviated_fits b (n ∙ q))
    go false false false false true p = eqb-true k 0 (both (eqb (number v 0) 0) (eqb k 0) p).1
    go false false false false false p = false_true (both (eqb (number v 0) 0) false p).1

-- row 7 at the V line of a declaration
pub record Judged (ls : List Line) (d : ℕ) : Type 0 where
  pub kept : ℕ
  pub good : good_verdict (head_line ls d) kept (verdict_of (group ls d).rest) ≡ true

module _ (ls : List Line) (p : Passed ls) (d : ℕ) (h : d < decls_of ls) where
  -- where its lines begin, behind the first
  abbrev a : ℕ
  a = suc (start ls d)

  abbrev rest : List Line
  rest = before is_head (drop (suc (start ls d)) ls)

  w : Whole (group ls d)
  w = whole_at ls p d h

  rest_is : rest ≡ w.body ++ (w.last ∷ [])
  rest_is = sym (ap (λ (g : Group). g.rest) (group_is ls d h)) ∙ w.ends

  place : ℕ
  place = a + length w.body

  long : length rest ≡ length w.body + 1
  long = ap length rest_is ∙ length-append w.body (w.last ∷ [])

  inside : place < length ls
  unfolding place
  inside = omega (arith, long, length-append rest (flat (groups is_head (drop a ls))), ap length (before_flat is_head (drop a ls)), length-drop a ls, line_inside ls d h)

  last_is : nth_line ls place ≡ w.last
  unfolding place
  last_is =
      sym (get_or-drop a ls (length w.body) bad)
      ∙ ap (λ (r : List Line). get_or r (length w.body) bad) (sym (before_flat is_head (drop a ls)) ∙ ap (λ (r : List Line). r ++ flat (groups is_head (drop a ls))) rest_is ∙ append_assoc w.body (w.last ∷ []) (flat (groups is_head (drop a ls))))
      ∙ get_or-append_seam w.body w.last (flat (groups is_head (drop a ls))) bad

  head_of_last : last_head bad (take (place + 1) ls) ≡ nth_line ls (start ls d)
  unfolding place last_head
  head_of_last =
      let e : place + 1 ≡ a + length rest = omega (arith, long) in
      ap (λ (n : ℕ). last_head bad (take n ls)) e
      ∙ ap (last_head bad) (take_start ls a (heads_before ls a) (line_inside ls d h) refl)
      ∙ last_head_append bad (take a ls) rest
      ∙ last_head_none (last_head bad (take a ls)) rest (none_before is_head (drop a ls))
      ∙ ap (last_head bad) (take-suc ls (start ls d) bad (line_inside ls d h))
      ∙ last_head_append bad (take (start ls d) ls) (nth_line ls (start ls d) ∷ [])
      ∙ ap (λ (c : Bool). pick c (nth_line ls (start ls d)) (last_head bad (take (start ls d) ls))) (line_of_head ls d h)

  verdict_last : verdict_of (group ls d).rest ≡ w.last
  unfolding select
  verdict_last =
      ap (λ (r : List Line). get_or r 0 bad)
      (ap (select verdict_line) w.ends ∙ select_append verdict_line w.body (w.last ∷ []) ∙ ap (λ (r : List Line). r ++ select verdict_line (w.last ∷ [])) (select_none verdict_line w.body w.before_last) ∙ select_yes verdict_line w.last [] w.is_last)

  pub judged : is import_line (head_line ls d) ≡ true → Judged ls d
  judged e =
      let n : ℕ = kept_after 0 (take place ls) in
      let s : head_line ls d ≡ nth_line ls (start ls d) = ap (λ (g : Group). g.head) (group_is ls d h) in
      let r : good_line (nth_line ls (start ls d)) n (ctors_after 0 (take place ls)) (nth_line ls place) ≡ true = not-false _ (sym (row7_line ls place inside (start ls d) n head_of_last refl) ∙ none_first (row7 ls) (length ls) p.in_verdict place (omega (arith, inside))) in
      record {
        kept = n;
        good =
            ap₂ (λ (x y : Line). good_verdict x n y) s (verdict_last ∙ sym last_is)
            ∙ chosen (nth_line ls (start ls d)) n (ctors_after 0 (take place ls)) (nth_line ls place) (eqb-true (letter (nth_line ls place)) verdict_line (ap (is verdict_line) last_is ∙ w.is_last)) (ap (is import_line) (sym s) ∙ e) r;
      }
    where
      chosen : (x : Line) (n k : ℕ) (y : Line) → letter y ≡ 86 → is import_line x ≡ true → good_line x n k y ≡ true → good_verdict x n y ≡ true
      chosen x n k y u m g = rw (u, m) at g

  -- ---- every declaration
  imported_fits : Judged ls d → (t : Dtype) (e drop : Bool) (cand : Option NewtypeLayout) (cls : List CtorLayout)
      → Fits (body_kind ls d) (layout_of t (imported (info_of (close_fields (dtype_of (trees ls) (group ls d))) (group ls d).rest (verdict_of (group ls d).rest))) e drop cand cls)
  unfolding layout_of info_of
  imported_fits j t e drop cand cls = verdict_fits (head_line ls d) (verdict_of (group ls d).rest) j.kept _ _ (ap (λ (x : Dtype). body_number x.dt_body) (sym (dtype_is ls d h)) ∙ kind_is ls d h p) j.good

  -- The layout of a declaration goes with its body kind.
  pub layout_fits : Fits (body_kind ls d) (layout_of_decl (program ls) d)
  unfolding layouts_of
  layout_fits =
      subst (Fits (body_kind ls d)) (sym (get_or_layouts (program ls) (erasure_fixpoint (program ls)).marks d L_opaque (rw (length_program ls) h)))
      (go (is import_line (head_line ls d)) refl (get_or (erasure_fixpoint (program ls)).marks d false) (dropped (program ls) (passes_of (program ls) (erasure_fixpoint (program ls)).marks) d) (get_or (candidates_of (program ls) (erasure_fixpoint (program ls)).marks) d none) (ctor_layouts (marked (program ls) (erasure_fixpoint (program ls)).marks) (dtype_at (program ls) d)))
    where
      go : (c : Bool) → is import_line (head_line ls d) ≡ c → (e drop : Bool) (cand : Option NewtypeLayout) (cls : List CtorLayout) → Fits (body_kind ls d) (layout_of (dtype_at (program ls) d) (origin_at (program ls) d) e drop cand cls)
      go true q e drop cand cls =
          subst (λ (o : Origin). Fits (body_kind ls d) (layout_of (dtype_at (program ls) d) o e drop cand cls)) (sym (origin_import ls d h q)) (imported_fits (judged q) (dtype_at (program ls) d) e drop cand cls)
      go false q e drop cand cls =
          subst (λ (o : Origin). Fits (body_kind ls d) (layout_of (dtype_at (program ls) d) o e drop cand cls)) (sym (origin_local ls d h q))
          (subst (λ (k : ℕ). Fits k (layout_of (dtype_at (program ls) d) here e drop cand cls)) (kind_is ls d h p) (local_fits (dtype_at (program ls) d) e drop cand cls))
