-- The layout of a declaration by its lines. Assumes nothing.
use Rattle.std.specs.Prelude.{◌≡◌, Bool, ℕ, ◌+◌, ◌≤◌, ◌<◌, eqb, length, get_or, set}
use Rattle.std.proofs.Math.Path.{refl}
use Rattle.std.proofs.Common.{sym, ◌∙◌, length-set, get_or-set_same, get_or-set_other}
use mathlib.Core.List.{List}
use Rattle.std.proofs.Math.Bool.{true, false}
use Rattle.std.proofs.Math.Option.{Option}
use native.Mathlib.Omega.{arith}
use borrow.Author.Tests.{ne_eqb}
use Rattle.number_columns.specs.Column.{◌⇒◌∥◌}
use Rattle.sheet.specs.Line.{Line, number}
use Rattle.model.specs.Decl.{close_body, TAbstract, TRecord, TVariant, CtorLayout, NewtypeLayout, L_opaque, here, dtype_at}
use Rattle.model.specs.Erasure.{erasure_fixpoint}
use Rattle.model.specs.Layout.{collapse, layout_of_body, layout_of}
use Rattle.model.specs.Run.{layouts_of, layout_of_decl}
use Rattle.model_laws.specs.Layout.{get_or_layouts}
use Rattle.model_laws.specs.Rounds.{cases_eq}
use Rattle.meaning.specs.Program.{import_line, verdict_line, is, body_of, abbreviated, layout_by, program}
use Rattle.meaning_laws.specs.Program.{length_program}
use Rattle.table_declared.specs.Passed.{Passed}
use Rattle.table_access.specs.Tables.{nth, head_line, decls_of}
use Rattle.table_declared.specs.DeclLaws.{origin_local}
use Rattle.erasure_marks.specs.Marks.{marks_of}
use Rattle.resolve_kids.specs.Params.{params_of}
use Rattle.keep_layouts.specs.Kept.{ctors_of_decl, ctors_at, body_kind}
use Rattle.keep_layouts.specs.declared.Layout.{Layout}
use Rattle.keep_layouts.specs.declared.Layout.TheVariants.{Erased, Struct, Abbreviation, Opaque}
use Rattle.keep_layouts.specs.declared.Verdict.{Verdict}
use Rattle.keep_layouts.specs.Layouts.{no_verdict, Laid}
use Rattle.collapse_candidates.specs.Candidates.{candidate_of}
use Rattle.collapse_candidates.specs.CandidatesLaws.{mark_is}
use Rattle.collapse_passes.specs.BodyLaws.{body_is, abbrev_body, import_laid}
use Rattle.collapse_verdicts.specs.Guard.{dropped_of}
use Rattle.collapse_verdicts.specs.Chosen.{collapsed, kept_one, Chosen}
use Rattle.collapse_verdicts.proofs.ChosenLaws.{erased_chosen, struct_chosen, abbrev_chosen, opaque_chosen}
use Rattle.collapse_verdicts.specs.Laying.{of_body, Partly}
use Rattle.model.specs.Decl as decl

-- ---- by the body
module _ (ls : List Line) (d : ℕ) (h : d < decls_of ls) where
  bare_body : body_kind ls d ≡ 0 → (dtype_at (program ls) d).dt_body ≡ TAbstract
  unfolding body_of close_body
  bare_body e = body_is ls d h ∙ rw e

  -- only an abbreviation is laid out as one
  plain_body : (body_kind ls d ≡ 1 → ⊥) → abbreviated (dtype_at (program ls) d).dt_body ≡ L_opaque
  unfolding body_of close_body
  plain_body n = rw (body_is ls d h, ne_eqb (body_kind ls d) 1 n) (go (eqb (body_kind ls d) 2) (eqb (body_kind ls d) 3) _ _)
    where
      go : (x y : Bool) (fs : List decl.Field) (cs : List decl.Ctor) → abbreviated (close_body (params_of ls d) (x ⇒ TRecord fs ∥ y ⇒ TVariant cs ∥ TAbstract)) ≡ L_opaque
      go true y fs cs = refl
      go false true fs cs = refl
      go false false fs cs = refl

  -- a record or a variant
  ctors_body : 2 ≤ body_kind ls d → body_kind ls d ≤ 3 → (drop : Bool) (cand : Option NewtypeLayout) (cls : List CtorLayout) → layout_of_body (dtype_at (program ls) d).dt_body drop cand cls ≡ collapse drop cand cls
  unfolding body_of close_body layout_of_body
  ctors_body l k drop cand cls = cases_eq (body_kind ls d) 2 (λ e. rw (body_is ls d h, e)) (λ n. let e : body_kind ls d ≡ 3 = omega arith in rw (body_is ls d h, e))

  pub body_opaque : (n : ℕ) → n ≡ body_kind ls d → n ≡ 0 → Chosen ls d (of_body ls d) Opaque
  unfolding layout_of_body
  body_opaque n q e = opaque_chosen ls d _ (rw (bare_body (sym q ∙ e)))

  pub body_abbrev : (n : ℕ) → n ≡ body_kind ls d → n ≡ 1 → Chosen ls d (of_body ls d) Abbreviation
  unfolding layout_of_body
  body_abbrev n q e = abbrev_chosen ls d _ (rw (abbrev_body ls d h (sym q ∙ e)))

  pub body_ctors : (l : Layout) (n : ℕ) → n ≡ body_kind ls d → (n ≡ 0 → ⊥) → (n ≡ 1 → ⊥) → body_kind ls d ≤ 3 → Chosen ls d (collapsed ls d) l → Chosen ls d (of_body ls d) l
  body_ctors l n q n0 n1 o c = rw (ctors_body (omega arith) o (dropped_of ls d) (candidate_of ls d) (ctors_at (program ls) d)) c

  -- ---- a local declaration
  module _ (decl : List ℕ) (m : marks_of decl ≡ (erasure_fixpoint (program ls)).marks) (loc : is import_line (head_line ls d) ≡ false) where
    local_is : layout_of_decl (program ls) d ≡ layout_of (dtype_at (program ls) d) here (get_or (erasure_fixpoint (program ls)).marks d false) (dropped_of ls d) (candidate_of ls d) (ctors_at (program ls) d)
    unfolding layouts_of ctors_of_decl
    local_is = get_or_layouts (program ls) (erasure_fixpoint (program ls)).marks d L_opaque (rw (length_program ls) h) ∙ rw (origin_local ls d h loc)

    pub local_erased : get_or decl d 0 ≡ 1 → Chosen ls d (layout_of_decl (program ls) d) Erased
    unfolding layout_of
    local_erased e = erased_chosen ls d _ (local_is ∙ rw (mark_is ls d decl m, e))

    pub local_kept : (l : Layout) → (get_or decl d 0 ≡ 1 → ⊥) → Chosen ls d (of_body ls d) l → Chosen ls d (layout_of_decl (program ls) d) l
    unfolding layout_of
    local_kept l k c = rw (local_is, mark_is ls d decl m, ne_eqb (get_or decl d 0) 1 k) c

-- ---- an import
module _ (ls : List Line) (p : Passed ls) (d : ℕ) (h : d < decls_of ls) (imp : is import_line (head_line ls d) ≡ true) where
  import_is : layout_of_decl (program ls) d ≡ layout_by (number (nth verdict_line ls d) 1) (dtype_at (program ls) d).dt_body (ctors_at (program ls) d)
  unfolding layouts_of
  import_is =
      get_or_layouts (program ls) (erasure_fixpoint (program ls)).marks d L_opaque (rw (length_program ls) h) ∙ import_laid ls d h p imp _ _ _ _

  module _ (n : ℕ) (is : n ≡ number (nth verdict_line ls d) 1) where
    pub import_erased : n ≡ 0 → Chosen ls d (layout_of_decl (program ls) d) Erased
    unfolding layout_by
    import_erased e = erased_chosen ls d _ (import_is ∙ rw (← is, e))

    pub import_newtype : (l : Layout) → n ≡ 1 → Chosen ls d (kept_one ls d) l → Chosen ls d (layout_of_decl (program ls) d) l
    unfolding layout_by
    import_newtype l e c = rw (import_is, ← is, e) c

    pub import_struct : n ≡ 2 → Chosen ls d (layout_of_decl (program ls) d) Struct
    unfolding layout_by
    import_struct e = struct_chosen ls d _ (import_is ∙ rw (← is, e))

    pub import_abbrev : n ≡ 3 → body_kind ls d ≡ 1 → Chosen ls d (layout_of_decl (program ls) d) Abbreviation
    unfolding layout_by
    import_abbrev e k = abbrev_chosen ls d _ (import_is ∙ rw (← is, e, abbrev_body ls d h k))

    pub import_plain : n ≡ 3 → (body_kind ls d ≡ 1 → ⊥) → Chosen ls d (layout_of_decl (program ls) d) Opaque
    unfolding layout_by
    import_plain e k = opaque_chosen ls d _ (import_is ∙ rw (← is, e, plain_body ls d h k))

    pub import_opaque : (n ≡ 0 → ⊥) → (n ≡ 1 → ⊥) → (n ≡ 2 → ⊥) → (n ≡ 3 → ⊥) → Chosen ls d (layout_of_decl (program ls) d) Opaque
    unfolding layout_by
    import_opaque n0 n1 n2 n3 = opaque_chosen ls d _ (import_is ∙ rw (← is, ne_eqb n 0 n0, ne_eqb n 1 n1, ne_eqb n 2 n2, ne_eqb n 3 n3))

-- ---- one declaration after the other
pub partly_none : (ls : List Line) (vs : List Verdict) → decls_of ls ≤ length vs → Partly ls vs 0
partly_none ls vs e = record { long = e; marks = λ d l. absurd (omega arith); chosen = λ d l. absurd (omega arith) }

pub partly_next : (ls : List Line) (vs : List Verdict) (n : ℕ) (v : Verdict) → n < decls_of ls → v.erased ≡ get_or (erasure_fixpoint (program ls)).marks n false → Chosen ls n (layout_of_decl (program ls) n) v.layout → Partly ls vs n → Partly ls (set vs n v) (n + 1)
partly_next ls vs n v h e c p =
    record {
      long = omega (arith, length-set vs n v, p.long);
      marks = λ d l k. cases_eq d n (λ q. rw (q, at) e) (λ o. rw (other d o) (p.marks d (omega arith) k));
      chosen = λ d l k. cases_eq d n (λ q. rw (q, at) c) (λ o. rw (other d o) (p.chosen d (omega arith) k));
    }
  where
    at : get_or (set vs n v) n no_verdict ≡ v
    at = get_or-set_same vs n v no_verdict (omega (arith, p.long))

    other : (d : ℕ) → (d ≡ n → ⊥) → get_or (set vs n v) d no_verdict ≡ get_or vs d no_verdict
    other d o = get_or-set_other vs n d v no_verdict o

pub partly_all : (ls : List Line) (vs : List Verdict) (n : ℕ) → decls_of ls ≤ n → Partly ls vs n → Laid ls vs
partly_all ls vs n h p =
    record {
      long = p.long;
      marks = λ d l. p.marks d (omega arith) l;
      layouts = λ d l. (p.chosen d (omega arith) l).told;
      fields = λ d c f l e. (p.chosen d (omega arith) l).field c f e;
    }
