-- What the guard goes on through at a declaration, by its lines, its mark and its candidate. Assumes nothing.
use Rattle.std.specs.Prelude.{◌≡◌, Bool, ℕ, ◌+◌, ◌/◌, ◌%◌, ◌<◌, eqb, length, get_or, set}
use Rattle.std.proofs.Math.Path.{refl, ap}
use Rattle.std.proofs.Common.{sym, ◌∙◌, arith, length-set, get_or-set_same, get_or-set_other}
use mathlib.Core.List.{List, []}
use Rattle.std.proofs.Math.Bool.{true, false}
use Rattle.std.proofs.Math.Option.{Option, none, some}
use borrow.Author.Tests.{eq-eqb, ne_eqb, lt-ltb, le-ltb}
use Rattle.number_columns.specs.Column.{◌⇒◌∥◌}
use Rattle.sheet.specs.Line.{Line, number}
use Rattle.sheet.proofs.ListLaws.{contrary}
use Rattle.model.specs.Cty.{Cty}
use Rattle.model.specs.Decl.{close, Body, TAbstract, TAbbrev, TRecord, TVariant, Dtype, ctors_of, Layout, L_erased, L_newtype, L_struct, L_abbrev, L_opaque, CtorLayout, NewtypeLayout, here, dtype_at}
use Rattle.model.specs.Erasure.{erasure_fixpoint}
use Rattle.model.specs.Layout.{newtype_of, collapse, layout_of_body, layout_of, passed}
use Rattle.model.specs.Resolve.{stays, abbreviation_of, unfold_dtype, unfold_of}
use Rattle.model_laws.specs.Layout.{passed_at, get_or_passes}
use Rattle.model_laws.specs.Rounds.{cases_eq}
use Rattle.meaning.specs.Program.{type_line, field_line, import_line, verdict_line, is, ctor_layouts_by, abbreviated, layout_by, info_of, program}
use Rattle.meaning.specs.Rows.{count_of}
use Rattle.meaning_laws.specs.Program.{length_program}
use Rattle.table_declared.specs.Passed.{Passed}
use Rattle.table_declared.specs.DeclLaws.{dtype_is, origin_local, origin_import}
use Rattle.table_declared.specs.PassedLaws.{fields_few}
use Rattle.table_access.specs.Tables.{nth, head_line, decls_of}
use Rattle.erasure_marks.specs.Marks.{marks_of}
use Rattle.erasure_laws.specs.BodiesLaws.{last_types}
use Rattle.resolve_kids.specs.Nodes.{type_of}
use Rattle.resolve_kids.specs.Params.{params_of}
use Rattle.keep_layouts.specs.Kept.{ctors_of_decl, ctors_at, body_kind, body_last, field_type}
use Rattle.keep_layouts.specs.Layouts.{newtype_told}
use Rattle.collapse_candidates.specs.Payloads.{Payload}
use Rattle.collapse_candidates.specs.PayloadsLaws.{close_uninline}
use Rattle.collapse_candidates.specs.Candidates.{no_field, field_told, Candidate}
use Rattle.collapse_candidates.specs.CandidatesLaws.{mark_is}
use Rattle.collapse_passes.specs.Passes.{named, passed_of, laid, abbreviates, is_erased, body_told, Partly, Passes}
use Rattle.collapse_passes.specs.BodyLaws.{abbrev_body, kind_is, abbreviation_is, import_laid, stays_bare}

-- ---- the flags
module _ (ls : List Line) (d x : ℕ) (e : x ≡ number (head_line ls d) 1) where
  pub named_realized : x / 2 % 2 ≡ 1 → true ≡ named ls d
  named_realized h = rw (← e, eq-eqb (x / 2 % 2) 1 h)

  pub named_kept : (x / 2 % 2 ≡ 1 → ⊥) → eqb (x / 8 % 2) 1 ≡ named ls d
  named_kept n = rw (← e, ne_eqb (x / 2 % 2) 1 n)

-- ---- which layouts are erased
mark_erases : (d : Dtype) (e : Bool) → e ≡ is_erased (layout_of d here e true none [])
unfolding layout_of layout_of_body collapse
mark_erases d true = refl
mark_erases d false = go d.dt_body
  where
    go : (b : Body) → false ≡ is_erased (layout_of_body b true none [])
    go TAbstract = refl
    go (TAbbrev c) = refl
    go (TRecord fs) = refl
    go (TVariant cs) = refl

number_erases : (n : ℕ) (b : Body) (cls : List CtorLayout) → eqb n 0 ≡ is_erased (layout_by n b cls)
unfolding layout_by collapse
number_erases n b cls = go (eqb n 0) (eqb n 1) (eqb n 2) (eqb n 3)
  where
    collapsed : (o : Option NewtypeLayout) → false ≡ is_erased (collapse false o cls)
    collapsed none = refl
    collapsed (some nt) = refl

    of_body : (b : Body) → false ≡ is_erased (abbreviated b)
    of_body TAbstract = refl
    of_body (TAbbrev c) = refl
    of_body (TRecord fs) = refl
    of_body (TVariant cs) = refl

    go : (x0 x1 x2 x3 : Bool) → x0 ≡ is_erased (x0 ⇒ L_erased ∥ x1 ⇒ collapse false (newtype_of cls) cls ∥ x2 ⇒ L_struct cls ∥ x3 ⇒ abbreviated b ∥ L_opaque)
    go true x1 x2 x3 = refl
    go false true x2 x3 = collapsed (newtype_of cls)
    go false false true x3 = refl
    go false false false true = of_body b
    go false false false false = refl

-- ---- abbreviations
-- a name that is left stands for nothing,
stays_none : (d : Dtype) (l : Layout) → unfold_dtype d ≡ stays → abbreviation_of (unfold_of d l) ≡ none
unfolding unfold_of abbreviation_of
stays_none d L_erased e = refl
stays_none d (L_newtype nt) e = refl
stays_none d (L_struct cls) e = rw e
stays_none d (L_abbrev c) e = rw e
stays_none d L_opaque e = rw e

-- and so does an erased one;
erased_none : (d : Dtype) (l : Layout) → is_erased l ≡ true → abbreviation_of (unfold_of d l) ≡ none
unfolding unfold_of abbreviation_of
erased_none d L_erased e = refl
erased_none d (L_newtype nt) e = contrary false e refl
erased_none d (L_struct cls) e = contrary false e refl
erased_none d (L_abbrev c) e = contrary false e refl
erased_none d L_opaque e = contrary false e refl

-- an abbreviation is laid out as no newtype
local_unfolds : (d : Dtype) (e : Bool) (c : Cty) → d.dt_body ≡ TAbbrev c → is_erased (layout_of d here e true none []) ≡ false → unfold_of d (layout_of d here e true none []) ≡ unfold_dtype d
unfolding unfold_of layout_of layout_of_body
local_unfolds d true c q e = contrary true refl e
local_unfolds d false c q e = rw q

import_unfolds : (d : Dtype) (n : ℕ) (c : Cty) → is_erased (layout_by n (TAbbrev c) []) ≡ false → unfold_of d (layout_by n (TAbbrev c) []) ≡ unfold_dtype d
unfolding unfold_of layout_by collapse newtype_of
import_unfolds d n c e = go (eqb n 0) (eqb n 1) (eqb n 2) (eqb n 3) e
  where
    go : (x0 x1 x2 x3 : Bool)
        → is_erased (x0 ⇒ L_erased ∥ x1 ⇒ L_struct [] ∥ x2 ⇒ L_struct [] ∥ x3 ⇒ L_abbrev c ∥ L_opaque) ≡ false
        → unfold_of d (x0 ⇒ L_erased ∥ x1 ⇒ L_struct [] ∥ x2 ⇒ L_struct [] ∥ x3 ⇒ L_abbrev c ∥ L_opaque) ≡ unfold_dtype d
    go true x1 x2 x3 q = contrary true refl q
    go false true x2 x3 q = refl
    go false false true x3 q = refl
    go false false false true q = refl
    go false false false false q = refl

-- ---- declaration d
module _ (ls : List Line) (p : Passed ls) (d : ℕ) (h : d < decls_of ls) where
  -- an import is erased by its layout,
  pub import_erased : is import_line (head_line ls d) ≡ true → (n : ℕ) → n ≡ number (nth verdict_line ls d) 1 → eqb n 0 ≡ is_erased (laid ls d)
  import_erased q n e = rw (import_laid ls d h p q _ true none [], ← e) (number_erases n _ _)

  -- a local one by its mark
  pub local_erased : is import_line (head_line ls d) ≡ false → (decl : List ℕ) → marks_of decl ≡ (erasure_fixpoint (program ls)).marks → eqb (get_or decl d 0) 1 ≡ is_erased (laid ls d)
  local_erased q decl m = rw (origin_local ls d h q, mark_is ls d decl m) (mark_erases (dtype_at (program ls) d) (eqb (get_or decl d 0) 1))

  -- an abbreviation has no constructors
  no_ctors : is import_line (head_line ls d) ≡ true → body_kind ls d ≡ 1 → ctors_at (program ls) d ≡ []
  unfolding ctors_of_decl info_of ctors_of ctor_layouts_by
  no_ctors q e = rw (origin_import ls d h q, ← (dtype_is ls d h), abbrev_body ls d h e)

  unfolds : body_kind ls d ≡ 1 → is_erased (laid ls d) ≡ false → unfold_of (dtype_at (program ls) d) (laid ls d) ≡ unfold_dtype (dtype_at (program ls) d)
  unfolds k e = go (is import_line (head_line ls d)) refl
    where
      go : (c : Bool) → is import_line (head_line ls d) ≡ c → unfold_of (dtype_at (program ls) d) (laid ls d) ≡ unfold_dtype (dtype_at (program ls) d)
      go true q =
          let r : laid ls d ≡ layout_by (number (nth verdict_line ls d) 1) (TAbbrev (close (params_of ls d) (type_of ls (body_last ls d)))) [] =
          import_laid ls d h p q _ true none [] ∙ rw (abbrev_body ls d h k, no_ctors q k) in
          rw r (import_unfolds (dtype_at (program ls) d) _ _ (rw r at e))
      go false q =
          rw (origin_local ls d h q) (local_unfolds (dtype_at (program ls) d) _ _ (abbrev_body ls d h k) (rw (origin_local ls d h q) at e))

  -- no Y line
  none_told : (y : ℕ) → y ≡ count_of type_line ls → none ≡ body_told ls d y
  unfolding body_told
  none_told y e = rw (le-ltb y (count_of type_line ls) (omega arith))

  module _ (y : ℕ) (none : y ≡ count_of type_line ls) where
    pub stops_bare : (n : ℕ) → n ≡ body_kind ls d → (n ≡ 1 → ⊥) → abbreviates ls d ≡ body_told ls d y
    stops_bare n q e = stays_none _ _ (stays_bare (dtype_at (program ls) d) (λ z. e (q ∙ sym (kind_is ls d h p) ∙ z))) ∙ none_told y none

    pub stops_erased : (c : Bool) → c ≡ is_erased (laid ls d) → c ≡ true → abbreviates ls d ≡ body_told ls d y
    stops_erased c q e = erased_none _ _ (sym q ∙ e) ∙ none_told y none

    pub stops_named : (n : ℕ) → n ≡ body_kind ls d → n ≡ 1 → (c : Bool) → c ≡ named ls d → c ≡ true → abbreviates ls d ≡ body_told ls d y
    stops_named n q k c r e = stays_none _ _ (abbreviation_is ls d h (sym q ∙ k) ∙ rw (← r, e)) ∙ none_told y none

  pub goes_on : (n : ℕ) → n ≡ body_kind ls d → n ≡ 1 → (b : Bool) → b ≡ is_erased (laid ls d) → b ≡ false → (c : Bool) → c ≡ named ls d → c ≡ false → (y : ℕ) → y ≡ body_last ls d → abbreviates ls d ≡ body_told ls d y
  unfolding abbreviation_of body_told
  goes_on n q k b r e c s f y u =
      rw (unfolds (sym q ∙ k) (sym r ∙ e), abbreviation_is ls d h (sym q ∙ k), ← s, f, u, lt-ltb (body_last ls d) (count_of type_line ls) (last_types ls p d h (sym q ∙ k)))

  -- ---- by the candidate
  at : passed_of ls d ≡ passed_at (program ls) (erasure_fixpoint (program ls)).marks d
  at = get_or_passes (program ls) (erasure_fixpoint (program ls)).marks d none (rw (length_program ls) h)

  module _ (f : ℕ) (c : Candidate ls d f) where
    pub passed_none : f ≡ no_field → passed_of ls d ≡ abbreviates ls d
    unfolding field_told passed
    passed_none e = at ∙ rw (c.told, le-ltb f (count_of field_line ls) (omega (arith, fields_few ls p)))

    pub passed_some : (f ≡ no_field → ⊥) → (y : ℕ) → Payload ls f y → passed_of ls d ≡ body_told ls d y
    unfolding field_told body_told passed newtype_told
    passed_some n y q =
        at
        ∙ rw (c.told, lt-ltb f (count_of field_line ls) (c.named n), lt-ltb y (count_of type_line ls) q.inside)
        (ap some (sym (close_uninline (params_of ls d) (type_of ls (field_type ls f))) ∙ ap (close (params_of ls d)) (sym q.type)))

-- ---- one declaration after the other
pub partly_none : (ls : List Line) (bodies : List ℕ) → length bodies ≡ decls_of ls → Partly ls bodies 0
partly_none ls bodies e = record { long = e; each = λ d l. absurd (omega arith) }

pub partly_next : (ls : List Line) (bodies : List ℕ) (n y : ℕ) → n < decls_of ls → passed_of ls n ≡ body_told ls n y → Partly ls bodies n → Partly ls (set bodies n y) (n + 1)
partly_next ls bodies n y h e p =
    record {
      long = length-set bodies n y ∙ p.long;
      each = λ d l. cases_eq d n
          (λ q. rw (q, get_or-set_same bodies n y 0 (omega (arith, p.long))) e)
          (λ o. rw (get_or-set_other bodies n d y 0 o) (p.each d (omega arith)));
    }

pub partly_all : (ls : List Line) (bodies : List ℕ) (n : ℕ) → n ≡ decls_of ls → Partly ls bodies n → Passes ls bodies
partly_all ls bodies n e p = record { long = p.long; each = λ d l. p.each d (omega arith) }
