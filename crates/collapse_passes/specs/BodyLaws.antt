-- The body, the flags and the layout of a declaration by its lines. Assumes nothing.
use Rattle.std.specs.Prelude.{◌≡◌, List, Bool, ◌||◌, ℕ, ◌<◌}
use Rattle.std.proofs.Math.Path.{refl}
use Rattle.std.proofs.Common.{ap, ◌∙◌}
use Rattle.std.proofs.Math.Bool.{true, false}
use Rattle.std.proofs.Math.Option.{Option}
use Rattle.number_columns.specs.Column.{pick}
use Rattle.sheet.specs.Line.{Line, number}
use Rattle.model.specs.Decl.{close, close_body, close_fields, Body, TAbstract, TAbbrev, TRecord, TVariant, Dtype, has_flag, CtorLayout, NewtypeLayout, dtype_at, origin_at}
use Rattle.model.specs.Layout.{layout_of}
use Rattle.model.specs.Resolve.{abbreviation, stays, unfold_body, unfold_dtype}
use Rattle.meaning.specs.Program.{import_line, verdict_line, is, trees, body_of, dtype_of, layout_by, info_of, program}
use Rattle.meaning_laws.specs.Program.{body_number, body_of_number, close_number}
use Rattle.table_declared.specs.Passed.{Passed}
use Rattle.table_access.specs.Tables.{nth, group, head_line, decls_of}
use Rattle.table_declared.specs.DeclLaws.{dtype_is, origin_import, verdict_is, whole_at}
use Rattle.resolve_kids.specs.Nodes.{type_of}
use Rattle.resolve_kids.specs.Params.{params_of}
use Rattle.keep_layouts.specs.Kept.{ctors_of_decl, ctors_at, body_kind, body_last}
use Rattle.keep_laws.specs.KeptLaws.{params_lines, params_are}
use Rattle.collapse_passes.specs.Passes.{named}

module _ (ls : List Line) (d : ℕ) (h : d < decls_of ls) where
  -- ---- the body
  pub body_is : (dtype_at (program ls) d).dt_body ≡ close_body (params_of ls d) (body_of (trees ls) (body_kind ls d) (body_last ls d) (group ls d).rest)
  unfolding close_fields dtype_of
  body_is = rw (dtype_is ls d h, params_lines ls d h)

  pub abbrev_body : body_kind ls d ≡ 1 → (dtype_at (program ls) d).dt_body ≡ TAbbrev (close (params_of ls d) (type_of ls (body_last ls d)))
  unfolding body_of close_body
  abbrev_body e = body_is ∙ rw e

  pub kind_is : Passed ls → body_number (dtype_at (program ls) d).dt_body ≡ body_kind ls d
  kind_is p = ap body_number body_is ∙ close_number (params_of ls d) _ ∙ body_of_number (trees ls) (body_kind ls d) (body_last ls d) (group ls d).rest (whole_at ls p d h).kinds

  -- ---- what becomes of its name
  named_is : (has_flag (dtype_at (program ls) d) 2 || has_flag (dtype_at (program ls) d) 8) ≡ named ls d
  unfolding has_flag close_fields dtype_of
  named_is = rw (dtype_is ls d h)

  pub abbreviation_is : body_kind ls d ≡ 1 → unfold_dtype (dtype_at (program ls) d) ≡ pick (named ls d) stays (abbreviation (params_of ls d) (close (params_of ls d) (type_of ls (body_last ls d))))
  unfolding unfold_dtype unfold_body
  abbreviation_is e = rw (abbrev_body e, params_are ls d h) (ap (λ (c : Bool). pick c stays (abbreviation (params_of ls d) (close (params_of ls d) (type_of ls (body_last ls d))))) named_is)

  -- ---- the layout of an import
  pub import_laid : Passed ls → is import_line (head_line ls d) ≡ true → (e drop : Bool) (cand : Option NewtypeLayout) (cls : List CtorLayout)
      → layout_of (dtype_at (program ls) d) (origin_at (program ls) d) e drop cand cls ≡ layout_by (number (nth verdict_line ls d) 1) (dtype_at (program ls) d).dt_body (ctors_at (program ls) d)
  unfolding layout_of ctors_of_decl info_of
  import_laid p q e drop cand cls = rw (verdict_is ls p d h, dtype_is ls d h, origin_import ls d h q)

-- a body that is no abbreviation's leaves the name
pub stays_bare : (d : Dtype) → (body_number d.dt_body ≡ 1 → ⊥) → unfold_dtype d ≡ stays
unfolding unfold_dtype unfold_body body_number
stays_bare d n = go (has_flag d 2 || has_flag d 8) d.dt_body n
  where
    go : (c : Bool) (b : Body) → (body_number b ≡ 1 → ⊥) → pick c stays (unfold_body d.dt_params b) ≡ stays
    go true b m = refl
    go false TAbstract m = refl
    go false (TAbbrev c) m = absurd (m refl)
    go false (TRecord fs) m = refl
    go false (TVariant cs) m = refl
