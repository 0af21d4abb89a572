-- What is left of a declaration, by its cells and lines. Assumes nothing.
use Rattle.std.specs.Prelude.{◌≡◌, Bool, ◌&&◌, not, eqb}
use Rattle.std.proofs.Math.Path.{refl, ap}
use Rattle.std.proofs.Common.{ap₂, sym, ◌∙◌, arith, length-append}
use mathlib.Core.List.{List, [], ◌∷◌, ◌++◌, map, map-append, append-nil}
use Rattle.std.proofs.Math.Bool.{true, false}
use Rattle.std.proofs.Math.Option.{none, some}
use Prim.Native.Nat.{ℕ, suc, ◌+◌, ◌-◌, ◌≤◌, ◌<◌}
use Rattle.std.proofs.Math.ListN.{length, length-map}
use borrow.Author.Tests.{eqb-true, eqb-false, ne_eqb}
use Rattle.number_columns.specs.Column.{pick, ◌⇒◌∥◌}
use Rattle.sheet.specs.Line.{Line}
use Rattle.model.specs.Cty.{Cty, names_of_cty, cty_vars}
use Rattle.model.specs.Decl.{Field, Ctor, Body, TAbstract, TAbbrev, TRecord, TVariant, Dtype, CtorLayout, close, close_fields, Layout, L_erased, L_newtype, L_struct, L_abbrev, L_opaque, Decl, dtype_at, member}
use Rattle.model.specs.Resolve.{resolve}
use Rattle.model.specs.Run.{with_body, all_in, collapsed_abbrev, resolved_field, resolved_ctor, struct_body, rw_decl, lay, layout_of_decl, left_at}
use Rattle.meaning.specs.Program.{ctor_line, field_line, dtype_of, trees, program}
use Rattle.meaning.specs.Output.{Written, emit, last, field_lines, ctor_lines, decl_frame, decl_lines}
use Rattle.meaning_laws.specs.Program.{body_number, body_of_number, close_number}
use Rattle.meaning_laws.specs.Output.{types_of_fields, types_of_ctors, types_of_body}
use Rattle.table_declared.specs.Passed.{Passed}
use Rattle.table_access.specs.Tables.{group, decls_of, first_of}
use Rattle.table_declared.specs.DeclLaws.{dtype_is, whole_at}
use Rattle.resolve_kids.specs.Nodes.{type_of}
use Rattle.resolve_kids.specs.Params.{params_of}
use Rattle.keep_fields.specs.Keeps.{Slotted}
use Rattle.keep_layouts.specs.Kept.{ctors_at, kept_ctor, body_kind, body_last, fields_by, ctors_by}
use Rattle.keep_laws.specs.KeptLaws.{kept_record, kept_variant, ctors_are, length_ctors_by}
use Rattle.keep_layouts.specs.States.{state, body_of, Shape, kept_types, resolves_of, Settled}
use Rattle.keep_laws.specs.StatesLaws.{types_of_kept}
use Rattle.left_laws.specs.Lefts.{is_left}
use Rattle.form_emit.specs.Left.{left_type}

-- ---- the body that is left
-- a constructor with its fields resolved
abbrev pub left_ctor : (Cty → Cty) → Ctor → Ctor
left_ctor res c = record { ct_name = c.ct_name; ct_fields = map (resolved_field res) c.ct_fields }

abbrev pub resolve_in : List Line → Cty → Cty
resolve_in ls = resolve (lay (program ls)) 100

-- of a newtype its payload, of an abbreviation the type, else the kept fields, all resolved
unfoldable pub left_body : List Line → List ℕ → List ℕ → ℕ → Body
left_body ls u keep d =
    eqb (state u d) 1 ⇒ TAbbrev (left_type ls d (body_of u d)) ∥
    eqb (body_kind ls d) 1 ⇒ TAbbrev (left_type ls d (body_last ls d)) ∥
    eqb (body_kind ls d) 2 ⇒ TRecord (map (resolved_field (resolve_in ls)) (fields_by ls keep (params_of ls d) (first_of field_line ls d) (body_last ls d))) ∥
    eqb (body_kind ls d) 3 ⇒ TVariant (map (left_ctor (resolve_in ls)) (ctors_by ls keep (params_of ls d) (first_of ctor_line ls d) (first_of field_line ls d) (body_last ls d))) ∥
    TAbstract

-- ---- laws of lists
first_fields : List Ctor → List Field
first_fields [] = []
first_fields (c ∷ cs) = c.ct_fields

ctors_resolved : (res : Cty → Cty) (cls : List CtorLayout) → map (resolved_ctor res) cls ≡ map (left_ctor res) (map kept_ctor cls)
unfolding resolved_ctor
ctors_resolved res [] = refl
ctors_resolved res (cl ∷ cls) = ap (λ (r : List Ctor). resolved_ctor res cl ∷ r) (ctors_resolved res cls)

-- one constructor
record_struct : (res : Cty → Cty) (fs : List Field) (cls : List CtorLayout) (c : Ctor) → map kept_ctor cls ≡ c ∷ [] → struct_body res (TRecord fs) cls ≡ TRecord (map (resolved_field res) c.ct_fields)
unfolding struct_body first_fields
record_struct res fs [] c e = let z : ◌≡◌ {A = ℕ} 0 1 = ap length e in absurd (omega arith)
record_struct res fs (cl ∷ []) c e = ap (λ (gs : List Field). TRecord (map (resolved_field res) gs)) (ap first_fields e)
record_struct res fs (cl ∷ cm ∷ cls) c e = absurd (omega (arith, ap length e))

fields_resolved : (res : Cty → Cty) (fs : List Field) → types_of_fields (map (resolved_field res) fs) ≡ map res (types_of_fields fs)
unfolding types_of_fields resolved_field
fields_resolved res [] = refl
fields_resolved res (f ∷ fs) = ap (λ (r : List Cty). res f.fd_type ∷ r) (fields_resolved res fs)

types_resolved : (res : Cty → Cty) (cs : List Ctor) → types_of_ctors (map (left_ctor res) cs) ≡ map res (types_of_ctors cs)
unfolding types_of_ctors
types_resolved res [] = refl
types_resolved res (c ∷ cs) =
    ap₂ ◌++◌ (fields_resolved res c.ct_fields) (types_resolved res cs) ∙ sym (map-append res (types_of_fields c.ct_fields) (types_of_ctors cs))

map_twice : (g : ℕ → Cty) (res : Cty → Cty) (ys : List ℕ) → map res (map g ys) ≡ map (λ y. res (g y)) ys
map_twice g res [] = refl
map_twice g res (y ∷ ys) = ap (λ (r : List Cty). res (g y) ∷ r) (map_twice g res ys)

collapsed_is : (D : Dtype) (c : Cty) → collapsed_abbrev D c ≡ pick (is_left (collapsed_abbrev D c)) (some (with_body D (TAbbrev c))) none
unfolding collapsed_abbrev is_left
collapsed_is D c = go (all_in D.dt_params (cty_vars c) && not (member D.dt_name (names_of_cty c)))
  where
    go : (x : Bool) → pick x (some (with_body D (TAbbrev c))) none ≡ pick (is_left (pick x (some (with_body D (TAbbrev c))) none)) (some (with_body D (TAbbrev c))) none
    go true = refl
    go false = refl

one_ctor : (c : Ctor) → types_of_ctors (c ∷ []) ≡ types_of_fields c.ct_fields
unfolding types_of_ctors
one_ctor c = append-nil (types_of_fields c.ct_fields)

-- ---- how many lines a declaration has
-- F lines, and C lines
unfoldable pub body_lines : Body → ℕ
body_lines TAbstract = 0
body_lines (TAbbrev c) = 0
body_lines (TRecord fs) = length (types_of_fields fs)
body_lines (TVariant cs) = length cs + length (types_of_ctors cs)

length_fields : (fs : List Field) (w : Written) → length (field_lines fs w).lines ≡ length (types_of_fields fs)
unfolding field_lines types_of_fields
length_fields [] w = refl
length_fields (f ∷ fs) w = ap suc (length_fields fs (emit f.fd_type w))

length_ctors : (cs : List Ctor) (w : Written) → length (ctor_lines cs w).lines ≡ length cs + length (types_of_ctors cs)
unfolding ctor_lines types_of_ctors
length_ctors [] w = omega arith
length_ctors (c ∷ cs) w =
    ap suc (length-append (field_lines c.ct_fields w).lines (ctor_lines cs (field_lines c.ct_fields w).written).lines)
    ∙ omega (arith, length_fields c.ct_fields w, length_ctors cs (field_lines c.ct_fields w).written, length-append (types_of_fields c.ct_fields) (types_of_ctors cs))

length_frame : (D : Dtype) (k end : ℕ) (rs : List Line) → length (decl_frame D k end rs) ≡ 2 + length D.dt_params + length rs
unfolding decl_frame
length_frame D k end rs = simp (length-append, length-map) (omega arith)

pub length_decl : (D : Dtype) (bd : Body) (w : Written) → length (decl_lines D bd w).lines ≡ 2 + length D.dt_params + body_lines bd
unfolding decl_lines body_lines
length_decl D TAbstract w = length_frame D 0 0 []
length_decl D (TAbbrev c) w = length_frame D 1 (last (emit c w)) []
length_decl D (TRecord fs) w = length_frame D 2 (length fs) (field_lines fs w).lines ∙ ap (λ (n : ℕ). 2 + length D.dt_params + n) (length_fields fs w)
length_decl D (TVariant cs) w = length_frame D 3 (length cs) (ctor_lines cs w).lines ∙ ap (λ (n : ℕ). 2 + length D.dt_params + n) (length_ctors cs w)

-- ---- a declaration
module _ (ls : List Line) (u keep : List ℕ) (passed : Passed ls) (slotted : Slotted ls keep) (settled : Settled ls u) (d : ℕ) (below : d < decls_of ls) where
  abbrev ds : List Decl
  ds = program ls

  abbrev res : Cty → Cty
  res = resolve_in ls

  pub body_kind_is : body_number (dtype_at ds d).dt_body ≡ body_kind ls d
  unfolding close_fields dtype_of
  body_kind_is =
      rw (dtype_is ls d below)
      (close_number _ _ ∙ body_of_number (trees ls) (body_kind ls d) (body_last ls d) (group ls d).rest (whole_at ls passed d below).kinds)

  -- the kept fields, resolved
  struct_left : state u d ≡ 3 → 2 ≤ body_kind ls d → (bd : Body) → body_number bd ≡ body_kind ls d → struct_body res bd (ctors_at ds d) ≡ left_body ls u keep d
  unfolding body_number left_body struct_body
  struct_left x l TAbstract e = absurd (omega arith)
  struct_left x l (TAbbrev c) e = absurd (omega arith)
  struct_left x l (TRecord fs) e =
      rw (x, ← e) (record_struct res fs (ctors_at ds d) _ (ctors_are ls passed keep slotted d below ∙ kept_record ls keep d (sym e)))
  struct_left x l (TVariant cs) e =
      rw (x, ← e) (ap TVariant (ctors_resolved res (ctors_at ds d) ∙ ap (map (left_ctor res)) (ctors_are ls passed keep slotted d below ∙ kept_variant ls keep d (sym e))))

  opaque_left : (D : Dtype) → body_number D.dt_body ≡ 0 → D ≡ with_body D TAbstract
  unfolding body_number
  opaque_left D e = go D.dt_body refl e
    where
      go : (bd : Body) → D.dt_body ≡ bd → body_number bd ≡ 0 → D ≡ with_body D TAbstract
      go TAbstract q z = ap (with_body D) q
      go (TAbbrev c) q z = absurd (omega arith)
      go (TRecord fs) q z = absurd (omega arith)
      go (TVariant cs) q z = absurd (omega arith)

  -- where a declaration is left, it is this one
  pub left_is : left_at 100 ds d ≡ pick (is_left (left_at 100 ds d)) (some (with_body (dtype_at ds d) (left_body ls u keep d))) none
  unfolding left_at rw_decl is_left left_body
  left_is = go (layout_of_decl ds d) (settled.shapes d below)
    where
      D : Dtype
      D = dtype_at ds d

      go : (l : Layout) → Shape ls u d l → rw_decl res D l ≡ pick (is_left (rw_decl res D l)) (some (with_body D (left_body ls u keep d))) none
      go L_erased s = refl
      go (L_newtype nt) s = rw (s.0, s.1) (collapsed_is D (left_type ls d (body_of u d)))
      go (L_struct cls) s = ap (λ (bd : Body). some (with_body D bd)) (ap (struct_body res D.dt_body) s.3 ∙ struct_left s.0 s.1 D.dt_body body_kind_is)
      go (L_abbrev c) s = rw (ne_eqb (state u d) 1 (λ e. omega (arith, s.0)), s.2, s.4) refl
      go L_opaque s = rw (s.0, s.1) (ap some (opaque_left D (body_kind_is ∙ s.1)))

  -- and its types are those that are resolved
  pub left_types_are : (state u d ≡ 0 → ⊥) → types_of_body (left_body ls u keep d) ≡ map (λ y. left_type ls d y) (resolves_of ls u keep d)
  unfolding left_body resolves_of types_of_body
  left_types_are n = rw (ne_eqb (state u d) 0 n) (go (eqb (state u d) 1) (eqb (body_kind ls d) 1) refl (eqb (body_kind ls d) 2) refl (eqb (body_kind ls d) 3) refl (eqb (body_kind ls d) 0) refl)
    where
      kept : List ℕ
      kept = kept_types ls keep (first_of field_line ls d) (first_of field_line ls (d + 1) - first_of field_line ls d)

      go : (x k1 : Bool) → eqb (body_kind ls d) 1 ≡ k1 → (k2 : Bool) → eqb (body_kind ls d) 2 ≡ k2 → (k3 : Bool) → eqb (body_kind ls d) 3 ≡ k3 → (k0 : Bool) → eqb (body_kind ls d) 0 ≡ k0
          → types_of_body (
          x ⇒ TAbbrev (left_type ls d (body_of u d)) ∥
          k1 ⇒ TAbbrev (left_type ls d (body_last ls d)) ∥
          k2 ⇒ TRecord (map (resolved_field res) (fields_by ls keep (params_of ls d) (first_of field_line ls d) (body_last ls d))) ∥
          k3 ⇒ TVariant (map (left_ctor res) (ctors_by ls keep (params_of ls d) (first_of ctor_line ls d) (first_of field_line ls d) (body_last ls d))) ∥
          TAbstract)
          ≡ map (λ y. left_type ls d y) (x ⇒ body_of u d ∷ [] ∥ k0 ⇒ [] ∥ k1 ⇒ body_last ls d ∷ [] ∥ kept)
      go true k1 e1 k2 e2 k3 e3 k0 e0 = refl
      go false true e1 k2 e2 k3 e3 true e0 = absurd (omega (arith, eqb-true (body_kind ls d) 1 e1, eqb-true (body_kind ls d) 0 e0))
      go false true e1 k2 e2 k3 e3 false e0 = refl
      go false false e1 true e2 k3 e3 true e0 = absurd (omega (arith, eqb-true (body_kind ls d) 2 e2, eqb-true (body_kind ls d) 0 e0))
      go false false e1 true e2 k3 e3 false e0 =
          fields_resolved res (fields_by ls keep (params_of ls d) (first_of field_line ls d) (body_last ls d))
          ∙ (ap (map res) (sym (one_ctor _) ∙ (ap types_of_ctors (sym (kept_record ls keep d (eqb-true (body_kind ls d) 2 e2))) ∙ types_of_kept ls passed keep d below)) ∙ map_twice (λ y. close (params_of ls d) (type_of ls y)) res kept)
      go false false e1 false e2 true e3 true e0 = absurd (omega (arith, eqb-true (body_kind ls d) 3 e3, eqb-true (body_kind ls d) 0 e0))
      go false false e1 false e2 true e3 false e0 =
          types_resolved res (ctors_by ls keep (params_of ls d) (first_of ctor_line ls d) (first_of field_line ls d) (body_last ls d))
          ∙ (ap (map res) (ap types_of_ctors (sym (kept_variant ls keep d (eqb-true (body_kind ls d) 3 e3))) ∙ types_of_kept ls passed keep d below) ∙ map_twice (λ y. close (params_of ls d) (type_of ls y)) res kept)
      go false false e1 false e2 false e3 true e0 = refl
      go false false e1 false e2 false e3 false e0 =
          absurd (omega (arith, (whole_at ls passed d below).kinds, eqb-false (body_kind ls d) 0 e0, eqb-false (body_kind ls d) 1 e1, eqb-false (body_kind ls d) 2 e2, eqb-false (body_kind ls d) 3 e3))

  -- its lines, by its cells
  pub lines_newtype : state u d ≡ 1 → body_lines (left_body ls u keep d) ≡ 0
  unfolding left_body body_lines
  lines_newtype x = rw x refl

  pub lines_bare : (state u d ≡ 1 → ⊥) → body_kind ls d ≤ 1 → body_lines (left_body ls u keep d) ≡ 0
  unfolding left_body body_lines
  lines_bare x l = rw (ne_eqb (state u d) 1 x, ne_eqb (body_kind ls d) 2 (λ e. omega arith), ne_eqb (body_kind ls d) 3 (λ e. omega arith)) (go (eqb (body_kind ls d) 1))
    where
      go : (k : Bool) → body_lines (pick k (TAbbrev (left_type ls d (body_last ls d))) TAbstract) ≡ 0
      go true = refl
      go false = refl

  pub lines_record : (state u d ≡ 0 → ⊥) → (state u d ≡ 1 → ⊥) → body_kind ls d ≡ 2 → body_lines (left_body ls u keep d) ≡ length (resolves_of ls u keep d)
  unfolding left_body body_lines types_of_body
  lines_record n x e =
      let q = ap length (left_types_are n) ∙ length-map (resolves_of ls u keep d) (λ y. left_type ls d y) in
      rw (ne_eqb (state u d) 1 x, e) (rw (ne_eqb (state u d) 1 x, e) at q)

  pub lines_variant : (state u d ≡ 0 → ⊥) → (state u d ≡ 1 → ⊥) → body_kind ls d ≡ 3 → body_lines (left_body ls u keep d) ≡ body_last ls d + length (resolves_of ls u keep d)
  unfolding left_body body_lines types_of_body
  lines_variant n x e =
      let q = ap length (left_types_are n) ∙ length-map (resolves_of ls u keep d) (λ y. left_type ls d y) in
      let cs : List Ctor = ctors_by ls keep (params_of ls d) (first_of ctor_line ls d) (first_of field_line ls d) (body_last ls d) in
      rw (ne_eqb (state u d) 1 x, e)
      (ap₂ ◌+◌ (length-map cs (left_ctor res) ∙ length_ctors_by ls keep (params_of ls d) (first_of ctor_line ls d) (first_of field_line ls d) (body_last ls d)) (rw (ne_eqb (state u d) 1 x, e) at q))
