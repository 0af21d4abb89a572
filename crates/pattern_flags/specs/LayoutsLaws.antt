-- The constructors of newtypes and of types with one constructor, by the lines and the keep table. Assumes nothing.
use Rattle.std.specs.Prelude.{◌≡◌, ◌&&◌, ◌||◌, ltb}
use Rattle.std.proofs.Math.Path.{refl, ap, sym}
use Rattle.std.proofs.Common.{◌∙◌, subst}
use mathlib.Core.List.{List, [], ◌∷◌, map}
use Rattle.std.proofs.Math.Bool.{Bool, true, false}
use Rattle.std.proofs.Math.Option.{Option, none, some}
use Prim.Native.Nat.{ℕ, zero, suc, ◌+◌, ◌-◌, ◌<◌}
use native.Mathlib.Omega.{arith}
use Rattle.std.proofs.Math.Dec.{eqb}
use Rattle.std.proofs.Math.ListN.{length, get_or}
use borrow.Author.Tests.{eqb-true, eqb-false, eq-eqb, ne_eqb, ltb-true, ltb-false, lt-ltb, le-ltb}
use Rattle.number_columns.specs.Column.{pick, ◌⇒◌∥◌}
use Rattle.sheet.specs.Line.{Line}
use Rattle.sheet.proofs.ListLaws.{Every, at_every, false_true}
use Rattle.model.specs.Cty.{uninline}
use Rattle.model.specs.Decl.{Field, Ctor, Body, TAbstract, TAbbrev, TRecord, TVariant, CtorLayout, NewtypeLayout, Layout, L_erased, L_newtype, L_struct, L_abbrev, L_opaque, TypeInfo, here, dtype_at, origin_at, close_fields}
use Rattle.model.specs.Erasure.{marked, erasure_fixpoint}
use Rattle.model.specs.Layout.{first_kept, newtype_of_ctor, newtype_of, passes_of, dropped, collapse, ctor_layouts}
use Rattle.model.specs.Run.{run, layouts_of, layout_of_decl}
use Rattle.model_laws.specs.Layout.{get_or_layouts, get_or_candidates}
use Rattle.model_laws.specs.Run.{get_or_infos, length_infos, import_layout}
use Rattle.model_patterns.specs.Pat.{named, names_one, Owner, ctor_owner}
use Rattle.model_patterns.proofs.Laws.Owners.{Named, owner_has}
use Rattle.meaning.specs.Program.{ctor_line, field_line, import_line, is, trees, dtype_of, abbreviated, layout_by, info_of, verdict_of, program}
use Rattle.meaning_laws.specs.Program.{Suits, layout_coherent, length_program}
use Rattle.table_declared.specs.Passed.{Passed}
use Rattle.table_declared.specs.DeclLaws.{origin_local, origin_import, whole_at}
use Rattle.table_access.specs.Tables.{group, head_line, decls_of, first_of}
use Rattle.resolve_kids.specs.Params.{params_of}
use Rattle.keep_fields.specs.Keeps.{Slotted}
use Rattle.keep_layouts.specs.Kept.{ctors_of_decl, ctors_at, kept_ctor, body_kind, body_last, field_at, ctor_fields, fields_by, ctors_by}
use Rattle.keep_laws.specs.KeptLaws.{fields_in, kept_record, kept_variant, ctors_are, count_bare, count_variant, total_record, total_variant}
use Rattle.collapse_newtypes.specs.Newtypes.{one_ctor}
use Rattle.pattern_ctors.specs.Owners.{untagged, untagged_owner, slots_by}
use Rattle.pattern_ctors.specs.OwnersLaws.{verdict_at}
use Rattle.pattern_records.specs.Records.{keeps_name, names_kept}

-- ---- newtypes
pub none_some : {A : Type 0} {P : Type 0} {x : A} → none ≡ some x → P
none_some e = let z : ◌≡◌ {A = ℕ} 0 1 = cc in absurd (omega arith)

collapsed : (c : Option NewtypeLayout) (cls : List CtorLayout) (nt : NewtypeLayout) → collapse false c cls ≡ L_newtype nt → c ≡ some nt
unfolding collapse
collapsed none cls nt e = let z : ◌≡◌ {A = ℕ} 0 1 = cc in absurd (omega arith)
collapsed (some x) cls nt e = cc

abbreviated_not : (b : Body) (nt : NewtypeLayout) → abbreviated b ≡ L_newtype nt → ⊥
abbreviated_not TAbstract nt e = let z : ◌≡◌ {A = ℕ} 0 1 = cc in omega arith
abbreviated_not (TAbbrev c) nt e = let z : ◌≡◌ {A = ℕ} 0 1 = cc in omega arith
abbreviated_not (TRecord fs) nt e = let z : ◌≡◌ {A = ℕ} 0 1 = cc in omega arith
abbreviated_not (TVariant cs) nt e = let z : ◌≡◌ {A = ℕ} 0 1 = cc in omega arith

newtype_by : (n : ℕ) (b : Body) (cls : List CtorLayout) (nt : NewtypeLayout) → layout_by n b cls ≡ L_newtype nt → newtype_of cls ≡ some nt
unfolding layout_by
newtype_by n b cls nt e = go (eqb n 0) (eqb n 1) (eqb n 2) (eqb n 3) e
  where
    go : (x y z v : Bool) → (x ⇒ L_erased ∥ y ⇒ collapse false (newtype_of cls) cls ∥ z ⇒ L_struct cls ∥ v ⇒ abbreviated b ∥ L_opaque) ≡ L_newtype nt → newtype_of cls ≡ some nt
    go true y z v e = let q : ◌≡◌ {A = ℕ} 0 1 = cc in absurd (omega arith)
    go false true z v e = collapsed (newtype_of cls) cls nt e
    go false false true v e = let q : ◌≡◌ {A = ℕ} 0 1 = cc in absurd (omega arith)
    go false false false true e = absurd (abbreviated_not b nt e)
    go false false false false e = let q : ◌≡◌ {A = ℕ} 0 1 = cc in absurd (omega arith)

module _ (ls : List Line) (d : ℕ) (h : d < decls_of ls) where
  below : d < length (program ls)
  below = rw (length_program ls) h

  suits_here : origin_at (program ls) d ≡ here
      → Suits (dtype_at (program ls) d).dt_body (ctor_layouts (marked (program ls) (erasure_fixpoint (program ls)).marks) (dtype_at (program ls) d)) (layout_of_decl (program ls) d)
  unfolding layouts_of
  suits_here o =
      let s : List Bool = (erasure_fixpoint (program ls)).marks in
      rw (get_or_layouts (program ls) s d L_opaque below, get_or_candidates (program ls) (marked (program ls) s) s d none below, o)
      (layout_coherent (dtype_at (program ls) d) (get_or s d false) (dropped (program ls) (passes_of (program ls) s) d) (ctor_layouts (marked (program ls) s) (dtype_at (program ls) d))).0

  -- A declaration that is a newtype has the constructor and the field that make it one.
  pub newtype_made : (nt : NewtypeLayout) → layout_of_decl (program ls) d ≡ L_newtype nt → newtype_of (ctors_at (program ls) d) ≡ some nt
  unfolding ctors_of_decl info_of
  newtype_made nt e = go (is import_line (head_line ls d)) refl
    where
      go : (c : Bool) → is import_line (head_line ls d) ≡ c → newtype_of (ctors_at (program ls) d) ≡ some nt
      go true i =
          let o = origin_import ls d h i in
          rw o (newtype_by _ _ _ nt (sym (import_layout (program ls) d (info_of (close_fields (dtype_of (trees ls) (group ls d))) (group ls d).rest (verdict_of (group ls d).rest)) below o) ∙ e))
      go false i = let o = origin_local ls d h i in rw o (rw e at (suits_here o))

-- of a newtype's constructor: its only kept field makes the newtype
abbrev pub Only : Layout → CtorLayout → Type 0
Only L_erased cl = Unit {0}
Only (L_newtype nt) cl = newtype_of_ctor cl.cl_name cl.cl_slots cl.cl_fields ≡ some nt
Only (L_struct cls) cl = Unit {0}
Only (L_abbrev c) cl = Unit {0}
Only L_opaque cl = Unit {0}

every_only : (n : ℕ) (l : Layout) (cls : List CtorLayout) → ((nt : NewtypeLayout) → l ≡ L_newtype nt → newtype_of cls ≡ some nt) → Every (Named n Only l) cls
unfolding newtype_of
every_only n (L_newtype nt) [] h = tt
every_only n (L_newtype nt) (cl ∷ []) h = ((λ e. h nt refl), tt)
every_only n (L_newtype nt) (cl ∷ cm ∷ cls) h = none_some (h nt refl)
every_only n L_erased [] h = tt
every_only n L_erased (cl ∷ cls) h = ((λ e. tt), every_only n L_erased cls (λ nt e. let z : ◌≡◌ {A = ℕ} 0 1 = cc in absurd (omega arith)))
every_only n (L_struct ms) [] h = tt
every_only n (L_struct ms) (cl ∷ cls) h = ((λ e. tt), every_only n (L_struct ms) cls (λ nt e. let z : ◌≡◌ {A = ℕ} 0 1 = cc in absurd (omega arith)))
every_only n (L_abbrev c) [] h = tt
every_only n (L_abbrev c) (cl ∷ cls) h = ((λ e. tt), every_only n (L_abbrev c) cls (λ nt e. let z : ◌≡◌ {A = ℕ} 0 1 = cc in absurd (omega arith)))
every_only n L_opaque [] h = tt
every_only n L_opaque (cl ∷ cls) h = ((λ e. tt), every_only n L_opaque cls (λ nt e. let z : ◌≡◌ {A = ℕ} 0 1 = cc in absurd (omega arith)))

-- what a newtype says of it
pub record OneKept (bs : List Bool) (fs : List Field) (nt : NewtypeLayout) : Type 0 where
  pub field : Field
  pub only : fs ≡ field ∷ []
  pub index : nt.nt_index ≡ first_kept bs
  pub name : nt.nt_field ≡ field.fd_name

pub one_kept : (n : ℕ) (bs : List Bool) (fs : List Field) (nt : NewtypeLayout) → newtype_of_ctor n bs fs ≡ some nt → OneKept bs fs nt
unfolding newtype_of_ctor
one_kept n bs [] nt e = none_some e
one_kept n bs (f ∷ []) nt e =
    let q : nt ≡ record { nt_ctor = n; nt_field = f.fd_name; nt_index = first_kept bs; nt_ty = uninline f.fd_type } = cc in
    record { field = f; only = refl; index = ap (λ (x : NewtypeLayout). x.nt_index) q; name = ap (λ (x : NewtypeLayout). x.nt_field) q }
one_kept n bs (f ∷ g ∷ fs) nt e = none_some e

owner_only : (ls : List Line) (fuel n : ℕ) (o : Owner) → ctor_owner (run fuel (program ls)).infos n ≡ some o → Only o.layout o.ctor_layout
owner_only ls fuel n =
    owner_has n Only (run fuel (program ls)).infos
    (at_every (λ ti. Every (Named n Only ti.ti_layout) ti.ti_ctors) no_info (run fuel (program ls)).infos (λ i l. at i (rw (length_infos fuel (program ls), length_program ls) at l)))
  where
    no_info : TypeInfo
    no_info = record { ti_erased = false; ti_layout = L_opaque; ti_ctors = []; ti_record = false }

    at : (i : ℕ) → i < decls_of ls → Every (Named n Only (get_or (run fuel (program ls)).infos i no_info).ti_layout) (get_or (run fuel (program ls)).infos i no_info).ti_ctors
    at i h =
        let v = verdict_at ls fuel i h in
        rw (get_or_infos fuel (program ls) i no_info (rw (length_program ls) h), v.0, v.1) (every_only n (layout_of_decl (program ls) i) (ctors_at (program ls) i) (newtype_made ls i h))

only_untagged : (l : Layout) (cl : CtorLayout) → Only l cl → Only l (untagged cl)
only_untagged L_erased cl h = h
only_untagged (L_newtype nt) cl h = h
only_untagged (L_struct cls) cl h = h
only_untagged (L_abbrev c) cl h = h
only_untagged L_opaque cl h = h

pub untagged_only : (ls : List Line) (fuel n : ℕ) (o : Owner) → untagged_owner (ctor_owner (run fuel (program ls)).infos n) ≡ some o → Only o.layout o.ctor_layout
untagged_only ls fuel n o e = go (ctor_owner (run fuel (program ls)).infos n) refl e
  where
    go : (x : Option Owner) → ctor_owner (run fuel (program ls)).infos n ≡ x → untagged_owner x ≡ some o → Only o.layout o.ctor_layout
    go none q z = let y : ◌≡◌ {A = ℕ} 0 1 = cc in absurd (omega arith)
    go (some x) q z =
        let y : record { layout = x.layout; ctor_layout = untagged x.ctor_layout } ≡ o = cc in
        subst (λ (w : Owner). Only w.layout w.ctor_layout) y (only_untagged x.layout x.ctor_layout (owner_only ls fuel n x q))

-- ---- the kept fields by the keep table
eqb_suc : (a c : ℕ) → eqb (suc a) (suc c) ≡ eqb a c
eqb_suc a c = go (eqb a c) refl
  where
    go : (x : Bool) → eqb a c ≡ x → eqb (suc a) (suc c) ≡ x
    go true e = eq-eqb (suc a) (suc c) (ap suc (eqb-true a c e))
    go false e = ne_eqb (suc a) (suc c) (λ z. eqb-false a c e (omega arith))

module _ (ls : List Line) (keep ps : List ℕ) where
  -- the names of kept fields
  pub names_by : (f n x : ℕ) → names_one (fields_by ls keep ps f n) x ≡ names_kept ls keep f n x
  unfolding names_one named fields_by field_at names_kept keeps_name
  names_by f zero x = refl
  names_by f (suc n) x = go (eqb (get_or keep f 0) 1) (names_by (suc f) n x)
    where
      go : (b : Bool) → names_one (fields_by ls keep ps (suc f) n) x ≡ names_kept ls keep (suc f) n x
          → names_one (pick b (field_at ls ps f ∷ fields_by ls keep ps (suc f) n) (fields_by ls keep ps (suc f) n)) x
          ≡ ((b && eqb x (suc (field_at ls ps f).fd_name)) || names_kept ls keep (suc f) n x)
      go true e = ap (λ (r : Bool). eqb x (suc (field_at ls ps f).fd_name) || r) e
      go false e = e

  -- no field is kept: no slot is
  slots_none : (f n p : ℕ) → length (fields_by ls keep ps f n) ≡ 0 → get_or (slots_by keep f n) p false ≡ false
  unfolding fields_by slots_by
  slots_none f zero p e = refl
  slots_none f (suc n) p e = go (eqb (get_or keep f 0) 1) p e (slots_none (suc f) n)
    where
      go : (b : Bool) (p : ℕ) → length (pick b (field_at ls ps f ∷ fields_by ls keep ps (suc f) n) (fields_by ls keep ps (suc f) n)) ≡ 0
          → ((p : ℕ) → length (fields_by ls keep ps (suc f) n) ≡ 0 → get_or (slots_by keep (suc f) n) p false ≡ false) → get_or (b ∷ slots_by keep (suc f) n) p false ≡ false
      go true p e r = absurd (omega arith)
      go false zero e r = refl
      go false (suc p) e r = r p e

  -- where one field is kept, its slot is the first that is kept, and the only one
  pub slot_index : (f n p : ℕ) → length (fields_by ls keep ps f n) ≡ 1 → eqb p (first_kept (slots_by keep f n)) ≡ get_or (slots_by keep f n) p false
  unfolding fields_by slots_by first_kept
  slot_index f zero p e = absurd (omega arith)
  slot_index f (suc n) p e = go (eqb (get_or keep f 0) 1) p e (slot_index (suc f) n)
    where
      go : (b : Bool) (p : ℕ) → length (pick b (field_at ls ps f ∷ fields_by ls keep ps (suc f) n) (fields_by ls keep ps (suc f) n)) ≡ 1
          → ((p : ℕ) → length (fields_by ls keep ps (suc f) n) ≡ 1 → eqb p (first_kept (slots_by keep (suc f) n)) ≡ get_or (slots_by keep (suc f) n) p false)
          → eqb p (first_kept (b ∷ slots_by keep (suc f) n)) ≡ get_or (b ∷ slots_by keep (suc f) n) p false
      go true zero e r = refl
      go true (suc p) e r = ne_eqb (suc p) 0 (λ z. omega arith) ∙ sym (slots_none (suc f) n p (omega arith))
      go false zero e r = ne_eqb 0 (suc (first_kept (slots_by keep (suc f) n))) (λ z. omega arith)
      go false (suc p) e r = eqb_suc p (first_kept (slots_by keep (suc f) n)) ∙ r p e

-- a slot, and what stands for those past the last
pub slot_at : (keep : List ℕ) (f n p : ℕ) (b : Bool) → get_or (slots_by keep f n) p b ≡ (ltb p n ⇒ eqb (get_or keep (f + p) 0) 1 ∥ b)
unfolding slots_by
slot_at keep f zero p b = rw (le-ltb p 0 (omega arith))
slot_at keep f (suc n) zero b = let e : f + 0 ≡ f = omega arith in rw (lt-ltb 0 (suc n) (omega arith), e)
slot_at keep f (suc n) (suc p) b = let e : f + suc p ≡ suc f + p = omega arith in rw e (slot_at keep (suc f) n p b ∙ ap (λ (x : Bool). x ⇒ eqb (get_or keep (suc f + p) 0) 1 ∥ b) (same p n))
  where
    same : (a c : ℕ) → ltb a c ≡ ltb (suc a) (suc c)
    same a c = go (ltb a c) refl
      where
        go : (x : Bool) → ltb a c ≡ x → x ≡ ltb (suc a) (suc c)
        go true e = sym (lt-ltb (suc a) (suc c) (omega (arith, ltb-true a c e)))
        go false e = sym (le-ltb (suc a) (suc c) (omega (arith, ltb-false a c e)))

-- ---- a declaration of one constructor
-- its constructor, with the kept ones of all its F lines
pub record One (ls : List Line) (keep : List ℕ) (d : ℕ) : Type 0 where
  pub ctor : CtorLayout
  pub only : ctors_at (program ls) d ≡ ctor ∷ []
  pub fields : ctor.cl_fields ≡ fields_by ls keep (params_of ls d) (first_of field_line ls d) (first_of field_line ls (suc d) - first_of field_line ls d)

module _ (ls : List Line) (p : Passed ls) (keep : List ℕ) (k : Slotted ls keep) (d : ℕ) (h : d < decls_of ls) where
  one_by : (cls : List CtorLayout) (c : Ctor) → ctors_at (program ls) d ≡ cls → map kept_ctor cls ≡ c ∷ []
      → c.ct_fields ≡ fields_by ls keep (params_of ls d) (first_of field_line ls d) (first_of field_line ls (suc d) - first_of field_line ls d) → One ls keep d
  one_by [] c q e f = absurd (omega (arith, ap length e))
  one_by (cl ∷ []) c q e f = let a : kept_ctor cl ≡ c = cc in record { ctor = cl; only = q; fields = ap (λ (x : Ctor). x.ct_fields) a ∙ f }
  one_by (cl ∷ cm ∷ cls) c q e f = absurd (omega (arith, ap length e))

  pub one_is : one_ctor ls d ≡ true → One ls keep d
  unfolding one_ctor ctors_by fields_in
  one_is o = go (eqb (body_kind ls d) 2) (eqb (body_kind ls d) 3) refl refl o
    where
      go : (x y : Bool) → eqb (body_kind ls d) 2 ≡ x → eqb (body_kind ls d) 3 ≡ y → (x ⇒ true ∥ y ⇒ eqb (body_last ls d) 1 ∥ false) ≡ true → One ls keep d
      go true y a c o =
          let e = eqb-true (body_kind ls d) 2 a in
          let n : body_last ls d ≡ first_of field_line ls (suc d) - first_of field_line ls d = omega (arith, total_record ls p d h e) in
          one_by (ctors_at (program ls) d) _ refl (ctors_are ls p keep k d h ∙ kept_record ls keep d e) (ap (fields_by ls keep (params_of ls d) (first_of field_line ls d)) n)
      go false true a c o =
          let e = eqb-true (body_kind ls d) 3 c in
          let l : body_last ls d ≡ 1 = eqb-true (body_last ls d) 1 o in
          let t : first_of field_line ls (suc d) ≡ first_of field_line ls d + fields_in ls (first_of ctor_line ls d) 1 = total_variant ls p d h e ∙ ap (λ (m : ℕ). first_of field_line ls d + fields_in ls (first_of ctor_line ls d) m) l in
          let n : ctor_fields ls (first_of ctor_line ls d) ≡ first_of field_line ls (suc d) - first_of field_line ls d = omega arith in
          one_by (ctors_at (program ls) d) _ refl
          (ctors_are ls p keep k d h ∙ kept_variant ls keep d e ∙ ap (ctors_by ls keep (params_of ls d) (first_of ctor_line ls d) (first_of field_line ls d)) l)
          (ap (fields_by ls keep (params_of ls d) (first_of field_line ls d)) n)
      go false false a c o = false_true o

  pub one_not : one_ctor ls d ≡ false → length (ctors_at (program ls) d) ≡ 1 → ⊥
  unfolding one_ctor
  one_not o l = go (eqb (body_kind ls d) 2) (eqb (body_kind ls d) 3) refl refl o
    where
      go : (x y : Bool) → eqb (body_kind ls d) 2 ≡ x → eqb (body_kind ls d) 3 ≡ y → (x ⇒ true ∥ y ⇒ eqb (body_last ls d) 1 ∥ false) ≡ false → ⊥
      go true y a c o = false_true (sym o)
      go false true a c o = eqb-false (body_last ls d) 1 o (sym (count_variant ls p keep k d h (eqb-true (body_kind ls d) 3 c)) ∙ l)
      go false false a c o =
          let i = eqb-false (body_kind ls d) 2 a in
          let j = eqb-false (body_kind ls d) 3 c in
          omega (arith, l, count_bare ls p keep k d h (omega (arith, (whole_at ls p d h).kinds)))
