-- What is resolved of a declaration, by its cells and lines. Assumes nothing.
use Rattle.std.specs.Prelude.{◌≡◌, Bool, get_or}
use Rattle.std.proofs.Math.Path.{refl, ap, ap₂, sym}
use Rattle.std.proofs.Common.{◌∙◌, add-one}
use mathlib.Core.List.{List, [], ◌∷◌, ◌++◌, map, map-append, append-nil, Memᴰ}
use Rattle.std.proofs.Math.Bool.{true, false}
use Prim.Native.Nat.{ℕ, zero, suc, ◌+◌, ◌-◌, ◌≤◌, ◌<◌}
use native.Mathlib.Omega.{arith}
use Rattle.std.proofs.Math.Dec.{eqb}
use borrow.Author.Tests.{eqb-true, eqb-false, ne_eqb}
use Rattle.number_columns.specs.Column.{pick, ◌⇒◌∥◌}
use Rattle.sheet.specs.Line.{Line}
use Rattle.sheet.proofs.ListLaws.{Every, every_mem}
use Rattle.model.specs.Cty.{Cty}
use Rattle.model.specs.Decl.{Field, CtorLayout, close, Layout, L_erased, L_newtype, L_struct, L_abbrev, L_opaque}
use Rattle.model.specs.Run.{field_types, resolves, layout_of_decl}
use Rattle.meaning.specs.Program.{type_line, ctor_line, field_line, program}
use Rattle.meaning.specs.Rows.{count_of}
use Rattle.meaning_laws.specs.Output.{types_of_fields, types_of_ctors}
use Rattle.table_declared.specs.Passed.{Passed}
use Rattle.table_access.specs.Tables.{decls_of, first_of}
use Rattle.table_declared.specs.DeclLaws.{whole_at}
use Rattle.resolve_kids.specs.Nodes.{type_of}
use Rattle.resolve_kids.specs.Params.{params_of}
use Rattle.erasure_laws.specs.BodiesLaws.{first_le, last_types}
use Rattle.keep_fields.specs.Keeps.{Slotted}
use Rattle.keep_layouts.specs.Kept.{ctors_at, kept_ctor, body_kind, body_last, field_type, field_at, ctor_fields, fields_by, ctors_by, ctors_kept}
use Rattle.keep_laws.specs.KeptLaws.{fields_in, kept_bare, kept_record, kept_variant, ctors_are, total_bare, total_record, total_variant}
use Rattle.keep_layouts.specs.States.{state, body_of, Shape, kept_types, resolves_of, Settled}
use Rattle.erasure_laws.specs.BodiesLaws as bodies

-- ---- the types of kept fields
module _ (ls : List Line) (keep : List ℕ) where
  kept_types_add : (f n m : ℕ) → kept_types ls keep f (n + m) ≡ kept_types ls keep f n ++ kept_types ls keep (f + n) m
  unfolding kept_types
  kept_types_add f zero m =
      let e : 0 + m ≡ m = omega arith in
      let z : f + 0 ≡ f = omega arith in
      rw (e, z)
  kept_types_add f (suc n) m =
      let e : suc n + m ≡ suc (n + m) = omega arith in
      let z : f + suc n ≡ suc f + n = omega arith in
      rw (e, z, kept_types_add (suc f) n m) (go (eqb (get_or keep f 0) 1))
    where
      go : (x : Bool) → pick x (field_type ls f ∷ (kept_types ls keep (suc f) n ++ kept_types ls keep (suc f + n) m)) (kept_types ls keep (suc f) n ++ kept_types ls keep (suc f + n) m) ≡ pick x (field_type ls f ∷ kept_types ls keep (suc f) n) (kept_types ls keep (suc f) n) ++ kept_types ls keep (suc f + n) m
      go true = refl
      go false = refl

  module _ (ps : List ℕ) where
    -- a Y line's type, closed
    closed_type : ℕ → Cty
    closed_type y = close ps (type_of ls y)

    types_of_line : (f n : ℕ) → types_of_fields (fields_by ls keep ps f n) ≡ map closed_type (kept_types ls keep f n)
    unfolding types_of_fields fields_by kept_types field_at closed_type
    types_of_line f zero = refl
    types_of_line f (suc n) = go (eqb (get_or keep f 0) 1) (types_of_line (suc f) n)
      where
        go : (x : Bool) → types_of_fields (fields_by ls keep ps (suc f) n) ≡ map closed_type (kept_types ls keep (suc f) n)
            → types_of_fields (pick x (field_at ls ps f ∷ fields_by ls keep ps (suc f) n) (fields_by ls keep ps (suc f) n)) ≡ map closed_type (pick x (field_type ls f ∷ kept_types ls keep (suc f) n) (kept_types ls keep (suc f) n))
        go true e = ap (λ (r : List Cty). close ps (type_of ls (field_type ls f)) ∷ r) e
        go false e = e

    types_of_lines : (c f k : ℕ) → types_of_ctors (ctors_by ls keep ps c f k) ≡ map closed_type (kept_types ls keep f (fields_in ls c k))
    unfolding types_of_ctors ctors_by fields_in kept_types
    types_of_lines c f zero = refl
    types_of_lines c f (suc k) =
        ap₂ ◌++◌ (types_of_line f (ctor_fields ls c)) (types_of_lines (suc c) (f + ctor_fields ls c) k)
        ∙ sym (map-append closed_type (kept_types ls keep f (ctor_fields ls c)) (kept_types ls keep (f + ctor_fields ls c) (fields_in ls (suc c) k)))
        ∙ ap (map closed_type) (sym (kept_types_add f (ctor_fields ls c) (fields_in ls (suc c) k)))

-- the types of constructors with their kept fields
types_of_layouts : (cls : List CtorLayout) → field_types cls ≡ types_of_ctors (map kept_ctor cls)
unfolding field_types types_of_ctors types_of_fields
types_of_layouts [] = refl
types_of_layouts (cl ∷ cls) = go (types_of_layouts cls) cl.cl_fields
  where
    go : field_types cls ≡ types_of_ctors (map kept_ctor cls) → (fs : List Field)
        → field_types (record { cl_name = cl.cl_name; cl_tag = cl.cl_tag; cl_slots = cl.cl_slots; cl_fields = fs } ∷ cls) ≡ types_of_fields fs ++ types_of_ctors (map kept_ctor cls)
    go e [] = e
    go e (f ∷ fs) = ap (λ (r : List Cty). f.fd_type ∷ r) (go e fs)

-- ---- a declaration
module _ (ls : List Line) (p : Passed ls) (keep : List ℕ) (d : ℕ) (h : d < decls_of ls) where
  -- the types of the fields that it keeps are those of its F lines that are kept
  pub types_of_kept : types_of_ctors (ctors_kept ls keep d)
      ≡ map (λ y. close (params_of ls d) (type_of ls y)) (kept_types ls keep (first_of field_line ls d) (first_of field_line ls (d + 1) - first_of field_line ls d))
  unfolding closed_type types_of_ctors kept_types
  types_of_kept = go (eqb (body_kind ls d) 2) refl (eqb (body_kind ls d) 3) refl
    where
      next : first_of field_line ls (d + 1) ≡ first_of field_line ls (suc d)
      next = ap (first_of field_line ls) (add-one d)

      go : (x : Bool) → eqb (body_kind ls d) 2 ≡ x → (y : Bool) → eqb (body_kind ls d) 3 ≡ y
          → types_of_ctors (ctors_kept ls keep d) ≡ map (λ y. close (params_of ls d) (type_of ls y)) (kept_types ls keep (first_of field_line ls d) (first_of field_line ls (d + 1) - first_of field_line ls d))
      go true u y v =
          let e : body_kind ls d ≡ 2 = eqb-true (body_kind ls d) 2 u in
          let n : first_of field_line ls (d + 1) - first_of field_line ls d ≡ body_last ls d = omega (arith, next, total_record ls p d h e) in
          rw (kept_record ls keep d e, n) (append-nil _ ∙ types_of_line ls keep (params_of ls d) (first_of field_line ls d) (body_last ls d))
      go false u true v =
          let e : body_kind ls d ≡ 3 = eqb-true (body_kind ls d) 3 v in
          let n : first_of field_line ls (d + 1) - first_of field_line ls d ≡ fields_in ls (first_of ctor_line ls d) (body_last ls d) = omega (arith, next, total_variant ls p d h e) in
          rw (kept_variant ls keep d e, n) (types_of_lines ls keep (params_of ls d) (first_of ctor_line ls d) (first_of field_line ls d) (body_last ls d))
      go false u false v =
          let i = eqb-false (body_kind ls d) 2 u in
          let j = eqb-false (body_kind ls d) 3 v in
          let e : body_kind ls d ≤ 1 = omega (arith, (whole_at ls p d h).kinds) in
          let n : first_of field_line ls (d + 1) - first_of field_line ls d ≡ 0 = omega (arith, next, total_bare ls p d h e) in
          rw (kept_bare ls keep d e, n)

module _ (ls : List Line) (p : Passed ls) (u keep : List ℕ) where
  -- What is resolved of a declaration is what its cells and lines say.
  pub resolves_are : Slotted ls keep → Settled ls u → (d : ℕ) → d < decls_of ls
      → map (λ y. close (params_of ls d) (type_of ls y)) (resolves_of ls u keep d) ≡ resolves (layout_of_decl (program ls) d)
  unfolding resolves_of resolves
  resolves_are k s d h = go (layout_of_decl (program ls) d) (s.shapes d h)
    where
      go : (l : Layout) → Shape ls u d l → map (λ y. close (params_of ls d) (type_of ls y)) (resolves_of ls u keep d) ≡ resolves l
      go L_erased e = rw e
      go (L_newtype nt) e = rw (e.0, e.1)
      go (L_struct cls) e =
          rw (e.0, ne_eqb (body_kind ls d) 0 (λ z. omega arith), ne_eqb (body_kind ls d) 1 (λ z. omega arith), e.3)
          (sym (types_of_kept ls p keep d h) ∙ ap types_of_ctors (sym (ctors_are ls p keep k d h)) ∙ sym (types_of_layouts (ctors_at (program ls) d)))
      go (L_abbrev c) e = rw (ne_eqb (state u d) 0 (λ z. omega arith), ne_eqb (state u d) 1 (λ z. omega arith), e.2, e.4)
      go L_opaque e = rw (e.0, e.1)

  -- its Y lines
  types_below : (f n : ℕ) → f + n ≤ count_of field_line ls → Every (λ y. y < count_of type_line ls) (kept_types ls keep f n)
  unfolding kept_types
  types_below f zero h = tt
  types_below f (suc n) h = go (eqb (get_or keep f 0) 1) (types_below (suc f) n (omega arith))
    where
      go : (x : Bool) → Every (λ y. y < count_of type_line ls) (kept_types ls keep (suc f) n) → Every (λ y. y < count_of type_line ls) (pick x (field_type ls f ∷ kept_types ls keep (suc f) n) (kept_types ls keep (suc f) n))
      go true r = (bodies.field_types ls p f (omega arith), r)
      go false r = r

  all_below : Settled ls u → (d : ℕ) → d < decls_of ls → Every (λ y. y < count_of type_line ls) (resolves_of ls u keep d)
  unfolding resolves_of
  all_below s d h = go (eqb (state u d) 0) (eqb (state u d) 1) (eqb (body_kind ls d) 0) (eqb (body_kind ls d) 1) refl refl
    where
      go : (x y z v : Bool) → eqb (state u d) 1 ≡ y → eqb (body_kind ls d) 1 ≡ v
          → Every (λ y. y < count_of type_line ls) (
          x ⇒ [] ∥
          y ⇒ body_of u d ∷ [] ∥
          z ⇒ [] ∥
          v ⇒ body_last ls d ∷ [] ∥
          kept_types ls keep (first_of field_line ls d) (first_of field_line ls (d + 1) - first_of field_line ls d))
      go true y z v i j = tt
      go false true z v i j = let e : state u d ≡ 1 = eqb-true (state u d) 1 i in (s.bodies d h (omega arith, omega arith), tt)
      go false false true v i j = tt
      go false false false true i j = (last_types ls p d h (eqb-true (body_kind ls d) 1 j), tt)
      go false false false false i j =
          types_below (first_of field_line ls d) (first_of field_line ls (d + 1) - first_of field_line ls d)
          (omega (arith, first_le field_line ls d, first_le field_line ls (d + 1)))

  -- each is a Y line
  pub resolves_below : Settled ls u → (d : ℕ) → d < decls_of ls → (y : ℕ) → Memᴰ y (resolves_of ls u keep d) → y < count_of type_line ls
  resolves_below s d h y m = every_mem (λ x. x < count_of type_line ls) (resolves_of ls u keep d) (all_below s d h) y m
