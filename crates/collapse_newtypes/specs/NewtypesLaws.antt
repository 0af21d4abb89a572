-- A declaration's only kept field is that of its newtype. Assumes nothing.
use Rattle.std.specs.Prelude.{◌⊎◌, get_or, Option, Some, None}
use Rattle.std.proofs.Math.Logic.{inl, inr, ⊎_elim}
use Rattle.std.proofs.Math.Path.{◌≡◌, refl, ap}
use Rattle.std.proofs.Common.{sym, ◌∙◌, add-one}
use mathlib.Core.List.{List, [], ◌∷◌, map, append-nil}
use Rattle.std.proofs.Math.Bool.{Bool, true, false}
use Rattle.std.proofs.Math.Option.{none}
use Prim.Native.Nat.{ℕ, zero, suc, ◌+◌, ◌-◌, ◌≤◌, ◌<◌}
use native.Mathlib.Omega.{arith}
use Rattle.std.proofs.Math.Dec.{eqb}
use Rattle.std.proofs.Math.ListN.{length}
use borrow.Author.Tests.{eqb-true, eqb-false, ne_eqb}
use Rattle.number_columns.specs.Column.{pick, ◌⇒◌∥◌}
use Rattle.sheet.specs.Line.{Line, number}
use Rattle.sheet.proofs.ListLaws.{false_true}
use Rattle.model.specs.Decl.{Ctor, CtorLayout, bit}
use Rattle.model.specs.Layout.{first_kept, newtype_of_ctor, newtype_of}
use Rattle.meaning.specs.Output.{all_slots}
use Rattle.meaning.specs.Program.{ctor_line, field_line, Group, program}
use Rattle.meaning.specs.Rows.{nth_line, count_of}
use Rattle.row4_limits.specs.Limits.{start}
use Rattle.row6_distinct.specs.Ways.{Declared, Constructors, takes}
use Rattle.row6_distinct.specs.WaysLaws.{named_below}
use Rattle.table_declared.specs.Passed.{Passed}
use Rattle.table_declared.specs.PassedLaws.{names_few}
use Rattle.table_access.specs.Tables.{head_line, decls_of, first_of}
use Rattle.table_declared.specs.DeclLaws.{first_next, group_is, line_inside, line_of_head, whole_at}
use Rattle.table_declared.specs.LineLaws.{stands, good_line}
use Rattle.resolve_kids.specs.Params.{params_of}
use Rattle.erasure_laws.specs.BodiesLaws.{first_le}
use Rattle.keep_fields.specs.Keeps.{slots_at, Slotted}
use Rattle.keep_layouts.specs.Kept.{ctors_at, kept_ctor, body_kind, body_last, field_at, ctor_name, ctor_fields, fields_by, ctors_by, ctors_kept}
use Rattle.keep_laws.specs.KeptLaws.{fields_in, slots_are, kept_record, kept_variant, ctors_are, count_bare, count_variant, total_record, total_variant}
use Rattle.keep_layouts.specs.Layouts.{newtype_told}
use Rattle.collapse_newtypes.specs.Newtypes.{one_ctor, ctor_told, only_told, kept_places, only, Next}
use Rattle.model.specs.Decl as decl

-- ---- kept places
module _ (keep : List ℕ) where
  pub places_none : (f end : ℕ) → end ≤ f → kept_places keep f (end - f) ≡ []
  unfolding kept_places
  places_none f end h = let e : end - f ≡ 0 = omega arith in rw e

  places_more : (f end : ℕ) → f < end → kept_places keep f (end - f) ≡ pick (eqb (get_or keep f 0) 1) (f ∷ kept_places keep (suc f) (end - suc f)) (kept_places keep (suc f) (end - suc f))
  unfolding kept_places
  places_more f end h = let e : end - f ≡ suc (end - suc f) = omega arith in rw e

  pub places_kept : (f end : ℕ) → f < end → get_or keep f 0 ≡ 1 → kept_places keep f (end - f) ≡ f ∷ kept_places keep (f + 1) (end - (f + 1))
  places_kept f end h e = places_more f end h ∙ rw (e, add-one f)

  pub places_passed : (f end : ℕ) → f < end → (get_or keep f 0 ≡ 1 → ⊥) → kept_places keep f (end - f) ≡ kept_places keep (f + 1) (end - (f + 1))
  places_passed f end h n = places_more f end h ∙ rw (ne_eqb (get_or keep f 0) 1 n, add-one f)

  -- they stand between
  pub places_between : (f n g : ℕ) (r : List ℕ) → kept_places keep f n ≡ g ∷ r → (f ≤ g) × (g < f + n)
  unfolding kept_places
  places_between f zero g r e = absurd (omega (arith, ap length e))
  places_between f (suc n) g r e = go (eqb (get_or keep f 0) 1) (places_between (suc f) n g r) e
    where
      go : (x : Bool) → (kept_places keep (suc f) n ≡ g ∷ r → (suc f ≤ g) × (g < suc f + n)) → pick x (f ∷ kept_places keep (suc f) n) (kept_places keep (suc f) n) ≡ g ∷ r → (f ≤ g) × (g < f + suc n)
      go true i q = let z : f ≡ g = cc in (omega arith, omega arith)
      go false i q = let z = i q in (omega arith, omega arith)

-- ---- the only one
module _ (keep : List ℕ) (from end f : ℕ) (a : Next keep from end f) where
  pub only_none : f ≡ end → only (kept_places keep from (end - from)) ≡ None
  unfolding only
  only_none e = rw (a.passed, places_none keep f end (omega arith))

  module _ (l : f < end) (g : ℕ) (c : Next keep (f + 1) end g) where
    pub only_several : g < end → only (kept_places keep from (end - from)) ≡ None
    unfolding only
    only_several h = rw (a.passed, places_kept keep f end l (a.stops l), c.passed, places_kept keep g end h (c.stops h))

    pub only_one : end ≤ g → only (kept_places keep from (end - from)) ≡ Some f
    unfolding only
    only_one h = rw (a.passed, places_kept keep f end l (a.stops l), c.passed, places_none keep g end h)

pub only_is : (fs : List ℕ) (f : ℕ) → only fs ≡ Some f → fs ≡ f ∷ []
unfolding only
only_is [] f e = cc
only_is (g ∷ []) f e = let z : g ≡ f = cc in rw z
only_is (g ∷ h ∷ fs) f e = cc

-- ---- the fields that stand there
fields_placed : (ls : List Line) (keep ps : List ℕ) (f n : ℕ) → fields_by ls keep ps f n ≡ map (field_at ls ps) (kept_places keep f n)
unfolding fields_by kept_places
fields_placed ls keep ps f zero = refl
fields_placed ls keep ps f (suc n) = go (eqb (get_or keep f 0) 1) (fields_placed ls keep ps (suc f) n)
  where
    go : (x : Bool) → fields_by ls keep ps (suc f) n ≡ map (field_at ls ps) (kept_places keep (suc f) n)
        → pick x (field_at ls ps f ∷ fields_by ls keep ps (suc f) n) (fields_by ls keep ps (suc f) n) ≡ map (field_at ls ps) (pick x (f ∷ kept_places keep (suc f) n) (kept_places keep (suc f) n))
    go true e = ap (λ (t : List decl.Field). field_at ls ps f ∷ t) e
    go false e = e

-- the first kept slot is that of the first kept field
first_placed : (keep : List ℕ) (bs : List Bool) (f g : ℕ) (r : List ℕ) → ((j : ℕ) → j < length bs → get_or keep (f + j) 0 ≡ bit (get_or bs j false)) → kept_places keep f (length bs) ≡ g ∷ r → first_kept bs ≡ g - f
unfolding kept_places first_kept
first_placed keep [] f g r s e = absurd (omega (arith, ap length e))
first_placed keep (true ∷ bs) f g r s e =
    let q : f + 0 ≡ f = omega arith in
    let z : get_or keep f 0 ≡ 1 = rw q at (s 0 (omega arith)) in
    let i : f ∷ kept_places keep (suc f) (length bs) ≡ g ∷ r = rw z at e in
    let m : f ≡ g = cc in
    omega arith
first_placed keep (false ∷ bs) f g r s e =
    let q : f + 0 ≡ f = omega arith in
    let z : get_or keep f 0 ≡ 0 = rw q at (s 0 (omega arith)) in
    let i : kept_places keep (suc f) (length bs) ≡ g ∷ r = rw z at e in
    let t : (j : ℕ) → j < length bs → get_or keep (suc f + j) 0 ≡ bit (get_or bs j false) = λ j l. let m : suc f + j ≡ f + suc j = omega arith in rw m (s (suc j) (omega arith)) in
    omega (arith, first_placed keep bs (suc f) g r t i, (places_between keep (suc f) (length bs) g r i).0)

-- the newtype of a constructor that keeps the fields of these F lines
newtype_placed : (ls : List Line) (d : ℕ) (bs : List Bool) (fs : List ℕ) → ((g : ℕ) (r : List ℕ) → fs ≡ g ∷ r → first_kept bs ≡ g - first_of field_line ls d)
    → newtype_of_ctor (ctor_told ls d) bs (map (field_at ls (params_of ls d)) fs) ≡ only_told ls d (only fs)
unfolding newtype_of_ctor only_told only newtype_told field_at
newtype_placed ls d bs [] e = refl
newtype_placed ls d bs (f ∷ []) e = rw (e f [] refl)
newtype_placed ls d bs (f ∷ g ∷ fs) e = refl

-- ---- one constructor
newtype_one : (cls : List CtorLayout) (c : Ctor) (bs : List Bool) → map kept_ctor cls ≡ c ∷ [] → all_slots cls ≡ bs → newtype_of cls ≡ newtype_of_ctor c.ct_name bs c.ct_fields
unfolding newtype_of all_slots
newtype_one [] c bs e s = absurd (omega (arith, ap length e))
newtype_one (cl ∷ []) c bs e s =
    let q : kept_ctor cl ≡ c = cc in
    let t : cl.cl_slots ≡ bs = sym (append-nil cl.cl_slots) ∙ s in
    rw (← q, t)
newtype_one (cl ∷ cm ∷ cls) c bs e s = absurd (omega (arith, ap length e))

newtype_other : (cls : List CtorLayout) → (length cls ≡ 1 → ⊥) → newtype_of cls ≡ none
unfolding newtype_of
newtype_other [] n = refl
newtype_other (cl ∷ []) n = absurd (n refl)
newtype_other (cl ∷ cm ∷ cls) n = refl

module _ (ls : List Line) (p : Passed ls) (d : ℕ) (h : d < decls_of ls) where
  one_cases : one_ctor ls d ≡ true → (body_kind ls d ≡ 2) ⊎ ((body_kind ls d ≡ 3) × (body_last ls d ≡ 1))
  unfolding one_ctor
  one_cases = go (eqb (body_kind ls d) 2) refl (eqb (body_kind ls d) 3) refl
    where
      go : (x : Bool) → eqb (body_kind ls d) 2 ≡ x → (y : Bool) → eqb (body_kind ls d) 3 ≡ y → (x ⇒ true ∥ y ⇒ eqb (body_last ls d) 1 ∥ false) ≡ true
          → (body_kind ls d ≡ 2) ⊎ ((body_kind ls d ≡ 3) × (body_last ls d ≡ 1))
      go true u y v e = inl (eqb-true (body_kind ls d) 2 u)
      go false u true v e = inr (eqb-true (body_kind ls d) 3 v, eqb-true (body_last ls d) 1 e)
      go false u false v e = false_true e

  module _ (keep : List ℕ) (k : Slotted ls keep) where
    -- how many fields it has
    width : ℕ
    width = first_of field_line ls (suc d) - first_of field_line ls d

    one_kept : one_ctor ls d ≡ true
        → ctors_kept ls keep d ≡ record { ct_name = ctor_told ls d; ct_fields = fields_by ls keep (params_of ls d) (first_of field_line ls d) width } ∷ []
    unfolding ctor_told ctors_by fields_in width
    one_kept o = ⊎_elim flat lone (one_cases o)
      where
        flat : body_kind ls d ≡ 2 → ctors_kept ls keep d ≡ record { ct_name = ctor_told ls d; ct_fields = fields_by ls keep (params_of ls d) (first_of field_line ls d) width } ∷ []
        flat e =
            let n : first_of field_line ls (suc d) - first_of field_line ls d ≡ body_last ls d = omega (arith, total_record ls p d h e) in
            rw (kept_record ls keep d e, n, e)

        lone : (body_kind ls d ≡ 3) × (body_last ls d ≡ 1) → ctors_kept ls keep d ≡ record { ct_name = ctor_told ls d; ct_fields = fields_by ls keep (params_of ls d) (first_of field_line ls d) width } ∷ []
        lone e =
            let t = rw e.1 at (total_variant ls p d h e.0) in
            let n : first_of field_line ls (suc d) - first_of field_line ls d ≡ ctor_fields ls (first_of ctor_line ls d) = omega arith in
            rw (kept_variant ls keep d e.0, n, e.0, e.1)

    -- The newtype that it can become is that of its only kept field.
    pub newtype_only : one_ctor ls d ≡ true
        → newtype_of (ctors_at (program ls) d) ≡ only_told ls d (only (kept_places keep (first_of field_line ls d) (first_of field_line ls (suc d) - first_of field_line ls d)))
    unfolding width
    newtype_only o =
        let bs : List Bool = slots_at (program ls) d in
        let n : length bs ≡ first_of field_line ls (suc d) - first_of field_line ls d = omega (arith, k.sized d h) in
        newtype_one (ctors_at (program ls) d)
        (record { ct_name = ctor_told ls d; ct_fields = fields_by ls keep (params_of ls d) (first_of field_line ls d) width })
        (slots_at (program ls) d) (ctors_are ls p keep k d h ∙ one_kept o) (slots_are ls d h)
        ∙ ap (newtype_of_ctor (ctor_told ls d) (slots_at (program ls) d)) (fields_placed ls keep (params_of ls d) (first_of field_line ls d) width)
        ∙ newtype_placed ls d (slots_at (program ls) d) (kept_places keep (first_of field_line ls d) width)
        (λ g r e. first_placed keep (slots_at (program ls) d) (first_of field_line ls d) g r (k.slots d h) (rw n e))

    -- With no constructor, or several, it becomes none.
    pub newtype_none : one_ctor ls d ≡ false → newtype_of (ctors_at (program ls) d) ≡ none
    unfolding one_ctor
    newtype_none = go (eqb (body_kind ls d) 2) refl (eqb (body_kind ls d) 3) refl
      where
        go : (x : Bool) → eqb (body_kind ls d) 2 ≡ x → (y : Bool) → eqb (body_kind ls d) 3 ≡ y → (x ⇒ true ∥ y ⇒ eqb (body_last ls d) 1 ∥ false) ≡ false → newtype_of (ctors_at (program ls) d) ≡ none
        go true u y v e = false_true (sym e)
        go false u true v e = newtype_other (ctors_at (program ls) d) (λ z. eqb-false (body_last ls d) 1 e (sym (count_variant ls p keep k d h (eqb-true (body_kind ls d) 3 v)) ∙ z))
        go false u false v e =
            let i = eqb-false (body_kind ls d) 2 u in
            let j = eqb-false (body_kind ls d) 3 v in
            newtype_other (ctors_at (program ls) d) (λ z. omega (arith, count_bare ls p keep k d h (omega (arith, (whole_at ls p d h).kinds))))

    -- what the code answers
    pub told_none : one_ctor ls d ≡ false → (newtype_of (ctors_at (program ls) d) ≡ only_told ls d None)
        × ((f : ℕ) → None ≡ Some f → (f < count_of field_line ls) × (first_of field_line ls d ≤ f) × (one_ctor ls d ≡ true))
    unfolding only_told
    told_none o = (newtype_none o, λ f e. let z : ◌≡◌ {A = ℕ} 0 1 = cc in absurd (omega arith))

    pub told_one : (r : Option ℕ) (from end : ℕ) → one_ctor ls d ≡ true → from ≡ first_of field_line ls d → end ≡ first_of field_line ls (d + 1) → r ≡ only (kept_places keep from (end - from))
        → (newtype_of (ctors_at (program ls) d) ≡ only_told ls d r)
        × ((f : ℕ) → r ≡ Some f → (f < count_of field_line ls) × (first_of field_line ls d ≤ f) × (one_ctor ls d ≡ true))
    told_one r from end o u v e = (newtype_only o ∙ ap (only_told ls d) (sym same), within)
      where
        same : r ≡ only (kept_places keep (first_of field_line ls d) (first_of field_line ls (suc d) - first_of field_line ls d))
        same = e ∙ rw (u, v, add-one d)

        within : (f : ℕ) → r ≡ Some f → (f < count_of field_line ls) × (first_of field_line ls d ≤ f) × (one_ctor ls d ≡ true)
        within f q =
            let z = only_is (kept_places keep from (end - from)) f (sym e ∙ q) in
            let w = places_between keep from (end - from) f [] z in
            (omega (arith, u, v, first_le field_line ls (d + 1)), omega arith, o)

-- ---- its constructor's name
module _ (ls : List Line) (p : Passed ls) (d : ℕ) (h : d < decls_of ls) where
  pub head_name_low : number (head_line ls d) 0 < 2048
  head_name_low =
      let m : head_line ls d ≡ nth_line ls (start ls d) = ap (λ (g : Group). g.head) (group_is ls d h) in
      let i = line_inside ls d h in
      rw m (omega (arith, names_few ls p, named_below ls (start ls d) (good_line ls p (start ls d) i) Declared (line_of_head ls d h)))

  pub ctor_name_low : (c : ℕ) → c < count_of ctor_line ls → ctor_name ls c < 2048
  ctor_name_low c l =
      let r = stands ctor_line ls c l in
      let t : takes Constructors (nth_line ls r.place) ≡ true = rw r.lettered in
      rw r.same (omega (arith, names_few ls p, named_below ls r.place (good_line ls p r.place r.inside) Constructors t))

  -- its only constructor has a C line, where it is no record
  pub ctor_within : one_ctor ls d ≡ true → (body_kind ls d ≡ 2 → ⊥) → first_of ctor_line ls d < count_of ctor_line ls
  ctor_within o n = ⊎_elim (λ e. absurd (n e)) (λ e. omega (arith, e.1, (whole_at ls p d h).ctors e.0, first_next ls d h ctor_line refl refl, first_le ctor_line ls (suc d))) (one_cases ls p d h o)
