-- What is left of a pattern fits the types that are left: given tables that verdicts make and a part for
-- each field of every constructor, in the new pattern every `PCtor` of a declared constructor has a struct
-- for its type and as many parts as kept fields, and every `PRecord` of a declared struct of one
-- constructor names kept fields only. Assumes nothing.
use Rattle.std.specs.Prelude.{◌≡◌, Bool, T, length}
use Rattle.std.proofs.Math.Path.{refl, ap}
use Rattle.std.proofs.Common.{◌∙◌, arith}
use mathlib.Core.List.{List, [], ◌∷◌}
use Rattle.std.proofs.Math.Bool.{true, false}
use Rattle.std.proofs.Math.Option.{Option, none, some}
use Prim.Native.Nat.{ℕ, zero, suc}
use Rattle.number_columns.specs.Column.{pick}
use Rattle.model.specs.Decl.{Field, CtorLayout, Layout, L_erased, L_newtype, L_struct, L_abbrev, L_opaque}
use Rattle.model_laws.specs.Lists.{trues}
use Rattle.model_patterns.specs.Pat.{
  Pat,
  Pats,
  PWild,
  PVar,
  PConst,
  PCtor,
  PRecord,
  PTuple,
  POr,
  no_parts,
  part,
  parts,
  nth_opt,
  try_find,
  Split,
  into,
  keep_by_slots,
  keep_by_name,
  named,
  names_one,
  Owner,
  RewrittenParts,
  newtype_ctor,
  owned_ctor,
  rw_ctor,
  newtype_record,
  rw_record,
  rw_pat,
  many,
  Slots,
  Names,
  Counted,
  Counteds,
  Fitting,
  Fittings,
  Constructed,
  Slotted,
  Sound,
}

-- a part for each slot: as many parts are kept as slots
pub parts_kept : (bs : List Bool) (ps : Pats) → parts ps ≡ length bs → parts (keep_by_slots bs ps).kept ≡ trues bs
unfolding parts keep_by_slots trues
parts_kept [] no_parts h = refl
parts_kept (b ∷ bs) no_parts h = absurd (omega arith)
parts_kept [] (part f p ps) h = absurd (omega arith)
parts_kept (true ∷ bs) (part f p ps) h = omega (arith, parts_kept bs ps (omega arith))
parts_kept (false ∷ bs) (part f p ps) h = omega (arith, parts_kept bs ps (omega arith))

-- parts kept by the names of fields name these
pub names_kept : (gs : List Field) (ps : Pats) → Names gs (keep_by_name (names_one gs) ps).kept
unfolding keep_by_name
names_kept gs no_parts = tt
names_kept gs (part f p ps) = go (names_one gs f) (λ t. t) (names_kept gs ps)
  where
    go : (b : Bool)
        → (T b → T (names_one gs f))
        → Names gs (keep_by_name (names_one gs) ps).kept
        → Names gs (into b f p (keep_by_name (names_one gs) ps)).kept
    go true t ih = (t tt, ih)
    go false t ih = ih

module _ (owner : ℕ → Option Owner) (layout : ℕ → Option Layout) where
  -- rewriting keeps the number of parts
  pub many_parts : (ps : Pats) → parts (many owner layout ps).pats ≡ parts ps
  unfolding parts many
  many_parts no_parts = refl
  many_parts (part f p ps) = ap suc (many_parts ps)

  -- ---- parts of what fits
  abbrev Fits : Pat → Type 0
  Fits = Fitting owner layout

  abbrev AllFit : Pats → Type 0
  AllFit = Fittings owner layout

  abbrev FoundFits : Option Pat → Type 0
  FoundFits none = Unit {0}
  FoundFits (some p) = Fits p

  into_fits : (b : Bool) (f : ℕ) (p : Pat) (s : Split) → Fits p → AllFit s.kept → AllFit (into b f p s).kept
  into_fits true f p s h k = (h, k)
  into_fits false f p s h k = k

  slots_fit : (bs : List Bool) (ps : Pats) → AllFit ps → AllFit (keep_by_slots bs ps).kept
  unfolding keep_by_slots
  slots_fit [] no_parts h = tt
  slots_fit (b ∷ bs) no_parts h = tt
  slots_fit [] (part f p ps) h = into_fits true f p (keep_by_slots [] ps) h.0 (slots_fit [] ps h.1)
  slots_fit (b ∷ bs) (part f p ps) h = into_fits b f p (keep_by_slots bs ps) h.0 (slots_fit bs ps h.1)

  named_fit : (keep : ℕ → Bool) (ps : Pats) → AllFit ps → AllFit (keep_by_name keep ps).kept
  unfolding keep_by_name
  named_fit keep no_parts h = tt
  named_fit keep (part f p ps) h = into_fits (keep f) f p (keep_by_name keep ps) h.0 (named_fit keep ps h.1)

  nth_fits : (ps : Pats) (i : ℕ) → AllFit ps → FoundFits (nth_opt ps i)
  unfolding nth_opt
  nth_fits no_parts i h = tt
  nth_fits (part f p ps) zero h = h.0
  nth_fits (part f p ps) (suc i) h = nth_fits ps i h.1

  found_fits : (keep : ℕ → Bool) (ps : Pats) → AllFit ps → FoundFits (try_find keep ps)
  unfolding try_find
  found_fits keep no_parts h = tt
  found_fits keep (part f p ps) h = go (keep f) (found_fits keep ps h.1)
    where
      go : (b : Bool) → FoundFits (try_find keep ps) → FoundFits (pick b (some p) (try_find keep ps))
      go true ih = h.0
      go false ih = ih

  -- ---- by kinds
  newtype_ctor_fits : (i : ℕ) (m : RewrittenParts) (o : Option Pat) → FoundFits o → Fits (newtype_ctor i m o).pat
  unfolding newtype_ctor
  newtype_ctor_fits i m none h = tt
  newtype_ctor_fits i m (some p) h = h

  newtype_record_fits : (g : ℕ) (m : RewrittenParts) (o : Option Pat) → FoundFits o → Fits (newtype_record g m o).pat
  unfolding newtype_record
  newtype_record_fits g m none h = tt
  newtype_record_fits g m (some p) h = h

  owned_fits : (n : ℕ) (m : RewrittenParts) (l : Layout) (cl : CtorLayout)
      → owner n ≡ some (record { layout = l; ctor_layout = cl })
      → Constructed l → Slotted cl → parts m.pats ≡ length cl.cl_slots → AllFit m.pats
      → Fits (owned_ctor n m l cl).pat
  unfolding owned_ctor
  owned_fits n m L_erased cl e c s k h = tt
  owned_fits n m (L_newtype nt) cl e c s k h =
      newtype_ctor_fits nt.nt_index m (nth_opt m.pats nt.nt_index) (nth_fits m.pats nt.nt_index h)
  owned_fits n m (L_struct cls) cl e c s k h = (rw e (parts_kept cl.cl_slots m.pats k ∙ s), slots_fit cl.cl_slots m.pats h)
  owned_fits n m (L_abbrev t) cl e c s k h = absurd c
  owned_fits n m L_opaque cl e c s k h = absurd c

  ctor_fits : Sound owner → (n : ℕ) (m : RewrittenParts) (o : Option Owner) → owner n ≡ o → Slots o (parts m.pats) → AllFit m.pats
      → Fits (rw_ctor n m o).pat
  unfolding rw_ctor
  ctor_fits s n m none e k h = (rw e tt, h)
  ctor_fits s n m (some o) e k h = owned_fits n m o.layout o.ctor_layout e (s.constructed n o e) (s.slotted n o e) k h

  record_fits : (n : ℕ) (m : RewrittenParts) (o : Option Layout) → layout n ≡ o → AllFit m.pats → Fits (rw_record n m o).pat
  unfolding rw_record
  record_fits n m none e h = (rw e tt, h)
  record_fits n m (some L_erased) e h = tt
  record_fits n m (some (L_newtype nt)) e h =
      newtype_record_fits nt.nt_field m (try_find (named nt.nt_field) m.pats) (found_fits (named nt.nt_field) m.pats h)
  record_fits n m (some (L_struct [])) e h = (rw e tt, h)
  record_fits n m (some (L_struct (cl ∷ []))) e h =
      (rw e (names_kept cl.cl_fields m.pats), named_fit (names_one cl.cl_fields) m.pats h)
  record_fits n m (some (L_struct (cl ∷ cm ∷ cls))) e h = (rw e tt, h)
  record_fits n m (some (L_abbrev c)) e h = (rw e tt, h)
  record_fits n m (some L_opaque) e h = (rw e tt, h)

  mutual
    unfolding rw_pat

    pub fields_lost : Sound owner → (p : Pat) → Counted owner p → Fitting owner layout (rw_pat owner layout p).pat
    fields_lost s PWild h = tt
    fields_lost s (PVar v) h = tt
    fields_lost s (PConst c) h = tt
    fields_lost s (PCtor n ps) h =
        ctor_fits s n (many owner layout ps) (owner n) refl (rw (many_parts ps) h.0) (parts_lost s ps h.1)
    fields_lost s (PRecord n ps) h = record_fits n (many owner layout ps) (layout n) refl (parts_lost s ps h)
    fields_lost s (PTuple ps) h = parts_lost s ps h
    fields_lost s (POr ps) h = parts_lost s ps h

    pub parts_lost : Sound owner → (ps : Pats) → Counteds owner ps → Fittings owner layout (many owner layout ps).pats
    parts_lost s no_parts h = tt
    parts_lost s (part f p ps) h = (fields_lost s p h.0, parts_lost s ps h.1)
