-- No variable is lost: if no `PRecord` of a pattern names a field twice, then each variable stands in
-- the pattern as often as in the new pattern and among the freed names together. Assumes nothing.
use Rattle.std.specs.Prelude.{◌≡◌, ℕ, suc, ◌+◌, ◌≤◌}
use Rattle.std.proofs.Math.Path.{refl, ap}
use Rattle.std.proofs.Common.{◌∙◌, arith}
use mathlib.Core.List.{List, [], ◌∷◌}
use Rattle.std.proofs.Math.Option.{Option, none, some}
use Rattle.model.specs.Decl.{CtorLayout, Layout, L_erased, L_newtype, L_struct, L_abbrev, L_opaque}
use Rattle.model_patterns.specs.Pat.{
  Pat,
  Pats,
  PWild,
  PVar,
  PConst,
  PCtor,
  PRecord,
  PTuple,
  POr,
  no_parts,
  part,
  pat_vars,
  pats_vars,
  part_fields,
  nth_opt,
  other_parts,
  try_find,
  keep_by_slots,
  keep_by_name,
  named,
  names_one,
  Owner,
  Rewritten,
  RewrittenParts,
  dropping,
  wild,
  newtype_ctor,
  owned_ctor,
  rw_ctor,
  newtype_record,
  rw_record,
  rw_pat,
  many,
  occurrences,
  Once,
  Onces,
}
use Rattle.model_patterns.proofs.Laws.Weights.{occurrences_append, weight, weighs, bound, weight_bound, slots_weight, names_weight, nth_weight, find_once}

module _ (v : ℕ) where
  -- how often v stands in parts, and in a pattern, with what was freed
  abbrev parts_with : RewrittenParts → ℕ
  parts_with m = occurrences v (pats_vars m.pats) + occurrences v m.freed

  abbrev with_freed : Rewritten → ℕ
  with_freed r = occurrences v (pat_vars r.pat) + occurrences v r.freed

  dropping_accounted : (m : RewrittenParts) (qs : Pats) (p : Pat)
      → bound v p + occurrences v (pats_vars qs) ≡ occurrences v (pats_vars m.pats) → parts_with m ≡ with_freed (dropping m qs p)
  dropping_accounted m qs p e = omega (arith, occurrences_append v m.freed (pats_vars qs))

  wild_accounted : (m : RewrittenParts) → parts_with m ≡ with_freed (wild m)
  unfolding pat_vars occurrences
  wild_accounted m = dropping_accounted m m.pats PWild (omega arith)

  newtype_ctor_accounted : (i : ℕ) (m : RewrittenParts) (o : Option Pat)
      → weighs (bound v) o + weight (bound v) (other_parts m.pats i) ≡ weight (bound v) m.pats
      → parts_with m ≡ with_freed (newtype_ctor i m o)
  unfolding newtype_ctor
  newtype_ctor_accounted i m none e = wild_accounted m
  newtype_ctor_accounted i m (some p) e =
      dropping_accounted m (other_parts m.pats i) p (omega (arith, e, weight_bound v (other_parts m.pats i), weight_bound v m.pats))

  owned_accounted : (n : ℕ) (m : RewrittenParts) (l : Layout) (cl : CtorLayout) → parts_with m ≡ with_freed (owned_ctor n m l cl)
  unfolding owned_ctor pat_vars
  owned_accounted n m l cl = by l
    where
      struct : parts_with m ≡ with_freed (owned_ctor n m (L_struct []) cl)
      struct =
          let k : Pats = (keep_by_slots cl.cl_slots m.pats).kept in
          let d : Pats = (keep_by_slots cl.cl_slots m.pats).dropped in
          dropping_accounted m d (PCtor n k) (omega (arith, slots_weight (bound v) cl.cl_slots m.pats, weight_bound v k, weight_bound v d, weight_bound v m.pats))

      by : (l : Layout) → parts_with m ≡ with_freed (owned_ctor n m l cl)
      by L_erased = wild_accounted m
      by (L_newtype nt) = newtype_ctor_accounted nt.nt_index m (nth_opt m.pats nt.nt_index) (nth_weight (bound v) m.pats nt.nt_index)
      by (L_struct cls) = struct
      by (L_abbrev c) = struct
      by L_opaque = struct

  ctor_accounted : (n : ℕ) (m : RewrittenParts) (o : Option Owner) → parts_with m ≡ with_freed (rw_ctor n m o)
  unfolding rw_ctor pat_vars
  ctor_accounted n m none = refl
  ctor_accounted n m (some o) = owned_accounted n m o.layout o.ctor_layout

  newtype_record_accounted : (g : ℕ) (m : RewrittenParts) (o : Option Pat)
      → weighs (bound v) o + weight (bound v) (keep_by_name (named g) m.pats).dropped ≡ weight (bound v) m.pats
      → parts_with m ≡ with_freed (newtype_record g m o)
  unfolding newtype_record
  newtype_record_accounted g m none e = wild_accounted m
  newtype_record_accounted g m (some p) e =
      let d : Pats = (keep_by_name (named g) m.pats).dropped in
      dropping_accounted m d p (omega (arith, e, weight_bound v d, weight_bound v m.pats))

  record_accounted : (n : ℕ) (m : RewrittenParts) (o : Option Layout) → ((g : ℕ) → occurrences (suc g) (part_fields m.pats) ≤ 1)
      → parts_with m ≡ with_freed (rw_record n m o)
  unfolding rw_record pat_vars
  record_accounted n m none h = refl
  record_accounted n m (some L_erased) h = wild_accounted m
  record_accounted n m (some (L_newtype nt)) h =
      newtype_record_accounted nt.nt_field m (try_find (named nt.nt_field) m.pats) (find_once (bound v) nt.nt_field m.pats (h nt.nt_field))
  record_accounted n m (some (L_struct [])) h = refl
  record_accounted n m (some (L_struct (cl ∷ []))) h =
      let k : Pats = (keep_by_name (names_one cl.cl_fields) m.pats).kept in
      let d : Pats = (keep_by_name (names_one cl.cl_fields) m.pats).dropped in
      dropping_accounted m d (PRecord n k) (omega (arith, names_weight (bound v) (names_one cl.cl_fields) m.pats, weight_bound v k, weight_bound v d, weight_bound v m.pats))
  record_accounted n m (some (L_struct (cl ∷ cm ∷ cls))) h = refl
  record_accounted n m (some (L_abbrev c)) h = refl
  record_accounted n m (some L_opaque) h = refl

module _ (owner : ℕ → Option Owner) (layout : ℕ → Option Layout) where
  -- rewriting keeps the names of parts
  pub many_fields : (ps : Pats) → part_fields (many owner layout ps).pats ≡ part_fields ps
  unfolding part_fields many
  many_fields no_parts = refl
  many_fields (part f p ps) = ap (λ (fs : List ℕ). f ∷ fs) (many_fields ps)

  mutual
    unfolding rw_pat pat_vars occurrences

    pub names_accounted : (p : Pat) → Once p → (v : ℕ)
        → occurrences v (pat_vars p)
        ≡ occurrences v (pat_vars (rw_pat owner layout p).pat) + occurrences v (rw_pat owner layout p).freed
    names_accounted PWild h v = refl
    names_accounted (PVar n) h v = omega arith
    names_accounted (PConst c) h v = refl
    names_accounted (PCtor n ps) h v = parts_accounted ps h v ∙ ctor_accounted v n (many owner layout ps) (owner n)
    names_accounted (PRecord n ps) h v =
        parts_accounted ps h.1 v ∙ record_accounted v n (many owner layout ps) (layout n) (λ g. rw (many_fields ps) (h.0 g))
    names_accounted (PTuple ps) h v = parts_accounted ps h v
    names_accounted (POr ps) h v = parts_accounted ps h v

    pub parts_accounted : (ps : Pats) → Onces ps → (v : ℕ)
        → occurrences v (pats_vars ps)
        ≡ occurrences v (pats_vars (many owner layout ps).pats) + occurrences v (many owner layout ps).freed
    parts_accounted no_parts h v = refl
    parts_accounted (part f p ps) h v =
        let r : Rewritten = rw_pat owner layout p in
        let m : RewrittenParts = many owner layout ps in
        omega (arith, names_accounted p h.0 v, parts_accounted ps h.1 v, occurrences_append v (pat_vars p) (pats_vars ps), occurrences_append v (pat_vars r.pat) (pats_vars m.pats), occurrences_append v r.freed m.freed)
