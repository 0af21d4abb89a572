-- What becomes of a pattern depends on the constructors and the types that it mentions alone. Assumes nothing.
use Rattle.std.specs.Prelude.{◌≡◌, refl, ℕ}
use Rattle.std.proofs.Common.{ap, ap₂}
use mathlib.Core.List.Memᴰ
use mathlib.Core.List.{List, Memᴰ}
use Rattle.std.proofs.Math.Option.{Option}
use Rattle.model.specs.Decl.{Layout}
use Rattle.model_patterns.specs.Pat.{
  Pat,
  Pats,
  PWild,
  PVar,
  PConst,
  PCtor,
  PRecord,
  PTuple,
  POr,
  no_parts,
  part,
  pat_ctors,
  pats_ctors,
  pat_types,
  pats_types,
  Owner,
  Rewritten,
  RewrittenParts,
  and_part,
  over,
  rw_ctor,
  rw_record,
  rw_pat,
  many,
}

-- two tables that are equal at each of the names
abbrev pub Same : {A : Type 0} → (ℕ → A) → (ℕ → A) → List ℕ → Type 0
Same f g ns = (n : ℕ) → Memᴰ n ns → f n ≡ g n

module _ (owner owner' : ℕ → Option Owner) (layout layout' : ℕ → Option Layout) where
  mutual
    unfolding rw_pat pat_ctors pat_types

    pub pattern_local : (p : Pat) → Same owner owner' (pat_ctors p) → Same layout layout' (pat_types p)
        → rw_pat owner layout p ≡ rw_pat owner' layout' p
    pattern_local PWild h k = refl
    pattern_local (PVar v) h k = refl
    pattern_local (PConst c) h k = refl
    pattern_local (PCtor n ps) h k =
        ap₂ (λ (m : RewrittenParts) (o : Option Owner). rw_ctor n m o) (parts_local ps (λ i m. h i (Memᴰ.tail m)) k) (h n (Memᴰ.head refl))
    pattern_local (PRecord n ps) h k =
        ap₂ (λ (m : RewrittenParts) (o : Option Layout). rw_record n m o) (parts_local ps h (λ i m. k i (Memᴰ.tail m))) (k n (Memᴰ.head refl))
    pattern_local (PTuple ps) h k = ap (λ (m : RewrittenParts). over PTuple m) (parts_local ps h k)
    pattern_local (POr ps) h k = ap (λ (m : RewrittenParts). over POr m) (parts_local ps h k)

    pub parts_local : (ps : Pats) → Same owner owner' (pats_ctors ps) → Same layout layout' (pats_types ps)
        → many owner layout ps ≡ many owner' layout' ps
    parts_local no_parts h k = refl
    parts_local (part f p ps) h k =
        ap₂ (λ (r : Rewritten) (m : RewrittenParts). and_part f r m)
        (pattern_local p (λ i m. h i (Memᴰ.append_left (pats_ctors ps) m)) (λ i m. k i (Memᴰ.append_left (pats_types ps) m)))
        (parts_local ps (λ i m. h i (Memᴰ.append_right (pat_ctors p) m)) (λ i m. k i (Memᴰ.append_right (pat_types p) m)))
