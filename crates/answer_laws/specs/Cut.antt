-- The cut, from what holds of a sheet in two parts. Assumes nothing.
use Rattle.std.specs.Prelude.{◌≡◌, ℕ}
use Rattle.std.proofs.Math.Path.{refl, sym, ap, subst}
use Rattle.std.proofs.Common.{◌∙◌}
use mathlib.Core.List.{List, [], ◌∷◌, ◌++◌, append_assoc, append-nil}
use Rattle.std.proofs.Math.Option.{Option, none, some}
use Rattle.sheet.specs.Format.{Format}
use Rattle.answer.specs.Cut.{Sheets, build, builds, join}

-- Where `Split p q` says that the sheet p ++ q has the parts p and q:
-- the first part is accepted with the whole, and its verdict sheet may stand for it.
pub record Steps (f : Format) (v l : ℕ) (Split : List ℕ → List ℕ → Type 0) : Type 0 where
  pub prefix_step : (p q : List ℕ) (y : Sheets) → Split p q → build f v l (p ++ q) ≡ some y → (x : Sheets) × (build f v l p ≡ some x)
  pub import_step : (p q : List ℕ) (x : Sheets) → Split p q → build f v l p ≡ some x → build f v l (x.verdict ++ q) ≡ build f v l (p ++ q)

-- every run of the units is a part
abbrev pub Splits : (List ℕ → List ℕ → Type 0) → List ℕ → List (List ℕ) → Type 0
Splits Split p us = (xs ys zs : List (List ℕ)) → us ≡ xs ++ (ys ++ zs) → Split (p ++ join xs) (join ys)

module _ (f : Format) (v l : ℕ) (Split : List ℕ → List ℕ → Type 0) (steps : Steps f v l Split) where
  -- a sheet whose first part is refused is refused
  refused_whole : (p q : List ℕ) → Split p q → build f v l p ≡ none → build f v l (p ++ q) ≡ none
  refused_whole p q s e = go (build f v l (p ++ q)) refl
    where
      go : (o : Option Sheets) → build f v l (p ++ q) ≡ o → o ≡ none
      go none h = refl
      go (some y) h =
          let r = steps.prefix_step p q y s h in
          let z : ◌≡◌ {A = Option Sheets} none (some r.0) = sym e ∙ r.1 in
          cc

  split_cons : (p u : List ℕ) (us : List (List ℕ)) → Splits Split p (u ∷ us) → Splits Split (p ++ u) us
  unfolding join
  split_cons p u us h xs ys zs e =
      subst (λ (b : List ℕ). Split b (join ys)) (sym (append_assoc p u (join xs))) (h (u ∷ xs) ys zs (ap (λ (t : List (List ℕ)). u ∷ t) e))

  -- the rest of the units: u over a sheet s that may stand for the first part p
  pub chain : (us : List (List ℕ)) (p s u : List ℕ) → Splits Split p (u ∷ us)
      → build f v l (s ++ u) ≡ build f v l (p ++ u)
      → builds f v l s u us ≡ build f v l (p ++ join (u ∷ us))
  unfolding builds join
  chain [] p s u h e = e ∙ ap (λ (b : List ℕ). build f v l (p ++ b)) (sym (append-nil u))
  chain (u' ∷ us) p s u h e =
      go
      (λ (x : Sheets) (k : build f v l (x.verdict ++ u') ≡ build f v l ((p ++ u) ++ u')).
      chain us (p ++ u) x.verdict u' (split_cons p u (u' ∷ us) h) k)
      (build f v l (s ++ u))
      refl
    where
      go :
          ((x : Sheets) → build f v l (x.verdict ++ u') ≡ build f v l ((p ++ u) ++ u') → builds f v l x.verdict u' us ≡ build f v l ((p ++ u) ++ (u' ++ join us)))
          → (o : Option Sheets)
          → build f v l (s ++ u) ≡ o
          → elim o [ none ↦ none | some x ↦ builds f v l x.verdict u' us ] ≡ build f v l (p ++ (u ++ (u' ++ join us)))
      go ih none q =
          let r : build f v l (p ++ u) ≡ none = sym e ∙ q in
          let hs : Split (p ++ u) (u' ++ join us) =
          rw append-nil at (split_cons p u (u' ∷ us) h [] (u' ∷ us) [] (ap (λ (t : List (List ℕ)). u' ∷ t) (sym (append-nil us)))) in
          sym (ap (build f v l) (sym (append_assoc p u (u' ++ join us))) ∙ refused_whole (p ++ u) (u' ++ join us) hs r)
      go ih (some x) q =
          let r : build f v l (p ++ u) ≡ some x = sym e ∙ q in
          let hs : Split (p ++ u) u' = rw (append-nil (p ++ u), append-nil u') at (split_cons p u (u' ∷ us) h [] (u' ∷ []) us refl) in
          ih x (steps.import_step (p ++ u) u' x hs r) ∙ ap (build f v l) (append_assoc p u (u' ++ join us))
