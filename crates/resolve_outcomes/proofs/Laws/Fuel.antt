-- Fuel: what an evaluation finds before its fuel is spent, every evaluation with more fuel finds. So
-- what was found with one fuel may be remembered and read with another. And where the checked
-- resolution is not spent, the evaluation is not. Assumes nothing.
use Rattle.std.specs.Prelude.{◌≡◌, Bool, eqb, leb, ltb, length}
use Rattle.std.proofs.Math.Path.{refl}
use Rattle.std.proofs.Common.{ap, sym, subst, arith}
use mathlib.Core.List.{List, [], ◌∷◌, ◌++◌}
use Rattle.std.proofs.Math.Bool.{true, false}
use Prim.Native.Nat.{ℕ, zero, suc, ◌≤◌}
use Rattle.model.specs.Cty.{
  Cty,
  Ctys,
  TUnit,
  TAny,
  TExn,
  TVar,
  TInt,
  TFloat,
  TConst,
  TArrow,
  TApp,
  TTuple,
  TBuf,
  TRef,
  TInline,
  nil,
  cons,
}
use Rattle.model.specs.Resolve.{Unfold, gone, newtype, abbreviation, stays, Result, ok, fault, spent, bind, resolve_checked}
use Rattle.model_laws.specs.Resolve.{Unspent}
use Rattle.resolve_outcomes.specs.Outcome.{other, app, mapped, built, instance_head, instance_shape, attached, Next, extra, surplus_called, called, eval, evals, entered, ev}
use Rattle.resolve_outcomes.specs.Leads.{Leads}
use Rattle.resolve_outcomes.proofs.Laws.Ev.{ev_resolves}

-- ---- spent, or the same
pub leads_same : {A : Type 0} (r : Result A) → Leads r r
leads_same (ok a) = refl
leads_same (fault e) = refl
leads_same spent = tt

pub leads_unspent : {A : Type 0} (r s : Result A) → Unspent r → Leads r s → r ≡ s
leads_unspent (ok a) s u h = h
leads_unspent (fault e) s u h = h
leads_unspent spent s u h = absurd u

pub leads_trans : {A : Type 0} (r s t : Result A) → Leads r s → Leads s t → Leads r t
leads_trans {A} (ok a) s t h k = subst (λ (x : Result A). Leads x t) (sym h) k
leads_trans {A} (fault e) s t h k = subst (λ (x : Result A). Leads x t) (sym h) k
leads_trans spent s t h k = tt

pub bind_leads : {A B : Type 0} (r s : Result A) (f g : A → Result B) → Leads r s → ((a : A) → Leads (f a) (g a)) → Leads (bind r f) (bind s g)
unfolding bind
bind_leads {A} {B} (ok a) s f g h k = subst (λ (x : Result A). Leads (f a) (bind x g)) h (k a)
bind_leads {A} {B} (fault e) s f g h k = ap (λ (x : Result A). bind x g) h
bind_leads spent s f g h k = tt

-- ---- with more fuel
module _ (limit : ℕ) (lay : ℕ → Unfold) (next next' : Next) (ih : (ps os : List ℕ) (c : Cty) → Leads (next ps os c) (next' ps os c)) where
  surplus_leads : (ps os : List ℕ) (c : Cty) (es : List ℕ) → Leads (surplus_called next ps os c es) (surplus_called next' ps os c es)
  unfolding surplus_called
  surplus_leads ps os c [] = ih ps os c
  surplus_leads ps os c (e ∷ es) = go (eqb (instance_head ps os c) app)
    where
      go : (b : Bool) → Leads {A = ℕ} (elim b [ true ↦ next ps os c | false ↦ fault 9 ]) (elim b [ true ↦ next' ps os c | false ↦ fault 9 ])
      go true = ih ps os c
      go false = refl

  pub called_leads : (os : List ℕ) (l : Unfold) → Leads (called limit next os l) (called limit next' os l)
  unfolding called
  called_leads os gone = refl
  called_leads os (newtype ps c) = go (eqb (length os) (length ps))
    where
      go : (b : Bool) → Leads {A = ℕ} (elim b [ true ↦ next ps os c | false ↦ fault 9 ]) (elim b [ true ↦ next' ps os c | false ↦ fault 9 ])
      go true = ih ps os c
      go false = refl
  called_leads os (abbreviation ps c) = go (ltb (length os) (length ps))
    where
      go : (b : Bool) → Leads {A = ℕ} (elim b [ true ↦ fault 9 | false ↦ surplus_called next ps os c (extra ps os) ]) (elim b [ true ↦ fault 9 | false ↦ surplus_called next' ps os c (extra ps os) ])
      go true = refl
      go false = surplus_leads ps os c (extra ps os)
  called_leads os stays = leads_same (built limit os app)

  module _ (ps os : List ℕ) where
    abbrev low : Cty → List ℕ → Result ℕ
    low = eval limit lay next ps os

    abbrev high : Cty → List ℕ → Result ℕ
    high = eval limit lay next' ps os

    mutual
      unfolding eval

      eval_leads : (c : Cty) (es : List ℕ) → Leads (low c es) (high c es)
      eval_leads TUnit es = leads_same (built limit [] other)
      eval_leads TAny es = leads_same (built limit [] other)
      eval_leads TExn es = leads_same (built limit [] other)
      eval_leads (TVar v) es = refl
      eval_leads (TInt s w) es = leads_same (built limit [] other)
      eval_leads (TFloat f) es = leads_same (built limit [] other)
      eval_leads (TConst c) es = leads_same (built limit [] other)
      eval_leads (TArrow a e b) es =
          bind_leads (low a []) (high a []) (λ x. bind (low b []) (λ y. built limit (x ∷ y ∷ []) other)) (λ x. bind (high b []) (λ y. built limit (x ∷ y ∷ []) other)) (eval_leads a [])
          (λ x. bind_leads (low b []) (high b []) (λ y. built limit (x ∷ y ∷ []) other) (λ y. built limit (x ∷ y ∷ []) other) (eval_leads b []) (λ y. leads_same (built limit (x ∷ y ∷ []) other)))
      eval_leads (TApp n ts) es =
          bind_leads (evals limit lay next ps os ts) (evals limit lay next' ps os ts) (λ xs. called limit next (xs ++ es) (lay n)) (λ xs. called limit next' (xs ++ es) (lay n)) (evals_lead ts)
          (λ xs. called_leads (xs ++ es) (lay n))
      eval_leads (TTuple ts) es =
          bind_leads (evals limit lay next ps os ts) (evals limit lay next' ps os ts) (λ xs. built limit xs other) (λ xs. built limit xs other) (evals_lead ts)
          (λ xs. leads_same (built limit xs other))
      eval_leads (TBuf t) es =
          bind_leads (low t []) (high t []) (λ x. built limit (x ∷ []) other) (λ x. built limit (x ∷ []) other) (eval_leads t []) (λ x. leads_same (built limit (x ∷ []) other))
      eval_leads (TRef k t) es =
          bind_leads (low t []) (high t []) (λ x. built limit (x ∷ []) other) (λ x. built limit (x ∷ []) other) (eval_leads t []) (λ x. leads_same (built limit (x ∷ []) other))
      eval_leads (TInline t) es =
          bind_leads (low t []) (high t []) (λ x. built limit (x ∷ []) other) (λ x. built limit (x ∷ []) other) (eval_leads t []) (λ x. leads_same (built limit (x ∷ []) other))

      evals_lead : (ts : Ctys) → Leads (evals limit lay next ps os ts) (evals limit lay next' ps os ts)
      evals_lead nil = refl
      evals_lead (cons t ts) =
          bind_leads (low t []) (high t []) (λ x. bind (evals limit lay next ps os ts) (λ xs. ok (x ∷ xs))) (λ x. bind (evals limit lay next' ps os ts) (λ xs. ok (x ∷ xs))) (eval_leads t [])
          (λ x. bind_leads (evals limit lay next ps os ts) (evals limit lay next' ps os ts) (λ xs. ok (x ∷ xs)) (λ xs. ok (x ∷ xs)) (evals_lead ts) (λ xs. refl))

    entered_leads : (c : Cty) (o : ℕ) (es : List ℕ) → Leads (entered limit o (low c es)) (entered limit o (high c es))
    unfolding entered
    entered_leads c o es = go (leb _ limit)
      where
        go : (b : Bool) → Leads {A = ℕ} (elim b [ true ↦ low c es | false ↦ fault 10 ]) (elim b [ true ↦ high c es | false ↦ fault 10 ])
        go true = eval_leads c es
        go false = refl

module _ (limit : ℕ) (lay : ℕ → Unfold) where
  pub ev_more : (k m : ℕ) → k ≤ m → (ps os : List ℕ) (c : Cty) → Leads (ev limit lay k ps os c) (ev limit lay m ps os c)
  unfolding ev
  ev_more zero m h ps os c = tt
  ev_more (suc k) zero h ps os c = absurd (omega arith)
  ev_more (suc k) (suc m) h ps os c =
      entered_leads limit lay (ev limit lay k) (ev limit lay m) (ev_more k m (omega arith)) ps os c (attached (instance_shape ps os c) (extra ps os)) (extra ps os)

  -- a call, likewise
  pub called_more : (k m : ℕ) → k ≤ m → (os : List ℕ) (l : Unfold) → Leads (called limit (ev limit lay k) os l) (called limit (ev limit lay m) os l)
  called_more k m h os l = called_leads limit lay (ev limit lay k) (ev limit lay m) (ev_more k m h) os l

  -- not spent, where the resolution is not
  mapped_unspent : {A B : Type 0} (f : A → B) (r : Result A) → Unspent r → Unspent (mapped f r)
  unfolding mapped
  mapped_unspent f (ok a) u = tt
  mapped_unspent f (fault e) u = tt
  mapped_unspent f spent u = u

  pub ev_unspent : (k : ℕ) (c : Cty) → Unspent (resolve_checked limit lay k c) → Unspent (ev limit lay k [] [] c)
  ev_unspent k c u = subst Unspent (ev_resolves limit lay k c) (mapped_unspent _ (resolve_checked limit lay k c) u)
