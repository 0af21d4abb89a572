-- Types that are not closed: a variable that its declaration does not bind has one node, as `TAny` has, so
-- closing changes no outcome. And from what the code answers to what the checked resolution gives.
-- Assumes nothing.
use Rattle.std.specs.Prelude.{◌≡◌, Bool, eqb, ltb, length}
use Rattle.std.proofs.Math.Path.{refl, ap, ap₂, fun_ext}
use Rattle.std.proofs.Common.{sym, ◌∙◌, subst, arith, le-leb, eqb-true}
use mathlib.Core.List.{List, [], ◌∷◌, ◌++◌}
use Rattle.std.proofs.Math.Bool.{true, false}
use Prim.Native.Nat.{ℕ, zero, suc, ◌+◌, ◌≤◌}
use Rattle.std.proofs.lemmas.Bool.{eqb-false}
use Rattle.number_columns.specs.Column.{pick}
use Rattle.model.specs.Cty.{Cty, Ctys, TUnit, TAny, TExn, TVar, TInt, TFloat, TConst, TArrow, TApp, TTuple, TBuf, TRef, TInline, nil, cons, others, walk, walks, zip, subst_cty}
use Rattle.model.specs.Decl.{member, close}
use Rattle.model.specs.Resolve.{Unfold, gone, newtype, abbreviation, stays, attach, Result, ok, fault, spent, bind, resolve_checked}
use Rattle.model_laws.specs.Cty.{attach_nil, subst_none}
use Rattle.model_laws.specs.Resolve.{Unspent}
use Rattle.resolve_outcomes.specs.Outcome.{coded, nodes, head, other, app, one, outcome, mapped, shapes, total, attached, built, argument, weight, weights, instance_head, instance_shape, Next, extra, surplus_called, called, eval, evals, entered, ev}
use Rattle.resolve_outcomes.specs.Answer.{nine, answer, Told}
use Rattle.resolve_outcomes.proofs.Laws.Ev.{ev_law}
use Rattle.resolve_outcomes.proofs.Laws.Fuel.{leads_unspent}
use Rattle.keep_layouts.specs.States.{closed}

argument_unbound : (ps os : List ℕ) (v : ℕ) → member v ps ≡ false → argument ps os v ≡ one
unfolding member argument
argument_unbound [] os v h = refl
argument_unbound (p ∷ ps) [] v h = refl
argument_unbound (p ∷ ps) (o ∷ os) v h = go (eqb p v) h (argument_unbound ps os v)
  where
    go : (b : Bool) → pick b true (member v ps) ≡ false → (member v ps ≡ false → argument ps os v ≡ one) → pick b o (argument ps os v) ≡ one
    go true q ih = let z : ◌≡◌ {A = ℕ} 0 1 = cc in absurd (omega arith)
    go false q ih = ih q

-- one node, whatever is attached
one_attached : (es : List ℕ) → attached one es ≡ one
unfolding attached head
one_attached es = refl

built_one : (limit : ℕ) → 1 ≤ limit → built limit [] other ≡ ok one
unfolding built total coded
built_one limit h = ap (λ (b : Bool). elim b [ true ↦ ok one | false ↦ fault 10 ]) (le-leb 1 limit h)

-- what is bound is bound by the parameters
abbrev Bound : List ℕ → List ℕ → List ℕ → Type 0
Bound qs ps os = (v : ℕ) → member v qs ≡ false → argument ps os v ≡ one

module _ (qs ps os : List ℕ) (bound : Bound qs ps os) where
  one_node : (v : ℕ) → member v qs ≡ false → 1 ≡ nodes (argument ps os v)
  unfolding nodes
  one_node v e = ap nodes (sym (bound v e))

  mutual
    unfolding close walk weight

    weight_close : (c : Cty) → weight ps os (close qs c) ≡ weight ps os c
    weight_close TUnit = refl
    weight_close TAny = refl
    weight_close TExn = refl
    weight_close (TVar v) = go (member v qs) refl
      where
        go : (b : Bool) → member v qs ≡ b → weight ps os (pick b (TVar v) TAny) ≡ nodes (argument ps os v)
        go true e = refl
        go false e = one_node v e
    weight_close (TInt s w) = refl
    weight_close (TFloat f) = refl
    weight_close (TConst c) = refl
    weight_close (TArrow a e b) = ap₂ (λ (x y : ℕ). 1 + (x + y)) (weight_close a) (weight_close b)
    weight_close (TApp n ts) = ap (λ (x : ℕ). 1 + x) (weights_close ts)
    weight_close (TTuple ts) = ap (λ (x : ℕ). 1 + x) (weights_close ts)
    weight_close (TBuf t) = ap (λ (x : ℕ). 1 + x) (weight_close t)
    weight_close (TRef k t) = ap (λ (x : ℕ). 1 + x) (weight_close t)
    weight_close (TInline t) = ap (λ (x : ℕ). 1 + x) (weight_close t)

    weights_close : (ts : Ctys) → weights ps os (walks (λ v. pick (member v qs) (TVar v) TAny) TApp ts) ≡ weights ps os ts
    weights_close nil = refl
    weights_close (cons t ts) = ap₂ (λ (x y : ℕ). x + y) (weight_close t) (weights_close ts)

  other_head : (v : ℕ) → member v qs ≡ false → other ≡ head (argument ps os v)
  unfolding head
  other_head v e = ap head (sym (bound v e))

  head_close : (c : Cty) → instance_head ps os (close qs c) ≡ instance_head ps os c
  unfolding close walk instance_head
  head_close TUnit = refl
  head_close TAny = refl
  head_close TExn = refl
  head_close (TVar v) = go (member v qs) refl
    where
      go : (b : Bool) → member v qs ≡ b → instance_head ps os (pick b (TVar v) TAny) ≡ head (argument ps os v)
      go true e = refl
      go false e = other_head v e
  head_close (TInt s w) = refl
  head_close (TFloat f) = refl
  head_close (TConst c) = refl
  head_close (TArrow a e b) = refl
  head_close (TApp n ts) = refl
  head_close (TTuple ts) = refl
  head_close (TBuf t) = refl
  head_close (TRef k t) = refl
  head_close (TInline t) = refl

  shape_close : (c : Cty) → instance_shape ps os (close qs c) ≡ instance_shape ps os c
  unfolding instance_shape
  shape_close c = ap₂ coded (weight_close c) (head_close c)

-- ---- one level
module _ (limit : ℕ) (room : 1 ≤ limit) (lay : ℕ → Unfold) (next next' : Next) (ih : (ps os : List ℕ) (c : Cty) → next' ps os (close ps c) ≡ next ps os c) where
  surplus_close : (ps os : List ℕ) (c : Cty) (es : List ℕ) → surplus_called next' ps os (close ps c) es ≡ surplus_called next ps os c es
  unfolding surplus_called
  surplus_close ps os c [] = ih ps os c
  surplus_close ps os c (e ∷ es) =
      ap₂ (λ (h : ℕ) (r : Result ℕ). elim (eqb h app) [ true ↦ r | false ↦ fault 9 ]) (head_close ps ps os (argument_unbound ps os) c) (ih ps os c)

  called_close : (os : List ℕ) (l : Unfold) → called limit next' os (closed l) ≡ called limit next os l
  unfolding called closed
  called_close os gone = refl
  called_close os (newtype ps c) = ap (λ (r : Result ℕ). elim (eqb (length os) (length ps)) [ true ↦ r | false ↦ fault 9 ]) (ih ps os c)
  called_close os (abbreviation ps c) =
      ap (λ (r : Result ℕ). elim (ltb (length os) (length ps)) [ true ↦ fault 9 | false ↦ r ]) (surplus_close ps os c (extra ps os))
  called_close os stays = refl

  module _ (qs ps os : List ℕ) (bound : Bound qs ps os) where
    abbrev E : Cty → List ℕ → Result ℕ
    E = eval limit lay next ps os

    abbrev E' : Cty → List ℕ → Result ℕ
    E' = eval limit (λ n. closed (lay n)) next' ps os

    var_close : (v : ℕ) (es : List ℕ) (b : Bool) → member v qs ≡ b → E' (pick b (TVar v) TAny) es ≡ ok (attached (argument ps os v) es)
    unfolding eval
    var_close v es true e = refl
    var_close v es false e = built_one limit room ∙ ap ok (sym (ap (λ (o : ℕ). attached o es) (bound v e) ∙ one_attached es))

    mutual
      unfolding close walk eval

      eval_close : (c : Cty) (es : List ℕ) → E' (close qs c) es ≡ E c es
      eval_close TUnit es = refl
      eval_close TAny es = refl
      eval_close TExn es = refl
      eval_close (TVar v) es = var_close v es (member v qs) refl
      eval_close (TInt s w) es = refl
      eval_close (TFloat f) es = refl
      eval_close (TConst c) es = refl
      eval_close (TArrow a e b) es = ap₂ (λ (r s : Result ℕ). bind r (λ x. bind s (λ y. built limit (x ∷ y ∷ []) other))) (eval_close a []) (eval_close b [])
      eval_close (TApp n ts) es = ap (λ (r : Result (List ℕ)). bind r (λ xs. called limit next' (xs ++ es) (closed (lay n)))) (evals_close ts)
          ∙ ap (λ (f : List ℕ → Result ℕ). bind (evals limit lay next ps os ts) f) (fun_ext (λ xs. called_close (xs ++ es) (lay n)))
      eval_close (TTuple ts) es = ap (λ (r : Result (List ℕ)). bind r (λ xs. built limit xs other)) (evals_close ts)
      eval_close (TBuf t) es = ap (λ (r : Result ℕ). bind r (λ x. built limit (x ∷ []) other)) (eval_close t [])
      eval_close (TRef k t) es = ap (λ (r : Result ℕ). bind r (λ x. built limit (x ∷ []) other)) (eval_close t [])
      eval_close (TInline t) es = ap (λ (r : Result ℕ). bind r (λ x. built limit (x ∷ []) other)) (eval_close t [])

      evals_close : (ts : Ctys) → evals limit (λ n. closed (lay n)) next' ps os (walks (λ v. pick (member v qs) (TVar v) TAny) TApp ts) ≡ evals limit lay next ps os ts
      evals_close nil = refl
      evals_close (cons t ts) =
          ap₂ (λ (r : Result ℕ) (s : Result (List ℕ)). bind r (λ x. bind s (λ xs. ok (x ∷ xs)))) (eval_close t []) (evals_close ts)

-- closing changes no outcome
module _ (limit : ℕ) (room : 1 ≤ limit) (lay : ℕ → Unfold) where
  pub ev_close : (k : ℕ) (qs ps os : List ℕ) (c : Cty) → Bound qs ps os → ev limit (λ n. closed (lay n)) k ps os (close qs c) ≡ ev limit lay k ps os c
  unfolding ev
  ev_close zero qs ps os c h = refl
  ev_close (suc k) qs ps os c h =
      ap₂ (λ (o : ℕ) (r : Result ℕ). entered limit (attached o (extra ps os)) r) (shape_close qs ps os h c)
      (eval_close limit room lay (ev limit lay k) (ev limit (λ n. closed (lay n)) k) (λ rs us d. ev_close k rs rs us d (argument_unbound rs us)) qs ps os h c (extra ps os))

-- ---- to the checked resolution
none_bound : (qs ps : List ℕ) → Bound qs ps []
unfolding argument
none_bound qs [] v h = refl
none_bound qs (p ∷ ps) v h = refl

zip_nil : (ps : List ℕ) → zip ps nil ≡ []
unfolding zip
zip_nil [] = refl
zip_nil (p ∷ ps) = refl

others_nil : (n : ℕ) → others n nil ≡ nil
unfolding others
others_nil zero = refl
others_nil (suc n) = refl

outcome_unspent : (r : Result Cty) → Unspent r → Unspent (outcome r)
unfolding mapped
outcome_unspent (ok t) u = tt
outcome_unspent (fault e) u = tt
outcome_unspent spent u = u

-- the checked resolution of a type closed by qs, where each name becomes what is lent, closed
module _ (limit : ℕ) (room : 1 ≤ limit) (lay raw : ℕ → Unfold) (same : (n : ℕ) → lay n ≡ closed (raw n)) (qs ps : List ℕ) (c : Cty) where
  pub resolved_is : (k : ℕ) → outcome (resolve_checked limit lay k (close qs c)) ≡ ev limit raw k ps [] c
  unfolding shapes
  resolved_is k =
      ap (λ (t : Cty). outcome (resolve_checked limit lay k t)) (sym (ap₂ (λ s (us : Ctys). attach (subst_cty s (close qs c)) us) (zip_nil ps) (others_nil (length ps)) ∙ (attach_nil (subst_cty [] (close qs c)) ∙ subst_none (close qs c))))
      ∙ (ev_law limit lay k ps nil (close qs c) tt
      ∙ (ap (λ (l : ℕ → Unfold). ev limit l k ps [] (close qs c)) (fun_ext same) ∙ ev_close limit room raw k qs ps [] c (none_bound qs ps)))

  unspent_is : (k : ℕ) → Unspent (resolve_checked limit lay k (close qs c)) → Unspent (ev limit raw k ps [] c)
  unspent_is k u = subst Unspent (resolved_is k) (outcome_unspent (resolve_checked limit lay k (close qs c)) u)

  -- What the code answers with fuel k and room enough is the outcome with fuel m, where neither is spent.
  pub answered_is : (k m : ℕ) (Short : Type 0) (r : ℕ) → Told (λ j. ev limit raw j ps [] c) k r Short r → (Short → ⊥)
      → Unspent (resolve_checked limit lay k (close qs c)) → Unspent (resolve_checked limit lay m (close qs c))
      → (nine ≤ r) × (outcome (resolve_checked limit lay m (close qs c)) ≡ answer r r)
  answered_is k m Short r t none uk um =
      let d : nine ≤ r = decided (eqb r 0) refl (eqb r 1) refl in
      (d, resolved_is m ∙ leads_unspent (ev limit raw m ps [] c) (answer r r) (unspent_is m um) (t.knows d m))
    where
      decided : (x : Bool) → eqb r 0 ≡ x → (y : Bool) → eqb r 1 ≡ y → nine ≤ r
      decided true e y f = absurd (subst Unspent (t.unfuelled (eqb-true r 0 e)) (unspent_is k uk))
      decided false e true f = absurd (none (t.short (eqb-true r 1 f)))
      decided false e false f = omega (arith, eqb-false r 0 e, eqb-false r 1 f)
