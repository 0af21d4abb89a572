-- The evaluation over outcomes is the checked resolution: for every type, and every substitution by
-- resolved types of at most `limit` nodes, the outcome of resolving the instance is the evaluation at
-- the outcomes of the arguments. For any limit, any fuel and any account of what becomes of a name.
-- Assumes nothing.
use Rattle.std.specs.Prelude.{◌≡◌, Bool}
use Rattle.std.proofs.Math.Path.{refl, ap, ap₂, sym}
use Rattle.std.proofs.Common.{◌∙◌, subst, arith}
use mathlib.Core.List.{List, [], ◌∷◌, ◌++◌}
use Rattle.std.proofs.Math.Bool.{true, false}
use Prim.Native.Nat.{ℕ, zero, suc, ◌≤◌}
use Rattle.std.proofs.Math.Dec.{eqb, leb, ltb}
use Rattle.std.proofs.Math.ListN.{length}
use borrow.Author.Tests.{eqb-true, eq-eqb, ltb-false, leb-true, le-leb}
use Rattle.number_columns.specs.Column.{pick}
use Rattle.model.specs.Cty.{
  Binding,
  Cty,
  Ctys,
  TUnit,
  TAny,
  TExn,
  TVar,
  TInt,
  TFloat,
  TConst,
  TArrow,
  TApp,
  TTuple,
  TBuf,
  TRef,
  TInline,
  nil,
  cons,
  lengths,
  append,
  firsts,
  others,
  walk,
  walks,
  size,
  sizes,
  zip,
  look,
  subst_cty,
}
use Rattle.model.specs.Resolve.{
  Unfold,
  gone,
  newtype,
  abbreviation,
  stays,
  attach,
  instance,
  Result,
  ok,
  fault,
  spent,
  bind,
  sized,
  within,
  is_app,
  surplus,
  checked_applied,
  checked,
  checkeds,
  resolve_checked,
}
use Rattle.model_laws.specs.Cty.{Any, Alls, append_nil, lengths_firsts, others_none, attach_nil, attach_each, look_each, size_positive, subst_none}
use Rattle.model_laws.specs.Resolve.{On, Row, on_map, bind_on, Stays, Normal, resolve_sound, checked_stays}
use Rattle.resolve_outcomes.specs.Outcome.{coded, nodes, other, app, shape, shapes, mapped, outcome, total, attached, built, argument, instance_shape, surplus_called, called, eval, evals, entered, ev}
use Rattle.resolve_outcomes.proofs.Laws.Shape.{
  nodes_shape,
  total_shapes,
  length_shapes,
  shapes_append,
  sizes_append,
  drop_shapes,
  shape_attach,
  attached_none,
  shape_look,
  shape_subst,
  app_subst,
  zip_firsts,
}

-- ---- results
pub bind_assoc : {A B C : Type 0} (r : Result A) (f : A → Result B) (g : B → Result C) → bind (bind r f) g ≡ bind r (λ a. bind (f a) g)
unfolding bind
bind_assoc (ok a) f g = refl
bind_assoc (fault e) f g = refl
bind_assoc spent f g = refl

-- the image of a result, step by step
mapped_bind : {A B C D : Type 0} (Q : A → Type 0) (p : A → B) (q : C → D) (r : Result A) (s : Result B) (f : A → Result C) (g : B → Result D)
    → On Q Any (Unit {0}) r → mapped p r ≡ s → ((a : A) → Q a → mapped q (f a) ≡ g (p a)) → mapped q (bind r f) ≡ bind s g
unfolding mapped bind
mapped_bind {A} {B} Q p q r s f g h e k = go r h ∙ ap (λ (x : Result B). bind x g) e
  where
    go : (x : Result A) → On Q Any (Unit {0}) x → mapped q (bind x f) ≡ bind (mapped p x) g
    go (ok a) u = k a u
    go (fault c) u = refl
    go spent u = refl

-- sizes of small nodes
one_part : (x : Cty) (n : ℕ) → n ≡ suc (size x) → n ≡ suc (total (shape x ∷ []))
unfolding total
one_part x n e = omega (arith, nodes_shape x)

two_parts : (x y : Cty) (e : ℕ) → size (TArrow x e y) ≡ suc (total (shape x ∷ shape y ∷ []))
unfolding total size
two_parts x y e = omega (arith, nodes_shape x, nodes_shape y)

tuple_parts : (ts : Ctys) → size (TTuple ts) ≡ suc (total (shapes ts))
unfolding size
tuple_parts ts = omega (arith, total_shapes ts)

mapped_cons : (t : Cty) (ts : Ctys) → mapped shapes (ok (cons t ts)) ≡ ok (shape t ∷ shapes ts)
unfolding mapped shapes
mapped_cons t ts = refl

parts_small : {limit : ℕ} (n : ℕ) (ts es : Ctys) → size (TApp n (append ts es)) ≤ limit → sizes ts ≤ limit
unfolding size
parts_small n ts es h = omega (arith, sizes_append ts es)

module _ (limit : ℕ) where
  -- measured on the way out
  sized_built : (t : Cty) (os : List ℕ) (h : ℕ) → size t ≡ suc (total os) → pick (is_app t) app other ≡ h → outcome (sized limit t) ≡ built limit os h
  unfolding sized built shape mapped
  sized_built t os h e f =
      go (leb (size t) limit) (ap₂ coded e f) ∙ ap (λ (n : ℕ). elim (leb n limit) [ true ↦ ok (coded (suc (total os)) h) | false ↦ fault 10 ]) e
    where
      go : (b : Bool) → coded (size t) (pick (is_app t) app other) ≡ coded (suc (total os)) h → mapped (λ u. coded (size u) (pick (is_app u) app other)) (pick b (ok t) (fault 10)) ≡ elim b [ true ↦ ok (coded (suc (total os)) h) | false ↦ fault 10 ]
      go true x = ap ok x
      go false x = refl

  -- what is small on the way in is measured on the way out alone
  within_small : (c : Cty) (r : Result Cty) → size c ≤ limit → within limit c r ≡ bind r (sized limit)
  unfolding within
  within_small c r h = ap (λ (b : Bool). elim b [ true ↦ bind r (sized limit) | false ↦ fault 10 ]) (le-leb (size c) limit h)

  within_large : (c : Cty) (r : Result Cty) → leb (size c) limit ≡ false → within limit c r ≡ fault 10
  unfolding within
  within_large c r h = ap (λ (b : Bool). elim b [ true ↦ bind r (sized limit) | false ↦ fault 10 ]) h

  -- what is small is not changed by being measured
  sized_again : (r : Result Cty) → On (λ t. size t ≤ limit) Any (Unit {0}) r → bind r (sized limit) ≡ r
  unfolding bind sized
  sized_again (ok t) h = ap (λ (b : Bool). pick b (ok t) (fault 10)) (le-leb (size t) limit h)
  sized_again (fault e) h = refl
  sized_again spent h = refl

  checked_large : (lay : ℕ → Unfold) (next : Cty → Result Cty) (c : Cty) → leb (size c) limit ≡ false → checked limit lay next c ≡ fault 10
  unfolding checked
  checked_large lay next TUnit h = within_large TUnit _ h
  checked_large lay next TAny h = within_large TAny _ h
  checked_large lay next TExn h = within_large TExn _ h
  checked_large lay next (TVar v) h = within_large (TVar v) _ h
  checked_large lay next (TInt s w) h = within_large (TInt s w) _ h
  checked_large lay next (TFloat f) h = within_large (TFloat f) _ h
  checked_large lay next (TConst c) h = within_large (TConst c) _ h
  checked_large lay next (TArrow a e b) h = within_large (TArrow a e b) _ h
  checked_large lay next (TApp n ts) h = within_large (TApp n ts) _ h
  checked_large lay next (TTuple ts) h = within_large (TTuple ts) _ h
  checked_large lay next (TBuf t) h = within_large (TBuf t) _ h
  checked_large lay next (TRef k t) h = within_large (TRef k t) _ h
  checked_large lay next (TInline t) h = within_large (TInline t) _ h

-- ---- resolved and small
module _ (limit : ℕ) (lay : ℕ → Unfold) where
  abbrev pub Fine : Cty → Type 0
  Fine t = Normal lay t × (size t ≤ limit)

  abbrev pub Fines : Ctys → Type 0
  Fines nil = Unit {0}
  Fines (cons t ts) = Fine t × Fines ts

  fines_stay : (ts : Ctys) → Fines ts → Alls (Stays lay) ts
  fines_stay nil h = tt
  fines_stay (cons t ts) h = (h.0.0, fines_stay ts h.1)

  fines_append : (ts us : Ctys) → Fines ts → Fines us → Fines (append ts us)
  unfolding append
  fines_append nil us h k = k
  fines_append (cons t ts) us h k = (h.0, fines_append ts us h.1 k)

  fines_others : (n : ℕ) (ts : Ctys) → Fines ts → Fines (others n ts)
  unfolding others
  fines_others zero ts h = h
  fines_others (suc n) nil h = tt
  fines_others (suc n) (cons t ts) h = fines_others n ts h.1

  module _ (k : ℕ) where
    abbrev next₀ : Cty → Result Cty
    next₀ = resolve_checked limit lay k

    checked_fine : (c : Cty) → On Fine Any (Unit {0}) (checked limit lay next₀ c)
    unfolding resolve_checked
    checked_fine c =
        on_map _ Fine Row Any (Unit {0}) (Unit {0}) (λ t p. (p.0.1, p.1)) (λ e p. tt) (λ u. u) (resolve_checked limit lay (suc k) c) (resolve_sound lay limit (suc k) c)

    checkeds_fine : (ts : Ctys) → On Fines Any (Unit {0}) (checkeds limit lay next₀ ts)
    unfolding checkeds
    checkeds_fine nil = tt
    checkeds_fine (cons t ts) =
        bind_on Fine Fines Any (Unit {0}) (checked limit lay next₀ t) (λ x. bind (checkeds limit lay next₀ ts) (λ xs. ok (cons x xs))) (checked_fine t)
        (λ x p. bind_on Fines Fines Any (Unit {0}) (checkeds limit lay next₀ ts) (λ xs. ok (cons x xs)) (checkeds_fine ts) (λ xs q. (p, q)))

    -- resolved types are left as they are
    level_stays : (t : Cty) → Fine t → checked limit lay next₀ t ≡ ok t
    unfolding resolve_checked
    level_stays t h = checked_stays lay limit k t h.0 h.1

    checkeds_stay : (ts : Ctys) → Fines ts → checkeds limit lay next₀ ts ≡ ok ts
    unfolding checkeds bind
    checkeds_stay nil h = refl
    checkeds_stay (cons t ts) h =
        ap₂ (λ (r : Result Cty) (s : Result Ctys). bind r (λ x. bind s (λ xs. ok (cons x xs)))) (level_stays t h.0) (checkeds_stay ts h.1)

    checkeds_append : (ts es : Ctys) → Fines es → checkeds limit lay next₀ (append ts es) ≡ bind (checkeds limit lay next₀ ts) (λ xs. ok (append xs es))
    unfolding checkeds append bind
    checkeds_append nil es h = checkeds_stay es h
    checkeds_append (cons t ts) es h =
        ap (λ (s : Result Ctys). bind (checked limit lay next₀ t) (λ x. bind s (λ xs. ok (cons x xs)))) (checkeds_append ts es h)
        ∙ go (checked limit lay next₀ t) (checkeds limit lay next₀ ts)
      where
        go : (r : Result Cty) (s : Result Ctys) → bind r (λ x. bind (bind s (λ xs. ok (append xs es))) (λ xs. ok (cons x xs))) ≡ bind (bind r (λ x. bind s (λ xs. ok (cons x xs)))) (λ xs. ok (append xs es))
        go (ok x) (ok xs) = refl
        go (ok x) (fault e) = refl
        go (ok x) spent = refl
        go (fault e) s = refl
        go spent s = refl

    next_small : (c : Cty) → bind (next₀ c) (sized limit) ≡ next₀ c
    next_small c = sized_again limit (next₀ c) (on_map _ (λ t. size t ≤ limit) Row Any (Unit {0}) (Unit {0}) (λ t p. p.1) (λ e p. tt) (λ u. u) (next₀ c) (resolve_sound lay limit k c))

    -- ---- a name with its arguments
    module _ (ih : (ps : List ℕ) (us : Ctys) (c : Cty) → Fines us
        → outcome (next₀ (attach (subst_cty (zip ps us) c) (others (length ps) us))) ≡ ev limit lay k ps (shapes us) c) where
      abbrev next₁ : List ℕ → List ℕ → Cty → Result ℕ
      next₁ = ev limit lay k

      module _ (ps : List ℕ) (us : Ctys) (c : Cty) (fines : Fines us) where
        abbrev inst : Cty
        inst = subst_cty (zip ps us) c

        entered_law : (vs : Ctys) → others (length ps) us ≡ vs → outcome (bind (next₀ (attach inst vs)) (sized limit)) ≡ next₁ ps (shapes us) c
        entered_law vs e =
            ap outcome (next_small (attach inst vs)) ∙ (ap (λ (xs : Ctys). outcome (next₀ (attach inst xs))) (sym e) ∙ ih ps us c fines)

        surplus_law : (vs : Ctys) → others (length ps) us ≡ vs → outcome (bind (surplus next₀ inst vs) (sized limit)) ≡ surplus_called next₁ ps (shapes us) c (shapes vs)
        unfolding surplus surplus_called shapes bind mapped
        surplus_law nil e = ap (λ (t : Cty). outcome (bind (next₀ t) (sized limit))) (sym (attach_nil inst)) ∙ entered_law nil e
        surplus_law (cons v vs) e =
            go (is_app inst) (entered_law (cons v vs) e)
            ∙ ap (λ (b : Bool). elim b [ true ↦ next₁ ps (shapes us) c | false ↦ fault 9 ]) (sym (app_subst ps us c))
          where
            go : (b : Bool) → outcome (bind (next₀ (attach inst (cons v vs))) (sized limit)) ≡ next₁ ps (shapes us) c
                → outcome (bind (elim b [ true ↦ next₀ (attach inst (cons v vs)) | false ↦ fault 9 ]) (sized limit)) ≡ elim b [ true ↦ next₁ ps (shapes us) c | false ↦ fault 9 ]
            go true q = q
            go false q = refl

        -- the instance, with the counts as they are
        instance_all : lengths us ≡ length ps → instance ps us c ≡ inst
        unfolding instance
        instance_all e = ap (λ (b : Bool). subst_cty (pick b (zip ps us) []) c) (eq-eqb (length ps) (lengths us) (sym e))

        instance_firsts : length ps ≤ lengths us → instance ps (firsts (length ps) us) c ≡ inst
        unfolding instance
        instance_firsts h =
            ap (λ (b : Bool). subst_cty (pick b (zip ps (firsts (length ps) us)) []) c) (eq-eqb (length ps) (lengths (firsts (length ps) us)) (sym (lengths_firsts (length ps) us h)))
            ∙ ap (λ s. subst_cty s c) (zip_firsts ps us)

        newtype_law : (n : ℕ) → outcome (bind (checked_applied next₀ n us (newtype ps c)) (sized limit)) ≡ called limit next₁ (shapes us) (newtype ps c)
        unfolding checked_applied called bind mapped
        newtype_law n =
            go (eqb (lengths us) (length ps)) refl
            ∙ ap (λ (m : ℕ). elim (eqb m (length ps)) [ true ↦ next₁ ps (shapes us) c | false ↦ fault 9 ]) (sym (length_shapes us))
          where
            go : (b : Bool) → eqb (lengths us) (length ps) ≡ b
                → outcome (bind (elim b [ true ↦ next₀ (instance ps us c) | false ↦ fault 9 ]) (sized limit)) ≡ elim b [ true ↦ next₁ ps (shapes us) c | false ↦ fault 9 ]
            go true e =
                let q : lengths us ≡ length ps = eqb-true (lengths us) (length ps) e in
                ap (λ (t : Cty). outcome (bind (next₀ t) (sized limit))) (instance_all q ∙ sym (attach_nil inst)) ∙ entered_law nil (others_none (length ps) us (omega arith))
            go false e = refl

        abbreviation_law : (n : ℕ) → outcome (bind (checked_applied next₀ n us (abbreviation ps c)) (sized limit)) ≡ called limit next₁ (shapes us) (abbreviation ps c)
        unfolding checked_applied called bind mapped
        abbreviation_law n =
            go (ltb (lengths us) (length ps)) refl
            ∙ ap₂ (λ (m : ℕ) (es : List ℕ). elim (ltb m (length ps)) [ true ↦ fault 9 | false ↦ surplus_called next₁ ps (shapes us) c es ]) (sym (length_shapes us)) (sym (drop_shapes (length ps) us))
          where
            go : (b : Bool) → ltb (lengths us) (length ps) ≡ b
                → outcome (bind (elim b [ true ↦ fault 9 | false ↦ surplus next₀ (instance ps (firsts (length ps) us) c) (others (length ps) us) ]) (sized limit))
                ≡ elim b [ true ↦ fault 9 | false ↦ surplus_called next₁ ps (shapes us) c (shapes (others (length ps) us)) ]
            go true e = refl
            go false e =
                ap (λ (t : Cty). outcome (bind (surplus next₀ t (others (length ps) us)) (sized limit))) (instance_firsts (ltb-false (lengths us) (length ps) e))
                ∙ surplus_law (others (length ps) us) refl

      called_law : (n : ℕ) (us : Ctys) → Fines us → 1 ≤ limit → (l : Unfold) → outcome (bind (checked_applied next₀ n us l) (sized limit)) ≡ called limit next₁ (shapes us) l
      unfolding checked_applied called bind sized mapped shape size coded
      called_law n us h p gone = ap outcome (ap (λ (b : Bool). pick b (ok TUnit) (fault 10)) (le-leb 1 limit p))
      called_law n us h p (newtype ps c) = newtype_law ps us c h n
      called_law n us h p (abbreviation ps c) = abbreviation_law ps us c h n
      called_law n us h p stays = sized_built limit (TApp n us) (shapes us) app (omega (arith, total_shapes us)) refl

      -- ---- one level
      -- a name with a surplus of resolved types
      app_law : (n : ℕ) (ts es : Ctys) (r : Result (List ℕ)) → Fines es → size (TApp n (append ts es)) ≤ limit → mapped shapes (checkeds limit lay next₀ ts) ≡ r
          → outcome (checked limit lay next₀ (TApp n (append ts es))) ≡ bind r (λ xs. called limit next₁ (xs ++ shapes es) (lay n))
      unfolding checked bind
      app_law n ts es r h q e =
          let f : Ctys → Result Cty = λ us. checked_applied next₀ n us (lay n) in
          ap outcome (within_small limit (TApp n (append ts es)) (bind (checkeds limit lay next₀ (append ts es)) f) q
          ∙ (bind_assoc (checkeds limit lay next₀ (append ts es)) f (sized limit)
          ∙ (ap (λ (s : Result Ctys). bind s (λ us. bind (f us) (sized limit))) (checkeds_append ts es h)
          ∙ bind_assoc (checkeds limit lay next₀ ts) (λ xs. ok (append xs es)) (λ us. bind (f us) (sized limit)))))
          ∙ mapped_bind Fines shapes shape (checkeds limit lay next₀ ts) r (λ xs. bind (f (append xs es)) (sized limit)) (λ xs. called limit next₁ (xs ++ shapes es) (lay n))
          (checkeds_fine ts) e
          (λ xs g. called_law n (append xs es) (fines_append xs es g h) (omega (arith, size_positive (TApp n (append ts es)))) (lay n)
          ∙ ap (λ (os : List ℕ). called limit next₁ os (lay n)) (shapes_append xs es))

      module _ (ps : List ℕ) (us : Ctys) (fines : Fines us) where
        abbrev s : List Binding
        s = zip ps us

        abbrev out : Cty → List ℕ → Result ℕ
        out = eval limit lay next₁ ps (shapes us)

        look_normal : (v : ℕ) → Normal lay (look s v)
        look_normal v = look_each Any (Stays lay) ps us v (fines_stay us fines) tt

        var_law : (v : ℕ) → size (look s v) ≤ limit → outcome (checked limit lay next₀ (look s v)) ≡ ok (attached (argument ps (shapes us) v) [])
        unfolding mapped
        var_law v q = ap outcome (level_stays (look s v) (look_normal v, q)) ∙ ap ok (shape_look ps us v ∙ sym (attached_none (argument ps (shapes us) v)))

        leaf_law : (c : Cty) → size c ≤ limit → size c ≡ 1 → is_app c ≡ false → outcome (within limit c (ok c)) ≡ built limit [] other
        unfolding bind total
        leaf_law c q n a = ap outcome (within_small limit c (ok c) q) ∙ sized_built limit c [] other n (ap (λ (b : Bool). pick b app other) a)

        -- a node over one part
        part_law : (c t : Cty) (f : Cty → Cty) (r : Result ℕ) → size c ≤ limit → ((x : Cty) → size (f x) ≡ suc (size x)) → ((x : Cty) → is_app (f x) ≡ false)
            → outcome (checked limit lay next₀ t) ≡ r
            → outcome (within limit c (bind (checked limit lay next₀ t) (λ x. ok (f x)))) ≡ bind r (λ x. built limit (x ∷ []) other)
        unfolding bind
        part_law c t f r q n a e =
            ap outcome (within_small limit c (bind (checked limit lay next₀ t) (λ x. ok (f x))) q
            ∙ bind_assoc (checked limit lay next₀ t) (λ x. ok (f x)) (sized limit))
            ∙ mapped_bind Fine shape shape (checked limit lay next₀ t) r (λ x. sized limit (f x)) (λ x. built limit (x ∷ []) other) (checked_fine t) e
            (λ x g. sized_built limit (f x) (shape x ∷ []) other (one_part x (size (f x)) (n x)) (ap (λ (b : Bool). pick b app other) (a x)))

        arrow_law : (a : Cty) (e : ℕ) (b : Cty) (r₁ r₂ : Result ℕ) → size (TArrow a e b) ≤ limit → outcome (checked limit lay next₀ a) ≡ r₁ → outcome (checked limit lay next₀ b) ≡ r₂
            → outcome (checked limit lay next₀ (TArrow a e b)) ≡ bind r₁ (λ x. bind r₂ (λ y. built limit (x ∷ y ∷ []) other))
        unfolding checked bind
        arrow_law a e b r₁ r₂ q e₁ e₂ =
            let f : Cty → Result Cty = λ x. bind (checked limit lay next₀ b) (λ y. ok (TArrow x e y)) in
            ap outcome (within_small limit (TArrow a e b) (bind (checked limit lay next₀ a) f) q
            ∙ bind_assoc (checked limit lay next₀ a) f (sized limit))
            ∙ mapped_bind Fine shape shape (checked limit lay next₀ a) r₁ (λ x. bind (f x) (sized limit)) (λ x. bind r₂ (λ y. built limit (x ∷ y ∷ []) other)) (checked_fine a) e₁
            (λ x g. ap outcome (bind_assoc (checked limit lay next₀ b) (λ y. ok (TArrow x e y)) (sized limit))
            ∙ mapped_bind Fine shape shape (checked limit lay next₀ b) r₂ (λ y. sized limit (TArrow x e y)) (λ y. built limit (shape x ∷ y ∷ []) other) (checked_fine b) e₂
            (λ y h. sized_built limit (TArrow x e y) (shape x ∷ shape y ∷ []) other (two_parts x y e) refl))

        tuple_law : (ts : Ctys) (r : Result (List ℕ)) → size (TTuple ts) ≤ limit → mapped shapes (checkeds limit lay next₀ ts) ≡ r
            → outcome (checked limit lay next₀ (TTuple ts)) ≡ bind r (λ xs. built limit xs other)
        unfolding checked bind
        tuple_law ts r q e =
            ap outcome (within_small limit (TTuple ts) (bind (checkeds limit lay next₀ ts) (λ xs. ok (TTuple xs))) q
            ∙ bind_assoc (checkeds limit lay next₀ ts) (λ xs. ok (TTuple xs)) (sized limit))
            ∙ mapped_bind Fines shapes shape (checkeds limit lay next₀ ts) r (λ xs. sized limit (TTuple xs)) (λ xs. built limit xs other) (checkeds_fine ts) e
            (λ xs h. sized_built limit (TTuple xs) (shapes xs) other (tuple_parts xs) refl)

        cons_law : (t : Cty) (ts : Ctys) (r : Result ℕ) (rs : Result (List ℕ)) → outcome (checked limit lay next₀ t) ≡ r → mapped shapes (checkeds limit lay next₀ ts) ≡ rs
            → mapped shapes (checkeds limit lay next₀ (cons t ts)) ≡ bind r (λ x. bind rs (λ xs. ok (x ∷ xs)))
        unfolding checkeds
        cons_law t ts r rs e es =
            mapped_bind Fine shape shapes (checked limit lay next₀ t) r (λ x. bind (checkeds limit lay next₀ ts) (λ xs. ok (cons x xs))) (λ x. bind rs (λ xs. ok (x ∷ xs))) (checked_fine t) e
            (λ x g. mapped_bind Fines shapes shapes (checkeds limit lay next₀ ts) rs (λ xs. ok (cons x xs)) (λ xs. ok (shape x ∷ xs)) (checkeds_fine ts) es (λ xs h. mapped_cons x xs))

        mutual
          unfolding subst_cty walk size checked eval shapes mapped

          eval_law : (c : Cty) → size (subst_cty s c) ≤ limit → outcome (checked limit lay next₀ (subst_cty s c)) ≡ out c []
          eval_law TUnit q = leaf_law TUnit q refl refl
          eval_law TAny q = leaf_law TAny q refl refl
          eval_law TExn q = leaf_law TExn q refl refl
          eval_law (TVar v) q = var_law v q
          eval_law (TInt g w) q = leaf_law (TInt g w) q refl refl
          eval_law (TFloat f) q = leaf_law (TFloat f) q refl refl
          eval_law (TConst c) q = leaf_law (TConst c) q refl refl
          eval_law (TArrow a e b) q =
              arrow_law (subst_cty s a) e (subst_cty s b) (out a []) (out b []) q (eval_law a (omega arith)) (eval_law b (omega arith))
          eval_law (TApp n ts) q =
              let r : append (walks (look s) TApp ts) nil ≡ walks (look s) TApp ts = append_nil (walks (look s) TApp ts) in
              ap (λ (xs : Ctys). outcome (checked limit lay next₀ (TApp n xs))) (sym r)
              ∙ app_law n (walks (look s) TApp ts) nil (evals limit lay next₁ ps (shapes us) ts) tt (subst (λ (xs : Ctys). size (TApp n xs) ≤ limit) (sym r) q) (evals_law ts (omega arith))
          eval_law (TTuple ts) q = tuple_law (walks (look s) TApp ts) (evals limit lay next₁ ps (shapes us) ts) q (evals_law ts (omega arith))
          eval_law (TBuf t) q = part_law (TBuf (subst_cty s t)) (subst_cty s t) TBuf (out t []) q (λ x. omega arith) (λ x. refl) (eval_law t (omega arith))
          eval_law (TRef m t) q = part_law (TRef m (subst_cty s t)) (subst_cty s t) (TRef m) (out t []) q (λ x. omega arith) (λ x. refl) (eval_law t (omega arith))
          eval_law (TInline t) q = part_law (TInline (subst_cty s t)) (subst_cty s t) TInline (out t []) q (λ x. omega arith) (λ x. refl) (eval_law t (omega arith))

          evals_law : (ts : Ctys) → sizes (walks (look s) TApp ts) ≤ limit → mapped shapes (checkeds limit lay next₀ (walks (look s) TApp ts)) ≡ evals limit lay next₁ ps (shapes us) ts
          evals_law nil q = refl
          evals_law (cons t ts) q =
              cons_law (subst_cty s t) (walks (look s) TApp ts) (out t []) (evals limit lay next₁ ps (shapes us) ts) (eval_law t (omega arith)) (evals_law ts (omega arith))

      -- with the surplus attached
      module _ (ps : List ℕ) (us : Ctys) (fines : Fines us) where
        abbrev over : Ctys
        over = others (length ps) us

        abbrev law : Cty → Type 0
        law c = size (attach (subst_cty (zip ps us) c) over) ≤ limit
            → outcome (checked limit lay next₀ (attach (subst_cty (zip ps us) c) over)) ≡ eval limit lay next₁ ps (shapes us) c (shapes over)

        unfolding_law : (c : Cty) → law c
        unfolding subst_cty walk attach eval mapped
        unfolding_law TUnit q = eval_law ps us fines TUnit q
        unfolding_law TAny q = eval_law ps us fines TAny q
        unfolding_law TExn q = eval_law ps us fines TExn q
        unfolding_law (TVar v) q =
            ap outcome (level_stays (attach (look (zip ps us) v) over) (attach_each Any (Stays lay) (look (zip ps us) v) over (look_normal ps us fines v) (fines_stay over (fines_others (length ps) us fines)), q))
            ∙ ap ok (shape_attach (look (zip ps us) v) over ∙ ap (λ (o : ℕ). attached o (shapes over)) (shape_look ps us v))
        unfolding_law (TInt g w) q = eval_law ps us fines (TInt g w) q
        unfolding_law (TFloat f) q = eval_law ps us fines (TFloat f) q
        unfolding_law (TConst c) q = eval_law ps us fines (TConst c) q
        unfolding_law (TArrow a e b) q = eval_law ps us fines (TArrow a e b) q
        unfolding_law (TApp n ts) q =
            app_law n (walks (look (zip ps us)) TApp ts) over (evals limit lay next₁ ps (shapes us) ts) (fines_others (length ps) us fines) q
            (evals_law ps us fines ts (parts_small n (walks (look (zip ps us)) TApp ts) over q))
        unfolding_law (TTuple ts) q = eval_law ps us fines (TTuple ts) q
        unfolding_law (TBuf t) q = eval_law ps us fines (TBuf t) q
        unfolding_law (TRef m t) q = eval_law ps us fines (TRef m t) q
        unfolding_law (TInline t) q = eval_law ps us fines (TInline t) q

        -- measured first
        level_law : (c : Cty) → outcome (checked limit lay next₀ (attach (subst_cty (zip ps us) c) over)) ≡ ev limit lay (suc k) ps (shapes us) c
        unfolding ev entered mapped
        level_law c = go (leb (nodes (attached (instance_shape ps (shapes us) c) (shapes over))) limit) refl
            ∙ ap (λ (es : List ℕ). entered limit (attached (instance_shape ps (shapes us) c) es) (eval limit lay next₁ ps (shapes us) c es)) (sym (drop_shapes (length ps) us))
          where
            measured : nodes (attached (instance_shape ps (shapes us) c) (shapes over)) ≡ size (attach (subst_cty (zip ps us) c) over)
            measured =
                ap (λ (o : ℕ). nodes (attached o (shapes over))) (sym (shape_subst ps us c))
                ∙ (ap nodes (sym (shape_attach (subst_cty (zip ps us) c) over)) ∙ nodes_shape (attach (subst_cty (zip ps us) c) over))

            go : (b : Bool) → leb (nodes (attached (instance_shape ps (shapes us) c) (shapes over))) limit ≡ b
                → outcome (checked limit lay next₀ (attach (subst_cty (zip ps us) c) over)) ≡ elim b [ true ↦ eval limit lay next₁ ps (shapes us) c (shapes over) | false ↦ fault 10 ]
            go true e = unfolding_law c (leb-true _ limit (ap (λ (n : ℕ). leb n limit) (sym measured) ∙ e))
            go false e = ap outcome (checked_large limit lay next₀ (attach (subst_cty (zip ps us) c) over) (ap (λ (n : ℕ). leb n limit) (sym measured) ∙ e))

  -- The outcome of resolving an instance, its surplus attached, is the evaluation at the outcomes of the arguments.
  pub ev_law : (k : ℕ) (ps : List ℕ) (us : Ctys) (c : Cty) → Fines us
      → outcome (resolve_checked limit lay k (attach (subst_cty (zip ps us) c) (others (length ps) us))) ≡ ev limit lay k ps (shapes us) c
  unfolding resolve_checked ev mapped
  ev_law zero ps us c h = refl
  ev_law (suc k) ps us c h = level_law k (ev_law k) ps us h c

  -- of a type as it stands
  pub ev_resolves : (k : ℕ) (c : Cty) → outcome (resolve_checked limit lay k c) ≡ ev limit lay k [] [] c
  unfolding zip shapes others
  ev_resolves k c =
      ap (λ (t : Cty). outcome (resolve_checked limit lay k t)) (sym (attach_nil (subst_cty [] c) ∙ subst_none c)) ∙ ev_law k [] nil c tt
