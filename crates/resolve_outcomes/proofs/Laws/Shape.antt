-- Laws of outcomes: what a substitution, a surplus and a list of types do to them. Assumes nothing.
use Rattle.std.specs.Prelude.{◌≡◌, List, [], ◌∷◌, ◌++◌, Bool, true, false, ℕ, zero, suc, ◌+◌, ◌*◌, ◌<◌, eqb, length, drop}
use Rattle.std.proofs.Math.Path.{refl, ap, ap₂, sym}
use Rattle.std.proofs.Common.{◌∙◌, arith}
use Rattle.number_columns.specs.Column.{pick}
use Rattle.model.specs.Cty.{
  Binding,
  Cty,
  Ctys,
  TUnit,
  TAny,
  TExn,
  TVar,
  TInt,
  TFloat,
  TConst,
  TArrow,
  TApp,
  TTuple,
  TBuf,
  TRef,
  TInline,
  nil,
  cons,
  lengths,
  append,
  firsts,
  others,
  walk,
  walks,
  size,
  sizes,
  zip,
  look,
  subst_cty,
}
use Rattle.model.specs.Resolve.{attach, is_app}
use Rattle.resolve_outcomes.specs.Outcome.{coded, nodes, head, other, app, shape, shapes, total, attached, argument, weight, weights, instance_head, instance_shape}

-- ---- a number that is an outcome
abbrev Head : ℕ → Type 0
Head h = h < 4

pub nodes_coded : (n h : ℕ) → h < 4 → nodes (coded n h) ≡ n
unfolding nodes coded
nodes_coded n h p = omega arith

pub head_coded : (n h : ℕ) → h < 4 → head (coded n h) ≡ h
unfolding head coded
head_coded n h p = omega arith

pub coded_parts : (o : ℕ) → coded (nodes o) (head o) ≡ o
unfolding nodes head coded
coded_parts o = omega arith

head_of : (b : Bool) → pick b app other < 4
head_of true = omega arith
head_of false = omega arith

pub nodes_shape : (t : Cty) → nodes (shape t) ≡ size t
unfolding shape
nodes_shape t = nodes_coded (size t) (pick (is_app t) app other) (head_of (is_app t))

pub head_shape : (t : Cty) → head (shape t) ≡ pick (is_app t) app other
unfolding shape
head_shape t = head_coded (size t) (pick (is_app t) app other) (head_of (is_app t))

-- what the head tells
pub app_shape : (t : Cty) → eqb (head (shape t)) app ≡ is_app t
app_shape t = ap (λ (h : ℕ). eqb h app) (head_shape t) ∙ go (is_app t)
  where
    go : (b : Bool) → eqb (pick b app other) app ≡ b
    go true = refl
    go false = refl

-- ---- lists
pub total_shapes : (ts : Ctys) → total (shapes ts) ≡ sizes ts
unfolding total shapes sizes
total_shapes nil = refl
total_shapes (cons t ts) = ap₂ (λ (x y : ℕ). x + y) (nodes_shape t) (total_shapes ts)

pub length_shapes : (ts : Ctys) → length (shapes ts) ≡ lengths ts
unfolding shapes lengths
length_shapes nil = refl
length_shapes (cons t ts) = ap suc (length_shapes ts)

pub shapes_append : (ts us : Ctys) → shapes (append ts us) ≡ shapes ts ++ shapes us
unfolding shapes append
shapes_append nil us = refl
shapes_append (cons t ts) us = ap (λ (os : List ℕ). shape t ∷ os) (shapes_append ts us)

pub drop_shapes : (n : ℕ) (ts : Ctys) → drop n (shapes ts) ≡ shapes (others n ts)
unfolding shapes others
drop_shapes zero ts = refl
drop_shapes (suc n) nil = refl
drop_shapes (suc n) (cons t ts) = drop_shapes n ts

pub sizes_append : (ts us : Ctys) → sizes (append ts us) ≡ sizes ts + sizes us
unfolding append sizes
sizes_append nil us = omega arith
sizes_append (cons t ts) us = omega (arith, sizes_append ts us)

-- ---- a surplus
pub attached_none : (o : ℕ) → attached o [] ≡ o
unfolding attached total
attached_none o = go (eqb (head o) app)
  where
    go : (b : Bool) → pick b (o + 4 * 0) o ≡ o
    go true = omega arith
    go false = refl

pub attached_app : (o : ℕ) (es : List ℕ) → eqb (head o) app ≡ true → attached o es ≡ o + 4 * total es
unfolding attached
attached_app o es e = ap (λ (b : Bool). pick b (o + 4 * total es) o) e

pub attached_other : (o : ℕ) (es : List ℕ) → eqb (head o) app ≡ false → attached o es ≡ o
unfolding attached
attached_other o es e = ap (λ (b : Bool). pick b (o + 4 * total es) o) e

shape_more : (n : ℕ) (ts us : Ctys) → shape (TApp n (append ts us)) ≡ shape (TApp n ts) + 4 * total (shapes us)
unfolding shape coded size
shape_more n ts us = omega (arith, sizes_append ts us, total_shapes us)

pub shape_attach : (t : Cty) (us : Ctys) → shape (attach t us) ≡ attached (shape t) (shapes us)
unfolding attach
shape_attach TUnit us = sym (attached_other (shape TUnit) (shapes us) (app_shape TUnit))
shape_attach TAny us = sym (attached_other (shape TAny) (shapes us) (app_shape TAny))
shape_attach TExn us = sym (attached_other (shape TExn) (shapes us) (app_shape TExn))
shape_attach (TVar v) us = sym (attached_other (shape (TVar v)) (shapes us) (app_shape (TVar v)))
shape_attach (TInt s w) us = sym (attached_other (shape (TInt s w)) (shapes us) (app_shape (TInt s w)))
shape_attach (TFloat f) us = sym (attached_other (shape (TFloat f)) (shapes us) (app_shape (TFloat f)))
shape_attach (TConst c) us = sym (attached_other (shape (TConst c)) (shapes us) (app_shape (TConst c)))
shape_attach (TArrow a e b) us = sym (attached_other (shape (TArrow a e b)) (shapes us) (app_shape (TArrow a e b)))
shape_attach (TApp n ts) us = shape_more n ts us ∙ sym (attached_app (shape (TApp n ts)) (shapes us) (app_shape (TApp n ts)))
shape_attach (TTuple ts) us = sym (attached_other (shape (TTuple ts)) (shapes us) (app_shape (TTuple ts)))
shape_attach (TBuf t) us = sym (attached_other (shape (TBuf t)) (shapes us) (app_shape (TBuf t)))
shape_attach (TRef k t) us = sym (attached_other (shape (TRef k t)) (shapes us) (app_shape (TRef k t)))
shape_attach (TInline t) us = sym (attached_other (shape (TInline t)) (shapes us) (app_shape (TInline t)))

-- ---- instances
pub shape_look : (ps : List ℕ) (us : Ctys) (v : ℕ) → shape (look (zip ps us) v) ≡ argument ps (shapes us) v
unfolding look zip argument shapes shape coded size
shape_look [] us v = refl
shape_look (p ∷ ps) nil v = refl
shape_look (p ∷ ps) (cons u us) v = go (eqb p v) (shape_look ps us v)
  where
    go : (b : Bool) → shape (look (zip ps us) v) ≡ argument ps (shapes us) v → shape (pick b u (look (zip ps us) v)) ≡ pick b (shape u) (argument ps (shapes us) v)
    go true e = refl
    go false e = e

module _ (ps : List ℕ) (us : Ctys) where
  mutual
    unfolding subst_cty walk size weight

    pub size_subst : (c : Cty) → size (subst_cty (zip ps us) c) ≡ weight ps (shapes us) c
    size_subst TUnit = refl
    size_subst TAny = refl
    size_subst TExn = refl
    size_subst (TVar v) = sym (nodes_shape (look (zip ps us) v)) ∙ ap nodes (shape_look ps us v)
    size_subst (TInt s w) = refl
    size_subst (TFloat f) = refl
    size_subst (TConst c) = refl
    size_subst (TArrow a e b) = ap₂ (λ (x y : ℕ). 1 + (x + y)) (size_subst a) (size_subst b)
    size_subst (TApp n ts) = ap (λ (x : ℕ). 1 + x) (sizes_subst ts)
    size_subst (TTuple ts) = ap (λ (x : ℕ). 1 + x) (sizes_subst ts)
    size_subst (TBuf t) = ap (λ (x : ℕ). 1 + x) (size_subst t)
    size_subst (TRef k t) = ap (λ (x : ℕ). 1 + x) (size_subst t)
    size_subst (TInline t) = ap (λ (x : ℕ). 1 + x) (size_subst t)

    pub sizes_subst : (ts : Ctys) → sizes (walks (look (zip ps us)) TApp ts) ≡ weights ps (shapes us) ts
    sizes_subst nil = refl
    sizes_subst (cons t ts) = ap₂ (λ (x y : ℕ). x + y) (size_subst t) (sizes_subst ts)

  head_subst : (c : Cty) → pick (is_app (subst_cty (zip ps us) c)) app other ≡ instance_head ps (shapes us) c
  unfolding subst_cty walk instance_head
  head_subst TUnit = refl
  head_subst TAny = refl
  head_subst TExn = refl
  head_subst (TVar v) = sym (head_shape (look (zip ps us) v)) ∙ ap head (shape_look ps us v)
  head_subst (TInt s w) = refl
  head_subst (TFloat f) = refl
  head_subst (TConst c) = refl
  head_subst (TArrow a e b) = refl
  head_subst (TApp n ts) = refl
  head_subst (TTuple ts) = refl
  head_subst (TBuf t) = refl
  head_subst (TRef k t) = refl
  head_subst (TInline t) = refl

  pub shape_subst : (c : Cty) → shape (subst_cty (zip ps us) c) ≡ instance_shape ps (shapes us) c
  unfolding shape instance_shape
  shape_subst c = ap₂ coded (size_subst c) (head_subst c)

  -- whether an instance takes a surplus
  pub app_subst : (c : Cty) → eqb (instance_head ps (shapes us) c) app ≡ is_app (subst_cty (zip ps us) c)
  app_subst c = ap (λ (h : ℕ). eqb h app) (sym (head_subst c)) ∙ go (is_app (subst_cty (zip ps us) c))
    where
      go : (b : Bool) → eqb (pick b app other) app ≡ b
      go true = refl
      go false = refl

-- the arguments past the parameters play no part
pub zip_firsts : (ps : List ℕ) (us : Ctys) → zip ps (firsts (length ps) us) ≡ zip ps us
unfolding zip firsts
zip_firsts [] us = refl
zip_firsts (p ∷ ps) nil = refl
zip_firsts (p ∷ ps) (cons u us) = ap (λ (s : List Binding). record { param = p; arg = u } ∷ s) (zip_firsts ps us)
