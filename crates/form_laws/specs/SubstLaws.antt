-- Laws of substitution: a walk that replaces variables and keeps names goes through lists, surplus
-- arguments, instances and other such walks. Assumes nothing.
use Rattle.std.proofs.Math.Path.{◌≡◌, refl, ap}
use Rattle.std.proofs.Common.{ap₂, sym, ◌∙◌, arith, eq-eqb}
use mathlib.Core.List.{List, [], ◌∷◌}
use Rattle.std.specs.Prelude.{Bool, eqb, length}
use Rattle.std.proofs.Math.Bool.{true, false}
use Prim.Native.Nat.{ℕ, zero, suc, ◌≤◌}
use Rattle.std.proofs.Math.Dec.{T}
use Rattle.number_columns.specs.Column.{pick}
use Rattle.model.specs.Cty.{
  Cty,
  Ctys,
  TUnit,
  TAny,
  TExn,
  TVar,
  TInt,
  TFloat,
  TConst,
  TArrow,
  TApp,
  TTuple,
  TBuf,
  TRef,
  TInline,
  nil,
  cons,
  lengths,
  append,
  firsts,
  others,
  walk,
  walks,
  zip,
  look,
  subst_cty,
}
use Rattle.model.specs.Decl.{member}
use Rattle.model.specs.Resolve.{attach, instance, is_app}
use Rattle.model_laws.specs.Cty.{Each, Any, each_map, walk_cong}

-- ---- lists
pub append_assoc : (ts us vs : Ctys) → append (append ts us) vs ≡ append ts (append us vs)
unfolding append
append_assoc nil us vs = refl
append_assoc (cons t ts) us vs = ap (cons t) (append_assoc ts us vs)

pub firsts_append : (n : ℕ) (ts us : Ctys) → n ≤ lengths ts → firsts n (append ts us) ≡ firsts n ts
unfolding firsts append lengths
firsts_append zero ts us h = refl
firsts_append (suc n) nil us h = absurd (omega arith)
firsts_append (suc n) (cons t ts) us h = ap (cons t) (firsts_append n ts us (omega arith))

pub others_append : (n : ℕ) (ts us : Ctys) → n ≤ lengths ts → others n (append ts us) ≡ append (others n ts) us
unfolding others append lengths
others_append zero ts us h = refl
others_append (suc n) nil us h = absurd (omega arith)
others_append (suc n) (cons t ts) us h = others_append n ts us (omega arith)

-- two surpluses are one
pub attach_attach : (c : Cty) (us vs : Ctys) → attach (attach c us) vs ≡ attach c (append us vs)
unfolding attach
attach_attach TUnit us vs = refl
attach_attach TAny us vs = refl
attach_attach TExn us vs = refl
attach_attach (TVar v) us vs = refl
attach_attach (TInt s w) us vs = refl
attach_attach (TFloat f) us vs = refl
attach_attach (TConst c) us vs = refl
attach_attach (TArrow a e b) us vs = refl
attach_attach (TApp n ts) us vs = ap (TApp n) (append_assoc ts us vs)
attach_attach (TTuple ts) us vs = refl
attach_attach (TBuf t) us vs = refl
attach_attach (TRef k t) us vs = refl
attach_attach (TInline t) us vs = refl

-- ---- a walk
module _ (var : ℕ → Cty) (app : ℕ → Ctys → Cty) where
  pub walks_append : (ts us : Ctys) → walks var app (append ts us) ≡ append (walks var app ts) (walks var app us)
  unfolding walk append
  walks_append nil us = refl
  walks_append (cons t ts) us = ap (cons (walk var app t)) (walks_append ts us)

  pub lengths_walks : (ts : Ctys) → lengths (walks var app ts) ≡ lengths ts
  unfolding walk lengths
  lengths_walks nil = refl
  lengths_walks (cons t ts) = ap suc (lengths_walks ts)

  pub firsts_walks : (n : ℕ) (ts : Ctys) → firsts n (walks var app ts) ≡ walks var app (firsts n ts)
  unfolding walk firsts
  firsts_walks zero ts = refl
  firsts_walks (suc n) nil = refl
  firsts_walks (suc n) (cons t ts) = ap (cons (walk var app t)) (firsts_walks n ts)

  pub others_walks : (n : ℕ) (ts : Ctys) → others n (walks var app ts) ≡ walks var app (others n ts)
  unfolding walk others
  others_walks zero ts = refl
  others_walks (suc n) nil = refl
  others_walks (suc n) (cons t ts) = others_walks n ts

  -- an argument stands for its parameter before the walk as after it
  pub look_walks : (ps : List ℕ) (us : Ctys) (v : ℕ) → length ps ≡ lengths us → T (member v ps) → walk var app (look (zip ps us) v) ≡ look (zip ps (walks var app us)) v
  unfolding zip look member lengths walk
  look_walks [] us v e h = absurd h
  look_walks (p ∷ ps) nil v e h = absurd (omega arith)
  look_walks (p ∷ ps) (cons u us) v e h = go (eqb p v) (λ k. look_walks ps us v (omega arith) k) h
    where
      go : (b : Bool) → (T (member v ps) → walk var app (look (zip ps us) v) ≡ look (zip ps (walks var app us)) v) → T (pick b true (member v ps))
          → walk var app (pick b u (look (zip ps us) v)) ≡ pick b (walk var app u) (look (zip ps (walks var app us)) v)
      go true ih k = refl
      go false ih k = ih k

  mutual
    unfolding walk

    -- a substitution, then a walk
    pub walk_subst : (τ : ℕ → Cty) (c : Cty) → walk var app (walk τ TApp c) ≡ walk (λ v. walk var app (τ v)) app c
    walk_subst τ TUnit = refl
    walk_subst τ TAny = refl
    walk_subst τ TExn = refl
    walk_subst τ (TVar v) = refl
    walk_subst τ (TInt s w) = refl
    walk_subst τ (TFloat f) = refl
    walk_subst τ (TConst c) = refl
    walk_subst τ (TArrow a e b) = ap₂ (λ (x y : Cty). TArrow x e y) (walk_subst τ a) (walk_subst τ b)
    walk_subst τ (TApp n ts) = ap (app n) (walks_subst τ ts)
    walk_subst τ (TTuple ts) = ap TTuple (walks_subst τ ts)
    walk_subst τ (TBuf t) = ap TBuf (walk_subst τ t)
    walk_subst τ (TRef k t) = ap (TRef k) (walk_subst τ t)
    walk_subst τ (TInline t) = ap TInline (walk_subst τ t)

    pub walks_subst : (τ : ℕ → Cty) (ts : Ctys) → walks var app (walks τ TApp ts) ≡ walks (λ v. walk var app (τ v)) app ts
    walks_subst τ nil = refl
    walks_subst τ (cons t ts) = ap₂ cons (walk_subst τ t) (walks_subst τ ts)

-- ---- a substitution
-- as many arguments as parameters: they are put in
pub instance_zip : (ps : List ℕ) (us : Ctys) (c : Cty) → length ps ≡ lengths us → instance ps us c ≡ walk (look (zip ps us)) TApp c
unfolding instance subst_cty
instance_zip ps us c e =
    ap (λ (b : Bool). walk (look (pick b (zip ps us) [])) TApp c) (eq-eqb (length ps) (lengths us) e)

module _ (σ : ℕ → Cty) where
  -- a body whose variables are all bound: the arguments alone are changed
  pub walk_instance : (ps : List ℕ) (us : Ctys) (c : Cty) → length ps ≡ lengths us → Each (λ v. T (member v ps)) Any c → walk σ TApp (instance ps us c) ≡ instance ps (walks σ TApp us) c
  walk_instance ps us c e h =
      ap (walk σ TApp) (instance_zip ps us c e)
      ∙ (walk_subst σ TApp (look (zip ps us)) c
      ∙ (walk_cong (λ v. walk σ TApp (look (zip ps us) v)) (look (zip ps (walks σ TApp us))) TApp TApp c
      (each_map (λ v. T (member v ps)) (λ v. walk σ TApp (look (zip ps us) v) ≡ look (zip ps (walks σ TApp us)) v) Any (λ n. (ws : Ctys) → TApp n ws ≡ TApp n ws)
      (λ v k. look_walks σ TApp ps us v e k) (λ n u ws. refl) c h)
      ∙ sym (instance_zip ps (walks σ TApp us) c (e ∙ sym (lengths_walks σ TApp us)))))

  -- a surplus on what takes one
  pub walk_attach : (c : Cty) (us : Ctys) → is_app c ≡ true → walk σ TApp (attach c us) ≡ attach (walk σ TApp c) (walks σ TApp us)
  unfolding walk attach
  walk_attach c us = go c
    where
      no : (d : Cty) → false ≡ true → walk σ TApp (attach d us) ≡ attach (walk σ TApp d) (walks σ TApp us)
      no d e = let z : ◌≡◌ {A = ℕ} 0 1 = cc in absurd (omega arith)

      go : (d : Cty) → is_app d ≡ true → walk σ TApp (attach d us) ≡ attach (walk σ TApp d) (walks σ TApp us)
      go TUnit e = no TUnit e
      go TAny e = no TAny e
      go TExn e = no TExn e
      go (TVar v) e = no (TVar v) e
      go (TInt s w) e = no (TInt s w) e
      go (TFloat f) e = no (TFloat f) e
      go (TConst k) e = no (TConst k) e
      go (TArrow a x b) e = no (TArrow a x b) e
      go (TApp n ts) e = ap (TApp n) (walks_append σ TApp ts us)
      go (TTuple ts) e = no (TTuple ts) e
      go (TBuf t) e = no (TBuf t) e
      go (TRef k t) e = no (TRef k t) e
      go (TInline t) e = no (TInline t) e
