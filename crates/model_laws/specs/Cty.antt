-- Laws of types: properties of the variables and the names of a type, through each function that
-- walks over it; congruence of walks; sizes and lengths. Assumes nothing.
use Rattle.std.specs.Prelude.{◌⊎◌, ◌≡◌, refl, Bool, eqb, length}
use Rattle.std.proofs.Common.{⊎_elim, ap, ap₂, sym, ◌∙◌, subst, arith}
use mathlib.Core.List.Memᴰ
use mathlib.Core.List.{
  List,
  [],
  ◌∷◌,
  ◌++◌,
  Memᴰ,
}
use Rattle.std.proofs.Math.Bool.{true, false}
use Prim.Native.Nat.{ℕ, zero, suc, ◌+◌, ◌≤◌}
use Rattle.std.proofs.Math.Dec.{T}
use Rattle.number_columns.specs.Column.{pick}
pub use Rattle.sheet.proofs.ListLaws.{every_mem}
use Rattle.model.specs.Cty.{
  Cty,
  Ctys,
  TUnit,
  TAny,
  TExn,
  TVar,
  TInt,
  TFloat,
  TConst,
  TArrow,
  TApp,
  TTuple,
  TBuf,
  TRef,
  TInline,
  nil,
  cons,
  lengths,
  append,
  firsts,
  others,
  walk,
  walks,
  gather,
  gathers,
  names_of_cty,
  cty_vars,
  size,
  sizes,
  uninline,
  zip,
  look,
  subst_cty,
}
use Rattle.model.specs.Decl.{member, close}
use Rattle.model.specs.Resolve.{attach, instance}

-- ---- properties of the variables and the names of a type
module _ (X P : ℕ → Type 0) where
  -- X of each variable and P of each name
  abbrev mutual
    pub Each : Cty → Type 0
    Each TUnit = Unit {0}
    Each TAny = Unit {0}
    Each TExn = Unit {0}
    Each (TVar v) = X v
    Each (TInt s w) = Unit {0}
    Each (TFloat f) = Unit {0}
    Each (TConst c) = Unit {0}
    Each (TArrow a e b) = Each a × Each b
    Each (TApp n ts) = P n × Eachs ts
    Each (TTuple ts) = Eachs ts
    Each (TBuf t) = Each t
    Each (TRef k t) = Each t
    Each (TInline t) = Each t

    pub Eachs : Ctys → Type 0
    Eachs nil = Unit {0}
    Eachs (cons t ts) = Each t × Eachs ts

-- no property at all
abbrev pub Any : {A : Type 0} → A → Type 0
Any x = Unit {0}

-- P of each name of a type
abbrev pub All : (ℕ → Type 0) → Cty → Type 0
All P = Each Any P

abbrev pub Alls : (ℕ → Type 0) → Ctys → Type 0
Alls P = Eachs Any P

-- a weaker property
module _ (X Y P Q : ℕ → Type 0) (f : (v : ℕ) → X v → Y v) (g : (n : ℕ) → P n → Q n) where
  mutual
    pub each_map : (c : Cty) → Each X P c → Each Y Q c
    each_map TUnit h = tt
    each_map TAny h = tt
    each_map TExn h = tt
    each_map (TVar v) h = f v h
    each_map (TInt s w) h = tt
    each_map (TFloat k) h = tt
    each_map (TConst c) h = tt
    each_map (TArrow a e b) h = (each_map a h.0, each_map b h.1)
    each_map (TApp n ts) h = (g n h.0, eachs_map ts h.1)
    each_map (TTuple ts) h = eachs_map ts h
    each_map (TBuf t) h = each_map t h
    each_map (TRef k t) h = each_map t h
    each_map (TInline t) h = each_map t h

    pub eachs_map : (ts : Ctys) → Eachs X P ts → Eachs Y Q ts
    eachs_map nil h = tt
    eachs_map (cons t ts) h = (each_map t h.0, eachs_map ts h.1)

pub all_map : (P Q : ℕ → Type 0) (g : (n : ℕ) → P n → Q n) (c : Cty) → All P c → All Q c
all_map P Q g = each_map Any Any P Q (λ v u. u) g

pub alls_map : (P Q : ℕ → Type 0) (g : (n : ℕ) → P n → Q n) (ts : Ctys) → Alls P ts → Alls Q ts
alls_map P Q g = eachs_map Any Any P Q (λ v u. u) g

-- a property that every number has
module _ (X P : ℕ → Type 0) (f : (v : ℕ) → X v) (g : (n : ℕ) → P n) where
  mutual
    pub each_of : (c : Cty) → Each X P c
    each_of TUnit = tt
    each_of TAny = tt
    each_of TExn = tt
    each_of (TVar v) = f v
    each_of (TInt s w) = tt
    each_of (TFloat k) = tt
    each_of (TConst c) = tt
    each_of (TArrow a e b) = (each_of a, each_of b)
    each_of (TApp n ts) = (g n, eachs_of ts)
    each_of (TTuple ts) = eachs_of ts
    each_of (TBuf t) = each_of t
    each_of (TRef k t) = each_of t
    each_of (TInline t) = each_of t

    pub eachs_of : (ts : Ctys) → Eachs X P ts
    eachs_of nil = tt
    eachs_of (cons t ts) = (each_of t, eachs_of ts)

pub all_of : (P : ℕ → Type 0) (g : (n : ℕ) → P n) (c : Cty) → All P c
all_of P g c = each_of Any P (λ v. tt) g c

-- ---- as a property of what is gathered
module _ (R : ℕ → Type 0) (var app : ℕ → List ℕ) where
  abbrev pub Told : List ℕ → Type 0
  Told ns = (x : ℕ) → Memᴰ x ns → R x

  told_append : (ms ns : List ℕ) → Told ms → Told ns → Told (ms ++ ns)
  told_append ms ns h k x m = ⊎_elim (λ y. h x y) (λ y. k x y) (Memᴰ.append_cases ms m)

  mutual
    unfolding gather

    pub each_gather : (c : Cty) → Each (λ v. Told (var v)) (λ n. Told (app n)) c → (x : ℕ) → Memᴰ x (gather var app c) → R x
    each_gather TUnit h x m = absurd (Memᴰ.not-nil m)
    each_gather TAny h x m = absurd (Memᴰ.not-nil m)
    each_gather TExn h x m = absurd (Memᴰ.not-nil m)
    each_gather (TVar v) h x m = h x m
    each_gather (TInt s w) h x m = absurd (Memᴰ.not-nil m)
    each_gather (TFloat f) h x m = absurd (Memᴰ.not-nil m)
    each_gather (TConst c) h x m = absurd (Memᴰ.not-nil m)
    each_gather (TArrow a e b) h x m =
        told_append (gather var app a) (gather var app b) (λ y z. each_gather a h.0 y z) (λ y z. each_gather b h.1 y z) x m
    each_gather (TApp n ts) h x m = told_append (app n) (gathers var app ts) h.0 (λ y z. eachs_gather ts h.1 y z) x m
    each_gather (TTuple ts) h x m = eachs_gather ts h x m
    each_gather (TBuf t) h x m = each_gather t h x m
    each_gather (TRef k t) h x m = each_gather t h x m
    each_gather (TInline t) h x m = each_gather t h x m

    pub eachs_gather : (ts : Ctys) → Eachs (λ v. Told (var v)) (λ n. Told (app n)) ts → (x : ℕ) → Memᴰ x (gathers var app ts) → R x
    eachs_gather nil h x m = absurd (Memᴰ.not-nil m)
    eachs_gather (cons t ts) h x m =
        told_append (gather var app t) (gathers var app ts) (λ y z. each_gather t h.0 y z) (λ y z. eachs_gather ts h.1 y z) x m

  mutual
    unfolding gather

    pub gather_each : (c : Cty) → ((x : ℕ) → Memᴰ x (gather var app c) → R x) → Each (λ v. Told (var v)) (λ n. Told (app n)) c
    gather_each TUnit f = tt
    gather_each TAny f = tt
    gather_each TExn f = tt
    gather_each (TVar v) f = f
    gather_each (TInt s w) f = tt
    gather_each (TFloat k) f = tt
    gather_each (TConst c) f = tt
    gather_each (TArrow a e b) f =
        (gather_each a (λ x m. f x (Memᴰ.append_left (gather var app b) m)), gather_each b (λ x m. f x (Memᴰ.append_right (gather var app a) m)))
    gather_each (TApp n ts) f =
        (λ x m. f x (Memᴰ.append_left (gathers var app ts) m), gathers_each ts (λ x m. f x (Memᴰ.append_right (app n) m)))
    gather_each (TTuple ts) f = gathers_each ts f
    gather_each (TBuf t) f = gather_each t f
    gather_each (TRef k t) f = gather_each t f
    gather_each (TInline t) f = gather_each t f

    pub gathers_each : (ts : Ctys) → ((x : ℕ) → Memᴰ x (gathers var app ts) → R x) → Eachs (λ v. Told (var v)) (λ n. Told (app n)) ts
    gathers_each nil f = tt
    gathers_each (cons t ts) f =
        (gather_each t (λ x m. f x (Memᴰ.append_left (gathers var app ts) m)), gathers_each ts (λ x m. f x (Memᴰ.append_right (gather var app t) m)))

module _ (P : ℕ → Type 0) where
  only : (n : ℕ) → P n → (x : ℕ) → Memᴰ x (n ∷ []) → P x
  only n p x m = subst P (sym (Memᴰ.eq_of_singleton m)) p

  -- `All P c` says P of every member of `names_of_cty c`
  pub all_names : (c : Cty) → All P c → (x : ℕ) → Memᴰ x (names_of_cty c) → P x
  unfolding names_of_cty
  all_names c h =
      each_gather P (λ v. []) (λ n. n ∷ []) c
      (each_map Any (λ v. (x : ℕ) → Memᴰ x [] → P x) P (λ n. (x : ℕ) → Memᴰ x (n ∷ []) → P x) (λ v u x m. absurd (Memᴰ.not-nil m)) only c h)

  pub names_all : (c : Cty) → ((x : ℕ) → Memᴰ x (names_of_cty c) → P x) → All P c
  unfolding names_of_cty
  names_all c f =
      each_map (λ v. (x : ℕ) → Memᴰ x [] → P x) Any (λ n. (x : ℕ) → Memᴰ x (n ∷ []) → P x) P (λ v h. tt) (λ n h. h n (Memᴰ.head refl)) c
      (gather_each P (λ v. []) (λ n. n ∷ []) c f)

  pub vars_each : (c : Cty) → ((x : ℕ) → Memᴰ x (cty_vars c) → P x) → Each P Any c
  unfolding cty_vars
  vars_each c f =
      each_map (λ v. (x : ℕ) → Memᴰ x (v ∷ []) → P x) P (λ n. (x : ℕ) → Memᴰ x [] → P x) Any (λ n h. h n (Memᴰ.head refl)) (λ v h. tt) c
      (gather_each P (λ v. v ∷ []) (λ n. []) c f)

-- ---- walks
-- what a walk gives, where its two functions give that
module _ (X P Y Q : ℕ → Type 0) (var : ℕ → Cty) (app : ℕ → Ctys → Cty)
    (hv : (v : ℕ) → X v → Each Y Q (var v)) (ha : (n : ℕ) (us : Ctys) → P n → Eachs Y Q us → Each Y Q (app n us)) where
  mutual
    unfolding walk

    pub walk_each : (c : Cty) → Each X P c → Each Y Q (walk var app c)
    walk_each TUnit h = tt
    walk_each TAny h = tt
    walk_each TExn h = tt
    walk_each (TVar v) h = hv v h
    walk_each (TInt s w) h = tt
    walk_each (TFloat f) h = tt
    walk_each (TConst c) h = tt
    walk_each (TArrow a e b) h = (walk_each a h.0, walk_each b h.1)
    walk_each (TApp n ts) h = ha n (walks var app ts) h.0 (walks_each ts h.1)
    walk_each (TTuple ts) h = walks_each ts h
    walk_each (TBuf t) h = walk_each t h
    walk_each (TRef k t) h = walk_each t h
    walk_each (TInline t) h = walk_each t h

    pub walks_each : (ts : Ctys) → Eachs X P ts → Eachs Y Q (walks var app ts)
    walks_each nil h = tt
    walks_each (cons t ts) h = (walk_each t h.0, walks_each ts h.1)

  -- two walks whose functions agree on what occurs
  module _ (var' : ℕ → Cty) (app' : ℕ → Ctys → Cty)
      (ev : (v : ℕ) → X v → var v ≡ var' v) (ea : (n : ℕ) (us : Ctys) → P n → Eachs Y Q us → app n us ≡ app' n us) where
    mutual
      unfolding walk

      pub walk_same : (c : Cty) → Each X P c → walk var app c ≡ walk var' app' c
      walk_same TUnit h = refl
      walk_same TAny h = refl
      walk_same TExn h = refl
      walk_same (TVar v) h = ev v h
      walk_same (TInt s w) h = refl
      walk_same (TFloat f) h = refl
      walk_same (TConst c) h = refl
      walk_same (TArrow a e b) h = ap₂ (λ (x y : Cty). TArrow x e y) (walk_same a h.0) (walk_same b h.1)
      walk_same (TApp n ts) h =
          ea n (walks var app ts) h.0 (walks_each ts h.1) ∙ ap (λ (us : Ctys). app' n us) (walks_same ts h.1)
      walk_same (TTuple ts) h = ap TTuple (walks_same ts h)
      walk_same (TBuf t) h = ap TBuf (walk_same t h)
      walk_same (TRef k t) h = ap (TRef k) (walk_same t h)
      walk_same (TInline t) h = ap TInline (walk_same t h)

      pub walks_same : (ts : Ctys) → Eachs X P ts → walks var app ts ≡ walks var' app' ts
      walks_same nil h = refl
      walks_same (cons t ts) h = ap₂ cons (walk_same t h.0) (walks_same ts h.1)

-- the functions need to agree on the variables and the names of the type alone
pub walk_cong : (var var' : ℕ → Cty) (app app' : ℕ → Ctys → Cty) (c : Cty)
    → Each (λ v. var v ≡ var' v) (λ n. (us : Ctys) → app n us ≡ app' n us) c → walk var app c ≡ walk var' app' c
walk_cong var var' app app' c h =
    walk_same (λ v. var v ≡ var' v) (λ n. (us : Ctys) → app n us ≡ app' n us) Any Any var app
    (λ v e. each_of Any Any (λ w. tt) (λ n. tt) (var v)) (λ n us e k. each_of Any Any (λ w. tt) (λ m. tt) (app n us))
    var' app' (λ v e. e) (λ n us e k. e us) c h

mutual
  unfolding walk

  -- the walk that replaces nothing
  pub walk_id : (c : Cty) → walk TVar TApp c ≡ c
  walk_id TUnit = refl
  walk_id TAny = refl
  walk_id TExn = refl
  walk_id (TVar v) = refl
  walk_id (TInt s w) = refl
  walk_id (TFloat f) = refl
  walk_id (TConst c) = refl
  walk_id (TArrow a e b) = ap₂ (λ (x y : Cty). TArrow x e y) (walk_id a) (walk_id b)
  walk_id (TApp n ts) = ap (TApp n) (walks_id ts)
  walk_id (TTuple ts) = ap TTuple (walks_id ts)
  walk_id (TBuf t) = ap TBuf (walk_id t)
  walk_id (TRef k t) = ap (TRef k) (walk_id t)
  walk_id (TInline t) = ap TInline (walk_id t)

  pub walks_id : (ts : Ctys) → walks TVar TApp ts ≡ ts
  walks_id nil = refl
  walks_id (cons t ts) = ap₂ cons (walk_id t) (walks_id ts)

-- a walk whose functions replace nothing that occurs
pub walk_still : (var : ℕ → Cty) (app : ℕ → Ctys → Cty) (c : Cty)
    → Each (λ v. var v ≡ TVar v) (λ n. (us : Ctys) → app n us ≡ TApp n us) c → walk var app c ≡ c
walk_still var app c h = walk_cong var TVar app TApp c h ∙ walk_id c

-- what is gathered after a walk that keeps the names
module _ (var : ℕ → Cty) (gv ga : ℕ → List ℕ) where
  mutual
    unfolding walk gather

    pub gather_walk : (c : Cty) → gather gv ga (walk var TApp c) ≡ gather (λ v. gather gv ga (var v)) ga c
    gather_walk TUnit = refl
    gather_walk TAny = refl
    gather_walk TExn = refl
    gather_walk (TVar v) = refl
    gather_walk (TInt s w) = refl
    gather_walk (TFloat f) = refl
    gather_walk (TConst c) = refl
    gather_walk (TArrow a e b) = ap₂ (λ (x y : List ℕ). x ++ y) (gather_walk a) (gather_walk b)
    gather_walk (TApp n ts) = ap (λ (x : List ℕ). ga n ++ x) (gathers_walk ts)
    gather_walk (TTuple ts) = gathers_walk ts
    gather_walk (TBuf t) = gather_walk t
    gather_walk (TRef k t) = gather_walk t
    gather_walk (TInline t) = gather_walk t

    pub gathers_walk : (ts : Ctys) → gathers gv ga (walks var TApp ts) ≡ gathers (λ v. gather gv ga (var v)) ga ts
    gathers_walk nil = refl
    gathers_walk (cons t ts) = ap₂ (λ (x y : List ℕ). x ++ y) (gather_walk t) (gathers_walk ts)

module _ (gv gv' ga ga' : ℕ → List ℕ) where
  mutual
    unfolding gather

    pub gather_cong : (c : Cty) → Each (λ v. gv v ≡ gv' v) (λ n. ga n ≡ ga' n) c → gather gv ga c ≡ gather gv' ga' c
    gather_cong TUnit h = refl
    gather_cong TAny h = refl
    gather_cong TExn h = refl
    gather_cong (TVar v) h = h
    gather_cong (TInt s w) h = refl
    gather_cong (TFloat f) h = refl
    gather_cong (TConst c) h = refl
    gather_cong (TArrow a e b) h = ap₂ (λ (x y : List ℕ). x ++ y) (gather_cong a h.0) (gather_cong b h.1)
    gather_cong (TApp n ts) h = ap₂ (λ (x y : List ℕ). x ++ y) h.0 (gathers_cong ts h.1)
    gather_cong (TTuple ts) h = gathers_cong ts h
    gather_cong (TBuf t) h = gather_cong t h
    gather_cong (TRef k t) h = gather_cong t h
    gather_cong (TInline t) h = gather_cong t h

    pub gathers_cong : (ts : Ctys) → Eachs (λ v. gv v ≡ gv' v) (λ n. ga n ≡ ga' n) ts → gathers gv ga ts ≡ gathers gv' ga' ts
    gathers_cong nil h = refl
    gathers_cong (cons t ts) h = ap₂ (λ (x y : List ℕ). x ++ y) (gather_cong t h.0) (gathers_cong ts h.1)

-- ---- close
-- closing a type keeps its names
pub close_names : (ps : List ℕ) (c : Cty) → names_of_cty (close ps c) ≡ names_of_cty c
unfolding close names_of_cty gather
close_names ps c =
    gather_walk (λ v. pick (member v ps) (TVar v) TAny) (λ v. []) (λ n. n ∷ []) c
    ∙ gather_cong (λ v. gather (λ w. []) (λ n. n ∷ []) (pick (member v ps) (TVar v) TAny)) (λ v. []) (λ n. n ∷ []) (λ n. n ∷ []) c
    (each_of (λ v. gather (λ w. []) (λ n. n ∷ []) (pick (member v ps) (TVar v) TAny) ≡ []) (λ n. (n ∷ []) ≡ (n ∷ [])) (λ v. go v (member v ps)) (λ n. refl) c)
  where
    go : (v : ℕ) (b : Bool) → gather (λ w. []) (λ n. n ∷ []) (pick b (TVar v) TAny) ≡ []
    go v true = refl
    go v false = refl

-- names keep their property, and each variable left is one that is bound
pub close_each : (P : ℕ → Type 0) (ps : List ℕ) (c : Cty) → All P c → Each (λ v. T (member v ps)) P (close ps c)
unfolding close
close_each P ps c h =
    walk_each Any P (λ v. T (member v ps)) P (λ v. pick (member v ps) (TVar v) TAny) TApp (λ v u. go v (member v ps) (λ t. t)) (λ n us p k. (p, k)) c h
  where
    go : (v : ℕ) (b : Bool) → (T b → T (member v ps)) → Each (λ w. T (member w ps)) P (pick b (TVar v) TAny)
    go v true f = f tt
    go v false f = tt

-- closing again changes nothing
pub close_still : (ps : List ℕ) (c : Cty) → Each (λ v. T (member v ps)) Any c → close ps c ≡ c
unfolding close
close_still ps c h =
    walk_still (λ v. pick (member v ps) (TVar v) TAny) TApp c
    (each_map (λ v. T (member v ps)) (λ v. pick (member v ps) (TVar v) TAny ≡ TVar v) Any (λ n. (us : Ctys) → TApp n us ≡ TApp n us) (λ v t. go v (member v ps) t) (λ n u us. refl) c h)
  where
    go : (v : ℕ) (b : Bool) → T b → pick b (TVar v) TAny ≡ TVar v
    go v true t = refl
    go v false t = absurd t

pub close_close : (ps : List ℕ) (c : Cty) → close ps (close ps c) ≡ close ps c
close_close ps c = close_still ps (close ps c) (close_each Any ps c (all_of Any (λ n. tt) c))

-- ---- the other functions on types
module _ (X P : ℕ → Type 0) where
  pub append_eachs : (ts us : Ctys) → Eachs X P ts → Eachs X P us → Eachs X P (append ts us)
  unfolding append
  append_eachs nil us h k = k
  append_eachs (cons t ts) us h k = (h.0, append_eachs ts us h.1 k)

  pub firsts_eachs : (n : ℕ) (ts : Ctys) → Eachs X P ts → Eachs X P (firsts n ts)
  unfolding firsts
  firsts_eachs zero ts h = tt
  firsts_eachs (suc n) nil h = tt
  firsts_eachs (suc n) (cons t ts) h = (h.0, firsts_eachs n ts h.1)

  pub others_eachs : (n : ℕ) (ts : Ctys) → Eachs X P ts → Eachs X P (others n ts)
  unfolding others
  others_eachs zero ts h = h
  others_eachs (suc n) nil h = tt
  others_eachs (suc n) (cons t ts) h = others_eachs n ts h.1

  pub attach_each : (c : Cty) (us : Ctys) → Each X P c → Eachs X P us → Each X P (attach c us)
  unfolding attach
  attach_each TUnit us h k = tt
  attach_each TAny us h k = tt
  attach_each TExn us h k = tt
  attach_each (TVar v) us h k = h
  attach_each (TInt s w) us h k = tt
  attach_each (TFloat f) us h k = tt
  attach_each (TConst c) us h k = tt
  attach_each (TArrow a e b) us h k = h
  attach_each (TApp n ts) us h k = (h.0, append_eachs ts us h.1 k)
  attach_each (TTuple ts) us h k = h
  attach_each (TBuf t) us h k = h
  attach_each (TRef r t) us h k = h
  attach_each (TInline t) us h k = h

  -- an unbound variable stays
  pub look_each : (ps : List ℕ) (ts : Ctys) (v : ℕ) → Eachs X P ts → X v → Each X P (look (zip ps ts) v)
  unfolding zip look
  look_each [] ts v h u = u
  look_each (p ∷ ps) nil v h u = u
  look_each (p ∷ ps) (cons t ts) v h u = go (look_each ps ts v h.1 u) (eqb p v)
    where
      go : Each X P (look (zip ps ts) v) → (b : Bool) → Each X P (pick b t (look (zip ps ts) v))
      go ih true = h.0
      go ih false = ih

  -- a bound variable becomes an argument
  pub look_bound : (ps : List ℕ) (ts : Ctys) (v : ℕ) → length ps ≡ lengths ts → Eachs X P ts → T (member v ps) → Each X P (look (zip ps ts) v)
  unfolding zip look member lengths
  look_bound [] ts v e h u = absurd u
  look_bound (p ∷ ps) nil v e h u = absurd (omega arith)
  look_bound (p ∷ ps) (cons t ts) v e h u = go (eqb p v) (λ w. look_bound ps ts v (omega arith) h.1 w) u
    where
      go : (b : Bool) → (T (member v ps) → Each X P (look (zip ps ts) v)) → T (pick b true (member v ps)) → Each X P (pick b t (look (zip ps ts) v))
      go true ih w = h.0
      go false ih w = ih w

  pub subst_each : (ps : List ℕ) (ts : Ctys) (c : Cty) → Eachs X P ts → Each X P c → Each X P (subst_cty (zip ps ts) c)
  unfolding subst_cty
  subst_each ps ts c h k = walk_each X P X P (look (zip ps ts)) TApp (λ v u. look_each ps ts v h u) (λ n us p q. (p, q)) c k

  pub instance_each : (ps : List ℕ) (us : Ctys) (c : Cty) → Eachs X P us → Each X P c → Each X P (instance ps us c)
  unfolding instance zip
  instance_each ps us c h k = go (eqb (length ps) (lengths us))
    where
      go : (b : Bool) → Each X P (subst_cty (pick b (zip ps us) []) c)
      go true = subst_each ps us c h k
      go false = subst_each [] us c h k

-- nothing substituted
pub subst_none : (c : Cty) → subst_cty [] c ≡ c
unfolding subst_cty look
subst_none c = walk_id c

-- a type less its outer `TInline` names the same
pub uninline_names : (c : Cty) → names_of_cty (uninline c) ≡ names_of_cty c
unfolding uninline names_of_cty gather
uninline_names TUnit = refl
uninline_names TAny = refl
uninline_names TExn = refl
uninline_names (TVar v) = refl
uninline_names (TInt s w) = refl
uninline_names (TFloat f) = refl
uninline_names (TConst c) = refl
uninline_names (TArrow a e b) = refl
uninline_names (TApp n ts) = refl
uninline_names (TTuple ts) = refl
uninline_names (TBuf t) = refl
uninline_names (TRef k t) = refl
uninline_names (TInline t) = refl

-- ---- lists of types
pub append_nil : (ts : Ctys) → append ts nil ≡ ts
unfolding append
append_nil nil = refl
append_nil (cons t ts) = ap (cons t) (append_nil ts)

pub lengths_append : (ts us : Ctys) → lengths (append ts us) ≡ lengths ts + lengths us
unfolding append lengths
lengths_append nil us = omega arith
lengths_append (cons t ts) us = omega (arith, lengths_append ts us)

pub firsts_all : (n : ℕ) (ts : Ctys) → lengths ts ≤ n → firsts n ts ≡ ts
unfolding firsts lengths
firsts_all zero nil h = refl
firsts_all zero (cons t ts) h = absurd (omega arith)
firsts_all (suc n) nil h = refl
firsts_all (suc n) (cons t ts) h = ap (cons t) (firsts_all n ts (omega arith))

pub others_none : (n : ℕ) (ts : Ctys) → lengths ts ≤ n → others n ts ≡ nil
unfolding others lengths
others_none zero nil h = refl
others_none zero (cons t ts) h = absurd (omega arith)
others_none (suc n) nil h = refl
others_none (suc n) (cons t ts) h = others_none n ts (omega arith)

pub lengths_firsts : (n : ℕ) (ts : Ctys) → n ≤ lengths ts → lengths (firsts n ts) ≡ n
unfolding firsts lengths
lengths_firsts zero ts h = refl
lengths_firsts (suc n) nil h = absurd (omega arith)
lengths_firsts (suc n) (cons t ts) h = omega (arith, lengths_firsts n ts (omega arith))

-- no surplus
pub attach_nil : (c : Cty) → attach c nil ≡ c
unfolding attach
attach_nil TUnit = refl
attach_nil TAny = refl
attach_nil TExn = refl
attach_nil (TVar v) = refl
attach_nil (TInt s w) = refl
attach_nil (TFloat f) = refl
attach_nil (TConst c) = refl
attach_nil (TArrow a e b) = refl
attach_nil (TApp n ts) = ap (TApp n) (append_nil ts)
attach_nil (TTuple ts) = refl
attach_nil (TBuf t) = refl
attach_nil (TRef k t) = refl
attach_nil (TInline t) = refl

-- ---- sizes
pub size_positive : (c : Cty) → 1 ≤ size c
unfolding size
size_positive TUnit = omega arith
size_positive TAny = omega arith
size_positive TExn = omega arith
size_positive (TVar v) = omega arith
size_positive (TInt s w) = omega arith
size_positive (TFloat f) = omega arith
size_positive (TConst c) = omega arith
size_positive (TArrow a e b) = omega arith
size_positive (TApp n ts) = omega arith
size_positive (TTuple ts) = omega arith
size_positive (TBuf t) = omega arith
size_positive (TRef k t) = omega arith
size_positive (TInline t) = omega arith

mutual
  unfolding close walk size

  -- closing keeps the size
  pub size_close : (ps : List ℕ) (c : Cty) → size (close ps c) ≡ size c
  size_close ps TUnit = refl
  size_close ps TAny = refl
  size_close ps TExn = refl
  size_close ps (TVar v) = go (member v ps)
    where
      go : (b : Bool) → size (pick b (TVar v) TAny) ≡ 1
      go true = refl
      go false = refl
  size_close ps (TInt s w) = refl
  size_close ps (TFloat f) = refl
  size_close ps (TConst c) = refl
  size_close ps (TArrow a e b) = ap₂ (λ (x y : ℕ). 1 + (x + y)) (size_close ps a) (size_close ps b)
  size_close ps (TApp n ts) = ap (λ (x : ℕ). 1 + x) (sizes_close ps ts)
  size_close ps (TTuple ts) = ap (λ (x : ℕ). 1 + x) (sizes_close ps ts)
  size_close ps (TBuf t) = ap (λ (x : ℕ). 1 + x) (size_close ps t)
  size_close ps (TRef k t) = ap (λ (x : ℕ). 1 + x) (size_close ps t)
  size_close ps (TInline t) = ap (λ (x : ℕ). 1 + x) (size_close ps t)

  pub sizes_close : (ps : List ℕ) (ts : Ctys) → sizes (walks (λ v. pick (member v ps) (TVar v) TAny) TApp ts) ≡ sizes ts
  sizes_close ps nil = refl
  sizes_close ps (cons t ts) = ap₂ (λ (x y : ℕ). x + y) (size_close ps t) (sizes_close ps ts)

pub size_uninline : (c : Cty) → size (uninline c) ≤ size c
unfolding uninline size
size_uninline TUnit = omega arith
size_uninline TAny = omega arith
size_uninline TExn = omega arith
size_uninline (TVar v) = omega arith
size_uninline (TInt s w) = omega arith
size_uninline (TFloat f) = omega arith
size_uninline (TConst c) = omega arith
size_uninline (TArrow a e b) = omega arith
size_uninline (TApp n ts) = omega arith
size_uninline (TTuple ts) = omega arith
size_uninline (TBuf t) = omega arith
size_uninline (TRef k t) = omega arith
size_uninline (TInline t) = omega arith
