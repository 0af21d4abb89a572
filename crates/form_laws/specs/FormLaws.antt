-- The normal form law: what a name with its arguments resolves to is what its body resolves to, with
-- the resolved arguments put in and the resolved surplus attached. For any limit, any fuel and any
-- account of what becomes of a name, its bodies having no variables but their parameters.
-- Assumes nothing.
use Rattle.std.proofs.Math.Path.{◌≡◌, ap, ap₂, sym}
use Rattle.std.specs.Prelude.{refl, List, [], ◌∷◌, Bool, true, false, T, eqb, leb, ltb}
use Rattle.std.proofs.Common.{◌∙◌, subst, arith, eqb-true, ltb-false}
use Prim.Native.Nat.{ℕ, zero, suc, ◌≤◌, ◌<◌, ◌+◌}
use Rattle.std.proofs.Math.ListN.{length}
use Rattle.number_columns.specs.Column.{pick}
use Rattle.sheet.proofs.ListLaws.{false_true}
use Rattle.model.specs.Cty.{
  Cty,
  Ctys,
  TUnit,
  TAny,
  TExn,
  TVar,
  TInt,
  TFloat,
  TConst,
  TArrow,
  TApp,
  TTuple,
  TBuf,
  TRef,
  TInline,
  nil,
  cons,
  lengths,
  append,
  firsts,
  others,
  walk,
  walks,
  size,
  zip,
  look,
}
use Rattle.model.specs.Decl.{member}
use Rattle.model.specs.Resolve.{
  Unfold,
  gone,
  newtype,
  abbreviation,
  stays,
  attach,
  instance,
  applied,
  resolve,
  Result,
  ok,
  fault,
  spent,
  bind,
  sized,
  within,
  is_app,
  surplus,
  checked_applied,
  checked,
  checkeds,
  resolve_checked,
}
use Rattle.model_laws.specs.Cty.{
  Each,
  Eachs,
  Any,
  Alls,
  attach_each,
  attach_nil,
  append_nil,
  lengths_append,
  lengths_firsts,
}
use Rattle.model_laws.specs.Resolve.{Stays, Normal, checked_resolves, resolve_stays}
use Rattle.form_laws.specs.SubstLaws.{
  append_assoc,
  firsts_append,
  others_append,
  attach_attach,
  walks_append,
  lengths_walks,
  firsts_walks,
  others_walks,
  walk_instance,
  walk_attach,
}

-- ---- what an answer rests on
pub record Through {A B : Type 0} (r : Result A) (f : A → Result B) (b : B) : Type 0 where
  pub value : A
  pub first : r ≡ ok value
  pub then : f value ≡ ok b

pub bind_ok : {A B : Type 0} (r : Result A) (f : A → Result B) (b : B) → bind r f ≡ ok b → Through r f b
unfolding bind
bind_ok (ok a) f b e = record { value = a; first = refl; then = e }
bind_ok (fault c) f b e = let z : ◌≡◌ {A = ℕ} 0 1 = cc in absurd (omega arith)
bind_ok spent f b e = let z : ◌≡◌ {A = ℕ} 0 1 = cc in absurd (omega arith)

sized_ok : (limit : ℕ) (c t : Cty) → sized limit c ≡ ok t → ok c ≡ ok t
unfolding sized
sized_ok limit c t = go (leb (size c) limit)
  where
    go : (b : Bool) → pick b (ok c) (fault 10) ≡ ok t → ok c ≡ ok t
    go true e = e
    go false e = let z : ◌≡◌ {A = ℕ} 0 1 = cc in absurd (omega arith)

pub within_ok : (limit : ℕ) (c : Cty) (r : Result Cty) (t : Cty) → within limit c r ≡ ok t → r ≡ ok t
unfolding within
within_ok limit c r t = go (leb (size c) limit)
  where
    go : (b : Bool) → elim b [ true ↦ bind r (sized limit) | false ↦ fault 10 ] ≡ ok t → r ≡ ok t
    go true e = let h : Through r (sized limit) t = bind_ok r (sized limit) t e in h.first ∙ sized_ok limit h.value t h.then
    go false e = let z : ◌≡◌ {A = ℕ} 0 1 = cc in absurd (omega arith)

pub ok_same : {A : Type 0} (a b : A) → ok a ≡ ok b → a ≡ b
ok_same a b e = cc

-- a newtype has as many arguments as parameters
pub newtype_ok : (next : Cty → Result Cty) (n : ℕ) (us : Ctys) (ps : List ℕ) (c t : Cty) → checked_applied next n us (newtype ps c) ≡ ok t
    → (lengths us ≡ length ps) × (next (instance ps us c) ≡ ok t)
unfolding checked_applied
newtype_ok next n us ps c t = go (eqb (lengths us) (length ps)) refl
  where
    go : (b : Bool) → eqb (lengths us) (length ps) ≡ b → elim b [ true ↦ next (instance ps us c) | false ↦ fault 9 ] ≡ ok t
        → (lengths us ≡ length ps) × (next (instance ps us c) ≡ ok t)
    go true q e = (eqb-true (lengths us) (length ps) q, e)
    go false q e = let z : ◌≡◌ {A = ℕ} 0 1 = cc in absurd (omega arith)

-- an abbreviation has no fewer
pub abbreviation_ok : (next : Cty → Result Cty) (n : ℕ) (us : Ctys) (ps : List ℕ) (c t : Cty) → checked_applied next n us (abbreviation ps c) ≡ ok t
    → (length ps ≤ lengths us) × (surplus next (instance ps (firsts (length ps) us) c) (others (length ps) us) ≡ ok t)
unfolding checked_applied
abbreviation_ok next n us ps c t = go (ltb (lengths us) (length ps)) refl
  where
    go : (b : Bool) → ltb (lengths us) (length ps) ≡ b
        → elim b [ true ↦ fault 9 | false ↦ surplus next (instance ps (firsts (length ps) us) c) (others (length ps) us) ] ≡ ok t
        → (length ps ≤ lengths us) × (surplus next (instance ps (firsts (length ps) us) c) (others (length ps) us) ≡ ok t)
    go true q e = let z : ◌≡◌ {A = ℕ} 0 1 = cc in absurd (omega arith)
    go false q e = (omega (arith, ltb-false (lengths us) (length ps) q), e)

-- what is resolved where there is a surplus, and what takes it
pub surplus_ok : (next : Cty → Result Cty) (c : Cty) (us : Ctys) (t : Cty) → surplus next c us ≡ ok t → next (attach c us) ≡ ok t
unfolding surplus
surplus_ok next c nil t e = rw (attach_nil c) e
surplus_ok next c (cons u us) t e = go (is_app c) e
  where
    go : (b : Bool) → elim b [ true ↦ next (attach c (cons u us)) | false ↦ fault 9 ] ≡ ok t → next (attach c (cons u us)) ≡ ok t
    go true q = q
    go false q = let z : ◌≡◌ {A = ℕ} 0 1 = cc in absurd (omega arith)

pub surplus_app : (next : Cty → Result Cty) (c u : Cty) (us : Ctys) (t : Cty) → surplus next c (cons u us) ≡ ok t → is_app c ≡ true
unfolding surplus
surplus_app next c u us t = go (is_app c)
  where
    go : (b : Bool) → elim b [ true ↦ next (attach c (cons u us)) | false ↦ fault 9 ] ≡ ok t → b ≡ true
    go true q = refl
    go false q = let z : ◌≡◌ {A = ℕ} 0 1 = cc in absurd (omega arith)

-- ---- bodies
-- no variable but the parameters
abbrev pub BodyBound : Unfold → Type 0
BodyBound gone = Unit {0}
BodyBound (newtype ps c) = Each (λ v. T (member v ps)) Any c
BodyBound (abbreviation ps c) = Each (λ v. T (member v ps)) Any c
BodyBound stays = Unit {0}

abbrev pub Bound : (ℕ → Unfold) → Type 0
Bound lay = (n : ℕ) → BodyBound (lay n)

-- ---- substitution and resolution
-- σ puts types in that are resolved already
module _ (limit : ℕ) (lay : ℕ → Unfold) (bound : Bound lay) (σ : ℕ → Cty) (resolved : (v : ℕ) → Normal lay (σ v)) where
  abbrev put : Cty → Cty
  put = walk σ TApp

  abbrev puts : Ctys → Ctys
  puts = walks σ TApp

  -- one level: `first` resolves with one less of fuel before the arguments are put in, `next` after
  module _ (first next : Cty → Result Cty)
      (ih : (c : Cty) (es : Ctys) (N R : Cty) → Alls (Stays lay) es → first c ≡ ok N → next (attach (put c) es) ≡ ok R → R ≡ attach (put N) es)
      (still : (t R : Cty) → Normal lay t → checked limit lay next t ≡ ok R → R ≡ t) where
    stills : (ts ws : Ctys) → Alls (Stays lay) ts → checkeds limit lay next ts ≡ ok ws → ws ≡ ts
    unfolding checked
    stills nil ws h e = sym (ok_same nil ws e)
    stills (cons t ts) ws h e =
        let a = bind_ok (checked limit lay next t) _ ws e in
        let b = bind_ok (checkeds limit lay next ts) _ ws a.then in
        sym (ok_same (cons a.value b.value) ws b.then) ∙ ap₂ cons (still t a.value h.0 a.first) (stills ts b.value h.1 b.first)

    -- a payload, with no surplus
    at_newtype : (n : ℕ) (us es : Ctys) (N R : Cty) (ps : List ℕ) (c : Cty) → Each (λ v. T (member v ps)) Any c → Alls (Stays lay) es
        → checked_applied first n us (newtype ps c) ≡ ok N → checked_applied next n (append (puts us) es) (newtype ps c) ≡ ok R → R ≡ attach (put N) es
    unfolding lengths
    at_newtype n us nil N R ps c b h e f =
        let p = newtype_ok first n us ps c N e in
        let q = newtype_ok next n (append (puts us) nil) ps c R f in
        ih (instance ps us c) nil N R tt p.1
        (rw (attach_nil (put (instance ps us c)), walk_instance σ ps us c (sym p.0) b, ← append_nil (puts us)) q.1)
    at_newtype n us (cons x es) N R ps c b h e f =
        let p = newtype_ok first n us ps c N e in
        let q = newtype_ok next n (append (puts us) (cons x es)) ps c R f in
        absurd (many p.0 q.0)
      where
        many : lengths us ≡ length ps → lengths (append (puts us) (cons x es)) ≡ length ps → ⊥
        many i j = omega (arith, lengths_append (puts us) (cons x es), lengths_walks σ TApp us)

    at_surplus : (c : Cty) (os es : Ctys) (N R : Cty) → Alls (Stays lay) es → surplus first c os ≡ ok N
        → next (attach (put c) (append (puts os) es)) ≡ ok R → R ≡ attach (put N) es
    unfolding append walk surplus
    at_surplus c nil es N R h e f = ih c es N R h e f
    at_surplus c (cons o os) es N R h e f =
        ih (attach c (cons o os)) es N R h (surplus_ok first c (cons o os) N e)
        (rw (walk_attach σ c (cons o os) (surplus_app first c o os N e), attach_attach (put c) (puts (cons o os)) es) f)

    at_abbreviation : (n : ℕ) (us es : Ctys) (N R : Cty) (ps : List ℕ) (c : Cty) → Each (λ v. T (member v ps)) Any c → Alls (Stays lay) es
        → checked_applied first n us (abbreviation ps c) ≡ ok N → checked_applied next n (append (puts us) es) (abbreviation ps c) ≡ ok R → R ≡ attach (put N) es
    at_abbreviation n us es N R ps c b h e f =
        let p = abbreviation_ok first n us ps c N e in
        let q = abbreviation_ok next n (append (puts us) es) ps c R f in
        let long : length ps ≤ lengths (puts us) = omega (arith, p.0, lengths_walks σ TApp us) in
        let z : next (attach (instance ps (firsts (length ps) (append (puts us) es)) c) (others (length ps) (append (puts us) es))) ≡ ok R
        = surplus_ok next (instance ps (firsts (length ps) (append (puts us) es)) c) (others (length ps) (append (puts us) es)) R q.1 in
        at_surplus (instance ps (firsts (length ps) us) c) (others (length ps) us) es N R h p.1
        (rw (
          walk_instance σ ps (firsts (length ps) us) c (sym (lengths_firsts (length ps) us p.0)) b,
          ← firsts_walks σ TApp (length ps) us,
          ← others_walks σ TApp (length ps) us,
          ← firsts_append (length ps) (puts us) es long,
          ← others_append (length ps) (puts us) es long,
        ) z)

    at_name : (n : ℕ) (us es : Ctys) (N R : Cty) (l : Unfold) → BodyBound l → Alls (Stays lay) es
        → checked_applied first n us l ≡ ok N → checked_applied next n (append (puts us) es) l ≡ ok R → R ≡ attach (put N) es
    unfolding checked_applied walk attach
    at_name n us es N R gone b h e f = sym (ok_same TUnit R f) ∙ ap (λ (t : Cty). attach (put t) es) (ok_same TUnit N e)
    at_name n us es N R (newtype ps c) b h e f = at_newtype n us es N R ps c b h e f
    at_name n us es N R (abbreviation ps c) b h e f = at_abbreviation n us es N R ps c b h e f
    at_name n us es N R stays b h e f =
        sym (ok_same (TApp n (append (puts us) es)) R f) ∙ ap (λ (t : Cty). attach (put t) es) (ok_same (TApp n us) N e)

    -- a leaf
    leaf : (c : Cty) (es : Ctys) (N R : Cty) → attach (put c) es ≡ c → within limit c (ok c) ≡ ok N → within limit c (ok c) ≡ ok R → R ≡ attach (put N) es
    leaf c es N R q e f =
        sym (ok_same c R (within_ok limit c (ok c) R f)) ∙ (sym q ∙ ap (λ (t : Cty). attach (put t) es) (ok_same c N (within_ok limit c (ok c) N e)))

    -- a part, which has no surplus
    part : (c N R : Cty) → ((es : Ctys) → Alls (Stays lay) es → checked limit lay next (attach (put c) es) ≡ ok R → R ≡ attach (put N) es)
        → checked limit lay next (put c) ≡ ok R → R ≡ put N
    part c N R f e = f nil tt (rw (attach_nil (put c)) e) ∙ attach_nil (put N)

    mutual
      unfolding checked walk attach append

      level : (c : Cty) (es : Ctys) (N R : Cty) → Alls (Stays lay) es → checked limit lay first c ≡ ok N → checked limit lay next (attach (put c) es) ≡ ok R → R ≡ attach (put N) es
      level TUnit es N R h e f = leaf TUnit es N R refl e f
      level TAny es N R h e f = leaf TAny es N R refl e f
      level TExn es N R h e f = leaf TExn es N R refl e f
      level (TVar v) es N R h e f =
          still (attach (σ v) es) R (attach_each Any (Stays lay) (σ v) es (resolved v) h) f
          ∙ ap (λ (t : Cty). attach (put t) es) (ok_same (TVar v) N (within_ok limit (TVar v) (ok (TVar v)) N e))
      level (TInt s w) es N R h e f = leaf (TInt s w) es N R refl e f
      level (TFloat k) es N R h e f = leaf (TFloat k) es N R refl e f
      level (TConst k) es N R h e f = leaf (TConst k) es N R refl e f
      level (TArrow a x b) es N R h e f =
          let p = bind_ok (checked limit lay first a) _ N (within_ok limit (TArrow a x b) _ N e) in
          let q = bind_ok (checked limit lay first b) _ N p.then in
          let u = bind_ok (checked limit lay next (put a)) _ R (within_ok limit (TArrow (put a) x (put b)) _ R f) in
          let v = bind_ok (checked limit lay next (put b)) _ R u.then in
          sym (ok_same (TArrow u.value x v.value) R v.then)
          ∙ (ap₂ (λ (y z : Cty). TArrow y x z)
          (part a p.value u.value (λ fs k z. level a fs p.value u.value k p.first z) u.first)
          (part b q.value v.value (λ fs k z. level b fs q.value v.value k q.first z) v.first)
          ∙ ap (λ (t : Cty). attach (put t) es) (ok_same (TArrow p.value x q.value) N q.then))
      level (TApp n ts) es N R h e f =
          let p = bind_ok (checkeds limit lay first ts) _ N (within_ok limit (TApp n ts) _ N e) in
          let u = bind_ok (checkeds limit lay next (append (puts ts) es)) _ R (within_ok limit (TApp n (append (puts ts) es)) _ R f) in
          at_name n p.value es N R (lay n) (bound n) h p.then
          (subst (λ (ws : Ctys). checked_applied next n ws (lay n) ≡ ok R) (levels ts es p.value u.value h p.first u.first) u.then)
      level (TTuple ts) es N R h e f =
          let p = bind_ok (checkeds limit lay first ts) _ N (within_ok limit (TTuple ts) _ N e) in
          let u = bind_ok (checkeds limit lay next (puts ts)) _ R (within_ok limit (TTuple (puts ts)) _ R f) in
          sym (ok_same (TTuple u.value) R u.then)
          ∙ (ap TTuple (levels ts nil p.value u.value tt p.first (rw (append_nil (puts ts)) u.first) ∙ append_nil (puts p.value))
          ∙ ap (λ (t : Cty). attach (put t) es) (ok_same (TTuple p.value) N p.then))
      level (TBuf t) es N R h e f =
          let p = bind_ok (checked limit lay first t) _ N (within_ok limit (TBuf t) _ N e) in
          let u = bind_ok (checked limit lay next (put t)) _ R (within_ok limit (TBuf (put t)) _ R f) in
          sym (ok_same (TBuf u.value) R u.then)
          ∙ (ap TBuf (part t p.value u.value (λ fs k z. level t fs p.value u.value k p.first z) u.first)
          ∙ ap (λ (y : Cty). attach (put y) es) (ok_same (TBuf p.value) N p.then))
      level (TRef r t) es N R h e f =
          let p = bind_ok (checked limit lay first t) _ N (within_ok limit (TRef r t) _ N e) in
          let u = bind_ok (checked limit lay next (put t)) _ R (within_ok limit (TRef r (put t)) _ R f) in
          sym (ok_same (TRef r u.value) R u.then)
          ∙ (ap (TRef r) (part t p.value u.value (λ fs k z. level t fs p.value u.value k p.first z) u.first)
          ∙ ap (λ (y : Cty). attach (put y) es) (ok_same (TRef r p.value) N p.then))
      level (TInline t) es N R h e f =
          let p = bind_ok (checked limit lay first t) _ N (within_ok limit (TInline t) _ N e) in
          let u = bind_ok (checked limit lay next (put t)) _ R (within_ok limit (TInline (put t)) _ R f) in
          sym (ok_same (TInline u.value) R u.then)
          ∙ (ap TInline (part t p.value u.value (λ fs k z. level t fs p.value u.value k p.first z) u.first)
          ∙ ap (λ (y : Cty). attach (put y) es) (ok_same (TInline p.value) N p.then))

      levels : (ts es us ws : Ctys) → Alls (Stays lay) es → checkeds limit lay first ts ≡ ok us → checkeds limit lay next (append (puts ts) es) ≡ ok ws → ws ≡ append (puts us) es
      levels nil es us ws h e f = stills es ws h f ∙ ap (λ (xs : Ctys). append (puts xs) es) (ok_same nil us e)
      levels (cons t ts) es us ws h e f =
          let p = bind_ok (checked limit lay first t) _ us e in
          let q = bind_ok (checkeds limit lay first ts) _ us p.then in
          let u = bind_ok (checked limit lay next (put t)) _ ws f in
          let v = bind_ok (checkeds limit lay next (append (puts ts) es)) _ ws u.then in
          sym (ok_same (cons u.value v.value) ws v.then)
          ∙ (ap₂ cons (part t p.value u.value (λ fs k z. level t fs p.value u.value k p.first z) u.first) (levels ts es q.value v.value h q.first v.first)
          ∙ ap (λ (xs : Ctys). append (puts xs) es) (ok_same (cons p.value q.value) us q.then))

  -- R6: resolved types put into a type, with a resolved surplus, resolve to the same put into what the
  -- type resolves to.
  pub resolve_put : (k m : ℕ) (c : Cty) (es : Ctys) (N R : Cty) → Alls (Stays lay) es
      → resolve_checked limit lay k c ≡ ok N → resolve_checked limit lay m (attach (put c) es) ≡ ok R → R ≡ attach (put N) es
  unfolding resolve_checked
  resolve_put zero m c es N R h e f = let z : ◌≡◌ {A = ℕ} 0 1 = cc in absurd (omega arith)
  resolve_put (suc k) zero c es N R h e f = let z : ◌≡◌ {A = ℕ} 0 1 = cc in absurd (omega arith)
  resolve_put (suc k) (suc m) c es N R h e f =
      level (resolve_checked limit lay k) (resolve_checked limit lay m) (resolve_put k m)
      (λ t Q n q. sym (checked_resolves lay limit (suc m) t Q q) ∙ resolve_stays lay (suc m) t n)
      c es N R h e f
