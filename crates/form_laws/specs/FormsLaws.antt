-- What is put together from normal forms is the nodes of the resolved type. Assumes nothing.
use Rattle.std.proofs.Math.Path.{◌≡◌, ap, ap₂, subst}
use Rattle.std.specs.Prelude.{refl, Bool, true, false, eqb, length, get_or, drop}
use Rattle.std.proofs.Common.{sym, ◌∙◌, arith, eqb-true}
use mathlib.Core.List.{List, [], ◌∷◌, ◌++◌}
use Prim.Native.Nat.{ℕ, zero, suc, ◌≤◌, ◌<◌}
use Rattle.std.proofs.Math.Dec.{T}
use Rattle.number_columns.specs.Column.{pick}
use Rattle.model.specs.Cty.{
  Cty,
  Ctys,
  TUnit,
  TAny,
  TExn,
  TVar,
  TInt,
  TFloat,
  TConst,
  TArrow,
  TApp,
  TTuple,
  TBuf,
  TRef,
  TInline,
  nil,
  cons,
  lengths,
  append,
  firsts,
  others,
  walk,
  walks,
  zip,
  look,
}
use Rattle.model.specs.Decl.{member, close}
use Rattle.model.specs.Resolve.{
  Unfold,
  gone,
  newtype,
  abbreviation,
  stays,
  attach,
  instance,
  Result,
  ok,
  bind,
  within,
  surplus,
  checked_applied,
  checked,
  checkeds,
  resolve_checked,
}
use Rattle.model_laws.specs.Cty.{
  Each,
  Any,
  All,
  Alls,
  each_map,
  each_of,
  walk_each,
  walk_cong,
  walk_still,
  walk_id,
  look_each,
  firsts_eachs,
  others_eachs,
  firsts_all,
  others_none,
  lengths_firsts,
  attach_nil,
}
use Rattle.model_laws.specs.Resolve.{Stays, Normal, checked_normal}
use Rattle.form_laws.specs.SubstLaws.{firsts_walks, others_walks, lengths_walks, walk_subst, walks_append, look_walks, instance_zip}
use Rattle.form_laws.specs.FormLaws.{BodyBound, Bound, bind_ok, within_ok, ok_same, newtype_ok, abbreviation_ok, surplus_ok, resolve_put}
use Rattle.form_laws.specs.Nodes.{Node, node, post, posts, spread, attached}
use Rattle.form_laws.specs.NodesLaws.{post_put, post_attach}
use Rattle.form_laws.specs.Forms.{place, renamed, joined, argument, placed, named, variable, nodes, nodes_each}

-- ---- variables by place
-- the type of argument i, `TUnit` where there is none
unfoldable pub nth : Ctys → ℕ → Cty
nth nil i = TUnit
nth (cons t ts) zero = t
nth (cons t ts) (suc i) = nth ts i

-- an argument is found by its parameter's place
pub look_nth : (ps : List ℕ) (us : Ctys) (v : ℕ) → length ps ≤ lengths us → T (member v ps) → look (zip ps (firsts (length ps) us)) v ≡ nth us (place ps v)
unfolding zip look member lengths firsts nth place
look_nth [] us v e h = absurd h
look_nth (p ∷ ps) nil v e h = absurd (omega arith)
look_nth (p ∷ ps) (cons u us) v e h = go (eqb p v) (λ k. look_nth ps us v (omega arith) k) h
  where
    go : (b : Bool) → (T (member v ps) → look (zip ps (firsts (length ps) us)) v ≡ nth us (place ps v)) → T (pick b true (member v ps))
        → pick b u (look (zip ps (firsts (length ps) us)) v) ≡ nth (cons u us) (pick b 0 (suc (place ps v)))
    go true ih k = refl
    go false ih k = ih k

-- a bound variable's place is a parameter's
pub place_below : (ps : List ℕ) (v : ℕ) → T (member v ps) → place ps v < length ps
unfolding place member
place_below [] v h = absurd h
place_below (p ∷ ps) v h = go (eqb p v) (λ k. place_below ps v k) h
  where
    go : (b : Bool) → (T (member v ps) → place ps v < length ps) → T (pick b true (member v ps)) → pick b 0 (suc (place ps v)) < suc (length ps)
    go true ih k = omega arith
    go false ih k = omega (arith, ih k)

-- other numbers for variables go through a surplus
pub renamed_attach : (ρ : ℕ → ℕ) (c : Cty) (us : Ctys) → renamed ρ (attach c us) ≡ attach (renamed ρ c) (walks (λ v. TVar (ρ v)) TApp us)
unfolding renamed walk attach
renamed_attach ρ TUnit us = refl
renamed_attach ρ TAny us = refl
renamed_attach ρ TExn us = refl
renamed_attach ρ (TVar v) us = refl
renamed_attach ρ (TInt s w) us = refl
renamed_attach ρ (TFloat f) us = refl
renamed_attach ρ (TConst c) us = refl
renamed_attach ρ (TArrow a e b) us = refl
renamed_attach ρ (TApp n ts) us = ap (TApp n) (walks_append (λ v. TVar (ρ v)) TApp ts us)
renamed_attach ρ (TTuple ts) us = refl
renamed_attach ρ (TBuf t) us = refl
renamed_attach ρ (TRef k t) us = refl
renamed_attach ρ (TInline t) us = refl

-- ---- lists of nodes
unfoldable pub post_each : Ctys → List (List Node)
post_each nil = []
post_each (cons t ts) = post t ∷ post_each ts

pub joined_post : (ts : Ctys) → joined (post_each ts) ≡ posts ts
unfolding joined post_each post
joined_post nil = refl
joined_post (cons t ts) = ap (λ (l : List Node). post t ++ l) (joined_post ts)

pub length_post_each : (ts : Ctys) → length (post_each ts) ≡ lengths ts
unfolding post_each lengths
length_post_each nil = refl
length_post_each (cons t ts) = ap suc (length_post_each ts)

pub drop_post_each : (k : ℕ) (ts : Ctys) → drop k (post_each ts) ≡ post_each (others k ts)
unfolding post_each others
drop_post_each zero ts = refl
drop_post_each (suc k) nil = refl
drop_post_each (suc k) (cons t ts) = drop_post_each k ts

pub argument_post : (ts : Ctys) (i : ℕ) → argument (post_each ts) i ≡ post (nth ts i)
unfolding post_each nth post
argument_post nil i = refl
argument_post (cons t ts) zero = refl
argument_post (cons t ts) (suc i) = argument_post ts i

-- the variables may be replaced by anything that agrees
pub spread_cong : (f g : ℕ → List Node) → ((i : ℕ) → f i ≡ g i) → (xs : List Node) → spread f xs ≡ spread g xs
unfolding spread
spread_cong f g h [] = refl
spread_cong f g h (x ∷ xs) =
    ap₂ (λ (l r : List Node). elim (eqb x.kind 3) [ true ↦ l ++ r | false ↦ x ∷ r ]) (h x.own) (spread_cong f g h xs)

-- A normal form by places with the nodes of arguments is the nodes of the type with the arguments put in.
pub placed_post : (ps : List ℕ) (us : Ctys) (t : Cty) → length ps ≤ lengths us → Each (λ v. T (member v ps)) Any t
    → placed (length ps) (post (renamed (place ps) t)) (post_each us) ≡ post (attach (walk (look (zip ps (firsts (length ps) us))) TApp t) (others (length ps) us))
unfolding placed renamed walk
placed_post ps us t h b =
    rw (drop_post_each (length ps) us, length_post_each (others (length ps) us), joined_post (others (length ps) us))
    (ap (λ (l : List Node). attached l (lengths (others (length ps) us)) (posts (others (length ps) us)))
    (spread_cong (argument (post_each us)) (λ i. post (nth us i)) (argument_post us) (post (renamed (place ps) t))
    ∙ (sym (post_put (nth us) (renamed (place ps) t))
    ∙ ap post
    (walk_subst (nth us) TApp (λ v. TVar (place ps v)) t
    ∙ walk_cong (λ v. nth us (place ps v)) (look (zip ps (firsts (length ps) us))) TApp TApp t
    (each_map (λ v. T (member v ps)) (λ v. nth us (place ps v) ≡ look (zip ps (firsts (length ps) us)) v) Any (λ n. (ws : Ctys) → TApp n ws ≡ TApp n ws)
    (λ v k. sym (look_nth ps us v h k)) (λ n u ws. refl) t b))))
    ∙ sym (post_attach (walk (look (zip ps (firsts (length ps) us))) TApp t) (others (length ps) us)))

-- ---- what a body resolves to
module _ (limit : ℕ) (lay : ℕ → Unfold) (bound : Bound lay) where
  -- its variables are the body's parameters
  pub form_bound : (ps : List ℕ) (k : ℕ) (c N : Cty) → Each (λ v. T (member v ps)) Any c → resolve_checked limit lay k c ≡ ok N → Each (λ v. T (member v ps)) Any N
  unfolding walk
  form_bound ps k c N b e =
      subst (Each (λ v. T (member v ps)) Any) (sym same)
      (walk_each Any Any (λ v. T (member v ps)) Any only TApp (λ v u. bounds v (member v ps) (λ t. t)) (λ n us p q. (tt, q)) N (each_of Any Any (λ v. tt) (λ n. tt) N))
    where
      -- variables that are not parameters away
      only : ℕ → Cty
      only v = pick (member v ps) (TVar v) TUnit

      normals : (v : ℕ) (x : Bool) → Normal lay (pick x (TVar v) TUnit)
      normals v true = tt
      normals v false = tt

      bounds : (v : ℕ) (x : Bool) → (T x → T (member v ps)) → Each (λ w. T (member w ps)) Any (pick x (TVar v) TUnit)
      bounds v true f = f tt
      bounds v false f = tt

      keeps : (v : ℕ) (x : Bool) → T x → pick x (TVar v) TUnit ≡ TVar v
      keeps v true t = refl
      keeps v false t = absurd t

      still : walk only TApp c ≡ c
      still =
          walk_still only TApp c
          (each_map (λ v. T (member v ps)) (λ v. only v ≡ TVar v) Any (λ n. (us : Ctys) → TApp n us ≡ TApp n us) (λ v t. keeps v (member v ps) t) (λ n u us. refl) c b)

      same : N ≡ walk only TApp N
      same =
          resolve_put limit lay bound only (λ v. normals v (member v ps)) k k c nil N N tt e (rw (attach_nil (walk only TApp c), still) e) ∙ attach_nil (walk only TApp N)

  -- ---- the normal form of a name
  -- what the body c with parameters ps resolves to, as nodes
  pub record Form (ps : List ℕ) (c : Cty) (xs : List Node) : Type 0 where
    pub fuel : ℕ
    pub type : Cty
    pub answers : resolve_checked limit lay fuel c ≡ ok type
    pub are : xs ≡ post (renamed (place ps) type)

  abbrev pub Formed : Unfold → List Node → Type 0
  Formed gone xs = Unit {0}
  Formed (newtype ps c) xs = Form ps c xs
  Formed (abbreviation ps c) xs = Form ps c xs
  Formed stays xs = Unit {0}

  -- R6 for a name: resolved arguments put in, the others attached
  pub newtype_form : (k m n : ℕ) (us : Ctys) (ps : List ℕ) (c N R : Cty) → Each (λ v. T (member v ps)) Any c → Alls (Stays lay) us
      → resolve_checked limit lay k c ≡ ok N → checked_applied (resolve_checked limit lay m) n us (newtype ps c) ≡ ok R
      → (length ps ≤ lengths us) × (R ≡ attach (walk (look (zip ps (firsts (length ps) us))) TApp N) (others (length ps) us))
  newtype_form k m n us ps c N R b h e f =
      let p = newtype_ok (resolve_checked limit lay m) n us ps c R f in
      let all : lengths us ≤ length ps = omega (arith, p.0) in (
        omega (arith, p.0),
        rw (firsts_all (length ps) us all, others_none (length ps) us all)
            (resolve_put limit lay bound (look (zip ps us)) (λ v. look_each Any (Stays lay) ps us v h tt) k m c nil N R tt e
            (rw (attach_nil (walk (look (zip ps us)) TApp c), ← instance_zip ps us c (sym p.0)) p.1)),
      )

  pub abbreviation_form : (k m n : ℕ) (us : Ctys) (ps : List ℕ) (c N R : Cty) → Each (λ v. T (member v ps)) Any c → Alls (Stays lay) us
      → resolve_checked limit lay k c ≡ ok N → checked_applied (resolve_checked limit lay m) n us (abbreviation ps c) ≡ ok R
      → (length ps ≤ lengths us) × (R ≡ attach (walk (look (zip ps (firsts (length ps) us))) TApp N) (others (length ps) us))
  abbreviation_form k m n us ps c N R b h e f =
      let p = abbreviation_ok (resolve_checked limit lay m) n us ps c R f in
      let fs : Ctys = firsts (length ps) us in (
        p.0,
        resolve_put limit lay bound (look (zip ps fs)) (λ v. look_each Any (Stays lay) ps fs v (firsts_eachs Any (Stays lay) (length ps) us h) tt) k m c (others (length ps) us) N R
            (others_eachs Any (Stays lay) (length ps) us h) e
            (rw (← instance_zip ps fs c (sym (lengths_firsts (length ps) us p.0))) (surplus_ok (resolve_checked limit lay m) (instance ps fs c) (others (length ps) us) R p.1)),
      )

  module _ (ps : List ℕ) (ρ : ℕ → ℕ) where
    abbrev π : ℕ → Cty
    π v = TVar (ρ v)

    -- the nodes of a name's answer
    put_form : (n : ℕ) (us : Ctys) (qs : List ℕ) (c N R : Cty) (k : ℕ) → Each (λ v. T (member v qs)) Any c → resolve_checked limit lay k c ≡ ok N → length qs ≤ lengths us
        → R ≡ attach (walk (look (zip qs (firsts (length qs) us))) TApp N) (others (length qs) us)
        → placed (length qs) (post (renamed (place qs) N)) (post_each (walks π TApp us)) ≡ post (renamed ρ R)
    unfolding renamed
    put_form n us qs c N R k b e h f =
        let bN : Each (λ v. T (member v qs)) Any N = form_bound qs k c N b e in
        let fs : Ctys = firsts (length qs) us in
        placed_post qs (walks π TApp us) N (omega (arith, h, lengths_walks π TApp us)) bN
        ∙ ap post
        (rw (firsts_walks π TApp (length qs) us, others_walks π TApp (length qs) us)
        (sym
        (ap (renamed ρ) f
        ∙ (renamed_attach ρ (walk (look (zip qs fs)) TApp N) (others (length qs) us)
        ∙ ap (λ (t : Cty). attach t (walks π TApp (others (length qs) us)))
        (walk_subst π TApp (look (zip qs fs)) N
        ∙ walk_cong (λ v. walk π TApp (look (zip qs fs) v)) (look (zip qs (walks π TApp fs))) TApp TApp N
        (each_map (λ v. T (member v qs)) (λ v. walk π TApp (look (zip qs fs) v) ≡ look (zip qs (walks π TApp fs)) v) Any (λ m. (ws : Ctys) → TApp m ws ≡ TApp m ws)
        (λ v t. look_walks π TApp qs fs v (sym (lengths_firsts (length qs) us h)) t) (λ m u ws. refl) N bN))))))

    named_post : (m n : ℕ) (us : Ctys) (R : Cty) (xs : List Node) (l : Unfold) → lay n ≡ l → Alls (Stays lay) us → Formed l xs
        → checked_applied (resolve_checked limit lay m) n us l ≡ ok R → named n xs (post_each (walks π TApp us)) l ≡ post (renamed ρ R)
    unfolding named checked_applied renamed walk post
    named_post m n us R xs gone q h w e = ap (λ (t : Cty). post (renamed ρ t)) (ok_same TUnit R e)
    named_post m n us R xs (newtype qs c) q h w e =
        let b : Each (λ v. T (member v qs)) Any c = subst BodyBound q (bound n) in
        let r = newtype_form w.fuel m n us qs c w.type R b h w.answers e in
        ap (λ (l : List Node). placed (length qs) l (post_each (walks π TApp us))) w.are ∙ put_form n us qs c w.type R w.fuel b w.answers r.0 r.1
    named_post m n us R xs (abbreviation qs c) q h w e =
        let b : Each (λ v. T (member v qs)) Any c = subst BodyBound q (bound n) in
        let r = abbreviation_form w.fuel m n us qs c w.type R b h w.answers e in
        ap (λ (l : List Node). placed (length qs) l (post_each (walks π TApp us))) w.are ∙ put_form n us qs c w.type R w.fuel b w.answers r.0 r.1
    named_post m n us R xs stays q h w e =
        ap₂ (λ (l : List Node) (k : ℕ). l ++ (node 8 k n ∷ [])) (joined_post (walks π TApp us)) (length_post_each (walks π TApp us))
        ∙ ap (λ (t : Cty). post (renamed ρ t)) (ok_same (TApp n us) R e)

    module _ (form : ℕ → List Node) (m : ℕ) where
      abbrev χ : ℕ → Cty
      χ v = pick (member v ps) (TVar v) TAny

      stay : (ts us : Ctys) → checkeds limit lay (resolve_checked limit lay m) ts ≡ ok us → Alls (Stays lay) us
      unfolding checked resolve_checked
      stay nil us e = subst (Alls (Stays lay)) (ok_same nil us e) tt
      stay (cons t ts) us e =
          let p = bind_ok (checked limit lay (resolve_checked limit lay m) t) _ us e in
          let q = bind_ok (checkeds limit lay (resolve_checked limit lay m) ts) _ us p.then in
          subst (Alls (Stays lay)) (ok_same (cons p.value q.value) us q.then) (checked_normal lay limit (suc m) t p.value p.first, stay ts q.value q.first)

      leaf : (c R : Cty) (xs : List Node) → within limit c (ok c) ≡ ok R → xs ≡ post (renamed ρ c) → xs ≡ post (renamed ρ R)
      leaf c R xs e h = h ∙ ap (λ (t : Cty). post (renamed ρ t)) (ok_same c R (within_ok limit c (ok c) R e))

      mutual
        unfolding nodes close walk checked renamed post variable lengths post_each

        level_post : (c R : Cty) → All (λ n. Formed (lay n) (form n)) c → checked limit lay (resolve_checked limit lay m) (walk χ TApp c) ≡ ok R
            → nodes lay form ps ρ c ≡ post (renamed ρ R)
        level_post TUnit R h e = leaf TUnit R (node 0 0 0 ∷ []) e refl
        level_post TAny R h e = leaf TAny R (node 1 0 0 ∷ []) e refl
        level_post TExn R h e = leaf TExn R (node 2 0 0 ∷ []) e refl
        level_post (TVar v) R h e = go (member v ps) e
          where
            go : (b : Bool) → checked limit lay (resolve_checked limit lay m) (pick b (TVar v) TAny) ≡ ok R → pick b (node 3 0 (ρ v)) (node 1 0 0) ∷ [] ≡ post (renamed ρ R)
            go true f = leaf (TVar v) R (node 3 0 (ρ v) ∷ []) f refl
            go false f = leaf TAny R (node 1 0 0 ∷ []) f refl
        level_post (TInt s w) R h e = leaf (TInt s w) R (node 4 s w ∷ []) e refl
        level_post (TFloat f) R h e = leaf (TFloat f) R (node 5 0 f ∷ []) e refl
        level_post (TConst c) R h e = leaf (TConst c) R (node 6 0 c ∷ []) e refl
        level_post (TArrow a x b) R h e =
            let p = bind_ok (checked limit lay (resolve_checked limit lay m) (walk χ TApp a)) _ R (within_ok limit (TArrow (walk χ TApp a) x (walk χ TApp b)) _ R e) in
            let q = bind_ok (checked limit lay (resolve_checked limit lay m) (walk χ TApp b)) _ R p.then in
            ap₂ (λ (l r : List Node). l ++ (r ++ (node 7 2 x ∷ []))) (level_post a p.value h.0 p.first) (level_post b q.value h.1 q.first)
            ∙ ap (λ (t : Cty). post (renamed ρ t)) (ok_same (TArrow p.value x q.value) R q.then)
        level_post (TApp n ts) R h e =
            let p = bind_ok (checkeds limit lay (resolve_checked limit lay m) (walks χ TApp ts)) _ R (within_ok limit (TApp n (walks χ TApp ts)) _ R e) in
            ap (λ (l : List (List Node)). named n (form n) l (lay n)) (levels_post ts p.value h.1 p.first).0
            ∙ named_post m n p.value R (form n) (lay n) refl (stay (walks χ TApp ts) p.value p.first) h.0 p.then
        level_post (TTuple ts) R h e =
            let p = bind_ok (checkeds limit lay (resolve_checked limit lay m) (walks χ TApp ts)) _ R (within_ok limit (TTuple (walks χ TApp ts)) _ R e) in
            let l = levels_post ts p.value (h) p.first in
            ap₂ (λ (xs : List Node) (k : ℕ). xs ++ (node 9 k 0 ∷ [])) (ap joined l.0 ∙ joined_post (walks π TApp p.value)) (l.1 ∙ sym (lengths_walks π TApp p.value))
            ∙ ap (λ (t : Cty). post (renamed ρ t)) (ok_same (TTuple p.value) R p.then)
        level_post (TBuf t) R h e =
            let p = bind_ok (checked limit lay (resolve_checked limit lay m) (walk χ TApp t)) _ R (within_ok limit (TBuf (walk χ TApp t)) _ R e) in
            ap (λ (l : List Node). l ++ (node 10 1 0 ∷ [])) (level_post t p.value h p.first) ∙ ap (λ (y : Cty). post (renamed ρ y)) (ok_same (TBuf p.value) R p.then)
        level_post (TRef k t) R h e =
            let p = bind_ok (checked limit lay (resolve_checked limit lay m) (walk χ TApp t)) _ R (within_ok limit (TRef k (walk χ TApp t)) _ R e) in
            ap (λ (l : List Node). l ++ (node 11 1 k ∷ [])) (level_post t p.value h p.first) ∙ ap (λ (y : Cty). post (renamed ρ y)) (ok_same (TRef k p.value) R p.then)
        level_post (TInline t) R h e =
            let p = bind_ok (checked limit lay (resolve_checked limit lay m) (walk χ TApp t)) _ R (within_ok limit (TInline (walk χ TApp t)) _ R e) in
            ap (λ (l : List Node). l ++ (node 12 1 0 ∷ [])) (level_post t p.value h p.first) ∙ ap (λ (y : Cty). post (renamed ρ y)) (ok_same (TInline p.value) R p.then)

        levels_post : (ts us : Ctys) → Alls (λ n. Formed (lay n) (form n)) ts → checkeds limit lay (resolve_checked limit lay m) (walks χ TApp ts) ≡ ok us
            → (nodes_each lay form ps ρ ts ≡ post_each (walks π TApp us)) × (lengths ts ≡ lengths us)
        levels_post nil us h e = (ap (λ (vs : Ctys). post_each (walks π TApp vs)) (ok_same nil us e), ap lengths (ok_same nil us e))
        levels_post (cons t ts) us h e =
            let p = bind_ok (checked limit lay (resolve_checked limit lay m) (walk χ TApp t)) _ us e in
            let q = bind_ok (checkeds limit lay (resolve_checked limit lay m) (walks χ TApp ts)) _ us p.then in
            let l = levels_post ts q.value h.1 q.first in (
              ap₂ (λ (x : List Node) (xs : List (List Node)). x ∷ xs) (level_post t p.value h.0 p.first) l.0 ∙ ap (λ (vs : Ctys). post_each (walks π TApp vs)) (ok_same (cons p.value q.value) us q.then),
              ap suc l.1 ∙ ap lengths (ok_same (cons p.value q.value) us q.then),
            )

    -- The nodes put together from the normal forms of a type's names are those of what the type, closed
    -- first, resolves to.
    pub nodes_post : (form : ℕ → List Node) (m : ℕ) (c R : Cty) → All (λ n. Formed (lay n) (form n)) c → resolve_checked limit lay m (close ps c) ≡ ok R
        → nodes lay form ps ρ c ≡ post (renamed ρ R)
    unfolding resolve_checked close
    nodes_post form zero c R h e = let z : ◌≡◌ {A = ℕ} 0 1 = cc in absurd (omega arith)
    nodes_post form (suc m) c R h e = level_post form m c R h e

  -- variables by name: the nodes of the type that is left
  pub nodes_left : (ps : List ℕ) (form : ℕ → List Node) (m : ℕ) (c R : Cty) → All (λ n. Formed (lay n) (form n)) c → resolve_checked limit lay m (close ps c) ≡ ok R
      → nodes lay form ps (λ v. v) c ≡ post R
  unfolding renamed
  nodes_left ps form m c R h e = nodes_post ps (λ v. v) form m c R h e ∙ ap post (walk_id R)

  -- variables by place: the normal form, once those of the names in the body are there
  pub nodes_form : (ps : List ℕ) (form : ℕ → List Node) (m : ℕ) (c R : Cty) → All (λ n. Formed (lay n) (form n)) c → resolve_checked limit lay m (close ps c) ≡ ok R
      → Form ps (close ps c) (nodes lay form ps (place ps) c)
  nodes_form ps form m c R h e = record { fuel = m; type = R; answers = e; are = nodes_post ps (place ps) form m c R h e }
