-- A table of normal forms in which each is what is put together from its body: where the bodies resolve
-- and no unfolded name reaches itself, each is what its body resolves to. And what such a table is read
-- for: the forms of the unfolded names in a type alone. Assumes nothing.
use Rattle.std.specs.Prelude.{◌≡◌, refl, ℕ, zero, suc, ◌≤◌, ◌<◌, length}
use Rattle.std.proofs.Common.{ap, ap₂, sym, ◌∙◌, subst, arith}
use mathlib.Core.List.{List, [], ◌∷◌, ◌++◌, Memᴰ}
use Rattle.model.specs.Cty.{
  Cty,
  Ctys,
  TUnit,
  TAny,
  TExn,
  TVar,
  TInt,
  TFloat,
  TConst,
  TArrow,
  TApp,
  TTuple,
  TBuf,
  TRef,
  TInline,
  nil,
  cons,
  lengths,
  names_of_cty,
}
use Rattle.model.specs.Decl.{close}
use Rattle.model.specs.Resolve.{Unfold, gone, newtype, abbreviation, stays, Result, ok, resolve_checked}
use Rattle.model_laws.specs.Cty.{All, Alls, all_map, all_names, names_all, close_names}
use Rattle.model_laws.specs.Resolve.{Unfolds, BodyAll, Under, Ranked}
use Rattle.form_laws.specs.Nodes.{Node, node, post}
use Rattle.form_laws.specs.Forms.{place, renamed, joined, placed, named, nodes, nodes_each}
use Rattle.form_laws.specs.FormLaws.{Bound}
use Rattle.form_laws.specs.FormsLaws.{Form, Formed, nodes_post}

-- the names of a type before it is closed
pub open_all : (P : ℕ → Type 0) (ps : List ℕ) (c : Cty) → All P (close ps c) → All P c
open_all P ps c h =
    names_all P c (λ x m. all_names P (close ps c) h x (subst (λ (l : List ℕ). Memᴰ x l) (sym (close_names ps c)) m))

-- `held` is how nodes are held, which keeps those of the types in question
module _ (limit : ℕ) (lay : ℕ → Unfold) (bound : Bound lay) (form : ℕ → List Node) (held : List Node → List Node) where
  -- the body c resolves, and the form is what is put together from it, before it is closed
  pub record Made (ps : List ℕ) (c : Cty) (xs : List Node) : Type 0 where
    pub source : Cty
    pub closed : close ps source ≡ c
    pub fuel : ℕ
    pub type : Cty
    pub answers : resolve_checked limit lay fuel c ≡ ok type
    pub kept : held (post (renamed (place ps) type)) ≡ post (renamed (place ps) type)
    pub are : xs ≡ held (nodes lay form ps (place ps) source)

  abbrev pub MadeOf : Unfold → List Node → Type 0
  MadeOf gone xs = Unit {0}
  MadeOf (newtype ps c) xs = Made ps c xs
  MadeOf (abbreviation ps c) xs = Made ps c xs
  MadeOf stays xs = Unit {0}

  module _ (rank : ℕ → ℕ) (ranked : Ranked lay rank) (made : (n : ℕ) → MadeOf (lay n) (form n)) where
    abbrev Good : ℕ → Type 0
    Good n = Formed limit lay bound (lay n) (form n)

    one_form : (r : ℕ) (ps : List ℕ) (c : Cty) (xs : List Node) → ((n : ℕ) → Under lay rank r n → Good n) → All (Under lay rank r) c → Made ps c xs → Form limit lay bound ps c xs
    one_form r ps c xs ih h m =
        let a : All (Under lay rank r) (close ps m.source) = subst (All (Under lay rank r)) (sym m.closed) h in
        let g : All Good m.source = all_map (Under lay rank r) Good ih m.source (open_all (Under lay rank r) ps m.source a) in
        let e : resolve_checked limit lay m.fuel (close ps m.source) ≡ ok m.type = ap (resolve_checked limit lay m.fuel) m.closed ∙ m.answers in
        let q : nodes lay form ps (place ps) m.source ≡ post (renamed (place ps) m.type) = nodes_post limit lay bound ps (place ps) form m.fuel m.source m.type g e in
        record { fuel = m.fuel; type = m.type; answers = m.answers; are = m.are ∙ (ap held q ∙ m.kept) }

    -- by rank
    forms_below : (k n : ℕ) → Under lay rank k n → Good n
    forms_below zero n u = go (lay n) u
      where
        none : rank n < 0 → ⊥
        none h = omega arith

        go : (l : Unfold) → (Unfolds l → rank n < 0) → Formed limit lay bound l (form n)
        go gone v = tt
        go (newtype ps c) v = absurd (none (v tt))
        go (abbreviation ps c) v = absurd (none (v tt))
        go stays v = tt
    forms_below (suc k) n u = go (lay n) (ranked n) (made n) u (λ r m h. forms_below k m (λ v. less (rank m) r k (h v)))
      where
        less : (a r j : ℕ) → (a < r) × (r ≤ j) → a < j
        less a r j h = omega (arith, h.0, h.1)

        go : (l : Unfold) → BodyAll (Under lay rank (rank n)) l → MadeOf l (form n) → (Unfolds l → rank n < suc k)
            → ((r m : ℕ) → (Unfolds (lay m) → (rank m < r) × (r ≤ k)) → Good m) → Formed limit lay bound l (form n)
        go gone b m v ih = tt
        go (newtype ps c) b m v ih = one_form (rank n) ps c (form n) (λ j w. ih (rank n) j (λ z. (w z, le (v tt)))) b m
          where
            le : rank n < suc k → rank n ≤ k
            le h = omega arith
        go (abbreviation ps c) b m v ih = one_form (rank n) ps c (form n) (λ j w. ih (rank n) j (λ z. (w z, le (v tt)))) b m
          where
            le : rank n < suc k → rank n ≤ k
            le h = omega arith
        go stays b m v ih = tt

    -- Every form is what its body resolves to.
    pub forms_are : (n : ℕ) → Good n
    forms_are n = forms_below (suc (rank n)) n (λ u. top)
      where
        top : rank n < suc (rank n)
        top = omega arith

-- ---- what a type's nodes depend on
-- the same is done with a name: a place for each parameter is all that is read of them
abbrev pub Alike : Unfold → Unfold → List Node → List Node → Type 0
Alike gone gone xs ys = Unit {0}
Alike gone (newtype qs d) xs ys = ⊥
Alike gone (abbreviation qs d) xs ys = ⊥
Alike gone stays xs ys = ⊥
Alike (newtype ps c) gone xs ys = ⊥
Alike (newtype ps c) (newtype qs d) xs ys = (length ps ≡ length qs) × (xs ≡ ys)
Alike (newtype ps c) (abbreviation qs d) xs ys = (length ps ≡ length qs) × (xs ≡ ys)
Alike (newtype ps c) stays xs ys = ⊥
Alike (abbreviation ps c) gone xs ys = ⊥
Alike (abbreviation ps c) (newtype qs d) xs ys = (length ps ≡ length qs) × (xs ≡ ys)
Alike (abbreviation ps c) (abbreviation qs d) xs ys = (length ps ≡ length qs) × (xs ≡ ys)
Alike (abbreviation ps c) stays xs ys = ⊥
Alike stays gone xs ys = ⊥
Alike stays (newtype qs d) xs ys = ⊥
Alike stays (abbreviation qs d) xs ys = ⊥
Alike stays stays xs ys = Unit {0}

named_alike : (n : ℕ) (xs ys : List Node) (xss : List (List Node)) (l m : Unfold) → Alike l m xs ys → named n xs xss l ≡ named n ys xss m
unfolding named
named_alike n xs ys xss gone gone h = refl
named_alike n xs ys xss gone (newtype qs d) h = absurd h
named_alike n xs ys xss gone (abbreviation qs d) h = absurd h
named_alike n xs ys xss gone stays h = absurd h
named_alike n xs ys xss (newtype ps c) gone h = absurd h
named_alike n xs ys xss (newtype ps c) (newtype qs d) h = ap₂ (λ (k : ℕ) (l : List Node). placed k l xss) h.0 h.1
named_alike n xs ys xss (newtype ps c) (abbreviation qs d) h = ap₂ (λ (k : ℕ) (l : List Node). placed k l xss) h.0 h.1
named_alike n xs ys xss (newtype ps c) stays h = absurd h
named_alike n xs ys xss (abbreviation ps c) gone h = absurd h
named_alike n xs ys xss (abbreviation ps c) (newtype qs d) h = ap₂ (λ (k : ℕ) (l : List Node). placed k l xss) h.0 h.1
named_alike n xs ys xss (abbreviation ps c) (abbreviation qs d) h = ap₂ (λ (k : ℕ) (l : List Node). placed k l xss) h.0 h.1
named_alike n xs ys xss (abbreviation ps c) stays h = absurd h
named_alike n xs ys xss stays gone h = absurd h
named_alike n xs ys xss stays (newtype qs d) h = absurd h
named_alike n xs ys xss stays (abbreviation qs d) h = absurd h
named_alike n xs ys xss stays stays h = refl

module _ (lay lay' : ℕ → Unfold) (form form' : ℕ → List Node) (ps : List ℕ) (ρ : ℕ → ℕ) where
  abbrev pub Same : ℕ → Type 0
  Same n = Alike (lay n) (lay' n) (form n) (form' n)

  mutual
    unfolding nodes

    pub nodes_alike : (c : Cty) → All Same c → nodes lay form ps ρ c ≡ nodes lay' form' ps ρ c
    nodes_alike TUnit h = refl
    nodes_alike TAny h = refl
    nodes_alike TExn h = refl
    nodes_alike (TVar v) h = refl
    nodes_alike (TInt s w) h = refl
    nodes_alike (TFloat f) h = refl
    nodes_alike (TConst c) h = refl
    nodes_alike (TArrow a e b) h = ap₂ (λ (x y : List Node). x ++ (y ++ (node 7 2 e ∷ []))) (nodes_alike a h.0) (nodes_alike b h.1)
    nodes_alike (TApp n ts) h =
        ap (λ (xss : List (List Node)). named n (form n) xss (lay n)) (each_alike ts h.1) ∙ named_alike n (form n) (form' n) (nodes_each lay' form' ps ρ ts) (lay n) (lay' n) h.0
    nodes_alike (TTuple ts) h = ap (λ (xss : List (List Node)). joined xss ++ (node 9 (lengths ts) 0 ∷ [])) (each_alike ts h)
    nodes_alike (TBuf t) h = ap (λ (x : List Node). x ++ (node 10 1 0 ∷ [])) (nodes_alike t h)
    nodes_alike (TRef k t) h = ap (λ (x : List Node). x ++ (node 11 1 k ∷ [])) (nodes_alike t h)
    nodes_alike (TInline t) h = ap (λ (x : List Node). x ++ (node 12 1 0 ∷ [])) (nodes_alike t h)

    pub each_alike : (ts : Ctys) → Alls Same ts → nodes_each lay form ps ρ ts ≡ nodes_each lay' form' ps ρ ts
    each_alike nil h = refl
    each_alike (cons t ts) h = ap₂ (λ (x : List Node) (xs : List (List Node)). x ∷ xs) (nodes_alike t h.0) (each_alike ts h.1)
