-- Laws of resolving types, for any account of what becomes of a name and any limit: what is resolved
-- depends on the names that are met alone; the checked resolution, where it answers, answers with
-- what `resolve` gives, and nothing is left to unfold in it; fuel past the rank of the names met
-- changes nothing; and what follows for `rw_decl` and `decl_fault`. Assumes nothing.
use Rattle.std.specs.Prelude.{◌⊎◌, ◌≡◌, Bool, ◌&&◌, T, eqb, leb, ltb, length}
use Rattle.std.proofs.Math.Logic.{inl}
use Rattle.std.proofs.Common.{inr, ⊎_elim, sym, ◌∙◌, subst, arith, leb→le, le→leb}
use Rattle.std.proofs.Math.Path.{refl, ap, ap₂}
use mathlib.Core.List.{List, [], ◌∷◌, map}
use Rattle.std.proofs.Math.Bool.{true, false, not}
use Rattle.std.proofs.Math.Option.{Option, none, some}
use Prim.Native.Nat.{ℕ, zero, suc, ◌≤◌, ◌<◌}
use Rattle.std.proofs.Math.ListN.{get_or}
use Rattle.number_columns.specs.Column.{pick}
use Rattle.sheet.proofs.ListLaws.{mem_every, Every, every_map}
use Rattle.model.specs.Cty.{
  Cty,
  Ctys,
  TUnit,
  TAny,
  TExn,
  TVar,
  TInt,
  TFloat,
  TConst,
  TArrow,
  TApp,
  TTuple,
  TBuf,
  TRef,
  TInline,
  nil,
  cons,
  lengths,
  firsts,
  others,
  walk,
  walks,
  size,
  sizes,
  names_of_cty,
  cty_vars,
}
use Rattle.model_laws.specs.Cty.{
  Any,
  All,
  Alls,
  each_map,
  all_map,
  alls_map,
  walk_each,
  walk_same,
  walk_still,
  firsts_eachs,
  others_eachs,
  attach_each,
  instance_each,
  attach_nil,
}
use Rattle.model.specs.Resolve.{
  Unfold,
  gone,
  newtype,
  abbreviation,
  stays,
  unfold_name,
  attach,
  instance,
  applied,
  resolve,
  Result,
  ok,
  fault,
  spent,
  bind,
  sized,
  within,
  is_app,
  surplus,
  checked_applied,
  checked,
  checkeds,
  resolve_checked,
}
use Rattle.model.specs.Decl.{table, Field, Ctor, Body, TAbstract, TAbbrev, TRecord, TVariant, Dtype, ctors_of, CtorLayout, NewtypeLayout, Layout, L_erased, L_newtype, L_struct, L_abbrev, L_opaque, here, Decl, member}
use Rattle.model.specs.Layout.{ctor_tag, layouts_of_ctors, ctor_layouts, collapse, layout_of_body, layout_of}
use Rattle.model.specs.Run.{
  spent_code,
  with_body,
  all_in,
  collapsed_abbrev,
  resolved_field,
  resolved_ctor,
  struct_body,
  rw_decl,
  field_types,
  resolves,
  fault_code,
  decl_fault,
}
use Rattle.model_laws.specs.Lists.{true_of}

-- ---- results
-- Q of an answer, F of a fault's code, and S where the fuel has run out
abbrev pub On : {A : Type 0} → (A → Type 0) → (ℕ → Type 0) → Type 0 → Result A → Type 0
On Q F S (ok a) = Q a
On Q F S (fault e) = F e
On Q F S spent = S

abbrev pub Unspent : {A : Type 0} → Result A → Type 0
Unspent (ok a) = Unit {0}
Unspent (fault e) = Unit {0}
Unspent spent = ⊥

-- the codes of rows 9 and 10
abbrev pub Row : ℕ → Type 0
Row e = (e ≡ 9) ⊎ (e ≡ 10)

pub on_map : {A : Type 0} (Q R : A → Type 0) (F G : ℕ → Type 0) (S U : Type 0) → ((a : A) → Q a → R a) → ((e : ℕ) → F e → G e) → (S → U) → (r : Result A) → On Q F S r → On R G U r
on_map Q R F G S U f g s (ok a) h = f a h
on_map Q R F G S U f g s (fault e) h = g e h
on_map Q R F G S U f g s spent h = s h

pub on_unspent : {A : Type 0} (Q : A → Type 0) (F : ℕ → Type 0) (r : Result A) → On Q F ⊥ r → Unspent r
on_unspent Q F (ok a) h = tt
on_unspent Q F (fault e) h = tt
on_unspent Q F spent h = h

pub unspent_on : {A : Type 0} (Q : A → Type 0) (F : ℕ → Type 0) (S : Type 0) (r : Result A) → Unspent r → On Q F S r → On Q F ⊥ r
unspent_on Q F S (ok a) u h = h
unspent_on Q F S (fault e) u h = h
unspent_on Q F S spent u h = u

pub bind_on : {A B : Type 0} (Q : A → Type 0) (R : B → Type 0) (F : ℕ → Type 0) (S : Type 0) (r : Result A) (f : A → Result B) → On Q F S r → ((a : A) → Q a → On R F S (f a)) → On R F S (bind r f)
unfolding bind
bind_on Q R F S (ok a) f h k = k a h
bind_on Q R F S (fault e) f h k = h
bind_on Q R F S spent f h k = h

pub bind_cong : {A B : Type 0} (Q : A → Type 0) (F : ℕ → Type 0) (S : Type 0) (r r' : Result A) (f f' : A → Result B) → On Q F S r → r ≡ r' → ((a : A) → Q a → f a ≡ f' a) → bind r f ≡ bind r' f'
unfolding bind
bind_cong {A} {B} Q F S r r' f f' h e k = go r h ∙ ap (λ (s : Result A). bind s f') e
  where
    go : (s : Result A) → On Q F S s → bind s f ≡ bind s f'
    go (ok a) q = k a q
    go (fault c) q = refl
    go spent q = refl

-- what passes the test of its size is small
sized_on : (Q : Cty → Type 0) (F : ℕ → Type 0) (S : Type 0) (limit : ℕ) (c : Cty) → F 10 → Q c → On (λ t. Q t × (size t ≤ limit)) F S (sized limit c)
unfolding sized
sized_on Q F S limit c f q = go (leb (size c) limit) (λ t. leb→le (size c) limit t)
  where
    go : (b : Bool) → (T b → size c ≤ limit) → On (λ t. Q t × (size t ≤ limit)) F S (pick b (ok c) (fault 10))
    go true g = (q, g tt)
    go false g = f

within_on : (Q : Cty → Type 0) (F : ℕ → Type 0) (S : Type 0) (limit : ℕ) (c : Cty) (r : Result Cty) → F 10 → On Q F S r → On (λ t. Q t × (size t ≤ limit)) F S (within limit c r)
unfolding within
within_on Q F S limit c r f h = go (leb (size c) limit)
  where
    go : (b : Bool) → On (λ t. Q t × (size t ≤ limit)) F S (elim b [ true ↦ bind r (sized limit) | false ↦ fault 10 ])
    go true = bind_on Q (λ t. Q t × (size t ≤ limit)) F S r (sized limit) h (λ t q. sized_on Q F S limit t f q)
    go false = f

within_ok : (limit : ℕ) (c : Cty) → size c ≤ limit → within limit c (ok c) ≡ ok c
unfolding within bind sized
within_ok limit c h =
    ap₂ (λ (a b : Bool). elim a [ true ↦ pick b (ok c) (fault 10) | false ↦ fault 10 ]) small small
  where
    small : leb (size c) limit ≡ true
    small = true_of (leb (size c) limit) (le→leb (size c) limit h)

-- ---- what becomes of a name
-- a name that is replaced by a type
abbrev pub Unfolds : Unfold → Type 0
Unfolds gone = ⊥
Unfolds (newtype ps c) = Unit {0}
Unfolds (abbreviation ps c) = Unit {0}
Unfolds stays = ⊥

-- P of each name of that type
abbrev pub BodyAll : (ℕ → Type 0) → Unfold → Type 0
BodyAll P gone = Unit {0}
BodyAll P (newtype ps c) = All P c
BodyAll P (abbreviation ps c) = All P c
BodyAll P stays = Unit {0}

-- what stands for a name with its arguments, before it is resolved in turn
module _ (P : ℕ → Type 0) where
  payload_all : (ps : List ℕ) (us : Ctys) (c : Cty) → Alls P us → All P c → All P (instance ps us c)
  payload_all ps us c h k = instance_each Any P ps us c h k

  first_args_all : (ps : List ℕ) (us : Ctys) (c : Cty) → Alls P us → All P c → All P (instance ps (firsts (length ps) us) c)
  first_args_all ps us c h k = payload_all ps (firsts (length ps) us) c (firsts_eachs Any P (length ps) us h) k

  abbreviated_all : (ps : List ℕ) (us : Ctys) (c : Cty) → Alls P us → All P c → All P (attach (instance ps (firsts (length ps) us) c) (others (length ps) us))
  abbreviated_all ps us c h k =
      attach_each Any P (instance ps (firsts (length ps) us) c) (others (length ps) us) (first_args_all ps us c h k) (others_eachs Any P (length ps) us h)

  module _ (next : Cty → Cty) (n : ℕ) (us : Ctys) where
    applied_on : (Z : Cty → Type 0) (l : Unfold) → (Unfolds l → (c : Cty) → All P c → Z (next c)) → BodyAll P l → Alls P us → Z TUnit → (l ≡ stays → Z (TApp n us)) → Z (applied next n us l)
    unfolding applied
    applied_on Z gone f b h z k = z
    applied_on Z (newtype ps c) f b h z k = f tt (instance ps us c) (payload_all ps us c h b)
    applied_on Z (abbreviation ps c) f b h z k =
        f tt (attach (instance ps (firsts (length ps) us) c) (others (length ps) us)) (abbreviated_all ps us c h b)
    applied_on Z stays f b h z k = k refl

    applied_same : (next' : Cty → Cty) (l : Unfold) → (Unfolds l → (c : Cty) → All P c → next c ≡ next' c) → BodyAll P l → Alls P us → applied next n us l ≡ applied next' n us l
    unfolding applied
    applied_same next' gone f b h = refl
    applied_same next' (newtype ps c) f b h = f tt (instance ps us c) (payload_all ps us c h b)
    applied_same next' (abbreviation ps c) f b h =
        f tt (attach (instance ps (firsts (length ps) us) c) (others (length ps) us)) (abbreviated_all ps us c h b)
    applied_same next' stays f b h = refl

  module _ (next : Cty → Result Cty) where
    surplus_on : (Z : Cty → Type 0) (F : ℕ → Type 0) (S : Type 0) → F 9 → ((c : Cty) → All P c → On Z F S (next c)) → (c : Cty) (us : Ctys) → All P c → Alls P us → On Z F S (surplus next c us)
    unfolding surplus
    surplus_on Z F S f9 f c nil h k = f c h
    surplus_on Z F S f9 f c (cons u us) h k = go (is_app c)
      where
        go : (b : Bool) → On Z F S (elim b [ true ↦ next (attach c (cons u us)) | false ↦ fault 9 ])
        go true = f (attach c (cons u us)) (attach_each Any P c (cons u us) h k)
        go false = f9

    surplus_same : (next' : Cty → Result Cty) → ((c : Cty) → All P c → next c ≡ next' c) → (c : Cty) (us : Ctys) → All P c → Alls P us → surplus next c us ≡ surplus next' c us
    unfolding surplus
    surplus_same next' f c nil h k = f c h
    surplus_same next' f c (cons u us) h k =
        ap (λ (r : Result Cty). elim (is_app c) [ true ↦ r | false ↦ fault 9 ]) (f (attach c (cons u us)) (attach_each Any P c (cons u us) h k))

    module _ (n : ℕ) (us : Ctys) where
      checked_applied_on : (Z : Cty → Type 0) (F : ℕ → Type 0) (S : Type 0) (l : Unfold) → F 9 → (Unfolds l → (c : Cty) → All P c → On Z F S (next c)) → BodyAll P l → Alls P us → Z TUnit → (l ≡ stays → Z (TApp n us)) → On Z F S (checked_applied next n us l)
      unfolding checked_applied
      checked_applied_on Z F S gone f9 f b h z k = z
      checked_applied_on Z F S (newtype ps c) f9 f b h z k = go (eqb (lengths us) (length ps))
        where
          go : (t : Bool) → On Z F S (elim t [ true ↦ next (instance ps us c) | false ↦ fault 9 ])
          go true = f tt (instance ps us c) (payload_all ps us c h b)
          go false = f9
      checked_applied_on Z F S (abbreviation ps c) f9 f b h z k = go (ltb (lengths us) (length ps))
        where
          go : (t : Bool) → On Z F S (elim t [ true ↦ fault 9 | false ↦ surplus next (instance ps (firsts (length ps) us) c) (others (length ps) us) ])
          go true = f9
          go false =
              surplus_on Z F S f9 (f tt) (instance ps (firsts (length ps) us) c) (others (length ps) us) (first_args_all ps us c h b) (others_eachs Any P (length ps) us h)
      checked_applied_on Z F S stays f9 f b h z k = k refl

      checked_applied_same : (next' : Cty → Result Cty) (l : Unfold) → (Unfolds l → (c : Cty) → All P c → next c ≡ next' c) → BodyAll P l → Alls P us → checked_applied next n us l ≡ checked_applied next' n us l
      unfolding checked_applied
      checked_applied_same next' gone f b h = refl
      checked_applied_same next' (newtype ps c) f b h =
          ap (λ (r : Result Cty). elim (eqb (lengths us) (length ps)) [ true ↦ r | false ↦ fault 9 ]) (f tt (instance ps us c) (payload_all ps us c h b))
      checked_applied_same next' (abbreviation ps c) f b h =
          ap (λ (r : Result Cty). elim (ltb (lengths us) (length ps)) [ true ↦ fault 9 | false ↦ r ])
          (surplus_same next' (f tt) (instance ps (firsts (length ps) us) c) (others (length ps) us) (first_args_all ps us c h b) (others_eachs Any P (length ps) us h))
      checked_applied_same next' stays f b h = refl

-- ---- one level of the checked resolution
module _ (limit : ℕ) (lay : ℕ → Unfold) (next : Cty → Result Cty) (P Q : ℕ → Type 0) (F : ℕ → Type 0) (S : Type 0) (f10 : F 10)
    (ha : (n : ℕ) (us : Ctys) → P n → Alls Q us → On (All Q) F S (checked_applied next n us (lay n))) where
  abbrev Small : Cty → Type 0
  Small t = All Q t × (size t ≤ limit)

  mutual
    unfolding checked

    checked_on : (c : Cty) → All P c → On Small F S (checked limit lay next c)
    checked_on TUnit h = within_on (All Q) F S limit TUnit (ok TUnit) f10 tt
    checked_on TAny h = within_on (All Q) F S limit TAny (ok TAny) f10 tt
    checked_on TExn h = within_on (All Q) F S limit TExn (ok TExn) f10 tt
    checked_on (TVar v) h = within_on (All Q) F S limit (TVar v) (ok (TVar v)) f10 tt
    checked_on (TInt s w) h = within_on (All Q) F S limit (TInt s w) (ok (TInt s w)) f10 tt
    checked_on (TFloat f) h = within_on (All Q) F S limit (TFloat f) (ok (TFloat f)) f10 tt
    checked_on (TConst c) h = within_on (All Q) F S limit (TConst c) (ok (TConst c)) f10 tt
    checked_on (TArrow a e b) h =
        within_on (All Q) F S limit (TArrow a e b) (bind (checked limit lay next a) (λ x. bind (checked limit lay next b) (λ y. ok (TArrow x e y)))) f10
        (bind_on Small (All Q) F S (checked limit lay next a) (λ x. bind (checked limit lay next b) (λ y. ok (TArrow x e y))) (checked_on a h.0)
        (λ x p. bind_on Small (All Q) F S (checked limit lay next b) (λ y. ok (TArrow x e y)) (checked_on b h.1) (λ y q. (p.0, q.0))))
    checked_on (TApp n ts) h =
        within_on (All Q) F S limit (TApp n ts) (bind (checkeds limit lay next ts) (λ us. checked_applied next n us (lay n))) f10
        (bind_on (Alls Q) (All Q) F S (checkeds limit lay next ts) (λ us. checked_applied next n us (lay n)) (checkeds_on ts h.1) (λ us k. ha n us h.0 k))
    checked_on (TTuple ts) h =
        within_on (All Q) F S limit (TTuple ts) (bind (checkeds limit lay next ts) (λ us. ok (TTuple us))) f10
        (bind_on (Alls Q) (All Q) F S (checkeds limit lay next ts) (λ us. ok (TTuple us)) (checkeds_on ts h) (λ us k. k))
    checked_on (TBuf t) h =
        within_on (All Q) F S limit (TBuf t) (bind (checked limit lay next t) (λ x. ok (TBuf x))) f10
        (bind_on Small (All Q) F S (checked limit lay next t) (λ x. ok (TBuf x)) (checked_on t h) (λ x p. p.0))
    checked_on (TRef k t) h =
        within_on (All Q) F S limit (TRef k t) (bind (checked limit lay next t) (λ x. ok (TRef k x))) f10
        (bind_on Small (All Q) F S (checked limit lay next t) (λ x. ok (TRef k x)) (checked_on t h) (λ x p. p.0))
    checked_on (TInline t) h =
        within_on (All Q) F S limit (TInline t) (bind (checked limit lay next t) (λ x. ok (TInline x))) f10
        (bind_on Small (All Q) F S (checked limit lay next t) (λ x. ok (TInline x)) (checked_on t h) (λ x p. p.0))

    checkeds_on : (ts : Ctys) → Alls P ts → On (Alls Q) F S (checkeds limit lay next ts)
    checkeds_on nil h = tt
    checkeds_on (cons t ts) h =
        bind_on Small (Alls Q) F S (checked limit lay next t) (λ x. bind (checkeds limit lay next ts) (λ xs. ok (cons x xs))) (checked_on t h.0)
        (λ x p. bind_on (Alls Q) (Alls Q) F S (checkeds limit lay next ts) (λ xs. ok (cons x xs)) (checkeds_on ts h.1) (λ xs q. (p.0, q)))

  module _ (lay' : ℕ → Unfold) (next' : Cty → Result Cty)
      (ea : (n : ℕ) (us : Ctys) → P n → Alls Q us → checked_applied next n us (lay n) ≡ checked_applied next' n us (lay' n)) where
    mutual
      unfolding checked

      checked_same : (c : Cty) → All P c → checked limit lay next c ≡ checked limit lay' next' c
      checked_same TUnit h = refl
      checked_same TAny h = refl
      checked_same TExn h = refl
      checked_same (TVar v) h = refl
      checked_same (TInt s w) h = refl
      checked_same (TFloat f) h = refl
      checked_same (TConst c) h = refl
      checked_same (TArrow a e b) h =
          ap₂ (λ (r s : Result Cty). within limit (TArrow a e b) (bind r (λ x. bind s (λ y. ok (TArrow x e y))))) (checked_same a h.0) (checked_same b h.1)
      checked_same (TApp n ts) h =
          ap (within limit (TApp n ts))
          (bind_cong (Alls Q) F S (checkeds limit lay next ts) (checkeds limit lay' next' ts) (λ us. checked_applied next n us (lay n)) (λ us. checked_applied next' n us (lay' n))
          (checkeds_on ts h.1) (checkeds_same ts h.1) (λ us k. ea n us h.0 k))
      checked_same (TTuple ts) h =
          ap (λ (r : Result Ctys). within limit (TTuple ts) (bind r (λ us. ok (TTuple us)))) (checkeds_same ts h)
      checked_same (TBuf t) h = ap (λ (r : Result Cty). within limit (TBuf t) (bind r (λ x. ok (TBuf x)))) (checked_same t h)
      checked_same (TRef k t) h =
          ap (λ (r : Result Cty). within limit (TRef k t) (bind r (λ x. ok (TRef k x)))) (checked_same t h)
      checked_same (TInline t) h =
          ap (λ (r : Result Cty). within limit (TInline t) (bind r (λ x. ok (TInline x)))) (checked_same t h)

      checkeds_same : (ts : Ctys) → Alls P ts → checkeds limit lay next ts ≡ checkeds limit lay' next' ts
      checkeds_same nil h = refl
      checkeds_same (cons t ts) h =
          ap₂ (λ (r : Result Cty) (s : Result Ctys). bind r (λ x. bind s (λ xs. ok (cons x xs)))) (checked_same t h.0) (checkeds_same ts h.1)

-- ---- locality
-- P is closed where the type that stands for a name with P has names with P alone.
abbrev pub Closed : (ℕ → Unfold) → (ℕ → Type 0) → Type 0
Closed lay P = (n : ℕ) → P n → BodyAll P (lay n)

abbrev pub Agree : (ℕ → Unfold) → (ℕ → Unfold) → (ℕ → Type 0) → Type 0
Agree lay lay' P = (n : ℕ) → P n → lay n ≡ lay' n

module _ (lay : ℕ → Unfold) (P : ℕ → Type 0) (closed : Closed lay P) where
  -- resolving a type whose names have P gives a type whose names have P
  pub resolve_all : (k : ℕ) (c : Cty) → All P c → All P (resolve lay k c)
  unfolding resolve
  resolve_all zero c h = h
  resolve_all (suc k) c h =
      walk_each Any P Any P TVar (λ n us. applied (resolve lay k) n us (lay n)) (λ v u. u)
      (λ n us p q. applied_on P (resolve lay k) n us (All P) (lay n) (λ u d. resolve_all k d) (closed n p) q tt (λ e. (p, q))) c h

  checked_all_on : (limit k : ℕ) (c : Cty) → All P c → On (All P) Any (Unit {0}) (resolve_checked limit lay k c)
  unfolding resolve_checked
  checked_all_on limit zero c h = tt
  checked_all_on limit (suc k) c h =
      on_map (λ t. All P t × (size t ≤ limit)) (All P) Any Any (Unit {0}) (Unit {0}) (λ t p. p.0) (λ e u. u) (λ u. u) (checked limit lay (resolve_checked limit lay k) c)
      (checked_on limit lay (resolve_checked limit lay k) P P Any (Unit {0}) tt
      (λ n us p q. checked_applied_on P (resolve_checked limit lay k) n us (All P) Any (Unit {0}) (lay n) tt (λ u d. checked_all_on limit k d) (closed n p) q tt (λ e. (p, q))) c h)

  pub checked_all : (limit k : ℕ) (c t : Cty) → All P c → resolve_checked limit lay k c ≡ ok t → All P t
  checked_all limit k c t h e = subst (On (All P) Any (Unit {0})) e (checked_all_on limit k c h)

  module _ (lay' : ℕ → Unfold) (agree : Agree lay lay' P) where
    -- what is resolved depends on the names that are met alone
    pub resolve_local : (k : ℕ) (c : Cty) → All P c → resolve lay k c ≡ resolve lay' k c
    unfolding resolve
    resolve_local zero c h = refl
    resolve_local (suc k) c h =
        walk_same Any P Any P TVar (λ n us. applied (resolve lay k) n us (lay n)) (λ v u. u)
        (λ n us p q. applied_on P (resolve lay k) n us (All P) (lay n) (λ u d. resolve_all k d) (closed n p) q tt (λ e. (p, q)))
        TVar (λ n us. applied (resolve lay' k) n us (lay' n)) (λ v u. refl)
        (λ n us p q. applied_same P (resolve lay k) n us (resolve lay' k) (lay n) (λ u d. resolve_local k d) (closed n p) q
        ∙ ap (λ (l : Unfold). applied (resolve lay' k) n us l) (agree n p))
        c h

    pub checked_local : (limit k : ℕ) (c : Cty) → All P c → resolve_checked limit lay k c ≡ resolve_checked limit lay' k c
    unfolding resolve_checked
    checked_local limit zero c h = refl
    checked_local limit (suc k) c h =
        checked_same limit lay (resolve_checked limit lay k) P P Any (Unit {0}) tt
        (λ n us p q. checked_applied_on P (resolve_checked limit lay k) n us (All P) Any (Unit {0}) (lay n) tt (λ u d. checked_all_on limit k d) (closed n p) q tt (λ e. (p, q)))
        lay' (resolve_checked limit lay' k)
        (λ n us p q. checked_applied_same P (resolve_checked limit lay k) n us (resolve_checked limit lay' k) (lay n) (λ u d. checked_local limit k d) (closed n p) q
        ∙ ap (λ (l : Unfold). checked_applied (resolve_checked limit lay' k) n us l) (agree n p))
        c h

-- ---- the checked resolution answers with what `resolve` gives
module _ (lay : ℕ → Unfold) where
  -- a name that is left
  abbrev pub Stays : ℕ → Type 0
  Stays n = lay n ≡ stays

  -- nothing to unfold and nothing erased
  abbrev pub Normal : Cty → Type 0
  Normal t = All Stays t

  module _ (limit : ℕ) (next₀ : Cty → Cty) (next : Cty → Result Cty)
      (ih : (c : Cty) → On (λ t. (next₀ c ≡ t) × Normal t) Row (Unit {0}) (next c)) where
    surplus_sound : (c : Cty) (us : Ctys) → On (λ t. (next₀ (attach c us) ≡ t) × Normal t) Row (Unit {0}) (surplus next c us)
    unfolding surplus
    surplus_sound c nil = rw (attach_nil c) (ih c)
    surplus_sound c (cons u us) = go (is_app c)
      where
        go : (b : Bool) → On (λ t. (next₀ (attach c (cons u us)) ≡ t) × Normal t) Row (Unit {0}) (elim b [ true ↦ next (attach c (cons u us)) | false ↦ fault 9 ])
        go true = ih (attach c (cons u us))
        go false = inl refl

    applied_sound : (n : ℕ) (us : Ctys) → Alls Stays us → (l : Unfold) → lay n ≡ l → On (λ t. (applied next₀ n us l ≡ t) × Normal t) Row (Unit {0}) (checked_applied next n us l)
    unfolding applied checked_applied
    applied_sound n us h gone e = (refl, tt)
    applied_sound n us h (newtype ps c) e = go (eqb (lengths us) (length ps))
      where
        go : (b : Bool) → On (λ t. (next₀ (instance ps us c) ≡ t) × Normal t) Row (Unit {0}) (elim b [ true ↦ next (instance ps us c) | false ↦ fault 9 ])
        go true = ih (instance ps us c)
        go false = inl refl
    applied_sound n us h (abbreviation ps c) e = go (ltb (lengths us) (length ps))
      where
        go : (b : Bool) → On (λ t. (next₀ (attach (instance ps (firsts (length ps) us) c) (others (length ps) us)) ≡ t) × Normal t) Row (Unit {0}) (elim b [ true ↦ fault 9 | false ↦ surplus next (instance ps (firsts (length ps) us) c) (others (length ps) us) ])
        go true = inl refl
        go false = surplus_sound (instance ps (firsts (length ps) us) c) (others (length ps) us)
    applied_sound n us h stays e = (refl, (e, h))

    abbrev app₀ : ℕ → Ctys → Cty
    app₀ n us = applied next₀ n us (lay n)

    abbrev Sound : Cty → Cty → Type 0
    Sound c t = (walk TVar app₀ c ≡ t) × Normal t

    abbrev SmallSound : Cty → Cty → Type 0
    SmallSound c t = Sound c t × (size t ≤ limit)

    abbrev Sounds : Ctys → Ctys → Type 0
    Sounds ts us = (walks TVar app₀ ts ≡ us) × Alls Stays us

    mutual
      unfolding checked walk

      checked_sound : (c : Cty) → On (SmallSound c) Row (Unit {0}) (checked limit lay next c)
      checked_sound TUnit = within_on (Sound TUnit) Row (Unit {0}) limit TUnit (ok TUnit) (inr refl) (refl, tt)
      checked_sound TAny = within_on (Sound TAny) Row (Unit {0}) limit TAny (ok TAny) (inr refl) (refl, tt)
      checked_sound TExn = within_on (Sound TExn) Row (Unit {0}) limit TExn (ok TExn) (inr refl) (refl, tt)
      checked_sound (TVar v) = within_on (Sound (TVar v)) Row (Unit {0}) limit (TVar v) (ok (TVar v)) (inr refl) (refl, tt)
      checked_sound (TInt s w) = within_on (Sound (TInt s w)) Row (Unit {0}) limit (TInt s w) (ok (TInt s w)) (inr refl) (refl, tt)
      checked_sound (TFloat f) = within_on (Sound (TFloat f)) Row (Unit {0}) limit (TFloat f) (ok (TFloat f)) (inr refl) (refl, tt)
      checked_sound (TConst c) = within_on (Sound (TConst c)) Row (Unit {0}) limit (TConst c) (ok (TConst c)) (inr refl) (refl, tt)
      checked_sound (TArrow a e b) =
          within_on (Sound (TArrow a e b)) Row (Unit {0}) limit (TArrow a e b) (bind (checked limit lay next a) (λ x. bind (checked limit lay next b) (λ y. ok (TArrow x e y)))) (inr refl)
          (bind_on (SmallSound a) (Sound (TArrow a e b)) Row (Unit {0}) (checked limit lay next a) (λ x. bind (checked limit lay next b) (λ y. ok (TArrow x e y))) (checked_sound a)
          (λ x p. bind_on (SmallSound b) (Sound (TArrow a e b)) Row (Unit {0}) (checked limit lay next b) (λ y. ok (TArrow x e y)) (checked_sound b)
          (λ y q. (ap₂ (λ (z w : Cty). TArrow z e w) p.0.0 q.0.0, (p.0.1, q.0.1)))))
      checked_sound (TApp n ts) =
          within_on (Sound (TApp n ts)) Row (Unit {0}) limit (TApp n ts) (bind (checkeds limit lay next ts) (λ us. checked_applied next n us (lay n))) (inr refl)
          (bind_on (Sounds ts) (Sound (TApp n ts)) Row (Unit {0}) (checkeds limit lay next ts) (λ us. checked_applied next n us (lay n)) (checkeds_sound ts)
          (λ us p. subst (λ (ws : Ctys). On (λ t. (applied next₀ n ws (lay n) ≡ t) × Normal t) Row (Unit {0}) (checked_applied next n us (lay n))) (sym p.0) (applied_sound n us p.1 (lay n) refl)))
      checked_sound (TTuple ts) =
          within_on (Sound (TTuple ts)) Row (Unit {0}) limit (TTuple ts) (bind (checkeds limit lay next ts) (λ us. ok (TTuple us))) (inr refl)
          (bind_on (Sounds ts) (Sound (TTuple ts)) Row (Unit {0}) (checkeds limit lay next ts) (λ us. ok (TTuple us)) (checkeds_sound ts) (λ us p. (ap TTuple p.0, p.1)))
      checked_sound (TBuf t) =
          within_on (Sound (TBuf t)) Row (Unit {0}) limit (TBuf t) (bind (checked limit lay next t) (λ x. ok (TBuf x))) (inr refl)
          (bind_on (SmallSound t) (Sound (TBuf t)) Row (Unit {0}) (checked limit lay next t) (λ x. ok (TBuf x)) (checked_sound t) (λ x p. (ap TBuf p.0.0, p.0.1)))
      checked_sound (TRef k t) =
          within_on (Sound (TRef k t)) Row (Unit {0}) limit (TRef k t) (bind (checked limit lay next t) (λ x. ok (TRef k x))) (inr refl)
          (bind_on (SmallSound t) (Sound (TRef k t)) Row (Unit {0}) (checked limit lay next t) (λ x. ok (TRef k x)) (checked_sound t) (λ x p. (ap (TRef k) p.0.0, p.0.1)))
      checked_sound (TInline t) =
          within_on (Sound (TInline t)) Row (Unit {0}) limit (TInline t) (bind (checked limit lay next t) (λ x. ok (TInline x))) (inr refl)
          (bind_on (SmallSound t) (Sound (TInline t)) Row (Unit {0}) (checked limit lay next t) (λ x. ok (TInline x)) (checked_sound t) (λ x p. (ap TInline p.0.0, p.0.1)))

      checkeds_sound : (ts : Ctys) → On (Sounds ts) Row (Unit {0}) (checkeds limit lay next ts)
      checkeds_sound nil = (refl, tt)
      checkeds_sound (cons t ts) =
          bind_on (SmallSound t) (Sounds (cons t ts)) Row (Unit {0}) (checked limit lay next t) (λ x. bind (checkeds limit lay next ts) (λ xs. ok (cons x xs))) (checked_sound t)
          (λ x p. bind_on (Sounds ts) (Sounds (cons t ts)) Row (Unit {0}) (checkeds limit lay next ts) (λ xs. ok (cons x xs)) (checkeds_sound ts) (λ xs q. (ap₂ cons p.0.0 q.0, (p.0.1, q.1))))

  -- An answer is what `resolve` gives, it is normal and small; a fault's code is 9 or 10.
  pub resolve_sound : (limit k : ℕ) (c : Cty) → On (λ t. ((resolve lay k c ≡ t) × Normal t) × (size t ≤ limit)) Row (Unit {0}) (resolve_checked limit lay k c)
  unfolding resolve resolve_checked
  resolve_sound limit zero c = tt
  resolve_sound limit (suc k) c =
      checked_sound limit (resolve lay k) (resolve_checked limit lay k)
      (λ d. on_map (λ t. ((resolve lay k d ≡ t) × Normal t) × (size t ≤ limit)) (λ t. (resolve lay k d ≡ t) × Normal t) Row Row (Unit {0}) (Unit {0}) (λ t p. p.0) (λ e p. p) (λ u. u) (resolve_checked limit lay k d) (resolve_sound limit k d))
      c

  module _ (limit k : ℕ) (c : Cty) where
    answer : (t : Cty) → resolve_checked limit lay k c ≡ ok t → ((resolve lay k c ≡ t) × Normal t) × (size t ≤ limit)
    answer t e =
        subst (On (λ t. ((resolve lay k c ≡ t) × Normal t) × (size t ≤ limit)) Row (Unit {0})) e (resolve_sound limit k c)

    -- where the checked resolution answers, `resolve` gives its answer
    pub checked_resolves : (t : Cty) → resolve_checked limit lay k c ≡ ok t → resolve lay k c ≡ t
    checked_resolves t e = (answer t e).0.0

    -- and every name of that answer stays
    pub checked_normal : (t : Cty) → resolve_checked limit lay k c ≡ ok t → Normal t
    checked_normal t e = (answer t e).0.1

    pub checked_small : (t : Cty) → resolve_checked limit lay k c ≡ ok t → size t ≤ limit
    checked_small t e = (answer t e).1

  -- ---- a normal type
  -- is left as it is
  pub resolve_stays : (k : ℕ) (t : Cty) → Normal t → resolve lay k t ≡ t
  unfolding resolve applied
  resolve_stays zero t h = refl
  resolve_stays (suc k) t h =
      walk_still TVar (λ n us. applied (resolve lay k) n us (lay n)) t
      (each_map Any (λ v. TVar v ≡ TVar v) Stays (λ n. (us : Ctys) → applied (resolve lay k) n us (lay n) ≡ TApp n us) (λ v u. refl)
      (λ n e us. ap (λ (l : Unfold). applied (resolve lay k) n us l) e) t h)

  module _ (limit : ℕ) (next : Cty → Result Cty) where
    mutual
      unfolding checked size bind checked_applied

      level_stays : (t : Cty) → Normal t → size t ≤ limit → checked limit lay next t ≡ ok t
      level_stays TUnit h q = within_ok limit TUnit q
      level_stays TAny h q = within_ok limit TAny q
      level_stays TExn h q = within_ok limit TExn q
      level_stays (TVar v) h q = within_ok limit (TVar v) q
      level_stays (TInt s w) h q = within_ok limit (TInt s w) q
      level_stays (TFloat f) h q = within_ok limit (TFloat f) q
      level_stays (TConst c) h q = within_ok limit (TConst c) q
      level_stays (TArrow a e b) h q =
          ap₂ (λ (r s : Result Cty). within limit (TArrow a e b) (bind r (λ x. bind s (λ y. ok (TArrow x e y))))) (level_stays a h.0 (omega arith)) (level_stays b h.1 (omega arith))
          ∙ within_ok limit (TArrow a e b) q
      level_stays (TApp n ts) h q =
          ap₂ (λ (r : Result Ctys) (l : Unfold). within limit (TApp n ts) (bind r (λ us. checked_applied next n us l))) (levels_stay ts h.1 (omega arith)) h.0
          ∙ within_ok limit (TApp n ts) q
      level_stays (TTuple ts) h q =
          ap (λ (r : Result Ctys). within limit (TTuple ts) (bind r (λ us. ok (TTuple us)))) (levels_stay ts h (omega arith)) ∙ within_ok limit (TTuple ts) q
      level_stays (TBuf t) h q =
          ap (λ (r : Result Cty). within limit (TBuf t) (bind r (λ x. ok (TBuf x)))) (level_stays t h (omega arith)) ∙ within_ok limit (TBuf t) q
      level_stays (TRef k t) h q =
          ap (λ (r : Result Cty). within limit (TRef k t) (bind r (λ x. ok (TRef k x)))) (level_stays t h (omega arith)) ∙ within_ok limit (TRef k t) q
      level_stays (TInline t) h q =
          ap (λ (r : Result Cty). within limit (TInline t) (bind r (λ x. ok (TInline x)))) (level_stays t h (omega arith)) ∙ within_ok limit (TInline t) q

      levels_stay : (ts : Ctys) → Alls Stays ts → sizes ts ≤ limit → checkeds limit lay next ts ≡ ok ts
      levels_stay nil h q = refl
      levels_stay (cons t ts) h q =
          ap₂ (λ (r : Result Cty) (s : Result Ctys). bind r (λ x. bind s (λ xs. ok (cons x xs)))) (level_stays t h.0 (omega arith)) (levels_stay ts h.1 (omega arith))

  -- by the checked resolution too, if it is small
  pub checked_stays : (limit k : ℕ) (t : Cty) → Normal t → size t ≤ limit → resolve_checked limit lay (suc k) t ≡ ok t
  unfolding resolve_checked
  checked_stays limit k t h q = level_stays limit (resolve_checked limit lay k) t h q

  -- what has been resolved is resolved to itself
  pub checked_again : (limit k m : ℕ) (c t : Cty) → resolve_checked limit lay k c ≡ ok t → resolve_checked limit lay (suc m) t ≡ ok t
  checked_again limit k m c t e = checked_stays limit m t (checked_normal limit k c t e) (checked_small limit k c t e)

  -- ---- fuel
  module _ (rank : ℕ → ℕ) where
    -- a name of rank below r, if it is unfolded at all
    abbrev pub Under : ℕ → ℕ → Type 0
    Under r n = Unfolds (lay n) → rank n < r

    -- the type that stands for a name has unfolded names of lower rank alone
    abbrev pub Ranked : Type 0
    Ranked = (n : ℕ) → BodyAll (Under (rank n)) (lay n)

    pub under_le : (r s : ℕ) → r ≤ s → (c : Cty) → All (Under r) c → All (Under s) c
    under_le r s q c h = all_map (Under r) (Under s) (λ n f u. under n (f u)) c h
      where
        under : (n : ℕ) → rank n < r → rank n < s
        under n p = omega arith

    stays_under : (r n : ℕ) → Stays n → Under r n
    stays_under r n e u = absurd (subst Unfolds e u)

    stay_under : (r : ℕ) (us : Ctys) → Alls Stays us → Alls (Under r) us
    stay_under r us h = alls_map Stays (Under r) (stays_under r) us h

    -- a name of rank r below suc k is replaced by a type whose names are below k
    below : (k n : ℕ) (c : Cty) → rank n < suc k → All (Under (rank n)) c → All (Under k) c
    below k n c p h = under_le (rank n) k (omega arith) c h

    never : (n : ℕ) → rank n < 0 → ⊥
    never n p = omega arith

    module _ (ranked : Ranked) where
      module _ (next : Cty → Cty) (k : ℕ) (done : (n : ℕ) → rank n < k → (d : Cty) → All (Under (rank n)) d → Normal (next d)) where
        applied_done : (n : ℕ) (us : Ctys) → Under k n → Alls Stays us → Normal (applied next n us (lay n))
        applied_done n us p q =
            applied_on (Under (rank n)) next n us Normal (lay n) (λ u. done n (p u)) (ranked n) (stay_under (rank n) us q) tt (λ e. (e, q))

        level_done : (c : Cty) → All (Under k) c → Normal (walk TVar (λ n us. applied next n us (lay n)) c)
        level_done c h =
            walk_each Any (Under k) Any Stays TVar (λ n us. applied next n us (lay n)) (λ v u. u) applied_done c h

        level_more : (next' : Cty → Cty) → ((n : ℕ) → rank n < k → (d : Cty) → All (Under (rank n)) d → next d ≡ next' d) → (c : Cty) → All (Under k) c → walk TVar (λ n us. applied next n us (lay n)) c ≡ walk TVar (λ n us. applied next' n us (lay n)) c
        level_more next' more c h =
            walk_same Any (Under k) Any Stays TVar (λ n us. applied next n us (lay n)) (λ v u. u) applied_done
            TVar (λ n us. applied next' n us (lay n)) (λ v u. refl)
            (λ n us p q. applied_same (Under (rank n)) next n us next' (lay n) (λ u. more n (p u)) (ranked n) (stay_under (rank n) us q)) c h

      -- with fuel past the ranks of its names, nothing is left to unfold
      pub resolve_done : (k : ℕ) (c : Cty) → All (Under k) c → Normal (resolve lay (suc k) c)
      unfolding resolve
      resolve_done zero c h = level_done (resolve lay 0) 0 (λ n p. absurd (never n p)) c h
      resolve_done (suc k) c h =
          level_done (resolve lay (suc k)) (suc k) (λ n p d g. resolve_done k d (below k n d p g)) c h

      -- and more of it changes nothing
      pub resolve_more : (k m : ℕ) → k ≤ m → (c : Cty) → All (Under k) c → resolve lay (suc k) c ≡ resolve lay (suc m) c
      unfolding resolve
      resolve_more zero m q c h =
          level_more (resolve lay 0) 0 (λ n p. absurd (never n p)) (resolve lay m) (λ n p. absurd (never n p)) c h
      resolve_more (suc k) zero q c h = absurd (omega arith)
      resolve_more (suc k) (suc m) q c h =
          level_more (resolve lay (suc k)) (suc k) (λ n p d g. resolve_done k d (below k n d p g))
          (resolve lay (suc m)) (λ n p d g. resolve_more k m (omega arith) d (below k n d p g)) c h

      -- a resolved type is left as it is
      pub resolve_again : (k m : ℕ) (c : Cty) → All (Under k) c → resolve lay m (resolve lay (suc k) c) ≡ resolve lay (suc k) c
      resolve_again k m c h = resolve_stays m (resolve lay (suc k) c) (resolve_done k c h)

      module _ (limit : ℕ) where
        module _ (next : Cty → Result Cty) (k : ℕ) (done : (n : ℕ) → rank n < k → (d : Cty) → All (Under (rank n)) d → On Normal Any ⊥ (next d)) where
          checked_applied_done : (n : ℕ) (us : Ctys) → Under k n → Alls Stays us → On Normal Any ⊥ (checked_applied next n us (lay n))
          checked_applied_done n us p q =
              checked_applied_on (Under (rank n)) next n us Normal Any ⊥ (lay n) tt (λ u. done n (p u)) (ranked n) (stay_under (rank n) us q) tt (λ e. (e, q))

          checked_level_done : (c : Cty) → All (Under k) c → On Normal Any ⊥ (checked limit lay next c)
          checked_level_done c h =
              on_map (λ t. Normal t × (size t ≤ limit)) Normal Any Any ⊥ ⊥ (λ t p. p.0) (λ e u. u) (λ u. u) (checked limit lay next c)
              (checked_on limit lay next (Under k) Stays Any ⊥ tt checked_applied_done c h)

          checked_level_more : (next' : Cty → Result Cty) → ((n : ℕ) → rank n < k → (d : Cty) → All (Under (rank n)) d → next d ≡ next' d) → (c : Cty) → All (Under k) c → checked limit lay next c ≡ checked limit lay next' c
          checked_level_more next' more c h =
              checked_same limit lay next (Under k) Stays Any ⊥ tt checked_applied_done lay next'
              (λ n us p q. checked_applied_same (Under (rank n)) next n us next' (lay n) (λ u. more n (p u)) (ranked n) (stay_under (rank n) us q)) c h

        checked_done : (k : ℕ) (c : Cty) → All (Under k) c → On Normal Any ⊥ (resolve_checked limit lay (suc k) c)
        unfolding resolve_checked
        checked_done zero c h = checked_level_done (resolve_checked limit lay 0) 0 (λ n p. absurd (never n p)) c h
        checked_done (suc k) c h =
            checked_level_done (resolve_checked limit lay (suc k)) (suc k) (λ n p d g. checked_done k d (below k n d p g)) c h

        -- such fuel does not run out
        pub checked_unspent : (k : ℕ) (c : Cty) → All (Under k) c → Unspent (resolve_checked limit lay (suc k) c)
        checked_unspent k c h = on_unspent Normal Any (resolve_checked limit lay (suc k) c) (checked_done k c h)

        pub checked_more : (k m : ℕ) → k ≤ m → (c : Cty) → All (Under k) c → resolve_checked limit lay (suc k) c ≡ resolve_checked limit lay (suc m) c
        unfolding resolve_checked
        checked_more zero m q c h =
            checked_level_more (resolve_checked limit lay 0) 0 (λ n p. absurd (never n p)) (resolve_checked limit lay m) (λ n p. absurd (never n p)) c h
        checked_more (suc k) zero q c h = absurd (omega arith)
        checked_more (suc k) (suc m) q c h =
            checked_level_more (resolve_checked limit lay (suc k)) (suc k) (λ n p d g. checked_done k d (below k n d p g))
            (resolve_checked limit lay (suc m)) (λ n p d g. checked_more k m (omega arith) d (below k n d p g)) c h

-- ---- what `rw_decl` resolves
-- Q of each type that the constructors' kept fields have
abbrev pub Fields : (Cty → Type 0) → List Field → Type 0
Fields Q = Every (λ f. Q f.fd_type)

abbrev pub Kept : (Cty → Type 0) → List CtorLayout → Type 0
Kept Q = Every (λ cl. Fields Q cl.cl_fields)

module _ (Q : Cty → Type 0) where
  -- the list is the kept fields' types, in order
  pub field_types_kept : (cls : List CtorLayout) → Every Q (field_types cls) → Kept Q cls
  unfolding field_types
  field_types_kept [] h = tt
  field_types_kept (cl ∷ cls) h = go (λ k. field_types_kept cls k) cl.cl_fields h
    where
      go : (Every Q (field_types cls) → Kept Q cls) → (fs : List Field)
          → Every Q (field_types (record { cl_name = cl.cl_name; cl_tag = cl.cl_tag; cl_slots = cl.cl_slots; cl_fields = fs } ∷ cls)) → Fields Q fs × Kept Q cls
      go ih [] k = (tt, ih k)
      go ih (f ∷ fs) k = ((k.0, (go ih fs k.1).0), (go ih fs k.1).1)

  pub kept_field_types : (cls : List CtorLayout) → Kept Q cls → Every Q (field_types cls)
  unfolding field_types
  kept_field_types [] h = tt
  kept_field_types (cl ∷ cls) h = go (kept_field_types cls h.1) cl.cl_fields h.0
    where
      go : Every Q (field_types cls) → (fs : List Field) → Fields Q fs
          → Every Q (field_types (record { cl_name = cl.cl_name; cl_tag = cl.cl_tag; cl_slots = cl.cl_slots; cl_fields = fs } ∷ cls))
      go ih [] k = ih
      go ih (f ∷ fs) k = (k.0, go ih fs k.1)

-- ---- faults
pub fault_code_cong : (res res' : Cty → Result Cty) (cs : List Cty) → Every (λ c. res c ≡ res' c) cs → fault_code res cs ≡ fault_code res' cs
unfolding fault_code
fault_code_cong res res' [] h = refl
fault_code_cong res res' (c ∷ cs) h = rw (h.0, fault_code_cong res res' cs h.1) refl

nine : (e : ℕ) → e ≡ 9 → e ≡ 0 → ⊥
nine e p q = omega arith

ten : (e : ℕ) → e ≡ 10 → e ≡ 0 → ⊥
ten e p q = omega arith

-- no fault: each type is answered
pub record Answered (r : Result Cty) : Type 0 where
  pub type : Cty
  pub is_ok : r ≡ ok type

pub fault_code_none : (res : Cty → Result Cty) (cs : List Cty) → Every (λ c. On Any Row (Unit {0}) (res c)) cs → fault_code res cs ≡ 0 → Every (λ c. Answered (res c)) cs
unfolding fault_code
fault_code_none res [] h e = tt
fault_code_none res (c ∷ cs) h e = go (λ q. fault_code_none res cs h.1 q) (res c) refl h.0
  where
    go : (fault_code res cs ≡ 0 → Every (λ d. Answered (res d)) cs) → (r : Result Cty) → res c ≡ r → On Any Row (Unit {0}) r → Every (λ d. Answered (res d)) (c ∷ cs)
    go ih (ok t) q k = (record { type = t; is_ok = q }, ih (rw q at e))
    go ih (fault f) q k = absurd (⊎_elim (λ z. nine f z (rw q at e)) (λ z. ten f z (rw q at e)) k)
    go ih spent q k = let z : spent_code ≡ 0 = rw q at e in absurd (omega arith)

pub fault_code_ok : (res : Cty → Result Cty) (cs : List Cty) → Every (λ c. Answered (res c)) cs → fault_code res cs ≡ 0
unfolding fault_code
fault_code_ok res [] h = refl
fault_code_ok res (c ∷ cs) h = rw h.0.is_ok (fault_code_ok res cs h.1)

-- where no fuel runs out, a code is 0, 9 or 10
pub fault_code_row : (res : Cty → Result Cty) (cs : List Cty) → Every (λ c. On Any Row ⊥ (res c)) cs → (fault_code res cs ≡ 0) ⊎ Row (fault_code res cs)
unfolding fault_code
fault_code_row res [] h = inl refl
fault_code_row res (c ∷ cs) h = go (fault_code_row res cs h.1) (res c) refl h.0
  where
    go : (fault_code res cs ≡ 0) ⊎ Row (fault_code res cs) → (r : Result Cty) → res c ≡ r → On Any Row ⊥ r → (fault_code res (c ∷ cs) ≡ 0) ⊎ Row (fault_code res (c ∷ cs))
    go ih (ok t) q k = rw q ih
    go ih (fault f) q k = rw q (inr k)
    go ih spent q k = absurd k

-- ---- types that resolve without fault
pub record Resolved (limit : ℕ) (lay : ℕ → Unfold) (k : ℕ) (c : Cty) : Type 0 where
  pub answers : resolve_checked limit lay k c ≡ ok (resolve lay k c)
  pub normal : Normal lay (resolve lay k c)
  pub small : size (resolve lay k c) ≤ limit

module _ (limit : ℕ) (lay : ℕ → Unfold) (k : ℕ) where
  pub answered_resolved : (c : Cty) → Answered (resolve_checked limit lay k c) → Resolved limit lay k c
  answered_resolved c a =
      let e : resolve lay k c ≡ a.type = checked_resolves lay limit k c a.type a.is_ok in
      record {
        answers = a.is_ok ∙ ap ok (sym e);
        normal = subst (Normal lay) (sym e) (checked_normal lay limit k c a.type a.is_ok);
        small = subst (λ (t : Cty). size t ≤ limit) (sym e) (checked_small lay limit k c a.type a.is_ok);
      }

  pub resolved_answered : (c : Cty) → Resolved limit lay k c → Answered (resolve_checked limit lay k c)
  resolved_answered c r = record { type = resolve lay k c; is_ok = r.answers }

  row_on : (c : Cty) → On Any Row (Unit {0}) (resolve_checked limit lay k c)
  row_on c =
      on_map (λ t. ((resolve lay k c ≡ t) × Normal lay t) × (size t ≤ limit)) Any Row Row (Unit {0}) (Unit {0}) (λ t p. tt) (λ f p. p) (λ u. u) (resolve_checked limit lay k c) (resolve_sound lay limit k c)

  -- no fault: every type resolves
  pub fault_none : (cs : List Cty) → fault_code (resolve_checked limit lay k) cs ≡ 0 → Every (Resolved limit lay k) cs
  fault_none cs e =
      every_map (λ c. Answered (resolve_checked limit lay k c)) (Resolved limit lay k) answered_resolved cs
      (fault_code_none (resolve_checked limit lay k) cs (mem_every (λ c. On Any Row (Unit {0}) (resolve_checked limit lay k c)) cs (λ c m. row_on c)) e)

  -- a fault is 9 or 10 where no fuel runs out
  pub fault_row : (cs : List Cty) → Every (λ c. Unspent (resolve_checked limit lay k c)) cs
      → (fault_code (resolve_checked limit lay k) cs ≡ 0) ⊎ Row (fault_code (resolve_checked limit lay k) cs)
  fault_row cs h =
      fault_code_row (resolve_checked limit lay k) cs
      (every_map (λ c. Unspent (resolve_checked limit lay k c)) (λ c. On Any Row ⊥ (resolve_checked limit lay k c))
      (λ c u. unspent_on Any Row (Unit {0}) (resolve_checked limit lay k c) u (row_on c)) cs h)

  pub resolved_fault : (cs : List Cty) → Every (Resolved limit lay k) cs → fault_code (resolve_checked limit lay k) cs ≡ 0
  resolved_fault cs h =
      fault_code_ok (resolve_checked limit lay k) cs (every_map (Resolved limit lay k) (λ c. Answered (resolve_checked limit lay k c)) resolved_answered cs h)

-- ---- one declaration
-- rows 9 and 10 depend on the names that are met alone
pub decl_fault_local : (limit fuel : ℕ) (ds ds' : List Decl) (ls ls' : List Layout) (i j : ℕ) (P : ℕ → Type 0)
    → Closed (unfold_name ds ls) P → Agree (unfold_name ds ls) (unfold_name ds' ls') P
    → get_or ls i L_opaque ≡ get_or ls' j L_opaque → Every (All P) (resolves (get_or ls i L_opaque))
    → decl_fault limit fuel ds ls i ≡ decl_fault limit fuel ds' ls' j
unfolding decl_fault
decl_fault_local limit fuel ds ds' ls ls' i j P closed agree e h =
    fault_code_cong (resolve_checked limit (unfold_name ds ls) fuel) (resolve_checked limit (unfold_name ds' ls') fuel) (resolves (get_or ls i L_opaque))
    (every_map (All P) (λ c. resolve_checked limit (unfold_name ds ls) fuel c ≡ resolve_checked limit (unfold_name ds' ls') fuel c)
    (λ c a. checked_local (unfold_name ds ls) P closed (unfold_name ds' ls') agree limit fuel c a) (resolves (get_or ls i L_opaque)) h)
    ∙ ap (λ (l : Layout). fault_code (resolve_checked limit (unfold_name ds' ls') fuel) (resolves l)) e

-- no fault at a declaration: its types resolve
pub decl_resolved : (limit fuel : ℕ) (ds : List Decl) (ls : List Layout) (i : ℕ)
    → decl_fault limit fuel ds ls i ≡ 0 → Every (Resolved limit (unfold_name ds ls) fuel) (resolves (get_or ls i L_opaque))
unfolding decl_fault
decl_resolved limit fuel ds ls i e = fault_none limit (unfold_name ds ls) fuel (resolves (get_or ls i L_opaque)) e

pub resolved_decl : (limit fuel : ℕ) (ds : List Decl) (ls : List Layout) (i : ℕ)
    → Every (Resolved limit (unfold_name ds ls) fuel) (resolves (get_or ls i L_opaque)) → decl_fault limit fuel ds ls i ≡ 0
unfolding decl_fault
resolved_decl limit fuel ds ls i h = resolved_fault limit (unfold_name ds ls) fuel (resolves (get_or ls i L_opaque)) h

-- ---- the left declaration
module _ (res res' : Cty → Cty) where
  abbrev pub Same : Cty → Type 0
  Same c = res c ≡ res' c

  fields_cong : (fs : List Field) → Fields Same fs → map (resolved_field res) fs ≡ map (resolved_field res') fs
  unfolding resolved_field
  fields_cong [] h = refl
  fields_cong (f ∷ fs) h =
      ap₂ (λ (c : Cty) (gs : List Field). record { fd_name = f.fd_name; fd_type = c } ∷ gs) h.0 (fields_cong fs h.1)

  ctors_cong : (cls : List CtorLayout) → Kept Same cls → map (resolved_ctor res) cls ≡ map (resolved_ctor res') cls
  unfolding resolved_ctor
  ctors_cong [] h = refl
  ctors_cong (cl ∷ cls) h =
      ap₂ (λ (fs : List Field) (cs : List Ctor). record { ct_name = cl.cl_name; ct_fields = fs } ∷ cs) (fields_cong cl.cl_fields h.0) (ctors_cong cls h.1)

  struct_cong : (b : Body) (cls : List CtorLayout) → Kept Same cls → struct_body res b cls ≡ struct_body res' b cls
  unfolding struct_body
  struct_cong TAbstract cls h = refl
  struct_cong (TAbbrev c) cls h = refl
  struct_cong (TRecord fs) [] h = refl
  struct_cong (TRecord fs) (cl ∷ []) h = ap TRecord (fields_cong cl.cl_fields h.0)
  struct_cong (TRecord fs) (cl ∷ cm ∷ cls) h = refl
  struct_cong (TVariant cs) cls h = ap TVariant (ctors_cong cls h)

  -- the left declaration depends on what its types resolve to alone
  pub rw_decl_cong : (d : Dtype) (l : Layout) → Every Same (resolves l) → rw_decl res d l ≡ rw_decl res' d l
  unfolding rw_decl resolves
  rw_decl_cong d L_erased h = refl
  rw_decl_cong d (L_newtype nt) h = ap (collapsed_abbrev d) h.0
  rw_decl_cong d (L_struct cls) h =
      ap (λ (b : Body). some (with_body d b)) (struct_cong d.dt_body cls (field_types_kept Same cls h))
  rw_decl_cong d (L_abbrev c) h = ap (λ (t : Cty). some (with_body d (TAbbrev t))) h.0
  rw_decl_cong d L_opaque h = refl

-- on the names that are met alone
pub rw_decl_local : (lay lay' : ℕ → Unfold) (P : ℕ → Type 0) → Closed lay P → Agree lay lay' P → (k : ℕ) (d : Dtype) (l : Layout) → Every (All P) (resolves l) → rw_decl (resolve lay k) d l ≡ rw_decl (resolve lay' k) d l
rw_decl_local lay lay' P closed agree k d l h =
    rw_decl_cong (resolve lay k) (resolve lay' k) d l
    (every_map (All P) (λ c. resolve lay k c ≡ resolve lay' k c) (λ c a. resolve_local lay P closed lay' agree k c a) (resolves l) h)

-- Q of each type in a declaration
abbrev pub Ctors : (Cty → Type 0) → List Ctor → Type 0
Ctors Q = Every (λ c. Fields Q c.ct_fields)

abbrev pub BodyTypes : (Cty → Type 0) → Body → Type 0
BodyTypes Q TAbstract = Unit {0}
BodyTypes Q (TAbbrev c) = Q c
BodyTypes Q (TRecord fs) = Fields Q fs
BodyTypes Q (TVariant cs) = Ctors Q cs

abbrev pub Left : (Dtype → Type 0) → Option Dtype → Type 0
Left P none = Unit {0}
Left P (some d) = P d

abbrev pub LeftTypes : (Cty → Type 0) → Option Dtype → Type 0
LeftTypes Q = Left (λ d. BodyTypes Q d.dt_body)

-- A layout that goes with a body: `rw_decl` then resolves all that it leaves.
abbrev pub StructMatches : Body → List CtorLayout → Type 0
StructMatches TAbstract cls = Unit {0}
StructMatches (TAbbrev c) cls = ⊥
StructMatches (TRecord fs) [] = ⊥
StructMatches (TRecord fs) (cl ∷ []) = Unit {0}
StructMatches (TRecord fs) (cl ∷ cm ∷ cls) = ⊥
StructMatches (TVariant cs) cls = Unit {0}

abbrev pub OpaqueMatches : Body → Type 0
OpaqueMatches TAbstract = Unit {0}
OpaqueMatches (TAbbrev c) = ⊥
OpaqueMatches (TRecord fs) = ⊥
OpaqueMatches (TVariant cs) = ⊥

abbrev pub Matches : Body → Layout → Type 0
Matches b L_erased = Unit {0}
Matches b (L_newtype nt) = Unit {0}
Matches b (L_struct cls) = StructMatches b cls
Matches b (L_abbrev c) = Unit {0}
Matches b L_opaque = OpaqueMatches b

module _ (Q : Cty → Type 0) (res : Cty → Cty) where
  abbrev pub Then : Cty → Type 0
  Then c = Q (res c)

  fields_left : (fs : List Field) → Fields Then fs → Fields Q (map (resolved_field res) fs)
  unfolding resolved_field
  fields_left [] h = tt
  fields_left (f ∷ fs) h = (h.0, fields_left fs h.1)

  ctors_left : (cls : List CtorLayout) → Kept Then cls → Ctors Q (map (resolved_ctor res) cls)
  unfolding resolved_ctor
  ctors_left [] h = tt
  ctors_left (cl ∷ cls) h = (fields_left cl.cl_fields h.0, ctors_left cls h.1)

  struct_left : (b : Body) (cls : List CtorLayout) → StructMatches b cls → Kept Then cls → BodyTypes Q (struct_body res b cls)
  unfolding struct_body
  struct_left TAbstract cls m h = tt
  struct_left (TAbbrev c) cls m h = absurd m
  struct_left (TRecord fs) [] m h = absurd m
  struct_left (TRecord fs) (cl ∷ []) m h = fields_left cl.cl_fields h.0
  struct_left (TRecord fs) (cl ∷ cm ∷ cls) m h = absurd m
  struct_left (TVariant cs) cls m h = ctors_left cls h

  opaque_left : (b : Body) → OpaqueMatches b → BodyTypes Q b
  opaque_left TAbstract m = tt
  opaque_left (TAbbrev c) m = absurd m
  opaque_left (TRecord fs) m = absurd m
  opaque_left (TVariant cs) m = absurd m

  -- every type of the left declaration is one that was resolved
  pub left_types : (d : Dtype) (l : Layout) → Matches d.dt_body l → Every Then (resolves l) → LeftTypes Q (rw_decl res d l)
  unfolding rw_decl resolves collapsed_abbrev
  left_types d L_erased m h = tt
  left_types d (L_newtype nt) m h =
      go (all_in d.dt_params (cty_vars (res nt.nt_ty)) && not (member d.dt_name (names_of_cty (res nt.nt_ty))))
    where
      go : (b : Bool) → LeftTypes Q (pick b (some (with_body d (TAbbrev (res nt.nt_ty)))) none)
      go true = h.0
      go false = tt
  left_types d (L_struct cls) m h = struct_left d.dt_body cls m (field_types_kept Then cls h)
  left_types d (L_abbrev c) m h = h.0
  left_types d L_opaque m h = opaque_left d.dt_body m

-- ---- the layout of a local declaration goes with its body
module _ (b : Body) (cls : List CtorLayout) (m : StructMatches b cls) where
  collapse_matches : (drop : Bool) (cand : Option NewtypeLayout) → Matches b (collapse drop cand cls)
  unfolding collapse
  collapse_matches true cand = m
  collapse_matches false none = m
  collapse_matches false (some nt) = tt

pub layout_matches : (er : ℕ → Bool) (d : Dtype) (e drop : Bool) (cand : Option NewtypeLayout) → Matches d.dt_body (layout_of d here e drop cand (ctor_layouts er d))
unfolding table layout_of layout_of_body ctor_layouts ctors_of
layout_matches er d true drop cand = tt
layout_matches er d false drop cand = go d.dt_body
  where
    laid : Body → List CtorLayout
    laid b = layouts_of_ctors er (ctor_tag (length (ctors_of d.dt_name b))) (ctors_of d.dt_name b)

    go : (b : Body) → Matches b (layout_of_body b drop cand (laid b))
    go TAbstract = tt
    go (TAbbrev c) = tt
    go (TRecord fs) = collapse_matches (TRecord fs) (laid (TRecord fs)) tt drop cand
    go (TVariant cs) = collapse_matches (TVariant cs) (laid (TVariant cs)) tt drop cand
