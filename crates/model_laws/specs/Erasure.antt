-- Erasure is the least solution of its rules, found in as many rounds as it says; it depends only on
-- the declarations that are reached, and a declaration may be pinned to its own verdict.
-- Assumes nothing.
use Rattle.std.proofs.Common.{⊎_elim, ap, ◌∙◌, subst, arith, eqb→eq}
use Rattle.std.specs.Prelude.{◌≡◌, Bool, ◌&&◌, ℕ, suc, ◌+◌, ◌≤◌, ◌<◌, eqb, length, get_or}
use Rattle.std.proofs.Math.Path.{refl, ap₂, sym}
use mathlib.Core.List.Memᴰ
use mathlib.Core.List.{List, [], ◌∷◌, map, Memᴰ}
use Rattle.std.proofs.Math.Option.{Option}
use Rattle.std.proofs.Math.Bool.{true, false, not}
use Rattle.std.proofs.Math.Dec.{T, eqb_refl}
use Rattle.std.proofs.Math.ListN.{length-map, get_or-map}
use Rattle.number_columns.specs.Column.{pick}
use Rattle.sheet.proofs.ListLaws.{get_or_within}
use Rattle.model.specs.Cty.{walks, walk, Cty, Ctys, TUnit, TAny, TExn, TVar, TInt, TFloat, TConst, TArrow, TApp, TTuple, TBuf, TRef, TInline, nil, cons, gather, gathers, names_of_cty}
use Rattle.model.specs.Decl.{member, close, Field, Ctor, Body, TAbstract, TAbbrev, TRecord, TVariant, Dtype, Erased, Realized, has_flag, ctors_of, CtorLayout, bit, TypeInfo, Origin, here, imported, Decl, no_decl, dtype_at, origin_at, table, position}
use Rattle.model.specs.Erasure.{local, locals, is_pure, cty_erased, ctys_erased, fields_erased, body_erased, dtype_erased, marked, rule_of, rule, start_of, start, erasure_fixpoint, Made}
use Rattle.model.specs.Layout.{layouts_of_ctors, slots, ctor_layout, ctor_layouts}
use Rattle.model.specs.Names.{fields_names, ctors_names, body_names, dtype_names, Declared, Agree, Pin, Pinned}
use Rattle.model_laws.specs.Names.{position_name, position_declared, position_same, agree_sym, ctors_own}
use Rattle.model_laws.specs.Rounds.{At, Le, at_lt, le_antisym, Monotone, Sound, Closed, settle_length, settle_sound, settle_least, settle_closed, settle_made, settle_rounds}
use Rattle.model_laws.specs.Lists.{true_of, t_ext, trues, length_table, get_or_table}

-- ---- tests
-- a conjunction of tests, each of which implies another
pub and_mono : (a b c d : Bool) → (T a → T c) → (T b → T d) → T (a && b) → T (c && d)
and_mono true true true true f g t = tt
and_mono true true true false f g t = g tt
and_mono true true false true f g t = f tt
and_mono true true false false f g t = f tt
and_mono true false c d f g t = absurd t
and_mono false b c d f g t = absurd t

pub and_left : (a b : Bool) → T (a && b) → T a
and_left true b t = tt
and_left false b t = absurd t

pub and_right : (a b : Bool) → T (a && b) → T b
and_right true true t = tt
and_right true false t = t
and_right false b t = absurd t

pub and_both : (a b : Bool) → T a → T b → T (a && b)
and_both true true s t = tt
and_both true false s t = t
and_both false b s t = s

pub pick_mono : (b a c d e : Bool) → (T a → T d) → (T c → T e) → T (pick b a c) → T (pick b d e)
pick_mono true a c d e f g t = f t
pick_mono false a c d e f g t = g t

-- ---- which names erasure depends on
-- Each name of a list that er erases, er' erases.
abbrev pub Covers : (ℕ → Bool) → (ℕ → Bool) → List ℕ → Type 0
Covers er er' ns = (n : ℕ) → Memᴰ n ns → T (er n) → T (er' n)

-- er and er' are the same on each name of a list.
abbrev pub Alike : (ℕ → Bool) → (ℕ → Bool) → List ℕ → Type 0
Alike er er' ns = (n : ℕ) → Memᴰ n ns → er n ≡ er' n

-- Erasure at more names erases no less. Only the names that stand in the type count.
module _ (er er' : ℕ → Bool) where
  mutual
    unfolding cty_erased gather

    cty_mono : (c : Cty) → Covers er er' (gather (λ v. []) (λ n. n ∷ []) c) → T (cty_erased er c) → T (cty_erased er' c)
    cty_mono TUnit h t = tt
    cty_mono TAny h t = t
    cty_mono TExn h t = t
    cty_mono (TVar v) h t = t
    cty_mono (TInt s w) h t = t
    cty_mono (TFloat f) h t = t
    cty_mono (TConst c) h t = t
    cty_mono (TArrow a e b) h t =
        and_mono (is_pure e) (cty_erased er b) (is_pure e) (cty_erased er' b) (λ x. x)
        (λ x. cty_mono b (λ n m. h n (Memᴰ.append_right (gather (λ v. []) (λ k. k ∷ []) a) m)) x) t
    cty_mono (TApp n ts) h t = h n (Memᴰ.head refl) t
    cty_mono (TTuple ts) h t = ctys_mono ts h t
    cty_mono (TBuf a) h t = t
    cty_mono (TRef k a) h t = t
    cty_mono (TInline a) h t = cty_mono a h t

    ctys_mono : (ts : Ctys) → Covers er er' (gathers (λ v. []) (λ n. n ∷ []) ts) → T (ctys_erased er ts) → T (ctys_erased er' ts)
    ctys_mono nil h t = tt
    ctys_mono (cons c ts) h t =
        and_mono (cty_erased er c) (ctys_erased er ts) (cty_erased er' c) (ctys_erased er' ts)
        (λ x. cty_mono c (λ n m. h n (Memᴰ.append_left (gathers (λ v. []) (λ k. k ∷ []) ts) m)) x)
        (λ x. ctys_mono ts (λ n m. h n (Memᴰ.append_right (gather (λ v. []) (λ k. k ∷ []) c) m)) x) t

  pub cty_erased_mono : (c : Cty) → Covers er er' (names_of_cty c) → T (cty_erased er c) → T (cty_erased er' c)
  unfolding names_of_cty
  cty_erased_mono c h t = cty_mono c h t

  pub fields_erased_mono : (fs : List Field) → Covers er er' (fields_names fs) → T (fields_erased er fs) → T (fields_erased er' fs)
  unfolding fields_names fields_erased
  fields_erased_mono [] h t = tt
  fields_erased_mono (f ∷ fs) h t =
      and_mono (cty_erased er f.fd_type) (fields_erased er fs) (cty_erased er' f.fd_type) (fields_erased er' fs)
      (cty_erased_mono f.fd_type (λ n m. h n (Memᴰ.append_left (fields_names fs) m)))
      (fields_erased_mono fs (λ n m. h n (Memᴰ.append_right (names_of_cty f.fd_type) m))) t

  pub body_erased_mono : (b : Body) → Covers er er' (body_names b) → T (body_erased er b) → T (body_erased er' b)
  unfolding body_names body_erased ctors_names
  body_erased_mono TAbstract h t = t
  body_erased_mono (TAbbrev c) h t = cty_erased_mono c h t
  body_erased_mono (TRecord fs) h t = fields_erased_mono fs h t
  body_erased_mono (TVariant []) h t = tt
  body_erased_mono (TVariant (c ∷ [])) h t = fields_erased_mono c.ct_fields (λ n m. h n (Memᴰ.append_left [] m)) t
  body_erased_mono (TVariant (c ∷ d ∷ cs)) h t = t

  pub dtype_erased_mono : (d : Dtype) → Covers er er' (dtype_names d) → T (dtype_erased er d) → T (dtype_erased er' d)
  unfolding dtype_names dtype_erased
  dtype_erased_mono d h t =
      pick_mono (has_flag d Erased) true (pick (has_flag d Realized) false (body_erased er d.dt_body)) true (pick (has_flag d Realized) false (body_erased er' d.dt_body))
      (λ x. x)
      (pick_mono (has_flag d Realized) false (body_erased er d.dt_body) false (body_erased er' d.dt_body) (λ x. x) (body_erased_mono d.dt_body h))
      t

  pub rule_of_mono : (d : Dtype) (o : Origin) → Covers er er' (dtype_names d) → T (rule_of er d o) → T (rule_of er' d o)
  unfolding rule_of
  rule_of_mono d here h t = dtype_erased_mono d h t
  rule_of_mono d (imported ti) h t = t

-- each half of an agreement
alike_covers : (er er' : ℕ → Bool) (ns : List ℕ) → Alike er er' ns → Covers er er' ns
alike_covers er er' ns h n m t = rw (← (h n m)) t

alike_covered : (er er' : ℕ → Bool) (ns : List ℕ) → Alike er er' ns → Covers er' er ns
alike_covered er er' ns h n m t = rw (h n m) t

-- Erasure, slots and constructor layouts depend only on the names that stand in the types.
module _ (er er' : ℕ → Bool) where
  pub cty_erased_local : (c : Cty) → Alike er er' (names_of_cty c) → cty_erased er c ≡ cty_erased er' c
  cty_erased_local c h =
      t_ext (cty_erased er c) (cty_erased er' c)
      (cty_erased_mono er er' c (alike_covers er er' (names_of_cty c) h))
      (cty_erased_mono er' er c (alike_covered er er' (names_of_cty c) h))

  pub rule_of_local : (d : Dtype) (o : Origin) → Alike er er' (dtype_names d) → rule_of er d o ≡ rule_of er' d o
  rule_of_local d o h =
      t_ext (rule_of er d o) (rule_of er' d o)
      (rule_of_mono er er' d o (alike_covers er er' (dtype_names d) h))
      (rule_of_mono er' er d o (alike_covered er er' (dtype_names d) h))

  pub slots_local : (fs : List Field) → Alike er er' (fields_names fs) → slots er fs ≡ slots er' fs
  unfolding slots fields_names
  slots_local [] h = refl
  slots_local (f ∷ fs) h =
      ap₂ (λ (x : Bool) (l : List Bool). not x ∷ l)
      (cty_erased_local f.fd_type (λ n m. h n (Memᴰ.append_left (fields_names fs) m)))
      (slots_local fs (λ n m. h n (Memᴰ.append_right (names_of_cty f.fd_type) m)))

  ctors_local : (tag : ℕ → Option ℕ) (cs : List Ctor) → Alike er er' (ctors_names cs)
      → layouts_of_ctors er tag cs ≡ layouts_of_ctors er' tag cs
  unfolding ctors_names table
  ctors_local tag [] h = refl
  ctors_local tag (c ∷ cs) h =
      ap₂ (λ (x : List Bool) (l : List CtorLayout). ctor_layout (tag 0) c x ∷ l)
      (slots_local c.ct_fields (λ n m. h n (Memᴰ.append_left (ctors_names cs) m)))
      (ctors_local (λ i. tag (suc i)) cs (λ n m. h n (Memᴰ.append_right (fields_names c.ct_fields) m)))

  pub ctor_layouts_local : (d : Dtype) → Alike er er' (dtype_names d) → ctor_layouts er d ≡ ctor_layouts er' d
  unfolding ctor_layouts dtype_names
  ctor_layouts_local d h = ctors_local _ (ctors_of d.dt_name d.dt_body) (λ n m. h n (ctors_own d.dt_name d.dt_body n m))

-- ---- lists
-- ---- closing
-- a variable is kept, bound or not, so closing changes no erasure
module _ (er : ℕ → Bool) (ps : List ℕ) where
  bound_kept : (b : Bool) (v : ℕ) → cty_erased er (pick b (TVar v) TAny) ≡ false
  unfolding cty_erased
  bound_kept true v = refl
  bound_kept false v = refl

  mutual
    unfolding walk cty_erased

    walk_erased : (c : Cty) → cty_erased er (walk (λ v. pick (member v ps) (TVar v) TAny) TApp c) ≡ cty_erased er c
    walk_erased TUnit = refl
    walk_erased TAny = refl
    walk_erased TExn = refl
    walk_erased (TVar v) = bound_kept (member v ps) v
    walk_erased (TInt s w) = refl
    walk_erased (TFloat f) = refl
    walk_erased (TConst c) = refl
    walk_erased (TArrow a e b) = ap (λ (x : Bool). is_pure e && x) (walk_erased b)
    walk_erased (TApp n ts) = refl
    walk_erased (TTuple ts) = walks_erased ts
    walk_erased (TBuf t) = refl
    walk_erased (TRef k t) = refl
    walk_erased (TInline t) = walk_erased t

    walks_erased : (ts : Ctys) → ctys_erased er (walks (λ v. pick (member v ps) (TVar v) TAny) TApp ts) ≡ ctys_erased er ts
    walks_erased nil = refl
    walks_erased (cons t ts) = ap₂ ◌&&◌ (walk_erased t) (walks_erased ts)

  pub close_erased : (c : Cty) → cty_erased er (close ps c) ≡ cty_erased er c
  unfolding close
  close_erased c = walk_erased c

-- ---- the program's rules
-- all marks but those that an import's verdict denies
most_of : Origin → Bool
most_of here = true
most_of (imported ti) = ti.ti_erased

most : List Decl → List Bool
most ds = map (λ d. most_of d.origin) ds

trues_most : (ds : List Decl) → trues (most ds) ≡ trues (start ds) + locals ds
unfolding trues most start locals most_of start_of local
trues_most [] = omega arith
trues_most (d ∷ ds) = omega (arith, trues_most ds, go d.origin)
  where
    go : (o : Origin) → bit (most_of o) ≡ bit (start_of o) + local o
    go here = refl
    go (imported ti) = omega arith

most_rule : (er : ℕ → Bool) (d : Dtype) (o : Origin) → T (rule_of er d o) → T (most_of o)
unfolding rule_of most_of
most_rule er d here t = tt
most_rule er d (imported ti) t = t

start_rule : (er : ℕ → Bool) (d : Dtype) (o : Origin) → T (start_of o) → T (rule_of er d o)
unfolding rule_of start_of
start_rule er d here t = absurd t
start_rule er d (imported ti) t = t

start_most : (o : Origin) → T (start_of o) → T (most_of o)
unfolding start_of most_of
start_most here t = tt
start_most (imported ti) t = t

module _ (ds : List Decl) where
  pub rule_mono : Monotone (rule ds)
  unfolding rule marked
  rule_mono s t h i = rule_of_mono (marked ds s) (marked ds t) (dtype_at ds i) (origin_at ds i) (λ n m. h (position ds n))

  pub length_start : length (start ds) ≡ length ds
  unfolding start
  length_start = length-map ds (λ d. start_of d.origin)

  pub start_at : (i : ℕ) → get_or (start ds) i false ≡ start_of (origin_at ds i)
  unfolding start start_of
  start_at i = get_or-map (λ (d : Decl). start_of d.origin) ds i no_decl

  length_most : length (most ds) ≡ length ds
  unfolding most
  length_most = length-map ds (λ d. most_of d.origin)

  most_at : (i : ℕ) → i < length ds → get_or (most ds) i false ≡ most_of (origin_at ds i)
  unfolding most most_of
  most_at i h =
      get_or_within (map (λ (d : Decl). most_of d.origin) ds) i false true (rw length_most h)
      ∙ get_or-map (λ (d : Decl). most_of d.origin) ds i no_decl

  most_closed : Closed (rule ds) (most ds)
  unfolding rule
  most_closed i h t =
      rw (most_at i (rw length_most at h)) (most_rule (marked ds (most ds)) (dtype_at ds i) (origin_at ds i) t)

  start_below_most : Le (start ds) (most ds)
  start_below_most i a =
      rw (most_at i (rw length_start at (at_lt (start ds) i a))) (start_most (origin_at ds i) (rw (start_at i) at a))

  -- the start is sound: only imports are marked
  pub start_sound : Sound (rule ds) (start ds)
  unfolding rule
  start_sound i a = start_rule (marked ds (start ds)) (dtype_at ds i) (origin_at ds i) (rw (start_at i) at a)

  -- closed marks have those of the imports
  pub start_below : (t : List Bool) → length t ≡ length ds → Closed (rule ds) t → Le (start ds) t
  unfolding rule
  start_below t e c i a =
      c i (rw e (rw length_start at (at_lt (start ds) i a)))
      (start_rule (marked ds t) (dtype_at ds i) (origin_at ds i) (rw (start_at i) at a))

  enough : length (start ds) < suc (length ds) + trues (start ds)
  enough = omega (arith, length_start)

  -- ---- the least solution
  pub erasure_length : length (erasure_fixpoint ds).marks ≡ length ds
  unfolding erasure_fixpoint
  erasure_length = settle_length (rule ds) (suc (length ds)) (start ds) ∙ length_start

  pub erasure_sound : Sound (rule ds) (erasure_fixpoint ds).marks
  unfolding erasure_fixpoint
  erasure_sound = settle_sound (rule ds) rule_mono (suc (length ds)) (start ds) start_sound

  pub erasure_closed : Closed (rule ds) (erasure_fixpoint ds).marks
  unfolding erasure_fixpoint
  erasure_closed = settle_closed (rule ds) rule_mono (suc (length ds)) (start ds) start_sound enough

  -- each declaration's mark is what the rules give it
  pub erasure_solves : (i : ℕ) → i < length ds → get_or (erasure_fixpoint ds).marks i false ≡ rule ds (erasure_fixpoint ds).marks i
  erasure_solves i h =
      t_ext (get_or (erasure_fixpoint ds).marks i false) (rule ds (erasure_fixpoint ds).marks i)
      (erasure_sound i)
      (erasure_closed i (rw erasure_length h))

  -- and no closed marks have fewer
  pub erasure_least : (t : List Bool) → length t ≡ length ds → Closed (rule ds) t → Le (erasure_fixpoint ds).marks t
  unfolding erasure_fixpoint
  erasure_least t e c = settle_least (rule ds) rule_mono (suc (length ds)) (start ds) t (length_start ∙ sym e) (start_below t e c) c

  -- ---- the count of rounds
  -- the number reported is the number of rounds made, the last one, which changes nothing, included
  pub erasure_made : Made (rule ds) (start ds) (erasure_fixpoint ds)
  unfolding erasure_fixpoint
  erasure_made = settle_made (rule ds) rule_mono (suc (length ds)) (start ds) start_sound enough

  -- at most one round for each declaration that is no import, and one more
  pub erasure_rounds : (erasure_fixpoint ds).rounds ≤ suc (locals ds)
  unfolding erasure_fixpoint
  erasure_rounds =
      omega (arith, trues_most ds, settle_rounds (rule ds) rule_mono (suc (length ds)) (start ds) (most ds) start_sound (length_start ∙ sym length_most) start_below_most most_closed)

-- ---- locality
-- One half: a name of S that ds marks, ds' marks. The marks of ds, less those of names in S that ds' does not mark, are closed.
module _ (S : ℕ → Bool) (ds ds' : List Decl) (g : Agree S ds ds') where
  abbrev mine : List Bool
  mine = (erasure_fixpoint ds).marks

  abbrev other : List Bool
  other = (erasure_fixpoint ds').marks

  abbrev name : ℕ → ℕ
  name i = (dtype_at ds i).dt_name

  -- what is asked of the mark at i, where i is the place of a name in S
  abbrev met : ℕ → Bool
  met i = get_or mine i false && pick (S (name i) && eqb (position ds (name i)) i) (marked ds' other (name i)) true

  abbrev meet : List Bool
  meet = table met (length ds)

  meet_met : (i : ℕ) → At meet i → T (met i)
  meet_met i a = rw (get_or_table met (length ds) i false (rw length_table at (at_lt meet i a))) at a

  meet_mine : Le meet mine
  meet_mine i a = and_left (get_or mine i false) (pick (S (name i) && eqb (position ds (name i)) i) (marked ds' other (name i)) true) (meet_met i a)

  meet_other : (n : ℕ) → S n ≡ true → At meet (position ds n) → T (marked ds' other n)
  meet_other n e a =
      let i : ℕ = position ds n in
      let q : Declared ds n = rw length_table at (at_lt meet i a) in
      let b : T (pick (S (name i) && eqb (position ds (name i)) i) (marked ds' other (name i)) true) = and_right (get_or mine i false) (pick (S (name i) && eqb (position ds (name i)) i) (marked ds' other (name i)) true) (meet_met i a) in
      rw (position_name ds n q, e, true_of (eqb i i) (eqb_refl i)) at b

  -- the rule of ds' holds at a name of S at which that of ds does
  meet_rule : (n : ℕ) → S n ≡ true → Declared ds n → T (rule ds meet (position ds n)) → T (marked ds' other n)
  unfolding rule marked
  meet_rule n e q t =
      let u : T (rule_of (marked ds' other) (dtype_at ds (position ds n)) (origin_at ds (position ds n))) =
      rule_of_mono (marked ds meet) (marked ds' other) (dtype_at ds (position ds n)) (origin_at ds (position ds n))
      (λ m k. meet_other m (g.closed n e q m k)) t in
      erasure_closed ds' (position ds' n) (rw erasure_length ((g.declared n e).0 q))
      (rw (← (g.same_dtype n e q), ← (g.same_origin n e q)) u)

  meet_closed : Closed (rule ds) meet
  meet_closed i h t =
      let q : i < length ds = rw length_table at h in
      rw (get_or_table met (length ds) i false q)
      (and_both (get_or mine i false) (pick (S (name i) && eqb (position ds (name i)) i) (marked ds' other (name i)) true)
      (erasure_closed ds i (rw erasure_length q) (rule_mono ds meet mine meet_mine i t))
      (go (S (name i) && eqb (position ds (name i)) i) refl))
    where
      go : (b : Bool) → (S (name i) && eqb (position ds (name i)) i) ≡ b → T (pick b (marked ds' other (name i)) true)
      go true e =
          let b : T (S (name i) && eqb (position ds (name i)) i) = rw e tt in
          let p : position ds (name i) ≡ i = eqb→eq (position ds (name i)) i (and_right (S (name i)) (eqb (position ds (name i)) i) b) in
          meet_rule (name i) (true_of (S (name i)) (and_left (S (name i)) (eqb (position ds (name i)) i) b)) (position_declared ds i (rw length_table at h)) (subst (λ (j : ℕ). T (rule ds meet j)) (sym p) t)
      go false e = tt

  local_half : (n : ℕ) → S n ≡ true → T (marked ds mine n) → T (marked ds' other n)
  unfolding marked
  local_half n e t = meet_other n e (erasure_least ds meet (length_table met (length ds)) meet_closed (position ds n) t)

-- Programs that agree on S mark the same names of S.
pub erasure_local : (S : ℕ → Bool) (ds ds' : List Decl) → Agree S ds ds' → (n : ℕ) → S n ≡ true
    → marked ds (erasure_fixpoint ds).marks n ≡ marked ds' (erasure_fixpoint ds').marks n
erasure_local S ds ds' g n e =
    t_ext (marked ds (erasure_fixpoint ds).marks n) (marked ds' (erasure_fixpoint ds').marks n)
    (local_half S ds ds' g n e)
    (local_half S ds' ds (agree_sym S ds ds' g) n e)

-- ---- pinning
-- the same types in the same places: a name's mark is the same
pub marked_same : (ds ds' : List Decl) → length ds ≡ length ds' → ((i : ℕ) → i < length ds → dtype_at ds i ≡ dtype_at ds' i) → (s : List Bool) (n : ℕ) → marked ds s n ≡ marked ds' s n
unfolding marked
marked_same ds ds' e f s n = rw (position_same ds ds' n e f)

-- A program with some places pinned to the marks that it has there has the same marks.
module _ {P : ℕ → TypeInfo → Type 0} (ds ds' : List Decl) (g : Pinned P ds ds')
    (own : (i : ℕ) (ti : TypeInfo) → i < length ds → P i ti → ti.ti_erased ≡ get_or (erasure_fixpoint ds).marks i false) where
  -- where the origin is kept the rules are the same
  pinned_rule : (s : List Bool) (i : ℕ) → i < length ds → origin_at ds i ≡ origin_at ds' i → rule ds s i ≡ rule ds' s i
  unfolding rule
  pinned_rule s i h e =
      rw (g.same_dtypes i h, e) (rule_of_local (marked ds s) (marked ds' s) (dtype_at ds' i) (origin_at ds' i) (λ n m. marked_same ds ds' g.same_length g.same_dtypes s n))

  -- a pinned place has the mark of ds
  pinned_at : (s : List Bool) (i : ℕ) → i < length ds → (p : Pin (P i) ds' i) → rule ds' s i ≡ get_or (erasure_fixpoint ds).marks i false
  unfolding rule rule_of
  pinned_at s i h p = rw p.pinned (own i p.verdict h p.holds)

  mine_closed : Closed (rule ds') (erasure_fixpoint ds).marks
  mine_closed i h t =
      let q : i < length ds = rw erasure_length at h in
      ⊎_elim
      (λ e. erasure_closed ds i h (rw (pinned_rule (erasure_fixpoint ds).marks i q e) t))
      (λ p. rw (pinned_at (erasure_fixpoint ds).marks i q p) at t)
      (g.origins i q)

  erasure_pinned_below : Le (erasure_fixpoint ds').marks (erasure_fixpoint ds).marks
  erasure_pinned_below = erasure_least ds' (erasure_fixpoint ds).marks (erasure_length ds ∙ g.same_length) mine_closed

  pinned_closed : Closed (rule ds) (erasure_fixpoint ds').marks
  pinned_closed i h t =
      let q : i < length ds = rw (erasure_length ds', ← g.same_length) at h in
      ⊎_elim
      (λ e. erasure_closed ds' i h (rw (pinned_rule (erasure_fixpoint ds').marks i q e) at t))
      (λ p. erasure_closed ds' i h
      (rw (pinned_at (erasure_fixpoint ds').marks i q p)
      (erasure_closed ds i (rw erasure_length q)
      (rule_mono ds (erasure_fixpoint ds').marks (erasure_fixpoint ds).marks erasure_pinned_below i t))))
      (g.origins i q)

  pub erasure_pinned : (erasure_fixpoint ds').marks ≡ (erasure_fixpoint ds).marks
  erasure_pinned =
      le_antisym (erasure_fixpoint ds').marks (erasure_fixpoint ds).marks
      (erasure_length ds' ∙ sym g.same_length ∙ sym (erasure_length ds))
      erasure_pinned_below
      (erasure_least ds (erasure_fixpoint ds').marks (erasure_length ds' ∙ sym g.same_length) pinned_closed)
