-- The flag of a declaration is whether `rw_decl` leaves one. Assumes nothing.
use Rattle.std.specs.Prelude.{◌≡◌, Bool, true, false, ◌&&◌, ◌||◌, eqb, length, get_or, take, drop, set}
use Rattle.std.proofs.Math.Path.{refl, ap, sym}
use Rattle.std.proofs.Common.{ap₂, ◌∙◌, subst, length-drop, get_or-take, get_or-drop, length-take-le, get_or-set_same, get_or-set_other}
use mathlib.Core.List.{List, [], ◌∷◌, ◌++◌, map, Memᴰ}
use Rattle.std.proofs.Math.Option.{none, some}
use Prim.Native.Nat.{ℕ, zero, suc, ◌+◌, ◌-◌, ◌≤◌, ◌<◌}
use native.Mathlib.Omega.{arith}
use Rattle.std.proofs.Math.Numerals.{add-one}
use borrow.Author.Tests.{eqb-true, eqb-false, eq-eqb, ne_eqb}
use Rattle.number_columns.specs.Column.{pick}
use Rattle.sheet.specs.Line.{Line, number}
use Rattle.sheet.proofs.ListLaws.{same_test, false_true}
use Rattle.model.specs.Cty.{Cty, Ctys, TUnit, TAny, TExn, TVar, TInt, TFloat, TConst, TArrow, TApp, TTuple, TBuf, TRef, TInline, nil, cons, walk, walks, gather, gathers, names_of_cty, cty_vars}
use Rattle.model.specs.Decl.{TAbbrev, Dtype, Layout, L_erased, L_newtype, L_struct, L_abbrev, L_opaque, Decl, dtype_at, position, member}
use Rattle.model.specs.Resolve.{newtype, stays, resolve}
use Rattle.model.specs.Run.{all_in, collapsed_abbrev, rw_decl, lay, layout_of_decl, left_at, with_body}
use Rattle.model_laws.specs.Cty.{all_names}
use Rattle.model_laws.specs.Names.{position_distinct}
use Rattle.model_laws.specs.Resolve.{Stays, Unfolds}
use Rattle.meaning.specs.Program.{program, param_line}
use Rattle.meaning_laws.specs.Program.{length_program}
use Rattle.table_declared.specs.PassedLaws.{distinct_names}
use Rattle.mention_types.specs.NamesLaws.{member_append, member_iff}
use Rattle.table_access.specs.Tables.{nth, decls_of}
use Rattle.resolve_kids.specs.Params.{params_from, params_of}
use Rattle.resolve_kids.specs.Nodes.{type_of}
use Rattle.keep_laws.specs.KeptLaws.{params_are}
use Rattle.keep_layouts.specs.States.{state, body_of, unfold_at, closed, Shape}
use Rattle.form_laws.specs.Nodes.{Node, node, post, posts}
use Rattle.form_laws.specs.Forms.{place, renamed}
use Rattle.form_nodes.specs.Words.{node_of}
use Rattle.form_emit.specs.Emit.{form_words, Forms}
use Rattle.left_laws.specs.Lefts.{Ready, is_left}
use Rattle.form_emit.specs.Left.{left_type}
use Rattle.left_laws.specs.ReadyLaws.{listed_of, body_resolved, ready_form_nodes}
use Rattle.left_flags.specs.Flags.{is_var, has_var, has_all, leaves}

-- ---- a variable among nodes
pub has_append : (i : ℕ) (xs ys : List Node) → has_var i (xs ++ ys) ≡ (has_var i xs || has_var i ys)
unfolding has_var
has_append i [] ys = refl
has_append i (x ∷ xs) ys = go (is_var i x) (has_append i xs ys)
  where
    go : (c : Bool) → has_var i (xs ++ ys) ≡ (has_var i xs || has_var i ys) → pick c true (has_var i (xs ++ ys)) ≡ (pick c true (has_var i xs) || has_var i ys)
    go true e = refl
    go false e = e

or_false : (b : Bool) → (b || false) ≡ b
or_false true = refl
or_false false = refl

-- a node that is none, at the end
has_other : (i : ℕ) (xs : List Node) (x : Node) (b : Bool) → is_var i x ≡ false → has_var i xs ≡ b → has_var i (xs ++ (x ∷ [])) ≡ b
unfolding has_var
has_other i xs x b e h = has_append i xs (x ∷ []) ∙ (rw e (or_false (has_var i xs)) ∙ h)

-- places tell parameters apart
place_same : (ps : List ℕ) (w v : ℕ) → member v ps ≡ true → place ps w ≡ place ps v → w ≡ v
unfolding place member
place_same [] w v m e = false_true m
place_same (p ∷ ps) w v m e = go (eqb p w) refl (eqb p v) refl (place_same ps w v) m e
  where
    go : (x : Bool) → eqb p w ≡ x → (y : Bool) → eqb p v ≡ y → (member v ps ≡ true → place ps w ≡ place ps v → w ≡ v) → pick y true (member v ps) ≡ true
        → pick x 0 (suc (place ps w)) ≡ pick y 0 (suc (place ps v)) → w ≡ v
    go true a true b ih n q = sym (eqb-true p w a) ∙ eqb-true p v b
    go true a false b ih n q = absurd (omega arith)
    go false a true b ih n q = absurd (omega arith)
    go false a false b ih n q = ih n (omega arith)

-- a parameter in a normal form
module _ (ps : List ℕ) (v : ℕ) (bound : member v ps ≡ true) where
  abbrev i : ℕ
  i = place ps v

  var_test : (w : ℕ) → eqb (place ps w) i ≡ eqb w v
  var_test w = same_test (eqb (place ps w) i) (eqb w v) (λ e. eq-eqb w v (place_same ps w v bound (eqb-true (place ps w) i e))) (λ e. eq-eqb (place ps w) i (ap (place ps) (eqb-true w v e)))

  both_of : (a b : List Node) (x : Node) (l m : List ℕ) → is_var i x ≡ false → has_var i a ≡ member v l → has_var i b ≡ member v m → has_var i (a ++ (b ++ (x ∷ []))) ≡ member v (l ++ m)
  both_of a b x l m e p q = has_append i a (b ++ (x ∷ [])) ∙ (ap₂ (λ (y z : Bool). y || z) p (has_other i b x (member v m) e q) ∙ sym (member_append v l m))

  mutual
    unfolding post renamed walk cty_vars gather has_var is_var member

    pub var_post : (c : Cty) → has_var i (post (renamed (place ps) c)) ≡ member v (cty_vars c)
    var_post TUnit = refl
    var_post TAny = refl
    var_post TExn = refl
    var_post (TVar w) = rw (var_test w) refl
    var_post (TInt s w) = refl
    var_post (TFloat f) = refl
    var_post (TConst c) = refl
    var_post (TArrow a e b) = both_of (post (renamed (place ps) a)) (post (renamed (place ps) b)) (node 7 2 e) (cty_vars a) (cty_vars b) refl (var_post a) (var_post b)
    var_post (TApp n ts) = has_other i (posts (walks (λ w. TVar (place ps w)) TApp ts)) (node 8 _ n) (member v (gathers (λ w. w ∷ []) (λ m. []) ts)) refl (var_posts ts)
    var_post (TTuple ts) = has_other i (posts (walks (λ w. TVar (place ps w)) TApp ts)) (node 9 _ 0) (member v (gathers (λ w. w ∷ []) (λ m. []) ts)) refl (var_posts ts)
    var_post (TBuf t) = has_other i (post (renamed (place ps) t)) (node 10 1 0) (member v (cty_vars t)) refl (var_post t)
    var_post (TRef k t) = has_other i (post (renamed (place ps) t)) (node 11 1 k) (member v (cty_vars t)) refl (var_post t)
    var_post (TInline t) = has_other i (post (renamed (place ps) t)) (node 12 1 0) (member v (cty_vars t)) refl (var_post t)

    var_posts : (ts : Ctys) → has_var i (posts (walks (λ w. TVar (place ps w)) TApp ts)) ≡ member v (gathers (λ w. w ∷ []) (λ m. []) ts)
    var_posts nil = refl
    var_posts (cons t ts) =
        has_append i (post (renamed (place ps) t)) (posts (walks (λ w. TVar (place ps w)) TApp ts))
        ∙ (ap₂ (λ (y z : Bool). y || z) (var_post t) (var_posts ts) ∙ sym (member_append v (cty_vars t) (gathers (λ w. w ∷ []) (λ m. []) ts)))

pub all_post : (ps vs : List ℕ) (c : Cty) → ((v : ℕ) → Memᴰ v vs → member v ps ≡ true) → has_all ps vs (post (renamed (place ps) c)) ≡ all_in vs (cty_vars c)
unfolding has_all all_in
all_post ps [] c h = refl
all_post ps (v ∷ vs) c h = ap₂ (λ (y z : Bool). y && z) (var_post ps v (h v (Memᴰ.head refl)) c) (all_post ps vs c (λ w m. h w (Memᴰ.tail m)))

-- ---- what is left
collapsed_left : (d : Dtype) (c : Cty) → member d.dt_name (names_of_cty c) ≡ false → is_left (collapsed_abbrev d c) ≡ all_in d.dt_params (cty_vars c)
unfolding collapsed_abbrev is_left
collapsed_left d c e = rw e (go (all_in d.dt_params (cty_vars c)))
  where
    go : (b : Bool) → is_left (pick (b && true) (some (with_body d (TAbbrev c))) none) ≡ b
    go true = refl
    go false = refl

module _ (ls : List Line) (t u f keep : List ℕ) (ready : Ready ls t u f keep) (d : ℕ) (below : d < decls_of ls) where
  abbrev ds : List Decl
  ds = program ls

  unfolded : state u d ≡ 1 → unfold_at ls u d ≡ newtype (params_of ls d) (type_of ls (body_of u d))
  unfolding unfold_at
  unfolded x = rw x refl

  -- the name of an unfolded declaration is in nothing that is resolved
  not_named : state u d ≡ 1 → member (dtype_at ds d).dt_name (names_of_cty (left_type ls d (body_of u d))) ≡ false
  unfolding closed
  not_named x = go (member (dtype_at ds d).dt_name (names_of_cty (left_type ls d (body_of u d)))) refl
    where
      n : ℕ
      n = (dtype_at ds d).dt_name

      R : Cty
      R = left_type ls d (body_of u d)

      place_is : position ds n ≡ d
      place_is = position_distinct ds (distinct_names ls ready.tabled.passed) d (omega (arith, length_program ls))

      go : (c : Bool) → member n (names_of_cty R) ≡ c → c ≡ false
      go false e = refl
      go true e =
          let k : lay ds n ≡ stays = all_names (Stays (lay ds)) R (body_resolved ls u keep ready.tabled.passed ready.settled ready.resolvable (listed_of ls u keep ready.tabled.passed ready.slotted ready.settled) d (omega arith, omega arith)).normal n ((member_iff n (names_of_cty R)).0 e) in
          let q : closed (unfold_at ls u (position ds n)) ≡ stays = sym (ready.settled.names n) ∙ k in
          absurd (subst Unfolds (sym (ap (λ (j : ℕ). closed (unfold_at ls u j)) place_is ∙ ap closed (unfolded x)) ∙ q) tt)

  newtyped : state u d ≡ 1 → has_all (params_of ls d) (params_of ls d) (map node_of (form_words f d)) ≡ is_left (collapsed_abbrev (dtype_at ds d) (left_type ls d (body_of u d)))
  newtyped x =
      let ps : List ℕ = params_of ls d in
      let R : Cty = left_type ls d (body_of u d) in
      ap (has_all ps ps) (ready_form_nodes ls t u f keep ready d (omega arith, omega arith))
      ∙ (all_post ps ps R (λ v m. (member_iff v ps).1 m)
      ∙ sym (collapsed_left (dtype_at ds d) R (not_named x) ∙ ap (λ (l : List ℕ). all_in l (cty_vars R)) (params_are ls d below)))

  -- the flag of a declaration
  pub leaves_is : leaves ls u f d ≡ is_left (left_at 100 ds d)
  unfolding leaves left_at rw_decl is_left
  leaves_is = go (layout_of_decl ds d) (ready.settled.shapes d below)
    where
      go : (l : Layout) → Shape ls u d l → leaves ls u f d ≡ is_left (rw_decl (resolve (lay ds) 100) (dtype_at ds d) l)
      go L_erased s = rw s
      go (L_newtype nt) s = rw (s.0, s.1) (newtyped s.0)
      go (L_struct cls) s = rw s.0
      go (L_abbrev c) s = rw (ne_eqb (state u d) 0 (λ e. omega (arith, s.0)), ne_eqb (state u d) 1 (λ e. omega (arith, s.0)))
      go L_opaque s = rw s.0

-- ---- the code
pub ready_forms : (ls : List Line) (t u f keep : List ℕ) → Ready ls t u f keep → Forms ls f
ready_forms ls t u f keep r = record { cells = omega (arith, r.forms.head, r.forms.room); inside = λ e q. omega (arith, r.forms.cells e q, r.forms.room) }

-- a node of a list is one, or none is
pub has_at : (i : ℕ) (xs : List ℕ) (k : ℕ) → k < length xs → is_var i (node_of (get_or xs k 0)) ≡ true → has_var i (map node_of xs) ≡ true
unfolding has_var
has_at i [] k h e = absurd (omega arith)
has_at i (x ∷ xs) zero h e = rw e refl
has_at i (x ∷ xs) (suc k) h e = go (is_var i (node_of x)) (has_at i xs k (omega arith) e)
  where
    go : (c : Bool) → has_var i (map node_of xs) ≡ true → pick c true (has_var i (map node_of xs)) ≡ true
    go true q = refl
    go false q = q

pub has_none : (i : ℕ) (xs : List ℕ) → ((k : ℕ) → k < length xs → is_var i (node_of (get_or xs k 0)) ≡ false) → has_var i (map node_of xs) ≡ false
unfolding has_var
has_none i [] h = refl
has_none i (x ∷ xs) h = rw (h 0 (omega arith)) (has_none i xs (λ k l. h (suc k) (omega arith)))

-- the n words from place `start` on
module _ (f : List ℕ) (start n : ℕ) (inside : start + n ≤ length f) where
  abbrev part : List ℕ
  part = take n (drop start f)

  long : length part ≡ n
  long = length-take-le n (drop start f) (rw length-drop (omega arith))

  pub has_true : (i k : ℕ) → k < n → is_var i (node_of (get_or f (start + k) 0)) ≡ true → has_var i (map node_of part) ≡ true
  has_true i k l e = has_at i part k (omega (arith, long)) (rw (get_or-take n (drop start f) k 0 l, get_or-drop start f k 0) e)

  pub has_false : (i : ℕ) → ((k : ℕ) → k < n → is_var i (node_of (get_or f (start + k) 0)) ≡ false) → has_var i (map node_of part) ≡ false
  has_false i h = has_none i part (λ k l. let m : k < n = omega (arith, long) in rw (get_or-take n (drop start f) k 0 m, get_or-drop start f k 0) (h k m))

-- one more that is none
pub none_more : (f : List ℕ) (start i j : ℕ) → ((k : ℕ) → k < j → is_var i (node_of (get_or f (start + k) 0)) ≡ false) → is_var i (node_of (get_or f (start + j) 0)) ≡ false
    → (k : ℕ) → k < j + 1 → is_var i (node_of (get_or f (start + k) 0)) ≡ false
none_more f start i j h e k l = go (eqb k j) refl
  where
    go : (c : Bool) → eqb k j ≡ c → is_var i (node_of (get_or f (start + k) 0)) ≡ false
    go true q = ap (λ (m : ℕ). is_var i (node_of (get_or f (start + m) 0))) (eqb-true k j q) ∙ e
    go false q = h k (omega (arith, eqb-false k j q))

-- parameter after parameter
module _ (ls : List Line) (ps : List ℕ) (xs : List Node) (end p : ℕ) where
  pub all_step : p < end → has_all ps (params_from ls p (end - p)) xs ≡ (has_var (place ps (number (nth param_line ls p) 0)) xs && has_all ps (params_from ls (p + 1) (end - (p + 1))) xs)
  unfolding has_all params_from
  all_step h = let e : end - p ≡ suc (end - (p + 1)) = omega arith in rw (e, add-one p) refl

  pub all_end : end ≤ p → has_all ps (params_from ls p (end - p)) xs ≡ true
  unfolding has_all params_from
  all_end h = let e : end - p ≡ 0 = omega arith in rw e refl

  pub all_hit : (i : ℕ) → i ≡ place ps (number (nth param_line ls p) 0) → p < end → has_var i xs ≡ true → has_all ps (params_from ls p (end - p)) xs ≡ has_all ps (params_from ls (p + 1) (end - (p + 1))) xs
  all_hit i q h e = all_step h ∙ ap (λ (c : Bool). c && has_all ps (params_from ls (p + 1) (end - (p + 1))) xs) (ap (λ (j : ℕ). has_var j xs) (sym q) ∙ e)

  pub all_miss : (i : ℕ) → i ≡ place ps (number (nth param_line ls p) 0) → p < end → has_var i xs ≡ false → has_all ps (params_from ls p (end - p)) xs ≡ false
  all_miss i q h e = all_step h ∙ ap (λ (c : Bool). c && has_all ps (params_from ls (p + 1) (end - (p + 1))) xs) (ap (λ (j : ℕ). has_var j xs) (sym q) ∙ e)

-- by state
module _ (ls : List Line) (u f : List ℕ) (d : ℕ) where
  pub leaves_none : state u d ≡ 0 → leaves ls u f d ≡ false
  unfolding leaves
  leaves_none e = rw e refl

  pub leaves_some : (state u d ≡ 0 → ⊥) → (state u d ≡ 1 → ⊥) → leaves ls u f d ≡ true
  unfolding leaves
  leaves_some m n = rw (ne_eqb (state u d) 0 m, ne_eqb (state u d) 1 n) refl

  pub leaves_newtype : state u d ≡ 1 → leaves ls u f d ≡ has_all (params_of ls d) (params_of ls d) (map node_of (form_words f d))
  unfolding leaves
  leaves_newtype e = rw e refl

-- declaration after declaration
pub flag_more : (g : ℕ → ℕ) (left : List ℕ) (d : ℕ) → d < length left → ((e : ℕ) → e < d → get_or left e 0 ≡ g e) → (v : ℕ) → v ≡ g d → (e : ℕ) → e < d + 1 → get_or (set left d v) e 0 ≡ g e
flag_more g left d h k v q e l = go (eqb e d) refl
  where
    go : (c : Bool) → eqb e d ≡ c → get_or (set left d v) e 0 ≡ g e
    go true z = ap (λ (j : ℕ). get_or (set left d v) j 0) (eqb-true e d z) ∙ (get_or-set_same left d v 0 h ∙ (q ∙ ap g (sym (eqb-true e d z))))
    go false z = get_or-set_other left d e v 0 (eqb-false e d z) ∙ k e (omega (arith, eqb-false e d z))
