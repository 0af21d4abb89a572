-- Laws of a name's position, of agreement on a set of names, and of the names of a declaration's parts. Assumes nothing.
use Rattle.std.specs.Prelude.{◌⊎◌, ◌≡◌, refl, Bool, true, false, ℕ, zero, suc, ◌+◌, ◌≤◌, ◌<◌, T, eqb, length}
use Rattle.std.proofs.Common.{inl, inr, ⊎_elim, ap, sym, arith, eqb→eq, nltb→le, length-append, le-ltb}
use mathlib.Core.List.Memᴰ
use mathlib.Core.List.{List, [], ◌∷◌, ◌++◌, Memᴰ}
use Rattle.std.proofs.Math.Decide.{dec_lt}
use Rattle.std.proofs.Math.Dec.{eqb_refl}
use Rattle.std.proofs.Math.ListN.{get_or-append}
use Rattle.number_columns.specs.Column.{pick}
use Rattle.model.specs.Cty.{names_of_cty}
use Rattle.model.specs.Decl.{Field, Body, TAbstract, TAbbrev, TRecord, TVariant, ctors_of, Decl, no_decl, dtype_at, position}
use Rattle.model.specs.Layout.{kept}
use Rattle.model.specs.Names.{Among, fields_names, ctors_names, body_names, dtype_names, Declared, undeclared, Distinct, Agree}

-- ---- position
pub position_le : (ds : List Decl) (n : ℕ) → position ds n ≤ length ds
unfolding position
position_le [] n = omega arith
position_le (d ∷ ds) n = go (position_le ds n) (eqb d.dtype.dt_name n)
  where
    go : position ds n ≤ length ds → (b : Bool) → pick b 0 (suc (position ds n)) ≤ suc (length ds)
    go ih true = omega arith
    go ih false = omega arith

-- the declaration at a name's position has that name
pub position_name : (ds : List Decl) (n : ℕ) → Declared ds n → (dtype_at ds (position ds n)).dt_name ≡ n
unfolding position
position_name [] n h = absurd (omega arith)
position_name (d ∷ ds) n h = go (position_name ds n) (eqb d.dtype.dt_name n) refl h
  where
    go : (Declared ds n → (dtype_at ds (position ds n)).dt_name ≡ n)
        → (b : Bool) → eqb d.dtype.dt_name n ≡ b → pick b 0 (suc (position ds n)) < suc (length ds)
        → (dtype_at (d ∷ ds) (pick b 0 (suc (position ds n)))).dt_name ≡ n
    go ih true e q = eqb→eq d.dtype.dt_name n (rw e tt)
    go ih false e q = ih (omega arith)

-- no declaration before it has
pub position_first : (ds : List Decl) (n i : ℕ) → i < length ds → (dtype_at ds i).dt_name ≡ n → position ds n ≤ i
unfolding position
position_first [] n i h e = absurd (omega arith)
position_first (d ∷ ds) n zero h e = go (eqb d.dtype.dt_name n) (rw e (eqb_refl n))
  where
    go : (b : Bool) → T b → pick b 0 (suc (position ds n)) ≤ 0
    go true t = omega arith
    go false t = absurd t
position_first (d ∷ ds) n (suc i) h e = go (position_first ds n i (omega arith) e) (eqb d.dtype.dt_name n)
  where
    go : position ds n ≤ i → (b : Bool) → pick b 0 (suc (position ds n)) ≤ suc i
    go ih true = omega arith
    go ih false = omega arith

-- the name of a declaration is declared
-- a name is declared, or its place is past the last
pub declared_cases : (ds : List Decl) (n : ℕ) → Declared ds n ⊎ (position ds n ≡ length ds)
declared_cases ds n = go (dec_lt (position ds n) (length ds))
  where
    go : Dec (Declared ds n) → Declared ds n ⊎ (position ds n ≡ length ds)
    go (yes d) = inl d
    go (no d) = inr (omega (arith, position_le ds n))

pub not_declared : (ds : List Decl) (n : ℕ) → (Declared ds n → ⊥) → position ds n ≡ length ds
not_declared ds n h = omega (arith, position_le ds n)

pub position_declared : (ds : List Decl) (i : ℕ) → i < length ds → Declared ds (dtype_at ds i).dt_name
position_declared ds i h = omega (arith, position_first ds (dtype_at ds i).dt_name i h refl)

-- in a program that declares no name twice, at its own place
pub position_distinct : (ds : List Decl) → Distinct ds → (i : ℕ) → i < length ds → position ds (dtype_at ds i).dt_name ≡ i
position_distinct ds u i h =
    let q : Declared ds (dtype_at ds i).dt_name = position_declared ds i h in
    u (position ds (dtype_at ds i).dt_name) i q h (position_name ds (dtype_at ds i).dt_name q)

-- in an append: where the first part declares it, else behind the first part
pub position_append_left : (ds es : List Decl) (n : ℕ) → Declared ds n → position (ds ++ es) n ≡ position ds n
unfolding position
position_append_left [] es n h = absurd (omega arith)
position_append_left (d ∷ ds) es n h = go (position_append_left ds es n) (eqb d.dtype.dt_name n) h
  where
    go : (Declared ds n → position (ds ++ es) n ≡ position ds n) → (b : Bool) → pick b 0 (suc (position ds n)) < suc (length ds)
        → pick b 0 (suc (position (ds ++ es) n)) ≡ pick b 0 (suc (position ds n))
    go ih true q = refl
    go ih false q = ap suc (ih (omega arith))

pub position_append_right : (ds es : List Decl) (n : ℕ) → position ds n ≡ length ds → position (ds ++ es) n ≡ length ds + position es n
unfolding position
position_append_right [] es n h = omega arith
position_append_right (d ∷ ds) es n h = go (position_append_right ds es n) (eqb d.dtype.dt_name n) h
  where
    go : (position ds n ≡ length ds → position (ds ++ es) n ≡ length ds + position es n) → (b : Bool) → pick b 0 (suc (position ds n)) ≡ suc (length ds)
        → pick b 0 (suc (position (ds ++ es) n)) ≡ suc (length ds) + position es n
    go ih true q = absurd (omega arith)
    go ih false q = omega (arith, ih (omega arith))

-- equal dtypes, place by place, have equal positions
pub position_same : (ds ds' : List Decl) (n : ℕ) → length ds ≡ length ds'
    → ((i : ℕ) → i < length ds → dtype_at ds i ≡ dtype_at ds' i) → position ds n ≡ position ds' n
unfolding position
position_same [] [] n e f = refl
position_same [] (d' ∷ ds') n e f = absurd (omega arith)
position_same (d ∷ ds) [] n e f = absurd (omega arith)
position_same (d ∷ ds) (d' ∷ ds') n e f =
    rw (f 0 (omega arith), position_same ds ds' n (omega arith) (λ i h. f (suc i) (omega arith)))

-- ---- programs that agree
pub agree_sym : (S : ℕ → Bool) (ds ds' : List Decl) → Agree S ds ds' → Agree S ds' ds
agree_sym S ds ds' g = record {
  declared = λ n s. ((g.declared n s).1, (g.declared n s).0);
  same_dtype = λ n s h. sym (g.same_dtype n s ((g.declared n s).1 h));
  same_origin = λ n s h. sym (g.same_origin n s ((g.declared n s).1 h));
  closed = λ n s h m k. g.closed n s ((g.declared n s).1 h) m (rw (g.same_dtype n s ((g.declared n s).1 h)) k);
}

pub agree_foreign : (S : ℕ → Bool) (ds ds' : List Decl) → Agree S ds ds' → (n : ℕ) → S n ≡ true → position ds n ≡ length ds → position ds' n ≡ length ds'
agree_foreign S ds ds' g n s e = not_declared ds' n (λ d. omega (arith, (g.declared n s).1 d))

-- what `undeclared` says
pub undeclared_past : (ds : List Decl) (n : ℕ) → undeclared ds n ≡ true → position ds n ≡ length ds
unfolding undeclared
undeclared_past ds n e = omega (arith, position_le ds n, nltb→le (position ds n) (length ds) (rw e tt))

pub undeclared_of : (ds : List Decl) (n : ℕ) → position ds n ≡ length ds → undeclared ds n ≡ true
unfolding undeclared
undeclared_of ds n e = rw (le-ltb (position ds n) (length ds) (omega arith))

-- Declarations that name nothing which others declare agree with themselves and those others behind them, on all names that the others do not declare.
pub agree_prefix : (ds es : List Decl)
    → ((i : ℕ) → i < length ds → (m : ℕ) → Memᴰ m (dtype_names (dtype_at ds i)) → undeclared es m ≡ true)
    → Agree (undeclared es) ds (ds ++ es)
agree_prefix ds es f = record {
  declared = λ n s. (λ h. rw (position_append_left ds es n h) (omega (arith, length-append ds es)), λ h. ⊎_elim (λ q. q) (λ e. absurd (omega (arith, h, position_append_right ds es n e, undeclared_past es n s, length-append ds es))) (declared_cases ds n));
  same_dtype = λ n s h. rw (position_append_left ds es n h) (ap (λ (d : Decl). d.dtype) (sym (get_or-append ds es no_decl (position ds n) h)));
  same_origin = λ n s h. rw (position_append_left ds es n h) (ap (λ (d : Decl). d.origin) (sym (get_or-append ds es no_decl (position ds n) h)));
  closed = λ n s h m k. f (position ds n) h m k;
}

pub among_append : (a b c d : List ℕ) → Among a c → Among b d → Among (a ++ b) (c ++ d)
among_append a b c d f g n m = ⊎_elim (λ x. Memᴰ.append_left d (f n x)) (λ x. Memᴰ.append_right c (g n x)) (Memᴰ.append_cases a m)

-- the kept fields name nothing that the fields do not
pub kept_names : (bs : List Bool) (fs : List Field) → Among (fields_names (kept bs fs)) (fields_names fs)
unfolding kept fields_names
kept_names [] fs n m = absurd (Memᴰ.not-nil m)
kept_names (b ∷ bs) [] n m = absurd (Memᴰ.not-nil m)
kept_names (true ∷ bs) (f ∷ fs) n m = among_append (names_of_cty f.fd_type) _ _ (fields_names fs) (λ k u. u) (kept_names bs fs) n m
kept_names (false ∷ bs) (f ∷ fs) n m = Memᴰ.append_right (names_of_cty f.fd_type) (kept_names bs fs n m)

-- nor do the constructors anything that their declaration does not
pub ctors_own : (n : ℕ) (b : Body) → Among (ctors_names (ctors_of n b)) (body_names b)
unfolding ctors_of ctors_names body_names
ctors_own n TAbstract k m = m
ctors_own n (TAbbrev c) k m = absurd (Memᴰ.not-nil m)
ctors_own n (TRecord fs) k m = ⊎_elim (λ x. x) (λ x. absurd (Memᴰ.not-nil x)) (Memᴰ.append_cases (fields_names fs) m)
ctors_own n (TVariant cs) k m = m
