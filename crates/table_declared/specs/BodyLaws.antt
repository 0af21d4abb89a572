-- Closing a declaration's types changes none of what erasure sees; and the fields of a body are the declaration's F lines.
-- Assumes nothing.
use Rattle.std.specs.Prelude.{◌≡◌, Bool, ◌&&◌, length, get_or}
use Rattle.std.proofs.Math.Path.{refl}
use Rattle.std.proofs.Common.{ap, ap₂, sym, ◌∙◌, arith, eqb-true}
use mathlib.Core.List.{List, [], ◌∷◌, ◌++◌, map}
use Rattle.std.proofs.Math.Bool.{true, false}
use Prim.Native.Nat.{ℕ, zero, suc, ◌<◌}
use Rattle.number_columns.specs.Column.{pick}
use Rattle.sheet.specs.Line.{Line, bad, letter, number}
use Rattle.model.specs.Cty.{Cty, Ctys, TUnit, TAny, TExn, TVar, TInt, TFloat, TConst, TArrow, TApp, TTuple, TBuf, TRef, TInline, nil, cons, walk, walks}
use Rattle.model.specs.Decl.{Field, member, close, close_field}
use Rattle.model.specs.Erasure.{is_pure, cty_erased, ctys_erased, fields_erased}
use Rattle.meaning.specs.Program.{ctor_line, field_line, is, select, before, Group, groups, type_at, field_of}
use Rattle.meaning_laws.specs.Program.{select_append, select_no, flat, before_flat, AllGrouped, grouped}

-- ---- closing
module _ (er : ℕ → Bool) (ps : List ℕ) where
  bound : ℕ → Cty
  bound v = pick (member v ps) (TVar v) TAny

  bound_kept : (v : ℕ) → cty_erased er (bound v) ≡ false
  unfolding cty_erased bound
  bound_kept v = go (member v ps)
    where
      go : (b : Bool) → cty_erased er (pick b (TVar v) TAny) ≡ false
      go true = refl
      go false = refl

  mutual
    unfolding walk cty_erased

    walk_erased : (c : Cty) → cty_erased er (walk bound TApp c) ≡ cty_erased er c
    walk_erased TUnit = refl
    walk_erased TAny = refl
    walk_erased TExn = refl
    walk_erased (TVar v) = bound_kept v
    walk_erased (TInt s w) = refl
    walk_erased (TFloat f) = refl
    walk_erased (TConst c) = refl
    walk_erased (TArrow a e b) = ap (λ (x : Bool). is_pure e && x) (walk_erased b)
    walk_erased (TApp n ts) = refl
    walk_erased (TTuple ts) = walks_erased ts
    walk_erased (TBuf t) = refl
    walk_erased (TRef k t) = refl
    walk_erased (TInline t) = walk_erased t

    walks_erased : (ts : Ctys) → ctys_erased er (walks bound TApp ts) ≡ ctys_erased er ts
    walks_erased nil = refl
    walks_erased (cons t ts) = ap₂ ◌&&◌ (walk_erased t) (walks_erased ts)

  pub close_erased : (c : Cty) → cty_erased er (close ps c) ≡ cty_erased er c
  unfolding close bound
  close_erased c = walk_erased c

  -- ---- fields
  module _ (ts : List Cty) where
    -- the fields of F lines, closed
    abbrev pub closed : List Line → List Field
    closed fl = map (close_field ps) (map (field_of ts) fl)

    pub fields_all : (fl : List Line) → ((j : ℕ) → j < length fl → cty_erased er (type_at ts (number (get_or fl j bad) 1)) ≡ true) → fields_erased er (closed fl) ≡ true
    unfolding fields_erased close_field field_of
    fields_all [] h = refl
    fields_all (l ∷ fl) h = rw (close_erased (type_at ts (number l 1)), h 0 (omega arith)) (fields_all fl (λ j k. h (suc j) (omega arith)))

    pub fields_some : (fl : List Line) (j : ℕ) → j < length fl → cty_erased er (type_at ts (number (get_or fl j bad) 1)) ≡ false → fields_erased er (closed fl) ≡ false
    unfolding fields_erased close_field field_of
    fields_some [] j h e = absurd (omega arith)
    fields_some (l ∷ fl) zero h e = rw (close_erased (type_at ts (number l 1)), e)
    fields_some (l ∷ fl) (suc j) h e = rw (fields_some fl j (omega arith) e) (go (cty_erased er (close ps (type_at ts (number l 1)))))
      where
        go : (c : Bool) → (c && false) ≡ false
        go true = refl
        go false = refl

-- ---- constructors
-- the F lines of each group, one after the other
unfoldable pub fields_of : List Group → List Line
fields_of [] = []
fields_of (g ∷ gs) = select field_line g.rest ++ fields_of gs

flat_fields : (gs : List Group) → AllGrouped (is ctor_line) gs → select field_line (flat gs) ≡ fields_of gs
unfolding flat fields_of select
flat_fields [] h = refl
flat_fields (g ∷ gs) h =
    let e : letter g.head ≡ 67 = eqb-true (letter g.head) 67 h.0.begins in
    select_append field_line (g.head ∷ g.rest) (flat gs) ∙ ap₂ ◌++◌ (select_no field_line g.head g.rest (rw e)) (flat_fields gs h.1)

-- where no F line stands before the first constructor, the F lines are those of the constructors
pub ctor_fields : (ls : List Line) → select field_line (before (is ctor_line) ls) ≡ [] → select field_line ls ≡ fields_of (groups (is ctor_line) ls)
ctor_fields ls e =
    ap (select field_line) (sym (before_flat (is ctor_line) ls))
    ∙ select_append field_line (before (is ctor_line) ls) (flat (groups (is ctor_line) ls))
    ∙ rw e (flat_fields (groups (is ctor_line) ls) (grouped (is ctor_line) ls))
