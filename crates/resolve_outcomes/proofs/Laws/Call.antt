-- Laws of a call: its counts, and its instance's size, by the arguments and the surplus. Assumes nothing.
use Rattle.std.proofs.Math.Path.{◌≡◌, refl, ap}
use Rattle.std.proofs.Common.{◌∙◌}
use mathlib.Core.List.{List, [], ◌∷◌}
use Rattle.std.specs.Prelude.{Bool, ℕ, zero, suc, ◌+◌, ◌*◌, ◌≤◌, ◌<◌, length, drop}
use Rattle.std.proofs.Math.Bool.{true, false}
use native.Mathlib.Omega.{arith}
use Rattle.std.proofs.Math.Dec.{eqb, leb, ltb}
use Rattle.std.proofs.Math.ListN.{length-drop}
use borrow.Author.Tests.{eqb-true, eqb-false, leb-true, le-leb, ltb-true, ltb-false}
use Rattle.model.specs.Cty.{
  Cty,
  TUnit,
  TAny,
  TExn,
  TVar,
  TInt,
  TFloat,
  TConst,
  TArrow,
  TApp,
  TTuple,
  TBuf,
  TRef,
  TInline,
}
use Rattle.model.specs.Resolve.{Unfold, newtype, abbreviation, Result, ok, fault, spent}
use Rattle.resolve_outcomes.specs.Outcome.{coded, nodes, head, app, total, attached, argument, weight, instance_head, instance_shape, Next, extra, surplus_called, called, eval, entered, ev, counted, fits}
use Rattle.resolve_outcomes.proofs.Laws.Shape.{nodes_coded, head_coded, coded_parts, attached_none, attached_app}

-- no more arguments than parameters: no surplus
pub extra_none : (n : ℕ) (os : List ℕ) → length os ≤ n → drop n os ≡ []
extra_none zero [] h = refl
extra_none zero (o ∷ os) h = absurd (omega arith)
extra_none (suc n) [] h = refl
extra_none (suc n) (o ∷ os) h = extra_none n os (omega arith)

module _ (limit : ℕ) (next : Next) (ps os : List ℕ) (c : Cty) where
  -- the surplus, if there is one, is taken
  surplus_fits : (es : List ℕ) → (length es ≡ 0 → ⊥) → surplus_called next ps os c es ≡ elim (eqb (instance_head ps os c) app) [ true ↦ next ps os c | false ↦ fault 9 ]
  unfolding surplus_called
  surplus_fits [] h = absurd (h refl)
  surplus_fits (e ∷ es) h = refl

  surplus_none : (es : List ℕ) → es ≡ [] → surplus_called next ps os c es ≡ next ps os c
  unfolding surplus_called
  surplus_none es e = ap (surplus_called next ps os c) e

  pub called_newtype : called limit next os (newtype ps c) ≡ elim (fits os (newtype ps c)) [ true ↦ next ps os c | false ↦ fault 9 ]
  unfolding called fits
  called_newtype = refl

  pub called_abbreviation : called limit next os (abbreviation ps c) ≡ elim (fits os (abbreviation ps c)) [ true ↦ next ps os c | false ↦ fault 9 ]
  unfolding called fits
  called_abbreviation = go (eqb (length os) (length ps)) refl (ltb (length os) (length ps)) refl
    where
      go : (x : Bool) → eqb (length os) (length ps) ≡ x → (y : Bool) → ltb (length os) (length ps) ≡ y
          → ◌≡◌ {A = Result ℕ} (elim y [ true ↦ fault 9 | false ↦ surplus_called next ps os c (extra ps os) ]) (elim (counted x y (eqb (instance_head ps os c) app)) [ true ↦ next ps os c | false ↦ fault 9 ])
      go true e true f = absurd (omega (arith, eqb-true (length os) (length ps) e, ltb-true (length os) (length ps) f))
      go true e false f = surplus_none (extra ps os) (extra_none (length ps) os (omega (arith, eqb-true (length os) (length ps) e)))
      go false e true f = refl
      go false e false f =
          surplus_fits (extra ps os) (λ z. eqb-false (length os) (length ps) e (omega (arith, ltb-false (length os) (length ps) f, length-drop (length ps) os)))

-- an unfolded name
abbrev pub unfolded : Bool → List ℕ → Cty → Unfold
unfolded true ps c = newtype ps c
unfolded false ps c = abbreviation ps c

pub called_unfolded : (limit : ℕ) (next : Next) (ps os : List ℕ) (c : Cty) (b : Bool) → called limit next os (unfolded b ps c) ≡ elim (fits os (unfolded b ps c)) [ true ↦ next ps os c | false ↦ fault 9 ]
called_unfolded limit next ps os c true = called_newtype limit next ps os c
called_unfolded limit next ps os c false = called_abbreviation limit next ps os c

-- arguments that fit are enough, and a surplus that fits stands on a `TApp`
pub fits_enough : (ps os : List ℕ) (c : Cty) (b : Bool) → fits os (unfolded b ps c) ≡ true → length ps ≤ length os
unfolding fits
fits_enough ps os c true h = omega (arith, eqb-true (length os) (length ps) h)
fits_enough ps os c false h = go (eqb (length os) (length ps)) refl (ltb (length os) (length ps)) refl h
  where
    go : (x : Bool) → eqb (length os) (length ps) ≡ x → (y : Bool) → ltb (length os) (length ps) ≡ y
        → counted x y (eqb (instance_head ps os c) app) ≡ true → length ps ≤ length os
    go true e y f q = omega (arith, eqb-true (length os) (length ps) e)
    go false e true f q = let z : ◌≡◌ {A = ℕ} 0 1 = cc in absurd (omega arith)
    go false e false f q = ltb-false (length os) (length ps) f

pub fits_app : (ps os : List ℕ) (c : Cty) (b : Bool) → fits os (unfolded b ps c) ≡ true → length ps < length os → eqb (instance_head ps os c) app ≡ true
unfolding fits
fits_app ps os c true h q = absurd (omega (arith, eqb-true (length os) (length ps) h))
fits_app ps os c false h q = go (eqb (length os) (length ps)) refl (ltb (length os) (length ps)) refl h
  where
    go : (x : Bool) → eqb (length os) (length ps) ≡ x → (y : Bool) → ltb (length os) (length ps) ≡ y
        → counted x y (eqb (instance_head ps os c) app) ≡ true → eqb (instance_head ps os c) app ≡ true
    go true e y f r = absurd (omega (arith, eqb-true (length os) (length ps) e))
    go false e true f r = let z : ◌≡◌ {A = ℕ} 0 1 = cc in absurd (omega arith)
    go false e false f r = r

-- ---- the instance's size
head_small : (ps os : List ℕ) (c : Cty) → instance_head ps os c < 4
unfolding instance_head head
head_small ps os TUnit = omega arith
head_small ps os TAny = omega arith
head_small ps os TExn = omega arith
head_small ps os (TVar v) = omega arith
head_small ps os (TInt s w) = omega arith
head_small ps os (TFloat f) = omega arith
head_small ps os (TConst c) = omega arith
head_small ps os (TArrow a e b) = omega arith
head_small ps os (TApp n ts) = omega arith
head_small ps os (TTuple ts) = omega arith
head_small ps os (TBuf t) = omega arith
head_small ps os (TRef k t) = omega arith
head_small ps os (TInline t) = omega arith

-- with the surplus
module _ (ps os : List ℕ) (c : Cty) where
  pub shape_parts : (nodes (instance_shape ps os c) ≡ weight ps os c) × (head (instance_shape ps os c) ≡ instance_head ps os c)
  unfolding instance_shape
  shape_parts = (nodes_coded (weight ps os c) (instance_head ps os c) (head_small ps os c), head_coded (weight ps os c) (instance_head ps os c) (head_small ps os c))

  nodes_more : (o n : ℕ) → nodes (o + 4 * n) ≡ nodes o + n
  unfolding nodes
  nodes_more o n = omega arith

  size_none : nodes (attached (instance_shape ps os c) []) ≡ weight ps os c + total []
  unfolding total
  size_none = ap nodes (attached_none (instance_shape ps os c)) ∙ (shape_parts.0 ∙ omega arith)

  size_app : (es : List ℕ) → eqb (instance_head ps os c) app ≡ true → nodes (attached (instance_shape ps os c) es) ≡ weight ps os c + total es
  size_app es e =
      ap nodes (attached_app (instance_shape ps os c) es (ap (λ (h : ℕ). eqb h app) shape_parts.1 ∙ e))
      ∙ (nodes_more (instance_shape ps os c) (total es) ∙ ap (λ (n : ℕ). n + total es) shape_parts.0)

  -- of a call that fits
  pub call_size : (b : Bool) → fits os (unfolded b ps c) ≡ true → nodes (attached (instance_shape ps os c) (extra ps os)) ≡ weight ps os c + total (extra ps os)
  call_size b h = go (ltb (length ps) (length os)) refl
    where
      go : (x : Bool) → ltb (length ps) (length os) ≡ x → nodes (attached (instance_shape ps os c) (extra ps os)) ≡ weight ps os c + total (extra ps os)
      go true e = size_app (extra ps os) (fits_app ps os c b h (ltb-true (length ps) (length os) e))
      go false e =
          let n : extra ps os ≡ [] = extra_none (length ps) os (ltb-false (length ps) (length os) e) in
          rw n size_none

  -- ---- entered
  module _ (limit : ℕ) (lay : ℕ → Unfold) (b : Bool) (h : fits os (unfolded b ps c) ≡ true) where
    pub call_small : weight ps os c + total (extra ps os) ≤ limit → (j : ℕ) → called limit (ev limit lay (suc j)) os (unfolded b ps c) ≡ eval limit lay (ev limit lay j) ps os c (extra ps os)
    unfolding ev entered
    call_small q j =
        called_unfolded limit (ev limit lay (suc j)) ps os c b
        ∙ (ap (λ (x : Bool). elim x [ true ↦ ev limit lay (suc j) ps os c | false ↦ fault 9 ]) h
        ∙ ap (λ (x : Bool). elim x [ true ↦ eval limit lay (ev limit lay j) ps os c (extra ps os) | false ↦ fault 10 ]) (le-leb (nodes (attached (instance_shape ps os c) (extra ps os))) limit (omega (arith, call_size b h))))

    pub call_large : limit < weight ps os c + total (extra ps os) → (j : ℕ) → called limit (ev limit lay (suc j)) os (unfolded b ps c) ≡ fault 10
    unfolding ev entered
    call_large q j =
        called_unfolded limit (ev limit lay (suc j)) ps os c b
        ∙ (ap (λ (x : Bool). elim x [ true ↦ ev limit lay (suc j) ps os c | false ↦ fault 9 ]) h
        ∙ ap (λ (x : Bool). elim x [ true ↦ eval limit lay (ev limit lay j) ps os c (extra ps os) | false ↦ fault 10 ]) (over (nodes (attached (instance_shape ps os c) (extra ps os))) (omega (arith, call_size b h))))
      where
        over : (n : ℕ) → limit < n → leb n limit ≡ false
        over n l = go (leb n limit) refl
          where
            go : (x : Bool) → leb n limit ≡ x → x ≡ false
            go true e = absurd (omega (arith, leb-true n limit e))
            go false e = refl

    pub call_spent : called limit (ev limit lay 0) os (unfolded b ps c) ≡ spent
    unfolding ev
    call_spent = called_unfolded limit (ev limit lay 0) ps os c b ∙ ap (λ (x : Bool). elim x [ true ↦ spent | false ↦ fault 9 ]) h

  pub call_nine : (limit : ℕ) (next : Next) (b : Bool) → fits os (unfolded b ps c) ≡ false → called limit next os (unfolded b ps c) ≡ fault 9
  call_nine limit next b h = called_unfolded limit next ps os c b ∙ ap (λ (x : Bool). elim x [ true ↦ next ps os c | false ↦ fault 9 ]) h

-- a bare parameter with a surplus
pub var_surplus : (limit : ℕ) (lay : ℕ → Unfold) (next : Next) (ps os : List ℕ) (v : ℕ) (es : List ℕ) → eqb (instance_head ps os (TVar v)) app ≡ true
    → eval limit lay next ps os (TVar v) es ≡ ok (4 * (weight ps os (TVar v) + total es) + 1)
unfolding eval instance_head weight coded
var_surplus limit lay next ps os v es e =
    ap ok (attached_app (argument ps os v) es e ∙ apart (argument ps os v) (total es) (eqb-true (head (argument ps os v)) app e))
  where
    apart : (o n : ℕ) → head o ≡ 1 → o + 4 * n ≡ 4 * (nodes o + n) + 1
    apart o n q = omega (arith, coded_parts o, q)
