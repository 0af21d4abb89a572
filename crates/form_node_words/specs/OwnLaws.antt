-- Laws for the words of Y lines: counts by kind, and a parameter sought one P line after the other. Assumes nothing.
use Rattle.std.specs.Prelude.{◌≡◌, List, [], ◌∷◌, Bool, true, false, eqb, ltb, length}
use Rattle.std.proofs.Math.Path.{refl}
use Rattle.std.proofs.Common.{ap₂, sym, ◌∙◌, eq-eqb, ne_eqb, lt-ltb, le-ltb, ltb-true}
use Prim.Native.Nat.{ℕ, suc, ◌+◌, ◌-◌, ◌≤◌, ◌<◌}
use native.Mathlib.Omega.{arith}
use Rattle.sheet.proofs.ListLaws.{same_test}
use Rattle.number_columns.specs.Column.{pick}
use Rattle.sheet.specs.Line.{Line, number}
use Rattle.meaning.specs.Program.{param_line}
use Rattle.table_access.specs.Tables.{nth, first_of}
use Rattle.resolve_kids.specs.Params.{params_from, params_of}
use Rattle.model.specs.Decl.{member}
use Rattle.form_laws.specs.Nodes.{node}
use Rattle.form_laws.specs.Forms.{place, variable}

-- ---- a parameter's place
module _ (ls : List Line) (first end v : ℕ) where
  -- i parameters passed, and the others
  abbrev pub sought : ℕ → ℕ
  sought i = i + place (params_from ls (first + i) (end - (first + i))) v

  pub sought_first : place (params_from ls first (end - first)) v ≡ sought 0
  sought_first = let e : first + 0 ≡ first = omega arith in rw e (omega arith)

  pub sought_end : (i : ℕ) → end ≤ first + i → sought i ≡ i
  unfolding place params_from
  sought_end i h = let e : end - (first + i) ≡ 0 = omega arith in rw e (omega arith)

  module _ (i : ℕ) (h : first + i < end) where
    step : sought i ≡ i + place (number (nth param_line ls (first + i)) 0 ∷ params_from ls (suc (first + i)) (end - suc (first + i))) v
    unfolding params_from
    step = let e : end - (first + i) ≡ suc (end - suc (first + i)) = omega arith in rw e refl

    pub sought_hit : number (nth param_line ls (first + i)) 0 ≡ v → sought i ≡ i
    unfolding place
    sought_hit e = step ∙ rw (eq-eqb _ _ e) (omega arith)

    pub sought_miss : (number (nth param_line ls (first + i)) 0 ≡ v → ⊥) → sought i ≡ sought (i + 1)
    unfolding place
    sought_miss n =
        let e : first + (i + 1) ≡ suc (first + i) = omega arith in
        step ∙ (rw (ne_eqb _ _ n, e) (omega arith))

pub place_of_params : (ls : List Line) (d first end v : ℕ) → first ≡ first_of param_line ls d → end ≡ first_of param_line ls (d + 1)
    → place (params_from ls first (end - first)) v ≡ place (params_of ls d) v
place_of_params ls d first end v e f = ap₂ (λ (i j : ℕ). place (params_from ls i (j - i)) v) e f

ltb_suc : (a b : ℕ) → ltb a b ≡ ltb (suc a) (suc b)
ltb_suc a b = same_test (ltb a b) (ltb (suc a) (suc b)) (λ e. lt-ltb (suc a) (suc b) (omega (arith, ltb-true a b e))) (λ e. lt-ltb a b (omega (arith, ltb-true (suc a) (suc b) e)))

-- a parameter's place is below their number, and no other's is
pub member_place : (ps : List ℕ) (v : ℕ) → member v ps ≡ ltb (place ps v) (length ps)
unfolding member place
member_place [] v = refl
member_place (p ∷ ps) v = go (eqb p v) (member_place ps v)
  where
    go : (b : Bool) → member v ps ≡ ltb (place ps v) (length ps) → pick b true (member v ps) ≡ ltb (pick b 0 (suc (place ps v))) (suc (length ps))
    go true e = sym (lt-ltb 0 (suc (length ps)) (omega arith))
    go false e = e ∙ ltb_suc (place ps v) (length ps)

pub unbound_word : (ps : List ℕ) (v l : ℕ) → length ps ≤ place ps v → node 1 0 0 ≡ variable (member v ps) l
unfolding variable
unbound_word ps v l h = rw (member_place ps v, le-ltb (place ps v) (length ps) h)

pub bound_word : (ps : List ℕ) (v l : ℕ) → place ps v < length ps → node 3 0 l ≡ variable (member v ps) l
unfolding variable
bound_word ps v l h = rw (member_place ps v, lt-ltb (place ps v) (length ps) h)
