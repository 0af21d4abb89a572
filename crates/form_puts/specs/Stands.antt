-- Words that stand in an array before a place, and stay there while others are put from that place on. Assumes nothing.
use Rattle.std.specs.Prelude.{◌≡◌, List, [], ◌∷◌, ◌++◌, ℕ, zero, suc, ◌-◌, ◌≤◌, ◌<◌, length, take, drop}
use Rattle.std.proofs.Common.{ap, sym, ◌∙◌, subst, arith, take_at, drop_at, take-take, length-take-le}
use Rattle.std.proofs.Math.Seq.{take-nil}
use Rattle.form_puts.specs.Put.{Put}

-- The words p, from place `from` to place `end`, which is not past place `at`.
pub record Stands (p out : List ℕ) (from end at : ℕ) : Type 0 where
  pub order : from ≤ end
  pub before : end ≤ at
  pub same : take (end - from) (drop from out) ≡ p

-- a part in the middle is the end of a part in front
middle : (from end : ℕ) (l : List ℕ) → from ≤ end → take (end - from) (drop from l) ≡ drop from (take end l)
middle zero end l h = let e : end - 0 ≡ end = omega arith in rw e
middle (suc from) zero l h = absurd (omega arith)
middle (suc from) (suc end) [] h = take-nil (suc end - suc from)
middle (suc from) (suc end) (x ∷ l) h = let e : suc end - suc from ≡ end - from = omega arith in rw e (middle from end l (omega arith))

module _ (p out : List ℕ) (at r : ℕ) (res : List ℕ) (a : at ≤ length out) (h : r ≤ length out) where
  front : length (take at out) ≡ at
  front = length-take-le at out a

  -- what was put
  pub stands_put : Put p out at r res → Stands p res at r r
  stands_put x =
      let z = x.room h in
      record {
        order = omega (arith, z.0);
        before = omega arith;
        same = ap (λ (l : List ℕ). take (r - at) (drop at l)) z.1 ∙ (ap (take (r - at)) (drop_at (take at out) (p ++ drop r out) at front) ∙ take_at p (drop r out) (r - at) (omega (arith, z.0)));
      }

  -- what stood there before
  pub stands_kept : (q : List ℕ) (from end : ℕ) → Put p out at r res → Stands q out from end at → Stands q res from end r
  stands_kept q from end x s =
      let z = x.room h in
      let kept : take at res ≡ take at out = ap (take at) z.1 ∙ take_at (take at out) (p ++ drop r out) at front in
      record {
        order = s.order;
        before = omega (arith, s.before, z.0);
        same =
            middle from end res s.order
            ∙ (ap (drop from) (sym (take-take end at res s.before) ∙ (ap (take end) kept ∙ take-take end at out s.before))
            ∙ (sym (middle from end out s.order) ∙ s.same));
      }

-- the words that are put once more
pub put_stands : (p out : List ℕ) (from end at r : ℕ) (res : List ℕ) → Stands p out from end at → Put (take (end - from) (drop from out)) out at r res → Put p out at r res
put_stands p out from end at r res s x = subst (λ (l : List ℕ). Put l out at r res) s.same x

-- where words of the numbers below y may stand, and p is one
pub stands_at : (W : ℕ → List ℕ) (out : List ℕ) (from end at last p y : ℕ) → p < y → (last < y → Stands (W last) out from end at) → last ≡ p → Stands (W p) out from end at
stands_at W out from end at last p y h s e = subst (λ (i : ℕ). Stands (W i) out from end at) e (s (omega (arith, e)))

-- by other names for the numbers
pub stands_by : (W : ℕ → List ℕ) (out : List ℕ) (at last from end last' from' end' : ℕ) → last ≡ last' → from ≡ from' → end ≡ end' → Stands (W last') out from' end' at → Stands (W last) out from end at
stands_by W out at last from end last' from' end' a b c s = rw (a, b, c) s
