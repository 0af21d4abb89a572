-- Laws of the nodes of an instance: a node's, and its parts' one after the other. Assumes nothing.
use Rattle.std.specs.Prelude.{◌≡◌, List, Bool, true, false, ℕ, zero, suc, ◌+◌, ◌-◌, ◌/◌, ◌≤◌, ◌<◌, eqb, leb}
use Rattle.std.proofs.Math.Path.{refl}
use Rattle.std.proofs.Common.{ap, sym, ◌∙◌, arith, eqb-true, leb-true, leb-false}
use Rattle.std.proofs.lemmas.Bool.{eqb-false}
use Rattle.sheet.specs.Line.{Line, number}
use Rattle.model.specs.Cty.{Cty, Ctys, TVar, TApp}
use Rattle.meaning.specs.Program.{type_line}
use Rattle.meaning.specs.Rows.{count_of}
use Rattle.table_declared.specs.Passed.{Passed}
use Rattle.resolve_outcomes.specs.Outcome.{nodes, argument, weight, weights}
use Rattle.resolve_outcomes.specs.Answer.{listed}
use Rattle.resolve_outcomes.specs.Scratch.{capped}
use Rattle.resolve_outcomes.proofs.Laws.Answer.{weight_parts, weights_last}
use Rattle.resolve_outcomes.proofs.Laws.Scratch.{capped_small, capped_large, capped_add, capped_over, capped_under}
use Rattle.resolve_kids.specs.Nodes.{y_line, kind_of, type_of, kids_of}
use Rattle.resolve_kids.specs.NodesLaws.{var_type, app_type, plain_type}
use Rattle.resolve_weights.specs.Weigh.{kid_types}

weight_app : (ps os : List ℕ) (n : ℕ) (ts : Ctys) → weight ps os (TApp n ts) ≡ suc (weights ps os ts)
unfolding weight
weight_app ps os n ts = omega arith

weight_var : (ps os : List ℕ) (v : ℕ) → weight ps os (TVar v) ≡ argument ps os v / 4
unfolding weight nodes
weight_var ps os v = refl

module _ (ls : List Line) (passed : Passed ls) (ps os : List ℕ) (y : ℕ) (h : y < count_of type_line ls) where
  -- a variable
  pub weigh_var : (from v r s : ℕ) → kind_of ls y ≡ 3 → v ≡ number (y_line ls y) 1 → r ≡ argument ps os v → s ≡ capped 1024 (from + r / 4) → s ≡ capped 1024 (from + weight ps os (type_of ls y))
  weigh_var from v r s k e a q =
      q ∙ ap (λ (n : ℕ). capped 1024 (from + n)) (ap (λ (n : ℕ). n / 4) (a ∙ ap (argument ps os) e) ∙ sym (ap (weight ps os) (var_type ls passed y h k) ∙ weight_var ps os (number (y_line ls y) 1)))

  -- every other node
  node_weight : (kind_of ls y ≡ 3 → ⊥) → weight ps os (type_of ls y) ≡ suc (weights ps os (kid_types ls y (kids_of ls y)))
  node_weight m = go (eqb (kind_of ls y) 8) refl
    where
      go : (c : Bool) → eqb (kind_of ls y) 8 ≡ c → weight ps os (type_of ls y) ≡ suc (weights ps os (kid_types ls y (kids_of ls y)))
      go true e = ap (weight ps os) (app_type ls passed y h (eqb-true (kind_of ls y) 8 e)) ∙ weight_app ps os (number (y_line ls y) 1) (kid_types ls y (kids_of ls y))
      go false e =
          let p = plain_type ls passed y h m (eqb-false (kind_of ls y) 8 e) in
          weight_parts ps os (type_of ls y) p.is_plain ∙ ap (λ (ts : Ctys). suc (weights ps os ts)) p.has_parts

  pub weigh_node : (from one r : ℕ) → (kind_of ls y ≡ 3 → ⊥) → one ≡ capped 1024 (from + 1) → r ≡ capped 1024 (one + weights ps os (kid_types ls y (kids_of ls y))) → r ≡ capped 1024 (from + weight ps os (type_of ls y))
  weigh_node from one r m e q =
      q ∙ (ap (λ (n : ℕ). capped 1024 (n + weights ps os (kid_types ls y (kids_of ls y)))) e
      ∙ (capped_add 1024 (from + 1) (weights ps os (kid_types ls y (kids_of ls y)))
      ∙ ap (capped 1024) (step from (weights ps os (kid_types ls y (kids_of ls y))) (weight ps os (type_of ls y)) (node_weight m))))
    where
      step : (f n w : ℕ) → w ≡ suc n → f + 1 + n ≡ f + w
      step f n w p = omega arith

-- its parts
module _ (ps os : List ℕ) (f : ℕ → Cty) (from : ℕ) where
  weights_none : weights ps os (listed f 0) ≡ 0
  unfolding weights listed
  weights_none = refl

  pub kids_none : from ≤ 1025 → from ≡ capped 1024 (from + weights ps os (listed f 0))
  kids_none h = sym (ap (λ (n : ℕ). capped 1024 (from + n)) weights_none ∙ go (leb from 1024) refl)
    where
      go : (c : Bool) → leb from 1024 ≡ c → capped 1024 (from + 0) ≡ from
      go true e = capped_small 1024 (from + 0) (omega (arith, leb-true from 1024 e)) ∙ omega arith
      go false e = capped_large 1024 (from + 0) (omega (arith, leb-false from 1024 e)) ∙ omega (arith, leb-false from 1024 e)

  pub kids_more : (i w r : ℕ) → w ≡ capped 1024 (from + weights ps os (listed f i)) → r ≡ capped 1024 (w + weight ps os (f i)) → r ≡ capped 1024 (from + weights ps os (listed f (i + 1)))
  kids_more i w r e q =
      let a : i + 1 ≡ suc i = omega arith in
      q ∙ (ap (λ (n : ℕ). capped 1024 (n + weight ps os (f i))) e
      ∙ (capped_add 1024 (from + weights ps os (listed f i)) (weight ps os (f i))
      ∙ ap (capped 1024) (step from (weights ps os (listed f i)) (weight ps os (f i)) (weights ps os (listed f (i + 1))) (ap (λ (n : ℕ). weights ps os (listed f n)) a ∙ weights_last ps os f i))))
    where
      step : (g n w m : ℕ) → m ≡ n + w → g + n + w ≡ g + m
      step g n w m p = omega arith

  weights_le : (i n : ℕ) → i ≤ n → weights ps os (listed f i) ≤ weights ps os (listed f n)
  weights_le i zero h = let e : i ≡ 0 = omega arith in rw e (omega arith)
  weights_le i (suc n) h = go (leb i n) refl (weights_le i n)
    where
      go : (c : Bool) → leb i n ≡ c → (i ≤ n → weights ps os (listed f i) ≤ weights ps os (listed f n)) → weights ps os (listed f i) ≤ weights ps os (listed f (suc n))
      go true e ih = omega (arith, ih (leb-true i n e), weights_last ps os f n)
      go false e ih = let e : i ≡ suc n = omega (arith, leb-false i n e) in rw e (omega arith)

  -- over the limit before the last part
  pub kids_over : (i n w : ℕ) → i ≤ n → w ≡ capped 1024 (from + weights ps os (listed f i)) → 1024 < w → w ≡ capped 1024 (from + weights ps os (listed f n))
  kids_over i n w h e q =
      let o : 1024 < from + weights ps os (listed f i) = capped_over 1024 (from + weights ps os (listed f i)) (omega arith) in
      e ∙ (capped_large 1024 (from + weights ps os (listed f i)) o ∙ sym (capped_large 1024 (from + weights ps os (listed f n)) (omega (arith, weights_le i n h))))

-- a part like the one before it
pub once_more : (from prior weight r : ℕ) → from ≡ prior + weight → r ≡ capped 1024 (from + (from - prior)) → r ≡ capped 1024 (from + weight)
once_more from prior weight r e q =
    let a : from - prior ≡ weight = omega arith in
    q ∙ ap (λ (n : ℕ). capped 1024 (from + n)) a

pub once_last : (from weight r : ℕ) → r ≡ capped 1024 (from + weight) → r ≤ 1024 → r ≡ from + weight
once_last from weight r e h = e ∙ (capped_under 1024 (from + weight) (omega arith)).1
