-- What is kept and what is dropped, weighed: for any weight of patterns, the two parts of a list weigh
-- what the list weighs. Assumes nothing.
use Rattle.std.specs.Prelude.{◌≡◌, Bool, eqb}
use Rattle.std.proofs.Math.Path.{refl, ap}
use Rattle.std.proofs.Common.{◌∙◌}
use mathlib.Core.List.{List, [], ◌∷◌, ◌++◌}
use Rattle.std.proofs.Math.Bool.{true, false}
use Rattle.std.proofs.Math.Option.{Option, none, some}
use Prim.Native.Nat.{ℕ, zero, suc, ◌+◌, ◌≤◌}
use native.Mathlib.Omega.{arith}
use Rattle.number_columns.specs.Column.{pick}
use Rattle.model.specs.Decl.{bit}
use Rattle.model_patterns.specs.Pat.{
  Pat,
  Pats,
  no_parts,
  part,
  pat_vars,
  pats_vars,
  nodes,
  nodes_of_parts,
  part_fields,
  nth_opt,
  other_parts,
  try_find,
  Split,
  into,
  keep_by_slots,
  keep_by_name,
  named,
  occurrences,
}

pub occurrences_append : (v : ℕ) (ms ns : List ℕ) → occurrences v (ms ++ ns) ≡ occurrences v ms + occurrences v ns
unfolding occurrences
occurrences_append v [] ns = omega arith
occurrences_append v (m ∷ ms) ns = omega (arith, occurrences_append v ms ns)

-- the sum of the parts' weights, and the weight of a part that may be missing
unfoldable pub weight : (Pat → ℕ) → Pats → ℕ
weight w no_parts = 0
weight w (part f p ps) = w p + weight w ps

abbrev pub weighs : (Pat → ℕ) → Option Pat → ℕ
weighs w none = 0
weighs w (some p) = w p

pub weight_nodes : (ps : Pats) → weight nodes ps ≡ nodes_of_parts ps
unfolding weight nodes_of_parts
weight_nodes no_parts = refl
weight_nodes (part f p ps) = ap (λ (k : ℕ). nodes p + k) (weight_nodes ps)

-- how often v stands in a pattern
abbrev pub bound : ℕ → Pat → ℕ
bound v p = occurrences v (pat_vars p)

pub weight_bound : (v : ℕ) (ps : Pats) → weight (bound v) ps ≡ occurrences v (pats_vars ps)
unfolding weight pats_vars occurrences
weight_bound v no_parts = refl
weight_bound v (part f p ps) = omega (arith, weight_bound v ps, occurrences_append v (pat_vars p) (pats_vars ps))

module _ (w : Pat → ℕ) where
  -- kept and dropped parts together
  abbrev pub split_weight : Split → ℕ
  split_weight s = weight w s.kept + weight w s.dropped

  into_weight : (b : Bool) (f : ℕ) (p : Pat) (s : Split) → split_weight (into b f p s) ≡ w p + split_weight s
  unfolding weight
  into_weight true f p s = omega arith
  into_weight false f p s = omega arith

  pub slots_weight : (bs : List Bool) (ps : Pats) → split_weight (keep_by_slots bs ps) ≡ weight w ps
  unfolding weight keep_by_slots
  slots_weight [] no_parts = refl
  slots_weight (b ∷ bs) no_parts = refl
  slots_weight [] (part f p ps) = into_weight true f p (keep_by_slots [] ps) ∙ ap (λ (k : ℕ). w p + k) (slots_weight [] ps)
  slots_weight (b ∷ bs) (part f p ps) = into_weight b f p (keep_by_slots bs ps) ∙ ap (λ (k : ℕ). w p + k) (slots_weight bs ps)

  pub names_weight : (keep : ℕ → Bool) (ps : Pats) → split_weight (keep_by_name keep ps) ≡ weight w ps
  unfolding weight keep_by_name
  names_weight keep no_parts = refl
  names_weight keep (part f p ps) =
      into_weight (keep f) f p (keep_by_name keep ps) ∙ ap (λ (k : ℕ). w p + k) (names_weight keep ps)

  -- the part at a place and those at other places
  pub nth_weight : (ps : Pats) (i : ℕ) → weighs w (nth_opt ps i) + weight w (other_parts ps i) ≡ weight w ps
  unfolding weight nth_opt other_parts
  nth_weight no_parts i = refl
  nth_weight (part f p ps) zero = refl
  nth_weight (part f p ps) (suc i) = omega (arith, nth_weight ps i)

  -- The first part of a name and those of other names: a second part of that name is in neither.
  pub find_weight : (keep : ℕ → Bool) (ps : Pats) → weighs w (try_find keep ps) + weight w (keep_by_name keep ps).dropped ≤ weight w ps
  unfolding weight try_find keep_by_name
  find_weight keep no_parts = omega arith
  find_weight keep (part f p ps) = go (keep f) (find_weight keep ps) (names_weight keep ps)
    where
      go : (b : Bool)
          → weighs w (try_find keep ps) + weight w (keep_by_name keep ps).dropped ≤ weight w ps
          → split_weight (keep_by_name keep ps) ≡ weight w ps
          → weighs w (pick b (some p) (try_find keep ps)) + weight w (into b f p (keep_by_name keep ps)).dropped ≤ w p + weight w ps
      go true ih e = omega arith
      go false ih e = omega arith

  -- where no part has the name, all are of other names
  none_named : (g : ℕ) (ps : Pats) → occurrences (suc g) (part_fields ps) ≡ 0 → weight w (keep_by_name (named g) ps).dropped ≡ weight w ps
  unfolding weight keep_by_name named part_fields occurrences
  none_named g no_parts h = refl
  none_named g (part f p ps) h = go (eqb f (suc g)) (none_named g ps) h
    where
      go : (b : Bool)
          → (occurrences (suc g) (part_fields ps) ≡ 0 → weight w (keep_by_name (named g) ps).dropped ≡ weight w ps)
          → bit b + occurrences (suc g) (part_fields ps) ≡ 0
          → weight w (into b f p (keep_by_name (named g) ps)).dropped ≡ w p + weight w ps
      go true ih k = absurd (omega arith)
      go false ih k = omega (arith, ih (omega arith))

  -- where no second part has it, nothing is lost
  pub find_once : (g : ℕ) (ps : Pats) → occurrences (suc g) (part_fields ps) ≤ 1
      → weighs w (try_find (named g) ps) + weight w (keep_by_name (named g) ps).dropped ≡ weight w ps
  unfolding weight try_find keep_by_name named part_fields occurrences
  find_once g no_parts h = refl
  find_once g (part f p ps) h = go (eqb f (suc g)) (find_once g ps) h
    where
      go : (b : Bool)
          → (occurrences (suc g) (part_fields ps) ≤ 1 → weighs w (try_find (named g) ps) + weight w (keep_by_name (named g) ps).dropped ≡ weight w ps)
          → bit b + occurrences (suc g) (part_fields ps) ≤ 1
          → weighs w (pick b (some p) (try_find (named g) ps)) + weight w (into b f p (keep_by_name (named g) ps)).dropped ≡ w p + weight w ps
      go true ih k = omega (arith, none_named g ps (omega arith))
      go false ih k = omega (arith, ih (omega arith))
