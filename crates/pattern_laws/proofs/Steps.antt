-- The fields of the parts up to a line, by those up to the part before it: what the code keeps of each list in one number
-- for each line, its parts' count or whether a field was there. Assumes nothing.
use Rattle.std.specs.Prelude.{◌≡◌, refl, List, [], ◌∷◌, ◌++◌, ◌||◌, ℕ, zero, suc, ◌≤◌, ◌<◌, eqb, length}
use Rattle.std.proofs.Math.Path.{ap}
use Rattle.std.proofs.Common.{◌∙◌, arith}
use Rattle.sheet.specs.Line.{Line}
use Rattle.model_patterns.specs.Pat.{Pats, no_parts, part, part_fields, parts}
use Rattle.meaning.specs.Rows.{nth_line}
use Rattle.meaning_patterns.specs.Patterns.{kind_of, name_of, last_of, previous_of, field_of, Piece, list_to, pattern_of, piece, pieces}
use Rattle.pattern_laws.proofs.Pieces.{piece_at, parts_count}
use Rattle.pattern_laws.specs.Linked.{Linked}
use Rattle.pattern_laws.specs.Marks.{has_field, fields_to}
use Rattle.pattern_laws.proofs.Kept.{fields_last, has_snoc}

pub length_fields : (ps : Pats) → length (part_fields ps) ≡ parts ps
unfolding part_fields parts
length_fields no_parts = refl
length_fields (part f p ps) = ap suc (length_fields ps)

module _ (qs : List Line) (linked : Linked qs) (q : ℕ) (h : q < length qs) where
  pub fields_step : fields_to qs (suc q) ≡ fields_to qs (previous_of (nth_line qs q)) ++ (field_of (nth_line qs q) ∷ [])
  unfolding list_to piece
  fields_step =
      let l : Line = nth_line qs q in
      ap (λ (p : Piece). part_fields p.list) (piece_at qs q h (linked.last q h) (linked.previous q h))
      ∙ fields_last (list_to (pieces qs) (previous_of l)) (field_of l) (pattern_of (kind_of l) (name_of l) (list_to (pieces qs) (last_of l)))

  pub has_step : (x : ℕ) → has_field x (fields_to qs (suc q)) ≡ has_field x (fields_to qs (previous_of (nth_line qs q))) || eqb (field_of (nth_line qs q)) x
  has_step x = ap (has_field x) fields_step ∙ has_snoc x (fields_to qs (previous_of (nth_line qs q))) (field_of (nth_line qs q))

  pub parts_step : parts (list_to (pieces qs) (suc q)) ≡ suc (parts (list_to (pieces qs) (previous_of (nth_line qs q))))
  parts_step = parts_count qs q h (linked.last q h) (linked.previous q h)

-- a list has at most as many parts as there are lines up to its last
parts_below : (qs : List Line) → Linked qs → (n : ℕ) → n ≤ length qs → (k : ℕ) → k ≤ n → parts (list_to (pieces qs) k) ≤ k
unfolding list_to parts
parts_below qs linked zero h zero i = omega arith
parts_below qs linked zero h (suc k) i = absurd (omega arith)
parts_below qs linked (suc n) h zero i = omega arith
parts_below qs linked (suc n) h (suc k) i =
    omega (arith, parts_step qs linked k (omega arith), linked.previous k (omega arith), parts_below qs linked n (omega arith) (previous_of (nth_line qs k)) (omega (arith, linked.previous k (omega arith))))

pub parts_few : (qs : List Line) → Linked qs → (k : ℕ) → k ≤ length qs → parts (list_to (pieces qs) k) ≤ k
parts_few qs linked k h = parts_below qs linked k h k (omega arith)
