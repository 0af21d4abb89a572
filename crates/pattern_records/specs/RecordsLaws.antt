-- Names of kept fields and fields of lists, step by step. Assumes nothing.
use Rattle.std.specs.Prelude.{◌≡◌, List, [], ◌∷◌, ◌++◌, Bool, ◌&&◌, ◌||◌, length, get_or}
use Rattle.std.proofs.Math.Path.{refl, ap}
use Rattle.std.proofs.Common.{◌∙◌}
use Rattle.std.proofs.Math.Bool.{true, false}
use mir.Val.{bool_byte}
use Prim.Native.Nat.{ℕ, suc, ◌+◌, ◌-◌, ◌≤◌, ◌<◌}
use native.Mathlib.Omega.{arith}
use Rattle.std.proofs.Math.Numerals.{add-one}
use Rattle.std.proofs.Math.Dec.{eqb}
use borrow.Author.Tests.{eqb-true, eqb-false, eq-eqb, ne_eqb}
use Rattle.sheet.specs.Line.{Line, number}
use Rattle.meaning.specs.Program.{field_line}
use Rattle.meaning.specs.Rows.{nth_line}
use Rattle.meaning_patterns.specs.Patterns.{previous_of, field_of}
use Rattle.table_access.specs.Tables.{nth}
use Rattle.pattern_laws.specs.Linked.{Linked}
use Rattle.pattern_laws.specs.Marks.{kept_if, has_field, fields_to}
use Rattle.pattern_owners.specs.PlacesLaws.{fields_more, fields_none}
use Rattle.pattern_records.specs.Records.{keeps_name, names_kept}

-- ---- names of kept fields
module _ (ls : List Line) (keep : List ℕ) (f x : ℕ) where
  pub keeps_none : (get_or keep f 0 ≡ 1 → ⊥) → false ≡ keeps_name ls keep f x
  unfolding keeps_name
  keeps_none h = rw (ne_eqb (get_or keep f 0) 1 h)

  pub keeps_zero : x ≡ 0 → false ≡ keeps_name ls keep f x
  unfolding keeps_name
  keeps_zero e = rw (ne_eqb x (suc (number (nth field_line ls f) 0)) (λ z. omega arith)) (go (eqb (get_or keep f 0) 1))
    where
      go : (b : Bool) → false ≡ (b && false)
      go true = refl
      go false = refl

  pub keeps_other : get_or keep f 0 ≡ 1 → (x ≡ 0 → ⊥) → eqb (number (nth field_line ls f) 0) (x - 1) ≡ keeps_name ls keep f x
  unfolding keeps_name
  keeps_other k h = rw k (go (eqb x (suc (number (nth field_line ls f) 0))) refl)
    where
      go : (b : Bool) → eqb x (suc (number (nth field_line ls f) 0)) ≡ b → eqb (number (nth field_line ls f) 0) (x - 1) ≡ b
      go true e = eq-eqb (number (nth field_line ls f) 0) (x - 1) (omega (arith, eqb-true x (suc (number (nth field_line ls f) 0)) e))
      go false e = ne_eqb (number (nth field_line ls f) 0) (x - 1) (λ z. eqb-false x (suc (number (nth field_line ls f) 0)) e (omega arith))

module _ (ls : List Line) (keep : List ℕ) (f end x : ℕ) where
  pub names_past : end ≤ f → names_kept ls keep f (end - f) x ≡ false
  unfolding names_kept
  names_past h = let e : end - f ≡ 0 = omega arith in rw e

  pub names_more : f < end → names_kept ls keep f (end - f) x ≡ (keeps_name ls keep f x || names_kept ls keep (f + 1) (end - (f + 1)) x)
  unfolding names_kept
  names_more h = let e : end - f ≡ suc (end - suc f) = omega arith in rw (e, add-one f)

-- ---- a flag that is a test's outcome
pub kept_byte : (b : Bool) → bool_byte b ≡ kept_if b
kept_byte true = refl
kept_byte false = refl

-- ---- the fields of a list
has_last : (f g : ℕ) (fs : List ℕ) → has_field f (fs ++ (g ∷ [])) ≡ (eqb g f || has_field f fs)
unfolding has_field
has_last f g [] = refl
has_last f g (h ∷ fs) = ap (λ (b : Bool). eqb h f || b) (has_last f g fs) ∙ go (eqb h f) (eqb g f)
  where
    go : (x y : Bool) → (x || (y || has_field f fs)) ≡ (y || (x || has_field f fs))
    go true true = refl
    go true false = refl
    go false true = refl
    go false false = refl

module _ (qs : List Line) (linked : Linked qs) (f : ℕ) where
  pub field_none : has_field f (fields_to qs 0) ≡ false
  unfolding has_field
  field_none = ap (has_field f) (fields_none qs)

  field_at : (k : ℕ) → (k ≡ 0 → ⊥) → k ≤ length qs → has_field f (fields_to qs k) ≡ (eqb (field_of (nth_line qs (k - 1))) f || has_field f (fields_to qs (previous_of (nth_line qs (k - 1)))))
  field_at k z h =
      let e : k ≡ suc (k - 1) = omega arith in
      ap (λ (j : ℕ). has_field f (fields_to qs j)) e
      ∙ ap (has_field f) (fields_more qs linked (k - 1) (omega arith))
      ∙ has_last f (field_of (nth_line qs (k - 1))) (fields_to qs (previous_of (nth_line qs (k - 1))))

  pub field_hit : (k : ℕ) → (k ≡ 0 → ⊥) → k ≤ length qs → field_of (nth_line qs (k - 1)) ≡ f → has_field f (fields_to qs k) ≡ true
  field_hit k z h e = field_at k z h ∙ rw (eq-eqb (field_of (nth_line qs (k - 1))) f e)

  pub field_miss : (k : ℕ) → (k ≡ 0 → ⊥) → k ≤ length qs → (field_of (nth_line qs (k - 1)) ≡ f → ⊥) → has_field f (fields_to qs k) ≡ has_field f (fields_to qs (previous_of (nth_line qs (k - 1))))
  field_miss k z h e = field_at k z h ∙ rw (ne_eqb (field_of (nth_line qs (k - 1))) f e)
