-- Laws for the tests of a call: the head of its instance, its surplus. Assumes nothing.
use Rattle.std.specs.Prelude.{◌≡◌, List, Bool, ℕ, suc, ◌+◌, ◌%◌, ◌≤◌, ◌<◌, length, get_or, set}
use Rattle.std.proofs.Math.Path.{refl, sym}
use Rattle.std.proofs.Common.{ap, ◌∙◌, arith}
use Rattle.std.proofs.Math.Bool.{true, false}
use Rattle.std.proofs.Math.Dec.{eqb, ltb}
use borrow.Author.Tests.{eq-eqb, ne_eqb, lt-ltb, ltb-true}
use Rattle.sheet.specs.Line.{Line, number}
use Rattle.model.specs.Cty.{Cty, TVar}
use Rattle.meaning.specs.Program.{type_line}
use Rattle.meaning.specs.Rows.{count_of}
use Rattle.table_declared.specs.Passed.{Passed}
use Rattle.resolve_outcomes.specs.Outcome.{app, head, argument, instance_head, counted, fits}
use Rattle.resolve_outcomes.specs.Scratch.{part, Same}
use Rattle.resolve_outcomes.proofs.Laws.Answer.{head_plain}
use Rattle.resolve_outcomes.proofs.Laws.Call.{unfolded}
use Rattle.resolve_outcomes.proofs.Laws.Scratch.{part_none, part_last, part_set, same_refl, same_sym, same_get, same_trans, same_set}
use Rattle.resolve_kids.specs.Nodes.{y_line, kind_of, type_of}
use Rattle.resolve_kids.specs.NodesLaws.{var_type, app_type, plain_type}

-- ---- the head of an instance
head_var : (ps os : List ℕ) (v : ℕ) → instance_head ps os (TVar v) ≡ argument ps os v % 4
unfolding instance_head head
head_var ps os v = refl

module _ (ls : List Line) (passed : Passed ls) (ps os : List ℕ) (y : ℕ) (h : y < count_of type_line ls) where
  pub takes_app : kind_of ls y ≡ 8 → true ≡ eqb (instance_head ps os (type_of ls y)) app
  unfolding instance_head
  takes_app k = sym (ap (λ (c : Cty). eqb (instance_head ps os c) app) (app_type ls passed y h k))

  pub takes_var : (v r : ℕ) → kind_of ls y ≡ 3 → v ≡ number (y_line ls y) 1 → r ≡ argument ps os v → eqb (r % 4) 1 ≡ eqb (instance_head ps os (type_of ls y)) app
  takes_var v r k e a =
      ap (λ (n : ℕ). eqb (n % 4) 1) (a ∙ ap (argument ps os) e)
      ∙ sym (ap (λ (n : ℕ). eqb n app) (ap (instance_head ps os) (var_type ls passed y h k) ∙ head_var ps os (number (y_line ls y) 1)))

  pub takes_none : (kind_of ls y ≡ 3 → ⊥) → (kind_of ls y ≡ 8 → ⊥) → false ≡ eqb (instance_head ps os (type_of ls y)) app
  takes_none m n = sym (ap (λ (x : ℕ). eqb x app) (head_plain ps os (type_of ls y) (plain_type ls passed y h m n).is_plain))

-- ---- the counts
module _ (ps os : List ℕ) (c : Cty) where
  pub fits_same : (b : Bool) → length os ≡ length ps → true ≡ fits os (unfolded b ps c)
  unfolding fits
  fits_same true e = sym (eq-eqb (length os) (length ps) e)
  fits_same false e = sym (ap (λ (x : Bool). counted x (ltb (length os) (length ps)) (eqb (instance_head ps os c) app)) (eq-eqb (length os) (length ps) e))

  pub fits_newtype : (length os ≡ length ps → ⊥) → false ≡ fits os (unfolded true ps c)
  unfolding fits
  fits_newtype n = sym (ne_eqb (length os) (length ps) n)

  pub fits_few : length os < length ps → false ≡ fits os (unfolded false ps c)
  unfolding fits
  fits_few h = sym (rw (ne_eqb (length os) (length ps) (λ e. omega arith), lt-ltb (length os) (length ps) h) refl)

  pub fits_more : length ps < length os → eqb (instance_head ps os c) app ≡ fits os (unfolded false ps c)
  unfolding fits
  fits_more h = sym (rw (ne_eqb (length os) (length ps) (λ e. omega arith), not_less (length os) (length ps) (omega arith)) refl)
    where
      not_less : (m n : ℕ) → n ≤ m → ltb m n ≡ false
      not_less m n q = go (ltb m n) refl
        where
          go : (x : Bool) → ltb m n ≡ x → x ≡ false
          go true e = absurd (omega (arith, ltb-true m n e))
          go false e = refl

-- ---- a surplus, copied behind
pub record Copied (from to n : ℕ) (xs ys : List ℕ) : Type 0 where
  pub kept : Same to ys xs
  pub copy : part to n ys ≡ part from n xs

pub copied_none : (from to : ℕ) (xs : List ℕ) → Copied from to 0 xs xs
copied_none from to xs = record { kept = same_refl to xs; copy = part_none to xs ∙ sym (part_none from xs) }

pub copied_more : (from to i : ℕ) (xs ys : List ℕ) → from + (i + 1) ≤ to → to + i < length xs → Copied from to i xs ys → Copied from to (i + 1) xs (set ys (to + i) (get_or ys (from + i) 0))
copied_more from to i xs ys h q c =
    let l : length ys ≡ length xs = c.kept.long in
    let e : i + 1 ≡ suc i = omega arith in
    let g : get_or ys (from + i) 0 ≡ get_or xs (from + i) 0 = same_get to (from + i) ys xs (omega arith) c.kept in
    record {
      kept = same_trans to (set ys (to + i) (get_or ys (from + i) 0)) ys xs (same_sym to ys (set ys (to + i) (get_or ys (from + i) 0)) (same_set to (to + i) (get_or ys (from + i) 0) ys (omega arith))) c.kept;
      copy = rw (e, part_set to i (get_or ys (from + i) 0) ys (omega arith), part_last from i xs (omega arith), c.copy, g) refl;
    }

-- whether there is room for it
abbrev pub Copy : ℕ → ℕ → ℕ → List ℕ → List ℕ → Bool → Type 0
Copy from to n xs ys true = (to + n ≤ length xs) × Copied from to n xs ys
Copy from to n xs ys false = (length xs < to + n) × (ys ≡ xs)
