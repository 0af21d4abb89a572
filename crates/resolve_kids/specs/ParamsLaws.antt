-- Laws of the parameters of a declaration, and of the argument of one, one P line after the other. Assumes nothing.
use Rattle.std.specs.Prelude.{◌≡◌, List, [], ◌∷◌, Bool, true, false, length, get_or, take, drop}
use Rattle.std.proofs.Math.Path.{refl}
use Rattle.std.proofs.Common.{ap, ap₂, sym, ◌∙◌, length-append, length-take, take-append-drop, drop-cons, get_or-take, eq-eqb, ne_eqb}
use Prim.Native.Nat.{ℕ, zero, suc, ◌+◌, ◌-◌, ◌≤◌, ◌<◌}
use native.Mathlib.Omega.{arith}
use Rattle.number_columns.specs.Column.{pick}
use Rattle.sheet.specs.Line.{Line, number}
use Rattle.meaning.specs.Program.{param_line, is, select}
use Rattle.meaning.specs.Rows.{count_of, count_before}
use Rattle.meaning_laws.specs.Program.{select_append}
use Rattle.table_access.specs.Tables.{nth, first_of}
use Rattle.resolve_outcomes.specs.Outcome.{one, argument}
use Rattle.resolve_outcomes.specs.Scratch.{part}
use Rattle.resolve_outcomes.proofs.Laws.Scratch.{part_none}
use Rattle.resolve_kids.specs.Params.{params_from, params_of}

pub params_length : (ls : List Line) (p n : ℕ) → length (params_from ls p n) ≡ n
unfolding params_from
params_length ls p zero = refl
params_length ls p (suc n) = ap suc (params_length ls (suc p) n)

pub counted_of : (ls : List Line) (d first end r : ℕ) → first ≡ first_of param_line ls d → end ≡ first_of param_line ls (d + 1) → r ≡ end - first → r ≡ length (params_of ls d)
counted_of ls d first end r e f q =
    q ∙ (ap₂ (λ (m n : ℕ). n - m) e f ∙ sym (params_length ls (first_of param_line ls d) (first_of param_line ls (d + 1) - first_of param_line ls d)))

-- lines before a place are lines
pub count_before_le : (x : ℕ) (ls : List Line) (i : ℕ) → count_before x ls i ≤ count_of x ls
count_before_le x ls i =
    omega (arith, ap (λ (l : List Line). count_of x l) (sym (take-append-drop i ls)), ap (λ (l : List Line). length l) (select_append x (take i ls) (drop i ls)), length-append (select x (take i ls)) (select x (drop i ls)))

pub part_first : (i n : ℕ) (xs : List ℕ) → i + suc n ≤ length xs → part i (suc n) xs ≡ get_or xs i 0 ∷ part (suc i) n xs
unfolding part
part_first i n xs h =
    let e : suc i + n ≡ i + suc n = omega arith in
    drop-cons (take (i + suc n) xs) i 0 (omega (arith, length-take (i + suc n) xs))
    ∙ (ap (λ (x : ℕ). x ∷ drop (suc i) (take (i + suc n) xs)) (get_or-take (i + suc n) xs i 0 (omega arith))
    ∙ ap (λ (m : ℕ). get_or xs i 0 ∷ drop (suc i) (take m xs)) (sym e))

argument_none : (ps : List ℕ) (v : ℕ) → argument ps [] v ≡ one
unfolding argument
argument_none [] v = refl
argument_none (p ∷ ps) v = refl

-- the argument of v, sought from P line `first + i` on
module _ (ls : List Line) (first end : ℕ) (xs : List ℕ) (at count v : ℕ) where
  abbrev pub sought : ℕ → ℕ
  sought i = argument (params_from ls (first + i) (end - (first + i))) (part (at + i) (count - i) xs) v

  pub sought_first : argument (params_from ls first (end - first)) (part at count xs) v ≡ sought 0
  sought_first =
      let e : first + 0 ≡ first = omega arith in
      let f : at + 0 ≡ at = omega arith in
      let g : count - 0 ≡ count = omega arith in
      rw (e, f, g) refl

  pub sought_end : (i : ℕ) → end ≤ first + i → sought i ≡ one
  unfolding argument params_from
  sought_end i h = let e : end - (first + i) ≡ 0 = omega arith in rw e refl

  pub sought_out : (i : ℕ) → count ≤ i → sought i ≡ one
  sought_out i h = let e : count - i ≡ 0 = omega arith in rw (e, part_none) (argument_none (params_from ls (first + i) (end - (first + i))) v)

  module _ (i : ℕ) (h : first + i < end) (q : i < count) (long : at + count ≤ length xs) where
    sought_step : sought i ≡ argument (number (nth param_line ls (first + i)) 0 ∷ params_from ls (suc (first + i)) (end - suc (first + i))) (get_or xs (at + i) 0 ∷ part (suc (at + i)) (count - suc i) xs) v
    unfolding params_from
    sought_step =
        let e : end - (first + i) ≡ suc (end - suc (first + i)) = omega arith in
        let f : count - i ≡ suc (count - suc i) = omega arith in
        rw (e, f, part_first (at + i) (count - suc i) xs (omega arith)) refl

    pub sought_hit : number (nth param_line ls (first + i)) 0 ≡ v → sought i ≡ get_or xs (at + i) 0
    unfolding argument
    sought_hit e = sought_step ∙ rw (eq-eqb _ _ e) refl

    pub sought_miss : (number (nth param_line ls (first + i)) 0 ≡ v → ⊥) → sought i ≡ sought (i + 1)
    unfolding argument
    sought_miss n =
        let e : first + (i + 1) ≡ suc (first + i) = omega arith in
        let f : at + (i + 1) ≡ suc (at + i) = omega arith in
        let g : i + 1 ≡ suc i = omega arith in
        sought_step ∙ rw (ne_eqb _ _ n, e, f, g) refl

-- ---- few lines
select_le : (x : ℕ) (ls : List Line) → count_of x ls ≤ length ls
unfolding select
select_le x [] = omega arith
select_le x (l ∷ ls) = go (is x l) (select_le x ls)
  where
    go : (b : Bool) → count_of x ls ≤ length ls → length (pick b (l ∷ select x ls) (select x ls)) ≤ suc (length ls)
    go true h = omega arith
    go false h = omega arith

-- what the code seeks
pub found_of : (ls : List Line) (d : ℕ) (xs : List ℕ) (at count v first end : ℕ) → first ≡ first_of param_line ls d → end ≡ first_of param_line ls (d + 1) →
    argument (params_of ls d) (part at count xs) v ≡ argument (params_from ls first (end - first)) (part at count xs) v
found_of ls d xs at count v first end e f =
    sym (ap₂ (λ (m n : ℕ). argument (params_from ls m (n - m)) (part at count xs) v) e f)
