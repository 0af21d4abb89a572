-- `left_fields::count_kept` meets its contract: of the part that is lent, those that are 1 are counted.
use Rattle.std.proofs.Common.{◌≡◌, List, ℕ, zero, suc, ◌+◌, ◌-◌, ◌≤◌, ◌<◌, Bool, true, false, eqb, refl, ◌∙◌, arith, add-one, take, drop, length, get_or, length-drop, get_or-drop}
use Rattle.std.specs.Prelude.{count_by}
use Rattle.std.proofs.lemmas.List.Sums.{count_by_more_yes, count_by_more_no}
use Rattle.number_columns.specs.Column.{pick}
use Rattle.left_fields.specs.Fields.{kept_count}
use borrow.Author.Rules.{rules}
use Rattle.left_fields.proofs.count_kept.Goals as goal

abbrev one : ℕ → Bool
one k = eqb k 1

counted : (keep : List ℕ) (i n : ℕ) → i + n ≤ length keep → count_by one (take n (drop i keep)) ≡ kept_count keep i n
unfolding kept_count
counted keep i zero h = refl
counted keep i (suc n) h = go (eqb (get_or keep (i + n) 0) 1) refl (counted keep i n (omega arith))
  where
    inside : n < length (drop i keep)
    inside = rw length-drop (omega arith)

    go : (c : Bool) → eqb (get_or keep (i + n) 0) 1 ≡ c → count_by one (take n (drop i keep)) ≡ kept_count keep i n
        → count_by one (take (suc n) (drop i keep)) ≡ pick c (suc (kept_count keep i n)) (kept_count keep i n)
    go true e more = rw (← add-one n) (count_by_more_yes one (drop i keep) n 0 inside (rw get_or-drop e) ∙ omega (arith, more))
    go false e more = rw (← add-one n) (count_by_more_no one (drop i keep) n 0 inside (rw get_or-drop e) ∙ more)

pub returns : goal.returns
returns c =
    let a = c.args in
    let z : a.i + a.n - a.i ≡ a.n = omega arith in
    let e : c.count.result ≡ count_by one (take (a.i + a.n - a.i) (drop a.i a.keep.now)) = search rules in
    rw z at e ∙ counted a.keep.now a.i a.n (omega arith)
