-- `left_records::any_kept` meets its contract: the part that is lent has a 1, or not.
use Rattle.std.proofs.Common.{◌≡◌, List, ℕ, zero, suc, ◌+◌, ◌-◌, ◌≤◌, ◌<◌, Bool, true, false, ◌||◌, eqb, refl, ◌∙◌, arith, take, drop, length, get_or, drop-cons}
use Rattle.std.specs.List.{list_any}
use Rattle.number_columns.specs.Column.{pick}
use Rattle.left_records.specs.Records.{some_kept}
use Rattle.left_records.proofs.any_kept.Goals as goal

kept_any : (keep : List ℕ) (f n : ℕ) → f + n ≤ length keep → list_any (λ (y : ℕ). eqb y 1) (take n (drop f keep)) ≡ some_kept keep f n
unfolding some_kept
kept_any keep f zero h = refl
kept_any keep f (suc n) h =
    let l : f < length keep = omega arith in
    rw (drop-cons keep f 0 l) (go (eqb (get_or keep f 0) 1) (kept_any keep (suc f) n (omega arith)))
  where
    go : (c : Bool) → list_any (λ (y : ℕ). eqb y 1) (take n (drop (suc f) keep)) ≡ some_kept keep (suc f) n
        → (c || list_any (λ (y : ℕ). eqb y 1) (take n (drop (suc f) keep))) ≡ pick c true (some_kept keep (suc f) n)
    go true e = refl
    go false e = e

pub returns : goal.returns
returns c = let a = c.args in c.contains.ensures.value ∙ kept_any a.keep.now a.from (a.end - a.from) (omega arith)
