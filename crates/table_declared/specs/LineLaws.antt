-- A line by its number among those of its letter, and by its place in the sheet. Assumes nothing.
use Rattle.std.specs.Prelude.{◌≡◌, refl, List, [], ◌∷◌, Bool, true, false, ℕ, zero, suc, ◌<◌, length}
use Rattle.std.proofs.Common.{ap, arith}
use Rattle.std.proofs.lemmas.Bool.{not-false}
use Rattle.sheet.specs.Line.{Line}
use Rattle.sheet.proofs.FirstLaws.{none_first}
use Rattle.meaning.specs.Program.{is, select}
use Rattle.meaning.specs.Rows.{nth_line, count_of, count_before, good_numbers, row5}
use Rattle.table_declared.specs.Passed.{Passed}
use Rattle.table_declared.specs.Lines.{nth}

-- where line j of a letter stands
pub record Stands (x : ℕ) (ls : List Line) (j : ℕ) : Type 0 where
  pub place : ℕ
  pub inside : place < length ls
  pub lettered : is x (nth_line ls place) ≡ true
  pub passed : count_before x ls place ≡ j
  pub same : nth x ls j ≡ nth_line ls place

stands_next : (x : ℕ) (l : Line) (ls : List Line) (j : ℕ) → is x l ≡ true → Stands x ls j → Stands x (l ∷ ls) (suc j)
unfolding select
stands_next x l ls j e q = record { place = suc q.place; inside = omega (arith, q.inside); lettered = q.lettered; passed = rw e (ap suc q.passed); same = rw e q.same }

stands_past : (x : ℕ) (l : Line) (ls : List Line) (j : ℕ) → is x l ≡ false → Stands x ls j → Stands x (l ∷ ls) j
unfolding select
stands_past x l ls j e q = record { place = suc q.place; inside = omega (arith, q.inside); lettered = q.lettered; passed = rw e q.passed; same = rw e q.same }

pub stands : (x : ℕ) (ls : List Line) (j : ℕ) → j < count_of x ls → Stands x ls j
unfolding select
stands x [] j h = absurd (omega arith)
stands x (l ∷ ls) j h = go (is x l) refl j h (stands x ls)
  where
    go : (c : Bool) → is x l ≡ c → (j : ℕ) → j < count_of x (l ∷ ls) → ((k : ℕ) → k < count_of x ls → Stands x ls k) → Stands x (l ∷ ls) j
    go true e zero h r = record { place = 0; inside = omega arith; lettered = e; passed = refl; same = rw e }
    go true e (suc j) h r = let k : suc j < suc (count_of x ls) = rw e at h in stands_next x l ls j e (r j (omega arith))
    go false e j h r = let k : j < count_of x ls = rw e at h in stands_past x l ls j e (r j k)

-- the line at place i
pub nth_at : (x : ℕ) (ls : List Line) (i : ℕ) → i < length ls → is x (nth_line ls i) ≡ true → (count_before x ls i < count_of x ls) × (nth x ls (count_before x ls i) ≡ nth_line ls i)
unfolding select
nth_at x [] i h e = absurd (omega arith)
nth_at x (l ∷ ls) zero h e = rw e (omega arith, refl)
nth_at x (l ∷ ls) (suc i) h e = go (is x l) refl (nth_at x ls i (omega arith) e)
  where
    go : (c : Bool) → is x l ≡ c → (count_before x ls i < count_of x ls) × (nth x ls (count_before x ls i) ≡ nth_line ls i)
        → (count_before x (l ∷ ls) (suc i) < count_of x (l ∷ ls)) × (nth x (l ∷ ls) (count_before x (l ∷ ls) (suc i)) ≡ nth_line ls i)
    go true q r = rw q (omega (arith, r.0), r.1)
    go false q r = rw q r

-- row 5 passes at every line
pub good_line : (ls : List Line) → Passed ls → (i : ℕ) → i < length ls → good_numbers ls i ≡ true
unfolding row5
good_line ls p i h = not-false (good_numbers ls i) (none_first (row5 ls) (length ls) p.in_range i (omega arith))
