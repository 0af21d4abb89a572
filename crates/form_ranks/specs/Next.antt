-- The declarations of one rank, one after the other. Assumes nothing.
use Rattle.std.specs.Prelude.{◌≡◌, List, ℕ, ◌+◌, ◌≤◌, ◌<◌, get_or}
use Rattle.std.proofs.Common.{arith}
use Rattle.std.proofs.Math.Decide.{dec_lt}
use Rattle.form_normal.specs.Tables.{Table}
use Rattle.form_normal.specs.Ranks.{Done}
use Rattle.form_normal.specs.RanksLaws.{table_same}
use Rattle.sheet.specs.Line.{Line}

-- e is not before `from`, at most n, and no declaration from `from` to before e has rank r
pub record Next (rank : List ℕ) (r from n e : ℕ) : Type 0 where
  pub low : from ≤ e
  pub high : e ≤ n
  pub passed : (i : ℕ) → from ≤ i → i < e → get_or rank i 0 ≡ r → ⊥

-- the declarations of rank r, of n, stand from `from` to before `end`
pub record Within (rank : List ℕ) (n r from end : ℕ) : Type 0 where
  pub most : end ≤ n
  pub inside : (d : ℕ) → d < n → get_or rank d 0 ≡ r → (from ≤ d) × (d < end)

-- so that none stands before, behind, or where there is no room between
pub before : (rank : List ℕ) (n r from end : ℕ) → Within rank n r from end → from ≤ end → Next rank r 0 n from
before rank n r from end h q = record { low = omega arith; high = omega (arith, h.most); passed = λ i a l z. omega (arith, (h.inside i (omega (arith, h.most)) z).0) }

pub behind : (rank : List ℕ) (n r from end : ℕ) → Within rank n r from end → Next rank r end n n
behind rank n r from end h = record { low = h.most; high = omega arith; passed = λ i a l z. omega (arith, (h.inside i l z).1) }

pub nowhere : (rank : List ℕ) (n r from end : ℕ) → Within rank n r from end → end ≤ from → Next rank r 0 n n
nowhere rank n r from end h q = record { low = omega arith; high = omega arith; passed = λ i a l z. let x = h.inside i l z in omega (arith, x.0, x.1) }

-- what is passed changes nothing of what is done
pub skip_table : (ls : List Line) (u rank f : List ℕ) (p r from n e : ℕ) → Next rank r from n e → Table ls u f p (Done ls u rank r from) → Table ls u f p (Done ls u rank r e)
skip_table ls u rank f p r from n e h =
    table_same ls u f p (Done ls u rank r from) (Done ls u rank r e)
    (λ d q. (q.0, q.1, q.2, λ z. below d (q.3 z) z (dec_lt d from)))
    (λ d q. (q.0, q.1, q.2, λ z. omega (arith, q.3 z, h.low)))
  where
    below : (d : ℕ) → d < e → get_or rank d 0 ≡ r → Dec (d < from) → d < from
    below d l z (yes x) = x
    below d l z (no x) = absurd (h.passed d (omega arith) l z)

pub passed_more : (rank : List ℕ) (r from d : ℕ) → ((i : ℕ) → from ≤ i → i < d → get_or rank i 0 ≡ r → ⊥) → (get_or rank d 0 ≡ r → ⊥) → (i : ℕ) → from ≤ i → i < d + 1 → get_or rank i 0 ≡ r → ⊥
passed_more rank r from d h k i a l z = go (dec_lt i d)
  where
    go : Dec (i < d) → ⊥
    go (yes x) = h i a x z
    go (no x) = let e : i ≡ d = omega arith in k (rw e at z)
