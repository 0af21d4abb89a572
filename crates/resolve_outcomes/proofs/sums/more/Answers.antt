-- `sums::more` meets its contract: the less of a sum and one more than the limit is the sum, capped.
use Rattle.std.proofs.Common.{◌≡◌, ℕ, Bool, true, false, leb, min, refl, arith}
use borrow.Author.Tests.{leb-true, leb-false}
use Rattle.resolve_outcomes.specs.Scratch.{capped}
use Rattle.resolve_outcomes.proofs.Laws.Scratch.{capped_small, capped_large}
use Rattle.resolve_outcomes.proofs.sums.more.Goals as goal

least : (n r : ℕ) → r ≡ min n 1025 → r ≡ capped 1024 n
least n r e = go (leb n 1024) refl
  where
    go : (t : Bool) → leb n 1024 ≡ t → r ≡ capped 1024 n
    go true q = omega (arith, e, capped_small 1024 n (leb-true n 1024 q), leb-true n 1024 q)
    go false q = omega (arith, e, capped_large 1024 n (leb-false n 1024 q), leb-false n 1024 q)

pub returns : goal.returns
returns c = least _ _ c.min.ensures
