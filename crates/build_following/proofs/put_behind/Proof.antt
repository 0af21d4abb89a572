-- `build_following::put_behind` meets its contract: each part comes back as what was written there. Assumes nothing.
use Prim.Native.Nat.{◌+◌}
use native.Mathlib.Omega.{arith}
use lib.ListN.{length}
use borrow.Author.Rules.{rules}
use Rattle.build_following.specs.Following.{behind}
use Rattle.build_following.specs.FollowingLaws.{part_back}
use Rattle.build_following.proofs.put_behind.Statement.{statement}
use Rattle.build_following.proofs.put_behind.Tie as tie

returns : tie.Need-returns
returns c =
    let a = c.args in (
      part_back _ _ _ a.verdict (a.verdict + length a.z.now) (omega arith) c.copy_lines.ensures,
      part_back _ _ _ a.left (a.left + behind a.p.now) (omega arith) c.put_lines.ensures,
    )

pub put_behind_spec : {M : Type 1} → statement M
put_behind_spec =
    tie.close
    (tie.spec
    (λ c. search rules)
    (λ c. search rules)
    (λ c. search rules)
    (λ c. search rules)
    (λ c κs. search rules)
    (λ c. search rules)
    (λ c. search rules)
    (λ c. search rules)
    (λ c. search rules)
    (λ c. search rules)
    (λ c κs. search rules)
    (λ c. search rules)
    (λ c. search rules)
    returns)
