-- `resolve_types::recalls::body` meets its contract. Assumes nothing.
use Prim.Native.Nat.{◌+◌, ◌*◌}
use native.Mathlib.Omega.{arith}
use borrow.Author.Rules.{rules}
use Rattle.resolve_types.proofs.recalls.body.Statement.{statement}
use Rattle.resolve_types.proofs.recalls.body.Tie as tie

cast-result : tie.Need-overflow_cast-result
cast-result c = omega (arith, c.shared_slice_known-1.given (2 * c.args.d + 1))

pub body_spec : {M : Type 1} → statement M
body_spec = tie.close (tie.spec (λ c. search rules) (λ c. search rules) (λ c. search rules) (λ c. search rules) cast-result (λ c. search rules))
