-- `form_node_words::state` meets its contract: past the end a name is left. Assumes nothing.
use mathlib.Core.Path.{sym}
use Prim.Native.Nat.{◌*◌}
use native.Mathlib.Omega.{arith}
use lib.ListN.{get_or-eq_default}
use Rattle.sheet.proofs.ListLaws.{get_or_within}
use borrow.Author.Rules.{rules}
use Rattle.form_node_words.proofs.state.Statement.{statement}
use Rattle.form_node_words.proofs.state.Tie as tie

returns : tie.Need-returns-then-d-u
returns c =
    let a = c.args in
    sym (get_or-eq_default a.u.now 3 {n = 2 * a.d} (omega arith))

cast-result : tie.Need-overflow_cast-result
cast-result c = omega (arith, c.shared_slice_known-1.given (2 * c.args.d))

returns-2 : tie.Need-returns
returns-2 c =
    let a = c.args in
    get_or_within a.u.now (2 * a.d) 0 3 (omega arith)

pub state_spec : {M : Type 1} → statement M
state_spec =
    tie.close
    (tie.spec
    (λ c. search rules)
    returns
    (λ c. search rules)
    (λ c. search rules)
    (λ c. search rules)
    cast-result
    returns-2)
