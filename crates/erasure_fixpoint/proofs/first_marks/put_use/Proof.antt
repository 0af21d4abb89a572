-- `first_marks::put_use` meets its contract: past the end nothing is set. Assumes nothing.
use mathlib.Core.Path.{sym}
use lib.Seq.{set_out}
use borrow.Author.Rules.{rules}
use Rattle.erasure_fixpoint.proofs.first_marks.put_use.Statement.{statement}
use Rattle.erasure_fixpoint.proofs.first_marks.put_use.Tie as tie

returns-2 : tie.Need-returns-else-d-used
returns-2 c = let a = c in sym (set_out a.args.used.now a.args.d a.args.y c.if-d-used.false)

pub put_use_spec : {M : Type 1} → statement M
put_use_spec =
    tie.close
    (tie.spec
    (λ c. search rules)
    (λ c. search rules)
    (λ c. search rules)
    (λ c. search rules)
    (λ c. search rules)
    returns-2)
