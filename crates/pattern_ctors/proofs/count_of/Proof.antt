-- `pattern_ctors::count_of` meets its contract, by the first cell. Assumes nothing.
use Prim.Native.Nat.{◌+◌, ◌*◌}
use lib.ListN.{get_or}
use borrow.Author.Rules.{rules}
use Rattle.pattern_ctors.specs.OwnersLaws.{count_none, count_some}
use Rattle.pattern_ctors.proofs.count_of.Statement.{statement}
use Rattle.pattern_ctors.proofs.count_of.Tie as tie

returns : tie.Need-returns-then-m-n-eq0
returns c = let a = c.args in count_none (get_or a.m.now (3 * a.n) 0) (get_or a.m.now (3 * a.n + 2) 0) c.if-m-n-eq0.true

returns-2 : tie.Need-returns
returns-2 c = let a = c.args in count_some (get_or a.m.now (3 * a.n) 0) (get_or a.m.now (3 * a.n + 2) 0) c.if-m-n-eq0.false

pub count_of_spec : {M : Type 1} → statement M
count_of_spec =
    tie.close
    (tie.spec
    (λ c. search rules)
    (λ c. search rules)
    (λ c. search rules)
    returns
    (λ c. search rules)
    (λ c. search rules)
    (λ c. search rules)
    (λ c. search rules)
    (λ c. search rules)
    returns-2)
