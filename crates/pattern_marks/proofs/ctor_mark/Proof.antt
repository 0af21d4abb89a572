-- `pattern_marks::ctor_mark` meets its contract, by the first cell. Assumes nothing.
use Prim.Native.Nat.{◌*◌}
use lib.ListN.{get_or}
use borrow.Author.Rules.{rules}
use borrow.Author.Tests.{ne_eqb}
use Rattle.pattern_marks.specs.Tables.{ctor_mark}
use Rattle.pattern_marks.proofs.ctor_mark.Statement.{statement}
use Rattle.pattern_marks.proofs.ctor_mark.Tie as tie

returns : tie.Need-returns-then-a-eq0
unfolding ctor_mark
returns c = rw c.if-a-eq0.true

returns-2 : tie.Need-returns
unfolding ctor_mark
returns-2 c =
    let a = c.args in
    rw (c.state_mark.ensures, c.state.ensures, ne_eqb (get_or a.m.now (3 * a.n) 0) 0 c.if-a-eq0.false)

pub ctor_mark_spec : {M : Type 1} → statement M
ctor_mark_spec =
    tie.close
    (tie.spec
    (λ c. search rules)
    (λ c. search rules)
    (λ c. search rules)
    (λ c. search rules)
    returns
    (λ c. search rules)
    (λ c κs. search rules)
    (λ c κs. search rules)
    returns-2)
