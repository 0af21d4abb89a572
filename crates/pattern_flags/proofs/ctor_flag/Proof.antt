-- `pattern_flags::ctor_flag` meets its contract, by the first cell. Assumes nothing.
use Prim.Native.Nat.{◌*◌}
use lib.ListN.{get_or}
use borrow.Author.Rules.{rules}
use borrow.Author.Tests.{ne_eqb}
use Rattle.pattern_flags.specs.Flags.{ctor_flag}
use Rattle.pattern_flags.proofs.ctor_flag.Statement.{statement}
use Rattle.pattern_flags.proofs.ctor_flag.Tie as tie

returns : tie.Need-returns-then-a-eq0
unfolding ctor_flag
returns c = rw c.if-a-eq0.true

returns-2 : tie.Need-returns
unfolding ctor_flag
returns-2 c =
    let a = c.args in
    rw (c.slot_flag.ensures, c.state.ensures, ne_eqb (get_or a.m.now (3 * a.n) 0) 0 c.if-a-eq0.false)

pub ctor_flag_spec : {M : Type 1} → statement M
ctor_flag_spec =
    tie.close
    (tie.spec
    (λ c. search rules)
    (λ c. search rules)
    (λ c. search rules)
    (λ c. search rules)
    returns
    (λ c. search rules)
    (λ c. search rules)
    (λ c. search rules)
    (λ c. search rules)
    (λ c. search rules)
    (λ c. search rules)
    (λ c. search rules)
    (λ c. search rules)
    (λ c. search rules)
    (λ c. search rules)
    (λ c. search rules)
    (λ c κs. search rules)
    (λ c κs. search rules)
    returns-2)
