-- `row8_returning::put_bodies` meets its contract: the bodies of the declarations passed are those of their cells. Assumes nothing.
use mathlib.Core.Path.{◌≡◌, refl, ◌∙◌}
use Prim.Native.Nat.{ℕ, ◌≤◌, ◌<◌, ◌-◌}
use native.Mathlib.Omega.{arith}
use lib.ListN.{length, get_or, length-set}
use borrow.Author.Rules.{rules}
use Rattle.table_declared.specs.PassedLaws.{types_few}
use Rattle.row8_returning.specs.Returning.{through}
use Rattle.row8_returning.specs.ReturningLaws.{through_more, through_all}
use Rattle.row8_returning.proofs.put_bodies.Statement.{statement}
use Rattle.table_access.specs.Tables.{lines_in}
use Rattle.row8_returning.proofs.put_bodies.Tie as tie

abbrev invariant-loop : tie.invariant-loop-d
invariant-loop t u bodies₀ types d₀ d-end bodies d = (d ≤ length bodies₀) × (d-end ≡ length bodies₀) × (length bodies ≡ length bodies₀) × ((i : ℕ) → i < d → get_or bodies i 0 ≡ through types u i)

abbrev decreases-loop : tie.decreases-loop-d
decreases-loop t u bodies₀ types d₀ d-end bodies d = d-end - d

cast-types : tie.Need-overflow_cast-types invariant-loop decreases-loop
cast-types c =
    let a = c in
    omega (arith, c.types-types.ensures, types_few (lines_in a.args.t.now) a.requires.0.passed)

loop-holds : tie.Need-loop-d-init invariant-loop decreases-loop
loop-holds c = (search rules, refl, refl, λ i l. absurd (omega arith))

body-requires : tie.Need-body-requires invariant-loop decreases-loop
body-requires c κs =
    let a = c in
    omega (arith, c.loop-d-test.true, c.loop-d.invariant.1, a.requires.1.0, a.requires.1.1)

loop-again : tie.Need-loop-d-preserved invariant-loop decreases-loop
loop-again c =
    let l = c.loop-d in
    let a = c.args in
    (omega (arith, c.loop-d-test.true, l.invariant.1), refl, length-set l.bodies l.d c.body.result ∙ l.invariant.2, through_more c.types-types.result a.u.now l.bodies l.d c.body.result (omega (arith, c.loop-d-test.true, l.invariant.1, l.invariant.2)) c.body.ensures l.invariant.3)

returns : tie.Need-returns invariant-loop decreases-loop
returns c =
    let l = c.loop-d in
    let a = c in
    through_all (lines_in a.args.t.now) c.types-types.result a.args.u.now l.bodies l.d c.types-types.ensures (l.invariant.2 ∙ a.requires.1.1) (omega (arith, c.loop-d-test.false, l.invariant.1, a.requires.1.1)) l.invariant.3

pub put_bodies_spec : {M : Type 1} → statement M
put_bodies_spec =
    tie.close
    (tie.spec
    invariant-loop
    decreases-loop
    (λ c κs. search rules)
    cast-types
    loop-holds
    body-requires
    (λ c. search rules)
    (λ c. search rules)
    (λ c. search rules)
    (λ c. search rules)
    loop-again
    (λ c. search rules)
    returns)
