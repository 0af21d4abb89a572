-- `row8_returning::ranks::count` meets its contract: no row before k has its own node, and their ones are counted. Assumes nothing.
use mathlib.Core.Path.{◌≡◌, refl, sym, ◌∙◌}
use Prim.Native.Nat.{◌-◌}
use native.Mathlib.Omega.{arith}
use lib.ListN.{length}
use borrow.Author.Rules.{rules}
use Rattle.set_bits.specs.BitsLaws.{row_room}
use Rattle.row8_returning.specs.RanksLaws.{Counted, counted_more, counted_found, counted_all}
use Rattle.row8_returning.proofs.ranks.count.Statement.{statement}
use Rattle.row8_returning.proofs.ranks.count.Tie as tie

abbrev invariant-loop : tie.invariant-loop-k
invariant-loop rows words n rank₀ k₀ rank k = Counted words n rows rank₀ k rank

abbrev decreases-loop : tie.decreases-loop-k
decreases-loop rows words n rank₀ k₀ rank k = n - k

loop-holds : tie.Need-loop-k-init invariant-loop decreases-loop
loop-holds c = (omega arith, refl, λ i l. absurd (omega arith), λ i l. absurd (omega arith))

mul-has : tie.Need-overflow_mul-k invariant-loop decreases-loop
mul-has c =
    let a = c.args in
    let p = c.requires in
    omega (arith, row_room c.loop-k.k a.n a.words (length a.rows.now) c.loop-k-test.true p.0)

has-requires : tie.Need-has-requires invariant-loop decreases-loop
has-requires c κs =
    let a = c.args in
    let p = c.requires in
    omega (arith, row_room c.loop-k.k a.n a.words (length a.rows.now) c.loop-k-test.true p.0, c.loop-k-test.true, p.2)

same_length : tie.Need-shape_of-rank-then-has invariant-loop decreases-loop
same_length c = c.loop-k.invariant.1

returns : tie.Need-returns-then-has invariant-loop decreases-loop
returns c =
    let a = c.args in
    let s = c.loop-k in
    counted_found a.words a.n a.rows.now a.rank.now s.k s.rank s.invariant c.loop-k-test.true (sym c.has.ensures ∙ c.if-has.true)

mul-ones : tie.Need-overflow_mul-k-in-loop-k invariant-loop decreases-loop
mul-ones c =
    let a = c.args in
    let p = c.requires in
    omega (arith, row_room c.loop-k.k a.n a.words (length a.rows.now) c.loop-k-test.true p.0)

ones-requires : tie.Need-ones-requires invariant-loop decreases-loop
ones-requires c κs =
    let a = c.args in
    let p = c.requires in
    (row_room c.loop-k.k a.n a.words (length a.rows.now) c.loop-k-test.true p.0, omega (arith, p.1))

cast-rank : tie.Need-overflow_cast-rank invariant-loop decreases-loop
cast-rank c = omega (arith, c.ones.ensures.1, c.requires.1)

mul-rank : tie.Need-offset_bounds-rank-k invariant-loop decreases-loop
mul-rank c =
    let p = c.requires in
    omega (arith, c.loop-k-test.true, p.1, p.2)

slice-write-rank : tie.Need-bounds-rank-k invariant-loop decreases-loop
slice-write-rank c = omega (arith, c.loop-k-test.true, c.loop-k.invariant.1, c.requires.3)

add-k : tie.Need-overflow_step-k invariant-loop decreases-loop
add-k c =
    let p = c.requires in
    omega (arith, c.loop-k-test.true, p.1, p.2)

loop-again : tie.Need-loop-k-preserved invariant-loop decreases-loop
loop-again c =
    let a = c.args in
    let p = c.requires in
    let s = c.loop-k in
    counted_more a.words a.n a.rows.now a.rank.now s.k _ s.rank s.invariant c.loop-k-test.true p.3 (sym c.has.ensures ∙ c.if-has.false) c.ones.ensures.0

same-length-2 : tie.Need-shape_of-rank invariant-loop decreases-loop
same-length-2 c = c.loop-k.invariant.1

returns-2 : tie.Need-returns invariant-loop decreases-loop
returns-2 c =
    let a = c.args in
    let s = c.loop-k in
    let e : s.k ≡ a.n = omega (arith, s.invariant.0) in
    counted_all a.words a.n a.rows.now a.rank.now s.rank (rw e at s.invariant)

pub count_spec : {M : Type 1} → statement M
count_spec =
    tie.close
    (tie.spec
    invariant-loop
    decreases-loop
    loop-holds
    mul-has
    has-requires
    same_length
    returns
    mul-ones
    ones-requires
    cast-rank
    mul-rank
    slice-write-rank
    add-k
    (λ c. search rules)
    loop-again
    same-length-2
    returns-2)
