-- `reach_index::put_lines` meets its contract: after d turns the first d lines are written. Assumes nothing.
use mathlib.Core.Path.{◌≡◌, ap}
use mathlib.Core.List.{[], ◌∷◌}
use Prim.Native.Nat.{ℕ, ◌-◌, ◌≤◌}
use native.Mathlib.Omega.{arith}
use lib.ListN.{get_or}
use borrow.Author.Rules.{rules}
use Rattle.sheet.specs.Line.{row, encode}
use Rattle.reach_index.specs.Indexing.{Put}
use Rattle.reach_index.specs.IndexingLaws.{put_none, put_line}
use Rattle.reach_index.proofs.put_lines.Statement.{statement}
use Rattle.reach_index.proofs.put_lines.Tie as tie

abbrev invariant-loop : tie.invariant-loop-d
invariant-loop sets names n out₀ d₀ out d = (d ≤ n) × Put sets names d out₀ out

abbrev decreases-loop : tie.decreases-loop-d
decreases-loop sets names n out₀ d₀ out d = n - d

loop-holds : tie.Need-loop-d-init invariant-loop decreases-loop
loop-holds c = (omega arith, put_none _ _ _)

mul-ones : tie.Need-overflow_mul-d invariant-loop decreases-loop
mul-ones c = omega (arith, c.loop-d-test.true, c.requires.few)

ones-requires : tie.Need-ones-ones-requires invariant-loop decreases-loop
ones-requires c κs = (omega (arith, c.loop-d-test.true, c.requires.words), omega arith)

cast-ones : tie.Need-overflow_cast-ones invariant-loop decreases-loop
cast-ones c = omega (arith, c.ones-ones.ensures.1)

mul-t8 : tie.Need-offset_bounds-names-d invariant-loop decreases-loop
mul-t8 c = omega (arith, c.loop-d-test.true, c.requires.few)

shared-slice-read-t14 : tie.Need-bounds-names-d invariant-loop decreases-loop
shared-slice-read-t14 c = omega (arith, c.loop-d-test.true, c.requires.cells)

row-at-requires : tie.Need-row_at-requires invariant-loop decreases-loop
row-at-requires c κs = omega (arith, c.loop-d-test.true, c.requires.fits, c.loop-d.invariant.1.long)

add-d : tie.Need-overflow_step-d invariant-loop decreases-loop
add-d c = omega (arith, c.loop-d-test.true, c.requires.few)

loop-again : tie.Need-loop-d-preserved invariant-loop decreases-loop
loop-again c =
    let s = c.loop-d in
    let a = c.args in
    let p = c.requires in
    let l = c.loop-d-test.true in (
      omega (arith, l),
      rw c.row_at.ensures
          (put_line a.sets.now a.names.now s.d a.out.now s.out _ s.invariant.1 (omega (arith, l, p.fits)) (ap (λ (k : ℕ). encode 6 (row 88 (get_or a.names.now s.d 0 ∷ k ∷ 0 ∷ 0 ∷ 0 ∷ []))) c.ones-ones.ensures.0)),
    )

same_length : tie.Need-shape_of-out invariant-loop decreases-loop
same_length c = c.loop-d.invariant.1.long

returns : tie.Need-returns invariant-loop decreases-loop
returns c =
    let s = c.loop-d in
    let e : s.d ≡ c.args.n = omega (arith, s.invariant.0) in
    rw e at s.invariant.1

pub put_lines_spec : {M : Type 1} → statement M
put_lines_spec =
    tie.close
    (tie.spec
    invariant-loop
    decreases-loop
    loop-holds
    mul-ones
    ones-requires
    cast-ones
    mul-t8
    shared-slice-read-t14
    row-at-requires
    add-d
    (λ c. search rules)
    loop-again
    same_length
    returns)
