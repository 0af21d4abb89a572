-- `reach_rows::rows` meets its contract: after d turns the rows of the first d declarations are there. Assumes nothing.
use mathlib.Core.Path.{◌≡◌, refl, ap, ◌∙◌}
use Prim.Native.Nat.{◌-◌, ◌≤◌, ◌<◌}
use native.Mathlib.Omega.{arith}
use native.Mathlib.Numerals.{add-one}
use lib.ListN.{length}
use Rattle.table_access.specs.Tables.{decls_of, lines_in}
use Rattle.set_bits.specs.BitsLaws.{row_room}
use Rattle.reach_rows.specs.Steps.{with_rows}
use Rattle.reach_rows.specs.StepsLaws.{rows_length, rows_stepped}
use Rattle.reach_rows.proofs.rows.Statement.{statement}
use Rattle.reach_rows.proofs.rows.Tie as tie

abbrev invariant-loop : tie.invariant-loop-d
invariant-loop t sets words steps₀ n d₀ steps d = (n ≡ decls_of (lines_in t)) × (d ≤ n) × (steps ≡ with_rows (lines_in t) words sets steps₀ d)

abbrev decreases-loop : tie.decreases-loop-d
decreases-loop t sets words steps₀ n d₀ steps d = n - d

decls-requires : tie.Need-decls-n-requires invariant-loop decreases-loop
decls-requires c κs = c.requires.0

loop-holds : tie.Need-loop-d-init invariant-loop decreases-loop
unfolding with_rows
loop-holds c = (c.decls-n.ensures, omega arith, refl)

put-row-requires : tie.Need-put_row-requires invariant-loop decreases-loop
put-row-requires c κs =
    let a = c in
    let l = c.loop-d in
    let h : l.d < decls_of (lines_in a.args.t.now) = omega (arith, c.loop-d-test.true, l.invariant.0) in (
      a.requires.0,
      (
        a.requires.1.0.long,
        (h, rw (ap length l.invariant.2 ∙ rows_length _ _ _ _ _) (row_room l.d (decls_of (lines_in a.args.t.now)) a.args.words (length a.args.steps.now) h a.requires.1.1.1)),
      ),
    )

add-d : tie.Need-overflow_step-d invariant-loop decreases-loop
add-d c = omega (arith, c.loop-d-test.true)

loop-less : tie.Need-loop-d-smaller invariant-loop decreases-loop
loop-less c = omega (arith, c.loop-d-test.true)

loop-again : tie.Need-loop-d-preserved invariant-loop decreases-loop
unfolding with_rows
loop-again c =
    let l = c.loop-d in
    (l.invariant.0, omega (arith, c.loop-d-test.true), rw (add-one, ← l.invariant.2) c.put_row.ensures)

same_length : tie.Need-shape_of-steps invariant-loop decreases-loop
same_length c = ap length c.loop-d.invariant.2 ∙ rows_length _ _ _ _ _

returns : tie.Need-returns invariant-loop decreases-loop
returns c =
    let a = c in
    let l = c.loop-d in
    let e : l.d ≡ decls_of (lines_in a.args.t.now) = omega (arith, c.loop-d-test.false, l.invariant.1, l.invariant.0) in
    rw (l.invariant.2, e) (rows_stepped _ _ _ _ a.requires.0.passed a.requires.1.0 a.requires.1.1.0 a.requires.1.1.1)

pub rows_spec : {M : Type 1} → statement M
rows_spec =
    tie.close
    (tie.spec
    invariant-loop
    decreases-loop
    decls-requires
    loop-holds
    put-row-requires
    add-d
    loop-less
    loop-again
    same_length
    returns)
