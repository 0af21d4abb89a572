-- `collapse_verdicts::laying::lay_out` meets its contract, one declaration after the other. Assumes nothing.
use mathlib.Core.Path.{◌≡◌, refl, sym}
use Prim.Native.Nat.{◌-◌, ◌≤◌, ◌<◌}
use native.Mathlib.Omega.{arith}
use lib.ListN.{length}
use Rattle.sheet.specs.Format.{base}
use Rattle.table_declared.specs.PassedLaws.{decls_within}
use Rattle.table_access.specs.Tables.{decls_of, lines_in}
use Rattle.collapse_candidates.specs.CandidatesLaws.{mark_is}
use Rattle.collapse_verdicts.specs.Laying.{Partly}
use Rattle.collapse_verdicts.proofs.LayingLaws.{partly_none, partly_next, partly_all}
use Rattle.collapse_verdicts.proofs.laying.lay_out.Statement.{statement}
use Rattle.collapse_verdicts.proofs.laying.lay_out.Tie as tie

abbrev invariant-loop : tie.invariant-loop-d
invariant-loop t decl keep fields found verdicts₀ d₀ d-end verdicts d = (d ≤ length decl) × (d-end ≡ length decl) × Partly (lines_in t) verdicts d

abbrev decreases-loop : tie.decreases-loop-d
decreases-loop t decl keep fields found verdicts₀ d₀ d-end verdicts d = d-end - d

loop-holds : tie.Need-loop-d-init invariant-loop decreases-loop
loop-holds c =
    let a = c in
    (omega arith, refl, partly_none (lines_in a.args.t.now) _ (omega (arith, a.requires.1.1.1, decls_within base (lines_in a.args.t.now) a.requires.0.bounded)))

layout-of-requires : tie.Need-layout_of-l-requires invariant-loop decreases-loop
layout-of-requires c κs =
    let p = c.requires in
    (p.0.tabled, (omega (arith, c.loop-d.invariant.1, c.loop-d-test.true, p.1.0.marked.long), (p.1.0, p.1.1.0)))

shared-slice-read-t13 : tie.Need-bounds-decl-d invariant-loop decreases-loop
shared-slice-read-t13 c = omega (arith, c.loop-d-test.true, c.loop-d.invariant.1)

mul-verdicts : tie.Need-offset_bounds-verdicts-d invariant-loop decreases-loop
mul-verdicts c = let a = c in omega (arith, c.loop-d-test.true, c.loop-d.invariant.1, a.requires.1.0.marked.long, decls_within base (lines_in a.args.t.now) a.requires.0.bounded)

array-set-from-verdicts : tie.Need-bounds-verdicts-d invariant-loop decreases-loop
array-set-from-verdicts c = let a = c in omega (arith, c.loop-d-test.true, c.loop-d.invariant.1, a.requires.1.0.marked.long, decls_within base (lines_in a.args.t.now) a.requires.0.bounded)

add-d : tie.Need-overflow_step-d invariant-loop decreases-loop
add-d c = omega (arith, c.loop-d-test.true)

loop-less : tie.Need-loop-d-smaller invariant-loop decreases-loop
loop-less c = omega (arith, c.loop-d-test.true)

loop-again : tie.Need-loop-d-preserved invariant-loop decreases-loop
loop-again c =
    let a = c in
    let l = c.loop-d in
    let ls = lines_in a.args.t.now in
    let h : l.d < decls_of ls = omega (arith, c.loop-d-test.true, l.invariant.1, a.requires.1.0.marked.long) in
    (omega (arith, c.loop-d-test.true, l.invariant.1), refl, partly_next ls l.verdicts l.d _ h (sym (mark_is ls l.d a.args.decl.now a.requires.1.0.marked.marks)) c.layout_of-l.ensures l.invariant.2)

returns : tie.Need-returns invariant-loop decreases-loop
returns c =
    let a = c in
    let l = c.loop-d in
    partly_all (lines_in a.args.t.now) l.verdicts l.d (omega (arith, l.invariant.0, l.invariant.1, c.loop-d-test.false, a.requires.1.0.marked.long)) l.invariant.2

pub lay_out_spec : {M : Type 1} → statement M
lay_out_spec =
    tie.close
    (tie.spec
    invariant-loop
    decreases-loop
    loop-holds
    layout-of-requires
    shared-slice-read-t13
    mul-verdicts
    array-set-from-verdicts
    add-d
    loop-less
    loop-again
    returns)
