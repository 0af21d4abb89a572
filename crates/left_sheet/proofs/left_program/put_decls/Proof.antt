-- `left_program::put_decls` meets its contract: after d turns what is left of the first d declarations is written. Assumes nothing.
use mathlib.Core.Path.{◌≡◌, refl, subst}
use mathlib.Core.List.{List}
use Prim.Native.Nat.{◌-◌, ◌≤◌}
use lib.ListN.{length}
use Rattle.model.specs.Decl.{Dtype}
use Rattle.meaning.specs.Output.{program_lines}
use Rattle.table_access.specs.Tables.{decls_of, lines_in}
use Rattle.left_places.specs.Places.{Room, Writes}
use Rattle.left_sheet.specs.Program.{lefts_to}
use Rattle.left_sheet.specs.ProgramLaws.{lefts_start, lefts_room, lefts_writes, lefts_all, lefts_again}
use native.Mathlib.Omega.{arith}
use borrow.Author.Rules.{rules}
use Rattle.left_sheet.proofs.left_program.put_decls.Statement.{statement}
use Rattle.left_sheet.proofs.left_program.put_decls.Tie as tie

abbrev invariant-loop : tie.invariant-loop-d
invariant-loop t u f keep left scratch₀ stack₀ out₀ n q₀ d₀ scratch stack out q d =
    (d ≤ n) × (n ≡ decls_of (lines_in t)) × (length scratch ≡ length scratch₀) × (length stack ≡ length stack₀) × (length out ≡ length out₀) × Writes (program_lines (lefts_to (lines_in t) d)) q₀ q out₀ out

abbrev decreases-loop : tie.decreases-loop-d
decreases-loop t u f keep left scratch₀ stack₀ out₀ n q₀ d₀ scratch stack out q d = n - d

loop-holds : tie.Need-loop-d-init invariant-loop decreases-loop
loop-holds c =
    let a = c.args in
    (omega arith, c.decls-n.ensures, refl, refl, refl, lefts_start (lines_in a.t.now) a.p a.out.now)

put-at-requires : tie.Need-put_at-q-requires invariant-loop decreases-loop
put-at-requires c κs =
    let z = c in
    let a = z.args in
    let l = c.loop-d in
    let t = c.loop-d-test.true in
    let r = subst (λ (ds : List Dtype). Room (program_lines ds) a.p a.out.now) (lefts_all (lines_in a.t.now)) z.requires.1.1 in
    ((lefts_again (lines_in a.t.now) a.t.now a.u.now a.f.now a.keep.now a.left.now (length a.scratch.now) (length l.scratch) l.invariant.2 z.requires.0, omega (arith, t, l.invariant.1)), (omega (arith, l.invariant.2, l.invariant.3, z.requires.1.0), lefts_room (lines_in a.t.now) a.p l.q a.out.now l.out l.d (decls_of (lines_in a.t.now)) (omega (arith, t, l.invariant.1)) r l.invariant.5))

loop-again : tie.Need-loop-d-preserved invariant-loop decreases-loop
loop-again c =
    let a = c.args in
    let l = c.loop-d in
    let w = c.put_at-q in
    (omega (arith, c.loop-d-test.true), l.invariant.1, search rules, search rules, search rules, lefts_writes (lines_in a.t.now) a.p l.q a.out.now l.out l.d w.result _ l.invariant.5 w.ensures)

returns : tie.Need-returns invariant-loop decreases-loop
returns c =
    let l = c.loop-d in
    let a = c.args in
    let e : decls_of (lines_in a.t.now) ≡ l.d = omega (arith, l.invariant.0, l.invariant.1, c.loop-d-test) in
    rw (lefts_all (lines_in a.t.now), e) l.invariant.5

pub put_decls_spec : {M : Type 1} → statement M
put_decls_spec =
    tie.close
    (tie.spec
    invariant-loop
    decreases-loop
    (λ c κs. let z = c in z.requires.0.ready.tabled)
    loop-holds
    put-at-requires
    (λ c. search rules)
    (λ c. search rules)
    loop-again
    (λ c. search rules)
    (λ c. search rules)
    (λ c. search rules)
    returns)
