-- `reach_index::put_names` meets its contract: after d turns the first d names stand there. Assumes nothing.
use mathlib.Core.Path.{◌≡◌, refl, ◌∙◌}
use Prim.Native.Nat.{◌-◌, ◌≤◌}
use native.Mathlib.Omega.{arith}
use lib.ListN.{length-set}
use borrow.Author.Rules.{rules}
use Rattle.sheet.specs.Format.{base}
use Rattle.table_declared.specs.PassedLaws.{decls_within}
use Rattle.table_access.specs.Tables.{decls_of, lines_in}
use Rattle.reach_index.specs.Indexing.{Names}
use Rattle.reach_index.specs.IndexingLaws.{names_more}
use Rattle.reach_index.proofs.put_names.Statement.{statement}
use Rattle.reach_index.proofs.put_names.Tie as tie

abbrev invariant-loop : tie.invariant-loop-d
invariant-loop t names₀ n d₀ names d = (d ≤ n) × Names (lines_in t) d names₀ names

abbrev decreases-loop : tie.decreases-loop-d
decreases-loop t names₀ n d₀ names d = n - d

loop-holds : tie.Need-loop-d-init invariant-loop decreases-loop
loop-holds c = (omega arith, record { long = refl; each = λ d l. absurd (omega arith) })

decl-number-requires : tie.Need-decl_number-requires invariant-loop decreases-loop
decl-number-requires c κs = (c.requires.0.tabled, (omega (arith, c.loop-d-test.true, c.decls-n.ensures), omega arith))

mul-names : tie.Need-offset_bounds-names-d invariant-loop decreases-loop
mul-names c = let s = c in omega (arith, c.loop-d-test.true, c.decls-n.ensures, decls_within base (lines_in s.args.t.now) s.requires.0.bounded)

slice-write-names : tie.Need-bounds-names-d invariant-loop decreases-loop
slice-write-names c = let s = c in omega (arith, c.loop-d-test.true, c.decls-n.ensures, s.requires.1, c.loop-d.invariant.1.long)

add-d : tie.Need-overflow_step-d invariant-loop decreases-loop
add-d c = let s = c in omega (arith, c.loop-d-test.true, c.decls-n.ensures, decls_within base (lines_in s.args.t.now) s.requires.0.bounded)

loop-again : tie.Need-loop-d-preserved invariant-loop decreases-loop
loop-again c =
    let s = c.loop-d in
    let a = c.args in
    let p = c.requires in
    let l = c.loop-d-test.true in
    let n = c.decls-n.ensures in (
      omega (arith, l),
      record {
        long = length-set s.names s.d _ ∙ s.invariant.1.long;
        each = names_more (lines_in a.t.now) s.d a.names.now s.names _ (omega (arith, l, n)) (omega (arith, l, n, p.1)) s.invariant.1.long s.invariant.1.each c.decl_number.ensures;
      },
    )

same_length : tie.Need-shape_of-names invariant-loop decreases-loop
same_length c = c.loop-d.invariant.1.long

returns : tie.Need-returns invariant-loop decreases-loop
returns c =
    let s = c.loop-d in
    let e : s.d ≡ decls_of (lines_in c.args.t.now) = omega (arith, s.invariant.0, c.decls-n.ensures) in
    rw e at s.invariant.1

pub put_names_spec : {M : Type 1} → statement M
put_names_spec =
    tie.close
    (tie.spec
    invariant-loop
    decreases-loop
    (λ c κs. search rules)
    loop-holds
    decl-number-requires
    mul-names
    slice-write-names
    add-d
    (λ c. search rules)
    loop-again
    same_length
    returns)
