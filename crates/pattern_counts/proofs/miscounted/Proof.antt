-- `pattern_counts::miscounted` meets its contract: the name of a `PCtor` has a place in the table, and so has a link. Assumes nothing.
use native.Mathlib.Omega.{arith}
use lib.ListN.{length}
use borrow.Author.Tests.{ne_eqb}
use Rattle.walk_cells.specs.Cells.{lines_of}
use Rattle.pattern_rows.specs.LinksLaws.{good_lower, name_within}
use borrow.Author.Rules.{rules}
use Rattle.pattern_counts.proofs.miscounted.Statement.{statement}
use Rattle.pattern_counts.proofs.miscounted.Tie as tie

returns : tie.Need-returns-then-number-ne-CTOR
returns c = rw (← c.number.ensures, ne_eqb _ 3 c.if-number-ne-CTOR.true)

shared-slice-read-declared : tie.Need-bounds-fields-name
shared-slice-read-declared c =
    let e = c in
    let s = e in
    omega (arith, name_within (length s.args.fields.now) (lines_of s.args.q.now) s.args.i s.requires.1 (rw (← e.number.ensures, e.if-number-ne-CTOR.false)), c.number-name.ensures)

returns-2 : tie.Need-returns-then-declared-eq0
returns-2 c =
    let e = c in
    rw (← e.number.ensures, e.if-number-ne-CTOR.false, ← c.number-name.ensures, c.if-declared-eq0.true)

element-copy-out-result : tie.Need-bounds-ends-last
element-copy-out-result c =
    let s = c in
    omega (arith, (good_lower (length s.args.fields.now) (lines_of s.args.q.now) s.args.i s.requires.1).last_lower, c.number-last.ensures)

returns-3 : tie.Need-returns
returns-3 c =
    let e = c in
    rw (← e.number.ensures, e.if-number-ne-CTOR.false, ← c.number-name.ensures, ← c.number-last.ensures, ne_eqb _ 0 c.if-declared-eq0.false)

pub miscounted_spec : {M : Type 1} → statement M
miscounted_spec =
    tie.close
    (tie.spec
    (λ c κs. search rules)
    returns
    (λ c κs. search rules)
    (λ c. search rules)
    (λ c κs. search rules)
    (λ c. search rules)
    (λ c. search rules)
    shared-slice-read-declared
    returns-2
    (λ c. search rules)
    element-copy-out-result
    (λ c. search rules)
    returns-3)
