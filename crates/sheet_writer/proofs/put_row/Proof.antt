-- `sheet_writer::put_row` meets its contract: after i turns the letter and the first i numbers stand in the part. Assumes nothing.
use mathlib.Core.Path.{◌≡◌, ◌∙◌}
use mathlib.Core.List.{◌∷◌, ◌++◌}
use Prim.Native.Nat.{◌+◌, ◌-◌, ◌*◌, ◌≤◌}
use native.Mathlib.Omega.{arith}
use lib.ListN.{length, take, drop, set, length-set}
use borrow.Author.Rules.{rules}
use Rattle.sheet.specs.Line.{writes}
use Rattle.sheet_writer.specs.RowLaws.{row_start, row_more, row_end}
use Rattle.sheet_writer.proofs.put_row.Statement.{statement}
use Rattle.sheet_writer.proofs.put_row.Tie as tie

abbrev invariant-loop : tie.invariant-loop-i
invariant-loop out₀ letter numbers at₀ i₀ out at i =
    (i ≤ 5) × (at ≡ i * 6 + 1) × (length numbers ≡ 5) × (length out₀ ≡ 32) × (length out ≡ length out₀) × (out ≡ (letter ∷ writes 6 (take i numbers)) ++ drop at out₀)

abbrev decreases-loop : tie.decreases-loop-i
decreases-loop out₀ letter numbers at₀ i₀ out at i = 5 - i

loop-holds : tie.Need-loop-i-init invariant-loop decreases-loop
loop-holds c = (search rules, omega arith, c.well_formed.1.1.0.1.0.1, search rules, search rules, row_start 6 _ c.args.numbers c.args.out.now (omega arith))

loop-again : tie.Need-loop-i-preserved invariant-loop decreases-loop
loop-again c =
    let s = c.loop-i in
    let a = c.args in
    let r = row_more 6 a.letter a.numbers s.out _ (set a.out.now 0 a.letter) s.i s.at (omega arith) s.invariant.5 s.invariant.4 (omega arith) c.write_six.ensures in
    (search rules, omega arith, s.invariant.2, s.invariant.3, r.1, r.0)

same_length : tie.Need-shape_of-out invariant-loop decreases-loop
same_length c = simp length-set (c.loop-i.invariant.4 ∙ simp length-set)

returns : tie.Need-returns invariant-loop decreases-loop
returns c =
    let s = c.loop-i in
    let a = c.args in
    let e : s.i ≡ 5 = omega arith in
    row_end 6 a.letter a.numbers s.out (set a.out.now 0 a.letter) s.at s.invariant.2 (omega arith) s.invariant.3 (rw e at s.invariant.5)

pub put_row_spec : {M : Type 1} → statement M
put_row_spec =
    tie.close
    (tie.spec
    invariant-loop
    decreases-loop
    (λ c. search rules)
    loop-holds
    (λ c. search rules)
    (λ c. search rules)
    (λ c. search rules)
    (λ c. search rules)
    (λ c. search rules)
    (λ c. search rules)
    (λ c κs. search rules)
    (λ c. search rules)
    (λ c. search rules)
    loop-again
    (λ c. search rules)
    same_length
    returns)
