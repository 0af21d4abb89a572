-- `sheet_digits::write_number` meets its contract: what stands left of column i, and the columns from i on, are the number.
use Rattle.std.proofs.Common.{◌≡◌, ◌≢◌, ◌-◌, ◌∙◌, suc, arith, length, length-set, ℕ, eqb-true, sym}
use Rattle.std.proofs.lemmas.Bool.{eqb-false}
use Rattle.number_columns.specs.Column.{shown}
use Rattle.number_columns.specs.ColumnLaws.{shown_left, write_last, write_none}
use Rattle.sheet_digits.proofs.write_number.Goals as goal

pub returns-then-is_empty : goal.returns-then-is_empty
returns-then-is_empty c = write_none _ _ (eqb-true _ _ (sym c.is_empty.ensures ∙ c.if-is_empty.true))

pub loop-i-init : goal.loop-i-init
loop-i-init c =
    let out = c.args.out.now in
    let some : length out ≢ 0 = eqb-false _ _ (sym c.is_empty.ensures ∙ c.if-is_empty.false) in
    let e : suc (length out - 1) ≡ length out = omega arith in
    rw e at (write_last (length out - 1) c.args.n out (omega arith))

pub loop-i-preserved : goal.loop-i-preserved
loop-i-preserved c =
    let l = c.loop-i in
    let e : suc (l.i - 1) ≡ l.i = omega arith in
    rw (c.column.ensures, shown_left (l.i - 1) l.m l.out (omega (arith, length-set {A = ℕ})), e) l.invariant

pub returns : goal.returns
unfolding shown
returns c =
    let e : c.loop-i.i ≡ 0 = omega arith in
    rw e at c.loop-i.invariant
