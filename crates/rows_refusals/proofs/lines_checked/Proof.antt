-- `rows_refusals::lines_checked` meets its contract, row by row. Assumes nothing.
use mathlib.Core.Path.{◌≡◌, ap, ap₂, sym, ◌∙◌}
use Prim.Native.Nat.{ℕ, suc, ◌+◌, ◌/◌, ◌≤◌}
use native.Mathlib.Omega.{arith}
use lib.ListN.{length}
use borrow.Author.Rules.{rules}
use Rattle.sheet.specs.Format.{base}
use Rattle.sheet.specs.Sheet.{first, count, lines}
use Rattle.walk_cells.specs.Cells.{lines_of}
use Rattle.walk_cells.specs.CellsLaws.{length_lines_of}
use Rattle.meaning.specs.Rows.{raws, row3, row4, row5, row6, row7}
use Rattle.rows_runs.specs.RunsLaws.{Spans, spans}
use Rattle.row4_limits.specs.declared.Counts.{Counts}
use Rattle.row4_limits.specs.Limits.{counts_of}
use Rattle.rows_header.specs.Header.{Counted, header}
use Rattle.rows_header.specs.OrderLaws.{header_le}
use Rattle.row6_spellings.specs.Spellings.{Ranged}
use Rattle.rows_refusals.specs.Rows.{refused_as}
use Rattle.rows_refusals.specs.CellLaws.{count_cells, order_cells, limits_cells, ranges_cells, verdicts_cells, counts_cells}
use Rattle.rows_refusals.specs.RowsLaws.{none_at, at3, at4, at5, at6, at7, rows_checked}
use Rattle.rows_refusals.proofs.lines_checked.Statement.{statement}
use Rattle.rows_refusals.proofs.lines_checked.Tie as tie

-- ---- the start, from where a row does not apply
abbrev start1 : tie.Else-misplaced-n → tie.Start
start1 c = c.before.before.before.before.before

abbrev start2 : tie.Else-past-n → tie.Start
start2 c = start1 c.before.before

abbrev start3 : tie.Else-outside-n → tie.Start
start3 c = start2 c.before.before.before

abbrev start4 : tie.Else-repeated-n → tie.Start
start4 c = start3 c.before.before

abbrev start5 : tie.Else-wrong-n → tie.Start
start5 c = start4 c.before.before

-- as many lines
counts : (p : tie.Start) → length p.args.t.now / 6 ≡ count 6 p.args.s.now
counts p = sym (length_lines_of p.args.t.now) ∙ count_cells p.args.s.now p.args.t.now p.requires.2

-- ---- what each row leaves where it does not apply
spanned : (c : tie.After-runs_of-front) → Spans (lines_of c.args.t.now) c.runs_of-front.result
spanned c = rw c.runs_of-front.ensures (spans (lines_of c.args.t.now))

ordered : (c : tie.Else-misplaced-n) → first (row3 (lines_of (start1 c).args.t.now)) (suc (length (lines_of (start1 c).args.t.now))) ≡ suc (length (lines_of (start1 c).args.t.now))
ordered c =
    let t = (start1 c).args.t.now in
    none_at (row3 (lines_of t)) (suc (length (lines_of t))) c.row3-misplaced.result c.row3-misplaced.ensures (omega (arith, length_lines_of t))

in_order : (c : tie.Else-misplaced-n) → first (row3 (raws 6 (start1 c).args.s.now)) (suc (count 6 (start1 c).args.s.now)) ≡ suc (count 6 (start1 c).args.s.now)
in_order c =
    let p = start1 c in
    sym (order_cells p.args.s.now p.args.t.now p.requires.2 p.requires.1) ∙ ordered c ∙ ap suc (count_cells p.args.s.now p.args.t.now p.requires.2)

limited : (c : tie.Else-past-n) → first (row4 base (lines_of (start2 c).args.t.now)) (length (lines_of (start2 c).args.t.now)) ≡ length (lines_of (start2 c).args.t.now)
limited c =
    let t = (start2 c).args.t.now in
    none_at (row4 base (lines_of t)) (length (lines_of t)) c.walk-walked.result.past c.walk-walked.ensures.0 (omega (arith, length_lines_of t))

in_limits : (c : tie.Else-past-n) → first (row4 base (lines 6 (start2 c).args.s.now)) (count 6 (start2 c).args.s.now) ≡ count 6 (start2 c).args.s.now
in_limits c =
    let p = start2 c in
    sym (limits_cells p.args.s.now p.args.t.now p.requires.2) ∙ limited c ∙ count_cells p.args.s.now p.args.t.now p.requires.2

-- where no line is past its limit
declared : (c : tie.Else-past-n) → c.walk-walked.result.counts ≡ counts_of (lines_of (start2 c).args.t.now)
declared c = c.walk-walked.ensures.1 (c.walk-walked.ensures.0 ∙ limited c)

counted : (c : tie.Else-past-n) → (let k : Counts = c.walk-walked.result.counts in Counted (lines_of (start2 c).args.t.now) k.names k.args k.types)
unfolding counts_of
counted c =
    let e = declared c in
    record {
      in_order = ordered c.before.before;
      names_are = ap (λ (k : Counts). k.names) e;
      args_are = ap (λ (k : Counts). k.args) e;
      types_are = ap (λ (k : Counts). k.types) e;
    }

-- where the declarations begin
from_is : (c : tie.Else-past-n) → (let k : Counts = c.walk-walked.result.counts in k.names + k.args + k.types ≡ header (lines_of (start2 c).args.t.now))
from_is c = let k = counted c in ap₂ (λ (a b : ℕ). a + b) (ap₂ (λ (a b : ℕ). a + b) k.names_are k.args_are) k.types_are

-- the same, of the bytes
told : (c : tie.Else-past-n) → c.walk-walked.result.counts ≡ counts_of (lines 6 (start2 c).args.s.now)
told c = let p = start2 c in declared c ∙ counts_cells p.args.s.now p.args.t.now p.requires.2

from_told : (c : tie.Else-past-n) → (let k : Counts = c.walk-walked.result.counts in k.names + k.args + k.types ≡ header (lines 6 (start2 c).args.s.now))
unfolding counts_of
from_told c = ap (λ (k : Counts). k.names + k.args + k.types) (told c)

from_fits : (c : tie.Else-past-n) → (let k : Counts = c.walk-walked.result.counts in k.names + k.args + k.types ≤ length (lines_of (start2 c).args.t.now))
from_fits c = omega (arith, from_is c, header_le (lines_of (start2 c).args.t.now))

in_range : (c : tie.Else-outside-n) → first (row5 (lines 6 (start3 c).args.s.now)) (count 6 (start3 c).args.s.now) ≡ count 6 (start3 c).args.s.now
in_range c =
    let p = start3 c in
    none_at (row5 (lines 6 p.args.s.now)) (count 6 p.args.s.now) c.row5-outside.result (c.row5-outside.ensures ∙ ranges_cells p.args.s.now p.args.t.now p.requires.2) (omega (arith, counts p))

ranged : (c : tie.Else-outside-n) → Ranged (start3 c).args.s.now
ranged c =
    record {
      short = (start3 c).requires.0;
      no_bad = (start3 c).requires.1;
      in_order = in_order c.before.before.before.before.before;
      in_limits = in_limits c.before.before.before;
      in_range = in_range c;
    }

distinct : (c : tie.Else-repeated-n) → first (row6 (lines 6 (start4 c).args.s.now)) (count 6 (start4 c).args.s.now) ≡ count 6 (start4 c).args.s.now
distinct c =
    let s = (start4 c).args.s.now in
    none_at (row6 (lines 6 s)) (count 6 s) c.row6-repeated.result c.row6-repeated.ensures (omega (arith, counts (start4 c)))

in_verdict : (c : tie.Else-wrong-n) → first (row7 (lines 6 (start5 c).args.s.now)) (count 6 (start5 c).args.s.now) ≡ count 6 (start5 c).args.s.now
in_verdict c =
    let p = start5 c in
    none_at (row7 (lines 6 p.args.s.now)) (count 6 p.args.s.now) c.row7-wrong.result (c.row7-wrong.ensures ∙ verdicts_cells p.args.s.now p.args.t.now p.requires.2) (omega (arith, counts p))

-- ---- the calls
add-from : tie.Need-overflow_add-from
add-from c = let b = c in omega (arith, from_fits b.before.before.before, length_lines_of (start2 b.before.before.before).args.t.now)

add-from-2 : tie.Need-overflow_add-from-2
add-from-2 c = let b = c in omega (arith, from_fits b.before.before.before, length_lines_of (start2 b.before.before.before).args.t.now)

row6-requires : tie.Need-row6-repeated-requires
unfolding counts_of
row6-requires c κs =
    let b = c in
    (ranged c, ((start3 c).requires.2, (ap (λ (k : Counts). k.names) (told b.before.before.before), from_told b.before.before.before)))

row7-requires : tie.Need-row7-wrong-requires
row7-requires c κs =
    let b = c in
    record { in_order = (counted b.before.before.before.before.before).in_order; from_is = from_is b.before.before.before.before.before }

-- ---- the answers
returns : tie.Need-returns-then-misplaced-n
returns c =
    let p = c in
    let e = c.row3-misplaced.ensures ∙ order_cells p.args.s.now p.args.t.now p.requires.2 p.requires.1 in
    c.refused.ensures ∙ ap (refused_as 3) e
    ∙ sym (at3 p.args.s.now p.requires.0 p.requires.1 (omega (arith, e, counts p.before.before.before.before.before.before)))

returns-2 : tie.Need-returns-then-past-n
returns-2 c =
    let b = c in
    let p = start1 b.before.before.before in
    let e = c.walk-walked.ensures.0 ∙ limits_cells p.args.s.now p.args.t.now p.requires.2 in
    c.refused-then-past-n.ensures ∙ ap (refused_as 4) e
    ∙ sym (at4 p.args.s.now p.requires.0 p.requires.1 (in_order b.before.before.before) (omega (arith, e, counts p)))

returns-3 : tie.Need-returns-then-outside-n
returns-3 c =
    let b = c in
    let p = start2 b.before.before.before.before in
    let e = c.row5-outside.ensures ∙ ranges_cells p.args.s.now p.args.t.now p.requires.2 in
    c.refused-then-outside-n.ensures ∙ ap (refused_as 5) e
    ∙ sym (at5 p.args.s.now p.requires.0 p.requires.1 (in_order b.before.before.before.before.before.before) (in_limits b.before.before.before.before) (omega (arith, e, counts p)))

returns-4 : tie.Need-returns-then-repeated-n
returns-4 c =
    let b = c in
    let p = start3 b.before.before.before in
    let e = c.row6-repeated.ensures in
    let l = b in
    c.refused-then-repeated-n.ensures ∙ ap (refused_as 6) e
    ∙ sym (at6 p.args.s.now p.requires.0 p.requires.1 (in_order l.before.before.before.before.before.before.before.before) (in_limits l.before.before.before.before.before.before) (in_range b.before.before.before) (omega (arith, e, counts p)))

returns-5 : tie.Need-returns-then-wrong-n
returns-5 c =
    let b = c in
    let p = start4 b.before.before.before in
    let e = c.row7-wrong.ensures ∙ verdicts_cells p.args.s.now p.args.t.now p.requires.2 in
    let g = b in
    let l = g in
    c.refused-then-wrong-n.ensures ∙ ap (refused_as 7) e
    ∙ sym (at7 p.args.s.now p.requires.0 p.requires.1 (in_order l.before.before.before.before.before.before.before.before.before.before) (in_limits l.before.before.before.before.before.before.before.before) (in_range g.before.before.before.before.before) (distinct b.before.before.before) (omega (arith, e, counts p)))

returns-6 : tie.Need-returns
returns-6 c =
    let p = start5 c in
    let d = c in
    let g = d in
    let l = g in
    rw (told l.before.before.before.before.before.before.before)
    (sym
    (rows_checked p.args.s.now
    (record {
      short = p.requires.0;
      no_bad = p.requires.1;
      in_order = in_order l.before.before.before.before.before.before.before.before.before;
      in_limits = in_limits l.before.before.before.before.before.before.before;
      in_range = in_range g.before.before.before.before;
      distinct = distinct d.before.before;
      in_verdict = in_verdict c;
    })))

pub lines_checked_spec : {M : Type 1} → statement M
lines_checked_spec =
    tie.close
    (tie.spec
    (λ c κs. search rules)
    (λ c κs. spanned c)
    (λ c κs. search rules)
    returns
    (λ c κs. spanned c.before.before)
    (λ c κs. search rules)
    returns-2
    (λ c κs. counted c.before)
    (λ c κs. search rules)
    returns-3
    add-from
    add-from-2
    row6-requires
    (λ c κs. search rules)
    returns-4
    row7-requires
    (λ c κs. search rules)
    returns-5
    returns-6)
