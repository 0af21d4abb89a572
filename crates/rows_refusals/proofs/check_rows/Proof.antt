-- `rows_refusals::check_rows` meets its contract: row 2, and the other rows where it passed. Assumes nothing.
use mathlib.Core.Path.{◌≡◌, ap, sym, ◌∙◌}
use mathlib.Core.List.{map}
use Prim.Native.Nat.{◌*◌}
use native.Mathlib.Omega.{arith}
use lib.ListN.{length}
use borrow.Author.Rules.{rules}
use Rattle.sheet.specs.Sheet.{count, lines, row2}
use Rattle.walk_cells.specs.Cells.{lines_of, bare}
use Rattle.walk_decode.specs.DecodeLaws.{decoded_lines}
use Rattle.rows_refusals.specs.Rows.{refused_as}
use Rattle.rows_refusals.specs.RowsLaws.{no_bad_at, at2}
use Rattle.rows_refusals.specs.PassedLaws.{checks_refused, checks_lines}
use Rattle.rows_refusals.proofs.check_rows.Statement.{statement}
use Rattle.rows_refusals.proofs.check_rows.Tie as tie

returns : tie.Need-returns-then-bad-n
returns c =
    let d = c in
    let p = d in
    let e = d.decode_lines-bad.ensures.place in
    checks_refused p.args.s.now d.decode_lines-bad.new.t c.refused.result 2 d.decode_lines-bad.result c.refused.ensures
    (at2 p.args.s.now p.requires.0 (omega (arith, e)) ∙ ap (refused_as 2) (sym e))

-- ---- where row 2 does not apply
abbrev start : tie.Else-bad-n → tie.Start
start c = c.before.before.before.before.before.before.before

no_bad : (c : tie.Else-bad-n) → row2 6 (start c).args.s.now ≡ count 6 (start c).args.s.now
no_bad c =
    let d = c in
    no_bad_at (start c).args.s.now d.decode_lines-bad.result d.decode_lines-bad.ensures.place c.if-bad-n.false

-- the cells are those of the lines
held : (c : tie.Else-bad-n) → (let s = (start c).args.s.now in let t = c.decode_lines-bad.new.t in (length t ≡ 6 * count 6 s) × (lines_of t ≡ map bare (lines 6 s)))
held c =
    let d = c in
    let p = start c in
    let r = d.decode_lines-bad.ensures in
    decoded_lines 6 p.args.s.now p.args.t.now d.decode_lines-bad.new.t p.requires.1 (r.holds (r.place ∙ no_bad c))

lines-checked-requires : tie.Need-lines_checked-requires
lines-checked-requires c κs = ((start c).requires.0, no_bad c, (held c).1)

returns-2 : tie.Need-returns
returns-2 c =
    let b = c in
    let h = held b.before in
    checks_lines (start b.before).args.s.now b.decode_lines-bad.new.t c.lines_checked.result c.lines_checked.ensures (no_bad b.before) h.0 h.1

pub check_rows_spec : {M : Type 1} → statement M
check_rows_spec =
    tie.close
    (tie.spec
    (λ c κs. search rules)
    (λ c κs. search rules)
    (λ c. search rules)
    returns
    lines-checked-requires
    (λ c. search rules)
    returns-2)
