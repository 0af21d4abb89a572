-- `sheet_lines::read_line` meets its contract: the last byte and the letter lead to the case of `decode` that they pick.
-- Assumes nothing.
use mathlib.Core.Path.{◌∙◌, ap, sym}
use borrow.Author.Rules.{rules}
use Rattle.sheet_lines.specs.Shape.{shape_of}
use Rattle.sheet.proofs.LineLaws.{decode_short}
use Rattle.sheet_lines.specs.ShapeLaws.{decode_last, decode_is_named, decode_is_row, decode_unknown}
use Rattle.sheet_lines.proofs.read_line.Statement.{statement}
use Rattle.sheet_lines.proofs.read_line.Tie as tie

returns : tie.Need-returns-then-l-lt-LINE
returns c = rw (decode_short 6 c.args.l.now c.if-l-lt-LINE.true)

returns-2 : tie.Need-returns-then-l-ne10
returns-2 c = rw (decode_last 6 c.args.l.now c.if-l-ne10.true)

returns-3 : tie.Need-returns-then-l-eq78
returns-3 c =
    let l = c.args.l.now in
    c.read_named.ensures ∙ sym (ap shape_of (decode_is_named 6 l c.if-l-ne10.false c.if-l-eq78.true))

returns-4 : tie.Need-returns-then-has_numbers
returns-4 c =
    let n = c in
    let l = n.args.l.now in
    c.read_row.ensures ∙ sym (ap shape_of (decode_is_row 6 l n.if-l-ne10.false (sym n.has_numbers.ensures ∙ c.if-has_numbers.true)))

returns-5 : tie.Need-returns
returns-5 c =
    let n = c in
    let l = n.args.l.now in
    rw (decode_unknown 6 l n.if-l-ne10.false n.if-l-eq78.false (sym n.has_numbers.ensures ∙ c.if-has_numbers.false))

pub read_line_spec : {M : Type 1} → statement M
read_line_spec =
    tie.close
    (tie.spec
    returns
    (λ c. search rules)
    returns-2
    (λ c. search rules)
    (λ c κs. search rules)
    returns-3
    (λ c. search rules)
    (λ c κs. search rules)
    (λ c κs. search rules)
    returns-4
    returns-5)
