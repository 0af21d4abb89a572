-- `walk_decode::put_line` meets its contract: the last byte and the letter lead to the case of `decode` that they pick. Assumes nothing.
use mathlib.Core.Path.{sym, ◌∙◌}
use borrow.Author.Rules.{rules}
use Rattle.sheet_lines.specs.ShapeLaws.{decode_last, decode_is_named, decode_is_row, decode_unknown}
use Rattle.walk_decode.specs.DecodeLaws.{put_bad}
use Rattle.walk_decode.proofs.put_line.Statement.{statement}
use Rattle.walk_decode.proofs.put_line.Tie as tie

returns : tie.Need-returns-then-l-w-ne10
returns c = let a = c.args in put_bad _ _ (decode_last a.w a.l.now c.if-l-w-ne10.true)

returns-2 : tie.Need-returns-then-l-eq78
returns-2 c =
    let a = c.args in
    rw (decode_is_named a.w a.l.now c.if-l-w-ne10.false c.if-l-eq78.true) c.put_named.ensures

returns-3 : tie.Need-returns-then-has_numbers
returns-3 c =
    let a = c.args in
    let h = c in
    rw (decode_is_row a.w a.l.now c.if-l-w-ne10.false (sym h.has_numbers.ensures ∙ h.if-has_numbers.true)) c.put_row.ensures

returns-4 : tie.Need-returns
returns-4 c =
    let a = c.args in
    put_bad _ _ (decode_unknown a.w a.l.now c.if-l-w-ne10.false c.if-l-eq78.false (sym c.has_numbers.ensures ∙ c.if-has_numbers.false))

pub put_line_spec : {M : Type 1} → statement M
put_line_spec =
    tie.close
    (tie.spec
    (λ c. search rules)
    (λ c. search rules)
    (λ c. search rules)
    returns
    (λ c. search rules)
    (λ c κs. search rules)
    (λ c. search rules)
    returns-2
    (λ c. search rules)
    (λ c κs. search rules)
    (λ c κs. search rules)
    (λ c. search rules)
    returns-3
    returns-4)
