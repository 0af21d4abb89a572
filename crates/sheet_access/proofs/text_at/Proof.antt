-- `sheet_access::text_at` meets its contract: the part lent is the text of line i. Assumes nothing.
use mathlib.Core.Path.{◌≡◌, ◌∙◌, ap}
use Prim.Native.Nat.{◌≤◌}
use native.Mathlib.Omega.{arith}
use native.Mathlib.Nat.{add-sub_cancel_left}
use Rattle.sheet.specs.Line.{decode}
use Rattle.sheet.proofs.SheetLaws.{line_past}
use Rattle.sheet_lines.specs.Shape.{shape_of, text_in}
use Rattle.sheet_access.specs.Access.{text_at}
use Rattle.sheet_access.specs.AccessLaws.{text_fits, text_lent}
use borrow.Author.Rules.{rules}
use Rattle.sheet_access.proofs.text_at.Statement.{statement}
use Rattle.sheet_access.proofs.text_at.Tie as tie

returns : tie.Need-returns-then-i-s
unfolding text_at
returns c = rw (line_past 6 _ _ c.if-i-s.true)

-- the length that is read, by the line
length_is : (c : tie.After-text_in-end) → c.text_in-end.result ≡ text_in (shape_of (decode 6 c.line_bytes-line.result.now))
length_is c = c.text_in-end.ensures ∙ ap text_in c.read_line.ensures

fits : (c : tie.After-text_in-end) → c.text_in-end.result ≤ 24
fits c = text_fits 6 c.text_in-end.result c.line_bytes-line.result.now (length_is c)

add-end : tie.Need-overflow_add-end
add-end c = omega (arith, fits c)

part-result-end-2 : tie.Need-slice_bounds-result-end-2
part-result-end-2 c = omega (arith, fits c, c.line_bytes-line.ensures.1)

returns-2 : tie.Need-returns
returns-2 c =
    let a = c.args in
    let l = c.line_bytes-line in
    rw add-sub_cancel_left (text_lent 6 c.text_in-end.result l.result.now (length_is c.before) a.s.now a.i l.ensures.0)

pub text_at_spec : {M : Type 1} → statement M
text_at_spec =
    tie.close
    (tie.spec
    (λ c. search rules)
    (λ c. search rules)
    (λ c. search rules)
    returns
    (λ c κs. search rules)
    (λ c κs. search rules)
    (λ c κs. search rules)
    add-end
    (λ c. search rules)
    (λ c. search rules)
    part-result-end-2
    returns-2)
