-- `walk_decode::put_named` meets its contract: its number and its text.
use Rattle.std.proofs.Common.{◌≡◌, ◌+◌, ◌*◌, ◌-◌, arith, sym, ◌∙◌, take, drop}
use Rattle.sheet.specs.Line.{cell}
use Rattle.sheet_lines.specs.Text.{text_length}
use Rattle.walk_decode.specs.DecodeLaws.{cell_first, named_filled, named_put, number_none, text_none}
use Rattle.walk_decode.proofs.put_named.Goals as goal

pub returns-in_default : goal.returns-in_default
returns-in_default c =
    let w = c.args.w in
    let l = c.args.l.now in
    let n : cell w l 0 ≡ c.short_number.result = sym (c.short_number.ensures ∙ cell_first w l) in
    number_none w l _ (rw (n, c.in_default.is))

pub returns-then-text_length-eq0 : goal.returns-then-text_length-eq0
returns-then-text_length-eq0 c =
    let w = c.args.w in
    let l = c.args.l.now in
    let e : 5 * w + 1 - (1 + w) ≡ 4 * w = omega arith in
    text_none w l _ (rw e at (sym c.text_length.ensures ∙ c.if-text_length-eq0.true))

pub returns : goal.returns
returns c =
    let w = c.args.w in
    let l = c.args.l.now in
    let e : 5 * w + 1 - (1 + w) ≡ 4 * w = omega arith in
    let t : c.text_length.result ≡ text_length (take (4 * w) (drop (1 + w) l)) = rw (← e) c.text_length.ensures in
    let n : cell w l 0 ≡ c.short_number.result = sym (c.short_number.ensures ∙ cell_first w l) in
    named_put w l _ c.in-Some.n (n ∙ c.in-Some.is) (omega arith) (named_filled c.args.c.now _ _ _ c.requires.3 c.from.ensures (c.fill.ensures.after (λ y e. e)))
