-- `sheet_lines::texts::text_length` meets its contract, by what stands after the text.
use Rattle.std.proofs.Common.{◌≡◌, ◌∙◌, true, false, sym, length, drop}
use Rattle.sheet.specs.Line.{spelling, spaces}
use Rattle.sheet_lines.specs.TextLaws.{text_length_blank, text_length_other}
use Rattle.sheet_lines.proofs.texts.text_length.Goals as goal

pub returns-then-blank : goal.returns-then-blank
returns-then-blank c =
    let t = c.args.t.now in
    let g : spaces (drop (length (spelling t)) t) ≡ true = rw (← c.spelled-n.ensures, ← c.blank.ensures) c.if-blank.true in
    c.spelled-n.ensures ∙ sym (text_length_blank t g)

pub returns-else-blank : goal.returns-else-blank
returns-else-blank c =
    let t = c.args.t.now in
    let g : spaces (drop (length (spelling t)) t) ≡ false = rw (← c.spelled-n.ensures, ← c.blank.ensures) c.if-blank.false in
    sym (text_length_other t g)
