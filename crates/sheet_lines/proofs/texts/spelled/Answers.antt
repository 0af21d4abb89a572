-- `sheet_lines::texts::spelled` meets its contract: the bytes passed are text.
use Rattle.std.proofs.Common.{◌≡◌, ◌∙◌, ◌+◌, true, false, suc, arith, add-one, length, get_or, drop, drop_of_length-le, sym}
use Rattle.sheet.specs.Line.{graphic, spelling}
use Rattle.sheet_lines.specs.TextLaws.{spelling_here}
use Rattle.sheet_lines.proofs.texts.spelled.Goals as goal

pub returns-then-not-graphic : goal.returns-then-not-graphic
returns-then-not-graphic c =
    let i = c.loop-i.i in
    let t = c.args.t.now in
    let g : graphic (get_or t i 0) ≡ false = sym c.graphic.ensures ∙ c.if-not-graphic.true in
    let e : length (spelling (drop i t)) ≡ 0 = spelling_here t i (omega arith) ∙ rw g in
    omega (arith, c.loop-i.invariant)

pub loop-i-preserved : goal.loop-i-preserved
loop-i-preserved c =
    let i = c.loop-i.i in
    let t = c.args.t.now in
    let g : graphic (get_or t i 0) ≡ true = sym c.graphic.ensures ∙ c.if-not-graphic.false in
    let e : length (spelling (drop i t)) ≡ suc (length (spelling (drop (i + 1) t))) = spelling_here t i (omega arith) ∙ rw (g, add-one) in
    omega (arith, c.loop-i.invariant)

pub returns : goal.returns
unfolding spelling
returns c =
    let t = c.args.t.now in
    let e : length (spelling (drop c.loop-i.i t)) ≡ 0 = rw (drop_of_length-le t {i = c.loop-i.i} (omega arith)) in
    omega (arith, c.loop-i.invariant)
