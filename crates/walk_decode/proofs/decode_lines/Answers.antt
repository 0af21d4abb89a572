-- `walk_decode::decode_lines` meets its contract: each line that is put is the next one.
use Rattle.std.proofs.Common.{◌≡◌, ◌+◌, ◌*◌, arith, refl, sym, ◌∙◌, false}
use Rattle.sheet.specs.Format.{line_bytes}
use Rattle.sheet.specs.Line.{is_bad}
use Rattle.sheet.specs.Sheet.{first, count, line, lines, lines_from, row2}
use Rattle.sheet.proofs.FirstLaws.{first_more, first_found}
use Rattle.walk_cells.specs.Cells.{cells}
use Rattle.walk_decode.specs.Decode.{Put}
use Rattle.walk_decode.specs.DecodeLaws.{line_part, cells_more}
use Rattle.walk_decode.proofs.decode_lines.Goals as goal

pub loop-i-init : goal.loop-i-init
unfolding first cells lines_from
loop-i-init c = (refl, refl, refl)

pub returns-then-not-put_line : goal.returns-then-not-put_line
unfolding row2 line
returns-then-not-put_line c =
    let w = c.args.w in
    let s = c.args.s.now in
    let i = c.loop-i.i in
    let e : i * (5 * w + 2) ≡ line_bytes w * i = omega arith in
    let p : Put (line w s i) c.put_line.result c.put_line.new.c = rw (line_part w s i _ e) at c.put_line.ensures in
    record {
      place = sym (first_found (λ j. is_bad (line w s j)) (count w s) i (omega arith) c.loop-i.invariant.0 (rw (p.told, c.if-not-put_line.true)));
      holds = λ h. absurd (omega arith);
    }

pub loop-i-preserved : goal.loop-i-preserved
unfolding line
loop-i-preserved c =
    let w = c.args.w in
    let s = c.args.s.now in
    let l = c.loop-i in
    let t = c.if-not-put_line.false in
    let e : l.i * (5 * w + 2) ≡ line_bytes w * l.i = omega arith in
    let p : Put (line w s l.i) c.put_line.result c.put_line.new.c = rw (line_part w s l.i _ e) at c.put_line.ensures in
    let b : is_bad (line w s l.i) ≡ false = rw (p.told, t) in
    let r = cells_more w s l.t c.args.t.now _ l.i l.invariant.2 l.invariant.1 (omega arith) (p.holds t) in
    (first_more (λ j. is_bad (line w s j)) l.i l.invariant.0 b, r.1, r.0)

pub returns : goal.returns
unfolding row2 lines
returns c =
    let w = c.args.w in
    let s = c.args.s.now in
    let l = c.loop-i in
    let e : l.i ≡ count w s = omega arith in
    let m : count w s * 6 ≡ 6 * count w s = omega arith in
    record {
      place = sym (rw e at l.invariant.0);
      holds = λ h. l.invariant.2 ∙ rw (e, m);
    }
