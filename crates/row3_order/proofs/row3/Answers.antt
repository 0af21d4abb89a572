-- `row3_order::row3` meets its contract: what is due is what the lines passed leave due.
use Rattle.std.proofs.Common.{◌≡◌, ◌∙◌, ◌+◌, ◌<◌, Bool, List, ℕ, suc, add-one, ap, sym, arith, length, take}
use Rattle.sheet.specs.Line.{Line}
use Rattle.sheet.specs.Sheet.{first}
use Rattle.sheet.proofs.FirstLaws.{first_more, first_found}
use Rattle.walk_cells.specs.Cells.{lines_of}
use Rattle.walk_cells.specs.CellsLaws.{length_lines_of}
use Rattle.meaning.specs.declared.Due.{Due}
use Rattle.meaning.specs.declared.Due.TheVariants.{Header}
use Rattle.meaning.specs.Rows.{nth_line, due, due_after, is_broken, is_within, row3}
use Rattle.row3_order.specs.OrderLaws.{front, row3_step, row3_stop, due_next}
use Rattle.row3_order.proofs.row3.Goals as goal

-- row 3 applies at line i exactly if nothing fits after it
test : (ls : List Line) (q d : Due) (i : ℕ) (b : Bool) → q ≡ due_after (Header 0) (take i ls) → i < length ls → d ≡ due q (nth_line ls i) → b ≡ is_broken d → row3 ls i ≡ b
test ls q d i b e h k f = row3_step ls q i e h ∙ ap is_broken (sym k) ∙ sym f

-- after the last line
stop : (ls : List Line) (q : Due) (i : ℕ) (b : Bool) → q ≡ due_after (Header 0) (take i ls) → i ≡ length ls → b ≡ is_within q → row3 ls i ≡ b
stop ls q i b e h f = row3_stop ls q i e h ∙ sym f

pub loop-i-init : goal.loop-i-init
loop-i-init c =
    let f = front (lines_of c.args.t.now) c.args.r c.requires in
    record { due = c.due_after-q.ensures ∙ sym f.at; none = f.none }

pub returns-then-is_broken : goal.returns-then-is_broken
returns-then-is_broken c =
    let l = c.loop-i in
    let ls = lines_of c.args.t.now in
    let h : l.i < length ls = omega (arith, length_lines_of c.args.t.now) in
    sym (first_found (row3 ls) (suc (length ls)) l.i (omega arith) l.invariant.none (test ls l.q _ l.i _ l.invariant.due h c.due-q.ensures c.is_broken.ensures ∙ c.if-is_broken.true))

pub loop-i-preserved : goal.loop-i-preserved
loop-i-preserved c =
    let l = c.loop-i in
    let ls = lines_of c.args.t.now in
    let h : l.i < length ls = omega (arith, length_lines_of c.args.t.now) in
    record {
      due = rw add-one (c.due-q.ensures ∙ due_next ls l.q l.i l.invariant.due h);
      none = first_more (row3 ls) l.i l.invariant.none (test ls l.q _ l.i _ l.invariant.due h c.due-q.ensures c.is_broken.ensures ∙ c.if-is_broken.false);
    }

pub returns-then-is_within : goal.returns-then-is_within
returns-then-is_within c =
    let l = c.loop-i in
    let ls = lines_of c.args.t.now in
    let e : l.i ≡ length ls = omega (arith, c.requires.to_end, length_lines_of c.args.t.now) in
    sym (first_found (row3 ls) (suc (length ls)) l.i (omega arith) l.invariant.none (stop ls l.q l.i _ l.invariant.due e c.is_within.ensures ∙ c.if-is_within.true) ∙ omega (arith, length_lines_of c.args.t.now))

pub returns : goal.returns
returns c =
    let l = c.loop-i in
    let ls = lines_of c.args.t.now in
    let e : l.i ≡ length ls = omega (arith, c.requires.to_end, length_lines_of c.args.t.now) in
    let k : suc (length ls) ≡ l.i + 1 = omega arith in
    let f = first_more (row3 ls) l.i l.invariant.none (stop ls l.q l.i _ l.invariant.due e c.is_within.ensures ∙ c.if-is_within.false) in
    sym (ap (first (row3 ls)) k ∙ f ∙ omega (arith, length_lines_of c.args.t.now))
