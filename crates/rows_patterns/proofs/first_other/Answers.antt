-- `rows_patterns::first_other` meets its contract: the letter of a line is the byte that is read. Assumes nothing.
use Rattle.std.proofs.Common.{◌≡◌, refl, sym, ap, ◌∙◌, Bool, not, List, ℕ, arith, get_or, eq-eqb, ne_eqb}
use Rattle.sheet.specs.Line.{letter}
use Rattle.sheet.specs.Sheet.{first, count}
use Rattle.sheet.proofs.FirstLaws.{first_more, first_found}
use Rattle.meaning.specs.Program.{is}
use Rattle.meaning.specs.Rows.{raw}
use Rattle.meaning_patterns.specs.Patterns.{pattern_line}
use Rattle.rows_patterns.specs.KeptLaws.{raw_letter}
use Rattle.rows_patterns.proofs.first_other.Goals as goal

abbrev other : List ℕ → ℕ → Bool
other z i = not (is pattern_line (raw 6 z i))

pub loop-i-init : goal.loop-i-init
unfolding first
loop-i-init c = refl

pub returns-then-l-ne81 : goal.returns-then-l-ne81
returns-then-l-ne81 c =
    let z = c.args.z.now in
    let o = c.loop-i in
    let e : letter (raw 6 z o.i) ≡ get_or c.line_bytes-l.result.now 0 0 = raw_letter z o.i ∙ ap (λ (l : List ℕ). get_or l 0 0) (sym c.line_bytes-l.ensures.0) in
    sym (first_found (other z) (count 6 z) o.i (omega arith) o.invariant (ap not (ne_eqb _ pattern_line (λ h. c.if-l-ne81.true (sym e ∙ h)))))

pub loop-i-preserved : goal.loop-i-preserved
loop-i-preserved c =
    let z = c.args.z.now in
    let o = c.loop-i in
    let e : letter (raw 6 z o.i) ≡ get_or c.line_bytes-l.result.now 0 0 = raw_letter z o.i ∙ ap (λ (l : List ℕ). get_or l 0 0) (sym c.line_bytes-l.ensures.0) in
    first_more (other z) o.i o.invariant (ap not (eq-eqb _ pattern_line (e ∙ c.if-l-ne81.false)))

pub returns : goal.returns
returns c =
    let z = c.args.z.now in
    let e : c.loop-i.i ≡ count 6 z = omega arith in
    sym (rw e at c.loop-i.invariant)
