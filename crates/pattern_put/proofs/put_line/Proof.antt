-- `put_line` meets its contract: a line of cells is its letter and its numbers. Assumes nothing.
use mathlib.Core.Path.{◌≡◌, sym, ◌∙◌}
use native.Mathlib.Omega.{arith}
use borrow.Author.Rules.{rules}
use Rattle.pattern_put.specs.PutsLaws.{line_parts}
use Rattle.pattern_put.proofs.put_line.Statement.{statement}
use Rattle.pattern_put.proofs.put_line.Tie as tie

cast-letter : tie.Need-overflow_cast-letter
cast-letter c =
    let a = c.args in
    record { fits = rw c.letter-letter.ensures (c.requires.2 a.i) }

returns : tie.Need-returns
returns c =
    let n = c in
    let a = n.args in
    let p = n.requires in
    let e = line_parts a.q.now a.i p.0 in
    rw (
      e,
      ← n.letter-letter.ensures,
      ← n.number.ensures,
      ← n.number-2.ensures,
      ← n.number-3.ensures,
      ← n.number-4.ensures,
      ← n.number-5.ensures,
    ) c.row_at.ensures

pub put_line_spec : {M : Type 1} → statement M
put_line_spec =
    tie.close
    (tie.spec
    (λ c κs. search rules)
    cast-letter
    (λ c κs. search rules)
    (λ c κs. search rules)
    (λ c κs. search rules)
    (λ c κs. search rules)
    (λ c κs. search rules)
    (λ c κs. search rules)
    (λ c. search rules)
    returns)
