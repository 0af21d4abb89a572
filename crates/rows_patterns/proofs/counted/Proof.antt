-- `rows_patterns::counted` meets its contract, by the line's letter. Assumes nothing.
use mathlib.Core.Path.{◌≡◌, ap, sym, ◌∙◌}
use mathlib.Core.Bool.{Bool}
use mathlib.Core.List.{List}
use lib.ListN.{get_or}
use borrow.Author.Rules.{rules}
use borrow.Author.Tests.{eq-eqb, ne_eqb}
use Prim.Native.Nat.{ℕ, ◌+◌}
use Rattle.number_columns.specs.Column.{pick}
use Rattle.sheet.specs.Line.{letter}
use Rattle.sheet.specs.Sheet.{line}
use Rattle.meaning.specs.Program.{name_line}
use Rattle.rows_patterns.specs.KeptLaws.{line_letter}
use Rattle.rows_patterns.proofs.counted.Statement.{statement}
use Rattle.rows_patterns.proofs.counted.Tie as tie

-- the letter of line i is the byte that was read
letter_is : (c : tie.After-shared_slice_known-2-1) → (let p = c in letter (line 6 p.args.a.now p.args.i) ≡ get_or c.line_bytes-l.result.now 0 0)
letter_is c =
    let p = c in
    line_letter p.args.a.now p.args.i p.requires.1 p.requires.0 ∙ ap (λ (l : List ℕ). get_or l 0 0) (sym c.line_bytes-l.ensures.0)

returns : tie.Need-returns-then-l-eq78
returns c =
    let n = c.args.names in
    ap (λ (b : Bool). pick b (n + 1) n) (sym (eq-eqb _ name_line (letter_is c.before ∙ c.if-l-eq78.true)))

returns-2 : tie.Need-returns
returns-2 c =
    let n = c.args.names in
    ap (λ (b : Bool). pick b (n + 1) n) (sym (ne_eqb _ name_line (λ e. c.if-l-eq78.false (sym (letter_is c.before) ∙ e))))

pub counted_spec : {M : Type 1} → statement M
counted_spec =
    tie.close
    (tie.spec
    (λ c κs. search rules)
    (λ c. search rules)
    (λ c. search rules)
    returns
    returns-2)
