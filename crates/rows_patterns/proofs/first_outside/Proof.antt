-- `rows_patterns::first_outside` meets its contract: no line is bad, so the cells hold all of them. Assumes nothing.
use mathlib.Core.Path.{refl, ◌∙◌}
use Prim.Native.Nat.{◌*◌, ◌/◌}
use native.Mathlib.Omega.{arith}
use lib.ListN.{length}
use borrow.Author.Rules.{rules}
use Rattle.rows_patterns.specs.KeptLaws.{row2_none, ranged}
use Rattle.rows_patterns.proofs.first_outside.Statement.{statement}
use Rattle.rows_patterns.proofs.first_outside.Tie as tie

returns : tie.Need-returns
returns c =
    let d = c in
    let p = d in
    let z = p.args.z.now in
    let y = d.decode_lines.ensures in (
      ranged z p.args.q.now d.decode_lines.new.t (length z / 32 * 6) p.requires.0 refl (omega (arith, p.requires.0.few, p.requires.1))
          (y.holds (y.place ∙ row2_none z p.requires.0.no_bad)) p.args.names c.row5.result c.row5.ensures,
      c.q-1.given.1,
    )

pub first_outside_spec : {M : Type 1} → statement M
first_outside_spec =
    tie.close
    (tie.spec
    (λ c. search rules)
    (λ c. search rules)
    (λ c. search rules)
    (λ c. search rules)
    (λ c κs. search rules)
    (λ c. search rules)
    (λ c. search rules)
    (λ c. search rules)
    (λ c κs. search rules)
    (λ c. search rules)
    returns)
