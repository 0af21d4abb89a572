-- `build_patterns::flags_of` meets its contract: there are at most 256 Q lines. Assumes nothing.
use borrow.Author.Rules.{rules}
use Rattle.walk_cells.specs.CellsLaws.{length_lines_of}
use Rattle.build_patterns.proofs.flags_of.Statement.{statement}
use Rattle.build_patterns.proofs.flags_of.Tie as tie

flags-by-requires : tie.Need-flags_by-requires
flags-by-requires c κs =
    let s = c in
    let n = length_lines_of s.args.q.now in
    (s.requires, (search rules, search rules))

pub flags_of_spec : {M : Type 1} → statement M
flags_of_spec =
    tie.close
    (tie.spec
    (λ c. search rules)
    (λ c. search rules)
    (λ c. search rules)
    (λ c. search rules)
    (λ c. search rules)
    (λ c. search rules)
    flags-by-requires
    (λ c. search rules)
    (λ c. search rules))
