-- `decl_lines::good_later` meets its contract: no other line after F in the alphabet is of the header.
use Rattle.std.proofs.Common.{◌≢◌, ◌∙◌, ◌<◌, sym, arith, length}
use Rattle.std.proofs.lemmas.Grind.{common_steps}
use Rattle.walk_cells.specs.Cells.{lines_of}
use Rattle.walk_cells.specs.CellsLaws.{length_lines_of}
use Rattle.meaning.specs.Rows.{good_numbers}
use Rattle.row5_ranges.specs.DeclLinesLaws.{no_name, no_type}
use Rattle.row5_ranges.proofs.decl_lines.good_later.Goals as goal

pub returns-in_default : goal.returns-in_default
unfolding good_numbers
returns-in_default c =
    let a = c.args in
    let p = c.requires in
    let ls = lines_of a.t.now in
    let x = c.letter-letter.result in
    let e = c.letter-letter.ensures in
    let i : a.i < length ls = omega (arith, length_lines_of a.t.now) in
    let nn : x ≢ 78 = λ q. no_name ls a.names a.args a.types p.counted a.i p.types_bound.0 i (sym e ∙ q) in
    let nt : x ≢ 89 = λ q. no_type ls a.names a.args a.types p.counted a.i p.types_bound.0 i (sym e ∙ q) in
    grind (arith, common_steps)
