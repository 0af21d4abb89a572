-- `row6_distinct::row6` meets its contract: its place is the lesser of those of spellings and of names. Assumes nothing.
use Rattle.std.proofs.Common.{sym, ◌∙◌}
use Rattle.row6_distinct.specs.WaysLaws.{first_row6}
use Rattle.row6_distinct.specs.BareLaws.{ranged_cells, header_cells, repeated_cells}
use Rattle.row6_distinct.proofs.row6.Goals as goal

pub repeated-named-requires : goal.repeated-named-requires
repeated-named-requires c =
    let s = c.args.s.now in
    let t = c.args.t.now in
    let q = c.requires in
    record { ranged = ranged_cells s t q.t_value q.ranged; from_value = q.from_value ∙ sym (header_cells s t q.t_value) }

pub returns : goal.returns
returns c =
    rw (c.min.ensures, c.repeated-named.ensures, repeated_cells c.args.s.now c.args.t.now c.requires.t_value, c.respelled-spelled.ensures) (sym (first_row6 _ _))
