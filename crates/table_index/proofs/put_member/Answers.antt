-- `table_index::put_member` meets its contract, by the section.
use Rattle.std.proofs.Common.{◌≤◌, Bool, true, false, arith}
use Rattle.number_columns.specs.Column.{pick}
use Rattle.table_index.specs.IndexLaws.{line_fits, member_room, member_next}
use Rattle.table_index.proofs.put_member.Goals as goal

bits : (b : Bool) → (pick b 0 1 ≤ 1) × (pick b 1 0 ≤ 1)
bits true = (omega arith, omega arith)
bits false = (omega arith, omega arith)

pub overflow_add-ctors : goal.overflow_add-ctors
overflow_add-ctors c = omega (arith, (line_fits _ _ _ _ c.requires.reached c.requires.i_in_bounds.0).ctors, c.pick.ensures, (bits c.args.field).0)

pub overflow_add-fields : goal.overflow_add-fields
overflow_add-fields c = omega (arith, (line_fits _ _ _ _ c.requires.reached c.requires.i_in_bounds.0).fields, c.pick-2.ensures, (bits c.args.field).1)

pub put_place-requires : goal.put_place-requires
put_place-requires c =
    let p = c.requires in
    (rw (c.pick-section.ensures, c.pick-place.ensures) (member_room _ _ _ _ p.reached p.i_in_bounds.0 c.args.field p.i_in_bounds.1), (line_fits _ _ _ _ p.reached p.i_in_bounds.0).line)

pub returns : goal.returns
returns c =
    let p = c.requires in
    rw (c.pick.ensures, c.pick-2.ensures)
    (member_next _ _ _ _ p.reached p.i_in_bounds.0 c.args.field p.i_in_bounds.1 c.put_place.new.t (rw (c.pick-section.ensures, c.pick-place.ensures) at c.put_place.ensures))
