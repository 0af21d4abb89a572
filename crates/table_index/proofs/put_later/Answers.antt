-- `table_index::put_later` meets its contract, by the letter of the line.
use Rattle.std.proofs.Common.{inr, arith}
use Rattle.table_index.specs.IndexLaws.{letter_read, is_letter, head_read, no_letter, line_fits, param_room, param_next, other_next}
use Rattle.table_index.proofs.put_later.Goals as goal

pub bounds-t-i : goal.bounds-t-i
bounds-t-i c = (letter_read _ _ _ _ c.requires.reached c.requires.i_in_bounds.0).0

pub put_decl-requires : goal.put_decl-requires
put_decl-requires c =
    let p = c.requires in
    record { reached = p.reached; i_in_bounds = (p.i_in_bounds.0, head_read _ _ _ _ p.reached p.i_in_bounds.0 (inr c.in-73.is)) }

pub put_place-requires : goal.put_place-requires
put_place-requires c =
    let p = c.requires in
    (param_room _ _ _ _ p.reached p.i_in_bounds.0 (is_letter _ _ _ _ p.reached p.i_in_bounds.0 80 c.in-80.is), (line_fits _ _ _ _ p.reached p.i_in_bounds.0).line)

pub overflow_add-result : goal.overflow_add-result
overflow_add-result c = omega (arith, (line_fits _ _ _ _ c.requires.reached c.requires.i_in_bounds.0).params)

pub returns-in-80 : goal.returns-in-80
returns-in-80 c =
    let p = c.requires in
    param_next _ _ _ _ p.reached p.i_in_bounds.0 (is_letter _ _ _ _ p.reached p.i_in_bounds.0 80 c.in-80.is) _ c.put_place.ensures

pub returns-in_default : goal.returns-in_default
returns-in_default c =
    let p = c.requires in
    let l = (letter_read _ _ _ _ p.reached p.i_in_bounds.0).1 in
    other_next _ _ _ _ p.reached p.i_in_bounds.0
    (no_letter _ _ _ _ p.reached p.i_in_bounds.0 68 (λ e. omega (arith, l)))
    (no_letter _ _ _ _ p.reached p.i_in_bounds.0 73 (λ e. omega arith))
    (no_letter _ _ _ _ p.reached p.i_in_bounds.0 80 (λ e. omega arith))
    (no_letter _ _ _ _ p.reached p.i_in_bounds.0 67 (λ e. omega (arith, l)))
    (no_letter _ _ _ _ p.reached p.i_in_bounds.0 70 (λ e. omega (arith, l)))
