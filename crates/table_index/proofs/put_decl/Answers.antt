-- `table_index::put_decl` meets its contract: its row and its name.
use Rattle.std.proofs.Common.{arith}
use Rattle.table_index.specs.IndexLaws.{begin_room, name_read, at_read, decls_fit, store_room, decl_filled, decl_next}
use Rattle.table_index.proofs.put_decl.Goals as goal

pub put_begin-requires : goal.put_begin-requires
put_begin-requires c = let p = c.requires in begin_room _ _ _ _ p.reached p.i_in_bounds.0 p.i_in_bounds.1

pub bounds-t-i : goal.bounds-t-i
bounds-t-i c = let p = c.requires in (name_read _ _ _ _ p.reached p.i_in_bounds.0 p.i_in_bounds.1 _ c.put_begin.ensures).0

pub bounds-t-10 : goal.bounds-t-10
bounds-t-10 c = let p = c.requires in (at_read _ _ _ _ p.reached p.i_in_bounds.0 p.i_in_bounds.1 _ c.put_begin.ensures).0

pub overflow_cast-t : goal.overflow_cast-t
overflow_cast-t c = let p = c.requires in omega (arith, decls_fit _ _ _ _ p.reached p.i_in_bounds.0 p.i_in_bounds.1)

pub overflow_add-t : goal.overflow_add-t
overflow_add-t c = let p = c.requires in omega (arith, store_room _ _ _ _ p.reached p.i_in_bounds.0 p.i_in_bounds.1 _ c.put_begin.ensures)

pub offset_bounds-t-at : goal.offset_bounds-t-at
offset_bounds-t-at c = let p = c.requires in omega (arith, store_room _ _ _ _ p.reached p.i_in_bounds.0 p.i_in_bounds.1 _ c.put_begin.ensures)

pub bounds-t-at : goal.bounds-t-at
bounds-t-at c = let p = c.requires in store_room _ _ _ _ p.reached p.i_in_bounds.0 p.i_in_bounds.1 _ c.put_begin.ensures

pub overflow_add-result : goal.overflow_add-result
overflow_add-result c = let p = c.requires in omega (arith, decls_fit _ _ _ _ p.reached p.i_in_bounds.0 p.i_in_bounds.1)

pub returns : goal.returns
returns c =
    let p = c.requires in
    decl_next _ _ _ _ p.reached p.i_in_bounds.0 p.i_in_bounds.1 _ (decl_filled _ _ _ _ p.reached p.i_in_bounds.0 p.i_in_bounds.1 _ c.put_begin.ensures)
