-- `table_index::fill` meets its contract, section after section. Assumes nothing.
use native.Mathlib.Omega.{arith}
use borrow.Author.Rules.{rules}
use Rattle.table_index.specs.WalkLaws.{sizes_fit, names_room, walk_room, filled_table}
use Rattle.table_index.proofs.fill.Goals as goal

pub overflow_add-from : goal.overflow_add-from
overflow_add-from c = let a = c in let k = sizes_fit a.args.z a.args.t.now a.requires in omega (arith, k.0, k.1)

pub overflow_add-from-2 : goal.overflow_add-from-2
overflow_add-from-2 c = let a = c in let k = sizes_fit a.args.z a.args.t.now a.requires in omega (arith, k.0, k.1)

pub put_header-requires-clause-z_bound : goal.put_header-requires-clause-z_bound
put_header-requires-clause-z_bound c = let a = c in sizes_fit a.args.z a.args.t.now a.requires

pub overflow_cast-z : goal.overflow_cast-z
overflow_cast-z c = let a = c in omega (arith, (sizes_fit a.args.z a.args.t.now a.requires).0)

pub put_all-requires : goal.put_all-requires
put_all-requires c = let a = c in (names_room a.args.z a.args.t.now a.requires c.put_header.new.t c.put_header.ensures).1

pub put_lines-requires-clause-begun : goal.put_lines-requires-clause-begun
put_lines-requires-clause-begun c = let a = c in let r = walk_room a.args.z a.args.t.now a.requires c.put_header.new.t c.put_header.ensures c.put_all.new.t c.put_all.ensures in r.0

pub put_lines-requires-clause-from_value : goal.put_lines-requires-clause-from_value
put_lines-requires-clause-from_value c = let a = c in let r = walk_room a.args.z a.args.t.now a.requires c.put_header.new.t c.put_header.ensures c.put_all.new.t c.put_all.ensures in (r.1, r.2)

pub returns : goal.returns
returns c = let a = c in filled_table a.args.z a.args.t.now a.requires c.put_header.new.t c.put_header.ensures c.put_all.new.t c.put_all.ensures c.put_lines.new.t c.put_lines.ensures
