-- `table_index::put_line` meets its contract, by the letter of the line. Assumes nothing.
use mathlib.Core.Logic.{inl}
use native.Mathlib.Omega.{arith}
use Rattle.table_access.specs.Tables.{lines_in}
use Rattle.table_index.specs.IndexLaws.{letter_read, head_read, member_read}
use borrow.Author.Rules.{rules}
use Rattle.table_index.proofs.put_line.Goals as goal

pub bounds-t-i : goal.bounds-t-i
bounds-t-i c = let a = c in (letter_read (lines_in a.args.t.now) a.args.t.now a.args.i a.args.c a.requires.reached a.requires.i_in_bounds.0).0

pub put_later-requires-clause-i_in_bounds : goal.put_later-requires-clause-i_in_bounds
put_later-requires-clause-i_in_bounds c = let a = c in (a.requires.i_in_bounds.0, omega (arith, c.if-letter-gt70.true, (letter_read (lines_in a.args.t.now) a.args.t.now a.args.i a.args.c a.requires.reached a.requires.i_in_bounds.0).1))

pub put_decl-requires-clause-i_in_bounds : goal.put_decl-requires-clause-i_in_bounds
put_decl-requires-clause-i_in_bounds c = let a = c in (a.requires.i_in_bounds.0, head_read (lines_in a.args.t.now) a.args.t.now a.args.i a.args.c a.requires.reached a.requires.i_in_bounds.0 (inl c.if-letter-eq68.true))

pub put_member-requires-clause-i_in_bounds : goal.put_member-requires-clause-i_in_bounds
put_member-requires-clause-i_in_bounds c = let a = c in (a.requires.i_in_bounds.0, member_read (lines_in a.args.t.now) a.args.t.now a.args.i a.args.c a.requires.reached a.requires.i_in_bounds.0 a.requires.i_in_bounds.1 c.if-letter-gt70.false c.if-letter-eq68.false)
