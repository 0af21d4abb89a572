-- `table_sizes::put_header` meets its contract, cell after cell. Assumes nothing.
use Prim.Native.Nat.{◌+◌}
use native.Mathlib.Omega.{arith}
use lib.ListN.{take}
use lib.Seq.{length-sets, lt-length-sets}
use mir.Syntax.{w32, w64}
use borrow.Author.Rules.{rules, Fits-under}
use Rattle.table_access.specs.Tables.{header}
use Rattle.table_sizes.specs.FillingLaws.{places_small, header_small, header_put}
use Rattle.table_sizes.proofs.put_header.Goals as goal

pub returns : goal.returns
unfolding header
returns c = let a = c in header_put a.args.z a.args.t.now (omega (arith, a.requires.t_len))
