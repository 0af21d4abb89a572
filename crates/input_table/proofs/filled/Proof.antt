-- `input_table::filled` meets its contract: the table has room. Assumes nothing.
use mathlib.Core.Path.{refl}
use Prim.Native.Nat.{◌≤◌}
use lib.ListN.{length}
use borrow.Author.Rules.{rules}
use Rattle.input_table.specs.TableLaws.{counted_of, cells_small, part_room, lined_of, filled_of}
use Rattle.input_table.proofs.filled.Statement.{statement}
use Rattle.input_table.proofs.filled.Tie as tie

sizes-requires : tie.Need-sizes-sizes-requires
sizes-requires c κs =
    let s = c in
    counted_of s.args.a.now s.args.t.now s.args.c s.requires _ refl

cells-requires : tie.Need-cells-m-requires
cells-requires c κs =
    let s = c in
    cells_small s.args.a.now s.args.t.now s.args.c s.requires c.sizes-sizes.result c.sizes-sizes.ensures

part-fill-end : tie.Need-slice_bounds-fill-end
part-fill-end c =
    let s = c in
    let h : c.cells-m.result ≤ length s.args.t.now = part_room s.args.a.now s.args.t.now s.args.c s.requires c.sizes-sizes.result c.sizes-sizes.ensures c.cells-m.result c.cells-m.ensures in
    search rules

fill-requires : tie.Need-fill-requires
fill-requires c κs =
    let s = c in
    let z = c.sizes-sizes in
    let m = c.cells-m in
    (lined_of s.args.a.now s.args.t.now s.args.c s.requires z.result z.ensures m.result m.ensures).ready

returns : tie.Need-returns
returns c =
    let s = c in
    let z = c.sizes-sizes in
    let m = c.cells-m in
    let f = c.fill in
    filled_of s.args.a.now s.args.t.now s.args.c s.requires z.result z.ensures m.result m.ensures f.new.t f.auto.t c.t-1.given.1 f.ensures.0 f.ensures.1

pub filled_spec : {M : Type 1} → statement M
filled_spec =
    tie.close
    (tie.spec
    sizes-requires
    cells-requires
    (λ c. search rules)
    (λ c. search rules)
    part-fill-end
    fill-requires
    (λ c. search rules)
    returns)
