-- `type_lists::is_list` meets its contract: no A line passed is too high.
use Rattle.std.proofs.Common.{◌≡◌, refl, sym, arith}
use Rattle.sheet.specs.Sheet.{first}
use Rattle.walk_cells.specs.Cells.{lines_of}
use Rattle.walk_cells.specs.CellsLaws.{length_lines_of}
use Rattle.row5_ranges.specs.TypeLists.{types_of}
use Rattle.row5_ranges.specs.TypeListsLaws.{list_empty, list_past, list_found, list_all, list_more, args_length, arg_type_from, args_within}
use Rattle.row5_ranges.proofs.type_lists.is_list.Goals as goal

pub returns-then-k-eq0 : goal.returns-then-k-eq0
returns-then-k-eq0 c =
    let a = c.args in
    sym (list_empty (types_of (lines_of a.t.now)) a.y a.at a.k c.if-k-eq0.true)

pub returns-then-at-k : goal.returns-then-at-k
returns-then-at-k c =
    let a = c.args in
    sym (list_past (types_of (lines_of a.t.now)) a.y a.at a.k c.if-k-eq0.false (omega (arith, args_length (lines_of a.t.now) a.names a.args a.types c.requires.counted)))

pub overflow_add-from : goal.overflow_add-from
overflow_add-from c =
    let a = c.args in
    omega (arith, args_within (lines_of a.t.now) a.names a.args a.types c.requires.counted, length_lines_of a.t.now)

pub loop-j-init : goal.loop-j-init
unfolding first
loop-j-init c = refl

pub overflow_add-from-in-loop-j : goal.overflow_add-from-in-loop-j
overflow_add-from-in-loop-j c =
    let a = c.args in
    omega (arith, args_within (lines_of a.t.now) a.names a.args a.types c.requires.counted, length_lines_of a.t.now)

pub number-requires : goal.number-requires
number-requires c =
    let a = c.args in
    (omega (arith, args_within (lines_of a.t.now) a.names a.args a.types c.requires.counted, length_lines_of a.t.now), omega arith)

pub returns-then-number-y : goal.returns-then-number-y
returns-then-number-y c =
    let a = c.args in
    let p = c.requires.counted in
    let j = c.loop-j.j in
    let t = arg_type_from (lines_of a.t.now) a.names a.args a.types p a.at j (omega arith) in
    sym (list_found (types_of (lines_of a.t.now)) a.y a.at a.k c.if-k-eq0.false (omega (arith, args_length (lines_of a.t.now) a.names a.args a.types p)) j (omega arith) (omega (arith, t, c.number.ensures)))

pub loop-j-preserved : goal.loop-j-preserved
loop-j-preserved c =
    let a = c.args in
    let j = c.loop-j.j in
    let t = arg_type_from (lines_of a.t.now) a.names a.args a.types c.requires.counted a.at j (omega arith) in
    list_more (types_of (lines_of a.t.now)) a.y a.at j (omega (arith, t, c.number.ensures)) c.loop-j.invariant

pub returns : goal.returns
returns c =
    let a = c.args in
    let e : c.loop-j.j ≡ a.k = omega arith in
    sym (list_all (types_of (lines_of a.t.now)) a.y a.at a.k c.if-k-eq0.false (omega (arith, args_length (lines_of a.t.now) a.names a.args a.types c.requires.counted)) (rw e at c.loop-j.invariant))
