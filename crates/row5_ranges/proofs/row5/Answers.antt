-- `row5_ranges::row5` meets its contract: its place is in the first section that has one.
use Rattle.std.proofs.Common.{◌+◌, arith, length}
use Rattle.walk_cells.specs.Cells.{lines_of}
use Rattle.meaning.specs.Rows.{row5}
use Rattle.row5_ranges.specs.RangesLaws.{first_earlier, first_past, header_within, within}
use Rattle.row5_ranges.proofs.row5.Goals as goal

pub returns-then-name-names : goal.returns-then-name-names
returns-then-name-names c =
    let a = c.args in
    let r = c.names_good-name in
    first_earlier (row5 (lines_of a.t.now)) a.names (length (lines_of a.t.now)) r.result r.ensures (omega (arith, header_within (lines_of a.t.now) a.names a.args a.types c.requires)) c.if-name-names.true

pub args_good-arg-requires : goal.args_good-arg-requires
args_good-arg-requires c =
    let r = c.names_good-name in
    record { counted = c.requires; names_value = first_past (row5 (lines_of c.args.t.now)) c.args.names r.result r.ensures c.if-name-names.false }

pub overflow_add-names : goal.overflow_add-names
overflow_add-names c = let a = c.args in omega (arith, within a.t.now a.names a.args a.types c.requires)

pub returns-then-arg-names : goal.returns-then-arg-names
returns-then-arg-names c =
    let a = c.args in
    let r = c.args_good-arg in
    first_earlier (row5 (lines_of a.t.now)) (a.names + a.args) (length (lines_of a.t.now)) r.result r.ensures (omega (arith, header_within (lines_of a.t.now) a.names a.args a.types c.requires)) c.if-arg-names.true

pub types_good-kind-requires : goal.types_good-kind-requires
types_good-kind-requires c =
    let r = c.args_good-arg in
    record { counted = c.requires; args_value = first_past (row5 (lines_of c.args.t.now)) (c.args.names + c.args.args) r.result r.ensures c.if-arg-names.false }

pub overflow_add-names-3 : goal.overflow_add-names-3
overflow_add-names-3 c = let a = c.args in omega (arith, within a.t.now a.names a.args a.types c.requires)

pub returns-then-kind-names : goal.returns-then-kind-names
returns-then-kind-names c =
    let a = c.args in
    let r = c.types_good-kind in
    first_earlier (row5 (lines_of a.t.now)) (a.names + a.args + a.types) (length (lines_of a.t.now)) r.result r.ensures (omega (arith, header_within (lines_of a.t.now) a.names a.args a.types c.requires)) c.if-kind-names.true

pub parts_good-requires : goal.parts_good-requires
parts_good-requires c =
    let a = c.args in
    let r = c.types_good-kind in
    record { counted = c.requires; types_value = first_past (row5 (lines_of a.t.now)) (a.names + a.args + a.types) r.result r.ensures c.if-kind-names.false }
