-- `pattern_records::keeps_name` meets its contract.
use Rattle.std.proofs.Common.{refl}
use Rattle.table_access.specs.Tables.{lines_in}
use Rattle.pattern_records.specs.RecordsLaws.{keeps_none, keeps_zero, keeps_other}
use Rattle.pattern_records.proofs.keeps_name.Goals as goal

pub returns-then-keep-f-ne1 : goal.returns-then-keep-f-ne1
returns-then-keep-f-ne1 c = let a = c.args in keeps_none (lines_in a.t.now) a.keep.now a.f a.x c.if-keep-f-ne1.true

pub returns-then-x-ne0 : goal.returns-then-x-ne0
returns-then-x-ne0 c =
    let a = c.args in
    rw c.field_number.ensures (keeps_other (lines_in a.t.now) a.keep.now a.f a.x c.if-keep-f-ne1.false c.if-x-ne0.true)

pub returns-else-x-ne0 : goal.returns-else-x-ne0
returns-else-x-ne0 c = let a = c.args in rw c.if-x-ne0.false (keeps_zero (lines_in a.t.now) a.keep.now a.f 0 refl)
