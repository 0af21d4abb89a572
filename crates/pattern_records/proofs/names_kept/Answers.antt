-- `pattern_records::names_kept` meets its contract, F line after F line.
use Rattle.std.proofs.Common.{sym, ◌∙◌}
use Rattle.table_access.specs.Tables.{lines_in}
use Rattle.pattern_records.specs.RecordsLaws.{names_past, names_more}
use Rattle.pattern_records.proofs.names_kept.Goals as goal

pub returns-then-keeps_name : goal.returns-then-keeps_name
returns-then-keeps_name c =
    let a = c.args in
    let l = c.loop-f in
    sym (l.invariant ∙ names_more (lines_in a.t.now) a.keep.now l.f a.end a.x c.loop-f-test.true ∙ rw (sym c.keeps_name.ensures, c.if-keeps_name.true))

pub loop-f-preserved : goal.loop-f-preserved
loop-f-preserved c =
    let a = c.args in
    let l = c.loop-f in
    l.invariant ∙ names_more (lines_in a.t.now) a.keep.now l.f a.end a.x c.loop-f-test.true ∙ rw (sym c.keeps_name.ensures, c.if-keeps_name.false)

pub returns : goal.returns
returns c =
    let a = c.args in
    let l = c.loop-f in
    sym (l.invariant ∙ names_past (lines_in a.t.now) a.keep.now l.f a.end a.x c.loop-f-test.false)
