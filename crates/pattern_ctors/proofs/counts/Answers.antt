-- `pattern_ctors::counts` meets its contract, name after name.
use Rattle.std.proofs.Common.{◌<◌, arith}
use Rattle.meaning.specs.Program.{name_line}
use Rattle.meaning.specs.Rows.{count_of}
use Rattle.table_declared.specs.PassedLaws.{fields_few}
use Rattle.table_access.specs.Tables.{lines_in}
use Rattle.pattern_ctors.specs.SitesLaws.{inside_sited}
use Rattle.pattern_ctors.specs.OwnersLaws.{counts_none, counts_next}
use Rattle.pattern_ctors.proofs.counts.Goals as goal

pub loop-n-init : goal.loop-n-init
loop-n-init c = counts_none (lines_in c.args.t.now) c.args.fields.now

pub count_of-requires : goal.count_of-requires
count_of-requires c =
    let ls = lines_in c.args.t.now in
    let s = c.requires.tabled in
    let h : c.loop-n.n < count_of name_line ls = omega arith in
    (omega (arith, h, s.1.long), omega (arith, (inside_sited ls s.0.passed c.loop-n.n c.args.m.now s.1 h).1, fields_few ls s.0.passed))

pub bounds-fields-n : goal.bounds-fields-n
bounds-fields-n c = omega (arith, c.requires.fields_len)

pub loop-n-preserved : goal.loop-n-preserved
loop-n-preserved c =
    let s = c.requires.tabled in
    counts_next (lines_in c.args.t.now) s.0.passed c.args.m.now s.1 c.loop-n.fields c.loop-n.n c.count_of.result (omega arith) (omega (arith, c.requires.fields_len)) c.count_of.ensures c.loop-n.invariant

pub returns : goal.returns
returns c = record { marks = λ n h. c.loop-n.invariant.marks n (omega (arith, c.requires.fields_len)) }
