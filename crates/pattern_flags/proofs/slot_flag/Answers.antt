-- `pattern_flags::slot_flag` meets its contract.
use Rattle.std.proofs.Common.{◌∙◌}
use borrow.Author.Tests.{ne_eqb, lt-ltb, le-ltb}
use Rattle.pattern_records.specs.RecordsLaws.{kept_byte}
use Rattle.pattern_flags.specs.Flags.{slot_flag}
use Rattle.pattern_flags.proofs.slot_flag.Goals as goal

pub returns-then-s-eq0 : goal.returns-then-s-eq0
unfolding slot_flag
returns-then-s-eq0 c = rw c.if-s-eq0.true

pub returns-then-place-k : goal.returns-then-place-k
unfolding slot_flag
returns-then-place-k c = rw (ne_eqb c.args.s 0 c.if-s-eq0.false, lt-ltb c.args.place c.args.k c.if-place-k.true) (c.from.ensures ∙ kept_byte _)

pub returns : goal.returns
unfolding slot_flag
returns c = rw (ne_eqb c.args.s 0 c.if-s-eq0.false, le-ltb c.args.place c.args.k c.if-place-k.false) (c.from-2.ensures ∙ kept_byte _)
