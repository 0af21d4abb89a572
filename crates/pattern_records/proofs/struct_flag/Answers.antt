-- `pattern_records::struct_flag` meets its contract.
use Rattle.std.proofs.Common.{sym, ◌∙◌}
use Rattle.pattern_records.specs.Records.{struct_flag}
use Rattle.pattern_records.specs.RecordsLaws.{kept_byte}
use Rattle.pattern_records.proofs.struct_flag.Goals as goal

pub returns-then-one_ctor : goal.returns-then-one_ctor
unfolding struct_flag
returns-then-one_ctor c = rw (sym c.one_ctor.ensures ∙ c.if-one_ctor.true, sym c.decl_names.ensures) (c.from.ensures ∙ kept_byte c.decl_names.result)

pub returns : goal.returns
unfolding struct_flag
returns c = rw (sym c.one_ctor.ensures ∙ c.if-one_ctor.false)
