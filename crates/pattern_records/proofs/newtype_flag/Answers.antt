-- `pattern_records::newtype_flag` meets its contract.
use Rattle.std.proofs.Common.{sym, ◌∙◌}
use Rattle.pattern_records.specs.Records.{newtype_flag}
use Rattle.pattern_records.proofs.newtype_flag.Goals as goal

pub returns-then-not-decl_names : goal.returns-then-not-decl_names
unfolding newtype_flag
returns-then-not-decl_names c = rw (sym c.decl_names.ensures ∙ c.if-not-decl_names.true)

pub returns-then-has_field : goal.returns-then-has_field
unfolding newtype_flag
returns-then-has_field c = rw (sym c.decl_names.ensures ∙ c.if-not-decl_names.false, sym c.has_field.ensures ∙ c.if-has_field.true)

pub returns : goal.returns
unfolding newtype_flag
returns c = rw (sym c.decl_names.ensures ∙ c.if-not-decl_names.false, sym c.has_field.ensures ∙ c.if-has_field.false)
