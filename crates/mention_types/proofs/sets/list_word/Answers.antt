-- `mention_types::sets::list_word` meets its contract: each turn unites the word of one more type.
use Rattle.std.proofs.Common.{refl, arith, add-one}
use Rattle.table_declared.specs.PassedLaws.{args_few}
use Rattle.mention_types.specs.Mentions.{word_of}
use Rattle.mention_types.proofs.sets.list_word.Goals as goal

pub loop-j-init : goal.loop-j-init
unfolding word_of
loop-j-init c = refl

pub overflow_add-first : goal.overflow_add-first
overflow_add-first c = omega (arith, (c.requires.inside c.loop-j.j c.loop-j-test.true).0, args_few _ c.requires.tabled.passed)

pub loop-j-preserved : goal.loop-j-preserved
unfolding word_of
loop-j-preserved c = rw (add-one, c.arg-c.ensures, c.loop-j.invariant)
