-- `number_words::word` meets its contract. Assumes nothing.
use native.Mathlib.Omega.{arith}
use Rattle.number_words.specs.Word.{word_at}
use Rattle.number_words.proofs.word.Goals as goal

pub returns : goal.returns
unfolding word_at
returns c = (rw (c.wide.ensures.0, c.wide-2.ensures.0, c.wide-3.ensures.0, c.wide-4.ensures.0), omega (arith, c.wide.ensures.1))
