-- `number_words::key` meets its contract: six words, none so large that the sum wraps. Assumes nothing.
use native.Mathlib.Omega.{arith}
use Rattle.number_words.specs.Word.{key_of}
use Rattle.number_words.proofs.key.Goals as goal

pub returns : goal.returns
unfolding key_of
returns c =
    (rw (c.word.ensures.0, c.word-2.ensures.0, c.word-3.ensures.0, c.word-4.ensures.0, c.word-5.ensures.0, c.word-6.ensures.0), omega arith)
