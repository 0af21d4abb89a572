-- `mention_types::sets::add_list` meets its contract: each turn unites one more word.
use Rattle.std.proofs.Common.{◌≡◌, arith}
use Rattle.mention_types.specs.AddsLaws.{words_more, words_adds}
use Rattle.mention_types.proofs.sets.add_list.Goals as goal

pub loop-w-preserved : goal.loop-w-preserved
loop-w-preserved c = words_more _ _ _ _ _ _ _ _ _ c.loop-w.invariant c.loop-w-test.true c.requires.words_in_bounds c.requires.lower c.list_word.ensures

pub returns : goal.returns
returns c =
    let e : c.loop-w.w ≡ c.args.words = omega arith in
    words_adds _ _ _ _ _ _ _ (rw e at c.loop-w.invariant)
