-- `mention_types::sets::add_type` meets its contract: the lower type's row stands before.
use mathlib.Core.Logic.{inr}
use Rattle.std.proofs.Common.{arith}
use Rattle.set_bits.specs.BitsLaws.{row_before}
use Rattle.mention_types.specs.AddsLaws.{adds_type}
use Rattle.mention_types.proofs.sets.add_type.Goals as goal

pub unite_within-requires-clause-fact : goal.unite_within-requires-clause-fact
unite_within-requires-clause-fact c = let a = c.args in inr (omega (arith, row_before a.c a.y a.words c.requires.0))

pub returns : goal.returns
returns c = let a = c.args in rw c.unite_within.ensures (adds_type a.words a.y a.sets.now a.c c.requires.0 c.requires.1)
