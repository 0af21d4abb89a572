-- `set_bits::clear` meets its contract: the words set to 0 one after the other are the words filled.
use Rattle.std.proofs.Common.{◌≡◌, ℕ, zero, suc, List, ◌+◌, ◌≤◌, length, sym, arith, rules, ◌∙◌, add-one, replicate}
use Rattle.std.proofs.lemmas.List.{length-replicate}
use Rattle.std.proofs.lemmas.List.Edits.{paste_none, fill_from_more}
use Rattle.std.proofs.lemmas.Slice.{put_mid-paste}
use lib.Seq.{paste}
use Rattle.set_bits.specs.Bits.{cleared}
use Rattle.set_bits.proofs.clear.Goals as goal

cleared_paste : (s : List ℕ) (at w : ℕ) → at + w ≤ length s → cleared s at w ≡ paste s at (replicate w 0) w
unfolding cleared
cleared_paste s at zero h = paste_none s at (replicate zero 0)
cleared_paste s at (suc w) h = rw (cleared_paste s at w (omega arith)) (rw add-one at (fill_from_more s at w 0 (omega arith)))

pub returns : goal.returns
returns c =
    let e : c.fill.new.self ≡ replicate c.args.words 0 = search rules in
    put_mid-paste c.args.at _ c.args.s.now _ _ c.args.words e (omega arith) (sym (length-replicate c.args.words 0))
    ∙ sym (cleared_paste c.args.s.now c.args.at c.args.words c.requires)
