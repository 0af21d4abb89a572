-- `table_sizes::put_all` meets its contract: the cells filled are those that are put.
use Rattle.std.proofs.Common.{◌≡◌, ℕ, List, ◌+◌, ◌≤◌, length, replicate, arith, rules}
use Rattle.std.proofs.lemmas.List.{places, get_or-replicate}
use borrow.Rule.Slice.PartMut.{put_mid}
use Rattle.table_sizes.specs.Filling.{Put, all}
use Rattle.table_sizes.proofs.put_all.Goals as goal

put_filled : (t : List ℕ) (at n v k : ℕ) → at + n ≤ length t → k ≡ n → Put t (put_mid at k t (replicate n v)) at n (all v)
put_filled t at n v k h e =
    record {
      sized = grind (arith, places);
      inside = λ i l. grind (arith, places, get_or-replicate n i v 0 l);
      below = λ x l. grind (arith, places);
      above = λ x l. grind (arith, places);
    }

pub returns : goal.returns
returns c =
    let e : c.fill.new.self ≡ replicate c.args.n c.args.v = search rules in
    rw e (put_filled c.args.t.now c.args.at c.args.n c.args.v _ c.requires (omega arith))
