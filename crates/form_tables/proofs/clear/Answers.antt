-- `form_tables::clear` meets its contract: the part that is filled has zeros.
use Rattle.std.proofs.Common.{◌≡◌, arith, length, take, replicate, length-take-le}
use Rattle.std.proofs.lemmas.Grind.{common_steps}
use borrow.Author.Rules.{rules}
use Rattle.form_tables.specs.Bounded.{zeros}
use Rattle.form_tables.proofs.clear.Goals as goal

pub returns : goal.returns
returns c i h =
    let a = c.args in
    let e : c.fill.new.self ≡ replicate (length (take a.k a.f.now)) 0 = search rules in
    let l : length (take a.k a.f.now) ≡ a.k = length-take-le a.k a.f.now c.requires in
    let z = zeros (length (take a.k a.f.now)) i in
    grind (arith, common_steps, e, l, z)
