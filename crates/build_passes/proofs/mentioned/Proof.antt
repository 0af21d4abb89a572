-- `build_passes::mentioned` meets its contract, by the arrays that it lends. Assumes nothing.
use Prim.Native.Nat.{◌≤◌}
use native.Mathlib.Omega.{arith}
use borrow.Author.Rules.{rules}
use Rattle.sheet.specs.Format.{base}
use Rattle.table_declared.specs.PassedLaws.{decls_within}
use Rattle.build_passes.specs.PassesLaws.{room_of}
use Rattle.build_passes.proofs.mentioned.Statement.{statement}
use Rattle.table_access.specs.Tables.{lines_in}
use Rattle.build_passes.proofs.mentioned.Tie as tie

mentions-requires : tie.Need-mentions-requires
mentions-requires c κs = let p = c.requires in (p.0.0.tabled, (p.1.wide, p.1.long))

part-fields-end : tie.Need-slice_bounds-fields-end
part-fields-end c =
    let a = c in
    let n = c.decls-n in
    let h : n.result ≤ 96 = omega (arith, n.ensures, decls_within base (lines_in a.args.t.now) a.requires.0.0.bounded) in
    search rules

part-bodies-end : tie.Need-slice_bounds-bodies-end
part-bodies-end c =
    let a = c in
    let n = c.decls-n in
    let h : n.result ≤ 96 = omega (arith, n.ensures, decls_within base (lines_in a.args.t.now) a.requires.0.0.bounded) in
    search rules

judged-requires : tie.Need-judged-requires
judged-requires c κs =
    let a = c in
    let n = c.decls-n in
    let l = a.requires.1 in
    (a.requires.0, (c.mentions.ensures, room_of (lines_in a.args.t.now) a.requires.0.0.bounded n.result a.args.words a.args.u.now a.args.rank.now n.ensures l.few l.cells l.ranks))

returns : tie.Need-returns
returns c = c.judged.ensures

pub mentioned_spec : {M : Type 1} → statement M
mentioned_spec =
    tie.close
    (tie.spec
    mentions-requires
    (λ c κs. c.requires.0.0.tabled)
    (λ c. search rules)
    (λ c. search rules)
    part-fields-end
    (λ c. search rules)
    (λ c. search rules)
    part-bodies-end
    (λ c. search rules)
    (λ c. search rules)
    (λ c. search rules)
    (λ c. search rules)
    judged-requires
    (λ c. c.mentions.auto.sets)
    (λ c. c.judged.auto.u)
    (λ c. c.judged.auto.rank)
    returns)
