-- `build_passes::named` meets its contract: there are at most 96 declarations and 1,024 types. Assumes nothing.
use Prim.Native.Nat.{◌*◌, ◌≤◌}
use native.Mathlib.Omega.{arith}
use borrow.Author.Rules.{rules}
use Rattle.sheet.specs.Format.{base}
use Rattle.table_declared.specs.PassedLaws.{decls_within, types_within}
use Rattle.build_passes.specs.PassesLaws.{two_words, lent_of}
use Rattle.build_passes.proofs.named.Statement.{statement}
use Rattle.table_access.specs.Tables.{lines_in}
use Rattle.build_passes.proofs.named.Tie as tie

words-for-requires : tie.Need-words_for-words-requires
words-for-requires c κs = let a = c in omega (arith, c.decls.ensures, decls_within base (lines_in a.args.t.now) a.requires.0.0.bounded)

mul-if1 : tie.Need-overflow_mul-types
mul-if1 c =
    let a = c in
    let h : c.types.result * c.words_for-words.result ≤ 2048 = two_words c.types.result c.words_for-words.result 1024 (omega (arith, c.types.ensures, types_within base (lines_in a.args.t.now) a.requires.0.0.bounded)) c.words_for-words.ensures.1 in
    search rules

mentioned-requires : tie.Need-mentioned-requires
mentioned-requires c κs =
    let a = c in
    let n = c.decls in
    let y = c.types in
    let w = c.words_for-words in
    (a.requires.0, lent_of (lines_in a.args.t.now) n.result y.result w.result 192 a.args.u.now a.args.rank.now n.ensures y.ensures w.ensures.0 w.ensures.1 c.if-types-words-le192.true a.requires.1.0 a.requires.1.1)

mentioned-requires-2 : tie.Need-mentioned-requires-2
mentioned-requires-2 c κs =
    let a = c in
    let n = c.decls in
    let y = c.types in
    let w = c.words_for-words in
    (a.requires.0, lent_of (lines_in a.args.t.now) n.result y.result w.result 2048 a.args.u.now a.args.rank.now n.ensures y.ensures w.ensures.0 w.ensures.1 (two_words y.result w.result 1024 (omega (arith, y.ensures, types_within base (lines_in a.args.t.now) a.requires.0.0.bounded)) w.ensures.1) a.requires.1.0 a.requires.1.1)

pub named_spec : {M : Type 1} → statement M
named_spec =
    tie.close
    (tie.spec
    (λ c κs. c.requires.0.0.tabled)
    words-for-requires
    (λ c κs. c.requires.0.0.tabled)
    mul-if1
    (λ c. search rules)
    mentioned-requires
    (λ c. c.mentioned.auto.u)
    (λ c. c.mentioned.auto.rank)
    (λ c. c.mentioned.ensures)
    (λ c. search rules)
    mentioned-requires-2
    (λ c. c.mentioned-2.auto.u)
    (λ c. c.mentioned-2.auto.rank)
    (λ c. c.mentioned-2.ensures))
