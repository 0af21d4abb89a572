-- `build_patterns::counted` meets its contract. Assumes nothing.
use mathlib.Core.Path.{refl}
use borrow.Author.Rules.{rules}
use Rattle.build_patterns.specs.PatternedLaws.{gives_eleven}
use Rattle.build_patterns.proofs.counted.Statement.{statement}
use Rattle.build_patterns.proofs.counted.Tie as tie

returns : tie.Need-returns-then-v-whole
returns c =
    let s = c in
    let a = s.args in
    rw c.refused.ensures (gives_eleven a.a.now a.z.now a.t.now a.q.now a.u.now a.rank.now a.keep.now s.requires.0.0 a.v.now a.l.now _ refl c.if-v-whole.true)

marked-requires : tie.Need-marked-requires
marked-requires c κs =
    let s = c in
    ((record { patterned = s.requires.0.0; room = c.if-v-whole.false }, s.requires.0.1), s.requires.1)

pub counted_spec : {M : Type 1} → statement M
counted_spec =
    tie.close
    (tie.spec
    (λ c. search rules)
    (λ c κs. search rules)
    returns
    marked-requires
    (λ c. search rules)
    (λ c. search rules)
    (λ c. search rules))
