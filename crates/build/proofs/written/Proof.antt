-- `build::written` meets its contract, by whether there are Q lines, and by the length of the verdict output. Assumes nothing.
use native.Mathlib.Omega.{arith}
use borrow.Author.Rules.{rules}
use Rattle.build_patterns.specs.LentLaws.{lent_of}
use Rattle.build.specs.BuildLaws.{gives_front, gives_eleven}
use Rattle.build.proofs.written.Statement.{statement}
use Rattle.build.proofs.written.Tie as tie

patterned-requires : tie.Need-patterned-requires
patterned-requires c κs =
    let p = c.requires in
    (record { clear = p.0.clear; tailed = p.0.tailed; some = c.if-q-gt0.true; counts = p.0.counts }, p.1)

returns-2 : tie.Need-returns-then-v-a
returns-2 c =
    let s = c in
    rw c.refused.ensures (gives_eleven _ _ _ _ _ _ _ s.requires.0.clear s.requires.0.tailed (omega (arith, c.if-q-gt0.false)) s.args.v.now s.args.l.now c.if-v-a.true)

outputs-requires : tie.Need-outputs-requires
outputs-requires c κs = let p = c.requires in (lent_of _ _ _ _ _ p.0.clear _ (omega (arith, c.if-v-a.false)), p.1)

returns-3 : tie.Need-returns
returns-3 c =
    let s = c in
    gives_front _ _ _ _ _ _ _ s.requires.0.clear s.requires.0.tailed (omega (arith, c.if-q-gt0.false)) s.args.v.now s.args.l.now _ _ _ c.outputs.ensures

pub written_spec : {M : Type 1} → statement M
written_spec =
    tie.close
    (tie.spec
    patterned-requires
    (λ c. search rules)
    (λ c. search rules)
    (λ c. search rules)
    (λ c κs. search rules)
    returns-2
    outputs-requires
    (λ c. search rules)
    (λ c. search rules)
    returns-3)
