-- `build_following::short` meets its contract: row 12, at the length of both parts of the left sheet. Assumes nothing.
use mathlib.Core.Path.{sym, ◌∙◌}
use native.Mathlib.Omega.{arith}
use borrow.Author.Rules.{rules}
use Rattle.build_following.specs.FollowingLaws.{short_none, short_some}
use Rattle.build_following.proofs.short.Statement.{statement}
use Rattle.build_following.proofs.short.Tie as tie

returns : tie.Need-returns-then-names-eq0
returns c =
    let s = c in
    let a = s.args in
    short_none a.a.now a.z.now a.t.now a.p.now a.u.now a.rank.now a.keep.now a.v.now s.requires.0.0 a.l.now s.requires.0.1 _ (sym c.names.ensures ∙ c.if-names-eq0.true) c.refused.ensures

add-refused : tie.Need-overflow_add-front
add-refused c =
    let s = c in
    record { fits = omega (arith, c.outputs-front.ensures.small, s.requires.0.0.few) }

returns-2 : tie.Need-returns
returns-2 c =
    let s = c in
    let a = s.args in
    short_some a.a.now a.z.now a.t.now a.p.now a.u.now a.rank.now a.keep.now a.v.now s.requires.0.0 a.l.now s.requires.0.1 _ _ _ _ (omega (arith, c.names.ensures, c.if-names-eq0.false)) c.outputs-front.ensures c.refused-2.ensures

pub short_spec : {M : Type 1} → statement M
short_spec =
    tie.close
    (tie.spec
    (λ c. search rules)
    (λ c κs. search rules)
    (λ c κs. search rules)
    returns
    (λ c. search rules)
    (λ c. search rules)
    (λ c. search rules)
    (λ c κs. search rules)
    add-refused
    (λ c κs. search rules)
    (λ c. search rules)
    (λ c. search rules)
    returns-2)
