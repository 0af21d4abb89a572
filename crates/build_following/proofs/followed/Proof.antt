-- `build_following::followed` meets its contract: the declarations' sheets in the outputs without the room of what follows, and then what
-- follows. Assumes nothing.
use Prim.Native.Nat.{◌-◌}
use native.Mathlib.Omega.{arith}
use lib.ListN.{length}
use borrow.Author.Rules.{rules}
use Rattle.build_following.specs.Following.{behind}
use Rattle.build_following.specs.FollowingLaws.{lent_first, refused_first, left_within, room_behind, gives_both}
use Rattle.build_following.proofs.followed.Statement.{statement}
use Rattle.build_following.proofs.followed.Tie as tie

outputs-requires : tie.Need-outputs-front-requires
outputs-requires c κs =
    let s = c in
    let a = s.args in
    (lent_first a.a.now a.z.now a.t.now a.p.now a.u.now a.rank.now a.keep.now a.v.now s.requires.0, s.requires.1)

returns-2 : tie.Need-returns-then-front-ne0
returns-2 c =
    let s = c in
    let a = s.args in
    refused_first a.a.now a.z.now a.t.now a.p.now a.u.now a.rank.now a.keep.now a.v.now s.requires.0 a.l.now (length a.l.now - behind a.p.now) (omega (arith, c.if-l-extra.false)) _ _ _ c.outputs-front.ensures c.if-front-ne0.true _ c.refused.ensures

put-behind-requires : tie.Need-put_behind-requires
put-behind-requires c κs =
    let s = c in
    let a = s.args in
    let r = room_behind a.a.now a.z.now a.t.now a.p.now a.u.now a.rank.now a.keep.now a.v.now s.requires.0 a.l.now (length a.l.now - behind a.p.now) (omega (arith, c.if-l-extra.false)) _ _ _ c.outputs-front.ensures c.if-front-ne0.false in
    (r.0, r.1, s.requires.0.bytes)

add-t15 : tie.Need-overflow_add-result
add-t15 c =
    let s = c in
    record { fits = omega (arith, s.requires.0.verdict_room, s.well_formed.1.1.1.1.1.1.1.1.0.1) }

add-t34 : tie.Need-overflow_add-result-2
add-t34 c =
    let s = c in
    let a = s.args in
    record { fits = omega (arith, left_within a.a.now a.z.now a.t.now a.p.now a.u.now a.rank.now a.keep.now a.v.now s.requires.0 a.l.now (length a.l.now - behind a.p.now) (omega (arith, c.if-l-extra.false)) _ _ _ c.outputs-front.ensures c.if-front-ne0.false, s.well_formed.1.1.1.1.1.1.1.1.1.0.1) }

returns-3 : tie.Need-returns
returns-3 c =
    let s = c in
    let a = s.args in
    let e = c.put_behind.ensures in
    gives_both a.a.now a.z.now a.t.now a.p.now a.u.now a.rank.now a.keep.now a.v.now s.requires.0 a.l.now (length a.l.now - behind a.p.now) (omega (arith, c.if-l-extra.false)) _ _ _ c.outputs-front.ensures c.if-front-ne0.false _ _ e.0 e.1

pub followed_spec : {M : Type 1} → statement M
followed_spec =
    tie.close
    (tie.spec
    (λ c. search rules)
    (λ c κs. search rules)
    (λ c. search rules)
    (λ c. search rules)
    (λ c. search rules)
    (λ c. search rules)
    (λ c. search rules)
    (λ c. search rules)
    (λ c. search rules)
    (λ c. search rules)
    (λ c. search rules)
    (λ c. search rules)
    outputs-requires
    (λ c. search rules)
    (λ c κs. search rules)
    (λ c. search rules)
    (λ c. search rules)
    returns-2
    put-behind-requires
    add-t15
    add-t34
    (λ c. search rules)
    (λ c. search rules)
    returns-3)
