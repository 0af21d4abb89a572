-- `build_patterns::emitted` meets its contract: the rewritten pattern has no more lines than the pattern. Assumes nothing.
use mathlib.Core.Path.{◌≡◌, refl, ap}
use Prim.Native.Nat.{ℕ, ◌*◌, ◌-◌, ◌≤◌}
use native.Mathlib.Omega.{arith}
use lib.ListN.{length, take}
use borrow.Author.Rules.{rules}
use Rattle.build_patterns.specs.PatternedLaws.{asked_of, room_of, count_few, follows_of}
use Rattle.build_patterns.proofs.emitted.Statement.{statement}
use Rattle.build_patterns.proofs.emitted.Tie as tie

emit-requires : tie.Need-emit-n-requires
emit-requires c κs =
    let s = c in
    let a = s.args in (
      (asked_of a.a.now a.z.now a.t.now a.q.now a.u.now a.rank.now a.keep.now a.v.now a.marks.now a.flags.now s.requires.0.0 s.requires.0.1, omega (arith, s.requires.0.0.patterned.some, s.requires.0.0.patterned.tailed.sized)),
      (room_of a.a.now a.z.now a.t.now a.q.now a.u.now a.rank.now a.keep.now a.v.now a.marks.now a.flags.now s.requires.0.0 s.requires.0.1 1536 refl, omega arith),
    )

mul-followed : tie.Need-overflow_mul-n
mul-followed c =
    let s = c in
    let a = s.args in
    record { fits = omega (arith, count_few a.a.now a.z.now a.t.now a.q.now a.u.now a.rank.now a.keep.now a.v.now a.marks.now a.flags.now s.requires.0.0 s.requires.0.1 _ _ _ c.emit-n.ensures) }

part-followed-end : tie.Need-slice_bounds-followed-end
part-followed-end c =
    let s = c in
    let a = s.args in
    let e = c.emit-n in
    let h : 6 * e.result ≤ length e.new.out = omega (arith, e.auto.out, count_few a.a.now a.z.now a.t.now a.q.now a.u.now a.rank.now a.keep.now a.v.now a.marks.now a.flags.now s.requires.0.0 s.requires.0.1 _ _ _ e.ensures) in
    h

followed-requires : tie.Need-followed-requires
followed-requires c κs =
    let s = c in
    let a = s.args in
    let e = c.emit-n in
    let k : 6 * e.result - 0 ≡ 6 * e.result = omega arith in
    (follows_of a.a.now a.z.now a.t.now a.q.now a.u.now a.rank.now a.keep.now a.v.now a.marks.now a.flags.now s.requires.0.0 s.requires.0.1 _ _ e.new.out e.result e.ensures refl (ap (λ (k : ℕ). take k e.new.out) k), s.requires.1)

pub emitted_spec : {M : Type 1} → statement M
emitted_spec =
    tie.close
    (tie.spec
    (λ c. search rules)
    emit-requires
    mul-followed
    (λ c. search rules)
    (λ c. search rules)
    part-followed-end
    followed-requires
    (λ c. search rules)
    (λ c. search rules)
    (λ c. search rules))
