-- `build_passes::passes` meets its contract, by the marks of erasure. Assumes nothing.
use mathlib.Core.Path.{◌≡◌}
use Prim.Native.Nat.{◌≤◌}
use native.Mathlib.Omega.{arith}
use lib.ListN.{length}
use borrow.Author.Rules.{rules}
use Rattle.sheet.specs.Format.{base}
use Rattle.table_declared.specs.PassedLaws.{decls_within}
use Rattle.build_passes.specs.PassesLaws.{erased_of, ruled_of}
use Rattle.build_passes.proofs.passes.Statement.{statement}
use Rattle.table_access.specs.Tables.{lines_in}
use Rattle.build_passes.proofs.passes.Tie as tie

keep-fields-requires : tie.Need-keep_fields-requires
keep-fields-requires c κs =
    let a = c in
    let r = c.erasure_fixpoint-e in
    let l : length r.result.node ≡ 1024 = search rules in
    (a.requires.0.0.tabled, (erased_of (lines_in a.args.t.now) a.requires.0.0.bounded r.result r.ensures l, a.requires.0.1))

part-named-end : tie.Need-slice_bounds-named-end
part-named-end c =
    let a = c in
    let n = c.decls-n in
    let r = c.erasure_fixpoint-e in
    let l : length r.result.decl ≡ 96 = search rules in
    let h : n.result ≤ length r.result.decl = omega (arith, n.ensures, decls_within base (lines_in a.args.t.now) a.requires.0.0.bounded) in
    h

named-requires : tie.Need-named-returning-requires
named-requires c κs =
    let a = c in
    let n = c.decls-n in
    let k = c.keep_fields in
    let r = c.erasure_fixpoint-e in
    let l : length r.result.decl ≡ 96 = search rules in
    ((a.requires.0.0, ruled_of (lines_in a.args.t.now) a.requires.0.0.bounded r.result r.ensures l n.result n.ensures _ k.ensures (omega (arith, a.requires.0.1, k.auto.keep))), a.requires.1)

returns : tie.Need-returns
returns c =
    let a = c in
    let k = c.keep_fields in
    record { counted = c.erasure_fixpoint-e.ensures.counted; slotted = k.ensures; long = omega (arith, a.requires.0.1, k.auto.keep); judged = c.named-returning.ensures }

pub passes_spec : {M : Type 1} → statement M
passes_spec =
    tie.close
    (tie.spec
    (λ c κs. c.requires.0.0)
    (λ c. search rules)
    keep-fields-requires
    (λ c κs. c.requires.0.0.tabled)
    (λ c. search rules)
    (λ c. search rules)
    part-named-end
    named-requires
    (λ c. c.keep_fields.auto.keep)
    (λ c. c.named-returning.auto.u)
    (λ c. c.named-returning.auto.rank)
    returns)
