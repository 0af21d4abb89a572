-- `erasure_fixpoint::erasure_fixpoint` meets its contract, by the arrays that it lends. Assumes nothing.
use Prim.Native.Nat.{◌≤◌}
use native.Mathlib.Omega.{arith}
use borrow.Author.Rules.{rules}
use Rattle.sheet.specs.Format.{base}
use Rattle.table_declared.specs.PassedLaws.{decls_within, types_within}
use Rattle.erasure_laws.specs.FixpointLaws.{fresh_of, fixpoint_of}
use Rattle.erasure_fixpoint.proofs.erasure_fixpoint.Statement.{statement}
use Rattle.table_access.specs.Tables.{lines_in}
use Rattle.erasure_fixpoint.proofs.erasure_fixpoint.Tie as tie

cast-none : tie.Need-overflow_cast-none
cast-none c = let a = c in omega (arith, c.types-types.ensures, types_within base (lines_in a.args.t.now) a.requires.bounded)

part-used-end : tie.Need-slice_bounds-used-end
part-used-end c =
    let a = c in
    let e = c.decls-n in
    let h : e.result ≤ 96 = omega (arith, e.ensures, decls_within base (lines_in a.args.t.now) a.requires.bounded) in
    search rules

part-decl-end : tie.Need-slice_bounds-decl-end
part-decl-end c =
    let a = c in
    let e = c.decls-n in
    let h : e.result ≤ 96 = omega (arith, e.ensures, decls_within base (lines_in a.args.t.now) a.requires.bounded) in
    search rules

part-node-end : tie.Need-slice_bounds-node-end
part-node-end c =
    let a = c in
    let e = c.types-types in
    let h : e.result ≤ 1024 = omega (arith, e.ensures, types_within base (lines_in a.args.t.now) a.requires.bounded) in
    search rules

part-member-end : tie.Need-slice_bounds-member-end
part-member-end c =
    let a = c in
    let e = c.types-types in
    let h : e.result ≤ 1024 = omega (arith, e.ensures, types_within base (lines_in a.args.t.now) a.requires.bounded) in
    search rules

part-field-end : tie.Need-slice_bounds-field-end
part-field-end c =
    let a = c in
    let e = c.decls-n in
    let h : e.result ≤ 96 = omega (arith, e.ensures, decls_within base (lines_in a.args.t.now) a.requires.bounded) in
    search rules

part-wait-end : tie.Need-slice_bounds-wait-end
part-wait-end c =
    let a = c in
    let e = c.decls-n in
    let h : e.result ≤ 96 = omega (arith, e.ensures, decls_within base (lines_in a.args.t.now) a.requires.bounded) in
    search rules

fixpoint-requires : tie.Need-fixpoint-rounds-requires
fixpoint-requires c κs =
    let a = c in
    let n = c.decls-n in
    let y = c.types-types in
    (a.requires.tabled, fresh_of (lines_in a.args.t.now) n.result y.result 96 1024 n.ensures y.ensures (decls_within base (lines_in a.args.t.now) a.requires.bounded) (types_within base (lines_in a.args.t.now) a.requires.bounded))

returns : tie.Need-returns
returns c =
    let a = c in
    let n = c.decls-n in
    let y = c.types-types in
    let f = c.fixpoint-rounds in
    fixpoint_of (lines_in a.args.t.now) n.result y.result 96 1024 n.ensures y.ensures (decls_within base (lines_in a.args.t.now) a.requires.bounded) (types_within base (lines_in a.args.t.now) a.requires.bounded) f.new.decl f.new.node _ _ f.result f.auto.decl f.auto.node f.ensures

pub erasure_fixpoint_spec : {M : Type 1} → statement M
erasure_fixpoint_spec =
    tie.close
    (tie.spec
    (λ c κs. search rules)
    (λ c κs. search rules)
    cast-none
    (λ c. search rules)
    (λ c. search rules)
    part-used-end
    (λ c. search rules)
    (λ c. search rules)
    part-decl-end
    (λ c. search rules)
    (λ c. search rules)
    part-node-end
    (λ c. search rules)
    (λ c. search rules)
    part-member-end
    (λ c. search rules)
    (λ c. search rules)
    part-field-end
    (λ c. search rules)
    (λ c. search rules)
    part-wait-end
    fixpoint-requires
    returns)
