-- `build_patterns::patterned` meets its contract: there are at most 256 names. Assumes nothing.
use mathlib.Core.Path.{◌≡◌}
use Prim.Native.Nat.{◌*◌, ◌≤◌}
use native.Mathlib.Omega.{arith}
use borrow.Author.Rules.{rules}
use Rattle.sheet.specs.Format.{base}
use Rattle.table_declared.specs.PassedLaws.{names_within}
use Rattle.table_access.specs.Tables.{lines_in}
use Rattle.build_patterns.proofs.patterned.Statement.{statement}
use Rattle.build_patterns.proofs.patterned.Tie as tie

mul-sited : tie.Need-overflow_mul-names
mul-sited c =
    let s = c in
    record { fits = omega (arith, c.names-names.ensures, names_within base (lines_in s.args.t.now) s.requires.0.clear.read.of.bounded) }

part-m-end : tie.Need-slice_bounds-m-end
part-m-end c =
    let s = c in
    let h : 3 * c.names-names.result ≤ 768 = omega (arith, c.names-names.ensures, names_within base (lines_in s.args.t.now) s.requires.0.clear.read.of.bounded) in
    h

sited-requires : tie.Need-sited-requires
sited-requires c κs =
    let s = c in
    let h : 3 * c.names-names.result ≤ 768 = omega (arith, c.names-names.ensures, names_within base (lines_in s.args.t.now) s.requires.0.clear.read.of.bounded) in
    let e = c.names-names.ensures in
    ((s.requires.0, search rules), s.requires.1)

pub patterned_spec : {M : Type 1} → statement M
patterned_spec =
    tie.close
    (tie.spec
    (λ c κs. search rules)
    mul-sited
    (λ c. search rules)
    (λ c. search rules)
    part-m-end
    sited-requires
    (λ c. search rules)
    (λ c. search rules)
    (λ c. search rules))
