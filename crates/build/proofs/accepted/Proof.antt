-- `build::accepted` meets its contract: the parts of the sheet and of the memory as they are lent. Assumes nothing.
use mathlib.Core.Path.{refl}
use native.Mathlib.Omega.{arith}
use borrow.Author.Rules.{rules}
use Rattle.build.specs.BuildLaws.{taken_lent, counted_lent, decls_lent, gives_lent}
use Rattle.build.proofs.accepted.Statement.{statement}
use Rattle.build.proofs.accepted.Tie as tie

mul-written-2 : tie.Need-overflow_mul-n
mul-written-2 c = let s = c in record { fits = omega (arith, decls_lent _ _ _ _ _ s.args.d s.requires.0) }

part-written-end-4 : tie.Need-slice_bounds-written-end-4
part-written-end-4 c = let s = c in omega (arith, decls_lent _ _ _ _ _ s.args.d s.requires.0, s.requires.1.names)

part-written-end-5 : tie.Need-slice_bounds-written-end-5
part-written-end-5 c = let s = c in omega (arith, decls_lent _ _ _ _ _ s.args.d s.requires.0, s.requires.1.ranks)

written-requires : tie.Need-written-requires
written-requires c κs = let s = c in (taken_lent _ _ _ _ _ s.args.d s.requires.0 _ _ refl (omega arith), counted_lent _ _ _ _ _ s.args.d s.requires.0)

returns : tie.Need-returns
returns c =
    let s = c in
    gives_lent _ _ _ _ _ s.args.d s.requires.0 s.args.v.now s.args.l.now _ _ _ c.written.ensures

pub accepted_spec : {M : Type 1} → statement M
accepted_spec =
    tie.close
    (tie.spec
    (λ c. search rules)
    (λ c. search rules)
    (λ c. search rules)
    (λ c. search rules)
    (λ c. search rules)
    (λ c. search rules)
    (λ c. search rules)
    (λ c. search rules)
    (λ c. search rules)
    (λ c. search rules)
    (λ c. search rules)
    (λ c. search rules)
    (λ c. search rules)
    (λ c. search rules)
    (λ c. search rules)
    (λ c. search rules)
    (λ c. search rules)
    (λ c. search rules)
    mul-written-2
    (λ c. search rules)
    (λ c. search rules)
    part-written-end-4
    (λ c. search rules)
    (λ c. search rules)
    part-written-end-5
    written-requires
    (λ c. search rules)
    (λ c. search rules)
    returns)
