-- `left_program::put_at` meets its contract. Assumes nothing.
use Rattle.left_sheet.specs.ProgramLaws.{at_nothing, at_some, given_of, at_room, at_writes}
use native.Mathlib.Omega.{arith}
use borrow.Author.Rules.{rules}
use Rattle.left_sheet.proofs.left_program.put_at.Statement.{statement}
use Rattle.table_access.specs.Tables.{lines_in}
use Rattle.left_sheet.proofs.left_program.put_at.Tie as tie

returns : tie.Need-returns-then-left-d-eq0
returns c =
    let z = c in
    let a = z.args in
    at_nothing (lines_in a.t.now) a.t.now a.u.now a.f.now a.keep.now a.left.now _ z.requires.0.0 a.d z.requires.0.1 c.if-left-d-eq0.true a.p a.out.now

put-decl-requires : tie.Need-put_decl-requires
put-decl-requires c κs =
    let z = c in
    let a = z.args in
    let l = at_some (lines_in a.t.now) a.t.now a.u.now a.f.now a.keep.now a.left.now _ z.requires.0.0 a.d z.requires.0.1 c.if-left-d-eq0.false in
    (given_of (lines_in a.t.now) a.t.now a.u.now a.f.now a.keep.now a.left.now _ z.requires.0.0 a.d z.requires.0.1 l, (z.requires.1.0, at_room (lines_in a.t.now) a.t.now a.u.now a.f.now a.keep.now a.left.now _ z.requires.0.0 a.d z.requires.0.1 l a.p a.out.now z.requires.1.1))

returns-2 : tie.Need-returns
returns-2 c =
    let z = c in
    let a = z.args in
    let w = c.put_decl in
    at_writes (lines_in a.t.now) a.t.now a.u.now a.f.now a.keep.now a.left.now _ z.requires.0.0 a.d z.requires.0.1 (at_some (lines_in a.t.now) a.t.now a.u.now a.f.now a.keep.now a.left.now _ z.requires.0.0 a.d z.requires.0.1 c.if-left-d-eq0.false) a.p w.result a.out.now _ w.ensures

pub put_at_spec : {M : Type 1} → statement M
put_at_spec =
    tie.close
    (tie.spec
    (λ c. let z = c in omega (arith, z.requires.0.0.flagged.long, z.requires.0.1))
    returns
    put-decl-requires
    (λ c. search rules)
    (λ c. search rules)
    (λ c. search rules)
    returns-2)
