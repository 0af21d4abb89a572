-- `left_decls::put_abbrev` meets its contract: the type first, and then the D line with its number. Assumes nothing.
use Rattle.form_emit.specs.Left.{left_type}
use Rattle.left_decls.specs.DeclsLaws.{abbrev_type, abbrev_number, abbrev_bare, abbrev_writes}
use native.Mathlib.Omega.{arith}
use borrow.Author.Rules.{rules}
use Rattle.left_decls.proofs.put_abbrev.Statement.{statement}
use Rattle.table_access.specs.Tables.{lines_in}
use Rattle.left_decls.proofs.put_abbrev.Tie as tie

put-type-requires : tie.Need-put_type-q-requires
put-type-requires c κs =
    let z = c in
    let a = z.args in
    (z.requires.0, (z.requires.1.0, abbrev_type (lines_in a.t.now) a.d (left_type (lines_in a.t.now) a.d a.y) a.p a.p a.out.now a.out.now z.requires.1.1))

sub-n : tie.Need-overflow_sub-n
sub-n c =
    let z = c in
    let a = z.args in
    let w = c.put_type-q in
    omega (arith, abbrev_number (lines_in a.t.now) a.d (left_type (lines_in a.t.now) a.d a.y) a.p w.result a.out.now _ z.requires.1.1 w.ensures)

cast-n : tie.Need-overflow_cast-n
cast-n c =
    let z = c in
    let a = z.args in
    let w = c.put_type-q in
    omega (arith, abbrev_number (lines_in a.t.now) a.d (left_type (lines_in a.t.now) a.d a.y) a.p w.result a.out.now _ z.requires.1.1 w.ensures)

put-bare-requires : tie.Need-put_bare-requires
put-bare-requires c κs =
    let z = c in
    let a = z.args in
    let w = c.put_type-q in
    ((z.requires.0.asked.tabled, z.requires.0.asked.decl), abbrev_bare (lines_in a.t.now) a.d (left_type (lines_in a.t.now) a.d a.y) a.p w.result a.out.now _ z.requires.1.1 w.ensures)

returns : tie.Need-returns
returns c =
    let z = c in
    let a = z.args in
    let w = c.put_type-q in
    abbrev_writes (lines_in a.t.now) a.d (left_type (lines_in a.t.now) a.d a.y) a.p w.result a.out.now _ z.requires.1.1 w.ensures _ _ c.put_bare.ensures

pub put_abbrev_spec : {M : Type 1} → statement M
put_abbrev_spec =
    tie.close
    (tie.spec
    put-type-requires
    sub-n
    cast-n
    put-bare-requires
    (λ c. search rules)
    (λ c. search rules)
    (λ c. search rules)
    returns)
