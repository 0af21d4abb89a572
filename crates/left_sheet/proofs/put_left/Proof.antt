-- `left_sheet::put_left` meets its contract: the N lines, and then the A, Y and declaration lines in their runs. Assumes nothing.
use mathlib.Core.Path.{◌∙◌}
use Prim.Native.Nat.{◌<◌}
use Rattle.left_sheet.specs.SheetLaws.{lines_fit, first_room, sheet_done}
use native.Mathlib.Omega.{arith}
use Rattle.left_sheet.specs.FewLaws.{left_types_few}
use borrow.Author.Rules.{rules}
use Rattle.left_sheet.proofs.put_left.Statement.{statement}
use Rattle.table_access.specs.Tables.{lines_in}
use Rattle.meaning.specs.Program.{name_line}
use Rattle.table_access.specs.OfSheet.{count_same}
use Rattle.left_sheet.proofs.put_left.Tie as tie

put-names-requires : tie.Need-put_names-requires
put-names-requires c κs =
    let z = c in
    let a = z.args in
    let n = c.names-n.result in
    let en = c.names-n.ensures ∙ count_same a.s.now a.t.now z.requires.0.0 name_line in
    (z.requires.0.0, c.names-n.ensures, omega (arith, lines_fit a.s.now a.t.now z.requires.0.0 n a.args a.types en z.requires.1.1.1.0.0 z.requires.1.1.1.0.1 a.out.now z.requires.1.1.1.1))

add-t18 : tie.Need-overflow_add-p
add-t18 c =
    let z = c in
    let a = z.args in
    let n = c.names-n.result in
    let en = c.names-n.ensures ∙ count_same a.s.now a.t.now z.requires.0.0 name_line in
    omega (arith, lines_fit a.s.now a.t.now z.requires.0.0 n a.args a.types en z.requires.1.1.1.0.0 z.requires.1.1.1.0.1 a.out.now z.requires.1.1.1.1)

add-t19 : tie.Need-overflow_add-p-2
add-t19 c =
    let z = c in
    let a = z.args in
    let n = c.names-n.result in
    let en = c.names-n.ensures ∙ count_same a.s.now a.t.now z.requires.0.0 name_line in
    omega (arith, lines_fit a.s.now a.t.now z.requires.0.0 n a.args a.types en z.requires.1.1.1.0.0 z.requires.1.1.1.0.1 a.out.now z.requires.1.1.1.1)

add-t20 : tie.Need-overflow_add-p-3
add-t20 c =
    let z = c in
    let a = z.args in
    let n = c.names-n.result in
    let en = c.names-n.ensures ∙ count_same a.s.now a.t.now z.requires.0.0 name_line in
    omega (arith, lines_fit a.s.now a.t.now z.requires.0.0 n a.args a.types en z.requires.1.1.1.0.0 z.requires.1.1.1.0.1 a.out.now z.requires.1.1.1.1)

put-decls-requires : tie.Need-put_decls-q-requires
put-decls-requires c κs =
    let z = c in
    let a = z.args in
    let n = c.names-n.result in
    let en = c.names-n.ensures ∙ count_same a.s.now a.t.now z.requires.0.0 name_line in
    let few : a.types < 4294967296 = omega (arith, z.requires.1.1.1.0.1, left_types_few (lines_in a.t.now) z.requires.0.1.tabled.passed z.requires.0.1.resolvable) in
    (record { ready = z.requires.0.1; flagged = z.requires.1.0.0; fit = z.requires.1.0.1; long = z.requires.1.1.0.0 }, (z.requires.1.1.0.1, first_room a.s.now a.t.now z.requires.0.0 n a.args a.types en z.requires.1.1.1.0.0 z.requires.1.1.1.0.1 a.out.now z.requires.1.1.1.1 _ c.put_names.ensures few))

returns : tie.Need-returns
returns c =
    let z = c in
    let a = z.args in
    let n = c.names-n.result in
    let en = c.names-n.ensures ∙ count_same a.s.now a.t.now z.requires.0.0 name_line in
    let few : a.types < 4294967296 = omega (arith, z.requires.1.1.1.0.1, left_types_few (lines_in a.t.now) z.requires.0.1.tabled.passed z.requires.0.1.resolvable) in
    sheet_done a.s.now a.t.now z.requires.0.0 n a.args a.types en z.requires.1.1.1.0.0 z.requires.1.1.1.0.1 a.out.now z.requires.1.1.1.1 _ c.put_names.ensures few c.put_decls-q.result _ c.put_decls-q.ensures

pub put_left_spec : {M : Type 1} → statement M
put_left_spec =
    tie.close
    (tie.spec
    (λ c κs. let z = c in z.requires.0.0.tabled)
    put-names-requires
    add-t18
    add-t19
    add-t20
    put-decls-requires
    (λ c. search rules)
    (λ c. search rules)
    (λ c. search rules)
    returns)
