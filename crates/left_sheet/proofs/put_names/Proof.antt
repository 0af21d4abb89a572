-- `left_sheet::put_names` meets its contract: the N lines are the first lines of the sheet. Assumes nothing.
use mathlib.Core.Path.{refl, sym, ◌∙◌}
use Prim.Native.Nat.{◌*◌, ◌-◌, ◌≤◌}
use lib.ListN.{length}
use lib.Seq.{length-take-le}
use Rattle.left_sheet.specs.SheetLaws.{names_within, names_put}
use native.Mathlib.Omega.{arith}
use borrow.Author.Rules.{rules}
use Rattle.left_sheet.proofs.put_names.Statement.{statement}
use Rattle.meaning.specs.Program.{name_line}
use Rattle.table_access.specs.OfSheet.{count_same}
use Rattle.left_sheet.proofs.put_names.Tie as tie

part_end : tie.Need-slice_bounds-copy_lines-end-2
part_end c =
    let z = c in
    let h = names_within z.args.s.now z.args.t.now z.requires.0 z.args.n (omega (arith, z.requires.1, count_same z.args.s.now z.args.t.now z.requires.0 name_line)) in
    search rules

copy-lines-requires : tie.Need-copy_lines-requires
copy-lines-requires c κs =
    let z = c in
    let h = names_within z.args.s.now z.args.t.now z.requires.0 z.args.n (omega (arith, z.requires.1, count_same z.args.s.now z.args.t.now z.requires.0 name_line)) in
    length-take-le (z.args.n * 32 - 0) z.args.out.now (omega (arith, z.requires.2)) ∙ sym (length-take-le (z.args.n * 32 - 0) z.args.s.now (omega (arith, h)))

returns : tie.Need-returns
returns c =
    let z = c in
    names_put z.args.s.now z.args.t.now z.requires.0 z.args.out.now z.args.n _ _ (z.requires.1 ∙ count_same z.args.s.now z.args.t.now z.requires.0 name_line) c.copy_lines.ensures refl

pub put_names_spec : {M : Type 1} → statement M
put_names_spec =
    tie.close
    (tie.spec
    (λ c. let z = c in omega (arith, z.requires.2, z.well_formed.1.1.0))
    (λ c. search rules)
    (λ c. search rules)
    (λ c. let z = c in let h : z.args.n * 32 ≤ length z.args.out.now = omega (arith, z.requires.2) in search rules)
    (λ c. search rules)
    (λ c. search rules)
    part_end
    copy-lines-requires
    (λ c. search rules)
    returns)
