-- `overlay::put_tag` meets its contract: the tag in the columns of a 0, or no tag. Assumes nothing.
use mathlib.Core.List.{List, ◌++◌}
use mathlib.Core.Path.{ap₂, ◌∙◌}
use Prim.Native.Nat.{ℕ, ◌+◌, ◌*◌}
use native.Mathlib.Omega.{arith}
use lib.ListN.{take}
use borrow.Rule.Slice.PartMut.{Post-is}
use borrow.Author.Rules.{rules}
use Rattle.meaning.specs.Program.{ctor_line}
use Rattle.table_access.specs.OfSheet.{decls_same, first_same}
use Rattle.verdict_sheet.specs.StepLaws.{here_room, ctor_past, ctor_few, step_only, step_tag, sheet_of, last_same}
use Rattle.verdict_sheet.proofs.overlay.put_tag.Statement.{statement}
use Rattle.verdict_sheet.proofs.overlay.put_tag.Tie as tie

decl-number-requires : tie.Need-decl_number-requires
decl-number-requires c κs =
    let a = c in
    (a.requires.0.0.tabled, (rw (decls_same a.args.s.now a.args.t.now a.requires.0.0) a.requires.0.1.declared, omega arith))

returns : tie.Need-returns-then-decl_number-eq1
returns c =
    let a = c in
    let k = c.decl_number in
    step_only a.args.s.now a.args.out.now (sheet_of a.args.s.now a.args.t.now a.requires.0.0) a.args.d a.args.i a.requires.0.1 k.result (k.ensures ∙ last_same a.args.s.now a.args.t.now a.requires.0.0 a.args.d) c.if-decl_number-eq1.true a.requires.1.0

first-ctor-requires : tie.Need-first_ctor-first-requires
first-ctor-requires c κs =
    let a = c in
    (a.requires.0.0.tabled, omega (arith, decls_same a.args.s.now a.args.t.now a.requires.0.0, a.requires.0.1.declared))

sub-tag : tie.Need-overflow_sub-tag
sub-tag c =
    let a = c in
    omega (arith, ctor_past a.args.s.now a.args.out.now (sheet_of a.args.s.now a.args.t.now a.requires.0.0) a.args.d a.args.i a.requires.0.1 c.first_ctor-first.result a.args.c (c.first_ctor-first.ensures ∙ first_same a.args.s.now a.args.t.now a.requires.0.0 ctor_line a.args.d) a.requires.1.1 a.requires.1.0)

add-tag : tie.Need-overflow_add-tag
add-tag c =
    let a = c in
    omega (arith, ctor_few a.args.s.now a.args.out.now (sheet_of a.args.s.now a.args.t.now a.requires.0.0) a.args.d a.args.i a.requires.0.1 a.args.c a.requires.1.1 a.requires.1.0)

cast-tag : tie.Need-overflow_cast-tag
cast-tag c =
    let a = c in
    omega (arith, ctor_few a.args.s.now a.args.out.now (sheet_of a.args.s.now a.args.t.now a.requires.0.0) a.args.d a.args.i a.requires.0.1 a.args.c a.requires.1.1 a.requires.1.0)

mul_at : tie.Need-overflow_mul-at
mul_at c =
    let a = c in
    omega (arith, here_room a.args.s.now a.args.out.now (sheet_of a.args.s.now a.args.t.now a.requires.0.0) a.args.d a.args.i a.requires.0.1)

add_at : tie.Need-overflow_add-at
add_at c =
    let a = c in
    omega (arith, here_room a.args.s.now a.args.out.now (sheet_of a.args.s.now a.args.t.now a.requires.0.0) a.args.d a.args.i a.requires.0.1)

add-write-six : tie.Need-overflow_add-at-2
add-write-six c =
    let a = c in
    omega (arith, here_room a.args.s.now a.args.out.now (sheet_of a.args.s.now a.args.t.now a.requires.0.0) a.args.d a.args.i a.requires.0.1)

part-write-six-end : tie.Need-slice_bounds-write_six-end
part-write-six-end c =
    let a = c in
    omega (arith, a.requires.0.1.room, here_room a.args.s.now a.args.out.now (sheet_of a.args.s.now a.args.t.now a.requires.0.0) a.args.d a.args.i a.requires.0.1)

returns-2 : tie.Need-returns
returns-2 c =
    let a = c in
    let k = c.decl_number in
    let f = c.first_ctor-first in
    let o = c.if-decl_number-eq1.false in
    ap₂ (λ (x y : List ℕ). take (a.args.i * 32 + 13) a.args.out.now ++ (x ++ y)) c.write_six.ensures (Post-is (a.args.i * 32 + 13) (a.args.i * 32 + 13 + 6) a.args.out.now (omega arith))
    ∙ step_tag a.args.s.now a.args.out.now (sheet_of a.args.s.now a.args.t.now a.requires.0.0) a.args.d a.args.i a.requires.0.1 k.result f.result a.args.c
    (k.ensures ∙ last_same a.args.s.now a.args.t.now a.requires.0.0 a.args.d) o (f.ensures ∙ first_same a.args.s.now a.args.t.now a.requires.0.0 ctor_line a.args.d) a.requires.1.1 a.requires.1.0

pub put_tag_spec : {M : Type 1} → statement M
put_tag_spec =
    tie.close
    (tie.spec
    decl-number-requires
    returns
    first-ctor-requires
    sub-tag
    add-tag
    cast-tag
    mul_at
    add_at
    add-write-six
    (λ c. search rules)
    (λ c. search rules)
    part-write-six-end
    (λ c κs. search rules)
    (λ c. search rules)
    returns-2)
