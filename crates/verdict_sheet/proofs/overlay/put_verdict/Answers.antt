-- `overlay::put_verdict` meets its contract: three digits in the places of three zeros.
use mathlib.Core.List.{List}
use Rattle.model.specs.Decl.{Decl}
use mathlib.Core.Path.{◌≡◌, refl, ◌∙◌, ap}
use Rattle.std.proofs.Common.{Bool, true, false}
use Rattle.std.specs.Int.{from_bool}
use Rattle.number_columns.specs.Column.{pick}
use native.Mathlib.Omega.{arith}
use lib.ListN.{get_or, length-set}
use Rattle.sheet.specs.Sheet.{lines}
use Rattle.model.specs.Run.{layout_of_decl, left_at, record_of}
use Rattle.meaning.specs.Program.{program}
use Rattle.verdict_sheet.specs.StepLaws.{here_room, layout_small, bit_small, zero_small, step_verdict, sheet_of}
use Rattle.model.specs.Decl.{layout_number}
use Rattle.table_access.specs.OfSheet.{program_same, decls_same}
use Rattle.table_access.specs.Tables.{lines_in}
use Rattle.verdict_sheet.proofs.overlay.put_verdict.Goals as goal

as_pick : (b : Bool) → from_bool b ≡ pick b 1 0
as_pick true = refl
as_pick false = refl

pub layout_number-layout-requires : goal.layout_number-layout-requires
layout_number-layout-requires c = let a = c in record { tabled = (a.requires.of_sheet.0.tabled, a.requires.of_sheet.1); d_bound = rw (decls_same a.args.s.now a.args.t.now a.requires.of_sheet.0) a.requires.next.0.declared }

pub overflow_mul-at : goal.overflow_mul-at
overflow_mul-at c =
    let a = c in
    omega (arith, here_room a.args.s.now a.args.out.now (sheet_of a.args.s.now a.args.t.now a.requires.of_sheet.0) a.args.d a.args.i a.requires.next.0)

pub overflow_add-out : goal.overflow_add-out
overflow_add-out c = omega (arith, zero_small c.layout_number-layout.result c.from.result (c.from.ensures ∙ as_pick _))

pub overflow_add-out-2 : goal.overflow_add-out-2
overflow_add-out-2 c =
    let a = c in
    omega (arith, here_room a.args.s.now a.args.out.now (sheet_of a.args.s.now a.args.t.now a.requires.of_sheet.0) a.args.d a.args.i a.requires.next.0)

pub bounds-out-at : goal.bounds-out-at
bounds-out-at c =
    let a = c in
    omega (arith, a.requires.next.0.room, here_room a.args.s.now a.args.out.now (sheet_of a.args.s.now a.args.t.now a.requires.of_sheet.0) a.args.d a.args.i a.requires.next.0)

pub overflow_add-out-3 : goal.overflow_add-out-3
overflow_add-out-3 c =
    let a = c in
    omega (arith, c.layout_number-layout.ensures, layout_small (layout_of_decl (program (lines_in a.args.t.now)) a.args.d))

pub overflow_add-out-4 : goal.overflow_add-out-4
overflow_add-out-4 c =
    let a = c in
    omega (arith, here_room a.args.s.now a.args.out.now (sheet_of a.args.s.now a.args.t.now a.requires.of_sheet.0) a.args.d a.args.i a.requires.next.0)

pub bounds-out-at-2 : goal.bounds-out-at-2
bounds-out-at-2 c =
    let a = c in
    rw length-set (omega (arith, a.requires.next.0.room, here_room a.args.s.now a.args.out.now (sheet_of a.args.s.now a.args.t.now a.requires.of_sheet.0) a.args.d a.args.i a.requires.next.0))

pub bounds-records-d : goal.bounds-records-d
bounds-records-d c = let a = c in omega (arith, a.requires.of_sheet.2.long, a.requires.next.0.declared)

pub overflow_add-out-5 : goal.overflow_add-out-5
overflow_add-out-5 c =
    let a = c in
    omega (arith, bit_small (get_or a.args.records.now a.args.d 0) (record_of (left_at 100 (program (lines 6 a.args.s.now)) a.args.d)) (a.requires.of_sheet.2.numbers a.args.d a.requires.next.0.declared))

pub overflow_add-out-6 : goal.overflow_add-out-6
overflow_add-out-6 c =
    let a = c in
    omega (arith, here_room a.args.s.now a.args.out.now (sheet_of a.args.s.now a.args.t.now a.requires.of_sheet.0) a.args.d a.args.i a.requires.next.0)

pub bounds-out-at-3 : goal.bounds-out-at-3
bounds-out-at-3 c =
    let a = c in
    rw (length-set, length-set) (omega (arith, a.requires.next.0.room, here_room a.args.s.now a.args.out.now (sheet_of a.args.s.now a.args.t.now a.requires.of_sheet.0) a.args.d a.args.i a.requires.next.0))

pub returns : goal.returns
returns c =
    let a = c in
    step_verdict a.args.s.now a.args.out.now (sheet_of a.args.s.now a.args.t.now a.requires.of_sheet.0) a.args.d a.args.i a.requires.next.0 c.from.result c.layout_number-layout.result (get_or a.args.records.now a.args.d 0) a.requires.next.1
    (c.layout_number-layout.ensures ∙ ap (λ (ds : List Decl). layout_number (layout_of_decl ds a.args.d)) (program_same a.args.s.now a.args.t.now a.requires.of_sheet.0)) (c.from.ensures ∙ as_pick _) (a.requires.of_sheet.2.numbers a.args.d a.requires.next.0.declared)
