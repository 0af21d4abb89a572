-- `verdict_sheet::put_verdicts` meets its contract, declaration after declaration.
use native.Mathlib.Omega.{arith}
use native.Mathlib.Numerals.{add-one}
use Rattle.sheet.specs.Sheet.{lines}
use Rattle.row4_limits.specs.Limits.{start}
use Rattle.verdict_sheet.specs.LineLaws.{start_le}
use Rattle.verdict_sheet.specs.StepLaws.{upto_self, begun, ended, decl_next, slotted_of, sheet_of, recorded_of}
use Rattle.meaning.specs.Program.{field_line}
use Rattle.table_access.specs.OfSheet.{count_same, decls_same}
use Rattle.verdict_sheet.proofs.put_verdicts.Goals as goal

pub loop-d-init : goal.loop-d-init
loop-d-init c =
    let a = c in
    begun a.args.s.now (sheet_of a.args.s.now a.args.t.now a.requires.of_sheet.0) a.args.out.now _ c.copy.ensures

pub put_decl-requires : goal.put_decl-requires
put_decl-requires c =
    let a = c in
    let l = c.loop-d in
    let s = a.args.s.now in
    let t = a.args.t.now in
    let h = a.requires.of_sheet.0 in
    record {
      known = (
        record { of = h; settled = a.requires.of_sheet.1; slotted = slotted_of s t h a.args.keep.now a.requires.slotted.0; sized = omega (arith, a.requires.slotted.1, count_same s t h field_line); recorded = recorded_of s t h a.args.records.now a.requires.recorded.0 },
        omega (arith, c.decls-n.ensures, decls_same s t h),
      );
      s_in_bounds = (omega (arith, a.requires.recorded.1), upto_self s (sheet_of s t h) _ l.out (start (lines 6 s) l.d) (start_le (lines 6 s) l.d) l.invariant);
    }

pub loop-d-preserved : goal.loop-d-preserved
loop-d-preserved c =
    let a = c in
    let l = c.loop-d in
    rw add-one (decl_next a.args.s.now (sheet_of a.args.s.now a.args.t.now a.requires.of_sheet.0) l.d _ l.out _ l.invariant c.put_decl.ensures)

pub returns : goal.returns
returns c =
    let a = c in
    let l = c.loop-d in
    ended a.args.s.now (sheet_of a.args.s.now a.args.t.now a.requires.of_sheet.0) a.args.out.now _ l.out l.d (omega (arith, c.decls-n.ensures, decls_same a.args.s.now a.args.t.now a.requires.of_sheet.0)) c.copy.ensures l.invariant
