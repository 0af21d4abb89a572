-- `verdict_sheet::put_decl` meets its contract, line after line.
use mathlib.Core.Path.{◌≡◌, ap₂, sym, ◌∙◌}
use Prim.Native.Nat.{ℕ, suc}
use native.Mathlib.Omega.{arith}
use native.Mathlib.Numerals.{add-one}
use Rattle.sheet.specs.Sheet.{lines}
use Rattle.meaning.specs.Program.{ctor_line, field_line, import_line}
use Rattle.row4_limits.specs.Limits.{start}
use Rattle.table_declared.specs.PassedLaws.{decls_few}
use Rattle.table_access.specs.Tables.{lines_in}
use Rattle.verdict_sheet.specs.LineLaws.{start_le}
use Rattle.verdict_sheet.specs.StepLaws.{starts_rise, import_whole, local_next, upto_self, sheet_of}
use Rattle.table_access.specs.OfSheet.{head_same, decls_same, start_same, first_same}
use Rattle.verdict_sheet.proofs.put_decl.Goals as goal

pub returns-then-is_import : goal.returns-then-is_import
returns-then-is_import c =
    let a = c in
    import_whole a.args.s.now (sheet_of a.args.s.now a.args.t.now a.requires.known.0.of) a.args.d a.requires.known.1 a.args.out.now (sym (head_same a.args.s.now a.args.t.now a.requires.known.0.of import_line a.args.d) ∙ sym c.is_import.ensures ∙ c.if-is_import.true) a.requires.s_in_bounds.1

pub overflow_add-d : goal.overflow_add-d
overflow_add-d c = let a = c in omega (arith, a.requires.known.1, decls_same a.args.s.now a.args.t.now a.requires.known.0.of, decls_few (lines_in a.args.t.now) a.requires.known.0.of.tabled.passed)

pub is_import-requires-clause-d_bound : goal.is_import-requires-clause-d_bound
is_import-requires-clause-d_bound c = let a = c in omega (arith, a.requires.known.1, decls_same a.args.s.now a.args.t.now a.requires.known.0.of)

pub line_of-end-requires-clause-d_bound : goal.line_of-end-requires-clause-d_bound
line_of-end-requires-clause-d_bound c = let a = c in omega (arith, a.requires.known.1, decls_same a.args.s.now a.args.t.now a.requires.known.0.of)

pub line_of-start-requires-clause-d_bound : goal.line_of-start-requires-clause-d_bound
line_of-start-requires-clause-d_bound c = let a = c in omega (arith, a.requires.known.1, decls_same a.args.s.now a.args.t.now a.requires.known.0.of)

pub first_field-requires-clause-d_bound : goal.first_field-requires-clause-d_bound
first_field-requires-clause-d_bound c = let a = c in omega (arith, a.requires.known.1, decls_same a.args.s.now a.args.t.now a.requires.known.0.of)

pub first_ctor-requires-clause-d_bound : goal.first_ctor-requires-clause-d_bound
first_ctor-requires-clause-d_bound c = let a = c in omega (arith, a.requires.known.1, decls_same a.args.s.now a.args.t.now a.requires.known.0.of)

pub loop-i-init : goal.loop-i-init
loop-i-init c =
    let a = c in
    let e : c.line_of-end.result ≡ start (lines 6 a.args.s.now) (suc a.args.d) = c.line_of-end.ensures ∙ rw add-one (start_same a.args.s.now a.args.t.now a.requires.known.0.of (suc a.args.d)) in
    let g = c.line_of-start.ensures ∙ start_same a.args.s.now a.args.t.now a.requires.known.0.of a.args.d in
    let f = c.first_field.ensures ∙ first_same a.args.s.now a.args.t.now a.requires.known.0.of field_line a.args.d in
    let k = c.first_ctor.ensures ∙ first_same a.args.s.now a.args.t.now a.requires.known.0.of ctor_line a.args.d in (
      g,
      e,
      sym (head_same a.args.s.now a.args.t.now a.requires.known.0.of import_line a.args.d) ∙ sym c.is_import.ensures ∙ c.if-is_import.false,
      rw g (ap₂ (λ (x y : ℕ). record { fields = x; ctors = y }) f k),
      rw g a.requires.s_in_bounds.1,
    )

pub put_line-c-requires : goal.put_line-c-requires
put_line-c-requires c =
    let a = c in
    let l = c.loop-i in
    let p = sheet_of a.args.s.now a.args.t.now a.requires.known.0.of in
    record {
      known = a.requires.known.0;
      next = (
        record {
          declared = a.requires.known.1;
          local = l.invariant.2;
          from = omega (arith, l.invariant.0);
          to = omega (arith, l.invariant.1);
          room = omega (arith, a.requires.s_in_bounds.0);
          written = upto_self a.args.s.now p a.args.out.now l.out l.i (omega (arith, l.invariant.1, start_le (lines 6 a.args.s.now) (suc a.args.d))) l.invariant.4;
        },
        l.invariant.3,
      );
    }

pub loop-i-preserved : goal.loop-i-preserved
loop-i-preserved c =
    let a = c in
    let l = c.loop-i in
    let k = c.put_line-c in
    let p = sheet_of a.args.s.now a.args.t.now a.requires.known.0.of in (
      l.invariant.0,
      l.invariant.1,
      l.invariant.2,
      rw add-one k.ensures.counts,
      rw add-one (local_next a.args.s.now p a.args.d a.requires.known.1 a.args.out.now l.out _ l.i (omega (arith, l.invariant.1)) l.invariant.4 k.ensures.written),
    )

pub returns : goal.returns
returns c =
    let a = c in
    let l = c.loop-i in
    let h = starts_rise a.args.s.now (sheet_of a.args.s.now a.args.t.now a.requires.known.0.of) a.args.d a.requires.known.1 in
    let e : l.i ≡ start (lines 6 a.args.s.now) (suc a.args.d) = omega (arith, l.invariant.0, l.invariant.1, h) in
    rw e at l.invariant.4
