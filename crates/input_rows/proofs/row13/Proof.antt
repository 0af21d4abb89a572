-- `input_rows::row13` meets its contract: there are at most 256 names and Q lines. Assumes nothing.
use mathlib.Core.Path.{◌≡◌, ap, sym, ◌∙◌}
use Prim.Native.Nat.{ℕ, ◌+◌, ◌*◌, ◌/◌, ◌≤◌}
use native.Mathlib.Omega.{arith}
use lib.ListN.{length}
use borrow.Author.Rules.{rules}
use Rattle.sheet.specs.Format.{base}
use Rattle.walk_cells.specs.Cells.{lines_of}
use Rattle.walk_cells.specs.CellsLaws.{length_lines_of}
use Rattle.row4_limits.specs.Limits.{start}
use Rattle.table_declared.specs.PassedLaws.{names_within, lines_few}
use Rattle.table_access.specs.Tables.{lines_in}
use Rattle.rows_heads.specs.HeadRows.{start_end}
use Rattle.input_rows.specs.JudgingLaws.{thirteen_none, thirteen_at, thirteen_passed}
use Rattle.input_rows.proofs.row13.Statement.{statement}
use Rattle.input_rows.proofs.row13.Tie as tie

-- the lines end where the Q lines begin
ends : (c : tie.After-line_of-end) → c.line_of-end.result ≡ length (lines_in c.args.t.now)
ends c =
    let ls = lines_in c.args.t.now in
    c.line_of-end.ensures ∙ (ap (start ls) c.decls.ensures ∙ start_end ls _ (omega arith))

returns : tie.Need-returns-then-n-eq0
returns c =
    let a = c.args in
    sym (thirteen_none (lines_in a.t.now) (lines_of a.q.now) (length_lines_of a.q.now ∙ c.if-n-eq0.true))

mul-sited : tie.Need-overflow_mul-names
mul-sited c =
    let s = c in
    record { fits = omega (arith, c.names-names.ensures, names_within base (lines_in s.args.t.now) s.requires.0.bounded) }

part-m-end : tie.Need-slice_bounds-m-end
part-m-end c =
    let s = c in
    let h : 3 * c.names-names.result ≤ 768 = omega (arith, c.names-names.ensures, names_within base (lines_in s.args.t.now) s.requires.0.bounded) in
    h

add-t15 : tie.Need-overflow_add-result
add-t15 c =
    let s = c in
    record { fits = omega (arith, ends c.before.before.before.before, lines_few (lines_in s.args.t.now) s.requires.0.tabled.passed, c.if-wrong-n.true, s.requires.1.few) }

returns-2 : tie.Need-returns-then-wrong-n
returns-2 c =
    let a = c.args in
    sym (thirteen_at (lines_in a.t.now) (lines_of a.q.now) _ (length a.q.now / 6) _ c.sited-wrong.ensures (sym (length_lines_of a.q.now)) c.if-wrong-n.true (ap (λ (n : ℕ). n + c.sited-wrong.result) (ends c.before.before.before.before)))

returns-3 : tie.Need-returns
returns-3 c =
    let a = c.args in
    sym (thirteen_passed (lines_in a.t.now) (lines_of a.q.now) _ (length a.q.now / 6) c.sited-wrong.ensures (sym (length_lines_of a.q.now)) c.if-wrong-n.false)

pub row13_spec : {M : Type 1} → statement M
row13_spec =
    tie.close
    (tie.spec
    returns
    (λ c κs. search rules)
    (λ c κs. search rules)
    (λ c κs. search rules)
    mul-sited
    (λ c. search rules)
    (λ c. search rules)
    part-m-end
    (λ c κs. search rules)
    add-t15
    returns-2
    returns-3)
