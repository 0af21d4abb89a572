-- `input_table::parted` meets its contract: the rows of the declarations, then those of both parts, and the table. Assumes nothing.
use mathlib.Core.Path.{◌≡◌, refl, sym, ◌∙◌}
use Prim.Native.Nat.{◌+◌, ◌-◌, ◌*◌, ◌/◌, ◌≤◌}
use native.Mathlib.Omega.{arith}
use lib.ListN.{length, take, drop, length-drop}
use lib.Seq.{length-take-le}
use borrow.Author.Rules.{rules}
use borrow.Rule.Slice.PartMut.{put_mid}
use Rattle.sheet.specs.Sheet.{count}
use Rattle.input_table.specs.TableLaws.{checked_lines, checked_first, cut_parted, cut_row1, cut_short, cut_good, cut_lines, cut_rest_lines, cut_passes, cut_refusal, refusal_is, part_sized, fronted_cut, fronted_refused}
use Rattle.input_table.proofs.parted.Statement.{statement}
use Rattle.input_table.proofs.parted.Tie as tie

check-rows-requires : tie.Need-check_rows-checked-requires
check-rows-requires c κs =
    let s = c in
    let a = s.args in
    let t = a.t.now in
    let l = cut_lines a.s.now (length t) a.m s.requires in
    let n : 11 + a.m * 6 - 11 ≡ 6 * count 6 (take (a.m * 32 - 0) a.s.now) = omega (arith, l) in
    (cut_short a.s.now (length t) a.m s.requires, length-take-le (11 + a.m * 6 - 11) (drop 11 t) (omega (arith, s.requires.inside, s.requires.roomy, length-drop 11 t)) ∙ n)

check-requires : tie.Need-check-all-requires
check-requires c κs =
    let s = c in
    let a = s.args in
    let n = length a.t.now in
    let r = c.check_rows-checked in
    ((cut_parted a.s.now n a.m s.requires, cut_row1 a.s.now n a.m s.requires, cut_good a.s.now n a.m s.requires), (refusal_is (take (a.m * 32 - 0) a.s.now) r.result r.ensures.answer, search rules))

filled-requires : tie.Need-filled-cells-requires
filled-requires c κs =
    let s = c in
    let a = s.args in
    let b = a.s.now in
    let t = a.t.now in
    let r = c.check_rows-checked in
    let k = c.check-all in
    let e = sym c.check-all.ensures.0 ∙ c.in-Accepted.is in
    let l = cut_lines b (length t) a.m s.requires in
    let x = c.t-1.given.1 in
    let i : 8 * count 6 (take (a.m * 32 - 0) b) + 16 ≤ length t = omega (arith, l, s.requires.inside, s.requires.roomy) in
    checked_first (take (a.m * 32 - 0) b) (put_mid 11 (11 + a.m * 6 - 11) t c.check_rows-checked.new.t) c.check_rows-checked.result.counts (8 * a.m + 16) (8 * a.m + 16 + length (take (length b - a.m * 32) (drop (a.m * 32) b)) / 32 * 6 - (8 * a.m + 16)) c.check-all.new.q (omega (arith, l)) (omega (arith, i, l, x)) (omega (arith, i, l, x, c.t-2-1.given.1))
    (checked_lines (take (a.m * 32 - 0) b) t c.check_rows-checked.result (cut_short b (length t) a.m s.requires) (11 + a.m * 6) c.check_rows-checked.new.t c.check_rows-checked.ensures (refusal_is (take (a.m * 32 - 0) b) c.check_rows-checked.result c.check_rows-checked.ensures.answer ∙ cut_passes b (length t) a.m s.requires e) (omega (arith, i, x)) (omega (arith, i)))

returns : tie.Need-returns-in-Accepted
returns c =
    let s = c in
    let a = s.args in
    let b = a.s.now in
    let t = a.t.now in
    let k = c.check-all in
    let told = c.in-Accepted.is in
    let f = c.filled-cells in
    let x = c.t-1.given.1 in
    let y = c.t-2-1.given.1 in
    let h = cut_rest_lines b (length t) a.m s.requires in
    fronted_cut b (length t) a.m s.requires (sym c.check-all.ensures.0 ∙ told) _ c.check-all.new.q c.filled-cells.new.t (8 * a.m + 16) _ c.filled-cells.result refl (omega arith) (omega (arith, s.requires.roomy, h, x)) (c.check-all.ensures.1.accepts told)
    (c.check-all.ensures.1.same ∙ part_sized _ (8 * a.m + 16) _ _ (omega arith) (omega (arith, s.requires.roomy, h, x)))
    (c.filled-cells.auto.t ∙ part_sized _ 0 (8 * a.m + 16) (8 * a.m + 16) (omega arith) (omega (arith, s.requires.roomy, s.requires.inside, x, y))) c.filled-cells.ensures (omega (arith, s.requires.roomy, x, y, c.t-in-Accepted-1.given.1))

returns-2 : tie.Need-returns-in-Refused
returns-2 c =
    let s = c in
    let a = s.args in
    rw c.refuse.ensures (fronted_refused a.s.now _ _ _ (cut_refusal a.s.now (length a.t.now) a.m s.requires _ (sym c.check-all.ensures.0 ∙ c.in-Refused.is)))

pub parted_spec : {M : Type 1} → statement M
parted_spec =
    tie.close
    (tie.spec
    (λ c. search rules)
    (λ c. search rules)
    (λ c. search rules)
    (λ c. search rules)
    (λ c. search rules)
    (λ c. search rules)
    (λ c. search rules)
    (λ c. search rules)
    (λ c. search rules)
    (λ c. search rules)
    (λ c. search rules)
    (λ c. search rules)
    check-rows-requires
    (λ c. search rules)
    (λ c. search rules)
    (λ c. search rules)
    (λ c. search rules)
    (λ c. search rules)
    (λ c. search rules)
    (λ c. search rules)
    (λ c. search rules)
    check-requires
    (λ c. search rules)
    (λ c. search rules)
    (λ c. search rules)
    (λ c. search rules)
    filled-requires
    (λ c. search rules)
    (λ c κs. search rules)
    (λ c. search rules)
    returns
    (λ c. search rules)
    returns-2)
