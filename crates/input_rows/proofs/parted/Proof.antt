-- `input_rows::parted` meets its contract: the parts of the sheet and of the memory as they are lent. Assumes nothing.
use mathlib.Core.Path.{refl, ap, ◌∙◌}
use Prim.Native.Nat.{ℕ, ◌+◌, ◌-◌, ◌*◌, ◌/◌, ◌≤◌}
use lib.ListN.{length, take, drop}
use native.Mathlib.Omega.{arith}
use borrow.Author.Rules.{rules}
use Rattle.input_table.specs.TableLaws.{read_lent, tailed_lent, part_sized}
use Rattle.input_rows.specs.JudgingLaws.{tabled_in, listed_of, fields_room, decls_room, decides_parts}
use Rattle.input_rows.proofs.parted.Statement.{statement}
use Rattle.input_rows.proofs.parted.Tie as tie

decls-requires : tie.Need-decls-n-requires
decls-requires c κs =
    let s = c in
    let a = s.args in
    (read_lent a.s.now a.t.now a.lines a.cells s.requires.0 (a.lines * 32) refl).of.tabled

-- so few declarations there are
few : (c : tie.After-decls-n) → c.decls-n.result ≤ 96
few c =
    let s = c in
    let a = s.args in
    decls_room _ _ (read_lent a.s.now a.t.now a.lines a.cells s.requires.0 (a.lines * 32) refl).of _ c.decls-n.ensures

mul-judge-2 : tie.Need-overflow_mul-n
mul-judge-2 c = record { fits = omega (arith, few c.before.before.before) }

part-judge-end-3 : tie.Need-slice_bounds-judge-end-3
part-judge-end-3 c =
    let s = c in
    omega (arith, few c.before.before.before, s.requires.1.names)

part-judge-end-4 : tie.Need-slice_bounds-judge-end-4
part-judge-end-4 c =
    let s = c in
    omega (arith, few c.before.before.before.before, s.requires.1.ranks)

judge-requires : tie.Need-judge-j-requires
judge-requires c κs =
    let s = c in
    let a = s.args in
    let d = c in
    let n = d.decls-n.result in
    let r = read_lent a.s.now a.t.now a.lines a.cells s.requires.0 (a.lines * 32) refl in
    let w = tailed_lent a.s.now a.t.now a.lines a.cells s.requires.0 (a.lines * 32) (8 * a.lines + 16) (8 * a.lines + 16 + length (take (length a.s.now - a.lines * 32) (drop (a.lines * 32) a.s.now)) / 32 * 6) refl refl (omega arith) in
    let e = d.decls-n.ensures in (
      (tabled_in _ _ _ _ r w, listed_of _ _ _ _ r w, fields_room _ _ r.of a.keep.now a.u.now a.rank.now s.requires.1),
      (part_sized a.u.now 0 (2 * n) (2 * n) (omega arith) (omega (arith, few d.before.before.before.before.before, s.requires.1.names)) ∙ ap (λ (k : ℕ). 2 * k) e, part_sized a.rank.now 0 n n (omega arith) (omega (arith, few d.before.before.before.before.before, s.requires.1.ranks)) ∙ e),
    )

returns : tie.Need-returns
returns c =
    let s = c in
    let a = s.args in
    let d = c in
    let n = d.decls-n.result in
    let j = c.judge-j in
    decides_parts a.s.now a.t.now a.lines a.cells s.requires.0 n d.decls-n.ensures (8 * a.lines + 16) _ refl (omega arith) _ a.u.now a.rank.now j.new.u j.new.rank j.result j.ensures
    (j.auto.u ∙ part_sized a.u.now 0 (2 * n) (2 * n) (omega arith) (omega (arith, few d.before.before.before.before.before.before.before.before.before.before.before.before, s.requires.1.names))) (j.auto.rank ∙ part_sized a.rank.now 0 n n (omega arith) (omega (arith, few d.before.before.before.before.before.before.before.before.before.before.before.before, s.requires.1.ranks)))

pub parted_spec : {M : Type 1} → statement M
parted_spec =
    tie.close
    (tie.spec
    (λ c. search rules)
    (λ c. search rules)
    (λ c. search rules)
    (λ c. search rules)
    (λ c. search rules)
    (λ c. search rules)
    (λ c. search rules)
    (λ c. search rules)
    (λ c. search rules)
    (λ c. search rules)
    (λ c. search rules)
    decls-requires
    (λ c. search rules)
    (λ c. search rules)
    (λ c. search rules)
    (λ c. search rules)
    (λ c. search rules)
    (λ c. search rules)
    (λ c. search rules)
    mul-judge-2
    (λ c. search rules)
    (λ c. search rules)
    part-judge-end-3
    (λ c. search rules)
    (λ c. search rules)
    part-judge-end-4
    judge-requires
    (λ c. search rules)
    (λ c. search rules)
    (λ c. search rules)
    returns)
