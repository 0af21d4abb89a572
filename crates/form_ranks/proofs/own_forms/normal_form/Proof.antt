-- `own_forms::normal_form` meets its contract: what is put into the scratch is copied, and the cells are set. Assumes nothing.
use mathlib.Core.Logic.{inl, inr}
use Prim.Native.Nat.{◌+◌, ◌*◌}
use native.Mathlib.Omega.{arith}
use lib.ListN.{length-set}
use Rattle.form_normal.specs.TablesLaws.{added_none, added_some}
use borrow.Author.Rules.{rules}
use Rattle.form_ranks.proofs.own_forms.normal_form.Statement.{statement}
use Rattle.form_ranks.proofs.own_forms.normal_form.Tie as tie

cast-y : tie.Need-overflow_cast-y
cast-y c = omega (arith, c.shared_slice_known-3-1.given (2 * c.args.d + 1))

returns : tie.Need-returns-then-n-scratch
returns c =
    let a = c.args in
    added_none _ a.scratch.now a.d a.pos c.emit-n.result a.f.now _ c.emit-n.ensures (inl (omega (arith, c.if-n-scratch.true, c.emit-n.ensures.long)))

returns-2 : tie.Need-returns-then-pos-n
returns-2 c =
    let a = c.args in
    added_none _ a.scratch.now a.d a.pos c.emit-n.result a.f.now _ c.emit-n.ensures (inr (omega (arith, c.if-n-scratch.false, c.emit-n.ensures.long), omega (arith, c.if-pos-n.true)))

slice-write-f-2 : tie.Need-bounds-f-d-2
slice-write-f-2 c = simp length-set (omega (arith, c.requires))

returns-3 : tie.Need-returns
returns-3 c =
    let a = c.args in
    let p = c.requires in
    added_some _ a.scratch.now a.d a.pos c.emit-n.result a.f.now _ _ c.emit-n.ensures (omega (arith, c.if-n-scratch.false, c.emit-n.ensures.long)) (omega (arith, c.if-pos-n.false)) (omega (arith, p.0.decl, p.2)) c.copy_words.ensures

pub normal_form_spec : {M : Type 1} → statement M
normal_form_spec =
    tie.close
    (tie.spec
    (λ c. search rules)
    (λ c. search rules)
    (λ c. search rules)
    (λ c. search rules)
    cast-y
    (λ c κs. search rules)
    (λ c. search rules)
    (λ c. search rules)
    (λ c. search rules)
    returns
    (λ c. search rules)
    (λ c. search rules)
    (λ c. search rules)
    (λ c. search rules)
    returns-2
    (λ c κs. search rules)
    (λ c. search rules)
    (λ c. search rules)
    (λ c. search rules)
    (λ c. search rules)
    (λ c. search rules)
    (λ c. search rules)
    slice-write-f-2
    (λ c. search rules)
    (λ c. search rules)
    (λ c. search rules)
    returns-3)
