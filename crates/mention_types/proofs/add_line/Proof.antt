-- `mention_types::add_line` meets its contract. Assumes nothing.
use mathlib.Core.Path.{refl, sym, ◌∙◌}
use mathlib.Core.Bool.{false}
use mathlib.Core.Logic.{⊎_elim}
use native.Mathlib.Omega.{arith}
use Rattle.mention_types.specs.NamesLaws.{buf_low, ref_low, inline_low, buf_names, ref_names, inline_names, leaf_names, kind_some}
use Rattle.mention_types.specs.AddsLaws.{row_in, clears, one_more, adds_none}
use borrow.Author.Rules.{rules}
use Rattle.mention_types.proofs.add_line.Statement.{statement}
use Rattle.mention_types.proofs.add_line.Tie as tie

mul-clear : tie.Need-overflow_mul-y
mul-clear c =
    let p = c.requires in
    omega (arith, row_in _ p.0.passed _ _ _ p.1.0 p.1.1)

clear-requires : tie.Need-clear-requires
clear-requires c κs =
    let p = c.requires in
    omega (arith, row_in _ p.0.passed _ _ _ p.1.0 p.1.1)

add-arrow-requires : tie.Need-add_arrow-requires
add-arrow-requires c κs =
    let p = c.requires in
    (p.0, (rw c.clear.ensures (clears _ _ _ _ p.1.1 p.1.0), (p.1.1, sym c.type_number-kind.ensures ∙ c.in-7.is)))

add-app-requires : tie.Need-add_app-requires
add-app-requires c κs =
    let p = c.requires in
    (p.0, (rw c.clear.ensures (clears _ _ _ _ p.1.1 p.1.0), (p.1.1, sym c.type_number-kind.ensures ∙ c.in-8.is)))

add-tuple-requires : tie.Need-add_tuple-requires
add-tuple-requires c κs =
    let p = c.requires in
    (p.0, (rw c.clear.ensures (clears _ _ _ _ p.1.1 p.1.0), (p.1.1, sym c.type_number-kind.ensures ∙ c.in-9.is)))

add-child-requires : tie.Need-add_child-requires
add-child-requires c κs =
    let p = c.requires in
    (p.0, (rw c.clear.ensures (clears _ _ _ _ p.1.1 p.1.0), ((p.1.1, omega arith), ref_low _ p.0.passed _ p.1.1 (sym c.type_number-kind.ensures ∙ c.in-11.is))))

add-child-requires-2 : tie.Need-add_child-requires-in-10
add-child-requires-2 c κs =
    let p = c.requires in
    let n = c.type_number-kind.ensures in
    (p.0, (rw c.clear.ensures (clears _ _ _ _ p.1.1 p.1.0), ((p.1.1, omega arith), ⊎_elim (λ q. buf_low _ p.0.passed _ p.1.1 (sym n ∙ q)) (λ q. inline_low _ p.0.passed _ p.1.1 (sym n ∙ q)) c.in-10.is)))

returns : tie.Need-returns-in-7
returns c =
    let p = c.requires in
    one_more _ _ _ _ _ _ p.1.1 p.1.0 (rw c.clear.ensures at c.add_arrow.ensures) (λ m l. refl)

returns-2 : tie.Need-returns-in-8
returns-2 c =
    let p = c.requires in
    one_more _ _ _ _ _ _ p.1.1 p.1.0 (rw c.clear.ensures at c.add_app.ensures) (λ m l. refl)

returns-3 : tie.Need-returns-in-9
returns-3 c =
    let p = c.requires in
    one_more _ _ _ _ _ _ p.1.1 p.1.0 (rw c.clear.ensures at c.add_tuple.ensures) (λ m l. refl)

returns-4 : tie.Need-returns-in-11
returns-4 c =
    let p = c.requires in
    one_more _ _ _ _ _ _ p.1.1 p.1.0 (rw c.clear.ensures at c.add_child.ensures) (λ m l. sym (ref_names _ p.0.passed _ p.1.1 m (sym c.type_number-kind.ensures ∙ c.in-11.is)))

returns-5 : tie.Need-returns-in-10
returns-5 c =
    let p = c.requires in
    let n = c.type_number-kind.ensures in
    one_more
    _
    _
    _
    _
    _
    _
    p.1.1
    p.1.0
    (rw c.clear.ensures at c.add_child-in-10.ensures)
    (λ m l. ⊎_elim (λ q. sym (buf_names _ p.0.passed _ p.1.1 m (sym n ∙ q))) (λ q. sym (inline_names _ p.0.passed _ p.1.1 m (sym n ∙ q))) c.in-10.is)

returns-6 : tie.Need-returns-in-0-to-6
returns-6 c =
    let p = c.requires in
    one_more _ _ _ _ _ (λ m. false) p.1.1 p.1.0 (rw c.clear.ensures (adds_none _ _ _)) (λ m l. sym (leaf_names _ p.0.passed _ p.1.1 m (omega (arith, c.in-0-to-6.if-kind-lt7-own.true, c.type_number-kind.ensures))))

returns-7 : tie.Need-returns-else-kind-lt7
returns-7 c =
    let p = c.requires in
    let r = c.in_default-1.rest in
    absurd (kind_some _ p.0.passed _ p.1.1 _ c.type_number-kind.ensures c.if-kind-lt7-1.false r.0.0.0.0.1 r.0.0.0.1 r.0.0.1 r.0.1 r.1)

pub add_line_spec : {M : Type 1} → statement M
add_line_spec =
    tie.close
    (tie.spec
    mul-clear
    clear-requires
    (λ c κs. search rules)
    add-arrow-requires
    add-app-requires
    add-tuple-requires
    add-child-requires
    add-child-requires-2
    (λ c. c.add_arrow.auto.sets ∙ c.clear.auto.s)
    returns
    (λ c. c.add_app.auto.sets ∙ c.clear.auto.s)
    returns-2
    (λ c. c.add_tuple.auto.sets ∙ c.clear.auto.s)
    returns-3
    (λ c. c.add_child.auto.sets ∙ c.clear.auto.s)
    returns-4
    (λ c. c.add_child-in-10.auto.sets ∙ c.clear.auto.s)
    returns-5
    (λ c. c.clear.auto.s)
    returns-6
    (λ c. c.clear.auto.s)
    returns-7)
