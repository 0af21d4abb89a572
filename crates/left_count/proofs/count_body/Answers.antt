-- `left_count::count_body` meets its contract, by the declaration's state and body kind. Assumes nothing.
use Rattle.std.proofs.Common.{refl, sym, ◌∙◌, length, Some, arith}
use Rattle.table_declared.specs.PassedLaws.{decls_few}
use Rattle.table_access.specs.Tables.{lines_in}
use Rattle.left_count.specs.SumsLaws.{added_lines}
use Rattle.left_count.specs.CountsLaws.{variant_few, told_newtype, told_abbrev, kind_three, count_newtype, count_none, count_abbrev, count_record, count_variant}
use Rattle.left_count.proofs.count_body.Goals as goal

pub state-requires : goal.state-requires
state-requires c = omega (arith, c.requires.ready.1, decls_few (lines_in c.args.t.now) c.requires.ready.0.tabled.passed)

pub count_type-requires : goal.count_type-requires
count_type-requires c =
    let a = c.args in
    let p = c.requires in
    (told_newtype (lines_in a.t.now) a.t.now a.u.now a.f.now a.keep.now p.ready.0 a.d p.ready.1 (sym c.state.ensures ∙ c.if-state-eq1.true), omega (arith, p.fact.1), omega (arith, p.fact.2))

pub returns-then-state-eq1 : goal.returns-then-state-eq1
returns-then-state-eq1 c =
    let a = c.args in
    let p = c.requires in
    count_newtype (lines_in a.t.now) a.t.now a.u.now a.f.now a.keep.now p.ready.0 a.d p.ready.1 (length a.scratch.now) a.c _ _ (sym c.state.ensures ∙ c.if-state-eq1.true) refl c.count_type.ensures

pub returns-then-k-eq0 : goal.returns-then-k-eq0
returns-then-k-eq0 c =
    let a = c.args in
    let p = c.requires in
    count_none (lines_in a.t.now) a.t.now a.u.now a.f.now a.keep.now p.ready.0 a.d p.ready.1 (length a.scratch.now) a.c (Some a.c) p.fact.0 (λ e. c.if-state-eq1.false (c.state.ensures ∙ e)) (sym c.decl_number-k.ensures ∙ c.if-k-eq0.true)
    (added_lines (lines_in a.t.now) a.d 0 (length a.scratch.now) a.c a.c refl refl (omega arith))

pub count_type-requires-then-k-eq1 : goal.count_type-requires-then-k-eq1
count_type-requires-then-k-eq1 c =
    let a = c.args in
    let p = c.requires in
    (told_abbrev (lines_in a.t.now) a.t.now a.u.now a.f.now a.keep.now p.ready.0 a.d p.ready.1 p.fact.0 (λ e. c.if-state-eq1.false (c.state.ensures ∙ e)) (sym c.decl_number-k.ensures ∙ c.if-k-eq1.true) _ c.decl_number-n.ensures, omega (arith, p.fact.1), omega (arith, p.fact.2))

pub returns-then-k-eq1 : goal.returns-then-k-eq1
returns-then-k-eq1 c =
    let a = c.args in
    let p = c.requires in
    count_abbrev (lines_in a.t.now) a.t.now a.u.now a.f.now a.keep.now p.ready.0 a.d p.ready.1 (length a.scratch.now) a.c _ p.fact.0 (λ e. c.if-state-eq1.false (c.state.ensures ∙ e)) _ (sym c.decl_number-k.ensures ∙ c.if-k-eq1.true) c.decl_number-n.ensures c.count_type-then-k-eq1.ensures

pub returns-then-k-eq2 : goal.returns-then-k-eq2
returns-then-k-eq2 c =
    let a = c.args in
    let p = c.requires in
    count_record (lines_in a.t.now) a.t.now a.u.now a.f.now a.keep.now p.ready.0 a.d p.ready.1 (length a.scratch.now) a.c _ p.fact.0 (λ e. c.if-state-eq1.false (c.state.ensures ∙ e)) (sym c.decl_number-k.ensures ∙ c.if-k-eq2.true) c.count_fields.ensures

pub add_lines-requires : goal.add_lines-requires
add_lines-requires c =
    let a = c.args in
    let p = c.requires in
    let k = c.decl_number-k in
    let e = kind_three (lines_in a.t.now) a.t.now a.u.now a.f.now a.keep.now p.ready.0 a.d p.ready.1 k.result k.ensures c.if-k-eq0.false c.if-k-eq1.false c.if-k-eq2.false in
    (omega (arith, p.fact.3), omega (arith, c.decl_number-n.ensures, variant_few (lines_in a.t.now) p.ready.0.tabled.passed a.d p.ready.1 e))

pub count_fields-requires-2-clause-room_value : goal.count_fields-requires-2-clause-room_value
count_fields-requires-2-clause-room_value c =
    let a = c.args in
    let p = c.requires in
    let k = c.decl_number-k in
    let e = kind_three (lines_in a.t.now) a.t.now a.u.now a.f.now a.keep.now p.ready.0 a.d p.ready.1 k.result k.ensures c.if-k-eq0.false c.if-k-eq1.false c.if-k-eq2.false in
    let l = c.add_lines.ensures in
    (omega (arith, l.0, p.fact.1), omega (arith, l.1, p.fact.2), omega (arith, l.2, p.fact.3, c.decl_number-n.ensures, variant_few (lines_in a.t.now) p.ready.0.tabled.passed a.d p.ready.1 e))

pub returns : goal.returns
returns c =
    let a = c.args in
    let p = c.requires in
    let k = c.decl_number-k in
    let e = kind_three (lines_in a.t.now) a.t.now a.u.now a.f.now a.keep.now p.ready.0 a.d p.ready.1 k.result k.ensures c.if-k-eq0.false c.if-k-eq1.false c.if-k-eq2.false in
    let m = c.add_lines in
    count_variant (lines_in a.t.now) a.t.now a.u.now a.f.now a.keep.now p.ready.0 a.d p.ready.1 (length a.scratch.now) a.c _ p.fact.0 (λ e. c.if-state-eq1.false (c.state.ensures ∙ e)) m.result c.decl_number-n.result e c.decl_number-n.ensures m.ensures c.count_fields-2.ensures
