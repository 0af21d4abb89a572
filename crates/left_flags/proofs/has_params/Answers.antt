-- `left_flags::has_params` meets its contract: the parameters before P line p occur.
use mathlib.Core.Path.{ap₂, sym, ◌∙◌}
use mathlib.Core.List.{map}
use Prim.Native.Nat.{ℕ, ◌+◌, ◌-◌}
use native.Mathlib.Omega.{arith}
use Rattle.meaning.specs.Program.{param_line}
use Rattle.row4_limits.specs.Limits.{start}
use Rattle.table_declared.specs.PassedLaws.{decls_few}
use Rattle.resolve_kids.specs.Params.{params_from, params_of}
use Rattle.resolve_kids.specs.ParamsLaws.{count_before_le}
use Rattle.form_nodes.specs.Words.{node_of}
use Rattle.form_emit.specs.Emit.{form_words}
use Rattle.left_flags.specs.Flags.{has_all}
use Rattle.left_flags.specs.FlagsLaws.{all_end, all_hit, all_miss}
use Rattle.table_access.specs.Tables.{lines_in}
use Rattle.left_flags.proofs.has_params.Goals as goal

pub overflow_mul-start : goal.overflow_mul-start
overflow_mul-start c = omega (arith, c.requires.2, decls_few (lines_in c.args.t.now) c.requires.0.passed)

pub offset_bounds-f-d : goal.offset_bounds-f-d
offset_bounds-f-d c = omega (arith, c.requires.2, decls_few (lines_in c.args.t.now) c.requires.0.passed)

pub bounds-f-d : goal.bounds-f-d
bounds-f-d c = omega (arith, c.requires.2, c.requires.1.cells)

pub overflow_mul-n : goal.overflow_mul-n
overflow_mul-n c = omega (arith, c.requires.2, decls_few (lines_in c.args.t.now) c.requires.0.passed)

pub overflow_add-n : goal.overflow_add-n
overflow_add-n c = omega (arith, c.requires.2, decls_few (lines_in c.args.t.now) c.requires.0.passed)

pub offset_bounds-f-d-2 : goal.offset_bounds-f-d-2
offset_bounds-f-d-2 c = omega (arith, c.requires.2, decls_few (lines_in c.args.t.now) c.requires.0.passed)

pub bounds-f-d-2 : goal.bounds-f-d-2
bounds-f-d-2 c = omega (arith, c.requires.2, c.requires.1.cells)

pub overflow_add-d : goal.overflow_add-d
overflow_add-d c = omega (arith, c.requires.2, decls_few (lines_in c.args.t.now) c.requires.0.passed)

pub loop-p-init : goal.loop-p-init
loop-p-init c =
    let a = c.args in
    ap₂ (λ (i e : ℕ). has_all (params_of (lines_in a.t.now) a.d) (params_from (lines_in a.t.now) i (e - i)) (map node_of (form_words a.f.now a.d))) (sym c.first_param-p.ensures) (sym c.first_param-end.ensures)

pub param-requires : goal.param-requires
param-requires c =
    let a = c.args in
    record { tabled = c.requires.0; p_bound = omega (arith, c.first_param-end.ensures, count_before_le param_line (lines_in a.t.now) (start (lines_in a.t.now) (a.d + 1))) }

pub has_variable-requires : goal.has_variable-requires
has_variable-requires c = c.requires.1.inside c.args.d c.requires.2

pub returns-then-not-has_variable : goal.returns-then-not-has_variable
returns-then-not-has_variable c =
    let a = c.args in
    sym (c.loop-p.invariant
    ∙ all_miss (lines_in a.t.now) (params_of (lines_in a.t.now) a.d) (map node_of (form_words a.f.now a.d)) c.first_param-end.result c.loop-p.p c.place_of-i.result
    (rw (← c.param.ensures) c.place_of-i.ensures) (omega arith) (sym c.has_variable.ensures ∙ c.if-not-has_variable.true))

pub loop-p-preserved : goal.loop-p-preserved
loop-p-preserved c =
    let a = c.args in
    c.loop-p.invariant
    ∙ all_hit (lines_in a.t.now) (params_of (lines_in a.t.now) a.d) (map node_of (form_words a.f.now a.d)) c.first_param-end.result c.loop-p.p c.place_of-i.result
    (rw (← c.param.ensures) c.place_of-i.ensures) (omega arith) (sym c.has_variable.ensures ∙ c.if-not-has_variable.false)

pub returns : goal.returns
returns c =
    let a = c.args in
    sym (c.loop-p.invariant
    ∙ all_end (lines_in a.t.now) (params_of (lines_in a.t.now) a.d) (map node_of (form_words a.f.now a.d)) c.first_param-end.result c.loop-p.p (omega arith))
