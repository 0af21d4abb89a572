-- `form_node_words::place_of` meets its contract: what is sought from P line i on is what was sought from the first.
use Rattle.std.proofs.Common.{◌≡◌, List, ℕ, ◌+◌, ◌-◌, refl, sym, ◌∙◌, arith, length}
use Rattle.meaning.specs.Program.{param_line}
use Rattle.row4_limits.specs.Limits.{start}
use Rattle.table_declared.specs.PassedLaws.{params_few}
use Rattle.table_access.specs.Tables.{first_of, lines_in}
use Rattle.resolve_kids.specs.Params.{params_of}
use Rattle.resolve_kids.specs.ParamsLaws.{count_before_le, params_length}
use Rattle.form_node_words.specs.OwnLaws.{sought_first, sought_end, sought_hit, sought_miss, place_of_params}
use Rattle.sheet.specs.Line.{Line}
use Rattle.form_node_words.proofs.place_of.Goals as goal

-- the count of parameters
counted : (ls : List Line) (d : ℕ) → length (params_of ls d) ≡ first_of param_line ls (d + 1) - first_of param_line ls d
counted ls d = params_length ls (first_of param_line ls d) (first_of param_line ls (d + 1) - first_of param_line ls d)

pub loop-i-init : goal.loop-i-init
loop-i-init c = sought_first _ _ _ _

pub overflow_add-first : goal.overflow_add-first
overflow_add-first c =
    let a = c.args in
    omega (arith, counted (lines_in a.t.now) a.d, params_few (lines_in a.t.now) c.requires.0.passed, count_before_le param_line (lines_in a.t.now) (start (lines_in a.t.now) (a.d + 1)))

pub param-requires : goal.param-requires
param-requires c =
    let a = c.args in
    record { tabled = c.requires.0; p_bound = omega (arith, counted (lines_in a.t.now) a.d, count_before_le param_line (lines_in a.t.now) (start (lines_in a.t.now) (a.d + 1))) }

pub returns-then-param-v : goal.returns-then-param-v
returns-then-param-v c =
    let a = c.args in
    let ls = lines_in a.t.now in
    let f = c.first_param-first in
    sym (sym (place_of_params ls a.d f.result _ a.v f.ensures refl)
    ∙ (c.loop-i.invariant
    ∙ sought_hit ls f.result _ a.v c.loop-i.i (omega (arith, counted ls a.d)) (sym c.param.ensures ∙ c.if-param-v.true)))

pub loop-i-preserved : goal.loop-i-preserved
loop-i-preserved c =
    let a = c.args in
    let ls = lines_in a.t.now in
    c.loop-i.invariant
    ∙ sought_miss ls c.first_param-first.result _ a.v c.loop-i.i (omega (arith, counted ls a.d)) (λ q. c.if-param-v.false (c.param.ensures ∙ q))

pub returns : goal.returns
returns c =
    let a = c.args in
    let ls = lines_in a.t.now in
    let f = c.first_param-first in
    let e : c.loop-i.i ≡ c.params-n.result = omega arith in
    sym (sym (place_of_params ls a.d f.result _ a.v f.ensures refl)
    ∙ (c.loop-i.invariant ∙ (sought_end ls f.result _ a.v c.loop-i.i (omega (arith, counted ls a.d)) ∙ e)))
