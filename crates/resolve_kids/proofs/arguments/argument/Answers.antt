-- `arguments::argument` meets its contract: what is sought from P line i on is what was sought from the first.
use Rattle.std.proofs.Common.{◌+◌, sym, ◌∙◌, arith}
use Rattle.meaning.specs.Program.{param_line}
use Rattle.row4_limits.specs.Limits.{start}
use Rattle.table_declared.specs.PassedLaws.{decls_few, params_few}
use Rattle.resolve_kids.specs.ParamsLaws.{sought_first, sought_end, sought_out, sought_hit, sought_miss, count_before_le, found_of}
use Rattle.table_access.specs.Tables.{lines_in}
use Rattle.resolve_kids.proofs.arguments.argument.Goals as goal

pub overflow_add-d : goal.overflow_add-d
overflow_add-d c = omega (arith, c.requires.1, decls_few (lines_in c.args.t.now) c.requires.0.passed)

pub loop-i-init : goal.loop-i-init
loop-i-init c = sought_first _ _ _ _ _ _ _

pub overflow_add-first : goal.overflow_add-first
overflow_add-first c =
    omega (arith, c.first_param-first.ensures, count_before_le param_line (lines_in c.args.t.now) (start (lines_in c.args.t.now) c.args.d), params_few (lines_in c.args.t.now) c.requires.0.passed, c.requires.2)

pub returns-then-first-i : goal.returns-then-first-i
returns-then-first-i c =
    (sym (found_of _ _ _ _ _ _ _ _ c.first_param-first.ensures c.first_param-end.ensures ∙ (c.loop-i.invariant ∙ sought_end _ _ _ _ _ _ _ _ c.if-first-i.true)), omega arith)

pub overflow_add-first-in-loop-i : goal.overflow_add-first-in-loop-i
overflow_add-first-in-loop-i c =
    omega (arith, c.if-first-i.false, c.first_param-end.ensures, count_before_le param_line (lines_in c.args.t.now) (start (lines_in c.args.t.now) (c.args.d + 1)), params_few (lines_in c.args.t.now) c.requires.0.passed)

pub param-requires : goal.param-requires
param-requires c =
    record {
      tabled = c.requires.0;
      p_bound = omega (arith, c.if-first-i.false, c.first_param-end.ensures, count_before_le param_line (lines_in c.args.t.now) (start (lines_in c.args.t.now) (c.args.d + 1)));
    }

pub returns-then-param-v : goal.returns-then-param-v
returns-then-param-v c = (
  sym (found_of _ _ _ _ _ _ _ _ c.first_param-first.ensures c.first_param-end.ensures
      ∙ (c.loop-i.invariant ∙ sought_hit _ _ _ _ _ _ _ _ c.if-first-i.false (omega arith) c.requires.2 (sym c.param.ensures ∙ c.if-param-v.true))),
  omega (arith, c.type_inv.out (c.args.at + c.loop-i.i)),
)

pub loop-i-preserved : goal.loop-i-preserved
loop-i-preserved c =
    c.loop-i.invariant ∙ sought_miss _ _ _ _ _ _ _ _ c.if-first-i.false (omega arith) c.requires.2 (λ e. c.if-param-v.false (c.param.ensures ∙ e))

pub returns : goal.returns
returns c =
    (sym (found_of _ _ _ _ _ _ _ _ c.first_param-first.ensures c.first_param-end.ensures ∙ (c.loop-i.invariant ∙ sought_out _ _ _ _ _ _ _ _ (omega arith))), omega arith)
