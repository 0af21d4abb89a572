-- `table_sizes::sizes` meets its contract: the lines that are left are P lines. Assumes nothing.
use native.Mathlib.Omega.{arith}
use Rattle.table_sizes.specs.Sizing.{behind}
use Rattle.table_sizes.specs.SizingLaws.{count_all, sizes_whole}
use Rattle.table_sizes.proofs.sizes.Goals as goal

pub overflow_add-params : goal.overflow_add-params
overflow_add-params c = let k = c.requires in omega (arith, count_all (behind c.args.lines c.args.t.now) k.passed, k.passed.bounded.few, k.lines_are, k.names_are, k.args_are, k.types_are, k.decls_are, k.ctors_are, k.fields_are)

pub overflow_add-params-2 : goal.overflow_add-params-2
overflow_add-params-2 c = let k = c.requires in omega (arith, count_all (behind c.args.lines c.args.t.now) k.passed, k.passed.bounded.few, k.lines_are, k.names_are, k.args_are, k.types_are, k.decls_are, k.ctors_are, k.fields_are)

pub overflow_mul-params : goal.overflow_mul-params
overflow_mul-params c = let k = c.requires in omega (arith, count_all (behind c.args.lines c.args.t.now) k.passed, k.passed.bounded.few, k.lines_are, k.names_are, k.args_are, k.types_are, k.decls_are, k.ctors_are, k.fields_are)

pub overflow_add-params-3 : goal.overflow_add-params-3
overflow_add-params-3 c = let k = c.requires in omega (arith, count_all (behind c.args.lines c.args.t.now) k.passed, k.passed.bounded.few, k.lines_are, k.names_are, k.args_are, k.types_are, k.decls_are, k.ctors_are, k.fields_are)

pub overflow_add-params-4 : goal.overflow_add-params-4
overflow_add-params-4 c = let k = c.requires in omega (arith, count_all (behind c.args.lines c.args.t.now) k.passed, k.passed.bounded.few, k.lines_are, k.names_are, k.args_are, k.types_are, k.decls_are, k.ctors_are, k.fields_are)

pub overflow_add-params-5 : goal.overflow_add-params-5
overflow_add-params-5 c = let k = c.requires in omega (arith, count_all (behind c.args.lines c.args.t.now) k.passed, k.passed.bounded.few, k.lines_are, k.names_are, k.args_are, k.types_are, k.decls_are, k.ctors_are, k.fields_are)

pub overflow_sub-params : goal.overflow_sub-params
overflow_sub-params c = let k = c.requires in omega (arith, count_all (behind c.args.lines c.args.t.now) k.passed, k.passed.bounded.few, k.lines_are, k.names_are, k.args_are, k.types_are, k.decls_are, k.ctors_are, k.fields_are)

pub returns : goal.returns
returns c =
    let k = c.requires in
    sizes_whole (behind c.args.lines c.args.t.now) k.passed c.args.lines c.args.names c.args.args c.args.types c.args.decls c.args.ctors c.args.fields k
