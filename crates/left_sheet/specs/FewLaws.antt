-- The left sheet of an accepted sheet has few Y lines. Assumes nothing.
use Rattle.std.specs.Prelude.{List, ℕ, ◌≤◌, ◌<◌, length}
use Rattle.std.proofs.Common.{arith, mul-le-mul_left}
use Rattle.sheet.specs.Format.{base}
use Rattle.sheet.proofs.FirstLaws.{none_first}
use Rattle.sheet.specs.Line.{Line}
use Rattle.sheet.proofs.ListLaws.{every_map, mem_every}
use Rattle.model.specs.Cty.{size}
use Rattle.model.specs.Decl.{Dtype, dtype_at}
use Rattle.model.specs.Resolve.{resolve}
use Rattle.model.specs.Run.{lay, layout_of_decl, left_at, left_program, run, resolves}
use Rattle.model_laws.specs.Resolve.{Resolved, LeftTypes, left_types}
use Rattle.meaning.specs.Program.{program}
use Rattle.meaning.specs.Rows.{row7}
use Rattle.meaning_laws.specs.Output.{nothing, types_of, total_bound, program_adds}
use Rattle.meaning_laws.specs.Numbers.{Numbered, weights, run_count, run_types, program_full, weights_program}
use Rattle.answer_laws.specs.Left.{program_matches}
use Rattle.table_declared.specs.Passed.{Passed}
use Rattle.table_declared.specs.PassedLaws.{decls_few, fields_few}
use Rattle.left_laws.specs.Lefts.{left_written}
use Rattle.rows_heads.specs.HeadRows.{Resolvable}

module _ (ls : List Line) (passed : Passed ls) (resolvable : Resolvable base ls) where
  abbrev ds : List Dtype
  ds = left_program (run 100 (program ls))

  -- a type for each declaration and each F line at most
  types_count : length (types_of ds) ≤ 2560
  types_count =
      let U : ℕ → Type 0 = λ n. Unit {0} in
      let c : length (types_of ds) ≤ weights (program ls) = run_count U (λ n k. tt) (λ m n h q. tt) 100 (program ls) (program_full U (λ n k. tt) (λ m n h q. tt) ls (mem_every (Numbered U) ls (λ l m k. tt)) tt) in
      omega (arith, c, weights_program ls, decls_few ls passed, fields_few ls passed)

  -- of at most 1024 nodes each
  left_small : (i : ℕ) → i < length (program ls) → LeftTypes (λ c. size c ≤ 1024) (left_at 100 (program ls) i)
  unfolding left_at
  left_small i h =
      left_types (λ c. size c ≤ 1024) (resolve (lay (program ls)) 100) (dtype_at (program ls) i) (layout_of_decl (program ls) i)
      (program_matches ls (λ j k. none_first (row7 ls) (length ls) passed.in_verdict j (omega arith)) i h)
      (every_map (Resolved 1024 (lay (program ls)) 100) (λ c. size (resolve (lay (program ls)) 100 c) ≤ 1024) (λ c r. r.small) (resolves (layout_of_decl (program ls) i))
      (resolvable.resolved i h))

  -- and so fewer than a cell can count
  pub left_types_few : length (left_written ls).written.types < 4294967296
  left_types_few =
      let t = total_bound 1024 (types_of ds) (run_types (λ c. size c ≤ 1024) 100 (program ls) left_small) in
      omega (arith, t, mul-le-mul_left 1024 types_count, (program_adds ds nothing).types_count)
