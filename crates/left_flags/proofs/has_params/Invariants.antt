-- The parameters before P line p occur.
use Rattle.std.proofs.Common.{◌≡◌, map, ◌-◌}
use Rattle.resolve_kids.specs.Params.{params_from, params_of}
use Rattle.form_nodes.specs.Words.{node_of}
use Rattle.form_emit.specs.Emit.{form_words}
use Rattle.table_access.specs.Tables.{lines_in}
use Rattle.left_flags.specs.Flags.{has_all}
use Rattle.left_flags.proofs.has_params.Given as goal

abbrev pub invariant-loop-p : goal.invariant-loop-p
invariant-loop-p l =
    has_all (params_of (lines_in l.t) l.d) (params_of (lines_in l.t) l.d) (map node_of (form_words l.f l.d))
    ≡ has_all (params_of (lines_in l.t) l.d) (params_from (lines_in l.t) l.p (l.end - l.p)) (map node_of (form_words l.f l.d))
