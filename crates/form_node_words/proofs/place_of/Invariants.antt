-- What is sought from P line i on is what was sought from the first.
use Rattle.std.proofs.Common.{◌≡◌, ◌+◌, ◌-◌}
use Rattle.meaning.specs.Program.{param_line}
use Rattle.table_access.specs.Tables.{first_of, lines_in}
use Rattle.resolve_kids.specs.Params.{params_from}
use Rattle.form_laws.specs.Forms.{place}
use Rattle.form_node_words.specs.OwnLaws.{sought}
use Rattle.form_node_words.proofs.place_of.Given as goal

abbrev pub invariant-loop-i : goal.invariant-loop-i
invariant-loop-i l =
    place (params_from (lines_in l.fn.t) l.first (first_of param_line (lines_in l.fn.t) (l.d + 1) - l.first)) l.v
    ≡ sought (lines_in l.fn.t) l.first (first_of param_line (lines_in l.fn.t) (l.d + 1)) l.v l.i
