-- No word that was passed is the variable.
use Rattle.std.proofs.Common.{◌≡◌, ℕ, ◌<◌, false, get_or}
use Rattle.form_nodes.specs.Words.{node_of}
use Rattle.left_flags.specs.Flags.{is_var}
use Rattle.left_flags.proofs.has_variable.Given as goal

abbrev pub invariant-loop-w : goal.invariant-loop-w
invariant-loop-w l = (j : ℕ) → j < l.w-index → is_var l.i (node_of (get_or l.words j 0)) ≡ false
