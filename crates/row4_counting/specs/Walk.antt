-- Where the walk of row 4 and the counts begins, and what it hands out. Assumes nothing.
use Rattle.std.specs.Prelude.{◌-◌, ltb}
use Rattle.number_columns.specs.Column.{◌⇒◌∥◌}
use Rattle.sheet.specs.Format.{Format}
use Rattle.rows_runs.specs.declared.Runs.{Runs}
use Rattle.row4_limits.specs.declared.Tally.{Tally}
use Rattle.row4_limits.specs.declared.Counts.{Counts}

abbrev pub no_runs : Runs
no_runs = record { names = 0; args = 0; types = 0 }

-- the runs where they are within their limits
unfoldable pub kept : Format → Runs → Runs
kept f r =
    ltb f.names r.names ⇒ no_runs ∥
    ltb f.args (r.args - r.names) ⇒ no_runs ∥
    ltb f.types (r.types - r.args) ⇒ no_runs ∥
    r

-- the counts after the runs
abbrev pub headed : Runs → Tally
headed r = record { names = r.names; args = r.args - r.names; types = r.types - r.args; decls = 0; params = 0; ctors = 0; fields = 0 }

abbrev pub declared : Tally → Counts
declared t = record { names = t.names; args = t.args; types = t.types; decls = t.decls; ctors = t.ctors; fields = t.fields }
