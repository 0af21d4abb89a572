-- The runs of N, A and Y lines at the front of a sheet. Assumes nothing.
use Rattle.std.specs.Prelude.{List, ◌&&◌, not, ℕ, leb, length}
use Rattle.sheet.specs.Line.{Line}
use Rattle.sheet.specs.Sheet.{first}
use Rattle.meaning.specs.Program.{name_line, arg_line, type_line, is}
use Rattle.meaning.specs.Rows.{nth_line}
use Rattle.rows_runs.specs.declared.Runs.{Runs}

-- the first line from line i on that has another letter, or the count of lines
unfoldable pub run_end : ℕ → List Line → ℕ → ℕ
run_end x ls i = first (λ j. leb i j && not (is x (nth_line ls j))) (length ls)

-- the N lines at the front, the A lines after them, and the Y lines after these
unfoldable pub runs_of : List Line → Runs
runs_of ls =
    let n : ℕ = run_end name_line ls 0 in
    let a : ℕ = run_end arg_line ls n in
    record { names = n; args = a; types = run_end type_line ls a }
