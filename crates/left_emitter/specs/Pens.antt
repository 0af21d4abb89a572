-- The A and Y lines of nodes, written into an output one after the other. Assumes nothing.
use Rattle.std.specs.Prelude.{List, [], ◌∷◌, ◌++◌, map, ℕ, suc, ◌+◌, ◌*◌, ◌-◌, ◌≤◌, ◌<◌, length, take, drop}
use Rattle.sheet.specs.Line.{row, encode}
use Rattle.sheet.specs.Output.{put_at, puts}
use Rattle.meaning.specs.Program.{type_line}
use Rattle.form_laws.specs.Nodes.{Node, taken, count_args}
use Rattle.left_emitter.specs.Lines.{y_row, arg_row, listed}
use Rattle.left_emitter.specs.declared.Pen.{Pen}

-- the output, and the Y lines of the nodes whose parent has not come yet
pub record Sheet : Type 0 where
  pub bytes : List ℕ
  pub pen : Pen
  pub stack : List ℕ

abbrev pub sheet : Pen → List ℕ → List ℕ → Sheet
sheet p out st = record { bytes = out; pen = p; stack = take p.waiting st }

module _ (p : Pen) (x : Node) (ns : List ℕ) where
  -- the output with the lines of a node
  unfoldable pub put_lines : List ℕ → List ℕ
  put_lines out =
      put_at 6 (puts 6 out (p.lists + p.args) (map arg_row (listed x ns))) (p.nodes + p.types) (encode 6 (row type_line (y_row x ns p.args)))

  -- so many lines more; at is what waits below the node's children
  unfoldable pub moved : ℕ → Pen
  moved at =
      record { lists = p.lists; nodes = p.nodes; args = p.args + length (listed x ns); types = suc p.types; waiting = suc at }

-- one node: its children are the last that wait
unfoldable pub write_line : Node → Sheet → Sheet
write_line x s =
    let at : ℕ = s.pen.waiting - taken x in
    let ns : List ℕ = drop at s.stack in
    record { bytes = put_lines s.pen x ns s.bytes; pen = moved s.pen x ns at; stack = take at s.stack ++ (s.pen.types ∷ []) }

unfoldable pub write_lines : List Node → Sheet → Sheet
write_lines [] s = s
write_lines (x ∷ xs) s = write_lines xs (write_line x s)

-- Room for n Y lines and m A lines, and for n numbers that wait.
pub record Ready (n m : ℕ) (p : Pen) (out stack : List ℕ) : Type 0 where
  pub args_room : 32 * (p.lists + (p.args + m)) ≤ length out
  pub types_room : 32 * (p.nodes + (p.types + n)) ≤ length out
  pub args_few : p.args + m < 4294967296
  pub types_few : p.types + n < 4294967296
  pub waits : p.waiting + n ≤ length stack

-- room for these nodes
abbrev pub Room : List Node → Pen → List ℕ → List ℕ → Type 0
Room xs = Ready (length xs) (count_args xs)
