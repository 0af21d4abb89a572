-- The left sheet while it is written: its A, Y and declaration lines each in their own run of lines of one output. Assumes nothing.
use Rattle.std.specs.Prelude.{◌≡◌, List, [], ◌∷◌, ◌++◌, map, false, ℕ, ◌+◌, ◌*◌, ◌≤◌, ◌<◌, length}
use Rattle.sheet.specs.Line.{Line}
use Rattle.sheet.proofs.ListLaws.{Every}
use Rattle.sheet.specs.Output.{puts}
use Rattle.sheet.proofs.OutputLaws.{Whole}
use Rattle.model.specs.Cty.{Cty, size}
use Rattle.meaning.specs.Output.{Written, last, emit, Lines}
use Rattle.form_laws.specs.Nodes.{post}
use Rattle.form_nodes.specs.Words.{node_of}
use Rattle.form_emit.specs.Emit.{words, Asked}
use Rattle.left_emitter.specs.LaidLaws.{laid}
use Rattle.form_emit.specs.Left.{left_type}
use Rattle.left_places.specs.declared.Place.{Place}

-- ---- what is written
-- what adds to the A and Y lines that are written, and has lines of a declaration
abbrev pub Writing : Type 0
Writing = Written → Lines

-- nothing
abbrev pub none : Writing
none w = record { written = w; lines = [] }

-- a line
abbrev pub one : Line → Writing
one l w = record { written = w; lines = l ∷ [] }

-- a line that has the number of the type that was written last
abbrev pub numbered : (ℕ → Line) → Writing
numbered l w = one (l (last w)) w

-- a type
abbrev pub typed : Cty → Writing
typed c w = record { written = emit c w; lines = [] }

-- lines, and then what f writes
abbrev pub more : Lines → Writing → Lines
more x f = record { written = (f x.written).written; lines = x.lines ++ (f x.written).lines }

-- one after the other
abbrev pub seq : Writing → Writing → Writing
seq f g w = more (f w) g

-- nothing that is written goes
abbrev pub Growing : Writing → Type 0
Growing f = (w : Written) → (length w.args ≤ length (f w).written.args) × (length w.types ≤ length (f w).written.types)

-- ---- where it is written
-- The output d with the lines x, those of declarations from line k on.
pub record At (d : List ℕ) (k : ℕ) (x : Lines) (p : Place) (out : List ℕ) : Type 0 where
  pub holds : out ≡ laid p.lists p.nodes (puts 6 d k x.lines) x.written
  pub args_are : p.args ≡ length x.written.args
  pub types_are : p.types ≡ length x.written.types
  pub line_is : p.line ≡ k + length x.lines
  pub fives : Every (λ ns. length ns ≡ 5) x.written.types
  pub whole : Whole 6 x.lines

-- The lines x have room, each kind before the next.
pub record Inside (d : List ℕ) (k : ℕ) (x : Lines) (p : Place) : Type 0 where
  pub before_types : p.lists + length x.written.args ≤ p.nodes
  pub before_lines : p.nodes + length x.written.types ≤ k
  pub all : 32 * (k + length x.lines) ≤ length d
  pub args_few : length x.written.args < 4294967296
  pub types_few : length x.written.types < 4294967296

-- There is room for what f writes behind what is there.
pub record Room (f : Writing) (p : Place) (out : List ℕ) : Type 0 where
  pub base : List ℕ
  pub start : ℕ
  pub lines : Lines
  pub at : At base start lines p out
  pub inside : Inside base start (more lines f) p

-- From place p to place r, what f writes is added.
pub record Writes (f : Writing) (p r : Place) (out out' : List ℕ) : Type 0 where
  pub lists_stay : r.lists ≡ p.lists
  pub nodes_stay : r.nodes ≡ p.nodes
  pub adds : (d : List ℕ) (k : ℕ) (x : Lines) → At d k x p out → Inside d k (more x f) p → At d k (more x f) r out'

-- ---- types
-- Y line y's type in declaration d can be written: its words are the nodes of what it resolves to, at most n.
pub record Typed (ls : List Line) (t u f : List ℕ) (y d n : ℕ) : Type 0 where
  pub asked : Asked ls t u f y d
  pub nodes : map node_of (words ls u f d false y) ≡ post (left_type ls d y)
  pub small : size (left_type ls d y) ≤ n
