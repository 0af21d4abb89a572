-- A sheet's format: the columns of a number and the limits (FORMAT, sections 1 and 2). Every other
-- length of a line follows from the columns. Assumes nothing.
use Rattle.std.specs.Prelude.{◌^◌, ◌<◌, ◌≤◌, ℕ, ◌+◌, ◌*◌}

pub record Format : Type 0 where
  -- columns of a number
  pub columns : ℕ
  -- at most so many lines in all, N, A and Y lines, declarations, C and F lines, P lines of one declaration, and Q lines
  pub lines : ℕ
  pub names : ℕ
  pub args : ℕ
  pub types : ℕ
  pub decls : ℕ
  pub ctors : ℕ
  pub fields : ℕ
  pub params : ℕ
  pub patterns : ℕ
  -- nodes of a type written out
  pub nodes : ℕ
  -- names that are unfolded within each other
  pub fuel : ℕ

-- the one of FORMAT
abbrev pub base : Format
base = record {
  columns = 6;
  lines = 2048;
  names = 256;
  args = 512;
  types = 1024;
  decls = 96;
  ctors = 256;
  fields = 512;
  params = 8;
  patterns = 256;
  nodes = 1024;
  fuel = 100;
}

-- The largest limits that the passes are held to. A format's owner lends what its own limits need.
abbrev pub largest : Format
largest = record {
  columns = 9;
  lines = 16384;
  names = 2048;
  args = 2048;
  types = 4096;
  decls = 512;
  ctors = 1024;
  fields = 2048;
  params = 8;
  patterns = 256;
  nodes = 1024;
  fuel = 513;
}

-- a letter, five numbers and byte 10
abbrev pub line_bytes : ℕ → ℕ
line_bytes w = 5 * w + 2

-- The text of a name fills its line: the letter, one number, the text, byte 10.
abbrev pub text_bytes : ℕ → ℕ
text_bytes w = 4 * w

-- Columns and fuel that a format's limits do not outgrow: its kinds, its lines, and the nodes of a type for each declaration and each field.
pub record Ample (f : Format) : Type 0 where
  pub kinds : 12 < 10 ^ f.columns
  pub counts : f.lines < 10 ^ f.columns
  pub nodes : f.nodes * (f.decls + f.fields) < 10 ^ f.columns
  pub depth : f.decls < f.fuel

-- no limit of f is past g's
pub record Wider (f g : Format) : Type 0 where
  pub columns : 10 ^ f.columns ≤ 10 ^ g.columns
  pub lines : f.lines ≤ g.lines
  pub names : f.names ≤ g.names
  pub args : f.args ≤ g.args
  pub types : f.types ≤ g.types
  pub decls : f.decls ≤ g.decls
  pub ctors : f.ctors ≤ g.ctors
  pub fields : f.fields ≤ g.fields
  pub params : f.params ≤ g.params
  pub patterns : f.patterns ≤ g.patterns
