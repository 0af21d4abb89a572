-- What row 4's code counts, and what a sheet's lines declare. Assumes nothing.
use Rattle.std.specs.Prelude.{◌≡◌, List, Bool, false, ◌||◌, ℕ, suc, ◌+◌, ◌≤◌, ◌<◌, eqb, leb, ltb, length, take}
use Rattle.number_columns.specs.Column.{◌⇒◌∥◌}
use Rattle.sheet.specs.Format.{Format, base}
use Rattle.sheet.specs.Line.{Line}
use Rattle.sheet.specs.Sheet.{first, count, lines, row1, row2}
use Rattle.meaning.specs.Program.{name_line, arg_line, type_line, local_line, import_line, param_line, ctor_line, field_line}
use Rattle.meaning.specs.Rows.{count_of, count_before, heads_before, params_after, row4}
use Rattle.row4_limits.specs.declared.Tally.{Tally}
use Rattle.row4_limits.specs.declared.Counts.{Counts}

-- the letter of a D or I line
abbrev pub head_letter : ℕ → Bool
head_letter x = eqb x local_line || eqb x import_line

-- ---- row 4
abbrev pub none : Tally
none = record { names = 0; args = 0; types = 0; decls = 0; params = 0; ctors = 0; fields = 0 }

-- the lines before line i of each kind, and the P lines since the last D or I line
unfoldable pub tally_before : List Line → ℕ → Tally
tally_before ls i =
    record {
      names = count_before name_line ls i;
      args = count_before arg_line ls i;
      types = count_before type_line ls i;
      decls = heads_before ls i;
      params = params_after 0 (take i ls);
      ctors = count_before ctor_line ls i;
      fields = count_before field_line ls i;
    }

-- one line more, by its letter
unfoldable pub counted : Tally → ℕ → Tally
counted t x =
    let n : ℕ = t.names in
    let a : ℕ = t.args in
    let y : ℕ = t.types in
    let d : ℕ = t.decls in
    let p : ℕ = t.params in
    let c : ℕ = t.ctors in
    let f : ℕ = t.fields in
    eqb x name_line ⇒ record { names = n + 1; args = a; types = y; decls = d; params = p; ctors = c; fields = f } ∥
    eqb x arg_line ⇒ record { names = n; args = a + 1; types = y; decls = d; params = p; ctors = c; fields = f } ∥
    eqb x type_line ⇒ record { names = n; args = a; types = y + 1; decls = d; params = p; ctors = c; fields = f } ∥
    head_letter x ⇒ record { names = n; args = a; types = y; decls = d + 1; params = 0; ctors = c; fields = f } ∥
    eqb x param_line ⇒ record { names = n; args = a; types = y; decls = d; params = p + 1; ctors = c; fields = f } ∥
    eqb x ctor_line ⇒ record { names = n; args = a; types = y; decls = d; params = p; ctors = c + 1; fields = f } ∥
    eqb x field_line ⇒ record { names = n; args = a; types = y; decls = d; params = p; ctors = c; fields = f + 1 } ∥
    t

-- a line of this letter is past the limit of its kind
unfoldable pub past : Format → Tally → ℕ → Bool
past f t x =
    eqb x name_line ⇒ leb f.names t.names ∥
    eqb x arg_line ⇒ leb f.args t.args ∥
    eqb x type_line ⇒ leb f.types t.types ∥
    head_letter x ⇒ leb f.decls t.decls ∥
    eqb x param_line ⇒ leb f.params t.params ∥
    eqb x ctor_line ⇒ leb f.ctors t.ctors ∥
    eqb x field_line ⇒ leb f.fields t.fields ∥
    false

-- counts below 2 to the 60, which one more line does not wrap
pub record Small (t : Tally) : Type 0 where
  pub names : t.names < 1152921504606846976
  pub args : t.args < 1152921504606846976
  pub types : t.types < 1152921504606846976
  pub decls : t.decls < 1152921504606846976
  pub params : t.params < 1152921504606846976
  pub ctors : t.ctors < 1152921504606846976
  pub fields : t.fields < 1152921504606846976

-- ---- what a sheet declares
-- The line at which declaration k begins: the first up to which there are more than k D and I lines, or the count of lines.
unfoldable pub start : List Line → ℕ → ℕ
start ls k = first (λ i. ltb k (heads_before ls (suc i))) (length ls)

unfoldable pub counts_of : List Line → Counts
counts_of ls =
    record {
      names = count_of name_line ls;
      args = count_of arg_line ls;
      types = count_of type_line ls;
      decls = count_of local_line ls + count_of import_line ls;
      ctors = count_of ctor_line ls;
      fields = count_of field_line ls;
    }

-- the bytes passed rows 1, 2 and 4
pub record Limited (b : List ℕ) : Type 0 where
  pub short : row1 base b ≡ false
  pub no_bad : row2 6 b ≡ count 6 b
  pub in_limits : first (row4 base (lines 6 b)) (count 6 b) ≡ count 6 b

-- what a sheet declares is within the limits
pub record Kept (f : Format) (c : Counts) : Type 0 where
  pub names : c.names ≤ f.names
  pub args : c.args ≤ f.args
  pub types : c.types ≤ f.types
  pub decls : c.decls ≤ f.decls
  pub ctors : c.ctors ≤ f.ctors
  pub fields : c.fields ≤ f.fields
