-- Where the constructor of a name is declared, by the lines: its declaration, its first F line and how many F lines it has.
-- Assumes nothing.
use Rattle.std.specs.Prelude.{◌≡◌, List, ℕ, zero, suc, ◌+◌, ◌-◌, ◌*◌, ◌<◌, eqb, length, get_or, set}
use Rattle.number_columns.specs.Column.{pick, ◌⇒◌∥◌}
use Rattle.sheet.specs.Line.{Line, number}
use Rattle.meaning.specs.Program.{name_line, ctor_line, field_line}
use Rattle.meaning.specs.Rows.{count_of}
use Rattle.table_access.specs.Tables.{head_line, decls_of, first_of}
use Rattle.keep_layouts.specs.Kept.{body_kind, body_last, ctor_name, ctor_fields}

-- its declaration's number plus one, 0 where no constructor has the name; its first F line; how many it has
pub record Site : Type 0 where
  pub owner : ℕ
  pub first : ℕ
  pub count : ℕ

abbrev pub no_site : Site
no_site = record { owner = 0; first = 0; count = 0 }

abbrev pub site_at : ℕ → ℕ → ℕ → Site
site_at d f k = record { owner = suc d; first = f; count = k }

module _ (ls : List Line) where
  -- the first of the name n among the k constructors from C line c on, whose F lines begin with line f, else s
  unfoldable pub site_among : ℕ → ℕ → ℕ → ℕ → ℕ → Site → Site
  site_among d c f zero n s = s
  site_among d c f (suc k) n s =
      pick (eqb (ctor_name ls c) n) (site_at d f (ctor_fields ls c)) (site_among d (suc c) (f + ctor_fields ls c) k n s)

  -- among those of declaration d, a record counting as one of its own name
  unfoldable pub site_in : ℕ → ℕ → Site → Site
  site_in d n s =
      eqb (body_kind ls d) 2 ⇒ pick (eqb (number (head_line ls d) 0) n) (site_at d (first_of field_line ls d) (body_last ls d)) s ∥
      eqb (body_kind ls d) 3 ⇒ site_among d (first_of ctor_line ls d) (first_of field_line ls d) (body_last ls d) n s ∥
      s

  -- among those of the k declarations from d on
  unfoldable pub site_after : ℕ → ℕ → ℕ → Site
  site_after d zero n = no_site
  site_after d (suc k) n = site_in d n (site_after (suc d) k n)

  -- among those of declaration d and of all after it
  abbrev pub site_from : ℕ → ℕ → Site
  site_from d n = site_after d (decls_of ls - d) n

  -- of the whole sheet
  abbrev pub site_of : ℕ → Site
  site_of n = site_after 0 (decls_of ls) n

-- ---- the cells
unfoldable pub put_site : List ℕ → ℕ → Site → List ℕ
put_site m n s = set (set (set m (3 * n) s.owner) (3 * n + 1) s.first) (3 * n + 2) s.count

-- those of name n
pub record Holds (m : List ℕ) (n : ℕ) (s : Site) : Type 0 where
  pub owned : get_or m (3 * n) 0 ≡ s.owner
  pub begun : get_or m (3 * n + 1) 0 ≡ s.first
  pub counted : get_or m (3 * n + 2) 0 ≡ s.count

-- cells of these sites, one for each name
pub record Cells (ls : List Line) (m : List ℕ) (site : ℕ → Site) : Type 0 where
  pub long : length m ≡ 3 * count_of name_line ls
  pub holds : (n : ℕ) → n < count_of name_line ls → Holds m n (site n)

abbrev pub SitedFrom : List Line → List ℕ → ℕ → Type 0
SitedFrom ls m d = Cells ls m (site_from ls d)

-- The cells say of every name where its constructor is declared.
abbrev pub Sited : List Line → List ℕ → Type 0
Sited ls m = Cells ls m (site_of ls)

-- the first i cells are 0
abbrev pub Cleared : List ℕ → ℕ → Type 0
Cleared m i = (j : ℕ) → j < i → get_or m j 0 ≡ 0
