-- What becomes of each declaration, in two cells: how its name is replaced (0 by `TUnit`, 1 by its payload,
-- 2 by the type that it abbreviates, else it is left), and the Y line of that payload or type. Assumes nothing.
use Rattle.std.specs.Prelude.{◌≡◌, length, get_or}
use mathlib.Core.List.{List, [], ◌∷◌}
use Prim.Native.Nat.{ℕ, zero, suc, ◌+◌, ◌-◌, ◌*◌, ◌≤◌, ◌<◌}
use Rattle.std.proofs.Math.Dec.{eqb}
use Rattle.number_columns.specs.Column.{pick, ◌⇒◌∥◌}
use Rattle.sheet.specs.Line.{Line}
use Rattle.model.specs.Decl.{close, Layout, L_erased, L_newtype, L_struct, L_abbrev, L_opaque, position}
use Rattle.model.specs.Resolve.{Unfold, gone, newtype, abbreviation, stays}
use Rattle.model.specs.Run.{lay, layout_of_decl}
use Rattle.meaning.specs.Program.{program, type_line, field_line}
use Rattle.meaning.specs.Rows.{count_of}
use Rattle.table_access.specs.Tables.{decls_of, first_of}
use Rattle.resolve_kids.specs.Nodes.{type_of}
use Rattle.resolve_kids.specs.Params.{params_of}
use Rattle.keep_layouts.specs.Kept.{ctors_at, body_kind, body_last, field_type}

-- the cells of declaration d
abbrev pub state : List ℕ → ℕ → ℕ
state u d = get_or u (2 * d) 3

abbrev pub body_of : List ℕ → ℕ → ℕ
body_of u d = get_or u (2 * d + 1) 0

-- ---- what becomes of a name
unfoldable pub unfold_at : List Line → List ℕ → ℕ → Unfold
unfold_at ls u d =
    eqb (state u d) 0 ⇒ gone ∥
    eqb (state u d) 1 ⇒ newtype (params_of ls d) (type_of ls (body_of u d)) ∥
    eqb (state u d) 2 ⇒ abbreviation (params_of ls d) (type_of ls (body_of u d)) ∥
    stays

abbrev pub lay_of : List Line → List ℕ → ℕ → Unfold
lay_of ls u n = unfold_at ls u (position (program ls) n)

-- declaration d is unfolded
abbrev pub Open : List ℕ → ℕ → Type 0
Open u d = (0 < state u d) × (state u d ≤ 2)

-- the type that stands for a name, closed by its parameters
unfoldable pub closed : Unfold → Unfold
closed gone = gone
closed (newtype ps c) = newtype ps (close ps c)
closed (abbreviation ps c) = abbreviation ps (close ps c)
closed stays = stays

-- ---- layouts by these cells
-- what the layout of declaration d says of its cells and lines
abbrev pub Shape : List Line → List ℕ → ℕ → Layout → Type 0
Shape ls u d L_erased = state u d ≡ 0
Shape ls u d (L_newtype nt) = (state u d ≡ 1) × (nt.nt_ty ≡ close (params_of ls d) (type_of ls (body_of u d)))
Shape ls u d (L_struct cls) = (state u d ≡ 3) × (2 ≤ body_kind ls d) × (body_kind ls d ≤ 3) × (cls ≡ ctors_at (program ls) d)
Shape ls u d (L_abbrev c) =
    (2 ≤ state u d) × (state u d ≤ 3) × (body_kind ls d ≡ 1) × (state u d ≡ 2 → body_of u d ≡ body_last ls d) × (c ≡ close (params_of ls d) (type_of ls (body_last ls d)))
Shape ls u d L_opaque = (state u d ≡ 3) × (body_kind ls d ≡ 0)

-- the types of those of the n F lines from line f on that are kept, as Y lines
unfoldable pub kept_types : List Line → List ℕ → ℕ → ℕ → List ℕ
kept_types ls keep f zero = []
kept_types ls keep f (suc n) = let r : List ℕ = kept_types ls keep (suc f) n in pick (eqb (get_or keep f 0) 1) (field_type ls f ∷ r) r

-- what `rw_decl` resolves of declaration d, as Y lines: a payload, an abbreviated type, or the kept fields
unfoldable pub resolves_of : List Line → List ℕ → List ℕ → ℕ → List ℕ
resolves_of ls u keep d =
    eqb (state u d) 0 ⇒ [] ∥
    eqb (state u d) 1 ⇒ body_of u d ∷ [] ∥
    eqb (body_kind ls d) 0 ⇒ [] ∥
    eqb (body_kind ls d) 1 ⇒ body_last ls d ∷ [] ∥
    kept_types ls keep (first_of field_line ls d) (first_of field_line ls (d + 1) - first_of field_line ls d)

-- The cells say what becomes of every declaration of a sheet, and so of every name.
pub record Settled (ls : List Line) (u : List ℕ) : Type 0 where
  pub long : length u ≡ 2 * decls_of ls
  pub bodies : (d : ℕ) → d < decls_of ls → Open u d → body_of u d < count_of type_line ls
  pub shapes : (d : ℕ) → d < decls_of ls → Shape ls u d (layout_of_decl (program ls) d)
  pub names : (n : ℕ) → lay (program ls) n ≡ closed (lay_of ls u n)
