-- Lines by the cells of a table that are theirs. Assumes nothing.
use Rattle.std.specs.Prelude.{◌≡◌, Bool, ℕ, ◌+◌, ◌-◌, ◌*◌, ◌<◌, length, take, drop}
use Rattle.std.proofs.Math.Path.{refl, ap, sym}
use Rattle.std.proofs.Common.{◌∙◌, length-drop, length-take-le, get_or-take, get_or-drop, ext_get_or}
use mathlib.Core.List.{List, [], ◌∷◌, ◌++◌, map}
use Rattle.std.proofs.Math.Bool.{true, false}
use native.Mathlib.Omega.{arith}
use Rattle.std.proofs.Math.Dec.{ltb}
use Rattle.std.proofs.Math.ListN.{get_or, length-append, get_or-append}
use Rattle.std.proofs.Math.Seq.{get_or-append-add}
use borrow.Author.Tests.{ltb-true, ltb-false}
use Rattle.sheet.specs.Line.{Line, row}
use Rattle.walk_cells.specs.Cells.{cells, lines_of, bare}
use Rattle.walk_cells.specs.CellsLaws.{lines_cells, length_cells}
use Rattle.table_access.specs.declared.Sizes.{Sizes}
use Rattle.table_access.specs.Tables.{sizes_of, at_begins, cell_count, header, sections, cells_of, lines_in}
use Rattle.table_access.specs.CellsLaws.{offset, joined_get, cells_length, header_cell}
use Rattle.table_sizes.specs.Sizing.{lines_behind}
use Rattle.table_index.specs.Index.{Ready, Headed}

-- ---- cells and lines
pub cells_lines : (n : ℕ) (t : List ℕ) → length t ≡ 6 * n → cells (lines_of t) ≡ t
unfolding cells lines_of
cells_lines n [] h = refl
cells_lines n (x ∷ []) h = absurd (omega arith)
cells_lines n (x ∷ a ∷ []) h = absurd (omega arith)
cells_lines n (x ∷ a ∷ b ∷ []) h = absurd (omega arith)
cells_lines n (x ∷ a ∷ b ∷ c ∷ []) h = absurd (omega arith)
cells_lines n (x ∷ a ∷ b ∷ c ∷ d ∷ []) h = absurd (omega arith)
cells_lines n (x ∷ a ∷ b ∷ c ∷ d ∷ e ∷ t) h = ap (λ (r : List ℕ). x ∷ a ∷ b ∷ c ∷ d ∷ e ∷ r) (cells_lines (n - 1) t (omega arith))

-- such lines have no text
bare_lines : (t : List ℕ) → map bare (lines_of t) ≡ lines_of t
unfolding lines_of
bare_lines [] = refl
bare_lines (x ∷ []) = refl
bare_lines (x ∷ a ∷ []) = refl
bare_lines (x ∷ a ∷ b ∷ []) = refl
bare_lines (x ∷ a ∷ b ∷ c ∷ []) = refl
bare_lines (x ∷ a ∷ b ∷ c ∷ d ∷ []) = refl
bare_lines (x ∷ a ∷ b ∷ c ∷ d ∷ e ∷ t) = ap (λ (ls : List Line). row x (a ∷ b ∷ c ∷ d ∷ e ∷ []) ∷ ls) (bare_lines t)

-- ---- behind the header
line_cell : (ls : List Line) (k : ℕ) → k < 6 * length ls → get_or (cells_of ls) (11 + k) 0 ≡ get_or (cells ls) k 0
unfolding cells_of sections offset header
line_cell ls k h = joined_get 1 (sections ls) k (omega (arith, length_cells ls))

begins_within : (ls : List Line) → 11 + 6 * length ls < length (cells_of ls)
unfolding sizes_of
begins_within ls = omega (arith, cells_length ls)

-- the lines that stand in a table with the header and the cells of ls
headed_lines : (ls : List Line) (t : List ℕ) → Headed ls t → lines_in t ≡ map bare ls
unfolding lines_in sizes_of header
headed_lines ls t h =
    let n : get_or t 3 0 ≡ length ls = h.begun 3 (omega arith) (omega arith) ∙ (header_cell ls 3 (omega arith)).1 in
    let w = begins_within ls in
    let s : length (take (6 * length ls) (drop 11 t)) ≡ 6 * length ls = length-take-le (6 * length ls) (drop 11 t) (rw length-drop (omega (arith, h.sized))) in
    rw n
    (ap lines_of
    (ext_get_or 0 (take (6 * length ls) (drop 11 t)) (cells ls) (s ∙ sym (length_cells ls))
    (λ x l. get_or-take (6 * length ls) (drop 11 t) x 0 (omega arith) ∙ get_or-drop 11 t x 0 ∙ h.begun (11 + x) (omega arith) (omega arith) ∙ line_cell ls x (omega arith)))
    ∙ lines_cells ls)

-- one that has the header and the cells of the lines in another has the same lines
pub same_lines : (s t : List ℕ) → Headed (lines_in s) t → lines_in t ≡ lines_in s
unfolding lines_in
same_lines s t h = headed_lines (lines_in s) t h ∙ bare_lines (take (6 * get_or s 3 0) (drop 11 s))

-- ---- the header written
module _ (z : Sizes) (t u : List ℕ) (h : Ready z t) (e : u ≡ header z ++ drop 11 t) where
  pub lines_behind_are : lines_in u ≡ lines_behind z t
  unfolding lines_in header
  lines_behind_are = rw e

  lines_many : z.lines ≡ length (lines_behind z t)
  unfolding sizes_of
  lines_many = ap (λ (s : Sizes). s.lines) h.sizes

  sized : length t ≡ length (cells_of (lines_behind z t))
  sized = h.room ∙ ap cell_count h.sizes ∙ sym (cells_length (lines_behind z t))

  cells_are : cells (lines_behind z t) ≡ take (6 * z.lines) (drop 11 t)
  cells_are = cells_lines z.lines (take (6 * z.lines) (drop 11 t)) (length-take-le (6 * z.lines) (drop 11 t) (rw length-drop (omega (arith, sized, lines_many, begins_within (lines_behind z t)))))

  pub headed_of : Headed (lines_behind z t) u
  unfolding header sizes_of
  headed_of = record { sized = rw (e, length-append, length-drop) (omega (arith, sized, begins_within (lines_behind z t))); begun = λ x l k. go x k (ltb x 11) refl }
    where
      go : (x : ℕ) → x < at_begins (sizes_of (lines_behind z t)) → (c : Bool) → ltb x 11 ≡ c → get_or u x 0 ≡ get_or (cells_of (lines_behind z t)) x 0
      go x k true q =
          let l = ltb-true x 11 q in
          ap (λ (y : List ℕ). get_or y x 0) e
          ∙ get_or-append (header z) (drop 11 t) 0 x l
          ∙ ap (λ (s : Sizes). get_or (header s) x 0) h.sizes
          ∙ sym (header_cell (lines_behind z t) x l).1
      go x k false q =
          let l = ltb-false x 11 q in
          let w : 11 + (x - 11) ≡ x = omega arith in
          let r : x - 11 < 6 * z.lines = omega (arith, lines_many) in
          let v : get_or u (11 + (x - 11)) 0 ≡ get_or (cells_of (lines_behind z t)) (11 + (x - 11)) 0 =
          ap (λ (y : List ℕ). get_or y (11 + (x - 11)) 0) e
          ∙ get_or-append-add (header z) (drop 11 t) (x - 11) 0
          ∙ sym (get_or-take (6 * z.lines) (drop 11 t) (x - 11) 0 r)
          ∙ ap (λ (y : List ℕ). get_or y (x - 11) 0) (sym cells_are)
          ∙ sym (line_cell (lines_behind z t) (x - 11) (omega (arith, lines_many))) in
          rw w at v
