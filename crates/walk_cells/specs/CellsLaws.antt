-- The lines of cells, and the cells of lines. Assumes nothing.
use Rattle.std.specs.Prelude.{◌≡◌, refl, List, [], ◌∷◌, ◌++◌, map, ℕ, zero, suc, ◌+◌, ◌*◌, ◌/◌, ◌<◌, length, get_or}
use Rattle.std.proofs.Common.{ap, arith}
use Rattle.sheet.specs.Line.{Line, bad, letter, number}
use Rattle.walk_cells.specs.Cells.{line_cells, cells, lines_of, bare}

-- ---- back from the cells
pub lines_cells : (ls : List Line) → lines_of (cells ls) ≡ map bare ls
unfolding cells lines_of
lines_cells [] = refl
lines_cells (l ∷ ls) = ap (λ (ms : List Line). bare l ∷ ms) (lines_cells ls)

pub length_cells : (ls : List Line) → length (cells ls) ≡ 6 * length ls
unfolding cells
length_cells [] = refl
length_cells (l ∷ ls) = omega (arith, length_cells ls)

pub cells_append : (ls ms : List Line) → cells (ls ++ ms) ≡ cells ls ++ cells ms
unfolding cells
cells_append [] ms = refl
cells_append (l ∷ ls) ms = ap (λ (t : List ℕ). line_cells l ++ t) (cells_append ls ms)

-- cells and lines are as many
pub length_lines_of : (t : List ℕ) → length (lines_of t) ≡ length t / 6
unfolding lines_of
length_lines_of [] = omega arith
length_lines_of (x ∷ []) = omega arith
length_lines_of (x ∷ a ∷ []) = omega arith
length_lines_of (x ∷ a ∷ b ∷ []) = omega arith
length_lines_of (x ∷ a ∷ b ∷ c ∷ []) = omega arith
length_lines_of (x ∷ a ∷ b ∷ c ∷ d ∷ []) = omega arith
length_lines_of (x ∷ a ∷ b ∷ c ∷ d ∷ e ∷ t) = omega (arith, length_lines_of t)

-- ---- a line of cells
-- the letter and number k of line i, by the cells
pub letter_cell : (t : List ℕ) (i : ℕ) → i < length t / 6 → letter (get_or (lines_of t) i bad) ≡ get_or t (6 * i) 0
unfolding lines_of
letter_cell [] i h = absurd (omega arith)
letter_cell (x ∷ []) i h = absurd (omega arith)
letter_cell (x ∷ a ∷ []) i h = absurd (omega arith)
letter_cell (x ∷ a ∷ b ∷ []) i h = absurd (omega arith)
letter_cell (x ∷ a ∷ b ∷ c ∷ []) i h = absurd (omega arith)
letter_cell (x ∷ a ∷ b ∷ c ∷ d ∷ []) i h = absurd (omega arith)
letter_cell (x ∷ a ∷ b ∷ c ∷ d ∷ e ∷ t) zero h = refl
letter_cell (x ∷ a ∷ b ∷ c ∷ d ∷ e ∷ t) (suc i) h =
    let k : 6 * suc i ≡ suc (suc (suc (suc (suc (suc (6 * i)))))) = omega arith in
    rw k (letter_cell t i (omega arith))

pub number_cell : (t : List ℕ) (i k : ℕ) → i < length t / 6 → k < 5 → number (get_or (lines_of t) i bad) k ≡ get_or t (6 * i + 1 + k) 0
unfolding lines_of
number_cell [] i k h q = absurd (omega arith)
number_cell (x ∷ []) i k h q = absurd (omega arith)
number_cell (x ∷ a ∷ []) i k h q = absurd (omega arith)
number_cell (x ∷ a ∷ b ∷ []) i k h q = absurd (omega arith)
number_cell (x ∷ a ∷ b ∷ c ∷ []) i k h q = absurd (omega arith)
number_cell (x ∷ a ∷ b ∷ c ∷ d ∷ []) i k h q = absurd (omega arith)
number_cell (x ∷ a ∷ b ∷ c ∷ d ∷ e ∷ t) zero zero h q = refl
number_cell (x ∷ a ∷ b ∷ c ∷ d ∷ e ∷ t) zero (suc zero) h q = refl
number_cell (x ∷ a ∷ b ∷ c ∷ d ∷ e ∷ t) zero (suc (suc zero)) h q = refl
number_cell (x ∷ a ∷ b ∷ c ∷ d ∷ e ∷ t) zero (suc (suc (suc zero))) h q = refl
number_cell (x ∷ a ∷ b ∷ c ∷ d ∷ e ∷ t) zero (suc (suc (suc (suc zero)))) h q = refl
number_cell (x ∷ a ∷ b ∷ c ∷ d ∷ e ∷ t) zero (suc (suc (suc (suc (suc k))))) h q = absurd (omega arith)
number_cell (x ∷ a ∷ b ∷ c ∷ d ∷ e ∷ t) (suc i) k h q =
    let m : 6 * suc i + 1 + k ≡ suc (suc (suc (suc (suc (suc (6 * i + 1 + k)))))) = omega arith in
    rw m (number_cell t i k (omega arith) q)

-- ---- a line without its text
pub letter_bare : (l : Line) → letter (bare l) ≡ letter l
letter_bare l = refl

pub number_bare : (l : Line) (k : ℕ) → k < 5 → number (bare l) k ≡ number l k
number_bare l zero h = refl
number_bare l (suc zero) h = refl
number_bare l (suc (suc zero)) h = refl
number_bare l (suc (suc (suc zero))) h = refl
number_bare l (suc (suc (suc (suc zero)))) h = refl
number_bare l (suc (suc (suc (suc (suc k))))) h = absurd (omega arith)
