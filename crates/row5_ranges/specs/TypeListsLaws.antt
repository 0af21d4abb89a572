-- What the loop over a list of types keeps, and what its ends give. Assumes nothing.
use Rattle.std.specs.Prelude.{◌≡◌, List, Bool, true, false, ◌&&◌, not, ℕ, ◌+◌, ◌≤◌, ◌<◌, eqb, leb, ltb, length, get_or}
use Rattle.std.proofs.Common.{sym, ap, ◌∙◌, arith, eq-eqb, ne_eqb, lt-ltb, le-ltb, le-leb}
use Rattle.std.proofs.lemmas.List.{length-map}
use Rattle.std.proofs.Math.ListN.{get_or-map}
use Rattle.std.proofs.lemmas.Bool.{lt-leb}
use Rattle.sheet.specs.Line.{Line, bad, number}
use Rattle.sheet.specs.Sheet.{first}
use Rattle.sheet.proofs.FirstLaws.{first_more}
use Rattle.meaning.specs.Program.{arg_line, select}
use Rattle.meaning.specs.Rows.{some_below, is_list, nth_line}
use Rattle.rows_header.specs.Header.{Counted}
use Rattle.row5_ranges.specs.UnusedLaws.{some_at, some_none}
use Rattle.row5_ranges.specs.TypeLists.{types_of}
use Rattle.rows_header.specs.OrderLaws.{ordered_of, arg_at, header_le}

-- ---- lists
-- A line i + j is not of a lower type than y
abbrev pub too_high : List ℕ → ℕ → ℕ → ℕ → Bool
too_high xs y i j = not (ltb (get_or xs (i + j) 0) y)

module _ (xs : List ℕ) (y i : ℕ) where
  pub list_empty : (k : ℕ) → k ≡ 0 → is_list xs y i k ≡ eqb i 0
  unfolding is_list
  list_empty k e = rw (eq-eqb k 0 e, is_list)

  list_some : (k : ℕ) → (k ≡ 0 → ⊥) → is_list xs y i k ≡ (leb (i + k) (length xs) && not (some_below (too_high xs y i) k))
  unfolding is_list
  list_some k e = rw (ne_eqb k 0 e, is_list)

  pub list_past : (k : ℕ) → (k ≡ 0 → ⊥) → length xs < i + k → is_list xs y i k ≡ false
  list_past k e h = list_some k e ∙ rw (lt-leb (i + k) (length xs) h)

  module _ (k : ℕ) (e : k ≡ 0 → ⊥) (h : i + k ≤ length xs) where
    pub list_found : (j : ℕ) → j < k → y ≤ get_or xs (i + j) 0 → is_list xs y i k ≡ false
    list_found j m q = list_some k e ∙ rw (le-leb (i + k) (length xs) h) (ap not (some_at (too_high xs y i) k j m (rw (le-ltb (get_or xs (i + j) 0) y q))))

    pub list_all : first (too_high xs y i) k ≡ k → is_list xs y i k ≡ true
    list_all q = list_some k e ∙ rw (le-leb (i + k) (length xs) h) (ap not (some_none (too_high xs y i) k k (omega arith) q))

  pub list_more : (j : ℕ) → get_or xs (i + j) 0 < y → first (too_high xs y i) j ≡ j → first (too_high xs y i) (j + 1) ≡ j + 1
  list_more j h e = first_more (too_high xs y i) j e (rw (lt-ltb (get_or xs (i + j) 0) y h))

-- ---- a sheet in order
module _ (ls : List Line) (names args types : ℕ) (c : Counted ls names args types) where
  pub args_length : length (types_of ls) ≡ args
  args_length = length-map (select arg_line ls) (λ a. number a 0) ∙ sym c.args_are

  -- the type of A line j, by its place in the sheet
  pub arg_type : (j : ℕ) → j < args → get_or (types_of ls) j 0 ≡ number (nth_line ls (names + j)) 0
  arg_type j h =
      let e : get_or (select arg_line ls) j bad ≡ nth_line ls (names + j) =
      rw c.names_are (arg_at ls (ordered_of ls c.in_order) j (omega (arith, c.args_are))) in
      get_or-map (λ a. number a 0) (select arg_line ls) j bad ∙ ap (λ (l : Line). number l 0) e

  pub arg_type_from : (i j : ℕ) → i + j < args → get_or (types_of ls) (i + j) 0 ≡ number (nth_line ls (names + i + j)) 0
  arg_type_from i j h = let e : names + (i + j) ≡ names + i + j = omega arith in rw e at (arg_type (i + j) h)

  pub args_within : names + args ≤ length ls
  args_within = omega (arith, c.names_are, c.args_are, header_le ls)
