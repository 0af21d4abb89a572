-- Row 6 for a loop over lines that passed rows 3 to 5: what the four arrays keep, and what they say of a line.
-- Assumes nothing.
use Rattle.std.specs.Prelude.{◌≡◌, refl, List, ◌⊎◌, Bool, true, ℕ, zero, suc, ◌+◌, ◌≤◌, ◌<◌, length, replicate}
use Rattle.std.proofs.Math.Path.{ap}
use Rattle.std.proofs.Common.{sym, ◌∙◌, inl, inr, arith}
use Rattle.std.proofs.Math.Bool.{false}
use Rattle.std.proofs.Math.Seq.{take-length}
use Rattle.std.proofs.lemmas.Bool.{not-false}
use Rattle.number_columns.specs.Column.{pick}
use Rattle.sheet.specs.Format.{base}
use Rattle.sheet.specs.Line.{Line, letter, number}
use Rattle.sheet.specs.Sheet.{first}
use Rattle.sheet.proofs.FirstLaws.{none_first, first_none}
use Rattle.meaning.specs.Program.{name_line, arg_line, type_line}
use Rattle.meaning.specs.Rows.{nth_line, count_of, count_before, good_numbers, row5}
use Rattle.rows_header.specs.Header.{Headed}
use Rattle.rows_header.specs.OrderLaws.{from_le, before_from}
use Rattle.row4_limits.specs.LimitsLaws.{names_kept, decls_kept, ctors_kept}
use Rattle.row6_distinct.specs.declared.repeats.Groups.{Groups}
use Rattle.row6_distinct.specs.Ways.{Ranged, Way, Declared, Parameters, Fields, Constructors, repeated, repeated_any, takes, begins, group, Named, found, found_in, marked, After, groups_after}
use Rattle.row6_distinct.specs.WaysLaws.{Stamped, stamped_none, stamped_take, stamped_other, repeated_stamp, repeated_other, takes_begins, named_below}

-- for each way the array has the last group of each name before line i
abbrev pub Seen : List Line → ℕ → Groups → List ℕ → List ℕ → List ℕ → List ℕ → Type 0
Seen ls i g d p f c =
    Stamped Declared ls i d 1 × Stamped Parameters ls i p g.params × Stamped Fields ls i f g.fields × Stamped Constructors ls i c 1

-- ---- before the declarations
-- a line of the header has no name of any way, and begins no group
header_plain : (way : Way) (l : Line) → (letter l ≡ name_line) ⊎ ((letter l ≡ arg_line) ⊎ (letter l ≡ type_line)) → (takes way l ≡ false) × (begins way l ≡ false)
header_plain Declared l (inl e) = rw e (refl, refl)
header_plain Declared l (inr (inl e)) = rw e (refl, refl)
header_plain Declared l (inr (inr e)) = rw e (refl, refl)
header_plain Parameters l (inl e) = rw e (refl, refl)
header_plain Parameters l (inr (inl e)) = rw e (refl, refl)
header_plain Parameters l (inr (inr e)) = rw e (refl, refl)
header_plain Fields l (inl e) = rw e (refl, refl)
header_plain Fields l (inr (inl e)) = rw e (refl, refl)
header_plain Fields l (inr (inr e)) = rw e (refl, refl)
header_plain Constructors l (inl e) = rw e (refl, refl)
header_plain Constructors l (inr (inl e)) = rw e (refl, refl)
header_plain Constructors l (inr (inr e)) = rw e (refl, refl)

module _ (ls : List Line) (from : ℕ) (h : Headed ls from) where
  plain : (way : Way) (i : ℕ) → i < from → (takes way (nth_line ls i) ≡ false) × (begins way (nth_line ls i) ≡ false)
  plain way i k = header_plain way (nth_line ls i) (before_from ls from h i k)

  stamped_to : (way : Way) (i : ℕ) → i ≤ from → Stamped way ls i (replicate 256 0) 1
  stamped_to way zero k = stamped_none way ls
  stamped_to way (suc i) k =
      let l : i < length ls = omega (arith, from_le ls from h) in
      let q = plain way i (omega arith) in
      stamped_other way ls i (replicate 256 0) 1 l (stamped_to way i (omega arith)) 1 q.0 (rw q.1)

  pub seen_none : (g : Groups) → g.params ≡ 1 → g.fields ≡ 1 → Seen ls from g (replicate 256 0) (replicate 256 0) (replicate 256 0) (replicate 256 0)
  seen_none g e f =
      rw (e, f)
      (stamped_to Declared from (omega arith), stamped_to Parameters from (omega arith), stamped_to Fields from (omega arith), stamped_to Constructors from (omega arith))

  pub none_repeated : first (repeated_any ls) from ≡ from
  none_repeated = first_none (repeated_any ls) from (λ i k. rw (at Declared i k, at Parameters i k, at Fields i k, at Constructors i k))
    where
      at : (way : Way) (i : ℕ) → i < from → repeated way ls i ≡ false
      at way i k = repeated_other way ls i (omega (arith, from_le ls from h)) (plain way i k).0

-- ---- for a loop over the lines
module _ (ls : List Line) (r : Ranged ls) where
  -- the groups fit their type
  pub group_fits : (way : Way) (i : ℕ) → i ≤ length ls → group way ls i ≤ 352
  group_fits Declared i h = omega arith
  group_fits Parameters i h = omega (arith, decls_kept base ls r.in_limits i (omega arith))
  group_fits Fields i h =
      let l : i ≤ length ls = omega arith in
      omega (arith, decls_kept base ls r.in_limits i l, ctors_kept base ls r.in_limits i l)
  group_fits Constructors i h = omega arith

  module _ (i : ℕ) (h : i < length ls) where
    -- a name's number is below 256
    pub named_line : Named (nth_line ls i)
    unfolding row5
    named_line =
        let g : row5 ls i ≡ false = none_first (row5 ls) (length ls) r.in_range i h in
        let k : count_before name_line ls (length ls) ≤ 256 = names_kept base ls r.in_limits (length ls) (omega arith) in
        record {
          below = λ way e.
              let n : number (nth_line ls i) 0 < count_of name_line ls = named_below ls i (not-false (good_numbers ls i) g) way e in
              (omega (arith, ap (count_of name_line) (take-length ls)));
        }

    module _ (way : Way) (last : List ℕ) (g : ℕ) (s : Stamped way ls i last g) where
      found_repeated : found way (nth_line ls i) g last ≡ repeated way ls i
      found_repeated = go (takes way (nth_line ls i)) refl
        where
          go : (t : Bool) → takes way (nth_line ls i) ≡ t → found way (nth_line ls i) g last ≡ repeated way ls i
          go true e =
              rw e (sym (repeated_stamp way ls i last g h s (number (nth_line ls i) 0) (named_line.below way e) refl e))
          go false e = rw e (sym (repeated_other way ls i h e))

      stamped_next : Stamped way ls (suc i) (marked way (nth_line ls i) g last) (pick (begins way (nth_line ls i)) (g + 1) g)
      stamped_next = go (takes way (nth_line ls i)) refl
        where
          go : (t : Bool) → takes way (nth_line ls i) ≡ t → Stamped way ls (suc i) (marked way (nth_line ls i) g last) (pick (begins way (nth_line ls i)) (g + 1) g)
          go true e =
              rw (e, takes_begins way (nth_line ls i) e)
              (stamped_take way ls i last g h s (number (nth_line ls i) 0) (named_line.below way e) refl e)
          go false e =
              rw e (stamped_other way ls i last g h s (pick (begins way (nth_line ls i)) (g + 1) g) e refl)

    module _ (g : Groups) (d p f c : List ℕ) (s : Seen ls i g d p f c) where
      -- what the arrays say of line i
      pub seen_test : (r : Bool) → r ≡ found_in (nth_line ls i) g d p f c → repeated_any ls i ≡ r
      seen_test r e =
          sym (e ∙ rw (found_repeated Declared d 1 s.0, found_repeated Parameters p g.params s.1, found_repeated Fields f g.fields s.2, found_repeated Constructors c 1 s.3))

      -- and after it
      pub seen_next : (r : Bool) (d' p' f' c' : List ℕ) (g' : Groups) → After (nth_line ls i) g d p f c r d' p' f' c' → g' ≡ groups_after (nth_line ls i) g
          → Seen ls (suc i) g' d' p' f' c'
      seen_next r d' p' f' c' g' a e =
          rw (e, a.1, a.2, a.3, a.4)
          (stamped_next Declared d 1 s.0, stamped_next Parameters p g.params s.1, stamped_next Fields f g.fields s.2, stamped_next Constructors c 1 s.3)

      pub groups_small : (g.params < 65535) × (g.fields < 65535)
      groups_small =
          (omega (arith, s.1.grouped, group_fits Parameters i (omega arith)), omega (arith, s.2.grouped, group_fits Fields i (omega arith)))
