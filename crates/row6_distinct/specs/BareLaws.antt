-- The names that are to differ go by letters and numbers, not by texts. Assumes nothing.
use Rattle.std.specs.Prelude.{◌≡◌, refl, List, map, Bool, ◌&&◌, ℕ, suc, eqb, ltb, length}
use Rattle.std.proofs.Common.{ap, sym, ◌∙◌}
use Rattle.std.proofs.lemmas.List.{length-map}
use Rattle.sheet.specs.Format.{base}
use Rattle.sheet.specs.Line.{Line, number}
use Rattle.sheet.specs.Sheet.{first, count, lines}
use Rattle.sheet.proofs.FirstLaws.{first_congr}
use Rattle.sheet.proofs.SheetLaws.{length_lines}
use Rattle.meaning.specs.Program.{name_line, arg_line, type_line, local_line, import_line, param_line, ctor_line, field_line, is, is_head}
use Rattle.meaning.specs.Rows.{some_below, nth_line, is_ctor, same_decl, same_ctor}
use Rattle.walk_cells.specs.Cells.{lines_of, bare}
use Rattle.meaning_bares.specs.ProgramLaws.{at_bare}
use Rattle.meaning_bares.specs.RowLaws.{before_bare}
use Rattle.meaning_bares.specs.RowLaws as rows
use Rattle.meaning_bares.specs.PlaceLaws.{count_bare, place3, place4, place5}
use Rattle.rows_header.specs.Header.{header}
use Rattle.row6_spellings.specs.Spellings as bytes
use Rattle.row6_distinct.specs.Ways.{Ranged, Way, Declared, Parameters, Fields, Constructors, repeated, repeated_any}

-- lines j and i have one name, and are alike in one of the ways, in lines of which ls says who is whose
abbrev same_in : Way → List Line → ℕ → ℕ → Line → Line → Bool
same_in Declared ls j i k l = eqb (number k 0) (number l 0) && (is_head k && is_head l)
same_in Parameters ls j i k l = eqb (number k 0) (number l 0) && (is param_line k && is param_line l && same_decl ls j i)
same_in Fields ls j i k l = eqb (number k 0) (number l 0) && (is field_line k && is field_line l && same_ctor ls j i)
same_in Constructors ls j i k l = eqb (number k 0) (number l 0) && (is_ctor k && is_ctor l)

context : (way : Way) (ls : List Line) (j i : ℕ) (k l : Line) → same_in way (map bare ls) j i k l ≡ same_in way ls j i k l
context Declared ls j i k l = refl
context Parameters ls j i k l = rw (before_bare local_line ls i, before_bare local_line ls j, before_bare import_line ls i, before_bare import_line ls j)
context Fields ls j i k l =
    rw (before_bare local_line ls i, before_bare local_line ls j, before_bare import_line ls i, before_bare import_line ls j, before_bare ctor_line ls i, before_bare ctor_line ls j)
context Constructors ls j i k l = refl

former : (way : Way) (ls : List Line) (j i : ℕ) (l k : Line) → same_in way ls j i (bare k) l ≡ same_in way ls j i k l
former Declared ls j i l k = refl
former Parameters ls j i l k = refl
former Fields ls j i l k = refl
former Constructors ls j i l k = refl

latter : (way : Way) (ls : List Line) (j i : ℕ) (k l : Line) → same_in way ls j i k (bare l) ≡ same_in way ls j i k l
latter Declared ls j i k l = refl
latter Parameters ls j i k l = refl
latter Fields ls j i k l = refl
latter Constructors ls j i k l = refl

same_bare : (way : Way) (ls : List Line) (j i : ℕ) → same_in way (map bare ls) j i (nth_line (map bare ls) j) (nth_line (map bare ls) i) ≡ same_in way ls j i (nth_line ls j) (nth_line ls i)
same_bare way ls j i =
    context way ls j i (nth_line (map bare ls) j) (nth_line (map bare ls) i)
    ∙ at_bare (λ k. same_in way ls j i k (nth_line (map bare ls) i)) (former way ls j i (nth_line (map bare ls) i)) ls j
    ∙ at_bare (λ l. same_in way ls j i (nth_line ls j) l) (latter way ls j i (nth_line ls j)) ls i

some_same : (p q : ℕ → Bool) (n : ℕ) → ((i : ℕ) → p i ≡ q i) → some_below p n ≡ some_below q n
some_same p q n e = ap (λ (k : ℕ). ltb k n) (first_congr p q n (λ i h. e i))

repeated_bare : (way : Way) (ls : List Line) (i : ℕ) → repeated way (map bare ls) i ≡ repeated way ls i
unfolding repeated
repeated_bare Declared ls i = some_same _ _ i (λ j. same_bare Declared ls j i)
repeated_bare Parameters ls i = some_same _ _ i (λ j. same_bare Parameters ls j i)
repeated_bare Fields ls i = some_same _ _ i (λ j. same_bare Fields ls j i)
repeated_bare Constructors ls i = some_same _ _ i (λ j. same_bare Constructors ls j i)

pub first_bare : (ls : List Line) → first (repeated_any (map bare ls)) (length (map bare ls)) ≡ first (repeated_any ls) (length ls)
first_bare ls =
    rw (length-map ls bare)
    (first_congr (repeated_any (map bare ls)) (repeated_any ls) (length ls)
    (λ i h. rw (repeated_bare Declared ls i, repeated_bare Parameters ls i, repeated_bare Fields ls i, repeated_bare Constructors ls i)))

-- ---- of a sheet's bytes
module _ (b t : List ℕ) (e : lines_of t ≡ map bare (lines 6 b)) where
  pub ranged_cells : bytes.Ranged b → Ranged (lines_of t)
  ranged_cells r =
      rw e
      (record {
        in_order = place3 6 b r.no_bad ∙ r.in_order ∙ ap suc (sym (count_bare 6 b));
        in_limits = place4 6 b base ∙ r.in_limits ∙ sym (count_bare 6 b);
        in_range = place5 6 b ∙ r.in_range ∙ sym (count_bare 6 b);
      })

  pub header_cells : header (lines_of t) ≡ header (lines 6 b)
  header_cells = rw (e, rows.count_bare name_line (lines 6 b), rows.count_bare arg_line (lines 6 b), rows.count_bare type_line (lines 6 b))

  pub repeated_cells : first (repeated_any (lines_of t)) (length (lines_of t)) ≡ first (repeated_any (lines 6 b)) (count 6 b)
  repeated_cells = rw e (first_bare (lines 6 b) ∙ rw (length_lines 6 b))
