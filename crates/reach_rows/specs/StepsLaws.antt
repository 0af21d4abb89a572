-- The rows that are made hold the steps of the reach index. Assumes nothing.
use Rattle.std.specs.Prelude.{◌≡◌, Bool, ◌||◌, eqb}
use Rattle.std.proofs.Math.Path.{refl, ap, sym}
use Rattle.std.proofs.Common.{◌∙◌, eqb-true, ne_eqb}
use mathlib.Core.List.{List, Memᴰ}
use Rattle.std.proofs.Math.Bool.{true, false, or-false, or_assoc}
use Prim.Native.Nat.{ℕ, zero, suc, ◌+◌, ◌*◌, ◌-◌, ◌/◌, ◌≤◌, ◌<◌}
use native.Mathlib.Omega.{arith}
use Rattle.std.proofs.Math.Decide.{ℕ_discrete}
use Rattle.std.proofs.Math.ListN.{length, get_or}
use Rattle.number_columns.specs.Column.{pick}
use Rattle.sheet.specs.Line.{Line}
use Rattle.model.specs.Names.{dtype_names}
use Rattle.model.specs.Decl.{dtype_at}
use Rattle.model_laws.specs.Layout.{positions_placed}
use Rattle.meaning.specs.Program.{type_line, field_line, program}
use Rattle.meaning.specs.Rows.{count_of}
use Rattle.meaning_laws.specs.Program.{length_program}
use Rattle.answer_reach.specs.Index.{decl_next}
use Rattle.table_declared.specs.Passed.{Passed}
use Rattle.table_access.specs.Tables.{decls_of, first_of}
use Rattle.set_bits.specs.Bits.{has, cleared, united}
use Rattle.set_bits.specs.BitsLaws.{row_room, row_before, has_words, length_cleared, cleared_far, cleared_none, length_united, united_far, united_has}
use Rattle.erasure_laws.specs.Bodies.{kind_of, last_of, field_type}
use Rattle.erasure_laws.specs.BodiesLaws.{field_types, first_le, last_types}
use Rattle.mention_types.specs.Mentions.{mentions, any, Mentioned}
use Rattle.mention_types.specs.NamesLaws.{member_iff, any_same}
use Rattle.reach_rows.specs.Steps.{width, in_body, with_fields, with_row, with_rows, Stepped}
use Rattle.reach_rows.specs.NamesLaws.{next_is}

-- ---- the set of a type in a body has room where those of all types have
module _ (ls : List Line) (p : Passed ls) (words n : ℕ) (h : count_of type_line ls * words ≤ n) where
  pub field_room : (f y : ℕ) → f < count_of field_line ls → y ≡ field_type ls f → y * words + words ≤ n
  field_room f y l e = row_room y (count_of type_line ls) words n (rw e (field_types ls p f l)) h

  pub last_room : (d y : ℕ) → d < decls_of ls → kind_of ls d ≡ 1 → y ≡ last_of ls d → y * words + words ≤ n
  last_room d y l k e = row_room y (count_of type_line ls) words n (rw e (last_types ls p d l k)) h

module _ (ls : List Line) (words : ℕ) (sets : List ℕ) where
  -- ---- fields
  module _ (s : List ℕ) (at first : ℕ) where
    pub fields_length : (k : ℕ) → length (with_fields ls words sets s at first k) ≡ length s
    unfolding with_fields
    fields_length zero = refl
    fields_length (suc k) = length_united (with_fields ls words sets s at first k) at sets (field_type ls (first + k) * words) words ∙ fields_length k

    fields_far : (k i : ℕ) → (at ≤ i → at + words ≤ i) → get_or (with_fields ls words sets s at first k) i 0 ≡ get_or s i 0
    unfolding with_fields
    fields_far zero i h = refl
    fields_far (suc k) i h = united_far (with_fields ls words sets s at first k) at sets (field_type ls (first + k) * words) words i h ∙ fields_far k i h

    fields_has : at + words ≤ length s → (m : ℕ) → m < 64 * words → (k : ℕ)
        → has (with_fields ls words sets s at first k) at m ≡ (has s at m || any (λ j. has sets (field_type ls (first + j) * words) m) k)
    unfolding with_fields any
    fields_has h m l zero = sym (or-false (has s at m))
    fields_has h m l (suc k) =
        united_has (with_fields ls words sets s at first k) at sets (field_type ls (first + k) * words) words (rw (fields_length k) h) m l
        ∙ ap (λ (c : Bool). c || has sets (field_type ls (first + k) * words) m) (fields_has h m l k)
        ∙ or_assoc (has s at m) (any (λ j. has sets (field_type ls (first + j) * words) m) k) (has sets (field_type ls (first + k) * words) m)

    -- none yet, and one more
    pub fields_none : s ≡ with_fields ls words sets s at first (first - first)
    unfolding with_fields
    fields_none = let e : first - first ≡ 0 = omega arith in rw e

    pub fields_more : (f y : ℕ) (t u : List ℕ) → first ≤ f → y ≡ field_type ls f → t ≡ with_fields ls words sets s at first (f - first) → u ≡ united t at sets (y * words) words
        → u ≡ with_fields ls words sets s at first (f + 1 - first)
    unfolding with_fields
    fields_more f y t u h e q r =
        let n : f + 1 - first ≡ suc (f - first) = omega arith in
        let z : first + (f - first) ≡ f = omega arith in
        r ∙ rw (n, z, e, q)

  -- ---- a row
  module _ (s : List ℕ) (d : ℕ) where
    abbrev emptied : List ℕ
    emptied = cleared s (d * words) words

    -- where declaration d is an abbreviation, or not
    abbrev row_by : Bool → List ℕ
    row_by c = pick c (united emptied (d * words) sets (last_of ls d * words) words) (with_fields ls words sets emptied (d * words) (first_of field_line ls d) (width ls d))

    pub row_type : (y : ℕ) → kind_of ls d ≡ 1 → y ≡ last_of ls d → united emptied (d * words) sets (y * words) words ≡ with_row ls words sets s d
    unfolding with_row
    row_type y k e = rw (k, e)

    pub row_fields : (first end : ℕ) → (kind_of ls d ≡ 1 → ⊥) → first ≡ first_of field_line ls d → end ≡ first_of field_line ls (suc d)
        → with_fields ls words sets emptied (d * words) first (end - first) ≡ with_row ls words sets s d
    unfolding with_row
    row_fields first end k e f = rw (ne_eqb (kind_of ls d) 1 k, e, f)

    row_length : length (with_row ls words sets s d) ≡ length s
    unfolding with_row
    row_length = go (eqb (kind_of ls d) 1) ∙ length_cleared s (d * words) words
      where
        go : (c : Bool) → length (row_by c) ≡ length emptied
        go true = length_united emptied (d * words) sets (last_of ls d * words) words
        go false = fields_length emptied (d * words) (first_of field_line ls d) (width ls d)

    row_far : (i : ℕ) → (d * words ≤ i → d * words + words ≤ i) → get_or (with_row ls words sets s d) i 0 ≡ get_or s i 0
    unfolding with_row
    row_far i h = go (eqb (kind_of ls d) 1) ∙ cleared_far s (d * words) words i h
      where
        go : (c : Bool) → get_or (row_by c) i 0 ≡ get_or emptied i 0
        go true = united_far emptied (d * words) sets (last_of ls d * words) words i h
        go false = fields_far emptied (d * words) (first_of field_line ls d) (width ls d) i h

    row_has : d * words + words ≤ length s → (m : ℕ) → m < 64 * words → has (with_row ls words sets s d) (d * words) m ≡ in_body ls d (λ y. has sets (y * words) m)
    unfolding with_row in_body
    row_has h m l = go (eqb (kind_of ls d) 1)
      where
        room : d * words + words ≤ length emptied
        room = rw (length_cleared s (d * words) words) h

        none : has emptied (d * words) m ≡ false
        none = cleared_none s (d * words) words h m l

        go : (c : Bool) → has (row_by c) (d * words) m ≡ pick c (has sets (last_of ls d * words) m) (any (λ j. has sets (field_type ls (first_of field_line ls d + j) * words) m) (width ls d))
        go true = united_has emptied (d * words) sets (last_of ls d * words) words room m l ∙ rw none
        go false = fields_has emptied (d * words) (first_of field_line ls d) room m l (width ls d) ∙ rw none

  -- ---- the rows
  module _ (s : List ℕ) where
    pub rows_length : (n : ℕ) → length (with_rows ls words sets s n) ≡ length s
    unfolding with_rows
    rows_length zero = refl
    rows_length (suc n) = row_length (with_rows ls words sets s n) n ∙ rows_length n

    rows_far : (n i : ℕ) → n * words ≤ i → get_or (with_rows ls words sets s n) i 0 ≡ get_or s i 0
    unfolding with_rows
    rows_far zero i h = refl
    rows_far (suc n) i h = let l = row_before n (suc n) words (omega arith) in row_far (with_rows ls words sets s n) n i (λ _. omega arith) ∙ rows_far n i (omega arith)

    rows_has : (n : ℕ) → n * words ≤ length s → (d m : ℕ) → d < n → m < 64 * words → has (with_rows ls words sets s n) (d * words) m ≡ in_body ls d (λ y. has sets (y * words) m)
    unfolding with_rows
    rows_has zero h d m k l = absurd (omega arith)
    rows_has (suc n) h d m k l = go (ℕ_discrete d n) (λ j. rows_has n (omega (arith, row_before n (suc n) words (omega arith))) d m j l)
      where
        t : List ℕ
        t = with_rows ls words sets s n

        go : Dec (d ≡ n) → (d < n → has t (d * words) m ≡ in_body ls d (λ y. has sets (y * words) m)) → has (with_row ls words sets t n) (d * words) m ≡ in_body ls d (λ y. has sets (y * words) m)
        go (yes e) ih = rw e (row_has t n (rw (rows_length n) (row_room n (suc n) words (length s) (omega arith) h)) m l)
        go (no e) ih =
            let j : d < n = omega arith in
            has_words t (with_row ls words sets t n) (d * words) m (row_far t n (d * words + m / 64) (λ q. absurd (omega (arith, row_before d n words j)))) ∙ ih j

-- ---- the types in a body
in_body_same : (ls : List Line) → Passed ls → (d : ℕ) → d < decls_of ls → (p q : ℕ → Bool) → ((y : ℕ) → y < count_of type_line ls → p y ≡ q y) → in_body ls d p ≡ in_body ls d q
unfolding in_body
in_body_same ls p d h f g e = go (eqb (kind_of ls d) 1) refl
  where
    go : (c : Bool) → eqb (kind_of ls d) 1 ≡ c
        → pick c (f (last_of ls d)) (any (λ j. f (field_type ls (first_of field_line ls d + j))) (width ls d))
        ≡ pick c (g (last_of ls d)) (any (λ j. g (field_type ls (first_of field_line ls d + j))) (width ls d))
    go true k = e (last_of ls d) (last_types ls p d h (eqb-true (kind_of ls d) 1 k))
    go false k =
        any_same
        (λ j. f (field_type ls (first_of field_line ls d + j)))
        (λ j. g (field_type ls (first_of field_line ls d + j)))
        (width ls d)
        (λ j l. e (field_type ls (first_of field_line ls d + j)) (field_types ls p (first_of field_line ls d + j) (omega (arith, first_le field_line ls (suc d)))))

-- ---- the table
next_within : (ls : List Line) (a b : ℕ) → Memᴰ b (decl_next (program ls) a) → b < decls_of ls
unfolding decl_next
next_within ls a b m = rw (length_program ls) at (positions_placed (program ls) (dtype_names (dtype_at (program ls) a)) b m).below

pub rows_stepped : (ls : List Line) (words : ℕ) (sets s : List ℕ) → Passed ls → Mentioned ls words sets (count_of type_line ls) → words ≤ 1024 → decls_of ls * words ≤ length s
    → Stepped ls words s (with_rows ls words sets s (decls_of ls))
rows_stepped ls words sets s p r w h =
    record {
      holds =
          record {
            limit = w;
            wide = r.wide;
            long = rw (rows_length ls words sets s (decls_of ls)) h;
            within = next_within ls;
            row = λ d m l k. rw (rows_has ls words sets s (decls_of ls) h d m l k, in_body_same ls p d l (λ y. has sets (y * words) m) (λ y. mentions ls y m) (λ y j. r.right y m j k), ← next_is ls p d l m) (member_iff m (decl_next (program ls) d));
          };
      long = rows_length ls words sets s (decls_of ls);
      later = rows_far ls words sets s (decls_of ls);
    }
