-- What is put into the set of a type, and the set of one type more. Assumes nothing.
use Rattle.std.specs.Prelude.{◌≡◌, List, Bool, true, false, ◌||◌, set}
use Rattle.std.proofs.Math.Path.{refl, ap, ap₂}
use Rattle.std.proofs.Common.{sym, ◌∙◌, arith, length-set, pow_pos, get_or-set_same, get_or-set_other, eq-eqb, ne_eqb, lt-ltb, le-ltb}
use Prim.Native.Nat.{ℕ, zero, suc, ◌+◌, ◌*◌, ◌/◌, ◌%◌, ◌≤◌, ◌<◌}
use Rattle.std.proofs.Math.Nat.{div-eq_of_lt}
use Rattle.std.proofs.Math.Decide.{ℕ_discrete}
use Rattle.std.proofs.Math.Dec.{eqb}
use Rattle.std.specs.Int.Bits.{bit_or}
use Rattle.std.proofs.Math.ListN.{length, get_or}
use Rattle.number_columns.specs.Column.{pick}
use Rattle.sheet.specs.Line.{Line}
use Rattle.model.specs.Decl.{member, position}
use Rattle.model.specs.Layout.{positions}
use Rattle.meaning.specs.Program.{type_line, program}
use Rattle.meaning.specs.Rows.{count_of}
use Rattle.meaning_laws.specs.Program.{length_program}
use Rattle.table_declared.specs.Passed.{Passed}
use Rattle.table_access.specs.Tables.{decls_of}
use Rattle.set_bits.specs.Bits.{digit, has, inserted, cleared, united}
use Rattle.set_bits.specs.BitsLaws.{row_room, row_before, has_words, digit_lt, digit_or, or_one, length_inserted, inserted_far, inserted_same, inserted_other, length_cleared, cleared_far, cleared_none, length_united, united_far, united_has}
use Rattle.mention_types.specs.Mentions.{part, arg_of, mentions, named, any, Adds, Lower, Inside, word_of, of_list, Mentioned}
use Rattle.mention_types.specs.NamesLaws.{any_same, arrow_names, app_low, app_names, tuple_low, tuple_names}

-- ---- tests
or_false : (c : Bool) → c ≡ (c || false)
or_false true = refl
or_false false = refl

or_true : (c : Bool) → true ≡ (c || true)
or_true true = refl
or_true false = refl

itself : (c : Bool) → c ≡ pick c true false
itself true = refl
itself false = refl

or_assoc : (a b c : Bool) → ((a || b) || c) ≡ (a || (b || c))
or_assoc true b c = refl
or_assoc false b c = refl

module _ (words y : ℕ) where
  pub adds_none : (s : List ℕ) → Adds words y (λ m. false) s s
  adds_none s = record { long = refl; below = λ i h. refl; row = λ m h. or_false (has s (y * words) m) }

  -- one after the other
  pub adds_both : (p q : ℕ → Bool) (s t u : List ℕ) → Adds words y p s t → Adds words y q t u → Adds words y (λ m. p m || q m) s u
  adds_both p q s t u a b =
      record {
        long = b.long ∙ a.long;
        below = λ i h. b.below i h ∙ a.below i h;
        row = λ m h. b.row m h ∙ ap (λ (c : Bool). c || q m) (a.row m h) ∙ or_assoc (has s (y * words) m) (p m) (q m);
      }

  pub adds_same : (p q : ℕ → Bool) (s t : List ℕ) → ((m : ℕ) → m < 64 * words → p m ≡ q m) → Adds words y p s t → Adds words y q s t
  adds_same p q s t e a = record { long = a.long; below = a.below; row = λ m h. a.row m h ∙ ap (λ (c : Bool). has s (y * words) m || c) (e m h) }

  -- the sets of lower types are as they were
  pub adds_lower : (p : ℕ → Bool) (s t : List ℕ) → Adds words y p s t → (c m : ℕ) → c < y → m < 64 * words → has t (c * words) m ≡ has s (c * words) m
  adds_lower p s t a c m l h = has_words s t (c * words) m (a.below (c * words + m / 64) (omega (arith, row_before c y words l)))

  -- the members of the set of a lower type
  pub adds_type : (s : List ℕ) (c : ℕ) → c < y → y * words + words ≤ length s → Adds words y (has s (c * words)) s (united s (y * words) s (c * words) words)
  adds_type s c l h =
      record {
        long = length_united s (y * words) s (c * words) words;
        below = λ i j. united_far s (y * words) s (c * words) words i (λ k. absurd (omega arith));
        row = λ m j. united_has s (y * words) s (c * words) words h m j;
      }

  -- one member
  pub adds_one : (s : List ℕ) (d : ℕ) → d < 64 * words → y * words + words ≤ length s → Adds words y (eqb d) s (inserted s (y * words) d)
  adds_one s d l h =
      let w : y * words + d / 64 < length s = omega arith in
      record {
        long = length_inserted s (y * words) d w;
        below = λ i j. inserted_far s (y * words) d w i (λ e. omega arith);
        row = λ m j. go m (ℕ_discrete m d) w;
      }
    where
      go : (m : ℕ) → Dec (m ≡ d) → y * words + d / 64 < length s → has (inserted s (y * words) d) (y * words) m ≡ (has s (y * words) m || eqb d m)
      go m (yes e) w = rw (e, inserted_same s (y * words) d w, eq-eqb d d refl) (or_true (has s (y * words) d))
      go m (no n) w = inserted_other s (y * words) d w m n ∙ rw (ne_eqb d m (λ z. n (sym z))) (or_false (has s (y * words) m))

-- ---- a list
-- the first w words of the set of type y with those of a list's types
pub record Words (ls : List Line) (words y first k : ℕ) (s t : List ℕ) (w : ℕ) : Type 0 where
  pub long : length t ≡ length s
  pub below : (i : ℕ) → i < y * words → get_or t i 0 ≡ get_or s i 0
  pub done : (i : ℕ) → i < w → get_or t (y * words + i) 0 ≡ bit_or (get_or s (y * words + i) 0) (word_of ls words s first i k)
  pub rest : (i : ℕ) → w ≤ i → get_or t (y * words + i) 0 ≡ get_or s (y * words + i) 0

module _ (ls : List Line) (words y first : ℕ) (s : List ℕ) where
  pub words_none : (k : ℕ) → Words ls words y first k s s 0
  words_none k = record { long = refl; below = λ i h. refl; done = λ i h. absurd (omega arith); rest = λ i h. refl }

  -- the sets of lower types are as they were
  word_same : (t : List ℕ) (w k : ℕ) → w < words → Lower ls y first k → ((i : ℕ) → i < y * words → get_or t i 0 ≡ get_or s i 0) → word_of ls words t first w k ≡ word_of ls words s first w k
  unfolding word_of
  word_same t w zero h l e = refl
  word_same t w (suc k) h l e =
      ap₂ bit_or (word_same t w k h (λ j q. l j (omega arith)) e) (e (arg_of ls (first + k) * words + w) (omega (arith, row_before (arg_of ls (first + k)) y words (l k (omega arith)).1)))

  pub words_more : (k : ℕ) (t : List ℕ) (w x : ℕ)
      → Words ls words y first k s t w
      → w < words
      → y * words + words ≤ length s
      → Lower ls y first k
      → x ≡ word_of ls words t first w k
      → Words ls words y first k s (set t (y * words + w) (bit_or (get_or t (y * words + w) 0) x)) (w + 1)
  words_more k t w x r h l q e =
      let v : ℕ = bit_or (get_or t (y * words + w) 0) x in
      record {
        long = length-set t (y * words + w) v ∙ r.long;
        below = λ i j. get_or-set_other t (y * words + w) i v 0 (λ z. omega arith) ∙ r.below i j;
        done = λ i j. go i j (ℕ_discrete i w);
        rest = λ i j. get_or-set_other t (y * words + w) (y * words + i) v 0 (λ z. omega arith) ∙ r.rest i (omega arith);
      }
    where
      go : (i : ℕ) → i < w + 1 → Dec (i ≡ w) → get_or (set t (y * words + w) (bit_or (get_or t (y * words + w) 0) x)) (y * words + i) 0 ≡ bit_or (get_or s (y * words + i) 0) (word_of ls words s first i k)
      go i j (yes z) = rw z (get_or-set_same t (y * words + w) _ 0 (omega (arith, r.long)) ∙ ap₂ bit_or (r.rest w (omega arith)) (e ∙ word_same t w k h q r.below))
      go i j (no z) = get_or-set_other t (y * words + w) (y * words + i) _ 0 (λ u. z (omega arith)) ∙ r.done i (omega arith)

  -- a bit of the united words is set where one of the sets has it
  word_any : (w c k : ℕ) → eqb (digit (word_of ls words s first w k) c) 1 ≡ any (λ j. eqb (digit (get_or s (arg_of ls (first + j) * words + w) 0) c) 1) k
  unfolding word_of any
  word_any w c zero = ap (λ (x : ℕ). eqb (x % 2) 1) (div-eq_of_lt (pow_pos c))
  word_any w c (suc k) =
      let p : ℕ = word_of ls words s first w k in
      let q : ℕ = get_or s (arg_of ls (first + k) * words + w) 0 in
      ap (λ (x : ℕ). eqb x 1) (digit_or p q c) ∙ or_one (digit p c) (digit q c) (digit_lt p c) (digit_lt q c) ∙ ap (λ (x : Bool). x || eqb (digit q c) 1) (word_any w c k)

  -- all words are done
  pub words_adds : (k : ℕ) (t : List ℕ) → Words ls words y first k s t words → Adds words y (of_list ls words s first k) s t
  unfolding of_list has
  words_adds k t r =
      record {
        long = r.long;
        below = r.below;
        row = λ m h.
            let x : ℕ = get_or s (y * words + m / 64) 0 in
            let z : ℕ = word_of ls words s first (m / 64) k in
            ap (λ (u : ℕ). eqb (digit u (m % 64)) 1) (r.done (m / 64) (omega arith))
            ∙ ap (λ (u : ℕ). eqb u 1) (digit_or x z (m % 64))
            ∙ or_one (digit x (m % 64)) (digit z (m % 64)) (digit_lt x (m % 64)) (digit_lt z (m % 64))
            ∙ ap (λ (u : Bool). eqb (digit x (m % 64)) 1 || u) (word_any (m / 64) (m % 64) k);
      }

  -- what is asked of each word
  pub list_inside : (k : ℕ) (t : List ℕ) → Lower ls y first k → y * words + words ≤ length t → Inside ls words t first k
  list_inside k t l h j q = ((l j q).0, omega (arith, row_before (arg_of ls (first + j)) y words (l j q).1))

-- its types name what their sets hold
pub list_names : (ls : List Line) (words y first k : ℕ) (s : List ℕ) → Mentioned ls words s y → Lower ls y first k → (m : ℕ) → m < 64 * words → of_list ls words s first k m ≡ any (λ j. mentions ls (arg_of ls (first + j)) m) k
unfolding of_list
list_names ls words y first k s r l m h =
    any_same (λ j. has s (arg_of ls (first + j) * words) m) (λ j. mentions ls (arg_of ls (first + j)) m) k (λ j q. r.right (arg_of ls (first + j)) m (l j q).1 h)

-- ---- a name
module _ (ls : List Line) (n : ℕ) where
  pub named_declared : (d : ℕ) → d ≡ position (program ls) n → d < decls_of ls → (m : ℕ) → eqb d m ≡ named ls n m
  unfolding named positions member
  named_declared d e h m =
      let l : position (program ls) n < length (program ls) = rw (length_program ls) (rw e at h) in
      rw (lt-ltb (position (program ls) n) (length (program ls)) l, e) (itself (eqb (position (program ls) n) m))

  pub named_foreign : (d : ℕ) → d ≡ position (program ls) n → decls_of ls ≤ d → (m : ℕ) → false ≡ named ls n m
  unfolding named positions member
  named_foreign d e h m =
      let l : length (program ls) ≤ position (program ls) n = rw (length_program ls) (rw e at h) in
      rw (le-ltb (position (program ls) n) (length (program ls)) l)

  pub adds_declared : (words y d : ℕ) (s t : List ℕ) → d ≡ position (program ls) n → d < decls_of ls → Adds words y (eqb d) s t → Adds words y (named ls n) s t
  adds_declared words y d s t e h = adds_same words y (eqb d) (named ls n) s t (λ m l. named_declared d e h m)

  pub adds_foreign : (words y d : ℕ) (s : List ℕ) → d ≡ position (program ls) n → decls_of ls ≤ d → Adds words y (named ls n) s s
  adds_foreign words y d s e h = adds_same words y (λ m. false) (named ls n) s s (λ m l. named_foreign d e h m) (adds_none words y s)

-- ---- one type more
module _ (ls : List Line) (words : ℕ) where
  -- the sets of lower types stand while a set is made
  pub kept : (s t : List ℕ) (y : ℕ) (p : ℕ → Bool) → Mentioned ls words s y → Adds words y p s t → Mentioned ls words t y
  kept s t y p k a =
      record {
        wide = k.wide;
        long = rw a.long k.long;
        low = k.low;
        right = λ c m l h. adds_lower words y p s t a c m l h ∙ k.right c m l h;
      }

  pub clears : (s : List ℕ) (y : ℕ) → y < count_of type_line ls → Mentioned ls words s y → Mentioned ls words (cleared s (y * words) words) y
  clears s y h k =
      record {
        wide = k.wide;
        long = rw (length_cleared s (y * words) words) k.long;
        low = k.low;
        right = λ c m l j. has_words s (cleared s (y * words) words) (c * words) m (cleared_far s (y * words) words (c * words + m / 64) (λ q. absurd (omega (arith, row_before c y words l)))) ∙ k.right c m l j;
      }

  pub one_more : (s t : List ℕ) (y : ℕ) (p : ℕ → Bool)
      → y < count_of type_line ls
      → Mentioned ls words s y
      → Adds words y p (cleared s (y * words) words) t
      → ((m : ℕ) → m < 64 * words → p m ≡ mentions ls y m)
      → Mentioned ls words t (y + 1)
  one_more s t y p h k a e =
      let q : Mentioned ls words t y = kept (cleared s (y * words) words) t y p (clears s y h k) a in
      record {
        wide = q.wide;
        long = q.long;
        low = omega arith;
        right = λ c m l j. go q c m l j (ℕ_discrete c y);
      }
    where
      go : Mentioned ls words t y → (c m : ℕ) → c < y + 1 → m < 64 * words → Dec (c ≡ y) → has t (c * words) m ≡ mentions ls c m
      go q c m l j (yes z) =
          rw
          z
          (a.row m j ∙ ap (λ (x : Bool). x || p m) (cleared_none s (y * words) words (row_room y (count_of type_line ls) words (length s) h k.long) m j) ∙ e m j)
      go q c m l j (no z) = q.right c m (omega arith) j

-- ---- by the kind of a type
module _ (ls : List Line) (p : Passed ls) (words : ℕ) (s : List ℕ) (y : ℕ) (k : Mentioned ls words s y) (h : y < count_of type_line ls) where
  pub row_in : y * words + words ≤ length s
  row_in = row_room y (count_of type_line ls) words (length s) h k.long

  -- a child
  pub adds_child : (c : ℕ) → c < y → (t : List ℕ) → Adds words y (has s (c * words)) s t → Adds words y (mentions ls c) s t
  adds_child c l t = adds_same words y (has s (c * words)) (mentions ls c) s t (λ m q. k.right c m l q)

  pub adds_arrow : (e : part ls y 0 ≡ 7) (t u : List ℕ)
      → Adds words y (mentions ls (part ls y 1)) s t
      → Adds words y (mentions ls (part ls y 3)) t u
      → Adds words y (mentions ls y) s u
  adds_arrow e t u a c =
      adds_same words y _ (mentions ls y) s u (λ m q. sym (arrow_names ls p y h m e)) (adds_both words y (mentions ls (part ls y 1)) (mentions ls (part ls y 3)) s t u a c)

  pub adds_tuple : (e : part ls y 0 ≡ 9) (t : List ℕ) → Adds words y (of_list ls words s (part ls y 1) (part ls y 2)) s t → Adds words y (mentions ls y) s t
  adds_tuple e t =
      adds_same words y (of_list ls words s (part ls y 1) (part ls y 2)) (mentions ls y) s t (λ m q. list_names ls words y (part ls y 1) (part ls y 2) s k (tuple_low ls p y h e) m q ∙ sym (tuple_names ls p y h m e))

  pub adds_app : (e : part ls y 0 ≡ 8) (t u : List ℕ)
      → Adds words y (named ls (part ls y 1)) s t
      → Adds words y (of_list ls words t (part ls y 2) (part ls y 3)) t u
      → Adds words y (mentions ls y) s u
  adds_app e t u a c =
      adds_same
      words
      y
      _
      (mentions ls y)
      s
      u
      (λ m q. ap (λ (x : Bool). named ls (part ls y 1) m || x) (list_names ls words y (part ls y 2) (part ls y 3) t (kept ls words s t y (named ls (part ls y 1)) k a) (app_low ls p y h e) m q) ∙ sym (app_names ls p y h m e))
      (adds_both words y (named ls (part ls y 1)) (of_list ls words t (part ls y 2) (part ls y 3)) s t u a c)
