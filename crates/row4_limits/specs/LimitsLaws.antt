-- The counts of row 4 line by line, the limits that a sheet keeps where row 4 does not apply, and where declarations begin.
-- Assumes nothing.
use Rattle.std.specs.Prelude.{◌≡◌, List, ◌⊎◌, Bool, true, false, ◌||◌, not, eqb, leb}
use Rattle.std.proofs.Math.Path.{refl}
use Rattle.std.proofs.Common.{sym, ◌∙◌, inl, inr, add-one}
use Prim.Native.Nat.{ℕ, zero, suc, ◌+◌, ◌%◌, ◌≤◌, ◌<◌}
use native.Mathlib.Omega.{arith}
use Rattle.std.proofs.Math.Dec.{ltb}
use Rattle.std.proofs.Math.ListN.{length, take}
use Rattle.std.proofs.Math.Seq.{take-length}
use borrow.Author.Tests.{lt-ltb, le-ltb, ltb-true, ltb-false, leb-true, leb-false, eqb-true}
use Rattle.number_columns.specs.Column.{pick}
use Rattle.sheet.specs.Format.{Format, base, Wider}
use Rattle.sheet.specs.Line.{Line, letter}
use Rattle.sheet.specs.Sheet.{first, row1}
use Rattle.sheet.proofs.FirstLaws.{Place, first_place, first_le_at, first_found, first_none, none_first}
use Rattle.meaning.specs.Program.{name_line, arg_line, type_line, param_line, ctor_line, field_line, is, is_head, select}
use Rattle.meaning.specs.Rows.{nth_line, count_before, heads_before, params_after, row4}
use Rattle.row3_order.specs.StepLaws.{count_before_step, heads_before_step, params_after_suc, count_before_le, heads_before_le, params_after_le, heads_before_mono}
use Rattle.row4_limits.specs.declared.Tally.{Tally}
use Rattle.row4_limits.specs.Limits.{head_letter, none, tally_before, counted, past, Small, start, counts_of, Kept}

-- ---- letters
-- a letter by the kind of its lines
pub data Kind (x : ℕ) : Type 0 where
  a_name : x ≡ 78 → Kind x
  an_arg : x ≡ 65 → Kind x
  a_type : x ≡ 89 → Kind x
  a_local : x ≡ 68 → Kind x
  an_import : x ≡ 73 → Kind x
  a_param : x ≡ 80 → Kind x
  a_ctor : x ≡ 67 → Kind x
  a_field : x ≡ 70 → Kind x
  another : eqb x 78 ≡ false → eqb x 65 ≡ false → eqb x 89 ≡ false → eqb x 68 ≡ false → eqb x 73 ≡ false → eqb x 80 ≡ false → eqb x 67 ≡ false → eqb x 70 ≡ false → Kind x

pub kind : (x : ℕ) → Kind x
kind x = go (eqb x 78) (eqb x 65) (eqb x 89) (eqb x 68) (eqb x 73) (eqb x 80) (eqb x 67) (eqb x 70) refl refl refl refl refl refl refl refl
  where
    go : (n a y d i p c f : Bool) → eqb x 78 ≡ n → eqb x 65 ≡ a → eqb x 89 ≡ y → eqb x 68 ≡ d → eqb x 73 ≡ i → eqb x 80 ≡ p → eqb x 67 ≡ c → eqb x 70 ≡ f → Kind x
    go true a y d i p c f n' a' y' d' i' p' c' f' = a_name (eqb-true x 78 n')
    go false true y d i p c f n' a' y' d' i' p' c' f' = an_arg (eqb-true x 65 a')
    go false false true d i p c f n' a' y' d' i' p' c' f' = a_type (eqb-true x 89 y')
    go false false false true i p c f n' a' y' d' i' p' c' f' = a_local (eqb-true x 68 d')
    go false false false false true p c f n' a' y' d' i' p' c' f' = an_import (eqb-true x 73 i')
    go false false false false false true c f n' a' y' d' i' p' c' f' = a_param (eqb-true x 80 p')
    go false false false false false false true f n' a' y' d' i' p' c' f' = a_ctor (eqb-true x 67 c')
    go false false false false false false false true n' a' y' d' i' p' c' f' = a_field (eqb-true x 70 f')
    go false false false false false false false false n' a' y' d' i' p' c' f' = another n' a' y' d' i' p' c' f'

-- ---- row 4, by the tally before a line and the line's letter
pub tally_zero : (ls : List Line) → tally_before ls 0 ≡ none
unfolding tally_before params_after select
tally_zero ls = refl

-- one line more, count by count
abbrev added : Tally → ℕ → Tally
added t x =
    record {
      names = pick (eqb x name_line) (t.names + 1) t.names;
      args = pick (eqb x arg_line) (t.args + 1) t.args;
      types = pick (eqb x type_line) (t.types + 1) t.types;
      decls = pick (head_letter x) (t.decls + 1) t.decls;
      params = pick (head_letter x) 0 (pick (eqb x param_line) (t.params + 1) t.params);
      ctors = pick (eqb x ctor_line) (t.ctors + 1) t.ctors;
      fields = pick (eqb x field_line) (t.fields + 1) t.fields;
    }

added_counted : (t : Tally) (x : ℕ) → Kind x → added t x ≡ counted t x
unfolding counted
added_counted t x (a_name e) = rw e
added_counted t x (an_arg e) = rw e
added_counted t x (a_type e) = rw e
added_counted t x (a_local e) = rw e
added_counted t x (an_import e) = rw e
added_counted t x (a_param e) = rw e
added_counted t x (a_ctor e) = rw e
added_counted t x (a_field e) = rw e
added_counted t x (another n a y d i p c f) = rw (n, a, y, d, i, p, c, f)

pub tally_suc : (ls : List Line) (i : ℕ) → i < length ls → tally_before ls (suc i) ≡ counted (tally_before ls i) (letter (nth_line ls i))
unfolding tally_before
tally_suc ls i h =
    rw (
      count_before_step ls i h name_line,
      count_before_step ls i h arg_line,
      count_before_step ls i h type_line,
      heads_before_step ls i h,
      params_after_suc ls i h 0,
      count_before_step ls i h ctor_line,
      count_before_step ls i h field_line,
      ← add-one (params_after 0 (take i ls)),
    )
    (added_counted (tally_before ls i) (letter (nth_line ls i)) (kind (letter (nth_line ls i))))

pub row4_past : (f : Format) (ls : List Line) (i : ℕ) → row4 f ls i ≡ past f (tally_before ls i) (letter (nth_line ls i))
unfolding row4 past tally_before
row4_past f ls i = refl

pub head_cases : (x : ℕ) → head_letter x ≡ true → (x ≡ 68) ⊎ (x ≡ 73)
head_cases x h = go (eqb x 68) refl h
  where
    go : (b : Bool) → eqb x 68 ≡ b → (b || eqb x 73) ≡ true → (x ≡ 68) ⊎ (x ≡ 73)
    go true e k = inl (eqb-true x 68 e)
    go false e k = inr (eqb-true x 73 k)

-- what a D or I line adds, and its limit
pub counted_head : (t : Tally) (x : ℕ) → (x ≡ 68) ⊎ (x ≡ 73) →
    counted t x ≡ record { names = t.names; args = t.args; types = t.types; decls = t.decls + 1; params = 0; ctors = t.ctors; fields = t.fields }
unfolding counted
counted_head t x (inl e) = rw e
counted_head t x (inr e) = rw e

pub past_head : (f : Format) (t : Tally) (x : ℕ) → (x ≡ 68) ⊎ (x ≡ 73) → past f t x ≡ leb f.decls t.decls
unfolding past
past_head f t x (inl e) = rw e
past_head f t x (inr e) = rw e

-- a D or I line that is not past its limit leaves room for its declaration
pub room : (f : Format) (t : Tally) (x : ℕ) → head_letter x ≡ true → past f t x ≡ false → t.decls < f.decls
room f t x h e = leb-false f.decls t.decls (sym (past_head f t x (head_cases x h)) ∙ e)

-- no count is over the number of lines passed
pub tally_small : (ls : List Line) (i : ℕ) → i ≤ length ls → i < 1152921504606846976 → Small (tally_before ls i)
unfolding tally_before
tally_small ls i h l =
    record {
      names = omega (arith, count_before_le ls name_line i h);
      args = omega (arith, count_before_le ls arg_line i h);
      types = omega (arith, count_before_le ls type_line i h);
      decls = omega (arith, heads_before_le ls i h);
      params = omega (arith, params_after_le ls i h);
      ctors = omega (arith, count_before_le ls ctor_line i h);
      fields = omega (arith, count_before_le ls field_line i h);
    }

-- ---- limits that are kept where row 4 does not apply
-- a count, with what one line adds, stays within a limit that the line is not past
step_kept : (n m : ℕ) (b c : Bool) → (b ≡ true → c ≡ leb m n) → c ≡ false → n ≤ m → pick b (n + 1) n ≤ m
step_kept n m true c h e l = omega (arith, leb-false m n (sym (h refl) ∙ e))
step_kept n m false c h e l = l

pub cases_head : (x : ℕ) → (x ≡ 68) ⊎ (x ≡ 73) → head_letter x ≡ true
cases_head x (inl e) = rw e
cases_head x (inr e) = rw e

module _ (f : Format) (ls : List Line) (none_past : first (row4 f ls) (length ls) ≡ length ls) where
  -- lines of one letter, whose limit is m
  one_kept : (x m : ℕ) → ((i : ℕ) → letter (nth_line ls i) ≡ x → row4 f ls i ≡ leb m (count_before x ls i))
      → (i : ℕ) → i ≤ length ls → count_before x ls i ≤ m
  unfolding select
  one_kept x m g zero h = omega arith
  one_kept x m g (suc i) h =
      rw (count_before_step ls i h x)
      (step_kept (count_before x ls i) m (is x (nth_line ls i)) (row4 f ls i) (λ e. g i (eqb-true (letter (nth_line ls i)) x e)) (none_first (row4 f ls) (length ls) none_past i h) (one_kept x m g i (omega arith)))

  pub names_kept : (i : ℕ) → i ≤ length ls → count_before name_line ls i ≤ f.names
  unfolding row4
  names_kept = one_kept name_line f.names (λ i e. rw e)

  pub args_kept : (i : ℕ) → i ≤ length ls → count_before arg_line ls i ≤ f.args
  unfolding row4
  args_kept = one_kept arg_line f.args (λ i e. rw e)

  pub types_kept : (i : ℕ) → i ≤ length ls → count_before type_line ls i ≤ f.types
  unfolding row4
  types_kept = one_kept type_line f.types (λ i e. rw e)

  pub ctors_kept : (i : ℕ) → i ≤ length ls → count_before ctor_line ls i ≤ f.ctors
  unfolding row4
  ctors_kept = one_kept ctor_line f.ctors (λ i e. rw e)

  pub fields_kept : (i : ℕ) → i ≤ length ls → count_before field_line ls i ≤ f.fields
  unfolding row4
  fields_kept = one_kept field_line f.fields (λ i e. rw e)

  head_limit : (i : ℕ) → (letter (nth_line ls i) ≡ 68) ⊎ (letter (nth_line ls i) ≡ 73) → row4 f ls i ≡ leb f.decls (heads_before ls i)
  unfolding row4
  head_limit i (inl e) = rw e
  head_limit i (inr e) = rw e

  pub decls_kept : (i : ℕ) → i ≤ length ls → heads_before ls i ≤ f.decls
  unfolding select
  decls_kept zero h = omega arith
  decls_kept (suc i) h =
      rw (heads_before_step ls i h)
      (step_kept (heads_before ls i) f.decls (is_head (nth_line ls i)) (row4 f ls i) (λ e. head_limit i (head_cases (letter (nth_line ls i)) e)) (none_first (row4 f ls) (length ls) none_past i h) (decls_kept i (omega arith)))

  -- what the sheet declares
  pub counts_kept : Kept f (counts_of ls)
  unfolding counts_of
  counts_kept =
      let w : take (length ls) ls ≡ ls = take-length ls in
      let r : length ls ≤ length ls = omega arith in
      record {
        names = rw w at (names_kept (length ls) r);
        args = rw w at (args_kept (length ls) r);
        types = rw w at (types_kept (length ls) r);
        decls = rw w at (decls_kept (length ls) r);
        ctors = rw w at (ctors_kept (length ls) r);
        fields = rw w at (fields_kept (length ls) r);
      }

-- ---- wider limits
leb_wider : (m n k : ℕ) → m ≤ n → leb m k ≡ false → leb n k ≡ false
leb_wider m n k h e = go (leb n k) refl
  where
    go : (c : Bool) → leb n k ≡ c → c ≡ false
    go true q = absurd (omega (arith, leb-false m k e, leb-true n k q))
    go false q = refl

-- a line that is not past narrow limits is not past wide ones
past_wider : (f g : Format) → Wider f g → (t : Tally) (x : ℕ) → Kind x → past f t x ≡ false → past g t x ≡ false
unfolding past
past_wider f g w t x (a_name k) e = rw k (leb_wider f.names g.names t.names w.names (rw k at e))
past_wider f g w t x (an_arg k) e = rw k (leb_wider f.args g.args t.args w.args (rw k at e))
past_wider f g w t x (a_type k) e = rw k (leb_wider f.types g.types t.types w.types (rw k at e))
past_wider f g w t x (a_local k) e = rw k (leb_wider f.decls g.decls t.decls w.decls (rw k at e))
past_wider f g w t x (an_import k) e = rw k (leb_wider f.decls g.decls t.decls w.decls (rw k at e))
past_wider f g w t x (a_param k) e = rw k (leb_wider f.params g.params t.params w.params (rw k at e))
past_wider f g w t x (a_ctor k) e = rw k (leb_wider f.ctors g.ctors t.ctors w.ctors (rw k at e))
past_wider f g w t x (a_field k) e = rw k (leb_wider f.fields g.fields t.fields w.fields (rw k at e))
past_wider f g w t x (another n a y d i p c z) e = rw (n, a, y, d, i, p, c, z)

pub row4_wider : (f g : Format) → Wider f g → (ls : List Line) → first (row4 f ls) (length ls) ≡ length ls → first (row4 g ls) (length ls) ≡ length ls
row4_wider f g w ls e =
    first_none (row4 g ls) (length ls)
    (λ i h.
    let x : ℕ = letter (nth_line ls i) in
    row4_past g ls i ∙ past_wider f g w (tally_before ls i) x (kind x) (sym (row4_past f ls i) ∙ none_first (row4 f ls) (length ls) e i h))

-- ---- where declarations begin
module _ (ls : List Line) where
  pub start_at : (i : ℕ) → i < length ls → is_head (nth_line ls i) ≡ true → start ls (heads_before ls i) ≡ i
  unfolding start
  start_at i h e =
      let n : heads_before ls (suc i) ≡ heads_before ls i + 1 = rw e at (heads_before_step ls i h) in
      first_found (λ j. ltb (heads_before ls i) (heads_before ls (suc j))) (length ls) i h
      (first_none (λ j. ltb (heads_before ls i) (heads_before ls (suc j))) i (λ j l. le-ltb (heads_before ls i) (heads_before ls (suc j)) (heads_before_mono ls (suc j) i l (omega arith))))
      (lt-ltb (heads_before ls i) (heads_before ls (suc i)) (omega arith))

  pub start_past : (k : ℕ) → heads_before ls (length ls) ≤ k → start ls k ≡ length ls
  unfolding start
  start_past k h =
      first_none (λ j. ltb k (heads_before ls (suc j))) (length ls)
      (λ j l. le-ltb k (heads_before ls (suc j)) (omega (arith, heads_before_mono ls (suc j) (length ls) l (omega arith))))

  -- up to the start of declaration k, and no further back, there are more than k D and I lines
  start_place : (k : ℕ) → Place (λ i. ltb k (heads_before ls (suc i))) (length ls) (start ls k)
  unfolding start
  start_place k = first_place (λ i. ltb k (heads_before ls (suc i))) (length ls)

  pub start_within : (k : ℕ) → k < heads_before ls (length ls) → start ls k < length ls
  unfolding start select
  start_within k h = go (length ls) refl h
    where
      go : (n : ℕ) → length ls ≡ n → k < heads_before ls n → start ls k < length ls
      go zero e m = absurd (omega arith)
      go (suc n) e m =
          let l : n < length ls = omega arith in
          omega (arith, first_le_at (λ i. ltb k (heads_before ls (suc i))) (length ls) n l (lt-ltb k (heads_before ls (suc n)) m))

  start_least : (k f : ℕ) → f ≡ start ls k → heads_before ls f ≤ k
  unfolding select
  start_least k zero e = omega arith
  start_least k (suc f) e = ltb-false k (heads_before ls (suc f)) ((start_place k).before f (omega arith))

  start_split : (k : ℕ) → k < heads_before ls (length ls) → (is_head (nth_line ls (start ls k)) ≡ true) × (heads_before ls (start ls k) ≡ k)
  start_split k h = go (is_head (nth_line ls (start ls k))) refl
    where
      l : start ls k < length ls
      l = start_within k h

      go : (c : Bool) → is_head (nth_line ls (start ls k)) ≡ c → (is_head (nth_line ls (start ls k)) ≡ true) × (heads_before ls (start ls k) ≡ k)
      go true e =
          (e, omega (arith, start_least k (start ls k) refl, rw e at (heads_before_step ls (start ls k) l), ltb-true k (heads_before ls (suc (start ls k))) ((start_place k).holds l)))
      go false e =
          absurd (omega (arith, start_least k (start ls k) refl, rw e at (heads_before_step ls (start ls k) l), ltb-true k (heads_before ls (suc (start ls k))) ((start_place k).holds l)))

  -- declaration k begins at a D or I line, before which there are k
  pub start_head : (k : ℕ) → k < heads_before ls (length ls) → is_head (nth_line ls (start ls k)) ≡ true
  start_head k h = (start_split k h).0

  pub start_counts : (k : ℕ) → k < heads_before ls (length ls) → heads_before ls (start ls k) ≡ k
  start_counts k h = (start_split k h).1

  -- and before the next one
  pub start_rises : (k : ℕ) → k < heads_before ls (length ls) → start ls k < start ls (suc k)
  start_rises k h = go (ltb (suc k) (heads_before ls (length ls))) refl (leb (start ls (suc k)) (start ls k)) refl
    where
      l : start ls k < length ls
      l = start_within k h

      go : (c : Bool) → ltb (suc k) (heads_before ls (length ls)) ≡ c → (d : Bool) → leb (start ls (suc k)) (start ls k) ≡ d → start ls k < start ls (suc k)
      go true e true q =
          absurd (omega (arith, start_counts k h, start_counts (suc k) (ltb-true (suc k) (heads_before ls (length ls)) e), heads_before_mono ls (start ls (suc k)) (start ls k) (leb-true (start ls (suc k)) (start ls k) q) (omega (arith, l))))
      go true e false q = leb-false (start ls (suc k)) (start ls k) q
      go false e d q = omega (arith, l, start_past (suc k) (ltb-false (suc k) (heads_before ls (length ls)) e))

-- ---- lengths
pub short_bytes : (b : List ℕ) → row1 base b ≡ false → length b ≤ 65536
unfolding row1
short_bytes b e = go (ltb 65536 (length b)) refl e
  where
    go : (c : Bool) → ltb 65536 (length b) ≡ c → (c || not (eqb (length b % 32) 0)) ≡ false → length b ≤ 65536
    go true q k = let z : ◌≡◌ {A = ℕ} 0 1 = cc in absurd (omega arith)
    go false q k = ltb-false 65536 (length b) q

-- ---- for a loop over lines, with the tally t before line i and the letter x of that line
module _ (ls : List Line) (t : Tally) (x i : ℕ) (e : x ≡ letter (nth_line ls i)) (q : t ≡ tally_before ls i) where
  pub tally_next : i < length ls → counted t x ≡ tally_before ls (suc i)
  tally_next h = rw (q, e, tally_suc ls i h)

  pub row4_next : (f : Format) → row4 f ls i ≡ past f t x
  row4_next f = rw (q, e, row4_past f ls i)

  pub small_next : i < length ls → i < 1152921504606846976 → Small t
  small_next h l = rw q (tally_small ls i (omega arith) l)

-- what the tally after the last line says
pub counts_whole : (ls : List Line) → (let t : Tally = tally_before ls (length ls) in
    record { names = t.names; args = t.args; types = t.types; decls = t.decls; ctors = t.ctors; fields = t.fields }) ≡ counts_of ls
unfolding tally_before counts_of
counts_whole ls = rw (take-length ls)
