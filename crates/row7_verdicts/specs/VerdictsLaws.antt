-- Row 7 line by line: what is kept of the lines before a line, and the row's test by it. Assumes nothing.
use Rattle.std.specs.Prelude.{◌≡◌, List, [], ◌∷◌, ◌++◌, ◌⊎◌, Bool, ◌&&◌, ◌||◌, ℕ, zero, suc, ◌+◌, ◌≤◌, ◌<◌, leb, take, length}
use Rattle.std.proofs.Math.Path.{refl}
use Rattle.std.proofs.Common.{sym, ap, ap₂, ◌∙◌, inl, inr, ⊎_elim, arith, take-suc}
use Rattle.std.proofs.Math.Bool.{true, false, not}
use Rattle.std.proofs.Math.Numerals.{add-one}
use Rattle.std.specs.Int.Bits.{bit_and, and_zero_l, and_self}
use Rattle.std.proofs.lemmas.Nat.{and_le_r}
use Rattle.std.proofs.Math.Dec.{eqb}
use Rattle.std.proofs.Math.ListN.{get_or-eq_default}
use borrow.Author.Tests.{eq-eqb, ne_eqb, eqb-true, eqb-false, leb-true, leb-false}
use Rattle.number_columns.specs.Column.{pick, ◌⇒◌∥◌}
use Rattle.sheet.specs.Line.{Line, bad, letter, number}
use Rattle.sheet.specs.Sheet.{first}
use Rattle.sheet.proofs.FirstLaws.{first_none}
use Rattle.meaning.specs.Program.{name_line, arg_line, type_line, local_line, import_line, ctor_line, field_line, verdict_line, is, is_head}
use Rattle.meaning.specs.Rows.{last_head, kept_after, ctors_after, tag_in, good_verdicts, row7, nth_line}
use Rattle.rows_header.specs.Header.{Headed, Lettered}
use Rattle.rows_header.specs.OrderLaws.{from_le, before_from}
use Rattle.row7_verdicts.specs.declared.Decl.{Decl}
use Rattle.row7_verdicts.specs.Verdicts.{good_with, good_line, Third, kept_at, tag_at, decl_at, most_keep, tag_step, declared_verdict}
use Rattle.meaning_laws.specs.Rows.{last_head_append, kept_after_append, ctors_after_append}
use Rattle.row7_verdicts.specs.VerdictLines.{no_verdict}

-- ---- one line more
last_head_snoc : (h : Line) (ls : List Line) (l : Line) → last_head h (ls ++ (l ∷ [])) ≡ pick (is_head l) l (last_head h ls)
unfolding last_head
last_head_snoc h ls l = last_head_append h ls (l ∷ [])

kept_after_snoc : (n : ℕ) (ls : List Line) (l : Line) → kept_after n (ls ++ (l ∷ [])) ≡ kept_at (kept_after n ls) l
unfolding kept_after
kept_after_snoc n ls l = kept_after_append n ls (l ∷ [])

-- the C lines, one line more
ctors_at : ℕ → Line → ℕ
ctors_at n l = pick (is_head l) 0 (pick (is ctor_line l) (suc n) n)

ctors_after_snoc : (n : ℕ) (ls : List Line) (l : Line) → ctors_after n (ls ++ (l ∷ [])) ≡ ctors_at (ctors_after n ls) l
unfolding ctors_after ctors_at
ctors_after_snoc n ls l = ctors_after_append n ls (l ∷ [])

-- tag numbers go by the C lines: the first one, and one more
tags : (h : Line) (n : ℕ) → (tag_step h ≡ tag_in h 0) × (tag_in h n + tag_step h ≡ tag_in h (suc n))
tags h n = go (is import_line h) refl (eqb (number h 4) 1) refl
  where
    go : (a : Bool) → is import_line h ≡ a → (b : Bool) → eqb (number h 4) 1 ≡ b → (tag_step h ≡ tag_in h 0) × (tag_in h n + tag_step h ≡ tag_in h (suc n))
    go true e true f = rw (e, f) (refl, refl)
    go true e false f = rw (e, f) (refl, omega arith)
    go false e b f = rw e (refl, refl)

tag_snoc : (h l : Line) (n : ℕ) → tag_at (tag_in h n) (tag_step h) l ≡ tag_in (pick (is_head l) l h) (ctors_at n l)
unfolding ctors_at
tag_snoc h l n = go (is_head l) (is ctor_line l)
  where
    go : (a b : Bool) → pick a (tag_step l) (pick b (tag_in h n + tag_step h) (tag_in h n)) ≡ tag_in (pick a l h) (pick a 0 (pick b (suc n) n))
    go true b = (tags l n).0
    go false true = (tags h n).1
    go false false = refl

pub kept_at_le : (n : ℕ) (l : Line) → kept_at n l ≤ suc n
kept_at_le n l = go (is_head l) (is field_line l && not (eqb (number l 2) 0))
  where
    go : (a b : Bool) → pick a 0 (pick b (suc n) n) ≤ suc n
    go true b = omega arith
    go false true = omega arith
    go false false = omega arith

-- ---- a list of lines
-- before the first line
pub head_none : (ls : List Line) → last_head bad (take 0 ls) ≡ nth_line ls (length ls)
unfolding last_head
head_none ls = sym (get_or-eq_default ls bad (omega arith))

pub kept_none : (ls : List Line) → 0 ≡ kept_after 0 (take 0 ls)
unfolding kept_after
kept_none ls = refl

module _ (ls : List Line) (i : ℕ) (q : i < length ls) where
  take_line : take (i + 1) ls ≡ take i ls ++ (nth_line ls i ∷ [])
  take_line = rw add-one (take-suc ls i bad q)

  line_pick : (h : ℕ) (a : Bool) → pick a (nth_line ls i) (nth_line ls h) ≡ nth_line ls (pick a i h)
  line_pick h true = refl
  line_pick h false = refl

  -- the declaration's first line
  pub head_more : (h r : ℕ) → last_head bad (take i ls) ≡ nth_line ls h → r ≡ pick (is_head (nth_line ls i)) i h → last_head bad (take (i + 1) ls) ≡ nth_line ls r
  head_more h r e f =
      ap (last_head bad) take_line ∙ last_head_snoc bad (take i ls) (nth_line ls i) ∙ rw (e, f) (line_pick h (is_head (nth_line ls i)))

  -- the kept fields
  pub kept_more : (n r : ℕ) → n ≡ kept_after 0 (take i ls) → r ≡ kept_at n (nth_line ls i) → r ≡ kept_after 0 (take (i + 1) ls)
  kept_more n r e f = f ∙ sym (ap (kept_after 0) take_line ∙ kept_after_snoc 0 (take i ls) (nth_line ls i) ∙ rw (← e))

  -- the next tag number
  tag_more : (h n m : ℕ) → n ≡ tag_in (nth_line ls h) (ctors_after 0 (take i ls)) → m ≡ tag_step (nth_line ls h)
      → tag_at n m (nth_line ls i) ≡ tag_in (nth_line ls (pick (is_head (nth_line ls i)) i h)) (ctors_after 0 (take (i + 1) ls))
  tag_more h n m e f =
      ap₂ (λ (x y : ℕ). tag_at x y (nth_line ls i)) e f
      ∙ tag_snoc (nth_line ls h) (nth_line ls i) (ctors_after 0 (take i ls))
      ∙ ap₂ tag_in (line_pick h (is_head (nth_line ls i))) (sym (ap (ctors_after 0) take_line ∙ ctors_after_snoc 0 (take i ls) (nth_line ls i)))

  -- row 7's test
  pub row7_line : (h n : ℕ) → last_head bad (take (i + 1) ls) ≡ nth_line ls h → n ≡ kept_after 0 (take i ls)
      → row7 ls i ≡ not (good_line (nth_line ls h) n (ctors_after 0 (take i ls)) (nth_line ls i))
  unfolding row7 good_verdicts
  row7_line h n e f =
      let g : last_head bad (take (suc i) ls) ≡ nth_line ls h = rw (← add-one i) e in
      rw (g, f)
      (ap not (go (is ctor_line (nth_line ls i)) (is field_line (nth_line ls i)) (is verdict_line (nth_line ls i)) (is import_line (nth_line ls h)) _ _ _ _))
    where
      go : (c a v m w x y z : Bool) → (c ⇒ w ∥ a ⇒ x ∥ v && m ⇒ y ∥ v ⇒ z ∥ true) ≡ (c ⇒ w ∥ a ⇒ x ∥ v ⇒ pick m y z ∥ true)
      go true a v m w x y z = refl
      go false true v m w x y z = refl
      go false false true true w x y z = refl
      go false false true false w x y z = refl
      go false false false m w x y z = refl

-- ---- before the first declaration
-- the declaration that a D line n begins; with n past the last line, what stands for none
abbrev pub begun : ℕ → Decl
begun n = record { head = n; most = 0; kept = 0; tag = 0; step = 0 }

module _ (ls : List Line) (h : ℕ) (past : length ls ≤ h) where
  most_none : most_keep (nth_line ls h) ≡ 0
  most_none = rw (get_or-eq_default ls bad past)

  tag_none : (n : ℕ) → tag_in (nth_line ls h) n ≡ 0
  tag_none n = rw (get_or-eq_default ls bad past)

  step_none : tag_step (nth_line ls h) ≡ 0
  step_none = rw (get_or-eq_default ls bad past)

  pub declared_none : (n : ℕ) (v : Line) → declared_verdict (nth_line ls h) n v ≡ no_verdict v
  declared_none n v = rw (get_or-eq_default ls bad past)

-- ---- the declaration that a line is in
-- d is the declaration that line i - 1 is in
pub record In (ls : List Line) (i : ℕ) (d : Decl) : Type 0 where
  pub kept_le : d.kept ≤ i
  pub head_is : last_head bad (take i ls) ≡ nth_line ls d.head
  pub kept_is : d.kept ≡ kept_after 0 (take i ls)
  pub most_is : d.most ≡ most_keep (nth_line ls d.head)
  pub tag_is : d.tag ≡ tag_in (nth_line ls d.head) (ctors_after 0 (take i ls))
  pub step_is : d.step ≡ tag_step (nth_line ls d.head)

-- a line that begins a declaration passes
head_good : (k m : ℕ) (h : Line) (n : ℕ) (l : Line) → is_head l ≡ true → good_with k m h n l ≡ true
head_good k m h n l e = go (is local_line l) refl e
  where
    go : (b : Bool) → is local_line l ≡ b → (b || is import_line l) ≡ true → good_with k m h n l ≡ true
    go true y z = rw (eqb-true (letter l) local_line y)
    go false y z = rw (eqb-true (letter l) import_line z)

module _ (ls : List Line) (i : ℕ) (q : i < length ls) (d : Decl) (s : In ls i d) where
  pub in_next : (e : Decl) → e ≡ decl_at d i (nth_line ls i) → In ls (i + 1) e
  in_next e f =
      rw f
      (record {
        kept_le = omega (arith, kept_at_le d.kept (nth_line ls i), s.kept_le);
        head_is = head_more ls i q d.head _ s.head_is refl;
        kept_is = kept_more ls i q d.kept _ s.kept_is refl;
        most_is = of_head most_keep d.most s.most_is (is_head (nth_line ls i));
        tag_is = tag_more ls i q d.head d.tag d.step s.tag_is s.step_is;
        step_is = of_head tag_step d.step s.step_is (is_head (nth_line ls i));
      })
    where
      of_head : (f : Line → ℕ) (n : ℕ) → n ≡ f (nth_line ls d.head) → (b : Bool) → pick b (f (nth_line ls i)) n ≡ f (nth_line ls (pick b i d.head))
      of_head f n e true = refl
      of_head f n e false = e

  pub in_test : row7 ls i ≡ not (good_with d.tag d.most (nth_line ls d.head) d.kept (nth_line ls i))
  in_test = row7_line ls i q (decl_at d i (nth_line ls i)).head d.kept (head_more ls i q d.head _ s.head_is refl) s.kept_is ∙ ap not (go (is_head (nth_line ls i)) refl)
    where
      go : (b : Bool) → is_head (nth_line ls i) ≡ b
          → good_line (nth_line ls (pick b i d.head)) d.kept (ctors_after 0 (take i ls)) (nth_line ls i) ≡ good_with d.tag d.most (nth_line ls d.head) d.kept (nth_line ls i)
      go true e = head_good _ _ (nth_line ls i) d.kept (nth_line ls i) e ∙ sym (head_good d.tag d.most (nth_line ls d.head) d.kept (nth_line ls i) e)
      go false e = rw (s.tag_is, s.most_is)

  pub in_most : d.most ≤ 1
  in_most = rw s.most_is (go (is import_line (nth_line ls d.head)))
    where
      go : (b : Bool) → pick b 1 0 ≤ 1
      go true = omega arith
      go false = omega arith

  pub in_step : d.step ≤ 1
  in_step = rw s.step_is (go (is import_line (nth_line ls d.head)) (eqb (number (nth_line ls d.head) 4) 1))
    where
      go : (a b : Bool) → pick a (pick b 0 1) 0 ≤ 1
      go true true = omega arith
      go true false = omega arith
      go false b = omega arith

  -- the third number of a line that is as it should be
  pub in_third : good_with d.tag d.most (nth_line ls d.head) d.kept (nth_line ls i) ≡ true → Third d.tag (nth_line ls i)
  in_third g =
      record {
        tagged = λ e. let k : eqb (number (nth_line ls i) 2) d.tag ≡ true = rw e at g in eqb-true (number (nth_line ls i) 2) d.tag k;
        bit = λ e.
            let y : letter (nth_line ls i) ≡ field_line = eqb-true (letter (nth_line ls i)) field_line e in
            let k : leb (number (nth_line ls i) 2) d.most ≡ true = rw y at g in
            omega (arith, leb-true (number (nth_line ls i) 2) d.most k, in_most);
      }

-- a line of the header is in no declaration, and passes
header_decl : (d : Decl) (i : ℕ) (l : Line) → (letter l ≡ name_line) ⊎ ((letter l ≡ arg_line) ⊎ (letter l ≡ type_line)) → d ≡ decl_at d i l
header_decl d i l (inl e) = rw e
header_decl d i l (inr (inl e)) = rw e
header_decl d i l (inr (inr e)) = rw e

header_good : (k m : ℕ) (h : Line) (n : ℕ) (l : Line) → (letter l ≡ name_line) ⊎ ((letter l ≡ arg_line) ⊎ (letter l ≡ type_line)) → good_with k m h n l ≡ true
header_good k m h n l (inl e) = rw e
header_good k m h n l (inr (inl e)) = rw e
header_good k m h n l (inr (inr e)) = rw e

module _ (ls : List Line) (from : ℕ) (h : Headed ls from) (n : ℕ) (e : n ≡ length ls) where
  pub in_header : (i : ℕ) → i ≤ from → In ls i (begun n)
  in_header zero k =
      let past : length ls ≤ n = omega arith in
      record {
        kept_le = omega arith;
        head_is = rw e (head_none ls);
        kept_is = kept_none ls;
        most_is = sym (most_none ls n past);
        tag_is = sym (tag_none ls n past _);
        step_is = sym (step_none ls n past);
      }
  in_header (suc i) k =
      let q : i < length ls = omega (arith, from_le ls from h) in
      rw (← (add-one i)) (in_next ls i q (begun n) (in_header i (omega arith)) (begun n) (header_decl (begun n) i (nth_line ls i) (before_from ls from h i k)))

  pub header_passes : first (row7 ls) from ≡ from
  header_passes = first_none (row7 ls) from (λ i k.
      let q : i < length ls = omega (arith, from_le ls from h) in
      in_test ls i q (begun n) (in_header i (omega arith)) ∙ ap not (header_good 0 0 (nth_line ls n) 0 (nth_line ls i) (before_from ls from h i k)))

-- ---- one line, by its letter
pub pick_le : (b : Bool) (k : ℕ) → pick b k 0 ≤ k
pick_le true k = omega arith
pick_le false k = omega arith

-- at most m, where that is a bit
bit_leb : (k m : ℕ) → m ≤ 1 → eqb k (bit_and k m) ≡ leb k m
bit_leb k m u = go (leb k m) refl
  where
    same : (k : ℕ) → k ≤ m → k ≡ bit_and k m
    same zero h = sym (and_zero_l m)
    same (suc k) h = let q : m ≡ suc k = omega arith in rw q (sym (and_self (suc k)))

    go : (c : Bool) → leb k m ≡ c → eqb k (bit_and k m) ≡ c
    go true r = eq-eqb k (bit_and k m) (same k (leb-true k m r))
    go false r = ne_eqb k (bit_and k m) (λ q. omega (arith, leb-false k m r, and_le_r k m))

module _ (d : Decl) (l : Line) (x : ℕ) (e : x ≡ letter l) where
  -- a C or F line
  pub told : Lettered l → x ≤ 70 → (x ≡ 68 → ⊥) → (x ≡ 67) ⊎ (x ≡ 70)
  told o a b = ⊎_elim (λ q. inl (e ∙ q)) (λ q. inr (e ∙ q)) (o.member (omega arith) (λ q. b (e ∙ q)))

  pub good_member : (x ≡ 67) ⊎ (x ≡ 70) → (h : Line) → d.most ≤ 1 → (k : ℕ) → k ≡ number l 2
      → eqb k (pick (eqb x 70) (bit_and k d.most) d.tag) ≡ good_with d.tag d.most h d.kept l
  good_member (inl y) h m k n = rw (← e, y, n)
  good_member (inr y) h m k n = rw (← e, y, ← n) (bit_leb k d.most m)

  pub decl_local : (i : ℕ) → x ≡ 68 → begun i ≡ decl_at d i l
  decl_local i y = rw (← e, y)

  pub decl_import : (i : ℕ) → x ≡ 73 → (s : ℕ) → s ≡ pick (eqb (number l 4) 1) 0 1 → record { head = i; most = 1; kept = 0; tag = s; step = s } ≡ decl_at d i l
  decl_import i y s z = rw (← e, y, z)

  pub decl_later : (i : ℕ) → 70 < x → (x ≡ 73 → ⊥) → d ≡ decl_at d i l
  decl_later i h f = rw (← e, ne_eqb x 67 (λ y. omega arith), ne_eqb x 68 (λ y. omega arith), ne_eqb x 73 f, ne_eqb x 70 (λ y. omega arith))

  -- with the kept fields and the next tag number anew
  with : ℕ → ℕ → Decl
  with n g = record { head = d.head; most = d.most; kept = n; tag = g; step = d.step }

  pub decl_member : (i : ℕ) → (x ≡ 67) ⊎ (x ≡ 70) → Third d.tag l → (k : ℕ) → k ≡ number l 2
      → record { head = d.head; most = d.most; kept = d.kept + pick (eqb x 70) k 0; tag = pick (eqb x 70) d.tag (k + d.step); step = d.step } ≡ decl_at d i l
  unfolding with
  decl_member i (inl y) b k m = rw (← e, y) (ap₂ with (omega arith) (ap (λ (n : ℕ). n + d.step) (m ∙ b.tagged (rw (← e, y)))))
  decl_member i (inr y) b k m = rw (← e, y) (ap (λ (n : ℕ). with n d.tag) (go (eqb k 0) refl))
    where
      go : (z : Bool) → eqb k 0 ≡ z → d.kept + k ≡ pick (not (eqb (number l 2) 0)) (suc d.kept) d.kept
      go true r = rw (← m, r) (omega (arith, eqb-true k 0 r))
      go false r = rw (← m, r) (omega (arith, eqb-false k 0 r, b.bit (rw (← e, y))))
