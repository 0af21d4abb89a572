-- What row 3 says of the lines before the declarations: all N lines, then all A lines, then all Y lines. So a line's
-- number among those of its letter, and the place of an A line, follow from the counts of lines. Assumes nothing.
use Rattle.std.specs.Prelude.{◌≡◌, ◌⊎◌, Bool, true, false, ◌&&◌, ◌||◌, eqb, leb, ltb, length, take}
use Rattle.std.proofs.Math.Path.{refl, ap}
use Rattle.std.proofs.Common.{sym, ◌∙◌, subst, inl, inr, arith, take_all}
use mathlib.Core.List.{List, [], ◌∷◌, map}
use Prim.Native.Nat.{ℕ, zero, suc, ◌+◌, ◌≤◌, ◌<◌, min}
use Rattle.std.proofs.Math.ListN.{get_or}
use borrow.Author.Tests.{eqb-true, eqb-false, leb-true, lt-ltb, le-ltb, ltb-true, ltb-false}
use Rattle.number_columns.specs.Column.{pick, ◌⇒◌∥◌}
use Rattle.sheet.specs.Line.{Line, bad, letter, number}
use Rattle.sheet.specs.Sheet.{first, count, line, lines_from, lines, row2}
use Rattle.sheet.proofs.FirstLaws.{none_first}
use Rattle.sheet.proofs.ListLaws.{false_true}
use Rattle.meaning.specs.declared.Due.{Due}
use Rattle.meaning.specs.declared.Due.TheVariants.{Header, Within, Broken}
use Rattle.model.specs.Decl.{table}
use Rattle.meaning.specs.Program.{name_line, arg_line, type_line, param_line, field_line, ctor_line, verdict_line, is, select}
use Rattle.meaning.specs.Rows.{count_of, count_before, raw, raws, announced, due_header, due, due_after, is_broken, row3}
use Rattle.sheet.proofs.SheetLaws.{letter_good, length_lines, get_or_lines}
use Rattle.model_laws.specs.Lists.{length_table}
use Rattle.rows_header.specs.Header.{header, Headed}

-- ---- order
-- a letter's place in a sheet: N, A, Y, and then declarations
abbrev pub rank : ℕ → ℕ
rank x = eqb x name_line ⇒ 0 ∥ eqb x arg_line ⇒ 1 ∥ eqb x type_line ⇒ 2 ∥ 3

-- no letter is of a place before p, or before that of an earlier letter
abbrev pub Ordered : ℕ → List ℕ → Type 0
Ordered p [] = Unit {0}
Ordered p (x ∷ xs) = (p ≤ rank x) × Ordered (rank x) xs

pub ordered_weak : (q p : ℕ) (xs : List ℕ) → q ≤ p → Ordered p xs → Ordered q xs
ordered_weak q p [] h o = tt
ordered_weak q p (x ∷ xs) h o = (omega (arith, o.0), o.1)

-- ---- row 3
-- the least place of what may come next
least : Due → ℕ
least (Header place) = min place 3
least (Within p f c) = 3
least Broken = 3

pub broken_stays : (ls : List Line) → is_broken (due_after Broken ls) ≡ true
unfolding due_after due
broken_stays [] = refl
broken_stays (l ∷ ls) = broken_stays ls

-- From place p a letter x leads to q: unless that is broken, no place is gone back to.
Kept : ℕ → ℕ → Due → Type 0
Kept p x q = is_broken q ≡ false → (p ≤ rank x) × (rank x ≤ least q)

picked_kept : (p x y : ℕ) (q : Due) (b : Bool) → (b ≡ true → x ≡ y) → p ≤ rank y → rank y ≤ least q → Kept p x (pick b q Broken)
unfolding Kept
picked_kept p x y q true e h k = λ _. rw (e refl) (h, k)
picked_kept p x y q false e h k = λ z. false_true (sym z)

announced_least : (kind params last : ℕ) → least (announced kind params last) ≡ 3
unfolding announced least
announced_least kind params last = go (leb kind 1) (eqb kind 2) (eqb kind 3)
  where
    go : (a b c : Bool) → least (a ⇒ Within params 0 0 ∥ b ⇒ Within params last 0 ∥ c ⇒ Within params 0 last ∥ Broken) ≡ 3
    go true b c = refl
    go false true c = refl
    go false false true = refl
    go false false false = refl

-- in the header, where a is due after a line that begins a declaration
abbrev InHeader : ℕ → Due → ℕ → Type 0
InHeader p a x = Kept (min p 3) x (eqb x 78 && leb p 0 ⇒ Header 0 ∥ eqb x 65 && leb p 1 ⇒ Header 1 ∥ eqb x 89 && leb p 2 ⇒ Header 2 ∥ eqb x 68 || eqb x 73 ⇒ a ∥ Broken)

header_kept : (p x : ℕ) (a : Due) → least a ≡ 3 → InHeader p a x
unfolding Kept least
header_kept p x a h = named (eqb x 78) refl
  where
    within : (n y : ℕ) → n ≤ 3 → rank y ≡ n → (b : Bool) → leb p n ≡ b → Kept (min p 3) y (pick b (Header n) Broken)
    within n y l r true e = λ _. (omega (arith, leb-true p n e), omega arith)
    within n y l r false e = λ z. false_true (sym z)

    decl : (b : Bool) → is_broken (pick b a Broken) ≡ false → (min p 3 ≤ 3) × (3 ≤ least (pick b a Broken))
    decl true = λ _. (omega arith, omega arith)
    decl false = λ z. false_true (sym z)

    typed : eqb x 78 ≡ false → eqb x 65 ≡ false → (b : Bool) → eqb x 89 ≡ b → InHeader p a x
    typed e f true g = subst (InHeader p a) (sym (eqb-true x 89 g)) (within 2 89 (omega arith) refl (leb p 2) refl)
    typed e f false g = rw (e, f, g) (decl (eqb x 68 || eqb x 73))

    arg : eqb x 78 ≡ false → (b : Bool) → eqb x 65 ≡ b → InHeader p a x
    arg e true f = subst (InHeader p a) (sym (eqb-true x 65 f)) (within 1 65 (omega arith) refl (leb p 1) refl)
    arg e false f = typed e f (eqb x 89) refl

    named : (b : Bool) → eqb x 78 ≡ b → InHeader p a x
    named true e = subst (InHeader p a) (sym (eqb-true x 78 e)) (within 0 78 (omega arith) refl (leb p 0) refl)
    named false e = arg e (eqb x 65) refl

due_kept : (q : Due) (l : Line) → Kept (least q) (letter l) (due q l)
unfolding due due_header least Kept
due_kept (Header p) l = header_kept p (letter l) (announced (number l 2) (number l 3) (number l 4)) (announced_least (number l 2) (number l 3) (number l 4))
due_kept (Within (suc p) f c) l = picked_kept 3 (letter l) 80 (Within p f c) (is param_line l) (eqb-true (letter l) 80) (omega arith) (omega arith)
due_kept (Within zero (suc f) c) l = picked_kept 3 (letter l) 70 (Within zero f c) (is field_line l) (eqb-true (letter l) 70) (omega arith) (omega arith)
due_kept (Within zero zero (suc c)) l = picked_kept 3 (letter l) 67 (Within zero (number l 1) c) (is ctor_line l) (eqb-true (letter l) 67) (omega arith) (omega arith)
due_kept (Within zero zero zero) l = picked_kept 3 (letter l) 86 (Header 3) (is verdict_line l) (eqb-true (letter l) 86) (omega arith) (omega arith)
due_kept Broken l = λ z. false_true (sym z)

ordered_due : (q : Due) (ls : List Line) → is_broken (due_after q ls) ≡ false → Ordered (least q) (map letter ls)
unfolding due_after Kept
ordered_due q [] e = tt
ordered_due q (l ∷ ls) e = go (due q l) (due_kept q l) e (ordered_due (due q l) ls)
  where
    go : (r : Due) → Kept (least q) (letter l) r → is_broken (due_after r ls) ≡ false → (is_broken (due_after r ls) ≡ false → Ordered (least r) (map letter ls)) → Ordered (least q) (letter l ∷ map letter ls)
    go (Header p) k e r = let h = k refl in (h.0, ordered_weak (rank (letter l)) (least (Header p)) (map letter ls) h.1 (r e))
    go (Within p f c) k e r = let h = k refl in (h.0, ordered_weak (rank (letter l)) (least (Within p f c)) (map letter ls) h.1 (r e))
    go Broken k e r = false_true (sym e ∙ broken_stays ls)

-- the letters that row 3 reads are those of the lines, where no line is bad
letters_table : (w : ℕ) (b : List ℕ) (f : ℕ → Line) (i n : ℕ) → ((k : ℕ) → k < n → letter (f k) ≡ letter (line w b (i + k))) → map letter (table f n) ≡ map letter (lines_from w b i n)
unfolding table lines_from
letters_table w b f i zero h = refl
letters_table w b f i (suc n) h =
    let e : i + 0 ≡ i = omega arith in
    let z : letter (f 0) ≡ letter (line w b i) = rw e at (h 0 (omega arith)) in
    rw (z, letters_table w b (λ k. f (suc k)) (suc i) n (λ k l. let g : i + suc k ≡ suc i + k = omega arith in rw g at (h (suc k) (omega arith))))

pub letters_raws : (w : ℕ) (b : List ℕ) → row2 w b ≡ count w b → map letter (raws w b) ≡ map letter (lines w b)
unfolding raws lines raw
letters_raws w b good = letters_table w b (raw w b) 0 (count w b) (λ k l. let e : 0 + k ≡ k = omega arith in rw e (letter_good w b good k l))

-- a list of lines that row 3 passed
pub unbroken : (ls : List Line) (n : ℕ) → length ls ≡ n → first (row3 ls) (suc n) ≡ suc n → is_broken (due_after (Header 0) ls) ≡ false
unfolding row3 due_after
unbroken [] n l h = refl
unbroken (x ∷ ls) zero l h = absurd (omega arith)
unbroken (x ∷ ls) (suc n) l h =
    let e = none_first (row3 (x ∷ ls)) (suc (suc n)) h n (omega arith) in
    let a : ltb n (length (x ∷ ls)) ≡ true = lt-ltb n (length (x ∷ ls)) (omega arith) in
    let t : take (suc n) (x ∷ ls) ≡ x ∷ ls = take_all (suc n) (x ∷ ls) (omega arith) in
    let d : is_broken (due_after (Header 0) (take (suc n) (x ∷ ls))) ≡ false = rw (a, row3) at e in
    rw t at d

ordered_row3 : (ls : List Line) (n : ℕ) → length ls ≡ n → first (row3 ls) (suc n) ≡ suc n → Ordered 0 (map letter ls)
unfolding least
ordered_row3 ls n l h = ordered_due (Header 0) ls (unbroken ls n l h)

pub ordered_of : (ls : List Line) → first (row3 ls) (suc (length ls)) ≡ suc (length ls) → Ordered 0 (map letter ls)
ordered_of ls h = ordered_row3 ls (length ls) refl h

pub ordered_lines : (w : ℕ) (b : List ℕ) → row2 w b ≡ count w b → first (row3 (raws w b)) (suc (count w b)) ≡ suc (count w b) → Ordered 0 (map letter (lines w b))
unfolding raws
ordered_lines w b good h = rw (letters_raws w b good) at (ordered_row3 (raws w b) (count w b) (length_table (raw w b) (count w b)) h)

-- ---- the lines of a letter
-- how many lines are of a place before p
lower : ℕ → List Line → ℕ
lower p [] = 0
lower p (l ∷ ls) = let r : ℕ = lower p ls in pick (ltb (rank (letter l)) p) (suc r) r

lower_none : (q p : ℕ) (ls : List Line) → q ≤ p → Ordered p (map letter ls) → lower q ls ≡ 0
unfolding lower
lower_none q p [] h o = refl
lower_none q p (l ∷ ls) h o = rw (le-ltb (rank (letter l)) q (omega (arith, o.0))) (lower_none q (rank (letter l)) ls (omega (arith, o.0)) o.1)

-- no line is of a place before p
place_at : (p : ℕ) (ls : List Line) (i : ℕ) → Ordered p (map letter ls) → i < length ls → p ≤ rank (letter (get_or ls i bad))
place_at p [] i o h = absurd (omega arith)
place_at p (l ∷ ls) zero o h = o.0
place_at p (l ∷ ls) (suc i) o h = omega (arith, o.0, place_at (rank (letter l)) ls i o.1 (omega arith))

-- so of an earlier letter there is none
select_none : (x p : ℕ) (ls : List Line) → rank x < p → Ordered p (map letter ls) → select x ls ≡ []
unfolding select
select_none x p [] h o = refl
select_none x p (l ∷ ls) h o = go (is x l) refl (select_none x (rank (letter l)) ls (omega (arith, o.0)) o.1)
  where
    go : (b : Bool) → is x l ≡ b → select x ls ≡ [] → pick b (l ∷ select x ls) (select x ls) ≡ []
    go true e k = let r : rank (letter l) ≡ rank x = ap rank (eqb-true (letter l) x e) in absurd (omega (arith, o.0))
    go false e k = k

-- lines are in the order of their places
lower_below : (p q : ℕ) (ls : List Line) (i : ℕ) → Ordered p (map letter ls) → i < lower q ls → rank (letter (get_or ls i bad)) < q
unfolding lower
lower_below p q [] i o h = absurd (omega arith)
lower_below p q (l ∷ ls) i o h = go (ltb (rank (letter l)) q) refl i h (λ j k. lower_below (rank (letter l)) q ls j o.1 k)
  where
    go : (c : Bool) → ltb (rank (letter l)) q ≡ c → (i : ℕ) → i < pick c (suc (lower q ls)) (lower q ls) → ((j : ℕ) → j < lower q ls → rank (letter (get_or ls j bad)) < q) → rank (letter (get_or (l ∷ ls) i bad)) < q
    go true e zero k r = ltb-true (rank (letter l)) q e
    go true e (suc i) k r = r i (omega arith)
    go false e i k r = absurd (omega (arith, lower_none q (rank (letter l)) ls (ltb-false (rank (letter l)) q e) o.1))

lower_from : (p q : ℕ) (ls : List Line) (i : ℕ) → Ordered p (map letter ls) → lower q ls ≤ i → i < length ls → q ≤ rank (letter (get_or ls i bad))
unfolding lower
lower_from p q [] i o h k = absurd (omega arith)
lower_from p q (l ∷ ls) i o h k = go (ltb (rank (letter l)) q) refl i h k (λ j m n. lower_from (rank (letter l)) q ls j o.1 m n)
  where
    go : (c : Bool) → ltb (rank (letter l)) q ≡ c → (i : ℕ) → pick c (suc (lower q ls)) (lower q ls) ≤ i → i < suc (length ls)
        → ((j : ℕ) → lower q ls ≤ j → j < length ls → q ≤ rank (letter (get_or ls j bad))) → q ≤ rank (letter (get_or (l ∷ ls) i bad))
    go true e zero h k r = absurd (omega arith)
    go true e (suc i) h k r = r i (omega arith) (omega arith)
    go false e zero h k r = ltb-false (rank (letter l)) q e
    go false e (suc i) h k r = r i (omega (arith, lower_none q (rank (letter l)) ls (ltb-false (rank (letter l)) q e) o.1)) (omega arith)

-- A line is of a place before x, of the letter x, or of a later place, where x is the only letter of its place.
data Against (x : ℕ) (l : Line) : Type 0 where
  sooner : rank (letter l) < rank x → is x l ≡ false → Against x l
  same : is x l ≡ true → letter l ≡ x → Against x l
  later : rank x < rank (letter l) → is x l ≡ false → Against x l

module _ (x : ℕ) (only : (y : ℕ) → rank y ≡ rank x → y ≡ x) where
  against : (l : Line) → Against x l
  against l = go (is x l) refl (ltb (rank (letter l)) (rank x)) refl (ltb (rank x) (rank (letter l))) refl
    where
      go : (b : Bool) → is x l ≡ b → (s : Bool) → ltb (rank (letter l)) (rank x) ≡ s → (t : Bool) → ltb (rank x) (rank (letter l)) ≡ t → Against x l
      go true e s f t g = same e (eqb-true (letter l) x e)
      go false e true f t g = sooner (ltb-true (rank (letter l)) (rank x) f) e
      go false e false f true g = later (ltb-true (rank x) (rank (letter l)) g) e
      go false e false f false g =
          absurd (eqb-false (letter l) x e (only (letter l) (omega (arith, ltb-false (rank (letter l)) (rank x) f, ltb-false (rank x) (rank (letter l)) g))))

  -- line j of the letter follows those of earlier places
  selected_at : (p : ℕ) (ls : List Line) (j : ℕ) → Ordered p (map letter ls) → j < count_of x ls → get_or (select x ls) j bad ≡ get_or ls (lower (rank x) ls + j) bad
  unfolding select lower
  selected_at p [] j o h = absurd (omega arith)
  selected_at p (l ∷ ls) j o h = go (against l) (λ i k. selected_at (rank (letter l)) ls i o.1 k) h
    where
      here : rank (letter l) ≡ rank x → (i : ℕ) → ((i : ℕ) → i < count_of x ls → get_or (select x ls) i bad ≡ get_or ls (lower (rank x) ls + i) bad) → i < suc (count_of x ls) → get_or (l ∷ select x ls) i bad ≡ get_or (l ∷ ls) i bad
      here q zero r k = refl
      here q (suc i) r k =
          let z : lower (rank x) ls + i ≡ i = omega (arith, lower_none (rank x) (rank (letter l)) ls (omega arith) o.1) in
          rw z at (r i (omega arith))

      go : Against x l → ((i : ℕ) → i < count_of x ls → get_or (select x ls) i bad ≡ get_or ls (lower (rank x) ls + i) bad) → j < count_of x (l ∷ ls) → get_or (select x (l ∷ ls)) j bad ≡ get_or (l ∷ ls) (lower (rank x) (l ∷ ls) + j) bad
      go (sooner q e) r k =
          let z : suc (lower (rank x) ls) + j ≡ suc (lower (rank x) ls + j) = omega arith in
          rw (e, lt-ltb (rank (letter l)) (rank x) q, z) (r j (rw e at k))
      go (same e q) r k =
          let a : rank (letter l) ≡ rank x = ap rank q in
          let z : lower (rank x) ls + j ≡ j = omega (arith, lower_none (rank x) (rank (letter l)) ls (omega arith) o.1) in
          rw (e, le-ltb (rank (letter l)) (rank x) (omega arith), z) (here a j r (rw e at k))
      go (later q e) r k =
          let z : length (select x ls) ≡ 0 = ap length (select_none x (rank (letter l)) ls q o.1) in
          absurd (omega (arith, rw e at k))

  -- the number of line i among those of its letter
  before_at : (p : ℕ) (ls : List Line) (i : ℕ) → Ordered p (map letter ls) → i < length ls → is x (get_or ls i bad) ≡ true → count_before x ls i + lower (rank x) ls ≡ i
  unfolding select lower
  before_at p [] i o h e = absurd (omega arith)
  before_at p (l ∷ ls) zero o h e =
      let q : rank (letter l) ≡ rank x = ap rank (eqb-true (letter l) x e) in
      rw (le-ltb (rank (letter l)) (rank x) (omega arith)) (omega (arith, lower_none (rank x) (rank (letter l)) ls (omega arith) o.1))
  before_at p (l ∷ ls) (suc i) o h e = go (against l) (before_at (rank (letter l)) ls i o.1 (omega arith) e)
    where
      go : Against x l → count_before x ls i + lower (rank x) ls ≡ i → count_before x (l ∷ ls) (suc i) + lower (rank x) (l ∷ ls) ≡ suc i
      go (sooner q f) r = rw (f, lt-ltb (rank (letter l)) (rank x) q) (omega arith)
      go (same f q) r =
          let a : rank (letter l) ≡ rank x = ap rank q in
          rw (f, le-ltb (rank (letter l)) (rank x) (omega arith)) (omega arith)
      go (later q f) r =
          let a : rank (letter (get_or ls i bad)) ≡ rank x = ap rank (eqb-true (letter (get_or ls i bad)) x e) in
          absurd (omega (arith, place_at (rank (letter l)) ls i o.1 (omega arith)))

-- ---- the three letters
data Ranked (y : ℕ) : Type 0 where
  an_n : y ≡ name_line → Ranked y
  an_a : y ≡ arg_line → Ranked y
  a_y : y ≡ type_line → Ranked y
  other : rank y ≡ 3 → eqb y name_line ≡ false → eqb y arg_line ≡ false → eqb y type_line ≡ false → Ranked y

ranked : (y : ℕ) → Ranked y
ranked y = go (eqb y name_line) refl (eqb y arg_line) refl (eqb y type_line) refl
  where
    go : (n : Bool) → eqb y name_line ≡ n → (a : Bool) → eqb y arg_line ≡ a → (t : Bool) → eqb y type_line ≡ t → Ranked y
    go true e a f t g = an_n (eqb-true y name_line e)
    go false e true f t g = an_a (eqb-true y arg_line f)
    go false e false f true g = a_y (eqb-true y type_line g)
    go false e false f false g = other (rw (e, f, g)) e f g

only_name : (y : ℕ) → rank y ≡ rank name_line → y ≡ name_line
only_name y k = go (ranked y)
  where
    go : Ranked y → y ≡ name_line
    go (an_n e) = e
    go (an_a e) = absurd (omega (arith, ap rank e))
    go (a_y e) = absurd (omega (arith, ap rank e))
    go (other e f g h) = absurd (omega arith)

only_arg : (y : ℕ) → rank y ≡ rank arg_line → y ≡ arg_line
only_arg y k = go (ranked y)
  where
    go : Ranked y → y ≡ arg_line
    go (an_n e) = absurd (omega (arith, ap rank e))
    go (an_a e) = e
    go (a_y e) = absurd (omega (arith, ap rank e))
    go (other e f g h) = absurd (omega arith)

only_type : (y : ℕ) → rank y ≡ rank type_line → y ≡ type_line
only_type y k = go (ranked y)
  where
    go : Ranked y → y ≡ type_line
    go (an_n e) = absurd (omega (arith, ap rank e))
    go (an_a e) = absurd (omega (arith, ap rank e))
    go (a_y e) = e
    go (other e f g h) = absurd (omega arith)

lower_name : (ls : List Line) → lower 0 ls ≡ 0
unfolding lower
lower_name [] = refl
lower_name (l ∷ ls) = rw (le-ltb (rank (letter l)) 0 (omega arith)) (lower_name ls)

lower_arg : (ls : List Line) → lower 1 ls ≡ count_of name_line ls
unfolding lower select
lower_arg [] = refl
lower_arg (l ∷ ls) = go (ranked (letter l)) (lower_arg ls)
  where
    go : Ranked (letter l) → lower 1 ls ≡ count_of name_line ls → lower 1 (l ∷ ls) ≡ count_of name_line (l ∷ ls)
    go (an_n e) r = rw e (ap suc r)
    go (an_a e) r = rw e r
    go (a_y e) r = rw e r
    go (other e f g h) r = rw (le-ltb (rank (letter l)) 1 (omega arith), f) r

lower_type : (ls : List Line) → lower 2 ls ≡ count_of name_line ls + count_of arg_line ls
unfolding lower select
lower_type [] = refl
lower_type (l ∷ ls) = go (ranked (letter l)) (lower_type ls)
  where
    go : Ranked (letter l) → lower 2 ls ≡ count_of name_line ls + count_of arg_line ls → lower 2 (l ∷ ls) ≡ count_of name_line (l ∷ ls) + count_of arg_line (l ∷ ls)
    go (an_n e) r = rw e (omega arith)
    go (an_a e) r = rw e (omega arith)
    go (a_y e) r = rw e r
    go (other e f g h) r = rw (le-ltb (rank (letter l)) 2 (omega arith), f, g) r

lower_head : (ls : List Line) → lower 3 ls ≡ header ls
unfolding lower select
lower_head [] = refl
lower_head (l ∷ ls) = go (ranked (letter l)) (lower_head ls)
  where
    go : Ranked (letter l) → lower 3 ls ≡ header ls → lower 3 (l ∷ ls) ≡ header (l ∷ ls)
    go (an_n e) r = rw e (omega arith)
    go (an_a e) r = rw e (omega arith)
    go (a_y e) r = rw e (omega arith)
    go (other e f g h) r = rw (le-ltb (rank (letter l)) 3 (omega arith), f, g, h) r

-- the letters of the header
pub header_cases : (y : ℕ) → rank y < 3 → (y ≡ name_line) ⊎ ((y ≡ arg_line) ⊎ (y ≡ type_line))
header_cases y k = go (ranked y)
  where
    go : Ranked y → (y ≡ name_line) ⊎ ((y ≡ arg_line) ⊎ (y ≡ type_line))
    go (an_n e) = inl e
    go (an_a e) = inr (inl e)
    go (a_y e) = inr (inr e)
    go (other e f g h) = absurd (omega arith)

module _ (ls : List Line) (o : Ordered 0 (map letter ls)) where
  -- A line j is line (names + j) of the sheet
  pub arg_at : (j : ℕ) → j < count_of arg_line ls → get_or (select arg_line ls) j bad ≡ get_or ls (count_of name_line ls + j) bad
  arg_at j h = rw (lower_arg ls) at (selected_at arg_line only_arg 0 ls j o h)

  -- an N line's number among the N lines is its place
  pub name_before : (i : ℕ) → i < length ls → is name_line (get_or ls i bad) ≡ true → count_before name_line ls i ≡ i
  name_before i h e = omega (arith, lower_name ls, before_at name_line only_name 0 ls i o h e)

  -- a Y line's number among the Y lines
  pub type_before : (i : ℕ) → i < length ls → is type_line (get_or ls i bad) ≡ true → count_before type_line ls i + (count_of name_line ls + count_of arg_line ls) ≡ i
  type_before i h e = rw (lower_type ls) at (before_at type_line only_type 0 ls i o h e)

  -- the letters by the places: N, A and Y lines, and then declarations
  pub name_letter : (i : ℕ) → i < count_of name_line ls → letter (get_or ls i bad) ≡ name_line
  name_letter i h = only_name (letter (get_or ls i bad)) (omega (arith, lower_below 0 1 ls i o (omega (arith, lower_arg ls))))

  pub arg_letter : (i : ℕ) → count_of name_line ls ≤ i → i < count_of name_line ls + count_of arg_line ls → i < length ls → letter (get_or ls i bad) ≡ arg_line
  arg_letter i h k l =
      only_arg (letter (get_or ls i bad)) (omega (arith, lower_below 0 2 ls i o (omega (arith, lower_type ls)), lower_from 0 1 ls i o (omega (arith, lower_arg ls)) l))

  pub type_letter : (i : ℕ) → count_of name_line ls + count_of arg_line ls ≤ i → i < header ls → i < length ls → letter (get_or ls i bad) ≡ type_line
  type_letter i h k l =
      only_type (letter (get_or ls i bad)) (omega (arith, lower_below 0 3 ls i o (omega (arith, lower_head ls)), lower_from 0 2 ls i o (omega (arith, lower_type ls)) l))

  pub header_letter : (i : ℕ) → i < header ls → rank (letter (get_or ls i bad)) < 3
  header_letter i h = lower_below 0 3 ls i o (omega (arith, lower_head ls))

  pub later_letter : (i : ℕ) → header ls ≤ i → i < length ls → 3 ≤ rank (letter (get_or ls i bad))
  later_letter i h l = lower_from 0 3 ls i o (omega (arith, lower_head ls)) l

lower_le : (p : ℕ) (ls : List Line) → lower p ls ≤ length ls
unfolding lower
lower_le p [] = omega arith
lower_le p (l ∷ ls) = go (ltb (rank (letter l)) p) (lower_le p ls)
  where
    go : (c : Bool) → lower p ls ≤ length ls → pick c (suc (lower p ls)) (lower p ls) ≤ suc (length ls)
    go true h = omega arith
    go false h = omega arith

pub header_le : (ls : List Line) → header ls ≤ length ls
header_le ls = omega (arith, lower_head ls, lower_le 3 ls)

-- ---- the lines before the declarations
module _ (ls : List Line) (from : ℕ) (h : Headed ls from) where
  pub from_le : from ≤ length ls
  from_le = omega (arith, h.from_is, header_le ls)

  pub before_from : (i : ℕ) → i < from → (letter (get_or ls i bad) ≡ name_line) ⊎ ((letter (get_or ls i bad) ≡ arg_line) ⊎ (letter (get_or ls i bad) ≡ type_line))
  before_from i k = header_cases (letter (get_or ls i bad)) (header_letter ls (ordered_of ls h.in_order) i (omega (arith, h.from_is)))

pub count_of_le : (x : ℕ) (ls : List Line) → count_of x ls ≤ length ls
unfolding select
count_of_le x [] = omega arith
count_of_le x (l ∷ ls) = go (is x l) (count_of_le x ls)
  where
    go : (b : Bool) → count_of x ls ≤ length ls → length (pick b (l ∷ select x ls) (select x ls)) ≤ suc (length ls)
    go true h = omega arith
    go false h = omega arith
