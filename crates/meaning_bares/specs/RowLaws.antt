-- Rows 3, 4, 5 and 7 do not depend on texts, and row 6 only where it compares spellings. Assumes nothing.
use Rattle.std.specs.Prelude.{◌≡◌, refl, List, [], ◌∷◌, map, Bool, true, false, ◌&&◌, ◌||◌, not, ℕ, zero, suc, ◌≤◌, ◌<◌, eqb, leb, ltb, length, take}
use Rattle.std.proofs.Common.{ap, ap₂, sym, ◌∙◌, arith, ltb-true, ltb-false}
use Rattle.std.proofs.lemmas.List.{length-map}
use Rattle.meaning_laws.specs.Rows.{row3_inside, row3_past}
use Rattle.number_columns.specs.Column.{pick, ◌⇒◌∥◌}
use Rattle.sheet.specs.Format.{Format}
use Rattle.sheet.specs.Sheet.{first}
use Rattle.sheet.specs.Line.{Line, bad, number, text}
use Rattle.walk_cells.specs.Cells.{bare}
use Rattle.meaning.specs.declared.Due.{Due}
use Rattle.meaning.specs.declared.Due.TheVariants.{Header, Within, Broken}
use Rattle.meaning.specs.Program.{
  name_line,
  arg_line,
  type_line,
  local_line,
  import_line,
  param_line,
  ctor_line,
  field_line,
  verdict_line,
  is,
  is_head,
  select,
}
use Rattle.meaning.specs.Rows.{
  nth_line,
  count_of,
  count_before,
  heads_before,
  due_header,
  due,
  due_after,
  row3,
  params_after,
  row4,
  zeros_from,
  good_type,
  good_head,
  good_numbers,
  row5,
  last_head,
  head_of,
  kept_after,
  ctors_after,
  tag_in,
  good_verdict,
  good_verdicts,
  row7,
  equal,
  is_ctor,
  same_decl,
  same_ctor,
  repeats,
}
use Rattle.meaning_bares.specs.ProgramLaws.{at_bare, select_bare, map_bare}

-- ---- lines by their place
take_bare : (i : ℕ) (ls : List Line) → take i (map bare ls) ≡ map bare (take i ls)
take_bare zero ls = refl
take_bare (suc i) [] = refl
take_bare (suc i) (l ∷ ls) = ap (λ (ms : List Line). bare l ∷ ms) (take_bare i ls)

pub count_bare : (x : ℕ) (ls : List Line) → count_of x (map bare ls) ≡ count_of x ls
count_bare x ls = rw (select_bare x ls) (length-map (select x ls) bare)

pub before_bare : (x : ℕ) (ls : List Line) (i : ℕ) → count_before x (map bare ls) i ≡ count_before x ls i
before_bare x ls i = rw (take_bare i ls) (count_bare x (take i ls))

-- ---- row 3
due_bare : (q : Due) (l : Line) → due q (bare l) ≡ due q l
unfolding due due_header
due_bare (Header place) l = refl
due_bare (Within (suc p) f c) l = refl
due_bare (Within zero (suc f) c) l = refl
due_bare (Within zero zero (suc c)) l = refl
due_bare (Within zero zero zero) l = refl
due_bare Broken l = refl

due_after_bare : (q : Due) (ls : List Line) → due_after q (map bare ls) ≡ due_after q ls
unfolding due_after
due_after_bare q [] = refl
due_after_bare q (l ∷ ls) = ap (λ (r : Due). due_after r (map bare ls)) (due_bare q l) ∙ due_after_bare (due q l) ls

pub row3_bare : (ls : List Line) (i : ℕ) → row3 (map bare ls) i ≡ row3 ls i
row3_bare ls i = go (ltb i (length ls)) refl
  where
    go : (b : Bool) → ltb i (length ls) ≡ b → row3 (map bare ls) i ≡ row3 ls i
    go true e =
        let h : i < length ls = ltb-true i (length ls) e in
        row3_inside (map bare ls) i (omega (arith, length-map ls bare)) ∙ rw (take_bare (suc i) ls, due_after_bare (Header 0) (take (suc i) ls)) (sym (row3_inside ls i h))
    go false e =
        let h : length ls ≤ i = ltb-false i (length ls) e in
        row3_past (map bare ls) i (omega (arith, length-map ls bare)) ∙ rw (due_after_bare (Header 0) ls) (sym (row3_past ls i h))

-- ---- row 4
params_bare : (n : ℕ) (ls : List Line) → params_after n (map bare ls) ≡ params_after n ls
unfolding params_after
params_bare n [] = refl
params_bare n (l ∷ ls) = params_bare (pick (is_head l) 0 (pick (is param_line l) (suc n) n)) ls

past : Format → ℕ → ℕ → ℕ → ℕ → ℕ → ℕ → ℕ → Line → Bool
past f n a y d p c e l =
    is name_line l ⇒ leb f.names n ∥
    is arg_line l ⇒ leb f.args a ∥
    is type_line l ⇒ leb f.types y ∥
    is_head l ⇒ leb f.decls d ∥
    is param_line l ⇒ leb f.params p ∥
    is ctor_line l ⇒ leb f.ctors c ∥
    is field_line l ⇒ leb f.fields e ∥
    false

pub row4_bare : (f : Format) (ls : List Line) (i : ℕ) → row4 f (map bare ls) i ≡ row4 f ls i
unfolding row4 past
row4_bare f ls i =
    at_bare
    (past f (count_before name_line (map bare ls) i) (count_before arg_line (map bare ls) i) (count_before type_line (map bare ls) i) (heads_before (map bare ls) i) (params_after 0 (take i (map bare ls))) (count_before ctor_line (map bare ls) i) (count_before field_line (map bare ls) i))
    (λ l. refl)
    ls
    i
    ∙ rw (before_bare name_line ls i, before_bare arg_line ls i, before_bare type_line ls i, before_bare local_line ls i, before_bare import_line ls i, before_bare ctor_line ls i, before_bare field_line ls i, take_bare i ls, params_bare 0 (take i ls))

-- ---- row 5
judged : ℕ → ℕ → ℕ → ℕ → List ℕ → Line → Bool
judged names types n y xs l =
    is name_line l ⇒ eqb (number l 0) n ∥
    is arg_line l ⇒ ltb (number l 0) types && zeros_from 1 l ∥
    is type_line l ⇒ good_type names xs y l ∥
    is_head l ⇒ good_head names types l ∥
    is param_line l ⇒ ltb (number l 0) names && zeros_from 1 l ∥
    is ctor_line l ⇒ ltb (number l 0) names && zeros_from 3 l ∥
    is field_line l ⇒ ltb (number l 0) names && ltb (number l 1) types && zeros_from 3 l ∥
    zeros_from 3 l

judged_bare : (names types n y : ℕ) (xs : List ℕ) (l : Line) → judged names types n y xs (bare l) ≡ judged names types n y xs l
unfolding judged zeros_from good_type good_head first
judged_bare names types n y xs l = refl

good_bare : (ls : List Line) (i : ℕ) → good_numbers (map bare ls) i ≡ good_numbers ls i
unfolding good_numbers judged
good_bare ls i =
    at_bare
    (judged (count_of name_line (map bare ls)) (count_of type_line (map bare ls)) (count_before name_line (map bare ls) i) (count_before type_line (map bare ls) i) (map (λ a. number a 0) (select arg_line (map bare ls))))
    (judged_bare (count_of name_line (map bare ls)) (count_of type_line (map bare ls)) (count_before name_line (map bare ls) i) (count_before type_line (map bare ls) i) (map (λ a. number a 0) (select arg_line (map bare ls))))
    ls
    i
    ∙ rw (before_bare name_line ls i, before_bare type_line ls i, count_bare name_line ls, count_bare type_line ls, select_bare arg_line ls, map_bare (λ a. number a 0) (λ a. refl) (select arg_line ls))

pub row5_bare : (ls : List Line) (i : ℕ) → row5 (map bare ls) i ≡ row5 ls i
unfolding row5
row5_bare ls i = ap not (good_bare ls i)

-- ---- row 7
-- the last D or I line, by its letter and numbers
last_bare : {A : Type 0} (f : Line → A) → ((l : Line) → f (bare l) ≡ f l) → (h k : Line) → f k ≡ f h → (ls : List Line) → f (last_head k (map bare ls)) ≡ f (last_head h ls)
unfolding last_head
last_bare f b h k e [] = e
last_bare f b h k e (l ∷ ls) = go (is_head l) (last_bare f b l (bare l) (b l) ls) (last_bare f b h k e ls)
  where
    go : (c : Bool) → f (last_head (bare l) (map bare ls)) ≡ f (last_head l ls) → f (last_head k (map bare ls)) ≡ f (last_head h ls)
        → f (last_head (pick c (bare l) k) (map bare ls)) ≡ f (last_head (pick c l h) ls)
    go true r s = r
    go false r s = s

kept_bare : (n : ℕ) (ls : List Line) → kept_after n (map bare ls) ≡ kept_after n ls
unfolding kept_after
kept_bare n [] = refl
kept_bare n (l ∷ ls) = kept_bare (pick (is_head l) 0 (pick (is field_line l && not (eqb (number l 2) 0)) (suc n) n)) ls

ctors_bare : (n : ℕ) (ls : List Line) → ctors_after n (map bare ls) ≡ ctors_after n ls
unfolding ctors_after
ctors_bare n [] = refl
ctors_bare n (l ∷ ls) = ctors_bare (pick (is_head l) 0 (pick (is ctor_line l) (suc n) n)) ls

allowed : Line → ℕ → ℕ → Line → Bool
allowed h ctors kept l =
    is ctor_line l ⇒ eqb (number l 2) (tag_in h ctors) ∥
    is field_line l ⇒ leb (number l 2) (pick (is import_line h) 1 0) ∥
    is verdict_line l && is import_line h ⇒ good_verdict h kept l ∥
    is verdict_line l ⇒ eqb (number l 0) 0 && eqb (number l 1) 0 && eqb (number l 2) 0 ∥
    true

allowed_line : (h : Line) (ctors kept : ℕ) (l : Line) → allowed h ctors kept (bare l) ≡ allowed h ctors kept l
unfolding allowed good_verdict
allowed_line h ctors kept l = refl

allowed_head : (ctors kept : ℕ) (l h : Line) → allowed (bare h) ctors kept l ≡ allowed h ctors kept l
unfolding allowed good_verdict
allowed_head ctors kept l h = refl

verdicts_bare : (ls : List Line) (i : ℕ) → good_verdicts (map bare ls) i ≡ good_verdicts ls i
unfolding good_verdicts allowed
verdicts_bare ls i =
    let k = kept_after 0 (take i (map bare ls)) in
    let c = ctors_after 0 (take i (map bare ls)) in
    at_bare (allowed (head_of (map bare ls) i) c k) (allowed_line (head_of (map bare ls) i) c k) ls i
    ∙ (ap (λ (ms : List Line). allowed (last_head bad ms) c k (nth_line ls i)) (take_bare (suc i) ls)
    ∙ (last_bare (λ h. allowed h c k (nth_line ls i)) (allowed_head c k (nth_line ls i)) bad bad refl (take (suc i) ls)
    ∙ ap₂ (λ (m n : ℕ). allowed (head_of ls i) m n (nth_line ls i)) (ap (ctors_after 0) (take_bare i ls) ∙ ctors_bare 0 (take i ls)) (ap (kept_after 0) (take_bare i ls) ∙ kept_bare 0 (take i ls))))

pub row7_bare : (ls : List Line) (i : ℕ) → row7 (map bare ls) i ≡ row7 ls i
unfolding row7
row7_bare ls i = ap not (verdicts_bare ls i)

-- ---- row 6
-- It is the one row that reads texts: two names are spelled alike. All else of it goes by numbers.
unfoldable pub renumbers : List Line → ℕ → ℕ → Line → Line → Bool
renumbers ls i j k l =
    eqb (number k 0) (number l 0)
    && ((is_head k && is_head l)
    || (is param_line k && is param_line l && same_decl ls j i)
    || (is field_line k && is field_line l && same_ctor ls j i)
    || (is_ctor k && is_ctor l))

-- line i repeats the number of line j, in one of four ways
unfoldable pub repeats_number : List Line → ℕ → ℕ → Bool
repeats_number ls i j = renumbers ls i j (nth_line ls j) (nth_line ls i)

pub repeats_split : (ls : List Line) (i j : ℕ)
    → repeats ls i j ≡ (is name_line (nth_line ls j) && is name_line (nth_line ls i) && equal (text (nth_line ls j)) (text (nth_line ls i))) || repeats_number ls i j
unfolding repeats repeats_number renumbers
repeats_split ls i j = refl

renumbers_context : (ls : List Line) (i j : ℕ) (k l : Line) → renumbers (map bare ls) i j k l ≡ renumbers ls i j k l
unfolding renumbers
renumbers_context ls i j k l =
    rw (before_bare local_line ls i, before_bare local_line ls j, before_bare import_line ls i, before_bare import_line ls j, before_bare ctor_line ls i, before_bare ctor_line ls j)

renumbers_first : (ls : List Line) (i j : ℕ) (l k : Line) → renumbers ls i j (bare k) l ≡ renumbers ls i j k l
unfolding renumbers
renumbers_first ls i j l k = refl

renumbers_second : (ls : List Line) (i j : ℕ) (k l : Line) → renumbers ls i j k (bare l) ≡ renumbers ls i j k l
unfolding renumbers
renumbers_second ls i j k l = refl

pub repeats_bare : (ls : List Line) (i j : ℕ) → repeats_number (map bare ls) i j ≡ repeats_number ls i j
unfolding repeats_number
repeats_bare ls i j =
    renumbers_context ls i j (nth_line (map bare ls) j) (nth_line (map bare ls) i)
    ∙ at_bare (λ k. renumbers ls i j k (nth_line (map bare ls) i)) (renumbers_first ls i j (nth_line (map bare ls) i)) ls j
    ∙ at_bare (λ l. renumbers ls i j (nth_line ls j) l) (renumbers_second ls i j (nth_line ls j)) ls i
