-- Rows 3 to 7 (FORMAT, section 5), each a test on the lines of a sheet: a row's place is the first
-- line at which its test holds. Assumes nothing.
use Rattle.std.specs.Prelude.{Option, Some, None, List, [], ◌∷◌, map, Bool, true, false, ◌&&◌, ◌||◌, not, ℕ, zero, suc, ◌+◌, ◌-◌, eqb, leb, ltb, length, get_or, take}
use Rattle.number_columns.specs.Column.{pick, ◌⇒◌∥◌}
use Rattle.sheet.specs.Format.{Format}
use Rattle.sheet.specs.Line.{Line, row, bad, cell, value, number, text}
use Rattle.sheet.specs.Sheet.{first, line_at, count}
use Rattle.model.specs.Decl.{tag_number, table}
use Rattle.model.specs.Layout.{ctor_tag}
use Rattle.meaning.specs.declared.Due.{Due}
use Rattle.meaning.specs.declared.Due.TheVariants.{Header, Within, Broken}
use Rattle.meaning.specs.declared.Iwidth.{Iwidth}
use Rattle.meaning.specs.declared.Iwidth.TheVariants.{W8, W16, W32, W64, W128, WSizet}
use Rattle.meaning.specs.Program.{
  name_line,
  arg_line,
  type_line,
  local_line,
  import_line,
  param_line,
  ctor_line,
  field_line,
  verdict_line,
  is,
  is_head,
  select,
}

-- whether the test holds of some number below n
abbrev pub some_below : (ℕ → Bool) → ℕ → Bool
some_below p n = ltb (first p n) n

abbrev pub nth_line : List Line → ℕ → Line
nth_line ls i = get_or ls i bad

-- how many lines there are of a letter, and how many before line i
abbrev pub count_of : ℕ → List Line → ℕ
count_of x ls = length (select x ls)

abbrev pub count_before : ℕ → List Line → ℕ → ℕ
count_before x ls i = count_of x (take i ls)

-- how many declarations begin before line i
abbrev pub heads_before : List Line → ℕ → ℕ
heads_before ls i = count_before local_line ls i + count_before import_line ls i

-- ---- row 3: order and counts
-- The letter and the numbers of line i, whatever row 2 says of it (a number that is none counts as 0):
-- row 3 can be tested alone.
unfoldable pub raw : ℕ → List ℕ → ℕ → Line
raw w b i = let l : List ℕ = line_at w b i in row (get_or l 0 0) (table (λ k. value (cell w l k)) 5)

unfoldable pub raws : ℕ → List ℕ → List Line
raws w b = table (raw w b) (count w b)

-- what a D or I line announces, by its body kind, count of parameters and last number
unfoldable pub announced : ℕ → ℕ → ℕ → Due
announced kind params last =
    leb kind 1 ⇒ Within params 0 0 ∥
    eqb kind 2 ⇒ Within params last 0 ∥
    eqb kind 3 ⇒ Within params 0 last ∥
    Broken

unfoldable pub due_header : ℕ → Line → Due
due_header place l =
    is name_line l && leb place 0 ⇒ Header 0 ∥
    is arg_line l && leb place 1 ⇒ Header 1 ∥
    is type_line l && leb place 2 ⇒ Header 2 ∥
    is_head l ⇒ announced (number l 2) (number l 3) (number l 4) ∥
    Broken

unfoldable pub due : Due → Line → Due
due (Header place) l = due_header place l
due (Within (suc p) f c) l = pick (is param_line l) (Within p f c) Broken
due (Within zero (suc f) c) l = pick (is field_line l) (Within zero f c) Broken
due (Within zero zero (suc c)) l = pick (is ctor_line l) (Within zero (number l 1) c) Broken
due (Within zero zero zero) l = pick (is verdict_line l) (Header 3) Broken
due Broken l = Broken

unfoldable pub due_after : Due → List Line → Due
due_after q [] = q
due_after q (l ∷ ls) = due_after (due q l) ls

abbrev pub is_broken : Due → Bool
is_broken (Header place) = false
is_broken (Within p f c) = false
is_broken Broken = true

abbrev pub is_within : Due → Bool
is_within (Header place) = false
is_within (Within p f c) = true
is_within Broken = false

-- Line i does not fit, or i is the count of lines and a declaration is not ended.
unfoldable pub row3 : List Line → ℕ → Bool
row3 ls i =
    elim (ltb i (length ls)) [
      | true ↦ is_broken (due_after (Header 0) (take (suc i) ls))
      | false ↦ is_within (due_after (Header 0) ls)
    ]

-- ---- row 4: limits
-- P lines since the last D or I line
unfoldable pub params_after : ℕ → List Line → ℕ
params_after n [] = n
params_after n (l ∷ ls) = params_after (pick (is_head l) 0 (pick (is param_line l) (suc n) n)) ls

-- line i is past the limit of its kind
unfoldable pub row4 : Format → List Line → ℕ → Bool
row4 f ls i =
    let l : Line = nth_line ls i in
    is name_line l ⇒ leb f.names (count_before name_line ls i) ∥
    is arg_line l ⇒ leb f.args (count_before arg_line ls i) ∥
    is type_line l ⇒ leb f.types (count_before type_line ls i) ∥
    is_head l ⇒ leb f.decls (heads_before ls i) ∥
    is param_line l ⇒ leb f.params (params_after 0 (take i ls)) ∥
    is ctor_line l ⇒ leb f.ctors (count_before ctor_line ls i) ∥
    is field_line l ⇒ leb f.fields (count_before field_line ls i) ∥
    false

-- ---- row 5: numbers of a line
-- the numbers from k on are 0
unfoldable pub zeros_from : ℕ → Line → Bool
zeros_from k l = not (some_below (λ i. leb k i && not (eqb (number l i) 0)) 5)

-- the number of each width (FORMAT, section 3), in the order of the source's `iwidth`
abbrev pub width_number : Iwidth → ℕ
width_number W8 = 8
width_number W16 = 16
width_number W32 = 32
width_number W64 = 64
width_number W128 = 128
width_number WSizet = 1

-- and the width of each number
unfoldable pub iwidth_of : ℕ → Option Iwidth
iwidth_of n =
    eqb n 8 ⇒ Some W8 ∥
    eqb n 16 ⇒ Some W16 ∥
    eqb n 32 ⇒ Some W32 ∥
    eqb n 64 ⇒ Some W64 ∥
    eqb n 128 ⇒ Some W128 ∥
    eqb n 1 ⇒ Some WSizet ∥
    None

-- row 5's test of a width: one of these six
unfoldable pub is_width : ℕ → Bool
is_width w = eqb w 8 || eqb w 16 || eqb w 32 || eqb w 64 || eqb w 128 || eqb w 1

-- A list of k A lines from line i on, used by type y: each is there and of a lower type; of none, i is 0.
unfoldable pub is_list : List ℕ → ℕ → ℕ → ℕ → Bool
is_list xs y i k =
    elim (eqb k 0) [
      | true ↦ eqb i 0
      | false ↦ leb (i + k) (length xs) && not (some_below (λ j. not (ltb (get_or xs (i + j) 0) y)) k)
    ]

-- a Y line's kind and its numbers, for type y, where there are so many names and the A lines have these types
unfoldable pub good_type : ℕ → List ℕ → ℕ → Line → Bool
good_type names xs y l =
    let kind : ℕ = number l 0 in
    leb kind 2 ⇒ zeros_from 1 l ∥
    eqb kind 3 ⇒ ltb (number l 1) names && zeros_from 2 l ∥
    eqb kind 4 ⇒ leb (number l 1) 1 && is_width (number l 2) && zeros_from 3 l ∥
    eqb kind 5 ⇒ leb (number l 1) 3 && zeros_from 2 l ∥
    eqb kind 6 ⇒ zeros_from 2 l ∥
    eqb kind 7 ⇒ ltb (number l 1) y && leb (number l 2) 2 && ltb (number l 3) y && zeros_from 4 l ∥
    eqb kind 8 ⇒ ltb (number l 1) names && is_list xs y (number l 2) (number l 3) && zeros_from 4 l ∥
    eqb kind 9 ⇒ is_list xs y (number l 1) (number l 2) && zeros_from 3 l ∥
    eqb kind 11 ⇒ leb (number l 1) 1 && ltb (number l 2) y && zeros_from 3 l ∥
    leb kind 12 ⇒ ltb (number l 1) y && zeros_from 2 l ∥
    false

-- a D or I line's name, flags and, by its body kind, last number
unfoldable pub good_head : ℕ → ℕ → Line → Bool
good_head names types l =
    ltb (number l 0) names
    && leb (number l 1) 31
    && (eqb (number l 2) 0 ⇒ eqb (number l 4) 0 ∥ eqb (number l 2) 1 ⇒ ltb (number l 4) types ∥ true)

-- the line is as it should be, by its letter
unfoldable pub good_numbers : List Line → ℕ → Bool
good_numbers ls i =
    let l : Line = nth_line ls i in
    let names : ℕ = count_of name_line ls in
    let types : ℕ = count_of type_line ls in
    is name_line l ⇒ eqb (number l 0) (count_before name_line ls i) ∥
    is arg_line l ⇒ ltb (number l 0) types && zeros_from 1 l ∥
    is type_line l ⇒ good_type names (map (λ a. number a 0) (select arg_line ls)) (count_before type_line ls i) l ∥
    is_head l ⇒ good_head names types l ∥
    is param_line l ⇒ ltb (number l 0) names && zeros_from 1 l ∥
    is ctor_line l ⇒ ltb (number l 0) names && zeros_from 3 l ∥
    is field_line l ⇒ ltb (number l 0) names && ltb (number l 1) types && zeros_from 3 l ∥
    zeros_from 3 l

unfoldable pub row5 : List Line → ℕ → Bool
row5 ls i = not (good_numbers ls i)

-- ---- row 6: equal names
unfoldable pub equal : List ℕ → List ℕ → Bool
equal [] [] = true
equal [] (y ∷ ys) = false
equal (x ∷ xs) [] = false
equal (x ∷ xs) (y ∷ ys) = eqb x y && equal xs ys

-- a constructor, or a record type at its D or I line
abbrev pub is_ctor : Line → Bool
is_ctor l = is ctor_line l || (is_head l && eqb (number l 2) 2)

-- lines j and i of the same declaration, and of the same constructor or record
abbrev pub same_decl : List Line → ℕ → ℕ → Bool
same_decl ls j i = eqb (heads_before ls j) (heads_before ls i)

abbrev pub same_ctor : List Line → ℕ → ℕ → Bool
same_ctor ls j i = same_decl ls j i && eqb (count_before ctor_line ls j) (count_before ctor_line ls i)

-- line i repeats line j, in one of the five ways
unfoldable pub repeats : List Line → ℕ → ℕ → Bool
repeats ls i j =
    let k : Line = nth_line ls j in
    let l : Line = nth_line ls i in
    (is name_line k && is name_line l && equal (text k) (text l))
    || (eqb (number k 0) (number l 0)
    && ((is_head k && is_head l)
    || (is param_line k && is param_line l && same_decl ls j i)
    || (is field_line k && is field_line l && same_ctor ls j i)
    || (is_ctor k && is_ctor l)))

unfoldable pub row6 : List Line → ℕ → Bool
row6 ls i = some_below (repeats ls i) i

-- ---- row 7: verdicts
-- the D or I line of the declaration that line i is in
unfoldable pub last_head : Line → List Line → Line
last_head h [] = h
last_head h (l ∷ ls) = last_head (pick (is_head l) l h) ls

abbrev pub head_of : List Line → ℕ → Line
head_of ls i = last_head bad (take (suc i) ls)

-- how many fields of the declaration are kept, of those before line i
unfoldable pub kept_after : ℕ → List Line → ℕ
kept_after n [] = n
kept_after n (l ∷ ls) = kept_after (pick (is_head l) 0 (pick (is field_line l && not (eqb (number l 2) 0)) (suc n) n)) ls

-- how many C lines of the declaration stand before line i
unfoldable pub ctors_after : ℕ → List Line → ℕ
ctors_after n [] = n
ctors_after n (l ∷ ls) = ctors_after (pick (is_head l) 0 (pick (is ctor_line l) (suc n) n)) ls

-- the third number of a C line with k before it, in the declaration that begins with line h: an import's is the tag's, of as
-- many constructors as its last number says
abbrev pub tag_in : Line → ℕ → ℕ
tag_in h k = pick (is import_line h) (tag_number (ctor_tag (number h 4) k)) 0

-- a record, or a variant of one constructor
abbrev pub one_ctor : Line → Bool
one_ctor h = eqb (number h 2) 2 || (eqb (number h 2) 3 && eqb (number h 4) 1)

-- an import's V line, by its declaration's first line and its kept fields
unfoldable pub good_verdict : Line → ℕ → Line → Bool
good_verdict h kept v =
    leb (number v 2) 1
    && (eqb (number v 1) 0 ⇒ eqb (number v 0) 1 ∥
    eqb (number v 0) 0
    && (eqb (number v 1) 1 ⇒ one_ctor h && eqb kept 1 ∥
    eqb (number v 1) 2 ⇒ eqb (number h 2) 2 || eqb (number h 2) 3 ∥
    eqb (number v 1) 3 ⇒ eqb (number h 2) 1 ∥
    eqb (number v 1) 4 ⇒ eqb (number h 2) 0 ∥
    false))

unfoldable pub good_verdicts : List Line → ℕ → Bool
good_verdicts ls i =
    let l : Line = nth_line ls i in
    let h : Line = head_of ls i in
    is ctor_line l ⇒ eqb (number l 2) (tag_in h (ctors_after 0 (take i ls))) ∥
    is field_line l ⇒ leb (number l 2) (pick (is import_line h) 1 0) ∥
    is verdict_line l && is import_line h ⇒ good_verdict h (kept_after 0 (take i ls)) l ∥
    is verdict_line l ⇒ eqb (number l 0) 0 && eqb (number l 1) 0 && eqb (number l 2) 0 ∥
    true

unfoldable pub row7 : List Line → ℕ → Bool
row7 ls i = not (good_verdicts ls i)
