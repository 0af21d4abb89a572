-- Row 6 by the ways in which a line repeats an earlier one. Assumes nothing.
use Rattle.std.specs.Prelude.{◌≡◌, List, Bool, true, false, ◌&&◌, ◌||◌, ℕ, zero, suc, ◌+◌, ◌<◌, eqb, get_or, set, length, take, drop}
use Rattle.number_columns.specs.Column.{pick, ◌⇒◌∥◌}
use Rattle.sheet.specs.Line.{Line, number}
use Rattle.meaning.specs.Program.{param_line, ctor_line, field_line, is, is_head}
use Rattle.meaning.specs.Rows.{some_below, nth_line, count_before, heads_before, is_ctor, same_decl, same_ctor, row5, row4, row3}
use Rattle.row6_distinct.specs.declared.repeats.Groups.{Groups}
use Rattle.sheet.specs.Sheet.{first}
use Rattle.sheet.specs.Format.{base}

-- the lines passed rows 3, 4 and 5
pub record Ranged (ls : List Line) : Type 0 where
  pub in_order : first (row3 ls) (suc (length ls)) ≡ suc (length ls)
  pub in_limits : first (row4 base ls) (length ls) ≡ length ls
  pub in_range : first (row5 ls) (length ls) ≡ length ls

-- The ways in which the name of a line is not to repeat that of an earlier one: the names of all
-- declarations, of the parameters of one declaration, of the fields of one constructor or record,
-- and of all constructors and record types.
pub data Way : Type 0 where
  Declared : Way
  Parameters : Way
  Fields : Way
  Constructors : Way

-- ---- names
-- lines j and i have names that are to differ
abbrev pub alike : Way → List Line → ℕ → ℕ → Bool
alike Declared ls j i = is_head (nth_line ls j) && is_head (nth_line ls i)
alike Parameters ls j i = is param_line (nth_line ls j) && is param_line (nth_line ls i) && same_decl ls j i
alike Fields ls j i = is field_line (nth_line ls j) && is field_line (nth_line ls i) && same_ctor ls j i
alike Constructors ls j i = is_ctor (nth_line ls j) && is_ctor (nth_line ls i)

-- line i has the name of an earlier line, from which it is to differ
unfoldable pub repeated : Way → List Line → ℕ → Bool
repeated way ls i = some_below (λ j. eqb (number (nth_line ls j) 0) (number (nth_line ls i) 0) && alike way ls j i) i

-- in one of the ways
abbrev pub repeated_any : List Line → ℕ → Bool
repeated_any ls i = repeated Declared ls i || (repeated Parameters ls i || (repeated Fields ls i || repeated Constructors ls i))

-- ---- groups of lines within which names are to differ
-- the line has a name of this way
abbrev pub takes : Way → Line → Bool
takes Declared l = is_head l
takes Parameters l = is param_line l
takes Fields l = is field_line l
takes Constructors l = is_ctor l

-- the line begins a group
abbrev pub begins : Way → Line → Bool
begins Declared l = false
begins Parameters l = is_head l
begins Fields l = is_head l || is ctor_line l
begins Constructors l = false

-- how many groups begin before line i
abbrev pub group : Way → List Line → ℕ → ℕ
group Declared ls i = 0
group Parameters ls i = heads_before ls i
group Fields ls i = heads_before ls i + count_before ctor_line ls i
group Constructors ls i = 0

-- Among the lines before line i of which the test holds, the group of the last with the name v, counted from 1; 0 where there is none.
unfoldable pub stamp : (ℕ → Bool) → (ℕ → ℕ) → (ℕ → ℕ) → ℕ → ℕ → ℕ
stamp p x g zero v = 0
stamp p x g (suc i) v = let r : ℕ = stamp p x g i v in p i && eqb (x i) v ⇒ suc (g i) ∥ r

-- ---- one line, by the last group of each name
-- a line with a name of any way has a name below 256
pub record Named (l : Line) : Type 0 where
  pub below : (way : Way) → takes way l ≡ true → number l 0 < 256

-- the line's name was last seen in group g
abbrev pub found : Way → Line → ℕ → List ℕ → Bool
found way l g last = takes way l && eqb (get_or last (number l 0) 0) g

abbrev pub found_in : Line → Groups → List ℕ → List ℕ → List ℕ → List ℕ → Bool
found_in l g declared params fields ctors =
    found Declared l 1 declared || (found Parameters l g.params params || (found Fields l g.fields fields || found Constructors l 1 ctors))

-- the last group of each name, after the line
abbrev pub marked : Way → Line → ℕ → List ℕ → List ℕ
marked way l g last = pick (takes way l) (set last (number l 0) g) last

-- Of a line, the groups and the four arrays before it: what is found, and the arrays after it.
abbrev pub After : Line → Groups → List ℕ → List ℕ → List ℕ → List ℕ → Bool → List ℕ → List ℕ → List ℕ → List ℕ → Type 0
After l g d p f c r d' p' f' c' =
    (r ≡ found_in l g d p f c)
    × (d' ≡ marked Declared l 1 d)
    × (p' ≡ marked Parameters l g.params p)
    × (f' ≡ marked Fields l g.fields f)
    × (c' ≡ marked Constructors l 1 c)

-- the groups, after the line
abbrev pub groups_after : Line → Groups → Groups
groups_after l g =
    record {
      params = pick (begins Parameters l) (g.params + 1) g.params;
      fields = pick (begins Fields l) (g.fields + 1) g.fields;
    }

-- ---- constructors and fields in one array
-- the marks of constructors
abbrev pub ctor_marks : List ℕ → List ℕ
ctor_marks m = take 256 m

-- and behind them those of fields
abbrev pub field_marks : List ℕ → List ℕ
field_marks m = drop 256 m

-- after a line, with both in one array
abbrev pub MembersAfter : Line → Groups → List ℕ → List ℕ → List ℕ → Bool → List ℕ → List ℕ → List ℕ → Type 0
MembersAfter l g d p m r d' p' m' = After l g d p (field_marks m) (ctor_marks m) r d' p' (field_marks m') (ctor_marks m')

-- after a D or I line, whatever is marked of parameters and fields
pub record HeadAfter (l : Line) (d m : List ℕ) (r : Bool) (d' m' : List ℕ) : Type 0 where
  pub after : (g : Groups) (p f : List ℕ) → After l g d p f (ctor_marks m) r d' p f (ctor_marks m')
  pub fields : field_marks m' ≡ field_marks m
