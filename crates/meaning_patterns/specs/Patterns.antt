-- The pattern that a sheet may end in (FORMAT, section 12): the rows that its Q lines are held to, the
-- pattern that they denote, and the lines that the new pattern and its freed names are written as.
-- Total on every list of lines. Assumes nothing.
use Rattle.std.specs.Prelude.{List, [], ◌∷◌, ◌++◌, map, Bool, true, false, ◌&&◌, ◌||◌, not, ℕ, zero, suc, ◌+◌, ◌-◌, eqb, leb, ltb, length, get_or}
use Rattle.std.proofs.Math.Option.{Option, none, some}
use Rattle.number_columns.specs.Column.{pick, ◌⇒◌∥◌}
use Rattle.sheet.specs.Line.{Line, row, number}
use Rattle.model.specs.Decl.{Ctor, ctors_of_tydef, Decl}
use Rattle.model_patterns.specs.Pat.{Pat, Pats, PWild, PVar, PConst, PCtor, PRecord, PTuple, POr, no_parts, part, parts, Rewritten}
use Rattle.meaning.specs.Program.{is}
use Rattle.meaning.specs.Rows.{nth_line, some_below}

-- ---- letters
abbrev pub pattern_line : ℕ
pattern_line = 81

abbrev pub freed_line : ℕ
freed_line = 85

-- ---- the numbers of a Q line
abbrev pub kind_of : Line → ℕ
kind_of l = number l 0

abbrev pub name_of : Line → ℕ
name_of l = number l 1

-- the line's last part, and the part before it in its own list: 0 for none, else a lower Q line's number plus one
abbrev pub last_of : Line → ℕ
last_of l = number l 2

abbrev pub previous_of : Line → ℕ
previous_of l = number l 3

-- the field's name plus one, in a part of a `PRecord`, else 0
abbrev pub field_of : Line → ℕ
field_of l = number l 4

-- ---- row 5 of a Q line
-- the field of the line that a link names
abbrev pub linked_field : List Line → ℕ → ℕ
linked_field qs k = field_of (nth_line qs (k - 1))

-- a line before line q names line k already
unfoldable pub linked_before : List Line → ℕ → ℕ → Bool
linked_before qs q k = some_below (λ j. eqb (last_of (nth_line qs j)) k || eqb (previous_of (nth_line qs j)) k) q

-- a link of line q: none, or to a lower line that no line before names
unfoldable pub good_link : List Line → ℕ → ℕ → Bool
good_link qs q k = eqb k 0 || (leb k q && not (linked_before qs q k))

-- the number, by the kind: a name, a constant, or none
unfoldable pub good_name : ℕ → Line → Bool
good_name names l =
    eqb (kind_of l) 2 ⇒ true ∥
    eqb (kind_of l) 1 || eqb (kind_of l) 3 || eqb (kind_of l) 4 ⇒ ltb (name_of l) names ∥
    eqb (name_of l) 0

-- the last part, by the kind: none of a leaf; of a record one with a field, of others one without
unfoldable pub good_last : List Line → Line → Bool
good_last qs l =
    leb (kind_of l) 2 ⇒ eqb (last_of l) 0 ∥
    eqb (last_of l) 0 ⇒ true ∥
    eqb (kind_of l) 4 ⇒ not (eqb (linked_field qs (last_of l)) 0) ∥
    eqb (linked_field qs (last_of l)) 0

-- the part before it has a field exactly where it has one
unfoldable pub good_previous : List Line → Line → Bool
good_previous qs l =
    eqb (previous_of l) 0 ⇒ true ∥
    eqb (field_of l) 0 ⇒ eqb (linked_field qs (previous_of l)) 0 ∥
    not (eqb (linked_field qs (previous_of l)) 0)

-- Line q of the Q lines, where there are so many names. The last line is the whole, and so no part.
unfoldable pub good_pattern : ℕ → List Line → ℕ → Bool
good_pattern names qs q =
    let l : Line = nth_line qs q in
    leb (kind_of l) 6
    && good_name names l
    && good_link qs q (last_of l)
    && good_link qs q (previous_of l)
    && (eqb (last_of l) 0 || not (eqb (last_of l) (previous_of l)))
    && leb (field_of l) names
    && good_previous qs l
    && good_last qs l
    && (not (eqb (suc q) (length qs)) || (eqb (previous_of l) 0 && eqb (field_of l) 0))

-- ---- the pattern
-- of a Q line: its pattern, and the parts of its list up to it
pub record Piece : Type 0 where
  pub pat : Pat
  pub list : Pats

abbrev pub no_piece : Piece
no_piece = record { pat = PWild; list = no_parts }

-- the list that a link ends
unfoldable pub list_to : List Piece → ℕ → Pats
list_to ps zero = no_parts
list_to ps (suc k) = (get_or ps k no_piece).list

-- with one more part at the end
unfoldable pub and_last : Pats → ℕ → Pat → Pats
and_last no_parts f p = part f p no_parts
and_last (part g q qs) f p = part g q (and_last qs f p)

unfoldable pub pattern_of : ℕ → ℕ → Pats → Pat
pattern_of kind n ps =
    eqb kind 1 ⇒ PVar n ∥
    eqb kind 2 ⇒ PConst n ∥
    eqb kind 3 ⇒ PCtor n ps ∥
    eqb kind 4 ⇒ PRecord n ps ∥
    eqb kind 5 ⇒ PTuple ps ∥
    eqb kind 6 ⇒ POr ps ∥
    PWild

-- a line's piece, from those of the lines before it
unfoldable pub piece : List Piece → Line → Piece
piece ps l =
    let p : Pat = pattern_of (kind_of l) (name_of l) (list_to ps (last_of l)) in
    record { pat = p; list = and_last (list_to ps (previous_of l)) (field_of l) p }

unfoldable pub pieces_after : List Piece → List Line → List Piece
pieces_after ps [] = ps
pieces_after ps (l ∷ ls) = pieces_after (ps ++ (piece ps l ∷ [])) ls

-- of all Q lines
abbrev pub pieces : List Line → List Piece
pieces qs = pieces_after [] qs

-- the pattern of the last Q line, which is the whole
unfoldable pub pattern : List Line → Pat
pattern qs = (get_or (pieces qs) (length qs - 1) no_piece).pat

-- ---- row 13
unfoldable pub fields_among : List Ctor → ℕ → Option ℕ → Option ℕ
fields_among [] n o = o
fields_among (c ∷ cs) n o = pick (eqb c.ct_name n) (some (length c.ct_fields)) (fields_among cs n o)

-- how many fields are declared of the constructor n, dropped ones included: a record is one constructor, named as its type
unfoldable pub declared_fields : List Decl → ℕ → Option ℕ
declared_fields [] n = none
declared_fields (d ∷ ds) n = fields_among (ctors_of_tydef d.dtype) n (declared_fields ds n)

abbrev pub miscounts : Option ℕ → ℕ → Bool
miscounts none k = false
miscounts (some n) k = not (eqb k n)

-- Q line q is a `PCtor` of a declared constructor with another number of parts
unfoldable pub row13 : List Decl → List Line → ℕ → Bool
row13 ds qs q =
    let l : Line = nth_line qs q in
    elim (eqb (kind_of l) 3) [
      | true ↦ miscounts (declared_fields ds (name_of l)) (parts (list_to (pieces qs) (last_of l)))
      | false ↦ false
    ]

-- ---- the lines of a pattern
-- the numbers of the lines of a list's parts, and its last part's number plus one
pub record PartLines : Type 0 where
  pub lines : List (List ℕ)
  pub last : ℕ

-- A pattern's parts from left to right, then its own line, the first of all these being line `at`. It is a part behind
-- `previous` with this field.
unfoldable mutual
  pub pat_lines : Pat → ℕ → ℕ → ℕ → List (List ℕ)
  pat_lines PWild at previous f = (0 ∷ 0 ∷ 0 ∷ previous ∷ f ∷ []) ∷ []
  pat_lines (PVar v) at previous f = (1 ∷ v ∷ 0 ∷ previous ∷ f ∷ []) ∷ []
  pat_lines (PConst c) at previous f = (2 ∷ c ∷ 0 ∷ previous ∷ f ∷ []) ∷ []
  pat_lines (PCtor n ps) at previous f = let m : PartLines = part_lines ps at 0 in m.lines ++ ((3 ∷ n ∷ m.last ∷ previous ∷ f ∷ []) ∷ [])
  pat_lines (PRecord n ps) at previous f = let m : PartLines = part_lines ps at 0 in m.lines ++ ((4 ∷ n ∷ m.last ∷ previous ∷ f ∷ []) ∷ [])
  pat_lines (PTuple ps) at previous f = let m : PartLines = part_lines ps at 0 in m.lines ++ ((5 ∷ 0 ∷ m.last ∷ previous ∷ f ∷ []) ∷ [])
  pat_lines (POr ps) at previous f = let m : PartLines = part_lines ps at 0 in m.lines ++ ((6 ∷ 0 ∷ m.last ∷ previous ∷ f ∷ []) ∷ [])

  pub part_lines : Pats → ℕ → ℕ → PartLines
  part_lines no_parts at previous = record { lines = []; last = previous }
  part_lines (part f p ps) at previous =
      let x : List (List ℕ) = pat_lines p at previous f in
      let r : PartLines = part_lines ps (at + length x) (at + length x) in
      record { lines = x ++ r.lines; last = r.last }

abbrev pub freed_lines : List ℕ → List Line
freed_lines ns = map (λ n. row freed_line (n ∷ 0 ∷ 0 ∷ 0 ∷ 0 ∷ [])) ns

-- the new pattern's Q lines, numbered from 0, then a U line for each freed name in order
unfoldable pub rewritten_lines : Rewritten → List Line
rewritten_lines r = map (row pattern_line) (pat_lines r.pat 0 0 0) ++ freed_lines r.freed
