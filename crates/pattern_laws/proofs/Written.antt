-- The lines that are written for a pattern pass row 5, if its names and fields are names and its records' parts alone have
-- fields. Lines are taken one after another, each behind those before it. Assumes nothing.
use Rattle.std.specs.Prelude.{◌⊎◌, ◌≡◌, refl, Bool, true, false, ◌&&◌, ◌||◌, leb, take}
use Rattle.std.proofs.Common.{inl, inr, ⊎_elim, ap₂, ◌∙◌, arith, length-append, get_or-take}
use Rattle.std.proofs.Math.Path.{sym, ap}
use mathlib.Core.List.{List, [], ◌∷◌, ◌++◌, map, append_assoc, append-nil}
use Rattle.std.proofs.Math.Bool.{not}
use Prim.Native.Nat.{ℕ, zero, suc, ◌+◌, ◌-◌, ◌≤◌, ◌<◌}
use Rattle.std.proofs.Math.Dec.{eqb}
use Rattle.std.proofs.Math.ListN.{length, length-map, get_or-append}
use Rattle.std.proofs.Math.Seq.{length-take-le}
use Rattle.std.proofs.lemmas.List.{get_or_at}
use borrow.Author.Tests.{leb-true, leb-false, eqb-true, eqb-false, lt-ltb, le-ltb, le-leb, eq-eqb, ne_eqb}
use Rattle.number_columns.specs.Column.{pick}
use Rattle.sheet.specs.Line.{Line, row, bad}
use Rattle.sheet.specs.Sheet.{first}
use Rattle.sheet.proofs.FirstLaws.{first_none}
use Rattle.sheet.proofs.ListLaws.{Every, every_at, every_append, every_map}
use Rattle.model_patterns.specs.Pat.{Pat, Pats, PWild, PVar, PConst, PCtor, PRecord, PTuple, POr, no_parts, part, nodes, nodes_of_parts}
use Rattle.meaning.specs.Rows.{nth_line}
use Rattle.meaning_patterns.specs.Patterns.{pattern_line, kind_of, last_of, previous_of, field_of, linked_field, linked_before, good_link, good_name, good_last, good_previous, good_pattern, PartLines, pat_lines, part_lines}
use Rattle.pattern_laws.specs.Linked.{Apart, AllGood}
use Rattle.pattern_laws.proofs.Few.{pat_lines_length, part_lines_length}
use Rattle.pattern_laws.proofs.ReadBack.{rows, rows_append, nodes_some}

-- ---- which links there are
-- no line of these names line k
abbrev Unnamed : ℕ → List (List ℕ) → Type 0
Unnamed k xs = Every (λ l. Apart l k) (rows xs)

unnamed_append : (k : ℕ) (xs ys : List (List ℕ)) → Unnamed k xs → Unnamed k ys → Unnamed k (xs ++ ys)
unnamed_append k xs ys h i = rw (rows_append xs ys) (every_append (λ l. Apart l k) (rows xs) (rows ys) h i)

-- the last part of some is the line before the next
last_some : (ps : Pats) (f : ℕ) (p : Pat) (at previous : ℕ) → (part_lines (part f p ps) at previous).last ≡ at + nodes_of_parts (part f p ps)
unfolding part_lines nodes_of_parts
last_some no_parts f p at previous = omega (arith, pat_lines_length p at previous f)
last_some (part g q qs) f p at previous =
    let n : ℕ = length (pat_lines p at previous f) in omega (arith, pat_lines_length p at previous f, last_some qs g q (at + n) (at + n))

last_here : (ps : Pats) (at previous : ℕ)
    → ((part_lines ps at previous).last ≡ previous) ⊎ ((0 < nodes_of_parts ps) × ((part_lines ps at previous).last ≡ at + nodes_of_parts ps))
unfolding part_lines nodes_of_parts
last_here no_parts at previous = inl refl
last_here (part f p ps) at previous = inr (omega (arith, nodes_some p), last_some ps f p at previous)

-- a number outside of what the lines name
record Outside (k at size previous : ℕ) : Type 0 where
  link : 0 < k
  other : 0 < size → k ≡ previous → ⊥
  off : (k ≤ at) ⊎ (at + size ≤ k)

own_apart : (ps : Pats) (k at previous f kind n : ℕ) → Outside k at (1 + nodes_of_parts ps) previous
    → Unnamed k ((kind ∷ n ∷ (part_lines ps at 0).last ∷ previous ∷ f ∷ []) ∷ [])
own_apart ps k at previous f kind n o = (
  record {
    last = λ e. ⊎_elim (λ (i : (part_lines ps at 0).last ≡ 0). omega (arith, o.link)) (λ (i : (0 < nodes_of_parts ps) × ((part_lines ps at 0).last ≡ at + nodes_of_parts ps)). ⊎_elim (λ (j : k ≤ at). omega arith) (λ (j : at + (1 + nodes_of_parts ps) ≤ k). omega arith) o.off) (last_here ps at 0);
    previous = λ e. o.other (omega arith) (sym e);
  },
  tt,
)

leaf_apart : (k at previous f kind n : ℕ) → Outside k at 1 previous → Unnamed k ((kind ∷ n ∷ 0 ∷ previous ∷ f ∷ []) ∷ [])
leaf_apart k at previous f kind n o = (record { last = λ e. omega (arith, o.link); previous = λ e. o.other (omega arith) (sym e) }, tt)

inner_outside : (k at m previous : ℕ) → Outside k at (1 + m) previous → Outside k at m 0
inner_outside k at m previous o =
    record {
      link = o.link;
      other = λ z e. omega (arith, o.link);
      off = ⊎_elim (λ (j : k ≤ at). inl j) (λ (j : at + (1 + m) ≤ k). inr (omega arith)) o.off;
    }

first_outside : (k at n m previous : ℕ) → Outside k at (n + m) previous → 0 < n → Outside k at n previous
first_outside k at n m previous o s =
    record {
      link = o.link;
      other = λ z e. o.other (omega arith) e;
      off = ⊎_elim (λ (j : k ≤ at). inl j) (λ (j : at + (n + m) ≤ k). inr (omega arith)) o.off;
    }

rest_outside : (k at n m previous : ℕ) → Outside k at (n + m) previous → 0 < n → Outside k (at + n) m (at + n)
rest_outside k at n m previous o s =
    record {
      link = o.link;
      other = λ z e. ⊎_elim (λ (j : k ≤ at). omega arith) (λ (j : at + (n + m) ≤ k). omega arith) o.off;
      off = ⊎_elim (λ (j : k ≤ at). inl (omega arith)) (λ (j : at + (n + m) ≤ k). inr (omega arith)) o.off;
    }

mutual
  unfolding pat_lines nodes

  pat_unnamed : (p : Pat) (k at previous f : ℕ) → Outside k at (nodes p) previous → Unnamed k (pat_lines p at previous f)
  pat_unnamed PWild k at previous f o = leaf_apart k at previous f 0 0 o
  pat_unnamed (PVar v) k at previous f o = leaf_apart k at previous f 1 v o
  pat_unnamed (PConst c) k at previous f o = leaf_apart k at previous f 2 c o
  pat_unnamed (PCtor n ps) k at previous f o =
      unnamed_append k (part_lines ps at 0).lines _ (parts_unnamed ps k at 0 (inner_outside k at (nodes_of_parts ps) previous o)) (own_apart ps k at previous f 3 n o)
  pat_unnamed (PRecord n ps) k at previous f o =
      unnamed_append k (part_lines ps at 0).lines _ (parts_unnamed ps k at 0 (inner_outside k at (nodes_of_parts ps) previous o)) (own_apart ps k at previous f 4 n o)
  pat_unnamed (PTuple ps) k at previous f o =
      unnamed_append k (part_lines ps at 0).lines _ (parts_unnamed ps k at 0 (inner_outside k at (nodes_of_parts ps) previous o)) (own_apart ps k at previous f 5 0 o)
  pat_unnamed (POr ps) k at previous f o =
      unnamed_append k (part_lines ps at 0).lines _ (parts_unnamed ps k at 0 (inner_outside k at (nodes_of_parts ps) previous o)) (own_apart ps k at previous f 6 0 o)

  parts_unnamed : (ps : Pats) (k at previous : ℕ) → Outside k at (nodes_of_parts ps) previous → Unnamed k (part_lines ps at previous).lines
  parts_unnamed no_parts k at previous o = tt
  parts_unnamed (part f p ps) k at previous o =
      let x : List (List ℕ) = pat_lines p at previous f in
      let e : length x ≡ nodes p = pat_lines_length p at previous f in
      unnamed_append k x _ (pat_unnamed p k at previous f (first_outside k at (nodes p) (nodes_of_parts ps) previous o (nodes_some p))) (parts_unnamed ps k (at + length x) (at + length x) (rw e (rest_outside k at (nodes p) (nodes_of_parts ps) previous o (nodes_some p))))

-- no link is over n
abbrev Lower : ℕ → List Line → Type 0
Lower n ls = Every (λ l. (last_of l ≤ n) × (previous_of l ≤ n)) ls

lower_append : (n : ℕ) (xs ys : List (List ℕ)) → Lower n (rows xs) → Lower n (rows ys) → Lower n (rows (xs ++ ys))
lower_append n xs ys h i = rw (rows_append xs ys) (every_append (λ l. (last_of l ≤ n) × (previous_of l ≤ n)) (rows xs) (rows ys) h i)

own_lower : (ps : Pats) (at previous f kind n m : ℕ) → previous ≤ at → at + (1 + nodes_of_parts ps) ≤ m
    → Lower m (rows ((kind ∷ n ∷ (part_lines ps at 0).last ∷ previous ∷ f ∷ []) ∷ []))
own_lower ps at previous f kind n m h i =
    ((⊎_elim (λ (j : (part_lines ps at 0).last ≡ 0). omega arith) (λ (j : (0 < nodes_of_parts ps) × ((part_lines ps at 0).last ≡ at + nodes_of_parts ps)). omega arith) (last_here ps at 0), omega arith), tt)

mutual
  unfolding pat_lines nodes

  pat_lower : (p : Pat) (at previous f m : ℕ) → previous ≤ at → at + nodes p ≤ m → Lower m (rows (pat_lines p at previous f))
  pat_lower PWild at previous f m h i = ((omega arith, omega arith), tt)
  pat_lower (PVar v) at previous f m h i = ((omega arith, omega arith), tt)
  pat_lower (PConst c) at previous f m h i = ((omega arith, omega arith), tt)
  pat_lower (PCtor n ps) at previous f m h i =
      lower_append m (part_lines ps at 0).lines _ (parts_lower ps at 0 m (omega arith) (omega arith)) (own_lower ps at previous f 3 n m h i)
  pat_lower (PRecord n ps) at previous f m h i =
      lower_append m (part_lines ps at 0).lines _ (parts_lower ps at 0 m (omega arith) (omega arith)) (own_lower ps at previous f 4 n m h i)
  pat_lower (PTuple ps) at previous f m h i =
      lower_append m (part_lines ps at 0).lines _ (parts_lower ps at 0 m (omega arith) (omega arith)) (own_lower ps at previous f 5 0 m h i)
  pat_lower (POr ps) at previous f m h i =
      lower_append m (part_lines ps at 0).lines _ (parts_lower ps at 0 m (omega arith) (omega arith)) (own_lower ps at previous f 6 0 m h i)

  parts_lower : (ps : Pats) (at previous m : ℕ) → previous ≤ at → at + nodes_of_parts ps ≤ m → Lower m (rows (part_lines ps at previous).lines)
  parts_lower no_parts at previous m h i = tt
  parts_lower (part f p ps) at previous m h i =
      let x : List (List ℕ) = pat_lines p at previous f in
      let e : length x ≡ nodes p = pat_lines_length p at previous f in
      lower_append m x _ (pat_lower p at previous f m h (omega arith)) (parts_lower ps (at + length x) (at + length x) m (omega arith) (omega arith))

-- a number over all links is named by none
lower_apart : (n k : ℕ) (ls : List Line) → n < k → Lower n ls → Every (λ l. Apart l k) ls
lower_apart n k ls h =
    every_map (λ l. (last_of l ≤ n) × (previous_of l ≤ n)) (λ l. Apart l k) (λ l i. record { last = λ e. omega arith; previous = λ e. omega arith }) ls

lower_more : (n m : ℕ) (ls : List Line) → n ≤ m → Lower n ls → Lower m ls
lower_more n m ls h =
    every_map (λ l. (last_of l ≤ n) × (previous_of l ≤ n)) (λ l. (last_of l ≤ m) × (previous_of l ≤ m)) (λ l i. (omega arith, omega arith)) ls

-- ---- fields
-- the line that ends a pattern's lines has the part's field
snoc_field : (ks : List Line) (xs : List (List ℕ)) (kind n last previous f : ℕ)
    → field_of (nth_line (ks ++ rows (xs ++ ((kind ∷ n ∷ last ∷ previous ∷ f ∷ []) ∷ []))) (length ks + length (xs ++ ((kind ∷ n ∷ last ∷ previous ∷ f ∷ []) ∷ [])) - 1)) ≡ f
snoc_field ks xs kind n last previous f =
    ap (λ (ls : List Line). field_of (nth_line ls i)) (ap (λ (ls : List Line). ks ++ ls) (rows_append xs (o ∷ [])) ∙ sym (append_assoc ks (rows xs) (row pattern_line o ∷ [])))
    ∙ ap field_of (get_or_at (ks ++ rows xs) (row pattern_line o) [] bad i (omega (arith, length-append ks (rows xs), length-map xs (row pattern_line), length-append xs (o ∷ []))))
  where
    o : List ℕ
    o = kind ∷ n ∷ last ∷ previous ∷ f ∷ []

    i : ℕ
    i = length ks + length (xs ++ (o ∷ [])) - 1

end_field : (p : Pat) (ks : List Line) (at previous f : ℕ)
    → field_of (nth_line (ks ++ rows (pat_lines p at previous f)) (length ks + length (pat_lines p at previous f) - 1)) ≡ f
unfolding pat_lines
end_field PWild ks at previous f = snoc_field ks [] 0 0 0 previous f
end_field (PVar v) ks at previous f = snoc_field ks [] 1 v 0 previous f
end_field (PConst c) ks at previous f = snoc_field ks [] 2 c 0 previous f
end_field (PCtor n ps) ks at previous f = snoc_field ks (part_lines ps at 0).lines 3 n (part_lines ps at 0).last previous f
end_field (PRecord n ps) ks at previous f = snoc_field ks (part_lines ps at 0).lines 4 n (part_lines ps at 0).last previous f
end_field (PTuple ps) ks at previous f = snoc_field ks (part_lines ps at 0).lines 5 0 (part_lines ps at 0).last previous f
end_field (POr ps) ks at previous f = snoc_field ks (part_lines ps at 0).lines 6 0 (part_lines ps at 0).last previous f

-- ---- patterns whose lines pass
module _ (names : ℕ) where
  -- a part's field: a name plus one, or none
  abbrev pub Fits : Bool → ℕ → Type 0
  Fits true f = (0 < f) × (f ≤ names)
  Fits false f = f ≡ 0

  -- Names are names, and the parts of records have fields, those of others none.
  abbrev mutual
    pub Well : Pat → Type 0
    Well PWild = Unit {0}
    Well (PVar v) = v < names
    Well (PConst c) = Unit {0}
    Well (PCtor n ps) = (n < names) × Wells false ps
    Well (PRecord n ps) = (n < names) × Wells true ps
    Well (PTuple ps) = Wells false ps
    Well (POr ps) = Wells false ps

    pub Wells : Bool → Pats → Type 0
    Wells b no_parts = Unit {0}
    Wells b (part f p ps) = Fits b f × (Well p × Wells b ps)

  fits_test : (b : Bool) (f : ℕ) → Fits b f → eqb f 0 ≡ not b
  fits_test true f h = ne_eqb f 0 (λ e. omega arith)
  fits_test false f h = eq-eqb f 0 h

  fits_name : (b : Bool) (f : ℕ) → Fits b f → f ≤ names
  fits_name true f h = h.1
  fits_name false f h = omega arith

  -- the field of the line that a link names
  abbrev field_to : List Line → ℕ → ℕ
  field_to ks k = field_of (nth_line ks (k - 1))

  last_field : (b : Bool) (ps : Pats) → Wells b ps → (ks : List Line) (at previous : ℕ) → length ks ≡ at
      → (0 < previous → eqb (field_to ks previous) 0 ≡ not b)
      → 0 < (part_lines ps at previous).last
      → eqb (field_to (ks ++ rows (part_lines ps at previous).lines) (part_lines ps at previous).last) 0 ≡ not b
  unfolding part_lines
  last_field b no_parts w ks at previous e h i = ap (λ (ls : List Line). eqb (field_to ls previous) 0) (append-nil ks) ∙ h i
  last_field b (part f p ps) w ks at previous e h i =
      let x : List (List ℕ) = pat_lines p at previous f in
      let n : ℕ = at + length x in
      let r : PartLines = part_lines ps n n in
      ap (λ (ls : List Line). eqb (field_to ls r.last) 0) (ap (λ (ls : List Line). ks ++ ls) (rows_append x r.lines) ∙ sym (append_assoc ks (rows x) (rows r.lines)))
      ∙ last_field b ps w.1.1 (ks ++ rows x) n n (length-append ks (rows x) ∙ (omega (arith, length-map x (row pattern_line)))) (λ z. ap (λ (k : ℕ). eqb k 0) (ap (λ (k : ℕ). field_to (ks ++ rows x) (k + length x)) (sym e) ∙ end_field p ks at previous f) ∙ fits_test b f w.0) i

  -- ---- a line behind others
  record Fresh (ks : List Line) (k : ℕ) : Type 0 where
    lower : k ≤ length ks
    unnamed : 0 < k → Every (λ l. Apart l k) ks

  record GoodAfter (ks : List Line) (l : Line) : Type 0 where
    kind : kind_of l ≤ 6
    name : good_name names l ≡ true
    last : Fresh ks (last_of l)
    previous : Fresh ks (previous_of l)
    two : 0 < last_of l → last_of l ≡ previous_of l → ⊥
    field : field_of l ≤ names
    before : 0 < previous_of l → eqb (field_to ks (previous_of l)) 0 ≡ eqb (field_of l) 0
    leaf : kind_of l ≤ 2 → last_of l ≡ 0
    parts : 2 < kind_of l → 0 < last_of l → eqb (field_to ks (last_of l)) 0 ≡ not (eqb (kind_of l) 4)

  abbrev AllAfter : List Line → List Line → Type 0
  AllAfter ks [] = Unit {0}
  AllAfter ks (l ∷ ls) = GoodAfter ks l × AllAfter (ks ++ (l ∷ [])) ls

  all_append : (ks xs ys : List Line) → AllAfter ks xs → AllAfter (ks ++ xs) ys → AllAfter ks (xs ++ ys)
  all_append ks [] ys h i = rw (append-nil ks) at i
  all_append ks (x ∷ xs) ys h i = (h.0, all_append (ks ++ (x ∷ [])) xs ys h.1 (rw (append_assoc ks (x ∷ []) xs) i))

  rows_all : (ks : List Line) (xs ys : List (List ℕ)) → AllAfter ks (rows xs) → AllAfter (ks ++ rows xs) (rows ys) → AllAfter ks (rows (xs ++ ys))
  rows_all ks xs ys h i = rw (rows_append xs ys) (all_append ks (rows xs) (rows ys) h i)

  -- where a part goes: behind the lines ks, in a list of which `previous` is the part before it
  record Placed (ks : List Line) (at previous f : ℕ) : Type 0 where
    size : length ks ≡ at
    lower : Lower at ks
    low : previous ≤ at
    fresh : 0 < previous → Every (λ l. Apart l previous) ks
    agree : 0 < previous → eqb (field_to ks previous) 0 ≡ eqb f 0

  leaf_good : (ks : List Line) (at previous f kind n : ℕ) → Placed ks at previous f → f ≤ names → kind ≤ 2
      → good_name names (row pattern_line (kind ∷ n ∷ 0 ∷ previous ∷ f ∷ [])) ≡ true → AllAfter ks (rows ((kind ∷ n ∷ 0 ∷ previous ∷ f ∷ []) ∷ []))
  leaf_good ks at previous f kind n p h k g = (
    record {
      kind = omega arith;
      name = g;
      last = record { lower = omega arith; unnamed = λ z. absurd (omega arith) };
      previous = record { lower = omega (arith, p.size, p.low); unnamed = p.fresh };
      two = λ z. absurd (omega arith);
      field = h;
      before = p.agree;
      leaf = λ z. refl;
      parts = λ z. absurd (omega arith);
    },
    tt,
  )

  -- a line behind the lines of its parts
  own_good : (ks : List Line) (at previous f kind n : ℕ) (ps : Pats) → Placed ks at previous f → f ≤ names → 2 < kind → kind ≤ 6
      → Wells (eqb kind 4) ps
      → good_name names (row pattern_line (kind ∷ n ∷ (part_lines ps at 0).last ∷ previous ∷ f ∷ [])) ≡ true
      → AllAfter (ks ++ rows (part_lines ps at 0).lines) (rows ((kind ∷ n ∷ (part_lines ps at 0).last ∷ previous ∷ f ∷ []) ∷ []))
  own_good ks at previous f kind n ps p h k k' w g = (
    record {
      kind = k';
      name = g;
      last = record { lower = last_low; unnamed = λ z. every_append (λ l. Apart l last) ks (rows xs) (lower_apart at last ks (is_here z).1 p.lower) (parts_unnamed ps last at 0 (last_outside z)) };
      previous = record {
        lower = omega (arith, p.low, size);
        unnamed = λ z. every_append (λ l. Apart l previous) ks (rows xs) (p.fresh z) (parts_unnamed ps previous at 0 (record { link = z; other = λ i e. omega arith; off = inl p.low }));
      };
      two = λ z e. omega (arith, (is_here z).1, p.low);
      field = h;
      before = λ z. ap (λ (l : Line). eqb (field_of l) 0) (get_or-append ks (rows xs) bad (previous - 1) (omega (arith, p.low, p.size))) ∙ p.agree z;
      leaf = λ z. absurd (omega arith);
      parts = λ z i. last_field (eqb kind 4) ps w ks at 0 p.size (λ j. absurd (omega arith)) i;
    },
    tt,
  )
    where
      xs : List (List ℕ)
      xs = (part_lines ps at 0).lines

      last : ℕ
      last = (part_lines ps at 0).last

      size : length (ks ++ rows xs) ≡ at + nodes_of_parts ps
      size = omega (arith, p.size, length-append ks (rows xs), length-map xs (row pattern_line), part_lines_length ps at 0)

      is_here : 0 < last → (last ≡ at + nodes_of_parts ps) × (at < last)
      is_here z =
          ⊎_elim (λ (i : last ≡ 0). absurd (omega arith)) (λ (i : (0 < nodes_of_parts ps) × (last ≡ at + nodes_of_parts ps)). (i.1, omega arith)) (last_here ps at 0)

      last_low : last ≤ length (ks ++ rows xs)
      last_low =
          ⊎_elim (λ (i : last ≡ 0). omega arith) (λ (i : (0 < nodes_of_parts ps) × (last ≡ at + nodes_of_parts ps)). omega (arith, size)) (last_here ps at 0)

      last_outside : 0 < last → Outside last at (nodes_of_parts ps) 0
      last_outside z = record { link = z; other = λ i e. omega arith; off = inr (omega (arith, (is_here z).0)) }

  -- the lists that the parts of a line make
  inner_placed : (ks : List Line) (at previous f : ℕ) → Placed ks at previous f → (g : ℕ) → Placed ks at 0 g
  inner_placed ks at previous f p g =
      record { size = p.size; lower = p.lower; low = omega arith; fresh = λ z. absurd (omega arith); agree = λ z. absurd (omega arith) }

  next_placed : (ks : List Line) (at previous f : ℕ) (p : Pat) (b : Bool) → Placed ks at previous f → Fits b f → (g : ℕ) → Fits b g
      → Placed (ks ++ rows (pat_lines p at previous f)) (at + length (pat_lines p at previous f)) (at + length (pat_lines p at previous f)) g
  next_placed ks at previous f p b d i g j =
      record {
        size = omega (arith, d.size, length-append ks (rows x), length-map x (row pattern_line));
        lower =
            every_append (λ l. (last_of l ≤ n) × (previous_of l ≤ n)) ks (rows x) (lower_more at n ks (omega arith) d.lower) (pat_lower p at previous f n d.low (omega (arith, e)));
        low = omega arith;
        fresh = λ z. every_append (λ l. Apart l n) ks (rows x) (lower_apart at n ks (omega (arith, e, nodes_some p)) d.lower) (pat_unnamed p n at previous f (record { link = z; other = λ s t. omega (arith, e, nodes_some p, d.low); off = inr (omega (arith, e)) }));
        agree = λ z. ap (λ (k : ℕ). eqb k 0) (ap (λ (k : ℕ). field_to (ks ++ rows x) (k + length x)) (sym d.size) ∙ end_field p ks at previous f) ∙ fits_test b f i ∙ sym (fits_test b g j);
      }
    where
      x : List (List ℕ)
      x = pat_lines p at previous f

      n : ℕ
      n = at + length x

      e : length x ≡ nodes p
      e = pat_lines_length p at previous f

  mutual
    unfolding pat_lines good_name

    pat_good : (p : Pat) → Well p → (ks : List Line) (at previous f : ℕ) → Placed ks at previous f → f ≤ names → AllAfter ks (rows (pat_lines p at previous f))
    pat_good PWild w ks at previous f d h = leaf_good ks at previous f 0 0 d h (omega arith) refl
    pat_good (PVar v) w ks at previous f d h = leaf_good ks at previous f 1 v d h (omega arith) (lt-ltb v names w)
    pat_good (PConst c) w ks at previous f d h = leaf_good ks at previous f 2 c d h (omega arith) refl
    pat_good (PCtor n ps) w ks at previous f d h =
        rows_all ks (part_lines ps at 0).lines _ (parts_good false ps w.1 ks at 0 (λ g j. inner_placed ks at previous f d g)) (own_good ks at previous f 3 n ps d h (omega arith) (omega arith) w.1 (lt-ltb n names w.0))
    pat_good (PRecord n ps) w ks at previous f d h =
        rows_all ks (part_lines ps at 0).lines _ (parts_good true ps w.1 ks at 0 (λ g j. inner_placed ks at previous f d g)) (own_good ks at previous f 4 n ps d h (omega arith) (omega arith) w.1 (lt-ltb n names w.0))
    pat_good (PTuple ps) w ks at previous f d h =
        rows_all ks (part_lines ps at 0).lines _ (parts_good false ps w ks at 0 (λ g j. inner_placed ks at previous f d g)) (own_good ks at previous f 5 0 ps d h (omega arith) (omega arith) w refl)
    pat_good (POr ps) w ks at previous f d h =
        rows_all ks (part_lines ps at 0).lines _ (parts_good false ps w ks at 0 (λ g j. inner_placed ks at previous f d g)) (own_good ks at previous f 6 0 ps d h (omega arith) (omega arith) w refl)

    -- wherever a part with a field of this sort can go, the parts can
    parts_good : (b : Bool) (ps : Pats) → Wells b ps → (ks : List Line) (at previous : ℕ) → ((f : ℕ) → Fits b f → Placed ks at previous f)
        → AllAfter ks (rows (part_lines ps at previous).lines)
    parts_good b no_parts w ks at previous d = tt
    parts_good b (part f p ps) w ks at previous d =
        let x : List (List ℕ) = pat_lines p at previous f in
        rows_all ks x _ (pat_good p w.1.0 ks at previous f (d f w.0) (fits_name b f w.0)) (parts_good b ps w.1.1 (ks ++ rows x) (at + length x) (at + length x) (λ g j. next_placed ks at previous f p b (d f w.0) w.0 g j))

  -- ---- row 5
  all_at : (ks ls : List Line) → AllAfter ks ls → (q : ℕ) → q < length ls → GoodAfter (ks ++ take q ls) (nth_line ls q)
  all_at ks [] h q i = absurd (omega arith)
  all_at ks (l ∷ ls) h zero i = rw (append-nil ks) h.0
  all_at ks (l ∷ ls) h (suc q) i = rw (append_assoc ks (l ∷ []) (take q ls)) at (all_at (ks ++ (l ∷ [])) ls h.1 q (omega arith))

  both_true : (a b : Bool) → a ≡ true → b ≡ true → (a && b) ≡ true
  both_true a b e f = ap₂ (λ (x y : Bool). x && y) e f

  or_else : (a b : Bool) → (a ≡ false → b ≡ true) → (a || b) ≡ true
  or_else true b f = refl
  or_else false b f = f refl

  fresh_link : (ls : List Line) (q k : ℕ) → q ≤ length ls → Fresh (take q ls) k → good_link ls q k ≡ true
  unfolding good_link linked_before
  fresh_link ls q k h f =
      or_else (eqb k 0) _ (λ e. both_true (leb k q) _ (le-leb k q low) (ap not (le-ltb (first (names_k) q) q (omega (arith, first_none names_k q (λ j i. none j i (f.unnamed (omega (arith, eqb-false k 0 e)))))))))
    where
      low : k ≤ q
      low = omega (arith, f.lower, length-take-le q ls h)

      names_k : ℕ → Bool
      names_k j = eqb (last_of (nth_line ls j)) k || eqb (previous_of (nth_line ls j)) k

      none : (j : ℕ) → j < q → Every (λ l. Apart l k) (take q ls) → names_k j ≡ false
      none j i a =
          let at_j : Apart (nth_line ls j) k = rw (get_or-take q ls j bad i) at (every_at (λ l. Apart l k) bad (take q ls) a j (omega (arith, length-take-le q ls h))) in
          ap₂ (λ (x y : Bool). x || y) (ne_eqb (last_of (nth_line ls j)) k at_j.last) (ne_eqb (previous_of (nth_line ls j)) k at_j.previous)

  -- the line that a link names, in the lines before
  field_before : (ls : List Line) (q k : ℕ) → 0 < k → k ≤ q → field_to (take q ls) k ≡ field_to ls k
  field_before ls q k z h = ap field_of (get_or-take q ls (k - 1) bad (omega arith))

  previous_true : (a b c : Bool) → (a ≡ false → c ≡ b) → pick a true (pick b c (not c)) ≡ true
  previous_true true b c h = refl
  previous_true false true c h = h refl
  previous_true false false c h = ap not (h refl)

  last_true : (a b k c : Bool) → (a ≡ true → b ≡ true) → (a ≡ false → b ≡ false → c ≡ not k) → pick a b (pick b true (pick k (not c) c)) ≡ true
  last_true true b k c h i = h refl
  last_true false true k c h i = refl
  last_true false false true c h i = ap not (i refl refl)
  last_true false false false c h i = i refl refl

  whole_true : (a b : Bool) → (a ≡ true → b ≡ true) → (not a || b) ≡ true
  whole_true true b h = h refl
  whole_true false b h = refl

  good_of : (ls : List Line) (q : ℕ) → q < length ls → GoodAfter (take q ls) (nth_line ls q)
      → (suc q ≡ length ls → (previous_of (nth_line ls q) ≡ 0) × (field_of (nth_line ls q) ≡ 0)) → good_pattern names ls q ≡ true
  unfolding good_pattern good_previous good_last
  good_of ls q h g w =
      both_true _ _ (both_true _ _ (both_true _ _ (both_true _ _ (both_true _ _ (both_true _ _ (both_true _ _ (both_true _ _ (le-leb (kind_of l) 6 g.kind) g.name) (fresh_link ls q (last_of l) (omega arith) g.last)) (fresh_link ls q (previous_of l) (omega arith) g.previous)) (or_else (eqb (last_of l) 0) _ (λ e. ap not (ne_eqb (last_of l) (previous_of l) (λ d. g.two (some_link (last_of l) e) d))))) (le-leb (field_of l) names g.field)) (previous_true (eqb (previous_of l) 0) (eqb (field_of l) 0) (eqb (linked_field ls (previous_of l)) 0) before)) (last_true (leb (kind_of l) 2) (eqb (last_of l) 0) (eqb (kind_of l) 4) (eqb (linked_field ls (last_of l)) 0) (λ e. eq-eqb (last_of l) 0 (g.leaf (leb-true (kind_of l) 2 e))) parts)) (whole_true (eqb (suc q) (length ls)) _ (λ e. let x = w (eqb-true (suc q) (length ls) e) in both_true _ _ (eq-eqb (previous_of l) 0 x.0) (eq-eqb (field_of l) 0 x.1)))
    where
      l : Line
      l = nth_line ls q

      some_link : (k : ℕ) → eqb k 0 ≡ false → 0 < k
      some_link k e = omega (arith, eqb-false k 0 e)

      size : length (take q ls) ≡ q
      size = length-take-le q ls (omega arith)

      before : eqb (previous_of l) 0 ≡ false → eqb (linked_field ls (previous_of l)) 0 ≡ eqb (field_of l) 0
      before e =
          ap (λ (k : ℕ). eqb k 0) (sym (field_before ls q (previous_of l) (some_link (previous_of l) e) (omega (arith, g.previous.lower, size))))
          ∙ g.before (some_link (previous_of l) e)

      parts : leb (kind_of l) 2 ≡ false → eqb (last_of l) 0 ≡ false → eqb (linked_field ls (last_of l)) 0 ≡ not (eqb (kind_of l) 4)
      parts k e =
          ap (λ (k : ℕ). eqb k 0) (sym (field_before ls q (last_of l) (some_link (last_of l) e) (omega (arith, g.last.lower, size))))
          ∙ g.parts (leb-false (kind_of l) 2 k) (some_link (last_of l) e)

  -- the last line is the whole, whose previous part and field are those given
  snoc_links : (xs : List (List ℕ)) (kind n last previous f q : ℕ) → suc q ≡ length (xs ++ ((kind ∷ n ∷ last ∷ previous ∷ f ∷ []) ∷ []))
      → (previous_of (nth_line (rows (xs ++ ((kind ∷ n ∷ last ∷ previous ∷ f ∷ []) ∷ []))) q) ≡ previous)
      × (field_of (nth_line (rows (xs ++ ((kind ∷ n ∷ last ∷ previous ∷ f ∷ []) ∷ []))) q) ≡ f)
  snoc_links xs kind n last previous f q e = (ap previous_of d, ap field_of d)
    where
      o : List ℕ
      o = kind ∷ n ∷ last ∷ previous ∷ f ∷ []

      d : nth_line (rows (xs ++ (o ∷ []))) q ≡ row pattern_line o
      d =
          ap (λ (ls : List Line). nth_line ls q) (rows_append xs (o ∷ []))
          ∙ get_or_at (rows xs) (row pattern_line o) [] bad q (omega (arith, length-map xs (row pattern_line), length-append xs (o ∷ [])))

  end_links : (p : Pat) (at previous f q : ℕ) → suc q ≡ length (pat_lines p at previous f)
      → (previous_of (nth_line (rows (pat_lines p at previous f)) q) ≡ previous) × (field_of (nth_line (rows (pat_lines p at previous f)) q) ≡ f)
  unfolding pat_lines
  end_links PWild at previous f q e = snoc_links [] 0 0 0 previous f q e
  end_links (PVar v) at previous f q e = snoc_links [] 1 v 0 previous f q e
  end_links (PConst c) at previous f q e = snoc_links [] 2 c 0 previous f q e
  end_links (PCtor n ps) at previous f q e = snoc_links (part_lines ps at 0).lines 3 n (part_lines ps at 0).last previous f q e
  end_links (PRecord n ps) at previous f q e = snoc_links (part_lines ps at 0).lines 4 n (part_lines ps at 0).last previous f q e
  end_links (PTuple ps) at previous f q e = snoc_links (part_lines ps at 0).lines 5 0 (part_lines ps at 0).last previous f q e
  end_links (POr ps) at previous f q e = snoc_links (part_lines ps at 0).lines 6 0 (part_lines ps at 0).last previous f q e

  placed_first : Placed [] 0 0 0
  placed_first = record { size = refl; lower = tt; low = omega arith; fresh = λ z. absurd (omega arith); agree = λ z. absurd (omega arith) }

  -- The lines written for a pattern pass row 5.
  pub written_good : (p : Pat) → Well p → AllGood names (map (row pattern_line) (pat_lines p 0 0 0))
  written_good p w q h =
      good_of ls q h (all_at [] ls (pat_good p w [] 0 0 0 placed_first (omega arith)) q h) (λ e. end_links p 0 0 0 q (e ∙ length-map (pat_lines p 0 0 0) (row pattern_line)))
    where
      ls : List Line
      ls = rows (pat_lines p 0 0 0)
