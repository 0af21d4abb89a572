-- The pattern of an accepted sheet: every `PCtor` of a declared constructor has a part for each of its fields (row 13). Assumes
-- nothing.
use Rattle.std.specs.Prelude.{◌≡◌, Bool, length, get_or}
use Rattle.std.proofs.Math.Path.{refl, subst}
use Rattle.std.proofs.Common.{ap, ◌∙◌, arith}
use mathlib.Core.List.{List, [], ◌∷◌, ◌++◌}
use Rattle.std.proofs.Math.Bool.{true, false}
use Rattle.std.proofs.Math.Option.{Option}
use Prim.Native.Nat.{ℕ, zero, suc, ◌+◌, ◌-◌, ◌≤◌, ◌<◌}
use Rattle.std.proofs.Math.Dec.{eqb}
use Rattle.std.proofs.Math.ListN.{length-append, get_or-append}
use Rattle.number_columns.specs.Column.{◌⇒◌∥◌}
use Rattle.sheet.specs.Line.{Line}
use Rattle.sheet.proofs.ListLaws.{Every, every_append}
use Rattle.model.specs.Decl.{Decl}
use Rattle.model_patterns.specs.Pat.{Pat, Pats, PWild, PVar, PConst, PCtor, PRecord, PTuple, POr, no_parts, part, parts, Owner, Slots, Counted, Counteds}
use Rattle.meaning.specs.Rows.{nth_line}
use Rattle.pattern_laws.specs.Linked.{AllGood, linked_is}
use Rattle.meaning_patterns.specs.Patterns.{
  kind_of,
  name_of,
  last_of,
  previous_of,
  field_of,
  Piece,
  no_piece,
  list_to,
  and_last,
  pattern_of,
  piece,
  pieces_after,
  pieces,
  pattern,
  declared_fields,
  miscounts,
  row13,
}

-- ---- links
-- a link to a line that is there is not moved by later lines
list_to_after : (ls : List Line) (ps : List Piece) (k : ℕ) → k ≤ length ps → list_to (pieces_after ps ls) k ≡ list_to ps k
unfolding pieces_after list_to
list_to_after [] ps k h = refl
list_to_after (l ∷ ls) ps k h = list_to_after ls (ps ++ (piece ps l ∷ [])) k (rw length-append (omega arith)) ∙ kept k h
  where
    kept : (k : ℕ) → k ≤ length ps → list_to (ps ++ (piece ps l ∷ [])) k ≡ list_to ps k
    kept zero h = refl
    kept (suc k) h = ap (λ (p : Piece). p.list) (get_or-append ps (piece ps l ∷ []) no_piece k (omega arith))

module _ (owner : ℕ → Option Owner) where
  -- ---- a line's piece, from those of lower lines
  abbrev CountedPiece : Piece → Type 0
  CountedPiece p = Counted owner p.pat × Counteds owner p.list

  counted_list : (ps : List Piece) → Every CountedPiece ps → (k : ℕ) → Counteds owner (list_to ps k)
  unfolding list_to
  counted_list ps h zero = tt
  counted_list [] h (suc k) = tt
  counted_list (p ∷ ps) h (suc zero) = h.0.1
  counted_list (p ∷ ps) h (suc (suc k)) = counted_list ps h.1 (suc k)

  counted_last : (ps : Pats) (f : ℕ) (p : Pat) → Counteds owner ps → Counted owner p → Counteds owner (and_last ps f p)
  unfolding and_last
  counted_last no_parts f p h k = (k, tt)
  counted_last (part g q qs) f p h k = (h.0, counted_last qs f p h.1 k)

  counted_pattern : (kind n : ℕ) (ps : Pats) → (eqb kind 3 ≡ true → Slots (owner n) (parts ps)) → Counteds owner ps → Counted owner (pattern_of kind n ps)
  unfolding pattern_of
  counted_pattern kind n ps s h = go (eqb kind 1) (eqb kind 2) (eqb kind 3) (eqb kind 4) (eqb kind 5) (eqb kind 6) s
    where
      go : (a b c d e f : Bool) → (c ≡ true → Slots (owner n) (parts ps)) → Counted owner (a ⇒ PVar n ∥ b ⇒ PConst n ∥ c ⇒ PCtor n ps ∥ d ⇒ PRecord n ps ∥ e ⇒ PTuple ps ∥ f ⇒ POr ps ∥ PWild)
      go true b c d e f s = tt
      go false true c d e f s = tt
      go false false true d e f s = (s refl, h)
      go false false false true e f s = h
      go false false false false true f s = h
      go false false false false false true s = h
      go false false false false false false s = tt

  counted_piece : (ps : List Piece) (l : Line) → Every CountedPiece ps → (eqb (kind_of l) 3 ≡ true → Slots (owner (name_of l)) (parts (list_to ps (last_of l)))) → CountedPiece (piece ps l)
  unfolding piece
  counted_piece ps l h s =
      let k : Counted owner (pattern_of (kind_of l) (name_of l) (list_to ps (last_of l))) = counted_pattern (kind_of l) (name_of l) (list_to ps (last_of l)) s (counted_list ps h (last_of l)) in
      (k, counted_last (list_to ps (previous_of l)) (field_of l) (pattern_of (kind_of l) (name_of l) (list_to ps (last_of l))) (counted_list ps h (previous_of l)) k)

  -- ---- all lines
  -- the lines ls behind those of the pieces ps: last parts are lower, and row 13 does not apply
  counted_after : (ls : List Line) (ps : List Piece) → Every CountedPiece ps
      → ((j : ℕ) → j < length ls → last_of (nth_line ls j) ≤ length ps + j)
      → ((j : ℕ) → j < length ls → eqb (kind_of (nth_line ls j)) 3 ≡ true → Slots (owner (name_of (nth_line ls j))) (parts (list_to (pieces_after ps ls) (last_of (nth_line ls j)))))
      → Every CountedPiece (pieces_after ps ls)
  unfolding pieces_after
  counted_after [] ps h low s = h
  counted_after (l ∷ ls) ps h low s =
      counted_after ls (ps ++ (piece ps l ∷ [])) (every_append CountedPiece ps (piece ps l ∷ []) h (counted_piece ps l h first_slots, tt))
      (λ j k. rw length-append (omega (arith, low (suc j) (omega arith))))
      (λ j k. s (suc j) (omega arith))
    where
      first_slots : eqb (kind_of l) 3 ≡ true → Slots (owner (name_of l)) (parts (list_to ps (last_of l)))
      first_slots e = subst (λ (x : Pats). Slots (owner (name_of l)) (parts x)) (list_to_after (l ∷ ls) ps (last_of l) (omega (arith, low 0 (omega arith)))) (s 0 (omega arith) e)

  counted_at : (ps : List Piece) → Every CountedPiece ps → (k : ℕ) → Counted owner (get_or ps k no_piece).pat
  counted_at [] h k = tt
  counted_at (p ∷ ps) h zero = h.0.0
  counted_at (p ∷ ps) h (suc k) = counted_at ps h.1 k

  -- Where row 5 and row 13 pass, the pattern is counted.
  pub pattern_counted : (names : ℕ) (ds : List Decl) (qs : List Line) → ((n k : ℕ) → miscounts (declared_fields ds n) k ≡ false → Slots (owner n) k)
      → AllGood names qs → ((q : ℕ) → q < length qs → row13 ds qs q ≡ false) → Counted owner (pattern qs)
  unfolding pattern row13
  pattern_counted names ds qs slots good count =
      counted_at (pieces qs)
      (counted_after qs [] tt (λ j h. omega (arith, (linked_is names qs good).last j h)) (λ j h e. slots (name_of (nth_line qs j)) (parts (list_to (pieces qs) (last_of (nth_line qs j)))) (on j e (count j h))))
      (length qs - 1)
    where
      on : (j : ℕ) → eqb (kind_of (nth_line qs j)) 3 ≡ true
          → elim (eqb (kind_of (nth_line qs j)) 3) [ true ↦ miscounts (declared_fields ds (name_of (nth_line qs j))) (parts (list_to (pieces qs) (last_of (nth_line qs j)))) | false ↦ false ] ≡ false
          → miscounts (declared_fields ds (name_of (nth_line qs j))) (parts (list_to (pieces qs) (last_of (nth_line qs j)))) ≡ false
      on j e h = rw e at h
