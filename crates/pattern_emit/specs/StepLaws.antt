-- What each step of the code writes, by the numbers that it has read from the line that link k names. Assumes nothing.
use Rattle.std.proofs.Math.Path.{◌≡◌, ap}
use Rattle.std.specs.Prelude.{refl, List, [], ◌∷◌, ◌++◌, map, Bool, eqb, get_or, take, drop}
use Rattle.std.proofs.Common.{sym, ◌∙◌, arith, length-append, take_at, ne_eqb, eqb-true}
use Rattle.std.proofs.lemmas.List.{map-append, length-map}
use Rattle.std.proofs.Math.Bool.{true, false}
use Prim.Native.Nat.{ℕ, zero, suc, ◌+◌, ◌*◌, ◌-◌, ◌/◌, ◌≤◌, ◌<◌}
use Rattle.std.proofs.Math.ListN.{length}
use Rattle.std.proofs.lemmas.Bool.{eqb-false}
use Rattle.number_columns.specs.Column.{pick}
use Rattle.sheet.specs.Line.{Line, row}
use Rattle.model_patterns.specs.Pat.{Pat, Pats, PWild, PVar, PConst, PCtor, PRecord, PTuple, POr, no_parts, part, pat_vars, Rewritten, nodes, nodes_of_parts}
use Rattle.meaning.specs.Rows.{nth_line}
use Rattle.meaning_patterns.specs.Patterns.{pattern_line, freed_line, kind_of, name_of, last_of, previous_of, field_of, and_last, pat_lines, part_lines, freed_lines, rewritten_lines}
use Rattle.walk_cells.specs.Cells.{cells, lines_of}
use Rattle.walk_cells.specs.CellsLaws.{length_lines_of, length_cells}
use Rattle.pattern_laws.specs.Made.{Made, no_made, made_to, only, mades, made_of}
use Rattle.pattern_emit.specs.Emit.{behind, own, emitted, emitted_parts, listed, Linked, Asked, Wanted, at_link, mark_to, kept_or, First, Room, Put}
use Rattle.pattern_emit.specs.PutLaws.{put_both, room_first, room_rest, room_next, three_first, three_second, three_third, three_put}
use Rattle.pattern_emit.specs.EmitLaws.{becomes_wild, becomes_only, becomes_own, kept_part, kept_dropped, outer_part, outer_left, inner_part, freed_part, no_emitted, emitted_wild, emitted_more, emitted_own}

freed_append : (ns ms : List ℕ) → freed_lines (ns ++ ms) ≡ freed_lines ns ++ freed_lines ms
freed_append ns ms = map-append (λ n. row freed_line (n ∷ 0 ∷ 0 ∷ 0 ∷ 0 ∷ [])) ns ms

-- ---- own lines
pub own_line : (names : Bool) (kind n last previous f : ℕ) → names ≡ false → own names kind n last previous f ≡ row 81 (kind ∷ n ∷ last ∷ previous ∷ f ∷ []) ∷ []
unfolding own
own_line names kind n last previous f e = rw e

pub own_name : (names : Bool) (kind n last previous f : ℕ) → names ≡ true → kind ≡ 1 → own names kind n last previous f ≡ row 85 (n ∷ 0 ∷ 0 ∷ 0 ∷ 0 ∷ []) ∷ []
unfolding own
own_name names kind n last previous f e g = rw (e, g)

pub own_nothing : (names : Bool) (kind n last previous f : ℕ) → names ≡ true → (kind ≡ 1 → ⊥) → own names kind n last previous f ≡ []
unfolding own
own_nothing true kind n last previous f e g = rw (ne_eqb kind 1 g, own)
own_nothing false kind n last previous f e g = let z : ◌≡◌ {A = ℕ} 0 1 = cc in absurd (omega arith)

-- ---- flags
pub kept_parts : (names : Bool) → Wanted names 1
kept_parts names = record { known = omega arith; dropped = λ e. absurd (omega arith) }

pub dropped_names : Wanted true 0
dropped_names = record { known = omega arith; dropped = λ e. refl }

-- ---- marks
-- what is not wild is named by a link
pub mark_some : (xs : List ℕ) (k : ℕ) → (mark_to xs k ≡ 0 → ⊥) → 0 < k
unfolding mark_to
mark_some xs zero n = absurd (n refl)
mark_some xs (suc k) n = omega arith

pub mark_at : (xs : List ℕ) (k : ℕ) → 0 < k → mark_to xs k ≡ get_or xs (k - 1) 0
unfolding mark_to
mark_at xs zero h = absurd (omega arith)
mark_at xs (suc k) h = let e : suc k - 1 ≡ k = omega arith in rw e

-- ---- a link
-- the part before it is a lower line
pub lower_link : (q : List ℕ) → Linked (lines_of q) → (k : ℕ) → 0 < k → k ≤ length q / 6 → (previous : ℕ) → previous ≡ previous_of (nth_line (lines_of q) (k - 1)) → previous < k
lower_link q linked k some inside previous e =
    let n : length (lines_of q) ≡ length q / 6 = length_lines_of q in
    omega (arith, linked.previous (k - 1) (omega arith))

module _ (q xs gs : List ℕ) (asked : Asked q xs gs) (k : ℕ) (some : 0 < k) (inside : k ≤ length q / 6) where
  within : k ≤ length (lines_of q)
  within = omega (arith, length_lines_of q)

  abbrev line : Line
  line = nth_line (lines_of q) (k - 1)

  pub lower_last : (last : ℕ) → last ≡ last_of (nth_line (lines_of q) (k - 1)) → last < k
  lower_last last e = omega (arith, within, asked.linked.last (k - 1) (omega (arith, within)))

  pub lower_previous : (previous : ℕ) → previous ≡ previous_of (nth_line (lines_of q) (k - 1)) → previous < k
  lower_previous previous e = lower_link q asked.linked k some inside previous e

  -- the part that is kept stands for it
  pub only_lines : (names : Bool) (last r at previous f : ℕ) → (mark_to xs k ≡ 0 → ⊥) → (mark_to xs k ≡ 1 → ⊥) → last ≡ last_of (nth_line (lines_of q) (k - 1)) → First q gs last r →
      emitted names (at_link q xs gs k).pat at previous f ≡ emitted names (at_link q xs gs r).pat at previous f
  only_lines names last r at previous f a b e first =
      let m : mark_to xs k ≡ get_or xs (k - 1) 0 = mark_at xs k some in
      ap (λ (p : Pat). emitted names p at previous f) (becomes_only xs gs (lines_of q) asked.linked k some within (λ z. a (m ∙ z)) (λ z. b (m ∙ z)) ∙ (ap (λ (l : ℕ). only (at_link q xs gs l).kept) (sym e) ∙ first.is xs))

  -- its parts, then its own line
  own_lines : (names : Bool) (last kind name at previous f : ℕ) → mark_to xs k ≡ 1 → last ≡ last_of (nth_line (lines_of q) (k - 1)) → kind ≡ kind_of (nth_line (lines_of q) (k - 1)) → name ≡ name_of (nth_line (lines_of q) (k - 1)) →
      emitted names (at_link q xs gs k).pat at previous f ≡ emitted_parts names (at_link q xs gs last).kept at ++ own names kind name (behind at (at + length (emitted_parts names (at_link q xs gs last).kept at))) previous f
  unfolding made_to
  own_lines names last kind name at previous f m e g h =
      let l : k - 1 < length (lines_of q) = omega (arith, within) in
      rw (becomes_own xs gs (lines_of q) asked.linked k some within (sym (mark_at xs k some) ∙ m), e, g, h)
      (emitted_own names (kind_of line) (name_of line) (at_link q xs gs (last_of line)).kept at previous f (asked.linked.kind (k - 1) l) (λ z. ap (λ (n : ℕ). (at_link q xs gs n).kept) (asked.linked.leaf (k - 1) l z)) (asked.linked.unnamed (k - 1) l) (asked.linked.wild (k - 1) l))

  -- a part with the flag, behind those before it
  listed_more : (names : Bool) (flag previous field at : ℕ) → Wanted names flag → get_or gs (k - 1) 0 ≡ flag → previous ≡ previous_of (nth_line (lines_of q) (k - 1)) → field ≡ field_of (nth_line (lines_of q) (k - 1)) →
      listed names flag (at_link q xs gs k) at ≡ listed names flag (at_link q xs gs previous) at ++ emitted names (at_link q xs gs k).pat (at + length (listed names flag (at_link q xs gs previous) at)) (behind at (at + length (listed names flag (at_link q xs gs previous) at))) field
  unfolding emitted
  listed_more true zero previous field at w m e g =
      rw e (ap freed_lines (outer_part xs gs (lines_of q) asked.linked k some within m) ∙ freed_append (at_link q xs gs (previous_of line)).outer (pat_vars (at_link q xs gs k).pat))
  listed_more false zero previous field at w m e g = let z : ◌≡◌ {A = ℕ} 0 1 = cc (w.dropped refl) in absurd (omega arith)
  listed_more names (suc zero) previous field at w m e g =
      rw (e, g) (ap (λ (ps : Pats). emitted_parts names ps at) (kept_part xs gs (lines_of q) asked.linked k some within m) ∙ emitted_more names (at_link q xs gs (previous_of line)).kept (field_of line) (at_link q xs gs k).pat at)
  listed_more names (suc (suc flag)) previous field at w m e g = absurd (omega (arith, w.known))

  -- one with another
  pub listed_left : (names : Bool) (flag previous at : ℕ) → Wanted names flag → (get_or gs (k - 1) 0 ≡ flag → ⊥) → previous ≡ previous_of (nth_line (lines_of q) (k - 1)) → listed names flag (at_link q xs gs k) at ≡ listed names flag (at_link q xs gs previous) at
  listed_left names zero previous at w m e = rw e (ap freed_lines (outer_left xs gs (lines_of q) asked.linked k some within m))
  listed_left names (suc zero) previous at w m e =
      rw e (ap (λ (ps : Pats). emitted_parts names ps at) (kept_dropped xs gs (lines_of q) asked.linked k some within m))
  listed_left names (suc (suc flag)) previous at w m e = absurd (omega (arith, w.known))

  -- names freed in parts
  inner_lines : (previous last : ℕ) → previous ≡ previous_of (nth_line (lines_of q) (k - 1)) → last ≡ last_of (nth_line (lines_of q) (k - 1)) →
      freed_lines (at_link q xs gs k).inner ≡ freed_lines (at_link q xs gs previous).inner ++ (freed_lines (at_link q xs gs last).inner ++ freed_lines (at_link q xs gs last).outer)
  inner_lines previous last e f =
      rw (e, f)
      (ap freed_lines (inner_part xs gs (lines_of q) asked.linked k some within)
      ∙ (freed_append (at_link q xs gs (previous_of line)).inner ((at_link q xs gs (last_of line)).inner ++ (at_link q xs gs (last_of line)).outer)
      ∙ ap (λ (l : List Line). freed_lines (at_link q xs gs (previous_of line)).inner ++ l) (freed_append (at_link q xs gs (last_of line)).inner (at_link q xs gs (last_of line)).outer)))

  pub freed_lines_of : (last : ℕ) → last ≡ last_of (nth_line (lines_of q) (k - 1)) → freed_lines (at_link q xs gs k).freed ≡ freed_lines (at_link q xs gs last).inner ++ freed_lines (at_link q xs gs last).outer
  freed_lines_of last e =
      rw e (ap freed_lines (freed_part xs gs (lines_of q) asked.linked k some within) ∙ freed_append (at_link q xs gs (last_of line)).inner (at_link q xs gs (last_of line)).outer)

  -- its parts and then its own line, as they are put
  module _ (names : Bool) (last kind name at previous f : ℕ) (out : List ℕ) (m : mark_to xs k ≡ 1) (e : last ≡ last_of (nth_line (lines_of q) (k - 1))) (g : kind ≡ kind_of (nth_line (lines_of q) (k - 1))) (h : name ≡ name_of (nth_line (lines_of q) (k - 1))) (room : Room (emitted names (at_link q xs gs k).pat at previous f) out at) where
    abbrev own_at : ℕ → List Line
    own_at r = own names kind name (behind at r) previous f

    pub own_first : Room (listed names 1 (at_link q xs gs last) at) out at
    own_first = room_first (listed names 1 (at_link q xs gs last) at) own_at (emitted names (at_link q xs gs k).pat at previous f) out at (own_lines names last kind name at previous f m e g h) room

    module _ (r : ℕ) (mid : List ℕ) (put : Put (listed names 1 (at_link q xs gs last) at) out at r mid) where
      pub own_next : r < 4294967296
      own_next = room_next (listed names 1 (at_link q xs gs last) at) own_at (emitted names (at_link q xs gs k).pat at previous f) out at (own_lines names last kind name at previous f m e g h) room r mid put

      pub own_rest : (b : ℕ) → b ≡ behind at r → Room (own names kind name b previous f) mid r
      own_rest b c =
          rw c (room_rest (listed names 1 (at_link q xs gs last) at) own_at (emitted names (at_link q xs gs k).pat at previous f) out at (own_lines names last kind name at previous f m e g h) room r mid put)

      pub own_put : (b : ℕ) → b ≡ behind at r → (s : ℕ) (res : List ℕ) → Put (own names kind name b previous f) mid r s res → Put (emitted names (at_link q xs gs k).pat at previous f) out at s res
      own_put b c s res rest =
          put_both (listed names 1 (at_link q xs gs last) at) own_at (emitted names (at_link q xs gs k).pat at previous f) out at (own_lines names last kind name at previous f m e g h) room r mid put s res (rw c at rest)

  -- the parts before it and then a part, as they are put
  module _ (names : Bool) (flag previous field at : ℕ) (out : List ℕ) (wanted : Wanted names flag) (m : get_or gs (k - 1) 0 ≡ flag) (e : previous ≡ previous_of (nth_line (lines_of q) (k - 1))) (g : field ≡ field_of (nth_line (lines_of q) (k - 1))) (room : Room (listed names flag (at_link q xs gs k) at) out at) where
    abbrev part_at : ℕ → List Line
    part_at r = emitted names (at_link q xs gs k).pat r (behind at r) field

    pub part_first : Room (listed names flag (at_link q xs gs previous) at) out at
    part_first = room_first (listed names flag (at_link q xs gs previous) at) part_at (listed names flag (at_link q xs gs k) at) out at (listed_more names flag previous field at wanted m e g) room

    module _ (r : ℕ) (mid : List ℕ) (put : Put (listed names flag (at_link q xs gs previous) at) out at r mid) where
      pub part_next : r < 4294967296
      part_next = room_next (listed names flag (at_link q xs gs previous) at) part_at (listed names flag (at_link q xs gs k) at) out at (listed_more names flag previous field at wanted m e g) room r mid put

      pub part_rest : (b : ℕ) → b ≡ behind at r → Room (emitted names (at_link q xs gs k).pat r b field) mid r
      part_rest b c =
          rw c (room_rest (listed names flag (at_link q xs gs previous) at) part_at (listed names flag (at_link q xs gs k) at) out at (listed_more names flag previous field at wanted m e g) room r mid put)

      pub part_put : (b : ℕ) → b ≡ behind at r → (s : ℕ) (res : List ℕ) → Put (emitted names (at_link q xs gs k).pat r b field) mid r s res → Put (listed names flag (at_link q xs gs k) at) out at s res
      part_put b c s res rest =
          put_both (listed names flag (at_link q xs gs previous) at) part_at (listed names flag (at_link q xs gs k) at) out at (listed_more names flag previous field at wanted m e g) room r mid put s res (rw c at rest)

  -- the names freed in the parts before it, in its parts, and with them, as they are put
  module _ (previous last at : ℕ) (out : List ℕ) (e : previous ≡ previous_of (nth_line (lines_of q) (k - 1))) (f : last ≡ last_of (nth_line (lines_of q) (k - 1))) (room : Room (freed_lines (at_link q xs gs k).inner) out at) where
    pub inner_first : Room (freed_lines (at_link q xs gs previous).inner) out at
    inner_first =
        three_first (freed_lines (at_link q xs gs previous).inner) (freed_lines (at_link q xs gs last).inner) (freed_lines (at_link q xs gs last).outer) (freed_lines (at_link q xs gs k).inner) out at (inner_lines previous last e f) room

    module _ (r : ℕ) (mid : List ℕ) (put : Put (freed_lines (at_link q xs gs previous).inner) out at r mid) where
      pub inner_second : Room (freed_lines (at_link q xs gs last).inner) mid r
      inner_second =
          three_second (freed_lines (at_link q xs gs previous).inner) (freed_lines (at_link q xs gs last).inner) (freed_lines (at_link q xs gs last).outer) (freed_lines (at_link q xs gs k).inner) out at (inner_lines previous last e f) room r mid put

      module _ (s : ℕ) (end : List ℕ) (more : Put (freed_lines (at_link q xs gs last).inner) mid r s end) where
        pub inner_third : Room (freed_lines (at_link q xs gs last).outer) end s
        inner_third =
            three_third (freed_lines (at_link q xs gs previous).inner) (freed_lines (at_link q xs gs last).inner) (freed_lines (at_link q xs gs last).outer) (freed_lines (at_link q xs gs k).inner) out at (inner_lines previous last e f) room r mid put s end more

        pub inner_put : (t : ℕ) (res : List ℕ) → Put (freed_lines (at_link q xs gs last).outer) end s t res → Put (freed_lines (at_link q xs gs k).inner) out at t res
        inner_put =
            three_put (freed_lines (at_link q xs gs previous).inner) (freed_lines (at_link q xs gs last).inner) (freed_lines (at_link q xs gs last).outer) (freed_lines (at_link q xs gs k).inner) out at (inner_lines previous last e f) room r mid put s end more

-- no link
pub listed_none : (q xs gs : List ℕ) (k : ℕ) → k ≡ 0 → (names : Bool) (flag at : ℕ) → listed names flag (at_link q xs gs k) at ≡ []
unfolding made_to
listed_none q xs gs k e names flag at = rw e (go (eqb flag 1))
  where
    go : (b : Bool) → ◌≡◌ {A = List Line} (elim b [ true ↦ emitted_parts names no_parts at | false ↦ freed_lines [] ]) []
    go true = no_emitted names at
    go false = refl

pub none_inner : (q xs gs : List ℕ) (k : ℕ) → k ≡ 0 → freed_lines (at_link q xs gs k).inner ≡ []
unfolding made_to
none_inner q xs gs k e = rw e

-- what is wild
pub wild_lines : (q xs gs : List ℕ) (asked : Asked q xs gs) (k : ℕ) (inside : k ≤ length q / 6) (names : Bool) (at previous f : ℕ) → mark_to xs k ≡ 0 → emitted names (at_link q xs gs k).pat at previous f ≡ own names 0 0 0 previous f
unfolding made_to
wild_lines q xs gs asked zero inside names at previous f m = emitted_wild names at previous f
wild_lines q xs gs asked (suc k) inside names at previous f m =
    ap (λ (p : Pat). emitted names p at previous f) (becomes_wild xs gs (lines_of q) asked.linked (suc k) (omega arith) (omega (arith, length_lines_of q)) (sym (mark_at xs (suc k) (omega arith)) ∙ m)) ∙ emitted_wild names at previous f

-- ---- the first kept part
-- the first part, or p where there is none
unfoldable pub only_or : Pats → Pat → Pat
only_or no_parts p = p
only_or (part f x ps) p = x

or_wild : (ps : Pats) → only_or ps PWild ≡ only ps
unfolding only_or only
or_wild no_parts = refl
or_wild (part f x ps) = refl

or_last : (ps : Pats) (f : ℕ) (x p : Pat) → only_or (and_last ps f x) p ≡ only_or ps x
unfolding only_or and_last
or_last no_parts f x p = refl
or_last (part g y ps) f x p = refl

-- The search has come from link k to link l: of the parts passed, which stand behind the list that link l ends, link r names the first
-- that is kept.
pub record Searched (q flags : List ℕ) (k l r : ℕ) : Type 0 where
  pub lower : l ≤ k
  pub low : r ≤ k
  pub is : (marks : List ℕ) → only_or (at_link q marks flags l).kept (at_link q marks flags r).pat ≡ only (at_link q marks flags k).kept

pub searched_none : (q gs : List ℕ) (k : ℕ) → Searched q gs k k 0
unfolding made_to
searched_none q gs k = record { lower = omega arith; low = omega arith; is = λ xs. or_wild (at_link q xs gs k).kept }

pub searched_all : (q gs : List ℕ) (k l r : ℕ) → l ≤ 0 → Searched q gs k l r → First q gs k r
unfolding made_to only_or
searched_all q gs k l r h s = record { low = s.low; is = go l h s.is }
  where
    go : (l : ℕ) → l ≤ 0 → ((xs : List ℕ) → only_or (at_link q xs gs l).kept (at_link q xs gs r).pat ≡ only (at_link q xs gs k).kept) → (xs : List ℕ) → only (at_link q xs gs k).kept ≡ (at_link q xs gs r).pat
    go zero h e xs = sym (e xs)
    go (suc l) h e xs = absurd (omega arith)

pub searched_more : (q gs : List ℕ) (k l r e previous : ℕ) → Linked (lines_of q) → 0 < l → l ≤ length q / 6 → e ≡ kept_or gs l r → previous ≡ previous_of (nth_line (lines_of q) (l - 1)) → Searched q gs k l r → Searched q gs k previous e
searched_more q gs k l r e previous linked some inside f g s = rw (f, g) (go (eqb (get_or gs (l - 1) 0) 1) refl)
  where
    within : l ≤ length (lines_of q)
    within = omega (arith, length_lines_of q)

    lower : previous_of (nth_line (lines_of q) (l - 1)) < l
    lower = lower_link q linked l some inside (previous_of (nth_line (lines_of q) (l - 1))) refl

    go : (b : Bool) → eqb (get_or gs (l - 1) 0) 1 ≡ b → Searched q gs k (previous_of (nth_line (lines_of q) (l - 1))) (pick b l r)
    go true t =
        record {
          lower = omega (arith, lower, s.lower);
          low = s.lower;
          is = λ xs. sym (or_last (at_link q xs gs (previous_of (nth_line (lines_of q) (l - 1)))).kept (field_of (nth_line (lines_of q) (l - 1))) (at_link q xs gs l).pat (at_link q xs gs r).pat) ∙ (ap (λ (ps : Pats). only_or ps (at_link q xs gs r).pat) (sym (kept_part xs gs (lines_of q) linked l some within (eqb-true (get_or gs (l - 1) 0) 1 t))) ∙ s.is xs);
        }
    go false t =
        record {
          lower = omega (arith, lower, s.lower);
          low = s.low;
          is = λ xs. ap (λ (ps : Pats). only_or ps (at_link q xs gs r).pat) (sym (kept_dropped xs gs (lines_of q) linked l some within (eqb-false (get_or gs (l - 1) 0) 1 t))) ∙ s.is xs;
        }

-- ---- the whole
-- a line for each node
mutual
  unfolding pat_lines part_lines nodes nodes_of_parts

  nodes_lines : (p : Pat) (at previous f : ℕ) → length (pat_lines p at previous f) ≡ nodes p
  nodes_lines PWild at previous f = refl
  nodes_lines (PVar v) at previous f = refl
  nodes_lines (PConst c) at previous f = refl
  nodes_lines (PCtor n ps) at previous f = simp length-append (omega (arith, nodes_part_lines ps at 0))
  nodes_lines (PRecord n ps) at previous f = simp length-append (omega (arith, nodes_part_lines ps at 0))
  nodes_lines (PTuple ps) at previous f = simp length-append (omega (arith, nodes_part_lines ps at 0))
  nodes_lines (POr ps) at previous f = simp length-append (omega (arith, nodes_part_lines ps at 0))

  nodes_part_lines : (ps : Pats) (at previous : ℕ) → length (part_lines ps at previous).lines ≡ nodes_of_parts ps
  nodes_part_lines no_parts at previous = refl
  nodes_part_lines (part f p ps) at previous =
      simp length-append (omega (arith, nodes_lines p at previous f, nodes_part_lines ps (at + length (pat_lines p at previous f)) (at + length (pat_lines p at previous f))))

-- and one for each freed name
pub length_rewritten : (r : Rewritten) → length (rewritten_lines r) ≡ nodes r.pat + length r.freed
unfolding rewritten_lines
length_rewritten r =
    length-append (map (row pattern_line) (pat_lines r.pat 0 0 0)) (freed_lines r.freed)
    ∙ omega (arith, length-map (pat_lines r.pat 0 0 0) (row pattern_line), nodes_lines r.pat 0 0 0, length-map r.freed (λ n. row freed_line (n ∷ 0 ∷ 0 ∷ 0 ∷ 0 ∷ [])))

room_whole : (r : Rewritten) (out : List ℕ) → 6 * (nodes r.pat + length r.freed) ≤ length out → length out < 4294967296 → Room (rewritten_lines r) out 0
room_whole r out h n = record { enough = omega (arith, length_rewritten r); narrow = n }

-- the lines of the whole, by the link to the last line
whole_lines : (q xs gs : List ℕ) (asked : Asked q xs gs) (last : ℕ) → 6 ≤ length q → last ≡ last_of (nth_line (lines_of q) (length q / 6 - 1)) →
    rewritten_lines (made_of xs gs (lines_of q)) ≡ emitted false (at_link q xs gs (length q / 6)).pat 0 0 0 ++ (freed_lines (at_link q xs gs last).inner ++ freed_lines (at_link q xs gs last).outer)
unfolding rewritten_lines made_of made_to emitted
whole_lines q xs gs asked last h e =
    let n : length (lines_of q) ≡ length q / 6 = length_lines_of q in
    let k : length q / 6 ≡ suc (length q / 6 - 1) = omega arith in
    let m : get_or (mades xs gs (lines_of q)) (length (lines_of q) - 1) no_made ≡ at_link q xs gs (length q / 6) = ap (λ (i : ℕ). get_or (mades xs gs (lines_of q)) (i - 1) no_made) n ∙ ap (made_to (mades xs gs (lines_of q))) (sym k) in
    ap (λ (x : Made). map (row pattern_line) (pat_lines x.pat 0 0 0) ++ freed_lines x.freed) m
    ∙ ap (λ (l : List Line). map (row pattern_line) (pat_lines (at_link q xs gs (length q / 6)).pat 0 0 0) ++ l) (freed_lines_of q xs gs asked (length q / 6) (omega arith) (omega arith) last e)

-- its pattern, the names freed in its parts, and those freed with them, as they are put
module _ (q xs gs : List ℕ) (asked : Asked q xs gs) (last : ℕ) (out : List ℕ) (h : 6 ≤ length q) (e : last ≡ last_of (nth_line (lines_of q) (length q / 6 - 1))) (fits : 6 * (nodes (made_of xs gs (lines_of q)).pat + length (made_of xs gs (lines_of q)).freed) ≤ length out) (narrow : length out < 4294967296) where
  pub whole_first : Room (emitted false (at_link q xs gs (length q / 6)).pat 0 0 0) out 0
  whole_first = three_first (emitted false (at_link q xs gs (length q / 6)).pat 0 0 0) (freed_lines (at_link q xs gs last).inner) (freed_lines (at_link q xs gs last).outer) (rewritten_lines (made_of xs gs (lines_of q))) out 0 (whole_lines q xs gs asked last h e) (room_whole (made_of xs gs (lines_of q)) out fits narrow)

  module _ (r : ℕ) (mid : List ℕ) (put : Put (emitted false (at_link q xs gs (length q / 6)).pat 0 0 0) out 0 r mid) where
    pub whole_second : Room (freed_lines (at_link q xs gs last).inner) mid r
    whole_second = three_second (emitted false (at_link q xs gs (length q / 6)).pat 0 0 0) (freed_lines (at_link q xs gs last).inner) (freed_lines (at_link q xs gs last).outer) (rewritten_lines (made_of xs gs (lines_of q))) out 0 (whole_lines q xs gs asked last h e) (room_whole (made_of xs gs (lines_of q)) out fits narrow) r mid put

    module _ (s : ℕ) (end : List ℕ) (more : Put (freed_lines (at_link q xs gs last).inner) mid r s end) where
      pub whole_third : Room (freed_lines (at_link q xs gs last).outer) end s
      whole_third = three_third (emitted false (at_link q xs gs (length q / 6)).pat 0 0 0) (freed_lines (at_link q xs gs last).inner) (freed_lines (at_link q xs gs last).outer) (rewritten_lines (made_of xs gs (lines_of q))) out 0 (whole_lines q xs gs asked last h e) (room_whole (made_of xs gs (lines_of q)) out fits narrow) r mid put s end more

      pub whole_put : (t : ℕ) (res : List ℕ) → Put (freed_lines (at_link q xs gs last).outer) end s t res → Put (rewritten_lines (made_of xs gs (lines_of q))) out 0 t res
      whole_put = three_put (emitted false (at_link q xs gs (length q / 6)).pat 0 0 0) (freed_lines (at_link q xs gs last).inner) (freed_lines (at_link q xs gs last).outer) (rewritten_lines (made_of xs gs (lines_of q))) out 0 (whole_lines q xs gs asked last h e) (room_whole (made_of xs gs (lines_of q)) out fits narrow) r mid put s end more

-- what is put from line 0 on begins the cells
pub put_taken : (ls : List Line) (out : List ℕ) (r : ℕ) (res : List ℕ) → Put ls out 0 r res → take (6 * r) res ≡ cells ls
put_taken ls out r res p = rw p.stands (take_at (cells ls) (drop (6 * r) out) (6 * r) (omega (arith, length_cells ls, p.next)))
