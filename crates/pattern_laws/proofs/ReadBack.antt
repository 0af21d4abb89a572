-- The lines that are written for a pattern denote that pattern. Assumes nothing.
use Rattle.std.specs.Prelude.{◌≡◌, refl, List, [], ◌∷◌, ◌++◌, map, ℕ, zero, suc, ◌+◌, ◌-◌, ◌≤◌, ◌<◌, length, get_or}
use Rattle.std.proofs.Common.{sym, ap, ap₂, ◌∙◌, arith, length-append}
use Rattle.std.proofs.lemmas.List.{length-map, get_or_at}
use Rattle.sheet.specs.Line.{Line, row}
use Rattle.model_patterns.specs.Pat.{Pat, Pats, PWild, PVar, PConst, PCtor, PRecord, PTuple, POr, no_parts, part, nodes}
use Rattle.meaning_patterns.specs.Patterns.{pattern_line, Piece, no_piece, list_to, and_last, pattern_of, piece, pieces_after, pieces, pattern, PartLines, pat_lines, part_lines}
use Rattle.pattern_laws.proofs.Pieces.{pieces_append, length_pieces_after, length_pieces, pieces_keep, list_to_take}
use Rattle.pattern_laws.proofs.Few.{pat_lines_length}

-- ---- lists
unfoldable pub join : Pats → Pats → Pats
join no_parts qs = qs
join (part f p ps) qs = part f p (join ps qs)

join_none : (ps : Pats) → join ps no_parts ≡ ps
unfolding join
join_none no_parts = refl
join_none (part f p ps) = ap (part f p) (join_none ps)

join_last : (ps : Pats) (f : ℕ) (p : Pat) (qs : Pats) → join (and_last ps f p) qs ≡ join ps (part f p qs)
unfolding join and_last
join_last no_parts f p qs = refl
join_last (part g q ps) f p qs = ap (part g q) (join_last ps f p qs)

-- ---- the last piece
abbrev end : List Piece → Piece
end rs = get_or rs (length rs - 1) no_piece

end_snoc : (rs : List Piece) (x : Piece) → end (rs ++ (x ∷ [])) ≡ x
end_snoc rs x = get_or_at rs x [] no_piece (length (rs ++ (x ∷ [])) - 1) (omega (arith, length-append rs (x ∷ [])))

list_to_end : (rs : List Piece) (n : ℕ) → length rs ≡ n → 0 < n → list_to rs n ≡ (end rs).list
unfolding list_to
list_to_end rs zero e h = absurd (omega arith)
list_to_end rs (suc n) e h = ap (λ (k : ℕ). (get_or rs k no_piece).list) (omega arith)

-- the Q lines of these numbers
abbrev pub rows : List (List ℕ) → List Line
rows nss = map (row pattern_line) nss

pub rows_append : (xs ys : List (List ℕ)) → rows (xs ++ ys) ≡ rows xs ++ rows ys
rows_append [] ys = refl
rows_append (x ∷ xs) ys = ap (λ (ls : List Line). row pattern_line x ∷ ls) (rows_append xs ys)

-- a link to a piece that was there
list_to_keep : (ps : List Piece) (ls : List Line) (k : ℕ) → k ≤ length ps → list_to (pieces_after ps ls) k ≡ list_to ps k
list_to_keep ps ls k h =
    sym (list_to_take (pieces_after ps ls) (length ps) k h)
    ∙ ap (λ (rs : List Piece). list_to rs k) (pieces_keep ps ls (length ps) (omega arith))
    ∙ list_to_take ps (length ps) k h

-- ---- lines, behind others
-- a line behind the lines of its parts
own_line : (ps : List Piece) (xs : List (List ℕ)) (kind n last previous f : ℕ) (qs : Pats) → previous ≤ length ps
    → list_to (pieces_after ps (rows xs)) last ≡ qs
    → end (pieces_after ps (rows (xs ++ ((kind ∷ n ∷ last ∷ previous ∷ f ∷ []) ∷ []))))
    ≡ record { pat = pattern_of kind n qs; list = and_last (list_to ps previous) f (pattern_of kind n qs) }
unfolding pieces_after piece
own_line ps xs kind n last previous f qs h e =
    ap (λ (ls : List Line). end (pieces_after ps ls)) (rows_append xs ((kind ∷ n ∷ last ∷ previous ∷ f ∷ []) ∷ []))
    ∙ ap end (pieces_append ps (rows xs) (row pattern_line (kind ∷ n ∷ last ∷ previous ∷ f ∷ []) ∷ []))
    ∙ end_snoc rs (piece rs (row pattern_line (kind ∷ n ∷ last ∷ previous ∷ f ∷ [])))
    ∙ ap₂ (λ (us vs : Pats). record { pat = pattern_of kind n us; list = and_last vs f (pattern_of kind n us) }) e (list_to_keep ps (rows xs) previous h)
  where
    rs : List Piece
    rs = pieces_after ps (rows xs)

pub nodes_some : (p : Pat) → 0 < nodes p
unfolding nodes
nodes_some PWild = omega arith
nodes_some (PVar v) = omega arith
nodes_some (PConst c) = omega arith
nodes_some (PCtor n ps) = omega arith
nodes_some (PRecord n ps) = omega arith
nodes_some (PTuple ps) = omega arith
nodes_some (POr ps) = omega arith

mutual
  unfolding pat_lines pattern_of list_to join pieces_after

  read_pat : (p : Pat) (ps : List Piece) (at previous f : ℕ) → length ps ≡ at → previous ≤ at
      → end (pieces_after ps (rows (pat_lines p at previous f))) ≡ record { pat = p; list = and_last (list_to ps previous) f p }
  read_pat PWild ps at previous f e h = own_line ps [] 0 0 0 previous f no_parts (omega arith) refl
  read_pat (PVar v) ps at previous f e h = own_line ps [] 1 v 0 previous f no_parts (omega arith) refl
  read_pat (PConst c) ps at previous f e h = own_line ps [] 2 c 0 previous f no_parts (omega arith) refl
  read_pat (PCtor n qs) ps at previous f e h =
      let m : PartLines = part_lines qs at 0 in own_line ps m.lines 3 n m.last previous f qs (omega arith) (read_parts qs ps at 0 e (omega arith))
  read_pat (PRecord n qs) ps at previous f e h =
      let m : PartLines = part_lines qs at 0 in own_line ps m.lines 4 n m.last previous f qs (omega arith) (read_parts qs ps at 0 e (omega arith))
  read_pat (PTuple qs) ps at previous f e h =
      let m : PartLines = part_lines qs at 0 in own_line ps m.lines 5 0 m.last previous f qs (omega arith) (read_parts qs ps at 0 e (omega arith))
  read_pat (POr qs) ps at previous f e h =
      let m : PartLines = part_lines qs at 0 in own_line ps m.lines 6 0 m.last previous f qs (omega arith) (read_parts qs ps at 0 e (omega arith))

  read_parts : (qs : Pats) (ps : List Piece) (at previous : ℕ) → length ps ≡ at → previous ≤ at
      → list_to (pieces_after ps (rows (part_lines qs at previous).lines)) (part_lines qs at previous).last ≡ join (list_to ps previous) qs
  read_parts no_parts ps at previous e h = sym (join_none (list_to ps previous))
  read_parts (part f p qs) ps at previous e h =
      let x : List (List ℕ) = pat_lines p at previous f in
      let n : ℕ = at + length x in
      let r : PartLines = part_lines qs n n in
      let rs : List Piece = pieces_after ps (rows x) in
      let s : length rs ≡ n = length_pieces_after ps (rows x) ∙ (omega (arith, length-map x (row pattern_line))) in
      ap (λ (ls : List Line). list_to (pieces_after ps ls) r.last) (rows_append x r.lines)
      ∙ ap (λ (us : List Piece). list_to us r.last) (pieces_append ps (rows x) (rows r.lines))
      ∙ read_parts qs rs n n s (omega arith)
      ∙ ap (λ (us : Pats). join us qs) (list_to_end rs n s (omega (arith, pat_lines_length p at previous f, nodes_some p)) ∙ ap (λ (y : Piece). y.list) (read_pat p ps at previous f e h))
      ∙ join_last (list_to ps previous) f p qs

-- The lines written for a pattern, numbered from 0, denote it.
pub read_back : (p : Pat) → pattern (map (row pattern_line) (pat_lines p 0 0 0)) ≡ p
unfolding pattern
read_back p =
    let ls : List Line = rows (pat_lines p 0 0 0) in
    ap (λ (k : ℕ). (get_or (pieces ls) (k - 1) no_piece).pat) (sym (length_pieces ls)) ∙ ap (λ (y : Piece). y.pat) (read_pat p [] 0 0 0 refl (omega arith))
