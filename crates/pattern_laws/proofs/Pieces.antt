-- Laws of pieces and mades: what a Q line gives, by what the lines before it give. Assumes nothing.
use Rattle.std.specs.Prelude.{◌≡◌, refl, List, [], ◌∷◌, ◌++◌, true, false, ℕ, zero, suc, ◌+◌, ◌≤◌, ◌<◌, eqb, length, get_or, take}
use Rattle.std.proofs.Common.{sym, ap, ap₂, ◌∙◌, arith, length-take-le, get_or-take}
use Rattle.sheet.specs.Line.{Line}
use Rattle.model_patterns.specs.Pat.{Pat, Pats, no_parts, part, pat_vars, parts}
use Rattle.meaning.specs.Rows.{nth_line}
use Rattle.meaning_patterns.specs.Patterns.{kind_of, name_of, last_of, previous_of, field_of, Piece, no_piece, list_to, and_last, pattern_of, piece, pieces_after, pieces}
use Rattle.pattern_laws.specs.Made.{Made, no_made, made_to, become, made, mades_after, mades}
use Rattle.pattern_laws.specs.Grown.{grown, grown_append, length_grown, grown_keeps, grown_take, grown_at}

-- ---- pieces
pieces_grown : (ps : List Piece) (qs : List Line) → pieces_after ps qs ≡ grown piece ps qs
unfolding pieces_after grown
pieces_grown ps [] = refl
pieces_grown ps (l ∷ ls) = pieces_grown (ps ++ (piece ps l ∷ [])) ls

pub length_pieces : (qs : List Line) → length (pieces qs) ≡ length qs
length_pieces qs = ap length (pieces_grown [] qs) ∙ (omega (arith, length_grown piece [] qs))

-- lines behind lines: what was there stays, and there is a piece more for each line
pub pieces_append : (ps : List Piece) (ks ls : List Line) → pieces_after ps (ks ++ ls) ≡ pieces_after (pieces_after ps ks) ls
pieces_append ps ks ls =
    pieces_grown ps (ks ++ ls)
    ∙ grown_append piece ps ks ls
    ∙ ap (λ (rs : List Piece). grown piece rs ls) (sym (pieces_grown ps ks))
    ∙ sym (pieces_grown (pieces_after ps ks) ls)

pub length_pieces_after : (ps : List Piece) (ls : List Line) → length (pieces_after ps ls) ≡ length ps + length ls
length_pieces_after ps ls = ap length (pieces_grown ps ls) ∙ length_grown piece ps ls

pub pieces_keep : (ps : List Piece) (ls : List Line) (n : ℕ) → n ≤ length ps → take n (pieces_after ps ls) ≡ take n ps
pieces_keep ps ls n h = ap (take n) (pieces_grown ps ls) ∙ grown_keeps piece ps ls n h

-- no prefix depends on later lines
pub pieces_take : (qs : List Line) (n : ℕ) → n ≤ length qs → take n (pieces qs) ≡ pieces (take n qs)
pieces_take qs n h = ap (take n) (pieces_grown [] qs) ∙ grown_take piece qs n h ∙ sym (pieces_grown [] (take n qs))

-- a link to a line before q is a link into the prefix
pub list_to_take : (ps : List Piece) (q k : ℕ) → k ≤ q → list_to (take q ps) k ≡ list_to ps k
unfolding list_to
list_to_take ps q zero h = refl
list_to_take ps q (suc k) h = ap (λ (p : Piece). p.list) (get_or-take q ps k no_piece (omega arith))

pub piece_take : (ps : List Piece) (q : ℕ) (l : Line) → last_of l ≤ q → previous_of l ≤ q → piece (take q ps) l ≡ piece ps l
unfolding piece
piece_take ps q l h k =
    ap₂ (λ (last previous : Pats). let p : Pat = pattern_of (kind_of l) (name_of l) last in record { pat = p; list = and_last previous (field_of l) p })
    (list_to_take ps q (last_of l) h)
    (list_to_take ps q (previous_of l) k)

-- of line q, from the lines before it
pub piece_before : (qs : List Line) (q : ℕ) → q < length qs → get_or (pieces qs) q no_piece ≡ piece (take q (pieces qs)) (nth_line qs q)
piece_before qs q h =
    ap (λ (ps : List Piece). get_or ps q no_piece) (pieces_grown [] qs)
    ∙ grown_at piece qs q no_piece h
    ∙ ap (λ (ps : List Piece). piece (take q ps) (nth_line qs q)) (sym (pieces_grown [] qs))

-- the same over all pieces, where its links are to lower lines
pub piece_at : (qs : List Line) (q : ℕ) → q < length qs → last_of (nth_line qs q) ≤ q → previous_of (nth_line qs q) ≤ q
    → get_or (pieces qs) q no_piece ≡ piece (pieces qs) (nth_line qs q)
piece_at qs q h j k = piece_before qs q h ∙ piece_take (pieces qs) q (nth_line qs q) j k

-- ---- mades
-- a line with the mark and the flag of its number
abbrev pub made_next : List ℕ → List ℕ → List Made → Line → Made
made_next xs gs ms l = made ms l (get_or xs (length ms) 0) (get_or gs (length ms) 0)

mades_grown : (xs gs : List ℕ) (ms : List Made) (qs : List Line) → mades_after xs gs ms qs ≡ grown (made_next xs gs) ms qs
unfolding mades_after grown
mades_grown xs gs ms [] = refl
mades_grown xs gs ms (l ∷ ls) = mades_grown xs gs (ms ++ (made_next xs gs ms l ∷ [])) ls

pub length_mades : (xs gs : List ℕ) (qs : List Line) → length (mades xs gs qs) ≡ length qs
length_mades xs gs qs = ap length (mades_grown xs gs [] qs) ∙ (omega (arith, length_grown (made_next xs gs) [] qs))

pub mades_take : (xs gs : List ℕ) (qs : List Line) (n : ℕ) → n ≤ length qs → take n (mades xs gs qs) ≡ mades xs gs (take n qs)
mades_take xs gs qs n h = ap (take n) (mades_grown xs gs [] qs) ∙ grown_take (made_next xs gs) qs n h ∙ sym (mades_grown xs gs [] (take n qs))

pub made_to_take : (ms : List Made) (q k : ℕ) → k ≤ q → made_to (take q ms) k ≡ made_to ms k
unfolding made_to
made_to_take ms q zero h = refl
made_to_take ms q (suc k) h = get_or-take q ms k no_made (omega arith)

-- a line, by what its two links give
unfoldable pub made_with : Made → Made → Line → ℕ → ℕ → Made
made_with x y l mark flag =
    let p : Pat = become mark (kind_of l) (name_of l) x.kept in
    record {
      pat = p;
      freed = x.inner ++ x.outer;
      kept = elim (eqb flag 1) [ true ↦ and_last y.kept (field_of l) p | false ↦ y.kept ];
      inner = y.inner ++ (x.inner ++ x.outer);
      outer = elim (eqb flag 0) [ true ↦ y.outer ++ pat_vars p | false ↦ y.outer ];
    }

pub made_links : (ms : List Made) (l : Line) (mark flag : ℕ)
    → made ms l mark flag ≡ made_with (made_to ms (last_of l)) (made_to ms (previous_of l)) l mark flag
unfolding made made_with
made_links ms l mark flag = refl

pub made_take : (ms : List Made) (q : ℕ) (l : Line) (mark flag : ℕ) → last_of l ≤ q → previous_of l ≤ q
    → made (take q ms) l mark flag ≡ made ms l mark flag
made_take ms q l mark flag h k =
    made_links (take q ms) l mark flag
    ∙ ap₂ (λ (x y : Made). made_with x y l mark flag) (made_to_take ms q (last_of l) h) (made_to_take ms q (previous_of l) k)
    ∙ sym (made_links ms l mark flag)

-- of line q, from the lines before it
pub made_before : (xs gs : List ℕ) (qs : List Line) (q : ℕ) → q < length qs
    → get_or (mades xs gs qs) q no_made ≡ made (take q (mades xs gs qs)) (nth_line qs q) (get_or xs q 0) (get_or gs q 0)
made_before xs gs qs q h =
    let ms : List Made = mades xs gs qs in
    ap (λ (ns : List Made). get_or ns q no_made) (mades_grown xs gs [] qs)
    ∙ grown_at (made_next xs gs) qs q no_made h
    ∙ ap (λ (ns : List Made). made_next xs gs (take q ns) (nth_line qs q)) (sym (mades_grown xs gs [] qs))
    ∙ ap
    (λ (k : ℕ). made (take q ms) (nth_line qs q) (get_or xs k 0) (get_or gs k 0))
    (length-take-le q ms (omega (arith, length_mades xs gs qs)))

-- the same over all mades, where its links are to lower lines
pub made_at : (xs gs : List ℕ) (qs : List Line) (q : ℕ) → q < length qs → last_of (nth_line qs q) ≤ q → previous_of (nth_line qs q) ≤ q
    → get_or (mades xs gs qs) q no_made ≡ made (mades xs gs qs) (nth_line qs q) (get_or xs q 0) (get_or gs q 0)
made_at xs gs qs q h j k =
    made_before xs gs qs q h ∙ made_take (mades xs gs qs) q (nth_line qs q) (get_or xs q 0) (get_or gs q 0) j k

-- ---- how many parts
pub parts_and_last : (ps : Pats) (f : ℕ) (p : Pat) → parts (and_last ps f p) ≡ suc (parts ps)
unfolding parts and_last
parts_and_last no_parts f p = refl
parts_and_last (part g q qs) f p = ap suc (parts_and_last qs f p)

-- The list up to a line has one part more than the list up to the part before it: counted ascending.
pub parts_count : (qs : List Line) (q : ℕ) → q < length qs → last_of (nth_line qs q) ≤ q → previous_of (nth_line qs q) ≤ q
    → parts (list_to (pieces qs) (suc q)) ≡ suc (parts (list_to (pieces qs) (previous_of (nth_line qs q))))
unfolding list_to piece
parts_count qs q h j k =
    let l : Line = nth_line qs q in
    ap (λ (p : Piece). parts p.list) (piece_at qs q h j k)
    ∙ parts_and_last (list_to (pieces qs) (previous_of l)) (field_of l) (pattern_of (kind_of l) (name_of l) (list_to (pieces qs) (last_of l)))
