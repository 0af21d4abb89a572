-- The lines that follow the left declarations: how many there are, and that their bytes read as no line of another letter.
-- Assumes nothing.
use Rattle.std.specs.Prelude.{◌⊎◌, ◌≡◌, refl, Bool, true, false, ℕ, ◌+◌, ◌*◌, ◌≤◌, length}
use Rattle.std.proofs.Common.{inl, inr, ⊎_elim, ap, sym, ◌∙◌, subst, arith}
use mathlib.Core.List.Memᴰ
use mathlib.Core.List.{List, [], ◌∷◌, map, Memᴰ}
use Rattle.std.proofs.Math.Nat.{zero-div}
use Rattle.sheet.specs.Format.{Format, line_bytes}
use Rattle.sheet.specs.Line.{Line, named, row, bad, decode, encode, letter, is_bad}
use Rattle.sheet.specs.Sheet.{lines_from, lines, encodes}
use Rattle.sheet.proofs.LineLaws.{letter_decode}
use Rattle.sheet.proofs.SheetLaws.{lines_cons}
use Rattle.sheet.proofs.ListLaws.{Every, every_append, every_over, every_map, false_true}
use Rattle.model.specs.Run.{run}
use Rattle.model_patterns.specs.Pat.{Pat, Pats, PWild, PVar, PConst, PCtor, PRecord, PTuple, POr, no_parts, part, ctor_owner, type_layout, Rewritten, rewritten}
use Rattle.meaning.specs.Program.{program, type_line}
use Rattle.meaning_laws.specs.Output.{Sized, encode_sized, encodes_sized}
use Rattle.meaning_patterns.specs.Patterns.{pattern_line, freed_line, pat_lines, part_lines, freed_lines, rewritten_lines, pattern}
use Rattle.pattern_laws.specs.Linked.{AllGood}
use Rattle.pattern_laws.proofs.Few.{rewritten_few}
use Rattle.answer_patterns.specs.Whole.{following}

-- ---- the numbers of a pattern's lines
abbrev Five : List ℕ → Type 0
Five ns = length ns ≡ 5

mutual
  unfolding pat_lines

  pat_five : (p : Pat) (at previous f : ℕ) → Every Five (pat_lines p at previous f)
  pat_five PWild at previous f = (refl, tt)
  pat_five (PVar v) at previous f = (refl, tt)
  pat_five (PConst c) at previous f = (refl, tt)
  pat_five (PCtor n ps) at previous f = every_append Five (part_lines ps at 0).lines _ (parts_five ps at 0) (refl, tt)
  pat_five (PRecord n ps) at previous f = every_append Five (part_lines ps at 0).lines _ (parts_five ps at 0) (refl, tt)
  pat_five (PTuple ps) at previous f = every_append Five (part_lines ps at 0).lines _ (parts_five ps at 0) (refl, tt)
  pat_five (POr ps) at previous f = every_append Five (part_lines ps at 0).lines _ (parts_five ps at 0) (refl, tt)

  parts_five : (ps : Pats) (at previous : ℕ) → Every Five (part_lines ps at previous).lines
  parts_five no_parts at previous = tt
  parts_five (part f p ps) at previous = every_append Five (pat_lines p at previous f) _ (pat_five p at previous f) (parts_five ps (at + length (pat_lines p at previous f)) (at + length (pat_lines p at previous f)))

-- ---- the lines
-- a line of letter Q or U, with five numbers
abbrev Behind : Line → Type 0
Behind (named n t) = ⊥
Behind (row x ns) = ((x ≡ pattern_line) ⊎ (x ≡ freed_line)) × (length ns ≡ 5)
Behind bad = ⊥

freed_behind : (ns : List ℕ) → Every Behind (freed_lines ns)
freed_behind [] = tt
freed_behind (n ∷ ns) = ((inr refl, refl), freed_behind ns)

rewritten_behind : (r : Rewritten) → Every Behind (rewritten_lines r)
unfolding rewritten_lines
rewritten_behind r =
    every_append Behind (map (row pattern_line) (pat_lines r.pat 0 0 0)) (freed_lines r.freed)
    (every_over Behind (row pattern_line) (pat_lines r.pat 0 0 0) (every_map Five (λ ns. Behind (row pattern_line ns)) (λ ns h. (inl refl, h)) (pat_lines r.pat 0 0 0) (pat_five r.pat 0 0 0)))
    (freed_behind r.freed)

following_behind : (f : Format) (ls qs : List Line) → Every Behind (following f ls qs)
unfolding following
following_behind f ls [] = tt
following_behind f ls (q ∷ qs) = rewritten_behind (rewritten f.fuel (program ls) (pattern (q ∷ qs)))

behind_sized : (w : ℕ) (l : Line) → Behind l → Sized w l
behind_sized w (named n t) h = absurd h
behind_sized w (row x ns) h = h.1
behind_sized w bad h = h

pub following_bytes : (f : Format) (w : ℕ) (ls qs : List Line) → length (encodes w (following f ls qs)) ≡ line_bytes w * length (following f ls qs)
following_bytes f w ls qs = encodes_sized w (following f ls qs) (every_map Behind (Sized w) (behind_sized w) (following f ls qs) (following_behind f ls qs))

-- ---- what their bytes read as
bad_letter : (l : Line) → is_bad l ≡ true → letter l ≡ 0
bad_letter (named n t) h = false_true h
bad_letter (row x ns) h = false_true h
bad_letter bad h = refl

read_letter : (w : ℕ) (l : Line) → Behind l → letter (decode w (encode w l)) ≡ type_line → ⊥
unfolding encode
read_letter w (named n t) h e = h
read_letter w bad h e = h
read_letter w (row x ns) h e = go (is_bad (decode w (encode w (row x ns)))) refl
  where
    go : (c : Bool) → is_bad (decode w (encode w (row x ns))) ≡ c → ⊥
    go true k = omega (arith, bad_letter (decode w (encode w (row x ns))) k)
    go false k = ⊎_elim (λ z. omega (arith, letter_decode w (encode w (row x ns)) k)) (λ z. omega (arith, letter_decode w (encode w (row x ns)) k)) h.0

behind_letters : (w : ℕ) (ls : List Line) → Every Behind ls → (y : Line) → Memᴰ y (lines w (encodes w ls)) → letter y ≡ type_line → ⊥
unfolding encodes lines lines_from
behind_letters w [] h y m e = Memᴰ.not-nil (rw (zero-div (line_bytes w)) at m)
behind_letters w (l ∷ ls) h y m e =
    ⊎_elim (λ z. read_letter w l h.0 (ap letter (sym z) ∙ e)) (λ z. behind_letters w ls h.1 y z e)
    (Memᴰ.cases_cons (subst (Memᴰ y) (lines_cons w (encode w l) (encodes w ls) (encode_sized w l (behind_sized w l h.0))) m))

pub following_letters : (f : Format) (w : ℕ) (ls qs : List Line) (y : Line) → Memᴰ y (lines w (encodes w (following f ls qs))) → letter y ≡ type_line → ⊥
following_letters f w ls qs = behind_letters w (following f ls qs) (following_behind f ls qs)

-- ---- how many there are
-- no more than Q lines, where these pass row 5
pub following_few : (f : Format) (ls : List Line) (names : ℕ) (qs : List Line) → AllGood names qs → length (following f ls qs) ≤ length qs
unfolding following rewritten
following_few f ls names [] h = omega arith
following_few f ls names (q ∷ qs) h =
    rewritten_few (ctor_owner (run f.fuel (program ls)).infos) (type_layout (program ls) (run f.fuel (program ls)).infos) names (q ∷ qs) h (omega arith)
