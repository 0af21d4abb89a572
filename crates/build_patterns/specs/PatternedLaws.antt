-- From row to row of a sheet that ends in a pattern. Assumes nothing.
use Rattle.std.specs.Prelude.{Bool, true, false, not, ◌≡◌, refl, ℕ, zero, suc, ◌+◌, ◌*◌, ◌≤◌, ◌<◌, get_or, take, drop}
use Rattle.std.proofs.Math.Path.{sym, ap}
use Rattle.std.proofs.Common.{◌∙◌, ap₂, arith, length-append}
use mathlib.Core.List.{List, [], ◌∷◌, ◌++◌, map}
use Rattle.std.proofs.Math.ListN.{length}
use Rattle.std.proofs.Math.Seq.{take_at}
use Rattle.sheet.specs.Format.{base}
use Rattle.sheet.specs.Line.{Line, row, bad, letter}
use Rattle.sheet.specs.Sheet.{lines}
use Rattle.sheet.proofs.FirstLaws.{none_first}
use Rattle.sheet.proofs.ListLaws.{Every, every_append, every_over}
use Rattle.walk_cells.specs.Cells.{cells, lines_of, bare}
use Rattle.walk_cells.specs.CellsLaws.{length_lines_of, length_cells, lines_cells}
use Rattle.model.specs.Decl.{Decl}
use Rattle.model_patterns.specs.Pat.{Pat, Pats, PWild, PVar, PConst, PCtor, PRecord, PTuple, POr, no_parts, part, Rewritten, nodes, rw_pat, rewritten}
use Rattle.meaning.specs.Program.{name_line, program}
use Rattle.meaning.specs.Rows.{count_of}
use Rattle.meaning_patterns.specs.Patterns.{good_pattern, pattern, pat_lines, part_lines, rewritten_lines, freed_lines, pattern_line}
use Rattle.pattern_laws.specs.Made.{made_of}
use Rattle.pattern_laws.specs.Marks.{owners_of}
use Rattle.pattern_laws.specs.Linked.{AllGood}
use Rattle.pattern_laws.proofs.Few.{nodes_few_left, rewritten_length}
use Rattle.pattern_emit.specs.Emit.{Asked, Put}
use Rattle.pattern_emit.specs.LinkedLaws.{linked_good}
use Rattle.answer.specs.Answer.{refusal}
use Rattle.answer.specs.declared.Refusal.TheVariants.{Accepted}
use Rattle.answer_patterns.specs.Whole.{front, tail, input_rows, following}
use Rattle.answer_pattern_laws.specs.Rows.{rows_eleven, input_accepted}
use Rattle.answer_built.specs.Built.{refused_as, Gives}
use Rattle.answer_built.specs.BuiltLaws.{gives_refused}
use Rattle.table_access.specs.Tables.{lines_in}
use Rattle.pattern_ctors.specs.Sites.{Sited}
use Rattle.pattern_marks.specs.Tables.{Given, MarksTo}
use Rattle.pattern_owners.specs.Places.{Placed}
use Rattle.pattern_flags.specs.Flags.{FlagsTo}
use Rattle.pattern_flags.specs.MarkedLaws.{tables_rewritten}
use Rattle.table_access.specs.OfSheet.{OfSheet, program_same}
use Rattle.build_following.specs.Following.{Follows}
use Rattle.input_table.specs.Table.{Good}
use Rattle.input_rows.specs.SameLaws.{eight_same, faults_same}
use Rattle.input_rows.specs.JudgingLaws as judging
use Rattle.build_patterns.specs.LentLaws.{lent_of}
use Rattle.build_patterns.specs.Patterned.{Patterned, Counted, Unflagged, Flagged, Marked, owner_in, layout_in}

-- every Q line passes row 5
pub all_good : (names : ℕ) (q : List ℕ) → Good names q → AllGood names (lines_of q)
all_good names q g i h = go (good_pattern names (lines_of q) i) (none_first _ (length (lines_of q)) g i h)
  where
    go : (b : Bool) → not b ≡ false → b ≡ true
    go true e = refl
    go false e = let z : ◌≡◌ {A = ℕ} 0 1 = cc in absurd (omega arith)

-- ---- flags, by owners and places
pub flagged_of : (ls : List Line) (keep u m : List ℕ) (qs : List Line) (own place flags : List ℕ) → own ≡ owners_of qs → Placed qs place
    → FlagsTo ls keep u m qs own place flags (length qs) → Flagged ls keep u m qs flags
flagged_of ls keep u m qs own place flags e p f = record { place = place; placed = p; told = rw e at f }

-- ---- what no output decides
module _ (a z t q u rank keep : List ℕ) (p : Patterned a z t q u rank keep) where
  abbrev of : OfSheet a t
  of = p.clear.read.of

  at_front : front 6 (a ++ z) ≡ a
  at_front = judging.at_front a z t q p.clear.read p.tailed

  at_tail : tail 6 (a ++ z) ≡ z
  at_tail = judging.at_tail a z t q p.clear.read p.tailed

  pub input_of : refusal (input_rows base (a ++ z)) ≡ Accepted
  input_of = input_accepted base (a ++ z) a z at_front at_tail p.tailed.sheet (sym (eight_same a t of) ∙ p.clear.found.eight) (sym (faults_same a t of) ∙ p.clear.found.faults) p.counts

  pub gives_eleven : (v l : List ℕ) (n : ℕ) → n ≡ length a + length z → length v < n → Gives (a ++ z) v l (refused_as 11 n) v l
  gives_eleven v l n e h =
      let k : n ≡ length (a ++ z) = e ∙ sym (length-append a z) in
      rw k (gives_refused (a ++ z) a z v l at_front at_tail 11 (length (a ++ z)) (rows_eleven base (a ++ z) a z at_front at_tail (length v) (length l) input_of (rw k at h)))

-- ---- lines of a letter and five numbers
abbrev Rowed : Line → Type 0
Rowed l = (bare l ≡ l) × (letter l < 256)

mutual
  unfolding pat_lines

  pat_rowed : (p : Pat) (at previous f : ℕ) → Every (λ ns. Rowed (row pattern_line ns)) (pat_lines p at previous f)
  pat_rowed PWild at previous f = ((refl, omega arith), tt)
  pat_rowed (PVar v) at previous f = ((refl, omega arith), tt)
  pat_rowed (PConst c) at previous f = ((refl, omega arith), tt)
  pat_rowed (PCtor n ps) at previous f = every_append (λ ns. Rowed (row pattern_line ns)) (part_lines ps at 0).lines _ (part_rowed ps at 0) ((refl, omega arith), tt)
  pat_rowed (PRecord n ps) at previous f = every_append (λ ns. Rowed (row pattern_line ns)) (part_lines ps at 0).lines _ (part_rowed ps at 0) ((refl, omega arith), tt)
  pat_rowed (PTuple ps) at previous f = every_append (λ ns. Rowed (row pattern_line ns)) (part_lines ps at 0).lines _ (part_rowed ps at 0) ((refl, omega arith), tt)
  pat_rowed (POr ps) at previous f = every_append (λ ns. Rowed (row pattern_line ns)) (part_lines ps at 0).lines _ (part_rowed ps at 0) ((refl, omega arith), tt)

  part_rowed : (ps : Pats) (at previous : ℕ) → Every (λ ns. Rowed (row pattern_line ns)) (part_lines ps at previous).lines
  part_rowed no_parts at previous = tt
  part_rowed (part f p ps) at previous =
      every_append (λ ns. Rowed (row pattern_line ns)) (pat_lines p at previous f) _ (pat_rowed p at previous f)
      (part_rowed ps (at + length (pat_lines p at previous f)) (at + length (pat_lines p at previous f)))

freed_rowed : (ns : List ℕ) → Every Rowed (freed_lines ns)
freed_rowed [] = tt
freed_rowed (n ∷ ns) = ((refl, omega arith), freed_rowed ns)

rowed : (r : Rewritten) → Every Rowed (rewritten_lines r)
unfolding rewritten_lines
rowed r =
    every_append Rowed (map (row pattern_line) (pat_lines r.pat 0 0 0)) (freed_lines r.freed)
    (every_over Rowed (row pattern_line) (pat_lines r.pat 0 0 0) (pat_rowed r.pat 0 0 0)) (freed_rowed r.freed)

bare_rowed : (xs : List Line) → Every Rowed xs → map bare xs ≡ xs
bare_rowed [] h = refl
bare_rowed (x ∷ xs) h = ap₂ (λ (l : Line) (ls : List Line). l ∷ ls) h.0.0 (bare_rowed xs h.1)

letters_small : (xs : List Line) → Every Rowed xs → (i : ℕ) → letter (get_or xs i bad) < 256
letters_small [] h i = omega arith
letters_small (x ∷ xs) h zero = h.0.1
letters_small (x ∷ xs) h (suc i) = letters_small xs h.1 i

-- ---- the lines that follow
-- of at least one Q line
following_is : (ls qs : List Line) → 0 < length qs → following base ls qs ≡ rewritten_lines (rewritten 100 (program ls) (pattern qs))
unfolding following
following_is ls [] h = absurd (omega arith)
following_is ls (q ∷ qs) h = refl

module _ (a z t q u rank keep v marks flags : List ℕ) (c : Counted a z t q u rank keep v) (m : Marked (lines_in t) q marks flags) where
  abbrev qs : List Line
  qs = lines_of q

  abbrev names : ℕ
  names = count_of name_line (lines 6 a)

  abbrev ls : List Line
  ls = lines_in t

  good : AllGood names qs
  good = all_good names q c.patterned.tailed.good

  some_line : 0 < length qs
  some_line = omega (arith, length_lines_of q, c.patterned.some, c.patterned.tailed.sized)

  abbrev new : Rewritten
  new = made_of marks flags qs

  new_is : new ≡ rw_pat (owner_in ls) (layout_in ls) (pattern qs)
  new_is = m.rewrites

  new_few : nodes new.pat + length new.freed ≤ length qs
  new_few = rw new_is (nodes_few_left (owner_in ls) (layout_in ls) names qs good some_line)

  pub asked_of : Asked q marks flags
  asked_of = record { linked = linked_good names qs good; marked = m.marked; flagged = m.flagged }

  pub room_of : (n : ℕ) → n ≡ 1536 → 6 * (nodes new.pat + length new.freed) ≤ n
  room_of n e = omega (arith, new_few, e, length_lines_of q, c.patterned.tailed.few)

  pub count_few : (out res : List ℕ) (n : ℕ) → Put (rewritten_lines new) out 0 n res → 6 * n ≤ 1536
  count_few out res n w = omega (arith, w.next, rewritten_length new, room_of 1536 refl)

  -- the cells written are those of the lines that follow
  pub follows_of : (p out res : List ℕ) (n : ℕ) → Put (rewritten_lines new) out 0 n res → length out ≡ 1536 → p ≡ take (6 * n) res → Follows a z t p u rank keep v
  unfolding rewritten
  follows_of p out res n w e k =
      let of = c.patterned.clear.read.of in
      let xs : List Line = rewritten_lines new in
      let long : length (cells xs) ≡ 6 * n = length_cells xs ∙ ap (λ (j : ℕ). 6 * j) (omega (arith, w.next)) in
      let put : p ≡ cells xs = k ∙ (ap (take (6 * n)) w.stands ∙ take_at (cells xs) (drop (6 * n) out) (6 * n) long) in
      let lined : lines_of p ≡ xs = ap lines_of put ∙ (lines_cells xs ∙ bare_rowed xs (rowed new)) in
      let same : xs ≡ rewritten_lines (rewritten 100 (program (lines 6 a)) (pattern (lines 6 z))) =
      ap rewritten_lines (new_is ∙ (ap (λ (ds : List Decl). rewritten 100 ds (pattern qs)) (program_same a t of) ∙ ap (λ (x : List Line). rewritten 100 (program (lines 6 a)) (pattern x)) c.patterned.tailed.cells)) in
      record {
        lent = lent_of a t u rank keep c.patterned.clear v (omega (arith, c.room));
        parted = c.patterned.tailed.parted;
        input = input_of a z t q u rank keep c.patterned;
        verdict_room = c.room;
        lines_are = lined ∙ (same ∙ sym (following_is (lines 6 a) (lines 6 z) (omega (arith, some_line, ap length c.patterned.tailed.cells))));
        bytes = λ i. rw lined (letters_small xs (rowed new) i);
        few = omega (arith, ap length put, long, w.next, rewritten_length new, new_few, length_lines_of q, c.patterned.tailed.few);
      }

-- ---- the tables of constructors
module _ (a z t q u rank keep m : List ℕ) (p : Patterned a z t q u rank keep) (s : Sited (lines_in t) m) where
  abbrev read_of : OfSheet a t
  read_of = p.clear.read.of

  good_in : Good (count_of name_line (lines_in t)) q
  good_in = (judging.listed_of a z t q p.clear.read p.tailed).good

  pub given_of : Given t m (lines_of q)
  given_of = record { tabled = read_of.tabled; sited = s; good = all_good (count_of name_line (lines_in t)) q good_in }

  pub unflagged_of : (flags : List ℕ) → length flags ≡ 256 → Unflagged t q m keep flags
  unflagged_of flags e = record { given = given_of; few = p.tailed.few; keeps = p.clear.found.keeps; room = omega (arith, e, length_lines_of q, p.tailed.few) }

  pub marked_of : (marks flags : List ℕ) → length marks ≡ 256 → length flags ≡ 256 → MarksTo (lines_in t) u m (lines_of q) marks (length (lines_of q)) → Flagged (lines_in t) keep u m (lines_of q) flags
      → Marked (lines_in t) q marks flags
  unfolding rewritten
  marked_of marks flags x y ms fs =
      record {
        rewrites =
            tables_rewritten (lines_in t) read_of.tabled.passed keep u m p.clear.found.slotted p.clear.found.settled s 100 (lines_of q) given_of.good fs.place marks flags fs.placed ms fs.told
            (omega (arith, length_lines_of q, p.some, p.tailed.sized));
        marked = omega (arith, x, p.tailed.few);
        flagged = omega (arith, y, p.tailed.few);
      }
