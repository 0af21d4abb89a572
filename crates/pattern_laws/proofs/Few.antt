-- The lines that are written for a sheet's pattern: they are at most as many as its Q lines, and each of their numbers is
-- below a bound that the numbers of the Q lines and their count are below. Assumes nothing.
use Rattle.std.specs.Prelude.{◌≡◌, refl, Bool, eqb, get_or}
use Rattle.std.proofs.Common.{ap, length-append}
use mathlib.Core.List.{List, [], ◌∷◌, ◌++◌, map}
use Rattle.std.proofs.Math.Bool.{true, false}
use Rattle.std.proofs.Math.Option.{Option}
use Prim.Native.Nat.{ℕ, zero, suc, ◌+◌, ◌-◌, ◌≤◌, ◌<◌}
use native.Mathlib.Omega.{arith}
use Rattle.std.proofs.Math.ListN.{length}
use Rattle.std.proofs.lemmas.List.{length-map}
use Rattle.number_columns.specs.Column.{◌⇒◌∥◌}
use Rattle.sheet.specs.Line.{Line, row, number}
use Rattle.sheet.proofs.ListLaws.{Every, every_append}
use Rattle.model.specs.Decl.{Layout}
use Rattle.model_patterns.specs.Pat.{Pat, Pats, PWild, PVar, PConst, PCtor, PRecord, PTuple, POr, no_parts, part, pat_vars, pats_vars, nodes, nodes_of_parts, Owner, Rewritten, rw_pat}
use Rattle.model_patterns.proofs.Laws.Bounded.{lines_bounded}
use Rattle.meaning_patterns.specs.Patterns.{pattern_line, kind_of, name_of, last_of, previous_of, field_of, and_last, pattern_of, pattern, PartLines, pat_lines, part_lines, freed_lines, rewritten_lines}
use Rattle.pattern_laws.specs.Made.{Made, no_made, made_to, only, become, made, mades_after, mades, made_of}
use Rattle.pattern_laws.specs.Linked.{AllGood}
use Rattle.pattern_laws.proofs.Nodes.{nodes_few}
use Rattle.pattern_laws.specs.Marks.{marks_of, flags_of}
use Rattle.pattern_laws.proofs.Rewrites.{made_is_rewritten}

-- ---- how many
mutual
  unfolding pat_lines nodes

  pub pat_lines_length : (p : Pat) (at previous f : ℕ) → length (pat_lines p at previous f) ≡ nodes p
  pat_lines_length PWild at previous f = refl
  pat_lines_length (PVar v) at previous f = refl
  pat_lines_length (PConst c) at previous f = refl
  pat_lines_length (PCtor n ps) at previous f =
      let m : PartLines = part_lines ps at 0 in omega (arith, length-append m.lines ((3 ∷ n ∷ m.last ∷ previous ∷ f ∷ []) ∷ []), part_lines_length ps at 0)
  pat_lines_length (PRecord n ps) at previous f =
      let m : PartLines = part_lines ps at 0 in omega (arith, length-append m.lines ((4 ∷ n ∷ m.last ∷ previous ∷ f ∷ []) ∷ []), part_lines_length ps at 0)
  pat_lines_length (PTuple ps) at previous f =
      let m : PartLines = part_lines ps at 0 in omega (arith, length-append m.lines ((5 ∷ 0 ∷ m.last ∷ previous ∷ f ∷ []) ∷ []), part_lines_length ps at 0)
  pat_lines_length (POr ps) at previous f =
      let m : PartLines = part_lines ps at 0 in omega (arith, length-append m.lines ((6 ∷ 0 ∷ m.last ∷ previous ∷ f ∷ []) ∷ []), part_lines_length ps at 0)

  pub part_lines_length : (ps : Pats) (at previous : ℕ) → length (part_lines ps at previous).lines ≡ nodes_of_parts ps
  part_lines_length no_parts at previous = refl
  part_lines_length (part f p ps) at previous =
      let x : List (List ℕ) = pat_lines p at previous f in
      let r : PartLines = part_lines ps (at + length x) (at + length x) in
      omega (arith, length-append x r.lines, pat_lines_length p at previous f, part_lines_length ps (at + length x) (at + length x))

pub rewritten_length : (r : Rewritten) → length (rewritten_lines r) ≡ nodes r.pat + length r.freed
unfolding rewritten_lines
rewritten_length r =
    omega (arith, length-append (map (row pattern_line) (pat_lines r.pat 0 0 0)) (freed_lines r.freed), length-map (pat_lines r.pat 0 0 0) (row pattern_line), pat_lines_length r.pat 0 0 0, length_freed r.freed)
  where
    length_freed : (ns : List ℕ) → length (freed_lines ns) ≡ length ns
    length_freed [] = refl
    length_freed (n ∷ ns) = ap suc (length_freed ns)

module _ (owner : ℕ → Option Owner) (layout : ℕ → Option Layout) (names : ℕ) (qs : List Line) (good : AllGood names qs) (some_line : 0 < length qs) where
  -- the new pattern's nodes and the freed names, and so the lines, are no more than the Q lines
  pub nodes_few_left : nodes (rw_pat owner layout (pattern qs)).pat + length (rw_pat owner layout (pattern qs)).freed ≤ length qs
  nodes_few_left = omega (arith, lines_bounded owner layout (pattern qs), nodes_few names qs good some_line)

  pub rewritten_few : length (rewritten_lines (rw_pat owner layout (pattern qs))) ≤ length qs
  rewritten_few = omega (arith, nodes_few_left, rewritten_length (rw_pat owner layout (pattern qs)))

  -- the same of what the marks and flags give
  abbrev new : Rewritten
  new = made_of (marks_of owner layout qs) (flags_of owner layout qs) qs

  pub made_few : nodes new.pat + length new.freed ≤ length qs
  made_few = rw (made_is_rewritten owner layout names qs good some_line) nodes_few_left

-- ---- how large
module _ (B : ℕ) where
  -- every name, constant and field of a pattern is below the bound
  abbrev mutual
    pub Within : Pat → Type 0
    Within PWild = Unit {0}
    Within (PVar v) = v < B
    Within (PConst c) = c < B
    Within (PCtor n ps) = (n < B) × Withins ps
    Within (PRecord n ps) = (n < B) × Withins ps
    Within (PTuple ps) = Withins ps
    Within (POr ps) = Withins ps

    pub Withins : Pats → Type 0
    Withins no_parts = Unit {0}
    Withins (part f p ps) = (f < B) × (Within p × Withins ps)

  abbrev pub Below : List ℕ → Type 0
  Below ns = Every (λ n. n < B) ns

  mutual
    unfolding pat_vars

    vars_within : (p : Pat) → Within p → Below (pat_vars p)
    vars_within PWild h = tt
    vars_within (PVar v) h = (h, tt)
    vars_within (PConst c) h = tt
    vars_within (PCtor n ps) h = parts_vars_within ps h.1
    vars_within (PRecord n ps) h = parts_vars_within ps h.1
    vars_within (PTuple ps) h = parts_vars_within ps h
    vars_within (POr ps) h = parts_vars_within ps h

    parts_vars_within : (ps : Pats) → Withins ps → Below (pats_vars ps)
    parts_vars_within no_parts h = tt
    parts_vars_within (part f p ps) h = every_append (λ n. n < B) (pat_vars p) (pats_vars ps) (vars_within p h.1.0) (parts_vars_within ps h.1.1)

  last_within : (ps : Pats) (f : ℕ) (p : Pat) → Withins ps → f < B → Within p → Withins (and_last ps f p)
  unfolding and_last
  last_within no_parts f p h i k = (i, (k, tt))
  last_within (part g q qs) f p h i k = (h.0, (h.1.0, last_within qs f p h.1.1 i k))

  pattern_within : (kind n : ℕ) (ps : Pats) → n < B → Withins ps → Within (pattern_of kind n ps)
  unfolding pattern_of
  pattern_within kind n ps h k = by (eqb kind 1) (eqb kind 2) (eqb kind 3) (eqb kind 4) (eqb kind 5) (eqb kind 6)
    where
      by : (a b c d e f : Bool)
          → Within (a ⇒ PVar n ∥ b ⇒ PConst n ∥ c ⇒ PCtor n ps ∥ d ⇒ PRecord n ps ∥ e ⇒ PTuple ps ∥ f ⇒ POr ps ∥ PWild)
      by true b c d e f = h
      by false true c d e f = h
      by false false true d e f = (h, k)
      by false false false true e f = (h, k)
      by false false false false true f = k
      by false false false false false true = k
      by false false false false false false = tt

  only_within : (ps : Pats) → Withins ps → Within (only ps)
  unfolding only
  only_within no_parts h = tt
  only_within (part f p ps) h = h.1.0

  become_within : (mark kind n : ℕ) (ps : Pats) → n < B → Withins ps → Within (become mark kind n ps)
  unfolding become
  become_within mark kind n ps h k = by (eqb mark 0) (eqb mark 1)
    where
      by : (a b : Bool) → Within (a ⇒ PWild ∥ b ⇒ pattern_of kind n ps ∥ only ps)
      by true b = tt
      by false true = pattern_within kind n ps h k
      by false false = only_within ps k

  -- ---- what lines give
  -- every number of a line
  abbrev pub Numbered : Line → Type 0
  Numbered l = (k : ℕ) → number l k < B

  record MadeWithin (m : Made) : Type 0 where
    pat : Within m.pat
    freed : Below m.freed
    kept : Withins m.kept
    inner : Below m.inner
    outer : Below m.outer

  none_within : MadeWithin no_made
  none_within = record { pat = tt; freed = tt; kept = tt; inner = tt; outer = tt }

  to_within : (ms : List Made) → Every MadeWithin ms → (k : ℕ) → MadeWithin (made_to ms k)
  unfolding made_to
  to_within ms h zero = none_within
  to_within [] h (suc k) = none_within
  to_within (m ∷ ms) h (suc zero) = h.0
  to_within (m ∷ ms) h (suc (suc k)) = to_within ms h.1 (suc k)

  made_within : (ms : List Made) (l : Line) (mark flag : ℕ) → Every MadeWithin ms → Numbered l → MadeWithin (made ms l mark flag)
  unfolding made
  made_within ms l mark flag h i =
      record {
        pat = p;
        freed = freed;
        kept = kept (eqb flag 1);
        inner = every_append (λ n. n < B) y.inner (x.inner ++ x.outer) v.inner freed;
        outer = outer (eqb flag 0);
      }
    where
      x : Made
      x = made_to ms (last_of l)

      y : Made
      y = made_to ms (previous_of l)

      u : MadeWithin x
      u = to_within ms h (last_of l)

      v : MadeWithin y
      v = to_within ms h (previous_of l)

      q : Pat
      q = become mark (kind_of l) (name_of l) x.kept

      p : Within q
      p = become_within mark (kind_of l) (name_of l) x.kept (i 1) u.kept

      freed : Below (x.inner ++ x.outer)
      freed = every_append (λ n. n < B) x.inner x.outer u.inner u.outer

      kept : (b : Bool) → Withins (elim b [ true ↦ and_last y.kept (field_of l) q | false ↦ y.kept ])
      kept true = last_within y.kept (field_of l) q v.kept (i 4) p
      kept false = v.kept

      outer : (b : Bool) → Below (elim b [ true ↦ y.outer ++ pat_vars q | false ↦ y.outer ])
      outer true = every_append (λ n. n < B) y.outer (pat_vars q) v.outer (vars_within q p)
      outer false = v.outer

  mades_within : (xs gs : List ℕ) (ms : List Made) (qs : List Line) → Every MadeWithin ms → Every Numbered qs → Every MadeWithin (mades_after xs gs ms qs)
  unfolding mades_after
  mades_within xs gs ms [] h i = h
  mades_within xs gs ms (l ∷ ls) h i =
      let m : Made = made ms l (get_or xs (length ms) 0) (get_or gs (length ms) 0) in
      mades_within xs gs (ms ++ (m ∷ [])) ls (every_append MadeWithin ms (m ∷ []) h (made_within ms l (get_or xs (length ms) 0) (get_or gs (length ms) 0) h i.0, tt)) i.1

  pub of_within : (xs gs : List ℕ) (qs : List Line) → Every Numbered qs → Within (made_of xs gs qs).pat × Below (made_of xs gs qs).freed
  unfolding made_of made_to
  of_within xs gs qs h =
      let m : MadeWithin (made_to (mades xs gs qs) (suc (length qs - 1))) = to_within (mades xs gs qs) (mades_within xs gs [] qs tt h) (suc (length qs - 1)) in
      (m.pat, m.freed)

  -- ---- what is written
  part_last : (ps : Pats) (at previous : ℕ) → previous ≤ at → (part_lines ps at previous).last ≤ at + nodes_of_parts ps
  unfolding part_lines nodes_of_parts
  part_last no_parts at previous h = omega arith
  part_last (part f p ps) at previous h =
      let n : ℕ = length (pat_lines p at previous f) in
      omega (arith, part_last ps (at + n) (at + n) (omega arith), pat_lines_length p at previous f)

  mutual
    unfolding pat_lines nodes

    pub lines_within : (p : Pat) (at previous f : ℕ) → 6 < B → Within p → at + nodes p < B → previous < B → f < B → Every Below (pat_lines p at previous f)
    lines_within PWild at previous f z h i j k = ((omega arith, (omega arith, (omega arith, (j, (k, tt))))), tt)
    lines_within (PVar v) at previous f z h i j k = ((omega arith, (h, (omega arith, (j, (k, tt))))), tt)
    lines_within (PConst c) at previous f z h i j k = ((omega arith, (h, (omega arith, (j, (k, tt))))), tt)
    lines_within (PCtor n ps) at previous f z h i j k =
        let m : PartLines = part_lines ps at 0 in
        every_append Below m.lines ((3 ∷ n ∷ m.last ∷ previous ∷ f ∷ []) ∷ []) (parts_lines_within ps at 0 z h.1 (omega arith) (omega arith)) ((omega arith, (h.0, (omega (arith, part_last ps at 0 (omega arith)), (j, (k, tt))))), tt)
    lines_within (PRecord n ps) at previous f z h i j k =
        let m : PartLines = part_lines ps at 0 in
        every_append Below m.lines ((4 ∷ n ∷ m.last ∷ previous ∷ f ∷ []) ∷ []) (parts_lines_within ps at 0 z h.1 (omega arith) (omega arith)) ((omega arith, (h.0, (omega (arith, part_last ps at 0 (omega arith)), (j, (k, tt))))), tt)
    lines_within (PTuple ps) at previous f z h i j k =
        let m : PartLines = part_lines ps at 0 in
        every_append Below m.lines ((5 ∷ 0 ∷ m.last ∷ previous ∷ f ∷ []) ∷ []) (parts_lines_within ps at 0 z h (omega arith) (omega arith)) ((omega arith, (omega arith, (omega (arith, part_last ps at 0 (omega arith)), (j, (k, tt))))), tt)
    lines_within (POr ps) at previous f z h i j k =
        let m : PartLines = part_lines ps at 0 in
        every_append Below m.lines ((6 ∷ 0 ∷ m.last ∷ previous ∷ f ∷ []) ∷ []) (parts_lines_within ps at 0 z h (omega arith) (omega arith)) ((omega arith, (omega arith, (omega (arith, part_last ps at 0 (omega arith)), (j, (k, tt))))), tt)

    pub parts_lines_within : (ps : Pats) (at previous : ℕ) → 6 < B → Withins ps → at + nodes_of_parts ps < B → previous < B → Every Below (part_lines ps at previous).lines
    parts_lines_within no_parts at previous z h i j = tt
    parts_lines_within (part f p ps) at previous z h i j =
        let x : List (List ℕ) = pat_lines p at previous f in
        let r : PartLines = part_lines ps (at + length x) (at + length x) in
        let e : length x ≡ nodes p = pat_lines_length p at previous f in
        every_append Below x r.lines (lines_within p at previous f z h.1.0 (omega arith) j h.0) (parts_lines_within ps (at + length x) (at + length x) z h.1.1 (omega arith) (omega arith))

  row_numbered : 0 < B → (x : ℕ) (ns : List ℕ) → Below ns → Numbered (row x ns)
  row_numbered z x [] h k = z
  row_numbered z x (n ∷ ns) h zero = h.0
  row_numbered z x (n ∷ ns) h (suc k) = row_numbered z x ns h.1 k

  rows_numbered : 0 < B → (x : ℕ) (nss : List (List ℕ)) → Every Below nss → Every Numbered (map (row x) nss)
  rows_numbered z x [] h = tt
  rows_numbered z x (ns ∷ nss) h = (row_numbered z x ns h.0, rows_numbered z x nss h.1)

  freed_numbered : 0 < B → (ns : List ℕ) → Below ns → Every Numbered (freed_lines ns)
  freed_numbered z [] h = tt
  freed_numbered z (n ∷ ns) h = (row_numbered z 85 (n ∷ 0 ∷ 0 ∷ 0 ∷ 0 ∷ []) (h.0, (z, (z, (z, (z, tt))))), freed_numbered z ns h.1)

  pub rewritten_numbered : (r : Rewritten) → 6 < B → Within r.pat → Below r.freed → nodes r.pat < B → Every Numbered (rewritten_lines r)
  unfolding rewritten_lines
  rewritten_numbered r z h k i =
      every_append Numbered (map (row pattern_line) (pat_lines r.pat 0 0 0)) (freed_lines r.freed) (rows_numbered (omega arith) pattern_line (pat_lines r.pat 0 0 0) (lines_within r.pat 0 0 0 z h (omega arith) (omega arith) (omega arith))) (freed_numbered (omega arith) r.freed k)

  -- the numbers of the lines that are written, where those of the Q lines and their count are below the bound
  pub left_numbered : (owner : ℕ → Option Owner) (layout : ℕ → Option Layout) (names : ℕ) (qs : List Line) → AllGood names qs → 0 < length qs
      → Every Numbered qs → 6 < B → length qs < B → Every Numbered (rewritten_lines (rw_pat owner layout (pattern qs)))
  left_numbered owner layout names qs g s h z i =
      let w = of_within (marks_of owner layout qs) (flags_of owner layout qs) qs h in
      let r : Rewritten = made_of (marks_of owner layout qs) (flags_of owner layout qs) qs in
      rw (made_is_rewritten owner layout names qs g s) at (rewritten_numbered r z w.0 w.1 (omega (arith, made_few owner layout names qs g s)))
