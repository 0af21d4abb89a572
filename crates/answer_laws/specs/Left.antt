-- What an accepted sheet's left sheet says: its lines read back, its declarations are those that are left, and its types name nothing
-- that is unfolded or erased. Assumes nothing.
use Rattle.std.specs.Prelude.{◌⊎◌, ◌≡◌, Bool, ◌&&◌, ◌||◌, not, ℕ, zero, suc, ◌+◌, ◌*◌, ◌^◌, ◌≤◌, ◌<◌, eqb, get_or, take, drop}
use Rattle.std.proofs.Common.{inl, inr, sym, ◌∙◌, subst, arith, mul-suc, mul-le-mul_left, length-drop, take-suc, take-add, get_or-drop}
use Rattle.std.proofs.Math.Logic.{⊎_elim}
use Rattle.std.proofs.Math.Path.{refl, ap}
use mathlib.Core.List.{List, [], ◌∷◌, map, Memᴰ}
use Rattle.std.proofs.Math.Bool.{true, false}
use Rattle.std.proofs.Math.Option.{Option, none}
use Rattle.std.proofs.Math.Dec.{leb, ltb}
use Rattle.std.proofs.Math.ListN.{length}
use borrow.Author.Tests.{eqb-true, ltb-true, ltb-false, leb-false, not-false}
use Rattle.number_columns.specs.Column.{pick, ◌⇒◌∥◌}
use Rattle.sheet.specs.Line.{Line, bad, letter, number}
use Rattle.sheet.specs.Format.{Format, line_bytes, Ample}
use Rattle.sheet.specs.Sheet.{count, lines, row1}
use Rattle.sheet.proofs.SheetLaws.{AllFit, length_lines, within_count, fit_lines}
use Rattle.sheet.proofs.ListLaws.{false_true, both, one_of, Every, every_map}
use Rattle.model.specs.Cty.{Cty, size}
use Rattle.model.specs.Decl.{NewtypeLayout, Field, Body, TAbstract, TAbbrev, TRecord, TVariant, Dtype, ctors_of, ctors_of_tydef, CtorLayout, L_erased, L_struct, L_opaque, TypeInfo, Origin, here, imported, Decl, no_decl, dtype_at, origin_at, close_fields}
use Rattle.model.specs.Erasure.{marked, erasure_fixpoint}
use Rattle.model.specs.Layout.{collapse, ctor_layouts, newtype_of_ctor, newtype_of, dropped, layout_of, candidates_of, passes_of}
use Rattle.model.specs.Resolve.{stays, resolve}
use Rattle.model.specs.Run.{left_program, layouts_of, run, returns, resolves, decl_fault, lay, layout_of_decl, left_at}
use Rattle.meaning.specs.Program.{name_line, arg_line, type_line, local_line, param_line, ctor_line, field_line, verdict_line, import_line, is, is_head, select, before, Group, keeps_of, tags, ctor_layouts_by, abbreviated, layout_by, info_of, verdict_of, trees, dtype_of, decl_of, program}
use Rattle.meaning.specs.Rows.{nth_line, count_of, count_before, heads_before, params_after, row4, last_head, head_of, kept_after, one_ctor, good_verdict, good_verdicts, row7}
use Rattle.meaning.specs.Output.{left_lines}
use Rattle.answer.specs.Answer.{row8, row9_10, left_sheet, Clear, Passes}
use Rattle.answer_laws.specs.Pass.{clear_heads}
use Rattle.model_laws.specs.Fuel.{NoReturn}
use Rattle.meaning_laws.specs.Written.{left_program_read}
use Rattle.meaning_laws.specs.Numbers.{sheet_round, left_sheet_normal}
use Rattle.meaning_laws.specs.Program.{None, heads, head_cases, length_program, program_at, HeadAt, head_at, body_number, body_of_number, close_number}
use Rattle.model_laws.specs.Resolve.{StructMatches, OpaqueMatches, Matches, layout_matches, Normal, Resolved, decl_resolved, LeftTypes, left_types}
use Rattle.model_laws.specs.Layout.{get_or_layouts}
use Rattle.answer_laws.specs.Build.{row1_small}
use Rattle.meaning_laws.specs.Rows.{last_head_append, last_head_none}

-- ---- an import's layout goes with its body
by_matches : (n : ℕ) (b : Body) (ls : List Line) → 2 ≤ body_number b → StructMatches b (ctor_layouts_by (tags ls) (ctors_of n b) (keeps_of b ls))
unfolding body_number ctor_layouts_by ctors_of keeps_of
by_matches n TAbstract ls h = tt
by_matches n (TAbbrev c) ls h = absurd (omega arith)
by_matches n (TRecord fs) ls h = tt
by_matches n (TVariant cs) ls h = tt

newtype_matches : (b : Body) (cls : List CtorLayout) → StructMatches b cls → Matches b (collapse false (newtype_of cls) cls)
unfolding newtype_of newtype_of_ctor collapse
newtype_matches b [] m = m
newtype_matches b (cl ∷ []) m = go cl.cl_fields
  where
    go : (fs : List Field) → Matches b (collapse false (newtype_of_ctor cl.cl_name cl.cl_slots fs) (cl ∷ []))
    go [] = m
    go (f ∷ []) = tt
    go (f ∷ g ∷ fs) = m
newtype_matches b (cl ∷ cm ∷ cls) m = m

abbreviated_matches : (b : Body) → body_number b ≡ 1 → Matches b (abbreviated b)
unfolding body_number
abbreviated_matches TAbstract e = tt
abbreviated_matches (TAbbrev c) e = tt
abbreviated_matches (TRecord fs) e = absurd (omega arith)
abbreviated_matches (TVariant cs) e = absurd (omega arith)

opaque_matches : (b : Body) → body_number b ≡ 0 → OpaqueMatches b
unfolding body_number
opaque_matches TAbstract e = tt
opaque_matches (TAbbrev c) e = absurd (omega arith)
opaque_matches (TRecord fs) e = absurd (omega arith)
opaque_matches (TVariant cs) e = absurd (omega arith)

-- a V line that row 7 passes, at a declaration of the body that its first line says
verdict_matches : (h v : Line) (kept : ℕ) (b : Body) (cls : List CtorLayout) → (number h 2 ≤ 3 → body_number b ≡ number h 2) → (2 ≤ body_number b → StructMatches b cls) →
    good_verdict h kept v ≡ true → Matches b (layout_by (number v 1) b cls)
unfolding good_verdict layout_by
verdict_matches h v kept b cls n m e =
    go (eqb (number v 1) 0) (eqb (number v 1) 1) (eqb (number v 1) 2) (eqb (number v 1) 3) (eqb (number v 1) 4)
    (both (leb (number v 2) 1) _ e).1
  where
    k : ℕ
    k = number h 2

    two : eqb k 2 ≡ true → StructMatches b cls
    two p = let q : k ≡ 2 = eqb-true k 2 p in m (omega (arith, n (omega arith)))

    three : eqb k 3 ≡ true → StructMatches b cls
    three p = let q : k ≡ 3 = eqb-true k 3 p in m (omega (arith, n (omega arith)))

    one : (one_ctor h && eqb kept 1) ≡ true → StructMatches b cls
    one p = ⊎_elim two (λ q. three (both (eqb k 3) (eqb (number h 4) 1) q).0) (one_of (eqb k 2) (eqb k 3 && eqb (number h 4) 1) (both (one_ctor h) (eqb kept 1) p).0)

    go : (x0 x1 x2 x3 x4 : Bool) →
        (x0 ⇒ eqb (number v 0) 1 ∥
        eqb (number v 0) 0
        && (x1 ⇒ one_ctor h && eqb kept 1 ∥ x2 ⇒ eqb k 2 || eqb k 3 ∥ x3 ⇒ eqb k 1 ∥ x4 ⇒ eqb k 0 ∥ false)) ≡ true →
        Matches b (x0 ⇒ L_erased ∥ x1 ⇒ collapse false (newtype_of cls) cls ∥ x2 ⇒ L_struct cls ∥ x3 ⇒ abbreviated b ∥ L_opaque)
    go true x1 x2 x3 x4 p = tt
    go false true x2 x3 x4 p = newtype_matches b cls (one (both (eqb (number v 0) 0) (one_ctor h && eqb kept 1) p).1)
    go false false true x3 x4 p = ⊎_elim two three (one_of (eqb k 2) (eqb k 3) (both (eqb (number v 0) 0) (eqb k 2 || eqb k 3) p).1)
    go false false false true x4 p =
        let q : k ≡ 1 = eqb-true k 1 (both (eqb (number v 0) 0) (eqb k 1) p).1 in
        abbreviated_matches b (omega (arith, n (omega arith)))
    go false false false false true p =
        let q : k ≡ 0 = eqb-true k 0 (both (eqb (number v 0) 0) (eqb k 0) p).1 in
        opaque_matches b (omega (arith, n (omega arith)))
    go false false false false false p = false_true (both (eqb (number v 0) 0) false p).1

-- ---- the V line of a declaration
-- the first V line of a list
record VerdictAt (ls : List Line) : Type 0 where
  place : ℕ
  inside : place < length ls
  is_verdict : letter (get_or ls place bad) ≡ verdict_line
  found : verdict_of ls ≡ get_or ls place bad

first_verdict : (ls : List Line) → (select verdict_line ls ≡ []) ⊎ VerdictAt ls
unfolding select
first_verdict [] = inl refl
first_verdict (l ∷ ls) = go (is verdict_line l) refl (first_verdict ls)
  where
    go : (c : Bool) → is verdict_line l ≡ c → (select verdict_line ls ≡ []) ⊎ VerdictAt ls → (select verdict_line (l ∷ ls) ≡ []) ⊎ VerdictAt (l ∷ ls)
    go true e r = inr (record { place = 0; inside = omega arith; is_verdict = eqb-true (letter l) verdict_line e; found = rw e refl })
    go false e r =
        ⊎_elim (λ n. inl (rw e n))
        (λ k. inr (record { place = suc k.place; inside = omega (arith, k.inside); is_verdict = k.is_verdict; found = rw e k.found })) r

-- the lines before the first that begins a group
before_at : (p : Line → Bool) (xs : List Line) (k : ℕ) → k < length (before p xs) → None p (take (suc k) xs) × (get_or (before p xs) k bad ≡ get_or xs k bad) × (k < length xs)
unfolding before
before_at p [] k h = absurd (omega arith)
before_at p (x ∷ xs) k h = go (p x) refl k h (before_at p xs)
  where
    go : (c : Bool) → p x ≡ c → (j : ℕ) → j < length {A = Line} (pick c [] (x ∷ before p xs)) →
        ((i : ℕ) → i < length (before p xs) → None p (take (suc i) xs) × (get_or (before p xs) i bad ≡ get_or xs i bad) × (i < length xs)) →
        None p (take (suc j) (x ∷ xs)) × (get_or (pick c [] (x ∷ before p xs)) j bad ≡ get_or (x ∷ xs) j bad) × (j < suc (length xs))
    go true e j l ih = absurd (omega arith)
    go false e zero l ih = ((e, tt), refl, omega arith)
    go false e (suc j) l ih = let r = ih j (omega arith) in ((e, r.0), r.1, omega (arith, r.2))

head_of_self : (ls : List Line) (i : ℕ) → i < length ls → is_head (nth_line ls i) ≡ true → last_head bad (take (suc i) ls) ≡ nth_line ls i
unfolding last_head
head_of_self ls i h e =
    ap (last_head bad) (take-suc ls i bad h) ∙ (last_head_append bad (take i ls) (nth_line ls i ∷ []) ∙ ap (λ (c : Bool). pick c (nth_line ls i) (last_head bad (take i ls))) e)

-- a line of the declaration that line i begins
head_of_rest : (ls : List Line) (i k : ℕ) → i < length ls → is_head (nth_line ls i) ≡ true → k < length (before is_head (drop (suc i) ls)) → head_of ls (suc i + k) ≡ nth_line ls i
head_of_rest ls i k h e l =
    let n : suc (suc i + k) ≡ suc i + suc k = omega arith in
    rw (n, take-add (suc i) (suc k) ls)
    (last_head_append bad (take (suc i) ls) (take (suc k) (drop (suc i) ls))
    ∙ (ap (λ (x : Line). last_head x (take (suc k) (drop (suc i) ls))) (head_of_self ls i h e)
    ∙ last_head_none (nth_line ls i) (take (suc k) (drop (suc i) ls)) (before_at is_head (drop (suc i) ls) k l).0))

-- what row 7 says of a V line
row7_verdict : (ls : List Line) (j : ℕ) → row7 ls j ≡ false → letter (nth_line ls j) ≡ verdict_line → is import_line (head_of ls j) ≡ true →
    good_verdict (head_of ls j) (kept_after 0 (take j ls)) (nth_line ls j) ≡ true
unfolding row7 good_verdicts
row7_verdict ls j e v h =
    chosen (is ctor_line (nth_line ls j)) (is field_line (nth_line ls j)) (is verdict_line (nth_line ls j)) (is import_line (head_of ls j)) (good_verdict (head_of ls j) (kept_after 0 (take j ls)) (nth_line ls j))
    _ (leb (number (nth_line ls j) 2) (pick (is import_line (head_of ls j)) 1 0)) _
    (ap (λ (n : ℕ). eqb n ctor_line) v) (ap (λ (n : ℕ). eqb n field_line) v) (ap (λ (n : ℕ). eqb n verdict_line) v) h (not-false (good_verdicts ls j) e)
  where
    chosen : (o a b c g w x y : Bool) → o ≡ false → a ≡ false → b ≡ true → c ≡ true → (o ⇒ w ∥ a ⇒ x ∥ b && c ⇒ g ∥ y) ≡ true → g ≡ true
    chosen true a b c g w x y n p q r t = false_true (sym n)
    chosen false true b c g w x y n p q r t = false_true (sym p)
    chosen false false true true g w x y n p q r t = t
    chosen false false true false g w x y n p q r t = false_true r
    chosen false false false c g w x y n p q r t = false_true q

-- ---- every layout goes with its body
module _ (ls : List Line) (pass : Clear (length ls) (row7 ls)) where
  group_matches : (i : ℕ) → i < length ls → is_head (nth_line ls i) ≡ true → is import_line (nth_line ls i) ≡ true → (b : Body) (cls : List CtorLayout) →
      (number (nth_line ls i) 2 ≤ 3 → body_number b ≡ number (nth_line ls i) 2) → (2 ≤ body_number b → StructMatches b cls) →
      Matches b (layout_by (number (verdict_of (before is_head (drop (suc i) ls))) 1) b cls)
  unfolding layout_by
  group_matches i h e m b cls n s = ⊎_elim (λ z. rw z tt) at (first_verdict (before is_head (drop (suc i) ls)))
    where
      rest : List Line
      rest = before is_head (drop (suc i) ls)

      at : VerdictAt rest → Matches b (layout_by (number (verdict_of rest) 1) b cls)
      at r =
          let k : ℕ = r.place in
          let w = before_at is_head (drop (suc i) ls) k r.inside in
          let j : ℕ = suc i + k in
          let q : get_or rest k bad ≡ nth_line ls j = w.1 ∙ get_or-drop (suc i) ls k bad in
          let g : head_of ls j ≡ nth_line ls i = head_of_rest ls i k h e r.inside in
          let l : j < length ls = omega (arith, w.2, length-drop (suc i) ls) in
          let t = row7_verdict ls j (pass j l) (ap letter (sym q) ∙ r.is_verdict) (ap (is import_line) g ∙ m) in
          rw (r.found, q)
          (verdict_matches (nth_line ls i) (nth_line ls j) (kept_after 0 (take j ls)) b cls n s (ap (λ (x : Line). good_verdict x (kept_after 0 (take j ls)) (nth_line ls j)) (sym g) ∙ t))

  import_matches : (i : ℕ) → i < length ls → is_head (nth_line ls i) ≡ true → (d : Decl) → d ≡ decl_of (trees ls) (record { head = nth_line ls i; rest = before is_head (drop (suc i) ls) }) →
      (ti : TypeInfo) → d.origin ≡ imported ti → Matches d.dtype.dt_body ti.ti_layout
  unfolding decl_of info_of close_fields dtype_of
  import_matches i h e d q ti o = rw q (go (is import_line (nth_line ls i)) refl (ap (λ (x : Decl). x.origin) (sym q) ∙ o))
    where
      g : Group
      g = record { head = nth_line ls i; rest = before is_head (drop (suc i) ls) }

      t : Dtype
      t = close_fields (dtype_of (trees ls) g)

      own : TypeInfo
      own = info_of t g.rest (verdict_of g.rest)

      go : (c : Bool) → is import_line (nth_line ls i) ≡ c → pick c (imported own) here ≡ imported ti → Matches t.dt_body ti.ti_layout
      go true m p =
          let z : own ≡ ti = cc in
          subst (λ (x : TypeInfo). Matches t.dt_body x.ti_layout) z
          (group_matches i h e m t.dt_body (ctor_layouts_by (tags g.rest) (ctors_of_tydef t) (keeps_of t.dt_body g.rest))
          (λ k. close_number (dtype_of (trees ls) g).dt_params (dtype_of (trees ls) g).dt_body ∙ body_of_number (trees ls) (number (nth_line ls i) 2) (number (nth_line ls i) 4) g.rest k)
          (λ k. by_matches t.dt_name t.dt_body g.rest k))
      go false m p = let z : ◌≡◌ {A = ℕ} 0 1 = cc in absurd (omega arith)

  -- Where row 7 passes, every declaration's layout goes with its body.
  pub program_matches : (i : ℕ) → i < length (program ls) → Matches (dtype_at (program ls) i).dt_body (layout_of_decl (program ls) i)
  unfolding layouts_of layout_of
  program_matches i h = rw (get_or_layouts ds s i L_opaque h) (go (origin_at ds i) refl)
    where
      ds : List Decl
      ds = program ls

      s : List Bool
      s = (erasure_fixpoint ds).marks

      cand : Option NewtypeLayout
      cand = get_or (candidates_of ds s) i none

      go : (o : Origin) → origin_at ds i ≡ o → Matches (dtype_at ds i).dt_body (layout_of (dtype_at ds i) o (get_or s i false) (dropped ds (passes_of ds s) i) cand (ctor_layouts (marked ds s) (dtype_at ds i)))
      go here e = layout_matches (marked ds s) (dtype_at ds i) (get_or s i false) (dropped ds (passes_of ds s) i) cand
      go (imported ti) e =
          let r : HeadAt ls i = head_at ls i (omega (arith, length_program ls)) in
          let q = ap (λ (k : ℕ). get_or ds k no_decl) (sym r.passed) ∙ program_at ls r.place no_decl r.inside r.heads_it in
          import_matches r.place r.inside r.heads_it (get_or ds i no_decl) q ti e

-- ---- limits
-- the line of a letter before which there are k of that letter
record LetterAt (x : ℕ) (ls : List Line) (k : ℕ) : Type 0 where
  spot : ℕ
  within : spot < length ls
  lettered : letter (nth_line ls spot) ≡ x
  earlier : count_before x ls spot ≡ k

letter_at : (x : ℕ) (ls : List Line) (k : ℕ) → k < count_of x ls → LetterAt x ls k
unfolding select
letter_at x [] k h = absurd (omega arith)
letter_at x (l ∷ ls) k h = go (is x l) refl k h (letter_at x ls)
  where
    go : (c : Bool) → is x l ≡ c → (j : ℕ) → j < length (pick c (l ∷ select x ls) (select x ls)) → ((i : ℕ) → i < count_of x ls → LetterAt x ls i) → LetterAt x (l ∷ ls) j
    go true e zero m ih = record { spot = 0; within = omega arith; lettered = eqb-true (letter l) x e; earlier = refl }
    go true e (suc j) m ih =
        let r = ih j (omega arith) in
        record { spot = suc r.spot; within = omega (arith, r.within); lettered = r.lettered; earlier = rw e (ap suc r.earlier) }
    go false e j m ih =
        let r = ih j m in
        record { spot = suc r.spot; within = omega (arith, r.within); lettered = r.lettered; earlier = rw e r.earlier }

-- row 4 by a line's letter
by_letter : Bool → Bool → Bool → Bool → Bool → Bool → Bool → ℕ → Bool
by_letter b1 b2 b3 b4 b5 b6 b7 n =
    eqb n name_line ⇒ b1 ∥
    eqb n arg_line ⇒ b2 ∥
    eqb n type_line ⇒ b3 ∥
    (eqb n local_line || eqb n import_line) ⇒ b4 ∥
    eqb n param_line ⇒ b5 ∥
    eqb n ctor_line ⇒ b6 ∥
    eqb n field_line ⇒ b7 ∥
    false

module _ (f : Format) (ls : List Line) (pass : Clear (length ls) (row4 f ls)) where
  row4_letter : (i x : ℕ) → i < length ls → letter (nth_line ls i) ≡ x →
      by_letter (leb f.names (count_before name_line ls i)) (leb f.args (count_before arg_line ls i)) (leb f.types (count_before type_line ls i)) (leb f.decls (heads_before ls i)) (leb f.params (params_after 0 (take i ls))) (leb f.ctors (count_before ctor_line ls i)) (leb f.fields (count_before field_line ls i)) x ≡ false
  unfolding row4 by_letter
  row4_letter i x h e =
      ap (by_letter (leb f.names (count_before name_line ls i)) (leb f.args (count_before arg_line ls i)) (leb f.types (count_before type_line ls i)) (leb f.decls (heads_before ls i)) (leb f.params (params_after 0 (take i ls))) (leb f.ctors (count_before ctor_line ls i)) (leb f.fields (count_before field_line ls i))) (sym e)
      ∙ pass i h

  -- no more declarations and no more F lines than their limits
  pub decls_limit : heads ls ≤ f.decls
  unfolding by_letter
  decls_limit = go (ltb f.decls (heads ls)) refl
    where
      head_row : (i : ℕ) → i < length ls → is_head (nth_line ls i) ≡ true → leb f.decls (heads_before ls i) ≡ false
      head_row i h e = ⊎_elim (λ q. row4_letter i local_line h q) (λ q. row4_letter i import_line h q) (head_cases (nth_line ls i) e)

      go : (c : Bool) → ltb f.decls (heads ls) ≡ c → heads ls ≤ f.decls
      go true e =
          let r : HeadAt ls f.decls = head_at ls f.decls (ltb-true f.decls (heads ls) e) in
          absurd (omega (arith, r.passed, leb-false f.decls (heads_before ls r.place) (head_row r.place r.inside r.heads_it)))
      go false e = ltb-false f.decls (heads ls) e

  pub fields_limit : count_of field_line ls ≤ f.fields
  unfolding by_letter
  fields_limit = go (ltb f.fields (count_of field_line ls)) refl
    where
      go : (c : Bool) → ltb f.fields (count_of field_line ls) ≡ c → count_of field_line ls ≤ f.fields
      go true e =
          let r = letter_at field_line ls f.fields (ltb-true f.fields (count_of field_line ls) e) in
          absurd (omega (arith, r.earlier, leb-false f.fields (count_before field_line ls r.spot) (row4_letter r.spot field_line r.within r.lettered)))
      go false e = ltb-false f.fields (count_of field_line ls) e

pub lines_limit : (f : Format) (b : List ℕ) → row1 f b ≡ false → length (lines f.columns b) ≤ f.lines
lines_limit f b e =
    let w : ℕ = f.columns in
    go w (row1_small f b e) (ltb f.lines (count w b)) refl
  where
    go : (w : ℕ) → length b ≤ line_bytes w * f.lines → (c : Bool) → ltb f.lines (count w b) ≡ c → length (lines w b) ≤ f.lines
    go w h true q =
        let k : f.lines < count w b = ltb-true f.lines (count w b) q in
        absurd (omega (arith, within_count w b f.lines k, mul-suc (line_bytes w) f.lines))
    go w h false q = omega (arith, length_lines w b, ltb-false f.lines (count w b) q)

-- ---- lines to which no row of declarations applies
pub lines_no_return : (ls : List Line) → Clear (length ls) (row8 (program ls) ls) → NoReturn (program ls)
unfolding row8
lines_no_return ls c = clear_heads ls (returns (program ls) (layouts_of (program ls))) c

-- every type that is resolved resolves without fault, and is small
pub lines_resolved : (f : Format) (ls : List Line) → Clear (length ls) (row9_10 f (program ls) ls)
    → (i : ℕ) → i < length (program ls) → Every (Resolved f.nodes (lay (program ls)) f.fuel) (resolves (layout_of_decl (program ls) i))
unfolding row9_10
lines_resolved f ls c i h =
    let fault : ℕ → ℕ = decl_fault f.nodes f.fuel (program ls) (layouts_of (program ls)) in
    let n = clear_heads ls (λ k. not (eqb (fault k) 0)) c i h in
    decl_resolved f.nodes f.fuel (program ls) (layouts_of (program ls)) i (eqb-true (fault i) 0 (not-false (eqb (fault i) 0) n))

-- ---- the left sheet of an accepted sheet
module _ (f : Format) (b : List ℕ) (v l : ℕ) (ample : Ample f) (pass : Passes f b v l) where
  abbrev pub sheet_lines : List Line
  sheet_lines = lines f.columns b

  abbrev pub sheet_program : List Decl
  sheet_program = program sheet_lines

  abbrev pub sheet_left : List Dtype
  sheet_left = left_program (run f.fuel sheet_program)

  clear : (p : ℕ → Bool) → Clear (count f.columns b) p → Clear (length sheet_lines) p
  clear p h i k = h i (omega (arith, length_lines f.columns b))

  pub few_decls : length sheet_program < f.fuel
  few_decls = omega (arith, length_program sheet_lines, decls_limit f sheet_lines (clear (row4 f sheet_lines) pass.pass4), ample.depth)

  pub pass_no_return : NoReturn sheet_program
  pass_no_return = lines_no_return sheet_lines (clear (row8 sheet_program sheet_lines) pass.pass8)

  -- every type that is resolved resolves without fault, and is small
  pub pass_resolved : (i : ℕ) → i < length sheet_program → Every (Resolved f.nodes (lay sheet_program) f.fuel) (resolves (layout_of_decl sheet_program i))
  pass_resolved = lines_resolved f sheet_lines (clear (row9_10 f sheet_program sheet_lines) pass.pass9_10)

  left_all : (P : Cty → Type 0) → ((c : Cty) → Resolved f.nodes (lay sheet_program) f.fuel c → P (resolve (lay sheet_program) f.fuel c)) → (i : ℕ) → i < length sheet_program → LeftTypes P (left_at f.fuel sheet_program i)
  unfolding left_at
  left_all P g i h =
      left_types P (resolve (lay sheet_program) f.fuel) (dtype_at sheet_program i) (layout_of_decl sheet_program i) (program_matches sheet_lines (clear (row7 sheet_lines) pass.pass7) i h)
      (every_map (Resolved f.nodes (lay sheet_program) f.fuel) (λ c. P (resolve (lay sheet_program) f.fuel c)) g (resolves (layout_of_decl sheet_program i)) (pass_resolved i h))

  pub pass_fit : AllFit f.columns sheet_lines
  pass_fit = fit_lines f.columns b pass.pass2

  room : f.nodes * (heads sheet_lines + count_of field_line sheet_lines) < 10 ^ f.columns
  room =
      let h : heads sheet_lines + count_of field_line sheet_lines ≤ f.decls + f.fields =
      omega (arith, decls_limit f sheet_lines (clear (row4 f sheet_lines) pass.pass4), fields_limit f sheet_lines (clear (row4 f sheet_lines) pass.pass4)) in
      omega (arith, mul-le-mul_left f.nodes h, ample.nodes)

  -- the lines of the left sheet are what its bytes read as
  pub left_sheet_lines : lines f.columns (left_sheet f sheet_lines) ≡ left_lines sheet_lines sheet_left
  unfolding left_sheet
  left_sheet_lines =
      sheet_round f.columns f.nodes f.fuel sheet_lines ample.kinds pass_fit (omega (arith, lines_limit f b pass.pass1, ample.counts)) room
      (left_all (λ t. size t ≤ f.nodes) (λ c r. r.small))

  -- Read as a sheet, it declares what is left, each as a local declaration.
  pub left_sheet_program : program (lines f.columns (left_sheet f sheet_lines)) ≡ map (λ d. record { dtype = close_fields d; origin = here }) sheet_left
  left_sheet_program = rw left_sheet_lines (left_program_read sheet_lines sheet_left)

  -- Its types name nothing that is unfolded or erased.
  pub left_sheet_names : (y : Line) → Memᴰ y (lines f.columns (left_sheet f sheet_lines)) → letter y ≡ type_line → number y 0 ≡ 8 → lay sheet_program (number y 1) ≡ stays
  left_sheet_names = rw left_sheet_lines (left_sheet_normal f.fuel sheet_lines sheet_program (left_all (Normal (lay sheet_program)) (λ c r. r.normal)))
