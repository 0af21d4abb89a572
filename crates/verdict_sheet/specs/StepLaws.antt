-- One line written over the copy, by its letter; and the numbers of a verdict, by the cells. Assumes nothing.
use Rattle.std.specs.Prelude.{◌≡◌, refl, List, ◌++◌, Bool, true, false, not, ℕ, suc, ◌+◌, ◌-◌, ◌*◌, ◌≤◌, ◌<◌, eqb, length, get_or, set, take, drop}
use Rattle.std.proofs.Common.{ap, sym, ◌∙◌, arith}
use Rattle.std.proofs.Math.Option.{Option, none, some}
use Rattle.std.proofs.Math.Seq.{take-length}
use borrow.Author.Tests.{ne_eqb}
use Rattle.number_columns.specs.Column.{pick, ◌⇒◌∥◌, write}
use Rattle.sheet.specs.Line.{Line, letter, number}
use Rattle.sheet.specs.Sheet.{lines}
use Rattle.sheet.specs.Format.{base}
use Rattle.sheet.proofs.ListLaws.{get_or_within}
use Rattle.model.specs.Decl.{Dtype, Body, TAbstract, TAbbrev, TRecord, TVariant, CtorLayout, NewtypeLayout, Layout, L_erased, L_newtype, L_struct, L_abbrev, L_opaque, Decl, bit, layout_number, origin_at, here}
use Rattle.model.specs.Erasure.{cty_erased, marked, erasure_fixpoint}
use Rattle.model.specs.Layout.{collapse, layout_of_body, layout_of}
use Rattle.model.specs.Run.{layouts_of, layout_of_decl, left_at, record_of}
use Rattle.model_laws.specs.Layout.{get_or_layouts}
use Rattle.meaning.specs.Program.{ctor_line, field_line, import_line, is, type_at, trees, program}
use Rattle.meaning.specs.Rows.{nth_line, count_of, count_before, ctors_after}
use Rattle.meaning_laws.specs.Program.{length_program}
use Rattle.answer.specs.Answer.{verdict_sheet, after}
use Rattle.row3_order.specs.StepLaws.{count_before_step}
use Rattle.row4_limits.specs.Limits.{start}
use Rattle.row4_limits.specs.LimitsLaws.{start_past, start_rises}
use Rattle.table_access.specs.Tables.{head_line, decls_of, first_of, lines_in}
use Rattle.table_declared.specs.BareLaws.{head_bare}
use Rattle.table_declared.specs.LineLaws.{nth_at}
use Rattle.table_declared.specs.DeclLaws.{origin_local}
use Rattle.table_declared.specs.PassedLaws.{ctors_few}
use Rattle.keep_fields.specs.Keeps.{Slotted}
use Rattle.keep_layouts.specs.Kept.{body_kind}
use Rattle.keep_layouts.specs.States.{state, Shape, Settled}
use Rattle.left_laws.specs.Lefts.{Recorded}
use Rattle.verdict_sheet.specs.declared.Counts.{Counts}
use Rattle.verdict_sheet.specs.Upto.{upto, number_by, Sheet, Next, counts_before, Moved}
use Rattle.verdict_sheet.specs.LineLaws.{start_le, inside, header_stays, import_stays, local_head, local_place, local_ctor, local_entry, local_field, local_verdict, local_other}
use Rattle.verdict_sheet.specs.UptoLaws.{bytes, upto_none, upto_all, upto_again, upto_same, upto_letter, upto_keep, upto_tag, upto_three, upto_run, letter_byte}
use Rattle.table_access.specs.OfSheet.{decls_same, OfSheet, program_same, sheet_passed, first_same}

-- ---- numbers of a verdict
shape_number : (ls : List Line) (u : List ℕ) (d : ℕ) (l : Layout) → Shape ls u d l → number_by (state u d) (body_kind ls d) ≡ layout_number l
unfolding number_by layout_number
shape_number ls u d L_erased h = rw h
shape_number ls u d (L_newtype nt) h = rw h.0
shape_number ls u d (L_struct cls) h = rw (h.0, ne_eqb (body_kind ls d) 0 (λ e. omega (arith, h.1)), ne_eqb (body_kind ls d) 1 (λ e. omega (arith, h.1)))
shape_number ls u d (L_abbrev c) h = rw (ne_eqb (state u d) 0 (λ e. omega (arith, h.0)), ne_eqb (state u d) 1 (λ e. omega (arith, h.0)), h.2)
shape_number ls u d L_opaque h = rw (h.0, h.1)

-- the same, as the cell is read and tested
module _ (ls : List Line) (u : List ℕ) (d : ℕ) (m : Settled ls u) (h : d < decls_of ls) where
  pub cell_inside : 2 * d < length u
  cell_inside = omega (arith, m.long)

  by_cells : number_by (get_or u (2 * d) 0) (body_kind ls d) ≡ layout_number (layout_of_decl (program ls) d)
  by_cells =
      ap (λ (x : ℕ). number_by x (body_kind ls d)) (get_or_within u (2 * d) 0 3 cell_inside)
      ∙ shape_number ls u d (layout_of_decl (program ls) d) (m.shapes d h)

  pub number_gone : get_or u (2 * d) 0 ≡ 0 → 0 ≡ layout_number (layout_of_decl (program ls) d)
  unfolding number_by
  number_gone e = rw e at by_cells

  pub number_newtype : get_or u (2 * d) 0 ≡ 1 → 1 ≡ layout_number (layout_of_decl (program ls) d)
  unfolding number_by
  number_newtype e = rw e at by_cells

  pub number_kept : (get_or u (2 * d) 0 ≡ 0 → ⊥) → (get_or u (2 * d) 0 ≡ 1 → ⊥) → (k : ℕ) → k ≡ body_kind ls d
      → (eqb k 0 ⇒ 4 ∥ eqb k 1 ⇒ 3 ∥ 2) ≡ layout_number (layout_of_decl (program ls) d)
  unfolding number_by
  number_kept x y k e = rw (ne_eqb (get_or u (2 * d) 0) 0 x, ne_eqb (get_or u (2 * d) 0) 1 y, ← e) at by_cells

body_number : (b : Body) (c : Bool) (o : Option NewtypeLayout) (cls : List CtorLayout) → eqb (layout_number (layout_of_body b c o cls)) 0 ≡ false
unfolding layout_of_body layout_number collapse
body_number TAbstract c o cls = refl
body_number (TAbbrev t) c o cls = refl
body_number (TRecord fs) true o cls = refl
body_number (TRecord fs) false none cls = refl
body_number (TRecord fs) false (some nt) cls = refl
body_number (TVariant cs) true o cls = refl
body_number (TVariant cs) false none cls = refl
body_number (TVariant cs) false (some nt) cls = refl

mark_number : (d : Dtype) (e c : Bool) (o : Option NewtypeLayout) (cls : List CtorLayout) → pick (eqb (layout_number (layout_of d here e c o cls)) 0) 1 0 ≡ bit e
unfolding layout_of layout_number
mark_number d true c o cls = refl
mark_number d false c o cls = rw (body_number d.dt_body c o cls)

-- a local declaration is erased exactly where its layout is
erased_number : (ds : List Decl) (d : ℕ) → d < length ds → origin_at ds d ≡ here
    → pick (eqb (layout_number (layout_of_decl ds d)) 0) 1 0 ≡ bit (get_or (erasure_fixpoint ds).marks d false)
unfolding layouts_of
erased_number ds d h o = rw (get_or_layouts ds (erasure_fixpoint ds).marks d L_opaque h, o) (mark_number _ _ _ _ _)

pub bit_small : (n : ℕ) (c : Bool) → n ≡ bit c → n < 10
bit_small n true e = omega arith
bit_small n false e = omega arith

pub zero_small : (l n : ℕ) → n ≡ pick (eqb l 0) 1 0 → n < 10
zero_small l n = go (eqb l 0)
  where
    go : (c : Bool) → n ≡ pick c 1 0 → n < 10
    go true e = omega arith
    go false e = omega arith

pub layout_small : (l : Layout) → layout_number l < 10
unfolding layout_number
layout_small L_erased = omega arith
layout_small (L_newtype nt) = omega arith
layout_small (L_struct cls) = omega arith
layout_small (L_abbrev c) = omega arith
layout_small L_opaque = omega arith

-- ---- one line
module _ (b out : List ℕ) (p : Sheet b) (d i : ℕ) (n : Next b out d i) where
  pub here_inside : i < length (lines 6 b)
  here_inside = inside b p d i n.declared n.local n.from n.to

  pub here_letter : get_or b (i * 32) 0 ≡ letter (nth_line (lines 6 b) i)
  here_letter = letter_byte b p i here_inside

  -- the 32 bytes of the line
  pub here_room : i * 32 + 32 ≤ length b
  here_room = omega (arith, here_inside, bytes b p)

  -- the line counted, by whether it is an F or a C line
  counted : (c : Counts) → c ≡ counts_before (lines 6 b) i → (f k : Bool) → is field_line (nth_line (lines 6 b) i) ≡ f → is ctor_line (nth_line (lines 6 b) i) ≡ k
      → record { fields = pick f (c.fields + 1) c.fields; ctors = pick k (c.ctors + 1) c.ctors } ≡ counts_before (lines 6 b) (suc i)
  counted c g f k ef ek = rw (g, count_before_step (lines 6 b) i here_inside field_line, count_before_step (lines 6 b) i here_inside ctor_line, ef, ek)

  pub step_head : (c : Counts) → c ≡ counts_before (lines 6 b) i → get_or b (i * 32) 0 ≡ 68 → Moved b out (set out (i * 32) 73) i c
  step_head c g e =
      let q : letter (nth_line (lines 6 b) i) ≡ 68 = sym here_letter ∙ e in
      let r = local_head b p d i n.declared n.local n.from n.to q in
      record {
        counts = counted c g false false (rw q) (rw q);
        written = ap (λ (x : List ℕ). set x (i * 32) 73) n.written ∙ upto_letter b p i here_inside out 68 73 _ r.0 r.1;
      }

  pub field_inside : (f : ℕ) → f ≡ count_before field_line (lines 6 b) i → get_or b (i * 32) 0 ≡ 70 → f < count_of field_line (lines 6 b)
  field_inside f g e = let q : letter (nth_line (lines 6 b) i) ≡ 70 = sym here_letter ∙ e in rw g (nth_at field_line (lines 6 b) i here_inside (rw q)).0

  pub field_small : (keep : List ℕ) → Slotted (lines 6 b) keep → (f : ℕ) → f ≡ count_before field_line (lines 6 b) i → get_or b (i * 32) 0 ≡ 70 → get_or keep f 0 < 10
  field_small keep s f g e =
      let q : letter (nth_line (lines 6 b) i) ≡ 70 = sym here_letter ∙ e in
      rw g
      (bit_small (get_or keep (count_before field_line (lines 6 b) i) 0) (not (cty_erased (marked (program (lines 6 b)) (erasure_fixpoint (program (lines 6 b))).marks) (type_at (trees (lines 6 b)) (number (nth_line (lines 6 b) i) 1))))
      (local_entry b p d i n.declared n.local n.from n.to keep s q))

  pub step_field : (keep : List ℕ) → Slotted (lines 6 b) keep → (c : Counts) → c ≡ counts_before (lines 6 b) i → get_or b (i * 32) 0 ≡ 70
      → Moved b out (set out (i * 32 + 18) (48 + get_or keep c.fields 0)) i (record { fields = c.fields + 1; ctors = c.ctors })
  step_field keep s c v e =
      let f : ℕ = c.fields in
      let g : f ≡ count_before field_line (lines 6 b) i = ap (λ (x : Counts). x.fields) v in
      let q : letter (nth_line (lines 6 b) i) ≡ 70 = sym here_letter ∙ e in
      let r = local_field b p d i n.declared n.local n.from n.to keep s q in
      record {
        counts = counted c v true false (rw q) (rw q);
        written = ap (λ (x : List ℕ). set x (i * 32 + 18) (48 + get_or keep f 0)) n.written ∙ upto_keep b p i here_inside out 70 _ _ (get_or keep f 0) (field_small keep s f g e) r.0 (rw g r.1);
      }

  -- a C line, before which there are c in the sheet
  pub ctor_past : (f c : ℕ) → f ≡ first_of ctor_line (lines 6 b) d → c ≡ count_before ctor_line (lines 6 b) i → get_or b (i * 32) 0 ≡ 67 → f ≤ c
  ctor_past f c u g e = omega (arith, local_place b p d i n.declared n.local n.from n.to (sym here_letter ∙ e))

  pub ctor_few : (c : ℕ) → c ≡ count_before ctor_line (lines 6 b) i → get_or b (i * 32) 0 ≡ 67 → c < 1024
  ctor_few c g e =
      let q : letter (nth_line (lines 6 b) i) ≡ 67 = sym here_letter ∙ e in
      omega (arith, (nth_at ctor_line (lines 6 b) i here_inside (rw q)).0, ctors_few (lines 6 b) p.passed)

  -- the only constructor has no tag
  pub step_only : (m : ℕ) → m ≡ number (head_line (lines 6 b) d) 4 → m ≡ 1 → get_or b (i * 32) 0 ≡ 67 → out ≡ upto b (suc i) out
  step_only m h o e =
      let r = local_ctor b p d i n.declared n.local n.from n.to (sym here_letter ∙ e) in
      n.written ∙ sym (upto_same b p i here_inside out (r.1 ∙ rw (← h, o) (sym r.0)))

  pub step_tag : (m f c : ℕ) → m ≡ number (head_line (lines 6 b) d) 4 → (m ≡ 1 → ⊥) → f ≡ first_of ctor_line (lines 6 b) d → c ≡ count_before ctor_line (lines 6 b) i → get_or b (i * 32) 0 ≡ 67
      → take (i * 32 + 13) out ++ (write 6 (c - f + 1) ++ drop (i * 32 + 13 + 6) out) ≡ upto b (suc i) out
  step_tag m f c h o u g e =
      let q : letter (nth_line (lines 6 b) i) ≡ 67 = sym here_letter ∙ e in
      let r = local_ctor b p d i n.declared n.local n.from n.to q in
      let k : c - f + 1 ≡ suc (ctors_after 0 (take i (lines 6 b))) = omega (arith, local_place b p d i n.declared n.local n.from n.to q) in
      rw k
      (ap (λ (x : List ℕ). take (i * 32 + 13) x ++ (write 6 (suc (ctors_after 0 (take i (lines 6 b)))) ++ drop (i * 32 + 13 + 6) x)) n.written
      ∙ upto_tag b p i here_inside out 67 _ _ 0 (suc (ctors_after 0 (take i (lines 6 b)))) _ r.0 (r.1 ∙ rw (← h, ne_eqb m 1 o)))

  pub ctor_moved : (out' : List ℕ) (c : Counts) → c ≡ counts_before (lines 6 b) i → get_or b (i * 32) 0 ≡ 67 → out' ≡ upto b (suc i) out
      → Moved b out out' i (record { fields = c.fields; ctors = c.ctors + 1 })
  ctor_moved out' c g e w = let q : letter (nth_line (lines 6 b) i) ≡ 67 = sym here_letter ∙ e in record { counts = counted c g false true (rw q) (rw q); written = w }

  pub step_verdict : (m l r : ℕ) → get_or b (i * 32) 0 ≡ 86 → l ≡ layout_number (layout_of_decl (program (lines 6 b)) d) → m ≡ pick (eqb l 0) 1 0
      → r ≡ bit (record_of (left_at 100 (program (lines 6 b)) d))
      → set (set (set out (i * 32 + 6) (48 + m)) (i * 32 + 12) (48 + l)) (i * 32 + 18) (48 + r) ≡ upto b (suc i) out
  step_verdict m l r e hl hm hr =
      let q : letter (nth_line (lines 6 b) i) ≡ 86 = sym here_letter ∙ e in
      let v = local_verdict b p d i n.declared n.local n.from n.to q in
      let o = origin_local (lines 6 b) d n.declared n.local in
      let x : m ≡ bit (get_or (erasure_fixpoint (program (lines 6 b))).marks d false) = hm ∙ rw hl (erased_number (program (lines 6 b)) d (rw (length_program (lines 6 b)) n.declared) o) in
      let sl : l < 10 = rw hl (layout_small (layout_of_decl (program (lines 6 b)) d)) in
      ap (λ (y : List ℕ). set (set (set y (i * 32 + 6) (48 + m)) (i * 32 + 12) (48 + l)) (i * 32 + 18) (48 + r)) n.written
      ∙ upto_three b p i here_inside out 86 m l r (bit_small m (get_or (erasure_fixpoint (program (lines 6 b))).marks d false) x) sl (bit_small r (record_of (left_at 100 (program (lines 6 b)) d)) hr) v.0 (rw (x, hl, hr) v.1)

  pub verdict_moved : (out' : List ℕ) (c : Counts) → c ≡ counts_before (lines 6 b) i → get_or b (i * 32) 0 ≡ 86 → out' ≡ upto b (suc i) out → Moved b out out' i c
  verdict_moved out' c g e w = let q : letter (nth_line (lines 6 b) i) ≡ 86 = sym here_letter ∙ e in record { counts = counted c g false false (rw q) (rw q); written = w }

  pub step_other : (c : Counts) → c ≡ counts_before (lines 6 b) i → (get_or b (i * 32) 0 ≡ 70 → ⊥) → (get_or b (i * 32) 0 ≡ 67 → ⊥) → (get_or b (i * 32) 0 ≡ 68 → ⊥) → (get_or b (i * 32) 0 ≡ 86 → ⊥) → Moved b out out i c
  step_other c g w x y z =
      let l : Line = nth_line (lines 6 b) i in
      let not_field : letter l ≡ 70 → ⊥ = λ q. w (here_letter ∙ q) in
      let not_ctor : letter l ≡ 67 → ⊥ = λ q. x (here_letter ∙ q) in
      record {
        counts = counted c g false false (ne_eqb (letter l) 70 not_field) (ne_eqb (letter l) 67 not_ctor);
        written = n.written ∙ sym (upto_same b p i here_inside out (local_other b p d i n.declared n.local n.from n.to not_field not_ctor (λ q. y (here_letter ∙ q)) (λ q. z (here_letter ∙ q))));
      }

-- ---- a declaration
module _ (b : List ℕ) (p : Sheet b) (d : ℕ) (h : d < decls_of (lines 6 b)) where
  pub starts_rise : start (lines 6 b) d < start (lines 6 b) (suc d)
  starts_rise = start_rises (lines 6 b) d (rw (take-length (lines 6 b)) h)

  pub import_whole : (out : List ℕ) → is import_line (head_line (lines 6 b) d) ≡ true → out ≡ upto b (start (lines 6 b) d) out → out ≡ upto b (start (lines 6 b) (suc d)) out
  import_whole out e w =
      let k : ℕ = start (lines 6 b) (suc d) - start (lines 6 b) d in
      let m : start (lines 6 b) d + k ≡ start (lines 6 b) (suc d) = omega (arith, starts_rise) in
      w ∙ sym (rw m at (upto_run b p (start (lines 6 b) d) k out (omega (arith, start_le (lines 6 b) (suc d))) (λ j a l. import_stays b p d h e j a (omega arith))))

  -- a line further: what was written since the declaration began
  pub local_next : (old out out' : List ℕ) (i : ℕ) → i < start (lines 6 b) (suc d) → out ≡ upto b i old → out' ≡ upto b (suc i) out → out' ≡ upto b (suc i) old
  local_next old out out' i l w m = m ∙ rw w (upto_again b p i (suc i) old (omega (arith, start_le (lines 6 b) (suc d))))

-- ---- the whole
pub upto_self : (b : List ℕ) → Sheet b → (old out : List ℕ) (i : ℕ) → i ≤ length (lines 6 b) → out ≡ upto b i old → out ≡ upto b i out
upto_self b p old out i h w = w ∙ sym (rw w (upto_again b p i i old h))

-- a declaration further
pub decl_next : (b : List ℕ) → Sheet b → (d : ℕ) (old out out' : List ℕ) → out ≡ upto b (start (lines 6 b) d) old → out' ≡ upto b (start (lines 6 b) (suc d)) out → out' ≡ upto b (start (lines 6 b) (suc d)) old
decl_next b p d old out out' w m = m ∙ rw w (upto_again b p (start (lines 6 b) d) (start (lines 6 b) (suc d)) old (start_le (lines 6 b) d))

-- a copy of the sheet has the header already
pub begun : (b : List ℕ) → Sheet b → (old out : List ℕ) → out ≡ b ++ drop (length b) old → out ≡ upto b (start (lines 6 b) 0) out
begun b p old out e =
    let z : 0 + start (lines 6 b) 0 ≡ start (lines 6 b) 0 = omega arith in
    upto_self b p old out 0 (omega arith) (e ∙ upto_none b p old)
    ∙ sym (rw z at (upto_run b p 0 (start (lines 6 b) 0) out (omega (arith, start_le (lines 6 b) 0)) (λ j a l. header_stays b p j (omega arith))))

pub ended : (b : List ℕ) → Sheet b → (old copy out : List ℕ) (d : ℕ) → decls_of (lines 6 b) ≤ d → copy ≡ b ++ drop (length b) old → out ≡ upto b (start (lines 6 b) d) copy
    → out ≡ after (verdict_sheet base (lines 6 b)) old
ended b p old copy out d h e w =
    let n : length (lines 6 b) ≡ start (lines 6 b) d = sym (start_past (lines 6 b) d (rw (take-length (lines 6 b)) h)) in
    w ∙ ap (upto b (start (lines 6 b) d)) (e ∙ upto_none b p old) ∙ upto_again b p 0 (start (lines 6 b) d) old (omega arith) ∙ rw (← n) (upto_all b p old)

-- ---- by the table
module _ (b t : List ℕ) (of : OfSheet b t) where
  pub sheet_of : Sheet b
  sheet_of = record { short = of.short; no_bad = of.no_bad; passed = sheet_passed b t of }

  -- a declaration's last number is that of the line with its text
  pub last_same : (d : ℕ) → number (head_line (lines_in t) d) 4 ≡ number (head_line (lines 6 b) d) 4
  last_same d = ap (λ (ls : List Line). number (head_line ls d) 4) of.lines_are ∙ head_bare (lines 6 b) (λ l. number l 4) (λ l. refl) d

  -- the keep table and the record numbers are of the lines with their texts as well
  pub slotted_of : (keep : List ℕ) → Slotted (lines_in t) keep → Slotted (lines 6 b) keep
  slotted_of keep s =
      record {
        sized = λ d h. rw (first_same b t of field_line d, first_same b t of field_line (suc d), program_same b t of) at (s.sized d (rw (decls_same b t of) h));
        slots = λ d h j l. rw (first_same b t of field_line d, program_same b t of) at (s.slots d (rw (decls_same b t of) h) j (rw (program_same b t of) l));
      }

  pub recorded_of : (records : List ℕ) → Recorded (lines_in t) records → Recorded (lines 6 b) records
  recorded_of records r =
      record {
        long = rw (decls_same b t of) at r.long;
        numbers = λ d h. rw (program_same b t of) at (r.numbers d (rw (decls_same b t of) h));
      }
