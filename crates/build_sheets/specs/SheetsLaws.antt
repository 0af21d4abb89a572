-- Laws of the writing of both sheets. Assumes nothing.
use Rattle.std.specs.Prelude.{◌⊎◌, ◌≡◌, refl, ◌&&◌, ltb, length, Option, Some, None}
use Rattle.std.proofs.Common.{inl, inr, sym, ◌∙◌, subst, arith}
use Rattle.std.proofs.Math.Logic.{⊎_elim}
use Rattle.std.proofs.Math.Path.{ap}
use mathlib.Core.List.{List, [], ◌∷◌}
use Rattle.std.proofs.Math.Bool.{true}
use Prim.Native.Nat.{ℕ, ◌+◌, ◌*◌, ◌≤◌, ◌<◌}
use Rattle.std.proofs.Math.Decide.{dec_lt}
use Rattle.std.proofs.Math.Dec.{leb}
use Rattle.sheet.specs.Format.{base}
use Rattle.sheet.proofs.FormatLaws.{base_ample}
use Rattle.sheet.specs.Line.{Line, letter, number}
use Rattle.sheet.proofs.LineLaws.{Fits}
use Rattle.sheet.proofs.ListLaws.{both, every_map}
use Rattle.sheet.specs.Sheet.{lines}
use Rattle.sheet.proofs.SheetLaws.{length_lines}
use Rattle.model.specs.Decl.{Dtype, Decl, table}
use Rattle.model.specs.Run.{somes, run, left_program}
use Rattle.meaning.specs.Program.{name_line, type_line, is_head, program}
use Rattle.meaning.specs.Rows.{nth_line, count_of, good_head, good_numbers, row5}
use Rattle.meaning.specs.Output.{program_lines}
use Rattle.meaning_laws.specs.Program.{heads, head_cases, length_program, head_at}
use Rattle.meaning_laws.specs.Output.{Sized, fits_sized, left_bytes, left_length, program_adds}
use Rattle.answer.specs.Answer.{left_sheet, verdict_sheet, input_rows, input_refusal, output_rows, refusal, answered, answer, Passes}
use Rattle.answer.specs.declared.Refusal.TheVariants.{Accepted}
use Rattle.answer_laws.specs.Build.{verdict_sheet_length}
use Rattle.answer_laws.specs.Left.{pass_fit}
use Rattle.table_access.specs.Tables.{decls_of, lines_in}
use Rattle.table_access.specs.OfSheet.{OfSheet, program_same, count_same}
use Rattle.form_normal.specs.Ranks.{Formed}
use Rattle.left_laws.specs.declared.Count.{Count}
use Rattle.left_laws.specs.Lefts.{left_written, Counted}
use Rattle.left_laws.specs.RoomLaws.{never_short}
use Rattle.answer.specs.declared.Refusal.{Refusal}
use Rattle.answer_laws.specs.Answer.{clear_accepted, or_later, refusal_append, accepted_passes}
use Rattle.answer_built.specs.declared.Built.{Built}
use Rattle.answer_built.specs.Built.{refused_as, GivesFront, Tries}
use Rattle.answer_built.specs.BuiltLaws.{needed, rows_twelve, rows_none, front_refused, front_accepted}
use Rattle.build_sheets.specs.Sheets.{Known, Owed, Written, Lent}
use borrow.Author.Tests.{not-false, ltb-true, le-ltb}

nothing_left : left_program (run 100 []) ≡ []
unfolding run somes table
nothing_left = refl

length_zero : (ds : List Decl) → length ds ≡ 0 → ds ≡ []
length_zero [] e = refl
length_zero (d ∷ ds) e = absurd (omega arith)

module _ (b : List ℕ) (accepted : input_refusal base b ≡ Accepted) where
  -- outputs that are long enough
  abbrev room_verdict : ℕ
  room_verdict = length b

  abbrev room_left : ℕ
  room_left = needed b

  outputs_long : refusal (output_rows base b room_verdict room_left) ≡ Accepted
  unfolding output_rows
  outputs_long = clear_accepted (output_rows base b room_verdict room_left) ((λ i h. le-ltb room_verdict room_verdict (omega arith)), ((λ i h. le-ltb room_left room_left (omega arith)), tt))

  passes : Passes base b room_verdict room_left
  unfolding answer answered
  passes =
      accepted_passes base b room_verdict room_left
      (ap (λ (r : Refusal). (answered base b r).code)
      (refusal_append (input_rows base b) (output_rows base b room_verdict room_left) ∙ (ap (λ (r : Refusal). or_later r (refusal (output_rows base b room_verdict room_left))) accepted ∙ outputs_long)))

  abbrev ls : List Line
  ls = lines 6 b

  abbrev left : List Dtype
  left = left_program (run 100 (program ls))

  -- the length of the left sheet, by its lines
  needed_is : needed b ≡ 32 * (count_of name_line ls + length (left_written ls).written.args + length (left_written ls).written.types + length (left_written ls).lines)
  unfolding left_sheet
  needed_is =
      let fit = every_map (Fits 6) (Sized 6) (fits_sized 6) ls (pass_fit base b room_verdict room_left base_ample passes) in
      let t = (program_adds left (record { args = []; types = [] })).types_count in
      left_bytes 6 ls left fit ∙ ap (λ (n : ℕ). 32 * n) (left_length ls left ∙ omega (arith, t))

  -- row 5: a declaration's name is one of the names
  head_named : (i : ℕ) → i < length ls → is_head (nth_line ls i) ≡ true → number (nth_line ls i) 0 < count_of name_line ls
  unfolding row5 good_numbers good_head
  head_named i h e =
      let l : Line = nth_line ls i in
      let n : ℕ = count_of name_line ls in
      let g : good_numbers ls i ≡ true = not-false (good_numbers ls i) (passes.pass5 i (omega (arith, h, length_lines 6 b))) in
      let k : good_head n (count_of type_line ls) l ≡ true = ⊎_elim (λ (q : letter l ≡ 68). rw q at g) (λ (q : letter l ≡ 73). rw q at g) (head_cases l e) in
      ltb-true (number l 0) n (both (ltb (number l 0) n) (leb (number l 1) 31) (both (ltb (number l 0) n && leb (number l 1) 31) _ k).0).0

  -- so without names there is no declaration, and nothing is left
  no_heads : count_of name_line ls ≡ 0 → heads ls ≡ 0
  no_heads e = go (dec_lt 0 (heads ls))
    where
      go : Dec (0 < heads ls) → heads ls ≡ 0
      go (no p) = omega arith
      go (yes p) = let r = head_at ls 0 p in absurd (omega (arith, e, head_named r.place r.inside r.heads_it))

  pub needed_none : count_of name_line ls ≡ 0 → needed b ≡ 0
  unfolding program_lines
  needed_none e =
      let d : left ≡ [] = ap (λ (ds : List Decl). left_program (run 100 ds)) (length_zero (program ls) (length_program ls ∙ no_heads e)) ∙ nothing_left in
      needed_is ∙ rw (e, d)

  -- and the left sheet begins with the names
  pub needed_some : 0 < count_of name_line ls → 0 < needed b
  needed_some h = omega (arith, needed_is)

  pub verdict_length : length (verdict_sheet base ls) ≡ length b
  verdict_length = verdict_sheet_length base b room_verdict room_left (omega arith) passes

  -- written, with what is answered
  pub gives_written : (v l v' l' : List ℕ) (rounds vl ll : ℕ) → Written b v l v' l' → rounds ≡ (run 100 (program ls)).rounds → length b ≤ length v → needed b ≤ length l → vl ≡ length b → ll ≡ needed b
      → GivesFront b v l (record { code = 0; place = 0; rounds = rounds; verdict = vl; left = ll }) v' l'
  gives_written v l v' l' rounds vl ll w r p q e f =
      rw (e ∙ sym verdict_length, f) (front_accepted b v l rounds v' l' (rows_none b (length v) (length l) accepted p q) r w.verdict w.left)

-- ---- tried
pub tries_none : (Short : Type 0) (b v l : List ℕ) → Short → Tries Short b v l None v l
tries_none Short b v l h = record { gives = λ x e. absurd cc; verdict_kept = λ e. refl; left_kept = λ e. refl; short = λ e. h }

pub tries_gives : (Short : Type 0) (b v l : List ℕ) (r : Built) (v' l' : List ℕ) → GivesFront b v l r v' l' → Tries Short b v l (Some r) v' l'
tries_gives Short b v l r v' l' g =
    record {
      gives = λ x e. let q : r ≡ x = cc in subst (λ (y : Built). GivesFront b v l y v' l') q g;
      verdict_kept = λ e. absurd cc;
      left_kept = λ e. absurd cc;
      short = λ e. absurd cc;
    }

pub tries_less : (S T : Type 0) → (S → T) → (b v l : List ℕ) (r : Option Built) (v' l' : List ℕ) → Tries S b v l r v' l' → Tries T b v l r v' l'
tries_less S T f b v l r v' l' h = record { gives = h.gives; verdict_kept = h.verdict_kept; left_kept = h.left_kept; short = λ e. f (h.short e) }

-- row 12
pub tries_twelve : (Short : Type 0) (b v l : List ℕ) (n : ℕ) (r : Built) → input_refusal base b ≡ Accepted → length b ≤ length v → n ≡ needed b → n ≤ 1000000000000 → length l < n → r ≡ refused_as 12 n
    → Tries Short b v l (Some r) v l
tries_twelve Short b v l n r a h e k q z =
    tries_gives Short b v l r v l (rw (z, e) (front_refused b v l 12 (needed b) (rw e at k) (rows_twelve b (length v) (length l) a h (rw e at q))))

-- ---- the counts
module _ (b t u keep : List ℕ) (n : ℕ) (of : OfSheet b t) where
  pub needed_of : input_refusal base b ≡ Accepted → (r : Count) (names : ℕ) → names ≡ count_of name_line (lines_in t) → Counted (lines_in t) u keep n (Some r)
      → 32 * (names + r.args + r.types + r.lines) ≡ needed b
  needed_of a r names e x = rw (e, x.args r refl, x.types r refl, x.lines_are r refl, count_same b t of name_line, program_same b t of) (sym (needed_is b a))

  pub owed_of : (l : List ℕ) (r : Count) → Counted (lines_in t) u keep n (Some r) → needed b ≤ length l → Owed b t u keep l n r.args r.types
  owed_of l r x h = record { fit = x.fit r refl; args_are = x.args r refl; types_are = x.types r refl; left_room = h }

-- ---- the normal forms
module _ (b t u rank keep v : List ℕ) (forms scratch stack : ℕ) (f₀ f : List ℕ) (e : ℕ) (lent : Lent b t u rank keep v forms scratch stack) (x : Formed (lines_in t) u rank scratch f₀ f e) where
  pub known_of : e ≤ length f → Known b t u f keep v scratch stack
  known_of h =
      record {
        of = lent.of;
        accepted = lent.accepted;
        ready = record { tabled = lent.ranked.tabled; settled = lent.settled; slotted = lent.slotted; resolvable = lent.resolvable; place = e; forms = x.table (omega (arith, x.same)) };
        keeps = lent.keeps;
        verdict_room = lent.verdict_room;
        small = lent.small;
        stacked = lent.stacked;
      }

  pub short_of : length f < e → (length f₀ < 1026 * decls_of (lines_in t)) ⊎ (scratch < 1024)
  short_of h = go (dec_lt (length f₀) (1026 * decls_of (lines_in t))) (dec_lt scratch 1024)
    where
      go : Dec (length f₀ < 1026 * decls_of (lines_in t)) → Dec (scratch < 1024) → (length f₀ < 1026 * decls_of (lines_in t)) ⊎ (scratch < 1024)
      go (yes p) q = inl p
      go (no p) (yes q) = inr q
      go (no p) (no q) = absurd (never_short (lines_in t) t u rank keep lent.ranked lent.settled lent.resolvable lent.slotted scratch (length f₀) (omega arith) (omega arith) (x.short (omega (arith, x.same))))

-- ---- lent memory is as long as it was
pub known_long : (b t u f keep v : List ℕ) (n n' m : ℕ) → n' ≡ n → Known b t u f keep v n m → Known b t u f keep v n' m
known_long b t u f keep v n n' m e h = subst (λ (k : ℕ). Known b t u f keep v k m) (sym e) h

pub owed_long : (b t u keep l : List ℕ) (n n' args types : ℕ) → n' ≡ n → Owed b t u keep l n args types → Owed b t u keep l n' args types
owed_long b t u keep l n n' args types e h = subst (λ (k : ℕ). Owed b t u keep l k args types) (sym e) h
