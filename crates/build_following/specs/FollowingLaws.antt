-- From what the build of the declarations gives to what that of the whole sheet gives. Assumes nothing.
use Rattle.std.specs.Prelude.{◌≡◌, refl, List, ◌++◌, ℕ, ◌+◌, ◌-◌, ◌/◌, ◌≤◌, ◌<◌, length, take, drop}
use Rattle.std.proofs.Common.{ap, ap₂, sym, ◌∙◌, append_assoc, arith, length-append, length-drop, take-append-drop, length-take-le, take_all, take_at, drop-drop}
use Rattle.std.proofs.Math.Decide.{dec_lt}
use Rattle.std.proofs.lemmas.List.{drop-append-le}
use Rattle.std.proofs.Math.Seq.{drop-append-add}
use borrow.Rule.Slice.PartMut.{mid_of, put_mid, Post-is, put_same}
use Rattle.sheet.specs.Format.{base}
use Rattle.sheet.specs.Line.{Line}
use Rattle.sheet.specs.Sheet.{lines, encodes}
use Rattle.meaning.specs.Program.{name_line}
use Rattle.meaning.specs.Rows.{count_of}
use Rattle.answer.specs.Answer.{verdict_sheet, left_sheet, after}
use Rattle.answer_patterns.specs.Whole as whole
use Rattle.answer_patterns.specs.Whole.{front, tail}
use Rattle.answer_pattern_laws.specs.Parts.{front_of, tail_of}
use Rattle.answer_pattern_laws.specs.Rows.{rows_twelve, rows_none}
use Rattle.answer_pattern_laws.specs.Sheets.{verdict_sheet_tail, left_sheet_tail}
use Rattle.walk_cells.specs.Cells.{lines_of}
use Rattle.walk_cells.specs.CellsLaws.{length_lines_of}
use Rattle.pattern_put.specs.PutsLaws.{lines_length}
use Rattle.table_access.specs.Tables.{lines_in}
use Rattle.table_access.specs.OfSheet.{count_same}
use Rattle.answer_built.specs.declared.Built.{Built}
use Rattle.answer_built.specs.Built.{refused_as, Gives, GivesFront}
use Rattle.answer_built.specs.BuiltLaws.{needed, FrontNone, front_twelve, front_none, gives_refused, gives_accepted}
use Rattle.build_sheets.specs.Sheets.{Lent}
use Rattle.build_sheets.specs.SheetsLaws.{verdict_length, needed_none, needed_some}
use Rattle.build_following.specs.Following.{behind, Follows}

-- ---- outputs
-- the first n bytes of an output
first_is : (n : ℕ) (d : List ℕ) → mid_of 0 (n - 0) d ≡ take n d
first_is n d = let e : n - 0 ≡ n = omega arith in ap (λ (k : ℕ). take k d) e

first_length : (n : ℕ) (d : List ℕ) → n ≤ length d → length (mid_of 0 (n - 0) d) ≡ n
first_length n d h = ap length (first_is n d) ∙ length-take-le n d h

-- written there is written in all of it
first_written : (x d : List ℕ) (n : ℕ) → length x ≤ n → n ≤ length d → put_mid 0 (n - 0) d (after x (mid_of 0 (n - 0) d)) ≡ after x d
first_written x d n h k =
    let e : n - 0 ≡ n = omega arith in
    let m : length x ≤ length (take n d) = omega (arith, length-take-le n d k) in
    rw e (append_assoc x (drop (length x) (take n d)) (drop n d)
    ∙ ap (λ (y : List ℕ). x ++ y) (sym (drop-append-le (length x) (take n d) (drop n d) m) ∙ ap (drop (length x)) (take-append-drop n d)))

-- y written behind x
behind_written : (x y d : List ℕ) (m k : ℕ) → m ≡ length x → k ≡ length y → take m (after x d) ++ (y ++ drop (m + k) (after x d)) ≡ after (x ++ y) d
behind_written x y d m k e f =
    rw (e, f, take_at x (drop (length x) d) (length x) refl, drop-append-add x (drop (length x) d) (length y), drop-drop (length y) (length x) d, length-append x y) (sym (append_assoc x y (drop (length x + length y) d)))

-- a part that was lent comes back as y
pub part_back : (d q y : List ℕ) (m e : ℕ) → m ≤ e → q ≡ y → put_mid m (e - m) d q ≡ take m d ++ (y ++ drop e d)
part_back d q y m e h f = ap (λ (x : List ℕ). take m d ++ x) (ap₂ (λ (x r : List ℕ). x ++ r) f (Post-is m e d h))

after_length : (x d : List ℕ) → length x ≤ length d → length (after x d) ≡ length d
after_length x d h = length-append x (drop (length x) d) ∙ omega (arith, length-drop (length x) d)

-- ---- a sheet that ends in a pattern
module _ (a z t p u rank keep v : List ℕ) (h : Follows a z t p u rank keep v) where
  at_front : front 6 (a ++ z) ≡ a
  at_front = front_of 6 a z h.parted.front_whole h.parted.plain h.parted.begins

  at_tail : tail 6 (a ++ z) ≡ z
  at_tail = tail_of 6 a z h.parted.front_whole h.parted.plain h.parted.begins

  long : length (a ++ z) ≤ length v
  long = omega (arith, length-append a z, h.verdict_room)

  -- both sheets
  abbrev verdict : List ℕ
  verdict = verdict_sheet base (lines 6 a)

  abbrev left : List ℕ
  left = left_sheet base (lines 6 a)

  abbrev more : List ℕ
  more = encodes 6 (lines_of p)

  verdict_is : whole.verdict_sheet base (lines 6 a) (lines 6 z) ≡ verdict ++ z
  verdict_is = verdict_sheet_tail base (lines 6 a) z h.parted.tail_whole h.parted.no_bad

  left_is : whole.left_sheet base (lines 6 a) (lines 6 z) ≡ left ++ more
  left_is = left_sheet_tail base (lines 6 a) (lines 6 z) ∙ ap (λ (ls : List Line). left ++ encodes 6 ls) (sym h.lines_are)

  verdict_long : length verdict ≡ length a
  verdict_long = verdict_length a h.lent.accepted

  more_long : length more ≡ behind p
  more_long =
      ap (λ (ls : List Line). length (encodes 6 ls)) (sym (take_all (length p / 6) (lines_of p) (omega (arith, length_lines_of p))))
      ∙ lines_length p (length p / 6) (omega arith)

  both_long : length (whole.left_sheet base (lines 6 a) (lines 6 z)) ≡ needed a + behind p
  both_long = ap length left_is ∙ length-append left more ∙ omega (arith, more_long)

  -- row 12
  both_twelve : (l : List ℕ) (n : ℕ) → n ≡ needed a + behind p → length l < n → Gives (a ++ z) v l (refused_as 12 n) v l
  both_twelve l n e k =
      rw (e ∙ sym both_long)
      (gives_refused (a ++ z) a z v l at_front at_tail 12 (length (whole.left_sheet base (lines 6 a) (lines 6 z)))
      (rows_twelve base (a ++ z) a z at_front at_tail (length v) (length l) h.input long (omega (arith, both_long, e, k))))

  -- ---- what was lent
  pub lent_first : Lent a t u rank keep (mid_of 0 (length a - 0) v) 98496 1024 1024
  lent_first =
      let x = h.lent in
      record {
        of = x.of;
        accepted = x.accepted;
        ranked = x.ranked;
        settled = x.settled;
        slotted = x.slotted;
        resolvable = x.resolvable;
        keeps = x.keeps;
        verdict_room = omega (arith, first_length (length a) v x.verdict_room);
        cells = x.cells;
        small = x.small;
        stacked = x.stacked;
      }

  -- ---- too short for what follows alone
  module _ (l : List ℕ) (k : length l < behind p) where
    -- no names, so nothing is left before it
    pub short_none : (r : Built) → count_of name_line (lines_in t) ≡ 0 → r ≡ refused_as 12 (behind p) → Gives (a ++ z) v l r v l
    short_none r e q =
        let n : needed a ≡ 0 = needed_none a h.lent.accepted (sym (count_same a t h.lent.of name_line) ∙ e) in
        rw q (both_twelve l (behind p) (omega (arith, n)) k)

    -- an empty output is shorter than the left sheet of names
    pub short_some : (f : Built) (v' l' : List ℕ) (r : Built) → 0 < count_of name_line (lines_in t) → GivesFront a v (mid_of 0 (0 - 0) l) f v' l' → r ≡ refused_as 12 (f.place + behind p)
        → Gives (a ++ z) v l r v' (put_mid 0 (0 - 0) l l')
    short_some f v' l' r e g q =
        let n : 0 < needed a = needed_some a h.lent.accepted (omega (arith, e, count_same a t h.lent.of name_line)) in
        let x = front_twelve a v (mid_of 0 (0 - 0) l) f v' l' g h.lent.accepted h.lent.verdict_room n in
        rw (q, x.verdict_kept, x.left_kept) (both_twelve l (f.place + behind p) (omega (arith, x.place_is)) (omega (arith, x.place_is)))

  -- ---- the declarations, in the outputs without the room of what follows
  module _ (l : List ℕ) (room : ℕ) (apart : room + behind p ≡ length l) (f : Built) (v₁ l₁ : List ℕ) (g : GivesFront a (mid_of 0 (length a - 0) v) (mid_of 0 (room - 0) l) f v₁ l₁) where
    abbrev v' : List ℕ
    v' = put_mid 0 (length a - 0) v v₁

    abbrev l' : List ℕ
    l' = put_mid 0 (room - 0) l l₁

    first_room : length (mid_of 0 (room - 0) l) ≡ room
    first_room = first_length room l (omega arith)

    first_long : length a ≤ length (mid_of 0 (length a - 0) v)
    first_long = omega (arith, first_length (length a) v h.lent.verdict_room)

    pub refused_first : (f.code ≡ 0 → ⊥) → (r : Built) → r ≡ refused_as 12 (f.place + behind p) → Gives (a ++ z) v l r v' l'
    refused_first c r q = go (dec_lt room (needed a))
      where
        go : Dec (room < needed a) → Gives (a ++ z) v l r v' l'
        go (yes k) =
            let x = front_twelve a _ _ f v₁ l₁ g h.lent.accepted first_long (omega (arith, first_room, k)) in
            rw (q, x.verdict_kept, x.left_kept, put_same 0 (length a - 0) v, put_same 0 (room - 0) l)
            (both_twelve l (f.place + behind p) (omega (arith, x.place_is)) (omega (arith, x.place_is, k)))
        go (no k) = absurd (c (front_none a _ _ f v₁ l₁ g h.lent.accepted first_long (omega (arith, first_room, k))).code_is)

    module _ (c : f.code ≡ 0) where
      fits : needed a ≤ room
      fits = go (dec_lt room (needed a))
        where
          go : Dec (room < needed a) → needed a ≤ room
          go (no k) = omega arith
          go (yes k) = absurd (omega (arith, c, (front_twelve a _ _ f v₁ l₁ g h.lent.accepted first_long (omega (arith, first_room, k))).code_is))

      read : FrontNone a (mid_of 0 (length a - 0) v) (mid_of 0 (room - 0) l) f v₁ l₁
      read = front_none a _ _ f v₁ l₁ g h.lent.accepted first_long (omega (arith, first_room, fits))

      verdict_first : v' ≡ after verdict v
      verdict_first = ap (put_mid 0 (length a - 0) v) read.verdict_written ∙ first_written verdict v (length a) (omega (arith, verdict_long)) h.lent.verdict_room

      left_first : l' ≡ after left l
      left_first = ap (put_mid 0 (room - 0) l) read.left_written ∙ first_written left l room fits (omega arith)

      pub left_within : f.left + behind p ≤ length l
      left_within = omega (arith, fits, read.left_is)

      pub room_behind : (length a + length z ≤ length v') × (f.left + behind p ≤ length l')
      room_behind = (
        omega (arith, ap length verdict_first, after_length verdict v (omega (arith, verdict_long, h.lent.verdict_room)), h.verdict_room),
        omega (arith, ap length left_first, after_length left l (omega (arith, fits)), left_within),
      )

      pub gives_both : (v'' l'' : List ℕ) → v'' ≡ take (length a) v' ++ (z ++ drop (length a + length z) v') → l'' ≡ take f.left l' ++ (more ++ drop (f.left + behind p) l')
          → Gives (a ++ z) v l (record { code = 0; place = 0; rounds = f.rounds; verdict = length a + length z; left = f.left + behind p }) v'' l''
      gives_both v'' l'' d e =
          gives_accepted (a ++ z) a z v l at_front at_tail f.rounds (length a + length z) (f.left + behind p) v'' l''
          (rows_none base (a ++ z) a z at_front at_tail (length v) (length l) h.input long (omega (arith, both_long, fits)))
          read.rounds_are
          (d ∙ rw (verdict_first, verdict_is) (behind_written verdict z v (length a) (length z) (sym verdict_long) refl))
          (e ∙ rw (left_first, left_is) (behind_written left more l f.left (behind p) read.left_is (sym more_long)))
          (sym (ap length verdict_is ∙ length-append verdict z ∙ ap (λ (n : ℕ). n + length z) verdict_long))
          (omega (arith, both_long, read.left_is))
