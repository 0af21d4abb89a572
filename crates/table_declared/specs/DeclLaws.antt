-- The declarations of a sheet that passed rows 1 to 7, by their numbers: where each begins, its P, C, F and V lines among those of
-- the sheet, and the declaration that they make. Assumes nothing.
use Rattle.std.proofs.Common.{⊎_elim, sym, ◌∙◌, length-append, length-drop, take-append-drop, take_at, take-add, take_all, get_or-append-add, get_or-drop, ltb-true, ltb-false, eqb-true}
use Rattle.std.specs.Prelude.{◌≡◌, Bool, ◌||◌, ℕ, zero, suc, ◌+◌, ◌-◌, ◌≤◌, ◌<◌, eqb, ltb, leb, get_or, take, drop}
use Rattle.std.proofs.Math.Path.{refl, ap}
use mathlib.Core.List.{List, [], ◌∷◌, ◌++◌, append-nil}
use Rattle.std.proofs.Math.Bool.{true, false}
use native.Mathlib.Omega.{arith}
use Rattle.std.proofs.Math.ListN.{length, get_or-append}
use Rattle.std.proofs.Math.Seq.{take-length, get_or-append_seam}
use Rattle.number_columns.specs.Column.{pick}
use Rattle.sheet.specs.Line.{Line, bad, letter}
use Rattle.sheet.proofs.FirstLaws.{none_first}
use Rattle.sheet.proofs.ListLaws.{Every, every_at, false_true, neither}
use Rattle.meaning.specs.declared.Due.{Due}
use Rattle.meaning.specs.declared.Due.TheVariants.{Header, Broken}
use Rattle.model.specs.Decl.{here, imported, Decl, no_decl, dtype_at, origin_at, close_fields}
use Rattle.meaning.specs.Program.{name_line, arg_line, type_line, import_line, verdict_line, is, is_head, select, before, Group, groups, trees, dtype_of, info_of, verdict_of, decl_of, program}
use Rattle.meaning.specs.Rows.{nth_line, count_of, count_before, heads_before, due, due_header, due_after, row3}
use Rattle.model_laws.specs.Lists.{get_or_map}
use Rattle.meaning_laws.specs.Program.{None, Starts, select_append, select_none, select_yes, none_before, flat, before_flat, AllGrouped, grouped, starts_flat, heads, heads_none, head_cases, length_groups, group_at, program_groups, Whole, AllWhole}
use Rattle.meaning_laws.specs.Rows.{Ends, is_header, is_header_line, row3_ends, ends_prefix, ends_whole}
use Rattle.row3_order.specs.StepLaws.{count_before_step, heads_before_step}
use Rattle.row4_limits.specs.Limits.{start}
use Rattle.row4_limits.specs.LimitsLaws.{start_at, start_past, start_within, start_head, start_counts}
use Rattle.table_declared.specs.Passed.{Passed}
use Rattle.table_declared.specs.Lines.{nth, no_group, group, head_line, decls_of, first_of}

-- ---- the lines up to a declaration
pub take_before : (p : Line → Bool) (ls : List Line) → take (length (before p ls)) ls ≡ before p ls
take_before p ls = ap (take (length (before p ls))) (sym (before_flat p ls)) ∙ take_at (before p ls) (flat (groups p ls)) (length (before p ls)) refl

heads_append : (a c : List Line) → heads (a ++ c) ≡ heads a + heads c
heads_append a c = rw (select_append 68 a c, select_append 73 a c, length-append, length-append) (omega arith)

module _ (ls : List Line) where
  all_heads : heads_before ls (length ls) ≡ decls_of ls
  all_heads = rw (take-length ls)

  -- from line a on, before which k declarations begin, the next one is declaration k
  module _ (a k : ℕ) (h : a ≤ length ls) (e : heads_before ls a ≡ k) where
    pub take_start : take (a + length (before is_head (drop a ls))) ls ≡ take a ls ++ before is_head (drop a ls)
    take_start = take-add a (length (before is_head (drop a ls))) ls ∙ ap (λ (r : List Line). take a ls ++ r) (take_before is_head (drop a ls))

    heads_start : heads_before ls (a + length (before is_head (drop a ls))) ≡ k
    heads_start = rw (take_start, heads_append (take a ls) (before is_head (drop a ls)), heads_none (before is_head (drop a ls)) (none_before is_head (drop a ls))) (omega arith)

    begins : (gs : List Group) → AllGrouped is_head gs → before is_head (drop a ls) ++ flat gs ≡ drop a ls → a + length (before is_head (drop a ls)) < length ls
        → is_head (nth_line ls (a + length (before is_head (drop a ls)))) ≡ true
    begins gs g q l = go (flat gs) (starts_flat is_head gs g) q
      where
        go : (r : List Line) → Starts is_head r → before is_head (drop a ls) ++ r ≡ drop a ls → is_head (nth_line ls (a + length (before is_head (drop a ls)))) ≡ true
        go [] s w = absurd (omega (arith, simp (append-nil, length-drop) at (ap length w)))
        go (x ∷ r) s w =
            ap is_head
            (sym (get_or-drop a ls (length (before is_head (drop a ls))) bad)
            ∙ ap (λ (v : List Line). get_or v (length (before is_head (drop a ls))) bad) (sym w)
            ∙ get_or-append_seam (before is_head (drop a ls)) x r bad)
            ∙ s

    pub start_after : start ls k ≡ a + length (before is_head (drop a ls))
    start_after = go (ltb (a + length (before is_head (drop a ls))) (length ls)) refl
      where
        j : ℕ
        j = a + length (before is_head (drop a ls))

        go : (c : Bool) → ltb (a + length (before is_head (drop a ls))) (length ls) ≡ c → start ls k ≡ a + length (before is_head (drop a ls))
        go true q =
            let l : j < length ls = ltb-true j (length ls) q in
            let s = start_at ls j l (begins (groups is_head (drop a ls)) (grouped is_head (drop a ls)) (before_flat is_head (drop a ls)) l) in
            ap (start ls) (sym heads_start) ∙ s
        go false q =
            let l : length ls ≤ j = ltb-false j (length ls) q in
            let t : take j ls ≡ take (length ls) ls = take_all j ls l ∙ sym (take-length ls) in
            let m : heads_before ls (length ls) ≡ k = sym (ap heads t) ∙ heads_start in
            let n : length (before is_head (drop a ls)) ≤ length (drop a ls) = omega (arith, length-append (before is_head (drop a ls)) (flat (groups is_head (drop a ls))), ap length (before_flat is_head (drop a ls))) in
            start_past ls k (omega arith) ∙ omega (arith, length-drop a ls)

  -- ---- declaration d
  module _ (d : ℕ) (h : d < decls_of ls) where
    inside : d < heads_before ls (length ls)
    inside = rw all_heads h

    pub line_inside : start ls d < length ls
    line_inside = start_within ls d inside

    pub line_of_head : is_head (nth_line ls (start ls d)) ≡ true
    line_of_head = start_head ls d inside

    pub group_is : group ls d ≡ record { head = nth_line ls (start ls d); rest = before is_head (drop (suc (start ls d)) ls) }
    group_is = ap (λ (k : ℕ). get_or (groups is_head ls) k no_group) (sym (start_counts ls d inside)) ∙ group_at ls (start ls d) no_group (start_within ls d inside) line_of_head

    pub head_is_head : is_head (head_line ls d) ≡ true
    head_is_head = ap (λ (g : Group). is_head g.head) group_is ∙ line_of_head

    heads_past : heads_before ls (suc (start ls d)) ≡ suc d
    heads_past = rw (heads_before_step ls (start ls d) (start_within ls d inside), line_of_head, start_counts ls d inside) (omega arith)

    -- the lines of a letter other than D and I
    module _ (x : ℕ) (e : eqb 68 x ≡ false) (f : eqb 73 x ≡ false) where
      not_head : is x (nth_line ls (start ls d)) ≡ false
      not_head = ⊎_elim (λ q. rw q e) (λ q. rw q f) (head_cases (nth_line ls (start ls d)) line_of_head)

      same_first : count_before x ls (suc (start ls d)) ≡ first_of x ls d
      same_first = rw (count_before_step ls (start ls d) (start_within ls d inside) x, not_head)

      pub first_next : first_of x ls (suc d) ≡ first_of x ls d + count_of x (group ls d).rest
      first_next =
          let i : suc (start ls d) ≤ length ls = start_within ls d inside in
          rw (group_is, start_after (suc (start ls d)) (suc d) i heads_past, take_start (suc (start ls d)) (suc d) i heads_past, select_append x (take (suc (start ls d)) ls) (before is_head (drop (suc (start ls d)) ls)), length-append, same_first)

      pub nth_in : (j : ℕ) → j < count_of x (group ls d).rest → nth x ls (first_of x ls d + j) ≡ nth x (group ls d).rest j
      nth_in j l =
          let r : List Line = before is_head (drop (suc (start ls d)) ls) in
          let m : j < count_of x r = rw group_is at l in
          let a : List Line = take (suc (start ls d)) ls in
          let s : select x ls ≡ select x a ++ (select x r ++ select x (flat (groups is_head (drop (suc (start ls d)) ls)))) =
          ap (select x) (sym (take-append-drop (suc (start ls d)) ls))
          ∙ select_append x a (drop (suc (start ls d)) ls)
          ∙ ap (λ (v : List Line). select x a ++ select x v) (sym (before_flat is_head (drop (suc (start ls d)) ls)))
          ∙ ap (λ (v : List Line). select x a ++ v) (select_append x r (flat (groups is_head (drop (suc (start ls d)) ls)))) in
          rw (group_is, s, ← same_first, get_or-append-add)
          (get_or-append (select x r) (select x (flat (groups is_head (drop (suc (start ls d)) ls)))) bad j m)

    -- ---- the declaration
    pub decl_at : get_or (program ls) d no_decl ≡ decl_of (trees ls) (group ls d)
    decl_at = ap (λ (ds : List Decl). get_or ds d no_decl) (program_groups ls) ∙ get_or_map (decl_of (trees ls)) (groups is_head ls) d no_decl no_group (rw length_groups h)

    pub dtype_is : dtype_at (program ls) d ≡ close_fields (dtype_of (trees ls) (group ls d))
    unfolding decl_of
    dtype_is = ap (λ (x : Decl). x.dtype) decl_at

    pub origin_local : is import_line (head_line ls d) ≡ false → origin_at (program ls) d ≡ here
    unfolding decl_of
    origin_local e = ap (λ (x : Decl). x.origin) decl_at ∙ rw e

    pub origin_import : is import_line (head_line ls d) ≡ true
        → origin_at (program ls) d ≡ imported (info_of (close_fields (dtype_of (trees ls) (group ls d))) (group ls d).rest (verdict_of (group ls d).rest))
    unfolding decl_of
    origin_import e = ap (λ (x : Decl). x.origin) decl_at ∙ rw e

-- ---- what row 3 says
-- in the header, where no declaration begins, all lines are N, A and Y lines
header_step : (place : ℕ) (l : Line) → is_head l ≡ false → is_header_line l ≡ false → due (Header place) l ≡ Broken
unfolding due due_header
header_step place l e f =
    let a = neither (is name_line l) (is arg_line l || is type_line l) f in
    let c = neither (is arg_line l) (is type_line l) a.1 in
    rw (a.0, c.0, c.1, e)

broken_stays : (ls : List Line) → due_after Broken ls ≡ Broken
unfolding due_after due
broken_stays [] = refl
broken_stays (l ∷ ls) = broken_stays ls

header_lines : (place : ℕ) (ls : List Line) → None is_head ls → is_header (due_after (Header place) ls) ≡ true → Every (λ l. is_header_line l ≡ true) ls
unfolding due_after due due_header
header_lines place [] n h = tt
header_lines place (l ∷ ls) n h = go (is name_line l) refl (is arg_line l) refl (is type_line l) refl (λ k g. header_lines k ls n.1 g)
  where
    on : (k : ℕ) (c : Bool) → ((j : ℕ) → is_header (due_after (Header j) ls) ≡ true → Every (λ l. is_header_line l ≡ true) ls) → is_header (due_after (pick c (Header k) Broken) ls) ≡ true → Every (λ l. is_header_line l ≡ true) ls
    on k true r g = r k g
    on k false r g = false_true (ap is_header (sym (broken_stays ls)) ∙ g)

    go : (x : Bool) → is name_line l ≡ x → (y : Bool) → is arg_line l ≡ y → (z : Bool) → is type_line l ≡ z → ((j : ℕ) → is_header (due_after (Header j) ls) ≡ true → Every (λ l. is_header_line l ≡ true) ls)
        → (is_header_line l ≡ true) × Every (λ l. is_header_line l ≡ true) ls
    go true a y c z e r =
        let q : letter l ≡ 78 = eqb-true (letter l) 78 a in
        (rw q, on 0 (leb place 0) r (rw q at h))
    go false a true c z e r =
        let q : letter l ≡ 65 = eqb-true (letter l) 65 c in
        (rw q, on 1 (leb place 1) r (rw q at h))
    go false a false c true e r =
        let q : letter l ≡ 89 = eqb-true (letter l) 89 e in
        (rw q, on 2 (leb place 2) r (rw q at h))
    go false a false c false e r = false_true (ap is_header (sym (broken_stays ls) ∙ ap (λ (w : Due). due_after w ls) (sym (header_step place l n.0 (rw (a, c, e))))) ∙ h)

select_nil : (x : ℕ) → select x [] ≡ []
unfolding select
select_nil x = refl

module _ (ls : List Line) (p : Passed ls) where
  pub ends_lines : Ends ls
  ends_lines = row3_ends ls (λ i l. none_first (row3 ls) (suc (length ls)) p.in_order i (omega arith))

  pub wholes : AllWhole (groups is_head ls)
  wholes = ends_whole ls ends_lines

  pub header_ends : Every (λ l. is_header_line l ≡ true) (before is_head ls)
  header_ends =
      header_lines 0 (before is_head ls) (none_before is_head ls)
      (ends_prefix (before is_head ls) (flat (groups is_head ls)) (starts_flat is_head (groups is_head ls) (grouped is_head ls)) (rw (before_flat is_head ls) ends_lines))

  -- the lines of other letters all stand in declarations
  pub none_in_header : (x : ℕ) → eqb 78 x ≡ false → eqb 65 x ≡ false → eqb 89 x ≡ false → (hs : List Line) → Every (λ l. is_header_line l ≡ true) hs → count_of x hs ≡ 0
  unfolding select
  none_in_header x u v w [] h = refl
  none_in_header x u v w (l ∷ hs) h = rw (no_letter l h.0) (none_in_header x u v w hs h.1)
    where
      no_letter : (l : Line) → is_header_line l ≡ true → is x l ≡ false
      no_letter l e = go (is name_line l) refl (is arg_line l) refl e
        where
          go : (c : Bool) → is name_line l ≡ c → (d : Bool) → is arg_line l ≡ d → (c || (d || is type_line l)) ≡ true → is x l ≡ false
          go true c' d d' q = rw (eqb-true (letter l) 78 c') u
          go false c' true d' q = rw (eqb-true (letter l) 65 d') v
          go false c' false d' q = rw (eqb-true (letter l) 89 q) w

  pub first_zero : (x : ℕ) → eqb 78 x ≡ false → eqb 65 x ≡ false → eqb 89 x ≡ false → first_of x ls 0 ≡ 0
  unfolding select
  first_zero x u v w =
      let e : 0 + length (before is_head ls) ≡ length (before is_head ls) = omega arith in
      rw (start_after ls 0 0 (omega arith) refl, e, take_before is_head ls) (none_in_header x u v w (before is_head ls) header_ends)

  -- ---- V lines
  pub whole_at : (d : ℕ) → d < decls_of ls → Whole (group ls d)
  whole_at d h = every_at Whole no_group (groups is_head ls) wholes d (rw length_groups h)

  only_verdict : (g : Group) (w : Whole g) → select verdict_line g.rest ≡ w.last ∷ []
  only_verdict g w = rw (w.ends, select_append verdict_line w.body (w.last ∷ []), select_none verdict_line w.body w.before_last, select_yes verdict_line w.last [] w.is_last, select_nil verdict_line)

  one_verdict : (g : Group) → Whole g → select verdict_line g.rest ≡ (get_or (select verdict_line g.rest) 0 bad ∷ [])
  one_verdict g w = rw (only_verdict g w)

  pub verdicts_first : (d : ℕ) → d ≤ decls_of ls → first_of verdict_line ls d ≡ d
  verdicts_first zero h = first_zero verdict_line refl refl refl
  verdicts_first (suc d) h =
      let l : d < decls_of ls = omega arith in
      first_next ls d l verdict_line refl refl
      ∙ rw (verdicts_first d (omega arith), one_verdict (group ls d) (whole_at d l)) (omega arith)

  pub verdict_is : (d : ℕ) → d < decls_of ls → nth verdict_line ls d ≡ verdict_of (group ls d).rest
  verdict_is d h =
      let e : first_of verdict_line ls d + 0 ≡ d = omega (arith, verdicts_first d (omega arith)) in
      let n : 0 < count_of verdict_line (group ls d).rest = rw (one_verdict (group ls d) (whole_at d h)) (omega arith) in
      rw e at (nth_in ls d h verdict_line refl refl 0 n)

  -- it is the last line of its declaration
  pub verdict_place : (d : ℕ) → d < decls_of ls → (start ls d < start ls (suc d)) × (start ls (suc d) ≤ length ls) × (nth verdict_line ls d ≡ nth_line ls (start ls (suc d) - 1))
  verdict_place d h =
      let i : suc (start ls d) ≤ length ls = line_inside ls d h in
      let r : List Line = before is_head (drop (suc (start ls d)) ls) in
      let w = whole_at d h in
      let e : r ≡ w.body ++ (w.last ∷ []) = ap (λ g. g.rest) (sym (group_is ls d h)) ∙ w.ends in
      let n : length r ≡ length w.body + 1 = ap length e ∙ length-append w.body (w.last ∷ []) in
      let s : start ls (suc d) ≡ suc (start ls d) + length r = start_after ls (suc (start ls d)) (suc d) i (heads_past ls d h) in
      let m : length r ≤ length (drop (suc (start ls d)) ls) = omega (arith, length-append r (flat (groups is_head (drop (suc (start ls d)) ls))), ap length (before_flat is_head (drop (suc (start ls d)) ls))) in
      let k : start ls (suc d) - 1 ≡ suc (start ls d) + length w.body = omega arith in
      let v : nth_line ls (suc (start ls d) + length w.body) ≡ w.last =
      sym (get_or-drop (suc (start ls d)) ls (length w.body) bad)
      ∙ ap (λ (v : List Line). get_or v (length w.body) bad) (sym (before_flat is_head (drop (suc (start ls d)) ls)))
      ∙ get_or-append r (flat (groups is_head (drop (suc (start ls d)) ls))) bad (length w.body) (omega arith)
      ∙ ap (λ (v : List Line). get_or v (length w.body) bad) e
      ∙ get_or-append_seam w.body w.last [] bad in
      (omega arith, omega (arith, length-drop (suc (start ls d)) ls), verdict_is d h ∙ ap (λ (v : List Line). get_or v 0 bad) (only_verdict (group ls d) w) ∙ rw k (sym v))
