-- The verdict sheet line by line. Assumes nothing.
use Rattle.std.specs.Prelude.{◌⊎◌, ◌≡◌, Bool, eqb}
use Rattle.std.proofs.Common.{inl, inr, ⊎_elim, ◌∙◌}
use Rattle.std.proofs.Math.Path.{refl, sym, ap, ap₂}
use mathlib.Core.List.{List, [], ◌∷◌, ◌++◌, map, append-nil, map-append, map-map}
use Rattle.std.proofs.Math.Bool.{true, false, not}
use Rattle.std.proofs.Math.Option.{none}
use Prim.Native.Nat.{◌≤◌, ℕ, zero, suc, ◌+◌, ◌-◌, ◌<◌}
use native.Mathlib.Omega.{arith}
use Rattle.std.proofs.Math.ListN.{take, length, get_or}
use Rattle.std.proofs.lemmas.List.{length-map}
use borrow.Author.Tests.{eqb-false, eqb-true}
use Rattle.number_columns.specs.Column.{pick, ◌⇒◌∥◌}
use Rattle.sheet.specs.Line.{Line, row, bad, number, letter}
use Rattle.sheet.proofs.ListLaws.{length_nil, contrary, one_of}
use Rattle.model.specs.Cty.{Cty}
use Rattle.model.specs.Decl.{here, origin_at, no_decl, TAbstract, TAbbrev, TRecord, TVariant, ctors_of, ctors_of_tydef, bit, layout_number, TypeInfo, Ctor, no_ctor, CtorLayout, tag_number, close_body, close_field, close_fields, Decl}
use Rattle.model.specs.Erasure.{cty_erased, marked, erasure_fixpoint}
use Rattle.model.specs.Run.{run, info_at}
use Rattle.model_laws.specs.Run.{get_or_infos, length_infos, local_info}
use Rattle.model.specs.Layout.{slots, ctor_tag, ctor_layout, layouts_of_ctors, ctor_layouts}
use Rattle.model_laws.specs.Erasure.{close_erased}
use Rattle.model_laws.specs.Lists.{get_or_map, length_table}
use Rattle.meaning.specs.Program.{local_line, import_line, field_line, ctor_line, verdict_line, is, is_head, select, before, Group, groups, type_at, field_of, ctor_of, body_of, dtype_of, decl_of, trees, program}
use Rattle.meaning.specs.Rows.{nth_line, count_of, heads_before, last_head, head_of, ctors_after}
use Rattle.meaning.specs.Output.{fill_third, fill_keeps, fill_tags, fill_verdict, all_slots, verdict_lines, verdict_line_of}
use Rattle.meaning_laws.specs.Program.{None, flat, AllGrouped, Grouped, grouped, before_flat, none_before, Whole, AllWhole, concat, slots_of, all_slots_concat, close_ctor, tag_number_of, tag_at, ctors_counted, ctors_last, third_line, fill_told, fill_rest, filled, fills, kept_line, tell, tell_is, fill_verdict_map, fill_third_yes, fill_third_other, fill_third_absent, verdict_lines_flat, none_map, none_select, select_append, select_none, select_yes, select_no, heads, heads_head, heads_other, heads_none, length_groups, length_program}

local_not_import : (l : Line) → is local_line l ≡ true → is import_line l ≡ false
local_not_import l e = rw (eqb-true (letter l) 68 e)

-- ---- the keeps of a declaration's F lines
module _ (er : ℕ → Bool) (ts : List Cty) where
  -- whether the field of an F line is kept
  abbrev keep_of : Line → Bool
  keep_of l = not (cty_erased er (type_at ts (number l 1)))

  slots_lines : (ps : List ℕ) (ls : List Line) → slots er (map (close_field ps) (map (field_of ts) ls)) ≡ map keep_of ls
  unfolding slots close_field field_of
  slots_lines ps [] = refl
  slots_lines ps (l ∷ ls) = ap₂ (λ (b : Bool) (r : List Bool). not b ∷ r) (close_erased er ps (type_at ts (number l 1))) (slots_lines ps ls)

  -- the F lines of constructors
  ctors_lines : (ps : List ℕ) (gs : List Group) → AllGrouped (is ctor_line) gs → concat (slots_of er (map (close_ctor ps) (map (ctor_of ts) gs))) ≡ map keep_of (select field_line (flat gs))
  unfolding concat flat select ctor_of
  ctors_lines ps [] h = refl
  ctors_lines ps (g ∷ gs) h =
      ap₂ (λ (x y : List Bool). x ++ y) (slots_lines ps (select field_line g.rest)) (ctors_lines ps gs h.1)
      ∙ (sym (map-append keep_of (select field_line g.rest) (select field_line (flat gs)))
      ∙ ap (map keep_of) (sym (select_no field_line g.head (g.rest ++ flat gs) (ctor_no_field g.head h.0.begins) ∙ select_append field_line g.rest (flat gs))))
    where
      ctor_no_field : (l : Line) → is ctor_line l ≡ true → is field_line l ≡ false
      ctor_no_field l e = rw (eqb-true (letter l) 67 e)

  body_lines : (n : ℕ) (ps : List ℕ) (g : Group) → Whole g
      → concat (slots_of er (ctors_of n (close_body ps (body_of ts (number g.head 2) (number g.head 4) g.rest)))) ≡ map keep_of (select field_line g.rest)
  unfolding body_of close_body ctors_of concat
  body_lines n ps g w = go (eqb kind 1) (eqb kind 2) (eqb kind 3) refl refl refl
    where
      kind : ℕ
      kind = number g.head 2

      ls : List Line
      ls = g.rest

      no_fields : kind ≤ 1 → [] ≡ map keep_of (select field_line g.rest)
      no_fields h = ap (map keep_of) (sym (length_nil (select field_line g.rest) (w.bare h).0))

      go : (a b c : Bool) → eqb kind 1 ≡ a → eqb kind 2 ≡ b → eqb kind 3 ≡ c
          → concat (slots_of er (ctors_of n (close_body ps (a ⇒ TAbbrev (type_at ts (number g.head 4)) ∥ b ⇒ TRecord (map (field_of ts) (select field_line g.rest)) ∥ c ⇒ TVariant (map (ctor_of ts) (groups (is ctor_line) g.rest)) ∥ TAbstract))))
          ≡ map keep_of (select field_line g.rest)
      go true b c p q r = no_fields (omega (arith, eqb-true kind 1 p))
      go false true c p q r = append-nil (slots er (map (close_field ps) (map (field_of ts) (select field_line g.rest)))) ∙ slots_lines ps (select field_line g.rest)
      go false false true p q r =
          let gs : List Group = groups (is ctor_line) g.rest in
          ctors_lines ps gs (grouped (is ctor_line) g.rest)
          ∙ ap (map keep_of)
          (ap (λ (x : List Line). x ++ select field_line (flat gs)) (sym (w.ctors_first (eqb-true kind 3 r)))
          ∙ (sym (select_append field_line (before (is ctor_line) g.rest) (flat gs)) ∙ ap (select field_line) (before_flat (is ctor_line) g.rest)))
      go false false false p q r = no_fields (omega (arith, w.kinds, eqb-false kind 1 p, eqb-false kind 2 q, eqb-false kind 3 r))

  -- keeps put in, line by line
  abbrev keep_line : Line → Line
  keep_line l = pick (is field_line l) (kept_line (keep_of l) l) l

  fill_lines : (ls : List Line) → fill_keeps (map keep_of (select field_line ls)) ls ≡ map keep_line ls
  unfolding fill_third
  fill_lines [] = refl
  fill_lines (l ∷ ls) = go (is field_line l) refl (fill_lines ls)
    where
      go : (c : Bool) → is field_line l ≡ c → fill_keeps (map keep_of (select field_line ls)) ls ≡ map keep_line ls
          → fill_keeps (map keep_of (select field_line (l ∷ ls))) (l ∷ ls) ≡ pick c (kept_line (keep_of l) l) l ∷ map keep_line ls
      go true e h =
          ap (λ (x : List Line). fill_keeps (map keep_of x) (l ∷ ls)) (select_yes field_line l ls e)
          ∙ (fill_third_yes field_line (bit (keep_of l)) (map bit (map keep_of (select field_line ls))) l ls e ∙ ap (λ (r : List Line). kept_line (keep_of l) l ∷ r) h)
      go false e h =
          ap (λ (x : List Line). fill_keeps (map keep_of x) (l ∷ ls)) (select_no field_line l ls e)
          ∙ (fill_third_other field_line (map bit (map keep_of (select field_line ls))) l ls e ∙ ap (λ (r : List Line). l ∷ r) h)

  -- ---- one declaration
  -- the lines of a declaration that line h begins, with k C lines before the first of them
  unfoldable told_lines : TypeInfo → Line → ℕ → List Line → List Line
  told_lines ti h k [] = []
  told_lines ti h k (l ∷ ls) = verdict_line_of er ts ti h k l ∷ told_lines ti h (pick (is ctor_line l) (suc k) k) ls

  -- a C line, and a line other than D, I and C
  ctor_told : (ti : TypeInfo) (h : Line) (k : ℕ) (l : Line) → is local_line h ≡ true → is ctor_line l ≡ true → third_line ctor_line (tag_number (ctor_tag (number h 4) k)) l ≡ verdict_line_of er ts ti h k l
  unfolding verdict_line_of
  ctor_told ti h k l e c = rw (e, eqb-true (letter l) 67 c)

  below_told : (ti : TypeInfo) (h : Line) (k : ℕ) (l : Line) → is local_line h ≡ true → is_head l ≡ false → is ctor_line l ≡ false → tell ti (keep_line l) ≡ verdict_line_of er ts ti h k l
  unfolding verdict_line_of
  below_told ti h k l e n c = rw (e, n, c) (go (is field_line l) refl)
    where
      go : (c : Bool) → is field_line l ≡ c
          → tell ti (pick c (kept_line (keep_of l) l) l) ≡ pick c (kept_line (keep_of l) l) (pick (is verdict_line l) (row verdict_line (bit ti.ti_erased ∷ layout_number ti.ti_layout ∷ bit ti.ti_record ∷ 0 ∷ 0 ∷ [])) l)
      go true e = refl
      go false e = refl

  keep_is : (ti : TypeInfo) (x : ℕ) (l : Line) → is x (tell ti (keep_line l)) ≡ is x l
  keep_is ti x l = tell_is ti x (keep_line l) ∙ go (is field_line l) refl
    where
      go : (c : Bool) → is field_line l ≡ c → is x (pick c (kept_line (keep_of l) l) l) ≡ is x l
      go true e = rw (eqb-true (letter l) 70 e)
      go false e = refl

  ctor_kept : (ti : TypeInfo) (l : Line) → is ctor_line l ≡ true → tell ti (keep_line l) ≡ l
  ctor_kept ti l e = let k : keep_line l ≡ l = rw (eqb-true (letter l) 67 e) in ap (tell ti) k ∙ rw (eqb-true (letter l) 67 e)

  -- tags by place, put into lines with their keeps and verdict
  tags_lines : (ti : TypeInfo) (h : Line) (k : ℕ) (ns : List ℕ) (ls : List Line) → is local_line h ≡ true → None is_head ls → length ns ≡ count_of ctor_line ls
      → ((i : ℕ) → i < length ns → get_or ns i 0 ≡ tag_number (ctor_tag (number h 4) (k + i)))
      → fill_third ctor_line ns (map (λ l. tell ti (keep_line l)) ls) ≡ told_lines ti h k ls
  unfolding told_lines fill_third
  tags_lines ti h k ns [] e n c t = refl
  tags_lines ti h k ns (l ∷ ls) e n c t = go (is ctor_line l) refl ns c t (λ i ms p q. tags_lines ti h i ms ls e n.1 p q)
    where
      go : (b : Bool) → is ctor_line l ≡ b → (ms : List ℕ) → length ms ≡ count_of ctor_line (l ∷ ls) → ((i : ℕ) → i < length ms → get_or ms i 0 ≡ tag_number (ctor_tag (number h 4) (k + i)))
          → ((i : ℕ) (us : List ℕ) → length us ≡ count_of ctor_line ls → ((j : ℕ) → j < length us → get_or us j 0 ≡ tag_number (ctor_tag (number h 4) (i + j))) → fill_third ctor_line us (map (λ l. tell ti (keep_line l)) ls) ≡ told_lines ti h i ls)
          → fill_third ctor_line ms (tell ti (keep_line l) ∷ map (λ l. tell ti (keep_line l)) ls) ≡ verdict_line_of er ts ti h k l ∷ told_lines ti h (pick b (suc k) k) ls
      go true q [] p u ih = absurd (omega (arith, ap length (select_yes ctor_line l ls q)))
      go true q (m ∷ ms) p u ih =
          fill_third_yes ctor_line m ms (tell ti (keep_line l)) (map (λ l. tell ti (keep_line l)) ls) (keep_is ti ctor_line l ∙ q)
          ∙ ap₂ (λ (x : Line) (r : List Line). x ∷ r)
          (ap₂ (third_line ctor_line) (u 0 (omega arith) ∙ ap (λ (i : ℕ). tag_number (ctor_tag (number h 4) i)) (omega arith)) (ctor_kept ti l q) ∙ ctor_told ti h k l e q)
          (ih (suc k) ms (omega (arith, ap length (select_yes ctor_line l ls q))) (λ j v. u (suc j) (omega arith) ∙ ap (λ (i : ℕ). tag_number (ctor_tag (number h 4) i)) (omega arith)))
      go false q ms p u ih =
          fill_third_other ctor_line ms (tell ti (keep_line l)) (map (λ l. tell ti (keep_line l)) ls) (keep_is ti ctor_line l ∙ q)
          ∙ ap₂ (λ (x : Line) (r : List Line). x ∷ r) (below_told ti h k l e n.0 q) (ih k ms (p ∙ ap length (select_no ctor_line l ls q)) u)

  -- lines without C lines
  bare_lines : (ti : TypeInfo) (h : Line) (k : ℕ) (ls : List Line) → is local_line h ≡ true → None is_head ls → None (is ctor_line) ls → map (λ l. tell ti (keep_line l)) ls ≡ told_lines ti h k ls
  unfolding told_lines
  bare_lines ti h k [] e n c = refl
  bare_lines ti h k (l ∷ ls) e n c = rw c.0 (ap₂ ◌∷◌ (below_told ti h k l e n.0 c.0) (bare_lines ti h k ls e n.1 c.1))

  -- an import's lines stay
  stay_line : (ti : TypeInfo) (h : Line) (k : ℕ) (l : Line) → is local_line h ≡ false → verdict_line_of er ts ti h k l ≡ l
  unfolding verdict_line_of
  stay_line ti h k l e = rw e

  stay_lines : (ti : TypeInfo) (h : Line) (k : ℕ) (ls : List Line) → is local_line h ≡ false → ls ≡ told_lines ti h k ls
  unfolding told_lines
  stay_lines ti h k [] e = refl
  stay_lines ti h k (l ∷ ls) e = ap₂ ◌∷◌ (sym (stay_line ti h k l e)) (stay_lines ti h (pick (is ctor_line l) (suc k) k) ls e)

  head_line : (ti : TypeInfo) (h : Line) (k : ℕ) → is local_line h ≡ true → verdict_line_of er ts ti h k h ≡ row import_line (map (number h) (0 ∷ 1 ∷ 2 ∷ 3 ∷ 4 ∷ []))
  unfolding verdict_line_of
  head_line ti h k e = rw e

  -- a declaration of which a local one has the slots of its types
  group_lines : (g : Group) (ti : TypeInfo) → Grouped is_head g → Whole g
      → (is local_line g.head ≡ true → ti.ti_ctors ≡ ctor_layouts er (close_fields (dtype_of ts g)))
      → (filled g ti).head ∷ (filled g ti).rest ≡ verdict_line_of er ts ti g.head 0 g.head ∷ told_lines ti g.head 0 g.rest
  unfolding filled ctor_layouts close_fields dtype_of
  group_lines g ti k w s = go (is local_line g.head) refl
    where
      ps : List ℕ
      ps = (dtype_of ts g).dt_params

      cs : List Ctor
      cs = ctors_of_tydef (close_fields (dtype_of ts g))

      -- keeps and verdict
      told : is local_line g.head ≡ true → fill_told ti g.rest ≡ map (λ l. tell ti (keep_line l)) g.rest
      told e =
          let q : all_slots ti.ti_ctors ≡ map keep_of (select field_line g.rest) =
          ap all_slots (s e) ∙ (all_slots_concat er (ctor_tag (length cs)) cs ∙ body_lines (number g.head 0) ps g w) in
          ap (λ (bs : List Bool). fill_verdict ti (fill_keeps bs g.rest)) q
          ∙ (ap (fill_verdict ti) (fill_lines g.rest) ∙ (fill_verdict_map ti (map keep_line g.rest) ∙ map-map (tell ti) keep_line g.rest))

      -- and tags
      tagged : is local_line g.head ≡ true → (length cs ≡ count_of ctor_line g.rest) ⊎ ((length cs ≡ 1) × (count_of ctor_line g.rest ≡ 0))
          → (0 < count_of ctor_line g.rest → length cs ≡ number g.head 4) → fill_rest ti g.rest ≡ told_lines ti g.head 0 g.rest
      tagged e (inl c) m =
          let cls : List CtorLayout = layouts_of_ctors er (ctor_tag (length cs)) cs in
          let n : length (map tag_number_of cls) ≡ length cs = length-map cls tag_number_of ∙ length_table _ (length cs) in
          ap₂ (λ (x : List CtorLayout) (r : List Line). fill_tags x r) (s e) (told e)
          ∙ tags_lines ti g.head 0 (map tag_number_of cls) g.rest e k.alone (n ∙ c) (λ i l.
          let j : i < length cs = omega (arith, n) in
          let o : CtorLayout = ctor_layout none no_ctor [] in
          get_or_map tag_number_of cls i 0 o (omega (arith, length-map cls tag_number_of))
          ∙ (ap tag_number (tag_at er (ctor_tag (length cs)) cs i o j) ∙ ap₂ (λ (v u : ℕ). tag_number (ctor_tag v u)) (m (omega (arith, c))) (omega arith)))
      tagged e (inr c) m =
          let z : None (is ctor_line) g.rest = none_select ctor_line g.rest (length_nil (select ctor_line g.rest) c.1) in
          let y : select ctor_line (map (λ l. tell ti (keep_line l)) g.rest) ≡ [] = select_none ctor_line _ (none_map (λ l. tell ti (keep_line l)) (is ctor_line) (keep_is ti ctor_line) g.rest z) in
          ap (fill_tags ti.ti_ctors) (told e)
          ∙ (fill_third_absent ctor_line (map tag_number_of ti.ti_ctors) (map (λ l. tell ti (keep_line l)) g.rest) y ∙ bare_lines ti g.head 0 g.rest e k.alone z)

      go : (c : Bool) → is local_line g.head ≡ c → (filled g ti).head ∷ (filled g ti).rest ≡ verdict_line_of er ts ti g.head 0 g.head ∷ told_lines ti g.head 0 g.rest
      go true e = rw (local_not_import g.head e) (ap₂ ◌∷◌ (sym (head_line ti g.head 0 e)) (tagged e (ctors_counted ps ts (number g.head 0) g w) (ctors_last ps ts (number g.head 0) g w)))
      go false e =
          let i : is import_line g.head ≡ true = other g.head k.begins e in
          rw i (ap₂ ◌∷◌ (sym (stay_line ti g.head 0 g.head e)) (stay_lines ti g.head 0 g.rest e))
        where
          other : (l : Line) → is_head l ≡ true → is local_line l ≡ false → is import_line l ≡ true
          other l h n = ⊎_elim (λ q. contrary (is local_line l) q n) (λ q. q) (one_of (is local_line l) (is import_line l) h)

  -- ---- all lines
  -- h is the head of the declaration that the line before is in, k the heads so far, and c the C lines of that declaration so far
  unfoldable told_walk : (ℕ → TypeInfo) → Line → ℕ → ℕ → List Line → List Line
  told_walk tis h k c [] = []
  told_walk tis h k c (l ∷ ls) =
      verdict_line_of er ts (tis (pick (is_head l) (suc k) k - 1)) (pick (is_head l) l h) c l
      ∷ told_walk tis (pick (is_head l) l h) (pick (is_head l) (suc k) k) (pick (is_head l) 0 (pick (is ctor_line l) (suc c) c)) ls

  walk_none : (tis : ℕ → TypeInfo) (h : Line) (k c : ℕ) (xs ys : List Line) → None is_head xs
      → told_walk tis h k c (xs ++ ys) ≡ told_lines (tis (k - 1)) h c xs ++ told_walk tis h k (ctors_after c xs) ys
  unfolding told_walk told_lines ctors_after
  walk_none tis h k c [] ys n = refl
  walk_none tis h k c (x ∷ xs) ys n = rw n.0 (ap (λ (r : List Line). verdict_line_of er ts (tis (k - 1)) h c x ∷ r) (walk_none tis h k (pick (is ctor_line x) (suc c) c) xs ys n.1))

  -- a line that begins a declaration is told whatever the C lines before it
  head_any : (ti : TypeInfo) (x : Line) (b c : ℕ) → is_head x ≡ true → verdict_line_of er ts ti x b x ≡ verdict_line_of er ts ti x c x
  unfolding verdict_line_of
  head_any ti x b c e = rw e

  -- a declaration's first line, and those below it
  walk_group : (tis : ℕ → TypeInfo) (h x : Line) (k c : ℕ) (xs ys : List Line) → is_head x ≡ true → None is_head xs
      → told_walk tis h k c (x ∷ (xs ++ ys)) ≡ (verdict_line_of er ts (tis k) x 0 x ∷ told_lines (tis k) x 0 xs) ++ told_walk tis x (suc k) (ctors_after 0 xs) ys
  unfolding told_walk
  walk_group tis h x k c xs ys e n =
      let z : suc k - 1 ≡ k = omega arith in
      rw e
      (ap₂ (λ (a : Line) (r : List Line). a ∷ r) (head_any (tis (suc k - 1)) x c 0 e) (walk_none tis x (suc k) 0 xs ys n)
      ∙ ap (λ (j : ℕ). verdict_line_of er ts (tis j) x 0 x ∷ (told_lines (tis j) x 0 xs ++ told_walk tis x (suc k) (ctors_after 0 xs) ys)) z)

  -- the verdicts from number k on are those of the groups
  walk_groups : (tis : ℕ → TypeInfo) (us : List TypeInfo) (h : Line) (k c : ℕ) (gs : List Group) → AllGrouped is_head gs → AllWhole gs → length us ≡ length gs
      → ((j : ℕ) (d : TypeInfo) → j < length us → get_or us j d ≡ tis (k + j))
      → ((j : ℕ) (d : Group) (t : TypeInfo) → j < length gs → is local_line (get_or gs j d).head ≡ true → (get_or us j t).ti_ctors ≡ ctor_layouts er (close_fields (dtype_of ts (get_or gs j d))))
      → flat (fills gs us) ≡ told_walk tis h k c (flat gs)
  unfolding flat fills told_walk
  walk_groups tis us h k c [] a w e q s = refl
  walk_groups tis [] h k c (g ∷ gs) a w e q s = absurd (omega arith)
  walk_groups tis (u ∷ us) h k c (g ∷ gs) a w e q s =
      let z : u ≡ tis k = q 0 u (omega arith) ∙ ap tis (omega arith) in
      ap (λ (r : List Line). r ++ flat (fills gs us)) (group_lines g u a.0 w.0 (λ v. s 0 g u (omega arith) v))
      ∙ (ap (λ (t : TypeInfo). (verdict_line_of er ts t g.head 0 g.head ∷ told_lines t g.head 0 g.rest) ++ flat (fills gs us)) z
      ∙ (ap (λ (r : List Line). (verdict_line_of er ts (tis k) g.head 0 g.head ∷ told_lines (tis k) g.head 0 g.rest) ++ r)
      (walk_groups tis us g.head (suc k) (ctors_after 0 g.rest) gs a.1 w.1 (omega arith) (λ j d l. q (suc j) d (omega arith) ∙ ap tis (omega arith)) (λ j d t l v. s (suc j) d t (omega arith) v))
      ∙ sym (walk_group tis h g.head k c g.rest (flat gs) a.0.begins a.0.alone)))

  walk_at : (tis : ℕ → TypeInfo) (h : Line) (k c : ℕ) (ls : List Line) (i : ℕ) → i < length ls
      → nth_line (told_walk tis h k c ls) i ≡ verdict_line_of er ts (tis (k + heads_before ls (suc i) - 1)) (last_head h (take (suc i) ls)) (ctors_after c (take i ls)) (nth_line ls i)
  unfolding told_walk last_head ctors_after
  walk_at tis h k c [] i l = absurd (omega arith)
  walk_at tis h k c (x ∷ ls) zero l = go (is_head x) refl
    where
      go : (b : Bool) → is_head x ≡ b
          → verdict_line_of er ts (tis (pick b (suc k) k - 1)) (pick b x h) c x ≡ verdict_line_of er ts (tis (k + heads (x ∷ []) - 1)) (pick b x h) c x
      go true e = ap (λ (n : ℕ). verdict_line_of er ts (tis n) x c x) (omega (arith, heads_head x [] e, heads_none [] tt))
      go false e = ap (λ (n : ℕ). verdict_line_of er ts (tis n) h c x) (omega (arith, heads_other x [] e, heads_none [] tt))
  walk_at tis h k c (x ∷ ls) (suc i) l =
      let d : ℕ = pick (is_head x) 0 (pick (is ctor_line x) (suc c) c) in
      walk_at tis (pick (is_head x) x h) (pick (is_head x) (suc k) k) d ls i (omega arith)
      ∙ ap (λ (n : ℕ). verdict_line_of er ts (tis n) (last_head (pick (is_head x) x h) (take (suc i) ls)) (ctors_after d (take i ls)) (nth_line ls i)) (go (is_head x) refl)
    where
      go : (b : Bool) → is_head x ≡ b → pick b (suc k) k + heads_before ls (suc i) - 1 ≡ k + heads (x ∷ take (suc i) ls) - 1
      go true e = omega (arith, heads_head x (take (suc i) ls) e)
      go false e = omega (arith, heads_other x (take (suc i) ls) e)

-- ---- the verdict sheet
-- Line i of the verdict sheet of a program, where every declaration's lines are as its counts say.
pub verdict_line_at : (fuel : ℕ) (ls : List Line) → AllWhole (groups is_head ls) → (i : ℕ) → i < length ls
    → nth_line (verdict_lines ls (run fuel (program ls)).infos) i
    ≡ verdict_line_of (marked (program ls) (erasure_fixpoint (program ls)).marks) (trees ls) (info_at fuel (program ls) (heads_before ls (suc i) - 1)) (head_of ls i) (ctors_after 0 (take i ls)) (nth_line ls i)
unfolding program decl_of
verdict_line_at fuel ls w i h =
    let ds : List Decl = program ls in
    let er : ℕ → Bool = marked ds (erasure_fixpoint ds).marks in
    let us : List TypeInfo = (run fuel ds).infos in
    let gs : List Group = groups is_head ls in
    let n : length us ≡ length gs = length_infos fuel ds ∙ (length_program ls ∙ sym (length_groups ls)) in
    let pre : List Line = before is_head ls in
    let e : verdict_lines ls us ≡ told_walk er (trees ls) (info_at fuel ds) bad 0 0 ls =
    verdict_lines_flat ls us
    ∙ (ap₂ (λ (x y : List Line). x ++ y) (stay_lines er (trees ls) (info_at fuel ds 0) bad 0 pre refl)
    (walk_groups er (trees ls) (info_at fuel ds) us bad 0 (ctors_after 0 pre) gs (grouped is_head ls) w n
    (λ j d l. get_or_infos fuel ds j d (omega (arith, n, length_groups ls, length_program ls)) ∙ ap (info_at fuel ds) (omega arith))
    (λ j d t l c. local_ctors j d t l c))
    ∙ (sym (walk_none er (trees ls) (info_at fuel ds) bad 0 0 pre (flat gs) (none_before is_head ls)) ∙ ap (told_walk er (trees ls) (info_at fuel ds) bad 0 0) (before_flat is_head ls))) in
    ap (λ (x : List Line). nth_line x i) e
    ∙ (walk_at er (trees ls) (info_at fuel ds) bad 0 0 ls i h
    ∙ ap (λ (n : ℕ). verdict_line_of er (trees ls) (info_at fuel ds n) (head_of ls i) (ctors_after 0 (take i ls)) (nth_line ls i)) (omega arith))
  where
    local_ctors : (j : ℕ) (d : Group) (t : TypeInfo) → j < length (groups is_head ls) → is local_line (get_or (groups is_head ls) j d).head ≡ true
        → (get_or (run fuel (program ls)).infos j t).ti_ctors
        ≡ ctor_layouts (marked (program ls) (erasure_fixpoint (program ls)).marks) (close_fields (dtype_of (trees ls) (get_or (groups is_head ls) j d)))
    local_ctors j d t l c =
        let ds : List Decl = program ls in
        let g : Group = get_or (groups is_head ls) j d in
        let q : get_or ds j no_decl ≡ decl_of (trees ls) g = get_or_map (decl_of (trees ls)) (groups is_head ls) j no_decl d l in
        let o : origin_at ds j ≡ here = ap (λ (x : Decl). x.origin) q ∙ rw (local_not_import g.head c) in
        let k : j < length ds = omega (arith, length_groups ls, length_program ls) in
        ap (λ (x : TypeInfo). x.ti_ctors) (get_or_infos fuel ds j t k ∙ local_info fuel ds j o)
        ∙ ap (λ (x : Decl). ctor_layouts (marked ds (erasure_fixpoint ds).marks) x.dtype) q
