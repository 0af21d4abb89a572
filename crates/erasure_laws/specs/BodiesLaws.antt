-- The rules of erasure by a declaration's lines. Assumes nothing.
use Rattle.std.proofs.Common.{⊎_elim, ◌∙◌, length-append, take-append-drop, length-set, get_or-set_same, get_or-set_other}
use Rattle.std.specs.Prelude.{◌≡◌, Bool, ◌&&◌, ltb, leb, set, take, drop}
use Rattle.std.proofs.Math.Path.{refl, ap, sym}
use mathlib.Core.List.{List, [], ◌∷◌, ◌++◌, map, append-nil}
use Rattle.std.proofs.Math.Bool.{true, false}
use Prim.Native.Nat.{ℕ, suc, ◌+◌, ◌-◌, ◌/◌, ◌%◌, ◌≤◌, ◌<◌}
use native.Mathlib.Omega.{arith}
use Rattle.std.proofs.Math.Dec.{eqb}
use Rattle.std.proofs.Math.ListN.{length, get_or}
use borrow.Author.Tests.{eqb-true, ne_eqb, ltb-true, ltb-false}
use Rattle.sheet.specs.Line.{Line, bad, letter, number}
use Rattle.sheet.proofs.ListLaws.{both}
use Rattle.model.specs.Cty.{TUnit}
use Rattle.model.specs.Decl.{TVariant, has_flag, close_body, close_fields}
use Rattle.model.specs.Erasure.{marked, fields_erased, body_erased, dtype_erased, rule_of, rule}
use Rattle.meaning.specs.Program.{name_line, type_line, import_line, param_line, ctor_line, field_line, is, select, Group, groups, trees, ctor_of, body_of, dtype_of, program}
use Rattle.meaning.specs.Rows.{nth_line, count_of, zeros_from, good_head, good_numbers}
use Rattle.meaning_laws.specs.Program.{select_append, head_cases, length_groups_of}
use Rattle.model_laws.specs.Rounds.{cases_eq}
use Rattle.row4_limits.specs.Limits.{start}
use Rattle.table_declared.specs.Passed.{Passed}
use Rattle.table_access.specs.Tables.{nth, group, head_line, decls_of, first_of}
use Rattle.table_declared.specs.LineLaws.{stands, good_line}
use Rattle.table_declared.specs.DeclLaws.{line_inside, line_of_head, group_is, first_next, nth_in, dtype_is, origin_local, whole_at}
use Rattle.table_declared.specs.BodyLaws.{close_erased, closed, fields_all, fields_some, fields_of, ctor_fields}
use Rattle.erasure_marks.specs.Marks.{marks_of, type_erased, Marks}
use Rattle.erasure_marks.specs.MarksLaws.{bit_zero, bit_set}
use Rattle.erasure_laws.specs.declared.Field.{Field}
use Rattle.erasure_laws.specs.declared.Way as ways
use Rattle.erasure_laws.specs.declared.Way.TheVariants as by
use Rattle.erasure_laws.specs.Bodies.{Higher, kind_of, last_of, field_type, Below, decl_erased, Erased, ByFields, ByType, ByBody, Way, Found, Places, State, Ruling}

-- ---- fields
-- a field's type is a type
pub field_types : (ls : List Line) → Passed ls → (f : ℕ) → f < count_of field_line ls → field_type ls f < count_of type_line ls
unfolding good_numbers
field_types ls p f h =
    let r = stands field_line ls f h in
    let l : Line = nth_line ls r.place in
    let e : letter l ≡ 70 = eqb-true (letter l) 70 r.lettered in
    let g : (ltb (number l 0) (count_of name_line ls) && ltb (number l 1) (count_of type_line ls) && zeros_from 3 l) ≡ true = rw e at (good_line ls p r.place r.inside) in
    let k = both (ltb (number l 0) (count_of name_line ls) && ltb (number l 1) (count_of type_line ls)) (zeros_from 3 l) g in
    let m = both (ltb (number l 0) (count_of name_line ls)) (ltb (number l 1) (count_of type_line ls)) k.0 in
    rw r.same (ltb-true (number l 1) (count_of type_line ls) m.1)

-- no more lines of a letter before a declaration than there are
pub first_le : (x : ℕ) (ls : List Line) (d : ℕ) → first_of x ls d ≤ count_of x ls
first_le x ls d =
    let i : ℕ = start ls d in
    let e : select x ls ≡ select x (take i ls) ++ select x (drop i ls) = ap (select x) (sym (take-append-drop i ls)) ∙ select_append x (take i ls) (drop i ls) in
    omega (arith, ap length e, length-append (select x (take i ls)) (select x (drop i ls)))

pub below_of : (ls : List Line) → Passed ls → (d : ℕ) → Below ls (first_of field_line ls d)
below_of ls p d =
    let h = first_le field_line ls d in
    record { fields = h; types = λ f l. field_types ls p f (omega arith) }

pub first_rises : (ls : List Line) (d : ℕ) → d < decls_of ls → first_of field_line ls d ≤ first_of field_line ls (suc d)
first_rises ls d h = omega (arith, first_next ls d h field_line refl refl)

-- an abbreviation's type is a type
good_last : (names types : ℕ) (l : Line) → good_head names types l ≡ true → number l 2 ≡ 1 → number l 4 < types
unfolding good_head
good_last names types l g e = ltb-true (number l 4) types (both (ltb (number l 0) names && leb (number l 1) 31) (ltb (number l 4) types) (rw e at g)).1

good_head_at : (ls : List Line) → Passed ls → (d : ℕ) → d < decls_of ls → good_head (count_of name_line ls) (count_of type_line ls) (nth_line ls (start ls d)) ≡ true
unfolding good_numbers
good_head_at ls p d h =
    let l : Line = nth_line ls (start ls d) in
    let g = good_line ls p (start ls d) (line_inside ls d h) in
    ⊎_elim (λ (q : letter l ≡ 68). rw q at g) (λ (q : letter l ≡ 73). rw q at g) (head_cases l (line_of_head ls d h))

pub last_types : (ls : List Line) → Passed ls → (d : ℕ) → d < decls_of ls → kind_of ls d ≡ 1 → last_of ls d < count_of type_line ls
last_types ls p d h k =
    let m : head_line ls d ≡ nth_line ls (start ls d) = ap (λ (g : Group). g.head) (group_is ls d h) in
    rw (← m) at (good_last (count_of name_line ls) (count_of type_line ls) (nth_line ls (start ls d)) (good_head_at ls p d h) (rw m at k))

-- ---- a local declaration
module _ (ls : List Line) (p : Passed ls) (d : ℕ) (h : d < decls_of ls) where
  er : List Bool → ℕ → Bool
  er m = marked (program ls) m

  module _ (loc : is import_line (head_line ls d) ≡ false) where
    decl_is : (m : List Bool) → decl_erased ls m d ≡ dtype_erased (er m) (close_fields (dtype_of (trees ls) (group ls d)))
    unfolding rule rule_of er
    decl_is m = rw (origin_local ls d h loc, dtype_is ls d h)

    pub by_flag : number (head_line ls d) 1 % 2 ≡ 1 → (m : List Bool) → decl_erased ls m d ≡ true
    unfolding dtype_erased has_flag close_fields dtype_of
    by_flag e m = let q : number (head_line ls d) 1 / 1 % 2 ≡ 1 = omega arith in decl_is m ∙ rw q

    pub by_realized : (number (head_line ls d) 1 % 2 ≡ 1 → ⊥) → number (head_line ls d) 1 / 2 % 2 ≡ 1 → (m : List Bool) → decl_erased ls m d ≡ false
    unfolding dtype_erased has_flag close_fields dtype_of
    by_realized n e m =
        let q : eqb (number (head_line ls d) 1 / 1 % 2) 1 ≡ false = ne_eqb (number (head_line ls d) 1 / 1 % 2) 1 (λ z. n (omega arith)) in
        decl_is m ∙ rw (q, e)

    pub by_body : (number (head_line ls d) 1 % 2 ≡ 1 → ⊥) → (number (head_line ls d) 1 / 2 % 2 ≡ 1 → ⊥) → ByBody ls d
    unfolding dtype_erased has_flag close_fields dtype_of er
    by_body n k =
        record {
          by =
              λ m.
              let q : eqb (number (head_line ls d) 1 / 1 % 2) 1 ≡ false = ne_eqb (number (head_line ls d) 1 / 1 % 2) 1 (λ z. n (omega arith)) in
              decl_is m ∙ rw (q, ne_eqb (number (head_line ls d) 1 / 2 % 2) 1 k);
        }

  -- ---- by the body
  -- its parameters
  ps : List ℕ
  ps = map (λ l. number l 0) (select param_line (group ls d).rest)

  -- erased as fields are, where these are the declaration's F lines
  by_list : (fl : List Line) → select field_line (group ls d).rest ≡ fl
      → ((m : List Bool) → decl_erased ls m d ≡ fields_erased (er m) (closed (er m) ps (trees ls) fl)) → ByFields ls d
  unfolding type_erased er
  by_list fl q f =
      let n : length fl ≡ count_of field_line (group ls d).rest = ap length (sym q) in
      let e = first_next ls d h field_line refl refl in
      let at : (j : ℕ) → j < length fl → get_or fl j bad ≡ nth field_line ls (first_of field_line ls d + j) = λ j l. ap (λ (r : List Line). get_or r j bad) (sym q) ∙ sym (nth_in ls d h field_line refl refl j (omega arith)) in
      record {
        all = λ m a. f m ∙ fields_all (er m) ps (trees ls) fl (λ j l. rw (at j l) (a (first_of field_line ls d + j) (omega arith) (omega arith)));
        some =
            λ m i lo hi k.
            let j : ℕ = i - first_of field_line ls d in
            let w : first_of field_line ls d + (i - first_of field_line ls d) ≡ i = omega arith in
            let l : j < length fl = omega arith in
            f m ∙ fields_some (er m) ps (trees ls) fl j l (rw (at j l, w) k);
      }

  module _ (y : ByBody ls d) where
    pub by_abbrev : number (head_line ls d) 2 ≡ 1 → ByType ls d
    unfolding body_of close_body body_erased type_erased er ps
    by_abbrev e = record { by = λ m. y.by m ∙ rw e (close_erased (er m) ps (get_or (trees ls) (number (head_line ls d) 4) TUnit)) }

    pub by_record : number (head_line ls d) 2 ≡ 2 → ByFields ls d
    unfolding body_of close_body body_erased er ps
    by_record e = by_list (select field_line (group ls d).rest) refl (λ m. y.by m ∙ rw e)

    pub by_abstract : (number (head_line ls d) 2 ≡ 1 → ⊥) → (number (head_line ls d) 2 ≡ 2 → ⊥) → (number (head_line ls d) 2 ≡ 3 → ⊥) → (m : List Bool) → decl_erased ls m d ≡ false
    unfolding body_of close_body body_erased
    by_abstract n1 n2 n3 m = y.by m ∙ rw (ne_eqb (number (head_line ls d) 2) 1 n1, ne_eqb (number (head_line ls d) 2) 2 n2, ne_eqb (number (head_line ls d) 2) 3 n3)

    module _ (e : number (head_line ls d) 2 ≡ 3) where
      counts : length (groups (is ctor_line) (group ls d).rest) ≡ number (head_line ls d) 4
      counts = length_groups_of ctor_line (group ls d).rest ∙ (whole_at ls p d h).ctors e

      -- by the constructors
      variant : (m : List Bool) (gs : List Group) → groups (is ctor_line) (group ls d).rest ≡ gs
          → decl_erased ls m d ≡ body_erased (er m) (close_body ps (TVariant (map (ctor_of (trees ls)) gs)))
      unfolding body_of er ps
      variant m gs q = y.by m ∙ rw (e, q)

      pub by_none : number (head_line ls d) 4 ≡ 0 → (m : List Bool) → decl_erased ls m d ≡ true
      unfolding close_body body_erased
      by_none z m = go (groups (is ctor_line) (group ls d).rest) refl
        where
          go : (gs : List Group) → groups (is ctor_line) (group ls d).rest ≡ gs → decl_erased ls m d ≡ true
          go [] q = variant m [] q
          go (c ∷ gs) q = absurd (omega (arith, counts, ap length q))

      pub by_several : (number (head_line ls d) 4 ≡ 0 → ⊥) → (number (head_line ls d) 4 ≡ 1 → ⊥) → (m : List Bool) → decl_erased ls m d ≡ false
      unfolding close_body body_erased
      by_several n0 n1 m = go (groups (is ctor_line) (group ls d).rest) refl
        where
          go : (gs : List Group) → groups (is ctor_line) (group ls d).rest ≡ gs → decl_erased ls m d ≡ false
          go [] q = absurd (n0 (sym counts ∙ ap length q))
          go (c ∷ []) q = absurd (n1 (sym counts ∙ ap length q))
          go (c ∷ k ∷ gs) q = variant m (c ∷ k ∷ gs) q

      pub by_one : number (head_line ls d) 4 ≡ 1 → ByFields ls d
      unfolding close_body body_erased ctor_of fields_of
      by_one z = go (groups (is ctor_line) (group ls d).rest) refl
        where
          go : (gs : List Group) → groups (is ctor_line) (group ls d).rest ≡ gs → ByFields ls d
          go [] q = absurd (omega (arith, counts, ap length q))
          go (c ∷ []) q =
              by_list (select field_line c.rest)
              (ctor_fields (group ls d).rest ((whole_at ls p d h).ctors_first e) ∙ rw q (append-nil (select field_line c.rest)))
              (λ m. variant m (c ∷ []) q)
          go (c ∷ k ∷ gs) q = absurd (omega (arith, counts, ap length q))

-- ---- the ways
module _ (ls : List Line) (d : ℕ) where
  pub way_erased : ((m : List Bool) → decl_erased ls m d ≡ true) → Way ls d by.Erased
  way_erased e = record { erased = λ q. e; kept = λ q. absurd (cc); type = λ q. absurd (cc); typed = λ q. absurd (cc); fields = λ q. absurd (cc) }

  pub way_kept : ((m : List Bool) → decl_erased ls m d ≡ false) → Way ls d by.Kept
  way_kept e = record { erased = λ q. absurd (cc); kept = λ q. e; type = λ q. absurd (cc); typed = λ q. absurd (cc); fields = λ q. absurd (cc) }

  pub way_type : ByType ls d → last_of ls d < count_of type_line ls → Way ls d by.AsType
  way_type y h = record { erased = λ q. absurd (cc); kept = λ q. absurd (cc); type = λ q. y; typed = λ q. h; fields = λ q. absurd (cc) }

  pub way_fields : ByFields ls d → Way ls d by.AsFields
  way_fields y = record { erased = λ q. absurd (cc); kept = λ q. absurd (cc); type = λ q. absurd (cc); typed = λ q. absurd (cc); fields = λ q. y }

  pub way_rest : (r : ways.Way) → Way ls d r → (r ≡ by.Erased → ⊥) → (r ≡ by.Kept → ⊥) → (r ≡ by.AsType → ⊥) → ByFields ls d
  way_rest by.Erased w n0 n1 n2 = absurd (n0 refl)
  way_rest by.Kept w n0 n1 n2 = absurd (n1 refl)
  way_rest by.AsType w n0 n1 n2 = absurd (n2 refl)
  way_rest by.AsFields w n0 n1 n2 = w.fields refl

-- ---- marks
module _ (ls : List Line) (m : List Bool) (node member : List ℕ) (n y : ℕ) (k : Marks ls m node member n) (h : y < n) where
  -- a type's mark, tested
  pub mark_kept : get_or node y 0 ≡ 0 → type_erased ls m y ≡ false
  mark_kept e = bit_zero (get_or node y 0) (type_erased ls m y) (k.right y h) e

  pub mark_erased : (get_or node y 0 ≡ 0 → ⊥) → type_erased ls m y ≡ true
  mark_erased e = bit_set (get_or node y 0) (type_erased ls m y) (k.right y h) e

-- one field more is erased
pub passed_next : (ls : List Line) (m : List Bool) (from f : ℕ) → ((i : ℕ) → from ≤ i → i < f → type_erased ls m (field_type ls i) ≡ true) → type_erased ls m (field_type ls f) ≡ true
    → (i : ℕ) → from ≤ i → i < f + 1 → type_erased ls m (field_type ls i) ≡ true
passed_next ls m from f p e i h l = cases_eq i f (λ q. rw q e) (λ n. p i h (omega arith))

-- ---- the places
-- one declaration's place and the type that it waits for, set
pub places_set : (ls : List Line) (m : List Bool) (field wait : List ℕ) (d f y : ℕ) → d < decls_of ls → Places ls m field wait → f ≤ first_of field_line ls (suc d) → Erased ls m d f
    → ((n : List Bool) → type_erased ls n y ≡ false → decl_erased ls n d ≡ false) → Places ls m (set field d f) (set wait d y)
places_set ls m field wait d f y h s w e k =
    record {
      field_size = length-set field d f ∙ s.field_size;
      wait_size = length-set wait d y ∙ s.wait_size;
      within = λ i l. cases_eq i d (λ q. rw (q, get_or-set_same field d f 0 (omega (arith, s.field_size))) w) (λ n. rw (get_or-set_other field d i f 0 n) (s.within i l));
      passed = λ i l. cases_eq i d (λ q. rw (q, get_or-set_same field d f 0 (omega (arith, s.field_size))) e) (λ n. rw (get_or-set_other field d i f 0 n) (s.passed i l));
      waits = λ i l. cases_eq i d (λ q. rw (q, get_or-set_same wait d y 0 (omega (arith, s.wait_size))) (λ _. k)) (λ n. rw (get_or-set_other wait d i y 0 n) (s.waits i l));
    }

-- the type that a declaration waits for, set
pub waits_set : (ls : List Line) (m : List Bool) (field wait : List ℕ) (d y : ℕ) → d < decls_of ls → Places ls m field wait
    → ((n : List Bool) → type_erased ls n y ≡ false → decl_erased ls n d ≡ false) → Places ls m field (set wait d y)
waits_set ls m field wait d y h s k =
    record {
      field_size = s.field_size;
      wait_size = length-set wait d y ∙ s.wait_size;
      within = s.within;
      passed = s.passed;
      waits = λ i l. cases_eq i d (λ q. rw (q, get_or-set_same wait d y 0 (omega (arith, s.wait_size))) (λ _. k)) (λ n. rw (get_or-set_other wait d i y 0 n) (s.waits i l));
    }

-- ---- rulings
module _ (ls : List Line) (decl node member field wait node' member' : List ℕ) (right d : ℕ) (s : State ls decl node member field wait right) (h : d < decls_of ls) where
  -- the rules settle it, and nothing changes
  pub settled_now : (v : Bool) → decl_erased ls (marks_of decl) d ≡ v → Ruling ls decl node member field wait d (record { erased = v; right = right })
  settled_now v e = record { state = s; answer = sym e }

  module _ (y : ByFields ls d) (from : ℕ) (hi : Higher (first_of field_line ls d) (get_or field d 0) from) (r : Field) (f : Found ls (marks_of decl) node' member' from (first_of field_line ls (suc d)) r) where
    all_passed : Erased ls (marks_of decl) d r.number
    all_passed i lo l = go (ltb i (get_or field d 0)) refl
      where
        go : (c : Bool) → ltb i (get_or field d 0) ≡ c → type_erased ls (marks_of decl) (field_type ls i) ≡ true
        go true e = s.places.passed d h i lo (ltb-true i (get_or field d 0) e)
        go false e = f.passed i (hi.one i lo (ltb-false i (get_or field d 0) e)) l

    pub fields_kept : r.number < first_of field_line ls (suc d) → Ruling ls decl node' member' (set field d r.number) (set wait d (field_type ls r.number)) d (record { erased = false; right = r.right })
    fields_kept l =
        let lo : first_of field_line ls d ≤ r.number = omega (arith, hi.left, f.low) in
        record {
          state = record { decl_size = s.decl_size; marks = f.marks; places = places_set ls (marks_of decl) field wait d r.number (field_type ls r.number) h s.places f.within all_passed (λ n e. y.some n r.number lo l e) };
          answer = sym (y.some (marks_of decl) r.number lo l (f.stops l));
        }

    pub fields_gone : first_of field_line ls (suc d) ≤ r.number → Ruling ls decl node' member' field wait d (record { erased = true; right = r.right })
    fields_gone l =
        let e : r.number ≡ first_of field_line ls (suc d) = omega (arith, f.within) in
        record {
          state = record { decl_size = s.decl_size; marks = f.marks; places = s.places };
          answer = sym (y.all (marks_of decl) (rw e at all_passed));
        }

  module _ (y : ByType ls d) (n : ℕ) (k : Marks ls (marks_of decl) node' member' n) (l : last_of ls d < n) where
    pub type_kept : get_or node' (last_of ls d) 0 ≡ 0 → Ruling ls decl node' member' field (set wait d (last_of ls d)) d (record { erased = false; right = n })
    type_kept e =
        record {
          state = record { decl_size = s.decl_size; marks = k; places = waits_set ls (marks_of decl) field wait d (last_of ls d) h s.places (λ m q. y.by m ∙ q) };
          answer = sym (y.by (marks_of decl) ∙ mark_kept ls (marks_of decl) node' member' n (last_of ls d) k l e);
        }

    pub type_gone : (get_or node' (last_of ls d) 0 ≡ 0 → ⊥) → Ruling ls decl node' member' field wait d (record { erased = true; right = n })
    type_gone e =
        record {
          state = record { decl_size = s.decl_size; marks = k; places = s.places };
          answer = sym (y.by (marks_of decl) ∙ mark_erased ls (marks_of decl) node' member' n (last_of ls d) k l e);
        }
