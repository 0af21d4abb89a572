-- Erasure of a type by its line, and what the marks of types keep. Assumes nothing.
use Rattle.std.specs.Prelude.{◌≡◌, List, Bool, ◌&&◌, eqb, length, get_or, set}
use Rattle.std.proofs.Math.Path.{refl, ap}
use Rattle.std.proofs.Common.{ap₂, sym, ◌∙◌, length-set, get_or-set_same, get_or-set_other, eqb-true}
use Rattle.std.proofs.Math.Bool.{true, false}
use mir.Val.{bool_byte}
use Prim.Native.Nat.{ℕ, zero, suc, ◌+◌, ◌≤◌, ◌<◌}
use native.Mathlib.Omega.{arith}
use Rattle.std.proofs.lemmas.List.{length-map}
use Rattle.std.proofs.Math.ListN.{get_or-map, get_or-eq_default}
use Rattle.std.proofs.lemmas.Bool.{eqb-false}
use Rattle.sheet.specs.Line.{Line, bad, number}
use Rattle.sheet.proofs.ListLaws.{contrary}
use Rattle.model.specs.Cty.{Cty, TUnit}
use Rattle.model.specs.Decl.{bit}
use Rattle.model.specs.Erasure.{is_pure, cty_erased, ctys_erased, marked}
use Rattle.meaning.specs.Program.{name_line, arg_line, type_line, select, list_of, tree, trees, program}
use Rattle.meaning.specs.Rows.{count_of}
use Rattle.model_laws.specs.Rounds.{cases_eq}
use Rattle.row4_limits.specs.Limits.{counts_of}
use Rattle.row5_ranges.specs.TypeLists.{types_of}
use Rattle.row5_ranges.specs.TypeLinesLaws.{past}
use Rattle.table_declared.specs.Passed.{Passed}
use Rattle.table_declared.specs.PassedLaws.{args_few}
use Rattle.table_access.specs.Tables.{nth}
use Rattle.table_declared.specs.TypeLaws.{good_kind, good_arrow, good_app, good_tuple, good_inline, good_type_at, type_tree}
use Rattle.erasure_marks.specs.Marks.{part, arg_of, marks_of, type_erased, Before, Found, Tuple, Tupled, Placed, Marks, Marked}

-- a test as a byte is a mark
pub byte_bit : (b : Bool) → bool_byte b ≡ bit b
byte_bit true = refl
byte_bit false = refl

-- ---- lists of types
module _ (er : ℕ → Bool) (ts : List Cty) (xs : List ℕ) where
  pub list_erased : (i k : ℕ) → ((j : ℕ) → j < k → cty_erased er (get_or ts (get_or xs (i + j) 0) TUnit) ≡ true) → ctys_erased er (list_of ts xs i k) ≡ true
  unfolding list_of ctys_erased
  list_erased i zero h = refl
  list_erased i (suc k) h =
      let z : i + 0 ≡ i = omega arith in
      let a : cty_erased er (get_or ts (get_or xs i 0) TUnit) ≡ true = rw z at (h 0 (omega arith)) in
      rw a (list_erased (suc i) k (λ j l. let e : i + suc j ≡ suc i + j = omega arith in rw e at (h (suc j) (omega arith))))

  pub list_kept : (i k j : ℕ) → j < k → cty_erased er (get_or ts (get_or xs (i + j) 0) TUnit) ≡ false → ctys_erased er (list_of ts xs i k) ≡ false
  unfolding list_of ctys_erased
  list_kept i zero j h e = absurd (omega arith)
  list_kept i (suc k) zero h e =
      let z : i + 0 ≡ i = omega arith in
      let a : cty_erased er (get_or ts (get_or xs i 0) TUnit) ≡ false = rw z at e in
      rw a
  list_kept i (suc k) (suc j) h e =
      let q : i + suc j ≡ suc i + j = omega arith in
      rw (list_kept (suc i) k j (omega arith) (rw q at e)) (go (cty_erased er (get_or ts (get_or xs i 0) TUnit)))
    where
      go : (c : Bool) → (c && false) ≡ false
      go true = refl
      go false = refl

-- lists whose members are erased alike
list_same : (er er' : ℕ → Bool) (ts : List Cty) (xs : List ℕ) (i k : ℕ) → ((j : ℕ) → j < k → cty_erased er' (get_or ts (get_or xs (i + j) 0) TUnit) ≡ cty_erased er (get_or ts (get_or xs (i + j) 0) TUnit))
    → ctys_erased er' (list_of ts xs i k) ≡ ctys_erased er (list_of ts xs i k)
unfolding list_of ctys_erased
list_same er er' ts xs i zero h = refl
list_same er er' ts xs i (suc k) h =
    let z : i + 0 ≡ i = omega arith in
    ap₂ ◌&&◌ (rw z at (h 0 (omega arith))) (list_same er er' ts xs (suc i) k (λ j l. let e : i + suc j ≡ suc i + j = omega arith in rw e at (h (suc j) (omega arith))))

-- the type of an A line
pub arg_is : (ls : List Line) (i : ℕ) → get_or (types_of ls) i 0 ≡ arg_of ls i
arg_is ls i = get_or-map (λ (l : Line). number l 0) (select arg_line ls) i bad

-- one member more is marked
pub before_next : (ls : List Line) (node : List ℕ) (first j : ℕ) → Before ls node first j → (get_or node (arg_of ls (first + j)) 0 ≡ 0 → ⊥) → Before ls node first (j + 1)
before_next ls node first j f g i l = cases_eq i j (λ q. rw q g) (λ n. f i (omega arith))

-- what a tuple's walk finds
pub tupled : (ls : List Line) (node member : List ℕ) (y first count j : ℕ) → y < length member → first ≡ part ls y 1 → count ≡ part ls y 2
    → Found ls node first count (get_or member y 0) j → Tupled ls node member (set member y j) y (eqb j count)
tupled ls node member y first count j h a k f =
    let e : get_or (set member y j) y 0 ≡ j = get_or-set_same member y j 0 h in
    record {
      sized = length-set member y j;
      others = λ z n. get_or-set_other member y z j 0 n;
      within = rw (e, ← k) f.within;
      passed = rw (e, ← a) f.passed;
      stops = rw (e, ← a, ← k) f.stops;
      answer = rw (e, k);
    }

-- ---- a mark by what it says
pub bit_one : (v : Bool) → eqb (bit v) 1 ≡ v
bit_one true = refl
bit_one false = refl

pub bit_zero : (x : ℕ) (v : Bool) → x ≡ bit v → x ≡ 0 → v ≡ false
bit_zero x true e z = absurd (omega arith)
bit_zero x false e z = refl

pub bit_set : (x : ℕ) (v : Bool) → x ≡ bit v → (x ≡ 0 → ⊥) → v ≡ true
bit_set x true e z = refl
bit_set x false e z = absurd (z e)

bit_marked : (x : ℕ) (v : Bool) → x ≡ bit v → v ≡ true → x ≡ 0 → ⊥
bit_marked x true e q z = omega arith
bit_marked x false e q z = contrary false q refl

-- a declaration's mark
pub marks_at : (ms : List ℕ) (d : ℕ) → get_or (marks_of ms) d false ≡ eqb (get_or ms d 0) 1
marks_at ms d = get_or-map (λ x. eqb x 1) ms d 0

pub marks_past : (ms : List ℕ) (d : ℕ) → length ms ≤ d → get_or (marks_of ms) d false ≡ false
marks_past ms d h = get_or-eq_default (marks_of ms) false (rw length-map h)

-- ---- erasure of a type by its line
module _ (ls : List Line) (p : Passed ls) (m : List Bool) (y : ℕ) (h : y < count_of type_line ls) where
  er : ℕ → Bool
  er = marked (program ls) m

  by_tree : type_erased ls m y ≡ cty_erased er (tree (trees ls) (types_of ls) (part ls y 0) (part ls y 1) (part ls y 2) (part ls y 3))
  unfolding type_erased er
  by_tree = ap (cty_erased er) (type_tree ls p y h)

  pub erased_unit : part ls y 0 ≡ 0 → type_erased ls m y ≡ true
  unfolding tree cty_erased
  erased_unit e = by_tree ∙ rw e

  pub erased_arrow : part ls y 0 ≡ 7 → type_erased ls m y ≡ (is_pure (part ls y 2) && type_erased ls m (part ls y 3))
  unfolding tree cty_erased type_erased er
  erased_arrow e = by_tree ∙ rw e

  pub erased_app : part ls y 0 ≡ 8 → type_erased ls m y ≡ marked (program ls) m (part ls y 1)
  unfolding tree cty_erased er
  erased_app e = by_tree ∙ rw e

  erased_tuple : part ls y 0 ≡ 9 → type_erased ls m y ≡ ctys_erased er (list_of (trees ls) (types_of ls) (part ls y 1) (part ls y 2))
  unfolding tree cty_erased
  erased_tuple e = by_tree ∙ rw e

  pub erased_inline : part ls y 0 ≡ 12 → type_erased ls m y ≡ type_erased ls m (part ls y 1)
  unfolding tree cty_erased type_erased er
  erased_inline e = by_tree ∙ rw e

  pub tuple_all : part ls y 0 ≡ 9 → ((j : ℕ) → j < part ls y 2 → type_erased ls m (arg_of ls (part ls y 1 + j)) ≡ true) → type_erased ls m y ≡ true
  unfolding type_erased er
  tuple_all e f =
      erased_tuple e
      ∙ list_erased er (trees ls) (types_of ls) (part ls y 1) (part ls y 2) (λ j l. rw (arg_is ls (part ls y 1 + j)) (f j l))

  pub tuple_some : part ls y 0 ≡ 9 → (j : ℕ) → j < part ls y 2 → type_erased ls m (arg_of ls (part ls y 1 + j)) ≡ false → type_erased ls m y ≡ false
  unfolding type_erased er
  tuple_some e j l f =
      erased_tuple e
      ∙ list_kept er (trees ls) (types_of ls) (part ls y 1) (part ls y 2) j l (rw (arg_is ls (part ls y 1 + j)) f)

  -- the kinds that are kept alike
  pub erased_other : (part ls y 0 ≡ 0 → ⊥) → (part ls y 0 ≡ 7 → ⊥) → (part ls y 0 ≡ 8 → ⊥) → (part ls y 0 ≡ 9 → ⊥) → (part ls y 0 ≡ 12 → ⊥) → type_erased ls m y ≡ false
  unfolding tree cty_erased
  erased_other n0 n7 n8 n9 n12 = by_tree ∙ go (eqb k 1) (eqb k 2) (eqb k 3) (eqb k 4) (eqb k 5) (eqb k 6) (eqb k 10) (eqb k 11) refl refl refl refl refl refl refl refl
    where
      k : ℕ
      k = part ls y 0

      go : (a c d e f g i j : Bool) → eqb k 1 ≡ a → eqb k 2 ≡ c → eqb k 3 ≡ d → eqb k 4 ≡ e → eqb k 5 ≡ f → eqb k 6 ≡ g → eqb k 10 ≡ i → eqb k 11 ≡ j
          → cty_erased er (tree (trees ls) (types_of ls) (part ls y 0) (part ls y 1) (part ls y 2) (part ls y 3)) ≡ false
      go true c d e f g i j a' c' d' e' f' g' i' j' = let q : part ls y 0 ≡ 1 = eqb-true k 1 a' in rw q
      go false true d e f g i j a' c' d' e' f' g' i' j' = let q : part ls y 0 ≡ 2 = eqb-true k 2 c' in rw q
      go false false true e f g i j a' c' d' e' f' g' i' j' = let q : part ls y 0 ≡ 3 = eqb-true k 3 d' in rw q
      go false false false true f g i j a' c' d' e' f' g' i' j' = let q : part ls y 0 ≡ 4 = eqb-true k 4 e' in rw q
      go false false false false true g i j a' c' d' e' f' g' i' j' = let q : part ls y 0 ≡ 5 = eqb-true k 5 f' in rw q
      go false false false false false true i j a' c' d' e' f' g' i' j' = let q : part ls y 0 ≡ 6 = eqb-true k 6 g' in rw q
      go false false false false false false true j a' c' d' e' f' g' i' j' = let q : part ls y 0 ≡ 10 = eqb-true k 10 i' in rw q
      go false false false false false false false true a' c' d' e' f' g' i' j' = let q : part ls y 0 ≡ 11 = eqb-true k 11 j' in rw q
      go false false false false false false false false a' c' d' e' f' g' i' j' =
          let q : part ls y 0 ≤ 12 = good_kind (count_of name_line ls) (types_of ls) y (nth type_line ls y) (good_type_at ls p y h) in
          let r : 13 ≤ k =
          past 12 k (past 11 k (past 10 k (past 9 k (past 8 k (past 7 k (past 6 k (past 5 k (past 4 k (past 3 k (past 2 k (past 1 k (past 0 k (omega arith) n0)
          (eqb-false k 1 a')) (eqb-false k 2 c')) (eqb-false k 3 d')) (eqb-false k 4 e')) (eqb-false k 5 f')) (eqb-false k 6 g')) n7) n8) n9) (eqb-false k 10 i')) (eqb-false k 11 j')) n12 in
          absurd (omega arith)

  -- ---- by the marks of lower types
  module _ (node member : List ℕ) (s : Marks ls m node member y) where
    below : (a : ℕ) → a < y → a < length node
    below a l = omega (arith, s.node_size)

    pub arrow_low : part ls y 0 ≡ 7 → part ls y 3 < length node
    arrow_low e = below (part ls y 3) (good_arrow (count_of name_line ls) (types_of ls) y (nth type_line ls y) (good_type_at ls p y h) e).2

    pub inline_low : part ls y 0 ≡ 12 → part ls y 1 < length node
    inline_low e = below (part ls y 1) (good_inline (count_of name_line ls) (types_of ls) y (nth type_line ls y) (good_type_at ls p y h) e)

    pub app_name : part ls y 0 ≡ 8 → part ls y 1 < count_of name_line ls
    app_name e = (good_app (count_of name_line ls) (types_of ls) y (nth type_line ls y) (good_type_at ls p y h) e).0

    pub arrow_marked : part ls y 0 ≡ 7 → (is_pure (part ls y 2) && eqb (get_or node (part ls y 3) 0) 1) ≡ type_erased ls m y
    arrow_marked e =
        let l = (good_arrow (count_of name_line ls) (types_of ls) y (nth type_line ls y) (good_type_at ls p y h) e).2 in
        rw (s.right (part ls y 3) l, bit_one) (sym (erased_arrow e))

    pub inline_marked : part ls y 0 ≡ 12 → eqb (get_or node (part ls y 1) 0) 1 ≡ type_erased ls m y
    inline_marked e =
        let l = good_inline (count_of name_line ls) (types_of ls) y (nth type_line ls y) (good_type_at ls p y h) e in
        rw (s.right (part ls y 1) l, bit_one) (sym (erased_inline e))

    -- the members of a tuple
    member_lower : part ls y 0 ≡ 9 → (j : ℕ) → j < part ls y 2 → (part ls y 1 + j < count_of arg_line ls) × (arg_of ls (part ls y 1 + j) < y)
    member_lower e j l =
        let g = good_tuple (count_of name_line ls) (types_of ls) y (nth type_line ls y) (good_type_at ls p y h) e j l in
        (rw length-map at g.0, rw (arg_is ls (part ls y 1 + j)) at g.1)

    pub tuple_of : part ls y 0 ≡ 9 → Tuple ls node member y
    unfolding counts_of
    tuple_of e =
        record {
          typed = h;
          sized = omega (arith, s.member_size);
          listed = λ j l. ((member_lower e j l).0, below (arg_of ls (part ls y 1 + j)) (member_lower e j l).1);
          few = few (part ls y 2) refl;
          within = (s.placed y h e).within;
        }
      where
        few : (k : ℕ) → part ls y 2 ≡ k → part ls y 2 < 65536
        few zero q = omega arith
        few (suc k) q = omega (arith, (member_lower e k (omega arith)).0, args_few ls p)

    module _ (e : part ls y 0 ≡ 9) (member' : List ℕ) (r : Bool) (u : Tupled ls node member member' y r) where
      j : ℕ
      j = get_or member' y 0

      all_before : Before ls node (part ls y 1) (get_or member' y 0)
      all_before =
          u.passed
          (λ i l. let q = s.placed y h e in
          let n = (member_lower e i (omega (arith, q.within))).1 in
          bit_marked (get_or node (arg_of ls (part ls y 1 + i)) 0) (type_erased ls m (arg_of ls (part ls y 1 + i))) (s.right (arg_of ls (part ls y 1 + i)) n) (q.erased i l))

      before_erased : (i : ℕ) → i < get_or member' y 0 → type_erased ls m (arg_of ls (part ls y 1 + i)) ≡ true
      before_erased i l =
          let n = (member_lower e i (omega (arith, u.within))).1 in
          bit_set (get_or node (arg_of ls (part ls y 1 + i)) 0) (type_erased ls m (arg_of ls (part ls y 1 + i))) (s.right (arg_of ls (part ls y 1 + i)) n) (all_before i l)

      pub tuple_marked : Marked ls m node member' y r
      tuple_marked =
          record {
            marks = record { node_size = s.node_size; member_size = u.sized ∙ s.member_size; low = s.low; right = s.right; placed = λ z l k. cases_eq z y (λ q. rw q (record { within = u.within; erased = before_erased })) (λ n. other z l k n) };
            answer = u.answer ∙ go (eqb (get_or member' y 0) (part ls y 2)) refl;
          }
        where
          other : (z : ℕ) → z < count_of type_line ls → part ls z 0 ≡ 9 → (z ≡ y → ⊥) → Placed ls m member' z
          other z l k n = let q = s.placed z l k in record { within = rw (u.others z n) q.within; erased = λ i o. q.erased i (rw (u.others z n) at o) }

          go : (c : Bool) → eqb (get_or member' y 0) (part ls y 2) ≡ c → c ≡ type_erased ls m y
          go true q = let n = eqb-true (get_or member' y 0) (part ls y 2) q in sym (tuple_all e (λ i l. before_erased i (omega arith)))
          go false q =
              let n = eqb-false (get_or member' y 0) (part ls y 2) q in
              let l : get_or member' y 0 < part ls y 2 = omega (arith, u.within) in
              let a : ℕ = arg_of ls (part ls y 1 + get_or member' y 0) in
              sym (tuple_some e (get_or member' y 0) l (bit_zero (get_or node a 0) (type_erased ls m a) (s.right a (member_lower e (get_or member' y 0) l).1) (u.stops l)))

-- a tuple is erased alike where its members are
pub tuple_same : (ls : List Line) → Passed ls → (m n : List Bool) (y : ℕ) → y < count_of type_line ls → part ls y 0 ≡ 9
    → ((j : ℕ) → j < part ls y 2 → type_erased ls n (arg_of ls (part ls y 1 + j)) ≡ type_erased ls m (arg_of ls (part ls y 1 + j)))
    → type_erased ls n y ≡ type_erased ls m y
unfolding type_erased er
tuple_same ls p m n y h e f =
    erased_tuple ls p n y h e
    ∙ list_same (marked (program ls) m) (marked (program ls) n) (trees ls) (types_of ls) (part ls y 1) (part ls y 2) (λ j l. rw (arg_is ls (part ls y 1 + j)) (f j l))
    ∙ sym (erased_tuple ls p m y h e)

-- one type more
pub marks_next : (ls : List Line) (m : List Bool) (node member : List ℕ) (y : ℕ) (r : Bool) → y < count_of type_line ls → Marked ls m node member y r → Marks ls m (set node y (bit r)) member (suc y)
marks_next ls m node member y r h k =
    let s = k.marks in
    record {
      node_size = length-set node y (bit r) ∙ s.node_size;
      member_size = s.member_size;
      low = h;
      right = λ z l. cases_eq z y (λ q. rw q (get_or-set_same node y (bit r) 0 (omega (arith, s.node_size)) ∙ ap bit k.answer)) (λ n. get_or-set_other node y z (bit r) 0 n ∙ s.right z (omega arith));
      placed = s.placed;
    }
