-- The marks before the first round, and which type is the first to name a declaration. Assumes nothing.
use Rattle.std.specs.Prelude.{◌≡◌, List, ◌++◌, Bool, true, false, ℕ, suc, ◌+◌, ◌-◌, ◌≤◌, ◌<◌, eqb, length, get_or, set, take, replicate}
use Rattle.std.proofs.Common.{ap, sym, ◌∙◌, arith, length-set, length-take-le, take_at, get_or-set_same, get_or-set_other, ext_get_or, get_or-take}
use Rattle.std.proofs.lemmas.List.{length-map, length-replicate, get_or-replicate}
use Rattle.std.proofs.Math.ListN.{get_or-append}
use Rattle.sheet.specs.Line.{Line, number}
use Rattle.model.specs.Decl.{origin_at, position, bit}
use Rattle.model.specs.Erasure.{start_of, start, erasure_fixpoint}
use Rattle.meaning.specs.Program.{name_line, type_line, import_line, verdict_line, is, info_of, program}
use Rattle.meaning.specs.Rows.{count_of}
use Rattle.model_laws.specs.Rounds.{cases_eq}
use Rattle.model_laws.specs.Erasure.{length_start, start_at, start_sound}
use Rattle.meaning_laws.specs.Program.{length_program}
use Rattle.row5_ranges.specs.TypeLists.{types_of}
use Rattle.table_declared.specs.Passed.{Passed}
use Rattle.table_access.specs.Tables.{nth, head_line, decls_of}
use Rattle.table_declared.specs.TypeLaws.{good_app, good_type_at}
use Rattle.table_declared.specs.DeclLaws.{origin_local, origin_import, verdict_is}
use Rattle.erasure_marks.specs.Marks.{part, marks_of, type_erased}
use Rattle.erasure_marks.specs.MarksLaws.{bit_one, marks_at}
use Rattle.erasure_laws.specs.Rounds.{Uses, Running, Ended}
use Rattle.erasure_laws.specs.Fixpoint.{named, Fresh, Fixed, Fixpoint}

-- the name of a `TApp` is a name
pub name_of_app : (ls : List Line) → Passed ls → (y : ℕ) → y < count_of type_line ls → part ls y 0 ≡ 8 → part ls y 1 < count_of name_line ls
name_of_app ls p y h e = (good_app (count_of name_line ls) (types_of ls) y (nth type_line ls y) (good_type_at ls p y h) e).0

-- ---- first uses
-- no type from y on and below used[d] names declaration d
pub record UsedFrom (ls : List Line) (used : List ℕ) (y : ℕ) : Type 0 where
  pub size : length used ≡ decls_of ls
  pub none : (d : ℕ) → d < decls_of ls → (z : ℕ) → y ≤ z → z < count_of type_line ls → part ls z 0 ≡ 8 → position (program ls) (part ls z 1) ≡ d → get_or used d 0 ≤ z

pub used_none : (ls : List Line) (used : List ℕ) (y : ℕ) → length used ≡ decls_of ls → count_of type_line ls ≤ y → UsedFrom ls used y
used_none ls used y e h = record { size = e; none = λ d l z i k q w. absurd (omega arith) }

pub used_next : (ls : List Line) (used : List ℕ) (y : ℕ) → UsedFrom ls used (suc y) → UsedFrom ls (set used (named ls y) y) y
used_next ls used y u =
    record {
      size = length-set used (named ls y) y ∙ u.size;
      none = λ d h z l k q e. cases_eq d (named ls y)
          (λ n. rw (n, get_or-set_same used (named ls y) y 0 (rw (← n) (omega (arith, u.size)))) l)
          (λ n. rw (get_or-set_other used (named ls y) d y 0 n) (u.none d h z (cases_eq z y (λ w. absurd (n (sym e ∙ at y z w q))) (λ w. omega arith)) k q e));
    }
  where
    at : (y z : ℕ) → z ≡ y → part ls z 0 ≡ 8 → position (program ls) (part ls z 1) ≡ named ls y
    at y z w q = rw (← w, q)

pub used_all : (ls : List Line) (used : List ℕ) → UsedFrom ls used 0 → Uses ls used
used_all ls used u = record { size = u.size; none = λ d h y l k q e. let z = u.none d h y (omega arith) k q e in omega arith }

-- ---- the start
pub starts_import : (ls : List Line) → Passed ls → (d : ℕ) → d < decls_of ls → is import_line (head_line ls d) ≡ true
    → start_of (origin_at (program ls) d) ≡ eqb (number (nth verdict_line ls d) 0) 1
unfolding start_of info_of
starts_import ls p d h e = rw (origin_import ls d h e, verdict_is ls p d h)

pub starts_local : (ls : List Line) (d : ℕ) → d < decls_of ls → is import_line (head_line ls d) ≡ false → start_of (origin_at (program ls) d) ≡ false
unfolding start_of
starts_local ls d h e = rw (origin_local ls d h e)

-- one declaration more
pub start_next : (ls : List Line) (decl : List ℕ) (d x : ℕ) → d < length decl → ((i : ℕ) → i < d → get_or decl i 0 ≡ bit (start_of (origin_at (program ls) i))) → x ≡ bit (start_of (origin_at (program ls) d))
    → (i : ℕ) → i < d + 1 → get_or (set decl d x) i 0 ≡ bit (start_of (origin_at (program ls) i))
start_next ls decl d x h f e i l = cases_eq i d (λ q. rw q (get_or-set_same decl d x 0 h ∙ e)) (λ n. get_or-set_other decl d i x 0 n ∙ f i (omega arith))

pub start_marks : (ls : List Line) (decl : List ℕ) → length decl ≡ decls_of ls → ((i : ℕ) → i < decls_of ls → get_or decl i 0 ≡ bit (start_of (origin_at (program ls) i))) → marks_of decl ≡ start (program ls)
start_marks ls decl n f =
    let e : length (marks_of decl) ≡ length (start (program ls)) = length-map decl (λ x. eqb x 1) ∙ n ∙ sym (length_program ls) ∙ sym (length_start (program ls)) in
    ext_get_or false (marks_of decl) (start (program ls)) e
    (λ i l. marks_at decl i ∙ ap (λ (x : ℕ). eqb x 1) (f i (omega (arith, length-map decl (λ x. eqb x 1)))) ∙ bit_one (start_of (origin_at (program ls) i)) ∙ sym (start_at (program ls) i))

-- ---- before the first round
pub fresh_running : (ls : List Line) (used decl decl' node member field wait : List ℕ) → Fresh ls used decl node member field wait → (used' : List ℕ) → Uses ls used' → length decl' ≡ length decl → marks_of decl' ≡ start (program ls)
    → Running ls used' decl' node member field wait 0
fresh_running ls used decl decl' node member field wait f used' u n e =
    record {
      state =
          record {
            decl_size = n ∙ f.decl_size;
            marks =
                record {
                  node_size = f.node_size;
                  member_size = f.member_size;
                  low = omega arith;
                  right = λ y l. absurd (omega arith);
                  placed = λ y l q. record { within = rw (f.members y l) (omega arith); erased = λ j k. absurd (let z : j < 0 = rw (f.members y l) at k in omega arith) };
                };
            places =
                record {
                  field_size = f.field_size;
                  wait_size = f.wait_size;
                  within = λ d l. rw (f.fields d l) (omega arith);
                  passed = λ d l i lo k. absurd (let z : i < 0 = rw (f.fields d l) at k in omega arith);
                  waits = λ d l k. absurd (let z = f.waits d l in omega arith);
                };
          };
      uses = u;
      sound = rw e (start_sound (program ls));
      above = rw e (λ i a. a);
    }

-- after the last
pub fixed_of : (ls : List Line) (decl decl' node : List ℕ) (r : ℕ) → marks_of decl ≡ start (program ls) → Ended ls decl decl' node r → Fixed ls decl' node r
unfolding erasure_fixpoint
fixed_of ls decl decl' node r e d =
    let q : marks_of decl' ≡ (erasure_fixpoint (program ls)).marks = d.marks ∙ rw (e, length_program ls) in
    record { marks = q; counted = d.counted ∙ rw (e, length_program ls); types = λ y h. d.types y h ∙ ap (λ (m : List Bool). bit (type_erased ls m y)) q }

-- ---- the arrays
-- the first n of an array
module _ (m n x : ℕ) (h : n ≤ m) where
  part_length : length (take (n - 0) (replicate m x)) ≡ n
  part_length = let e : n - 0 ≡ n = omega arith in rw e (length-take-le n (replicate m x) (rw length-replicate h))

  part_at : (i : ℕ) → i < n → get_or (take (n - 0) (replicate m x)) i 0 ≡ x
  part_at i l = let e : n - 0 ≡ n = omega arith in rw e (get_or-take n (replicate m x) i 0 l ∙ get_or-replicate m i x 0 (omega arith))

-- of lengths ds and ts, that hold the declarations and the types
module _ (ls : List Line) (n y ds ts : ℕ) (a : n ≡ decls_of ls) (k : y ≡ count_of type_line ls) (d : decls_of ls ≤ ds) (c : count_of type_line ls ≤ ts) where
  pub fresh_of : Fresh ls (take (n - 0) (replicate ds 0)) (take (n - 0) (replicate ds 0)) (take (y - 0) (replicate ts 0)) (take (y - 0) (replicate ts 0)) (take (n - 0) (replicate ds 0)) (take (n - 0) (replicate ds y))
  fresh_of =
      let h : n ≤ ds = omega arith in
      let i : y ≤ ts = omega arith in
      record {
        used_size = part_length ds n 0 h ∙ a;
        decl_size = part_length ds n 0 h ∙ a;
        node_size = part_length ts y 0 i ∙ k;
        member_size = part_length ts y 0 i ∙ k;
        field_size = part_length ds n 0 h ∙ a;
        wait_size = part_length ds n y h ∙ a;
        members = λ z l. part_at ts y 0 i z (omega arith);
        fields = λ z l. part_at ds n 0 h z (omega arith);
        waits = λ z l. rw (part_at ds n y h z (omega arith)) (omega arith);
      }

  pub fixpoint_of : (decl node x z : List ℕ) (r : ℕ) → length decl ≡ length {A = ℕ} (take (n - 0) (replicate ds 0)) → length node ≡ length {A = ℕ} (take (y - 0) (replicate ts 0)) → Fixed ls decl node r
      → Fixpoint ls (record { node = node ++ x; decl = decl ++ z; rounds = r })
  fixpoint_of decl node x z r e g f =
      let h : n ≤ ds = omega arith in
      let i : y ≤ ts = omega arith in
      let u : length decl ≡ decls_of ls = e ∙ part_length ds n 0 h ∙ a in
      let v : length node ≡ count_of type_line ls = g ∙ part_length ts y 0 i ∙ k in
      record {
        marks = ap marks_of (take_at decl z (decls_of ls) u) ∙ f.marks;
        counted = f.counted;
        types = λ w l. get_or-append node x 0 w (omega arith) ∙ f.types w l;
      }
