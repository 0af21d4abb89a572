-- Rows 3 to 7 of a sheet cut between declarations: what they say of a prefix, of a verdict sheet in its place, and of
-- the lines of bytes. Assumes nothing.
use Rattle.std.specs.Prelude.{◌⊎◌, ◌≡◌, Bool, true, false, ◌&&◌, ◌||◌, not, eqb, leb, ltb, get_or, take, drop}
use Rattle.std.proofs.Common.{inl, inr, ⊎_elim, ap, ◌∙◌, subst, length-append, take-append-drop, take_all, eqb-true, eq-eqb, ltb-true, ltb-false, lt-ltb, le-ltb, leb-true, leb-false, le-leb}
use Rattle.std.proofs.Math.Path.{refl, ap₂, sym}
use mathlib.Core.List.{List, [], ◌∷◌, ◌++◌, map, append-nil, map-append}
use Rattle.std.proofs.Math.Bool.{and-false}
use Rattle.std.proofs.Math.Option.{Option, none, some}
use Prim.Native.Nat.{ℕ, zero, suc, ◌+◌, ◌-◌, ◌≤◌, ◌<◌}
use native.Mathlib.Omega.{arith}
use Rattle.std.proofs.Math.ListN
use Rattle.std.proofs.Math.ListN.{length, get_or-append}
use Rattle.std.proofs.lemmas.List.{length-map, take-append-le}
use Rattle.std.proofs.Math.Seq.{take-append-add, get_or-append-add, take-length}
use Rattle.std.proofs.lemmas.Bool.{lt-leb, not-true, not-false}
use Rattle.number_columns.specs.Column.{pick, ◌⇒◌∥◌}
use Rattle.sheet.specs.Format.{Format}
use Rattle.sheet.proofs.FirstLaws.{first_le, first_congr, none_first}
use Rattle.sheet.specs.Line.{Line, named, row, bad, cell, value, decode, letter, number, text, is_bad}
use Rattle.sheet.specs.Sheet.{first, line_at, count, line, lines}
use Rattle.sheet.proofs.SheetLaws.{length_lines, get_or_lines}
use Rattle.sheet.proofs.ListLaws.{false_true, contrary, both, neither, length_nil, at_every, every_at}
use Rattle.sheet.proofs.LineLaws.{Decoded, as_named, as_row, as_bad, decoded, five_numbers}
use Rattle.model.specs.Cty.{Cty, TUnit}
use Rattle.model.specs.Decl.{
  tag_number,
  bit,
  Field,
  Ctor,
  Body,
  TAbstract,
  TAbbrev,
  TRecord,
  TVariant,
  Dtype,
  ctors_of,
  ctors_of_tydef,
  CtorLayout,
  Layout,
  L_erased,
  NewtypeLayout,
  L_newtype,
  L_struct,
  L_abbrev,
  L_opaque,
  layout_number,
  TypeInfo,
  here,
  imported,
  Decl,
  no_decl,
  dtype_at,
  origin_at,
  table,
  close_field,
  close_body,
  close_fields,
}
use Rattle.model.specs.Layout.{ctor_tag, layouts_of_ctors, slots, kept, ctor_layout, ctor_layouts, newtype_of_ctor, newtype_of}
use Rattle.meaning.specs.declared.Due.{Due}
use Rattle.meaning.specs.declared.Due.TheVariants.{Header, Within, Broken}
use Rattle.meaning.specs.Program.{
  name_line,
  arg_line,
  type_line,
  import_line,
  param_line,
  ctor_line,
  field_line,
  verdict_line,
  is,
  is_head,
  select,
  before,
  Group,
  groups,
  trees,
  field_of,
  ctor_of,
  body_of,
  dtype_of,
  keeps_of,
  tag_of,
  tags,
  ctor_layouts_by,
  info_of,
  verdict_of,
  decl_of,
  program,
}
use Rattle.meaning.specs.Output.{fill_keeps, fill_tags, fill_verdict, all_slots, verdict_lines}
use Rattle.meaning.specs.Rows.{
  nth_line,
  count_of,
  count_before,
  heads_before,
  announced,
  due_header,
  due,
  due_after,
  is_broken,
  is_within,
  raw,
  raws,
  row3,
  params_after,
  row4,
  zeros_from,
  good_type,
  good_head,
  good_numbers,
  row5,
  is_ctor,
  same_decl,
  same_ctor,
  equal,
  repeats,
  row6,
  last_head,
  head_of,
  kept_after,
  ctors_after,
  tag_in,
  one_ctor,
  good_verdict,
  good_verdicts,
  row7,
}
use Rattle.meaning_laws.specs.Program.{
  None,
  none_left,
  Starts,
  select_append,
  select_none,
  select_yes,
  select_no,
  none_select,
  before_none,
  head_cases,
  heads,
  length_groups,
  five,
  plain,
  Kind,
  a_head,
  a_ctor,
  a_field,
  a_verdict,
  another,
  kind,
  plain_head,
  plain_is,
  map_group,
  select_map,
  groups_map,
  select_plain,
  Ended,
  AllEnded,
  plain_verdict_lines,
  Filling,
  done,
  keep,
  pass,
  past,
  filling,
  kept_line,
  fill_rest,
  told_line,
  tell,
  fill_verdict_map,
  none_fill,
  fill_third_last,
  count_fill,
  tag_number_of,
  tag_at,
  tag_read,
  tags_none,
  fill_told,
  none_told,
  ctors_told,
  ctors_counted,
  ctors_last,
  length_groups_of,
  length_program,
  Suits,
  has_ctors,
  Coherent,
  concat,
  slots_of,
  all_slots_concat,
  Told,
  AllTold,
  told_groups,
  filled,
  fills,
  filled_import,
  filled_local,
  verdict_lines_flat,
  length_verdict_lines,
  program_groups,
  Counts,
  close_ctor,
  counts_variant,
  length_slots,
  Grouped,
  AllGrouped,
  grouped,
  flat,
  before_flat,
  AllCounted,
  Whole,
  AllWhole,
  body_number,
  body_of_number,
  close_number,
  length_slot,
  before_after,
  before_header,
}
use Rattle.model_laws.specs.Lists.{trues, length_table, get_or_map, get_or_table}

none_some : {A B : Type 0} (a : A) → ◌≡◌ {A = Option A} none (some a) → B
none_some a e = let z : ◌≡◌ {A = ℕ} 0 1 = cc in absurd (omega arith)

take_map : {A B : Type 0} (f : A → B) (n : ℕ) (l : List A) → take n (map f l) ≡ map f (take n l)
take_map f zero l = refl
take_map f (suc n) [] = refl
take_map {A} {B} f (suc n) (x ∷ l) = ap (λ (r : List B). f x ∷ r) (take_map f n l)

-- ---- a prefix of the lines
line_prefix : (a qs : List Line) (i : ℕ) → i < length a → nth_line (a ++ qs) i ≡ nth_line a i
line_prefix a qs i h = get_or-append a qs bad i h

take_prefix : (a qs : List Line) (i : ℕ) → i ≤ length a → take i (a ++ qs) ≡ take i a
take_prefix a qs i h = take-append-le i a qs h

-- rows 4, 6 and 7 look at no line after their own
pub row4_prefix : (f : Format) (a qs : List Line) (i : ℕ) → i < length a → row4 f (a ++ qs) i ≡ row4 f a i
unfolding row4
row4_prefix f a qs i h = rw (line_prefix a qs i h, take_prefix a qs i (omega arith))

repeats_prefix : (a qs : List Line) (i j : ℕ) → i < length a → j < i → repeats (a ++ qs) i j ≡ repeats a i j
unfolding repeats
repeats_prefix a qs i j h k =
    rw (line_prefix a qs i h, line_prefix a qs j (omega arith), take_prefix a qs i (omega arith), take_prefix a qs j (omega arith))

pub row6_prefix : (a qs : List Line) (i : ℕ) → i < length a → row6 (a ++ qs) i ≡ row6 a i
unfolding row6
row6_prefix a qs i h = rw (first_congr (repeats (a ++ qs) i) (repeats a i) i (λ j k. repeats_prefix a qs i j h k))

pub row7_prefix : (a qs : List Line) (i : ℕ) → i < length a → row7 (a ++ qs) i ≡ row7 a i
unfolding row7 good_verdicts
row7_prefix a qs i h = rw (line_prefix a qs i h, take_prefix a qs i (omega arith), take_prefix a qs (suc i) h)

select_left : (x : ℕ) (a qs : List Line) → select x qs ≡ [] → select x (a ++ qs) ≡ select x a
select_left x a qs e = rw (select_append x a qs, e) (append-nil (select x a))

-- row 5 counts the N, A and Y lines of the whole
pub row5_prefix : (a qs : List Line) (i : ℕ) → select name_line qs ≡ [] → select arg_line qs ≡ [] → select type_line qs ≡ [] → i < length a → row5 (a ++ qs) i ≡ row5 a i
unfolding row5 good_numbers
row5_prefix a qs i n x y h =
    rw (line_prefix a qs i h, take_prefix a qs i (omega arith), select_left name_line a qs n, select_left arg_line a qs x, select_left type_line a qs y)

-- ---- row 3: the order of lines
abbrev pub is_header : Due → Bool
is_header (Header place) = true
is_header (Within p f c) = false
is_header Broken = false

-- the lines fit, and no declaration is left open
abbrev pub Ends : List Line → Type 0
Ends ls = is_header (due_after (Header 0) ls) ≡ true

pub due_after_append : (q : Due) (a b : List Line) → due_after q (a ++ b) ≡ due_after (due_after q a) b
unfolding due_after
due_after_append q [] b = refl
due_after_append q (l ∷ a) b = due_after_append (due q l) a b

broken_after : (ls : List Line) → due_after Broken ls ≡ Broken
unfolding due_after due
broken_after [] = refl
broken_after (l ∷ ls) = broken_after ls

-- lines that end well had no line that does not fit
unbroken : (q : Due) (ls : List Line) → is_header (due_after q ls) ≡ true → is_broken q ≡ false
unbroken (Header n) ls h = refl
unbroken (Within p f c) ls h = refl
unbroken Broken ls h = false_true (ap is_header (sym (broken_after ls)) ∙ h)

header_of : (q : Due) → is_broken q ≡ false → is_within q ≡ false → is_header q ≡ true
header_of (Header n) b w = refl
header_of (Within p f c) b w = false_true (sym w)
header_of Broken b w = false_true (sym b)

header_within : (q : Due) → is_header q ≡ true → is_within q ≡ false
header_within (Header n) h = refl
header_within (Within p f c) h = false_true h
header_within Broken h = refl

pub row3_inside : (ls : List Line) (i : ℕ) → i < length ls → row3 ls i ≡ is_broken (due_after (Header 0) (take (suc i) ls))
unfolding row3
row3_inside ls i h = rw (lt-ltb i (length ls) h, row3)

pub row3_past : (ls : List Line) (i : ℕ) → length ls ≤ i → row3 ls i ≡ is_within (due_after (Header 0) ls)
unfolding row3
row3_past ls i h = rw (le-ltb i (length ls) h, row3)

-- row 3 at line i sees the lines only by what is due after them
row3_same : (ls ms : List Line) (i : ℕ) → length ls ≡ length ms → due_after (Header 0) (take (suc i) ls) ≡ due_after (Header 0) (take (suc i) ms)
    → due_after (Header 0) ls ≡ due_after (Header 0) ms → row3 ls i ≡ row3 ms i
row3_same ls ms i n e d = go (ltb i (length ls)) refl
  where
    go : (c : Bool) → ltb i (length ls) ≡ c → row3 ls i ≡ row3 ms i
    go true q =
        let h : i < length ls = ltb-true i (length ls) q in
        row3_inside ls i h ∙ ap is_broken e ∙ sym (row3_inside ms i (omega arith))
    go false q =
        let h : length ls ≤ i = ltb-false i (length ls) q in
        row3_past ls i h ∙ ap is_within d ∙ sym (row3_past ms i (omega arith))

-- row 3 applies nowhere exactly if the lines end well
pub row3_ends : (ls : List Line) → ((i : ℕ) → i ≤ length ls → row3 ls i ≡ false) → Ends ls
unfolding due_after
row3_ends ls h = header_of (due_after (Header 0) ls) (whole ls h) (sym (row3_past ls (length ls) (omega arith)) ∙ h (length ls) (omega arith))
  where
    whole : (ms : List Line) → ((i : ℕ) → i ≤ length ms → row3 ms i ≡ false) → is_broken (due_after (Header 0) ms) ≡ false
    whole [] k = refl
    whole (l ∷ ms) k =
        ap (λ (r : List Line). is_broken (due_after (Header 0) (l ∷ r))) (sym (take-length ms))
        ∙ sym (row3_inside (l ∷ ms) (length ms) (omega arith))
        ∙ k (length ms) (omega arith)

pub ends_row3 : (ls : List Line) → Ends ls → (i : ℕ) → row3 ls i ≡ false
ends_row3 ls h i = go (ltb i (length ls)) refl
  where
    go : (c : Bool) → ltb i (length ls) ≡ c → row3 ls i ≡ false
    go true e =
        row3_inside ls i (ltb-true i (length ls) e)
        ∙ unbroken (due_after (Header 0) (take (suc i) ls)) (drop (suc i) ls)
        (rw (← due_after_append (Header 0) (take (suc i) ls) (drop (suc i) ls), take-append-drop) h)
    go false e = row3_past ls i (ltb-false i (length ls) e) ∙ header_within (due_after (Header 0) ls) h

-- ---- row 3 of a prefix
head_due : (place : ℕ) (l : Line) → is_head l ≡ true → due (Header place) l ≡ announced (number l 2) (number l 3) (number l 4)
unfolding due due_header
head_due place l e = ⊎_elim (λ h. rw h) (λ h. rw h) (head_cases l e)

-- inside a declaration no other begins
head_within : (p f c : ℕ) (l : Line) → is_head l ≡ true → due (Within p f c) l ≡ Broken
unfolding due
head_within (suc p) f c l e = ⊎_elim (λ h. rw h) (λ h. rw h) (head_cases l e)
head_within zero (suc f) c l e = ⊎_elim (λ h. rw h) (λ h. rw h) (head_cases l e)
head_within zero zero (suc c) l e = ⊎_elim (λ h. rw h) (λ h. rw h) (head_cases l e)
head_within zero zero zero l e = ⊎_elim (λ h. rw h) (λ h. rw h) (head_cases l e)

-- a declaration begins after whole ones
head_after : (q : Due) (l : Line) (ls : List Line) → is_head l ≡ true → is_header (due_after q (l ∷ ls)) ≡ true → is_header q ≡ true
unfolding due_after due
head_after (Header n) l ls e h = refl
head_after (Within p f c) l ls e h = false_true (rw (head_within p f c l e, broken_after ls) at h)
head_after Broken l ls e h = false_true (sym (unbroken Broken ls h))

-- a prefix that ends before a declaration ends well
pub ends_prefix : (a qs : List Line) → Starts is_head qs → Ends (a ++ qs) → Ends a
ends_prefix a [] s h = rw append-nil at h
ends_prefix a (l ∷ qs) s h = head_after (due_after (Header 0) a) l qs s (rw (due_after_append (Header 0) a (l ∷ qs)) at h)

-- ---- after the header
-- an N, A or Y line
abbrev pub is_header_line : Line → Bool
is_header_line l = is name_line l || (is arg_line l || is type_line l)

abbrev Late : Due → Type 0
Late (Header place) = 3 ≤ place
Late (Within p f c) = Unit {0}
Late Broken = Unit {0}

announced_late : (k p n : ℕ) → Late (announced k p n)
unfolding announced
announced_late k p n = go (leb k 1) (eqb k 2) (eqb k 3)
  where
    go : (a b c : Bool) → Late (a ⇒ Within p 0 0 ∥ b ⇒ Within p n 0 ∥ c ⇒ Within p 0 n ∥ Broken)
    go true b c = tt
    go false true c = tt
    go false false true = tt
    go false false false = tt

head_not_header : (l : Line) → is_head l ≡ true → is_header_line l ≡ false
head_not_header l e = ⊎_elim (λ h. rw h) (λ h. rw h) (head_cases l e)

late_header : (place : ℕ) (l : Line) → 3 ≤ place → due_header place l ≡ pick (is_head l) (announced (number l 2) (number l 3) (number l 4)) Broken
unfolding due_header
late_header place l k =
    rw (lt-leb place 0 (omega arith), lt-leb place 1 (omega arith), lt-leb place 2 (omega arith), and-false (is name_line l), and-false (is arg_line l), and-false (is type_line l))

late_step : (q : Due) (l : Line) → Late q → is_broken (due q l) ≡ false → (is_header_line l ≡ false) × Late (due q l)
unfolding due due_header
late_step (Header place) l k b = rw (late_header place l k) (go (is_head l) refl (rw (late_header place l k) at b))
  where
    go : (t : Bool) → is_head l ≡ t → is_broken (pick t (announced (number l 2) (number l 3) (number l 4)) Broken) ≡ false
        → (is_header_line l ≡ false) × Late (pick t (announced (number l 2) (number l 3) (number l 4)) Broken)
    go true e h = (head_not_header l e, announced_late (number l 2) (number l 3) (number l 4))
    go false e h = false_true (sym h)
late_step (Within (suc p) f c) l k b = go (is param_line l) refl b
  where
    go : (t : Bool) → is param_line l ≡ t → is_broken (pick t (Within p f c) Broken) ≡ false → (is_header_line l ≡ false) × Late (pick t (Within p f c) Broken)
    go true e h = (rw (eqb-true (letter l) 80 e), tt)
    go false e h = false_true (sym h)
late_step (Within zero (suc f) c) l k b = go (is field_line l) refl b
  where
    go : (t : Bool) → is field_line l ≡ t → is_broken (pick t (Within zero f c) Broken) ≡ false → (is_header_line l ≡ false) × Late (pick t (Within zero f c) Broken)
    go true e h = (rw (eqb-true (letter l) 70 e), tt)
    go false e h = false_true (sym h)
late_step (Within zero zero (suc c)) l k b = go (is ctor_line l) refl b
  where
    go : (t : Bool) → is ctor_line l ≡ t → is_broken (pick t (Within zero (number l 1) c) Broken) ≡ false
        → (is_header_line l ≡ false) × Late (pick t (Within zero (number l 1) c) Broken)
    go true e h = (rw (eqb-true (letter l) 67 e), tt)
    go false e h = false_true (sym h)
late_step (Within zero zero zero) l k b = go (is verdict_line l) refl b
  where
    go : (t : Bool) → is verdict_line l ≡ t → is_broken (pick t (Header 3) Broken) ≡ false → (is_header_line l ≡ false) × Late (pick t (Header 3) Broken)
    go true e h = (rw (eqb-true (letter l) 86 e), omega arith)
    go false e h = false_true (sym h)
late_step Broken l k b = false_true (sym b)

late_none : (q : Due) (ls : List Line) → Late q → is_header (due_after q ls) ≡ true → None is_header_line ls
unfolding due_after
late_none q [] k h = tt
late_none q (l ∷ ls) k h =
    let s = late_step q l k (unbroken (due q l) ls h) in
    (s.0, late_none (due q l) ls s.1 h)

-- No N, A or Y line stands after a line that begins a declaration.
pub declarations_none : (a qs : List Line) → Starts is_head qs → Ends (a ++ qs) → None is_header_line qs
unfolding due_after
declarations_none a [] s h = tt
declarations_none a (l ∷ qs) s h = (head_not_header l s, go (due_after (Header 0) a) (rw (due_after_append (Header 0) a (l ∷ qs)) at h))
  where
    go : (q : Due) → is_header (due_after (due q l) qs) ≡ true → None is_header_line qs
    go (Header place) k = late_none (announced (number l 2) (number l 3) (number l 4)) qs (announced_late (number l 2) (number l 3) (number l 4)) (rw (head_due place l s) at k)
    go (Within p f c) k = false_true (rw (head_within p f c l s, broken_after qs) at k)
    go Broken k = false_true (head_after Broken l qs s k)

header_none : (x : ℕ) (ls : List Line) → ((l : Line) → is_header_line l ≡ false → is x l ≡ false) → None is_header_line ls → select x ls ≡ []
header_none x ls f h = select_none x ls (go ls h)
  where
    go : (ms : List Line) → None is_header_line ms → None (is x) ms
    go [] k = tt
    go (l ∷ ms) k = (f l k.0, go ms k.1)

-- the same, letter by letter
pub record NoHeader (qs : List Line) : Type 0 where
  pub names : select name_line qs ≡ []
  pub args : select arg_line qs ≡ []
  pub types : select type_line qs ≡ []

pub no_header : (a qs : List Line) → Starts is_head qs → Ends (a ++ qs) → NoHeader qs
no_header a qs s h =
    let k = declarations_none a qs s h in
    record {
      names = header_none name_line qs (λ l e. (neither (is name_line l) (is arg_line l || is type_line l) e).0) k;
      args = header_none arg_line qs (λ l e. (neither (is arg_line l) (is type_line l) (neither (is name_line l) (is arg_line l || is type_line l) e).1).0) k;
      types = header_none type_line qs (λ l e. (neither (is arg_line l) (is type_line l) (neither (is name_line l) (is arg_line l || is type_line l) e).1).1) k;
    }

-- ---- the body of a declaration
-- What row 3 says of the lines of a declaration after its first, where so many P lines, F lines and C lines are to come.
pub record BodyLines (p f c : ℕ) (ls : List Line) : Type 0 where
  pub body : List Line
  pub last : Line
  pub ends : ls ≡ body ++ (last ∷ [])
  pub before_last : None (is verdict_line) body
  pub is_last : is verdict_line last ≡ true
  pub params : count_of param_line ls ≡ p
  pub fields : count_of field_line (before (is ctor_line) ls) ≡ f
  pub ctors : count_of ctor_line ls ≡ c
  pub counted : AllCounted (groups (is ctor_line) ls)

body_param : (p f c : ℕ) (l : Line) (ls : List Line) → letter l ≡ 80 → BodyLines p f c ls → BodyLines (suc p) f c (l ∷ ls)
unfolding select before groups
body_param p f c l ls e b = record {
  body = l ∷ b.body;
  last = b.last;
  ends = ap (λ (r : List Line). l ∷ r) b.ends;
  before_last = (rw e, b.before_last);
  is_last = b.is_last;
  params = rw e (ap suc b.params);
  fields = rw (e, e) b.fields;
  ctors = rw e b.ctors;
  counted = rw e b.counted;
}

body_field : (p f c : ℕ) (l : Line) (ls : List Line) → letter l ≡ 70 → BodyLines p f c ls → BodyLines p (suc f) c (l ∷ ls)
unfolding select before groups
body_field p f c l ls e b = record {
  body = l ∷ b.body;
  last = b.last;
  ends = ap (λ (r : List Line). l ∷ r) b.ends;
  before_last = (rw e, b.before_last);
  is_last = b.is_last;
  params = rw e b.params;
  fields = rw (e, e) (ap suc b.fields);
  ctors = rw e b.ctors;
  counted = rw e b.counted;
}

body_ctor : (p c : ℕ) (l : Line) (ls : List Line) → letter l ≡ 67 → BodyLines p (number l 1) c ls → BodyLines p 0 (suc c) (l ∷ ls)
unfolding select before groups
body_ctor p c l ls e b = record {
  body = l ∷ b.body;
  last = b.last;
  ends = ap (λ (r : List Line). l ∷ r) b.ends;
  before_last = (rw e, b.before_last);
  is_last = b.is_last;
  params = rw e b.params;
  fields = rw e refl;
  ctors = rw e (ap suc b.ctors);
  counted = rw e (b.fields, b.counted);
}

body_verdict : (l : Line) → letter l ≡ 86 → BodyLines 0 0 0 (l ∷ [])
unfolding select before groups
body_verdict l e = record {
  body = [];
  last = l;
  ends = refl;
  before_last = tt;
  is_last = rw e;
  params = rw e;
  fields = rw (e, e);
  ctors = rw e;
  counted = rw e tt;
}

-- after a V line comes a line that begins a declaration, or nothing
header_starts : (place : ℕ) (ls : List Line) → 3 ≤ place → is_header (due_after (Header place) ls) ≡ true → Starts is_head ls
unfolding due_after due
header_starts place [] k h = tt
header_starts place (l ∷ ls) k h = go (is_head l) refl (rw (late_header place l k) at (unbroken (due_header place l) ls h))
  where
    go : (t : Bool) → is_head l ≡ t → is_broken (pick t (announced (number l 2) (number l 3) (number l 4)) Broken) ≡ false → is_head l ≡ true
    go true e q = e
    go false e q = false_true (sym q)

-- the lines up to the next declaration, where a declaration is open
pub body_lines : (p f c : ℕ) (ls : List Line) → is_header (due_after (Within p f c) ls) ≡ true → BodyLines p f c (before is_head ls)
unfolding due_after due
body_lines p f c [] h = false_true h
body_lines (suc p) f c (l ∷ ls) h = go (is param_line l) refl h (body_lines p f c ls)
  where
    go : (t : Bool) → is param_line l ≡ t → is_header (due_after (pick t (Within p f c) Broken) ls) ≡ true
        → (is_header (due_after (Within p f c) ls) ≡ true → BodyLines p f c (before is_head ls)) → BodyLines (suc p) f c (before is_head (l ∷ ls))
    go true e k ih =
        let q : letter l ≡ 80 = eqb-true (letter l) 80 e in
        rw (before_after is_head (l ∷ []) ls (rw q, tt)) (body_param p f c l (before is_head ls) q (ih k))
    go false e k ih = false_true (sym (unbroken Broken ls k))
body_lines zero (suc f) c (l ∷ ls) h = go (is field_line l) refl h (body_lines zero f c ls)
  where
    go : (t : Bool) → is field_line l ≡ t → is_header (due_after (pick t (Within zero f c) Broken) ls) ≡ true
        → (is_header (due_after (Within zero f c) ls) ≡ true → BodyLines zero f c (before is_head ls)) → BodyLines zero (suc f) c (before is_head (l ∷ ls))
    go true e k ih =
        let q : letter l ≡ 70 = eqb-true (letter l) 70 e in
        rw (before_after is_head (l ∷ []) ls (rw q, tt)) (body_field zero f c l (before is_head ls) q (ih k))
    go false e k ih = false_true (sym (unbroken Broken ls k))
body_lines zero zero (suc c) (l ∷ ls) h = go (is ctor_line l) refl h (body_lines zero (number l 1) c ls)
  where
    go : (t : Bool) → is ctor_line l ≡ t → is_header (due_after (pick t (Within zero (number l 1) c) Broken) ls) ≡ true
        → (is_header (due_after (Within zero (number l 1) c) ls) ≡ true → BodyLines zero (number l 1) c (before is_head ls))
        → BodyLines zero zero (suc c) (before is_head (l ∷ ls))
    go true e k ih =
        let q : letter l ≡ 67 = eqb-true (letter l) 67 e in
        rw (before_after is_head (l ∷ []) ls (rw q, tt)) (body_ctor zero c l (before is_head ls) q (ih k))
    go false e k ih = false_true (sym (unbroken Broken ls k))
body_lines zero zero zero (l ∷ ls) h = go (is verdict_line l) refl h
  where
    go : (t : Bool) → is verdict_line l ≡ t → is_header (due_after (pick t (Header 3) Broken) ls) ≡ true → BodyLines zero zero zero (before is_head (l ∷ ls))
    go true e k =
        let q : letter l ≡ 86 = eqb-true (letter l) 86 e in
        rw (before_after is_head (l ∷ []) ls (rw q, tt), before_header is_head [] ls tt (header_starts 3 ls (omega arith) k)) (body_verdict l q)
    go false e k = false_true (sym (unbroken Broken ls k))

-- no C line: all are before the first
no_ctors : (ls : List Line) → count_of ctor_line ls ≡ 0 → before (is ctor_line) ls ≡ ls
no_ctors ls h = before_none (is ctor_line) ls (none_select ctor_line ls (length_nil (select ctor_line ls) h))

-- what a D or I line announces is what follows it
whole_head : (l : Line) (ls : List Line) → is_header (due_after (announced (number l 2) (number l 3) (number l 4)) ls) ≡ true
    → Whole (record { head = l; rest = before is_head ls })
unfolding announced
whole_head l ls h = go (leb (number l 2) 1) (eqb (number l 2) 2) (eqb (number l 2) 3) refl refl refl h
  where
    r : List Line
    r = before is_head ls

    go : (a b c : Bool) → leb (number l 2) 1 ≡ a → eqb (number l 2) 2 ≡ b → eqb (number l 2) 3 ≡ c
        → is_header (due_after (a ⇒ Within (number l 3) 0 0 ∥ b ⇒ Within (number l 3) (number l 4) 0 ∥ c ⇒ Within (number l 3) 0 (number l 4) ∥ Broken) ls) ≡ true
        → Whole (record { head = l; rest = r })
    go true b c x y z k =
        let w = body_lines (number l 3) 0 0 ls k in
        let j = leb-true (number l 2) 1 x in
        record {
          body = w.body;
          last = w.last;
          ends = w.ends;
          before_last = w.before_last;
          is_last = w.is_last;
          kinds = omega arith;
          params = w.params;
          bare = λ _. (rw (no_ctors r w.ctors) at w.fields, w.ctors);
          fields = λ q. absurd (omega arith);
          ctors = λ q. absurd (omega arith);
          ctors_first = λ q. absurd (omega arith);
          counted = λ q. absurd (omega arith);
        }
    go false true c x y z k =
        let w = body_lines (number l 3) (number l 4) 0 ls k in
        let j = leb-false (number l 2) 1 x in
        let m = eqb-true (number l 2) 2 y in
        record {
          body = w.body;
          last = w.last;
          ends = w.ends;
          before_last = w.before_last;
          is_last = w.is_last;
          kinds = omega arith;
          params = w.params;
          bare = λ q. absurd (omega arith);
          fields = λ _. (rw (no_ctors r w.ctors) at w.fields, w.ctors);
          ctors = λ q. absurd (omega arith);
          ctors_first = λ q. absurd (omega arith);
          counted = λ q. absurd (omega arith);
        }
    go false false true x y z k =
        let w = body_lines (number l 3) 0 (number l 4) ls k in
        let j = leb-false (number l 2) 1 x in
        let m = eqb-true (number l 2) 3 z in
        record {
          body = w.body;
          last = w.last;
          ends = w.ends;
          before_last = w.before_last;
          is_last = w.is_last;
          kinds = omega arith;
          params = w.params;
          bare = λ q. absurd (omega arith);
          fields = λ q. absurd (omega arith);
          ctors = λ _. w.ctors;
          ctors_first = λ _. length_nil (select field_line (before (is ctor_line) r)) w.fields;
          counted = λ _. w.counted;
        }
    go false false false x y z k = false_true (sym (unbroken Broken ls k))

whole_after : (q : Due) (ls : List Line) → is_header (due_after q ls) ≡ true → AllWhole (groups is_head ls)
unfolding due_after groups
whole_after q [] h = tt
whole_after q (l ∷ ls) h = go (is_head l) refl (whole_after (due q l) ls h)
  where
    start : (p : Due) → is_head l ≡ true → is_header (due_after (due p l) ls) ≡ true → Whole (record { head = l; rest = before is_head ls })
    start (Header place) e k = whole_head l ls (rw (head_due place l e) at k)
    start (Within p f c) e k = false_true (rw (head_within p f c l e, broken_after ls) at k)
    start Broken e k = false_true (head_after Broken l ls e k)

    go : (t : Bool) → is_head l ≡ t → AllWhole (groups is_head ls) → AllWhole (pick t (record { head = l; rest = before is_head ls } ∷ groups is_head ls) (groups is_head ls))
    go true e k = (start q e h, k)
    go false e k = k

-- Every declaration of lines that pass row 3 is as its counts say.
pub ends_whole : (ls : List Line) → Ends ls → AllWhole (groups is_head ls)
ends_whole ls h = whole_after (Header 0) ls h

-- ---- rows 3 to 6 of lines seen alike
due_broken : (k l : Line) → due Broken k ≡ due Broken l
unfolding due
due_broken k l = refl

-- an F line, and a V line, are taken by their letter alone
due_field : (q : Due) (k l : Line) → letter k ≡ 70 → letter l ≡ 70 → due q k ≡ due q l
unfolding due due_header
due_field (Header place) k l e h = rw (e, h)
due_field (Within (suc p) f c) k l e h = rw (e, h)
due_field (Within zero (suc f) c) k l e h = rw (e, h)
due_field (Within zero zero (suc c)) k l e h = rw (e, h)
due_field (Within zero zero zero) k l e h = rw (e, h)
due_field Broken k l e h = refl

-- and a C line by its count of fields besides
due_ctor : (q : Due) (k l : Line) → letter k ≡ 67 → letter l ≡ 67 → number k 1 ≡ number l 1 → due q k ≡ due q l
unfolding due due_header
due_ctor (Header place) k l e h n = rw (e, h)
due_ctor (Within (suc p) f c) k l e h n = rw (e, h)
due_ctor (Within zero (suc f) c) k l e h n = rw (e, h)
due_ctor (Within zero zero (suc c)) k l e h n = rw (e, h, n)
due_ctor (Within zero zero zero) k l e h n = rw (e, h)
due_ctor Broken k l e h n = refl

due_verdict : (q : Due) (k l : Line) → letter k ≡ 86 → letter l ≡ 86 → due q k ≡ due q l
unfolding due due_header
due_verdict (Header place) k l e h = rw (e, h)
due_verdict (Within (suc p) f c) k l e h = rw (e, h)
due_verdict (Within zero (suc f) c) k l e h = rw (e, h)
due_verdict (Within zero zero (suc c)) k l e h = rw (e, h)
due_verdict (Within zero zero zero) k l e h = rw (e, h)
due_verdict Broken k l e h = refl

due_plain : (q : Due) (l : Line) → due q (plain l) ≡ due q l
due_plain q l = go (kind l) q
  where
    go : Kind l → (q : Due) → due q (plain l) ≡ due q l
    go (a_head h e) (Header place) = rw e (head_due place (row import_line (five l)) refl ∙ sym (head_due place l h))
    go (a_head h e) (Within p f c) = rw e (head_within p f c (row import_line (five l)) refl ∙ sym (head_within p f c l h))
    go (a_head h e) Broken = due_broken (plain l) l
    go (a_ctor h e) q = rw e (due_ctor q (row ctor_line (number l 0 ∷ number l 1 ∷ 0 ∷ number l 3 ∷ number l 4 ∷ [])) l refl h refl)
    go (a_field h e) q = rw e (due_field q (row field_line (number l 0 ∷ number l 1 ∷ 0 ∷ number l 3 ∷ number l 4 ∷ [])) l refl h)
    go (a_verdict h e) q = rw e (due_verdict q (row verdict_line (0 ∷ 0 ∷ 0 ∷ number l 3 ∷ number l 4 ∷ [])) l refl h)
    go (another h t f v e) q = rw e

due_after_plain : (q : Due) (ls : List Line) → due_after q (map plain ls) ≡ due_after q ls
unfolding due_after
due_after_plain q [] = refl
due_after_plain q (l ∷ ls) = ap (λ (d : Due). due_after d (map plain ls)) (due_plain q l) ∙ due_after_plain (due q l) ls

pub row3_plain : (ls : List Line) (i : ℕ) → row3 (map plain ls) i ≡ row3 ls i
row3_plain ls i =
    row3_same (map plain ls) ls i (length-map ls plain)
    (ap (due_after (Header 0)) (take_map plain (suc i) ls) ∙ due_after_plain (Header 0) (take (suc i) ls))
    (due_after_plain (Header 0) ls)

line_plain : (ls : List Line) (i : ℕ) → nth_line (map plain ls) i ≡ plain (nth_line ls i)
unfolding plain
line_plain ls i = ListN.get_or-map plain ls i bad

count_plain : (x : ℕ) → eqb 68 x ≡ false → eqb 73 x ≡ false → (ls : List Line) → count_of x (map plain ls) ≡ count_of x ls
count_plain x p q ls = ap length (select_map plain x (plain_is x p q) ls) ∙ length-map (select x ls) plain

heads_plain : (ls : List Line) → heads (map plain ls) ≡ heads ls
heads_plain ls =
    sym (length_groups (map plain ls))
    ∙ ap length (groups_map plain is_head plain_head ls)
    ∙ length-map (groups is_head ls) (map_group plain)
    ∙ length_groups ls

params_plain : (n : ℕ) (ls : List Line) → params_after n (map plain ls) ≡ params_after n ls
unfolding params_after
params_plain n [] = refl
params_plain n (l ∷ ls) =
    ap₂ (λ (a b : Bool). params_after (pick a 0 (pick b (suc n) n)) (map plain ls)) (plain_head l) (plain_is param_line refl refl l)
    ∙ params_plain (pick (is_head l) 0 (pick (is param_line l) (suc n) n)) ls

-- the counts of the lines before line i
count_before_plain : (x : ℕ) → eqb 68 x ≡ false → eqb 73 x ≡ false → (ls : List Line) (i : ℕ) → count_before x (map plain ls) i ≡ count_before x ls i
count_before_plain x p q ls i = rw (take_map plain i ls) (count_plain x p q (take i ls))

heads_before_plain : (ls : List Line) (i : ℕ) → heads_before (map plain ls) i ≡ heads_before ls i
heads_before_plain ls i = rw (take_map plain i ls) (heads_plain (take i ls))

pub row4_plain : (f : Format) (ls : List Line) (i : ℕ) → row4 f (map plain ls) i ≡ row4 f ls i
unfolding row4
row4_plain f ls i =
    rw (
      line_plain ls i,
      plain_is name_line refl refl (nth_line ls i),
      plain_is arg_line refl refl (nth_line ls i),
      plain_is type_line refl refl (nth_line ls i),
      plain_head (nth_line ls i),
      plain_is param_line refl refl (nth_line ls i),
      plain_is ctor_line refl refl (nth_line ls i),
      plain_is field_line refl refl (nth_line ls i),
      count_before_plain name_line refl refl ls i,
      count_before_plain arg_line refl refl ls i,
      count_before_plain type_line refl refl ls i,
      heads_before_plain ls i,
      take_map plain i ls,
      params_plain 0 (take i ls),
      count_plain ctor_line refl refl (take i ls),
      count_plain field_line refl refl (take i ls),
    )

-- row 5, letter by letter
zeros_third : (x : ℕ) (l : Line) → zeros_from 3 (row x (number l 0 ∷ number l 1 ∷ 0 ∷ number l 3 ∷ number l 4 ∷ [])) ≡ zeros_from 3 l
unfolding zeros_from first
zeros_third x l = refl

zeros_verdict : (l : Line) → zeros_from 3 (row verdict_line (0 ∷ 0 ∷ 0 ∷ number l 3 ∷ number l 4 ∷ [])) ≡ zeros_from 3 l
unfolding zeros_from first
zeros_verdict l = refl

good_head_plain : (names types : ℕ) (l : Line) → good_head names types (row import_line (five l)) ≡ good_head names types l
unfolding good_head
good_head_plain names types l = refl

-- line l as it should be, by the counts of the sheet
good_line : ℕ → ℕ → List ℕ → ℕ → ℕ → Line → Bool
good_line names types xs n y l =
    is name_line l ⇒ eqb (number l 0) n ∥
    is arg_line l ⇒ ltb (number l 0) types && zeros_from 1 l ∥
    is type_line l ⇒ good_type names xs y l ∥
    is_head l ⇒ good_head names types l ∥
    is param_line l ⇒ ltb (number l 0) names && zeros_from 1 l ∥
    is ctor_line l ⇒ ltb (number l 0) names && zeros_from 3 l ∥
    is field_line l ⇒ ltb (number l 0) names && ltb (number l 1) types && zeros_from 3 l ∥
    zeros_from 3 l

good_numbers_line : (ls : List Line) (i : ℕ)
    → good_numbers ls i
    ≡ good_line (count_of name_line ls) (count_of type_line ls) (map (λ a. number a 0) (select arg_line ls)) (count_before name_line ls i) (count_before type_line ls i) (nth_line ls i)
unfolding good_numbers good_line
good_numbers_line ls i = refl

good_line_plain : (names types : ℕ) (xs : List ℕ) (n y : ℕ) (l : Line) → good_line names types xs n y (plain l) ≡ good_line names types xs n y l
unfolding good_line
good_line_plain names types xs n y l = go (kind l)
  where
    go : Kind l → good_line names types xs n y (plain l) ≡ good_line names types xs n y l
    go (a_head h e) = rw e (good_head_plain names types l ∙ ⊎_elim (λ k. rw k) (λ k. rw k) (head_cases l h))
    go (a_ctor h e) = rw (e, h, zeros_third ctor_line l)
    go (a_field h e) = rw (e, h, zeros_third field_line l)
    go (a_verdict h e) = rw (e, h, zeros_verdict l)
    go (another h t f v e) = rw e

pub row5_plain : (ls : List Line) (i : ℕ) → row5 (map plain ls) i ≡ row5 ls i
unfolding row5
row5_plain ls i =
    rw (
      good_numbers_line (map plain ls) i,
      good_numbers_line ls i,
      line_plain ls i,
      select_plain name_line refl refl refl refl refl ls,
      select_plain arg_line refl refl refl refl refl ls,
      select_plain type_line refl refl refl refl refl ls,
      take_map plain i ls,
      select_plain name_line refl refl refl refl refl (take i ls),
      select_plain type_line refl refl refl refl refl (take i ls),
    )
    (ap not (good_line_plain (count_of name_line ls) (count_of type_line ls) (map (λ a. number a 0) (select arg_line ls)) (count_before name_line ls i) (count_before type_line ls i) (nth_line ls i)))

-- row 6: what it compares of two lines
text_row : (l : Line) → is name_line l ≡ false → text l ≡ []
text_row (named n t) e = false_true (sym e)
text_row (row x ns) e = refl
text_row bad e = refl

text_plain : (l : Line) → text (plain l) ≡ text l
text_plain l = go (kind l)
  where
    go : Kind l → text (plain l) ≡ text l
    go (a_head h e) = rw e (sym (text_row l (⊎_elim (λ k. rw k) (λ k. rw k) (head_cases l h))))
    go (a_ctor h e) = rw e (sym (text_row l (rw h)))
    go (a_field h e) = rw e (sym (text_row l (rw h)))
    go (a_verdict h e) = rw e (sym (text_row l (rw h)))
    go (another h t f v e) = rw e

is_ctor_plain : (l : Line) → is_ctor (plain l) ≡ is_ctor l
is_ctor_plain l = go (kind l)
  where
    go : Kind l → is_ctor (plain l) ≡ is_ctor l
    go (a_head h e) = rw e (⊎_elim (λ k. rw k) (λ k. rw k) (head_cases l h))
    go (a_ctor h e) = rw (e, h)
    go (a_field h e) = rw (e, h)
    go (a_verdict h e) = rw (e, h)
    go (another h t f v e) = rw e

first_number_plain : (l : Line) → is verdict_line l ≡ false → number (plain l) 0 ≡ number l 0
first_number_plain l n = go (kind l)
  where
    go : Kind l → number (plain l) 0 ≡ number l 0
    go (a_head h e) = rw e
    go (a_ctor h e) = rw e
    go (a_field h e) = rw e
    go (a_verdict h e) = contrary (is verdict_line l) (rw h) n
    go (another h t f v e) = rw e

-- lines k and l are of one kind that may not repeat a number; d and c: of one declaration, of one constructor
alike : Bool → Bool → Line → Line → Bool
alike d c k l =
    (is_head k && is_head l)
    || (is param_line k && is param_line l && d)
    || (is field_line k && is field_line l && c)
    || (is_ctor k && is_ctor l)

repeats_by : (ls : List Line) (i j : ℕ)
    → repeats ls i j
    ≡ ((is name_line (nth_line ls j) && is name_line (nth_line ls i) && equal (text (nth_line ls j)) (text (nth_line ls i)))
    || (eqb (number (nth_line ls j) 0) (number (nth_line ls i) 0) && alike (same_decl ls j i) (same_ctor ls j i) (nth_line ls j) (nth_line ls i)))
unfolding repeats alike
repeats_by ls i j = refl

alike_plain : (d c : Bool) (k l : Line) → alike d c (plain k) (plain l) ≡ alike d c k l
unfolding alike
alike_plain d c k l =
    rw (
      is_ctor_plain k,
      is_ctor_plain l,
      plain_head k,
      plain_head l,
      plain_is param_line refl refl k,
      plain_is param_line refl refl l,
      plain_is field_line refl refl k,
      plain_is field_line refl refl l,
    )

alike_left : (d c : Bool) (k l : Line) → is verdict_line k ≡ true → alike d c k l ≡ false
unfolding alike
alike_left d c k l e = rw (eqb-true (letter k) 86 e)

alike_right : (d c : Bool) (k l : Line) → is verdict_line l ≡ true → alike d c k l ≡ false
unfolding alike
alike_right d c k l e = rw (eqb-true (letter l) 86 e, and-false (is_head k), and-false (is param_line k), and-false (is field_line k), and-false (is_ctor k))

-- the first numbers of two lines that may not repeat one
numbers_alike : (d c : Bool) (k l : Line)
    → (eqb (number (plain k) 0) (number (plain l) 0) && alike d c k l) ≡ (eqb (number k 0) (number l 0) && alike d c k l)
numbers_alike d c k l = go (is verdict_line k) (is verdict_line l) refl refl
  where
    go : (a b : Bool) → is verdict_line k ≡ a → is verdict_line l ≡ b
        → (eqb (number (plain k) 0) (number (plain l) 0) && alike d c k l) ≡ (eqb (number k 0) (number l 0) && alike d c k l)
    go true b p q = rw (alike_left d c k l p, and-false (eqb (number (plain k) 0) (number (plain l) 0)), and-false (eqb (number k 0) (number l 0)))
    go false true p q = rw (alike_right d c k l q, and-false (eqb (number (plain k) 0) (number (plain l) 0)), and-false (eqb (number k 0) (number l 0)))
    go false false p q = rw (first_number_plain k p, first_number_plain l q)

repeats_plain : (ls : List Line) (i j : ℕ) → repeats (map plain ls) i j ≡ repeats ls i j
repeats_plain ls i j =
    rw (
      repeats_by (map plain ls) i j,
      repeats_by ls i j,
      line_plain ls i,
      line_plain ls j,
      plain_is name_line refl refl (nth_line ls i),
      plain_is name_line refl refl (nth_line ls j),
      text_plain (nth_line ls i),
      text_plain (nth_line ls j),
      heads_before_plain ls i,
      heads_before_plain ls j,
      count_before_plain ctor_line refl refl ls i,
      count_before_plain ctor_line refl refl ls j,
      alike_plain (same_decl ls j i) (same_ctor ls j i) (nth_line ls j) (nth_line ls i),
      numbers_alike (same_decl ls j i) (same_ctor ls j i) (nth_line ls j) (nth_line ls i),
    )

pub row6_plain : (ls : List Line) (i : ℕ) → row6 (map plain ls) i ≡ row6 ls i
unfolding row6
row6_plain ls i = rw (first_congr (repeats (map plain ls) i) (repeats ls i) i (λ j k. repeats_plain ls i j))

zeros_ended : (l : Line) → zeros_from 3 l ≡ true → (number l 3 ≡ 0) × (number l 4 ≡ 0)
unfolding zeros_from
zeros_ended l e =
    let p : ℕ → Bool = λ i. leb 3 i && not (eqb (number l i) 0) in
    let f : first p 5 ≡ 5 = omega (arith, first_le p 5, ltb-false (first p 5) 5 (not-true (ltb (first p 5) 5) e)) in (
      eqb-true (number l 3) 0 (not-false (eqb (number l 3) 0) (none_first p 5 f 3 (omega arith))),
      eqb-true (number l 4) 0 (not-false (eqb (number l 4) 0) (none_first p 5 f 4 (omega arith))),
    )

-- ---- rows 3 to 6 of a prefix's verdict sheet
module _ (ls qs : List Line) (tis : List TypeInfo) (n : length tis ≡ length (groups is_head ls)) (h : AllEnded ls) where
  plain_cut : map plain (verdict_lines ls tis ++ qs) ≡ map plain (ls ++ qs)
  plain_cut =
      map-append plain (verdict_lines ls tis) qs
      ∙ ap (λ (r : List Line). r ++ map plain qs) (plain_verdict_lines ls tis n h)
      ∙ sym (map-append plain ls qs)

  pub row3_verdict : (i : ℕ) → row3 (verdict_lines ls tis ++ qs) i ≡ row3 (ls ++ qs) i
  row3_verdict i = sym (row3_plain (verdict_lines ls tis ++ qs) i) ∙ ap (λ (r : List Line). row3 r i) plain_cut ∙ row3_plain (ls ++ qs) i

  pub row4_verdict : (f : Format) (i : ℕ) → row4 f (verdict_lines ls tis ++ qs) i ≡ row4 f (ls ++ qs) i
  row4_verdict f i = sym (row4_plain f (verdict_lines ls tis ++ qs) i) ∙ ap (λ (r : List Line). row4 f r i) plain_cut ∙ row4_plain f (ls ++ qs) i

  pub row5_verdict : (i : ℕ) → row5 (verdict_lines ls tis ++ qs) i ≡ row5 (ls ++ qs) i
  row5_verdict i = sym (row5_plain (verdict_lines ls tis ++ qs) i) ∙ ap (λ (r : List Line). row5 r i) plain_cut ∙ row5_plain (ls ++ qs) i

  pub row6_verdict : (i : ℕ) → row6 (verdict_lines ls tis ++ qs) i ≡ row6 (ls ++ qs) i
  row6_verdict i = sym (row6_plain (verdict_lines ls tis ++ qs) i) ∙ ap (λ (r : List Line). row6 r i) plain_cut ∙ row6_plain (ls ++ qs) i

-- row 5 gives the zeros at the end of C, F and V lines
ended_line : (names types : ℕ) (xs : List ℕ) (n y : ℕ) (l : Line) → good_line names types xs n y l ≡ true → Ended l
unfolding good_line
ended_line names types xs n y l e q = zeros_ended l (go (is ctor_line l) (is field_line l) refl refl q)
  where
    go : (b c : Bool) → is ctor_line l ≡ b → is field_line l ≡ c → (b || c || is verdict_line l) ≡ true → zeros_from 3 l ≡ true
    go true c j k t = (both (ltb (number l 0) names) (zeros_from 3 l) (rw (eqb-true (letter l) 67 j) at e)).1
    go false true j k t = (both (ltb (number l 0) names && ltb (number l 1) types) (zeros_from 3 l) (rw (eqb-true (letter l) 70 k) at e)).1
    go false false j k t = rw (eqb-true (letter l) 86 t) at e

pub ended_row5 : (ls : List Line) → ((i : ℕ) → i < length ls → row5 ls i ≡ false) → AllEnded ls
unfolding row5
ended_row5 ls h =
    at_every Ended bad ls (λ i k. ended_line (count_of name_line ls) (count_of type_line ls) (map (λ a. number a 0) (select arg_line ls)) (count_before name_line ls i) (count_before type_line ls i) (nth_line ls i)
    (sym (good_numbers_line ls i) ∙ not-false (good_numbers ls i) (h i k)))

-- ---- row 7, line by line
-- Line l as row 7 has it, in the declaration that line h begins: with n kept fields before it, and of a C line with k before it.
good_at : Line → ℕ → Line → Bool
good_at h n l =
    is field_line l ⇒ leb (number l 2) (pick (is import_line h) 1 0) ∥
    is verdict_line l && is import_line h ⇒ good_verdict h n l ∥
    is verdict_line l ⇒ eqb (number l 0) 0 && eqb (number l 1) 0 && eqb (number l 2) 0 ∥
    true

tag_good : Line → ℕ → Line → Bool
tag_good h k l = is ctor_line l ⇒ eqb (number l 2) (tag_in h k) ∥ true

abbrev next_head : Line → Line → Line
next_head h l = pick (is_head l) l h

abbrev more : ℕ → Line → ℕ
more n l = pick (is field_line l && not (eqb (number l 2) 0)) (suc n) n

abbrev next_kept : ℕ → Line → ℕ
next_kept n l = pick (is_head l) 0 (more n l)

abbrev next_ctors : ℕ → Line → ℕ
next_ctors n l = pick (is_head l) 0 (pick (is ctor_line l) (suc n) n)

-- a number that is kept from line to line
follow : (ℕ → Line → ℕ) → ℕ → List Line → ℕ
follow next n [] = n
follow next n (l ∷ ls) = follow next (next n l) ls

kept_follow : (n : ℕ) (ls : List Line) → kept_after n ls ≡ follow next_kept n ls
unfolding kept_after follow
kept_follow n [] = refl
kept_follow n (l ∷ ls) = kept_follow (next_kept n l) ls

ctors_follow : (n : ℕ) (ls : List Line) → ctors_after n ls ≡ follow next_ctors n ls
unfolding ctors_after follow
ctors_follow n [] = refl
ctors_follow n (l ∷ ls) = ctors_follow (next_ctors n l) ls

good_verdicts_at : (ls : List Line) (i : ℕ)
    → good_verdicts ls i
    ≡ (tag_good (head_of ls i) (follow next_ctors 0 (take i ls)) (nth_line ls i) && good_at (head_of ls i) (follow next_kept 0 (take i ls)) (nth_line ls i))
unfolding good_verdicts good_at tag_good
good_verdicts_at ls i = rw (kept_follow 0 (take i ls), ctors_follow 0 (take i ls)) (go (is ctor_line (nth_line ls i)) refl (eqb (number (nth_line ls i) 2) (tag_in (head_of ls i) (follow next_ctors 0 (take i ls)))))
  where
    go : (c : Bool) → is ctor_line (nth_line ls i) ≡ c → (x : Bool)
        → (c ⇒ x ∥ good_at (head_of ls i) (follow next_kept 0 (take i ls)) (nth_line ls i)) ≡ ((c ⇒ x ∥ true) && good_at (head_of ls i) (follow next_kept 0 (take i ls)) (nth_line ls i))
    go true e true = rw (eqb-true (letter (nth_line ls i)) 67 e)
    go true e false = refl
    go false e x = refl

-- A test of all lines, each by the first line of its declaration and by such a number, from such a state on.
module _ (test : Line → ℕ → Line → Bool) (next : ℕ → Line → ℕ) where
  abbrev Along : Line → ℕ → List Line → Type 0
  Along h n [] = Unit {0}
  Along h n (l ∷ ls) = (test (next_head h l) n l ≡ true) × Along (next_head h l) (next n l) ls

  along_at : (h : Line) (n : ℕ) (ls : List Line) → Along h n ls → (i : ℕ) → i < length ls → test (last_head h (take (suc i) ls)) (follow next n (take i ls)) (nth_line ls i) ≡ true
  unfolding last_head follow
  along_at h n [] g i k = absurd (omega arith)
  along_at h n (l ∷ ls) g zero k = g.0
  along_at h n (l ∷ ls) g (suc i) k = along_at (next_head h l) (next n l) ls g.1 i (omega arith)

  at_along : (h : Line) (n : ℕ) (ls : List Line)
      → ((i : ℕ) → i < length ls → test (last_head h (take (suc i) ls)) (follow next n (take i ls)) (nth_line ls i) ≡ true) → Along h n ls
  unfolding last_head follow
  at_along h n [] g = tt
  at_along h n (l ∷ ls) g = (g 0 (omega arith), at_along (next_head h l) (next n l) ls (λ i k. g (suc i) (omega arith)))

  along_left : (h : Line) (n : ℕ) (a b : List Line) → Along h n (a ++ b) → Along h n a
  along_left h n [] b g = tt
  along_left h n (l ∷ a) b g = (g.0, along_left (next_head h l) (next n l) a b g.1)

  along_right : (h : Line) (n : ℕ) (a b : List Line) → Along h n (a ++ b) → Along (last_head h a) (follow next n a) b
  unfolding last_head follow
  along_right h n [] b g = g
  along_right h n (l ∷ a) b g = along_right (next_head h l) (next n l) a b g.1

  along_append : (h : Line) (n : ℕ) (a b : List Line) → Along h n a → Along (last_head h a) (follow next n a) b → Along h n (a ++ b)
  unfolding last_head follow
  along_append h n [] b g k = k
  along_append h n (l ∷ a) b g k = (g.0, along_append (next_head h l) (next n l) a b g.1 k)

-- keeps and verdicts, and tags
abbrev Goods : Line → ℕ → List Line → Type 0
Goods = Along good_at next_kept

abbrev Tagged : Line → ℕ → List Line → Type 0
Tagged = Along tag_good next_ctors

row7_goods : (ls : List Line) → ((i : ℕ) → i < length ls → row7 ls i ≡ false) → Tagged bad 0 ls × Goods bad 0 ls
unfolding row7
row7_goods ls h = (at_along tag_good next_ctors bad 0 ls (λ i k. (tests i k).0), at_along good_at next_kept bad 0 ls (λ i k. (tests i k).1))
  where
    tests : (i : ℕ) → i < length ls → (tag_good (head_of ls i) (follow next_ctors 0 (take i ls)) (nth_line ls i) ≡ true) × (good_at (head_of ls i) (follow next_kept 0 (take i ls)) (nth_line ls i) ≡ true)
    tests i k = both (tag_good (head_of ls i) (follow next_ctors 0 (take i ls)) (nth_line ls i)) (good_at (head_of ls i) (follow next_kept 0 (take i ls)) (nth_line ls i)) (sym (good_verdicts_at ls i) ∙ not-false (good_verdicts ls i) (h i k))

goods_row7 : (ls : List Line) → Tagged bad 0 ls → Goods bad 0 ls → (i : ℕ) → i < length ls → row7 ls i ≡ false
unfolding row7
goods_row7 ls t g i k = ap not (good_verdicts_at ls i ∙ ap₂ ◌&&◌ (along_at tag_good next_ctors bad 0 ls t i k) (along_at good_at next_kept bad 0 ls g i k))

good_at_bad : (h k : Line) (m n : ℕ) → good_at h m bad ≡ good_at k n bad
unfolding good_at
good_at_bad h k m n = refl

tag_good_bad : (h k : Line) (m n : ℕ) → tag_good h m bad ≡ tag_good k n bad
unfolding tag_good
tag_good_bad h k m n = refl

-- a line that begins a declaration
good_at_head : (h : Line) (n : ℕ) (l : Line) → is_head l ≡ true → good_at h n l ≡ true
unfolding good_at
good_at_head h n l e = ⊎_elim (λ k. rw k) (λ k. rw k) (head_cases l e)

tag_good_head : (h : Line) (n : ℕ) (l : Line) → is_head l ≡ true → tag_good h n l ≡ true
unfolding tag_good
tag_good_head h n l e = ⊎_elim (λ k. rw k) (λ k. rw k) (head_cases l e)

-- ---- the lines that a verdict fills
good_kept : (k : Line) (n : ℕ) (b : Bool) (l : Line) → is import_line k ≡ true → good_at k n (kept_line b l) ≡ true
unfolding good_at
good_kept k n true l q = rw q
good_kept k n false l q = rw q

-- what a D line allows, an I line allows
good_widen : (h k : Line) (m n : ℕ) (l : Line) → is import_line h ≡ false → is import_line k ≡ true → is verdict_line l ≡ false → good_at h m l ≡ true → good_at k n l ≡ true
unfolding good_at
good_widen h k m n l p q v g = rw (q, v) (go (is field_line l) (rw (p, v) at g))
  where
    go : (c : Bool) → pick c (leb (number l 2) 0) true ≡ true → pick c (leb (number l 2) 1) true ≡ true
    go true e = le-leb (number l 2) 1 (omega (arith, leb-true (number l 2) 0 e))
    go false e = refl

-- F lines with their keeps, after an I line
goods_filling : (h k : Line) (m n : ℕ) {bs : List Bool} {ls r : List Line} → is import_line h ≡ false → is import_line k ≡ true
    → Filling Bool field_line bit bs ls r → None is_head ls → None (is verdict_line) ls → Goods h m ls → Goods k n r
goods_filling h k m n p q done a b g = tt
goods_filling h k m n p q (keep {b = c} {l = l} e f) a b g =
    (good_kept k n c l q, goods_filling h k (more m l) (more n (kept_line c l)) p q f a.1 b.1 (rw a.0 at g.1))
goods_filling h k m n p q (pass {l = l} e f) a b g =
    rw a.0 (good_widen h k m n l p q b.0 (rw a.0 at g.0), goods_filling h k (more m l) (more n l) p q f a.1 b.1 (rw a.0 at g.1))
goods_filling h k m n p q (past {l = l} f) a b g =
    rw a.0 (good_widen h k m n l p q b.0 (rw a.0 at g.0), goods_filling h k (more m l) (more n l) p q f a.1 b.1 (rw a.0 at g.1))

-- the kept fields, counted
kept_filling : (n : ℕ) {bs : List Bool} {ls r : List Line} → Filling Bool field_line bit bs ls r → None is_head ls → length bs ≡ count_of field_line ls → kept_after n r ≡ n + trues bs
unfolding kept_after trues
kept_filling n {bs = []} done a c = omega arith
kept_filling n {bs = b ∷ bs} done a c = absurd (omega (arith, ap length (select_none field_line [] tt)))
kept_filling n (keep {b = true} {bs = bs} {l = l} {ls = ls} e f) a c =
    omega (arith, kept_filling (suc n) f a.1 (omega (arith, ap length (select_yes field_line l ls e))))
kept_filling n (keep {b = false} {bs = bs} {l = l} {ls = ls} e f) a c =
    omega (arith, kept_filling n f a.1 (omega (arith, ap length (select_yes field_line l ls e))))
kept_filling n (pass {l = l} {ls = ls} e f) a c = rw (a.0, e) (kept_filling n f a.1 (c ∙ ap length (select_no field_line l ls e)))
kept_filling n (past {l = l} {ls = ls} {r = r} f) a c = go (is field_line l) refl (λ k. kept_filling n f a.1 k)
  where
    go : (t : Bool) → is field_line l ≡ t → (0 ≡ count_of field_line ls → kept_after n r ≡ n + 0) → kept_after n (l ∷ r) ≡ n + 0
    go true e ih = absurd (omega (arith, ap length (select_yes field_line l ls e)))
    go false e ih = rw (a.0, e) (ih (c ∙ ap length (select_no field_line l ls e)))

tell_none : (ti : TypeInfo) (ls : List Line) → None (is verdict_line) ls → map (tell ti) ls ≡ ls
tell_none ti [] n = refl
tell_none ti (l ∷ ls) n = rw n.0 (ap (λ (r : List Line). l ∷ r) (tell_none ti ls n.1))

tell_verdict : (ti : TypeInfo) (l : Line) → is verdict_line l ≡ true → tell ti l ≡ told_line ti
tell_verdict ti l e = rw e

-- the lines that a verdict fills: those before the V line with their keeps, and the V line
fill_told_ends : (ti : TypeInfo) (body : List Line) (v : Line) → None (is verdict_line) body → is verdict_line v ≡ true
    → fill_told ti (body ++ (v ∷ [])) ≡ fill_keeps (all_slots ti.ti_ctors) body ++ (told_line ti ∷ [])
fill_told_ends ti body v n e =
    let bs : List Bool = all_slots ti.ti_ctors in
    let xs : List Line = fill_keeps bs body in
    ap (fill_verdict ti) (fill_third_last field_line (map bit bs) body v (rw (eqb-true (letter v) 86 e)))
    ∙ fill_verdict_map ti (xs ++ (v ∷ []))
    ∙ map-append (tell ti) xs (v ∷ [])
    ∙ ap₂ (λ (a : List Line) (l : Line). a ++ (l ∷ [])) (tell_none ti xs (none_fill field_line bit (is verdict_line) (λ b l. refl) bs body n)) (tell_verdict ti v e)

-- tags change nothing but C lines
goods_tags : (h : Line) (n : ℕ) {cls : List CtorLayout} {ls r : List Line} → Filling CtorLayout ctor_line tag_number_of cls ls r → None is_head ls → Goods h n ls → Goods h n r
unfolding good_at
goods_tags h n done a g = tt
goods_tags h n (keep {l = l} e f) a g = (refl, goods_tags h n f a.1 (rw (eqb-true (letter l) 67 e) at g.1))
goods_tags h n (pass {l = l} e f) a g = rw a.0 (rw a.0 at g.0, goods_tags h (more n l) f a.1 (rw a.0 at g.1))
goods_tags h n (past {l = l} f) a g = rw a.0 (rw a.0 at g.0, goods_tags h (more n l) f a.1 (rw a.0 at g.1))

-- tags by place, after an I line
tagged_filling : (h : Line) (k : ℕ) {cls : List CtorLayout} {ls r : List Line} → Filling CtorLayout ctor_line tag_number_of cls ls r → None is_head ls → length cls ≡ count_of ctor_line ls
    → ((i : ℕ) (d : CtorLayout) → i < length cls → tag_number_of (get_or cls i d) ≡ tag_in h (k + i)) → Tagged h k r
unfolding tag_good
tagged_filling h k done a n t = tt
tagged_filling h k (keep {b = b} {bs = cls} {l = l} {ls = ls} e f) a n t = (
  eq-eqb (tag_number_of b) (tag_in h k) (t 0 b (omega arith) ∙ ap (tag_in h) (omega arith)),
  tagged_filling h (suc k) f a.1 (omega (arith, ap length (select_yes ctor_line l ls e))) (λ i d j. t (suc i) d (omega arith) ∙ ap (tag_in h) (omega arith)),
)
tagged_filling h k (pass {l = l} {ls = ls} e f) a n t = rw (a.0, e) (refl, tagged_filling h k f a.1 (n ∙ ap length (select_no ctor_line l ls e)) t)
tagged_filling h k (past {l = l} {ls = ls} {r = r} f) a n t = go (is ctor_line l) refl (λ j. tagged_filling h k f a.1 j t)
  where
    go : (c : Bool) → is ctor_line l ≡ c → (0 ≡ count_of ctor_line ls → Tagged h k r) → Tagged h k (l ∷ r)
    go true e ih = absurd (omega (arith, ap length (select_yes ctor_line l ls e)))
    go false e ih = rw (a.0, e) (refl, ih (n ∙ ap length (select_no ctor_line l ls e)))

-- lines without C lines
tagged_none : (h : Line) (k : ℕ) (ls : List Line) → None is_head ls → None (is ctor_line) ls → Tagged h k ls
unfolding tag_good
tagged_none h k [] a c = tt
tagged_none h k (l ∷ ls) a c = rw (a.0, c.0) (refl, tagged_none h k ls a.1 c.1)

-- ---- a verdict on its own lines
-- kept fields are as many as true slots
length_kept : (bs : List Bool) (fs : List Field) → length bs ≡ length fs → length (kept bs fs) ≡ trues bs
unfolding kept trues
length_kept [] [] e = refl
length_kept [] (f ∷ fs) e = refl
length_kept (b ∷ bs) [] e = absurd (omega arith)
length_kept (true ∷ bs) (f ∷ fs) e = omega (arith, length_kept bs fs (omega arith))
length_kept (false ∷ bs) (f ∷ fs) e = omega (arith, length_kept bs fs (omega arith))

one_field : (n : ℕ) (bs : List Bool) (fs : List Field) (l : NewtypeLayout) → newtype_of_ctor n bs fs ≡ some l → length fs ≡ 1
unfolding newtype_of_ctor
one_field n bs [] l e = none_some l e
one_field n bs (f ∷ []) l e = refl
one_field n bs (f ∷ g ∷ fs) l e = none_some l e

-- a newtype has one constructor with one kept field
newtype_one : (er : ℕ → Bool) (tag : ℕ → Option ℕ) (cs : List Ctor) (l : NewtypeLayout) → newtype_of (layouts_of_ctors er tag cs) ≡ some l
    → (length cs ≡ 1) × (trues (concat (slots_of er cs)) ≡ 1)
unfolding table newtype_of ctor_layout concat
newtype_one er tag [] l e = none_some l e
newtype_one er tag (c ∷ []) l e = (
  refl,
  ap trues (append-nil (slots er c.ct_fields))
      ∙ sym (length_kept (slots er c.ct_fields) c.ct_fields (length_slot er c.ct_fields))
      ∙ one_field c.ct_name (slots er c.ct_fields) (kept (slots er c.ct_fields) c.ct_fields) l e,
)
newtype_one er tag (c ∷ d ∷ cs) l e = none_some l e

length_concat : (bss : List (List Bool)) (gs : List Group) → AllGrouped (is ctor_line) gs → Counts bss gs → length (concat bss) ≡ count_of field_line (flat gs)
unfolding concat flat
length_concat [] [] k c = sym (ap length (select_none field_line [] tt))
length_concat [] (g ∷ gs) k c = absurd c
length_concat (bs ∷ bss) [] k c = absurd c
length_concat (bs ∷ bss) (g ∷ gs) k c =
    length-append bs (concat bss)
    ∙ ap₂ (λ (m n : ℕ). m + n) c.0 (length_concat bss gs k.1 c.1)
    ∙ sym (length-append (select field_line g.rest) (select field_line (flat gs)))
    ∙ ap length (sym (select_append field_line g.rest (flat gs)) ∙ sym (select_no field_line g.head (g.rest ++ flat gs) (rw (eqb-true (letter g.head) 67 k.0.begins))))

-- as many slots as F lines
slots_counted : (er : ℕ → Bool) (ps : List ℕ) (ts : List Cty) (n k last : ℕ) (ls : List Line)
    → (k ≡ 3 → select field_line (before (is ctor_line) ls) ≡ []) → has_ctors (close_body ps (body_of ts k last ls)) ≡ true
    → length (concat (slots_of er (ctors_of n (close_body ps (body_of ts k last ls))))) ≡ count_of field_line ls
unfolding close_body body_of ctors_of concat
slots_counted er ps ts n k last ls h c = go (eqb k 1) (eqb k 2) (eqb k 3) (λ e. h (eqb-true k 3 e)) c
  where
    body : Bool → Bool → Bool → Body
    body x y z = x ⇒ TAbbrev (get_or ts last TUnit) ∥ y ⇒ TRecord (map (field_of ts) (select field_line ls)) ∥ z ⇒ TVariant (map (ctor_of ts) (groups (is ctor_line) ls)) ∥ TAbstract

    go : (x y z : Bool) → (z ≡ true → select field_line (before (is ctor_line) ls) ≡ []) → has_ctors (close_body ps (body x y z)) ≡ true
        → length (concat (slots_of er (ctors_of n (close_body ps (body x y z))))) ≡ count_of field_line ls
    go true y z p q = false_true q
    go false true z p q = ap length (append-nil (slots er (map (close_field ps) (map (field_of ts) (select field_line ls))))) ∙ length_slots er ps ts ls
    go false false true p q =
        let gs : List Group = groups (is ctor_line) ls in
        let pre : List Line = before (is ctor_line) ls in
        length_concat (slots_of er (map (close_ctor ps) (map (ctor_of ts) gs))) gs (grouped (is ctor_line) ls) (counts_variant er ps ts gs)
        ∙ ap (λ (r : List Line). length (r ++ select field_line (flat gs))) (sym (p refl))
        ∙ ap length (sym (select_append field_line pre (flat gs)) ∙ ap (select field_line) (before_flat (is ctor_line) ls))
    go false false false p q = false_true q

-- one constructor, by the D or I line
one_ctor_line : (ps : List ℕ) (ts : List Cty) (n k last : ℕ) (ls : List Line) → (k ≡ 3 → count_of ctor_line ls ≡ last)
    → length (ctors_of n (close_body ps (body_of ts k last ls))) ≡ 1 → (eqb k 2 || (eqb k 3 && eqb last 1)) ≡ true
unfolding close_body body_of ctors_of
one_ctor_line ps ts n k last ls h c = go (eqb k 1) (eqb k 2) (eqb k 3) (λ e. h (eqb-true k 3 e)) c
  where
    go : (x y z : Bool) → (z ≡ true → count_of ctor_line ls ≡ last)
        → length (ctors_of n (close_body ps (x ⇒ TAbbrev (get_or ts last TUnit) ∥ y ⇒ TRecord (map (field_of ts) (select field_line ls)) ∥ z ⇒ TVariant (map (ctor_of ts) (groups (is ctor_line) ls)) ∥ TAbstract))) ≡ 1
        → (y || (z && eqb last 1)) ≡ true
    go true y z p q = absurd (omega arith)
    go false true z p q = refl
    go false false true p q =
        eq-eqb last 1
        (sym (p refl) ∙ sym (length_groups_of ctor_line ls) ∙ sym (length-map (groups (is ctor_line) ls) (ctor_of ts)) ∙ sym (length-map (map (ctor_of ts) (groups (is ctor_line) ls)) (close_ctor ps)) ∙ q)
    go false false false p q = absurd (omega arith)

bit_le : (b : Bool) → leb (bit b) 1 ≡ true
bit_le true = refl
bit_le false = refl

-- the V line of a coherent verdict passes row 7
good_told : (h : Line) (n : ℕ) (b : Body) (cls : List CtorLayout) (ti : TypeInfo) → body_number b ≡ number h 2 → ti.ti_erased ≡ eqb (layout_number ti.ti_layout) 0
    → Suits b cls ti.ti_layout → ((l : NewtypeLayout) → newtype_of cls ≡ some l → (one_ctor h ≡ true) × (n ≡ 1)) → good_verdict h n (told_line ti) ≡ true
unfolding good_verdict layout_number body_number
good_told h n b cls ti t e s k = rw (bit_le ti.ti_record, e) (go b ti.ti_layout t s)
  where
    struct : (c : Body) → body_number c ≡ number h 2 → has_ctors c ≡ true → (eqb (number h 2) 2 || eqb (number h 2) 3) ≡ true
    struct TAbstract t c = false_true c
    struct (TAbbrev d) t c = false_true c
    struct (TRecord fs) t c = rw (← t)
    struct (TVariant cs) t c = rw (← t)

    go : (c : Body) (l : Layout) → body_number c ≡ number h 2 → Suits c cls l
        → (eqb (layout_number l) 0 ⇒ eqb (bit (eqb (layout_number l) 0)) 1 ∥
        eqb (bit (eqb (layout_number l) 0)) 0
        && (eqb (layout_number l) 1 ⇒ one_ctor h && eqb n 1 ∥
        eqb (layout_number l) 2 ⇒ eqb (number h 2) 2 || eqb (number h 2) 3 ∥
        eqb (layout_number l) 3 ⇒ eqb (number h 2) 1 ∥
        eqb (layout_number l) 4 ⇒ eqb (number h 2) 0 ∥
        false)) ≡ true
    go c L_erased t s = refl
    go c (L_newtype nt) t s = let q = k nt s in rw (q.0, q.1)
    go c (L_struct ms) t s = struct c t s.1
    go c (L_abbrev d) t s = eq-eqb (number h 2) 1 (sym t ∙ ap body_number s)
    go c L_opaque t s = eq-eqb (number h 2) 0 (sym t ∙ ap body_number s)

pub last_head_none : (h : Line) (ls : List Line) → None is_head ls → last_head h ls ≡ h
unfolding last_head
last_head_none h [] n = refl
last_head_none h (l ∷ ls) n = rw n.0 (last_head_none h ls n.1)

has_ctors_one : (n : ℕ) (b : Body) → length (ctors_of n b) ≡ 1 → has_ctors b ≡ true
unfolding ctors_of
has_ctors_one n TAbstract e = absurd (omega arith)
has_ctors_one n (TAbbrev c) e = absurd (omega arith)
has_ctors_one n (TRecord fs) e = refl
has_ctors_one n (TVariant cs) e = refl

-- ---- row 7 of a verdict sheet
-- a newtype's declaration has one constructor and its lines one keep
newtype_lines : (ts : List Cty) (g : Group) (ti : TypeInfo) (w : Whole g) → Coherent (close_fields (dtype_of ts g)) ti → None is_head w.body
    → (l : NewtypeLayout) → newtype_of ti.ti_ctors ≡ some l
    → (one_ctor (row import_line (five g.head)) ≡ true) × (kept_after 0 (fill_keeps (all_slots ti.ti_ctors) w.body) ≡ 1)
unfolding close_fields dtype_of ctor_layouts
newtype_lines ts g ti w c a l e =
    let d : Dtype = close_fields (dtype_of ts g) in
    let er : ℕ → Bool = c.erasing in
    let bs : List Bool = all_slots ti.ti_ctors in
    let o = newtype_one er (ctor_tag (length (ctors_of_tydef d))) (ctors_of_tydef d) l (rw c.ctors at e) in
    let s : bs ≡ concat (slots_of er (ctors_of_tydef d)) = ap all_slots c.ctors ∙ all_slots_concat er (ctor_tag (length (ctors_of_tydef d))) (ctors_of_tydef d) in
    let n : length bs ≡ count_of field_line g.rest =
    ap length s
    ∙ slots_counted er d.dt_params ts d.dt_name (number g.head 2) (number g.head 4) g.rest w.ctors_first (has_ctors_one d.dt_name d.dt_body o.0) in
    let m : count_of field_line g.rest ≡ count_of field_line w.body =
    ap (count_of field_line) w.ends
    ∙ ap length
    (select_append field_line w.body (w.last ∷ [])
    ∙ ap (λ (r : List Line). select field_line w.body ++ r) (select_none field_line (w.last ∷ []) (rw (eqb-true (letter w.last) 86 w.is_last), tt))
    ∙ append-nil (select field_line w.body)) in (
      one_ctor_line d.dt_params ts d.dt_name (number g.head 2) (number g.head 4) g.rest w.ctors o.0,
      kept_filling 0 (filling field_line bit bs w.body) a (n ∙ m) ∙ omega (arith, ap trues s, o.1),
    )

good_told_line : (ts : List Cty) (g : Group) (ti : TypeInfo) (w : Whole g) → Coherent (close_fields (dtype_of ts g)) ti → None is_head w.body
    → good_at (row import_line (five g.head)) (kept_after 0 (fill_keeps (all_slots ti.ti_ctors) w.body)) (told_line ti) ≡ true
unfolding good_at close_fields dtype_of
good_told_line ts g ti w c a =
    let d : Dtype = close_fields (dtype_of ts g) in
    good_told (row import_line (five g.head)) (kept_after 0 (fill_keeps (all_slots ti.ti_ctors) w.body)) d.dt_body ti.ti_ctors ti
    (close_number d.dt_params (dtype_of ts g).dt_body ∙ body_of_number ts (number g.head 2) (number g.head 4) g.rest w.kinds) c.erased c.suits (newtype_lines ts g ti w c a)

-- a local declaration's filled lines pass row 7
goods_local : (ts : List Cty) (g : Group) (ti : TypeInfo) → Grouped is_head g → Whole g → Coherent (close_fields (dtype_of ts g)) ti → is import_line g.head ≡ false
    → Goods g.head 0 g.rest → Goods (row import_line (five g.head)) 0 (fill_rest ti g.rest)
goods_local ts g ti k w c e q =
    let h : Line = row import_line (five g.head) in
    let bs : List Bool = all_slots ti.ti_ctors in
    let a : None is_head w.body = none_left is_head w.body (w.last ∷ []) (rw w.ends at k.alone) in
    let p : Goods g.head 0 w.body = along_left good_at next_kept g.head 0 w.body (w.last ∷ []) (rw w.ends at q) in
    let o : Goods h 0 (fill_told ti g.rest) =
    rw (w.ends, fill_told_ends ti w.body w.last w.before_last w.is_last)
    (along_append good_at next_kept h 0 (fill_keeps bs w.body) (told_line ti ∷ [])
    (goods_filling g.head h 0 0 e refl (filling field_line bit bs w.body) a w.before_last p)
    (rw (last_head_none h (fill_keeps bs w.body) (none_fill field_line bit is_head (λ b l. refl) bs w.body a), ← (kept_follow 0 (fill_keeps bs w.body))) (good_told_line ts g ti w c a), tt)) in
    goods_tags h 0 (filling ctor_line tag_number_of ti.ti_ctors (fill_told ti g.rest)) (none_told ti g.rest k.alone) o

-- and their tags
tagged_local : (ts : List Cty) (g : Group) (ti : TypeInfo) → Grouped is_head g → Whole g → Coherent (close_fields (dtype_of ts g)) ti → Tagged (row import_line (five g.head)) 0 (fill_rest ti g.rest)
unfolding close_fields dtype_of ctor_layouts ctor_layout
tagged_local ts g ti k w c = go (ctors_counted d.dt_params ts d.dt_name g w) (ctors_last d.dt_params ts d.dt_name g w)
  where
    d : Dtype
    d = close_fields (dtype_of ts g)

    h : Line
    h = row import_line (five g.head)

    cs : List Ctor
    cs = ctors_of_tydef d

    cls : List CtorLayout
    cls = layouts_of_ctors c.erasing (ctor_tag (length cs)) cs

    none : None is_head (fill_told ti g.rest)
    none = none_told ti g.rest k.alone

    go : (length cs ≡ count_of ctor_line g.rest) ⊎ ((length cs ≡ 1) × (count_of ctor_line g.rest ≡ 0)) → (0 < count_of ctor_line g.rest → length cs ≡ number g.head 4)
        → Tagged h 0 (fill_rest ti g.rest)
    go (inl e) m =
        let n : length cls ≡ length cs = length_table _ (length cs) in
        subst (λ (x : List CtorLayout). Tagged h 0 (fill_tags x (fill_told ti g.rest))) (sym c.ctors)
        (tagged_filling h 0 (filling ctor_line tag_number_of cls (fill_told ti g.rest)) none (n ∙ (e ∙ sym (ap length (ctors_told ti g.rest))))
        (λ i x j.
        let l : i < length cs = omega (arith, n) in
        ap tag_number (tag_at c.erasing (ctor_tag (length cs)) cs i x l) ∙ ap₂ (λ (v u : ℕ). tag_number (ctor_tag v u)) (m (omega (arith, e))) (omega arith)))
    go (inr e) m =
        tagged_none h 0 (fill_rest ti g.rest) (none_fill ctor_line tag_number_of is_head (λ x l. refl) ti.ti_ctors (fill_told ti g.rest) none)
        (none_select ctor_line (fill_rest ti g.rest) (length_nil (select ctor_line (fill_rest ti g.rest)) (count_fill ctor_line tag_number_of ti.ti_ctors (fill_told ti g.rest) ∙ (ap length (ctors_told ti g.rest) ∙ e.1))))

-- ---- declarations filled, after any lines
-- a test that a declaration's first line passes, that imports keep, and that a local declaration's filled lines meet
module _ (test : Line → ℕ → Line → Bool) (next : ℕ → Line → ℕ) (ts : List Cty)
    (at_head : (h : Line) (n : ℕ) (l : Line) → is_head l ≡ true → test h n l ≡ true) (zeros : (n : ℕ) (l : Line) → is_head l ≡ true → next n l ≡ 0)
    (local : (g : Group) (ti : TypeInfo) → Grouped is_head g → Whole g → Coherent (close_fields (dtype_of ts g)) ti → is import_line g.head ≡ false
    → Along test next g.head 0 g.rest → Along test next (row import_line (five g.head)) 0 (fill_rest ti g.rest)) where
  along_filled : (g : Group) (ti : TypeInfo) (h k : Line) (m n : ℕ) → Grouped is_head g → Whole g → Told (decl_of ts g) ti
      → Along test next h m (g.head ∷ g.rest) → Along test next k n ((filled g ti).head ∷ (filled g ti).rest)
  unfolding decl_of
  along_filled g ti h k m n p w t q = go (is import_line g.head) refl t
    where
      r : Along test next g.head 0 g.rest
      r = rw (p.begins, zeros m g.head p.begins) at q.1

      go : (c : Bool) → is import_line g.head ≡ c
          → Told (record { dtype = close_fields (dtype_of ts g); origin = pick c (imported (info_of (close_fields (dtype_of ts g)) g.rest (verdict_of g.rest))) here }) ti
          → Along test next k n ((filled g ti).head ∷ (filled g ti).rest)
      go true e u = rw (filled_import g ti e, p.begins, zeros n g.head p.begins) (at_head g.head n g.head p.begins, r)
      go false e u =
          let x : Line = row import_line (five g.head) in
          rw (filled_local g ti e, zeros n x refl) (at_head x n x refl, local g ti p w u e r)

  along_fills : (gs : List Group) (tis : List TypeInfo) (h k : Line) (m n : ℕ) → AllGrouped is_head gs → AllWhole gs → AllTold (map (decl_of ts) gs) tis
      → Along test next h m (flat gs) → Along test next k n (flat (fills gs tis))
  unfolding flat fills
  along_fills [] tis h k m n p w t q = tt
  along_fills (g ∷ gs) [] h k m n p w t q = tt
  along_fills (g ∷ gs) (ti ∷ tis) h k m n p w t q =
      let x : List Line = g.head ∷ g.rest in
      let y : List Line = (filled g ti).head ∷ (filled g ti).rest in
      along_append test next k n y (flat (fills gs tis))
      (along_filled g ti h k m n p.0 w.0 t.0 (along_left test next h m x (flat gs) q))
      (along_fills gs tis (last_head h x) (last_head k y) (follow next m x) (follow next n y) p.1 w.1 t.1 (along_right test next h m x (flat gs) q))

  along_verdict : (ls : List Line) (tis : List TypeInfo) → trees ls ≡ ts → AllWhole (groups is_head ls) → AllTold (program ls) tis → Along test next bad 0 ls → Along test next bad 0 (verdict_lines ls tis)
  along_verdict ls tis e w t q =
      let hs : List Line = before is_head ls in
      let gs : List Group = groups is_head ls in
      let p : Along test next bad 0 (hs ++ flat gs) = rw (before_flat is_head ls) q in
      rw (verdict_lines_flat ls tis)
      (along_append test next bad 0 hs (flat (fills gs tis)) (along_left test next bad 0 hs (flat gs) p)
      (along_fills gs tis (last_head bad hs) (last_head bad hs) (follow next 0 hs) (follow next 0 hs) (grouped is_head ls) w (rw (program_groups ls, e) at t) (along_right test next bad 0 hs (flat gs) p)))

head_zeros : (x : ℕ) (l : Line) → is_head l ≡ true → pick (is_head l) 0 x ≡ 0
head_zeros x l e = rw e

goods_verdict : (ls : List Line) (tis : List TypeInfo) → AllWhole (groups is_head ls) → AllTold (program ls) tis → Goods bad 0 ls → Goods bad 0 (verdict_lines ls tis)
goods_verdict ls tis = along_verdict good_at next_kept (trees ls) good_at_head (λ n l e. head_zeros (more n l) l e) (goods_local (trees ls)) ls tis refl

tagged_verdict : (ls : List Line) (tis : List TypeInfo) → AllWhole (groups is_head ls) → AllTold (program ls) tis → Tagged bad 0 ls → Tagged bad 0 (verdict_lines ls tis)
tagged_verdict ls tis =
    along_verdict tag_good next_ctors (trees ls) tag_good_head (λ n l e. head_zeros (pick (is ctor_line l) (suc n) n) l e) (λ g ti p w c e q. tagged_local (trees ls) g ti p w c) ls tis refl

-- Where a sheet passes row 7, so does its verdict sheet.
pub row7_verdict : (ls : List Line) (tis : List TypeInfo) → AllWhole (groups is_head ls) → AllTold (program ls) tis → ((i : ℕ) → i < length ls → row7 ls i ≡ false)
    → (i : ℕ) → i < length ls → row7 (verdict_lines ls tis) i ≡ false
row7_verdict ls tis w t h i k =
    goods_row7 (verdict_lines ls tis) (tagged_verdict ls tis w t (row7_goods ls h).0) (goods_verdict ls tis w t (row7_goods ls h).1) i (rw (length_verdict_lines ls tis (told_groups ls tis t)) k)

pub last_head_append : (h : Line) (a b : List Line) → last_head h (a ++ b) ≡ last_head (last_head h a) b
unfolding last_head
last_head_append h [] b = refl
last_head_append h (l ∷ a) b = last_head_append (next_head h l) a b

pub kept_after_append : (n : ℕ) (a b : List Line) → kept_after n (a ++ b) ≡ kept_after (kept_after n a) b
unfolding kept_after
kept_after_append n [] b = refl
kept_after_append n (l ∷ a) b = kept_after_append (next_kept n l) a b

pub ctors_after_append : (n : ℕ) (a b : List Line) → ctors_after n (a ++ b) ≡ ctors_after (ctors_after n a) b
unfolding ctors_after
ctors_after_append n [] b = refl
ctors_after_append n (l ∷ a) b = ctors_after_append (next_ctors n l) a b

follow_append : (next : ℕ → Line → ℕ) (n : ℕ) (a b : List Line) → follow next n (a ++ b) ≡ follow next (follow next n a) b
unfolding follow
follow_append next n [] b = refl
follow_append next n (l ∷ a) b = follow_append next (next n l) a b

-- a test of line j of the rest, by the state that the lines before it leave
module _ (test : Line → ℕ → Line → Bool) (next : ℕ → Line → ℕ) where
  rest_at : Line → ℕ → List Line → ℕ → Bool
  rest_at h n qs j = test (last_head h (take (suc j) qs)) (follow next n (take j qs)) (nth_line qs j)

  test_rest : (a qs : List Line) (j : ℕ)
      → test (head_of (a ++ qs) (length a + j)) (follow next 0 (take (length a + j) (a ++ qs))) (nth_line (a ++ qs) (length a + j)) ≡ rest_at (last_head bad a) (follow next 0 a) qs j
  unfolding rest_at
  test_rest a qs j =
      let e : suc (length a + j) ≡ length a + suc j = omega arith in
      rw (e, take-append-add a qs (suc j), take-append-add a qs j, get_or-append-add a qs j bad, last_head_append bad a (take (suc j) qs), follow_append next 0 a (take j qs))

  -- after a line that begins a declaration nothing is left of the state before
  rest_same : ((h k : Line) (m n : ℕ) → test h m bad ≡ test k n bad) → ((h : Line) (n : ℕ) (l : Line) → is_head l ≡ true → test h n l ≡ true)
      → ((n : ℕ) (l : Line) → is_head l ≡ true → next n l ≡ 0) → (h k : Line) (m n : ℕ) (qs : List Line) (j : ℕ) → Starts is_head qs → rest_at h m qs j ≡ rest_at k n qs j
  unfolding rest_at last_head follow
  rest_same b p z h k m n [] j s = b (last_head h []) (last_head k []) (follow next m (take j [])) (follow next n (take j []))
  rest_same b p z h k m n (l ∷ qs) zero s = p (pick (is_head l) l h) m l s ∙ sym (p (pick (is_head l) l k) n l s)
  rest_same b p z h k m n (l ∷ qs) (suc j) s =
      ap₂ (λ (x : Line) (i : ℕ). test (last_head x (take (suc j) qs)) (follow next i (take j qs)) (nth_line qs j))
      (ap (λ (c : Bool). pick c l h) s ∙ sym (ap (λ (c : Bool). pick c l k) s)) (z m l s ∙ sym (z n l s))

-- the rest of the lines sees nothing of a prefix but its length
pub row7_rest : (a b qs : List Line) (j : ℕ) → Starts is_head qs → row7 (a ++ qs) (length a + j) ≡ row7 (b ++ qs) (length b + j)
unfolding row7
row7_rest a b qs j s = ap not (at a ∙ (ap₂ ◌&&◌ tags goods ∙ sym (at b)))
  where
    at : (c : List Line) → good_verdicts (c ++ qs) (length c + j)
        ≡ (rest_at tag_good next_ctors (last_head bad c) (follow next_ctors 0 c) qs j && rest_at good_at next_kept (last_head bad c) (follow next_kept 0 c) qs j)
    at c = good_verdicts_at (c ++ qs) (length c + j) ∙ ap₂ ◌&&◌ (test_rest tag_good next_ctors c qs j) (test_rest good_at next_kept c qs j)

    tags : rest_at tag_good next_ctors (last_head bad a) (follow next_ctors 0 a) qs j ≡ rest_at tag_good next_ctors (last_head bad b) (follow next_ctors 0 b) qs j
    tags = rest_same tag_good next_ctors tag_good_bad tag_good_head (λ n l e. head_zeros (pick (is ctor_line l) (suc n) n) l e) _ _ _ _ qs j s

    goods : rest_at good_at next_kept (last_head bad a) (follow next_kept 0 a) qs j ≡ rest_at good_at next_kept (last_head bad b) (follow next_kept 0 b) qs j
    goods = rest_same good_at next_kept good_at_bad good_at_head (λ n l e. head_zeros (more n l) l e) _ _ _ _ qs j s

-- Row 7 of a prefix's verdict sheet with the rest behind it.
pub row7_cut : (ls qs : List Line) (tis : List TypeInfo) → Starts is_head qs → AllWhole (groups is_head ls) → AllTold (program ls) tis
    → ((i : ℕ) → i < length ls → row7 ls i ≡ false) → (i : ℕ) → row7 (verdict_lines ls tis ++ qs) i ≡ row7 (ls ++ qs) i
row7_cut ls qs tis s w t h i = go (ltb i (length ls)) refl
  where
    n : length (verdict_lines ls tis) ≡ length ls
    n = length_verdict_lines ls tis (told_groups ls tis t)

    go : (c : Bool) → ltb i (length ls) ≡ c → row7 (verdict_lines ls tis ++ qs) i ≡ row7 (ls ++ qs) i
    go true e =
        let k : i < length ls = ltb-true i (length ls) e in
        row7_prefix (verdict_lines ls tis) qs i (omega (arith, n))
        ∙ row7_verdict ls tis w t h i k
        ∙ sym (row7_prefix ls qs i k ∙ h i k)
    go false e =
        let k : length ls ≤ i = ltb-false i (length ls) e in
        ap (row7 (verdict_lines ls tis ++ qs)) (omega (arith, n))
        ∙ row7_rest (verdict_lines ls tis) ls qs (i - length ls) s
        ∙ ap (row7 (ls ++ qs)) (omega arith)

-- ---- C lines stand in declarations
-- where a declaration is open, the line that began it is a D or I line
abbrev Opened : Due → Line → Type 0
Opened (Header place) h = Unit {0}
Opened (Within p f c) h = is_head h ≡ true
Opened Broken h = Unit {0}

announced_opened : (k p n : ℕ) (l : Line) → is_head l ≡ true → Opened (announced k p n) l
unfolding announced
announced_opened k p n l e = go (leb k 1) (eqb k 2) (eqb k 3)
  where
    go : (a b c : Bool) → Opened (a ⇒ Within p 0 0 ∥ b ⇒ Within p n 0 ∥ c ⇒ Within p 0 n ∥ Broken) l
    go true b c = e
    go false true c = e
    go false false true = e
    go false false false = tt

within_kept : (c : Bool) (q : Due) (h : Line) → Opened q h → Opened (pick c q Broken) h
within_kept true q h o = o
within_kept false q h o = tt

ctor_no_head : (l : Line) → is ctor_line l ≡ true → is_head l ≡ false
ctor_no_head l e = rw (eqb-true (letter l) 67 e)

header_stays : (place : ℕ) (l : Line) → is_head l ≡ false → is_within (due (Header place) l) ≡ false
unfolding due due_header
header_stays place l e = rw e (go (is name_line l && leb place 0) (is arg_line l && leb place 1) (is type_line l && leb place 2))
  where
    go : (a b c : Bool) → is_within (a ⇒ Header 0 ∥ b ⇒ Header 1 ∥ c ⇒ Header 2 ∥ Broken) ≡ false
    go true b c = refl
    go false true c = refl
    go false false true = refl
    go false false false = refl

within_next : (p f c : ℕ) (h l : Line) → is_head h ≡ true → Opened (due (Within p f c) l) h
unfolding due
within_next (suc p) f c h l o = within_kept (is param_line l) (Within p f c) h o
within_next zero (suc f) c h l o = within_kept (is field_line l) (Within zero f c) h o
within_next zero zero (suc c) h l o = within_kept (is ctor_line l) (Within zero (number l 1) c) h o
within_next zero zero zero h l o = within_ended (is verdict_line l)
  where
    within_ended : (t : Bool) → Opened (pick t (Header 3) Broken) h
    within_ended true = tt
    within_ended false = tt

ctor_opened : (q : Due) (h l : Line) → Opened q h → is_broken (due q l) ≡ false → is ctor_line l ≡ true → is_head h ≡ true
unfolding due due_header
ctor_opened (Header place) h l o b c = false_true (sym (rw (eqb-true (letter l) 67 c) at b))
ctor_opened (Within p f k) h l o b c = o
ctor_opened Broken h l o b c = false_true (sym b)

opened_next : (q : Due) (h l : Line) → Opened q h → is_broken (due q l) ≡ false → Opened (due q l) (next_head h l)
unfolding due
opened_next (Header place) h l o b = go (is_head l) refl
  where
    go : (c : Bool) → is_head l ≡ c → Opened (due (Header place) l) (pick c l h)
    go true e = rw (head_due place l e) (announced_opened (number l 2) (number l 3) (number l 4) l e)
    go false e = others (due (Header place) l) (header_stays place l e)
      where
        others : (q : Due) → is_within q ≡ false → Opened q h
        others (Header p) n = tt
        others (Within p f c) n = false_true (sym n)
        others Broken n = tt
opened_next (Within p f c) h l o b = go (is_head l) refl
  where
    go : (t : Bool) → is_head l ≡ t → Opened (due (Within p f c) l) (pick t l h)
    go true e = false_true (sym (rw (head_within p f c l e) at b))
    go false e = within_next p f c h l o
opened_next Broken h l o b = tt

ctor_headed : (q : Due) (h : Line) (ls : List Line) → Opened q h → is_header (due_after q ls) ≡ true → (i : ℕ) → i < length ls → is ctor_line (nth_line ls i) ≡ true → is_head (last_head h (take (suc i) ls)) ≡ true
unfolding due_after last_head
ctor_headed q h [] o e i l c = absurd (omega arith)
ctor_headed q h (x ∷ ls) o e zero l c = rw (ctor_no_head x c) (ctor_opened q h x o (unbroken (due q x) ls e) c)
ctor_headed q h (x ∷ ls) o e (suc i) l c = ctor_headed (due q x) (next_head h x) ls (opened_next q h x o (unbroken (due q x) ls e)) e i (omega arith) c

-- Where row 3 passes, a C line is in a declaration.
pub ctor_declared : (ls : List Line) → Ends ls → (i : ℕ) → i < length ls → is ctor_line (nth_line ls i) ≡ true → is_head (head_of ls i) ≡ true
ctor_declared ls h i l c = ctor_headed (Header 0) bad ls tt h i l c

-- ---- the tags of imports
-- the C lines of a declaration that passes, by their places
tagged_read : (h : Line) (k : ℕ) (ls : List Line) → None is_head ls → Tagged h k ls → (i : ℕ) → i < count_of ctor_line ls → number (get_or (select ctor_line ls) i bad) 2 ≡ tag_in h (k + i)
unfolding select tag_good
tagged_read h k [] n t i q = absurd (omega arith)
tagged_read h k (l ∷ ls) n t i q = go (is ctor_line l) refl i q (rw n.0 at t.0) (λ m r j z. tagged_read h m ls n.1 r j z) (rw n.0 at t.1)
  where
    go : (c : Bool) → is ctor_line l ≡ c → (j : ℕ) → j < length (pick c (l ∷ select ctor_line ls) (select ctor_line ls)) → (c ⇒ eqb (number l 2) (tag_in h k) ∥ true) ≡ true
        → ((m : ℕ) → Tagged h m ls → (z : ℕ) → z < count_of ctor_line ls → number (get_or (select ctor_line ls) z bad) 2 ≡ tag_in h (m + z))
        → Tagged h (pick c (suc k) k) ls → number (get_or (pick c (l ∷ select ctor_line ls) (select ctor_line ls)) j bad) 2 ≡ tag_in h (k + j)
    go true e zero p u ih r = eqb-true (number l 2) (tag_in h k) u ∙ ap (tag_in h) (omega arith)
    go true e (suc j) p u ih r = ih (suc k) r j (omega arith) ∙ ap (tag_in h) (omega arith)
    go false e j p u ih r = ih k r j p

-- a test of all lines is one of each declaration's
along_group : (test : Line → ℕ → Line → Bool) (next : ℕ → Line → ℕ) → ((n : ℕ) (l : Line) → is_head l ≡ true → next n l ≡ 0) → (h : Line) (n : ℕ) (gs : List Group) → AllGrouped is_head gs
    → Along test next h n (flat gs) → (j : ℕ) (d : Group) → j < length gs → Along test next (get_or gs j d).head 0 (get_or gs j d).rest
unfolding flat
along_group test next z h n [] p q j d l = absurd (omega arith)
along_group test next z h n (g ∷ gs) p q zero d l = rw (p.0.begins, z n g.head p.0.begins) at (along_left test next h n (g.head ∷ g.rest) (flat gs) q).1
along_group test next z h n (g ∷ gs) p q (suc j) d l =
    let x : List Line = g.head ∷ g.rest in
    along_group test next z (last_head h x) (follow next n x) gs p.1 (along_right test next h n x (flat gs) q) j d (omega arith)

by_tag : (tag : ℕ → Option ℕ) (cs : List Ctor) (bss : List (List Bool)) (k : ℕ) (x : CtorLayout) → k < length (ctor_layouts_by tag cs bss) → (get_or (ctor_layouts_by tag cs bss) k x).cl_tag ≡ tag k
unfolding ctor_layouts_by ctor_layout
by_tag tag [] bss k x h = absurd (omega arith)
by_tag tag (c ∷ cs) [] k x h = absurd (omega arith)
by_tag tag (c ∷ cs) (bs ∷ bss) zero x h = refl
by_tag tag (c ∷ cs) (bs ∷ bss) (suc k) x h = by_tag (λ i. tag (suc i)) cs bss k x (omega arith)

-- the tag that a C line of an import has is that of its place
lines_tags : (ps : List ℕ) (ts : List Cty) (n : ℕ) (g : Group) → Grouped is_head g → Whole g → is import_line g.head ≡ true → Tagged g.head 0 g.rest
    → let m = length (ctors_of n (close_body ps (body_of ts (number g.head 2) (number g.head 4) g.rest))) in (i : ℕ) → i < m → tags g.rest i ≡ ctor_tag m i
lines_tags ps ts n g p w e t i h = go (ctors_counted ps ts n g w) (ctors_last ps ts n g w)
  where
    m : ℕ
    m = length (ctors_of n (close_body ps (body_of ts (number g.head 2) (number g.head 4) g.rest)))

    go : (m ≡ count_of ctor_line g.rest) ⊎ ((m ≡ 1) × (count_of ctor_line g.rest ≡ 0)) → (0 < count_of ctor_line g.rest → m ≡ number g.head 4) → tags g.rest i ≡ ctor_tag m i
    go (inl q) r =
        let k : i < count_of ctor_line g.rest = omega (arith, q) in
        let y : tag_in g.head (0 + i) ≡ tag_number (ctor_tag m i) = rw e (ap₂ (λ (a b : ℕ). tag_number (ctor_tag a b)) (sym (r (omega arith))) (omega arith)) in
        ap tag_of (tagged_read g.head 0 g.rest p.alone t i k ∙ y) ∙ tag_read (ctor_tag m i)
    go (inr q) r = tags_none g.rest q.1 i ∙ sym (ap (λ (a : ℕ). ctor_tag a i) q.0)

-- Where row 7 passes, the tags of an import are those that its constructors would get here.
pub import_tags : (ls : List Line) → AllWhole (groups is_head ls) → ((i : ℕ) → i < length ls → row7 ls i ≡ false) → (i : ℕ) (ti : TypeInfo) → i < length (program ls) → origin_at (program ls) i ≡ imported ti
    → (k : ℕ) (x : CtorLayout) → k < length ti.ti_ctors → k < length (ctors_of_tydef (dtype_at (program ls) i)) → (get_or ti.ti_ctors k x).cl_tag ≡ ctor_tag (length (ctors_of_tydef (dtype_at (program ls) i))) k
unfolding decl_of info_of close_fields dtype_of
import_tags ls w r i ti h o k x l n = go (is import_line g.head) refl (ap (λ (y : Decl). y.origin) (sym at) ∙ o)
  where
    g : Group
    g = get_or (groups is_head ls) i (record { head = bad; rest = [] })

    j : i < length (groups is_head ls)
    j = omega (arith, length_groups ls, length_program ls)

    d : Dtype
    d = close_fields (dtype_of (trees ls) g)

    at : get_or (program ls) i no_decl ≡ decl_of (trees ls) g
    at = ap (λ (y : List Decl). get_or y i no_decl) (program_groups ls) ∙ get_or_map (decl_of (trees ls)) (groups is_head ls) i no_decl (record { head = bad; rest = [] }) j

    q : Tagged g.head 0 g.rest
    q =
        let hs : List Line = before is_head ls in
        along_group tag_good next_ctors (λ m y e. head_zeros (pick (is ctor_line y) (suc m) m) y e) (last_head bad hs) (follow next_ctors 0 hs) (groups is_head ls) (grouped is_head ls)
        (along_right tag_good next_ctors bad 0 hs (flat (groups is_head ls)) (rw (before_flat is_head ls) (row7_goods ls r).0)) i (record { head = bad; rest = [] }) j

    own : TypeInfo
    own = info_of d g.rest (verdict_of g.rest)

    go : (c : Bool) → is import_line g.head ≡ c → pick c (imported own) here ≡ imported ti → (get_or ti.ti_ctors k x).cl_tag ≡ ctor_tag (length (ctors_of_tydef (dtype_at (program ls) i))) k
    go true e z =
        let y : own ≡ ti = cc in
        let a : dtype_at (program ls) i ≡ d = ap (λ (u : Decl). u.dtype) at in
        ap (λ (u : TypeInfo). (get_or u.ti_ctors k x).cl_tag) (sym y)
        ∙ (by_tag (tags g.rest) (ctors_of_tydef d) (keeps_of d.dt_body g.rest) k x (rw (sym y) at l)
        ∙ (lines_tags d.dt_params (trees ls) d.dt_name g (every_at (Grouped is_head) (record { head = bad; rest = [] }) (groups is_head ls) (grouped is_head ls) i j)
        (every_at Whole (record { head = bad; rest = [] }) (groups is_head ls) w i j) e q k (rw a at n)
        ∙ ap (λ (u : Dtype). ctor_tag (length (ctors_of_tydef u)) k) (sym a)))
    go false e z = let y : ◌≡◌ {A = ℕ} 0 1 = cc in absurd (omega arith)

-- ---- row 3 of the bytes
-- a line's letter and numbers, by its bytes
raw_line : ℕ → List ℕ → Line
raw_line w l = row (get_or l 0 0) (table (λ k. value (cell w l k)) 5)

raw_is : (w : ℕ) (b : List ℕ) (i : ℕ) → raw w b i ≡ raw_line w (line_at w b i)
unfolding raw raw_line
raw_is w b i = refl

-- what a line that is not bad has in common with its letter and numbers
pub record Rawly (k l : Line) : Type 0 where
  pub letters : letter k ≡ letter l
  pub first_number : number k 0 ≡ number l 0
  pub lines : is name_line l ≡ false → k ≡ l

raw_decode : (w : ℕ) (b : List ℕ) → is_bad (decode w b) ≡ false → Rawly (raw_line w b) (decode w b)
unfolding raw_line table
raw_decode w b = go (decoded w b)
  where
    go : {l : Line} → Decoded w b l → is_bad l ≡ false → Rawly (raw_line w b) l
    go (as_named n z e p) h = record { letters = z; first_number = rw e; lines = λ q. false_true (sym q) }
    go (as_row ns z l k e) h =
        let v : (i : ℕ) → i < 5 → value (cell w b i) ≡ get_or ns i 0 = λ i j. ap value (e i j) in
        let r : raw_line w b ≡ row (get_or b 0 0) ns =
        rw (v 0 (omega arith), v 1 (omega arith), v 2 (omega arith), v 3 (omega arith), v 4 (omega arith)) (ap (row (get_or b 0 0)) (five_numbers ns k)) in
        record { letters = refl; first_number = v 0 (omega arith); lines = λ q. r }
    go as_bad h = false_true (sym h)

-- of a line that is not bad, letter and first number are the raw ones, and all of it unless it is an N line
pub raw_rawly : (w : ℕ) (b : List ℕ) (i : ℕ) → is_bad (line w b i) ≡ false → Rawly (raw w b i) (line w b i)
unfolding line
raw_rawly w b i n = rw (raw_is w b i) (raw_decode w (line_at w b i) n)

due_name : (q : Due) (k l : Line) → letter k ≡ 78 → letter l ≡ 78 → due q k ≡ due q l
unfolding due due_header
due_name (Header place) k l e h = rw (e, h)
due_name (Within (suc p) f c) k l e h = rw (e, h)
due_name (Within zero (suc f) c) k l e h = rw (e, h)
due_name (Within zero zero (suc c)) k l e h = rw (e, h)
due_name (Within zero zero zero) k l e h = rw (e, h)
due_name Broken k l e h = refl

due_rawly : (q : Due) (k l : Line) → Rawly k l → due q k ≡ due q l
due_rawly q k l r = go (is name_line l) refl
  where
    go : (c : Bool) → is name_line l ≡ c → due q k ≡ due q l
    go true e = due_name q k l (r.letters ∙ eqb-true (letter l) 78 e) (eqb-true (letter l) 78 e)
    go false e = ap (due q) (r.lines e)

-- lines that are taken alike, one by one
due_take_same : (n : ℕ) (xs ys : List Line) → length xs ≡ length ys → ((i : ℕ) → i < length xs → (q : Due) → due q (nth_line xs i) ≡ due q (nth_line ys i))
    → (q : Due) → due_after q (take n xs) ≡ due_after q (take n ys)
unfolding due_after
due_take_same zero xs ys e h q = refl
due_take_same (suc n) [] [] e h q = refl
due_take_same (suc n) [] (y ∷ ys) e h q = absurd (omega arith)
due_take_same (suc n) (x ∷ xs) [] e h q = absurd (omega arith)
due_take_same (suc n) (x ∷ xs) (y ∷ ys) e h q =
    ap (λ (d : Due). due_after d (take n xs)) (h 0 (omega arith) q)
    ∙ due_take_same n xs ys (omega arith) (λ i k. h (suc i) (omega arith)) (due q y)

pub length_raws : (w : ℕ) (b : List ℕ) → length (raws w b) ≡ count w b
unfolding raws
length_raws w b = length_table (raw w b) (count w b)

pub line_raws : (w : ℕ) (b : List ℕ) (i : ℕ) → i < count w b → nth_line (raws w b) i ≡ raw w b i
unfolding raws
line_raws w b i h = get_or_table (raw w b) (count w b) i bad h

-- Where row 2 passes, row 3 sees the same in the raw lines and in the lines.
pub row3_raws : (w : ℕ) (b : List ℕ) → ((i : ℕ) → i < count w b → is_bad (line w b i) ≡ false) → (i : ℕ) → row3 (raws w b) i ≡ row3 (lines w b) i
row3_raws w b h i =
    row3_same (raws w b) (lines w b) i n (s (suc i) (Header 0))
    (ap (due_after (Header 0)) (sym (take_all (count w b) (raws w b) (omega (arith, length_raws w b))))
    ∙ s (count w b) (Header 0)
    ∙ ap (due_after (Header 0)) (take_all (count w b) (lines w b) (omega (arith, length_lines w b))))
  where
    n : length (raws w b) ≡ length (lines w b)
    n = length_raws w b ∙ sym (length_lines w b)

    s : (m : ℕ) (q : Due) → due_after q (take m (raws w b)) ≡ due_after q (take m (lines w b))
    s m = due_take_same m (raws w b) (lines w b) n (λ j k q.
        let c : j < count w b = omega (arith, length_raws w b) in
        ap (due q) (line_raws w b j c) ∙ due_rawly q (raw w b j) (line w b j) (raw_rawly w b j (h j c)) ∙ ap (due q) (sym (get_or_lines w b j)))
