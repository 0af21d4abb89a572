-- Laws of the two sheets that are written: what is added, how long they are, which names stand in the types of the left sheet, and
-- that every line fits its columns. Assumes nothing.
use Rattle.std.specs.Prelude.{◌⊎◌, ◌≡◌, eqb, leb, length, get_or}
use Rattle.std.proofs.Common.{inl, inr, ap, sym, ◌∙◌, mul-suc, mul-le-mul_left, length-append, eqb-true, leb-true, leb-false}
use Rattle.std.proofs.Math.Path.{refl}
use mathlib.Core.List.Memᴰ
use mathlib.Core.List.{List, [], ◌∷◌, ◌++◌, map, append_assoc, append-nil, Memᴰ}
use Rattle.std.proofs.Math.Bool.{Bool, true, false}
use Rattle.std.proofs.Math.Option.{Option, none as no_tag, some}
use Prim.Native.Nat.{ℕ, zero, suc, ◌+◌, ◌*◌, ◌^◌, ◌≤◌, ◌<◌}
use native.Mathlib.Omega.{arith}
use Rattle.std.proofs.lemmas.List.{length-map}
use Rattle.std.proofs.lemmas.Bool.{eqb-false}
use Rattle.number_columns.specs.Column.{pick}
use Rattle.number_columns.specs.ColumnLaws.{ten_pos}
use Rattle.sheet.specs.Format.{line_bytes, text_bytes}
use Rattle.sheet.specs.Line.{Line, named, row, bad, lettered, encode, letter, number}
use Rattle.sheet.proofs.LineLaws.{AllBelow, Fits, named_length, row_length}
use Rattle.sheet.specs.Sheet.{lines, encodes}
use Rattle.sheet.proofs.SheetLaws.{AllFit, length_encodes, lines_encodes}
use Rattle.sheet.proofs.ListLaws.{Every, every_mem, mem_every, every_map, every_over, every_append, every_left, every_right}
use Rattle.meaning.specs.Program.{name_line, arg_line, type_line, local_line, param_line, ctor_line, field_line, verdict_line, import_line, is, is_head, select, before, Group, groups, dtype_of, info_of, verdict_of, decl_of, trees, program}
use Rattle.meaning.specs.Rows.{count_of}
use Rattle.model.specs.Cty.{Cty, Ctys, TUnit, TAny, TExn, TVar, TInt, TFloat, TConst, TArrow, TApp, TTuple, TBuf, TRef, TInline, nil, cons, gather, gathers, names_of_cty, lengths, size, sizes}
use Rattle.model.specs.Decl.{bit, Field, Ctor, Body, TAbstract, TAbbrev, TRecord, TVariant, Dtype, Layout, L_erased, L_newtype, L_struct, L_abbrev, L_opaque, layout_number, tag_number, ctors_of_tydef, close_fields, table, here, imported, TypeInfo}
use Rattle.model.specs.Layout.{ctor_tag, ctor_layout, layouts_of_ctors, ctor_layouts}
use Rattle.meaning.specs.Output.{fill_third, fill_keeps, fill_verdict, all_slots, fill, fill_all, verdict_lines, Written, put, last, Members, listed, first_arg, emit, emits, Lines, field_lines, ctor_lines, decl_frame, decl_lines, program_lines, left_lines}
use Rattle.meaning_laws.specs.Program.{flat, before_flat, length_verdict_lines, third_line, tag_number_of, fill_told, fill_rest, Whole, AllWhole, Coherent, Told, AllTold, told_groups, ctors_counted}

-- ---- lists
-- ---- what is written is added at the ends
pub record Grows (w v : Written) : Type 0 where
  pub new_args : List ℕ
  pub new_types : List (List ℕ)
  pub args_are : v.args ≡ w.args ++ new_args
  pub types_are : v.types ≡ w.types ++ new_types

pub grows_refl : (w : Written) → Grows w w
grows_refl w = record { new_args = []; new_types = []; args_are = sym (append-nil w.args); types_are = sym (append-nil w.types) }

pub grows_trans : {w v u : Written} → Grows w v → Grows v u → Grows w u
grows_trans {w} g h =
    record {
      new_args = g.new_args ++ h.new_args;
      new_types = g.new_types ++ h.new_types;
      args_are = h.args_are ∙ rw g.args_are (append_assoc w.args g.new_args h.new_args);
      types_are = h.types_are ∙ rw g.types_are (append_assoc w.types g.new_types h.new_types);
    }

pub grows_put : (w : Written) (kind a b c : ℕ) → Grows w (put w kind a b c)
unfolding put
grows_put w kind a b c = record { new_args = []; new_types = (kind ∷ a ∷ b ∷ c ∷ 0 ∷ []) ∷ []; args_are = sym (append-nil w.args); types_are = refl }

pub grows_listed : (m : Members) → Grows m.written (listed m)
grows_listed m = record { new_args = m.numbers; new_types = []; args_are = refl; types_are = sym (append-nil m.written.types) }

pub grows_args : {w v : Written} → Grows w v → length w.args ≤ length v.args
grows_args {w} g = rw (g.args_are, length-append) (omega arith)

pub grows_types : {w v : Written} → Grows w v → length w.types ≤ length v.types
grows_types {w} g = rw (g.types_are, length-append) (omega arith)

-- n Y lines are added, and fewer A lines than that by at least k
pub record Adds (k n : ℕ) (w v : Written) : Type 0 where
  pub grows : Grows w v
  pub types_count : length v.types ≡ length w.types + n
  pub args_count : k + length v.args ≤ length w.args + n

pub adds_none : (w : Written) → Adds 0 0 w w
adds_none w = record { grows = grows_refl w; types_count = omega arith; args_count = omega arith }

pub adds_trans : {j k m n : ℕ} {w v u : Written} → Adds j m w v → Adds k n v u → Adds (j + k) (m + n) w u
adds_trans a b = record { grows = grows_trans a.grows b.grows; types_count = omega arith; args_count = omega arith }

pub adds_put : (w : Written) (kind a b c : ℕ) → Adds 1 1 w (put w kind a b c)
unfolding put
adds_put w kind a b c =
    record { grows = grows_put w kind a b c; types_count = length-append w.types ((kind ∷ a ∷ b ∷ c ∷ 0 ∷ []) ∷ []); args_count = omega arith }

-- the members of a list, with their A lines
adds_listed : (k n : ℕ) (w : Written) (m : Members) → Adds k n w m.written → length m.numbers ≡ k → Adds 0 n w (listed m)
adds_listed k n w m a e =
    record { grows = grows_trans a.grows (grows_listed m); types_count = a.types_count; args_count = omega (arith, a.args_count, length-append m.written.args m.numbers) }

adds_owner : (k n : ℕ) (w : Written) (m : Members) (kind a b c : ℕ) → Adds k n w m.written → length m.numbers ≡ k → Adds 1 (1 + n) w (put (listed m) kind a b c)
adds_owner k n w m kind a b c h e =
    let r = adds_trans (adds_listed k n w m h e) (adds_put (listed m) kind a b c) in
    record { grows = r.grows; types_count = omega arith; args_count = omega arith }

adds_one : (n : ℕ) (w v : Written) (kind a b c : ℕ) → Adds 1 n w v → Adds 1 (1 + n) w (put v kind a b c)
adds_one n w v kind a b c h =
    let r = adds_trans h (adds_put v kind a b c) in
    record { grows = r.grows; types_count = omega arith; args_count = omega arith }

mutual
  unfolding emit size lengths

  -- a type adds as many Y lines as it has nodes
  pub emit_adds : (c : Cty) (w : Written) → Adds 1 (size c) w (emit c w)
  emit_adds TUnit w = adds_put w 0 0 0 0
  emit_adds TAny w = adds_put w 1 0 0 0
  emit_adds TExn w = adds_put w 2 0 0 0
  emit_adds (TVar v) w = adds_put w 3 v 0 0
  emit_adds (TInt s x) w = adds_put w 4 s x 0
  emit_adds (TFloat f) w = adds_put w 5 f 0 0
  emit_adds (TConst c) w = adds_put w 6 c 0 0
  emit_adds (TArrow a e b) w =
      let x : Written = emit a w in
      let y : Written = emit b x in
      let r = adds_trans (adds_trans (emit_adds a w) (emit_adds b x)) (adds_put y 7 (last x) e (last y)) in
      record { grows = r.grows; types_count = omega arith; args_count = omega arith }
  emit_adds (TApp n ts) w =
      let m : Members = emits ts w in
      let h = emits_adds ts w in
      adds_owner (lengths ts) (sizes ts) w m 8 n (first_arg m) (length m.numbers) h.0 h.1
  emit_adds (TTuple ts) w =
      let m : Members = emits ts w in
      let h = emits_adds ts w in
      adds_owner (lengths ts) (sizes ts) w m 9 (first_arg m) (length m.numbers) 0 h.0 h.1
  emit_adds (TBuf t) w = adds_one (size t) w (emit t w) 10 (last (emit t w)) 0 0 (emit_adds t w)
  emit_adds (TRef k t) w = adds_one (size t) w (emit t w) 11 k (last (emit t w)) 0 (emit_adds t w)
  emit_adds (TInline t) w = adds_one (size t) w (emit t w) 12 (last (emit t w)) 0 0 (emit_adds t w)

  pub emits_adds : (ts : Ctys) (w : Written) → Adds (lengths ts) (sizes ts) w (emits ts w).written × (length (emits ts w).numbers ≡ lengths ts)
  emits_adds nil w = (adds_none w, refl)
  emits_adds (cons t ts) w =
      let h = emits_adds ts (emit t w) in
      let r = adds_trans (emit_adds t w) h.0 in
      (record { grows = r.grows; types_count = omega arith; args_count = omega arith }, ap suc h.1)

-- ---- the types of a program, in the order in which they are written
unfoldable pub types_of_fields : List Field → List Cty
types_of_fields [] = []
types_of_fields (f ∷ fs) = f.fd_type ∷ types_of_fields fs

unfoldable pub types_of_ctors : List Ctor → List Cty
types_of_ctors [] = []
types_of_ctors (c ∷ cs) = types_of_fields c.ct_fields ++ types_of_ctors cs

unfoldable pub types_of_body : Body → List Cty
types_of_body TAbstract = []
types_of_body (TAbbrev c) = c ∷ []
types_of_body (TRecord fs) = types_of_fields fs
types_of_body (TVariant cs) = types_of_ctors cs

unfoldable pub types_of : List Dtype → List Cty
types_of [] = []
types_of (d ∷ ds) = types_of_body d.dt_body ++ types_of ds

pub types_of_append : (ds es : List Dtype) → types_of (ds ++ es) ≡ types_of ds ++ types_of es
unfolding types_of
types_of_append [] es = refl
types_of_append (d ∷ ds) es = rw (types_of_append ds es, append_assoc)

-- nodes of all of them
unfoldable pub total : List Cty → ℕ
total [] = 0
total (c ∷ cs) = size c + total cs

pub total_append : (cs ds : List Cty) → total (cs ++ ds) ≡ total cs + total ds
unfolding total
total_append [] ds = omega arith
total_append (c ∷ cs) ds = omega (arith, total_append cs ds)

unfoldable pub emit_all : List Cty → Written → Written
emit_all [] w = w
emit_all (c ∷ cs) w = emit_all cs (emit c w)

pub emit_all_append : (cs ds : List Cty) (w : Written) → emit_all (cs ++ ds) w ≡ emit_all ds (emit_all cs w)
unfolding emit_all
emit_all_append [] ds w = refl
emit_all_append (c ∷ cs) ds w = emit_all_append cs ds (emit c w)

pub emit_all_adds : (cs : List Cty) (w : Written) → Adds (length cs) (total cs) w (emit_all cs w)
unfolding emit_all total
emit_all_adds [] w = adds_none w
emit_all_adds (c ∷ cs) w =
    let r = adds_trans (emit_adds c w) (emit_all_adds cs (emit c w)) in
    record { grows = r.grows; types_count = r.types_count; args_count = omega arith }

-- What a program's lines write is its types, one after the other.
pub field_written : (fs : List Field) (w : Written) → (field_lines fs w).written ≡ emit_all (types_of_fields fs) w
unfolding field_lines types_of_fields emit_all
field_written [] w = refl
field_written (f ∷ fs) w = field_written fs (emit f.fd_type w)

pub ctor_written : (cs : List Ctor) (w : Written) → (ctor_lines cs w).written ≡ emit_all (types_of_ctors cs) w
unfolding ctor_lines types_of_ctors emit_all
ctor_written [] w = refl
ctor_written (c ∷ cs) w = ctor_written cs (field_lines c.ct_fields w).written ∙ rw (field_written c.ct_fields w, emit_all_append (types_of_fields c.ct_fields) (types_of_ctors cs) w)

pub decl_written : (d : Dtype) (b : Body) (w : Written) → (decl_lines d b w).written ≡ emit_all (types_of_body b) w
unfolding decl_lines types_of_body emit_all
decl_written d TAbstract w = refl
decl_written d (TAbbrev c) w = refl
decl_written d (TRecord fs) w = field_written fs w
decl_written d (TVariant cs) w = ctor_written cs w

pub program_written : (ds : List Dtype) (w : Written) → (program_lines ds w).written ≡ emit_all (types_of ds) w
unfolding program_lines types_of emit_all
program_written [] w = refl
program_written (d ∷ ds) w =
    program_written ds (decl_lines d d.dt_body w).written ∙ rw (decl_written d d.dt_body w, emit_all_append (types_of_body d.dt_body) (types_of ds) w)

pub field_adds : (fs : List Field) (w : Written) → Adds (length (types_of_fields fs)) (total (types_of_fields fs)) w (field_lines fs w).written
field_adds fs w = rw (field_written fs w) (emit_all_adds (types_of_fields fs) w)

pub ctor_adds : (cs : List Ctor) (w : Written) → Adds (length (types_of_ctors cs)) (total (types_of_ctors cs)) w (ctor_lines cs w).written
ctor_adds cs w = rw (ctor_written cs w) (emit_all_adds (types_of_ctors cs) w)

pub program_adds : (ds : List Dtype) (w : Written) → Adds (length (types_of ds)) (total (types_of ds)) w (program_lines ds w).written
program_adds ds w = rw (program_written ds w) (emit_all_adds (types_of ds) w)

-- The lines of a longer program: those of the first part, then those of the rest over what was written.
pub program_append_written : (ds es : List Dtype) (w : Written) → (program_lines (ds ++ es) w).written ≡ (program_lines es (program_lines ds w).written).written
unfolding program_lines
program_append_written [] es w = refl
program_append_written (d ∷ ds) es w = program_append_written ds es (decl_lines d d.dt_body w).written

pub program_append_lines : (ds es : List Dtype) (w : Written) → (program_lines (ds ++ es) w).lines ≡ (program_lines ds w).lines ++ (program_lines es (program_lines ds w).written).lines
unfolding program_lines
program_append_lines [] es w = refl
program_append_lines (d ∷ ds) es w =
    rw (program_append_lines ds es (decl_lines d d.dt_body w).written, append_assoc)

-- ---- length
-- the lines before the declarations are the names, the A lines and the Y lines
abbrev pub nothing : Written
nothing = record { args = []; types = [] }

pub left_length : (ls : List Line) (ds : List Dtype) →
    length (left_lines ls ds)
    ≡ length (select name_line ls) + length (program_lines ds nothing).written.args + total (types_of ds) + length (program_lines ds nothing).lines
unfolding left_lines
left_length ls ds =
    let r : Lines = program_lines ds nothing in
    let h : length r.written.types ≡ total (types_of ds) = omega (arith, (program_adds ds nothing).types_count) in
    rw (length-append, length-append, length-append, length-map, length-map, h)

-- a prefix of the program has no longer a left sheet
pub left_length_prefix : (ls ms : List Line) (ds es : List Dtype) → select name_line ls ≡ select name_line ms →
    length (left_lines ls ds) ≤ length (left_lines ms (ds ++ es))
left_length_prefix ls ms ds es e =
    let w : Written = (program_lines ds nothing).written in
    let g : length w.args ≤ length (program_lines es w).written.args = grows_args (program_adds es w).grows in
    rw (left_length ls ds, left_length ms (ds ++ es), e, program_append_written ds es nothing, program_append_lines ds es nothing, types_of_append ds es, total_append (types_of ds) (types_of es), length-append) (omega arith)

-- ---- bytes
-- A line as long as the others: a text that is not too long, or five numbers.
abbrev pub Sized : ℕ → Line → Type 0
Sized w (named n t) = length t ≤ text_bytes w
Sized w (row x ns) = length ns ≡ 5
Sized w bad = ⊥

pub fits_sized : (w : ℕ) (l : Line) → Fits w l → Sized w l
fits_sized w (named n t) h = h.2
fits_sized w (row x ns) h = h.1
fits_sized w bad h = h

pub encode_sized : (w : ℕ) (l : Line) → Sized w l → length (encode w l) ≡ line_bytes w
encode_sized w (named n t) h = named_length w n t h
encode_sized w (row x ns) h = row_length w x ns h
encode_sized w bad h = absurd h

pub encodes_sized : (w : ℕ) (ls : List Line) → Every (Sized w) ls → length (encodes w ls) ≡ line_bytes w * length ls
unfolding encodes
encodes_sized w [] h = omega arith
encodes_sized w (l ∷ ls) h = rw (length-append, encode_sized w l h.0, encodes_sized w ls h.1, mul-suc) (omega arith)

pub every_select : (P : Line → Type 0) (x : ℕ) (ls : List Line) → Every P ls → Every P (select x ls)
unfolding select
every_select P x [] h = tt
every_select P x (l ∷ ls) h = go (is x l) (every_select P x ls h.1)
  where
    go : (b : Bool) → Every P (select x ls) → Every P (pick b (l ∷ select x ls) (select x ls))
    go true k = (h.0, k)
    go false k = k

pub select_letter : (x : ℕ) (ls : List Line) → Every (λ l. letter l ≡ x) (select x ls)
unfolding select
select_letter x [] = tt
select_letter x (l ∷ ls) = go (is x l) refl (select_letter x ls)
  where
    go : (b : Bool) → is x l ≡ b → Every (λ m. letter m ≡ x) (select x ls) → Every (λ m. letter m ≡ x) (pick b (l ∷ select x ls) (select x ls))
    go true e k = (eqb-true (letter l) x e, k)
    go false e k = k

-- what holds of each part of the left sheet
pub left_every : (P : Line → Type 0) (ls : List Line) (ds : List Dtype) → Every P (select name_line ls) →
    Every (λ n. P (row arg_line (n ∷ 0 ∷ 0 ∷ 0 ∷ 0 ∷ []))) (program_lines ds nothing).written.args →
    Every (λ ns. P (row type_line ns)) (program_lines ds nothing).written.types →
    Every P (program_lines ds nothing).lines → Every P (left_lines ls ds)
unfolding left_lines
left_every P ls ds hn ha hy hl =
    let r : Lines = program_lines ds nothing in
    let x : ℕ → Line = λ n. row arg_line (n ∷ 0 ∷ 0 ∷ 0 ∷ 0 ∷ []) in
    let ns = select name_line ls in
    let xs = map x r.written.args in
    let ys = map (row type_line) r.written.types in
    every_append P (ns ++ xs ++ ys) r.lines
    (every_append P (ns ++ xs) ys (every_append P ns xs hn (every_over P x r.written.args ha)) (every_over P (row type_line) r.written.types hy))
    hl

-- ---- lines with five numbers
-- the letter is one of L's, and each of the five numbers one of Q's
abbrev pub RowOf : (ℕ → Type 0) → (ℕ → Type 0) → Line → Type 0
RowOf L Q (named n t) = ⊥
RowOf L Q (row x ns) = L x × (length ns ≡ 5) × Every Q ns
RowOf L Q bad = ⊥

-- Q holds of each number of a type, but for the sign of an integer, of which S holds
module _ (S Q : ℕ → Type 0) where
  abbrev mutual
    pub TypeNumbers : Cty → Type 0
    TypeNumbers TUnit = Unit {0}
    TypeNumbers TAny = Unit {0}
    TypeNumbers TExn = Unit {0}
    TypeNumbers (TVar v) = Q v
    TypeNumbers (TInt s x) = S s × Q x
    TypeNumbers (TFloat f) = Q f
    TypeNumbers (TConst c) = Q c
    TypeNumbers (TArrow a e b) = TypeNumbers a × Q e × TypeNumbers b
    TypeNumbers (TApp n ts) = Q n × TypesNumbers ts
    TypeNumbers (TTuple ts) = TypesNumbers ts
    TypeNumbers (TBuf t) = TypeNumbers t
    TypeNumbers (TRef k t) = Q k × TypeNumbers t
    TypeNumbers (TInline t) = TypeNumbers t

    pub TypesNumbers : Ctys → Type 0
    TypesNumbers nil = Unit {0}
    TypesNumbers (cons t ts) = TypeNumbers t × TypesNumbers ts

-- Q holds of those of a declaration that do not stand in its types
module _ (Q : ℕ → Type 0) where
  abbrev pub FieldNumbers : Field → Type 0
  FieldNumbers f = Q f.fd_name

  abbrev pub CtorNumbers : Ctor → Type 0
  CtorNumbers c = Q c.ct_name × Q (length c.ct_fields) × Every FieldNumbers c.ct_fields

  abbrev pub BodyNumbers : Body → Type 0
  BodyNumbers TAbstract = Unit {0}
  BodyNumbers (TAbbrev c) = Unit {0}
  BodyNumbers (TRecord fs) = Q (length fs) × Every FieldNumbers fs
  BodyNumbers (TVariant cs) = Q (length cs) × Every CtorNumbers cs

  pub record DtypeNumbers (d : Dtype) : Type 0 where
    pub name : Q d.dt_name
    pub flags : Q d.dt_flags
    pub arity : Q (length d.dt_params)
    pub params : Every Q d.dt_params
    pub body : BodyNumbers d.dt_body

-- what holds of all numbers holds of these
module _ (Q : ℕ → Type 0) (q : (n : ℕ) → Q n) where
  pub numbers_every : (ns : List ℕ) → Every Q ns
  numbers_every ns = mem_every Q ns (λ n m. q n)

  mutual
    pub numbers_all : (c : Cty) → TypeNumbers Q Q c
    numbers_all TUnit = tt
    numbers_all TAny = tt
    numbers_all TExn = tt
    numbers_all (TVar v) = q v
    numbers_all (TInt s x) = (q s, q x)
    numbers_all (TFloat f) = q f
    numbers_all (TConst c) = q c
    numbers_all (TArrow a e b) = (numbers_all a, q e, numbers_all b)
    numbers_all (TApp n ts) = (q n, types_numbers_all ts)
    numbers_all (TTuple ts) = types_numbers_all ts
    numbers_all (TBuf t) = numbers_all t
    numbers_all (TRef k t) = (q k, numbers_all t)
    numbers_all (TInline t) = numbers_all t

    pub types_numbers_all : (ts : Ctys) → TypesNumbers Q Q ts
    types_numbers_all nil = tt
    types_numbers_all (cons t ts) = (numbers_all t, types_numbers_all ts)

  fields_all : (fs : List Field) → Every (FieldNumbers Q) fs
  fields_all fs = mem_every (FieldNumbers Q) fs (λ f m. q f.fd_name)

  body_all : (b : Body) → BodyNumbers Q b
  body_all TAbstract = tt
  body_all (TAbbrev c) = tt
  body_all (TRecord fs) = (q (length fs), fields_all fs)
  body_all (TVariant cs) = (q (length cs), mem_every (CtorNumbers Q) cs (λ c m. (q c.ct_name, q (length c.ct_fields), fields_all c.ct_fields)))

  pub dtype_all : (d : Dtype) → DtypeNumbers Q d
  dtype_all d = record { name = q d.dt_name; flags = q d.dt_flags; arity = q (length d.dt_params); params = numbers_every d.dt_params; body = body_all d.dt_body }

-- Q holds of kinds, and of the numbers of lines up to T
module _ (Q : ℕ → Type 0) (T : ℕ) (kind : (n : ℕ) → n ≤ 12 → Q n) (small : (n : ℕ) → n ≤ T → Q n) where
  -- what is written has no more than T lines of a letter
  pub record Room (w : Written) : Type 0 where
    pub args_room : length w.args ≤ T
    pub types_room : length w.types ≤ T

  pub room_back : {w v : Written} → Grows w v → Room v → Room w
  room_back g r = record { args_room = omega (arith, grows_args g, r.args_room); types_room = omega (arith, grows_types g, r.types_room) }

  -- five numbers in each Y line, and Q holds of every number
  pub record Good (w : Written) : Type 0 where
    pub args_good : Every Q w.args
    pub types_good : Every (λ ns. (length ns ≡ 5) × Every Q ns) w.types

  good_put : (w : Written) (k a b c : ℕ) → k ≤ 12 → Q a → Q b → Q c → Good w → Good (put w k a b c)
  unfolding put
  good_put w k a b c h qa qb qc g =
      record {
        args_good = g.args_good;
        types_good = every_append (λ ns. (length ns ≡ 5) × Every Q ns) w.types ((k ∷ a ∷ b ∷ c ∷ 0 ∷ []) ∷ []) g.types_good ((refl, (kind k h, (qa, (qb, (qc, (kind 0 (omega arith), tt)))))), tt);
      }

  none : Q 0
  none = kind 0 (omega arith)

  last_small : (w : Written) → Room w → Q (last w)
  last_small w r = small (last w) (omega (arith, r.types_room))

  first_small : (m : Members) → Room m.written → Q (first_arg m)
  first_small m r = go (eqb (length m.numbers) 0)
    where
      go : (b : Bool) → Q (pick b 0 (length m.written.args))
      go true = none
      go false = small (length m.written.args) r.args_room

  good_listed : (m : Members) → Good m.written → Every Q m.numbers → Good (listed m)
  good_listed m g h = record { args_good = every_append Q m.written.args m.numbers g.args_good h; types_good = g.types_good }

  count_small : (m : Members) → Room (listed m) → Q (length m.numbers)
  count_small m r = small (length m.numbers) (omega (arith, r.args_room, length-append m.written.args m.numbers))

  mutual
    unfolding emit

    pub emit_good : (c : Cty) (w : Written) → TypeNumbers Q Q c → Room (emit c w) → Good w → Good (emit c w)
    emit_good TUnit w h r g = good_put w 0 0 0 0 (omega arith) none none none g
    emit_good TAny w h r g = good_put w 1 0 0 0 (omega arith) none none none g
    emit_good TExn w h r g = good_put w 2 0 0 0 (omega arith) none none none g
    emit_good (TVar v) w h r g = good_put w 3 v 0 0 (omega arith) h none none g
    emit_good (TInt s x) w h r g = good_put w 4 s x 0 (omega arith) h.0 h.1 none g
    emit_good (TFloat f) w h r g = good_put w 5 f 0 0 (omega arith) h none none g
    emit_good (TConst c) w h r g = good_put w 6 c 0 0 (omega arith) h none none g
    emit_good (TArrow a e b) w h r g =
        let x : Written = emit a w in
        let y : Written = emit b x in
        let ry : Room y = room_back (grows_put y 7 (last x) e (last y)) r in
        let rx : Room x = room_back (emit_adds b x).grows ry in
        good_put y 7 (last x) e (last y) (omega arith) (last_small x rx) h.1 (last_small y ry) (emit_good b x h.2 ry (emit_good a w h.0 rx g))
    emit_good (TApp n ts) w h r g =
        let m : Members = emits ts w in
        let rl : Room (listed m) = room_back (grows_put (listed m) 8 n (first_arg m) (length m.numbers)) r in
        let rm : Room m.written = room_back (grows_listed m) rl in
        let k = emits_good ts w h.1 rm g in
        good_put (listed m) 8 n (first_arg m) (length m.numbers) (omega arith) h.0 (first_small m rm) (count_small m rl) (good_listed m k.0 k.1)
    emit_good (TTuple ts) w h r g =
        let m : Members = emits ts w in
        let rl : Room (listed m) = room_back (grows_put (listed m) 9 (first_arg m) (length m.numbers) 0) r in
        let rm : Room m.written = room_back (grows_listed m) rl in
        let k = emits_good ts w h rm g in
        good_put (listed m) 9 (first_arg m) (length m.numbers) 0 (omega arith) (first_small m rm) (count_small m rl) none (good_listed m k.0 k.1)
    emit_good (TBuf t) w h r g =
        let x : Written = emit t w in
        let rx : Room x = room_back (grows_put x 10 (last x) 0 0) r in
        good_put x 10 (last x) 0 0 (omega arith) (last_small x rx) none none (emit_good t w h rx g)
    emit_good (TRef k t) w h r g =
        let x : Written = emit t w in
        let rx : Room x = room_back (grows_put x 11 k (last x) 0) r in
        good_put x 11 k (last x) 0 (omega arith) h.0 (last_small x rx) none (emit_good t w h.1 rx g)
    emit_good (TInline t) w h r g =
        let x : Written = emit t w in
        let rx : Room x = room_back (grows_put x 12 (last x) 0 0) r in
        good_put x 12 (last x) 0 0 (omega arith) (last_small x rx) none none (emit_good t w h rx g)

    pub emits_good : (ts : Ctys) (w : Written) → TypesNumbers Q Q ts → Room (emits ts w).written → Good w → Good (emits ts w).written × Every Q (emits ts w).numbers
    emits_good nil w h r g = (g, tt)
    emits_good (cons t ts) w h r g =
        let x : Written = emit t w in
        let rx : Room x = room_back (emits_adds ts x).0.grows r in
        let k = emits_good ts x h.1 r (emit_good t w h.0 rx g) in
        (k.0, (last_small x rx, k.1))

  pub emit_all_good : (cs : List Cty) (w : Written) → Every (TypeNumbers Q Q) cs → Room (emit_all cs w) → Good w → Good (emit_all cs w)
  unfolding emit_all
  emit_all_good [] w h r g = g
  emit_all_good (c ∷ cs) w h r g =
      emit_all_good cs (emit c w) h.1 r (emit_good c w h.0 (room_back (emit_all_adds cs (emit c w)).grows r) g)

  -- the letters of a declaration's lines
  module _ (L : ℕ → Type 0) (ld : L local_line) (lp : L param_line) (lc : L ctor_line) (lf : L field_line) (lv : L verdict_line) where
    pub field_rows : (fs : List Field) (w : Written) → Every (FieldNumbers Q) fs → Room (field_lines fs w).written → Every (RowOf L Q) (field_lines fs w).lines
    unfolding field_lines
    field_rows [] w h r = tt
    field_rows (f ∷ fs) w h r =
        let x : Written = emit f.fd_type w in
        ((lf, refl, (h.0, (last_small x (room_back (field_adds fs x).grows r), (none, (none, (none, tt)))))), field_rows fs x h.1 r)

    pub ctor_rows : (cs : List Ctor) (w : Written) → Every (CtorNumbers Q) cs → Room (ctor_lines cs w).written → Every (RowOf L Q) (ctor_lines cs w).lines
    unfolding ctor_lines
    ctor_rows [] w h r = tt
    ctor_rows (c ∷ cs) w h r =
        let x : Lines = field_lines c.ct_fields w in
        let k = h.0 in (
          (lc, refl, (k.0, (k.1, (none, (none, (none, tt)))))),
          every_append (RowOf L Q) x.lines (ctor_lines cs x.written).lines (field_rows c.ct_fields w k.2 (room_back (ctor_adds cs x.written).grows r)) (ctor_rows cs x.written h.1 r),
        )

    pub frame_rows : (d : Dtype) (k end : ℕ) (ls : List Line) → DtypeNumbers Q d → k ≤ 12 → Q end → Every (RowOf L Q) ls → Every (RowOf L Q) (decl_frame d k end ls)
    unfolding decl_frame
    frame_rows d k end ls h l q e =
        let v : List Line = row verdict_line (0 ∷ 0 ∷ 0 ∷ 0 ∷ 0 ∷ []) ∷ [] in
        let p : ℕ → Line = λ n. row param_line (n ∷ 0 ∷ 0 ∷ 0 ∷ 0 ∷ []) in (
          (ld, refl, (h.name, (h.flags, (kind k l, (h.arity, (q, tt)))))),
          every_append (RowOf L Q) (map p d.dt_params ++ ls) v
              (every_append (RowOf L Q) (map p d.dt_params) ls (every_over (RowOf L Q) p d.dt_params (every_map Q (λ n. RowOf L Q (p n)) (λ n m. (lp, refl, (m, (none, (none, (none, (none, tt))))))) d.dt_params h.params)) e)
              ((lv, refl, (none, (none, (none, (none, (none, tt)))))), tt),
        )

    pub decl_rows : (d : Dtype) (b : Body) (w : Written) → DtypeNumbers Q d → BodyNumbers Q b → Room (decl_lines d b w).written → Every (RowOf L Q) (decl_lines d b w).lines
    unfolding decl_lines
    decl_rows d TAbstract w h k r = frame_rows d 0 0 [] h (omega arith) none tt
    decl_rows d (TAbbrev c) w h k r = frame_rows d 1 (last (emit c w)) [] h (omega arith) (last_small (emit c w) r) tt
    decl_rows d (TRecord fs) w h k r = frame_rows d 2 (length fs) (field_lines fs w).lines h (omega arith) k.0 (field_rows fs w k.1 r)
    decl_rows d (TVariant cs) w h k r = frame_rows d 3 (length cs) (ctor_lines cs w).lines h (omega arith) k.0 (ctor_rows cs w k.1 r)

    pub program_rows : (ds : List Dtype) (w : Written) → Every (DtypeNumbers Q) ds → Room (program_lines ds w).written → Every (RowOf L Q) (program_lines ds w).lines
    unfolding program_lines
    program_rows [] w h r = tt
    program_rows (d ∷ ds) w h r =
        let x : Lines = decl_lines d d.dt_body w in
        every_append (RowOf L Q) x.lines (program_lines ds x.written).lines
        (decl_rows d d.dt_body w h.0 h.0.body (room_back (program_adds ds x.written).grows r))
        (program_rows ds x.written h.1 r)

    -- Every line of the left sheet is an N line of the input or a line of these letters, with five numbers of which Q holds.
    pub left_rows : (ls : List Line) (ds : List Dtype) (P : Line → Type 0) → L arg_line → L type_line → ((l : Line) → RowOf L Q l → P l) → Every P (select name_line ls) →
        Every (TypeNumbers Q Q) (types_of ds) → Every (DtypeNumbers Q) ds → total (types_of ds) ≤ T → Every P (left_lines ls ds)
    left_rows ls ds P la ly f hn ht hd t =
        let r : Lines = program_lines ds nothing in
        let a = program_adds ds nothing in
        let room : Room r.written = record { args_room = omega (arith, a.args_count); types_room = omega (arith, a.types_count) } in
        let good : Good r.written = rw (program_written ds nothing) (emit_all_good (types_of ds) nothing ht (rw (program_written ds nothing) at room) (record { args_good = tt; types_good = tt })) in
        let x : ℕ → Line = λ n. row arg_line (n ∷ 0 ∷ 0 ∷ 0 ∷ 0 ∷ []) in
        left_every P ls ds hn
        (every_map Q (λ n. P (x n)) (λ n m. f (x n) (la, refl, (m, (none, (none, (none, (none, tt))))))) r.written.args good.args_good)
        (every_map (λ ns. (length ns ≡ 5) × Every Q ns) (λ ns. P (row type_line ns)) (λ ns m. f (row type_line ns) (ly, m.0, m.1)) r.written.types good.types_good)
        (every_map (RowOf L Q) P f r.lines (program_rows ds nothing hd room))

-- ---- every line of the left sheet is as long as the others
row_sized : (w : ℕ) (L Q : ℕ → Type 0) (l : Line) → RowOf L Q l → Sized w l
row_sized w L Q (named n t) h = absurd h
row_sized w L Q (row x ns) h = h.1
row_sized w L Q bad h = absurd h

pub left_sized : (w : ℕ) (ls : List Line) (ds : List Dtype) → Every (Sized w) ls → Every (Sized w) (left_lines ls ds)
left_sized w ls ds h =
    let U : ℕ → Type 0 = λ n. Unit {0} in
    left_rows U (total (types_of ds)) (λ n k. tt) (λ n k. tt) U tt tt tt tt tt ls ds (Sized w) tt tt (row_sized w U U) (every_select (Sized w) name_line ls h)
    (mem_every (TypeNumbers U U) (types_of ds) (λ c m. numbers_all U (λ n. tt) c)) (mem_every (DtypeNumbers U) ds (λ d m. dtype_all U (λ n. tt) d)) (omega arith)

pub left_bytes : (w : ℕ) (ls : List Line) (ds : List Dtype) → Every (Sized w) ls → length (encodes w (left_lines ls ds)) ≡ line_bytes w * length (left_lines ls ds)
left_bytes w ls ds h = encodes_sized w (left_lines ls ds) (left_sized w ls ds h)

-- a prefix of the program has no more bytes in its left sheet
pub left_bytes_prefix : (w : ℕ) (ls ms : List Line) (ds es : List Dtype) → Every (Sized w) ls → Every (Sized w) ms → select name_line ls ≡ select name_line ms →
    length (encodes w (left_lines ls ds)) ≤ length (encodes w (left_lines ms (ds ++ es)))
left_bytes_prefix w ls ms ds es h k e =
    rw (left_bytes w ls ds h, left_bytes w ms (ds ++ es) k) (mul-le-mul_left (line_bytes w) (left_length_prefix ls ms ds es e))

-- ---- every line of the left sheet fits
row_fits : (w : ℕ) (l : Line) → RowOf (λ x. lettered x ≡ true) (λ n. n < 10 ^ w) l → Fits w l
row_fits w (named n t) h = absurd h
row_fits w (row x ns) h = (h.0, h.1, h.2)
row_fits w bad h = absurd h

-- every number of the program fits w columns, and so does the number of nodes of its types
pub record ProgramFits (w : ℕ) (ds : List Dtype) : Type 0 where
  pub kinds : 12 < 10 ^ w
  pub nodes : total (types_of ds) < 10 ^ w
  pub types : Every (TypeNumbers (λ n. n < 10 ^ w) (λ n. n < 10 ^ w)) (types_of ds)
  pub decls : Every (DtypeNumbers (λ n. n < 10 ^ w)) ds

pub left_fits : (w : ℕ) (ls : List Line) (ds : List Dtype) → AllFit w ls → ProgramFits w ds → AllFit w (left_lines ls ds)
unfolding lettered
left_fits w ls ds h p =
    let Q : ℕ → Type 0 = λ n. n < 10 ^ w in
    let L : ℕ → Type 0 = λ x. lettered x ≡ true in
    (left_rows Q (total (types_of ds)) (λ n k. omega (arith, p.kinds)) (λ n k. omega (arith, p.nodes)) L refl refl refl refl refl ls ds (Fits w) refl refl (row_fits w) (every_select (Fits w) name_line ls h) p.types p.decls (omega arith))

-- the lines of the left sheet's bytes
pub left_round : (w : ℕ) (ls : List Line) (ds : List Dtype) → 0 < w → AllFit w ls → ProgramFits w ds → lines w (encodes w (left_lines ls ds)) ≡ left_lines ls ds
left_round w ls ds z h p = lines_encodes w (left_lines ls ds) z (left_fits w ls ds h p)

-- types of at most m nodes each
pub total_bound : (m : ℕ) (cs : List Cty) → Every (λ c. size c ≤ m) cs → total cs ≤ m * length cs
unfolding total
total_bound m [] h = omega arith
total_bound m (c ∷ cs) h = omega (arith, h.0, total_bound m cs h.1, mul-suc m (length cs))

-- ---- names in the left sheet's types
-- P holds of each name of a type
abbrev pub NamesIn : (ℕ → Type 0) → Cty → Type 0
NamesIn P c = (n : ℕ) → Memᴰ n (names_of_cty c) → P n

-- P holds of the name of a Y line of kind `TApp`
abbrev pub AppName : (ℕ → Type 0) → List ℕ → Type 0
AppName P ns = get_or ns 0 0 ≡ 8 → P (get_or ns 1 0)

module _ (P : ℕ → Type 0) where
  put_names : (w : Written) (k a b c : ℕ) → (k ≡ 8 → P a) → Every (AppName P) w.types → Every (AppName P) (put w k a b c).types
  unfolding put
  put_names w k a b c p h = every_append (AppName P) w.types ((k ∷ a ∷ b ∷ c ∷ 0 ∷ []) ∷ []) h (p, tt)

  mutual
    unfolding emit names_of_cty gather

    pub emit_names : (c : Cty) (w : Written) → NamesIn P c → Every (AppName P) w.types → Every (AppName P) (emit c w).types
    emit_names TUnit w h k = put_names w 0 0 0 0 (λ e. absurd (omega arith)) k
    emit_names TAny w h k = put_names w 1 0 0 0 (λ e. absurd (omega arith)) k
    emit_names TExn w h k = put_names w 2 0 0 0 (λ e. absurd (omega arith)) k
    emit_names (TVar v) w h k = put_names w 3 v 0 0 (λ e. absurd (omega arith)) k
    emit_names (TInt s x) w h k = put_names w 4 s x 0 (λ e. absurd (omega arith)) k
    emit_names (TFloat f) w h k = put_names w 5 f 0 0 (λ e. absurd (omega arith)) k
    emit_names (TConst c) w h k = put_names w 6 c 0 0 (λ e. absurd (omega arith)) k
    emit_names (TArrow a e b) w h k =
        let x : Written = emit a w in
        let y : Written = emit b x in
        put_names y 7 (last x) e (last y) (λ e. absurd (omega arith))
        (emit_names b x (λ n m. h n (Memᴰ.append_right (names_of_cty a) m)) (emit_names a w (λ n m. h n (Memᴰ.append_left (names_of_cty b) m)) k))
    emit_names (TApp n ts) w h k =
        let m : Members = emits ts w in
        put_names (listed m) 8 n (first_arg m) (length m.numbers) (λ e. h n (Memᴰ.head refl)) (emits_names ts w (λ i j. h i (Memᴰ.tail j)) k)
    emit_names (TTuple ts) w h k =
        let m : Members = emits ts w in
        put_names (listed m) 9 (first_arg m) (length m.numbers) 0 (λ e. absurd (omega arith)) (emits_names ts w h k)
    emit_names (TBuf t) w h k = put_names (emit t w) 10 (last (emit t w)) 0 0 (λ e. absurd (omega arith)) (emit_names t w h k)
    emit_names (TRef j t) w h k = put_names (emit t w) 11 j (last (emit t w)) 0 (λ e. absurd (omega arith)) (emit_names t w h k)
    emit_names (TInline t) w h k = put_names (emit t w) 12 (last (emit t w)) 0 0 (λ e. absurd (omega arith)) (emit_names t w h k)

    pub emits_names : (ts : Ctys) (w : Written) → ((n : ℕ) → Memᴰ n (gathers (λ v. []) (λ m. m ∷ []) ts) → P n) → Every (AppName P) w.types → Every (AppName P) (emits ts w).written.types
    emits_names nil w h k = k
    emits_names (cons t ts) w h k =
        emits_names ts (emit t w) (λ n m. h n (Memᴰ.append_right (names_of_cty t) m))
        (emit_names t w (λ n m. h n (Memᴰ.append_left (gathers (λ v. []) (λ m. m ∷ []) ts) m)) k)

  pub emit_all_names : (cs : List Cty) (w : Written) → Every (NamesIn P) cs → Every (AppName P) w.types → Every (AppName P) (emit_all cs w).types
  unfolding emit_all
  emit_all_names [] w h k = k
  emit_all_names (c ∷ cs) w h k = emit_all_names cs (emit c w) h.1 (emit_names c w h.0 k)

  -- P holds of the name of each written line that is a Y line of kind `TApp`
  abbrev pub AppLine : Line → Type 0
  AppLine l = letter l ≡ type_line → number l 0 ≡ 8 → P (number l 1)

  other_letter : (l : Line) → (letter l ≡ type_line → ⊥) → AppLine l
  other_letter l n e k = absurd (n e)

  select_app : (ls : List Line) → Every AppLine (select name_line ls)
  select_app ls = every_map (λ l. letter l ≡ name_line) AppLine (λ l e. other_letter l (λ k. omega arith)) (select name_line ls) (select_letter name_line ls)

  row_app : (l : Line) → RowOf (λ x. x ≡ type_line → ⊥) (λ n. Unit {0}) l → AppLine l
  row_app (named n t) h = absurd h
  row_app (row x ns) h = other_letter (row x ns) h.0
  row_app bad h = absurd h

  left_apps : (ls : List Line) (ds : List Dtype) → Every (NamesIn P) (types_of ds) → Every AppLine (left_lines ls ds)
  left_apps ls ds h =
      let r : Lines = program_lines ds nothing in
      let U : ℕ → Type 0 = λ n. Unit {0} in
      let L : ℕ → Type 0 = λ x. x ≡ type_line → ⊥ in
      let T : ℕ = length r.written.args + length r.written.types in
      let names : Every (AppName P) r.written.types = rw (program_written ds nothing) (emit_all_names (types_of ds) nothing h tt) in
      left_every AppLine ls ds (select_app ls)
      (mem_every (λ n. AppLine (row arg_line (n ∷ 0 ∷ 0 ∷ 0 ∷ 0 ∷ []))) r.written.args (λ n k e. absurd (omega arith)))
      (every_map (AppName P) (λ ns. AppLine (row type_line ns)) (λ ns k e. k) r.written.types names)
      (every_map (RowOf L U) AppLine row_app r.lines
      (program_rows U T (λ n k. tt) (λ n k. tt) L (λ e. omega arith) (λ e. omega arith) (λ e. omega arith) (λ e. omega arith) (λ e. omega arith) ds nothing (mem_every (DtypeNumbers U) ds (λ d m. dtype_all U (λ n. tt) d)) (record { args_room = omega arith; types_room = omega arith })))

  -- What holds of all names of the program's types holds of the name of each `TApp` line of its left sheet.
  pub left_names : (ls : List Line) (ds : List Dtype) → Every (NamesIn P) (types_of ds) → (l : Line) → Memᴰ l (left_lines ls ds) → letter l ≡ type_line → number l 0 ≡ 8 → P (number l 1)
  left_names ls ds h l m = every_mem AppLine (left_lines ls ds) (left_apps ls ds h) l m

-- ---- the verdict sheet
-- where numbers of two digits fit, there are columns
pub columns_positive : (w : ℕ) → 12 < 10 ^ w → 0 < w
columns_positive zero h = absurd (omega arith)
columns_positive (suc w) h = omega arith

-- any column holds a digit
pub ten : (w : ℕ) → 0 < w → 4 < 10 ^ w
ten zero h = absurd (omega arith)
ten (suc w) h = omega (arith, ten_pos w)

-- every line that is filled in fits where the lines do
module _ (w : ℕ) (four : 4 < 10 ^ w) where
  get_or_below : (ns : List ℕ) (k : ℕ) → AllBelow (10 ^ w) ns → get_or ns k 0 < 10 ^ w
  get_or_below [] k h = omega arith
  get_or_below (n ∷ ns) zero h = h.0
  get_or_below (n ∷ ns) (suc k) h = get_or_below ns k h.1

  pub number_fits : (l : Line) (k : ℕ) → Fits w l → number l k < 10 ^ w
  number_fits (named n t) k h = get_or_below (n ∷ []) k (h.0, tt)
  number_fits (row x ns) k h = get_or_below ns k h.2
  number_fits bad k h = absurd h

  bit_fits : (b : Bool) → bit b < 10 ^ w
  bit_fits true = omega arith
  bit_fits false = omega arith

  layout_fits : (l : Layout) → layout_number l < 10 ^ w
  unfolding layout_number
  layout_fits L_erased = omega arith
  layout_fits (L_newtype nt) = omega arith
  layout_fits (L_struct cls) = omega arith
  layout_fits (L_abbrev c) = omega arith
  layout_fits L_opaque = omega arith

  zero_fits : 0 < 10 ^ w
  zero_fits = omega arith

  third_fit : (x : ℕ) → lettered x ≡ true → (ns : List ℕ) → AllBelow (10 ^ w) ns → (ls : List Line) → Every (Fits w) ls → Every (Fits w) (fill_third x ns ls)
  unfolding fill_third
  third_fit x t ns b [] h = tt
  third_fit x t [] b (l ∷ ls) h = (h.0, third_fit x t [] tt ls h.1)
  third_fit x t (n ∷ ns) b (l ∷ ls) h = go (is x l) (third_fit x t ns b.1 ls h.1) (third_fit x t (n ∷ ns) b ls h.1)
    where
      go : (c : Bool) → Every (Fits w) (fill_third x ns ls) → Every (Fits w) (fill_third x (n ∷ ns) ls) →
          Every (Fits w) (elim c [ true ↦ third_line x n l ∷ fill_third x ns ls | false ↦ l ∷ fill_third x (n ∷ ns) ls ])
      go true i j = ((t, refl, (number_fits l 0 h.0, (number_fits l 1 h.0, (b.0, (zero_fits, (zero_fits, tt)))))), i)
      go false i j = (h.0, j)

  bits_below : (bs : List Bool) → AllBelow (10 ^ w) (map bit bs)
  bits_below [] = tt
  bits_below (b ∷ bs) = (bit_fits b, bits_below bs)

  verdict_fit : (ti : TypeInfo) (ls : List Line) → Every (Fits w) ls → Every (Fits w) (fill_verdict ti ls)
  unfolding fill_verdict lettered
  verdict_fit ti ls h =
      let v : Line = row verdict_line (bit ti.ti_erased ∷ layout_number ti.ti_layout ∷ bit ti.ti_record ∷ 0 ∷ 0 ∷ []) in
      every_over (Fits w) (λ l. pick (is verdict_line l) v l) ls (every_map (Fits w) (λ l. Fits w (pick (is verdict_line l) v l)) (λ l k. go l (is verdict_line l) k) ls h)
    where
      go : (l : Line) (c : Bool) → Fits w l → Fits w (pick c (row verdict_line (bit ti.ti_erased ∷ layout_number ti.ti_layout ∷ bit ti.ti_record ∷ 0 ∷ 0 ∷ [])) l)
      go l true k = (refl, refl, (bit_fits ti.ti_erased, (layout_fits ti.ti_layout, (bit_fits ti.ti_record, (zero_fits, (zero_fits, tt))))))
      go l false k = k

  -- a tag's number is at most how many constructors there are
  tags_below : (er : ℕ → Bool) (tag : ℕ → Option ℕ) (cs : List Ctor) → ((i : ℕ) → i < length cs → tag_number (tag i) < 10 ^ w) → AllBelow (10 ^ w) (map tag_number_of (layouts_of_ctors er tag cs))
  unfolding table ctor_layout
  tags_below er tag [] h = tt
  tags_below er tag (c ∷ cs) h = (h 0 (omega arith), tags_below er (λ i. tag (suc i)) cs (λ i k. h (suc i) (omega arith)))

  ctor_tag_below : (n i : ℕ) → n < 10 ^ w → i < n → tag_number (ctor_tag n i) < 10 ^ w
  ctor_tag_below n i b h = go (eqb n 1)
    where
      go : (c : Bool) → tag_number (pick c no_tag (some i)) < 10 ^ w
      go true = zero_fits
      go false = omega arith

  ctors_below : (g : Group) → Whole g → Fits w g.head → count_of ctor_line g.rest < 10 ^ w
  ctors_below g v h = go (leb (number g.head 2) 1) (eqb (number g.head 2) 2) refl refl
    where
      go : (a b : Bool) → leb (number g.head 2) 1 ≡ a → eqb (number g.head 2) 2 ≡ b → count_of ctor_line g.rest < 10 ^ w
      go true b p q = omega (arith, (v.bare (leb-true (number g.head 2) 1 p)).1)
      go false true p q = omega (arith, (v.fields (eqb-true (number g.head 2) 2 q)).1)
      go false false p q =
          let e : number g.head 2 ≡ 3 = omega (arith, v.kinds, leb-false (number g.head 2) 1 p, eqb-false (number g.head 2) 2 q) in
          omega (arith, v.ctors e, number_fits g.head 4 h)

  -- the tags of a local declaration
  told_below : (ts : List Cty) (g : Group) (ti : TypeInfo) → Whole g → Coherent (close_fields (dtype_of ts g)) ti → Fits w g.head → AllBelow (10 ^ w) (map tag_number_of ti.ti_ctors)
  unfolding ctor_layouts close_fields dtype_of
  told_below ts g ti v c h =
      let d : Dtype = close_fields (dtype_of ts g) in
      let cs : List Ctor = ctors_of_tydef d in
      rw c.ctors (tags_below c.erasing (ctor_tag (length cs)) cs (λ i k. ctor_tag_below (length cs) i (few (ctors_counted d.dt_params ts d.dt_name g v)) k))
    where
      few : {n m : ℕ} → (n ≡ count_of ctor_line g.rest) ⊎ ((n ≡ 1) × (m ≡ 0)) → n < 10 ^ w
      few (inl e) = omega (arith, ctors_below g v h)
      few (inr e) = omega (arith, e.0)

  fill_fits : (ts : List Cty) (g : Group) (ti : TypeInfo) → Whole g → Told (decl_of ts g) ti → Every (Fits w) (g.head ∷ g.rest) → Every (Fits w) (fill g ti)
  unfolding fill lettered decl_of
  fill_fits ts g ti v t h = go (is import_line g.head) t
    where
      go : (c : Bool)
          → Told (record { dtype = close_fields (dtype_of ts g); origin = pick c (imported (info_of (close_fields (dtype_of ts g)) g.rest (verdict_of g.rest))) here }) ti
          → Every (Fits w) (elim c [
            | true ↦ g.head ∷ g.rest
            | false ↦ row import_line (map (number g.head) (0 ∷ 1 ∷ 2 ∷ 3 ∷ 4 ∷ [])) ∷ fill_rest ti g.rest
          ])
      go true u = h
      go false u =
          let f : (k : ℕ) → number g.head k < 10 ^ w = λ k. number_fits g.head k h.0 in
          let bs : List Bool = all_slots ti.ti_ctors in (
            (refl, refl, (f 0, (f 1, (f 2, (f 3, (f 4, tt)))))),
            third_fit ctor_line refl (map tag_number_of ti.ti_ctors) (told_below ts g ti v u h.0) (fill_told ti g.rest)
                (verdict_fit ti (fill_keeps bs g.rest) (third_fit field_line refl (map bit bs) (bits_below bs) g.rest h.1)),
          )

  fill_all_fits : (ts : List Cty) (gs : List Group) (tis : List TypeInfo) → AllWhole gs → AllTold (map (decl_of ts) gs) tis → Every (Fits w) (flat gs) → Every (Fits w) (fill_all gs tis)
  unfolding fill_all flat
  fill_all_fits ts [] tis v t h = tt
  fill_all_fits ts (g ∷ gs) [] v t h = tt
  fill_all_fits ts (g ∷ gs) (ti ∷ tis) v t h =
      every_append (Fits w) (fill g ti) (fill_all gs tis)
      (fill_fits ts g ti v.0 t.0 (every_left (Fits w) (g.head ∷ g.rest) (flat gs) h))
      (fill_all_fits ts gs tis v.1 t.1 (every_right (Fits w) (g.head ∷ g.rest) (flat gs) h))

  -- the lines of the verdict sheet fit where the input's do
  pub verdict_fits : (ls : List Line) (tis : List TypeInfo) → AllWhole (groups is_head ls) → AllTold (program ls) tis → AllFit w ls → AllFit w (verdict_lines ls tis)
  unfolding verdict_lines program
  verdict_fits ls tis v t h =
      let p = before is_head ls in
      let q = flat (groups is_head ls) in
      let k : Every (Fits w) (p ++ q) = rw (before_flat is_head ls) h in
      every_append (Fits w) p (fill_all (groups is_head ls) tis) (every_left (Fits w) p q k) (fill_all_fits (trees ls) (groups is_head ls) tis v t (every_right (Fits w) p q k))

-- as many bytes as the lines of the input have, and they read as its lines
pub verdict_bytes : (w : ℕ) (ls : List Line) (tis : List TypeInfo) → 4 < 10 ^ w → AllWhole (groups is_head ls) → AllTold (program ls) tis → AllFit w ls →
    length (encodes w (verdict_lines ls tis)) ≡ line_bytes w * length ls
verdict_bytes w ls tis f v t h = rw (length_encodes w (verdict_lines ls tis) (verdict_fits w f ls tis v t h), length_verdict_lines ls tis (told_groups ls tis t))

pub verdict_round : (w : ℕ) (ls : List Line) (tis : List TypeInfo) → 0 < w → AllWhole (groups is_head ls) → AllTold (program ls) tis → AllFit w ls → lines w (encodes w (verdict_lines ls tis)) ≡ verdict_lines ls tis
verdict_round w ls tis z v t h = lines_encodes w (verdict_lines ls tis) z (verdict_fits w (ten w z) ls tis v t h)
