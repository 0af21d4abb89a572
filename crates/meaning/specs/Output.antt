-- The two sheets that an accepted build writes (FORMAT, section 8), as
-- lines. Assumes nothing.
use Rattle.std.specs.Prelude.{List, [], ◌∷◌, ◌++◌, map, not, Bool, true, false, ℕ, ◌+◌, ◌-◌, eqb, length}
use Rattle.number_columns.specs.Column.{◌⇒◌∥◌, pick}
use Rattle.sheet.specs.Line.{Line, row, number}
use Rattle.model.specs.Cty.{Cty, Ctys, TUnit, TAny, TExn, TVar, TInt, TFloat, TConst, TArrow, TApp, TTuple, TBuf, TRef, TInline, nil, cons}
use Rattle.model.specs.Decl.{Field, Ctor, Body, TAbstract, TAbbrev, TRecord, TVariant, Dtype, CtorLayout, TypeInfo, bit, tag_number, layout_number}
use Rattle.model.specs.Erasure.{cty_erased}
use Rattle.model.specs.Layout.{ctor_tag}
use Rattle.meaning.specs.Program.{
  type_at,
  name_line,
  arg_line,
  type_line,
  local_line,
  import_line,
  param_line,
  ctor_line,
  field_line,
  verdict_line,
  is,
  is_head,
  select,
  before,
  Group,
  groups,
}

-- ---- the verdict sheet
-- a number for each line of letter x, put in as its third
unfoldable pub fill_third : ℕ → List ℕ → List Line → List Line
fill_third x ns [] = []
fill_third x [] (l ∷ ls) = l ∷ fill_third x [] ls
fill_third x (n ∷ ns) (l ∷ ls) =
    elim (is x l) [
      | true ↦ row x (number l 0 ∷ number l 1 ∷ n ∷ 0 ∷ 0 ∷ []) ∷ fill_third x ns ls
      | false ↦ l ∷ fill_third x (n ∷ ns) ls
    ]

-- keep numbers put into the F lines, and tags into the C lines
abbrev pub fill_keeps : List Bool → List Line → List Line
fill_keeps bs = fill_third field_line (map bit bs)

abbrev pub fill_tags : List CtorLayout → List Line → List Line
fill_tags cls = fill_third ctor_line (map (λ cl. tag_number cl.cl_tag) cls)

-- the verdict put into the V line
unfoldable pub fill_verdict : TypeInfo → List Line → List Line
fill_verdict ti ls =
    map (λ l. pick (is verdict_line l) (row verdict_line (bit ti.ti_erased ∷ layout_number ti.ti_layout ∷ bit ti.ti_record ∷ 0 ∷ 0 ∷ [])) l) ls

unfoldable pub all_slots : List CtorLayout → List Bool
all_slots [] = []
all_slots (cl ∷ cls) = cl.cl_slots ++ all_slots cls

-- A local declaration with D made I, its keeps, its V and its tags filled; an import's lines as they are.
unfoldable pub fill : Group → TypeInfo → List Line
fill g ti =
    elim (is import_line g.head) [
      | true ↦ g.head ∷ g.rest
      | false ↦
          row import_line (map (number g.head) (0 ∷ 1 ∷ 2 ∷ 3 ∷ 4 ∷ []))
          ∷ fill_tags ti.ti_ctors (fill_verdict ti (fill_keeps (all_slots ti.ti_ctors) g.rest))
    ]

unfoldable pub fill_all : List Group → List TypeInfo → List Line
fill_all [] tis = []
fill_all (g ∷ gs) [] = []
fill_all (g ∷ gs) (ti ∷ tis) = fill g ti ++ fill_all gs tis

unfoldable pub verdict_lines : List Line → List TypeInfo → List Line
verdict_lines ls tis = before is_head ls ++ fill_all (groups is_head ls) tis

-- The same line by line, which is what is claimed of it. Of a declaration that begins with line h and has
-- the verdict ti, line l with k C lines before it: an import's stays, and so does a line of the header. D
-- becomes I, a C line has the tag of constructor k, of as many as the declaration's last number says, an F
-- line's keep is 1 where its type is not erased (`er` says which names are), and V has the verdict's numbers.
unfoldable pub verdict_line_of : (ℕ → Bool) → List Cty → TypeInfo → Line → ℕ → Line → Line
verdict_line_of er ts ti h k l =
    not (is local_line h) ⇒ l ∥
    is_head l ⇒ row import_line (map (number l) (0 ∷ 1 ∷ 2 ∷ 3 ∷ 4 ∷ [])) ∥
    is ctor_line l ⇒ row ctor_line (number l 0 ∷ number l 1 ∷ tag_number (ctor_tag (number h 4) k) ∷ 0 ∷ 0 ∷ []) ∥
    is field_line l ⇒ row field_line (number l 0 ∷ number l 1 ∷ bit (not (cty_erased er (type_at ts (number l 1)))) ∷ 0 ∷ 0 ∷ []) ∥
    is verdict_line l ⇒ row verdict_line (bit ti.ti_erased ∷ layout_number ti.ti_layout ∷ bit ti.ti_record ∷ 0 ∷ 0 ∷ []) ∥
    l

-- ---- the left sheet
-- the types of the A lines and the numbers of the Y lines that are written so far
pub record Written : Type 0 where
  pub args : List ℕ
  pub types : List (List ℕ)

-- with one more Y line
unfoldable pub put : Written → ℕ → ℕ → ℕ → ℕ → Written
put w kind a b c = record { args = w.args; types = w.types ++ ((kind ∷ a ∷ b ∷ c ∷ 0 ∷ []) ∷ []) }

-- the number of the type that was written last
abbrev pub last : Written → ℕ
last w = length w.types - 1

-- a list's members, written, and their numbers
pub record Members : Type 0 where
  pub written : Written
  pub numbers : List ℕ

-- with an A line for each member
abbrev pub listed : Members → Written
listed m = record { args = m.written.args ++ m.numbers; types = m.written.types }

-- the first of these A lines, 0 where there is none
abbrev pub first_arg : Members → ℕ
first_arg m = pick (eqb (length m.numbers) 0) 0 (length m.written.args)

-- A type's parts from left to right, then its A lines if it has a list, then its own Y line; nothing is
-- shared.
unfoldable mutual
  pub emit : Cty → Written → Written
  emit TUnit w = put w 0 0 0 0
  emit TAny w = put w 1 0 0 0
  emit TExn w = put w 2 0 0 0
  emit (TVar v) w = put w 3 v 0 0
  emit (TInt s x) w = put w 4 s x 0
  emit (TFloat f) w = put w 5 f 0 0
  emit (TConst c) w = put w 6 c 0 0
  emit (TArrow a e b) w = let x : Written = emit a w in let y : Written = emit b x in put y 7 (last x) e (last y)
  emit (TApp n ts) w = let m : Members = emits ts w in put (listed m) 8 n (first_arg m) (length m.numbers)
  emit (TTuple ts) w = let m : Members = emits ts w in put (listed m) 9 (first_arg m) (length m.numbers) 0
  emit (TBuf t) w = let x : Written = emit t w in put x 10 (last x) 0 0
  emit (TRef k t) w = let x : Written = emit t w in put x 11 k (last x) 0
  emit (TInline t) w = let x : Written = emit t w in put x 12 (last x) 0 0

  pub emits : Ctys → Written → Members
  emits nil w = record { written = w; numbers = [] }
  emits (cons t ts) w =
      let x : Written = emit t w in
      let m : Members = emits ts x in
      record { written = m.written; numbers = last x ∷ m.numbers }

-- lines of a declaration, with the types that they use written
pub record Lines : Type 0 where
  pub written : Written
  pub lines : List Line

unfoldable pub field_lines : List Field → Written → Lines
field_lines [] w = record { written = w; lines = [] }
field_lines (f ∷ fs) w =
    let x : Written = emit f.fd_type w in
    let r : Lines = field_lines fs x in
    record { written = r.written; lines = row field_line (f.fd_name ∷ last x ∷ 0 ∷ 0 ∷ 0 ∷ []) ∷ r.lines }

unfoldable pub ctor_lines : List Ctor → Written → Lines
ctor_lines [] w = record { written = w; lines = [] }
ctor_lines (c ∷ cs) w =
    let x : Lines = field_lines c.ct_fields w in
    let r : Lines = ctor_lines cs x.written in
    record { written = r.written; lines = row ctor_line (c.ct_name ∷ length c.ct_fields ∷ 0 ∷ 0 ∷ 0 ∷ []) ∷ x.lines ++ r.lines }

-- the D line, the P lines, the body's lines and the V line
unfoldable pub decl_frame : Dtype → ℕ → ℕ → List Line → List Line
decl_frame d kind end ls =
    row local_line (d.dt_name ∷ d.dt_flags ∷ kind ∷ length d.dt_params ∷ end ∷ [])
    ∷ map (λ p. row param_line (p ∷ 0 ∷ 0 ∷ 0 ∷ 0 ∷ [])) d.dt_params
    ++ ls
    ++ (row verdict_line (0 ∷ 0 ∷ 0 ∷ 0 ∷ 0 ∷ []) ∷ [])

unfoldable pub decl_lines : Dtype → Body → Written → Lines
decl_lines d TAbstract w = record { written = w; lines = decl_frame d 0 0 [] }
decl_lines d (TAbbrev c) w = let x : Written = emit c w in record { written = x; lines = decl_frame d 1 (last x) [] }
decl_lines d (TRecord fs) w = let r : Lines = field_lines fs w in record { written = r.written; lines = decl_frame d 2 (length fs) r.lines }
decl_lines d (TVariant cs) w = let r : Lines = ctor_lines cs w in record { written = r.written; lines = decl_frame d 3 (length cs) r.lines }

unfoldable pub program_lines : List Dtype → Written → Lines
program_lines [] w = record { written = w; lines = [] }
program_lines (d ∷ ds) w =
    let x : Lines = decl_lines d d.dt_body w in
    let r : Lines = program_lines ds x.written in
    record { written = r.written; lines = x.lines ++ r.lines }

-- the N lines, the A and Y lines, and the declarations
unfoldable pub left_lines : List Line → List Dtype → List Line
left_lines ls ds =
    let r : Lines = program_lines ds (record { args = []; types = [] }) in
    select name_line ls
    ++ map (λ t. row arg_line (t ∷ 0 ∷ 0 ∷ 0 ∷ 0 ∷ [])) r.written.args
    ++ map (row type_line) r.written.types
    ++ r.lines
