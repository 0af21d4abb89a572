-- The left sheet read back: its types are those that were written, and its declarations are the program's. Assumes nothing.
use Rattle.std.specs.Prelude.{◌≡◌, Bool, ◌||◌, ℕ, suc, ◌+◌, get_or}
use Rattle.std.proofs.Math.Path.{refl, ap, ap₂, sym}
use Rattle.std.proofs.Common.{◌∙◌, eq-eqb, ne_eqb}
use mathlib.Core.List.{List, [], ◌∷◌, ◌++◌, map, append_assoc, append-nil, map-append}
use Rattle.std.proofs.Math.Bool.{false}
use native.Mathlib.Omega.{arith}
use Rattle.std.proofs.Math.Dec.{eqb}
use Rattle.std.proofs.Math.ListN.{length, length-append, length-map}
use Rattle.std.proofs.Math.Seq.{append_snoc, get_or-append_seam}
use Rattle.std.proofs.lemmas.List.{get_or_at}
use Rattle.number_columns.specs.Column.{pick}
use Rattle.sheet.specs.Line.{Line, row, letter, number}
use Rattle.sheet.proofs.ListLaws.{Every}
use Rattle.model.specs.Cty.{Cty, Ctys, TUnit, TAny, TExn, TVar, TInt, TFloat, TConst, TArrow, TApp, TTuple, TBuf, TRef, TInline, nil, cons}
use Rattle.model.specs.Decl.{Field, Ctor, Body, TAbstract, TAbbrev, TRecord, TVariant, Dtype, here, Decl, close_fields}
use Rattle.meaning.specs.Program.{
  name_line,
  arg_line,
  type_line,
  local_line,
  import_line,
  param_line,
  ctor_line,
  field_line,
  verdict_line,
  is,
  is_head,
  select,
  before,
  Group,
  groups,
  list_of,
  tree,
  trees_after,
  trees,
  field_of,
  ctor_of,
  body_of,
  dtype_of,
  decl_of,
  program,
}
use Rattle.meaning_laws.specs.Program.{None, none_append, select_append, select_none, before_none, groups_none, flat, Grouped, AllGrouped, groups_header, before_after, groups_after}
use Rattle.meaning.specs.Output.{Written, put, last, Members, listed, first_arg, emit, emits, Lines, field_lines, ctor_lines, decl_frame, decl_lines, program_lines, left_lines}
use Rattle.meaning_laws.specs.Output.{Grows, grows_refl, grows_put, grows_listed, grows_trans, emit_adds, emits_adds, field_adds, ctor_adds, program_adds, select_letter, nothing}

-- ---- types
-- a list that begins with another
pub record Later (ts us : List Cty) : Type 0 where
  pub more : List Cty
  pub is : us ≡ ts ++ more

pub later_trans : {ts us vs : List Cty} → Later ts us → Later us vs → Later ts vs
later_trans {ts} a b = record { more = a.more ++ b.more; is = b.is ∙ rw a.is (append_assoc ts a.more b.more) }

-- the types of a list's members
unfoldable pub members_of : List Cty → List ℕ → Ctys
members_of ts [] = nil
members_of ts (n ∷ ns) = cons (get_or ts n TUnit) (members_of ts ns)

members_nil : (us : List Cty) → members_of us [] ≡ nil
unfolding members_of
members_nil us = refl

members_cons : (t : Cty) (ts : Ctys) (n : ℕ) (ns : List ℕ) (us : List Cty) → get_or us n TUnit ≡ t → members_of us ns ≡ ts → members_of us (n ∷ ns) ≡ cons t ts
unfolding members_of
members_cons t ts n ns us e h = ap₂ cons e h

list_members : (ts : List Cty) (p ns q zs : List ℕ) → zs ≡ p ++ ns ++ q → list_of ts zs (length p) (length ns) ≡ members_of ts ns
unfolding list_of members_of
list_members ts p [] q zs e = refl
list_members ts p (n ∷ ns) q zs e =
    let a : get_or zs (length p) 0 ≡ n = rw (e, append_assoc) (get_or-append_seam p n (ns ++ q) 0) in
    let l : length (p ++ (n ∷ [])) ≡ suc (length p) = length-append p (n ∷ []) ∙ omega arith in
    rw a (ap (cons (get_or ts n TUnit)) (rw l at (list_members ts (p ++ (n ∷ [])) ns q zs (e ∙ simp append_assoc))))

module _ (xs : List ℕ) where
  pub trees_after_append : (ts : List Cty) (a b : List Line) → trees_after xs ts (a ++ b) ≡ trees_after xs (trees_after xs ts a) b
  unfolding trees_after
  trees_after_append ts [] b = refl
  trees_after_append ts (l ∷ a) b = trees_after_append (ts ++ (tree ts xs (number l 0) (number l 1) (number l 2) (number l 3) ∷ [])) a b

  pub length_trees_after : (ts : List Cty) (ls : List Line) → length (trees_after xs ts ls) ≡ length ts + length ls
  unfolding trees_after
  length_trees_after ts [] = omega arith
  length_trees_after ts (l ∷ ls) =
      let t : Cty = tree ts xs (number l 0) (number l 1) (number l 2) (number l 3) in
      omega (arith, length_trees_after (ts ++ (t ∷ [])) ls, length-append ts (t ∷ []))

  -- the types read so far stay
  pub trees_after_later : (ts : List Cty) (ls : List Line) → Later ts (trees_after xs ts ls)
  unfolding trees_after
  trees_after_later ts [] = record { more = []; is = sym (append-nil ts) }
  trees_after_later ts (l ∷ ls) =
      let t : Cty = tree ts xs (number l 0) (number l 1) (number l 2) (number l 3) in
      later_trans (record { more = t ∷ []; is = refl }) (trees_after_later (ts ++ (t ∷ [])) ls)

  -- the types of the Y lines that are written, where the A lines have the types xs
  unfoldable pub types_read : Written → List Cty
  types_read w = trees_after xs [] (map (row type_line) w.types)

  pub length_read : (w : Written) → length (types_read w) ≡ length w.types
  unfolding types_read
  length_read w = length_trees_after [] (map (row type_line) w.types) ∙ rw length-map (omega arith)

  pub read_put : (w : Written) (k a b c : ℕ) → types_read (put w k a b c) ≡ types_read w ++ (tree (types_read w) xs k a b c ∷ [])
  unfolding types_read put trees_after
  read_put w k a b c =
      rw (map-append (row type_line) w.types ((k ∷ a ∷ b ∷ c ∷ 0 ∷ []) ∷ [])) (trees_after_append [] (map (row type_line) w.types) (row type_line (k ∷ a ∷ b ∷ c ∷ 0 ∷ []) ∷ []))

  pub read_grows : {w v : Written} → Grows w v → Later (types_read w) (types_read v)
  unfolding types_read
  read_grows {w} g =
      rw (g.types_are, map-append, trees_after_append) (trees_after_later (trees_after xs [] (map (row type_line) w.types)) (map (row type_line) g.new_types))

  -- xs begins with the A lines that are written
  pub record Covers (w : Written) : Type 0 where
    pub rest : List ℕ
    pub are : xs ≡ w.args ++ rest

  pub covers_back : {w v : Written} → Grows w v → Covers v → Covers w
  covers_back {w} g h = record { rest = g.new_args ++ h.rest; are = h.are ∙ rw g.args_are (append_assoc w.args g.new_args h.rest) }

  -- v has the types of w, and c is the last of those that v has more, whatever comes later
  pub record Reads (c : Cty) (w v : Written) : Type 0 where
    pub later : Later (types_read w) (types_read v)
    pub found : (us : List Cty) → get_or (types_read v ++ us) (last v) TUnit ≡ c

  reads_put : (c : Cty) (w v : Written) (k a b d : ℕ) → Later (types_read w) (types_read v) → tree (types_read v) xs k a b d ≡ c → Reads c w (put v k a b d)
  unfolding put
  reads_put c w v k a b d h e =
      let p : types_read (put v k a b d) ≡ types_read v ++ (c ∷ []) = rw e at (read_put v k a b d) in
      let n : length (types_read v) ≡ last (put v k a b d) = omega (arith, length_read v, length-append v.types ((k ∷ a ∷ b ∷ d ∷ 0 ∷ []) ∷ [])) in
      record { later = later_trans h (record { more = c ∷ []; is = p }); found = λ us. rw (p, append_snoc) (get_or_at (types_read v) c us TUnit (last (put v k a b d)) n) }

  list_read : (ts : List Cty) (p ns q : List ℕ) → xs ≡ p ++ ns ++ q → list_of ts xs (pick (eqb (length ns) 0) 0 (length p)) (length ns) ≡ members_of ts ns
  unfolding list_of members_of
  list_read ts p [] q e = refl
  list_read ts p (n ∷ ns) q e = rw (ne_eqb (length (n ∷ ns)) 0 (λ z. omega arith)) (list_members ts p (n ∷ ns) q xs e)

  -- what the members of a list read as
  pub record ReadMembers (ts : Ctys) (w : Written) (m : Members) : Type 0 where
    pub later : Later (types_read w) (types_read m.written)
    pub found : (us : List Cty) → members_of (types_read m.written ++ us) m.numbers ≡ ts

  read_listed : (m : Members) → types_read (listed m) ≡ types_read m.written
  unfolding types_read
  read_listed m = refl

  owner_list : (ts : Ctys) (w : Written) (m : Members) → Covers (listed m) → ReadMembers ts w m → list_of (types_read (listed m)) xs (first_arg m) (length m.numbers) ≡ ts
  owner_list ts w m h r =
      rw read_listed (list_read (types_read m.written) m.written.args m.numbers h.rest h.are ∙ rw append-nil at (r.found []))

  mutual
    unfolding emit tree

    -- Reading what was written for a type gives it back.
    pub emit_reads : (c : Cty) (w : Written) → Covers (emit c w) → Reads c w (emit c w)
    emit_reads TUnit w h = reads_put TUnit w w 0 0 0 0 (read_grows (grows_refl w)) refl
    emit_reads TAny w h = reads_put TAny w w 1 0 0 0 (read_grows (grows_refl w)) refl
    emit_reads TExn w h = reads_put TExn w w 2 0 0 0 (read_grows (grows_refl w)) refl
    emit_reads (TVar v) w h = reads_put (TVar v) w w 3 v 0 0 (read_grows (grows_refl w)) refl
    emit_reads (TInt s x) w h = reads_put (TInt s x) w w 4 s x 0 (read_grows (grows_refl w)) refl
    emit_reads (TFloat f) w h = reads_put (TFloat f) w w 5 f 0 0 (read_grows (grows_refl w)) refl
    emit_reads (TConst c) w h = reads_put (TConst c) w w 6 c 0 0 (read_grows (grows_refl w)) refl
    emit_reads (TArrow a e b) w h =
        let x : Written = emit a w in
        let y : Written = emit b x in
        let hy : Covers y = covers_back (grows_put y 7 (last x) e (last y)) h in
        let rx = emit_reads a w (covers_back (emit_adds b x).grows hy) in
        let ry = emit_reads b x hy in
        let ea : get_or (types_read y) (last x) TUnit ≡ a = rw ry.later.is (rx.found ry.later.more) in
        let eb : get_or (types_read y) (last y) TUnit ≡ b = rw append-nil at (ry.found []) in
        reads_put (TArrow a e b) w y 7 (last x) e (last y) (later_trans rx.later ry.later) (ap₂ (λ (s t : Cty). TArrow s e t) ea eb)
    emit_reads (TApp n ts) w h =
        let m : Members = emits ts w in
        let hl : Covers (listed m) = covers_back (grows_put (listed m) 8 n (first_arg m) (length m.numbers)) h in
        let r = emits_reads ts w (covers_back (grows_listed m) hl) in
        reads_put (TApp n ts) w (listed m) 8 n (first_arg m) (length m.numbers) (later_trans r.later (read_grows (grows_listed m))) (ap (TApp n) (owner_list ts w m hl r))
    emit_reads (TTuple ts) w h =
        let m : Members = emits ts w in
        let hl : Covers (listed m) = covers_back (grows_put (listed m) 9 (first_arg m) (length m.numbers) 0) h in
        let r = emits_reads ts w (covers_back (grows_listed m) hl) in
        reads_put (TTuple ts) w (listed m) 9 (first_arg m) (length m.numbers) 0 (later_trans r.later (read_grows (grows_listed m))) (ap TTuple (owner_list ts w m hl r))
    emit_reads (TBuf t) w h =
        let x : Written = emit t w in
        let r = emit_reads t w (covers_back (grows_put x 10 (last x) 0 0) h) in
        reads_put (TBuf t) w x 10 (last x) 0 0 r.later (ap TBuf (rw append-nil at (r.found [])))
    emit_reads (TRef k t) w h =
        let x : Written = emit t w in
        let r = emit_reads t w (covers_back (grows_put x 11 k (last x) 0) h) in
        reads_put (TRef k t) w x 11 k (last x) 0 r.later (ap (TRef k) (rw append-nil at (r.found [])))
    emit_reads (TInline t) w h =
        let x : Written = emit t w in
        let r = emit_reads t w (covers_back (grows_put x 12 (last x) 0 0) h) in
        reads_put (TInline t) w x 12 (last x) 0 0 r.later (ap TInline (rw append-nil at (r.found [])))

    pub emits_reads : (ts : Ctys) (w : Written) → Covers (emits ts w).written → ReadMembers ts w (emits ts w)
    emits_reads nil w h = record { later = read_grows (grows_refl w); found = λ us. members_nil (types_read w ++ us) }
    emits_reads (cons t ts) w h =
        let x : Written = emit t w in
        let r = emit_reads t w (covers_back (emits_adds ts x).0.grows h) in
        let s = emits_reads ts x h in
        record { later = later_trans r.later s.later; found = λ us. members_cons t ts (last x) (emits ts x).numbers (types_read (emits ts x).written ++ us) (rw (s.later.is, append_assoc) (r.found (s.later.more ++ us))) (s.found us) }

-- ---- parts of a declaration's lines
abbrev param_row : ℕ → Line
param_row n = row param_line (n ∷ 0 ∷ 0 ∷ 0 ∷ 0 ∷ [])

abbrev verdict_row : Line
verdict_row = row verdict_line (0 ∷ 0 ∷ 0 ∷ 0 ∷ 0 ∷ [])

params_none : (p : Line → Bool) → ((ns : List ℕ) → p (row param_line ns) ≡ false) → (ps : List ℕ) → None p (map param_row ps)
params_none p h [] = tt
params_none p h (n ∷ ps) = (h (n ∷ 0 ∷ 0 ∷ 0 ∷ 0 ∷ []), params_none p h ps)

params_select : (ps : List ℕ) → select param_line (map param_row ps) ≡ map param_row ps
unfolding select
params_select [] = refl
params_select (n ∷ ps) = ap (λ (r : List Line). param_row n ∷ r) (params_select ps)

params_numbers : (ps : List ℕ) → map (λ l. number l 0) (map param_row ps) ≡ ps
params_numbers [] = refl
params_numbers (n ∷ ps) = ap (λ (r : List ℕ). n ∷ r) (params_numbers ps)

field_none : (p : Line → Bool) → ((ns : List ℕ) → p (row field_line ns) ≡ false) → (fs : List Field) (w : Written) → None p (field_lines fs w).lines
unfolding field_lines
field_none p h [] w = tt
field_none p h (f ∷ fs) w = let x : Written = emit f.fd_type w in (h (f.fd_name ∷ last x ∷ 0 ∷ 0 ∷ 0 ∷ []), field_none p h fs x)

field_select : (fs : List Field) (w : Written) → select field_line (field_lines fs w).lines ≡ (field_lines fs w).lines
unfolding field_lines select
field_select [] w = refl
field_select (f ∷ fs) w =
    let x : Written = emit f.fd_type w in
    ap (λ (r : List Line). row field_line (f.fd_name ∷ last x ∷ 0 ∷ 0 ∷ 0 ∷ []) ∷ r) (field_select fs x)

ctor_none : (p : Line → Bool) → ((ns : List ℕ) → p (row ctor_line ns) ≡ false) → ((ns : List ℕ) → p (row field_line ns) ≡ false) →
    (cs : List Ctor) (w : Written) → None p (ctor_lines cs w).lines
unfolding ctor_lines
ctor_none p h k [] w = tt
ctor_none p h k (c ∷ cs) w =
    let x : Lines = field_lines c.ct_fields w in
    (h (c.ct_name ∷ length c.ct_fields ∷ 0 ∷ 0 ∷ 0 ∷ []), none_append p x.lines (ctor_lines cs x.written).lines (field_none p k c.ct_fields w) (ctor_none p h k cs x.written))

-- a constructor's F lines end where the next begins
ctor_end : (cs : List Ctor) (w : Written) (tail : List Line) → None (is ctor_line) tail → select field_line tail ≡ [] →
    select field_line (before (is ctor_line) ((ctor_lines cs w).lines ++ tail)) ≡ []
unfolding ctor_lines select before
ctor_end [] w tail h e = rw (before_none (is ctor_line) tail h) e
ctor_end (c ∷ cs) w tail h e = refl

-- the lines of a declaration after its first, and the declaration as a group
abbrev frame_rest : List ℕ → List Line → List Line
frame_rest ps ls = map param_row ps ++ ls ++ (verdict_row ∷ [])

abbrev pub frame_group : Dtype → ℕ → ℕ → List Line → Group
frame_group d kind end ls = record { head = row local_line (d.dt_name ∷ d.dt_flags ∷ kind ∷ length d.dt_params ∷ end ∷ []); rest = frame_rest d.dt_params ls }

frame_params : (ps : List ℕ) (ls : List Line) → None (is param_line) ls → map (λ l. number l 0) (select param_line (frame_rest ps ls)) ≡ ps
unfolding select
frame_params ps ls h =
    rw (select_append param_line (map param_row ps ++ ls) (verdict_row ∷ []), select_append param_line (map param_row ps) ls, select_none param_line ls h, params_select ps, append-nil, append-nil) (params_numbers ps)

frame_fields : (ps : List ℕ) (ls : List Line) → select field_line (frame_rest ps ls) ≡ select field_line ls
unfolding select
frame_fields ps ls =
    rw (select_append field_line (map param_row ps ++ ls) (verdict_row ∷ []), select_append field_line (map param_row ps) ls, select_none field_line (map param_row ps) (params_none (is field_line) (λ ns. refl) ps)) (append-nil (select field_line ls))

frame_ctors : (ps : List ℕ) (ls : List Line) → groups (is ctor_line) (frame_rest ps ls) ≡ groups (is ctor_line) (ls ++ (verdict_row ∷ []))
frame_ctors ps ls =
    rw (append_assoc (map param_row ps) ls (verdict_row ∷ [])) (groups_after (is ctor_line) (map param_row ps) (ls ++ (verdict_row ∷ [])) (params_none (is ctor_line) (λ ns. refl) ps))

frame_none : (p : Line → Bool) → ((ns : List ℕ) → p (row param_line ns) ≡ false) → ((ns : List ℕ) → p (row verdict_line ns) ≡ false) →
    (ps : List ℕ) (ls : List Line) → None p ls → None p (frame_rest ps ls)
frame_none p hp hv ps ls h =
    none_append p (map param_row ps ++ ls) (verdict_row ∷ []) (none_append p (map param_row ps) ls (params_none p hp ps) h) (hv (0 ∷ 0 ∷ 0 ∷ 0 ∷ 0 ∷ []), tt)

frame_dtype : (ts : List Cty) (d : Dtype) (kind end : ℕ) (ls : List Line) → None (is param_line) ls → body_of ts kind end (frame_rest d.dt_params ls) ≡ d.dt_body →
    dtype_of ts (frame_group d kind end ls) ≡ d
unfolding dtype_of
frame_dtype ts d kind end ls h e =
    ap₂ (λ (ps : List ℕ) (b : Body). record { dt_name = d.dt_name; dt_flags = d.dt_flags; dt_params = ps; dt_body = b }) (frame_params d.dt_params ls h) e

-- a declaration's lines as a group
unfoldable pub group_of : Dtype → Body → Written → Group
group_of d TAbstract w = frame_group d 0 0 []
group_of d (TAbbrev c) w = frame_group d 1 (last (emit c w)) []
group_of d (TRecord fs) w = frame_group d 2 (length fs) (field_lines fs w).lines
group_of d (TVariant cs) w = frame_group d 3 (length cs) (ctor_lines cs w).lines

pub group_lines : (d : Dtype) (b : Body) (w : Written) → (decl_lines d b w).lines ≡ (group_of d b w).head ∷ (group_of d b w).rest
unfolding decl_lines decl_frame group_of
group_lines d TAbstract w = refl
group_lines d (TAbbrev c) w = refl
group_lines d (TRecord fs) w = refl
group_lines d (TVariant cs) w = refl

-- the test holds of no line of a declaration but the first
pub record Inside (p : Line → Bool) : Type 0 where
  pub at_param : (ns : List ℕ) → p (row param_line ns) ≡ false
  pub at_ctor : (ns : List ℕ) → p (row ctor_line ns) ≡ false
  pub at_field : (ns : List ℕ) → p (row field_line ns) ≡ false
  pub at_verdict : (ns : List ℕ) → p (row verdict_line ns) ≡ false

pub group_rest : (p : Line → Bool) → Inside p → (d : Dtype) (b : Body) (w : Written) → None p (group_of d b w).rest
unfolding group_of
group_rest p i d TAbstract w = frame_none p i.at_param i.at_verdict d.dt_params [] tt
group_rest p i d (TAbbrev c) w = frame_none p i.at_param i.at_verdict d.dt_params [] tt
group_rest p i d (TRecord fs) w = frame_none p i.at_param i.at_verdict d.dt_params (field_lines fs w).lines (field_none p i.at_field fs w)
group_rest p i d (TVariant cs) w = frame_none p i.at_param i.at_verdict d.dt_params (ctor_lines cs w).lines (ctor_none p i.at_ctor i.at_field cs w)

-- a test of the letter, at the first line
pub group_first : (d : Dtype) (b : Body) (w : Written) → letter (group_of d b w).head ≡ local_line
unfolding group_of
group_first d TAbstract w = refl
group_first d (TAbbrev c) w = refl
group_first d (TRecord fs) w = refl
group_first d (TVariant cs) w = refl

pub group_grouped : (d : Dtype) (b : Body) (w : Written) → Grouped is_head (group_of d b w)
group_grouped d b w =
    record {
      begins = ap (λ (n : ℕ). eqb n local_line || eqb n import_line) (group_first d b w);
      alone = group_rest is_head (record { at_param = λ ns. refl; at_ctor = λ ns. refl; at_field = λ ns. refl; at_verdict = λ ns. refl }) d b w;
    }

-- the program's lines as groups
unfoldable pub groups_of : List Dtype → Written → List Group
groups_of [] w = []
groups_of (d ∷ ds) w = group_of d d.dt_body w ∷ groups_of ds (decl_lines d d.dt_body w).written

pub groups_of_lines : (ds : List Dtype) (w : Written) → flat (groups_of ds w) ≡ (program_lines ds w).lines
unfolding groups_of flat program_lines
groups_of_lines [] w = refl
groups_of_lines (d ∷ ds) w =
    let x : Lines = decl_lines d d.dt_body w in
    ap₂ (λ (a b : List Line). a ++ b) (sym (group_lines d d.dt_body w)) (groups_of_lines ds x.written)

pub groups_of_grouped : (ds : List Dtype) (w : Written) → AllGrouped is_head (groups_of ds w)
unfolding groups_of
groups_of_grouped [] w = tt
groups_of_grouped (d ∷ ds) w = (group_grouped d d.dt_body w, groups_of_grouped ds (decl_lines d d.dt_body w).written)

-- lines of one other letter than those of declarations
pub none_of : (x : ℕ) → eqb local_line x ≡ false → Inside (is x) → (ds : List Dtype) (w : Written) → None (is x) (program_lines ds w).lines
unfolding program_lines
none_of x e i [] w = tt
none_of x e i (d ∷ ds) w =
    let y : Lines = decl_lines d d.dt_body w in
    let g : Group = group_of d d.dt_body w in
    none_append (is x) y.lines (program_lines ds y.written).lines
    (rw (group_lines d d.dt_body w) (ap (λ (n : ℕ). eqb n x) (group_first d d.dt_body w) ∙ e, group_rest (is x) i d d.dt_body w))
    (none_of x e i ds y.written)

no_field : select field_line (verdict_row ∷ []) ≡ []
unfolding select
no_field = refl

-- ---- declarations
module _ (xs : List ℕ) (F : Written) (cover : Covers xs F) where
  -- every type that is written before F is read from F's lines
  pub type_read : (c : Cty) (w : Written) → Grows (emit c w) F → get_or (types_read xs F) (last (emit c w)) TUnit ≡ c
  type_read c w g =
      let r = emit_reads xs c w (covers_back xs g cover) in
      let l = read_grows xs g in
      rw l.is (r.found l.more)

  pub fields_read : (fs : List Field) (w : Written) → Grows (field_lines fs w).written F → map (field_of (types_read xs F)) (field_lines fs w).lines ≡ fs
  unfolding field_lines field_of
  fields_read [] w g = refl
  fields_read (f ∷ fs) w g =
      let x : Written = emit f.fd_type w in
      ap₂ (λ (t : Cty) (r : List Field). record { fd_name = f.fd_name; fd_type = t } ∷ r) (type_read f.fd_type w (grows_trans (field_adds fs x).grows g)) (fields_read fs x g)

  pub ctors_read : (cs : List Ctor) (w : Written) (tail : List Line) → None (is ctor_line) tail → select field_line tail ≡ [] → Grows (ctor_lines cs w).written F →
      map (ctor_of (types_read xs F)) (groups (is ctor_line) ((ctor_lines cs w).lines ++ tail)) ≡ cs
  unfolding ctor_lines ctor_of groups
  ctors_read [] w tail h e g = rw (groups_none (is ctor_line) tail h)
  ctors_read (c ∷ cs) w tail h e g =
      let x : Lines = field_lines c.ct_fields w in
      let r : List Line = (ctor_lines cs x.written).lines in
      let n : None (is ctor_line) x.lines = field_none (is ctor_line) (λ ns. refl) c.ct_fields w in
      let a : select field_line (before (is ctor_line) (x.lines ++ (r ++ tail))) ≡ x.lines =
      rw (before_after (is ctor_line) x.lines (r ++ tail) n, select_append field_line x.lines (before (is ctor_line) (r ++ tail)), ctor_end cs x.written tail h e, field_select c.ct_fields w) (append-nil x.lines) in
      ap (λ (ls : List Line). map (ctor_of (types_read xs F)) (groups (is ctor_line) (row ctor_line (c.ct_name ∷ length c.ct_fields ∷ 0 ∷ 0 ∷ 0 ∷ []) ∷ ls))) (append_assoc x.lines r tail)
      ∙ ap₂ (λ (fs : List Line) (gs : List Group). record { ct_name = c.ct_name; ct_fields = map (field_of (types_read xs F)) fs } ∷ map (ctor_of (types_read xs F)) gs) a (groups_after (is ctor_line) x.lines (r ++ tail) n)
      ∙ ap₂ (λ (fs : List Field) (ds : List Ctor). record { ct_name = c.ct_name; ct_fields = fs } ∷ ds)
      (fields_read c.ct_fields w (grows_trans (ctor_adds cs x.written).grows g)) (ctors_read cs x.written tail h e g)

  pub decl_read : (d : Dtype) (b : Body) (w : Written) → d.dt_body ≡ b → Grows (decl_lines d b w).written F → dtype_of (types_read xs F) (group_of d b w) ≡ d
  unfolding group_of decl_lines body_of
  decl_read d TAbstract w e g = frame_dtype (types_read xs F) d 0 0 [] tt (sym e)
  decl_read d (TAbbrev c) w e g = frame_dtype (types_read xs F) d 1 (last (emit c w)) [] tt (ap TAbbrev (type_read c w g) ∙ sym e)
  decl_read d (TRecord fs) w e g =
      frame_dtype (types_read xs F) d 2 (length fs) (field_lines fs w).lines (field_none (is param_line) (λ ns. refl) fs w)
      (ap (λ (ls : List Line). TRecord (map (field_of (types_read xs F)) ls)) (frame_fields d.dt_params (field_lines fs w).lines ∙ field_select fs w) ∙ ap TRecord (fields_read fs w g) ∙ sym e)
  decl_read d (TVariant cs) w e g =
      frame_dtype (types_read xs F) d 3 (length cs) (ctor_lines cs w).lines (ctor_none (is param_line) (λ ns. refl) (λ ns. refl) cs w)
      (ap (λ (gs : List Group). TVariant (map (ctor_of (types_read xs F)) gs)) (frame_ctors d.dt_params (ctor_lines cs w).lines)
      ∙ ap TVariant (ctors_read cs w (verdict_row ∷ []) (refl, tt) no_field g)
      ∙ sym e)

  pub program_read : (ds : List Dtype) (w : Written) → Grows (program_lines ds w).written F → map (dtype_of (types_read xs F)) (groups_of ds w) ≡ ds
  unfolding groups_of program_lines
  program_read [] w g = refl
  program_read (d ∷ ds) w g =
      let x : Lines = decl_lines d d.dt_body w in
      ap₂ (λ (e : Dtype) (es : List Dtype). e ∷ es) (decl_read d d.dt_body w refl (grows_trans (program_adds ds x.written).grows g)) (program_read ds x.written g)

  -- read as a program of local declarations, closed as every program that is read
  pub decls_read : (ds : List Dtype) (w : Written) → Grows (program_lines ds w).written F → map (decl_of (types_read xs F)) (groups_of ds w) ≡ map (λ d. record { dtype = close_fields d; origin = here }) ds
  unfolding groups_of program_lines decl_of
  decls_read [] w g = refl
  decls_read (d ∷ ds) w g =
      let x : Lines = decl_lines d d.dt_body w in
      let y : Group = group_of d d.dt_body w in
      let e : is import_line y.head ≡ false = ap (λ (n : ℕ). eqb n import_line) (group_first d d.dt_body w) in
      let h : dtype_of (types_read xs F) y ≡ d = decl_read d d.dt_body w refl (grows_trans (program_adds ds x.written).grows g) in
      ap₂ (λ (a : Decl) (es : List Decl). a ∷ es) (rw (e, h)) (decls_read ds x.written g)

-- ---- the left sheet
letter_none : (p : Line → Bool) (x : ℕ) → ((l : Line) → letter l ≡ x → p l ≡ false) → (ls : List Line) → Every (λ l. letter l ≡ x) ls → None p ls
letter_none p x f [] h = tt
letter_none p x f (l ∷ ls) h = (f l h.0, letter_none p x f ls h.1)

rows_none : {B : Type 0} (p : Line → Bool) (x : ℕ) (f : B → List ℕ) → ((ns : List ℕ) → p (row x ns) ≡ false) → (bs : List B) → None p (map (λ b. row x (f b)) bs)
rows_none p x f h [] = tt
rows_none p x f h (b ∷ bs) = (h (f b), rows_none p x f h bs)

rows_select : {B : Type 0} (x : ℕ) (f : B → List ℕ) (bs : List B) → select x (map (λ b. row x (f b)) bs) ≡ map (λ b. row x (f b)) bs
unfolding select
rows_select x f [] = refl
rows_select x f (b ∷ bs) = rw (eq-eqb x x refl) (ap (λ (r : List Line). row x (f b) ∷ r) (rows_select x f bs))

abbrev arg_row : ℕ → List ℕ
arg_row n = n ∷ 0 ∷ 0 ∷ 0 ∷ 0 ∷ []

args_numbers : (ns : List ℕ) → map (λ l. number l 0) (map (λ n. row arg_line (arg_row n)) ns) ≡ ns
args_numbers [] = refl
args_numbers (n ∷ ns) = ap (λ (r : List ℕ). n ∷ r) (args_numbers ns)

inside : (x : ℕ) → eqb param_line x ≡ false → eqb ctor_line x ≡ false → eqb field_line x ≡ false → eqb verdict_line x ≡ false → Inside (is x)
inside x a b c d = record { at_param = λ ns. a; at_ctor = λ ns. b; at_field = λ ns. c; at_verdict = λ ns. d }

module _ (ls : List Line) (ds : List Dtype) where
  abbrev final : Written
  final = (program_lines ds nothing).written

  abbrev header : List Line
  header = select name_line ls ++ map (λ n. row arg_line (arg_row n)) final.args ++ map (row type_line) final.types

  names_none : (p : Line → Bool) → ((l : Line) → letter l ≡ name_line → p l ≡ false) → None p (select name_line ls)
  names_none p f = letter_none p name_line f (select name_line ls) (select_letter name_line ls)

  left_split : left_lines ls ds ≡ header ++ flat (groups_of ds nothing)
  unfolding left_lines
  left_split = rw (groups_of_lines ds nothing)

  left_args : select arg_line (left_lines ls ds) ≡ map (λ n. row arg_line (arg_row n)) final.args
  unfolding left_lines
  left_args =
      let a = map (λ n. row arg_line (arg_row n)) final.args in
      let y = map (row type_line) final.types in
      let n = select name_line ls in
      rw (
        select_append arg_line (n ++ a ++ y) (program_lines ds nothing).lines,
        select_append arg_line (n ++ a) y,
        select_append arg_line n a,
        select_none arg_line n (names_none (is arg_line) (λ l e. ap (λ (m : ℕ). eqb m arg_line) e)),
        rows_select arg_line arg_row final.args,
        select_none arg_line y (rows_none (is arg_line) type_line (λ (ns : List ℕ). ns) (λ ns. refl) final.types),
        select_none arg_line (program_lines ds nothing).lines (none_of arg_line refl (inside arg_line refl refl refl refl) ds nothing),
        append-nil,
        append-nil,
      )

  left_types : select type_line (left_lines ls ds) ≡ map (row type_line) final.types
  unfolding left_lines
  left_types =
      let a = map (λ n. row arg_line (arg_row n)) final.args in
      let y = map (row type_line) final.types in
      let n = select name_line ls in
      rw (
        select_append type_line (n ++ a ++ y) (program_lines ds nothing).lines,
        select_append type_line (n ++ a) y,
        select_append type_line n a,
        select_none type_line n (names_none (is type_line) (λ l e. ap (λ (m : ℕ). eqb m type_line) e)),
        select_none type_line a (rows_none (is type_line) arg_line arg_row (λ ns. refl) final.args),
        rows_select type_line (λ (ns : List ℕ). ns) final.types,
        select_none type_line (program_lines ds nothing).lines (none_of type_line refl (inside type_line refl refl refl refl) ds nothing),
        append-nil,
      )

  -- the types of the left sheet
  pub left_trees : trees (left_lines ls ds) ≡ types_read final.args final
  unfolding trees types_read
  left_trees = rw (left_args, left_types, args_numbers final.args)

  -- the declarations of the left sheet, as groups of lines
  pub left_groups : groups is_head (left_lines ls ds) ≡ groups_of ds nothing
  left_groups =
      let a = map (λ n. row arg_line (arg_row n)) final.args in
      let y = map (row type_line) final.types in
      let n = select name_line ls in
      rw left_split
      (groups_header is_head header (groups_of ds nothing)
      (none_append is_head (n ++ a) y
      (none_append is_head n a (names_none is_head (λ l e. ap (λ (m : ℕ). eqb m local_line || eqb m import_line) e)) (rows_none is_head arg_line arg_row (λ ns. refl) final.args))
      (rows_none is_head type_line (λ (ns : List ℕ). ns) (λ ns. refl) final.types))
      (groups_of_grouped ds nothing))

  covered : Covers final.args final
  covered = record { rest = []; are = sym (append-nil final.args) }

  pub left_program_read : program (left_lines ls ds) ≡ map (λ d. record { dtype = close_fields d; origin = here }) ds
  unfolding program
  left_program_read = rw (left_trees, left_groups) (decls_read final.args final covered ds nothing (grows_refl final))
