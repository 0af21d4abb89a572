-- A cut's units, each of which is a second part of the sheet before it. Assumes nothing.
use Rattle.std.specs.Prelude.{◌⊎◌, ◌≡◌, refl, true, false, ◌||◌, ℕ, zero, suc, ◌+◌, ◌≤◌, ◌<◌, eqb, length, get_or}
use Rattle.std.proofs.Common.{inl, inr, sym, ◌∙◌, subst, arith, length-append}
use Rattle.std.proofs.Math.Logic.{⊎_elim}
use Rattle.std.proofs.Math.Path.{ap}
use mathlib.Core.List.{
  List,
  [],
  ◌∷◌,
  ◌++◌,
  map,
  append_assoc,
  append-nil,
  Memᴰ,
  map-append,
}
use Rattle.std.proofs.Math.Nat.{zero-div, zero-mod}
use Rattle.std.proofs.Math.ListN.{get_or-append}
use Rattle.std.proofs.Math.Option.{Option, none, some}
use Rattle.answer_laws.specs.Answer.{passes_build, build_passes, sheets}
use Rattle.sheet.specs.Format.{Format, line_bytes}
use Rattle.sheet.specs.Line.{Line, bad, is_bad, letter, number}
use Rattle.sheet.specs.Sheet.{count, line, lines_from, lines, row2}
use Rattle.sheet.proofs.FirstLaws.{first_none}
use Rattle.sheet.proofs.SheetLaws.{within_count, length_lines, get_or_lines, lines_append}
use Rattle.sheet.proofs.ListLaws.{Every, at_every, every_left, every_right}
use Rattle.model.specs.Cty.{Cty}
use Rattle.model.specs.Decl.{Decl, no_decl, dtype_at, position}
use Rattle.meaning.specs.Program.{arg_line, type_line, is_head, select, groups, trees, decl_of, program}
use Rattle.meaning.specs.Rows.{nth_line, raw, heads_before, row5, row6}
use Rattle.model.specs.Names.{dtype_names, Declared, undeclared, Distinct}
use Rattle.model_laws.specs.Names.{position_name, position_first, position_append_left, position_append_right, undeclared_of, declared_cases, not_declared}
use Rattle.answer.specs.Cut.{Sheets, Faultless, build, builds, join, Whole, Declarations, program_names, Cut}
use Rattle.meaning_laws.specs.Program.{none_append, Starts, None, select_append, program_append, groups_append, groups_none, length_program, HeadAt, head_at, heads_before_program, none_left, none_right}
use Rattle.meaning_laws.specs.Rows.{Ends, raw_rawly, ends_prefix, NoHeader, no_header}
use Rattle.answer.specs.Answer.{verdict_sheet, Passes, Clear}
use Rattle.answer_laws.specs.Pass.{name_at, distinct_program}
use Rattle.model_laws.specs.Pinning.{Apart, distinct_undeclared}
use Rattle.answer_laws.specs.Step.{same_rows, SameRows, verdicts, later, program_parts}
use Rattle.answer_laws.specs.Build.{pass_whole, verdict_lines_behind, passes_sound, Sound, pass_no_bad, whole_length, whole_append, NoBad, no_bad_pass, Split, split_steps}
use Rattle.answer_laws.specs.Cut.{Splits, chain}

-- ---- declared names, by the lines where declarations begin
pub record HeadNamed (ls : List Line) (n : ℕ) : Type 0 where
  pub place : ℕ
  pub inside : place < length ls
  pub begins : is_head (nth_line ls place) ≡ true
  pub named : number (nth_line ls place) 0 ≡ n

pub declared_head : (ls : List Line) (n : ℕ) → Declared (program ls) n → HeadNamed ls n
declared_head ls n d =
    let r : HeadAt ls (position (program ls) n) = head_at ls (position (program ls) n) (omega (arith, length_program ls)) in
    record {
      place = r.place;
      inside = r.inside;
      begins = r.heads_it;
      named =
          sym (name_at ls r.place r.inside r.heads_it)
          ∙ (ap (λ (k : ℕ). (dtype_at (program ls) k).dt_name) r.passed ∙ position_name (program ls) n d);
    }

pub head_declared : (ls : List Line) (n : ℕ) → HeadNamed ls n → Declared (program ls) n
head_declared ls n h =
    let k : heads_before ls h.place < length (program ls) = heads_before_program ls h.place h.inside h.begins in
    let p : position (program ls) n ≤ heads_before ls h.place =
    position_first (program ls) n (heads_before ls h.place) k (name_at ls h.place h.inside h.begins ∙ h.named) in
    omega arith

head_left : (a b : List Line) (n : ℕ) → HeadNamed a n → HeadNamed (a ++ b) n
head_left a b n h =
    let e : get_or (a ++ b) h.place bad ≡ get_or a h.place bad = get_or-append a b bad h.place h.inside in
    record {
      place = h.place;
      inside = rw length-append (omega (arith, h.inside));
      begins = ap is_head e ∙ h.begins;
      named = ap (λ (l : Line). number l 0) e ∙ h.named;
    }

pub declared_left : (a b : List Line) (n : ℕ) → Declared (program a) n → Declared (program (a ++ b)) n
declared_left a b n d = head_declared (a ++ b) n (head_left a b n (declared_head a n d))

-- ---- units
-- all units from their first lines on
abbrev pub Units : ℕ → List (List ℕ) → Type 0
Units w = Every (Declarations w)

units_of : (w : ℕ) (us : List (List ℕ)) → ((xs ys : List (List ℕ)) (u : List ℕ) → us ≡ xs ++ (u ∷ ys) → Declarations w u) → Units w us
units_of w [] h = tt
units_of w (u ∷ us) h = (h [] us u refl, units_of w us (λ xs ys v e. h (u ∷ xs) ys v (ap (λ (t : List (List ℕ)). u ∷ t) e)))

join_whole : (w : ℕ) (us : List (List ℕ)) → Units w us → Whole w (join us)
unfolding join
join_whole w [] h = zero-mod (line_bytes w)
join_whole w (u ∷ us) h = whole_append w u (join us) h.0.0 (join_whole w us h.1)

pub join_append : (xs ys : List (List ℕ)) → join (xs ++ ys) ≡ join xs ++ join ys
unfolding join
join_append [] ys = refl
join_append (x ∷ xs) ys = ap (λ (r : List ℕ). x ++ r) (join_append xs ys) ∙ sym (append_assoc x (join xs) (join ys))

pub joined_parts : (header : List ℕ) (xs ys : List (List ℕ)) → header ++ join (xs ++ ys) ≡ header ++ join xs ++ join ys
joined_parts header xs ys = ap (λ (r : List ℕ). header ++ r) (join_append xs ys) ∙ sym (append_assoc header (join xs) (join ys))

lines_nil : (w : ℕ) → lines w [] ≡ []
unfolding lines lines_from
lines_nil w = rw (zero-div (line_bytes w))

lines_cut : (w : ℕ) (p q : List ℕ) → Whole w p → lines w (p ++ q) ≡ lines w p ++ lines w q
lines_cut w p q h = lines_append w (count w p) p q (whole_length w p h)

-- a unit's lines begin with a D line
unit_starts : (w : ℕ) (u : List ℕ) → Declarations w u → NoBad (lines w u) → Starts is_head (lines w u)
unit_starts w u h nb = go (lines w u) refl
  where
    go : (ls : List Line) → lines w u ≡ ls → Starts is_head ls
    go [] e = tt
    go (l ∷ ls) e =
        let n : 0 < length (lines w u) = rw e (omega arith) in
        let c : 0 < count w u = omega (arith, length_lines w u) in
        let p : 0 < length u = omega (arith, within_count w u 0 c) in
        let a : get_or (lines w u) 0 bad ≡ l = ap (λ (x : List Line). get_or x 0 bad) e in
        let f : letter l ≡ letter (raw w u 0) = ap letter (sym a) ∙ (ap letter (get_or_lines w u 0) ∙ sym (raw_rawly w u 0 (no_bad_pass w u nb 0 c)).letters) in
        ap (λ (x : ℕ). eqb x 68 || eqb x 73) f ∙ h.1 p

starts_append : (a b : List Line) → Starts is_head a → Starts is_head b → Starts is_head (a ++ b)
starts_append [] b h k = k
starts_append (l ∷ a) b h k = h

join_starts : (w : ℕ) (us : List (List ℕ)) → Units w us → NoBad (lines w (join us)) → Starts is_head (lines w (join us))
unfolding join
join_starts w [] h nb = rw (lines_nil w) tt
join_starts w (u ∷ us) h nb =
    let e : lines w (u ++ join us) ≡ lines w u ++ lines w (join us) = lines_cut w u (join us) h.0.0 in
    let nb' : NoBad (lines w u ++ lines w (join us)) = subst NoBad e nb in
    subst (Starts is_head) (sym e)
    (starts_append (lines w u) (lines w (join us)) (unit_starts w u h.0 (none_left is_bad (lines w u) (lines w (join us)) nb')) (join_starts w us h.1 (none_right is_bad (lines w u) (lines w (join us)) nb')))

-- ---- the declarations of the units
-- the declarations of units, over the types ts
unfoldable pub units_decls : ℕ → List Cty → List (List ℕ) → List Decl
units_decls w ts [] = []
units_decls w ts (u ∷ us) = map (decl_of ts) (groups is_head (lines w u)) ++ units_decls w ts us

-- a declaration of the units is one of a unit
pub record OfUnit (w : ℕ) (ts : List Cty) (us : List (List ℕ)) (d : Decl) : Type 0 where
  pub before_it : List (List ℕ)
  pub unit : List ℕ
  pub after_it : List (List ℕ)
  pub split : us ≡ before_it ++ (unit ∷ after_it)
  pub declares : Memᴰ d (map (decl_of ts) (groups is_head (lines w unit)))

of_unit : (w : ℕ) (ts : List Cty) (us : List (List ℕ)) (d : Decl) → Memᴰ d (units_decls w ts us) → OfUnit w ts us d
unfolding units_decls
of_unit w ts [] d m = absurd (mathlib.Core.List.Memᴰ.not-nil m)
of_unit w ts (u ∷ us) d m =
    ⊎_elim
    (λ x. record { before_it = []; unit = u; after_it = us; split = refl; declares = x })
    (λ x. let r = of_unit w ts us d x in record { before_it = u ∷ r.before_it; unit = r.unit; after_it = r.after_it; split = ap (λ (t : List (List ℕ)). u ∷ t) r.split; declares = r.declares })
    (mathlib.Core.List.Memᴰ.append_cases (map (decl_of ts) (groups is_head (lines w u))) m)

groups_join : (w : ℕ) (ts : List Cty) (us : List (List ℕ)) → Units w us → NoBad (lines w (join us)) → map (decl_of ts) (groups is_head (lines w (join us))) ≡ units_decls w ts us
unfolding units_decls join groups
groups_join w ts [] h nb = rw (lines_nil w)
groups_join w ts (u ∷ us) h nb =
    let e : lines w (u ++ join us) ≡ lines w u ++ lines w (join us) = lines_cut w u (join us) h.0.0 in
    let nb' : NoBad (lines w (join us)) = none_right is_bad (lines w u) (lines w (join us)) (subst NoBad e nb) in
    ap (λ (ls : List Line). map (decl_of ts) (groups is_head ls)) e
    ∙ (ap (map (decl_of ts)) (groups_append is_head (lines w u) (lines w (join us)) (join_starts w us h.1 nb'))
    ∙ (map-append (decl_of ts) (groups is_head (lines w u)) (groups is_head (lines w (join us)))
    ∙ ap (λ (r : List Decl). map (decl_of ts) (groups is_head (lines w u)) ++ r) (groups_join w ts us h.1 nb')))

mem_names : (ds : List Decl) (d : Decl) (n : ℕ) → Memᴰ d ds → Memᴰ n (dtype_names d.dtype) → Memᴰ n (program_names ds)
unfolding program_names
mem_names [] d n m k = absurd (mathlib.Core.List.Memᴰ.not-nil m)
mem_names (e ∷ ds) d n m k =
    ⊎_elim
    (λ q. mathlib.Core.List.Memᴰ.append_left (program_names ds) (subst (λ (x : Decl). Memᴰ n (dtype_names x.dtype)) q k))
    (λ q. mathlib.Core.List.Memᴰ.append_right (dtype_names e.dtype) (mem_names ds d n q k))
    (mathlib.Core.List.Memᴰ.cases_cons m)

mem_at : (ds : List Decl) (i : ℕ) → i < length ds → Memᴰ (get_or ds i no_decl) ds
mem_at [] i h = absurd (omega arith)
mem_at (d ∷ ds) zero h = mathlib.Core.List.Memᴰ.head refl
mem_at (d ∷ ds) (suc i) h = mathlib.Core.List.Memᴰ.tail (mem_at ds i (omega arith))

-- ---- from the cut
nil_left : (a b : List Line) → a ++ b ≡ [] → a ≡ []
nil_left [] b e = refl
nil_left (l ∷ a) b e = let z : ◌≡◌ {A = ℕ} 0 1 = cc in absurd (omega arith)

nil_right : (a b : List Line) → a ++ b ≡ [] → b ≡ []
nil_right [] b e = e
nil_right (l ∷ a) b e = let z : ◌≡◌ {A = ℕ} 0 1 = cc in absurd (omega arith)

declared_right : (ds es : List Decl) (n : ℕ) → Declared es n → Declared (ds ++ es) n
declared_right ds es n d =
    ⊎_elim
    (λ k. rw (position_append_left ds es n k, length-append) (omega arith))
    (λ k. rw (position_append_right ds es n k, length-append) (omega arith))
    (declared_cases ds n)

-- lines of a header, and of units behind it
module _ (w : ℕ) (header : List ℕ) (whole : Whole w header) (none : NoBad (lines w header) → None is_head (lines w header)) (xs : List (List ℕ)) (us : Units w xs)
    (nb : NoBad (lines w (header ++ join xs))) (ends : Ends (lines w (header ++ join xs))) where
  abbrev H : List Line
  H = lines w header

  abbrev X : List Line
  X = lines w (join xs)

  lines_are : lines w (header ++ join xs) ≡ H ++ X
  lines_are = lines_cut w header (join xs) whole

  nb_parts : NoBad (H ++ X)
  nb_parts = subst NoBad lines_are nb

  units_start : Starts is_head X
  units_start = join_starts w xs us (none_right is_bad H X nb_parts)

  units_plain : NoHeader X
  units_plain = no_header H X units_start (subst Ends lines_are ends)

  header_program : program H ≡ []
  unfolding program
  header_program = ap (map (decl_of (trees H))) (groups_none is_head H (none (none_left is_bad H X nb_parts)))

  -- the program is the units' declarations over the header's types
  program_units : program (lines w (header ++ join xs)) ≡ units_decls w (trees H) xs
  program_units =
      ap program lines_are
      ∙ (program_append H X units_start units_plain.args units_plain.types
      ∙ (ap (λ (ds : List Decl). ds ++ later H X) header_program ∙ groups_join w (trees H) xs us (none_right is_bad H X nb_parts)))

  -- a unit's own sheet has its declarations over the same types
  unit_program : (as' bs : List (List ℕ)) (u : List ℕ) → xs ≡ as' ++ (u ∷ bs) → program (lines w (header ++ u)) ≡ map (decl_of (trees H)) (groups is_head (lines w u))
  unfolding join
  unit_program as' bs u e =
      let A : List Line = lines w (join as') in
      let U : List Line = lines w u in
      let B : List Line = lines w (join bs) in
      let ua : Units w as' = every_left (Declarations w) as' (u ∷ bs) (subst (Units w) e us) in
      let uu : Units w (u ∷ bs) = every_right (Declarations w) as' (u ∷ bs) (subst (Units w) e us) in
      let x : X ≡ A ++ (U ++ B) =
      ap (λ (t : List (List ℕ)). lines w (join t)) e
      ∙ (ap (lines w) (join_append as' (u ∷ bs))
      ∙ (lines_cut w (join as') (u ++ join bs) (join_whole w as' ua) ∙ ap (λ (r : List Line). A ++ r) (lines_cut w u (join bs) uu.0.0))) in
      let part : (k : ℕ) → select k X ≡ [] → select k U ≡ [] = λ k z.
      nil_left (select k U) (select k B)
      (sym (select_append k U B) ∙ nil_right (select k A) (select k (U ++ B)) (sym (select_append k A (U ++ B)) ∙ (ap (select k) (sym x) ∙ z))) in
      let nu : NoBad U = none_left is_bad U B (none_right is_bad A (U ++ B) (subst NoBad x (none_right is_bad H X nb_parts))) in
      ap program (lines_cut w header u whole)
      ∙ (program_append H U (unit_starts w u uu.0 nu) (part arg_line units_plain.args) (part type_line units_plain.types)
      ∙ ap (λ (ds : List Decl). ds ++ later H U) header_program)

module _ (w : ℕ) (b header : List ℕ) (units : List (List ℕ)) (cut : Cut w b header units) (whole : Faultless w b) where
  all_units : Units w units
  all_units = units_of w units cut.declarations

  header_none : NoBad (lines w header) → None is_head (lines w header)
  header_none nb =
      at_every (λ l. is_head l ≡ false) bad (lines w header) (λ i h.
      let k : i < count w header = omega (arith, length_lines w header) in
      let e : letter (raw w header i) ≡ letter (line w header i) = (raw_rawly w header i (no_bad_pass w header nb i k)).letters in
      ap (λ (x : ℕ). eqb x 68 || eqb x 73) (ap letter (get_or_lines w header i) ∙ sym e) ∙ cut.header_only i k)

  module _ (xs ys zs : List (List ℕ)) (e : units ≡ xs ++ (ys ++ zs)) where
    abbrev pre : List ℕ
    pre = header ++ join xs

    xs_units : Units w xs
    xs_units = every_left (Declarations w) xs (ys ++ zs) (subst (Units w) e all_units)

    ys_units : Units w ys
    ys_units = every_left (Declarations w) ys zs (every_right (Declarations w) xs (ys ++ zs) (subst (Units w) e all_units))

    pre_whole : Whole w pre
    pre_whole = whole_append w header (join xs) cut.header_whole (join_whole w xs xs_units)

    abbrev P : List Line
    P = lines w pre

    abbrev Q : List Line
    Q = lines w (join ys)

    abbrev R : List Line
    R = lines w (join zs)

    lines_whole : lines w b ≡ (P ++ Q) ++ R
    lines_whole =
        ap (lines w) (cut.joined ∙ (ap (λ (t : List (List ℕ)). header ++ join t) e
        ∙ (ap (λ (r : List ℕ). header ++ r) (join_append xs (ys ++ zs) ∙ ap (λ (r : List ℕ). join xs ++ r) (join_append ys zs))
        ∙ (sym (append_assoc header (join xs) (join ys ++ join zs)) ∙ sym (append_assoc pre (join ys) (join zs))))))
        ∙ (lines_cut w (pre ++ join ys) (join zs) (whole_append w pre (join ys) pre_whole (join_whole w ys ys_units))
        ∙ ap (λ (r : List Line). r ++ R) (lines_cut w pre (join ys) pre_whole))

    split_apart :
        NoBad (P ++ Q) → Ends (P ++ Q) → Clear (length P) (row5 P) → Clear (length (P ++ Q)) (row6 (P ++ Q)) → Apart (program P) (later P Q)
    unfolding join
    split_apart nb ends c5 c6 i h n m = ⊎_elim declared_apart (λ z. undeclared_of (later P Q) n (not_declared (later P Q) n (λ d. z (elsewhere d)))) (told r)
      where
        st : Starts is_head Q
        st = join_starts w ys ys_units (none_right is_bad P Q nb)

        np : NoBad P
        np = none_left is_bad P Q nb

        ep : Ends P
        ep = ends_prefix P Q st ends

        parts : program (P ++ Q) ≡ program P ++ later P Q
        parts = program_parts P Q st ends

        dist : Distinct (program P ++ later P Q)
        dist = subst Distinct parts (distinct_program (P ++ Q) c6)

        r : OfUnit w (trees (lines w header)) xs (get_or (program P) i no_decl)
        r =
            of_unit w (trees (lines w header)) xs (get_or (program P) i no_decl)
            (subst (Memᴰ (get_or (program P) i no_decl)) (program_units w header cut.header_whole header_none xs xs_units np ep) (mem_at (program P) i h))

        elsewhere : Declared (later P Q) n → Declared (program (lines w b)) n
        elsewhere d =
            subst (λ (ls : List Line). Declared (program ls) n) (sym lines_whole)
            (declared_left (P ++ Q) R n (subst (λ (ds : List Decl). Declared ds n) (sym parts) (declared_right (program P) (later P Q) n d)))

        declared_apart : Declared (program P) n → undeclared (later P Q) n ≡ true
        declared_apart d =
            subst (λ (k : ℕ). undeclared (later P Q) k ≡ true) (position_name (program P) n d) (distinct_undeclared (program P) (later P Q) dist (position (program P) n) d)

        told : OfUnit w (trees (lines w header)) xs (get_or (program P) i no_decl) → Declared (program P) n ⊎ (Declared (program (lines w b)) n → ⊥)
        told r =
            let xs1 : List (List ℕ) = r.before_it in
            let u : List ℕ = r.unit in
            let xs2 : List (List ℕ) = r.after_it in
            let u1 : Units w xs1 = every_left (Declarations w) xs1 (u ∷ xs2) (subst (Units w) r.split xs_units) in
            let u2 : Units w (u ∷ xs2) = every_right (Declarations w) xs1 (u ∷ xs2) (subst (Units w) r.split xs_units) in
            let pre1 : List ℕ = header ++ join xs1 ++ u in
            let whole1 : Whole w (header ++ join xs1 ++ u) =
            whole_append w (header ++ join xs1) u (whole_append w header (join xs1) cut.header_whole (join_whole w xs1 u1)) u2.0.0 in
            let P1 : List Line = lines w (header ++ join xs1 ++ u) in
            let P2 : List Line = lines w (join xs2) in
            let bytes : header ++ join xs ≡ (header ++ join xs1 ++ u) ++ join xs2 =
            ap (λ (t : List (List ℕ)). header ++ join t) r.split
            ∙ (ap (λ (t : List ℕ). header ++ t) (join_append xs1 (u ∷ xs2)) ∙ (sym (append_assoc header (join xs1) (u ++ join xs2)) ∙ sym (append_assoc (header ++ join xs1) u (join xs2)))) in
            let parts1 : P ≡ P1 ++ P2 = ap (lines w) bytes ∙ lines_cut w (header ++ join xs1 ++ u) (join xs2) whole1 in
            let split1 : units ≡ xs1 ++ (u ∷ (xs2 ++ (ys ++ zs))) =
            e ∙ (ap (λ (t : List (List ℕ)). t ++ (ys ++ zs)) r.split ∙ append_assoc xs1 (u ∷ xs2) (ys ++ zs)) in
            let mem : Memᴰ n (program_names (program (lines w (header ++ u)))) =
            subst (λ (ds : List Decl). Memᴰ n (program_names ds)) (sym (unit_program w header cut.header_whole header_none xs xs_units np ep xs1 xs2 u r.split))
            (mem_names (map (decl_of (trees (lines w header))) (groups is_head (lines w u))) (get_or (program P) i no_decl) n r.declares m) in
            ⊎_elim
            (λ d. inl (subst (λ (ls : List Line). Declared (program ls) n) (sym parts1) (declared_left P1 P2 n d)))
            (λ z. inr z)
            (cut.named whole xs1 (xs2 ++ (ys ++ zs)) u split1 n mem)

  pub cut_splits : Splits (Split w) header units
  cut_splits xs ys zs e = record {
    first_whole = pre_whole xs ys zs e;
    second_whole = join_whole w ys (ys_units xs ys zs e);
    starts = join_starts w ys (ys_units xs ys zs e);
    apart = split_apart xs ys zs e;
  }

-- The first units of a cut are a cut of what they declare.
pub cut_first : (w : ℕ) (b header : List ℕ) (xs ys : List (List ℕ)) → Cut w b header (xs ++ ys) → Faultless w b → Cut w (header ++ join xs) header xs
cut_first w b header xs ys c whole =
    record {
      joined = refl;
      header_whole = c.header_whole;
      header_only = c.header_only;
      declarations = λ ks bs u e. c.declarations ks (bs ++ ys) u (further ks bs u e);
      named = λ _ ks bs u e n m. ⊎_elim inl (λ no. inr (λ d. no (subst (λ (ls : List Line). Declared (program ls) n) (sym parts) (declared_left (lines w (header ++ join xs)) (lines w (join ys)) n d)))) (c.named whole ks (bs ++ ys) u (further ks bs u e) n m);
    }
  where
    further : (ks bs : List (List ℕ)) (u : List ℕ) → xs ≡ ks ++ (u ∷ bs) → xs ++ ys ≡ ks ++ (u ∷ (bs ++ ys))
    further ks bs u e = ap (λ (t : List (List ℕ)). t ++ ys) e ∙ append_assoc ks (u ∷ bs) ys

    first_whole : Whole w (header ++ join xs)
    first_whole = (cut_splits w b header (xs ++ ys) c whole xs ys [] (ap (λ (t : List (List ℕ)). xs ++ t) (sym (append-nil ys)))).first_whole

    parts : lines w b ≡ lines w (header ++ join xs) ++ lines w (join ys)
    parts =
        ap (lines w) (c.joined ∙ joined_parts header xs ys)
        ∙ lines_cut w (header ++ join xs) (join ys) first_whole

-- ---- lines that row 2 or 5 faults
-- the same over lines
record Sane (w : ℕ) (b : List ℕ) : Type 0 where
  no_bad : NoBad (lines w b)
  clear5 : Clear (length (lines w b)) (row5 (lines w b))

sane_faultless : (w : ℕ) (b : List ℕ) → Sane w b → Faultless w b
unfolding row2
sane_faultless w b s =
    record {
      no_bad = first_none (λ i. is_bad (line w b i)) (count w b) (no_bad_pass w b s.no_bad);
      in_range = first_none (row5 (lines w b)) (count w b) (λ i h. s.clear5 i (omega (arith, length_lines w b)));
    }

pub passes_faultless : (f : Format) (b : List ℕ) (v l : ℕ) → Passes f b v l → Faultless f.columns b
unfolding row2
passes_faultless f b v l p =
    record { no_bad = first_none (λ i. is_bad (line f.columns b i)) (count f.columns b) p.pass2; in_range = first_none (row5 (lines f.columns b)) (count f.columns b) p.pass5 }

passes_sane : (f : Format) (b : List ℕ) (v l : ℕ) → Passes f b v l → Sane f.columns b
passes_sane f b v l p = record { no_bad = pass_no_bad f.columns b p.pass2; clear5 = λ i h. p.pass5 i (omega (arith, length_lines f.columns b)) }

-- An accepted sheet's verdict sheet has faults with lines behind it only where the sheet has.
sane_import : (f : Format) (v l : ℕ) → 0 < f.columns → (p q : List ℕ) → Passes f p v l → (NoBad (lines f.columns q) → Starts is_head (lines f.columns q))
    → Sane f.columns ((sheets f p).verdict ++ q) → Sane f.columns (p ++ q)
unfolding sheets verdict_sheet
sane_import f v l pos p q h starts k =
    let w : ℕ = f.columns in
    let ps : List Line = lines w p in
    let qs : List Line = lines w q in
    let s : Sound f p v l = passes_sound f p v l h in
    let e : lines w ((sheets f p).verdict ++ q) ≡ verdicts f ps ++ qs = verdict_lines_behind f v l pos p q h in
    let nv : NoBad (verdicts f ps ++ qs) = subst NoBad e k.no_bad in
    let nq : NoBad qs = none_right is_bad (verdicts f ps) qs nv in
    let r : SameRows f ps qs = same_rows f ps qs s.checks (starts nq) in
    let c : Clear (length (verdicts f ps ++ qs)) (row5 (verdicts f ps ++ qs)) = subst (λ (ls : List Line). Clear (length ls) (row5 ls)) e k.clear5 in
    let parts : lines w (p ++ q) ≡ ps ++ qs = lines_cut w p q (pass_whole f p v l h) in
    record {
      no_bad = subst NoBad (sym parts) (none_append is_bad ps qs s.no_bad nq);
      clear5 = subst (λ (ls : List Line). Clear (length ls) (row5 ls)) (sym parts) (λ i j. sym (r.same5 i) ∙ c i (omega (arith, r.same_length)));
    }

-- where the units build, no line of them is faulted
builds_sane : (f : Format) (v l : ℕ) → 0 < f.columns → (us : List (List ℕ)) (s u : List ℕ) → Units f.columns (u ∷ us) → (x : Sheets) → builds f v l s u us ≡ some x → Sane f.columns (s ++ join (u ∷ us))
unfolding builds join
builds_sane f v l pos [] s u d x e = rw append-nil (passes_sane f (s ++ u) v l (build_passes f (s ++ u) v l x e))
builds_sane f v l pos (u' ∷ us) s u d x e = go (λ y k. builds_sane f v l pos us y.verdict u' d.1 x k) (build f v l (s ++ u)) refl e
  where
    same : (x y : Sheets) → ◌≡◌ {A = Option Sheets} (some x) (some y) → x ≡ y
    same x y e = cc

    go : ((y : Sheets) → builds f v l y.verdict u' us ≡ some x → Sane f.columns (y.verdict ++ join (u' ∷ us)))
        → (r : Option Sheets) → build f v l (s ++ u) ≡ r → elim r [ none ↦ none | some y ↦ builds f v l y.verdict u' us ] ≡ some x → Sane f.columns (s ++ (u ++ join (u' ∷ us)))
    go ih none q k = let z : ◌≡◌ {A = ℕ} 0 1 = cc in absurd (omega arith)
    go ih (some y) q k =
        let p : Passes f (s ++ u) v l = build_passes f (s ++ u) v l y q in
        let z : y ≡ sheets f (s ++ u) = same y (sheets f (s ++ u)) (sym q ∙ passes_build f (s ++ u) v l p) in
        subst (Sane f.columns) (append_assoc s u (join (u' ∷ us)))
        (sane_import f v l pos (s ++ u) (join (u' ∷ us)) p (join_starts f.columns (u' ∷ us) d.1) (subst (λ (t : Sheets). Sane f.columns (t.verdict ++ join (u' ∷ us))) z (ih y k)))

-- The cut, of any sheet: building the units in turn is building the whole.
pub cut_builds : (f : Format) (v l : ℕ) (b header u : List ℕ) (us : List (List ℕ)) → 0 < f.columns → Cut f.columns b header (u ∷ us) → builds f v l header u us ≡ build f v l b
cut_builds f v l b header u us pos c = go (builds f v l header u us) (build f v l b) refl refl
  where
    -- where nothing is faulted, by the parts
    equal : Faultless f.columns b → builds f v l header u us ≡ build f v l b
    equal h =
        chain f v l (Split f.columns) (split_steps f v l pos) us header header u (cut_splits f.columns b header (u ∷ us) c h) refl ∙ ap (build f v l) (sym c.joined)

    -- and where a line is, both are refused
    go : (x y : Option Sheets) → builds f v l header u us ≡ x → build f v l b ≡ y → x ≡ y
    go none none p q = refl
    go (some x) y p q =
        sym p
        ∙ (equal (sane_faultless f.columns b (subst (Sane f.columns) (sym c.joined) (builds_sane f v l pos us header u (units_of f.columns (u ∷ us) c.declarations) x p))) ∙ q)
    go none (some y) p q = sym p ∙ (equal (passes_faultless f b v l (build_passes f b v l y q)) ∙ q)
