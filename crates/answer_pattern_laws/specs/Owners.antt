-- The tables of constructors that a pattern is rewritten by, in an accepted sheet: every constructor of a verdict is one of the
-- declaration, with a slot for each field, and so they are sound. Assumes nothing.
use Rattle.std.specs.Prelude.{◌≡◌, refl, List, [], ◌∷◌, map, Bool, true, false, not, ℕ, suc, ◌<◌, eqb, length, get_or, drop}
use Rattle.std.proofs.Common.{ap, sym, ◌∙◌, subst, arith, eqb-true}
use Rattle.std.proofs.Math.Option.{Option, none, some}
use Rattle.std.proofs.lemmas.List.{length-map}
use Rattle.std.proofs.lemmas.Bool.{not-false}
use Rattle.number_columns.specs.Column.{pick, ◌⇒◌∥◌}
use Rattle.sheet.specs.Line.{Line, number}
use Rattle.sheet.proofs.ListLaws.{Every}
use Rattle.model.specs.Cty.{Cty, TUnit}
use Rattle.model.specs.Decl.{
  Ctor,
  Body,
  TAbstract,
  TAbbrev,
  TRecord,
  TVariant,
  Dtype,
  ctors_of,
  ctors_of_tydef,
  CtorLayout,
  NewtypeLayout,
  Layout,
  L_erased,
  L_struct,
  L_opaque,
  TypeInfo,
  here,
  imported,
  Decl,
  no_decl,
  origin_at,
  table,
  close_field,
  close_body,
  close_fields,
}
use Rattle.model.specs.Layout.{ctor_layout, layouts_of_ctors, ctor_layouts, newtype_of, collapse}
use Rattle.model.specs.Run.{run, layout_of_decl}
use Rattle.model_laws.specs.Run.{import_layout}
use Rattle.model_laws.specs.Resolve.{Matches}
use Rattle.model_patterns.specs.Pat.{Owner, find_ctor, owned, ctor_owner, Slots, Constructed, Slotted, Sound}
use Rattle.model_patterns.proofs.Laws.Owners.{SoundInfo, ctor_layout_slotted, run_sound}
use Rattle.meaning.specs.Program.{is, import_line, field_line, ctor_line, is_head, select, before, Group, groups, trees, field_of, ctor_of, body_of, dtype_of, keeps, keeps_of, tags, ctor_layouts_by, abbreviated, layout_by, info_of, verdict_of, decl_of, program}
use Rattle.meaning.specs.Rows.{nth_line, row7}
use Rattle.meaning_laws.specs.Program.{length_slot, length_program, Tells, AllTold, HeadAt, head_at, program_at, run_told}
use Rattle.meaning_patterns.specs.Patterns.{fields_among, declared_fields, miscounts}
use Rattle.answer.specs.Answer.{Clear}
use Rattle.answer_laws.specs.Left.{program_matches}

-- ---- keep numbers of an import's lines
-- a list of keeps for each constructor, and one keep for each field
abbrev Fit : List Ctor → List (List Bool) → Type 0
Fit [] [] = Unit {0}
Fit [] (bs ∷ bss) = ⊥
Fit (c ∷ cs) [] = ⊥
Fit (c ∷ cs) (bs ∷ bss) = (length bs ≡ length c.ct_fields) × Fit cs bss

abbrev closed : List ℕ → Ctor → Ctor
closed ps c = record { ct_name = c.ct_name; ct_fields = map (close_field ps) c.ct_fields }

keeps_fit : (ts : List Cty) (ps : List ℕ) (ls : List Line) → length (keeps ls) ≡ length (map (close_field ps) (map (field_of ts) (select field_line ls)))
unfolding keeps
keeps_fit ts ps ls =
    length-map (select field_line ls) (λ l. not (eqb (number l 2) 0))
    ∙ (sym (length-map (select field_line ls) (field_of ts)) ∙ sym (length-map (map (field_of ts) (select field_line ls)) (close_field ps)))

groups_fit : (ts : List Cty) (ps : List ℕ) (gs : List Group) → Fit (map (closed ps) (map (ctor_of ts) gs)) (map (λ g. keeps g.rest) gs)
unfolding ctor_of
groups_fit ts ps [] = tt
groups_fit ts ps (g ∷ gs) = (keeps_fit ts ps g.rest, groups_fit ts ps gs)

body_fit : (ts : List Cty) (ps : List ℕ) (n kind last : ℕ) (ls : List Line) → Fit (ctors_of n (close_body ps (body_of ts kind last ls))) (keeps_of (close_body ps (body_of ts kind last ls)) ls)
unfolding body_of close_body ctors_of keeps_of
body_fit ts ps n kind last ls = go (eqb kind 1) (eqb kind 2) (eqb kind 3)
  where
    chosen : Bool → Bool → Bool → Body
    chosen a b c = a ⇒ TAbbrev (get_or ts last TUnit) ∥ b ⇒ TRecord (map (field_of ts) (select field_line ls)) ∥ c ⇒ TVariant (map (ctor_of ts) (groups (is ctor_line) ls)) ∥ TAbstract

    go : (a b c : Bool) → Fit (ctors_of n (close_body ps (chosen a b c))) (keeps_of (close_body ps (chosen a b c)) ls)
    go true b c = tt
    go false true c = (keeps_fit ts ps ls, tt)
    go false false true = groups_fit ts ps (groups (is ctor_line) ls)
    go false false false = tt

-- ---- constructors and their layouts
-- the same names, and a slot for each field
abbrev pub Laid : List Ctor → List CtorLayout → Type 0
Laid [] [] = Unit {0}
Laid [] (cl ∷ cls) = ⊥
Laid (c ∷ cs) [] = ⊥
Laid (c ∷ cs) (cl ∷ cls) = (cl.cl_name ≡ c.ct_name) × (length cl.cl_slots ≡ length c.ct_fields) × Laid cs cls

laid_by : (tag : ℕ → Option ℕ) (cs : List Ctor) (bss : List (List Bool)) → Fit cs bss → Laid cs (ctor_layouts_by tag cs bss)
unfolding ctor_layouts_by ctor_layout
laid_by tag [] [] h = tt
laid_by tag [] (bs ∷ bss) h = absurd h
laid_by tag (c ∷ cs) [] h = absurd h
laid_by tag (c ∷ cs) (bs ∷ bss) h = (refl, h.0, laid_by (λ i. tag (suc i)) cs bss h.1)

laid_ctors : (er : ℕ → Bool) (tag : ℕ → Option ℕ) (cs : List Ctor) → Laid cs (layouts_of_ctors er tag cs)
unfolding table ctor_layout
laid_ctors er tag [] = tt
laid_ctors er tag (c ∷ cs) = (refl, length_slot er c.ct_fields, laid_ctors er (λ i. tag (suc i)) cs)

-- of each declaration with its verdict
abbrev pub AllLaid : List Decl → List TypeInfo → Type 0
AllLaid [] [] = Unit {0}
AllLaid [] (ti ∷ tis) = ⊥
AllLaid (d ∷ ds) [] = ⊥
AllLaid (d ∷ ds) (ti ∷ tis) = Laid (ctors_of_tydef d.dtype) ti.ti_ctors × AllLaid ds tis

info_laid : (ts : List Cty) (g : Group) → Laid (ctors_of_tydef (close_fields (dtype_of ts g))) (info_of (close_fields (dtype_of ts g)) g.rest (verdict_of g.rest)).ti_ctors
unfolding info_of close_fields dtype_of
info_laid ts g =
    let d : Dtype = close_fields (dtype_of ts g) in
    laid_by (tags g.rest) (ctors_of_tydef d) (keeps_of d.dt_body g.rest) (body_fit ts (dtype_of ts g).dt_params (number g.head 0) (number g.head 2) (number g.head 4) g.rest)

told_laid : (ts : List Cty) (gs : List Group) (tis : List TypeInfo) → AllTold (map (decl_of ts) gs) tis → AllLaid (map (decl_of ts) gs) tis
unfolding decl_of ctor_layouts
told_laid ts [] [] h = tt
told_laid ts [] (ti ∷ tis) h = absurd h
told_laid ts (g ∷ gs) [] h = absurd h
told_laid ts (g ∷ gs) (ti ∷ tis) h = (go (is import_line g.head) h.0, told_laid ts gs tis h.1)
  where
    d : Dtype
    d = close_fields (dtype_of ts g)

    go : (c : Bool) → Tells ti d (pick c (imported (info_of d g.rest (verdict_of g.rest))) here) → Laid (ctors_of_tydef d) ti.ti_ctors
    go true t = subst (λ (x : TypeInfo). Laid (ctors_of_tydef d) x.ti_ctors) t (info_laid ts g)
    go false t = subst (Laid (ctors_of_tydef d)) (sym t.ctors) (laid_ctors t.erasing _ (ctors_of_tydef d))

pub program_laid : (fuel : ℕ) (ls : List Line) → AllLaid (program ls) (run fuel (program ls)).infos
unfolding program
program_laid fuel ls = told_laid (trees ls) (groups is_head ls) (run fuel (program ls)).infos (run_told fuel (program ls))

-- ---- an owner has as many slots as its constructor has declared fields
abbrev Owns : Option Owner → Option ℕ → Type 0
Owns none none = Unit {0}
Owns none (some k) = ⊥
Owns (some o) none = ⊥
Owns (some o) (some k) = length o.ctor_layout.cl_slots ≡ k

owns_ctors : (l : Layout) (cs : List Ctor) (cls : List CtorLayout) → Laid cs cls → (n : ℕ) (o : Option Owner) (k : Option ℕ) → Owns o k → Owns (owned l (find_ctor cls n) o) (fields_among cs n k)
unfolding owned find_ctor fields_among
owns_ctors l [] [] h n o k w = w
owns_ctors l [] (cl ∷ cls) h n o k w = absurd h
owns_ctors l (c ∷ cs) [] h n o k w = absurd h
owns_ctors l (c ∷ cs) (cl ∷ cls) h n o k w =
    subst (λ (m : ℕ). Owns (owned l (pick (eqb m n) (some cl) (find_ctor cls n)) o) (fields_among (c ∷ cs) n k)) (sym h.0) (go (eqb c.ct_name n) (owns_ctors l cs cls h.2 n o k w))
  where
    go : (b : Bool) → Owns (owned l (find_ctor cls n) o) (fields_among cs n k) → Owns (owned l (pick b (some cl) (find_ctor cls n)) o) (pick b (some (length c.ct_fields)) (fields_among cs n k))
    go true i = h.1
    go false i = i

owns_program : (ds : List Decl) (tis : List TypeInfo) → AllLaid ds tis → (n : ℕ) → Owns (ctor_owner tis n) (declared_fields ds n)
unfolding ctor_owner declared_fields
owns_program [] [] h n = tt
owns_program [] (ti ∷ tis) h n = absurd h
owns_program (d ∷ ds) [] h n = absurd h
owns_program (d ∷ ds) (ti ∷ tis) h n = owns_ctors ti.ti_layout (ctors_of_tydef d.dtype) ti.ti_ctors h.0 n (ctor_owner tis n) (declared_fields ds n) (owns_program ds tis h.1 n)

-- where row 13 does not apply, there is a part for each slot
pub slots_counted : (fuel : ℕ) (ls : List Line) (n k : ℕ) → miscounts (declared_fields (program ls) n) k ≡ false → Slots (ctor_owner (run fuel (program ls)).infos n) k
slots_counted fuel ls n k = go (ctor_owner (run fuel (program ls)).infos n) (declared_fields (program ls) n) (owns_program (program ls) (run fuel (program ls)).infos (program_laid fuel ls) n)
  where
    go : (o : Option Owner) (m : Option ℕ) → Owns o m → miscounts m k ≡ false → Slots o k
    go none m w e = tt
    go (some o) none w e = absurd w
    go (some o) (some m) w e = eqb-true k m (not-false (eqb k m) e) ∙ sym w

-- ---- the tables are sound
collapse_constructed : (cand : Option NewtypeLayout) (cls : List CtorLayout) → Constructed (collapse false cand cls)
unfolding collapse
collapse_constructed none cls = tt
collapse_constructed (some nt) cls = tt

by_slotted : (l : Layout) → Constructed l → (tag : ℕ → Option ℕ) (cs : List Ctor) (bss : List (List Bool)) → Fit cs bss → Every (λ cl. Constructed l × Slotted cl) (ctor_layouts_by tag cs bss)
unfolding ctor_layouts_by
by_slotted l c tag [] bss h = tt
by_slotted l c tag (k ∷ cs) [] h = tt
by_slotted l c tag (k ∷ cs) (bs ∷ bss) h = ((c, ctor_layout_slotted (tag 0) k bs h.0), by_slotted l c (λ i. tag (suc i)) cs bss h.1)

layout_constructed : (n : ℕ) (b : Body) (cls : List CtorLayout) → Matches b (layout_by n b cls) → (abbreviated b ≡ L_opaque) → (Matches b L_opaque → ⊥) → Constructed (layout_by n b cls)
unfolding layout_by
layout_constructed n b cls m a x = go (eqb n 0) (eqb n 1) (eqb n 2) (eqb n 3) m
  where
    chosen : Bool → Bool → Bool → Bool → Layout
    chosen x0 x1 x2 x3 = x0 ⇒ L_erased ∥ x1 ⇒ collapse false (newtype_of cls) cls ∥ x2 ⇒ L_struct cls ∥ x3 ⇒ abbreviated b ∥ L_opaque

    go : (x0 x1 x2 x3 : Bool) → Matches b (chosen x0 x1 x2 x3) → Constructed (chosen x0 x1 x2 x3)
    go true x1 x2 x3 k = tt
    go false true x2 x3 k = collapse_constructed (newtype_of cls) cls
    go false false true x3 k = tt
    go false false false true k = absurd (x (subst (Matches b) a k))
    go false false false false k = absurd (x k)

body_sound : (n v : ℕ) (tag : ℕ → Option ℕ) (b : Body) (bss : List (List Bool)) → Fit (ctors_of n b) bss → Matches b (layout_by v b (ctor_layouts_by tag (ctors_of n b) bss))
    → Every (λ cl. Constructed (layout_by v b (ctor_layouts_by tag (ctors_of n b) bss)) × Slotted cl) (ctor_layouts_by tag (ctors_of n b) bss)
unfolding ctors_of ctor_layouts_by
body_sound n v tag TAbstract bss h m = tt
body_sound n v tag (TAbbrev c) bss h m = tt
body_sound n v tag (TRecord fs) bss h m =
    by_slotted (layout_by v (TRecord fs) (ctor_layouts_by tag (ctors_of n (TRecord fs)) bss)) (layout_constructed v (TRecord fs) (ctor_layouts_by tag (ctors_of n (TRecord fs)) bss) m refl (λ z. z)) tag (ctors_of n (TRecord fs)) bss h
body_sound n v tag (TVariant cs) bss h m =
    by_slotted (layout_by v (TVariant cs) (ctor_layouts_by tag cs bss)) (layout_constructed v (TVariant cs) (ctor_layouts_by tag cs bss) m refl (λ z. z)) tag cs bss h

module _ (ls : List Line) (pass : Clear (length ls) (row7 ls)) where
  import_sound : (i : ℕ) (ti : TypeInfo) → i < length (program ls) → origin_at (program ls) i ≡ imported ti → SoundInfo ti
  unfolding decl_of info_of close_fields dtype_of
  import_sound i ti h o =
      go (is import_line g.head) (ap (λ (x : Decl). x.origin) (sym at) ∙ o)
      (subst (λ (x : Layout). Matches d.dt_body x) (import_layout (program ls) i ti h o)
      (subst (λ (x : Decl). Matches x.dtype.dt_body (layout_of_decl (program ls) i)) at (program_matches ls pass i h)))
    where
      r : HeadAt ls i
      r = head_at ls i (omega (arith, length_program ls))

      g : Group
      g = record { head = nth_line ls r.place; rest = before is_head (drop (suc r.place) ls) }

      d : Dtype
      d = close_fields (dtype_of (trees ls) g)

      at : get_or (program ls) i no_decl ≡ decl_of (trees ls) g
      at = ap (λ (k : ℕ). get_or (program ls) k no_decl) (sym r.passed) ∙ program_at ls r.place no_decl r.inside r.heads_it

      own : TypeInfo
      own = info_of d g.rest (verdict_of g.rest)

      go : (c : Bool) → pick c (imported own) here ≡ imported ti → Matches d.dt_body ti.ti_layout → SoundInfo ti
      go true e m =
          let z : own ≡ ti = cc in
          subst SoundInfo z
          (body_sound d.dt_name (number (verdict_of g.rest) 1) (tags g.rest) d.dt_body (keeps_of d.dt_body g.rest)
          (body_fit (trees ls) (dtype_of (trees ls) g).dt_params d.dt_name (number g.head 2) (number g.head 4) g.rest)
          (subst (λ (x : TypeInfo). Matches d.dt_body x.ti_layout) (sym z) m))
      go false e m = let z : ◌≡◌ {A = ℕ} 0 1 = cc in absurd (omega arith)

  -- Where row 7 passes, the table of a program's constructors is sound.
  pub program_sound : (fuel : ℕ) → Sound (ctor_owner (run fuel (program ls)).infos)
  program_sound fuel = run_sound fuel (program ls) import_sound
