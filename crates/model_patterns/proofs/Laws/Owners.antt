-- Laws of the tables of constructors and of types: what an owner has and where it comes from, the layout
-- that a type's name finds, and that the owners of a program are sound. Assumes nothing.
use Rattle.std.specs.Prelude.{◌≡◌, ◌⊎◌, Bool, ℕ, zero, suc, ◌≤◌, ◌<◌, T, length, get_or}
use Rattle.std.proofs.Math.Path.{refl}
use Rattle.std.proofs.Common.{ap, sym, ◌∙◌, inl, inr, arith, eqb→eq}
use mathlib.Core.List.Memᴰ
use mathlib.Core.List.{List, [], ◌∷◌, Memᴰ}
use Rattle.std.proofs.Math.Bool.{true, false}
use Rattle.std.proofs.Math.Option.{Option, none, some, none-ne-some}
use Rattle.std.proofs.Math.Dec.{eqb, eqb_refl}
use Rattle.std.proofs.lemmas.List.{length-map}
use Rattle.number_columns.specs.Column.{pick}
use Rattle.sheet.proofs.ListLaws.{Every, mem_every, at_every, every_map}
use Rattle.model.specs.Decl.{
  Field,
  Ctor,
  no_ctor,
  Body,
  TAbstract,
  TAbbrev,
  TRecord,
  TVariant,
  Dtype,
  ctors_of,
  ctors_of_tydef,
  CtorLayout,
  NewtypeLayout,
  Layout,
  L_erased,
  L_opaque,
  TypeInfo,
  Origin,
  here,
  imported,
  Decl,
  dtype_at,
  origin_at,
  table,
  position,
}
use Rattle.model.specs.Erasure.{marked, erasure_fixpoint}
use Rattle.model.specs.Layout.{slots, kept, ctor_layout, ctor_tag, layouts_of_ctors, ctor_layouts, candidates_of, passes_of, dropped, collapse, layout_of_body, layout_of}
use Rattle.model.specs.Run.{run, layouts_of, layout_of_decl, info_at}
use Rattle.model.specs.Names.{Declared}
use Rattle.model_laws.specs.Lists.{trues}
use Rattle.model_laws.specs.Layout.{get_or_layouts}
use Rattle.model_laws.specs.Run.{get_or_infos, length_infos, local_info, import_info}
use Rattle.model_patterns.specs.Pat.{Owner, find_ctor, owned, ctor_owner, nth_layout, type_layout, Constructed, Slotted, Sound}

-- what stands for a verdict past the last
abbrev no_info : TypeInfo
no_info = record { ti_erased = false; ti_layout = L_opaque; ti_ctors = []; ti_record = false }

-- ---- entries
abbrev OnFound : {A : Type 0} → (A → Type 0) → Option A → Type 0
OnFound P none = Unit {0}
OnFound P (some x) = P x

-- what is to hold of a constructor's layout with its type's, where the constructor's name is n
module _ (n : ℕ) (Q : Layout → CtorLayout → Type 0) where
  abbrev pub Named : Layout → CtorLayout → Type 0
  Named l cl = cl.cl_name ≡ n → Q l cl

  found_ctor : (l : Layout) (cls : List CtorLayout) → Every (Named l) cls → OnFound (Q l) (find_ctor cls n)
  unfolding find_ctor
  found_ctor l [] h = tt
  found_ctor l (cl ∷ cls) h = go (eqb cl.cl_name n) refl (found_ctor l cls h.1)
    where
      go : (b : Bool) → eqb cl.cl_name n ≡ b → OnFound (Q l) (find_ctor cls n) → OnFound (Q l) (pick b (some cl) (find_ctor cls n))
      go true e ih = h.0 (eqb→eq cl.cl_name n (rw e tt))
      go false e ih = ih

  abbrev OnOwner : Option Owner → Type 0
  OnOwner = OnFound (λ o. Q o.layout o.ctor_layout)

  found_owner : (tis : List TypeInfo) → Every (λ ti. Every (Named ti.ti_layout) ti.ti_ctors) tis → OnOwner (ctor_owner tis n)
  unfolding ctor_owner owned
  found_owner [] h = tt
  found_owner (ti ∷ tis) h =
      go (find_ctor ti.ti_ctors n) (found_ctor ti.ti_layout ti.ti_ctors h.0) (found_owner tis h.1)
    where
      go : (c : Option CtorLayout) → OnFound (Q ti.ti_layout) c → OnOwner (ctor_owner tis n) → OnOwner (owned ti.ti_layout c (ctor_owner tis n))
      go none k ih = ih
      go (some cl) k ih = k

  -- What every constructor of that name has, in every verdict, its owner has.
  pub owner_has : (tis : List TypeInfo) → Every (λ ti. Every (Named ti.ti_layout) ti.ti_ctors) tis
      → (o : Owner) → ctor_owner tis n ≡ some o → Q o.layout o.ctor_layout
  owner_has tis h o e = rw e at (found_owner tis h)

-- ---- where an owner comes from
-- a verdict that has the constructor, under that name, and the layout
pub record Listed (tis : List TypeInfo) (n : ℕ) (o : Owner) : Type 0 where
  pub verdict : TypeInfo
  pub listed : Memᴰ verdict tis
  pub its_layout : o.layout ≡ verdict.ti_layout
  pub its_ctor : Memᴰ o.ctor_layout verdict.ti_ctors
  pub its_name : o.ctor_layout.cl_name ≡ n

-- an owner is listed
pub owner_listed : (tis : List TypeInfo) (n : ℕ) (o : Owner) → ctor_owner tis n ≡ some o → Listed tis n o
owner_listed tis n =
    owner_has n (λ l cl. Listed tis n (record { layout = l; ctor_layout = cl })) tis (mem_every _ tis (λ ti m. mem_every _ ti.ti_ctors (λ cl k e. record { verdict = ti; listed = m; its_layout = refl; its_ctor = k; its_name = e })))

ctor_found : (cls : List CtorLayout) (cl : CtorLayout) → Memᴰ cl cls → (c : CtorLayout) × (find_ctor cls cl.cl_name ≡ some c)
unfolding find_ctor
ctor_found [] cl m = absurd (Memᴰ.not-nil m)
ctor_found (k ∷ cls) cl m = go (eqb k.cl_name cl.cl_name) refl (ctor_found cls cl) (Memᴰ.cases_cons m)
  where
    go : (b : Bool)
        → eqb k.cl_name cl.cl_name ≡ b
        → (Memᴰ cl cls → (c : CtorLayout) × (find_ctor cls cl.cl_name ≡ some c))
        → (cl ≡ k) ⊎ Memᴰ cl cls
        → (c : CtorLayout) × (pick b (some k) (find_ctor cls cl.cl_name) ≡ some c)
    go true e ih c = (k, refl)
    go false e ih (inl q) = let t : T (eqb k.cl_name cl.cl_name) = rw q (eqb_refl k.cl_name) in absurd (rw e at t)
    go false e ih (inr u) = ih u

-- a listed constructor has an owner under its name
pub owner_found : (tis : List TypeInfo) (ti : TypeInfo) (cl : CtorLayout) → Memᴰ ti tis → Memᴰ cl ti.ti_ctors
    → (o : Owner) × (ctor_owner tis cl.cl_name ≡ some o)
unfolding ctor_owner owned
owner_found [] ti cl m k = absurd (Memᴰ.not-nil m)
owner_found (ui ∷ tis) ti cl m k =
    go (find_ctor ui.ti_ctors cl.cl_name) refl (λ u. owner_found tis ti cl u k) (Memᴰ.cases_cons m)
  where
    go : (c : Option CtorLayout)
        → find_ctor ui.ti_ctors cl.cl_name ≡ c
        → (Memᴰ ti tis → (o : Owner) × (ctor_owner tis cl.cl_name ≡ some o))
        → (ti ≡ ui) ⊎ Memᴰ ti tis
        → (o : Owner) × (owned ui.ti_layout c (ctor_owner tis cl.cl_name) ≡ some o)
    go (some c) e ih q = (record { layout = ui.ti_layout; ctor_layout = c }, refl)
    go none e ih (inl q) = let f : (c : CtorLayout) × (find_ctor ui.ti_ctors cl.cl_name ≡ some c) = ctor_found ui.ti_ctors cl (rw q at k) in absurd (none-ne-some f.0 (sym e ∙ f.1))
    go none e ih (inr u) = ih u

-- Where no other constructor is listed under its name, a listed one is the owner.
pub owner_is : (tis : List TypeInfo) (n : ℕ) (o : Owner) → Listed tis n o → ((o' : Owner) → Listed tis n o' → o' ≡ o) → ctor_owner tis n ≡ some o
owner_is tis n o q u =
    let f : (o' : Owner) × (ctor_owner tis n ≡ some o') = rw q.its_name at (owner_found tis q.verdict o.ctor_layout q.listed q.its_ctor) in
    f.1 ∙ ap (λ (x : Owner). some x) (u f.0 (owner_listed tis n f.0 f.1))

-- ---- types
-- the layout of a type that is declared, and none of one that is not
pub layout_within : (tis : List TypeInfo) (i : ℕ) (d : TypeInfo) → i < length tis → nth_layout tis i ≡ some (get_or tis i d).ti_layout
unfolding nth_layout
layout_within [] i d h = absurd (omega arith)
layout_within (ti ∷ tis) zero d h = refl
layout_within (ti ∷ tis) (suc i) d h = layout_within tis i d (omega arith)

pub layout_past : (tis : List TypeInfo) (i : ℕ) → length tis ≤ i → nth_layout tis i ≡ none
unfolding nth_layout
layout_past [] i h = refl
layout_past (ti ∷ tis) zero h = absurd (omega arith)
layout_past (ti ∷ tis) (suc i) h = layout_past tis i (omega arith)

pub declared_layout : (fuel : ℕ) (ds : List Decl) (n : ℕ) → Declared ds n
    → type_layout ds (run fuel ds).infos n ≡ some (info_at fuel ds (position ds n)).ti_layout
unfolding type_layout
declared_layout fuel ds n h =
    layout_within (run fuel ds).infos (position ds n) no_info (rw (length_infos fuel ds) h)
    ∙ ap (λ (ti : TypeInfo). some ti.ti_layout) (get_or_infos fuel ds (position ds n) no_info h)

pub foreign_layout : (fuel : ℕ) (ds : List Decl) (n : ℕ) → position ds n ≡ length ds → type_layout ds (run fuel ds).infos n ≡ none
unfolding type_layout
foreign_layout fuel ds n e = layout_past (run fuel ds).infos (position ds n) (omega (arith, e, length_infos fuel ds))

-- ---- soundness
-- a verdict whose constructors' slots and kept fields agree, of a layout that a type with constructors can have
abbrev pub SoundInfo : TypeInfo → Type 0
SoundInfo ti = Every (λ cl. Constructed ti.ti_layout × Slotted cl) ti.ti_ctors

-- sound verdicts make a sound table
pub owners_sound : (tis : List TypeInfo) → Every SoundInfo tis → Sound (ctor_owner tis)
owners_sound tis h = record { constructed = λ n o e. (has n o e).0; slotted = λ n o e. (has n o e).1 }
  where
    has : (n : ℕ) (o : Owner) → ctor_owner tis n ≡ some o → Constructed o.layout × Slotted o.ctor_layout
    has n =
        owner_has n (λ l cl. Constructed l × Slotted cl) tis (every_map _ _ (λ ti k. every_map _ _ (λ cl x e. x) ti.ti_ctors k) tis h)

-- where there are as many slots as fields, as many fields are kept as slots
pub kept_count : (bs : List Bool) (fs : List Field) → length bs ≡ length fs → trues bs ≡ length (kept bs fs)
unfolding trues kept
kept_count [] [] e = refl
kept_count [] (f ∷ fs) e = absurd (omega arith)
kept_count (b ∷ bs) [] e = absurd (omega arith)
kept_count (true ∷ bs) (f ∷ fs) e = omega (arith, kept_count bs fs (omega arith))
kept_count (false ∷ bs) (f ∷ fs) e = omega (arith, kept_count bs fs (omega arith))

pub ctor_layout_slotted : (tag : Option ℕ) (c : Ctor) (bs : List Bool) → length bs ≡ length c.ct_fields → Slotted (ctor_layout tag c bs)
unfolding ctor_layout
ctor_layout_slotted tag c bs e = kept_count bs c.ct_fields e

every_table : {A : Type 0} (P : A → Type 0) (f : ℕ → A) (n : ℕ) → ((i : ℕ) → P (f i)) → Every P (table f n)
unfolding table
every_table P f zero h = tt
every_table P f (suc n) h = (h 0, every_table P (λ i. f (suc i)) n (λ i. h (suc i)))

-- by the types of the fields
pub layouts_slotted : (er : ℕ → Bool) (tag : ℕ → Option ℕ) (cs : List Ctor) → Every Slotted (layouts_of_ctors er tag cs)
unfolding slots
layouts_slotted er tag cs =
    every_table Slotted _ (length cs) (λ i. ctor_layout_slotted (tag i) (get_or cs i no_ctor) (slots er (get_or cs i no_ctor).ct_fields) (length-map (get_or cs i no_ctor).ct_fields _))

-- ---- of a program
collapse_constructed : (drop : Bool) (cand : Option NewtypeLayout) (cls : List CtorLayout) → Constructed (collapse drop cand cls)
unfolding collapse
collapse_constructed true cand cls = tt
collapse_constructed false none cls = tt
collapse_constructed false (some nt) cls = tt

with_layout : (l : Layout) → Constructed l → (er : ℕ → Bool) (tag : ℕ → Option ℕ) (cs : List Ctor) → Every (λ cl. Constructed l × Slotted cl) (layouts_of_ctors er tag cs)
with_layout l c er tag cs =
    every_map Slotted (λ cl. Constructed l × Slotted cl) (λ cl x. (c, x)) (layouts_of_ctors er tag cs) (layouts_slotted er tag cs)

-- a type with constructors that is here is erased, a newtype or a struct
body_sound : (er : ℕ → Bool) (n : ℕ) (b : Body) (drop : Bool) (cand : Option NewtypeLayout) (cls : List CtorLayout)
    → Every (λ cl. Constructed (layout_of_body b drop cand cls) × Slotted cl) (layouts_of_ctors er (ctor_tag (length (ctors_of n b))) (ctors_of n b))
unfolding layout_of_body ctors_of table
body_sound er n TAbstract drop cand cls = tt
body_sound er n (TAbbrev c) drop cand cls = tt
body_sound er n (TRecord fs) drop cand cls =
    with_layout (collapse drop cand cls) (collapse_constructed drop cand cls) er (ctor_tag 1) (record { ct_name = n; ct_fields = fs } ∷ [])
body_sound er n (TVariant cs) drop cand cls = with_layout (collapse drop cand cls) (collapse_constructed drop cand cls) er (ctor_tag (length cs)) cs

here_sound : (er : ℕ → Bool) (d : Dtype) (e drop : Bool) (cand : Option NewtypeLayout) (cls : List CtorLayout)
    → Every (λ cl. Constructed (layout_of d here e drop cand cls) × Slotted cl) (ctor_layouts er d)
unfolding layout_of ctor_layouts
here_sound er d true drop cand cls = with_layout L_erased tt er (ctor_tag (length (ctors_of_tydef d))) (ctors_of_tydef d)
here_sound er d false drop cand cls = body_sound er d.dt_name d.dt_body drop cand cls

local_layout : (ds : List Decl) (i : ℕ) → i < length ds → origin_at ds i ≡ here
    → layout_of_decl ds i ≡ (let s : List Bool = (erasure_fixpoint ds).marks in layout_of (dtype_at ds i) here (get_or s i false) (dropped ds (passes_of ds s) i) (get_or (candidates_of ds s) i none) (ctor_layouts (marked ds s) (dtype_at ds i)))
unfolding layouts_of
local_layout ds i h o = get_or_layouts ds (erasure_fixpoint ds).marks i L_opaque h ∙ rw o

-- The verdicts that `run` gives make a sound table if those of the imports are sound.
pub run_sound : (fuel : ℕ) (ds : List Decl) → ((i : ℕ) (ti : TypeInfo) → i < length ds → origin_at ds i ≡ imported ti → SoundInfo ti)
    → Sound (ctor_owner (run fuel ds).infos)
run_sound fuel ds h =
    owners_sound (run fuel ds).infos (at_every SoundInfo no_info (run fuel ds).infos (λ i l. let k : i < length ds = rw (length_infos fuel ds) at l in rw (get_or_infos fuel ds i no_info k) (by i k (origin_at ds i) refl)))
  where
    by : (i : ℕ) → i < length ds → (o : Origin) → origin_at ds i ≡ o → SoundInfo (info_at fuel ds i)
    by i k (imported ti) e = rw (import_info fuel ds i ti e) (h i ti k e)
    by i k here e = rw (local_info fuel ds i e, local_layout ds i k e) (here_sound _ (dtype_at ds i) _ _ _ _)
