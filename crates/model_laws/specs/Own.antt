-- The types of a declaration's layout name only what the declaration's own types name.
-- Assumes nothing.
use Rattle.std.specs.Prelude.{◌≡◌, refl, Bool, true, false, ◌||◌, ℕ, suc}
use Rattle.std.proofs.Common.{sym, subst}
use mathlib.Core.List.Memᴰ
use mathlib.Core.List.{List, [], ◌∷◌, ◌++◌, Memᴰ}
use Rattle.std.proofs.Math.Option.{Option, none, some}
use Rattle.number_columns.specs.Column.{pick}
use Rattle.model.specs.Cty.{names_of_cty}
use Rattle.model.specs.Decl.{table, Field, Ctor, Body, TAbstract, TAbbrev, TRecord, TVariant, Dtype, ctors_of_tydef, has_flag, NoNewtype, CtorLayout, NewtypeLayout, Origin, here, imported}
use Rattle.model.specs.Layout.{slots, layouts_of_ctors, ctor_layout, ctor_layouts, newtype_of_ctor, newtype_of, candidate, collapse, layout_of_body, layout_of}
use Rattle.model.specs.Names.{layout_names, cls_names, fields_names, ctors_names, body_names, dtype_names, Among}
use Rattle.model_laws.specs.Cty.{uninline_names}
use Rattle.model_laws.specs.Names.{among_append, kept_names, ctors_own}

ctors_own_layouts : (er : ℕ → Bool) (tag : ℕ → Option ℕ) (cs : List Ctor) → Among (cls_names (layouts_of_ctors er tag cs)) (ctors_names cs)
unfolding table cls_names ctors_names ctor_layout
ctors_own_layouts er tag [] n m = m
ctors_own_layouts er tag (c ∷ cs) n m = among_append _ _ _ _ (kept_names (slots er c.ct_fields) c.ct_fields) (ctors_own_layouts er (λ i. tag (suc i)) cs) n m

-- the constructors' layouts of a declaration, however the slots were found
abbrev pub Own : Dtype → List CtorLayout → Type 0
Own d cls = Among (cls_names cls) (dtype_names d)

pub ctor_layouts_own : (er : ℕ → Bool) (d : Dtype) → Own d (ctor_layouts er d)
unfolding ctor_layouts dtype_names
ctor_layouts_own er d n m = ctors_own d.dt_name d.dt_body n (ctors_own_layouts er _ (ctors_of_tydef d) n m)

-- ---- newtypes
abbrev pub OptionNames : List ℕ → Option NewtypeLayout → Type 0
OptionNames ns none = Unit {0}
OptionNames ns (some nt) = Among (names_of_cty nt.nt_ty) ns

newtype_ctor_own : (n : ℕ) (bs : List Bool) (fs : List Field) → OptionNames (fields_names fs) (newtype_of_ctor n bs fs)
unfolding newtype_of_ctor fields_names
newtype_ctor_own n bs [] = tt
newtype_ctor_own n bs (f ∷ []) = λ k m. Memᴰ.append_left [] (subst (Memᴰ k) (uninline_names f.fd_type) m)
newtype_ctor_own n bs (f ∷ g ∷ fs) = tt

pub option_weaken : (ms ns : List ℕ) (o : Option NewtypeLayout) → Among ms ns → OptionNames ms o → OptionNames ns o
option_weaken ms ns none f h = tt
option_weaken ms ns (some nt) f h = λ n m. f n (h n m)

pub newtype_own : (cls : List CtorLayout) → OptionNames (cls_names cls) (newtype_of cls)
unfolding newtype_of cls_names
newtype_own [] = tt
newtype_own (cl ∷ []) =
    option_weaken (fields_names cl.cl_fields) (fields_names cl.cl_fields ++ []) (newtype_of_ctor cl.cl_name cl.cl_slots cl.cl_fields) (λ n m. Memᴰ.append_left [] m) (newtype_ctor_own cl.cl_name cl.cl_slots cl.cl_fields)
newtype_own (cl ∷ cm ∷ cls) = tt

-- ---- layouts
candidate_own : (d : Dtype) (o : Origin) (e : Bool) (cls : List CtorLayout) → OptionNames (cls_names cls) (candidate d o e cls)
unfolding candidate
candidate_own d here e cls = go (e || has_flag d NoNewtype)
  where
    go : (b : Bool) → OptionNames (cls_names cls) (pick b none (newtype_of cls))
    go true = tt
    go false = newtype_own cls
candidate_own d (imported ti) e cls = tt

pub collapse_own : (ns : List ℕ) (b : Bool) (o : Option NewtypeLayout) (cls : List CtorLayout) → Among (cls_names cls) ns → OptionNames ns o → Among (layout_names (collapse b o cls)) ns
unfolding collapse layout_names
collapse_own ns true o cls f h = f
collapse_own ns false none cls f h = f
collapse_own ns false (some nt) cls f h = h

-- the layout of a local declaration
pub layout_own : (er : ℕ → Bool) (d : Dtype) (e drop : Bool)
    → Among (layout_names (layout_of d here e drop (candidate d here e (ctor_layouts er d)) (ctor_layouts er d))) (dtype_names d)
unfolding layout_of layout_of_body layout_names dtype_names body_names
layout_own er d true drop = λ n m. absurd (Memᴰ.not-nil m)
layout_own er d false drop = go d.dt_body refl
  where
    cls : List CtorLayout
    cls = ctor_layouts er d

    cand : Option NewtypeLayout
    cand = candidate d here false cls

    struct : Among (layout_names (collapse drop cand cls)) (body_names d.dt_body)
    struct =
        collapse_own (body_names d.dt_body) drop cand cls (ctor_layouts_own er d) (option_weaken (cls_names cls) (body_names d.dt_body) cand (ctor_layouts_own er d) (candidate_own d here false cls))

    go : (b : Body) → d.dt_body ≡ b → Among (layout_names (layout_of_body b drop cand cls)) (body_names d.dt_body)
    go TAbstract q n m = absurd (Memᴰ.not-nil m)
    go (TAbbrev c) q n m = subst (λ (x : Body). Memᴰ n (body_names x)) (sym q) m
    go (TRecord fs) q n m = struct n m
    go (TVariant cs) q n m = struct n m
