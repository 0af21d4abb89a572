-- The layout that an import's lines say names only what the declaration's own types name. Assumes nothing.
use mathlib.Core.List.Memᴰ
use Rattle.std.specs.Prelude.{List, [], ◌∷◌, Bool, true, false, ℕ, suc, eqb}
use Rattle.std.proofs.Math.Option.{Option}
use Rattle.number_columns.specs.Column.{pick, ◌⇒◌∥◌}
use Rattle.sheet.specs.Line.{Line}
use Rattle.model.specs.Decl.{Ctor, Body, TAbstract, TAbbrev, TRecord, TVariant, Dtype, ctors_of_tydef, CtorLayout, L_erased, L_struct, L_opaque}
use Rattle.model.specs.Layout.{ctor_layout, newtype_of, collapse}
use Rattle.model.specs.Names.{ctors_names, body_names, dtype_names, Among, cls_names, layout_names}
use Rattle.model_laws.specs.Names.{among_append, kept_names, ctors_own}
use Rattle.model_laws.specs.Own.{Own, option_weaken, newtype_own, collapse_own}
use Rattle.meaning.specs.Program.{keeps_of, tags, ctor_layouts_by, abbreviated, layout_by, info_of}

pub cls_by : (tag : ℕ → Option ℕ) (cs : List Ctor) (bss : List (List Bool)) → Among (cls_names (ctor_layouts_by tag cs bss)) (ctors_names cs)
unfolding cls_names ctors_names ctor_layout ctor_layouts_by
cls_by tag [] bss n m = m
cls_by tag (c ∷ cs) [] n m = absurd (Memᴰ.not-nil m)
cls_by tag (c ∷ cs) (bs ∷ bss) n m = among_append _ _ _ _ (kept_names bs c.ct_fields) (cls_by (λ i. tag (suc i)) cs bss) n m

pub ctor_layouts_by_own : (d : Dtype) (tag : ℕ → Option ℕ) (bss : List (List Bool)) → Own d (ctor_layouts_by tag (ctors_of_tydef d) bss)
unfolding dtype_names
ctor_layouts_by_own d tag bss n m = ctors_own d.dt_name d.dt_body n (cls_by tag (ctors_of_tydef d) bss n m)

-- the layout that an import's lines say
abbreviated_own : (b : Body) → Among (layout_names (abbreviated b)) (body_names b)
unfolding layout_names body_names
abbreviated_own TAbstract n m = m
abbreviated_own (TAbbrev c) n m = m
abbreviated_own (TRecord fs) n m = absurd (Memᴰ.not-nil m)
abbreviated_own (TVariant cs) n m = absurd (Memᴰ.not-nil m)

pub layout_by_own : (d : Dtype) (k : ℕ) (cls : List CtorLayout) → Own d cls → Among (layout_names (layout_by k d.dt_body cls)) (dtype_names d)
unfolding layout_by dtype_names layout_names
layout_by_own d k cls f = go0 (eqb k 0)
  where
    go3 : (b : Bool) → Among (layout_names (pick b (abbreviated d.dt_body) L_opaque)) (body_names d.dt_body)
    go3 true = abbreviated_own d.dt_body
    go3 false = λ n m. absurd (Memᴰ.not-nil m)

    go2 : (b : Bool) → Among (layout_names (pick b (L_struct cls) (eqb k 3 ⇒ abbreviated d.dt_body ∥ L_opaque))) (body_names d.dt_body)
    go2 true = f
    go2 false = go3 (eqb k 3)

    go1 : (b : Bool) → Among (layout_names (pick b (collapse false (newtype_of cls) cls) (eqb k 2 ⇒ L_struct cls ∥ eqb k 3 ⇒ abbreviated d.dt_body ∥ L_opaque))) (body_names d.dt_body)
    go1 true = collapse_own _ false (newtype_of cls) cls f (option_weaken (cls_names cls) (body_names d.dt_body) (newtype_of cls) f (newtype_own cls))
    go1 false = go2 (eqb k 2)

    go0 : (b : Bool)
        → Among (layout_names (pick b L_erased (eqb k 1 ⇒ collapse false (newtype_of cls) cls ∥ eqb k 2 ⇒ L_struct cls ∥ eqb k 3 ⇒ abbreviated d.dt_body ∥ L_opaque))) (body_names d.dt_body)
    go0 true = λ n m. absurd (Memᴰ.not-nil m)
    go0 false = go1 (eqb k 1)

pub info_own : (d : Dtype) (ls : List Line) (v : Line) → Among (layout_names (info_of d ls v).ti_layout) (dtype_names d)
unfolding info_of
info_own d ls v = layout_by_own d _ _ (ctor_layouts_by_own d (tags ls) (keeps_of d.dt_body ls))
