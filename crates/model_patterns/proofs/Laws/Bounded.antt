-- The new pattern's nodes and the freed names together are at most the pattern's nodes. Assumes nothing.
use Rattle.std.specs.Prelude.{[], ◌∷◌, ℕ, ◌+◌, ◌≤◌, length}
use Rattle.std.proofs.Math.Option.{Option, none, some}
use Rattle.std.proofs.Common.{arith, length-append}
use Rattle.model.specs.Decl.{CtorLayout, Layout, L_erased, L_newtype, L_struct, L_abbrev, L_opaque}
use Rattle.model_patterns.specs.Pat.{
  Pat,
  Pats,
  PWild,
  PVar,
  PConst,
  PCtor,
  PRecord,
  PTuple,
  POr,
  no_parts,
  part,
  pat_vars,
  pats_vars,
  nodes,
  nodes_of_parts,
  nth_opt,
  other_parts,
  try_find,
  keep_by_slots,
  keep_by_name,
  named,
  names_one,
  Owner,
  Rewritten,
  RewrittenParts,
  dropping,
  wild,
  newtype_ctor,
  owned_ctor,
  rw_ctor,
  newtype_record,
  rw_record,
  rw_pat,
  many,
}
use Rattle.model_patterns.proofs.Laws.Weights.{weighs, weight_nodes, slots_weight, names_weight, nth_weight, find_weight}

-- a variable is a node
mutual
  unfolding pat_vars nodes

  pub vars_bounded : (p : Pat) → length (pat_vars p) ≤ nodes p
  vars_bounded PWild = omega arith
  vars_bounded (PVar v) = omega arith
  vars_bounded (PConst c) = omega arith
  vars_bounded (PCtor n ps) = omega (arith, parts_vars_bounded ps)
  vars_bounded (PRecord n ps) = omega (arith, parts_vars_bounded ps)
  vars_bounded (PTuple ps) = omega (arith, parts_vars_bounded ps)
  vars_bounded (POr ps) = omega (arith, parts_vars_bounded ps)

  pub parts_vars_bounded : (ps : Pats) → length (pats_vars ps) ≤ nodes_of_parts ps
  parts_vars_bounded no_parts = omega arith
  parts_vars_bounded (part f p ps) = omega (arith, vars_bounded p, parts_vars_bounded ps, length-append (pat_vars p) (pats_vars ps))

-- what parts take, and what a pattern takes, with the freed names
abbrev parts_taken : RewrittenParts → ℕ
parts_taken m = nodes_of_parts m.pats + length m.freed

abbrev taken : Rewritten → ℕ
taken r = nodes r.pat + length r.freed

dropping_bounded : (m : RewrittenParts) (qs : Pats) (p : Pat)
    → nodes p + nodes_of_parts qs ≤ 1 + nodes_of_parts m.pats → taken (dropping m qs p) ≤ 1 + parts_taken m
dropping_bounded m qs p h = omega (arith, length-append m.freed (pats_vars qs), parts_vars_bounded qs)

wild_bounded : (m : RewrittenParts) → taken (wild m) ≤ 1 + parts_taken m
unfolding nodes
wild_bounded m = dropping_bounded m m.pats PWild (omega arith)

newtype_ctor_bounded : (i : ℕ) (m : RewrittenParts) (o : Option Pat)
    → weighs nodes o + nodes_of_parts (other_parts m.pats i) ≤ nodes_of_parts m.pats → taken (newtype_ctor i m o) ≤ 1 + parts_taken m
unfolding newtype_ctor
newtype_ctor_bounded i m none h = wild_bounded m
newtype_ctor_bounded i m (some p) h = dropping_bounded m (other_parts m.pats i) p (omega arith)

owned_bounded : (n : ℕ) (m : RewrittenParts) (l : Layout) (cl : CtorLayout) → taken (owned_ctor n m l cl) ≤ 1 + parts_taken m
unfolding owned_ctor nodes
owned_bounded n m l cl = by l
  where
    struct : taken (owned_ctor n m (L_struct []) cl) ≤ 1 + parts_taken m
    struct =
        let k : Pats = (keep_by_slots cl.cl_slots m.pats).kept in
        let d : Pats = (keep_by_slots cl.cl_slots m.pats).dropped in
        dropping_bounded m d (PCtor n k) (omega (arith, slots_weight nodes cl.cl_slots m.pats, weight_nodes k, weight_nodes d, weight_nodes m.pats))

    by : (l : Layout) → taken (owned_ctor n m l cl) ≤ 1 + parts_taken m
    by L_erased = wild_bounded m
    by (L_newtype nt) =
        newtype_ctor_bounded nt.nt_index m (nth_opt m.pats nt.nt_index) (omega (arith, nth_weight nodes m.pats nt.nt_index, weight_nodes (other_parts m.pats nt.nt_index), weight_nodes m.pats))
    by (L_struct cls) = struct
    by (L_abbrev c) = struct
    by L_opaque = struct

over_bounded : (m : RewrittenParts) → 1 + nodes_of_parts m.pats + length m.freed ≤ 1 + parts_taken m
over_bounded m = omega arith

ctor_bounded : (n : ℕ) (m : RewrittenParts) (o : Option Owner) → taken (rw_ctor n m o) ≤ 1 + parts_taken m
unfolding rw_ctor nodes
ctor_bounded n m none = over_bounded m
ctor_bounded n m (some o) = owned_bounded n m o.layout o.ctor_layout

newtype_record_bounded : (g : ℕ) (m : RewrittenParts) (o : Option Pat)
    → weighs nodes o + nodes_of_parts (keep_by_name (named g) m.pats).dropped ≤ nodes_of_parts m.pats
    → taken (newtype_record g m o) ≤ 1 + parts_taken m
unfolding newtype_record
newtype_record_bounded g m none h = wild_bounded m
newtype_record_bounded g m (some p) h = dropping_bounded m (keep_by_name (named g) m.pats).dropped p (omega arith)

record_bounded : (n : ℕ) (m : RewrittenParts) (o : Option Layout) → taken (rw_record n m o) ≤ 1 + parts_taken m
unfolding rw_record nodes
record_bounded n m none = over_bounded m
record_bounded n m (some L_erased) = wild_bounded m
record_bounded n m (some (L_newtype nt)) =
    let d : Pats = (keep_by_name (named nt.nt_field) m.pats).dropped in
    newtype_record_bounded nt.nt_field m (try_find (named nt.nt_field) m.pats) (omega (arith, find_weight nodes (named nt.nt_field) m.pats, weight_nodes d, weight_nodes m.pats))
record_bounded n m (some (L_struct [])) = over_bounded m
record_bounded n m (some (L_struct (cl ∷ []))) =
    let k : Pats = (keep_by_name (names_one cl.cl_fields) m.pats).kept in
    let d : Pats = (keep_by_name (names_one cl.cl_fields) m.pats).dropped in
    dropping_bounded m d (PRecord n k) (omega (arith, names_weight nodes (names_one cl.cl_fields) m.pats, weight_nodes k, weight_nodes d, weight_nodes m.pats))
record_bounded n m (some (L_struct (cl ∷ cm ∷ cls))) = over_bounded m
record_bounded n m (some (L_abbrev c)) = over_bounded m
record_bounded n m (some L_opaque) = over_bounded m

module _ (owner : ℕ → Option Owner) (layout : ℕ → Option Layout) where
  mutual
    unfolding rw_pat nodes

    pub lines_bounded : (p : Pat) → nodes (rw_pat owner layout p).pat + length (rw_pat owner layout p).freed ≤ nodes p
    lines_bounded PWild = omega arith
    lines_bounded (PVar v) = omega arith
    lines_bounded (PConst c) = omega arith
    lines_bounded (PCtor n ps) = omega (arith, ctor_bounded n (many owner layout ps) (owner n), parts_bounded ps)
    lines_bounded (PRecord n ps) = omega (arith, record_bounded n (many owner layout ps) (layout n), parts_bounded ps)
    lines_bounded (PTuple ps) = omega (arith, parts_bounded ps)
    lines_bounded (POr ps) = omega (arith, parts_bounded ps)

    pub parts_bounded : (ps : Pats) → nodes_of_parts (many owner layout ps).pats + length (many owner layout ps).freed ≤ nodes_of_parts ps
    parts_bounded no_parts = omega arith
    parts_bounded (part f p ps) =
        omega (arith, lines_bounded p, parts_bounded ps, length-append (rw_pat owner layout p).freed (many owner layout ps).freed)
