-- The cells of constructors, from the last to the first. Assumes nothing.
use Rattle.std.specs.Prelude.{◌≡◌, ◌≢◌, List, Bool, length, get_or, set}
use Rattle.std.proofs.Math.Path.{refl, sym}
use Rattle.std.proofs.Common.{ap, ◌∙◌, subst, length-set, get_or-set_same, get_or-set_other}
use Rattle.std.proofs.Math.Bool.{true, false}
use Prim.Native.Nat.{ℕ, zero, suc, ◌+◌, ◌-◌, ◌*◌, ◌≤◌, ◌<◌}
use native.Mathlib.Omega.{arith}
use Rattle.std.proofs.Math.Dec.{eqb}
use borrow.Author.Tests.{eqb-true, eqb-false, ne_eqb}
use Rattle.number_columns.specs.Column.{pick, ◌⇒◌∥◌}
use Rattle.sheet.specs.Line.{Line, number}
use Rattle.model_laws.specs.Rounds.{cases_eq}
use Rattle.meaning.specs.Program.{name_line, ctor_line, field_line, Group}
use Rattle.meaning.specs.Rows.{nth_line, count_of}
use Rattle.row4_limits.specs.Limits.{start}
use Rattle.row6_distinct.specs.Ways.{Declared, Constructors, takes}
use Rattle.row6_distinct.specs.WaysLaws.{named_below}
use Rattle.table_declared.specs.Passed.{Passed}
use Rattle.table_declared.specs.PassedLaws.{fields_few}
use Rattle.table_declared.specs.LineLaws.{stands, good_line}
use Rattle.table_declared.specs.DeclLaws.{first_next, group_is, line_inside, line_of_head, whole_at}
use Rattle.table_access.specs.Tables.{head_line, decls_of, first_of}
use Rattle.erasure_laws.specs.BodiesLaws.{first_le}
use Rattle.keep_layouts.specs.Kept.{body_kind, body_last, ctor_name, ctor_fields}
use Rattle.keep_laws.specs.KeptLaws.{fields_in, total_record, total_variant}
use Rattle.pattern_ctors.specs.Sites.{Site, no_site, site_at, site_among, site_in, site_after, site_from, site_of, put_site, Holds, Cells, SitedFrom, Sited, Cleared}

-- ---- one name
length_put : (m : List ℕ) (n : ℕ) (s : Site) → length (put_site m n s) ≡ length m
unfolding put_site
length_put m n s = simp length-set

put_same : (m : List ℕ) (n : ℕ) (s : Site) → 3 * n + 2 < length m → Holds (put_site m n s) n s
unfolding put_site
put_same m n s h =
    let a : List ℕ = set m (3 * n) s.owner in
    let c : List ℕ = set a (3 * n + 1) s.first in
    let la : length a ≡ length m = length-set m (3 * n) s.owner in
    let lc : length c ≡ length a = length-set a (3 * n + 1) s.first in
    record {
      owned =
          get_or-set_other c (3 * n + 2) (3 * n) s.count 0 (λ z. omega arith)
          ∙ get_or-set_other a (3 * n + 1) (3 * n) s.first 0 (λ z. omega arith)
          ∙ get_or-set_same m (3 * n) s.owner 0 (omega arith);
      begun = get_or-set_other c (3 * n + 2) (3 * n + 1) s.count 0 (λ z. omega arith) ∙ get_or-set_same a (3 * n + 1) s.first 0 (omega arith);
      counted = get_or-set_same c (3 * n + 2) s.count 0 (omega arith);
    }

put_else : (m : List ℕ) (n : ℕ) (s : Site) (i : ℕ) → i ≢ 3 * n → i ≢ 3 * n + 1 → i ≢ 3 * n + 2 → get_or (put_site m n s) i 0 ≡ get_or m i 0
unfolding put_site
put_else m n s i x y z =
    get_or-set_other (set (set m (3 * n) s.owner) (3 * n + 1) s.first) (3 * n + 2) i s.count 0 z
    ∙ get_or-set_other (set m (3 * n) s.owner) (3 * n + 1) i s.first 0 y
    ∙ get_or-set_other m (3 * n) i s.owner 0 x

put_other : (m : List ℕ) (n j : ℕ) (s r : Site) → (n ≡ j → ⊥) → Holds m j r → Holds (put_site m n s) j r
put_other m n j s r h q =
    record {
      owned = put_else m n s (3 * j) (λ z. h (omega arith)) (λ z. omega arith) (λ z. omega arith) ∙ q.owned;
      begun = put_else m n s (3 * j + 1) (λ z. omega arith) (λ z. h (omega arith)) (λ z. omega arith) ∙ q.begun;
      counted = put_else m n s (3 * j + 2) (λ z. omega arith) (λ z. omega arith) (λ z. h (omega arith)) ∙ q.counted;
    }

-- a constructor of name n before the others
pub cells_put : (ls : List Line) (m : List ℕ) (site : ℕ → Site) (n : ℕ) (s : Site) → n < count_of name_line ls → Cells ls m site
    → Cells ls (put_site m n s) (λ j. pick (eqb n j) s (site j))
cells_put ls m site n s h q =
    record { long = length_put m n s ∙ q.long; holds = λ j l. go (eqb n j) refl (q.holds j l) }
  where
    go : {j : ℕ} (c : Bool) → eqb n j ≡ c → Holds m j (site j) → Holds (put_site m n s) j (pick c s (site j))
    go {j} true e o = rw (sym (eqb-true n j e)) (put_same m n s (omega (arith, q.long)))
    go {j} false e o = put_other m n j s (site j) (eqb-false n j e) o

-- the same sites
pub cells_same : (ls : List Line) (m : List ℕ) (f g : ℕ → Site) → ((n : ℕ) → f n ≡ g n) → Cells ls m f → Cells ls m g
cells_same ls m f g e q = record { long = q.long; holds = λ n l. subst (Holds m n) (e n) (q.holds n l) }

-- no constructor
pub cells_none : (ls : List Line) (m : List ℕ) → Cleared m (length m) → length m ≡ 3 * count_of name_line ls → SitedFrom ls m (decls_of ls)
unfolding site_after
cells_none ls m c h =
    let z : decls_of ls - decls_of ls ≡ 0 = omega arith in
    cells_same ls m (λ n. no_site) (site_from ls (decls_of ls)) (λ n. rw z)
    (record { long = h; holds = λ n l. record { owned = c (3 * n) (omega arith); begun = c (3 * n + 1) (omega arith); counted = c (3 * n + 2) (omega arith) } })

pub cleared_next : (m : List ℕ) (i : ℕ) → i < length m → Cleared m i → Cleared (set m i 0) (i + 1)
cleared_next m i h c = λ j l. cases_eq j i (λ e. rw e (get_or-set_same m i 0 0 h)) (λ e. get_or-set_other m i j 0 0 e ∙ c j (omega arith))

-- all
pub cells_all : (ls : List Line) (m : List ℕ) → SitedFrom ls m 0 → Sited ls m
cells_all ls m q = let e : decls_of ls - 0 ≡ decls_of ls = omega arith in cells_same ls m (site_from ls 0) (site_of ls) (λ n. ap (λ (k : ℕ). site_after ls 0 k n) e) q

-- ---- a declaration
module _ (ls : List Line) (p : Passed ls) (d : ℕ) (h : d < decls_of ls) where
  one_more : (n : ℕ) → site_from ls d n ≡ site_in ls d n (site_from ls (suc d) n)
  unfolding site_after
  one_more n = let e : decls_of ls - d ≡ suc (decls_of ls - suc d) = omega arith in rw e

  -- its name is a name
  pub head_named : number (head_line ls d) 0 < count_of name_line ls
  head_named =
      let m : head_line ls d ≡ nth_line ls (start ls d) = ap (λ (g : Group). g.head) (group_is ls d h) in
      rw m (named_below ls (start ls d) (good_line ls p (start ls d) (line_inside ls d h)) Declared (line_of_head ls d h))

  -- neither a record nor a variant: it has no constructor
  pub sited_bare : (m : List ℕ) → (body_kind ls d ≡ 3 → ⊥) → (body_kind ls d ≡ 2 → ⊥) → SitedFrom ls m (suc d) → SitedFrom ls m d
  unfolding site_in
  sited_bare m a c q = cells_same ls m (site_from ls (suc d)) (site_from ls d) (λ n. sym (one_more n ∙ rw (ne_eqb (body_kind ls d) 2 c, ne_eqb (body_kind ls d) 3 a))) q

  module _ (e : body_kind ls d ≡ 2) where
    -- a record's F lines
    pub record_few : (first_of field_line ls d ≤ 2048) × (body_last ls d ≤ 2048)
    record_few = let t = total_record ls p d h e in let l = first_le field_line ls (suc d) in let k = fields_few ls p in (omega arith, omega arith)

    pub sited_record : (m : List ℕ) → SitedFrom ls m (suc d) → SitedFrom ls (put_site m (number (head_line ls d) 0) (site_at d (first_of field_line ls d) (body_last ls d))) d
    unfolding site_in
    sited_record m q =
        let s : Site = site_at d (first_of field_line ls d) (body_last ls d) in
        cells_same ls (put_site m (number (head_line ls d) 0) s) (λ j. pick (eqb (number (head_line ls d) 0) j) s (site_from ls (suc d) j)) (site_from ls d)
        (λ n. sym (one_more n ∙ rw e))
        (cells_put ls m (site_from ls (suc d)) (number (head_line ls d) 0) s head_named q)

-- ---- the constructors of a variant
-- the fields of one more constructor
fields_more : (ls : List Line) (c k : ℕ) → fields_in ls c (suc k) ≡ fields_in ls c k + ctor_fields ls (c + k)
unfolding fields_in
fields_more ls c zero = let e : c + 0 ≡ c = omega arith in rw e (omega arith)
fields_more ls c (suc k) = let e : c + suc k ≡ suc c + k = omega arith in rw e (omega (arith, fields_more ls (suc c) k))

-- the constructors from C line c on are there, and line f is the first F line of that one
pub record Amid (ls : List Line) (m : List ℕ) (d c f : ℕ) : Type 0 where
  pub low : first_of ctor_line ls d ≤ c
  pub high : c ≤ first_of ctor_line ls (suc d)
  pub begins : f ≡ first_of field_line ls d + fields_in ls (first_of ctor_line ls d) (c - first_of ctor_line ls d)
  pub few : f ≤ 2048
  pub cells : Cells ls m (λ n. site_among ls d c f (first_of ctor_line ls (suc d) - c) n (site_from ls (suc d) n))

-- what `put` asks for at constructor c
pub record Putting (ls : List Line) (m : List ℕ) (c f : ℕ) : Type 0 where
  pub is_ctor : c < count_of ctor_line ls
  pub named : ctor_name ls c < count_of name_line ls
  pub roomy : 3 * ctor_name ls c + 2 < length m
  pub enough : ctor_fields ls c ≤ f
  pub few : f ≤ 2048

module _ (ls : List Line) (p : Passed ls) (d : ℕ) (h : d < decls_of ls) (e : body_kind ls d ≡ 3) where
  ctors_end : first_of ctor_line ls (suc d) ≡ first_of ctor_line ls d + body_last ls d
  ctors_end = first_next ls d h ctor_line refl refl ∙ ap (λ (n : ℕ). first_of ctor_line ls d + n) ((whole_at ls p d h).ctors e)

  pub amid_none : (m : List ℕ) → SitedFrom ls m (suc d) → Amid ls m d (first_of ctor_line ls (suc d)) (first_of field_line ls (suc d))
  unfolding site_among
  amid_none m q =
      let z : first_of ctor_line ls (suc d) - first_of ctor_line ls (suc d) ≡ 0 = omega arith in
      let n : first_of ctor_line ls (suc d) - first_of ctor_line ls d ≡ body_last ls d = omega (arith, ctors_end) in
      record { low = omega (arith, ctors_end); high = omega arith; begins = rw n (total_variant ls p d h e); few = omega (arith, first_le field_line ls (suc d), fields_few ls p); cells = cells_same ls m (site_from ls (suc d)) _ (λ n. rw z) q }

  module _ (m : List ℕ) (c f : ℕ) (l : first_of ctor_line ls d ≤ c) (q : Amid ls m d (suc c) f) where
    before : fields_in ls (first_of ctor_line ls d) (suc c - first_of ctor_line ls d)
        ≡ fields_in ls (first_of ctor_line ls d) (c - first_of ctor_line ls d) + ctor_fields ls c
    before =
        let a : suc c - first_of ctor_line ls d ≡ suc (c - first_of ctor_line ls d) = omega arith in
        let z : first_of ctor_line ls d + (c - first_of ctor_line ls d) ≡ c = omega arith in
        rw a (fields_more ls (first_of ctor_line ls d) (c - first_of ctor_line ls d) ∙ rw z)

    putting : Putting ls m c f
    putting =
        let i : c < count_of ctor_line ls = omega (arith, q.high, first_le ctor_line ls (suc d)) in
        let r = stands ctor_line ls c i in
        let t : takes Constructors (nth_line ls r.place) ≡ true = rw r.lettered in
        let n : ctor_name ls c < count_of name_line ls = rw r.same (named_below ls r.place (good_line ls p r.place r.inside) Constructors t) in
        record { is_ctor = i; named = n; roomy = omega (arith, q.cells.long); enough = omega (arith, q.begins, before); few = q.few }

    amid_more : Amid ls (put_site m (ctor_name ls c) (site_at d (f - ctor_fields ls c) (ctor_fields ls c))) d c (f - ctor_fields ls c)
    unfolding site_among
    amid_more =
        let g : ℕ = f - ctor_fields ls c in
        let s : Site = site_at d (f - ctor_fields ls c) (ctor_fields ls c) in
        let o : ctor_name ls c < count_of name_line ls = putting.named in
        let w : (f - ctor_fields ls c) + ctor_fields ls c ≡ f = omega (arith, q.begins, before) in
        let k : first_of ctor_line ls (suc d) - c ≡ suc (first_of ctor_line ls (suc d) - suc c) = omega (arith, q.high) in
        record {
          low = l;
          high = omega (arith, q.high);
          begins = omega (arith, q.begins, before);
          few = omega (arith, q.few);
          cells = cells_same ls (put_site m (ctor_name ls c) s) _ (λ n. site_among ls d c (f - ctor_fields ls c) (first_of ctor_line ls (suc d) - c) n (site_from ls (suc d) n)) (λ n. rw (k, w)) (cells_put ls m (λ n. site_among ls d (suc c) f (first_of ctor_line ls (suc d) - suc c) n (site_from ls (suc d) n)) (ctor_name ls c) s o q.cells);
        }

  -- at the constructor before c
  module _ (m : List ℕ) (c f : ℕ) (l : first_of ctor_line ls d < c) (q : Amid ls m d c f) where
    as_next : Amid ls m d (suc (c - 1)) f
    as_next = let e : c ≡ suc (c - 1) = omega arith in subst (λ (x : ℕ). Amid ls m d x f) e q

    pub put_ready : Putting ls m (c - 1) f
    put_ready = putting m (c - 1) f (omega arith) as_next

    pub amid_next : (n k : ℕ) → n ≡ ctor_name ls (c - 1) → k ≡ ctor_fields ls (c - 1) → Amid ls (put_site m n (site_at d (f - k) k)) d (c - 1) (f - k)
    amid_next n k a e = rw (a, e) (amid_more m (c - 1) f (omega arith) as_next)

  pub amid_all : (m : List ℕ) (c f : ℕ) → c ≤ first_of ctor_line ls d → Amid ls m d c f → SitedFrom ls m d
  unfolding site_in fields_in
  amid_all m c f l q =
      let a : c ≡ first_of ctor_line ls d = omega (arith, q.low) in
      let z : c - first_of ctor_line ls d ≡ 0 = omega arith in
      let b : f ≡ first_of field_line ls d = rw z at q.begins ∙ omega arith in
      let k : first_of ctor_line ls (suc d) - c ≡ body_last ls d = omega (arith, ctors_end) in
      cells_same ls m (λ n. site_among ls d c f (first_of ctor_line ls (suc d) - c) n (site_from ls (suc d) n)) (site_from ls d)
      (λ n. rw (k, a, b) (sym (one_more ls p d h n ∙ rw e)))
      q.cells

-- ---- where a site stands
pub record Inside (ls : List Line) (s : Site) : Type 0 where
  pub declared : s.owner ≤ decls_of ls
  pub fields : s.first + s.count ≤ count_of field_line ls

inside_pick : (ls : List Line) (b : Bool) (r s : Site) → Inside ls r → Inside ls s → Inside ls (pick b r s)
inside_pick ls true r s x y = x
inside_pick ls false r s x y = y

inside_among : (ls : List Line) (d : ℕ) → d < decls_of ls → (c f k n : ℕ) (s : Site) → f + fields_in ls c k ≤ count_of field_line ls → Inside ls s → Inside ls (site_among ls d c f k n s)
unfolding site_among fields_in
inside_among ls d h c f zero n s l q = q
inside_among ls d h c f (suc k) n s l q =
    inside_pick ls (eqb (ctor_name ls c) n) (site_at d f (ctor_fields ls c)) (site_among ls d (suc c) (f + ctor_fields ls c) k n s)
    (record { declared = omega arith; fields = omega arith })
    (inside_among ls d h (suc c) (f + ctor_fields ls c) k n s (omega arith) q)

module _ (ls : List Line) (p : Passed ls) (n : ℕ) where
  inside_in : (d : ℕ) → d < decls_of ls → (s : Site) → Inside ls s → Inside ls (site_in ls d n s)
  unfolding site_in
  inside_in d h s q = go (eqb (body_kind ls d) 2) (eqb (body_kind ls d) 3) refl refl
    where
      go : (x y : Bool) → eqb (body_kind ls d) 2 ≡ x → eqb (body_kind ls d) 3 ≡ y
          → Inside ls (
          x ⇒ pick (eqb (number (head_line ls d) 0) n) (site_at d (first_of field_line ls d) (body_last ls d)) s ∥
          y ⇒ site_among ls d (first_of ctor_line ls d) (first_of field_line ls d) (body_last ls d) n s ∥
          s)
      go true y a c =
          inside_pick ls (eqb (number (head_line ls d) 0) n) (site_at d (first_of field_line ls d) (body_last ls d)) s
          (record { declared = omega arith; fields = omega (arith, total_record ls p d h (eqb-true (body_kind ls d) 2 a), first_le field_line ls (suc d)) }) q
      go false true a c =
          inside_among ls d h (first_of ctor_line ls d) (first_of field_line ls d) (body_last ls d) n s
          (omega (arith, total_variant ls p d h (eqb-true (body_kind ls d) 3 c), first_le field_line ls (suc d))) q
      go false false a c = q

  inside_after : (k d : ℕ) → d + k ≡ decls_of ls → Inside ls (site_after ls d k n)
  unfolding site_after
  inside_after zero d e = record { declared = omega arith; fields = omega arith }
  inside_after (suc k) d e = inside_in d (omega arith) (site_after ls (suc d) k n) (inside_after k (suc d) (omega arith))

  -- a name's declaration is one of the sheet's, and its F lines are F lines of the sheet
  pub inside_sited : (m : List ℕ) → Sited ls m → n < count_of name_line ls → (get_or m (3 * n) 0 ≤ decls_of ls) × (get_or m (3 * n + 1) 0 + get_or m (3 * n + 2) 0 ≤ count_of field_line ls)
  inside_sited m q h =
      let i = inside_after (decls_of ls) 0 (omega arith) in
      let a = q.holds n h in
      (omega (arith, i.declared, a.owned), omega (arith, i.fields, a.begun, a.counted))
