-- What each step of the resolution by outcomes comes to. Assumes nothing.
use Rattle.std.specs.Prelude.{◌⊎◌, ◌≡◌, Bool, leb, set, drop}
use Rattle.std.proofs.Common.{inl, inr, ap₂, ◌∙◌, get_or-set_same}
use Rattle.std.proofs.Math.Path.{refl, ap, sym, subst}
use mathlib.Core.List.{List, [], ◌∷◌, ◌++◌}
use Rattle.std.proofs.Math.Bool.{true, false}
use Prim.Native.Nat.{ℕ, zero, suc, ◌+◌, ◌-◌, ◌*◌, ◌≤◌, ◌<◌}
use native.Mathlib.Omega.{arith}
use Rattle.std.proofs.Math.Dec.{eqb}
use Rattle.std.proofs.Math.ListN.{length, get_or}
use borrow.Author.Tests.{eqb-true, eqb-false, ne_eqb, leb-true, leb-false, le-leb}
use Rattle.sheet.specs.Line.{Line, number}
use Rattle.model.specs.Cty.{Cty, Ctys, TVar, nil, cons, size, sizes}
use Rattle.model.specs.Decl.{position}
use Rattle.meaning.specs.Program.{name_line, type_line, program}
use Rattle.meaning.specs.Rows.{count_of}
use Rattle.model.specs.Resolve.{Unfold, gone, stays, Result, ok, fault, spent, bind}
use Rattle.model_laws.specs.Cty.{size_positive}
use Rattle.table_declared.specs.Passed.{Passed}
use Rattle.table_access.specs.Tables.{decls_of}
use Rattle.resolve_outcomes.specs.Outcome.{other, app, one, total, attached, built, argument, weight, instance_head, instance_shape, nodes, extra, called, eval, evals, entered, ev, fits}
use Rattle.resolve_outcomes.specs.Answer.{listed, answer, Told}
use Rattle.resolve_outcomes.specs.Scratch.{part, Same, capped, Says, Nodes}
use Rattle.resolve_outcomes.proofs.Laws.Shape.{attached_none, sizes_append}
use Rattle.resolve_outcomes.specs.Leads.{Leads}
use Rattle.resolve_outcomes.proofs.Laws.Fuel.{leads_same}
use Rattle.resolve_outcomes.proofs.Laws.Answer.{eval_plain, evals_last, size_parts, answer_value, told_stop, told_go, told_known, told_same, told_next}
use Rattle.resolve_outcomes.proofs.Laws.Scratch.{part_none, part_length, part_drop, part_same, part_join, part_set, same_refl, same_sym, same_trans, same_less, same_set, capped_add, capped_most, capped_over, capped_under}
use Rattle.resolve_outcomes.proofs.Laws.Nodes.{argument_nodes, nodes_none, nodes_append, nodes_one, nodes_drop, total_nodes, size_weight}
use Rattle.resolve_outcomes.proofs.Laws.Call.{extra_none, shape_parts, unfolded, fits_enough, fits_app, call_small, call_large, call_spent, call_nine, var_surplus}
use Rattle.resolve_kids.specs.Nodes.{y_line, kind_of, type_of, kids_of, kid_of}
use Rattle.resolve_kids.specs.NodesLaws.{node_at, var_type, app_type, plain_type}
use Rattle.resolve_kids.specs.Params.{params_of}
use Rattle.resolve_weights.specs.Weigh.{kid_types, weight_of}
use Rattle.resolve_calls.specs.CallsLaws.{Copied}
use Rattle.resolve_memory.specs.Slots.{Slots, Written, Recalled, slots_written}
use Rattle.keep_layouts.specs.States.{unfold_at, lay_of}
use Rattle.resolve_laws.specs.Resolver.{Setup, call_of, enter_of, eval_of, evals_of, type_of_decl, last_of, Args, Place, Again, Short, Found, FoundAll, Done, Answered, Entered}

-- a cell past the end
pub get_or_past : (xs : List ℕ) (i v : ℕ) → length xs ≤ i → get_or xs i v ≡ v
get_or_past [] i v h = refl
get_or_past (x ∷ xs) zero v h = absurd (omega arith)
get_or_past (x ∷ xs) (suc i) v h = get_or_past xs i v (omega arith)

pub get_or_any : (xs : List ℕ) (i v w : ℕ) → i < length xs → get_or xs i v ≡ get_or xs i w
get_or_any [] i v w h = absurd (omega arith)
get_or_any (x ∷ xs) zero v w h = refl
get_or_any (x ∷ xs) (suc i) v w h = get_or_any xs i v w (omega arith)

-- ---- sizes of lists
sizes_last : (f : ℕ → Cty) (n : ℕ) → sizes (listed f (suc n)) ≡ sizes (listed f n) + size (f n)
unfolding listed sizes
sizes_last f n = omega (arith, sizes_append (listed f n) (cons (f n) nil))

sizes_count : (f : ℕ → Cty) (n : ℕ) → n ≤ sizes (listed f n)
sizes_count f zero = omega arith
sizes_count f (suc n) = omega (arith, sizes_count f n, sizes_last f n, size_positive (f n))

sizes_less : (f : ℕ → Cty) (i n : ℕ) → i < n → sizes (listed f i) + size (f i) ≤ sizes (listed f n)
sizes_less f i zero h = absurd (omega arith)
sizes_less f i (suc n) h = go (eqb i n) refl (sizes_less f i n)
  where
    go : (c : Bool) → eqb i n ≡ c → (i < n → sizes (listed f i) + size (f i) ≤ sizes (listed f n)) → sizes (listed f i) + size (f i) ≤ sizes (listed f (suc n))
    go true e ih = let q : i ≡ n = eqb-true i n e in rw q (omega (arith, sizes_last f n))
    go false e ih = omega (arith, ih (omega (arith, eqb-false i n e)), sizes_last f n)

leads_bind : {A B : Type 0} (x : Result A) (v : A) (f : A → Result B) (s : Result B) → Leads x (ok v) → Leads (f v) s → Leads (bind x f) s
unfolding bind
leads_bind {A} {B} (ok a) v f s l q = let z : a ≡ v = cc in subst (λ (c : A). Leads (f c) s) (sym z) q
leads_bind (fault c) v f s l q = let z : ◌≡◌ {A = ℕ} 0 1 = cc in absurd (omega arith)
leads_bind spent v f s l q = tt

-- an answer that says that there is no room
no_room_told : {A : Type 0} (e : ℕ → Result A) (k : ℕ) (v : A) (S : Type 0) → S → Told e k v S 1
no_room_told e k v S h = record { unfuelled = λ z. absurd (omega arith); short = λ z. h; knows = λ z. absurd (omega arith) }

-- what is said at every fuel
says_told : (e : ℕ → Result ℕ) (k : ℕ) (S : Type 0) (x : Result ℕ) (r : ℕ) → ((j : ℕ) → e j ≡ x) → Says x r → Told e k r S r
says_told e k S x r q s =
    told_known e k r S r s.decided (λ j. subst (λ (y : Result ℕ). Leads (e j) y) (q j ∙ s.is) (leads_same (e j)))

module _ (ls : List Line) (t u : List ℕ) where
  abbrev lay : ℕ → Unfold
  lay = lay_of ls u

  abbrev call : ℕ → List ℕ → ℕ → Result ℕ
  call = call_of ls u

  -- ---- a node
  module _ (y d : ℕ) (place : Place ls t u y d) where
    passed : Passed ls
    passed = place.setup.tabled.passed

    abbrev kids : Ctys
    kids = kid_types ls y (kids_of ls y)

    module _ (at count over top : ℕ) (out : List ℕ) (args : Args out at count top) where
      abbrev os : List ℕ
      os = part at count out

      abbrev es : List ℕ
      es = last_of at count over out

      abbrev E : ℕ → Result ℕ
      E = eval_of ls u d os y es

      abbrev all : ℕ → Result (List ℕ)
      all = evals_of ls u d os y (kids_of ls y)

      os_length : length os ≡ count
      os_length = part_length at count out (omega (arith, args.inside, args.room))

      no_surplus : over ≡ 0 → es ≡ []
      no_surplus e = extra_none (count - over) os (omega (arith, os_length))

      -- a variable
      eval_var : over ≡ 0 → kind_of ls y ≡ 3 → (j : ℕ) → E j ≡ ok (argument (params_of ls d) os (number (y_line ls y) 1))
      unfolding eval
      eval_var e k j =
          ap (λ (c : Cty). eval 1024 lay (ev 1024 lay j) (params_of ls d) os c es) (var_type ls passed y place.type k)
          ∙ ap (λ (x : List ℕ). ok (attached (argument (params_of ls d) os (number (y_line ls y) 1)) x)) (no_surplus e)
          ∙ ap ok (attached_none (argument (params_of ls d) os (number (y_line ls y) 1)))

      pub node_var : (k room v r : ℕ) (slots : List ℕ) → over ≡ 0 → kind_of ls y ≡ 3 → v ≡ number (y_line ls y) 1 → r ≡ argument (params_of ls d) os v → r < 65536 → Slots call slots → Found E k room top out out call slots r
      node_var k room v r slots o q ev er small s =
          let e : r ≡ argument (params_of ls d) os (number (y_line ls y) 1) = er ∙ ap (argument (params_of ls d) os) ev in
          let n : 4 ≤ r = omega (arith, argument_nodes (params_of ls d) os (number (y_line ls y) 1) args.nodes) in
          record {
            told = says_told E k (Short out room k) (ok r) r (λ j. eval_var o q j ∙ ap ok (sym e)) (record { decided = omega arith; small = small; is = sym (answer_value r r n) });
            small = small;
            kept = same_refl top out;
            slots = s;
          }

      -- the one last evaluated
      pub node_again : (k room last r : ℕ) (slots : List ℕ) → over ≡ 0 → Again ls u d os y last top out → y ≡ last → r ≡ get_or out (top - 1) 0 → r < 65536 → Slots call slots → Found E k room top out out call slots r
      node_again k room last r slots o again q er small s =
          let n : 4 ≤ r = omega (arith, er, again.node q) in
          let leads : (j : ℕ) → Leads (eval_of ls u d os y [] j) (answer r r) = λ j. subst (λ (x : Result ℕ). Leads (eval_of ls u d os y [] j) x) (ap ok (sym er) ∙ sym (answer_value r r n)) (again.gives q j) in
          record {
            told = told_known E k r (Short out room k) r (omega arith) (λ j. subst (λ (xs : List ℕ). Leads (eval_of ls u d os y xs j) (answer r r)) (sym (no_surplus o)) (leads j));
            small = small;
            kept = same_refl top out;
            slots = s;
          }

      -- every other node
      node_size : (kind_of ls y ≡ 3 → ⊥) → size (type_of ls y) ≡ suc (sizes kids)
      unfolding size
      node_size m = go (eqb (kind_of ls y) 8) refl
        where
          go : (c : Bool) → eqb (kind_of ls y) 8 ≡ c → size (type_of ls y) ≡ suc (sizes kids)
          go true e = ap size (app_type ls passed y place.type (eqb-true (kind_of ls y) 8 e)) ∙ omega arith
          go false e =
              size_parts (type_of ls y) ∙ ap (λ (ts : Ctys). suc (sizes ts)) (plain_type ls passed y place.type m (eqb-false (kind_of ls y) 8 e)).has_parts

      eval_app : kind_of ls y ≡ 8 → (j : ℕ) → E j ≡ bind (all j) (λ xs. called 1024 (ev 1024 lay j) (xs ++ es) (lay (number (y_line ls y) 1)))
      unfolding eval
      eval_app k j = ap (λ (c : Cty). eval 1024 lay (ev 1024 lay j) (params_of ls d) os c es) (app_type ls passed y place.type k)

      eval_other : (kind_of ls y ≡ 3 → ⊥) → (kind_of ls y ≡ 8 → ⊥) → (j : ℕ) → E j ≡ bind (all j) (λ xs. built 1024 xs other)
      eval_other m n j =
          let p = plain_type ls passed y place.type m n in
          eval_plain 1024 lay (ev 1024 lay j) (params_of ls d) os (type_of ls y) es p.is_plain
          ∙ ap (λ (ts : Ctys). bind (evals 1024 lay (ev 1024 lay j) (params_of ls d) os ts) (λ xs. built 1024 xs other)) p.has_parts

      module _ (k : ℕ) (out' slots' : List ℕ) (r : ℕ) (m : kind_of ls y ≡ 3 → ⊥)
          (found : FoundAll all k (top + sizes kids) top (kids_of ls y) out out' call slots' r) where
        abbrev room : ℕ
        room = top + size (type_of ls y) + over

        -- a part stops it
        pub node_stop : r < 4 → Found E k room top out out' call slots' r
        node_stop h =
            record { told = go (eqb (kind_of ls y) 8) refl; small = omega arith; kept = found.kept; slots = found.slots }
          where
            short : Short out (top + sizes kids) k → Short out room k
            short q = omega (arith, node_size m)

            go : (c : Bool) → eqb (kind_of ls y) 8 ≡ c → Told E k r (Short out room k) r
            go true e =
                told_same (λ j. bind (all j) (λ xs. called 1024 (ev 1024 lay j) (xs ++ es) (lay (number (y_line ls y) 1)))) E k r (Short out room k) (Short out room k) r (λ j. sym (eval_app (eqb-true (kind_of ls y) 8 e) j)) (λ q. q)
                (told_stop all (λ j xs. called 1024 (ev 1024 lay j) (xs ++ es) (lay (number (y_line ls y) 1))) k (part top (kids_of ls y) out') r (Short out (top + sizes kids) k) (Short out room k) r h short found.told)
            go false e =
                told_same (λ j. bind (all j) (λ xs. built 1024 xs other)) E k r (Short out room k) (Short out room k) r (λ j. sym (eval_other m (eqb-false (kind_of ls y) 8 e) j)) (λ q. q)
                (told_stop all (λ j xs. built 1024 xs other) k (part top (kids_of ls y) out') r (Short out (top + sizes kids) k) (Short out room k) r h short found.told)

        -- built over its parts
        pub node_built : (r' n : ℕ) → 4 ≤ r → n ≡ kids_of ls y → (kind_of ls y ≡ 8 → ⊥) → Says (built 1024 (part top n out') other) r' → Found E k room top out out' call slots' r'
        node_built r' n h e p says =
            record {
              told = told_same (λ j. bind (all j) (λ xs. built 1024 xs other)) E k r' (Short out room k) (Short out room k) r' (λ j. sym (eval_other m p j)) (λ q. q)
                  (told_go all (λ j xs. built 1024 xs other) k (part top (kids_of ls y) out') r' (Short out (top + sizes kids) k) (Short out room k) r r' h found.told
                  (says_told (λ j. built 1024 (part top (kids_of ls y) out') other) k (Short out room k) (built 1024 (part top n out') other) r' (λ j. ap (λ (i : ℕ). built 1024 (part top i out') other) (sym e)) says));
              small = says.small;
              kept = found.kept;
              slots = found.slots;
            }

        -- no room for the surplus
        pub node_full : (n : ℕ) (out'' : List ℕ) → n ≡ kids_of ls y → length out' < top + n + over → out'' ≡ out' → Found E k room top out out'' call slots' 1
        node_full n out'' e h q =
            record {
              told = no_room_told E k 1 (Short out room k) (omega (arith, node_size m, sizes_count (λ i. type_of ls (kid_of ls y i)) (kids_of ls y), found.kept.long));
              small = omega arith;
              kept = subst (λ (xs : List ℕ). Same top xs out) (sym q) found.kept;
              slots = found.slots;
            }

        -- the arguments of a name, and the surplus behind them
        module _ (n : ℕ) (e : n ≡ kids_of ls y) (h : 4 ≤ r) (o : over ≤ count) (out'' : List ℕ) (fit : top + n + over ≤ length out') (copied : Copied (at + (count - over)) (top + n) over out' out'') where
          surplus_is : part (top + n) over out'' ≡ es
          surplus_is =
              let q : count - (count - over) ≡ over = omega arith in
              copied.copy
              ∙ (part_same (at + (count - over)) over top out' out (omega (arith, args.inside)) found.kept
              ∙ sym (part_drop at count (count - over) out (omega arith) ∙ ap (λ (i : ℕ). part (at + (count - over)) i out) q))

          pub joined_is : part top (n + over) out'' ≡ part top (kids_of ls y) out' ++ es
          joined_is =
              part_join top n over out'' (omega (arith, copied.kept.long))
              ∙ ap₂ (λ (xs ys : List ℕ). xs ++ ys) (part_same top n (top + n) out'' out' (omega arith) copied.kept ∙ ap (λ (i : ℕ). part top i out') e) surplus_is

          pub joined_args : Args out'' top (n + over) (top + (n + over))
          joined_args =
              record {
                inside = omega arith;
                room = omega (arith, copied.kept.long);
                nodes = subst Nodes (sym joined_is) (nodes_append (part top (kids_of ls y) out') es (found.nodes h) (nodes_drop (count - over) os args.nodes));
              }

          pub node_apply : (a r' : ℕ) (out''' slots'' : List ℕ) → kind_of ls y ≡ 8 → a ≡ number (y_line ls y) 1
              → Found (call a (part top (n + over) out'')) k (top + (n + over)) (top + (n + over)) out'' out''' call slots'' r' → Found E k room top out out''' call slots'' r'
          node_apply a r' out''' slots'' q ea f =
              record {
                told = told_same (λ j. bind (all j) (λ xs. called 1024 (ev 1024 lay j) (xs ++ es) (lay (number (y_line ls y) 1)))) E k r' (Short out room k) (Short out room k) r' (λ j. sym (eval_app q j)) (λ x. x)
                    (told_go all (λ j xs. called 1024 (ev 1024 lay j) (xs ++ es) (lay (number (y_line ls y) 1))) k (part top (kids_of ls y) out') r' (Short out (top + sizes kids) k) (Short out room k) r r' h found.told
                    (told_same (call a (part top (n + over) out'')) (λ j. called 1024 (ev 1024 lay j) (part top (kids_of ls y) out' ++ es) (lay (number (y_line ls y) 1))) k r' (Short out'' (top + (n + over)) k) (Short out room k) r'
                    (λ j. ap₂ (λ (i : ℕ) (xs : List ℕ). called 1024 (ev 1024 lay j) xs (lay i)) ea joined_is)
                    (λ x. omega (arith, node_size m, sizes_count (λ i. type_of ls (kid_of ls y i)) (kids_of ls y), found.kept.long, copied.kept.long)) f.told));
                small = f.small;
                kept = same_trans top out''' out'' out (same_less top (top + (n + over)) out''' out'' (omega arith) f.kept) (same_trans top out'' out' out (same_less top (top + n) out'' out' (omega arith) copied.kept) found.kept);
                slots = f.slots;
              }

    -- ---- its parts, one after the other
    module _ (at count top : ℕ) (out₀ : List ℕ) (args : Args out₀ at count top) where
      abbrev os₀ : List ℕ
      os₀ = part at count out₀

      abbrev f : ℕ → Cty
      f i = type_of ls (kid_of ls y i)

      abbrev upto : ℕ → ℕ → Result (List ℕ)
      upto i = evals_of ls u d os₀ y i

      pub args_none : (slots : List ℕ) → Slots call slots → Done (evals_of ls u d os₀ y) top 0 out₀ out₀ call slots
      unfolding evals listed
      args_none slots s =
          record { leads = λ j. ap ok (sym (part_none top out₀)); kept = same_refl top out₀; fit = omega (arith, args.room); nodes = subst Nodes (sym (part_none top out₀)) nodes_none; slots = s }

      -- no part is its own node
      pub again_none : (z next : ℕ) (out : List ℕ) → z < y → Again ls u d os₀ z y next out
      again_none z next out h = record { behind = λ e. absurd (omega arith); node = λ e. absurd (omega arith); gives = λ e. absurd (omega arith) }

      -- the arguments stand as they did
      pub again_kept : (i z last next : ℕ) (out slots : List ℕ) → Done (evals_of ls u d os₀ y) top i out₀ out call slots → Again ls u d os₀ z last next out → Again ls u d (part at count out) z last next out
      again_kept i z last next out slots done g = subst (λ (xs : List ℕ). Again ls u d xs z last next out) (sym (part_same at count top out out₀ args.inside done.kept)) g

      upto_last : (i j : ℕ) → upto (suc i) j ≡ bind (upto i j) (λ xs. bind (eval_of ls u d os₀ (kid_of ls y i) [] j) (λ x. ok (xs ++ (x ∷ []))))
      unfolding listed
      upto_last i j = evals_last 1024 lay (ev 1024 lay j) (params_of ls d) os₀ (listed f i) (f i)

      -- a part, after those before it
      module _ (i kid : ℕ) (out slots : List ℕ) (done : Done (evals_of ls u d os₀ y) top i out₀ out call slots) (h : i < kids_of ls y) (ek : kid ≡ kid_of ls y i)
          (k r : ℕ) (out' slots' : List ℕ) (found : Found (eval_of ls u d (part at count out) kid (last_of at count 0 out)) k (top + i + size (type_of ls kid) + 0) (top + i) out out' call slots' r) where
        here : (j : ℕ) → eval_of ls u d (part at count out) kid (last_of at count 0 out) j ≡ eval_of ls u d os₀ (kid_of ls y i) [] j
        here j =
            let e : part at count out ≡ os₀ = part_same at count top out out₀ args.inside done.kept in
            let n : last_of at count 0 out ≡ [] = extra_none (count - 0) (part at count out) (omega (arith, part_length at count out (omega (arith, args.inside, args.room, done.kept.long)))) in
            ap (λ (xs : List ℕ). eval_of ls u d (part at count out) kid xs j) n ∙ ap₂ (λ (xs : List ℕ) (z : ℕ). eval_of ls u d xs z [] j) e ek

        told_here : (S : Type 0) → (Short out (top + i + size (type_of ls kid) + 0) k → S) → Told (eval_of ls u d os₀ (kid_of ls y i) []) k r S r
        told_here S s = told_same (eval_of ls u d (part at count out) kid (last_of at count 0 out)) (eval_of ls u d os₀ (kid_of ls y i) []) k r (Short out (top + i + size (type_of ls kid) + 0) k) S r here s found.told

        pub args_more : 4 ≤ r → top + i < length out → Done (evals_of ls u d os₀ y) top (i + 1) out₀ (set out' (top + i) r) call slots'
        args_more q w =
            let e : i + 1 ≡ suc i = omega arith in
            let l : length out' ≡ length out = found.kept.long in
            let p : part top (suc i) (set out' (top + i) r) ≡ part top i out ++ (r ∷ []) = part_set top i r out' (omega arith) ∙ ap (λ (xs : List ℕ). xs ++ (r ∷ [])) (part_same top i (top + i) out' out (omega arith) found.kept) in
            rw e
            (record {
              leads = λ j. subst (λ (x : Result (List ℕ)). Leads x (ok (part top (suc i) (set out' (top + i) r)))) (sym (upto_last i j))
                  (leads_bind (upto i j) (part top i out) (λ xs. bind (eval_of ls u d os₀ (kid_of ls y i) [] j) (λ x. ok (xs ++ (x ∷ [])))) (ok (part top (suc i) (set out' (top + i) r))) (done.leads j)
                  (leads_bind (eval_of ls u d os₀ (kid_of ls y i) [] j) r (λ x. ok (part top i out ++ (x ∷ []))) (ok (part top (suc i) (set out' (top + i) r)))
                  (subst (λ (x : Result ℕ). Leads (eval_of ls u d os₀ (kid_of ls y i) [] j) x) (answer_value r r q) ((told_here (Unit {0}) (λ x. tt)).knows (omega arith) j)) (ap ok (sym p))));
              kept = same_trans top (set out' (top + i) r) out' out₀ (same_sym top out' (set out' (top + i) r) (same_set top (top + i) r out' (omega arith))) (same_trans top out' out out₀ (same_less top (top + i) out' out (omega arith) found.kept) done.kept);
              fit = omega (arith, done.kept.long);
              nodes = subst Nodes (sym p) (nodes_append (part top i out) (r ∷ []) done.nodes (nodes_one r q));
              slots = found.slots;
            })

        -- and it is the one last evaluated
        pub args_again : 4 ≤ r → top + i < length out → (z : ℕ) → Again ls u d os₀ z kid (top + i + 1) (set out' (top + i) r)
        args_again q w z =
            let e : top + i + 1 - 1 ≡ top + i = omega arith in
            let l : length out' ≡ length out = found.kept.long in
            let g : get_or (set out' (top + i) r) (top + i + 1 - 1) 0 ≡ r = ap (λ (x : ℕ). get_or (set out' (top + i) r) x 0) e ∙ get_or-set_same out' (top + i) r 0 (omega arith) in
            let leads : (j : ℕ) → Leads (eval_of ls u d os₀ (kid_of ls y i) [] j) (ok (get_or (set out' (top + i) r) (top + i + 1 - 1) 0)) = λ j. subst (λ (x : Result ℕ). Leads (eval_of ls u d os₀ (kid_of ls y i) [] j) x) (answer_value r r q ∙ ap ok (sym g)) ((told_here (Unit {0}) (λ x. tt)).knows (omega arith) j) in
            record {
              behind = λ x. omega arith;
              node = λ x. omega (arith, g);
              gives = λ x j. subst (λ (v : ℕ). Leads (eval_of ls u d os₀ v [] j) (ok (get_or (set out' (top + i) r) (top + i + 1 - 1) 0))) (sym (x ∙ ek)) (leads j);
            }

        -- a part stops the list
        stopped_up : (S : Type 0) (v : List ℕ) (m n : ℕ) → r < 4 → m ≤ n → Told (upto m) k v S r → Told (upto n) k v S r
        stopped_up S v m zero q l w = let e : m ≡ 0 = omega arith in rw e at w
        stopped_up S v m (suc n) q l w = go (eqb m (suc n)) refl (λ a. stopped_up S v m n q a w)
          where
            go : (c : Bool) → eqb m (suc n) ≡ c → (m ≤ n → Told (upto n) k v S r) → Told (upto (suc n)) k v S r
            go true e ih = subst (λ (x : ℕ). Told (upto x) k v S r) (eqb-true m (suc n) e) w
            go false e ih =
                told_same (λ j. bind (upto n j) (λ xs. bind (eval_of ls u d os₀ (kid_of ls y n) [] j) (λ x. ok (xs ++ (x ∷ []))))) (upto (suc n)) k v S S r (λ j. sym (upto_last n j)) (λ x. x)
                (told_stop (upto n) (λ j xs. bind (eval_of ls u d os₀ (kid_of ls y n) [] j) (λ x. ok (xs ++ (x ∷ [])))) k v v S S r q (λ x. x) (ih (omega (arith, eqb-false m (suc n) e))))

        pub args_stop : r < 4 → top + i ≤ length out → FoundAll (upto (kids_of ls y)) k (top + sizes (kid_types ls y (kids_of ls y))) top (kids_of ls y) out₀ out' call slots' r
        args_stop q w =
            record {
              told = stopped_up S v (suc i) (kids_of ls y) q (omega arith)
                  (told_same (λ j. bind (upto i j) (λ xs. bind (eval_of ls u d os₀ (kid_of ls y i) [] j) (λ x. ok (xs ++ (x ∷ []))))) (upto (suc i)) k v S S r (λ j. sym (upto_last i j)) (λ x. x)
                  (told_go (upto i) (λ j xs. bind (eval_of ls u d os₀ (kid_of ls y i) [] j) (λ x. ok (xs ++ (x ∷ [])))) k (part top i out) v (Unit {0}) S 4 r (omega arith)
                  (told_known (upto i) k (part top i out) (Unit {0}) 4 (omega arith) (λ j. subst (λ (x : Result (List ℕ)). Leads (upto i j) x) (sym (answer_value 4 (part top i out) (omega arith))) (done.leads j)))
                  (told_stop (eval_of ls u d os₀ (kid_of ls y i) []) (λ j x. ok (part top i out ++ (x ∷ []))) k r v S S r q (λ x. x) (told_here S short))));
              kept = same_trans top out' out out₀ (same_less top (top + i) out' out (omega arith) found.kept) done.kept;
              fit = λ x. absurd (omega arith);
              nodes = λ x. absurd (omega arith);
              slots = found.slots;
            }
          where
            S : Type 0
            S = Short out₀ (top + sizes (kid_types ls y (kids_of ls y))) k

            v : List ℕ
            v = part top (kids_of ls y) out'

            short : Short out (top + i + size (type_of ls kid) + 0) k → S
            short x = omega (arith, sizes_less f i (kids_of ls y) h, sizes_count f i, done.kept.long, ap (λ (z : ℕ). size (type_of ls z)) ek)

      -- no room for a part
      pub args_full : (i k : ℕ) (out slots : List ℕ) → Done (evals_of ls u d os₀ y) top i out₀ out call slots → i < kids_of ls y → length out ≤ top + i → FoundAll (upto (kids_of ls y)) k (top + sizes (kid_types ls y (kids_of ls y))) top (kids_of ls y) out₀ out call slots 1
      args_full i k out slots done h q =
          record {
            told = no_room_told (upto (kids_of ls y)) k (part top (kids_of ls y) out) (Short out₀ (top + sizes (kid_types ls y (kids_of ls y))) k) (omega (arith, sizes_count f (kids_of ls y), done.kept.long));
            kept = done.kept;
            fit = λ x. absurd (omega arith);
            nodes = λ x. absurd (omega arith);
            slots = done.slots;
          }

      -- all of them
      pub args_done : (i k : ℕ) (out slots : List ℕ) → Done (evals_of ls u d os₀ y) top i out₀ out call slots → i ≡ kids_of ls y → FoundAll (upto (kids_of ls y)) k (top + sizes (kid_types ls y (kids_of ls y))) top (kids_of ls y) out₀ out call slots 4
      args_done i k out slots done e =
          let d' : Done (evals_of ls u d os₀ y) top (kids_of ls y) out₀ out call slots = rw e at done in
          record {
            told = told_known (upto (kids_of ls y)) k (part top (kids_of ls y) out) (Short out₀ (top + sizes (kid_types ls y (kids_of ls y))) k) 4 (omega arith) (λ j. subst (λ (x : Result (List ℕ)). Leads (upto (kids_of ls y) j) x) (sym (answer_value 4 (part top (kids_of ls y) out) (omega arith))) (d'.leads j));
            kept = d'.kept;
            fit = λ x. d'.fit;
            nodes = λ x. d'.nodes;
            slots = d'.slots;
          }

  -- ---- a call of an unfolded declaration
  module _ (y d : ℕ) (place : Place ls t u y d) (new : Bool) (is : unfold_at ls u d ≡ unfolded new (params_of ls d) (type_of ls y))
      (at count : ℕ) (out : List ℕ) (args : Args out at count (at + count)) (slots : List ℕ) (held : Slots call slots) where
    abbrev zs : List ℕ
    zs = part at count out

    abbrev ps : List ℕ
    ps = params_of ls d

    abbrev body : Cty
    body = type_of ls y

    abbrev X : ℕ → Result ℕ
    X = enter_of ls u d zs

    zs_length : length zs ≡ count
    zs_length = part_length at count out args.room

    unfold_is : (j : ℕ) → X j ≡ called 1024 (ev 1024 lay j) zs (unfolded new ps body)
    unfold_is j = ap (called 1024 (ev 1024 lay j) zs) is

    abbrev Call : ℕ → List ℕ → List ℕ → ℕ → Type 0
    Call k out' slots' r = Found X k (at + count) (at + count) out out' call slots' r

    pub enter_nine : (k : ℕ) → fits zs (unfolded new ps body) ≡ false → Call k out slots 2
    unfolding answer
    enter_nine k h =
        record {
          told = says_told X k (Short out (at + count) k) (fault 9) 2 (λ j. unfold_is j ∙ call_nine ps zs body 1024 (ev 1024 lay j) new h) (record { decided = omega arith; small = omega arith; is = refl });
          small = omega arith;
          kept = same_refl (at + count) out;
          slots = held;
        }

    module _ (h : fits zs (unfolded new ps body) ≡ true) where
      pub enter_spent : (k : ℕ) → k ≡ 0 → Call k out slots 0
      enter_spent k z =
          record {
            told = record { unfuelled = λ x. ap X z ∙ (unfold_is 0 ∙ call_spent ps zs body 1024 lay new h); short = λ x. absurd (omega arith); knows = λ x. absurd (omega arith) };
            small = omega arith;
            kept = same_refl (at + count) out;
            slots = held;
          }

      pub enough : (n : ℕ) → n ≡ length ps → n ≤ count
      enough n e = omega (arith, fits_enough ps zs body new h, zs_length)

      -- its instance's size
      module _ (n over from w : ℕ) (en : n ≡ length ps) (eo : over ≡ count - n) (ef : from ≡ capped 1024 (0 + total (part (at + n) over out))) (ew : w ≡ capped 1024 (from + weight_of ls d out at count y)) where
        extra_is : part (at + n) over out ≡ extra ps zs
        extra_is =
            ap (λ (i : ℕ). part (at + n) i out) eo ∙ (sym (part_drop at count n out (enough n en)) ∙ ap (λ (i : ℕ). drop i zs) en)

        last_is : last_of at count over out ≡ extra ps zs
        last_is =
            let e : count - over ≡ length ps = omega (arith, enough n en) in
            ap (λ (i : ℕ). drop i zs) e

        size_is : w ≡ capped 1024 (total (extra ps zs) + weight ps zs body)
        size_is =
            ew ∙ (ap (λ (i : ℕ). capped 1024 (i + weight ps zs body)) (ef ∙ ap (λ (xs : List ℕ). capped 1024 (0 + total xs)) extra_is)
            ∙ (capped_add 1024 (0 + total (extra ps zs)) (weight ps zs body) ∙ ap (capped 1024) (zero_of (total (extra ps zs)) (weight ps zs body))))
          where
            zero_of : (a c : ℕ) → 0 + a + c ≡ a + c
            zero_of a c = omega arith

        pub enter_ten : (k : ℕ) → 1024 < w → Call k out slots 3
        unfolding answer
        enter_ten k q =
            record {
              told = told_known X k 3 (Short out (at + count) k) 3 (omega arith) large;
              small = omega arith;
              kept = same_refl (at + count) out;
              slots = held;
            }
          where
            big : 1024 < weight ps zs body + total (extra ps zs)
            big = omega (arith, capped_over 1024 (total (extra ps zs) + weight ps zs body) (omega (arith, size_is)))

            large : (j : ℕ) → Leads (X j) (fault 10)
            large zero = subst (λ (x : Result ℕ). Leads x (fault 10)) (sym (unfold_is 0 ∙ call_spent ps zs body 1024 lay new h)) tt
            large (suc j) = subst (λ (x : Result ℕ). Leads x (fault 10)) (sym (unfold_is (suc j) ∙ call_large ps zs body 1024 lay new h big j)) refl

        module _ (q : w ≤ 1024) where
          small_is : (weight ps zs body + total (extra ps zs) ≤ 1024) × (w ≡ weight ps zs body + total (extra ps zs))
          small_is =
              let p = capped_under 1024 (total (extra ps zs) + weight ps zs body) (omega (arith, size_is)) in
              (omega (arith, p.0), omega (arith, p.1, size_is))

          next_is : (j : ℕ) → X (suc j) ≡ eval_of ls u d zs y (last_of at count over out) j
          next_is j =
              unfold_is (suc j) ∙ (call_small ps zs body 1024 lay new h small_is.0 j
              ∙ ap (λ (xs : List ℕ). eval 1024 lay (ev 1024 lay j) ps zs body xs) (sym last_is))

          pub enter_var : (k : ℕ) → 0 < over → kind_of ls y ≡ 3 → Call k out slots (4 * w + 1)
          enter_var k o z =
              record {
                told = told_known X k (4 * w + 1) (Short out (at + count) k) (4 * w + 1) (two w positive) leads;
                small = omega arith;
                kept = same_refl (at + count) out;
                slots = held;
              }
            where
              v : ℕ
              v = number (y_line ls y) 1

              var : body ≡ TVar v
              var = var_type ls place.setup.tabled.passed y place.type z

              applied : eqb (instance_head ps zs (TVar v)) app ≡ true
              applied = ap (λ (c : Cty). eqb (instance_head ps zs c) app) (sym var) ∙ fits_app ps zs body new h (omega (arith, zs_length))

              value : (j : ℕ) → X (suc j) ≡ ok (4 * w + 1)
              value j =
                  next_is j
                  ∙ (ap₂ (λ (c : Cty) (xs : List ℕ). eval 1024 lay (ev 1024 lay j) ps zs c xs) var last_is
                  ∙ (var_surplus 1024 lay (ev 1024 lay j) ps zs v (extra ps zs) applied
                  ∙ ap (λ (i : ℕ). ok (4 * i + 1)) (sym (small_is.1 ∙ ap (λ (c : Cty). weight ps zs c + total (extra ps zs)) var))))

              positive : 1 ≤ w
              positive = omega (arith, size_positive body, size_weight ps zs args.nodes body, small_is.1)

              two : (i : ℕ) → 1 ≤ i → 2 ≤ 4 * i + 1
              two i e = omega arith

              four : (i : ℕ) → 1 ≤ i → 4 ≤ 4 * i + 1
              four i e = omega arith

              leads : (j : ℕ) → Leads (X j) (answer (4 * w + 1) (4 * w + 1))
              leads zero = subst (λ (x : Result ℕ). Leads x (answer (4 * w + 1) (4 * w + 1))) (sym (unfold_is 0 ∙ call_spent ps zs body 1024 lay new h)) tt
              leads (suc j) = subst (λ (x : Result ℕ). Leads x (answer (4 * w + 1) (4 * w + 1))) (sym (value j)) (sym (answer_value (4 * w + 1) (4 * w + 1) (four w positive)))

          pub enter_node : (k r : ℕ) (out' slots' : List ℕ) → 0 < k → Found (eval_of ls u d zs y (last_of at count over out)) (k - 1) (at + count + size body + over) (at + count) out out' call slots' r → Call k out' slots' r
          enter_node k r out' slots' p found =
              let e : suc (k - 1) ≡ k = omega arith in
              record {
                told = subst (λ (i : ℕ). Told X i r (Short out (at + count) k) r) e
                    (told_next (eval_of ls u d zs y (last_of at count over out)) X (k - 1) r (Short out (at + count + size body + over) (k - 1)) (Short out (at + count) k) r (unfold_is 0 ∙ call_spent ps zs body 1024 lay new h) next_is short found.told);
                small = found.small;
                kept = found.kept;
                slots = found.slots;
              }
            where
              over_is : over ≤ total (extra ps zs)
              over_is =
                  omega (arith, total_nodes (extra ps zs) (nodes_drop (length ps) zs args.nodes), ap length extra_is, part_length (at + n) over out (omega (arith, enough n en, args.room)))

              short : Short out (at + count + size body + over) (k - 1) → Short out (at + count) k
              short x = omega (arith, small_is.0, over_is, size_weight ps zs args.nodes body, mul_pred k p)
                where
                  mul_pred : (i : ℕ) → 0 < i → 1024 * (i - 1) + 1024 ≡ 1024 * i
                  mul_pred i z = omega arith

  -- ---- a name
  module _ (setup : Setup ls t u) (n d what at count : ℕ) (ed : d ≡ position (program ls) n) (ew : what ≡ get_or u (2 * d) 3)
      (out : List ℕ) (args : Args out at count (at + count)) (slots : List ℕ) (held : Slots call slots) where
    lay_is : lay n ≡ unfold_at ls u d
    lay_is = ap (unfold_at ls u) (sym ed)

    gone_is : what ≡ 0 → unfold_at ls u d ≡ gone
    unfolding unfold_at
    gone_is z = rw (sym ew ∙ z) refl

    stays_is : 2 < what → unfold_at ls u d ≡ stays
    unfolding unfold_at
    stays_is z =
        let e : get_or u (2 * d) 3 ≡ what = sym ew in
        rw (e, ne_eqb what 0 (λ q. omega arith), ne_eqb what 1 (λ q. omega arith), ne_eqb what 2 (λ q. omega arith)) refl

    pub unfolded_is : (what ≡ 0 → ⊥) → what ≤ 2 → unfold_at ls u d ≡ unfolded (eqb what 1) (params_of ls d) (type_of ls (get_or u (2 * d + 1) 0))
    unfolding unfold_at
    unfolded_is z h = go (eqb what 1) refl
      where
        go : (c : Bool) → eqb what 1 ≡ c → unfold_at ls u d ≡ unfolded c (params_of ls d) (type_of ls (get_or u (2 * d + 1) 0))
        go true e = let q : what ≡ 1 = eqb-true what 1 e in rw (sym ew ∙ q) refl
        go false e = let q : what ≡ 2 = omega (arith, eqb-false what 1 e) in rw (sym ew ∙ q) refl

    pub unfolded_place : (what ≡ 0 → ⊥) → what ≤ 2 → Place ls t u (get_or u (2 * d + 1) 0) d
    unfolded_place z h =
        let l : d < decls_of ls = inside (leb (length u) (2 * d)) refl in
        record { setup = setup; type = setup.states.bodies d l (one_or_two (eqb what 1) refl); decl = l }
      where
        inside : (c : Bool) → leb (length u) (2 * d) ≡ c → d < decls_of ls
        inside true e = absurd (omega (arith, ew, get_or_past u (2 * d) 3 (leb-true (length u) (2 * d) e)))
        inside false e = omega (arith, leb-false (length u) (2 * d) e, setup.states.long)

        one_or_two : (c : Bool) → eqb what 1 ≡ c → (get_or u (2 * d) 3 ≡ 1) ⊎ (get_or u (2 * d) 3 ≡ 2)
        one_or_two true e = inl (sym ew ∙ eqb-true what 1 e)
        one_or_two false e = inr (sym ew ∙ omega (arith, eqb-false what 1 e))

    abbrev N : ℕ → Result ℕ
    N = call n (part at count out)

    abbrev Named : ℕ → List ℕ → List ℕ → ℕ → Type 0
    Named k out' slots' r = Found N k (at + count) (at + count) out out' call slots' r

    pub apply_gone : (k : ℕ) → what ≡ 0 → Named k out slots 4
    unfolding called answer
    apply_gone k z =
        record {
          told = says_told N k (Short out (at + count) k) (ok one) 4 (λ j. ap (called 1024 (ev 1024 lay j) (part at count out)) (lay_is ∙ gone_is z)) (record { decided = omega arith; small = omega arith; is = refl });
          small = omega arith;
          kept = same_refl (at + count) out;
          slots = held;
        }

    pub apply_stays : (k r : ℕ) → 2 < what → Says (built 1024 (part at count out) app) r → Named k out slots r
    unfolding called
    apply_stays k r z s =
        record {
          told = says_told N k (Short out (at + count) k) (built 1024 (part at count out) app) r (λ j. ap (called 1024 (ev 1024 lay j) (part at count out)) (lay_is ∙ stays_is z)) s;
          small = s.small;
          kept = same_refl (at + count) out;
          slots = held;
        }

    pub apply_enter : (k r : ℕ) (out' slots' : List ℕ) → Found (enter_of ls u d (part at count out)) k (at + count) (at + count) out out' call slots' r → Named k out' slots' r
    apply_enter k r out' slots' f =
        record {
          told = told_same (enter_of ls u d (part at count out)) N k r (Short out (at + count) k) (Short out (at + count) k) r (λ j. ap (called 1024 (ev 1024 lay j) (part at count out)) (sym lay_is)) (λ x. x) f.told;
          small = f.small;
          kept = f.kept;
          slots = f.slots;
        }

  -- ---- a type as it stands
  module _ (y d : ℕ) (place : Place ls t u y d) (out : List ℕ) where
    abbrev qs : List ℕ
    qs = params_of ls d

    abbrev T : ℕ → Result ℕ
    T = type_of_decl ls u d y

    none_is : part 0 0 out ≡ []
    none_is = part_none 0 out

    bare : attached (instance_shape qs [] (type_of ls y)) (extra qs []) ≡ instance_shape qs [] (type_of ls y)
    bare = ap (attached (instance_shape qs [] (type_of ls y))) (extra_none (length qs) [] (omega arith)) ∙ attached_none (instance_shape qs [] (type_of ls y))

    weight_is : nodes (attached (instance_shape qs [] (type_of ls y)) (extra qs [])) ≡ weight qs [] (type_of ls y)
    weight_is = ap nodes bare ∙ (shape_parts qs [] (type_of ls y)).0

    spent_is : T 0 ≡ spent
    unfolding ev
    spent_is = refl

    module _ (w : ℕ) (ew : w ≡ capped 1024 (0 + weight_of ls d out 0 0 y)) where
      weight_of_is : capped 1024 (0 + weight_of ls d out 0 0 y) ≡ capped 1024 (weight qs [] (type_of ls y))
      weight_of_is = ap (capped 1024) (zero_of (weight_of ls d out 0 0 y)) ∙ ap (λ (os : List ℕ). capped 1024 (weight qs os (type_of ls y))) none_is
        where
          zero_of : (a : ℕ) → 0 + a ≡ a
          zero_of a = omega arith

      pub type_ten : (k : ℕ) (slots : List ℕ) → Slots call slots → 1024 < w → Found T k 0 0 out out call slots 3
      unfolding answer ev entered
      type_ten k slots held q =
          record {
            told = told_known T k 3 (Short out 0 k) 3 (omega arith) large;
            small = omega arith;
            kept = same_refl 0 out;
            slots = held;
          }
        where
          big : 1024 < weight qs [] (type_of ls y)
          big = capped_over 1024 (weight qs [] (type_of ls y)) (omega (arith, weight_of_is))

          over : (n : ℕ) → 1024 < n → leb n 1024 ≡ false
          over n l = go (leb n 1024) refl
            where
              go : (x : Bool) → leb n 1024 ≡ x → x ≡ false
              go true e = absurd (omega (arith, leb-true n 1024 e))
              go false e = refl

          large : (j : ℕ) → Leads (T j) (fault 10)
          large zero = tt
          large (suc j) =
              subst (λ (x : Bool). Leads {A = ℕ} (elim x [ true ↦ eval 1024 lay (ev 1024 lay j) qs [] (type_of ls y) (extra qs []) | false ↦ fault 10 ]) (fault 10)) (sym (ap (λ (n : ℕ). leb n 1024) weight_is ∙ over (weight qs [] (type_of ls y)) big)) refl

      pub type_node : (k r : ℕ) (out' slots' : List ℕ) → w ≤ 1024 → Found (eval_of ls u d (part 0 0 out) y (last_of 0 0 0 out)) k (0 + size (type_of ls y) + 0) 0 out out' call slots' r → Found T (suc k) 0 0 out out' call slots' r
      unfolding ev entered
      type_node k r out' slots' q found =
          record {
            told = told_next (eval_of ls u d (part 0 0 out) y (last_of 0 0 0 out)) T k r (Short out (0 + size (type_of ls y) + 0) k) (Short out 0 (suc k)) r spent_is same short found.told;
            small = found.small;
            kept = found.kept;
            slots = found.slots;
          }
        where
          fine : weight qs [] (type_of ls y) ≤ 1024
          fine = (capped_under 1024 (weight qs [] (type_of ls y)) (omega (arith, weight_of_is))).0

          same : (j : ℕ) → T (suc j) ≡ eval_of ls u d (part 0 0 out) y (last_of 0 0 0 out) j
          same j =
              ap (λ (x : Bool). elim x [ true ↦ eval 1024 lay (ev 1024 lay j) qs [] (type_of ls y) (extra qs []) | false ↦ fault 10 ]) (ap (λ (n : ℕ). leb n 1024) weight_is ∙ le-leb (weight qs [] (type_of ls y)) 1024 fine)
              ∙ ap₂ (λ (os es : List ℕ). eval 1024 lay (ev 1024 lay j) qs os (type_of ls y) es) (sym none_is) (extra_none (length qs) [] (omega arith) ∙ sym (extra_none 0 (part 0 0 out) (omega (arith, ap length none_is))))

          short : Short out (0 + size (type_of ls y) + 0) k → Short out 0 (suc k)
          short x = omega (arith, size_weight qs [] nodes_none (type_of ls y), fine)

  -- ---- remembered calls
  module _ (n at count : ℕ) (out : List ℕ) (k : ℕ) where
    -- in a slot
    pub apply_known : (r : ℕ) (slots : List ℕ) → Slots call slots → Recalled slots n (part at count out) r → (r ≡ 0 → ⊥) → Found (call n (part at count out)) k (at + count) (at + count) out out call slots r
    apply_known r slots held f z =
        let w = held.right n (part at count out) r (f z) in
        record { told = told_known (call n (part at count out)) k r (Short out (at + count) k) r w.decided w.gives; small = w.small; kept = same_refl (at + count) out; slots = held }

    -- kept in one
    pub apply_kept : (r : ℕ) (out' slots slots' : List ℕ) → at + count ≤ length out → Found (call n (part at count out)) k (at + count) (at + count) out out' call slots r → Written n (part at count out') r slots slots' → Found (call n (part at count out)) k (at + count) (at + count) out out' call slots' r
    apply_kept r out' slots slots' h f w =
        record {
          told = f.told;
          small = f.small;
          kept = f.kept;
          slots = slots_written call n (part at count out) r slots slots' f.slots (λ d. record { decided = d; small = f.small; gives = f.told.knows d })
              (subst (λ (os : List ℕ). Written n os r slots slots') (part_same at count (at + count) out' out (omega arith) f.kept) w);
        }

  -- ---- the tests of a call
  -- the kind of an unfolded name, by its cell
  pub unfolded_at : (y d what : ℕ) → what ≡ get_or u (2 * d) 3 → unfold_at ls u d ≡ unfolded (eqb (get_or u (2 * d) 3) 1) (params_of ls d) (type_of ls y) → unfold_at ls u d ≡ unfolded (eqb what 1) (params_of ls d) (type_of ls y)
  unfolded_at y d what e is = is ∙ ap (λ (x : ℕ). unfolded (eqb x 1) (params_of ls d) (type_of ls y)) (sym e)

  module _ (y d : ℕ) (place : Place ls t u y d) (new : Bool) (is : unfold_at ls u d ≡ unfolded new (params_of ls d) (type_of ls y))
      (at count : ℕ) (out : List ℕ) (args : Args out at count (at + count)) (k : ℕ) where
    -- an answer, whatever is remembered
    entered_now : (r : ℕ) → (r ≡ 1 → ⊥) → ((slots : List ℕ) → Slots call slots → Found (enter_of ls u d (part at count out)) k (at + count) (at + count) out out call slots r) → Entered ls u y d at count out k r
    entered_now r n f = record { found = λ q. f; fuel = λ e. absurd (n e); enough = λ e. absurd (n e); bare = λ e. absurd (n e); goes = λ e. absurd (n e) }

    pub entered_nine : fits (part at count out) (unfolded new (params_of ls d) (type_of ls y)) ≡ false → Entered ls u y d at count out k 2
    entered_nine h = entered_now 2 (λ e. omega arith) (λ slots held. enter_nine y d place new is at count out args slots held k h)

    module _ (h : fits (part at count out) (unfolded new (params_of ls d) (type_of ls y)) ≡ true) where
      pub entered_spent : k ≡ 0 → Entered ls u y d at count out k 0
      entered_spent z = entered_now 0 (λ e. omega arith) (λ slots held. enter_spent y d place new is at count out args slots held h k z)

      pub entered_enough : (n : ℕ) → n ≡ length (params_of ls d) → n ≤ count
      entered_enough n e = omega (arith, fits_enough (params_of ls d) (part at count out) (type_of ls y) new h, part_length at count out args.room)

      module _ (n over from w : ℕ) (en : n ≡ length (params_of ls d)) (eo : over ≡ count - n) (ef : from ≡ capped 1024 (0 + total (part (at + n) over out))) (ew : w ≡ capped 1024 (from + weight_of ls d out at count y)) where
        pub entered_ten : 1024 < w → Entered ls u y d at count out k 3
        entered_ten q = entered_now 3 (λ e. omega arith) (λ slots held. enter_ten y d place new is at count out args slots held h n over from w en eo ef ew k q)

        pub entered_var : w ≤ 1024 → 0 < over → kind_of ls y ≡ 3 → Entered ls u y d at count out k (4 * w + 1)
        entered_var q o z = entered_now (4 * w + 1) (λ e. omega (arith, positive)) (λ slots held. enter_var y d place new is at count out args slots held h n over from w en eo ef ew q k o z)
          where
            positive : 1 ≤ w
            positive =
                omega (arith, (capped_under 1024 (from + weight_of ls d out at count y) (omega (arith, ew))).1, ew, size_positive (type_of ls y), size_weight (params_of ls d) (part at count out) args.nodes (type_of ls y))

        pub entered_open : w ≤ 1024 → 0 < k → (kind_of ls y ≡ 3 → over ≡ 0) → Entered ls u y d at count out k 1
        entered_open q p z =
            let eq : count - length (params_of ls d) ≡ over = omega (arith, en, eo) in
            record {
              found = λ a. absurd (a refl);
              fuel = λ e. p;
              enough = λ e. omega (arith, entered_enough n en, en);
              bare = λ e i. eq ∙ z i;
              goes = λ e slots held o eo' r' out' slots' f.
                  enter_node y d place new is at count out args slots held h n o from w en (eo' ∙ (eq ∙ eo)) (ef ∙ ap (λ (i : ℕ). capped 1024 (0 + total (part (at + n) i out))) (sym (eo' ∙ eq))) ew q k r' out' slots' p f;
            }

  -- ---- a call with nothing unfolded
  module _ (setup : Setup ls t u) (n d what at count : ℕ) (ed : d ≡ position (program ls) n) (ew : what ≡ get_or u (2 * d) 3)
      (out : List ℕ) (args : Args out at count (at + count)) (slots : List ℕ) (held : Slots call slots) where
    pub answered_gone : what ≡ 0 → Answered ls u n at count out slots 4
    answered_gone z = record { found = λ q k. apply_gone setup n d what at count ed ew out args slots held k z; here = λ e. absurd (omega arith); least = λ e. absurd (omega arith) }

    pub answered_stays : (r : ℕ) → 2 < what → Says (built 1024 (part at count out) app) r → Answered ls u n at count out slots r
    answered_stays r z s = record { found = λ q k. apply_stays setup n d what at count ed ew out args slots held k r z s; here = λ e. absurd (omega (arith, s.decided)); least = λ e. absurd (omega (arith, s.decided)) }

    pub answered_known : (r : ℕ) → (what ≡ 0 → ⊥) → what ≤ 2 → Recalled slots n (part at count out) r → Answered ls u n at count out slots r
    answered_known r z h f =
        let e : what ≡ get_or u (2 * position (program ls) n) 3 = ew ∙ ap (λ (i : ℕ). get_or u (2 * i) 3) ed in
        record { found = λ q k. apply_known n at count out k r slots held f q; here = λ _ g. z (e ∙ g); least = λ _. subst (λ (x : ℕ). x ≤ 2) e h }

  -- the declaration of an unfolded name, and its body
  pub unfolded_here : (setup : Setup ls t u) (n d at count : ℕ) → d ≡ position (program ls) n → (out : List ℕ) → Args out at count (at + count) → (slots : List ℕ) → Slots call slots → (r : ℕ) → Answered ls u n at count out slots r → r ≡ 0
      → Place ls t u (get_or u (2 * d + 1) 0) d × (unfold_at ls u d ≡ unfolded (eqb (get_or u (2 * d) 3) 1) (params_of ls d) (type_of ls (get_or u (2 * d + 1) 0)))
  unfolded_here setup n d at count ed out args slots held r w z =
      let e : get_or u (2 * d) 3 ≡ get_or u (2 * position (program ls) n) 3 = ap (λ (i : ℕ). get_or u (2 * i) 3) ed in
      let here : get_or u (2 * d) 3 ≡ 0 → ⊥ = λ q. w.here z (sym e ∙ q) in
      let least : get_or u (2 * d) 3 ≤ 2 = subst (λ (x : ℕ). x ≤ 2) (sym e) (w.least z) in (
        unfolded_place setup n d (get_or u (2 * d) 3) at count ed refl out args slots held here least,
        unfolded_is setup n d (get_or u (2 * d) 3) at count ed refl out args slots held here least,
      )

  pub body_here : (y d : ℕ) → y ≡ get_or u (2 * d + 1) 0 → Place ls t u (get_or u (2 * d + 1) 0) d × (unfold_at ls u d ≡ unfolded (eqb (get_or u (2 * d) 3) 1) (params_of ls d) (type_of ls (get_or u (2 * d + 1) 0)))
      → Place ls t u y d × (unfold_at ls u d ≡ unfolded (eqb (get_or u (2 * d) 3) 1) (params_of ls d) (type_of ls y))
  body_here y d e p = subst (λ (i : ℕ). Place ls t u i d × (unfold_at ls u d ≡ unfolded (eqb (get_or u (2 * d) 3) 1) (params_of ls d) (type_of ls i))) (sym e) p

-- ---- for the code
module _ (ls : List Line) (passed : Passed ls) (y : ℕ) (h : y < count_of type_line ls) where
  pub kid_below : (i : ℕ) → i < kids_of ls y → kid_of ls y i < y
  kid_below = (node_at ls passed y h).lower

  pub name_within : kind_of ls y ≡ 8 → number (y_line ls y) 1 < count_of name_line ls
  name_within = (node_at ls passed y h).named

pub capped_least : (r n : ℕ) → r ≡ capped 1024 n → r ≤ 1025
capped_least r n e = omega (arith, capped_most 1024 n)
