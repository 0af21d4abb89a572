-- What stands in the output and on the stack when the lines of a node are written, and the room that is left. Assumes nothing.
use Rattle.std.specs.Prelude.{◌≡◌, refl, List, [], ◌∷◌, ◌++◌, map, Bool, true, false, ◌||◌, ℕ, zero, suc, ◌+◌, ◌-◌, ◌≤◌, ◌<◌, eqb, length, get_or, take, drop, set}
use Rattle.std.proofs.Common.{ap, arith, add-one, length-take, length-drop, take-take, take-suc, take-suc-set, drop-cons, eqb-true}
use Rattle.std.proofs.lemmas.List.{map-append}
use Rattle.std.proofs.lemmas.Bool.{lt-leb}
use Rattle.number_columns.specs.Column.{pick}
use Rattle.sheet.specs.Line.{row, encode}
use Rattle.sheet.specs.Output.{put_at, puts}
use Rattle.meaning.specs.Program.{type_line}
use Rattle.form_laws.specs.Nodes.{Node, taken, args_of, count_args}
use Rattle.form_nodes.specs.Words.{node_of}
use Rattle.left_emitter.specs.Lines.{y_row, arg_row, has_list, listed}
use Rattle.left_emitter.specs.declared.Pen.{Pen}
use Rattle.left_emitter.specs.Pens.{Sheet, sheet, put_lines, moved, write_line, write_lines, Ready, Room}

-- a part of what waits
abbrev none : List ℕ
none = []

take_none : (k : ℕ) → take k none ≡ none
take_none zero = refl
take_none (suc k) = refl

pub lent_part : (st : List ℕ) (a n : ℕ) → take (n - a) (drop a st) ≡ drop a (take n st)
lent_part st zero n = let e : n - 0 ≡ n = omega arith in rw e
lent_part [] (suc a) zero = take_none (0 - suc a)
lent_part [] (suc a) (suc n) = take_none (suc n - suc a)
lent_part (x ∷ st) (suc a) zero = let e : 0 - suc a ≡ 0 = omega arith in rw e
lent_part (x ∷ st) (suc a) (suc n) = let e : suc n - suc a ≡ n - a = omega arith in rw e (lent_part st a n)

-- no more A lines than the node says
pub listed_few : (x : Node) (ns : List ℕ) → length ns ≤ taken x → length (listed x ns) ≤ args_of x
unfolding listed has_list args_of taken
listed_few x ns h = go (eqb x.kind 8) (eqb x.kind 9) refl refl
  where
    more : (k : ℕ) → x.kind ≡ k → 6 < k → length ns ≤ x.count
    more k e l = let m : 6 < x.kind = omega arith in rw (lt-leb x.kind 6 m) at h

    go : (a b : Bool) → eqb x.kind 8 ≡ a → eqb x.kind 9 ≡ b → length (pick (a || b) ns []) ≤ pick a x.count (pick b x.count 0)
    go true b p q = more 8 (eqb-true x.kind 8 p) (omega arith)
    go false true p q = more 9 (eqb-true x.kind 9 q) (omega arith)
    go false false p q = omega arith

-- so many children wait
pub part_few : (st : List ℕ) (a w t : ℕ) → a ≡ w - t → length (take (w - a) (drop a st)) ≤ t
part_few st a w t e = rw (length-take) (omega arith)

-- The lines of a node, from the parts that are written.
pub write_law : (x : Node) (p : Pen) (out out₁ out₂ stack ys : List ℕ) (at n : ℕ)
    → at ≡ p.waiting - taken x → p.waiting + 1 ≤ length stack
    → ys ≡ y_row x (take (p.waiting - at) (drop at stack)) p.args
    → n ≡ length (listed x (take (p.waiting - at) (drop at stack)))
    → out₁ ≡ puts 6 out (p.lists + p.args) (map arg_row (listed x (take (p.waiting - at) (drop at stack))))
    → out₂ ≡ put_at 6 out₁ (p.nodes + p.types) (encode 6 (row type_line ys))
    → sheet (record { lists = p.lists; nodes = p.nodes; args = p.args + n; types = p.types + 1; waiting = at + 1 }) out₂ (set stack at p.types) ≡ write_line x (sheet p out stack)
unfolding write_line put_lines moved
write_law x p out out₁ out₂ stack ys at n e h y m o₁ o₂ =
    rw (o₂, o₁, y, m, lent_part stack at p.waiting, add-one p.types, add-one at, take-suc-set stack at p.types (omega arith), ← e, take-take at p.waiting stack (omega arith))

-- ---- a run of nodes
pub write_lines_last : (xs : List Node) (x : Node) (s : Sheet) → write_lines (xs ++ (x ∷ [])) s ≡ write_line x (write_lines xs s)
unfolding write_lines
write_lines_last [] x s = refl
write_lines_last (y ∷ xs) x s = write_lines_last xs x (write_line y s)

-- one word more
pub words_more : (ws : List ℕ) (s : Sheet) (i : ℕ) → i < length ws → write_lines (map node_of (take (i + 1) ws)) s ≡ write_line (node_of (get_or ws i 0)) (write_lines (map node_of (take i ws)) s)
words_more ws s i h =
    rw (add-one, take-suc ws i 0 h, map-append node_of (take i ws) (get_or ws i 0 ∷ [])) (write_lines_last (map node_of (take i ws)) (node_of (get_or ws i 0)) s)

-- what the first node needs
pub room_first : (x : Node) (xs : List Node) (p : Pen) (out stack : List ℕ) → Room (x ∷ xs) p out stack → Ready 1 (args_of x) p out stack
unfolding count_args
room_first x xs p out stack r =
    record {
      args_room = omega (arith, r.args_room);
      types_room = omega (arith, r.types_room);
      args_few = omega (arith, r.args_few);
      types_few = omega (arith, r.types_few);
      waits = omega (arith, r.waits);
    }

-- and what is left for the others
pub room_rest : (x : Node) (xs : List Node) (p q : Pen) (out out' stack stack' : List ℕ) → Room (x ∷ xs) p out stack → length out' ≡ length out → length stack' ≡ length stack
    → sheet q out' stack' ≡ write_line x (sheet p out stack) → Room xs q out' stack'
unfolding count_args write_line moved
room_rest x xs p q out out' stack stack' r l m e =
    let at : ℕ = p.waiting - taken x in
    let ns : List ℕ = drop at (take p.waiting stack) in
    let k : length (listed x ns) ≤ args_of x = listed_few x ns (rw (length-drop, length-take) (omega arith)) in
    let a : q.lists ≡ p.lists = ap (λ (s : Sheet). s.pen.lists) e in
    let b : q.nodes ≡ p.nodes = ap (λ (s : Sheet). s.pen.nodes) e in
    let c : q.args ≡ p.args + length (listed x ns) = ap (λ (s : Sheet). s.pen.args) e in
    let d : q.types ≡ suc p.types = ap (λ (s : Sheet). s.pen.types) e in
    let f : q.waiting ≡ suc at = ap (λ (s : Sheet). s.pen.waiting) e in
    record {
      args_room = omega (arith, r.args_room);
      types_room = omega (arith, r.types_room);
      args_few = omega (arith, r.args_few);
      types_few = omega (arith, r.types_few);
      waits = omega (arith, r.waits);
    }

-- the words that are left
pub words_drop : (ws : List ℕ) (i : ℕ) → i < length ws → map node_of (drop i ws) ≡ node_of (get_or ws i 0) ∷ map node_of (drop (i + 1) ws)
words_drop ws i h = rw (drop-cons ws i 0 h, add-one)
