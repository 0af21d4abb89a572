-- The lines that are written node by node are the A and Y lines of what `emit` writes, each kind in its own run of lines.
-- Assumes nothing.
use Rattle.std.specs.Prelude.{◌≡◌, refl, List, [], ◌∷◌, ◌++◌, map, Bool, true, false, ◌||◌, ℕ, suc, ◌+◌, ◌*◌, ◌-◌, ◌≤◌, ◌<◌, eqb, length, take, drop}
use Rattle.std.proofs.Common.{ap, ap₂, sym, ◌∙◌, subst, append_assoc, append-nil, arith, mul-suc, mul-le-mul_left, length-append, length-drop, take-take, drop-drop, length-take-le}
use Rattle.std.proofs.lemmas.List.{map-append, length-map, take-append-le, drop-append-le}
use Rattle.std.proofs.Math.Seq.{take-append-add, drop-append-add}
use Rattle.number_columns.specs.Column.{pick}
use Rattle.sheet.specs.Format.{line_bytes}
use Rattle.sheet.specs.Line.{Line, row, encode}
use Rattle.sheet.specs.Output.{put_at, puts}
use Rattle.sheet.proofs.OutputLaws.{Whole, length_put}
use Rattle.sheet.proofs.LineLaws.{row_length}
use Rattle.sheet.proofs.ListLaws.{Every, every_append}
use Rattle.model.specs.Cty.{Cty}
use Rattle.meaning.specs.Program.{type_line}
use Rattle.meaning.specs.Output.{Written, put, last, emit}
use Rattle.form_laws.specs.Nodes.{Node, post, taken, put_args, y_first, y_second, y_third, put_node, write_node, write_nodes, args_of, count_args}
use Rattle.form_laws.specs.NodesLaws.{writing, write_post}
use Rattle.left_emitter.specs.Lines.{y_row, arg_row, has_list, listed}
use Rattle.left_emitter.specs.LinesLaws.{puts_last, length_puts, args_whole}
use Rattle.left_emitter.specs.declared.Pen.{Pen}
use Rattle.left_emitter.specs.Pens.{Sheet, put_lines, moved, write_line, write_lines}
use Rattle.left_emitter.specs.PensLaws.{lent_part, listed_few}

-- ---- two lines in their places
-- as bytes: an earlier part and a later one
parts_commute : (o q r : List ℕ) (a b c d : ℕ) → a ≤ b → b ≤ c → c ≤ d → d ≤ length o → length r ≡ b - a → length q ≡ d - c
    → take a (take c o ++ (q ++ drop d o)) ++ (r ++ drop b (take c o ++ (q ++ drop d o))) ≡ take c (take a o ++ (r ++ drop b o)) ++ (q ++ drop d (take a o ++ (r ++ drop b o)))
parts_commute o q r a b c d h i j k lr lq =
    rw (take-append-le a (take c o) (q ++ drop d o) (rw lc (omega arith)), take-take a c o (omega arith), drop-append-le b (take c o) (q ++ drop d o) (rw lc i))
    (sym (ap₂ (λ (x y : List ℕ). x ++ (q ++ y)) front back ∙ regroup))
  where
    la : length (take a o) ≡ a
    la = length-take-le a o (omega arith)

    lc : length (take c o) ≡ c
    lc = length-take-le c o (omega arith)

    front : take c (take a o ++ (r ++ drop b o)) ≡ take a o ++ (r ++ drop b (take c o))
    front =
        let e : c ≡ length (take a o) + (length r + (c - b)) = omega (arith, la, lr) in
        ap (λ (n : ℕ). take n (take a o ++ (r ++ drop b o))) e
        ∙ (take-append-add (take a o) (r ++ drop b o) (length r + (c - b))
        ∙ ap (λ (x : List ℕ). take a o ++ x) (take-append-add r (drop b o) (c - b) ∙ ap (λ (x : List ℕ). r ++ x) (lent_part o b c)))

    back : drop d (take a o ++ (r ++ drop b o)) ≡ drop d o
    back =
        let e : d ≡ length (take a o) + (length r + (d - b)) = omega (arith, la, lr) in
        let f : b + (d - b) ≡ d = omega arith in
        ap (λ (n : ℕ). drop n (take a o ++ (r ++ drop b o))) e
        ∙ (drop-append-add (take a o) (r ++ drop b o) (length r + (d - b)) ∙ (drop-append-add r (drop b o) (d - b) ∙ (drop-drop (d - b) b o ∙ ap (λ (n : ℕ). drop n o) f)))

    regroup : (take a o ++ (r ++ drop b (take c o))) ++ (q ++ drop d o) ≡ take a o ++ (r ++ (drop b (take c o) ++ (q ++ drop d o)))
    regroup = append_assoc (take a o) (r ++ drop b (take c o)) (q ++ drop d o) ∙ ap (λ (x : List ℕ). take a o ++ x) (append_assoc r (drop b (take c o)) (q ++ drop d o))

-- an earlier line and a later one
pub put_put : (w : ℕ) (o q r : List ℕ) (i j : ℕ) → i < j → line_bytes w * suc j ≤ length o → length q ≡ line_bytes w → length r ≡ line_bytes w
    → put_at w (put_at w o j q) i r ≡ put_at w (put_at w o i r) j q
unfolding put_at
put_put w o q r i j h l lq lr =
    let a = mul-suc (line_bytes w) i in
    let b = mul-suc (line_bytes w) j in
    let c = mul-le-mul_left (line_bytes w) h in
    parts_commute o q r (line_bytes w * i) (line_bytes w * suc i) (line_bytes w * j) (line_bytes w * suc j) (omega arith) c (omega arith) l (omega arith) (omega arith)

-- a run before a later line
pub puts_put : (w : ℕ) (o q : List ℕ) (i j : ℕ) (ls : List Line) → i + length ls ≤ j → line_bytes w * suc j ≤ length o → length q ≡ line_bytes w → Whole w ls
    → puts w (put_at w o j q) i ls ≡ put_at w (puts w o i ls) j q
unfolding puts
puts_put w o q i j [] h l lq g = refl
puts_put w o q i j (m ∷ ls) h l lq g =
    ap (λ (x : List ℕ). puts w x (suc i) ls) (put_put w o q (encode w m) i j (omega arith) l lq g.0)
    ∙ puts_put w (put_at w o i (encode w m)) q (suc i) j ls (omega arith) (rw (length_put w o (encode w m) i early g.0) l) lq g.1
  where
    early : line_bytes w * suc i ≤ length o
    early = let k : suc i ≤ suc j = omega arith in omega (arith, mul-le-mul_left (line_bytes w) k)

-- a run before a later run
pub puts_puts : (w : ℕ) (o : List ℕ) (i j : ℕ) (ls ms : List Line) → i + length ls ≤ j → line_bytes w * (j + length ms) ≤ length o → Whole w ls → Whole w ms
    → puts w (puts w o j ms) i ls ≡ puts w (puts w o i ls) j ms
unfolding puts
puts_puts w o i j ls [] h l g k = refl
puts_puts w o i j ls (m ∷ ms) h l g k =
    puts_puts w (put_at w o j (encode w m)) i (suc j) ls ms (omega arith) (rw (length_put w o (encode w m) j first k.0, e) l) g k.1
    ∙ ap (λ (x : List ℕ). puts w x (suc j) ms) (puts_put w o (encode w m) i j ls h first k.0 g)
  where
    e : suc j + length ms ≡ j + suc (length ms)
    e = omega arith

    first : line_bytes w * suc j ≤ length o
    first = let n : suc j ≤ j + suc (length ms) = omega arith in omega (arith, mul-le-mul_left (line_bytes w) n)

pub puts_append : (w : ℕ) (o : List ℕ) (i : ℕ) (ls ms : List Line) → puts w o i (ls ++ ms) ≡ puts w (puts w o i ls) (i + length ls) ms
unfolding puts
puts_append w o i [] ms = let e : i + 0 ≡ i = omega arith in rw e
puts_append w o i (l ∷ ls) ms =
    let e : suc i + length ls ≡ i + suc (length ls) = omega arith in
    puts_append w (put_at w o i (encode w l)) (suc i) ls ms ∙ rw e

-- ---- what is written, in an output
-- the A lines from line i on and the Y lines from line j on
unfoldable pub laid : ℕ → ℕ → List ℕ → Written → List ℕ
laid i j d w = puts 6 (puts 6 d i (map arg_row w.args)) j (map (row type_line) w.types)

-- Y lines have five numbers each
abbrev Fives : List (List ℕ) → Type 0
Fives = Every (λ ns. length ns ≡ 5)

fives_whole : (ts : List (List ℕ)) → Fives ts → Whole 6 (map (row type_line) ts)
fives_whole [] h = tt
fives_whole (t ∷ ts) h = (row_length 6 type_line t h.0, fives_whole ts h.1)

-- the output d with what is written so far
pub record Shows (d : List ℕ) (w : Written) (s : Sheet) : Type 0 where
  pub holds : s.bytes ≡ laid s.pen.lists s.pen.nodes d w
  pub args_are : s.pen.args ≡ length w.args
  pub types_are : s.pen.types ≡ length w.types
  pub waits_are : s.pen.waiting ≡ length s.stack
  pub fives : Fives w.types

-- room for n Y lines and m A lines, the A lines before the Y lines
pub record Space (d : List ℕ) (w : Written) (p : Pen) (n m : ℕ) : Type 0 where
  pub before : p.lists + (length w.args + m) ≤ p.nodes
  pub inside : 32 * (p.nodes + (length w.types + n)) ≤ length d

-- a node's A lines
put_args_listed : (x : Node) (ns : List ℕ) (w : Written) → put_args x ns w ≡ record { args = w.args ++ listed x ns; types = w.types }
unfolding put_args listed has_list
put_args_listed x ns w = go (eqb x.kind 8) (eqb x.kind 9)
  where
    go : (a b : Bool) → pick a (record { args = w.args ++ ns; types = w.types }) (pick b (record { args = w.args ++ ns; types = w.types }) w) ≡ record { args = w.args ++ pick (a || b) ns []; types = w.types }
    go true b = refl
    go false true = refl
    go false false = ap (λ (l : List ℕ). record { args = l; types = w.types }) (sym (append-nil w.args))

put_node_listed : (x : Node) (ns : List ℕ) (w : Written) → put_node x ns w ≡ record { args = w.args ++ listed x ns; types = w.types ++ (y_row x ns (length w.args) ∷ []) }
unfolding put_node put y_row
put_node_listed x ns w =
    ap (λ (v : Written). record { args = v.args; types = v.types ++ ((x.kind ∷ y_first x ns (length w.args) ∷ y_second x ns (length w.args) ∷ y_third x ns ∷ 0 ∷ []) ∷ []) }) (put_args_listed x ns w)

-- the lines of a node, in an output with what is written before
laid_more : (i j : ℕ) (d : List ℕ) (w : Written) (ks ys : List ℕ) → i + (length w.args + length ks) ≤ j → 32 * (j + (length w.types + 1)) ≤ length d → Fives w.types
    → put_at 6 (puts 6 (laid i j d w) (i + length w.args) (map arg_row ks)) (j + length w.types) (encode 6 (row type_line ys)) ≡ laid i j d (record { args = w.args ++ ks; types = w.types ++ (ys ∷ []) })
unfolding laid
laid_more i j d w ks ys h l f =
    let A = map arg_row w.args in
    let T = map (row type_line) w.types in
    let R = map arg_row ks in
    let la : length A ≡ length w.args = length-map w.args arg_row in
    let lt : length T ≡ length w.types = length-map w.types (row type_line) in
    let lr : length R ≡ length ks = length-map ks arg_row in
    let e : length (puts 6 d i A) ≡ length d = length_puts 6 d i A (args_whole w.args) (omega arith) in
    rw (map-append arg_row w.args ks, map-append (row type_line) w.types (ys ∷ []), puts_append 6 d i A R, puts_last 6 (puts 6 (puts 6 d i A) (i + length A) R) j T (row type_line ys), la, lt)
    (ap (λ (x : List ℕ). put_at 6 x (j + length w.types) (encode 6 (row type_line ys)))
    (puts_puts 6 (puts 6 d i A) (i + length w.args) j R T (omega arith) (rw e (omega arith)) (args_whole ks) (fives_whole w.types f)))

five : (x : Node) (ns : List ℕ) (a : ℕ) → length (y_row x ns a) ≡ 5
unfolding y_row
five x ns a = refl

pub shows_node : (d : List ℕ) (w : Written) (s : Sheet) (x : Node) → Shows d w s → Space d w s.pen 1 (args_of x)
    → Shows d (write_node x (writing w s.stack)).written (write_line x s) × ((write_line x s).stack ≡ (write_node x (writing w s.stack)).stack)
unfolding write_node write_line put_lines moved
shows_node d w s x h r =
    let at : ℕ = s.pen.waiting - taken x in
    let ns : List ℕ = drop at s.stack in
    let e : length s.stack - taken x ≡ at = omega (arith, h.waits_are) in
    let v : Written = record { args = w.args ++ listed x ns; types = w.types ++ (y_row x ns (length w.args) ∷ []) } in
    let q : put_node x ns w ≡ v = put_node_listed x ns w in
    let k : length (listed x ns) ≤ args_of x = listed_few x ns (rw length-drop (omega (arith, h.waits_are))) in
    let n : length (w.types ++ (y_row x ns (length w.args) ∷ [])) ≡ suc (length w.types) = length-append w.types (y_row x ns (length w.args) ∷ []) ∙ omega arith in
    rw (e, q) (
      record {
        holds = rw (h.holds, h.args_are, h.types_are) (laid_more s.pen.lists s.pen.nodes d w (listed x ns) (y_row x ns (length w.args)) (omega (arith, r.before)) r.inside h.fives);
        args_are = rw h.args_are (sym (length-append w.args (listed x ns)));
        types_are = rw h.types_are (sym n);
        waits_are = rw (length-append) (omega (arith, length-take-le at s.stack (omega (arith, h.waits_are))));
        fives = every_append (λ ns. length ns ≡ 5) w.types (y_row x ns (length w.args) ∷ []) h.fives (five x ns (length w.args), tt);
      },
      ap (λ (m : ℕ). take at s.stack ++ (m ∷ [])) (h.types_are ∙ omega (arith, n)),
    )

-- what a node adds
node_adds : (x : Node) (ns : List ℕ) (w : Written) → (length (put_node x ns w).args ≡ length w.args + length (listed x ns)) × (length (put_node x ns w).types ≡ suc (length w.types))
node_adds x ns w =
    rw (put_node_listed x ns w) (length-append w.args (listed x ns), length-append w.types (y_row x ns (length w.args) ∷ []) ∙ omega arith)

-- the sections stay where they are
pen_stays : (x : Node) (s : Sheet) → ((write_line x s).pen.lists ≡ s.pen.lists) × ((write_line x s).pen.nodes ≡ s.pen.nodes)
unfolding write_line moved
pen_stays x s = (refl, refl)

space_node : (d : List ℕ) (w : Written) (s : Sheet) (x : Node) (n m : ℕ) → Shows d w s → Space d w s.pen (suc n) (args_of x + m)
    → Space d (write_node x (writing w s.stack)).written (write_line x s).pen n m
unfolding write_node
space_node d w s x n m h r =
    let at : ℕ = length s.stack - taken x in
    let ns : List ℕ = drop at s.stack in
    let k : length (listed x ns) ≤ args_of x = listed_few x ns (rw length-drop (omega arith)) in
    let a = node_adds x ns w in
    let p = pen_stays x s in
    record { before = rw (p.0, p.1, a.0) (omega (arith, r.before)); inside = rw (p.1, a.1) (omega (arith, r.inside)) }

-- Writing nodes one after the other shows what `write_nodes` gives.
pub shows_nodes : (d : List ℕ) (xs : List Node) (w : Written) (s : Sheet) → Shows d w s → Space d w s.pen (length xs) (count_args xs)
    → Shows d (write_nodes xs (writing w s.stack)).written (write_lines xs s) × ((write_lines xs s).stack ≡ (write_nodes xs (writing w s.stack)).stack)
unfolding write_nodes write_lines count_args
shows_nodes d [] w s h r = (h, refl)
shows_nodes d (x ∷ xs) w s h r =
    let one : Space d w s.pen 1 (args_of x) = record { before = omega (arith, r.before); inside = omega (arith, r.inside) } in
    let f = shows_node d w s x h one in
    let v : Written = (write_node x (writing w s.stack)).written in
    subst (λ (l : List ℕ). Shows d (write_nodes xs (writing v l)).written (write_lines xs (write_line x s)) × ((write_lines xs (write_line x s)).stack ≡ (write_nodes xs (writing v l)).stack)) f.1
    (shows_nodes d xs v (write_line x s) f.0 (space_node d w s x (length xs) (count_args xs) h r))

-- The nodes of a type: what `emit` writes, and its Y line waits.
pub shows_type : (d : List ℕ) (c : Cty) (w : Written) (s : Sheet) → Shows d w s → Space d w s.pen (length (post c)) (count_args (post c))
    → Shows d (emit c w) (write_lines (post c) s) × ((write_lines (post c) s).stack ≡ s.stack ++ (last (emit c w) ∷ []))
shows_type d c w s h r = rw (write_post c w s.stack) at (shows_nodes d (post c) w s h r)
