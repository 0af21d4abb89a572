-- What is written one after the other, and the room for it. Assumes nothing.
use Rattle.std.specs.Prelude.{◌≡◌, refl, ℕ, suc, ◌+◌, ◌*◌, ◌-◌, ◌≤◌, ◌<◌, Bool, true, false, leb, take, drop}
use Rattle.std.proofs.Math.Path.{ap, fun_ext}
use Rattle.std.proofs.Common.{sym, ◌∙◌, subst, arith, leb-true, leb-false, length-append, take_at}
use mathlib.Core.List.{List, [], ◌∷◌, ◌++◌, map, append_assoc, append-nil}
use Rattle.std.proofs.Math.ListN.{length, length-map}
use Rattle.sheet.specs.Format.{line_bytes}
use Rattle.sheet.specs.Line.{Line, row, encode}
use Rattle.sheet.proofs.LineLaws.{row_length}
use Rattle.sheet.proofs.ListLaws.{Every, every_append}
use Rattle.sheet.specs.Output.{put_at, puts}
use Rattle.sheet.proofs.OutputLaws.{Whole}
use Rattle.model.specs.Cty.{Cty, size}
use Rattle.meaning.specs.Program.{type_line}
use Rattle.meaning.specs.Output.{Written, last, emit, Lines}
use Rattle.meaning_laws.specs.Output.{grows_args, grows_types, emit_adds}
use Rattle.form_laws.specs.Nodes.{Node, post, count_args}
use Rattle.form_laws.specs.NodesLaws.{length_post, emit_args, emit_types}
use Rattle.left_emitter.specs.Lines.{arg_row}
use Rattle.left_emitter.specs.LinesLaws.{puts_last, length_puts, args_whole}
use Rattle.left_emitter.specs.declared.Pen.{Pen}
use Rattle.left_emitter.specs.Pens.{Sheet, sheet, moved, write_line, write_lines}
use Rattle.left_emitter.specs.LaidLaws.{laid, puts_put, Shows, Space, shows_type}
use Rattle.form_nodes.specs.Words.{node_of}
use Rattle.form_puts.specs.Put.{Put}
use Rattle.form_emit.specs.Emit.{words}
use Rattle.form_emit.specs.Left.{left_type}
use Rattle.left_places.specs.declared.Place.{Place}
use Rattle.left_places.specs.Places.{Writing, none, one, numbered, typed, more, seq, Growing, At, Inside, Room, Writes, Typed}
use Rattle.left_emitter.specs.Pens as pens

-- ---- lengths
fives_whole : (ts : List (List ℕ)) → Every (λ ns. length ns ≡ 5) ts → Whole 6 (map (row type_line) ts)
fives_whole [] h = tt
fives_whole (t ∷ ts) h = (row_length 6 type_line t h.0, fives_whole ts h.1)

module _ (i j : ℕ) (d : List ℕ) (w : Written) (h : i + length w.args ≤ j) (l : 32 * (j + length w.types) ≤ length d) (f : Every (λ ns. length ns ≡ 5) w.types) where
  args_length : length (puts 6 d i (map arg_row w.args)) ≡ length d
  args_length = length_puts 6 d i (map arg_row w.args) (args_whole w.args) (rw (length-map w.args arg_row) (omega arith))

  pub laid_length : length (laid i j d w) ≡ length d
  unfolding laid
  laid_length =
      length_puts 6 (puts 6 d i (map arg_row w.args)) j (map (row type_line) w.types) (fives_whole w.types f) (rw (length-map w.types (row type_line), args_length) l) ∙ args_length

  -- a line behind both runs
  pub laid_put : (m : ℕ) (q : List ℕ) → j + length w.types ≤ m → 32 * suc m ≤ length d → length q ≡ 32 → laid i j (put_at 6 d m q) w ≡ put_at 6 (laid i j d w) m q
  unfolding laid
  laid_put m q g r k =
      let a = map arg_row w.args in
      let t = map (row type_line) w.types in
      let la : length a ≡ length w.args = length-map w.args arg_row in
      let lt : length t ≡ length w.types = length-map w.types (row type_line) in
      ap (λ (o : List ℕ). puts 6 o j t) (puts_put 6 d q i m a (omega arith) r k (args_whole w.args))
      ∙ puts_put 6 (puts 6 d i a) q j m t (omega arith) (rw args_length r) k (fives_whole w.types f)

-- the output is as long as it was
module _ (d : List ℕ) (k : ℕ) (x : Lines) (p : Place) (out : List ℕ) (a : At d k x p out) (b : Inside d k x p) where
  lines_length : length (puts 6 d k x.lines) ≡ length d
  lines_length = length_puts 6 d k x.lines a.whole b.all

  pub at_length : length out ≡ length d
  at_length =
      ap length a.holds
      ∙ (laid_length p.lists p.nodes (puts 6 d k x.lines) x.written b.before_types (rw lines_length (omega (arith, b.all, b.before_lines))) a.fives ∙ lines_length)

-- ---- room
module _ (d : List ℕ) (k : ℕ) (x : Lines) (p : Place) where
  pub inside_less : (y : Lines) → length x.written.args ≤ length y.written.args → length x.written.types ≤ length y.written.types → length x.lines ≤ length y.lines
      → Inside d k y p → Inside d k x p
  inside_less y a t l b =
      record {
        before_types = omega (arith, b.before_types);
        before_lines = omega (arith, b.before_lines);
        all = omega (arith, b.all);
        args_few = omega (arith, b.args_few);
        types_few = omega (arith, b.types_few);
      }

  pub inside_first : (f g : Writing) → Growing g → Inside d k (more x (seq f g)) p → Inside d k (more x f) p
  inside_first f g h b =
      let w : Written = (f x.written).written in
      record {
        before_types = omega (arith, b.before_types, (h w).0);
        before_lines = omega (arith, b.before_lines, (h w).1);
        all = rw (length-append x.lines (f x.written).lines) (omega (arith, b.all, length-append x.lines ((f x.written).lines ++ (g w).lines), length-append (f x.written).lines (g w).lines));
        args_few = omega (arith, b.args_few, (h w).0);
        types_few = omega (arith, b.types_few, (h w).1);
      }

  pub inside_now : (f : Writing) → Growing f → Inside d k (more x f) p → Inside d k x p
  inside_now f h b =
      record {
        before_types = omega (arith, b.before_types, (h x.written).0);
        before_lines = omega (arith, b.before_lines, (h x.written).1);
        all = omega (arith, b.all, length-append x.lines (f x.written).lines);
        args_few = omega (arith, b.args_few, (h x.written).0);
        types_few = omega (arith, b.types_few, (h x.written).1);
      }

pub inside_moved : (d : List ℕ) (k : ℕ) (x : Lines) (p r : Place) → r.lists ≡ p.lists → r.nodes ≡ p.nodes → Inside d k x p → Inside d k x r
inside_moved d k x p r l n b =
    record { before_types = omega (arith, b.before_types); before_lines = omega (arith, b.before_lines); all = b.all; args_few = b.args_few; types_few = b.types_few }

pub more_seq : (x : Lines) (f g : Writing) → more x (seq f g) ≡ more (more x f) g
more_seq x f g = ap (λ (l : List Line). record { written = (g (f x.written).written).written; lines = l }) (sym (append_assoc x.lines (f x.written).lines (g (f x.written).written).lines))

-- ---- one after the other
module _ (f g : Writing) (grows : Growing g) (p q : Place) (out mid : List ℕ) where
  pub room_first : Room (seq f g) p out → Room f p out
  room_first r = record { base = r.base; start = r.start; lines = r.lines; at = r.at; inside = inside_first r.base r.start r.lines p f g grows r.inside }

  pub room_rest : Room (seq f g) p out → Writes f p q out mid → Room g q mid
  room_rest r w =
      let b = inside_first r.base r.start r.lines p f g grows r.inside in
      record {
        base = r.base;
        start = r.start;
        lines = more r.lines f;
        at = w.adds r.base r.start r.lines r.at b;
        inside = inside_moved r.base r.start (more (more r.lines f) g) p q w.lists_stay w.nodes_stay (rw (more_seq r.lines f g) at r.inside);
      }

  pub writes_seq : (r : Place) (out' : List ℕ) → Writes f p q out mid → Writes g q r mid out' → Writes (seq f g) p r out out'
  writes_seq r out' a b =
      record {
        lists_stay = b.lists_stay ∙ a.lists_stay;
        nodes_stay = b.nodes_stay ∙ a.nodes_stay;
        adds = λ d k x h i.
            let m = a.adds d k x h (inside_first d k x p f g grows i) in
            rw (more_seq x f g) (b.adds d k (more x f) m (inside_moved d k (more (more x f) g) p q a.lists_stay a.nodes_stay (rw (more_seq x f g) at i)));
      }

pub writes_none : (p : Place) (out : List ℕ) → Writes none p p out out
writes_none p out =
    record { lists_stay = refl; nodes_stay = refl; adds = λ d k x h i. rw (append-nil x.lines) h }

-- the same writing
pub writes_as : (f g : Writing) → ((w : Written) → f w ≡ g w) → (p r : Place) (out out' : List ℕ) → Writes f p r out out' → Writes g p r out out'
writes_as f g e p r out out' h = subst (λ (z : Writing). Writes z p r out out') (fun_ext e) h

pub room_as : (f g : Writing) → ((w : Written) → f w ≡ g w) → (p : Place) (out : List ℕ) → Room f p out → Room g p out
room_as f g e p out h = subst (λ (z : Writing). Room z p out) (fun_ext e) h

-- ---- growing
pub growing_none : Growing none
growing_none w = (omega arith, omega arith)

pub growing_one : (l : Line) → Growing (one l)
growing_one l w = (omega arith, omega arith)

pub growing_numbered : (l : ℕ → Line) → Growing (numbered l)
growing_numbered l w = (omega arith, omega arith)

pub growing_typed : (c : Cty) → Growing (typed c)
growing_typed c w = (grows_args (emit_adds c w).grows, grows_types (emit_adds c w).grows)

pub growing_seq : (f g : Writing) → Growing f → Growing g → Growing (seq f g)
growing_seq f g a b w = (omega (arith, (a w).0, (b (f w).written).0), omega (arith, (a w).1, (b (f w).written).1))

-- ---- a line
abbrev pub next_line : Place → Place
next_line p = record { lists = p.lists; nodes = p.nodes; args = p.args; types = p.types; line = p.line + 1 }

pub line_room : (l : Line) (p : Place) (out : List ℕ) → Room (one l) p out → 32 * suc p.line ≤ length out
line_room l p out r =
    let n = at_length r.base r.start r.lines p out r.at (inside_now r.base r.start r.lines p (one l) (growing_one l) r.inside) in
    omega (arith, n, r.at.line_is, r.inside.all, length-append r.lines.lines (l ∷ []))

pub line_writes : (l : Line) (p : Place) (out out' : List ℕ) → length (encode 6 l) ≡ 32 → out' ≡ put_at 6 out p.line (encode 6 l) → Writes (one l) p (next_line p) out out'
line_writes l p out out' e o =
    record {
      lists_stay = refl;
      nodes_stay = refl;
      adds = λ d k x h i.
          let b = inside_now d k x p (one l) (growing_one l) i in
          let n = lines_length d k x p out h b in
          let s = length-append x.lines (l ∷ []) in
          let m : suc (k + length x.lines) ≡ k + suc (length x.lines) = omega arith in
          record {
            holds = o ∙ rw (h.holds, h.line_is, puts_last 6 d k x.lines l)
                (sym (laid_put p.lists p.nodes (puts 6 d k x.lines) x.written b.before_types (rw n (omega (arith, b.all, b.before_lines))) h.fives (k + length x.lines) (encode 6 l) (omega (arith, b.before_lines)) (rw (n, m) (omega (arith, i.all, s))) e));
            args_are = h.args_are;
            types_are = h.types_are;
            line_is = omega (arith, h.line_is, s);
            fives = h.fives;
            whole = every_append (λ m. length (encode 6 m) ≡ line_bytes 6) x.lines (l ∷ []) h.whole (e, tt);
          };
    }

-- with the number of the type that was written last
pub room_numbered : (l : ℕ → Line) (p : Place) (out : List ℕ) → Room (numbered l) p out → Room (one (l (p.types - 1))) p out
room_numbered l p out r =
    let e : last r.lines.written ≡ p.types - 1 = ap (λ (n : ℕ). n - 1) (sym r.at.types_are) in
    record { base = r.base; start = r.start; lines = r.lines; at = r.at; inside = rw e at r.inside }

pub writes_numbered : (l : ℕ → Line) (p r : Place) (out out' : List ℕ) → Writes (one (l (p.types - 1))) p r out out' → Writes (numbered l) p r out out'
writes_numbered l p r out out' w =
    record {
      lists_stay = w.lists_stay;
      nodes_stay = w.nodes_stay;
      adds = λ d k x h i.
          let e : last x.written ≡ p.types - 1 = ap (λ (n : ℕ). n - 1) (sym h.types_are) in
          rw e (w.adds d k x h (rw e at i));
    }

-- ---- a type
abbrev pub pen_of : Place → Pen
pen_of p = record { lists = p.lists; nodes = p.nodes; args = p.args; types = p.types; waiting = 0 }

-- the place after it
abbrev pub place_of : Place → Pen → Place
place_of p q = record { lists = p.lists; nodes = p.nodes; args = q.args; types = q.types; line = p.line }

pens_stay : (xs : List Node) (s : Sheet) → ((write_lines xs s).pen.lists ≡ s.pen.lists) × ((write_lines xs s).pen.nodes ≡ s.pen.nodes)
unfolding write_lines write_line moved
pens_stay [] s = (refl, refl)
pens_stay (x ∷ xs) s = pens_stay xs (write_line x s)

pub type_room : (c : Cty) (p : Place) (out stack : List ℕ) → Room (typed c) p out → size c ≤ length stack → pens.Room (post c) (pen_of p) out stack
type_room c p out stack r s =
    let w : Written = r.lines.written in
    let n = at_length r.base r.start r.lines p out r.at (inside_now r.base r.start r.lines p (typed c) (growing_typed c) r.inside) in
    let a = emit_args c w in
    let t = emit_types c w in
    let z = length-append r.lines.lines [] in
    record {
      args_room = omega (arith, n, a, r.at.args_are, r.inside.before_types, r.inside.before_lines, r.inside.all, z);
      types_room = omega (arith, n, t, r.at.types_are, r.inside.before_lines, r.inside.all, z);
      args_few = omega (arith, a, r.at.args_are, r.inside.args_few);
      types_few = omega (arith, t, r.at.types_are, r.inside.types_few);
      waits = omega (arith, length_post c);
    }

pub type_writes : (c : Cty) (p : Place) (q : Pen) (out out' st st' : List ℕ) → sheet q out' st' ≡ write_lines (post c) (sheet (pen_of p) out st) → Writes (typed c) p (place_of p q) out out'
type_writes c p q out out' st st' e =
    record {
      lists_stay = refl;
      nodes_stay = refl;
      adds = λ d k x h i.
          let b = inside_now d k x p (typed c) (growing_typed c) i in
          let n = lines_length d k x p out h b in
          let w : Written = x.written in
          let s : Sheet = sheet (pen_of p) out st in
          let z = length-append x.lines [] in
          let shows : Shows (puts 6 d k x.lines) w s = record { holds = h.holds; args_are = h.args_are; types_are = h.types_are; waits_are = refl; fives = h.fives } in
          let space : Space (puts 6 d k x.lines) w (pen_of p) (length (post c)) (count_args (post c)) =
          record { before = omega (arith, emit_args c w, i.before_types); inside = rw n (omega (arith, emit_types c w, i.before_lines, i.all)) } in
          let r = (shows_type (puts 6 d k x.lines) c w s shows space).0 in
          let y = pens_stay (post c) s in
          let o : Shows (puts 6 d k x.lines) (emit c w) (sheet q out' st') = rw e r in
          let l : q.lists ≡ p.lists = ap (λ (v : Sheet). v.pen.lists) e ∙ y.0 in
          let m : q.nodes ≡ p.nodes = ap (λ (v : Sheet). v.pen.nodes) e ∙ y.1 in
          record {
            holds = rw (append-nil x.lines, ← l, ← m) o.holds;
            args_are = o.args_are;
            types_are = o.types_are;
            line_is = rw (append-nil x.lines) h.line_is;
            fives = o.fives;
            whole = rw (append-nil x.lines) h.whole;
          };
    }

-- ---- the words of a type in the scratch
module _ (ls : List Line) (t u f : List ℕ) (y d : ℕ) (scratch : List ℕ) (ready : Typed ls t u f y d (length scratch)) (r : ℕ) (res : List ℕ)
    (put : Put (words ls u f d false y) scratch 0 r res) where
  abbrev ws : List ℕ
  ws = words ls u f d false y

  count_words : length ws ≡ size (left_type ls d y)
  count_words = sym (length-map ws node_of) ∙ (ap length ready.nodes ∙ length_post (left_type ls d y))

  pub words_fit : r ≤ length scratch
  words_fit = go (leb r (length scratch)) refl
    where
      go : (c : Bool) → leb r (length scratch) ≡ c → r ≤ length scratch
      go true e = leb-true r (length scratch) e
      go false e = let l : length scratch < r = leb-false r (length scratch) e in absurd (omega (arith, put.full l, count_words, ready.small))

  pub nodes_taken : map node_of (take (r - 0) (drop 0 res)) ≡ post (left_type ls d y)
  nodes_taken =
      let x = put.room words_fit in
      let e : r - 0 ≡ r = omega arith in
      let m : take (r - 0) (drop 0 res) ≡ ws = rw (e, x.1) (take_at ws (drop r scratch) r (omega (arith, x.0))) in
      ap (λ (l : List ℕ). map node_of l) m ∙ ready.nodes
