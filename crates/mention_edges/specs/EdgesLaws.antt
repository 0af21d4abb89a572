-- The rows of steps, and what is found in them. Assumes nothing.
use Rattle.std.specs.Prelude.{◌≡◌, refl, ◌↔◌, Bool, true, false, ◌&&◌, ltb, length, get_or}
use Rattle.std.proofs.Common.{◌∙◌, arith}
use mathlib.Core.List.Memᴰ
use mathlib.Core.List.{List, [], Memᴰ}
use Prim.Native.Nat.{ℕ, ◌+◌, ◌*◌, ◌/◌, ◌≤◌, ◌<◌}
use Rattle.std.proofs.Math.Decide.{ℕ_discrete}
use borrow.Author.Tests.{lt-ltb, le-ltb, ltb-true}
use Rattle.number_columns.specs.Column.{pick}
use Rattle.sheet.proofs.ListLaws.{false_true}
use Rattle.sheet.specs.Line.{Line}
use Rattle.model.specs.Cty.{TUnit}
use Rattle.model.specs.Layout.{names_in}
use Rattle.meaning.specs.Program.{type_line, trees, program}
use Rattle.meaning.specs.Rows.{count_of}
use Rattle.set_bits.specs.Bits.{has, cleared, united}
use Rattle.set_bits.specs.BitsLaws.{row_before, has_words, length_cleared, cleared_far, cleared_none, length_united, united_far, united_has}
use Rattle.mention_types.specs.Mentions.{mentions, Mentioned}
use Rattle.mention_types.specs.NamesLaws.{member_iff}
use Rattle.set_search.specs.SearchLaws.{Holds}
use Rattle.mention_edges.specs.Edges.{edge, Edge, Edges}

module _ (words types : ℕ) (sets : List ℕ) (body d : ℕ) (s : List ℕ) (h : d * words + words ≤ length s) where
  -- no body
  pub edge_none : types ≤ body → Edge words types sets body d s (cleared s (d * words) words)
  unfolding edge
  edge_none l =
      record {
        long = length_cleared s (d * words) words;
        below = λ i j. cleared_far s (d * words) words i (λ k. absurd (omega arith));
        row = λ m j. cleared_none s (d * words) words h m j ∙ rw (le-ltb body types l);
      }

  -- a body
  pub edge_some : body < types → Edge words types sets body d s (united (cleared s (d * words) words) (d * words) sets (body * words) words)
  unfolding edge
  edge_some l =
      let c : List ℕ = cleared s (d * words) words in
      record {
        long = length_united c (d * words) sets (body * words) words ∙ length_cleared s (d * words) words;
        below = λ i j. united_far c (d * words) sets (body * words) words i (λ k. absurd (omega arith)) ∙ cleared_far s (d * words) words i (λ k. absurd (omega arith));
        row = λ m j. united_has c (d * words) sets (body * words) words (rw (length_cleared s (d * words) words) h) m j ∙ rw (cleared_none s (d * words) words h m j, lt-ltb body types l);
      }

-- one declaration more
pub edges_more : (words types : ℕ) (sets bodies : List ℕ) (d : ℕ) (s t u : List ℕ) (body : ℕ)
    → body ≡ get_or bodies d 0
    → Edges words types sets bodies d s t
    → Edge words types sets body d t u
    → Edges words types sets bodies (d + 1) s u
edges_more words types sets bodies d s t u body q r e =
    record { long = e.long ∙ r.long; rows = λ c m l h. go c m l h (ℕ_discrete c d) }
  where
    go : (c m : ℕ) → c < d + 1 → m < 64 * words → Dec (c ≡ d) → has u (c * words) m ≡ edge words types sets (get_or bodies c 0) m
    go c m l h (yes z) = rw (z, ← q) (e.row m h)
    go c m l h (no z) =
        let k : c < d = omega arith in
        has_words t u (c * words) m (e.below (c * words + m / 64) (omega (arith, row_before c d words k))) ∙ r.rows c m k h

-- ---- A search goes by `next` where each declaration's steps are the names in its body.
pub record Bodies (ls : List Line) (bodies : List ℕ) (next : ℕ → List ℕ) (n : ℕ) : Type 0 where
  pub within : (a b : ℕ) → Memᴰ b (next a) → b < n
  pub body : (d : ℕ) → d < n → next d ≡ pick (ltb (get_or bodies d 0) (count_of type_line ls)) (names_in (program ls) (get_or (trees ls) (get_or bodies d 0) TUnit)) []

pub edges_hold : (ls : List Line) (words : ℕ) (sets bodies s t : List ℕ) (next : ℕ → List ℕ) (n : ℕ)
    → words ≤ 1024
    → n ≤ 64 * words
    → n * words ≤ length s
    → Mentioned ls words sets (count_of type_line ls)
    → Edges words (count_of type_line ls) sets bodies n s t
    → Bodies ls bodies next n
    → Holds next n words t
unfolding edge mentions
edges_hold ls words sets bodies s t next n k w l r e q =
    record {
      limit = k;
      wide = w;
      long = rw e.long l;
      within = q.within;
      row = λ a m h j. rw (e.rows a m h j, q.body a h) (go (get_or bodies a 0) m j (ltb (get_or bodies a 0) (count_of type_line ls)) refl);
    }
  where
    go : (y m : ℕ) → m < 64 * words → (c : Bool) → ltb y (count_of type_line ls) ≡ c
        → ((c && has sets (y * words) m) ≡ true) ↔ Memᴰ m (pick c (names_in (program ls) (get_or (trees ls) y TUnit)) [])
    go y m j true z = rw (r.right y m (ltb-true y (count_of type_line ls) z) j) (member_iff m (names_in (program ls) (get_or (trees ls) y TUnit)))
    go y m j false z = (λ x. false_true x, λ x. absurd (Memᴰ.not-nil x))
