-- The lines whose texts have one key, from the last to the first. Assumes nothing.
use Rattle.std.specs.Prelude.{◌≡◌, refl, List, [], ◌∷◌, Bool, true, false, ◌&&◌, ℕ, suc, ◌+◌, ◌≤◌, ◌<◌, eqb, ltb, length, get_or, set, replicate}
use Rattle.std.proofs.Common.{ap, sym, ◌∙◌, arith, length-set, length-take, length-drop, get_or-set_same, get_or-set_other}
use Rattle.std.proofs.lemmas.List.{get_or-replicate}
use borrow.Author.Tests.{eqb-true, eqb-false, lt-ltb, ltb-true, ltb-false}
use Rattle.number_words.specs.Word.{key_of}
use Rattle.sheet.specs.Format.{base}
use Rattle.sheet.specs.Sheet.{first, count, lines}
use Rattle.sheet.proofs.FirstLaws.{first_le_at}
use Rattle.sheet.proofs.SheetLaws.{line_at_length, length_lines}
use Rattle.meaning.specs.Program.{name_line}
use Rattle.meaning.specs.Rows.{equal, count_of}
use Rattle.row4_limits.specs.Limits.{counts_of}
use Rattle.row4_limits.specs.LimitsLaws.{counts_kept}
use Rattle.row6_spellings.specs.Spellings.{Ranged, text_at, spelled_before}
use Rattle.row6_spellings.specs.SomeLaws.{some_none}

-- texts that are equal byte by byte are one list
equal_true : (a b : List ℕ) → equal a b ≡ true → a ≡ b
unfolding equal
equal_true [] [] h = refl
equal_true [] (y ∷ b) h = let z : ◌≡◌ {A = ℕ} 0 1 = cc in absurd (omega arith)
equal_true (x ∷ a) [] h = let z : ◌≡◌ {A = ℕ} 0 1 = cc in absurd (omega arith)
equal_true (x ∷ a) (y ∷ b) h = go (eqb x y) refl h (equal_true a b)
  where
    go : (c : Bool) → eqb x y ≡ c → c && equal a b ≡ true → (equal a b ≡ true → a ≡ b) → x ∷ a ≡ y ∷ b
    go true e k r = let p : x ≡ y = eqb-true x y e in let q : a ≡ b = r k in cc
    go false e k r = let z : ◌≡◌ {A = ℕ} 0 1 = cc in absurd (omega arith)

-- line c - 1 is the last before line n whose text has key k; c is 0 where there is none
pub record Last (b : List ℕ) (k n c : ℕ) : Type 0 where
  pub within : c ≤ n
  pub none : (j : ℕ) → c ≤ j → j < n → key_of (text_at 6 b j) ≡ k → ⊥
  pub keyed : (d : ℕ) → c ≡ suc d → key_of (text_at 6 b d) ≡ k

-- for each key, the last line before line i
pub record Lasts (b : List ℕ) (i : ℕ) (lasts : List ℕ) : Type 0 where
  pub size : length lasts ≡ 1000
  pub held : (k : ℕ) → k < 1000 → Last b k i (get_or lasts k 0)

-- for each line before line i, the last one before it of its key
pub record Befores (b : List ℕ) (i : ℕ) (before : List ℕ) : Type 0 where
  pub size : length before ≡ 256
  pub held : (m : ℕ) → m < i → Last b (key_of (text_at 6 b m)) m (get_or before m 0)

module _ (b : List ℕ) where
  -- ---- before the first line
  pub lasts_none : Lasts b 0 (replicate 1000 0)
  lasts_none = record { size = refl; held = λ k h. rw (get_or-replicate {A = ℕ} 1000 k 0 0 h) (record { within = omega arith; none = λ j l m e. absurd (omega arith); keyed = λ d e. absurd (omega arith) }) }

  pub befores_none : Befores b 0 (replicate 256 0)
  befores_none = record { size = refl; held = λ m h. absurd (omega arith) }

  -- ---- one line more
  module _ (i : ℕ) where
    pub lasts_more : (lasts : List ℕ) (k : ℕ) → k < 1000 → k ≡ key_of (text_at 6 b i) → Lasts b i lasts → Lasts b (i + 1) (set lasts k (i + 1))
    lasts_more lasts k h e g = record { size = simp length-set g.size; held = λ x l. go x l (eqb x k) refl }
      where
        go : (x : ℕ) → x < 1000 → (c : Bool) → eqb x k ≡ c → Last b x (i + 1) (get_or (set lasts k (i + 1)) x 0)
        go x l true q =
            let z : x ≡ k = eqb-true x k q in
            rw (z, get_or-set_same lasts k (i + 1) 0 (omega (arith, g.size)))
            (record { within = omega arith; none = λ j m n f. absurd (omega arith); keyed = λ d m. let y : d ≡ i = omega arith in rw y (sym e) })
        go x l false q =
            let o : Last b x i (get_or lasts x 0) = g.held x l in
            rw (get_or-set_other lasts k x (i + 1) 0 (eqb-false x k q))
            (record { within = omega (arith, o.within); none = λ j m n f. other o j m n f (ltb j i) refl; keyed = o.keyed })
          where
            other : Last b x i (get_or lasts x 0) → (j : ℕ) → get_or lasts x 0 ≤ j → j < i + 1 → key_of (text_at 6 b j) ≡ x → (c : Bool) → ltb j i ≡ c → ⊥
            other o j m n f true r = o.none j m (ltb-true j i r) f
            other o j m n f false r = let y : j ≡ i = omega (arith, ltb-false j i r) in eqb-false x k q (sym f ∙ ap (λ (u : ℕ). key_of (text_at 6 b u)) y ∙ sym e)

    pub befores_more : (before : List ℕ) (c : ℕ) → i < 256 → Last b (key_of (text_at 6 b i)) i c → Befores b i before → Befores b (i + 1) (set before i c)
    befores_more before c h o g = record { size = simp length-set g.size; held = λ m l. go m l (eqb m i) refl }
      where
        go : (m : ℕ) → m < i + 1 → (d : Bool) → eqb m i ≡ d → Last b (key_of (text_at 6 b m)) m (get_or (set before i c) m 0)
        go m l true q = let z : m ≡ i = eqb-true m i q in rw (z, get_or-set_same before i c 0 (omega (arith, g.size))) o
        go m l false q = rw (get_or-set_other before i m c 0 (eqb-false m i q)) (g.held m (omega (arith, eqb-false m i q)))

    -- ---- for a loop over the lines of the key of line i, at line c - 1
    -- none from line c on has its text
    pub record Clear (c : ℕ) : Type 0 where
      pub within : c ≤ i
      pub none : (j : ℕ) → c ≤ j → j < i → equal (text_at 6 b j) (text_at 6 b i) ≡ false
      pub keyed : (d : ℕ) → c ≡ suc d → key_of (text_at 6 b d) ≡ key_of (text_at 6 b i)

    differs : (j : ℕ) → (key_of (text_at 6 b j) ≡ key_of (text_at 6 b i) → ⊥) → equal (text_at 6 b j) (text_at 6 b i) ≡ false
    differs j h = go (equal (text_at 6 b j) (text_at 6 b i)) refl
      where
        go : (c : Bool) → equal (text_at 6 b j) (text_at 6 b i) ≡ c → c ≡ false
        go true e = absurd (h (ap key_of (equal_true (text_at 6 b j) (text_at 6 b i) e)))
        go false e = refl

    pub clear_last : (c : ℕ) → Last b (key_of (text_at 6 b i)) i c → Clear c
    clear_last c o = record { within = o.within; none = λ j l m. differs j (o.none j l m); keyed = o.keyed }

    pub clear_next : (c d e : ℕ) → c ≡ suc d → equal (text_at 6 b d) (text_at 6 b i) ≡ false → Last b (key_of (text_at 6 b d)) d e → Clear c → Clear e
    clear_next c d e z f o g = record { within = omega (arith, o.within, g.within); none = λ j l m. go j l m (ltb j d) refl (eqb j d) refl; keyed = λ x y. o.keyed x y ∙ g.keyed d z }
      where
        go : (j : ℕ) → e ≤ j → j < i → (p : Bool) → ltb j d ≡ p → (q : Bool) → eqb j d ≡ q → equal (text_at 6 b j) (text_at 6 b i) ≡ false
        go j l m true p q r = differs j (λ y. o.none j l (ltb-true j d p) (y ∙ sym (g.keyed d z)))
        go j l m false p true r = rw (eqb-true j d r) f
        go j l m false p false r = g.none j (omega (arith, ltb-false j d p, eqb-false j d r)) m

    pub clear_none : (c : ℕ) → c ≡ 0 → Clear c → spelled_before 6 b i ≡ false
    unfolding spelled_before
    clear_none c e g = some_none (λ j. equal (text_at 6 b j) (text_at 6 b i)) i (λ j l. g.none j (omega arith) l)

    pub clear_found : (d : ℕ) → d < i → equal (text_at 6 b d) (text_at 6 b i) ≡ true → spelled_before 6 b i ≡ true
    unfolding spelled_before
    clear_found d l t =
        lt-ltb (first (λ j. equal (text_at 6 b j) (text_at 6 b i)) i) i
        (omega (arith, first_le_at (λ j. equal (text_at 6 b j) (text_at 6 b i)) i d l t))

pub text_at_length : (b : List ℕ) (i : ℕ) → i < count 6 b → length (text_at 6 b i) ≡ 24
unfolding text_at
text_at_length b i h = simp (length-take, length-drop, line_at_length 6 b i h) (omega arith)

pub names_few : (b : List ℕ) → Ranged b → count_of name_line (lines 6 b) ≤ 256
unfolding counts_of
names_few b r = (counts_kept base (lines 6 b) (rw (length_lines 6 b) r.in_limits)).names
