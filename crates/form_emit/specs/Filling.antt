-- The word of a type without parts; a word of a normal form, and the Y line of its argument. Assumes nothing.
use Rattle.std.specs.Prelude.{◌≡◌, refl, List, [], ◌∷◌, Bool, true, false, ℕ, ◌≤◌, ◌<◌, eqb, ltb}
use Rattle.std.proofs.Common.{ap, ap₂, ◌∙◌, arith, eqb-true, eq-eqb, ne_eqb, lt-ltb, le-ltb}
use Rattle.std.proofs.Math.Path.{sym}
use Rattle.sheet.specs.Line.{Line, number}
use Rattle.model.specs.Decl.{member}
use Rattle.resolve_kids.specs.Nodes.{y_line, kind_of, kids_of, kid_of}
use Rattle.resolve_kids.specs.Params.{params_of}
use Rattle.form_laws.specs.Nodes.{node}
use Rattle.form_laws.specs.Forms.{variable}
use Rattle.form_node_words.specs.Own.{y_node, label}
use Rattle.form_nodes.specs.Words.{word, node_of}
use Rattle.form_emit.specs.Emit.{step, words, kid_words}

-- a variable or a node of its own
unfoldable pub leaf : List Line → ℕ → Bool → ℕ → ℕ
leaf ls d places y =
    elim (eqb (kind_of ls y) 3) [
      | true ↦ word (variable (member (number (y_line ls y) 1) (params_of ls d)) (label places (params_of ls d) (number (y_line ls y) 1)))
      | false ↦ word (y_node ls y)
    ]

-- p is the Y line of the argument that Y line y has for the word w, and y or more where w is no parameter or has no argument
pub record Argument (ls : List Line) (y w p : ℕ) : Type 0 where
  pub given : p < y → ((node_of w).kind ≡ 3) × ((node_of w).own < kids_of ls y) × (p ≡ kid_of ls y (node_of w).own)
  pub none : y ≤ p → (node_of w).kind ≡ 3 → kids_of ls y ≤ (node_of w).own

-- the word that is put where there is no argument
unfoldable pub left : ℕ → ℕ
left w = elim (eqb (node_of w).kind 3) [ true ↦ word (node 0 0 0) | false ↦ word (node_of w) ]

left_is : (w : ℕ) (b : Bool) → eqb (node_of w).kind 3 ≡ b → elim b [ true ↦ word (node 0 0 0) | false ↦ word (node_of w) ] ≡ left w
unfolding left
left_is w b e = sym (ap (λ (x : Bool). elim x [ true ↦ word (node 0 0 0) | false ↦ word (node_of w) ]) e)

pub left_3 : (w k v : ℕ) → k ≡ (node_of w).kind → k ≡ 3 → v ≡ word (node 0 0 0) → v ≡ left w
left_3 w k v ek k3 e = e ∙ left_is w true (eq-eqb (node_of w).kind 3 (sym ek ∙ k3))

pub left_other : (w k c d v : ℕ) → k ≡ (node_of w).kind → c ≡ (node_of w).count → d ≡ (node_of w).own → (k ≡ 3 → ⊥) → v ≡ word (node k c d) → v ≡ left w
left_other w k c d v ek ec ed n e =
    let same : node k c d ≡ node_of w = rw (ek, ec, ed) in
    e ∙ (ap word same ∙ left_is w false (ne_eqb (node_of w).kind 3 (λ z. n (ek ∙ z))))

-- the Y line of the argument is below
pub argument_given : (ls : List Line) (y w k i n p : ℕ) → k ≡ (node_of w).kind → k ≡ 3 → i ≡ (node_of w).own → n ≡ kids_of ls y → i < n → p ≡ kid_of ls y i → p < y → Argument ls y w p
argument_given ls y w k i n p ek k3 ei en h ep l =
    record { given = λ q. (sym ek ∙ k3, omega (arith, ei, en), ep ∙ ap (kid_of ls y) ei); none = λ q. absurd (omega arith) }

-- by the numbers that are read
pub leaf_var : (ls : List Line) (d : ℕ) (places : Bool) (y v w : ℕ) → kind_of ls y ≡ 3 → v ≡ number (y_line ls y) 1 → w ≡ word (variable (member v (params_of ls d)) (label places (params_of ls d) v)) → w ≡ leaf ls d places y
unfolding leaf
leaf_var ls d places y v w k ev ew =
    ew ∙ (ap (λ (i : ℕ). word (variable (member i (params_of ls d)) (label places (params_of ls d) i))) ev
    ∙ sym (ap (λ (b : Bool). elim b [ true ↦ word (variable (member (number (y_line ls y) 1) (params_of ls d)) (label places (params_of ls d) (number (y_line ls y) 1))) | false ↦ word (y_node ls y) ]) (eq-eqb (kind_of ls y) 3 k)))

pub leaf_own : (ls : List Line) (d : ℕ) (places : Bool) (y w : ℕ) → (kind_of ls y ≡ 3 → ⊥) → w ≡ word (y_node ls y) → w ≡ leaf ls d places y
unfolding leaf
leaf_own ls d places y w k ew =
    ew ∙ sym (ap (λ (b : Bool). elim b [ true ↦ word (variable (member (number (y_line ls y) 1) (params_of ls d)) (label places (params_of ls d) (number (y_line ls y) 1))) | false ↦ word (y_node ls y) ]) (ne_eqb (kind_of ls y) 3 k))

module _ (ls : List Line) (u f : List ℕ) (d : ℕ) (places : Bool) (y w p : ℕ) (a : Argument ls y w p) where
  abbrev g : ℕ → List ℕ
  g = kid_words ls u f d places y

  abbrev arms : Bool → Bool → List ℕ
  arms b c = elim b [ true ↦ elim c [ true ↦ g (node_of w).own | false ↦ word (node 0 0 0) ∷ [] ] | false ↦ word (node_of w) ∷ [] ]

  step_arms : (b c : Bool) → eqb (node_of w).kind 3 ≡ b → ltb (node_of w).own (kids_of ls y) ≡ c → arms b c ≡ step g (kids_of ls y) w
  unfolding step
  step_arms b c e f = sym (ap₂ arms e f)

  -- the argument
  pub step_given : p < y → words ls u f d places p ≡ step g (kids_of ls y) w
  step_given h =
      let x = a.given h in
      ap (words ls u f d places) x.2 ∙ step_arms true true (eq-eqb (node_of w).kind 3 x.0) (lt-ltb (node_of w).own (kids_of ls y) x.1)

  -- none
  pub step_left : y ≤ p → left w ∷ [] ≡ step g (kids_of ls y) w
  step_left h = go (eqb (node_of w).kind 3) refl
    where
      go : (b : Bool) → eqb (node_of w).kind 3 ≡ b → left w ∷ [] ≡ step g (kids_of ls y) w
      go true e =
          ap (λ (x : ℕ). x ∷ []) (sym (left_is w true e)) ∙ step_arms true false e (le-ltb (node_of w).own (kids_of ls y) (a.none h (eqb-true (node_of w).kind 3 e)))
      go false e = ap (λ (x : ℕ). x ∷ []) (sym (left_is w false e)) ∙ step_arms false (ltb (node_of w).own (kids_of ls y)) e refl
