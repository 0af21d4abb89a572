-- Lines put into cells one after the other. Assumes nothing.
use Rattle.std.specs.Prelude.{◌≡◌, refl, List, [], ◌∷◌, ◌++◌, ℕ, suc, ◌+◌, ◌*◌, ◌-◌, ◌≤◌, ◌<◌, length, take, drop, set}
use Rattle.std.proofs.Common.{ap, ap₂, sym, ◌∙◌, append_assoc, arith, length-append, take-append-drop, take_at, drop-drop, length-take-le}
use Rattle.std.proofs.Math.Seq.{drop-append-add, length-sets}
use Rattle.std.proofs.lemmas.List.Edits.{sets, sets-eq}
use Rattle.sheet.specs.Line.{Line, row}
use Rattle.walk_cells.specs.Cells.{cells}
use Rattle.walk_cells.specs.CellsLaws.{cells_append, length_cells}
use Rattle.pattern_emit.specs.Emit.{Room, Put}

-- nothing
pub put_none : (out : List ℕ) (at : ℕ) → Put [] out at at out
unfolding cells
put_none out at = record { next = omega arith; long = refl; stands = sym (take-append-drop (6 * at) out) }

-- a line
abbrev stored : List ℕ → ℕ → ℕ → ℕ → ℕ → ℕ → ℕ → ℕ → List ℕ
stored out i x a b c d e = set (set (set (set (set (set out i x) (i + 1) a) (i + 2) b) (i + 3) c) (i + 4) d) (i + 5) e

in_order : (out : List ℕ) (i x a b c d e : ℕ) → stored out i x a b c d e ≡ sets out i (x ∷ a ∷ b ∷ c ∷ d ∷ e ∷ [])
in_order out i x a b c d e =
    let n₁ : i + 1 ≡ suc i = omega arith in
    let n₂ : i + 2 ≡ suc (suc i) = omega arith in
    let n₃ : i + 3 ≡ suc (suc (suc i)) = omega arith in
    let n₄ : i + 4 ≡ suc (suc (suc (suc i))) = omega arith in
    let n₅ : i + 5 ≡ suc (suc (suc (suc (suc i)))) = omega arith in
    rw (n₁, n₂, n₃, n₄, n₅)

pub put_one : (x a b c d e : ℕ) (out : List ℕ) (at : ℕ) → Room (row x (a ∷ b ∷ c ∷ d ∷ e ∷ []) ∷ []) out at →
    Put (row x (a ∷ b ∷ c ∷ d ∷ e ∷ []) ∷ []) out at (at + 1) (set (set (set (set (set (set out (6 * at) x) (6 * at + 1) a) (6 * at + 2) b) (6 * at + 3) c) (6 * at + 4) d) (6 * at + 5) e)
unfolding cells
put_one x a b c d e out at h =
    let n : 6 * at + 6 ≡ 6 * (at + 1) = omega arith in
    let o : stored out (6 * at) x a b c d e ≡ sets out (6 * at) (x ∷ a ∷ b ∷ c ∷ d ∷ e ∷ []) = in_order out (6 * at) x a b c d e in
    record {
      next = refl;
      long = ap length o ∙ length-sets out (6 * at) (x ∷ a ∷ b ∷ c ∷ d ∷ e ∷ []);
      stands =
          o
          ∙ (sets-eq (x ∷ a ∷ b ∷ c ∷ d ∷ e ∷ []) out (6 * at) (omega (arith, h.enough))
          ∙ (append_assoc (take (6 * at) out) (x ∷ a ∷ b ∷ c ∷ d ∷ e ∷ []) (drop (6 * at + 6) out) ∙ ap (λ (m : ℕ). take (6 * at) out ++ (x ∷ a ∷ b ∷ c ∷ d ∷ e ∷ drop m out)) n));
    }

-- the cells of what is put, and of what follows
past : (out i : List ℕ) (j k : ℕ) → length i ≡ j → j ≤ k → drop k (i ++ drop j out) ≡ drop k out
past out i j k e g =
    let f : k ≡ length i + (k - j) = omega arith in
    let d : j + (k - j) ≡ k = omega arith in
    ap (λ (n : ℕ). drop n (i ++ drop j out)) f ∙ (drop-append-add i (drop j out) (k - j) ∙ (drop-drop (k - j) j out ∙ ap (λ (n : ℕ). drop n out) d))

-- Lines xs from line `at` on, and then lines that may depend on where they begin.
module _ (xs : List Line) (g : ℕ → List Line) (ls : List Line) (out : List ℕ) (at : ℕ) (split : ls ≡ xs ++ g (at + length xs)) (room : Room ls out at) where
  both_length : length ls ≡ length xs + length (g (at + length xs))
  both_length = ap length split ∙ length-append xs (g (at + length xs))

  pub room_first : Room xs out at
  room_first = record { enough = omega (arith, both_length, room.enough); narrow = room.narrow }

  module _ (r : ℕ) (mid : List ℕ) (put : Put xs out at r mid) where
    pub room_rest : Room (g r) mid r
    room_rest =
        rw put.next (record { enough = rw put.long (omega (arith, both_length, room.enough)); narrow = rw put.long room.narrow })

    pub room_next : r < 4294967296
    room_next = omega (arith, room_rest.enough, room_rest.narrow)

    pub put_both : (s : ℕ) (res : List ℕ) → Put (g r) mid r s res → Put ls out at s res
    put_both s res rest = rw split (go (rw put.next at rest))
      where
        ys : List Line
        ys = g (at + length xs)

        a : length (take (6 * at) out) ≡ 6 * at
        a = length-take-le (6 * at) out (omega (arith, room.enough))

        k : length (take (6 * at) out ++ cells xs) ≡ 6 * r
        k = length-append (take (6 * at) out) (cells xs) ∙ omega (arith, a, length_cells xs, put.next)

        n : mid ≡ (take (6 * at) out ++ cells xs) ++ drop (6 * r) out
        n = put.stands ∙ sym (append_assoc (take (6 * at) out) (cells xs) (drop (6 * r) out))

        go : Put ys mid (at + length xs) s res → Put (xs ++ ys) out at s res
        go y =
            record {
              next = y.next ∙ omega (arith, length-append xs ys);
              long = y.long ∙ put.long;
              stands =
                  y.stands
                  ∙ (ap₂ (λ (i j : List ℕ). i ++ (cells ys ++ j)) (ap (λ (m : ℕ). take (6 * m) mid) (sym put.next) ∙ (ap (take (6 * r)) n ∙ take_at (take (6 * at) out ++ cells xs) (drop (6 * r) out) (6 * r) k)) (ap (drop (6 * s)) n ∙ past out (take (6 * at) out ++ cells xs) (6 * r) (6 * s) k (omega (arith, y.next, put.next)))
                  ∙ (append_assoc (take (6 * at) out) (cells xs) (cells ys ++ drop (6 * s) out)
                  ∙ ap (λ (i : List ℕ). take (6 * at) out ++ i) (sym (append_assoc (cells xs) (cells ys) (drop (6 * s) out)) ∙ ap (λ (i : List ℕ). i ++ drop (6 * s) out) (sym (cells_append xs ys)))));
            }

-- three lists one after the other
module _ (xs ys zs ls : List Line) (out : List ℕ) (at : ℕ) (split : ls ≡ xs ++ (ys ++ zs)) (room : Room ls out at) where
  pub three_first : Room xs out at
  three_first = room_first xs (λ r. ys ++ zs) ls out at split room

  module _ (r : ℕ) (mid : List ℕ) (put : Put xs out at r mid) where
    rest : Room (ys ++ zs) mid r
    rest = room_rest xs (λ r. ys ++ zs) ls out at split room r mid put

    pub three_second : Room ys mid r
    three_second = room_first ys (λ r. zs) (ys ++ zs) mid r refl rest

    module _ (s : ℕ) (end : List ℕ) (more : Put ys mid r s end) where
      pub three_third : Room zs end s
      three_third = room_rest ys (λ r. zs) (ys ++ zs) mid r refl rest s end more

      pub three_put : (t : ℕ) (res : List ℕ) → Put zs end s t res → Put ls out at t res
      three_put t res last =
          put_both xs (λ r. ys ++ zs) ls out at split room r mid put t res (put_both ys (λ r. zs) (ys ++ zs) mid r refl rest s end more t res last)

-- what is put is the same as other lines
pub put_same : (ls ms : List Line) (out : List ℕ) (at r : ℕ) (res : List ℕ) → ls ≡ ms → Put ms out at r res → Put ls out at r res
put_same ls ms out at r res e p = rw e p

pub room_same : (ls ms : List Line) (out : List ℕ) (at : ℕ) → ls ≡ ms → Room ls out at → Room ms out at
room_same ls ms out at e p = rw (← e) p
