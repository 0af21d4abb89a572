-- The left sheet is its N, A, Y and declaration lines, one run behind the other. Assumes nothing.
use Rattle.std.specs.Prelude.{◌≡◌, true, false, get_or}
use Rattle.std.proofs.Math.Path.{refl, ap, ap₂}
use Rattle.std.proofs.Common.{sym, ◌∙◌, eq-eqb, take_all, take_at, drop-drop}
use mathlib.Core.List.{List, [], ◌∷◌, ◌++◌, map, append_assoc}
use Prim.Native.Nat.{ℕ, zero, suc, ◌+◌, ◌*◌, ◌-◌, ◌≤◌, ◌<◌}
use native.Mathlib.Omega.{arith}
use Rattle.std.proofs.Math.Numerals.{add-one}
use Rattle.std.proofs.Math.ListN.{length, take, drop, length-append}
use Rattle.std.proofs.lemmas.List.{length-map}
use Rattle.std.proofs.Math.Seq.{take-suc, take-add, drop-append-add, length-take-le}
use Rattle.sheet.specs.Format.{base, line_bytes}
use Rattle.sheet.specs.Line.{Line, row, bad, letter, is_bad, encode}
use Rattle.sheet.proofs.LineLaws.{Fits, row_length}
use Rattle.sheet.proofs.ListLaws.{Every, every_map}
use Rattle.sheet.proofs.FirstLaws.{none_first}
use Rattle.sheet.specs.Sheet.{lines, line, line_at, count, encodes, row2}
use Rattle.sheet.proofs.SheetLaws.{fit_lines, get_or_lines, length_lines, encode_line, within_count}
use Rattle.sheet.specs.Output.{put_at, puts}
use Rattle.sheet.proofs.OutputLaws.{Whole, puts_all}
use Rattle.model.specs.Decl.{Dtype}
use Rattle.model.specs.Run.{run, left_program}
use Rattle.meaning.specs.Program.{name_line, type_line, is, select, program}
use Rattle.meaning.specs.Output.{Lines, program_lines, left_lines}
use Rattle.meaning_laws.specs.Output.{nothing, program_adds, Sized, fits_sized, encode_sized, every_select, left_sized, left_bytes}
use Rattle.answer.specs.Answer.{left_sheet, after}
use Rattle.rows_header.specs.OrderLaws.{name_letter, name_before, count_of_le}
use Rattle.table_access.specs.OfSheet.{OfSheet, program_same, sheet_ordered}
use Rattle.table_access.specs.Tables.{lines_in}
use Rattle.table_declared.specs.LineLaws.{nth_at}
use Rattle.left_emitter.specs.Lines.{arg_row}
use Rattle.left_emitter.specs.LinesLaws.{puts_last, length_puts, args_whole}
use Rattle.left_emitter.specs.LaidLaws.{laid, puts_puts, puts_append}
use Rattle.left_laws.specs.Lefts.{left_written}
use Rattle.left_places.specs.declared.Place.{Place}
use Rattle.left_places.specs.Places.{more, At, Inside, Room, Writes}

-- nothing is written
abbrev no_lines : Lines
no_lines = record { written = nothing; lines = [] }

-- ---- N lines
module _ (b t : List ℕ) (of : OfSheet b t) where
  good : (i : ℕ) → i < count 6 b → is_bad (line 6 b i) ≡ false
  unfolding row2
  good = none_first (λ i. is_bad (line 6 b i)) (count 6 b) of.no_bad

  abbrev names : List Line
  names = select name_line (lines 6 b)

  name_inside : (i : ℕ) → i < length names → i < count 6 b
  name_inside i h = omega (arith, count_of_le name_line (lines 6 b), length_lines 6 b)

  -- N line i is line i of the sheet
  name_line_at : (i : ℕ) → i < length names → get_or names i bad ≡ line 6 b i
  name_line_at i h =
      let o = sheet_ordered b t of in
      let k : i < length (lines 6 b) = omega (arith, count_of_le name_line (lines 6 b)) in
      let l : is name_line (get_or (lines 6 b) i bad) ≡ true = eq-eqb (letter (get_or (lines 6 b) i bad)) name_line (name_letter (lines 6 b) o i h) in
      let e = name_before (lines 6 b) o i k l in
      ap (λ (j : ℕ). get_or names j bad) (sym e) ∙ ((nth_at name_line (lines 6 b) i k l).1 ∙ get_or_lines 6 b i)

  name_bytes : (i : ℕ) → i < length names → 32 * suc i ≤ length b
  name_bytes i h = within_count 6 b i (name_inside i h)

  -- one N line more
  names_more : (old out out' q : List ℕ) (i a e : ℕ) → i < length names → a ≡ i * 32 → e ≡ a + 32 → out ≡ puts 6 old 0 (take i names) → q ≡ take (e - a) (drop a b) → out' ≡ put_at 6 out i q
      → out' ≡ puts 6 old 0 (take (i + 1) names)
  unfolding line_at
  names_more old out out' q i a e h ea ee o eq p =
      let x : encode 6 (get_or names i bad) ≡ line_at 6 b i = ap (encode 6) (name_line_at i h) ∙ encode_line 6 b i (name_inside i h) (good i (name_inside i h)) in
      let m : e - a ≡ 32 = omega arith in
      let n : a ≡ 32 * i = omega arith in
      let y : q ≡ encode 6 (get_or names i bad) = eq ∙ (rw (m, n) (sym x)) in
      let z : 0 + length (take i names) ≡ i = omega (arith, length-take-le i names (omega arith)) in
      p ∙ (rw (o, y, add-one i, take-suc names i bad h) (sym (puts_last 6 old 0 (take i names) (get_or names i bad) ∙ rw z)))

  names_start : (old : List ℕ) → old ≡ puts 6 old 0 (take 0 names)
  unfolding puts
  names_start old = refl

  -- N lines are the first lines, so their bytes are copied at once
  copied_more : (old : List ℕ) (i : ℕ) → i < length names → take (32 * suc i) b ++ drop (32 * suc i) old ≡ put_at 6 (take (32 * i) b ++ drop (32 * i) old) i (take (i * 32 + 32 - i * 32) (drop (i * 32) b))
  unfolding put_at
  copied_more old i h =
      let x = take (32 * i) b in
      let y = drop (32 * i) old in
      let n : length x ≡ 32 * i = length-take-le (32 * i) b (omega (arith, name_bytes i h)) in
      let w : i * 32 + 32 - i * 32 ≡ 32 = omega arith in
      let a : i * 32 ≡ 32 * i = omega arith in
      let m : 32 * suc i ≡ 32 * i + 32 = omega arith in
      let k : 32 * suc i ≡ length x + 32 = omega arith in
      let q : take (i * 32 + 32 - i * 32) (drop (i * 32) b) ≡ take 32 (drop (32 * i) b) = ap₂ (λ (u v : ℕ). take u (drop v b)) w a in
      let d : drop (32 * suc i) (x ++ y) ≡ drop (32 * suc i) old = ap (λ (u : ℕ). drop u (x ++ y)) k ∙ (drop-append-add x y 32 ∙ (drop-drop 32 (32 * i) old ∙ ap (λ (u : ℕ). drop u old) (sym m))) in
      ap (λ (z : List ℕ). z ++ drop (32 * suc i) old) (ap (λ (u : ℕ). take u b) m ∙ take-add (32 * i) 32 b)
      ∙ (append_assoc x (take 32 (drop (32 * i) b)) (drop (32 * suc i) old)
      ∙ ap₂ (λ (u v : List ℕ). u ++ v) (sym (take_at x y (32 * i) n)) (ap₂ (λ (u v : List ℕ). u ++ v) (sym q) (sym d)))

  names_copied : (old : List ℕ) (i : ℕ) → i ≤ length names → take (32 * i) b ++ drop (32 * i) old ≡ puts 6 old 0 (take i names)
  names_copied old zero h = names_start old
  names_copied old (suc i) h =
      let e : i + 1 ≡ suc i = add-one i in
      names_more old (take (32 * i) b ++ drop (32 * i) old) (take (32 * suc i) b ++ drop (32 * suc i) old) (take (i * 32 + 32 - i * 32) (drop (i * 32) b)) i (i * 32) (i * 32 + 32) h refl refl (names_copied old i (omega arith)) refl (copied_more old i h)
      ∙ ap (λ (j : ℕ). puts 6 old 0 (take j names)) e

  pub names_within : (i : ℕ) → i ≤ length names → 32 * i ≤ length b
  names_within zero h = omega arith
  names_within (suc i) h = name_bytes i h

  names_end : (old : List ℕ) (i : ℕ) → i ≡ length names → puts 6 old 0 (take i names) ≡ puts 6 old 0 names
  names_end old i e = rw (take_all i names (omega arith))

  pub names_put : (old : List ℕ) (n : ℕ) (p q : List ℕ) → n ≡ length names → p ≡ take (n * 32 - 0) b → q ≡ drop (n * 32 - 0) old → p ++ q ≡ puts 6 old 0 names
  names_put old n p q e x y =
      let m : n * 32 - 0 ≡ 32 * n = omega arith in
      ap₂ (λ (u v : List ℕ). u ++ v) (x ∙ ap (λ (k : ℕ). take k b) m) (y ∙ ap (λ (k : ℕ). drop k old) m) ∙ (names_copied old n (omega arith) ∙ names_end old n e)

  -- lines fill their bytes
  all_sized : Every (Sized 6) (lines 6 b)
  all_sized = every_map (Fits 6) (Sized 6) (λ l h. fits_sized 6 l h) (lines 6 b) (fit_lines 6 b good)

  names_whole : Whole 6 names
  names_whole = every_map (Sized 6) (λ l. length (encode 6 l) ≡ line_bytes 6) (λ l h. encode_sized 6 l h) names (every_select (Sized 6) name_line (lines 6 b) all_sized)

  -- ---- the runs
  abbrev ds : List Dtype
  ds = left_program (run 100 (program (lines_in t)))

  abbrev z : Lines
  z = program_lines ds nothing

  abbrev all : List Line
  all = left_lines (lines 6 b) ds

  all_whole : Whole 6 all
  all_whole = every_map (Sized 6) (λ l. length (encode 6 l) ≡ line_bytes 6) (λ l h. encode_sized 6 l h) all (left_sized 6 (lines 6 b) ds all_sized)

  abbrev xs : List Line
  xs = map arg_row z.written.args

  abbrev ys : List Line
  ys = map (row type_line) z.written.types

  count_args : length xs ≡ length z.written.args
  count_args = length-map z.written.args arg_row

  count_types : length ys ≡ length z.written.types
  count_types = length-map z.written.types (row type_line)

  count_all : length all ≡ length names + length z.written.args + length z.written.types + length z.lines
  unfolding left_lines
  count_all =
      omega (arith, length-append (names ++ xs ++ ys) z.lines, length-append (names ++ xs) ys, length-append names xs, count_args, count_types)

  sheet_is : left_sheet base (lines 6 b) ≡ encodes 6 all
  unfolding left_sheet
  sheet_is = rw (program_same b t of)

  all_length : length (encodes 6 all) ≡ 32 * length all
  all_length = left_bytes 6 (lines 6 b) ds all_sized

  sheet_length : length (left_sheet base (lines 6 b)) ≡ 32 * length all
  sheet_length = ap length sheet_is ∙ all_length

  module _ (n args types : ℕ) (en : n ≡ length names) (ea : args ≡ length (left_written (lines_in t)).written.args) (et : types ≡ length (left_written (lines_in t)).written.types) where
    -- where writing begins
    abbrev pub first_place : Place
    first_place = record { lists = n; nodes = n + args; args = 0; types = 0; line = n + args + types }

    module _ (old : List ℕ) (room : length (left_sheet base (lines 6 b)) ≤ length old) where
      pub lines_fit : 32 * (n + args + types) ≤ length old
      lines_fit = omega (arith, sheet_length, count_all)

      pub names_fit : (i : ℕ) → i < n → 32 * suc i ≤ length old
      names_fit i h = omega (arith, lines_fit)

      module _ (out : List ℕ) (named : out ≡ puts 6 old 0 names) where
        names_length : length out ≡ length old
        names_length = ap length named ∙ length_puts 6 old 0 names names_whole (omega (arith, sheet_length, count_all))

        begun : At out (n + args + types) no_lines first_place out
        unfolding laid puts
        begun = record { holds = refl; args_are = refl; types_are = refl; line_is = omega arith; fives = tt; whole = tt }

        module _ (few : types < 4294967296) where
          args_less : length z.written.args ≤ length z.written.types
          args_less = let a = program_adds ds nothing in omega (arith, a.types_count, a.args_count)

          inside : Inside out (n + args + types) (more no_lines (program_lines ds)) first_place
          inside =
              record {
                before_types = omega arith;
                before_lines = omega arith;
                all = omega (arith, names_length, sheet_length, count_all);
                args_few = omega (arith, args_less);
                types_few = omega arith;
              }

          pub first_room : Room (program_lines ds) first_place out
          first_room = record { base = out; start = n + args + types; lines = no_lines; at = begun; inside = inside }

          pub sheet_done : (r : Place) (out' : List ℕ) → Writes (program_lines ds) first_place r out out' → out' ≡ after (left_sheet base (lines 6 b)) old
          unfolding laid left_lines
          sheet_done r out' w =
              let k : ℕ = n + args + types in
              let a : At out k (more no_lines (program_lines ds)) r out' = w.adds out k no_lines begun inside in
              let lw : Whole 6 z.lines = a.whole in
              let yw : Whole 6 ys = fives_whole z.written.types a.fives in
              let lo : 32 * (k + length z.lines) ≤ length out = inside.all in
              let h : out' ≡ puts 6 (puts 6 (puts 6 out k z.lines) n xs) (n + args) ys = a.holds ∙ ap₂ (λ (i j : ℕ). puts 6 (puts 6 (puts 6 out k z.lines) i xs) j ys) w.lists_stay w.nodes_stay in
              let c₁ = puts_puts 6 out n k xs z.lines (omega (arith, count_args)) lo (args_whole z.written.args) lw in
              let la : length (puts 6 out n xs) ≡ length out = length_puts 6 out n xs (args_whole z.written.args) (omega (arith, count_args)) in
              let c₂ = puts_puts 6 (puts 6 out n xs) (n + args) k ys z.lines (omega (arith, count_types)) (rw la lo) yw lw in
              let e₁ : 0 + length names ≡ n = omega arith in
              let e₂ : 0 + length (names ++ xs) ≡ n + args = omega (arith, length-append names xs, count_args) in
              let e₃ : 0 + length (names ++ xs ++ ys) ≡ k = omega (arith, length-append (names ++ xs) ys, length-append names xs, count_args, count_types) in
              let j₁ : puts 6 old 0 (names ++ xs) ≡ puts 6 out n xs = puts_append 6 old 0 names xs ∙ ap₂ (λ (o : List ℕ) (i : ℕ). puts 6 o i xs) (sym named) e₁ in
              let j₂ : puts 6 old 0 (names ++ xs ++ ys) ≡ puts 6 (puts 6 out n xs) (n + args) ys = puts_append 6 old 0 (names ++ xs) ys ∙ ap₂ (λ (o : List ℕ) (i : ℕ). puts 6 o i ys) j₁ e₂ in
              let j₃ : puts 6 old 0 (names ++ xs ++ ys ++ z.lines) ≡ puts 6 (puts 6 (puts 6 out n xs) (n + args) ys) k z.lines = puts_append 6 old 0 (names ++ xs ++ ys) z.lines ∙ ap₂ (λ (o : List ℕ) (i : ℕ). puts 6 o i z.lines) j₂ e₃ in
              h
              ∙ (ap (λ (o : List ℕ). puts 6 o (n + args) ys) c₁
              ∙ (c₂
              ∙ (sym j₃
              ∙ (puts_all 6 all old all_whole ∙ (ap (λ (m : ℕ). encodes 6 all ++ drop m old) (sym all_length) ∙ ap (λ (x : List ℕ). after x old) (sym sheet_is))))))
            where
              fives_whole : (ts : List (List ℕ)) → Every (λ ns. length ns ≡ 5) ts → Whole 6 (map (row type_line) ts)
              fives_whole [] h = tt
              fives_whole (t ∷ ts) h = (row_length 6 type_line t h.0, fives_whole ts h.1)
