-- An output of lines of w columns, of which each line is written into its own part. Assumes nothing.
use Rattle.std.specs.Prelude.{List, [], ◌∷◌, ◌++◌, ℕ, suc, ◌*◌, take, drop}
use Rattle.sheet.specs.Format.{line_bytes}
use Rattle.sheet.specs.Line.{Line, encode}

-- the output with q in the place of line i
unfoldable pub put_at : ℕ → List ℕ → ℕ → List ℕ → List ℕ
put_at w out i q = take (line_bytes w * i) out ++ (q ++ drop (line_bytes w * suc i) out)

-- the lines written one after the other, from line i on
unfoldable pub puts : ℕ → List ℕ → ℕ → List Line → List ℕ
puts w out i [] = out
puts w out i (l ∷ ls) = puts w (put_at w out i (encode w l)) (suc i) ls
