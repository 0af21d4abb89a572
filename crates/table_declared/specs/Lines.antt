-- Lines by their number among those of a letter, and declarations by theirs. Assumes nothing.
use Rattle.std.specs.Prelude.{List, [], ℕ, suc, ◌+◌, ltb, length, get_or}
use Rattle.sheet.specs.Line.{Line, bad}
use Rattle.sheet.specs.Sheet.{first}
use Rattle.meaning.specs.Program.{local_line, import_line, is_head, select, Group, groups}
use Rattle.meaning.specs.Rows.{count_of, count_before}
use Rattle.row4_limits.specs.Limits.{start}

-- line j of a letter, and its place among all lines
abbrev pub nth : ℕ → List Line → ℕ → Line
nth x ls j = get_or (select x ls) j bad

unfoldable pub place_of : ℕ → List Line → ℕ → ℕ
place_of x ls j = first (λ i. ltb j (count_before x ls (suc i))) (length ls)

-- the lines of declaration d, and the first of them
abbrev pub no_group : Group
no_group = record { head = bad; rest = [] }

abbrev pub group : List Line → ℕ → Group
group ls d = get_or (groups is_head ls) d no_group

abbrev pub head_line : List Line → ℕ → Line
head_line ls d = (group ls d).head

-- how many declarations there are
abbrev pub decls_of : List Line → ℕ
decls_of ls = count_of local_line ls + count_of import_line ls

-- how many lines of a letter stand before declaration d; before the number of declarations, all
abbrev pub first_of : ℕ → List Line → ℕ → ℕ
first_of x ls d = count_before x ls (start ls d)
