-- The twelve starred cases (*): what the definitions answer to these sheets, in one table under one claim; and further sheets.
-- Assumes nothing.
use Rattle.std.specs.Prelude.{◌≡◌, refl, List, [], ◌∷◌, map}
use Rattle.answer.proofs.Cases.{whole, summary, Case, given, expected}

-- ---- the starred cases
unfoldable pub starred : List Case
starred =
    -- *1 no bytes: code 0, rounds 1
    record {
      number = 1;
      view = whole;
      sheet = [];
      told =
          "R     0     0     1     0     0"
          ∷ [];
    }
    -- *2 every byte of its output
    ∷ record {
      number = 2;
      view = whole;
      sheet =
          "N     0Lap"
          ∷ "N     1MkLap"
          ∷ "N     2ms"
          ∷ "N     3note"
          ∷ "Y     4     0    32     0     0"
          ∷ "Y     0     0     0     0     0"
          ∷ "D     0     0     3     0     1"
          ∷ "C     1     2     0     0     0"
          ∷ "F     2     0     0     0     0"
          ∷ "F     3     1     0     0     0"
          ∷ "V     0     0     0     0     0"
          ∷ [];
      told =
          "R     0     0     1     0     0"
          ∷ "N     0Lap"
          ∷ "N     1MkLap"
          ∷ "N     2ms"
          ∷ "N     3note"
          ∷ "Y     4     0    32     0     0"
          ∷ "Y     0     0     0     0     0"
          ∷ "I     0     0     3     0     1"
          ∷ "C     1     2     0     0     0"
          ∷ "F     2     0     1     0     0"
          ∷ "F     3     1     0     0     0"
          ∷ "V     0     1     0     0     0"
          ∷ "N     0Lap"
          ∷ "N     1MkLap"
          ∷ "N     2ms"
          ∷ "N     3note"
          ∷ "Y     4     0    32     0     0"
          ∷ "D     0     0     1     0     0"
          ∷ "V     0     0     0     0     0"
          ∷ [];
    }
    -- *3 `t = C of t` is not erased: a struct, with record number 1
    ∷ record {
      number = 3;
      view = summary;
      sheet =
          "N     0t"
          ∷ "N     1C"
          ∷ "N     2f"
          ∷ "Y     8     0     0     0     0"
          ∷ "D     0     0     3     0     1"
          ∷ "C     1     1     0     0     0"
          ∷ "F     2     0     0     0     0"
          ∷ "V     0     0     0     0     0"
          ∷ [];
      told =
          "R     0     0     1     0     0"
          ∷ "V     0     2     1     0     0"
          ∷ "Y     8     0     0     0     0"
          ∷ "D     0     0     3     0     1"
          ∷ "C     1     1     0     0     0"
          ∷ "F     2     0     0     0     0"
          ∷ "V     0     0     0     0     0"
          ∷ [];
    }
    -- *4 a variant of no constructor: erased, rounds 2
    ∷ record {
      number = 4;
      view = summary;
      sheet =
          "N     0t"
          ∷ "D     0     0     3     0     0"
          ∷ "V     0     0     0     0     0"
          ∷ [];
      told =
          "R     0     0     2     0     0"
          ∷ "V     1     0     0     0     0"
          ∷ [];
    }
    -- *5 `A | B` without fields: kept,
    ∷ record {
      number = 5;
      view = summary;
      sheet =
          "N     0t"
          ∷ "N     1A"
          ∷ "N     2B"
          ∷ "D     0     0     3     0     2"
          ∷ "C     1     0     0     0     0"
          ∷ "C     2     0     0     0     0"
          ∷ "V     0     0     0     0     0"
          ∷ [];
      told =
          "R     0     0     1     0     0"
          ∷ "V     0     2     0     0     0"
          ∷ "D     0     0     3     0     2"
          ∷ "C     1     0     0     0     0"
          ∷ "C     2     0     0     0     0"
          ∷ "V     0     0     0     0     0"
          ∷ [];
    }
    -- and with `Erased`: erased
    ∷ record {
      number = 5;
      view = summary;
      sheet =
          "N     0t"
          ∷ "N     1A"
          ∷ "N     2B"
          ∷ "D     0     1     3     0     2"
          ∷ "C     1     0     0     0     0"
          ∷ "C     2     0     0     0     0"
          ∷ "V     0     0     0     0     0"
          ∷ [];
      told =
          "R     0     0     2     0     0"
          ∷ "V     1     0     0     0     0"
          ∷ [];
    }
    -- *6 `w`, which holds `u`, stands before `u = unit`: three rounds erase both;
    ∷ record {
      number = 6;
      view = summary;
      sheet =
          "N     0u"
          ∷ "N     1w"
          ∷ "N     2W"
          ∷ "N     3f"
          ∷ "Y     8     0     0     0     0"
          ∷ "Y     0     0     0     0     0"
          ∷ "D     1     0     3     0     1"
          ∷ "C     2     1     0     0     0"
          ∷ "F     3     0     0     0     0"
          ∷ "V     0     0     0     0     0"
          ∷ "D     0     0     1     0     1"
          ∷ "V     0     0     0     0     0"
          ∷ [];
      told =
          "R     0     0     3     0     0"
          ∷ "V     1     0     0     0     0"
          ∷ "V     1     0     0     0     0"
          ∷ [];
    }
    -- and `u` first: rounds 2
    ∷ record {
      number = 6;
      view = summary;
      sheet =
          "N     0u"
          ∷ "N     1w"
          ∷ "N     2W"
          ∷ "N     3f"
          ∷ "Y     0     0     0     0     0"
          ∷ "Y     8     0     0     0     0"
          ∷ "D     0     0     1     0     0"
          ∷ "V     0     0     0     0     0"
          ∷ "D     1     0     3     0     1"
          ∷ "C     2     1     0     0     0"
          ∷ "F     3     1     0     0     0"
          ∷ "V     0     0     0     0     0"
          ∷ [];
      told =
          "R     0     0     2     0     0"
          ∷ "V     1     0     0     0     0"
          ∷ "V     1     0     0     0     0"
          ∷ [];
    }
    -- *7 `a` and `b` hold each other: two structs
    ∷ record {
      number = 7;
      view = summary;
      sheet =
          "N     0b"
          ∷ "N     1a"
          ∷ "N     2A"
          ∷ "N     3f"
          ∷ "N     4B"
          ∷ "N     5g"
          ∷ "Y     8     0     0     0     0"
          ∷ "Y     8     1     0     0     0"
          ∷ "D     1     0     3     0     1"
          ∷ "C     2     1     0     0     0"
          ∷ "F     3     0     0     0     0"
          ∷ "V     0     0     0     0     0"
          ∷ "D     0     0     3     0     1"
          ∷ "C     4     1     0     0     0"
          ∷ "F     5     1     0     0     0"
          ∷ "V     0     0     0     0     0"
          ∷ [];
      told =
          "R     0     0     1     0     0"
          ∷ "V     0     2     1     0     0"
          ∷ "V     0     2     1     0     0"
          ∷ "Y     8     0     0     0     0"
          ∷ "Y     8     1     0     0     0"
          ∷ "D     1     0     3     0     1"
          ∷ "C     2     1     0     0     0"
          ∷ "F     3     0     0     0     0"
          ∷ "V     0     0     0     0     0"
          ∷ "D     0     0     3     0     1"
          ∷ "C     4     1     0     0     0"
          ∷ "F     5     1     0     0     0"
          ∷ "V     0     0     0     0     0"
          ∷ [];
    }
    -- *8 `t` holds an abbreviation of `t`: a struct, and the abbreviation of it stays
    ∷ record {
      number = 8;
      view = summary;
      sheet =
          "N     0ab"
          ∷ "N     1t"
          ∷ "N     2C"
          ∷ "N     3f"
          ∷ "Y     8     0     0     0     0"
          ∷ "Y     8     1     0     0     0"
          ∷ "D     1     0     3     0     1"
          ∷ "C     2     1     0     0     0"
          ∷ "F     3     0     0     0     0"
          ∷ "V     0     0     0     0     0"
          ∷ "D     0     0     1     0     1"
          ∷ "V     0     0     0     0     0"
          ∷ [];
      told =
          "R     0     0     1     0     0"
          ∷ "V     0     2     1     0     0"
          ∷ "V     0     3     0     0     0"
          ∷ "Y     8     1     0     0     0"
          ∷ "Y     8     1     0     0     0"
          ∷ "D     1     0     3     0     1"
          ∷ "C     2     1     0     0     0"
          ∷ "F     3     0     0     0     0"
          ∷ "V     0     0     0     0     0"
          ∷ "D     0     0     1     0     1"
          ∷ "V     0     0     0     0     0"
          ∷ [];
    }
    -- *9 `Realized` does not keep a type from being a newtype
    ∷ record {
      number = 9;
      view = summary;
      sheet =
          "N     0t"
          ∷ "N     1C"
          ∷ "N     2f"
          ∷ "Y     4     0    32     0     0"
          ∷ "D     0     2     3     0     1"
          ∷ "C     1     1     0     0     0"
          ∷ "F     2     0     0     0     0"
          ∷ "V     0     0     0     0     0"
          ∷ [];
      told =
          "R     0     0     1     0     0"
          ∷ "V     0     1     0     0     0"
          ∷ "Y     4     0    32     0     0"
          ∷ "D     0     2     1     0     0"
          ∷ "V     0     0     0     0     0"
          ∷ [];
    }
    -- *10 `p 'a = 'a`, and `q = p` without an argument: refused by row 9, at `q`
    ∷ record {
      number = 10;
      view = summary;
      sheet =
          "N     0a"
          ∷ "N     1p"
          ∷ "N     2q"
          ∷ "Y     3     0     0     0     0"
          ∷ "Y     8     1     0     0     0"
          ∷ "D     1     0     1     1     0"
          ∷ "P     0     0     0     0     0"
          ∷ "V     0     0     0     0     0"
          ∷ "D     2     0     1     0     1"
          ∷ "V     0     0     0     0     0"
          ∷ [];
      told =
          "R     9     8     0     0     0"
          ∷ [];
    }
    -- *11 a newtype whose parameter is not in its payload: nothing is left of it
    ∷ record {
      number = 11;
      view = summary;
      sheet =
          "N     0n"
          ∷ "N     1a"
          ∷ "N     2N"
          ∷ "N     3f"
          ∷ "Y     4     0    32     0     0"
          ∷ "D     0     0     3     1     1"
          ∷ "P     1     0     0     0     0"
          ∷ "C     2     1     0     0     0"
          ∷ "F     3     0     0     0     0"
          ∷ "V     0     0     0     0     0"
          ∷ [];
      told =
          "R     0     0     1     0     0"
          ∷ "V     0     1     0     0     0"
          ∷ [];
    }
    -- *12 `Realized` keeps a record whose only field is erased, and with `SourceRecord` its record number is 1
    ∷ record {
      number = 12;
      view = summary;
      sheet =
          "N     0r"
          ∷ "N     1f"
          ∷ "Y     0     0     0     0     0"
          ∷ "D     0    18     2     0     1"
          ∷ "F     1     0     0     0     0"
          ∷ "V     0     0     0     0     0"
          ∷ [];
      told =
          "R     0     0     1     0     0"
          ∷ "V     0     2     1     0     0"
          ∷ "D     0    18     2     0     0"
          ∷ "V     0     0     0     0     0"
          ∷ [];
    }
    ∷ []

-- Each starred case is answered as its table says.
pub starred_cases : map given starred ≡ map expected starred
unfolding given expected starred
starred_cases = refl

-- ---- further cases
-- not starred, and numbered on from those
unfoldable pub further : List Case
further =
    -- `TAny` takes the place of a variable that is no parameter.
    record {
      number = 13;
      view = summary;
      sheet =
          "N     0p"
          ∷ "N     1a"
          ∷ "N     2b"
          ∷ "N     3x"
          ∷ "N     4y"
          ∷ "Y     3     1     0     0     0"
          ∷ "Y     3     2     0     0     0"
          ∷ "D     0     0     2     1     2"
          ∷ "P     1     0     0     0     0"
          ∷ "F     3     0     0     0     0"
          ∷ "F     4     1     0     0     0"
          ∷ "V     0     0     0     0     0"
          ∷ [];
      told =
          "R     0     0     1     0     0"
          ∷ "V     0     2     0     0     0"
          ∷ "Y     3     1     0     0     0"
          ∷ "Y     1     0     0     0     0"
          ∷ "D     0     0     2     1     2"
          ∷ "P     1     0     0     0     0"
          ∷ "F     3     0     0     0     0"
          ∷ "F     4     1     0     0     0"
          ∷ "V     0     0     0     0     0"
          ∷ [];
    }
    -- An arrow is erased by its effect and its result alone: `f` is; `g`, impure, and `h`, whose result is kept, are not.
    ∷ record {
      number = 14;
      view = summary;
      sheet =
          "N     0f"
          ∷ "N     1g"
          ∷ "N     2h"
          ∷ "Y     4     0    32     0     0"
          ∷ "Y     0     0     0     0     0"
          ∷ "Y     7     0     1     1     0"
          ∷ "Y     7     0     2     1     0"
          ∷ "Y     7     1     1     0     0"
          ∷ "D     0     0     1     0     2"
          ∷ "V     0     0     0     0     0"
          ∷ "D     1     0     1     0     3"
          ∷ "V     0     0     0     0     0"
          ∷ "D     2     0     1     0     4"
          ∷ "V     0     0     0     0     0"
          ∷ [];
      told =
          "R     0     0     2     0     0"
          ∷ "V     1     0     0     0     0"
          ∷ "V     0     3     0     0     0"
          ∷ "V     0     3     0     0     0"
          ∷ "Y     4     0    32     0     0"
          ∷ "Y     0     0     0     0     0"
          ∷ "Y     7     0     2     1     0"
          ∷ "Y     0     0     0     0     0"
          ∷ "Y     4     0    32     0     0"
          ∷ "Y     7     3     1     4     0"
          ∷ "D     1     0     1     0     2"
          ∷ "V     0     0     0     0     0"
          ∷ "D     2     0     1     0     5"
          ∷ "V     0     0     0     0     0"
          ∷ [];
    }
    -- Imports have their verdicts: an integer erased, and a newtype, which `t = T of e, w` unfolds.
    ∷ record {
      number = 15;
      view = summary;
      sheet =
          "N     0e"
          ∷ "N     1w"
          ∷ "N     2W"
          ∷ "N     3f"
          ∷ "N     4t"
          ∷ "N     5T"
          ∷ "N     6g"
          ∷ "N     7h"
          ∷ "Y     4     0    32     0     0"
          ∷ "Y     8     0     0     0     0"
          ∷ "Y     8     1     0     0     0"
          ∷ "I     0     0     1     0     0"
          ∷ "V     1     0     0     0     0"
          ∷ "I     1     0     3     0     1"
          ∷ "C     2     1     0     0     0"
          ∷ "F     3     0     1     0     0"
          ∷ "V     0     1     0     0     0"
          ∷ "D     4     0     3     0     1"
          ∷ "C     5     2     0     0     0"
          ∷ "F     6     1     0     0     0"
          ∷ "F     7     2     0     0     0"
          ∷ "V     0     0     0     0     0"
          ∷ [];
      told =
          "R     0     0     1     0     0"
          ∷ "V     1     0     0     0     0"
          ∷ "V     0     1     0     0     0"
          ∷ "V     0     1     0     0     0"
          ∷ "Y     4     0    32     0     0"
          ∷ "Y     4     0    32     0     0"
          ∷ "D     1     0     1     0     0"
          ∷ "V     0     0     0     0     0"
          ∷ "D     4     0     1     0     1"
          ∷ "V     0     0     0     0     0"
          ∷ [];
    }
    -- A newtype's payload is its field's type less one outer `TInline`.
    ∷ record {
      number = 16;
      view = summary;
      sheet =
          "N     0t"
          ∷ "N     1T"
          ∷ "N     2f"
          ∷ "Y     4     0    32     0     0"
          ∷ "Y    12     0     0     0     0"
          ∷ "Y    12     1     0     0     0"
          ∷ "D     0     0     3     0     1"
          ∷ "C     1     1     0     0     0"
          ∷ "F     2     2     0     0     0"
          ∷ "V     0     0     0     0     0"
          ∷ [];
      told =
          "R     0     0     1     0     0"
          ∷ "V     0     1     0     0     0"
          ∷ "Y     4     0    32     0     0"
          ∷ "Y    12     0     0     0     0"
          ∷ "D     0     0     1     0     1"
          ∷ "V     0     0     0     0     0"
          ∷ [];
    }
    -- `p 'a = 'a`, `q = p (l u)` with `l` foreign and `u` erased: `q` is left as `l unit`.
    ∷ record {
      number = 17;
      view = summary;
      sheet =
          "N     0u"
          ∷ "N     1p"
          ∷ "N     2a"
          ∷ "N     3l"
          ∷ "N     4q"
          ∷ "A     2     0     0     0     0"
          ∷ "A     3     0     0     0     0"
          ∷ "Y     0     0     0     0     0"
          ∷ "Y     3     2     0     0     0"
          ∷ "Y     8     0     0     0     0"
          ∷ "Y     8     3     0     1     0"
          ∷ "Y     8     1     1     1     0"
          ∷ "D     0     0     1     0     0"
          ∷ "V     0     0     0     0     0"
          ∷ "D     1     0     1     1     1"
          ∷ "P     2     0     0     0     0"
          ∷ "V     0     0     0     0     0"
          ∷ "D     4     0     1     0     4"
          ∷ "V     0     0     0     0     0"
          ∷ [];
      told =
          "R     0     0     2     0     0"
          ∷ "V     1     0     0     0     0"
          ∷ "V     0     3     0     0     0"
          ∷ "V     0     3     0     0     0"
          ∷ "A     1     0     0     0     0"
          ∷ "Y     3     2     0     0     0"
          ∷ "Y     0     0     0     0     0"
          ∷ "Y     8     3     0     1     0"
          ∷ "D     1     0     1     1     0"
          ∷ "P     2     0     0     0     0"
          ∷ "V     0     0     0     0     0"
          ∷ "D     4     0     1     0     2"
          ∷ "V     0     0     0     0     0"
          ∷ [];
    }
    -- `p` with `NoUnfold` stays in `q = p`.
    ∷ record {
      number = 18;
      view = summary;
      sheet =
          "N     0p"
          ∷ "N     1q"
          ∷ "Y     4     0    32     0     0"
          ∷ "Y     8     0     0     0     0"
          ∷ "D     0     8     1     0     0"
          ∷ "V     0     0     0     0     0"
          ∷ "D     1     0     1     0     1"
          ∷ "V     0     0     0     0     0"
          ∷ [];
      told =
          "R     0     0     1     0     0"
          ∷ "V     0     3     0     0     0"
          ∷ "V     0     3     0     0     0"
          ∷ "Y     4     0    32     0     0"
          ∷ "Y     8     0     0     0     0"
          ∷ "D     0     8     1     0     0"
          ∷ "V     0     0     0     0     0"
          ∷ "D     1     0     1     0     1"
          ∷ "V     0     0     0     0     0"
          ∷ [];
    }
    ∷ []

pub further_cases : map given further ≡ map expected further
unfolding given expected further
further_cases = refl
