-- The nodes of an instance of a Y line's type. Assumes nothing.
use Rattle.std.specs.Prelude.{List, ℕ}
use Rattle.sheet.specs.Line.{Line}
use Rattle.model.specs.Cty.{Ctys}
use Rattle.resolve_outcomes.specs.Outcome.{weight, weights}
use Rattle.resolve_outcomes.specs.Answer.{listed}
use Rattle.resolve_outcomes.specs.Scratch.{part}
use Rattle.resolve_kids.specs.Nodes.{type_of, kid_of}
use Rattle.resolve_kids.specs.Params.{params_of}

-- the types of its first n parts
abbrev pub kid_types : List Line → ℕ → ℕ → Ctys
kid_types ls y n = listed (λ i. type_of ls (kid_of ls y i)) n

-- where declaration d's arguments have the `count` outcomes from place `at` on
module _ (ls : List Line) (d : ℕ) (out : List ℕ) (at count : ℕ) where
  abbrev pub weight_of : ℕ → ℕ
  weight_of y = weight (params_of ls d) (part at count out) (type_of ls y)

  abbrev pub weights_of : ℕ → ℕ → ℕ
  weights_of y n = weights (params_of ls d) (part at count out) (kid_types ls y n)
