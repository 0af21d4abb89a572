-- The three numbers and both outputs are those of the build.
use Rattle.layout_c.specs.Numbers.{told}
use Rattle.layout_c.proofs.layout_build.Goals as goal

pub returns : goal.returns
returns c = told _ _ _ _ _ _ c.build-r.ensures _
