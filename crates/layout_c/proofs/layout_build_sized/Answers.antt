-- The five numbers and both outputs are those of the build.
use Rattle.layout_c.specs.Numbers.{told_sized}
use Rattle.layout_c.proofs.layout_build_sized.Goals as goal

pub returns : goal.returns
returns c = told_sized _ _ _ _ _ _ c.build-b.ensures _
