-- The limits of the base and the largest ones go together with their columns, and the base's are within them. Assumes nothing.
use Rattle.std.proofs.Common.{arith}
use Rattle.sheet.specs.Format.{base, largest, Ample, Wider}

pub base_ample : Ample base
base_ample = record { kinds = omega arith; counts = omega arith; nodes = omega arith; depth = omega arith }

pub largest_ample : Ample largest
largest_ample = record { kinds = omega arith; counts = omega arith; nodes = omega arith; depth = omega arith }

pub base_wider : Wider base largest
base_wider =
    record {
      columns = omega arith;
      lines = omega arith;
      names = omega arith;
      args = omega arith;
      types = omega arith;
      decls = omega arith;
      ctors = omega arith;
      fields = omega arith;
      params = omega arith;
      patterns = omega arith;
    }
