-- `sheet_digits::write_six` meets its contract, by how many digits the number has.
use Rattle.std.proofs.Common.{arith}
use Rattle.sheet_digits.specs.SixLaws.{two_digits, one_digit}
use Rattle.sheet_digits.proofs.write_six.Goals as goal

pub returns-then-n-gt9 : goal.returns-then-n-gt9
returns-then-n-gt9 c = two_digits c.args.out.now c.args.n c.requires (omega arith) (omega arith)

pub returns : goal.returns
returns c = one_digit c.args.out.now c.args.n c.requires (omega arith)
