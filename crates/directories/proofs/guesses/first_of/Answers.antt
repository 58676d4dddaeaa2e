use Rattle.std.proofs.Common.{◌*◌, arith}
use Rattle.std.proofs.lemmas.Nat.{and_le_l}
use Rattle.directories.proofs.guesses.first_of.Goals as goal

pub returns : goal.returns
returns c = let less = and_le_l (c.args.hash * 16) c.args.mask in omega (arith, less)
