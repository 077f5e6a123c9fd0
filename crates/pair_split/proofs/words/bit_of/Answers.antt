use Rattle.pair_split.proofs.ShiftedBits.{bit-tests}
use Rattle.pair_split.proofs.words.bit_of.Goals as goal

pub returns : goal.returns
returns c = bit-tests c.args.words.now c.args.l
