use Rattle.std.proofs.Common.{arith}
use Rattle.sweeping.proofs.NumberLines.{number_stored}
use Rattle.sweeping.proofs.write_numbers.write_number.Goals as goal

pub returns : goal.returns
returns c = number_stored c.args.out.now c.args.pos c.args.number c.to_be_bytes.ensures (omega arith) c.put_bytes.ensures c.requires
