-- The line is a slice of bytes.
use Rattle.std.proofs.Common.{arith}
use Rattle.djq_log_file.proofs.Bodies.{bytes_all}
use Rattle.djq_log_file.proofs.appending.entry_size.Goals as goal

pub returns-clause-bytes : goal.returns-clause-bytes
returns-clause-bytes c = bytes_all c.args.line.now (λ i. omega (arith, c.type_inv.line i))
