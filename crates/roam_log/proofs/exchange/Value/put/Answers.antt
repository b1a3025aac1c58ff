use Rattle.std.proofs.Common.{Some, ap, drop}
use Rattle.roam_log.proofs.ValueLemmas.{value-kept}
use Rattle.roam_log.proofs.exchange.Value.put.Goals as goal

-- what is copied to the front, and what stays behind it
pub returns : goal.returns
returns c =
    ap Some (value-kept c.args.octets.now c.copy_from_slice.new.self (drop c.min-len.result c.args.self.now.octets)
    c.min-len.result c.min-len.ensures c.copy_from_slice.ensures.after)
