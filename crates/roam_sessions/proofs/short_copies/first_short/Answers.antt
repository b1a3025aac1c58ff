use Rattle.std.proofs.Common.{sym}
use Rattle.roam_sessions.proofs.ShortLemmas.{first-short}
use Rattle.roam_sessions.proofs.short_copies.first_short.Goals as goal

pub invariant_of-result : goal.invariant_of-result
invariant_of-result c =
    let is = rw c.in-Some.is at c.first.ensures in
    record {
      size = first-short c.args.kind c.args.request.now c.in-Some.octets.now
          c.attributes-attributes.ensures.packet (sym is);
    }
