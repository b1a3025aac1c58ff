use Rattle.std.proofs.Common.{◌∙◌}
use Rattle.roam_sessions.specs.Kept.{shown_session}
use Rattle.roam_sessions.specs.Private.Packed.{octets_of}
use Rattle.roam_sessions.proofs.PackedLemmas.{behind-each-other, packed-is}
use Rattle.roam_sessions.proofs.packed_session.OpenSession.copy_of.Goals as goal

pub returns : goal.returns
returns g c =
    let s = shown_session c.args.session in
    let octets = behind-each-other _ c.push.new.octets.items c.push-2.new.octets.items c.push-3.new.octets.items
    c.extend_from_slice.new.self.items (octets_of s.nas.address) (octets_of s.nas.identifier) (octets_of s.nas.ipv6) s.id
    c.in_ok-octets.ensures.items c.in_ok-push.ensures c.in_ok-push-2.ensures c.in_ok-push-3.ensures
    c.in_ok-extend_from_slice.ensures.items in
    rw (c.size_of-address.ensures.value, c.size_of-identifier.ensures.value, c.size_of-ipv6.ensures.value)
    (packed-is s.peer s.nas.address s.nas.identifier s.nas.ipv6 s.id c.from_vec.result (c.from_vec.ensures ∙ octets))
