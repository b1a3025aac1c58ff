use Rattle.std.proofs.Common.{◌∙◌}
use Rattle.roam_address.proofs.HostLemmas.{differs, other_kind, no_kind}
use Rattle.roam_address.proofs.host.address_of_kind.Goals as goal

-- an address of the other kind
pub returns-else-is_ipv6 : goal.returns-else-is_ipv6
returns-else-is_ipv6 c =
    other_kind c.args.is_ipv6 c.args.text.now c.in-Some.address c.in-Some.ensures.states
    (λ same. differs c.is_ipv6.result c.args.is_ipv6 c.if-is_ipv6.false (c.is_ipv6.ensures ∙ same))

pub returns-in-None : goal.returns-in-None
returns-in-None c = no_kind c.args.is_ipv6 c.args.text.now c.in-None.ensures.states
