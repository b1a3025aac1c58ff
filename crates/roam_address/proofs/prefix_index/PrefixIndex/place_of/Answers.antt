use Rattle.std.proofs.Common.{◌≡◌, false, ap, sym, ◌∙◌}
use Rattle.std.specs.Net.Addr.{is_ipv6}
use Rattle.roam_address.specs.Addresses.{ip_of}
use Rattle.roam_address.specs.Bits.{leading}
use Rattle.roam_address.specs.Keys.{slot, is_marked}
use Rattle.roam_address.proofs.NotedLemmas.{not_marked}
use Rattle.roam_address.proofs.prefix_index.PrefixIndex.place_of.Goals as goal

-- of a length that isn't marked there is no key
pub returns-then-not-self-slot : goal.returns-then-not-self-slot
returns-then-not-self-slot g c =
    let index = c.args.self.now in
    let ip = ip_of c.args.address in
    let at : slot (is_ipv6 ip) c.args.length ≡ c.slot.result =
    ap (λ k. slot k c.args.length) (sym c.is_ipv6.ensures) ∙ sym c.slot.ensures in
    let off : is_marked index.lengths (is_ipv6 ip) c.args.length ≡ false = rw at c.if-not-self-slot.true in
    sym (not_marked index.lengths index.keys.keys (leading c.args.length ip) index.marked off)
