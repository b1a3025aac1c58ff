use Rattle.std.proofs.Common.{◌≡◌, ap, sym, ◌∙◌}
use Rattle.roam_address.specs.Addresses.{ip_of}
use Rattle.roam_address.specs.Bits.{leading}
use Rattle.roam_address.specs.Prefixes.{length_of}
use Rattle.roam_address.proofs.LongestLemmas.{key_eq, key_same, key_itself, same_key, in_by_key}
use Rattle.roam_address.proofs.prefix.Prefix.has.Goals as goal

-- of one kind, the leftmost bits decide
pub returns-then-is_ipv6-clause-states : goal.returns-then-is_ipv6-clause-states
returns-then-is_ipv6-clause-states c =
    let p = c.args.self in
    let a = c.args.address in (
      (λ yes'. in_by_key p a (sym c.of.ensures ∙ key_same c.of.result c.leading.result (sym c.eq.ensures ∙ yes')
          ∙ c.leading.ensures)),
      (λ is. (
          let same : c.of.result ≡ c.leading.result = c.of.ensures ∙ same_key p a is ∙ sym c.leading.ensures in
          c.eq.ensures ∙ ap (key_eq c.of.result) (sym same) ∙ key_itself c.of.result)),
    )

pub returns-then-is_ipv6-clause-value : goal.returns-then-is_ipv6-clause-value
returns-then-is_ipv6-clause-value c =
    c.eq.ensures ∙ ap (λ k. key_eq k c.leading.result) c.of.ensures
    ∙ ap (key_eq (leading (length_of c.args.self) (ip_of c.args.address))) c.leading.ensures
