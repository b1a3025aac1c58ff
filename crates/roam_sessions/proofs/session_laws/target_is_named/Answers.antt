use Rattle.std.proofs.Common.{◌≡◌, ℕ, List, Option, Some, None, ap, ◌∙◌, subst}
use Rattle.roam_wire.specs.Attributes.{first_value}
use Rattle.roam_wire.specs.declared.attribute_type.TheConstants.{NAS_IDENTIFIER, NAS_IP_ADDRESS, OPERATOR_NAME}
use Rattle.roam_admission.specs.UserName.{nas_of}
use Rattle.roam_sessions.specs.Target.{ipv6_of, peer_named, peer_of_names, target, with_coa}
use Rattle.roam_sessions.proofs.TargetLemmas.{all-names, takes-requests, with-coa-is}
use Rattle.roam_sessions.proofs.session_laws.target_is_named.Goals as goal

pub returns-clause-takes : goal.returns-clause-takes
unfolding target
returns-clause-takes c = λ peers attributes index found.
    takes-requests peers (peer_named peers (first_value OPERATOR_NAME attributes) (nas_of attributes)
    (ipv6_of peers attributes)) index found

pub returns-clause-operator : goal.returns-clause-operator
unfolding target
returns-clause-operator c = λ peers attributes operator index has some found.
    let named = (with-coa-is peers (peer_named peers (first_value OPERATOR_NAME attributes) (nas_of attributes)
    (ipv6_of peers attributes)) index
    found).0 in
    rw (has, some) at named

pub returns-clause-nas : goal.returns-clause-nas
unfolding target
returns-clause-nas c = λ peers attributes index none found.
    let named = (with-coa-is peers (peer_named peers (first_value OPERATOR_NAME attributes) (nas_of attributes)
    (ipv6_of peers attributes)) index
    found).0 in
    let by : peer_of_names peers (nas_of attributes) (ipv6_of peers attributes) ≡ Some index =
    subst (λ (o : Option (List ℕ)). peer_named peers o (nas_of attributes) (ipv6_of peers attributes) ≡ Some index) none
    named in
    all-names peers (first_value NAS_IP_ADDRESS attributes) (first_value NAS_IDENTIFIER attributes)
    (ipv6_of peers attributes) index by

pub returns-clause-nameless : goal.returns-clause-nameless
unfolding target
returns-clause-nameless c = λ peers attributes none nameless no_ipv6.
    ap (λ (o : Option (List ℕ)). with_coa peers (peer_named peers o (nas_of attributes) (ipv6_of peers attributes)))
    none
    ∙ ap (λ names. with_coa peers (peer_of_names peers names (ipv6_of peers attributes))) nameless
    ∙ ap (λ (o : Option (List ℕ)). with_coa peers (peer_of_names peers (None, None) o)) no_ipv6
