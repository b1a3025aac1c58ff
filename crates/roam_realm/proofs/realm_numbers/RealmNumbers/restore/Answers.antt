use Rattle.std.proofs.Common.{◌≡◌, ◌&&◌, ◌∙◌, not, List, ap, subst, sym, option_map}
use Rattle.std.specs.Str.{bytes_eq}
use Rattle.roam_conf.specs.Config.{PeerView}
use Rattle.roam_conf.specs.Lookup.{first_place}
use Rattle.roam_sessions.specs.ShownLedgers.{shown_session}
use Rattle.roam_sessions.specs.Parts.{AreShort}
use Rattle.roam_sessions.specs.Sessions.{Session, with_session}
use Rattle.roam_sessions.specs.ShownSessions.{shown_octets}
use Rattle.roam_realm.proofs.SavingLemmas.{on_both, taken_some, under}
use Rattle.roam_realm.proofs.realm_numbers.RealmNumbers.restore.Goals as goal

-- it is taken up as one of the peer that has its name
pub returns-clause-sessions : goal.returns-clause-sessions
returns-clause-sessions g c =
    let config = c.args.settings.now in
    let s = shown_session c.args.saved in
    let peer = c.in-Some.peer in
    let limit = c.args.self.now.sessions.limit in
    let old = c.args.self.now.sessions.sessions in
    let new = c.restore.new.self.sessions in
    let parts : Session = record {
      peer = peer;
      nas = record {
        address = option_map shown_octets c.octets_of.result;
        identifier = option_map shown_octets c.octets_of-2.result;
        ipv6 = option_map shown_octets c.octets_of-3.result;
      };
      id = s.id;
    } in
    let same : parts ≡ under peer s = λ j. record {
      peer = peer;
      nas = record {
        address = c.octets_of.ensures j;
        identifier = c.octets_of-2.ensures j;
        ipv6 = c.octets_of-3.ensures j;
      };
      id = s.id;
    } in
    let named = c.peer_named.ensures ∙ ap (λ (ps : List PeerView). first_place
    (λ (p : PeerView). not p.gone && bytes_eq p.name s.peer) ps) c.peers.ensures.peers in
    on_both c.restore.result c.restore.ensures.ok c.restore.ensures.others
    (λ ok others. taken_some config s peer limit old new (sym named ∙ c.in-Some.is) c.requires
    (subst (λ (x : Session). AreShort x → new ≡ with_session limit x old) same ok)
    (subst (λ (x : Session). (AreShort x → ⊥) → new ≡ old) same others))
