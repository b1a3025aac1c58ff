-- What the derived `==` of a server, a `coa_client` and a peer says: that what is shown is equal.
use Rattle.std.proofs.Common.{◌≡◌, Bool, eqb, ◌&&◌, string_bytes, Decides, ap}
use Rattle.std.proofs.Math.Bool.{beq}
use Rattle.std.proofs.lemmas.Bool.Decides.{Decides-and, Decides-like}
use Rattle.std.proofs.lemmas.Slice.Eq.{bytes_eq-Decides}
use Rattle.std.specs.Cmp.{booleans_Decides}
use Rattle.std.specs.Cmp.Lexicographic.{pointwise}
use Rattle.std.specs.Option.{option_eq}
use Rattle.std.specs.String.{string_eq}
use Rattle.roam_address.specs.Prefixes.{shown_prefix}
use Rattle.roam_address.specs.Same.{same_address}
use Rattle.roam_address.proofs.SameLemmas.{address_decides}
use Rattle.roam_conf.specs.declared.coa_client.CoaClient.{CoaClient}
use Rattle.roam_conf.specs.declared.peer.Peer.{Peer}
use Rattle.roam_conf.specs.declared.server.Server.{Server}
use Rattle.roam_conf.specs.Config.{ServerView, CoaClientView, PeerView}
use Rattle.roam_conf.specs.Parts.{shown_server, shown_client, shown_peer}
use Rattle.roam_conf.proofs.EqualPartsLemmas.{list_decides, whole_list_decides, option_decides, whole_option_decides, text_decides, endpoint_eq, endpoint_decides, prefix_eq, prefix_decides, removed_eq, removed_decides}

-- the tests as the derives write them
abbrev pub server_eq : Server → Server → Bool
server_eq a b =
    option_eq endpoint_eq a.auth b.auth &&
    (option_eq endpoint_eq a.acct b.acct &&
    (pointwise eqb a.secret b.secret &&
    (beq a.require_seal b.require_seal)))

abbrev pub client_eq : CoaClient → CoaClient → Bool
client_eq a b =
    same_address a.ip b.ip &&
    (pointwise eqb a.secret b.secret)

abbrev pub peer_eq : Peer → Peer → Bool
peer_eq a b =
    beq a.gone b.gone &&
    (string_eq a.name b.name &&
    (pointwise prefix_eq a.ips.items b.ips.items &&
    (pointwise eqb a.secret b.secret &&
    (option_eq endpoint_eq a.coa b.coa &&
    (option_eq (pointwise eqb) a.nas_ip b.nas_ip &&
    (option_eq (pointwise eqb) a.nas_ipv6 b.nas_ipv6 &&
    (option_eq string_eq a.nas_id b.nas_id &&
    (pointwise string_eq a.nas_ids.items b.nas_ids.items &&
    (beq a.require_seal b.require_seal &&
    (beq a.limit_proxy_state b.limit_proxy_state &&
    (option_eq string_eq a.operator_name b.operator_name &&
    (beq a.ask_cui b.ask_cui &&
    (pointwise removed_eq a.request_without.items b.request_without.items &&
    (pointwise removed_eq a.reply_without.items b.reply_without.items))))))))))))))

pub server_decides : (a b : Server) → Decides (server_eq a b) (shown_server a ≡ shown_server b)
server_decides a b =
    let v = shown_server a in
    let w = shown_server b in
    Decides-like {P = (v.auth ≡ w.auth) × ((v.acct ≡ w.acct) × ((v.secret ≡ w.secret)
    × ((v.require_seal ≡ w.require_seal))))} _
    (λ p. λ i. record {
      auth = p.0 i;
      acct = p.1.0 i;
      secret = p.1.1.0 i;
      require_seal = p.1.1.1 i;
    })
    (λ e. (
      ap (λ (x : ServerView). x.auth) e,
      (
        ap (λ (x : ServerView). x.acct) e,
        (
          ap (λ (x : ServerView). x.secret) e,
          ap (λ (x : ServerView). x.require_seal) e,
        ),
      ),
    ))
    (Decides-and _ _ (whole_option_decides endpoint_eq endpoint_decides a.auth b.auth)
    (Decides-and _ _ (whole_option_decides endpoint_eq endpoint_decides a.acct b.acct)
    (Decides-and _ _ (bytes_eq-Decides a.secret b.secret)
    (booleans_Decides a.require_seal b.require_seal))))

pub client_decides : (a b : CoaClient) → Decides (client_eq a b) (shown_client a ≡ shown_client b)
client_decides a b =
    let v = shown_client a in
    let w = shown_client b in
    Decides-like {P = (v.ip ≡ w.ip) × ((v.secret ≡ w.secret))} _
    (λ p. λ i. record {
      ip = p.0 i;
      secret = p.1 i;
    })
    (λ e. (ap (λ (x : CoaClientView). x.ip) e, ap (λ (x : CoaClientView). x.secret) e))
    (Decides-and _ _ (address_decides a.ip b.ip)
    (bytes_eq-Decides a.secret b.secret))

pub peer_decides : (a b : Peer) → Decides (peer_eq a b) (shown_peer a ≡ shown_peer b)
peer_decides a b =
    let v = shown_peer a in
    let w = shown_peer b in
    Decides-like {P = (v.gone ≡ w.gone) × ((v.name ≡ w.name) × ((v.ips ≡ w.ips) × ((v.secret ≡ w.secret)
    × ((v.coa ≡ w.coa) × ((v.nas_ip ≡ w.nas_ip) × ((v.nas_ipv6 ≡ w.nas_ipv6) × ((v.nas_id ≡ w.nas_id)
    × ((v.nas_ids ≡ w.nas_ids) × ((v.require_seal ≡ w.require_seal)
    × ((v.limit_proxy_state ≡ w.limit_proxy_state) × ((v.operator_name ≡ w.operator_name)
    × ((v.ask_cui ≡ w.ask_cui) × ((v.request_without ≡ w.request_without)
    × ((v.reply_without ≡ w.reply_without)))))))))))))))} _
    (λ p. λ i. record {
      gone = p.0 i;
      name = p.1.0 i;
      ips = p.1.1.0 i;
      secret = p.1.1.1.0 i;
      coa = p.1.1.1.1.0 i;
      nas_ip = p.1.1.1.1.1.0 i;
      nas_ipv6 = p.1.1.1.1.1.1.0 i;
      nas_id = p.1.1.1.1.1.1.1.0 i;
      nas_ids = p.1.1.1.1.1.1.1.1.0 i;
      require_seal = p.1.1.1.1.1.1.1.1.1.0 i;
      limit_proxy_state = p.1.1.1.1.1.1.1.1.1.1.0 i;
      operator_name = p.1.1.1.1.1.1.1.1.1.1.1.0 i;
      ask_cui = p.1.1.1.1.1.1.1.1.1.1.1.1.0 i;
      request_without = p.1.1.1.1.1.1.1.1.1.1.1.1.1.0 i;
      reply_without = p.1.1.1.1.1.1.1.1.1.1.1.1.1.1 i;
    })
    (λ e. (
      ap (λ (x : PeerView). x.gone) e,
      (
        ap (λ (x : PeerView). x.name) e,
        (
          ap (λ (x : PeerView). x.ips) e,
          (
            ap (λ (x : PeerView). x.secret) e,
            (
              ap (λ (x : PeerView). x.coa) e,
              (
                ap (λ (x : PeerView). x.nas_ip) e,
                (
                  ap (λ (x : PeerView). x.nas_ipv6) e,
                  (
                    ap (λ (x : PeerView). x.nas_id) e,
                    (
                      ap (λ (x : PeerView). x.nas_ids) e,
                      (
                        ap (λ (x : PeerView). x.require_seal) e,
                        (
                          ap (λ (x : PeerView). x.limit_proxy_state) e,
                          (
                            ap (λ (x : PeerView). x.operator_name) e,
                            (
                              ap (λ (x : PeerView). x.ask_cui) e,
                              (
                                ap (λ (x : PeerView). x.request_without) e,
                                ap (λ (x : PeerView). x.reply_without) e,
                              ),
                            ),
                          ),
                        ),
                      ),
                    ),
                  ),
                ),
              ),
            ),
          ),
        ),
      ),
    ))
    (Decides-and _ _ (booleans_Decides a.gone b.gone)
    (Decides-and _ _ (text_decides a.name b.name)
    (Decides-and _ _ (list_decides prefix_eq shown_prefix prefix_decides a.ips.items b.ips.items)
    (Decides-and _ _ (bytes_eq-Decides a.secret b.secret)
    (Decides-and _ _ (whole_option_decides endpoint_eq endpoint_decides a.coa b.coa)
    (Decides-and _ _ (whole_option_decides (pointwise eqb) bytes_eq-Decides a.nas_ip b.nas_ip)
    (Decides-and _ _ (whole_option_decides (pointwise eqb) bytes_eq-Decides a.nas_ipv6 b.nas_ipv6)
    (Decides-and _ _ (option_decides string_eq string_bytes text_decides a.nas_id b.nas_id)
    (Decides-and _ _ (list_decides string_eq string_bytes text_decides a.nas_ids.items b.nas_ids.items)
    (Decides-and _ _ (booleans_Decides a.require_seal b.require_seal)
    (Decides-and _ _ (booleans_Decides a.limit_proxy_state b.limit_proxy_state)
    (Decides-and _ _ (option_decides string_eq string_bytes text_decides a.operator_name b.operator_name)
    (Decides-and _ _ (booleans_Decides a.ask_cui b.ask_cui)
    (Decides-and _ _ (whole_list_decides removed_eq removed_decides a.request_without.items b.request_without.items)
    (whole_list_decides removed_eq removed_decides a.reply_without.items b.reply_without.items)))))))))))))))
