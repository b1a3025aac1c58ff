use Rattle.std.proofs.Common.{◌≡◌, ℕ, List, length, ap, sym, subst, ◌∙◌, arith}
use Rattle.std.proofs.lemmas.List.{length-map}
use Rattle.roam_conf.specs.Parts.{shown_peer}
use Rattle.roam_reload.specs.Reload.{realm_part}
use Rattle.roam_migrate.specs.Carrying.{AreChanged}
use Rattle.roam_migrate.proofs.ChangedLemmas.{keeps-peers, none-noted}
use Rattle.roam_migrate.proofs.reload.is_untouched.Goals as goal

pub returns-in-None : goal.returns-in-None
returns-in-None c = λ _.
    let none = none-noted c.args.changed.now (sym c.is_empty.ensures ∙ c.if-not-is_empty.false) in
    let was : length c.peers.result.now ≡ length c.args.old.now.peers =
    sym (length-map c.peers.result.now shown_peer) ∙ ap length c.peers.ensures.peers in
    let is : length c.peers-2.result.now ≡ length c.args.new.now.peers =
    sym (length-map c.peers-2.result.now shown_peer) ∙ ap length c.peers-2.ensures.peers in
    record {
      table = ap realm_part (sym c.realm-2.ensures) ∙ c.in-None.ensures.none ∙ ap realm_part c.realm.ensures;
      peers = keeps-peers c.args.old.now.peers c.args.new.now.peers
          (subst (λ (l : List ℕ). AreChanged c.args.old.now.peers c.args.new.now.peers l) none c.requires);
      count = omega (arith, was, is, c.if-peers.false);
    }
