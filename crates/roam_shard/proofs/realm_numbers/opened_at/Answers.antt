use Rattle.std.proofs.Common.{◌==◌, ◌≡◌, ℕ, true, ap, sym, subst, ◌∙◌, arith}
use Rattle.std.proofs.lemmas.Bool.Decides.{nat_tests}
use Rattle.roam_conf.specs.Shown.{shown}
use Rattle.roam_realm.specs.RealmConfig.{RealmConfig}
use Rattle.roam_shard.specs.NumbersView.{IsFresh}
use Rattle.roam_shard.proofs.realm_numbers.opened_at.Goals as goal

pub returns : goal.returns
returns g c =
    let n = c.in_ok-numbers.ensures in
    let config = shown c.args.config.now in
    let same : c.shard_of.result ≡ c.args.shard = omega (arith, c.if-shard_of-shard.false) in
    let is : (c.shard_of.result == c.args.shard) ≡ true = grind (arith, nat_tests, same) in
    record {
      own = sym (ap (λ (q : ℕ). q == c.args.shard) (sym c.shard_of.ensures.value) ∙ is);
      fresh =
          subst (λ (x : RealmConfig). IsFresh x c.args.start c.in_ok-numbers.numbers)
          c.new-settings.ensures
          (record {
            count = n.count;
            cursors = n.cursors;
            free = n.free;
            lanes = n.lanes;
            ticket =
                n.ticket;
            place = n.place;
            sessions = n.sessions;
            rests = n.rests;
            ledger = n.ledger;
          });
    }
