use Rattle.std.proofs.Common.{◌∙◌, ap, refl, sym}
use Rattle.roam_conf.specs.Config.{RealmView}
use Rattle.roam_conf.specs.Parts.{shown_realm}
use Rattle.roam_reload.specs.Kept.{same_servers}
use Rattle.roam_migrate.proofs.MovedRestLemmas.{rests_kept, rests_moved}
use Rattle.roam_migrate.proofs.rests.take_rests.Goals as goal

pub returns-then-not-has_same_servers : goal.returns-then-not-has_same_servers
returns-then-not-has_same_servers g c =
    let test = c.has_same_servers.ensures
    ∙ ap (λ (r : RealmView). same_servers r.servers (shown_realm c.realm-2.result.now).servers) c.realm.ensures
    ∙ ap (λ (r : RealmView). same_servers c.args.old.now.realm.servers r.servers) c.realm-2.ensures in
    let moved = rw c.as_slice.ensures.value at c.move_rests.ensures in
    record {
      rests = rests_moved c.args.old.now c.args.new.now c.args.numbers.now.rests.items c.move_rests.new.after.items
          (sym test ∙ c.if-not-has_same_servers.true) moved;
      lanes = refl;
      ticket = refl;
      stream_position = refl;
      sessions = refl;
    }

pub returns-else-not-has_same_servers : goal.returns-else-not-has_same_servers
returns-else-not-has_same_servers g c =
    let test = c.has_same_servers.ensures
    ∙ ap (λ (r : RealmView). same_servers r.servers (shown_realm c.realm-2.result.now).servers) c.realm.ensures
    ∙ ap (λ (r : RealmView). same_servers c.args.old.now.realm.servers r.servers) c.realm-2.ensures in
    record {
      rests = rests_kept c.args.old.now c.args.new.now c.args.numbers.now.rests.items
          (sym test ∙ c.if-not-has_same_servers.false);
      lanes = refl;
      ticket = refl;
      stream_position = refl;
      sessions = refl;
    }
