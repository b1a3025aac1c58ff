use Rattle.std.proofs.Common.{◌∙◌, ap, sym}
use Rattle.roam_conf.specs.Config.{RealmView}
use Rattle.roam_conf.specs.Parts.{shown_realm}
use Rattle.roam_reload.specs.Kept.{home_then}
use Rattle.roam_pending.specs.Shown.{shown_request}
use Rattle.roam_migrate.proofs.EndsLemmas.{home_off, home_on}
use Rattle.roam_migrate.proofs.ends.sender_then.Goals as goal

pub returns-in-Some-clause-stays : goal.returns-in-Some-clause-stays
returns-in-Some-clause-stays g c =
    let ip = c.args.request.now.key.from.ip in
    let then' = c.in-Some.ensures
    ∙ ap (λ (r : RealmView). home_then r (shown_realm c.realm-in-Home.result.now) ip c.in-Home.home) c.realm.ensures
    ∙ ap (λ (r : RealmView). home_then c.args.old.now.realm r ip c.in-Home.home) c.realm-in-Home.ensures in
    home_on c.args.old.now c.args.new.now (shown_request c.args.request.now) c.in-Home.home c.in-Some.home c.in-Home.is
    (sym then')

pub returns-in-None-clause-goes : goal.returns-in-None-clause-goes
returns-in-None-clause-goes g c =
    let ip = c.args.request.now.key.from.ip in
    let then' = c.in-None.ensures
    ∙ ap (λ (r : RealmView). home_then r (shown_realm c.realm-in-Home.result.now) ip c.in-Home.home) c.realm.ensures
    ∙ ap (λ (r : RealmView). home_then c.args.old.now.realm r ip c.in-Home.home) c.realm-in-Home.ensures in
    home_off c.args.old.now c.args.new.now (shown_request c.args.request.now) c.in-Home.home c.in-Home.is (sym then')
