use Rattle.roam_pending.specs.Shown.{shown_request}
use Rattle.roam_migrate.proofs.EndsLemmas.{fit_test}
use Rattle.roam_migrate.proofs.ends.still_fits.Goals as goal

pub returns : goal.returns
returns g c = λ k well.
    let test = rw (c.shaping_from.ensures.shaping, c.of_packet-packet.ensures, c.as_slice.ensures) at
    c.can_be_shaped.ensures in
    fit_test k c.args.new.now c.args.peer (shown_request c.args.request.now) c.can_be_shaped.result well test
