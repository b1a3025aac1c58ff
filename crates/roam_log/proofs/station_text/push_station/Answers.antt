use Rattle.std.proofs.Common.{◌≡◌, ◌∙◌, OnOk, ap, subst, sym}
use Rattle.roam_log.specs.Values.{octets_if, shown_value}
use Rattle.roam_log.proofs.StationLemmas.{station-hashed}
use Rattle.roam_log.proofs.station_text.push_station.Goals as goal

pub returns-in-Hashed-Some : goal.returns-in-Hashed-Some
returns-in-Hashed-Some c =
    let stands = sym c.octets.ensures ∙ ap shown_value c.in-Hashed-Some.is-1 in
    let told = station-hashed c.args.line.now.items c.args.form.now (octets_if c.args.station.now) c.in-Hashed-Some.key
    c.in-Hashed-Some.station.now c.in-Hashed-Some.is-0 stands in
    subst (λ text. OnOk c.push_hash.result (c.push_hash.new.line.items ≡ text)) told c.push_hash.ensures
