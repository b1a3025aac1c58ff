use Rattle.std.proofs.Common.{◌≡◌, ◌∙◌, ◌++◌, ℕ, ap, codes, refl}
use Rattle.std.specs.Fmt.{decimal}
use Rattle.roam_log.specs.Exchanges.{further_text, server_text, station_text}
use Rattle.roam_log.specs.Values.{octets_if, value_text}
use Rattle.roam_log.proofs.LineLemmas.{then-more, then-this}
use Rattle.roam_log.proofs.exchange_line.push_rest.Goals as goal

-- one part after the other
pub returns : goal.returns
returns c =
    let x = c.args.exchange.now in
    let line = c.args.line.now.items in
    let named = c.push_value.new.line.items in
    let placed = c.push_station.new.line.items in
    let served = c.push_server.new.line.items in
    let timed = c.push_number.new.line.items in
    let tried = c.push_number-2.new.line.items in
    let ms = codes " ms=" in
    let tries = codes " tries=" in
    let one = value_text (codes " user=") (octets_if x.user) in
    let two = one ++ station_text c.args.stations.now (octets_if x.station) in
    let three = two ++ server_text x.server in
    let four = three ++ ms ++ decimal x.milliseconds in
    let five = four ++ tries ++ decimal x.tries in
    let first : named ≡ line ++ one =
    c.in_ok-push_value.ensures ∙ ap (λ o. line ++ value_text (codes " user=") o) c.octets.ensures in
    let second : placed ≡ line ++ two = then-this line named placed one _ first c.in_ok-push_station.ensures in
    let third : served ≡ line ++ three = then-this line placed served two _ second c.in_ok-push_server.ensures in
    let fourth : timed ≡ line ++ four =
    then-this line (served ++ ms) timed (three ++ ms) _ (then-this line served (served ++ ms) three ms third refl)
    c.in_ok-push_number.ensures in
    let number : tried ≡ timed ++ tries ++ decimal x.tries =
    c.in_ok-push_number-2.ensures ∙ ap (λ (n : ℕ). timed ++ tries ++ decimal n) c.from.ensures in
    let fifth : tried ≡ line ++ five =
    then-this line (timed ++ tries) tried (four ++ tries) _
    (then-this line timed (timed ++ tries) four tries fourth refl) number in
    then-more c.push_further.result line tried c.push_further.new.line.items five (further_text x) fifth
    c.push_further.ensures
