-- One front more was seen.
use Rattle.std.proofs.Common.{◌≡◌, ℕ, List, slice_set, ap, ◌∙◌}
use Rattle.std.proofs.lemmas.List.{map-set}
use Rattle.roam_history.specs.Fronts.{FrontView, entries_of}
use Rattle.roam_history.specs.Seats.{SeatView, having_seen}
use Rattle.roam_history.proofs.seat.Seat.learn.Goals as goal

pub returns : goal.returns
returns g c =
    let i = c.self.inside in
    let front : FrontView = c.args.front in
    let fronts : List FrontView = i.fronts.items in
    let n : c.from-shard.result ≡ front.shard = c.from-shard.ensures ∙ c.shard.ensures in
    let set : entries_of (slice_set fronts c.from-shard.result front)
    ≡ slice_set (entries_of fronts) front.shard front.entries =
    map-set (λ (f : FrontView). f.entries) fronts c.from-shard.result front
    ∙ ap (λ (k : ℕ). slice_set (entries_of fronts) k front.entries) n in
    (λ j. record { tallies = i.tallies.items; times = i.times.items; fronts = set j })
    ∙ ap (λ (s : SeatView). having_seen s front.shard front.entries) c.self.view_is
