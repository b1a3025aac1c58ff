use Rattle.std.proofs.Common.{◌∙◌, List, ℕ, ap, sym}
use Rattle.std.specs.List.{slice_get}
use Rattle.std.specs.Option.{option_and_then}
use Rattle.roam_conf.specs.PeerIndex.{places_in, prefixes_in}
use Rattle.roam_conf.proofs.PrefixLemmas.{longest_peer}
use Rattle.roam_conf.proofs.peer_index.PeerIndex.longest.Goals as goal

-- the prefix that is found is the longest, and no two are the same
pub returns-in-Some : goal.returns-in-Some
returns-in-Some c = λ peers finds distinct.
    c.index_at.ensures
    ∙ ap (λ (l : List ℕ). slice_get l c.in-Some.place) (c.as_slice.ensures.value ∙ finds.places)
    ∙ ap (option_and_then (slice_get (places_in 0 peers))) (sym c.in-Some.is)
    ∙ longest_peer peers c.args.ip c.longest.result distinct (c.longest.ensures (prefixes_in peers) finds.prefixes)

pub returns-in-None : goal.returns-in-None
returns-in-None c = λ peers finds distinct.
    ap (option_and_then (slice_get (places_in 0 peers))) (sym c.in-None.is)
    ∙ longest_peer peers c.args.ip c.longest.result distinct (c.longest.ensures (prefixes_in peers) finds.prefixes)
