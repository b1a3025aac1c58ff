-- Laws of cutting, and of all that may happen on a connection (ours). Each is what a function of `laws` ensures.
use Rattle.std.specs.Prelude.{◌≡◌, ℕ, List, ◌++◌, Option}
use Rattle.roam_streams.specs.Cutting.{Cuts, IsFaulty, IsUnfinished, joined}
use Rattle.roam_streams.specs.Requests.{NoneRepeated, RequestRun, none_put}
use Rattle.roam_streams.specs.Streams.{Kept, Run, StreamEvent, none_kept, put_packets, received, sent_packets, written}
use Rattle.roam_streams.specs.Waits.{AreSpaced, WaitEvent, WaitRun, none_waits}
use Rattle.roam_streams.specs.declared.identifier_waits.IdentifierWaits.{IdentifierWaits}

-- octets have one cutting
abbrev pub OneCutting : Type 0
OneCutting =
    (octets : List ℕ) (packets others : List (List ℕ)) (rest other : List ℕ)
    → Cuts octets packets rest → Cuts octets others other → (packets ≡ others) × (rest ≡ other)

-- how a stream was broken into pieces doesn't matter: what comes is cut with the rest before
abbrev pub PiecesDoNotMatter : Type 0
PiecesDoNotMatter =
    (first second : List ℕ) (packets more : List (List ℕ)) (rest last : List ℕ)
    → Cuts first packets rest → IsUnfinished rest → Cuts (rest ++ second) more last
    → Cuts (first ++ second) (packets ++ more) last

-- behind a fault there is no packet, whatever comes
abbrev pub FaultStays : Type 0
FaultStays =
    (first second : List ℕ) (packets : List (List ℕ)) (rest : List ℕ)
    → Cuts first packets rest → IsFaulty rest → Cuts (first ++ second) packets (rest ++ second)

-- what is sent on is a beginning of the packets of the cutting of what came, each once and in order, and what is kept
-- is the rest of it
abbrev pub SendsWhatCame : Type 0
SendsWhatCame =
    (events : List StreamEvent) (new : Kept) (packets : List (List ℕ)) (rest : List ℕ)
    → Run none_kept events new → Cuts (received events) packets rest
    → (later : List (List ℕ)) × (packets ≡ sent_packets events ++ later) × Cuts new.unsent later rest

-- what is written is a beginning of the packets that were put, one behind the other, and what is kept is the rest
abbrev pub WritesWhatWasPut : Type 0
WritesWhatWasPut =
    (events : List StreamEvent) (new : Kept)
    → Run none_kept events new → joined (put_packets events) ≡ written events ++ new.unwritten

-- between two uses of an Identifier there are 1,000 ms, or it came back
abbrev pub UsesAreSpaced : Type 0
UsesAreSpaced =
    (events : List WaitEvent) (new : IdentifierWaits) → WaitRun none_waits events new → AreSpaced events

-- no two requests in a row under one Identifier have one Authenticator
abbrev pub RequestsAreNotRepeated : Type 0
RequestsAreNotRepeated =
    (packets : List (List ℕ)) (new : List (Option (List ℕ))) → RequestRun none_put packets new → NoneRepeated packets
