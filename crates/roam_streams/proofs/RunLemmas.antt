-- What was received, sent, put and written in a run of events of one stream.
use Rattle.std.proofs.Common.{◌≡◌, List, [], ◌∷◌, ◌++◌, sym, ◌∙◌, ap, append_assoc, append-nil}
use Rattle.std.specs.List.{AllByRecursion}
use Rattle.roam_streams.specs.Cutting.{IsPacket, joined}
use Rattle.roam_streams.specs.Streams.{Kept, StreamEvent, came, sent, put, wrote, Run, received, sent_packets, put_packets, written}

-- what was kept and what came is what was sent and what is kept
pub received_or_kept :
    (events : List StreamEvent) (old new : Kept) → Run old events new
    → old.unsent ++ received events ≡ joined (sent_packets events) ++ new.unsent
received_or_kept [] old new r = append-nil old.unsent ∙ sym (ap (λ (k : Kept). k.unsent) r)
received_or_kept (came octets ∷ events) old new (middle, step, run) =
    sym (append_assoc old.unsent octets (received events))
    ∙ ap (λ u. u ++ received events) (sym step.0)
    ∙ received_or_kept events middle new run
received_or_kept (sent packet ∷ events) old new (middle, step, run) =
    ap (λ u. u ++ received events) step.1
    ∙ append_assoc packet middle.unsent (received events)
    ∙ ap (λ u. packet ++ u) (received_or_kept events middle new run)
    ∙ sym (append_assoc packet (joined (sent_packets events)) new.unsent)
received_or_kept (put packet ∷ events) old new (middle, step, run) =
    ap (λ u. u ++ received events) (sym step.0) ∙ received_or_kept events middle new run
received_or_kept (wrote octets ∷ events) old new (middle, step, run) =
    ap (λ u. u ++ received events) (sym step.0) ∙ received_or_kept events middle new run

-- each that is sent is a packet
pub sent_are_packets :
    (events : List StreamEvent) (old new : Kept) → Run old events new
    → AllByRecursion IsPacket (sent_packets events)
sent_are_packets [] old new r = tt
sent_are_packets (came octets ∷ events) old new (middle, step, run) = sent_are_packets events middle new run
sent_are_packets (sent packet ∷ events) old new (middle, step, run) =
    (step.0, sent_are_packets events middle new run)
sent_are_packets (put packet ∷ events) old new (middle, step, run) = sent_are_packets events middle new run
sent_are_packets (wrote octets ∷ events) old new (middle, step, run) = sent_are_packets events middle new run

-- what was kept and what was put is what was written and what is kept
pub put_or_kept :
    (events : List StreamEvent) (old new : Kept) → Run old events new
    → old.unwritten ++ joined (put_packets events) ≡ written events ++ new.unwritten
put_or_kept [] old new r = append-nil old.unwritten ∙ sym (ap (λ (k : Kept). k.unwritten) r)
put_or_kept (came octets ∷ events) old new (middle, step, run) =
    ap (λ u. u ++ joined (put_packets events)) (sym step.1) ∙ put_or_kept events middle new run
put_or_kept (sent packet ∷ events) old new (middle, step, run) =
    ap (λ u. u ++ joined (put_packets events)) (sym step.2) ∙ put_or_kept events middle new run
put_or_kept (put packet ∷ events) old new (middle, step, run) =
    sym (append_assoc old.unwritten packet (joined (put_packets events)))
    ∙ ap (λ u. u ++ joined (put_packets events)) (sym step.1)
    ∙ put_or_kept events middle new run
put_or_kept (wrote octets ∷ events) old new (middle, step, run) =
    ap (λ u. u ++ joined (put_packets events)) step.1
    ∙ append_assoc octets middle.unwritten (joined (put_packets events))
    ∙ ap (λ u. octets ++ u) (put_or_kept events middle new run)
    ∙ sym (append_assoc octets (written events) new.unwritten)
