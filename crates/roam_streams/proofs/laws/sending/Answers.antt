use Rattle.std.proofs.Common.{sym, ◌∙◌}
use Rattle.roam_streams.proofs.CuttingLemmas.{sent_is_beginning}
use Rattle.roam_streams.proofs.RunLemmas.{received_or_kept, sent_are_packets}
use Rattle.roam_streams.specs.Streams.{none_kept, sent_packets}
use Rattle.roam_streams.proofs.laws.sending.Goals as goal

pub returns : goal.returns
returns c events new packets rest run cuts =
    sent_is_beginning (sent_packets events) packets new.unsent rest
    (sym (received_or_kept events none_kept new run) ∙ cuts.whole)
    (sent_are_packets events none_kept new run) cuts.each cuts.ends
