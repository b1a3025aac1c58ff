use Rattle.roam_streams.proofs.RunLemmas.{put_or_kept}
use Rattle.roam_streams.specs.Streams.{none_kept}
use Rattle.roam_streams.proofs.laws.writing.Goals as goal

pub returns : goal.returns
returns c events new run = put_or_kept events none_kept new run
