-- One trace more, of the same configuration.
use Rattle.std.proofs.Common.{◌≡◌}
use Rattle.std.proofs.lemmas.List.Elements.{All-push}
use Rattle.roam_conf.specs.Shown.{shown}
use Rattle.roam_shard.specs.History.{TraceView}
use Rattle.test_playing.proofs.traces.traces_of.Goals as goal

pub loop-number-preserved : goal.loop-number-preserved
loop-number-preserved g c =
    rw c.in_ok-push.ensures.items
    (All-push (λ (t : TraceView). t.opening.config ≡ shown c.args.config.now)
    c.loop-number.traces.items c.in_ok-trace_of.field-0
    c.loop-number.invariant c.in_ok-trace_of.ensures)
