use Rattle.roam_conf.specs.Shown.{shown}
use Rattle.roam_log.specs.Exchanges.{rest_text, who_text}
use Rattle.roam_log.proofs.LineLemmas.{then-more}
use Rattle.roam_log.proofs.exchange_line.push_exchange.Goals as goal

pub returns : goal.returns
returns c =
    then-more c.push_rest.result c.args.line.now.items c.push_who.new.line.items c.push_rest.new.line.items
    (who_text (shown c.args.config.now) c.args.exchange.now) (rest_text c.args.stations.now c.args.exchange.now)
    c.in_ok-push_who.ensures c.push_rest.ensures
