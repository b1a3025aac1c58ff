-- A broker whose realms all begin.
use Rattle.roam_conf.specs.Config.{ConfigView}
use Rattle.roam_core.specs.BrokerView.{BrokerView}
use Rattle.roam_core.specs.Openings.{fresh}

-- with this configuration, each of its realms begins
abbrev pub fresh_broker : ConfigView → BrokerView
fresh_broker config = record { config = config; states = fresh config }
