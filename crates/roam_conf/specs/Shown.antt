-- The configuration as a plain record, without allocators and capacities. Ours.
use Rattle.std.specs.Prelude.{map}
use Rattle.roam_conf.specs.declared.config.Config.{Config}
use Rattle.roam_conf.specs.declared.parts.ConfigParts.{ConfigParts}
use Rattle.roam_conf.specs.Config.{ConfigView}
use Rattle.roam_conf.specs.Parts.{shown_peer, shown_realm}
use Rattle.roam_conf.specs.Patterns.{shown_pattern}

abbrev pub shown : Config → ConfigView
shown config = record {
  shards = config.top.shards;
  seed = config.top.seed;
  auth = config.auth.items;
  acct = config.acct.items;
  trace_limit = config.top.trace_limit;
  trace_octets = config.top.trace_octets;
  max_hops = config.top.max_hops;
  max_attributes = config.top.max_attributes;
  status_server = config.top.status_server;
  spread = config.top.spread;
  reject = map shown_pattern config.reject.items;
  well_formed = config.top.well_formed;
  answer_unnamed = config.top.answer_unnamed;
  fresh = config.top.fresh;
  peers = map shown_peer config.peers.items;
  realms = map shown_realm config.realms.items;
}

-- the same of the parts that a configuration is made of, in which something may still stand twice
abbrev pub shown_parts : ConfigParts → ConfigView
shown_parts parts = record {
  shards = parts.top.shards;
  seed = parts.top.seed;
  auth = parts.auth.items;
  acct = parts.acct.items;
  trace_limit = parts.top.trace_limit;
  trace_octets = parts.top.trace_octets;
  max_hops = parts.top.max_hops;
  max_attributes = parts.top.max_attributes;
  status_server = parts.top.status_server;
  spread = parts.top.spread;
  reject = map shown_pattern parts.reject.items;
  well_formed = parts.top.well_formed;
  answer_unnamed = parts.top.answer_unnamed;
  fresh = parts.top.fresh;
  peers = map shown_peer parts.peers.items;
  realms = map shown_realm parts.realms.items;
}
