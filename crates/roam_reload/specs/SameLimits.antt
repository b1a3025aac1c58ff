-- Two tables of a realm with equal times and limits, and with equal decisions of the operator: words of private
-- functions alone (ours).
use Rattle.std.specs.Prelude.{◌≡◌}
use Rattle.roam_conf.specs.Config.{RealmView}

pub record HaveSameLimits (old new : RealmView) : Type 0 where
  pub tries : new.tries ≡ old.tries
  pub wait : new.wait ≡ old.wait
  pub hold : new.hold ≡ old.hold
  pub max_pending : new.max_pending ≡ old.max_pending
  pub max_sessions : new.max_sessions ≡ old.max_sessions
  pub rest : new.rest ≡ old.rest
  pub rest_after : new.rest_after ≡ old.rest_after

-- who may ask, what becomes of accounting, what is taken out, and the share of a name
pub record HaveSamePolicy (old new : RealmView) : Type 0 where
  pub peers : new.peers ≡ old.peers
  pub loop_prevention : new.loop_prevention ≡ old.loop_prevention
  pub accounting : new.accounting ≡ old.accounting
  pub request_without : new.request_without ≡ old.request_without
  pub reply_without : new.reply_without ≡ old.reply_without
  pub share : new.share ≡ old.share

-- what a peer takes of the realm, and what its home servers may do
pub record HaveSameParts (old new : RealmView) : Type 0 where
  pub peer_share : new.peer_share ≡ old.peer_share
  pub own_names : new.own_names ≡ old.own_names
  pub conversations : new.conversations ≡ old.conversations
  pub by_user : new.by_user ≡ old.by_user
  pub own_sessions : new.own_sessions ≡ old.own_sessions
  pub coa_clients : new.coa_clients ≡ old.coa_clients
