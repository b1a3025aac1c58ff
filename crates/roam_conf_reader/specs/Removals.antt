-- The attributes that the lists of a table may name, by what they are taken out of. Ours.
use Rattle.std.specs.Prelude.{ℕ, Bool, List}
use Rattle.roam_wire.specs.RemovedAttributes.{kept_in_requests, kept_in_replies, is_removal_in_requests, is_removal_in_replies}
use Rattle.roam_wire.specs.declared.removed_attribute.RemovedAttribute.{RemovedAttribute}
use Rattle.roam_conf_reader.specs.declared.removed.Removals.{Removals}
use Rattle.roam_conf_reader.specs.declared.removed.Removals.TheVariants.{OfRequests, OfReplies}

-- the Types that stay
abbrev pub kept_of : Removals → List ℕ
kept_of OfRequests = kept_in_requests
kept_of OfReplies = kept_in_replies

-- a list may name the attribute
abbrev pub may_name : Removals → RemovedAttribute → Bool
may_name OfRequests = is_removal_in_requests
may_name OfReplies = is_removal_in_replies
