-- The index of what reverse requests name a peer by. Ours.
use Rattle.std.specs.Prelude.{◌≡◌, ℕ, List, Option}
use Rattle.roam_conf.specs.declared.nas_index.NasIndex.{NasIndex}
use Rattle.roam_conf.specs.declared.nas_index.NasRef.{NasRef}
use Rattle.roam_conf.specs.declared.nas_index.NasRef.TheVariants.{Exactly, Begins}
use Rattle.roam_conf.specs.declared.target_index.TargetIndex.{TargetIndex}
use Rattle.roam_conf.specs.Config.{PeerView}
use Rattle.roam_conf.specs.Index.{owners, owner_of}
use Rattle.roam_conf.specs.Operators.{operator_key}
use Rattle.roam_conf.specs.Targets.{NasPattern, exactly, begins, peer_with_nas, peer_with_nas_ip, peer_with_nas_ipv6, peer_with_operator, some_nas_ipv6, some_operator}

-- a pattern that is noted or looked for
abbrev pub nas_seen : NasRef → NasPattern
nas_seen (Exactly name) = exactly name.now
nas_seen (Begins front) = begins front.now

-- whose a pattern is
abbrev pub nas_owner : NasIndex → NasPattern → Option ℕ
nas_owner index (exactly name) = owner_of (owners index.identifiers) name
nas_owner index (begins front) = owner_of (owners index.fronts) front

-- the index finds what the look-ups in the list of peers say
pub record FindsTargets (index : TargetIndex) (peers : List PeerView) : Type 0 where
  pub patterns : (pattern : NasPattern) → nas_owner index.nas pattern ≡ peer_with_nas peers pattern
  pub nas_ips : (ip : List ℕ) → owner_of (owners index.nas_ips) ip ≡ peer_with_nas_ip peers ip
  pub nas_ipv6s : (ip : List ℕ) → owner_of (owners index.nas_ipv6s) ip ≡ peer_with_nas_ipv6 peers ip
  pub some_nas_ipv6 : index.some_nas_ipv6 ≡ some_nas_ipv6 peers
  pub operators : (value : List ℕ)
      → owner_of (owners index.operators) (operator_key value) ≡ peer_with_operator peers value
  pub some_operator : index.some_operator ≡ some_operator peers
