use Rattle.std.proofs.Common.{◌≡◌, None, take}
use Rattle.std.specs.List.{find}
use Rattle.roam_crypto.specs.SaltedKinds.{is_of}
use Rattle.roam_crypto.proofs.salted_kinds.salting_in.Given as goal

-- none so far is of this kind
abbrev pub invariant-loop-owner : goal.invariant-loop-owner
invariant-loop-owner l = find (is_of l.vendor l.kind) (take l.owner-index l.list) ≡ None
