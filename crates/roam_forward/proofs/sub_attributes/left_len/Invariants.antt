use Rattle.roam_wire.proofs.KeptLemmas.{IsCount}
use Rattle.roam_forward.specs.Removal.{removed_by}
use Rattle.roam_forward.specs.Without.{is_left}
use Rattle.roam_forward.proofs.LeftLemmas.{subs_of}
use Rattle.roam_forward.proofs.sub_attributes.left_len.Given as goal

-- the octets of all that are left but those still to come were counted
abbrev pub invariant-loop-sub : goal.invariant-loop-sub
invariant-loop-sub l =
    IsCount (is_left (removed_by l.fn.removal) l.fn.vendor) (subs_of l.fn.octets) l.sub-iterator l.size
