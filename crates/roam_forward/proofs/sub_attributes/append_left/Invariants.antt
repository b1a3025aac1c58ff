use Rattle.std.proofs.Common.{◌≡◌, vec_len, vec_capacity}
use Rattle.roam_wire.proofs.KeptLemmas.{IsAppending}
use Rattle.roam_forward.specs.Removal.{removed_by}
use Rattle.roam_forward.specs.Without.{is_left}
use Rattle.roam_forward.proofs.LeftLemmas.{subs_of}
use Rattle.roam_forward.proofs.sub_attributes.append_left.Given as goal

-- all that are left but those still to come were appended, and there is room for these
abbrev pub invariant-loop-sub : goal.invariant-loop-sub
invariant-loop-sub g l = record {
  appending : IsAppending (is_left (removed_by l.fn.removal) l.fn.vendor) (subs_of l.fn.octets) l.sub-iterator
      l.fn.out.items l.out.items (vec_len l.out) (vec_capacity l.out);
  capacity : vec_capacity l.out ≡ vec_capacity l.fn.out;
}
