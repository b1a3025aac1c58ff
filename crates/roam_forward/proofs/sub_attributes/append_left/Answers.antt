use Rattle.std.proofs.Common.{vec_len, vec_capacity, refl, sym, ◌∙◌, arith}
use Rattle.roam_forward.specs.Removal.{removed_by}
use Rattle.roam_forward.proofs.LeftLemmas.{appending-start}
use Rattle.roam_forward.proofs.sub_attributes.append_left.Goals as goal

-- nothing is appended yet
pub loop-sub-init : goal.loop-sub-init
loop-sub-init g c = record {
  appending = appending-start (removed_by c.args.removal.now) c.args.vendor c.args.octets.now c.args.out.now.items
      c.in-Some.subs c.into_iter-sub-iterator.result (vec_len c.args.out.now) (vec_capacity c.args.out.now)
      (λ i. omega (arith, c.type_inv.octets i)) (sym c.read.ensures ∙ c.in-Some.is)
      c.into_iter-sub-iterator.ensures.into_iter_gives c.requires.room;
  capacity = refl;
}
