use Rattle.roam_reply.proofs.PassingLawLemmas.{accept_carries_what_passes, access_passes, nothing_named, other_attributes_pass, others_pass_whole, own_names_pass}
use Rattle.roam_reply.proofs.laws.passing_replies.Goals as goal

-- the laws are the lemmas
pub returns : goal.returns
returns c = record {
  access = access_passes;
  accept = accept_carries_what_passes;
  others = others_pass_whole;
  nothing = nothing_named;
  own_names = own_names_pass;
  other_attributes = other_attributes_pass;
}
