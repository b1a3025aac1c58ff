use Rattle.roam_forward.proofs.WithoutLawLemmas.{malformed_go, named_go, others_stay, parts_pass, passes_in_order, short_stay, vendors_go, vendors_stay}
use Rattle.roam_forward.proofs.removal_laws.what_passes.Goals as goal

-- the laws are the lemmas
pub returns : goal.returns
returns c = record {
  order = passes_in_order;
  named = named_go;
  others = others_stay;
  vendors = vendors_go;
  parts = parts_pass;
  malformed = malformed_go;
  stay = vendors_stay;
  short = short_stay;
}
