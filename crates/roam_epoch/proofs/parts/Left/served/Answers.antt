-- The steps that were audited are those.
use Rattle.roam_epoch.proofs.parts.Left.served.Goals as goal

pub returns-clause-ends : goal.returns-clause-ends
returns-clause-ends g c = (_, c.requires.ends)
