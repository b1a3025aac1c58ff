use Rattle.roam_address.proofs.PrefixLemmas.{reads_whole}
use Rattle.roam_address.proofs.prefix.Prefix.read.Goals as goal

-- an address alone
pub returns-in-Some : goal.returns-in-Some
returns-in-Some c =
    reads_whole c.args.text.now c.in-Some.address c.of.result c.in-Some.ensures.states
    c.of.ensures.network c.of.ensures.all
