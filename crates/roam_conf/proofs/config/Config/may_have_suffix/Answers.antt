use Rattle.std.proofs.Common.{refl, sym, arith}
use Rattle.std.proofs.lemmas.Bool.Decides.{nat_tests}
use Rattle.roam_conf.specs.Config.{suffix}
use Rattle.roam_conf.specs.Shown.{shown}
use Rattle.roam_conf.proofs.ShortNameLemmas.{not_found}
use Rattle.roam_conf.proofs.SuffixLemmas.{no_suffix}
use Rattle.roam_conf.proofs.config.Config.may_have_suffix.Goals as goal

-- the length isn't marked
pub returns-then-octets-lt254-clause-none : goal.returns-then-octets-lt254-clause-none
returns-then-octets-lt254-clause-none c = λ off name size.
    no_suffix (shown c.args.self.now) c.args.self.now.found_by.suffix_lengths _ c.args.octets
    c.args.self.now.found_by.marked c.args.self.now.names_noted (grind (arith, nat_tests)) off name size

-- no realm has a name so long
pub returns-else-octets-lt254-clause-none : goal.returns-else-octets-lt254-clause-none
returns-else-octets-lt254-clause-none c = λ off name size.
    sym (not_found c.args.self.now (suffix name) 46 name (grind (arith, nat_tests)) refl)
