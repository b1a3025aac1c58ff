use Rattle.roam_crypto.specs.HidingKeys.{password_key}
use Rattle.roam_crypto.proofs.SaltedFunctionLemmas.{value_anew-salt, value_anew-tag}
use Rattle.roam_crypto.proofs.by_salting.rehide_by.Goals as goal

-- the one way in which it can be hidden anew
pub returns-in-Salt : goal.returns-in-Salt
returns-in-Salt c =
    value_anew-salt (password_key c.args.from) (password_key c.args.to) c.args.salting c.in-Some.salting
    c.args.value.now c.rehide_value.new.value c.in-Some.is c.in-Salt.is c.rehide_value.ensures

pub returns-in-TagAndSalt : goal.returns-in-TagAndSalt
returns-in-TagAndSalt c =
    value_anew-tag (password_key c.args.from) (password_key c.args.to) c.args.salting c.in-Some.salting
    c.args.value.now c.rehide_tunnel.new.value c.in-Some.is c.in-TagAndSalt.is c.rehide_tunnel.ensures
