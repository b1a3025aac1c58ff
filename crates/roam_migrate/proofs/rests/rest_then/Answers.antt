use Rattle.std.proofs.Common.{◌<◌, ◌∙◌, Option, ap, arith, get_or, length, sym, ℕ}
use Rattle.std.specs.Option.{option_map_or}
use Rattle.roam_conf.specs.Lookup.{out_of}
use Rattle.roam_conf.specs.declared.place.Link.{Link}
use Rattle.roam_realm.specs.Rests.{awake, rest_of}
use Rattle.roam_migrate.proofs.LinkThenLemmas.{rest_there}
use Rattle.roam_migrate.proofs.rests.rest_then.Goals as goal

pub end_place-requires : goal.end_place-requires
end_place-requires c =
    let some : out_of c.args.link < length c.args.old.now.realm.out =
    omega (arith, c.requires.first, c.out_count-outs.ensures.some, c.out_count-outs.ensures.count) in
    rest_there c.args.old.now c.args.new.now c.args.link c.in-Some.link c.requires.link c.requires.server some
    (sym c.in-Some.ensures)

pub returns-in-Some : goal.returns-in-Some
returns-in-Some c =
    c.rest_at.ensures ∙ ap (λ (k : ℕ). get_or c.args.before.now k awake) c.end_place.ensures.place
    ∙ ap (λ (o : Option Link). option_map_or (rest_of c.args.old.now c.args.before.now) o awake) c.in-Some.ensures

pub returns-in-None : goal.returns-in-None
returns-in-None c =
    c.awake.ensures
    ∙ ap (λ (o : Option Link). option_map_or (rest_of c.args.old.now c.args.before.now) o awake) c.in-None.ensures
