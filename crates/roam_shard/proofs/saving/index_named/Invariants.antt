use Rattle.std.proofs.Common.{◌≡◌, ◌&&◌, not, map, drop}
use Rattle.std.specs.List.{position_from}
use Rattle.std.specs.Str.{str_eq_ignore_ascii_case}
use Rattle.roam_conf.specs.Config.{RealmView}
use Rattle.roam_conf.specs.Lookup.{first_place}
use Rattle.roam_conf.specs.Parts.{shown_realm}
use Rattle.roam_shard.proofs.saving.index_named.Given as goal

-- the realm of the name is one of those that are left
abbrev pub invariant-loop-index : goal.invariant-loop-index
invariant-loop-index l =
    position_from (λ (r : RealmView). not r.gone && str_eq_ignore_ascii_case r.name l.name) l.index
    (map shown_realm (drop l.index l.realms))
    ≡ first_place (λ (r : RealmView). not r.gone && str_eq_ignore_ascii_case r.name l.fn.name)
    (map shown_realm l.fn.realms)
