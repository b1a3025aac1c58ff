-- The name of a realm in the line of a refusal. Ours.
use Rattle.std.specs.Prelude.{ℕ, List, [], Option, Some, None, slice_get}
use Rattle.roam_conf.specs.Config.{RealmView}
use Rattle.roam_log.specs.declared.tally.RefusalCount.{RefusalCount}
use Rattle.roam_log.specs.Origins.{realm_of}

abbrev name_if : Option RealmView → List ℕ
name_if None = []
name_if (Some realm) = realm.name

-- of the realm of an index; nothing where there is none
abbrev pub name_of : List RealmView → Option ℕ → List ℕ
name_of realms None = []
name_of realms (Some realm) = name_if (slice_get realms realm)

-- of the realm that the place belongs to
abbrev pub realm_name : List RealmView → RefusalCount → List ℕ
realm_name realms tally = elim tally.origin [ None ↦ [] | Some origin ↦ name_of realms (realm_of origin) ]
