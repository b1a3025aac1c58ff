-- The ends of links: words of private functions alone (ours).
use Rattle.std.specs.Prelude.{◌<◌, length}
use Rattle.roam_conf.specs.declared.place.Link.{Link}
use Rattle.roam_conf.specs.declared.place.Link.TheVariants as link
use Rattle.roam_realm.specs.RealmConfig.{RealmConfig}

-- the server or the peer of a link is the realm's
abbrev pub IsEnd : RealmConfig → Link → Type 0
IsEnd c (link.Auth server out) = server < length c.realm.servers
IsEnd c (link.Acct server out) = server < length c.realm.servers
IsEnd c (link.Coa peer out) = peer < length c.peers
