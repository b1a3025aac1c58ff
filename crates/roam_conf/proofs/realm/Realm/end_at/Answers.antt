use Rattle.roam_conf.proofs.realm.Realm.end_at.Goals as goal

pub returns-in-Some : goal.returns-in-Some
returns-in-Some c = rw (← c.as_slice.ensures.value, ← c.in-Some.ensures.value)

pub returns-in-None : goal.returns-in-None
returns-in-None c = rw (c.acct_or_coa_at.ensures, ← c.as_slice.ensures.value, ← c.in-None.ensures.value)
