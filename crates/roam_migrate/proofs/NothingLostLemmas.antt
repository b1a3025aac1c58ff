-- A change that doesn't touch a realm loses nothing of it.
use Rattle.std.proofs.Common.{◌≡◌, ℕ, ◌-◌, List, refl, sym, ap, ◌∙◌, arith, length}
use Rattle.roam_pending.specs.PlainEntry.{PlainEntry}
use Rattle.roam_reload.proofs.AddressLemmas.{sources_stay}
use Rattle.roam_sessions.specs.Sessions.{Session}
use Rattle.roam_realm.specs.RealmConfig.{RealmConfig}
use Rattle.roam_realm.specs.RealmState.{RealmState}
use Rattle.roam_migrate.specs.Carrying.{StandsAsItIs}
use Rattle.roam_migrate.specs.Losses.{LossView, count_held, count_waiting, losses}
use Rattle.roam_migrate.specs.Reload.{Carries, entries_then, sessions_then}
use Rattle.roam_migrate.proofs.UntouchedLemmas.{entries_are, sessions_are}

-- the other part, with the seed and the index of the one: what stays doesn't depend on them
abbrev beside : RealmConfig → RealmConfig → RealmConfig
beside old new = record { seed = old.seed; index = old.index; realm = new.realm; peers = new.peers }

carries : (old new : RealmConfig) → StandsAsItIs old new → Carries old (beside old new)
carries old new h = record { seed = refl; index = refl; table = h.table; peers = h.peers }

entries_stand : (old new : RealmConfig) → StandsAsItIs old new → (es : List PlainEntry) → entries_then old new es ≡ es
entries_stand old new h es =
    entries_are old (beside old new) (carries old new h) (sources_stay old.peers new.peers h.peers h.count) es

sessions_stand : (old new : RealmConfig) → StandsAsItIs old new → (ss : List Session) → sessions_then old new ss ≡ ss
sessions_stand old new h ss = sessions_are old (beside old new) (carries old new h) ss

none : (n : ℕ) → 0 ≡ n - n
none n = omega arith

abbrev nothing : LossView
nothing = record { waiting = 0; held = 0; sessions = 0 }

pub nothing_lost : (old new : RealmConfig) → StandsAsItIs old new → (s : RealmState) → nothing ≡ losses old new s
nothing_lost old new h s =
    let waits : 0 ≡ count_waiting s.entries - count_waiting (entries_then old new s.entries) =
    none (count_waiting s.entries)
    ∙ ap (λ (es : List PlainEntry). count_waiting s.entries - count_waiting es)
    (sym (entries_stand old new h s.entries)) in
    let held : 0 ≡ count_held s.entries - count_held (entries_then old new s.entries) =
    none (count_held s.entries)
    ∙ ap (λ (es : List PlainEntry). count_held s.entries - count_held es) (sym (entries_stand old new h s.entries)) in
    let sessions : 0 ≡ length s.sessions - length (sessions_then old new s.sessions) =
    none (length s.sessions)
    ∙ ap (λ (ss : List Session). length s.sessions - length ss) (sym (sessions_stand old new h s.sessions)) in
    λ i. record { waiting = waits i; held = held i; sessions = sessions i }
