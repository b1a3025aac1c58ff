use Rattle.std.proofs.Common.{◌≡◌, None, length, refl, ap, sym, ◌∙◌, arith}
use Rattle.std.specs.Prelude.{filter}
use Rattle.roam_sessions.specs.Sessions.{Nas, agrees, count_of_peer}
use Rattle.roam_sessions.specs.Stands.{session_at, sessions_of}
use Rattle.roam_sessions.proofs.OpenLemmas.{others-counted, own-counted}
use Rattle.roam_sessions.proofs.WholeLemmas.{peer-counted}
use Rattle.roam_sessions.proofs.table.Table.count_of_peer.Goals as goal

pub returns-then-peer-self : goal.returns-then-peer-self
returns-then-peer-self g c = λ sound.
    let old = c.args.self.now in
    let xs = sessions_of old.chain in
    let rows : c.count_of_peer-rows.result ≡ count_of_peer c.args.peer xs =
    c.count_of_peer-rows.ensures sound.chain refl
    ∙ ap (λ (n : Nas). length (filter (agrees (record { peer = c.args.peer; nas = n; id = None })) xs)) c.no_nas.ensures
    ∙ peer-counted c.args.peer xs in
    let own = own-counted old.ended (session_at old.chain) c.args.peer (sym c.if-peer-self.true) in
    omega (arith, rows, own, sound.left, sound.chain.count)

pub returns-else-peer-self : goal.returns-else-peer-self
returns-else-peer-self g c = λ sound.
    let old = c.args.self.now in
    let xs = sessions_of old.chain in
    c.count_of_peer-rows.ensures sound.chain refl
    ∙ ap (λ (n : Nas). length (filter (agrees (record { peer = c.args.peer; nas = n; id = None })) xs)) c.no_nas.ensures
    ∙ peer-counted c.args.peer xs
    ∙ sym (others-counted old.ended (session_at old.chain) c.args.peer (λ is. c.if-peer-self.false (sym is)))
