use Rattle.std.proofs.Common.{◌≡◌, ◌+◌, ◌&&◌, ◌∙◌, not, cond, Some, Bool, map, drop, ap, string_bytes, arith}
use Rattle.std.specs.List.{position_from}
use Rattle.std.specs.Option.{option_or}
use Rattle.std.specs.Str.{bytes_eq}
use Rattle.roam_conf.specs.Config.{PeerView}
use Rattle.roam_conf.specs.Index.{owners, owner_of, with_key}
use Rattle.roam_conf.specs.Parts.{shown_peer}
use Rattle.roam_conf.proofs.IndexLemmas.{noted_one}
use Rattle.roam_conf.proofs.PeerLemmas.{position_at, position_over, position_past, here_alone, gone_never}
use Rattle.roam_conf.proofs.peer_names.names_of.Goals as goal
use Rattle.roam_conf.proofs.peer_names.names_of.Goals.{then-not-peer+in_ok-key+in_ok-note, else-not-peer}

-- one more peer was noted, or another has its name; or it went
pub loop-place-preserved : goal.loop-place-preserved
loop-place-preserved c = λ name.
    let peers = c.args.peers.now in
    let i = c.loop-place.place in
    let peer = c.index-peers-place.result in
    let old = owners c.loop-place.index in
    let test : PeerView → Bool = λ x. not x.gone && bytes_eq x.name name in
    let rest = position_from test (i + 1) (map shown_peer (drop (i + 1) peers)) in
    elim c.if-not-peer.branch [
      | then-not-peer+in_ok-key+in_ok-note w ↦ rw w.index-is (
          let noted : owners w.note.new.index ≡ with_key old (string_bytes peer.name) i = w.in_ok-note.ensures.noted
          ∙ ap (λ key. with_key old key i) (w.in_ok-key.ensures ∙ w.as_bytes.ensures.value) in
          noted_one old (owners w.note.new.index) name (string_bytes peer.name) i rest noted
          ∙ ap (λ b. option_or (owner_of old name) (cond b (Some i) rest))
          (here_alone peer.gone (bytes_eq (string_bytes peer.name) name) w.if-not-peer.true)
          ∙ ap (option_or (owner_of old name)) (position_at test peers i peer (omega arith) c.index-peers-place.is)
          ∙ c.loop-place.invariant name)
      | else-not-peer w ↦ rw w.index-is (
          ap (option_or (owner_of old name)) (position_over test peers i peer (omega arith) c.index-peers-place.is
          (gone_never peer.gone (bytes_eq (string_bytes peer.name) name) w.if-not-peer.false))
          ∙ c.loop-place.invariant name)
    ]

-- all peers were noted
pub returns : goal.returns
returns c = λ name.
    position_past (λ (x : PeerView). not x.gone && bytes_eq x.name name) c.args.peers.now c.loop-place.place
    (owner_of (owners c.loop-place.index) name) (omega arith) ∙ c.loop-place.invariant name
