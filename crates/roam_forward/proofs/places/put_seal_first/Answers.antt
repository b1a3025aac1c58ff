use Rattle.std.proofs.Common.{◌≡◌, ◌≤◌, ℕ, ◌+◌, ◌-◌, List, ◌++◌, length, take, drop, ap, ◌∙◌, arith, append_assoc}
use Rattle.std.proofs.lemmas.List.{take-append-le, take-take, drop_at, drop-drop, length-take-le}
use Rattle.std.proofs.Math.Seq.{paste}
use Rattle.roam_wire.specs.Packet.{attribute_text}
use Rattle.roam_crypto.specs.MessageAuthenticator.{empty_message_authenticator}
use Rattle.roam_forward.proofs.places.put_seal_first.Goals as goal

-- what is moved stands behind the 18 octets
moved : (octets empty : List ℕ) (start : ℕ) → 20 ≤ start → start + 18 ≤ length octets →
    take 20 (paste octets 38 (drop 20 octets) (start - 20))
    ++ (empty ++ drop 18 (drop 20 (paste octets 38 (drop 20 octets) (start - 20)))) ≡ take 20 octets
    ++ (empty ++ (take (start - 20) (drop 20 octets) ++ drop (start + 18) octets))
moved octets empty start behind room =
    let middle : List ℕ = take (start - 20) (drop 20 octets) in
    let all : List ℕ = paste octets 38 (drop 20 octets) (start - 20) in
    let front_size : length (take 38 octets) ≡ 38 = length-take-le 38 octets (omega arith) in
    let end : 38 + (start - 20) ≡ start + 18 = omega arith in
    let split : all ≡ take 38 octets ++ (middle ++ drop (start + 18) octets) =
    append_assoc (take 38 octets) middle (drop (38 + (start - 20)) octets)
    ∙ ap (λ (n : ℕ). take 38 octets ++ (middle ++ drop n octets)) end in
    let first : take 20 all ≡ take 20 octets =
    ap (take 20) split
    ∙ take-append-le 20 (take 38 octets) (middle ++ drop (start + 18) octets) (omega arith)
    ∙ take-take 20 38 octets (omega arith) in
    let last : drop 18 (drop 20 all) ≡ middle ++ drop (start + 18) octets =
    drop-drop 18 20 all ∙ ap (drop 38) split
    ∙ drop_at (take 38 octets) (middle ++ drop (start + 18) octets) 38 front_size in
    ap (λ (t : List ℕ). t ++ (empty ++ drop 18 (drop 20 all))) first
    ∙ ap (λ (t : List ℕ). take 20 octets ++ (empty ++ t)) last

pub returns : goal.returns
returns c =
    rw (
      c.copy_from_slice.ensures.after,
      c.copy_within.ensures.after,
    ) (moved c.args.octets.now (attribute_text empty_message_authenticator)
    c.args.start c.requires.behind_header c.requires.room)
