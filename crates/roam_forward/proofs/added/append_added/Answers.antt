use Rattle.std.proofs.Common.{◌+◌, ◌++◌, List, ℕ, length, ap, ◌∙◌, arith, length-append}
use Rattle.std.specs.Prelude.{option_map}
use Rattle.roam_wire.specs.Packet.{attributes_text}
use Rattle.roam_forward.specs.Private.Added.{cui_of, name_of}
use Rattle.roam_forward.specs.Private.Arranged.{challenge_of}
use Rattle.roam_forward.proofs.AddedLemmas.{joined-added, length-added}
use Rattle.roam_forward.proofs.added.append_added.Goals as goal

-- there is room for each of the three
pub append_challenge-requires : goal.append_challenge-requires
append_challenge-requires g c =
    let challenge = challenge_of c.args.added.now.challenge in
    let name = name_of (option_map (λ name. name.now) c.args.added.now.operator_name) in
    let cui = cui_of c.args.added.now.cui in
    omega (arith, c.requires.room, length-added challenge name cui)

pub append_name-requires-clause-room : goal.append_name-requires-clause-room
append_name-requires-clause-room g c =
    let challenge = challenge_of c.args.added.now.challenge in
    let name = name_of (option_map (λ name. name.now) c.args.added.now.operator_name) in
    let cui = cui_of c.args.added.now.cui in
    omega (
      arith,
      c.requires.room,
      length-added challenge name cui,
      c.args.out.now.ok.0,
      c.append_challenge.new.out.ok.0,
      ap length c.append_challenge.ensures.items,
      length-append c.args.out.now.items (attributes_text challenge),
      c.append_challenge.ensures.capacity,
    )

pub append_cui-requires : goal.append_cui-requires
append_cui-requires g c =
    let challenge = challenge_of c.args.added.now.challenge in
    let name = name_of (option_map (λ name. name.now) c.args.added.now.operator_name) in
    let cui = cui_of c.args.added.now.cui in
    omega (
      arith,
      c.requires.room,
      length-added challenge name cui,
      c.args.out.now.ok.0,
      c.append_challenge.new.out.ok.0,
      ap length c.append_challenge.ensures.items,
      length-append c.args.out.now.items (attributes_text challenge),
      c.append_challenge.ensures.capacity,
      c.append_name.new.out.ok.0,
      ap length c.append_name.ensures.items,
      length-append c.append_challenge.new.out.items (attributes_text name),
      c.append_name.ensures.capacity,
    )

-- and they stand one behind another
pub returns-clause-items : goal.returns-clause-items
returns-clause-items g c =
    let challenge = challenge_of c.args.added.now.challenge in
    let name = name_of (option_map (λ name. name.now) c.args.added.now.operator_name) in
    let cui = cui_of c.args.added.now.cui in
    c.append_cui.ensures.items
    ∙ ap (λ (t : List ℕ). t ++ attributes_text cui) (c.append_name.ensures.items
    ∙ ap (λ (t : List ℕ). t ++ attributes_text name) c.append_challenge.ensures.items)
    ∙ joined-added c.args.out.now.items challenge name cui
