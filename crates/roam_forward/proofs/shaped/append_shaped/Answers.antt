use Rattle.std.proofs.Common.{◌/◌, ◌%◌, ◌++◌, List, ℕ, length, ap, ◌∙◌, arith, length-append}
use Rattle.roam_wire.specs.Packet.{Attribute, attributes_text}
use Rattle.roam_forward.specs.Without.{without}
use Rattle.roam_forward.specs.Private.Added.{shown_added}
use Rattle.roam_forward.specs.Shaped.{shown_shaping}
use Rattle.roam_forward.proofs.AddedLemmas.{length-header, shaped-text}
use Rattle.roam_forward.proofs.ShapedLemmas.{length-shaped}
use Rattle.roam_forward.proofs.shaped.append_shaped.Goals as goal

-- there is room for the header, for what passes, and for what is added
pub append_header-requires-clause-room : goal.append_header-requires-clause-room
append_header-requires-clause-room g c =
    let s = shown_shaping c.args.shaping.now in
    let q = c.args.request.now in
    omega (arith, c.requires.room, c.requires.size, length-shaped s q)

pub append_without-requires : goal.append_without-requires
append_without-requires g c =
    let s = shown_shaping c.args.shaping.now in
    let q = c.args.request.now in
    let header = rw (c.code.ensures, c.id.ensures, c.authenticator.ensures) at c.append_header.ensures.items in
    let header_size = length-header c.args.out.now.items c.append_header.new.out.items q.code q.id (c.args.size / 256)
    (c.args.size % 256) q.authenticator header c.requires.packet.authenticator in
    omega (
      arith,
      c.requires.room,
      c.requires.size,
      length-shaped s q,
      header_size,
      c.args.out.now.ok.0,
      c.append_header.new.out.ok.0,
      c.append_header.ensures.capacity,
    )

pub append_added-requires-clause-room : goal.append_added-requires-clause-room
append_added-requires-clause-room g c =
    let s = shown_shaping c.args.shaping.now in
    let q = c.args.request.now in
    let header = rw (c.code.ensures, c.id.ensures, c.authenticator.ensures) at c.append_header.ensures.items in
    let header_size = length-header c.args.out.now.items c.append_header.new.out.items q.code q.id (c.args.size / 256)
    (c.args.size % 256) q.authenticator header c.requires.packet.authenticator in
    omega (
      arith,
      c.requires.room,
      c.requires.size,
      length-shaped s q,
      header_size,
      c.args.out.now.ok.0,
      c.append_header.new.out.ok.0,
      c.append_header.ensures.capacity,
      c.append_without.new.out.ok.0,
      ap length c.append_without.ensures.items,
      length-append c.append_header.new.out.items (attributes_text (without s.removed q.attributes)),
      c.append_without.ensures.capacity,
      ap (λ (l : List Attribute). length (attributes_text l)) c.requires.added,
    )

-- one stands behind another
pub returns-clause-items : goal.returns-clause-items
returns-clause-items g c =
    let s = shown_shaping c.args.shaping.now in
    let q = c.args.request.now in
    let header = rw (c.code.ensures, c.id.ensures, c.authenticator.ensures) at c.append_header.ensures.items in
    let passing : List ℕ = attributes_text (without s.removed q.attributes) in
    c.append_added.ensures.items
    ∙ ap (λ (t : List ℕ). t ++ attributes_text (shown_added c.args.added.now)) (c.append_without.ensures.items
    ∙ ap (λ (t : List ℕ). t ++ passing) header)
    ∙ shaped-text c.args.out.now.items s q c.args.size (shown_added c.args.added.now) c.requires.size
    c.requires.added
