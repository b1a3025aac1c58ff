use Rattle.std.proofs.Common.{◌/◌, ◌%◌, ℕ, List, [], ◌∷◌, ◌++◌, ap, ◌∙◌}
use Rattle.roam_sessions.specs.Kept.{shown_asked}
use Rattle.roam_sessions.specs.Private.Row.{part_text}
use Rattle.roam_sessions.proofs.BufferLemmas.{four-behind}
use Rattle.roam_sessions.proofs.row.row_of.Goals as goal

pub returns : goal.returns
returns g c =
    let q = shown_asked c.args.asked in
    let two : List ℕ = q.peer / 256 ∷ q.peer % 256 ∷ [] in
    let front = c.in_ok-extend_from_slice.ensures.items
    ∙ ap (λ (l : List ℕ). l ++ two) c.in_ok-row.ensures.items in
    four-behind two c.push_part.new.row.items c.push_part-2.new.row.items c.push_part-3.new.row.items
    c.push_part-4.new.row.items q.nas.address q.nas.identifier q.nas.ipv6 q.id
    (c.in_ok-push_part.ensures ∙ ap (λ (l : List ℕ). l ++ part_text q.nas.address) front)
    c.in_ok-push_part-2.ensures c.in_ok-push_part-3.ensures c.in_ok-push_part-4.ensures
