use Rattle.std.proofs.Common.{◌≡◌, Some, ap, ◌∙◌, subst, arith}
use Rattle.roam_sessions.specs.Maps.{beside_at, ends_at, groups_of}
use Rattle.roam_sessions.specs.Private.Groups.{PutsRow, ends_behind, newest_of}
use Rattle.roam_sessions.specs.declared.ends.Ends.{Ends}
use Rattle.roam_sessions.proofs.GroupLemmas.{none-put, still-grouped}
use Rattle.roam_sessions.proofs.JoinLemmas.{grouped-joined}
use Rattle.roam_sessions.proofs.groups.Groups.append.Goals as goal

pub returns-in_default-clause-grouped : goal.returns-in_default-clause-grouped
returns-in_default-clause-grouped g c = λ f h grouped comes.
    let now = rw c.in_default.is at comes in
    still-grouped f h (groups_of c.args.self.now)
    (none-put f h c.args.number now.puts (now.free c.args.number (omega arith))) grouped

pub returns-clause-grouped : goal.returns-clause-grouped
returns-clause-grouped g c = λ f h grouped comes.
    let now = rw c.in-Some.is at comes in
    let same : c.ends_of-ends.result ≡ ends_at c.args.self.now.ends c.in-Some.row.items =
    c.ends_of-ends.ensures ∙ ap (ends_at c.args.self.now.ends) c.as_slice.ensures.value in
    grouped-joined f h (groups_of c.args.self.now)
    (record { ends = ends_at c.note.new.map; beside = beside_at c.set_newer.new.map }) c.args.number
    c.in-Some.row.items c.newest_of-older.result grouped now (record {
      older_is = c.newest_of-older.ensures ∙ ap newest_of same;
      first = beside_at c.put.new.map;
      puts = c.put.ensures.puts;
      newer = c.set_newer.ensures.numbers;
      ends = subst (λ (e : Ends). PutsRow (ends_at c.args.self.now.ends) (ends_at c.note.new.map) c.in-Some.row.items
          (Some e)) (c.ends_behind.ensures ∙ ap (ends_behind c.args.number) same) c.note.ensures.puts;
    })
