use Rattle.std.proofs.Common.{◌≡◌, ◌≢◌, Some, sym, ap, ◌∙◌, subst, arith}
use Rattle.roam_sessions.specs.Maps.{ends_at, linked, linked_at}
use Rattle.roam_sessions.specs.Private.Groups.{PutsRow, ends_behind, newest_of}
use Rattle.roam_sessions.specs.Private.Links.{no_number}
use Rattle.roam_sessions.specs.declared.ends.Ends.{Ends}
use Rattle.roam_sessions.proofs.GroupLemmas.{none-put, still-grouped}
use Rattle.roam_sessions.proofs.JoinLemmas.{grouped-joined}
use Rattle.roam_sessions.proofs.LinkedLemmas.{joined-first, number-below, older-below}
use Rattle.roam_sessions.proofs.StayLemmas.{both-stay, still}
use Rattle.roam_sessions.proofs.linked.join.Goals as goal

pub returns-in_default-clause-grouped : goal.returns-in_default-clause-grouped
returns-in_default-clause-grouped g c = λ f h grouped begun comes.
    let now = rw c.in_default.is at comes in
    still-grouped f h (linked c.args.facet c.args.ends.now c.args.links.now)
    (none-put f h c.args.number now.puts (now.free c.args.number (omega arith))) grouped

pub returns-clause-grouped : goal.returns-clause-grouped
returns-clause-grouped g c = λ f h grouped begun comes.
    let now = rw c.in-Some.is at comes in
    let facet = c.args.facet in
    let n = c.args.number in
    let row = c.in-Some.row.items in
    let p = linked facet c.args.ends.now c.args.links.now in
    let same : c.ends_of-ends_now.result ≡ ends_at c.args.ends.now row =
    c.ends_of-ends_now.ensures ∙ ap (ends_at c.args.ends.now) c.as_slice.ensures.value in
    let older_is : c.newest_of-older.result ≡ newest_of (ends_at c.args.ends.now row) =
    c.newest_of-older.ensures ∙ ap newest_of same in
    let fits : c.newest_of-older.result ≢ Some no_number =
    λ e. older-below f h p n row grouped now (sym older_is ∙ e) in
    grouped-joined f h p (linked facet c.note.new.map c.link_newer.new.map) n row c.newest_of-older.result grouped now
    (record {
      older_is = older_is;
      first = linked_at facet c.link_older.new.map;
      puts = joined-first (linked_at facet c.args.links.now) (linked_at facet c.link_older.new.map) n
          c.newest_of-older.result begun (c.link_older.ensures.numbers fits);
      newer = c.link_newer.ensures.numbers (number-below f h n (Some row) now);
      ends = subst (λ (e : Ends). PutsRow (ends_at c.args.ends.now) (ends_at c.note.new.map) row (Some e))
          (c.ends_behind.ensures ∙ ap (ends_behind n) same) c.note.ensures.puts;
    })

pub returns-clause-others : goal.returns-clause-others
returns-clause-others g c = λ other apart u.
    c.link_newer.ensures.others other apart u ∙ c.link_older.ensures.others other apart u

pub returns-in_default-clause-stay : goal.returns-in_default-clause-stay
returns-in_default-clause-stay g c = still c.args.links.now

pub returns-clause-stay : goal.returns-clause-stay
returns-clause-stay g c =
    both-stay c.args.links.now c.link_older.new.map c.link_newer.new.map c.link_older.ensures.stay c.link_newer.ensures.stay
