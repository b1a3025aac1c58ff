use Rattle.std.proofs.Common.{◌≡◌, ◌≢◌, Some, sym, ap, ◌∙◌, subst}
use Rattle.roam_sessions.specs.Maps.{chained, ends_by, linked_at}
use Rattle.roam_sessions.specs.Private.Buckets.{bucket_text, in_bucket}
use Rattle.roam_sessions.specs.Private.Groups.{PutsRow, ends_behind, newest_of}
use Rattle.roam_sessions.specs.Private.Links.{no_number}
use Rattle.roam_sessions.specs.declared.ends.Ends.{Ends}
use Rattle.roam_sessions.proofs.BucketLemmas.{puts-bucket}
use Rattle.roam_sessions.proofs.JoinLemmas.{grouped-joined}
use Rattle.roam_sessions.proofs.LinkedLemmas.{joined-first, number-below, older-below}
use Rattle.roam_sessions.proofs.StayLemmas.{both-stay}
use Rattle.roam_sessions.proofs.bucketed.enter_bucket.Goals as goal

pub returns-clause-grouped : goal.returns-clause-grouped
returns-clause-grouped g c = λ f h grouped begun comes.
    let facet = c.args.facet in
    let n = c.args.number in
    let b = c.args.bucket in
    let row = bucket_text b in
    let old = ends_by c.args.ends.now in
    let new = ends_by c.note_in.new.map in
    let p = chained facet c.args.ends.now c.args.links.now in
    let older_is : c.newest_of-older.result ≡ newest_of (old b) =
    c.newest_of-older.ensures ∙ ap newest_of c.ends_in-ends_now.ensures in
    let fits : c.newest_of-older.result ≢ Some no_number =
    λ e. older-below f h p n row grouped comes (sym older_is ∙ e) in
    grouped-joined f h p (chained facet c.note_in.new.map c.link_newer.new.map) n row c.newest_of-older.result grouped comes
    (record {
      older_is = older_is;
      first = linked_at facet c.link_older.new.map;
      puts = joined-first (linked_at facet c.args.links.now) (linked_at facet c.link_older.new.map) n
          c.newest_of-older.result begun (c.link_older.ensures.numbers fits);
      newer = c.link_newer.ensures.numbers (number-below f h n (Some row) comes);
      ends = subst (λ (e : Ends). PutsRow (in_bucket old) (in_bucket new) row (Some e))
          (c.ends_behind.ensures ∙ ap (ends_behind n) c.ends_in-ends_now.ensures)
          (puts-bucket old new b (Some c.ends_behind.result) c.note_in.ensures.puts);
    })

pub returns-clause-others : goal.returns-clause-others
returns-clause-others g c = λ other apart u.
    c.link_newer.ensures.others other apart u ∙ c.link_older.ensures.others other apart u

pub returns-clause-stay : goal.returns-clause-stay
returns-clause-stay g c =
    both-stay c.args.links.now c.link_older.new.map c.link_newer.new.map c.link_older.ensures.stay c.link_newer.ensures.stay
