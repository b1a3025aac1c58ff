-- Both are beginnings of one list, in which nothing stands behind the entry that closes it.
use Rattle.std.proofs.Common.{List, ap, subst, sym}
use mathlib.Core.List.{IsPrefix}
use Rattle.roam_history.specs.Entries.{HistoryEntry, IsWhole}
use Rattle.roam_history.specs.Fronts.{FrontView}
use Rattle.roam_history.proofs.EntryLemmas.{whole_has_all}
use Rattle.roam_history.proofs.front.Front.begins_whole.Goals as goal

pub returns : goal.returns
returns g c =
    let mine = c.self.inside.seen.log in
    let whole = c.whole.inside.seen.log in
    let both = c.learn.new.self.log in
    let this : IsPrefix mine both =
    subst (λ (l : List HistoryEntry). IsPrefix l both) (ap (λ s. s.log) c.again-both.ensures) c.learn.ensures.2 in
    let is : IsWhole whole = subst (λ (f : FrontView). IsWhole f.entries) (sym c.whole.view_is) c.requires.whole in
    rw (← c.self.view_is, ← c.whole.view_is)
    (whole_has_all whole mine both is c.learn.ensures.4.1.last c.learn.ensures.3 this)
