use Rattle.roam_rules.proofs.BookLemmas.{new-book}
use Rattle.roam_rules.proofs.book.Book.new.Goals as goal

-- nothing is in use yet
pub invariant_of-result : goal.invariant_of-result
invariant_of-result g c =
    let n = c.in_ok-numbers.ensures in
    new-book c.args.config.now c.args.realm c.new-entries.result c.in_ok-numbers.numbers
    c.new-settings.result c.args.start c.requires.configured c.new-entries.ensures.realm
    c.new-entries.ensures.entries c.new-settings.ensures n.ticket c.requires.ticket n.place
    c.requires.place n.count n.free n.lanes n.ledger
