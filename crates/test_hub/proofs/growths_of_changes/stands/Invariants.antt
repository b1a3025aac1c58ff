use Rattle.roam_conf.specs.Shown.{shown}
use Rattle.roam_history.specs.Books.{books_of}
use Rattle.roam_hub.specs.Pausing.{opening_over}
use Rattle.test_hub.proofs.growths_of_changes.stands.Given as goal

-- the hub that is opened here
abbrev pub ghosts-goes_on : goal.ghosts-goes_on
ghosts-goes_on g a = record { opening = opening_over (shown a.config.now) a.shards.items; books = books_of a.blanks }
