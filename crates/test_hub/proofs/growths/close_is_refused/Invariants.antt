use Rattle.roam_conf.specs.Shown.{shown}
use Rattle.roam_history.specs.Books.{books_of}
use Rattle.roam_history.specs.HubOpening.{fresh_opening}
use Rattle.test_hub.proofs.growths.close_is_refused.Given as goal

-- the hub that is opened here
abbrev pub ghosts-closed : goal.ghosts-closed
ghosts-closed g a = record { opening = fresh_opening (shown a.config.now) a.starts.now; books = books_of a.blanks }
