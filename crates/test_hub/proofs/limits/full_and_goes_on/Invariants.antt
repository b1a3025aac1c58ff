use Rattle.roam_conf.specs.Shown.{shown}
use Rattle.roam_history.specs.Books.{books_of}
use Rattle.roam_history.specs.HubOpening.{fresh_opening}
use Rattle.test_hub.proofs.limits.full_and_goes_on.Given as goal

-- the hub that goes on
abbrev pub ghosts-goes_on : goal.ghosts-goes_on
ghosts-goes_on g a = record { opening = fresh_opening (shown a.config.now) a.starts.now; books = books_of a.blanks }
