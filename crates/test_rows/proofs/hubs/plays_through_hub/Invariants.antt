use Rattle.roam_conf.specs.Shown.{shown}
use Rattle.roam_history.specs.Books.{books_of}
use Rattle.roam_history.specs.HubOpening.{fresh_opening}
use Rattle.test_rows.proofs.hubs.plays_through_hub.Given as goal

-- the hub that is opened here
abbrev pub ghosts-plays_hub : goal.ghosts-plays_hub
ghosts-plays_hub g a = record { opening = fresh_opening (shown a.config.now) a.starts.now; books = books_of a.blanks }
