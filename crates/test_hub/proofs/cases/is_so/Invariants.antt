use Rattle.roam_conf.specs.Shown.{shown}
use Rattle.roam_history.specs.Books.{books_of}
use Rattle.roam_history.specs.HubOpening.{fresh_opening}
use Rattle.test_hub.proofs.cases.is_so.Given as goal

-- the hub that is opened here
abbrev pub ghosts-is_so_in : goal.ghosts-is_so_in
ghosts-is_so_in g a = record { opening = fresh_opening (shown a.config.now) a.starts.now; books = books_of a.blanks }
