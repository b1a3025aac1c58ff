use Rattle.roam_conf.specs.Shown.{shown}
use Rattle.roam_history.specs.Books.{books_of}
use Rattle.roam_hub.specs.Pausing.{opening_over}
use Rattle.roam_server.proofs.serving.serve_once.Given as goal

-- how its hub opens, and which histories its shards have
abbrev pub ghosts-serve_over : goal.ghosts-serve_over
ghosts-serve_over g a = record {
  opening = opening_over (shown a.configured.now.config) a.shards.items;
  books = books_of a.blanks;
}
