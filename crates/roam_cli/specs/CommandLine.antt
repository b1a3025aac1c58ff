-- The order of a command line, by the words after the program's name. Ours.
use Rattle.std.specs.Prelude.{◌≡◌, ◌⊎◌, ℕ, List, [], ◌∷◌, codes, Option, Some, None, slice_get}
use Rattle.roam_address.specs.Decimals.{decimal_in}
use Rattle.roam_cli.specs.declared.command_line.ControlOrder.{ControlOrder}
use Rattle.roam_cli.specs.declared.command_line.ControlOrder.TheVariants as order

-- to say how much there is in a configuration; to state it with all its defaults; to say what becomes of each realm
-- when another one follows it; to run a script over one; to serve one, with a seed that is drawn or with its own, for
-- so many milliseconds or without end; to ask a server something through its control socket; to print the usage; or
-- to print which program this is. The files and the socket are given by their paths
pub data Asked : Type 0 where
  to_check : List ℕ → Asked
  to_check_all : List ℕ → Asked
  to_compare : List ℕ → List ℕ → Asked
  to_simulate : List ℕ → List ℕ → Asked
  to_serve : List ℕ → Option ℕ → Asked
  to_serve_with_its_seed : List ℕ → Option ℕ → Asked
  to_control : List ℕ → ControlOrder → Asked
  to_help : Asked
  to_tell_version : Asked

-- the word after `check` with which it states the configuration with all its defaults
abbrev pub with_defaults : List ℕ
with_defaults = codes "--all"

-- the word after `serve` with which it takes the seed of the file
abbrev pub seed_of_file : List ℕ
seed_of_file = codes "--seed-of-file"

-- a word for milliseconds is a decimal number from 1 to those of a day, without leading zeros
abbrev pub IsTime : List ℕ → ℕ → Type 0
IsTime word milliseconds = decimal_in 1 86400000 word ≡ Some milliseconds

-- the path of the control socket where none is given: that of the unit
abbrev pub usual_path : List ℕ
usual_path = codes "/run/roam/control"

-- an order begins with the word, which is no path then: a socket of that name is `./status`
abbrev pub IsOrderWord : List ℕ → Type 0
IsOrderWord word =
    (word ≡ codes "status") ⊎ (word ≡ codes "metrics") ⊎ (word ≡ codes "stop") ⊎ (word ≡ codes "reload")
    ⊎ (word ≡ codes "trace")

-- it begins with a hyphen (45)
abbrev pub IsOption : List ℕ → Type 0
IsOption word = slice_get word 0 ≡ Some 45

-- the words ask a server for it: for the realms of these names, and not of an option; for the trace of a shard by its
-- number, a decimal one without leading zeros
abbrev pub IsOrder : List (List ℕ) → ControlOrder → Type 0
IsOrder words order.Status = codes "status" ∷ [] ≡ words
IsOrder words (order.StatusOf realms) = (codes "status" ∷ realms.now ∷ [] ≡ words) × ¬ (IsOption realms.now)
IsOrder words order.Problems = codes "status" ∷ codes "--problems" ∷ [] ≡ words
IsOrder words order.StatusAsJson = codes "status" ∷ codes "--json" ∷ [] ≡ words
IsOrder words order.Watch = codes "status" ∷ codes "--watch" ∷ [] ≡ words
IsOrder words order.Metrics = codes "metrics" ∷ [] ≡ words
IsOrder words order.Stop = codes "stop" ∷ [] ≡ words
IsOrder words order.Reload = codes "reload" ∷ [] ≡ words
IsOrder words order.ReloadAndLose = codes "reload" ∷ codes "--lose" ∷ [] ≡ words
IsOrder words (order.Trace shard) =
    (word : List ℕ) × (codes "trace" ∷ word ∷ [] ≡ words) × (decimal_in 0 65535 word ≡ Some shard)

-- the words are `ctl`, this path and these words behind it, or `ctl` and these words, and the path is the unit's
abbrev pub NamesPath : List (List ℕ) → List ℕ → List (List ℕ) → Type 0
NamesPath words path rest =
    ((codes "ctl" ∷ path ∷ rest ≡ words) × ¬ (IsOrderWord path))
    ⊎ ((codes "ctl" ∷ rest ≡ words) × (path ≡ usual_path))

-- the words ask a server for it through the control socket of this path
abbrev pub AsksOrder : List (List ℕ) → List ℕ → ControlOrder → Type 0
AsksOrder words path order = (rest : List (List ℕ)) × IsOrder rest order × NamesPath words path rest

-- ## Words of a command
-- `check CONF`, `check OLD NEW`, `check --all CONF`, `ctl PATH` or `ctl` with `status` (and `--json`, `--watch`,
-- `--problems` or realms behind it), `metrics`, `stop`, `reload` (and `--lose` behind it) or `trace N`, `sim CONF
-- SCRIPT`, `serve CONF`, `serve CONF MS`, these two with `--seed-of-file` before CONF or without it; `help`, `--help`
-- or `-h`; `version`, `--version` or `-V`. A PATH isn't the first word of an order; without one it is the unit's.
-- MS is a decimal number from 1 to 86400000 without leading zeros, a CONF after `serve` isn't `--seed-of-file`, and a
-- CONF or OLD after `check` isn't `--all`. They are the words after the program's name, as many and no others. Other
-- words ask for nothing.
-- Source: ours
-- Rules out: a word too many that is overlooked; a number that is read in part
-- Stands in: `roam_cli` `CommandLine.antt`: `Asks`, `AsksOrder`, `AsksToServe`, `AsksNothing`;
-- `Command::from_words`, `command`
--
-- the words ask for it. After `serve` the word `--seed-of-file` is never the configuration, nor is `--all` after
-- `check`
abbrev pub Asks : List (List ℕ) → Asked → Type 0
Asks words (to_check configuration) =
    (codes "check" ∷ configuration ∷ [] ≡ words) × ¬ (configuration ≡ with_defaults)
Asks words (to_check_all configuration) = codes "check" ∷ with_defaults ∷ configuration ∷ [] ≡ words
Asks words (to_compare configuration next) =
    (codes "check" ∷ configuration ∷ next ∷ [] ≡ words) × ¬ (configuration ≡ with_defaults)
Asks words (to_simulate configuration script) = codes "sim" ∷ configuration ∷ script ∷ [] ≡ words
Asks words (to_serve configuration None) =
    (codes "serve" ∷ configuration ∷ [] ≡ words) × ¬ (configuration ≡ seed_of_file)
Asks words (to_serve configuration (Some milliseconds)) =
    (word : List ℕ) × (codes "serve" ∷ configuration ∷ word ∷ [] ≡ words) × IsTime word milliseconds
    × ¬ (configuration ≡ seed_of_file)
Asks words (to_serve_with_its_seed configuration None) =
    codes "serve" ∷ seed_of_file ∷ configuration ∷ [] ≡ words
Asks words (to_serve_with_its_seed configuration (Some milliseconds)) =
    (word : List ℕ) × (codes "serve" ∷ seed_of_file ∷ configuration ∷ word ∷ [] ≡ words) × IsTime word milliseconds
Asks words (to_control path order) = AsksOrder words path order
Asks words to_help =
    (codes "help" ∷ [] ≡ words) ⊎ (codes "--help" ∷ [] ≡ words) ⊎ (codes "-h" ∷ [] ≡ words)
Asks words to_tell_version =
    (codes "version" ∷ [] ≡ words) ⊎ (codes "--version" ∷ [] ≡ words) ⊎ (codes "-V" ∷ [] ≡ words)

-- the words ask for nothing that the program does
abbrev pub AsksNothing : List (List ℕ) → Type 0
AsksNothing words = (asked : Asked) → ¬ (Asks words asked)

-- the word asks for a task; it is a whole command, which asks for the usage, or for the version
abbrev pub IsTaskWord : List ℕ → Type 0
IsTaskWord word = (word ≡ codes "check") ⊎ (word ≡ codes "sim") ⊎ (word ≡ codes "serve") ⊎ (word ≡ codes "ctl")

abbrev pub IsHelpWord : List ℕ → Type 0
IsHelpWord word = (word ≡ codes "help") ⊎ (word ≡ codes "--help") ⊎ (word ≡ codes "-h")

abbrev pub IsVersionWord : List ℕ → Type 0
IsVersionWord word = (word ≡ codes "version") ⊎ (word ≡ codes "--version") ⊎ (word ≡ codes "-V")

-- a command begins with the word
abbrev pub IsCommandWord : List ℕ → Type 0
IsCommandWord word = IsTaskWord word ⊎ IsHelpWord word ⊎ IsVersionWord word

-- it is the first of the words, and no command begins with it
abbrev pub IsUnknown : List (List ℕ) → List ℕ → Type 0
IsUnknown words word = (slice_get words 0 ≡ Some word) × ¬ (IsCommandWord word)

-- the words would ask for a server, but this one, where a time may stand, is none
abbrev pub IsUntimed : List (List ℕ) → List ℕ → Type 0
IsUntimed words word =
    (decimal_in 1 86400000 word ≡ None)
    × (((configuration : List ℕ) × (codes "serve" ∷ configuration ∷ word ∷ [] ≡ words)
    × ¬ (configuration ≡ seed_of_file))
    ⊎ ((configuration : List ℕ) × (codes "serve" ∷ seed_of_file ∷ configuration ∷ word ∷ [] ≡ words)))

-- the words ask to check a configuration
abbrev pub AsksToCheck : List (List ℕ) → Type 0
AsksToCheck words = (configuration : List ℕ) × Asks words (to_check configuration)

-- the words ask for a server of this configuration, for this time
abbrev pub AsksToServeIt : List (List ℕ) → List ℕ → Option ℕ → Type 0
AsksToServeIt words configuration milliseconds =
    Asks words (to_serve configuration milliseconds) ⊎ Asks words (to_serve_with_its_seed configuration milliseconds)

-- the words ask for a server
abbrev pub AsksToServe : List (List ℕ) → Type 0
AsksToServe words =
    (configuration : List ℕ) × (milliseconds : Option ℕ) × AsksToServeIt words configuration milliseconds

-- this is the path of a file with a configuration that it is about
abbrev pub IsConfigurationOf : Asked → List ℕ → Type 0
IsConfigurationOf (to_check configuration) path = configuration ≡ path
IsConfigurationOf (to_check_all configuration) path = configuration ≡ path
IsConfigurationOf (to_compare configuration next) path = (configuration ≡ path) ⊎ (next ≡ path)
IsConfigurationOf (to_simulate configuration script) path = configuration ≡ path
IsConfigurationOf (to_serve configuration milliseconds) path = configuration ≡ path
IsConfigurationOf (to_serve_with_its_seed configuration milliseconds) path = configuration ≡ path
IsConfigurationOf (to_control other order) path = ⊥
IsConfigurationOf to_help path = ⊥
IsConfigurationOf to_tell_version path = ⊥

-- the paths of all files that it is about; a socket is none
abbrev pub files_of : Asked → List (List ℕ)
files_of (to_check configuration) = configuration ∷ []
files_of (to_check_all configuration) = configuration ∷ []
files_of (to_compare configuration next) = configuration ∷ next ∷ []
files_of (to_simulate configuration script) = configuration ∷ script ∷ []
files_of (to_serve configuration milliseconds) = configuration ∷ []
files_of (to_serve_with_its_seed configuration milliseconds) = configuration ∷ []
files_of (to_control path order) = []
files_of to_help = []
files_of to_tell_version = []
