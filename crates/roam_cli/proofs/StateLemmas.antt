-- What is stated anew, and which fault comes of it.
use Rattle.std.proofs.Common.{◌≡◌, ℕ, List, Option, Result, Ok, Err, OnOk, IfErr, subst, sym}
use Rattle.std.proofs.KnownBytes.{Keeps-refl}
use Rattle.std.specs.Io.KnownBytes.{Appends}
use Rattle.roam_conf.specs.Config.{ConfigView}
use Rattle.roam_conf_reader.specs.Faults.{States, NoneHolds, every_fault}
use Rattle.roam_sim.specs.Simulation.{IsConfiguration}
use Rattle.roam_cli.specs.declared.text_file.TextFile.{TextFile}
use Rattle.roam_cli.specs.declared.report.Fault.{Fault}
use Rattle.roam_cli.specs.declared.report.Fault.TheVariants as fault
use Rattle.roam_cli.specs.CommandFaults.{text_in, CheckFails, IsUnstated, StateFails, StatesAnew}

-- a text states what was read of it, which is the configuration
pub same_statement : (text written : List ℕ) (read config : ConfigView) → text ≡ written → States text read
    → NoneHolds text every_fault → read ≡ config → IsConfiguration written config
same_statement text written read config is stated faultless same =
    let its_own : IsConfiguration written read =
    record { stated = rw (← is) stated; faultless = rw (← is) faultless } in
    subst (λ c. IsConfiguration written c) same its_own

-- the file isn't read as a configuration
pub read_fails : (file : TextFile) (out : Option (List ℕ)) (f : Fault) → CheckFails file out out f
    → StateFails file out out f
read_fails file out fault.Usage fails = absurd fails
read_fails file out (fault.NoCommand word) fails = absurd fails
read_fails file out (fault.NoTime word) fails = absurd fails
read_fails file out (fault.Unreadable path reason) fails = absurd fails
read_fails file out (fault.NotText path line) fails = absurd fails
read_fails file out (fault.MayNotFollow path) fails = absurd fails
read_fails file out (fault.Misstated path) fails = absurd fails
read_fails file out (fault.Unanswered path reason) fails = absurd fails
read_fails file out (fault.Late path seconds) fails = absurd fails
read_fails file out (fault.StillServes path seconds) fails = absurd fails
read_fails file out (fault.Cut path) fails = absurd fails
read_fails file out (fault.Declined path what) fails = absurd fails
read_fails file out (fault.Refused path why) fails = fails
read_fails file out (fault.FaultyLine path number) fails = absurd fails
read_fails file out fault.Write fails = fails
read_fails file out fault.Memory fails = fails
read_fails file out fault.Clock fails = absurd fails
read_fails file out fault.Seed fails = absurd fails
read_fails file out (fault.Bind endpoint reason) fails = absurd fails
read_fails file out (fault.Control socket reason) fails = absurd fails
read_fails file out (fault.State socket why) fails = absurd fails
read_fails file out (fault.Descriptors wanted) fails = absurd fails
read_fails file out (fault.Wait reason) fails = absurd fails
read_fails file out fault.Thread fails = absurd fails
read_fails file out fault.Receive fails = absurd fails
read_fails file out fault.Audit fails = absurd fails

-- the text that was made doesn't state the configuration
pub unstated_fails : (file : TextFile) (config : ConfigView) (out : Option (List ℕ)) (f : Fault) →
    IsConfiguration (text_in file) config → IsUnstated file.path.now f → StateFails file out out f
unstated_fails file config out fault.Usage read fails = absurd fails
unstated_fails file config out (fault.NoCommand word) read fails = absurd fails
unstated_fails file config out (fault.NoTime word) read fails = absurd fails
unstated_fails file config out (fault.Unreadable path reason) read fails = absurd fails
unstated_fails file config out (fault.NotText path line) read fails = absurd fails
unstated_fails file config out (fault.MayNotFollow path) read fails = absurd fails
unstated_fails file config out (fault.Misstated path) read fails = (fails, (config, read), Keeps-refl out)
unstated_fails file config out (fault.Unanswered path reason) read fails = absurd fails
unstated_fails file config out (fault.Late path seconds) read fails = absurd fails
unstated_fails file config out (fault.StillServes path seconds) read fails = absurd fails
unstated_fails file config out (fault.Cut path) read fails = absurd fails
unstated_fails file config out (fault.Declined path what) read fails = absurd fails
unstated_fails file config out (fault.Refused path why) read fails = absurd fails
unstated_fails file config out (fault.FaultyLine path number) read fails = absurd fails
unstated_fails file config out fault.Write read fails = absurd fails
unstated_fails file config out fault.Memory read fails = Keeps-refl out
unstated_fails file config out fault.Clock read fails = absurd fails
unstated_fails file config out fault.Seed read fails = absurd fails
unstated_fails file config out (fault.Bind endpoint reason) read fails = absurd fails
unstated_fails file config out (fault.Control socket reason) read fails = absurd fails
unstated_fails file config out (fault.State socket why) read fails = absurd fails
unstated_fails file config out (fault.Descriptors wanted) read fails = absurd fails
unstated_fails file config out (fault.Wait reason) read fails = absurd fails
unstated_fails file config out fault.Thread read fails = absurd fails
unstated_fails file config out fault.Receive read fails = absurd fails
unstated_fails file config out fault.Audit read fails = absurd fails

-- the text that states it was printed
pub stated_anew : {T E : Type 0} (text anew : List ℕ) (config : ConfigView) (old new : Option (List ℕ)) (r : Result T E)
    → IsConfiguration text config → IsConfiguration anew config → OnOk r (Appends old new anew)
    → OnOk r (StatesAnew text old new)
stated_anew text anew config old new (Ok x) read same printed = record {
  config = config;
  read = read;
  anew = anew;
  same = same;
  printed = printed;
}
stated_anew text anew config old new (Err e) read same printed = tt

-- a write was refused
pub state_refused : {T : Type 0} (file : TextFile) (config : ConfigView) (old new : Option (List ℕ))
    (r : Result T Fault) → IsConfiguration (text_in file) config → IfErr r (λ f. f ≡ fault.Write)
    → IfErr r (StateFails file old new)
state_refused file config old new (Ok x) read refused = tt
state_refused file config old new (Err f) read refused =
    subst (λ g. StateFails file old new g) (sym refused) (config, read)
