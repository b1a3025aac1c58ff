-- Why words aren't answered, from the faults of the command that they ask for.
use Rattle.std.proofs.Common.{◌≡◌, ◌⊎◌, inl, inr, ℕ, List, Option, Result, Ok, Err, IfErr, subst, sym}
use Rattle.std.specs.Borrow.{Bor}
use Rattle.std.specs.Io.KnownBytes.{Keeps}
use Rattle.roam_sim.specs.Simulation.{SimulatesInPart}
use Rattle.roam_cli.specs.CommandLine.{to_check, to_check_all, to_compare, to_simulate, Asks}
use Rattle.roam_cli.specs.declared.text_file.TextFile.{TextFile}
use Rattle.roam_cli.specs.declared.report.Fault.{Fault}
use Rattle.roam_cli.specs.declared.report.Fault.TheVariants as fault
use Rattle.roam_cli.specs.CommandFaults.{text_in, CheckFails, CompareFails, RunFails, StateFails}
use Rattle.roam_cli.specs.Outcomes.{IsAnsweredInPart, Prevents}

-- some events were lost, or the output is as it was
in_part : (words : List (List ℕ)) (configuration script : TextFile) (old new : Option (List ℕ)) →
    Asks words (to_simulate configuration.path.now script.path.now) →
    Keeps old new ⊎ SimulatesInPart (text_in configuration) (text_in script) old new →
    Keeps old new ⊎ IsAnsweredInPart words old new
in_part words configuration script old new worded (inl kept) = inl kept
in_part words configuration script old new worded (inr part) = inr (record {
  configuration = configuration.path.now;
  script = script.path.now;
  worded = worded;
  configuration_text = text_in configuration;
  script_text = text_in script;
  done = part;
})

-- the faults of a run, where the words name its two files
pub run-prevents : {T : Type 0} (words : List (List ℕ)) (configuration script : TextFile)
    (old new : Option (List ℕ)) (r : Result T Fault) →
    Asks words (to_simulate configuration.path.now script.path.now) →
    IfErr r (RunFails configuration script old new) → IfErr r (Prevents words old new)
run-prevents words configuration script old new (Ok x) worded fails = tt
run-prevents words configuration script old new (Err fault.Usage) worded fails = absurd fails
run-prevents words configuration script old new (Err (fault.NoCommand word)) worded fails = absurd fails
run-prevents words configuration script old new (Err (fault.NoTime word)) worded fails = absurd fails
run-prevents words configuration script old new (Err (fault.Unreadable path reason)) worded fails = absurd fails
run-prevents words configuration script old new (Err (fault.NotText path line)) worded fails = absurd fails
run-prevents words configuration script old new (Err (fault.MayNotFollow path)) worded fails = absurd fails
run-prevents words configuration script old new (Err (fault.Misstated path)) worded fails = absurd fails
run-prevents words configuration script old new (Err (fault.Unanswered path reason)) worded fails = absurd fails
run-prevents words configuration script old new (Err (fault.Late path seconds)) worded fails = absurd fails
run-prevents words configuration script old new (Err (fault.StillServes path seconds)) worded fails = absurd fails
run-prevents words configuration script old new (Err (fault.Cut path)) worded fails = absurd fails
run-prevents words configuration script old new (Err (fault.Declined path what)) worded fails = absurd fails
run-prevents words configuration script old new (Err (fault.Refused path why)) worded fails =
    ((to_simulate configuration.path.now script.path.now, worded, sym fails.0.named), fails.1)
run-prevents words configuration script old new (Err (fault.FaultyLine path number)) worded fails =
    ((configuration.path.now, rw fails.0.named worded), fails.2)
run-prevents words configuration script old new (Err fault.Write) worded fails =
    λ nothing. nothing (to_simulate configuration.path.now script.path.now) worded
run-prevents words configuration script old new (Err fault.Memory) worded fails = (
  (λ nothing. nothing (to_simulate configuration.path.now script.path.now) worded),
  in_part words configuration script old new worded fails,
)
run-prevents words configuration script old new (Err fault.Clock) worded fails = absurd fails
run-prevents words configuration script old new (Err fault.Seed) worded fails = absurd fails
run-prevents words configuration script old new (Err (fault.Bind endpoint reason)) worded fails = absurd fails
run-prevents words configuration script old new (Err (fault.Control socket reason)) worded fails = absurd fails
run-prevents words configuration script old new (Err (fault.State socket why)) worded fails = absurd fails
run-prevents words configuration script old new (Err (fault.Descriptors wanted)) worded fails = absurd fails
run-prevents words configuration script old new (Err (fault.Wait reason)) worded fails = absurd fails
run-prevents words configuration script old new (Err fault.Thread) worded fails = absurd fails
run-prevents words configuration script old new (Err fault.Receive) worded fails = absurd fails
run-prevents words configuration script old new (Err fault.Audit) worded fails = absurd fails

-- the faults of a check, where the words name its file
check-prevents : (words : List (List ℕ)) (file : TextFile) (old new : Option (List ℕ)) (f : Fault) →
    Asks words (to_check file.path.now) → CheckFails file old new f → Prevents words old new f
check-prevents words file old new fault.Usage worded fails = absurd fails
check-prevents words file old new (fault.NoCommand word) worded fails = absurd fails
check-prevents words file old new (fault.NoTime word) worded fails = absurd fails
check-prevents words file old new (fault.Unreadable path reason) worded fails = absurd fails
check-prevents words file old new (fault.NotText path line) worded fails = absurd fails
check-prevents words file old new (fault.MayNotFollow path) worded fails = absurd fails
check-prevents words file old new (fault.Misstated path) worded fails = absurd fails
check-prevents words file old new (fault.Unanswered path reason) worded fails = absurd fails
check-prevents words file old new (fault.Late path seconds) worded fails = absurd fails
check-prevents words file old new (fault.StillServes path seconds) worded fails = absurd fails
check-prevents words file old new (fault.Cut path) worded fails = absurd fails
check-prevents words file old new (fault.Declined path what) worded fails = absurd fails
check-prevents words file old new (fault.Refused path why) worded fails =
    ((to_check file.path.now, worded, sym fails.0.named), fails.1)
check-prevents words file old new (fault.FaultyLine path number) worded fails = absurd fails
check-prevents words file old new fault.Write worded fails = λ nothing. nothing (to_check file.path.now) worded
check-prevents words file old new fault.Memory worded fails =
    ((λ nothing. nothing (to_check file.path.now) worded), inl fails)
check-prevents words file old new fault.Clock worded fails = absurd fails
check-prevents words file old new fault.Seed worded fails = absurd fails
check-prevents words file old new (fault.Bind endpoint reason) worded fails = absurd fails
check-prevents words file old new (fault.Control socket reason) worded fails = absurd fails
check-prevents words file old new (fault.State socket why) worded fails = absurd fails
check-prevents words file old new (fault.Descriptors wanted) worded fails = absurd fails
check-prevents words file old new (fault.Wait reason) worded fails = absurd fails
check-prevents words file old new fault.Thread worded fails = absurd fails
check-prevents words file old new fault.Receive worded fails = absurd fails
check-prevents words file old new fault.Audit worded fails = absurd fails

-- the same, to all words that name its file
pub check-prevents-all : {T : Type 0} (file : TextFile) (path : Bor (List ℕ)) (old new : Option (List ℕ))
    (r : Result T Fault) → file.path ≡ path → IfErr r (CheckFails file old new) →
    IfErr r (λ f. (words : List (List ℕ)) → Asks words (to_check path.now) → Prevents words old new f)
check-prevents-all file path old new (Ok x) named fails = tt
check-prevents-all file path old new (Err why) named fails = λ words worded.
    check-prevents words file old new why (subst (λ p. Asks words (to_check p.now)) (sym named) worded) fails

-- the faults of a configuration that is to be stated anew, where the words name its file
state-prevents : (words : List (List ℕ)) (file : TextFile) (old new : Option (List ℕ)) (f : Fault) →
    Asks words (to_check_all file.path.now) → StateFails file old new f → Prevents words old new f
state-prevents words file old new fault.Usage worded fails = absurd fails
state-prevents words file old new (fault.NoCommand word) worded fails = absurd fails
state-prevents words file old new (fault.NoTime word) worded fails = absurd fails
state-prevents words file old new (fault.Unreadable path reason) worded fails = absurd fails
state-prevents words file old new (fault.NotText path line) worded fails = absurd fails
state-prevents words file old new (fault.MayNotFollow path) worded fails = absurd fails
state-prevents words file old new (fault.Misstated path) worded fails =
    (subst (λ p. Asks words (to_check_all p)) (sym fails.0) worded, fails.2)
state-prevents words file old new (fault.Unanswered path reason) worded fails = absurd fails
state-prevents words file old new (fault.Late path seconds) worded fails = absurd fails
state-prevents words file old new (fault.StillServes path seconds) worded fails = absurd fails
state-prevents words file old new (fault.Cut path) worded fails = absurd fails
state-prevents words file old new (fault.Declined path what) worded fails = absurd fails
state-prevents words file old new (fault.Refused path why) worded fails =
    ((to_check_all file.path.now, worded, sym fails.0.named), fails.1)
state-prevents words file old new (fault.FaultyLine path number) worded fails = absurd fails
state-prevents words file old new fault.Write worded fails = λ nothing. nothing (to_check_all file.path.now) worded
state-prevents words file old new fault.Memory worded fails =
    ((λ nothing. nothing (to_check_all file.path.now) worded), inl fails)
state-prevents words file old new fault.Clock worded fails = absurd fails
state-prevents words file old new fault.Seed worded fails = absurd fails
state-prevents words file old new (fault.Bind endpoint reason) worded fails = absurd fails
state-prevents words file old new (fault.Control socket reason) worded fails = absurd fails
state-prevents words file old new (fault.State socket why) worded fails = absurd fails
state-prevents words file old new (fault.Descriptors wanted) worded fails = absurd fails
state-prevents words file old new (fault.Wait reason) worded fails = absurd fails
state-prevents words file old new fault.Thread worded fails = absurd fails
state-prevents words file old new fault.Receive worded fails = absurd fails
state-prevents words file old new fault.Audit worded fails = absurd fails

-- the same, to all words that name its file
pub state-prevents-all : {T : Type 0} (file : TextFile) (path : Bor (List ℕ)) (old new : Option (List ℕ))
    (r : Result T Fault) → file.path ≡ path → IfErr r (StateFails file old new) →
    IfErr r (λ f. (words : List (List ℕ)) → Asks words (to_check_all path.now) → Prevents words old new f)
state-prevents-all file path old new (Ok x) named fails = tt
state-prevents-all file path old new (Err why) named fails = λ words worded.
    state-prevents words file old new why (subst (λ p. Asks words (to_check_all p.now)) (sym named) worded) fails

-- the faults of a run, to all words that name its two files
pub run-prevents-all : {T : Type 0} (configuration script : TextFile) (first second : Bor (List ℕ))
    (old new : Option (List ℕ)) (r : Result T Fault) → configuration.path ≡ first → script.path ≡ second →
    IfErr r (RunFails configuration script old new) →
    IfErr r (λ f. (words : List (List ℕ)) → Asks words (to_simulate first.now second.now) → Prevents words old new f)
run-prevents-all {T} configuration script first second old new (Ok x) named also fails = tt
run-prevents-all {T} configuration script first second old new (Err why) named also fails = λ words worded.
    let by-configuration = subst (λ p. Asks words (to_simulate p.now second.now)) (sym named) worded in
    let by-both = subst (λ p. Asks words (to_simulate configuration.path.now p.now)) (sym also) by-configuration in
    run-prevents {T = T} words configuration script old new (Err why) by-both fails

-- the faults of a comparison, where the words name its two files
compare_prevents : {T : Type 0} (words : List (List ℕ)) (configuration next : TextFile)
    (old new : Option (List ℕ)) (r : Result T Fault) →
    Asks words (to_compare configuration.path.now next.path.now) →
    IfErr r (CompareFails configuration next old new) → IfErr r (Prevents words old new)
compare_prevents words configuration next old new (Ok x) worded fails = tt
compare_prevents words configuration next old new (Err fault.Usage) worded fails = absurd fails
compare_prevents words configuration next old new (Err (fault.NoCommand word)) worded fails = absurd fails
compare_prevents words configuration next old new (Err (fault.NoTime word)) worded fails = absurd fails
compare_prevents words configuration next old new (Err (fault.Unreadable path reason)) worded fails = absurd fails
compare_prevents words configuration next old new (Err (fault.NotText path line)) worded fails = absurd fails
compare_prevents words configuration next old new (Err (fault.MayNotFollow path)) worded fails =
    ((configuration.path.now, rw fails.0 worded), fails.2)
compare_prevents words configuration next old new (Err (fault.Misstated path)) worded fails = absurd fails
compare_prevents words configuration next old new (Err (fault.Unanswered path reason)) worded fails = absurd fails
compare_prevents words configuration next old new (Err (fault.Late path seconds)) worded fails = absurd fails
compare_prevents words configuration next old new (Err (fault.StillServes path seconds)) worded fails = absurd fails
compare_prevents words configuration next old new (Err (fault.Cut path)) worded fails = absurd fails
compare_prevents words configuration next old new (Err (fault.Declined path what)) worded fails = absurd fails
compare_prevents words configuration next old new (Err (fault.Refused path why)) worded fails =
    elim fails.0 [
      | inl first ↦ ((to_compare configuration.path.now next.path.now, worded, inl (sym first.named)), fails.1)
      | inr second ↦ ((to_compare configuration.path.now next.path.now, worded, inr (sym second.named)), fails.1)
    ]
compare_prevents words configuration next old new (Err (fault.FaultyLine path number)) worded fails = absurd fails
compare_prevents words configuration next old new (Err fault.Write) worded fails =
    λ nothing. nothing (to_compare configuration.path.now next.path.now) worded
compare_prevents words configuration next old new (Err fault.Memory) worded fails = (
  (λ nothing. nothing (to_compare configuration.path.now next.path.now) worded),
  inl fails,
)
compare_prevents words configuration next old new (Err fault.Clock) worded fails = absurd fails
compare_prevents words configuration next old new (Err fault.Seed) worded fails = absurd fails
compare_prevents words configuration next old new (Err (fault.Bind endpoint reason)) worded fails = absurd fails
compare_prevents words configuration next old new (Err (fault.Control socket reason)) worded fails = absurd fails
compare_prevents words configuration next old new (Err (fault.State socket why)) worded fails = absurd fails
compare_prevents words configuration next old new (Err (fault.Descriptors wanted)) worded fails = absurd fails
compare_prevents words configuration next old new (Err (fault.Wait reason)) worded fails = absurd fails
compare_prevents words configuration next old new (Err fault.Thread) worded fails = absurd fails
compare_prevents words configuration next old new (Err fault.Receive) worded fails = absurd fails
compare_prevents words configuration next old new (Err fault.Audit) worded fails = absurd fails

-- the same, to all words that name its two files
pub compare-prevents-all : {T : Type 0} (configuration next : TextFile) (first second : Bor (List ℕ))
    (old new : Option (List ℕ)) (r : Result T Fault) → configuration.path ≡ first → next.path ≡ second →
    IfErr r (CompareFails configuration next old new) →
    IfErr r (λ f. (words : List (List ℕ)) → Asks words (to_compare first.now second.now) → Prevents words old new f)
compare-prevents-all {T} configuration next first second old new (Ok x) named also fails = tt
compare-prevents-all {T} configuration next first second old new (Err why) named also fails = λ words worded.
    let by-configuration = subst (λ p. Asks words (to_compare p.now second.now)) (sym named) worded in
    let by-both = subst (λ p. Asks words (to_compare configuration.path.now p.now)) (sym also) by-configuration in
    compare_prevents {T = T} words configuration next old new (Err why) by-both fails
