-- What a command's outcome is, from what its parts did.
use Rattle.std.proofs.Common.{◌≡◌, ◌⊎◌, inl, inr, ℕ, List, Option, Result, Ok, Err, OnOk, IfErr, refl, subst, sym, string_bytes}
use Rattle.std.proofs.KnownBytes.{Appends-kept, Keeps-refl}
use Rattle.std.specs.Io.KnownBytes.{Appends, Keeps}
use Rattle.roam_conf.specs.Config.{ConfigView}
use Rattle.roam_conf_reader.specs.declared.fault.ConfFault.{ConfFault}
use Rattle.roam_conf_reader.specs.declared.fault.ConfFault.TheVariants as conf
use Rattle.roam_conf_reader.specs.Faults.{States, NoneHolds, IsFirstFault, every_fault}
use Rattle.std.specs.Prelude.{IsErrOf, IsOk}
use Rattle.roam_sim.specs.Script.{script_states}
use Rattle.roam_sim.specs.Simulation.{IsConfiguration, IsAccepted, Simulates}
use Rattle.roam_sim.specs.declared.fault.SimFault.{SimFault}
use Rattle.roam_sim.specs.declared.fault.SimFault.TheVariants as sim
use Rattle.roam_cli.specs.declared.text_file.TextFile.{TextFile}
use Rattle.roam_cli.specs.declared.report.Fault.{Fault}
use Rattle.roam_cli.specs.declared.report.Fault.TheVariants as fault
use Rattle.roam_cli.specs.CommandFaults.{summary_of, text_in, Checks, CheckFails, RunFails, ServeFails, AreRead}

-- the summary was printed of the configuration that the file states
pub printed-checks : {T E : Type 0} (file : TextFile) (text : List ℕ) (config : ConfigView)
    (old new : Option (List ℕ)) (r : Result T E) →
    text ≡ string_bytes file.text → States text config → NoneHolds text every_fault →
    OnOk r (Appends old new (summary_of config)) → OnOk r (Checks (text_in file) old new)
printed-checks file text config old new (Ok x) same stated faultless printed = record {
  config = config;
  read = record { stated = rw (← same) stated; faultless = rw (← same) faultless };
  printed = printed;
}
printed-checks file text config old new (Err e) same stated faultless printed = tt

-- a refused write comes after the configuration was accepted
pub printed-fails : {T : Type 0} (file : TextFile) (text : List ℕ) (config : ConfigView)
    (old new : Option (List ℕ)) (r : Result T Fault) →
    text ≡ string_bytes file.text → States text config → NoneHolds text every_fault →
    IfErr r (λ f. f ≡ fault.Write) → IfErr r (CheckFails file old new)
printed-fails file text config old new (Ok x) same stated faultless refused = tt
printed-fails file text config old new (Err e) same stated faultless refused =
    let accepted : IsAccepted (string_bytes file.text) =
    (config, record { stated = rw (← same) stated; faultless = rw (← same) faultless }) in
    rw refused accepted

-- want of memory, among the faults of a configuration
abbrev WantsMemory : ConfFault → Type 0
WantsMemory conf.Memory = Unit {0}
WantsMemory _ = ⊥

-- what holds of a configuration that is refused by its first fault
refused-first : (P : Fault → Type 0) (file : TextFile) (text : List ℕ) (why : ConfFault) (f : Fault) →
    (why ≡ conf.Memory) ⊎ IsFirstFault text why →
    (¬ (why ≡ conf.Memory) → f ≡ fault.Refused file.path why) →
    (IsFirstFault text why → P (fault.Refused file.path why)) → ¬ (why ≡ conf.Memory) → P f
refused-first P file text why f found refused of-refused apart =
    let first : IsFirstFault text why = elim found [
      | inl wanted ↦ absurd (apart wanted)
      | inr first ↦ first
    ] in
    rw (refused apart) (of-refused first)

-- what holds of a configuration that isn't read: it is refused, or memory is wanting
unread : (P : Fault → Type 0) (file : TextFile) (text : List ℕ) (why : ConfFault) (f : Fault) →
    (why ≡ conf.Memory) ⊎ IsFirstFault text why →
    (why ≡ conf.Memory → f ≡ fault.Memory) → (¬ (why ≡ conf.Memory) → f ≡ fault.Refused file.path why) →
    (IsFirstFault text why → P (fault.Refused file.path why)) → P fault.Memory → P f
unread P file text conf.Syntax f found memory refused of-refused of-memory =
    refused-first P file text conf.Syntax f found refused of-refused (λ is. subst WantsMemory (sym is) tt)
unread P file text conf.Missing f found memory refused of-refused of-memory =
    refused-first P file text conf.Missing f found refused of-refused (λ is. subst WantsMemory (sym is) tt)
unread P file text conf.BadValue f found memory refused of-refused of-memory =
    refused-first P file text conf.BadValue f found refused of-refused (λ is. subst WantsMemory (sym is) tt)
unread P file text conf.DuplicateRealm f found memory refused of-refused of-memory =
    refused-first P file text conf.DuplicateRealm f found refused of-refused (λ is. subst WantsMemory (sym is) tt)
unread P file text conf.DuplicatePeer f found memory refused of-refused of-memory =
    refused-first P file text conf.DuplicatePeer f found refused of-refused (λ is. subst WantsMemory (sym is) tt)
unread P file text conf.DuplicateEndpoint f found memory refused of-refused of-memory =
    refused-first P file text conf.DuplicateEndpoint f found refused of-refused (λ is. subst WantsMemory (sym is) tt)
unread P file text conf.DuplicateServer f found memory refused of-refused of-memory =
    refused-first P file text conf.DuplicateServer f found refused of-refused (λ is. subst WantsMemory (sym is) tt)
unread P file text conf.DuplicateLink f found memory refused of-refused of-memory =
    refused-first P file text conf.DuplicateLink f found refused of-refused (λ is. subst WantsMemory (sym is) tt)
unread P file text conf.NoWayOut f found memory refused of-refused of-memory =
    refused-first P file text conf.NoWayOut f found refused of-refused (λ is. subst WantsMemory (sym is) tt)
unread P file text conf.UnknownPeer f found memory refused of-refused of-memory =
    refused-first P file text conf.UnknownPeer f found refused of-refused (λ is. subst WantsMemory (sym is) tt)
unread P file text conf.Memory f found memory refused of-refused of-memory = rw (memory refl) of-memory

-- such a configuration is checked, and nothing is printed
pub unread-fails : (file : TextFile) (text : List ℕ) (old : Option (List ℕ)) (why : ConfFault) (f : Fault) →
    text ≡ string_bytes file.text → (why ≡ conf.Memory) ⊎ IsFirstFault text why →
    (why ≡ conf.Memory → f ≡ fault.Memory) → (¬ (why ≡ conf.Memory) → f ≡ fault.Refused file.path why) →
    CheckFails file old old f
unread-fails file text old why f same found memory refused =
    unread (λ g. CheckFails file old old g) file text why f found memory refused
    (λ first. (record { named = refl; first = rw (← same) first }, Keeps-refl old)) (Keeps-refl old)

-- such a configuration is to be served
pub unread-serves : (file : TextFile) (text : List ℕ) (why : ConfFault) (f : Fault) →
    text ≡ string_bytes file.text → (why ≡ conf.Memory) ⊎ IsFirstFault text why →
    (why ≡ conf.Memory → f ≡ fault.Memory) → (¬ (why ≡ conf.Memory) → f ≡ fault.Refused file.path why) →
    ServeFails file f
unread-serves file text why f same found memory refused =
    unread (λ g. ServeFails file g) file text why f found memory refused
    (λ first. record { named = refl; first = rw (← same) first }) tt

-- the lines are still there once the writer has handed them on
pub handed-on-runs : {T E : Type 0} (configuration script : TextFile) (read-configuration read-script : List ℕ)
    (old mid new : Option (List ℕ)) (r : Result T E) →
    read-configuration ≡ string_bytes configuration.text → read-script ≡ string_bytes script.text →
    Simulates read-configuration read-script old mid → Keeps mid new →
    OnOk r (Simulates (text_in configuration) (text_in script) old new)
handed-on-runs configuration script read-configuration read-script old mid new (Ok x) same same-script simulates
    kept =
    let run = simulates.simulated in
    let still : Simulates read-configuration read-script old new = record {
      config = simulates.config;
      read = simulates.read;
      simulated = record {
        events = run.events;
        packets = run.packets;
        stated = run.stated;
        sent = run.sent;
        written = Appends-kept old mid new _ run.written kept;
      };
    } in
    rw (← same, ← same-script) still
handed-on-runs configuration script read-configuration read-script old mid new (Err e) same same-script simulates
    kept = tt

-- a write that is refused after the lines were written: both texts were read
pub runs-fails : {T : Type 0} (configuration script : TextFile) (read-configuration read-script : List ℕ)
    (old mid new : Option (List ℕ)) (r : Result T Fault) →
    read-configuration ≡ string_bytes configuration.text → read-script ≡ string_bytes script.text →
    Simulates read-configuration read-script old mid →
    IfErr r (λ f. f ≡ fault.Write) → IfErr r (RunFails configuration script old new)
runs-fails configuration script read-configuration read-script old mid new (Ok x) same same-script simulates
    refused = tt
runs-fails configuration script read-configuration read-script old mid new (Err e) same same-script simulates
    refused =
    let read : AreRead read-configuration read-script = record {
      accepted = (simulates.config, simulates.read);
      faultless = rw simulates.simulated.stated refl;
    } in
    rw refused (inr (rw (same, same-script) at read))

-- a line that is refused: both texts were read
pub write-fails : (configuration script : TextFile) (read-configuration read-script : List ℕ)
    (old new : Option (List ℕ)) (r : Result Unit SimFault) →
    read-configuration ≡ string_bytes configuration.text → read-script ≡ string_bytes script.text →
    r ≡ Err sim.Write → (IsErrOf r sim.Write → IsAccepted read-configuration) →
    (IsErrOf r sim.Write → IsOk (script_states read-script)) →
    Keeps old new ⊎ AreRead (text_in configuration) (text_in script)
write-fails configuration script read-configuration read-script old new r same same-script is accepted faultless =
    let read : AreRead read-configuration read-script = record {
      accepted = accepted is;
      faultless = faultless is;
    } in
    inr (rw (same, same-script) at read)

-- the text that was read states the configuration
pub accepted-text : (file : TextFile) (text : List ℕ) (config : ConfigView) →
    text ≡ string_bytes file.text → States text config → NoneHolds text every_fault →
    IsConfiguration (text_in file) config
accepted-text file text config same stated faultless = record {
  stated = rw (← same) stated;
  faultless = rw (← same) faultless;
}
