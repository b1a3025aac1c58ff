-- What is printed of two configurations, and which fault comes of them.
use Rattle.std.proofs.Common.{◌≡◌, inl, inr, ℕ, List, Option, Result, Ok, Err, MatchResult, OnOk, IfErr, refl, subst, sym}
use Rattle.roam_conf.specs.Config.{ConfigView}
use Rattle.roam_reload.specs.Numbers.{laid_out}
use Rattle.roam_reload.specs.Reload.{MayFollow}
use Rattle.roam_sim.specs.Simulation.{IsConfiguration}
use Rattle.roam_cli.specs.CommandLine.{to_compare}
use Rattle.roam_cli.specs.declared.text_file.TextFile.{TextFile}
use Rattle.roam_cli.specs.declared.report.Fault.{Fault}
use Rattle.roam_cli.specs.declared.report.Fault.TheVariants as fault
use Rattle.roam_cli.specs.CommandFaults.{text_in, CheckFails, CompareFails, DoesNotFollow, Follows}
use Rattle.roam_cli.specs.Printed.{IsPrinted}
use Rattle.roam_cli.specs.Outcomes.{IsDone}

-- the fault of the first of two configurations, and of the second
pub first_fails : (a b : TextFile) (out : Option (List ℕ)) (f : Fault) → CheckFails a out out f
    → CompareFails a b out out f
first_fails a b out fault.Usage fails = absurd fails
first_fails a b out (fault.NoCommand word) fails = absurd fails
first_fails a b out (fault.NoTime word) fails = absurd fails
first_fails a b out (fault.Unreadable path reason) fails = absurd fails
first_fails a b out (fault.NotText path line) fails = absurd fails
first_fails a b out (fault.MayNotFollow path) fails = absurd fails
first_fails a b out (fault.Misstated path) fails = absurd fails
first_fails a b out (fault.Unanswered path reason) fails = absurd fails
first_fails a b out (fault.Late path seconds) fails = absurd fails
first_fails a b out (fault.StillServes path seconds) fails = absurd fails
first_fails a b out (fault.Cut path) fails = absurd fails
first_fails a b out (fault.Declined path what) fails = absurd fails
first_fails a b out (fault.Refused path why) fails = (inl fails.0, fails.1)
first_fails a b out (fault.FaultyLine path number) fails = absurd fails
first_fails a b out fault.Write fails = tt
first_fails a b out fault.Memory fails = fails
first_fails a b out fault.Clock fails = absurd fails
first_fails a b out fault.Seed fails = absurd fails
first_fails a b out (fault.Bind endpoint reason) fails = absurd fails
first_fails a b out (fault.Control socket reason) fails = absurd fails
first_fails a b out (fault.State socket why) fails = absurd fails
first_fails a b out (fault.Descriptors wanted) fails = absurd fails
first_fails a b out (fault.Wait reason) fails = absurd fails
first_fails a b out fault.Thread fails = absurd fails
first_fails a b out fault.Receive fails = absurd fails
first_fails a b out fault.Audit fails = absurd fails

pub second_fails : (a b : TextFile) (out : Option (List ℕ)) (f : Fault) → CheckFails b out out f
    → CompareFails a b out out f
second_fails a b out fault.Usage fails = absurd fails
second_fails a b out (fault.NoCommand word) fails = absurd fails
second_fails a b out (fault.NoTime word) fails = absurd fails
second_fails a b out (fault.Unreadable path reason) fails = absurd fails
second_fails a b out (fault.NotText path line) fails = absurd fails
second_fails a b out (fault.MayNotFollow path) fails = absurd fails
second_fails a b out (fault.Misstated path) fails = absurd fails
second_fails a b out (fault.Unanswered path reason) fails = absurd fails
second_fails a b out (fault.Late path seconds) fails = absurd fails
second_fails a b out (fault.StillServes path seconds) fails = absurd fails
second_fails a b out (fault.Cut path) fails = absurd fails
second_fails a b out (fault.Declined path what) fails = absurd fails
second_fails a b out (fault.Refused path why) fails = (inr fails.0, fails.1)
second_fails a b out (fault.FaultyLine path number) fails = absurd fails
second_fails a b out fault.Write fails = tt
second_fails a b out fault.Memory fails = fails
second_fails a b out fault.Clock fails = absurd fails
second_fails a b out fault.Seed fails = absurd fails
second_fails a b out (fault.Bind endpoint reason) fails = absurd fails
second_fails a b out (fault.Control socket reason) fails = absurd fails
second_fails a b out (fault.State socket why) fails = absurd fails
second_fails a b out (fault.Descriptors wanted) fails = absurd fails
second_fails a b out (fault.Wait reason) fails = absurd fails
second_fails a b out fault.Thread fails = absurd fails
second_fails a b out fault.Receive fails = absurd fails
second_fails a b out fault.Audit fails = absurd fails

-- a write was refused
pub follow_refused : {T : Type 0} (a b : TextFile) (old new : Option (List ℕ)) (r : Result T Fault)
    → IfErr r (λ f. f ≡ fault.Write) → IfErr r (CompareFails a b old new)
follow_refused a b old new (Ok x) refused = tt
follow_refused a b old new (Err f) refused = subst (λ g. CompareFails a b old new g) (sym refused) tt

-- the second may not follow, and why was printed where that could be
pub not_followed : {T E : Type 0} (a b : TextFile) (old new : Option (List ℕ)) (f : Fault) (printed : Result T E)
    → MatchResult printed (λ done. f ≡ fault.MayNotFollow b.path) (λ why. f ≡ fault.Write)
    → OnOk printed (IsPrinted old new)
    → DoesNotFollow (text_in a) (text_in b) → CompareFails a b old new f
not_followed a b old new f (Ok done) is printed hindered =
    subst (λ g. CompareFails a b old new g) (sym is) (refl, hindered, printed)
not_followed a b old new f (Err why) is printed hindered = subst (λ g. CompareFails a b old new g) (sym is) tt

-- what holds of a success
pub on_ok : {T E : Type 0} (P : Type 0) (r : Result T E) → P → OnOk r P
on_ok P (Ok x) holds = holds
on_ok P (Err e) holds = tt

-- both texts state configurations, of which the second may follow the first
pub follows : {T E : Type 0} (text next_text : List ℕ) (before after : ConfigView) (r : Result T E)
    → IsConfiguration text before → IsConfiguration next_text after
    → OnOk r (MayFollow before (laid_out before after))
    → OnOk r (Follows text next_text)
follows text next_text before after (Ok x) read read_next may = record {
  before = before;
  after = after;
  read = read;
  read_next = read_next;
  may = may;
}
follows text next_text before after (Err e) read read_next may = tt

-- that was seen, and something was printed
pub compared : {T E : Type 0} (a b : TextFile) (first second : List ℕ) (old new : Option (List ℕ)) (r : Result T E)
    → OnOk r (Follows (text_in a) (text_in b)) → OnOk r (IsPrinted old new)
    → OnOk r (IsDone (to_compare first second) old new)
compared a b first second old new (Ok x) may printed = (text_in a, text_in b, may, printed)
compared a b first second old new (Err e) may printed = tt
