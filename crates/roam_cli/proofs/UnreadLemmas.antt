-- Why words aren't answered whose file isn't read.
use Rattle.std.proofs.Common.{◌≡◌, ◌∷◌, [], ◌∙◌, inl, inr, ℕ, List, Option, Result, Ok, Err, IfErr, IsErrAnd, Contains, subst, sym}
use Rattle.std.proofs.lemmas.List.Elements.{Contains-append_left, Contains-push}
use Rattle.std.proofs.KnownBytes.{Keeps-refl}
use Rattle.std.specs.Borrow.{Bor}
use Rattle.roam_cli.specs.CommandLine.{Asked, to_check, to_check_all, to_compare, to_simulate, to_serve, to_serve_with_its_seed, Asks, AsksToServeIt, AsksNothing, files_of}
use Rattle.roam_cli.specs.declared.report.Fault.{Fault}
use Rattle.roam_cli.specs.declared.report.Fault.TheVariants as fault
use Rattle.roam_cli.specs.Unread.{IsUnread}
use Rattle.roam_cli.specs.Outcomes.{Prevents}

-- each of two is among them
first-of-two : (a b : List ℕ) → Contains (a ∷ b ∷ []) a
first-of-two a b = Contains-append_left (a ∷ []) (b ∷ []) a (Contains-push [] a)

second-of-two : (a b : List ℕ) → Contains (a ∷ b ∷ []) b
second-of-two a b = Contains-push (a ∷ []) b

-- words that ask for something don't ask for nothing
asks-for-it : (words : List (List ℕ)) (asked : Asked) → Asks words asked → ¬ (AsksNothing words)
asks-for-it words asked worded nothing = nothing asked worded

-- what isn't an error is none
not-both : {T E : Type 0} (x : T) (e : E) → Ok x ≡ Err e → ⊥
not-both x e same = cc

-- what a file that isn't read says to words that name it
pub unread-says : (words : List (List ℕ)) (asked : Asked) (path : List ℕ) (out : Option (List ℕ)) (why : Fault) →
    Contains (files_of asked) path → Asks words asked → IsUnread path why → Prevents words out out why
unread-says words asked path out fault.Usage named worded unread = absurd unread
unread-says words asked path out (fault.NoCommand word) named worded unread = absurd unread
unread-says words asked path out (fault.NoTime word) named worded unread = absurd unread
unread-says words asked path out (fault.Unreadable given reason) named worded unread =
    ((asked, worded, rw unread named), Keeps-refl out)
unread-says words asked path out (fault.NotText given line) named worded unread =
    ((asked, worded, rw unread named), Keeps-refl out)
unread-says words asked path out (fault.MayNotFollow given) named worded unread = absurd unread
unread-says words asked path out (fault.Misstated given) named worded unread = absurd unread
unread-says words asked path out (fault.Unanswered given reason) named worded unread = absurd unread
unread-says words asked path out (fault.Late given seconds) named worded unread = absurd unread
unread-says words asked path out (fault.StillServes given seconds) named worded unread = absurd unread
unread-says words asked path out (fault.Cut given) named worded unread = absurd unread
unread-says words asked path out (fault.Declined given what) named worded unread = absurd unread
unread-says words asked path out (fault.Refused given because) named worded unread = absurd unread
unread-says words asked path out (fault.FaultyLine given number) named worded unread = absurd unread
unread-says words asked path out fault.Write named worded unread = absurd unread
unread-says words asked path out fault.Memory named worded unread =
    (asks-for-it words asked worded, inl (Keeps-refl out))
unread-says words asked path out fault.Clock named worded unread = absurd unread
unread-says words asked path out fault.Seed named worded unread = absurd unread
unread-says words asked path out (fault.Bind endpoint reason) named worded unread = absurd unread
unread-says words asked path out (fault.Control socket reason) named worded unread = absurd unread
unread-says words asked path out (fault.State socket why) named worded unread = absurd unread
unread-says words asked path out (fault.Descriptors wanted) named worded unread = absurd unread
unread-says words asked path out (fault.Wait reason) named worded unread = absurd unread
unread-says words asked path out fault.Thread named worded unread = absurd unread
unread-says words asked path out fault.Receive named worded unread = absurd unread
unread-says words asked path out fault.Audit named worded unread = absurd unread

-- the file of a check isn't read, or of one with all defaults, or of a server
pub unread-check-prevents : (path : List ℕ) (out : Option (List ℕ)) (why : Fault) → IsUnread path why →
    (words : List (List ℕ)) → Asks words (to_check path) → Prevents words out out why
unread-check-prevents path out why unread words worded =
    unread-says words (to_check path) path out why (Contains-push [] path) worded unread

pub unread-state-prevents : (path : List ℕ) (out : Option (List ℕ)) (why : Fault) → IsUnread path why →
    (words : List (List ℕ)) → Asks words (to_check_all path) → Prevents words out out why
unread-state-prevents path out why unread words worded =
    unread-says words (to_check_all path) path out why (Contains-push [] path) worded unread

pub unread-serve-prevents : (path : List ℕ) (milliseconds : Option ℕ) (why : Fault) → IsUnread path why →
    (words : List (List ℕ)) → (out : Option (List ℕ)) → AsksToServeIt words path milliseconds →
    Prevents words out out why
unread-serve-prevents path milliseconds why unread words out asks = elim asks [
  | inl drawn ↦ unread-says words (to_serve path milliseconds) path out why (Contains-push [] path) drawn unread
  | inr its_own ↦
      unread-says words (to_serve_with_its_seed path milliseconds) path out why (Contains-push [] path) its_own unread
]

-- one of the files isn't read
unread-prevents : {T U : Type 0} (asked : Asked) (path : List ℕ) (out : Option (List ℕ)) (why : Fault)
    (read : Result T Fault) (told : Result U Fault) →
    Contains (files_of asked) path → read ≡ Err why → IsErrAnd told (λ given. given ≡ why) →
    IfErr read (IsUnread path) →
    IfErr told (λ f. (words : List (List ℕ)) → Asks words asked → Prevents words out out f)
unread-prevents asked path out why (Ok x) told named was same unread = absurd (not-both x why was)
unread-prevents asked path out why (Err e) (Ok y) named was same unread = tt
unread-prevents asked path out why (Err e) (Err given) named was same unread = λ words worded.
    let given-is : given ≡ why = same in
    let read-is : e ≡ why = cc in
    let its_own = subst (λ f. IsUnread path f) (read-is ∙ sym given-is) unread in
    unread-says words asked path out given named worded its_own

-- the first of the two files of a simulation isn't read, and the second
pub unread-configuration-prevents : {T U : Type 0} (configuration : Bor (List ℕ)) (script : List ℕ)
    (out : Option (List ℕ)) (why : Fault) (read : Result T Fault) (told : Result U Fault) →
    read ≡ Err why → IsErrAnd told (λ given. given ≡ why) →
    IfErr read (IsUnread configuration.now) →
    IfErr told (λ f. (words : List (List ℕ)) → Asks words (to_simulate configuration.now script) →
    Prevents words out out f)
unread-configuration-prevents configuration script out why read told was same unread =
    unread-prevents (to_simulate configuration.now script) configuration.now out why read told
    (first-of-two configuration.now script) was same unread

pub unread-script-prevents : {T U : Type 0} (configuration : List ℕ) (script : Bor (List ℕ))
    (out : Option (List ℕ)) (why : Fault) (read : Result T Fault) (told : Result U Fault) →
    read ≡ Err why → IsErrAnd told (λ given. given ≡ why) →
    IfErr read (IsUnread script.now) →
    IfErr told (λ f. (words : List (List ℕ)) → Asks words (to_simulate configuration script.now) →
    Prevents words out out f)
unread-script-prevents configuration script out why read told was same unread =
    unread-prevents (to_simulate configuration script.now) script.now out why read told
    (second-of-two configuration script.now) was same unread

-- the first of the two files of a comparison isn't read, and the second
pub unread-old-prevents : {T U : Type 0} (configuration : Bor (List ℕ)) (next : List ℕ)
    (out : Option (List ℕ)) (why : Fault) (read : Result T Fault) (told : Result U Fault) →
    read ≡ Err why → IsErrAnd told (λ given. given ≡ why) →
    IfErr read (IsUnread configuration.now) →
    IfErr told (λ f. (words : List (List ℕ)) → Asks words (to_compare configuration.now next) →
    Prevents words out out f)
unread-old-prevents configuration next out why read told was same unread =
    unread-prevents (to_compare configuration.now next) configuration.now out why read told
    (first-of-two configuration.now next) was same unread

pub unread-next-prevents : {T U : Type 0} (configuration : List ℕ) (next : Bor (List ℕ))
    (out : Option (List ℕ)) (why : Fault) (read : Result T Fault) (told : Result U Fault) →
    read ≡ Err why → IsErrAnd told (λ given. given ≡ why) →
    IfErr read (IsUnread next.now) →
    IfErr told (λ f. (words : List (List ℕ)) → Asks words (to_compare configuration next.now) →
    Prevents words out out f)
unread-next-prevents configuration next out why read told was same unread =
    unread-prevents (to_compare configuration next.now) next.now out why read told
    (second-of-two configuration next.now) was same unread
