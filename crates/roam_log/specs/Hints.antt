-- The usual faults where something is dropped, and the part of a datagram that shows it. Ours.
use Rattle.std.specs.Prelude.{ℕ, ◌==◌, ◌||◌, List, [], ◌++◌, length, Option, Some, if◌then◌else◌, codes}
use Rattle.std.specs.Fmt.{decimal}
use Rattle.roam_conf.specs.declared.place.Place.{Place}
use Rattle.roam_conf.specs.declared.place.Place.TheVariants as place
use Rattle.roam_wire.specs.declared.refusal.Refusal.{Refusal}
use Rattle.roam_wire.specs.declared.refusal.Refusal.TheVariants as refusal
use Rattle.roam_log.specs.declared.clue.Clue.{Clue}
use Rattle.roam_log.specs.declared.clue.Clue.TheVariants as clue
use Rattle.roam_log.specs.declared.origin.Origin.{Origin}
use Rattle.roam_log.specs.declared.origin.Origin.TheVariants as origin

-- what is wrong with the seal of a reply
abbrev pub seal_hint : Option Origin → List ℕ
seal_hint (Some (origin.Unsealed place from)) = codes ": no Message-Authenticator"
seal_hint (Some (origin.Datagram place from)) = codes ": wrong Message-Authenticator"
seal_hint _ = []

-- who isn't configured, by the place
abbrev pub source_at : Place → List ℕ
source_at (place.Auth nth) = codes ": no [[peer]] has this address"
source_at (place.Acct nth) = codes ": no [[peer]] has this address"
source_at (place.Out realm nth) =
    codes ": no home server of this realm, and no coa of a peer, has this address and port"
source_at (place.Reverse realm nth) = codes ": no home server and no coa_client of this realm has this address"

abbrev pub source_hint : Option Origin → List ℕ
source_hint (Some (origin.Datagram place from)) = source_at place
source_hint _ = []

-- what is usually wrong
abbrev pub hint_text : Refusal → Option Origin → List ℕ
hint_text refusal.UnknownSource at = source_hint at
hint_text refusal.BadReplyMessageAuthenticator at = seal_hint at
hint_text refusal.Short at = codes ": fewer than 20 octets, so no RADIUS packet"
hint_text refusal.BadLength at = codes ": its Length is not that of the datagram"
hint_text refusal.BadAttribute at = codes ": the Length of an attribute is wrong"
hint_text refusal.BadAuthenticator at = codes ": other secret?"
hint_text refusal.BadMessageAuthenticator at = codes ": other secret?"
hint_text refusal.MissingMessageAuthenticator at =
    codes ": no Message-Authenticator: update the sender, or see require_seal"
hint_text refusal.TooLong at = codes ": more than 4096 octets with what is added"
hint_text refusal.NoIdentifier at =
    codes ": all 256 Identifiers are in use: its servers do not answer or are slow, or it needs one more out"
hint_text refusal.Busy at = codes ": max_pending requests wait: its servers do not answer or are slow"
hint_text refusal.NoEntry at = codes ": no request waits for it: too late, or twice"
hint_text refusal.WrongReply at = codes ": its code does not answer the request"
hint_text refusal.BadReply at = codes ": other secret?"
hint_text refusal.ReplyTooLong at = codes ": more than 4096 octets with what is added"
hint_text refusal.TooManyHops at = codes ": more Proxy-States than max_hops: is there a loop?"
hint_text refusal.NotForPeer at = codes ": its realm does not take requests of this peer: see peers"
hint_text refusal.AccountingDropped at = codes ": its realm has accounting = \"drop\""
hint_text refusal.ShareTaken at = codes ": share or peer_share is taken: its servers do not answer or are slow"
hint_text refusal.TooManyAttributes at = codes ": more attributes than max_attributes"
hint_text _ at = []

-- where a request of a code goes that came to `auth` or `acct`
abbrev pub other_code : ℕ → List ℕ
other_code code =
    if code == 12 then codes " (Status-Server): set status_server = true"
    else if (code == 40) || (code == 43) then codes " (Disconnect or CoA): it goes to a realm's reverse"
    else []

abbrev pub code_advice : Place → ℕ → List ℕ
code_advice (place.Auth nth) code =
    if code == 4 then codes " (Accounting-Request): accounting goes to acct" else other_code code
code_advice (place.Acct nth) code =
    if code == 1 then codes " (Access-Request): logins go to auth" else other_code code
code_advice _ code = []

-- the realm that is asked for, as it is shown
abbrev pub asked_text : List ℕ → List ℕ
asked_text asked =
    if length asked == 0 then codes ": its realm is not printable" else (codes ": no realm has the name " ++ asked)

-- what of a datagram shows what is wrong
abbrev pub shown_text : Place → Clue → List ℕ → List ℕ
shown_text place (clue.Attribute kind) asked = codes ": its type is " ++ decimal kind
shown_text place (clue.Code code) asked = codes ": code " ++ decimal code ++ code_advice place code
shown_text place clue.NoUserName asked = codes ": no User-Name: for Accounting-On and -Off set answer_unnamed = true"
shown_text place clue.NoRealmPart asked = codes ": its User-Name names no realm"
shown_text place (clue.AsksFor realm) asked = asked_text asked
shown_text place (clue.Behind seconds) asked =
    codes ": its Event-Timestamp is " ++ decimal seconds ++ codes " s behind the clock here"
shown_text place (clue.Ahead seconds) asked =
    codes ": its Event-Timestamp is " ++ decimal seconds ++ codes " s ahead of the clock here"

abbrev pub clue_text : Option Origin → List ℕ → List ℕ
clue_text (Some (origin.Explained place from clue)) asked = shown_text place clue asked
clue_text _ asked = []
