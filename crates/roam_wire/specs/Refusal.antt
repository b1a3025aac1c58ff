-- The numbers of the refusals (ours).
use Rattle.std.specs.Prelude.{ℕ}
use Rattle.roam_wire.specs.declared.refusal.Refusal.{Refusal}
use Rattle.roam_wire.specs.declared.refusal.Refusal.TheVariants as refusal

-- the number under which a refusal is logged
abbrev pub number_of : Refusal → ℕ
number_of refusal.Short = 1
number_of refusal.BadLength = 2
number_of refusal.BadAttribute = 3
number_of refusal.UnknownSource = 4
number_of refusal.WrongCode = 5
number_of refusal.BadAuthenticator = 6
number_of refusal.BadMessageAuthenticator = 7
number_of refusal.MissingMessageAuthenticator = 8
number_of refusal.NoRealm = 9
number_of refusal.TooLong = 10
number_of refusal.Exhausted = 11
number_of refusal.NoIdentifier = 12
number_of refusal.Busy = 13
number_of refusal.NoEntry = 14
number_of refusal.WrongReply = 15
number_of refusal.BadReply = 16
number_of refusal.BadReplyMessageAuthenticator = 17
number_of refusal.ReplyTooLong = 18
number_of refusal.Moment = 19
number_of refusal.NoShard = 20
number_of refusal.NoMemory = 21
number_of refusal.TraceFull = 22
number_of refusal.Misplaced = 23
number_of refusal.TooManyHops = 24
number_of refusal.NotForPeer = 25
number_of refusal.AccountingDropped = 26
number_of refusal.ShareTaken = 27
number_of refusal.TooManyAttributes = 28
number_of refusal.Stale = 29
