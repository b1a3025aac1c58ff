-- Ends of exchanges that are told together: those that are alike, within a second, are one line with their number.
-- Ours.
use Rattle.std.specs.Prelude.{◌≡◌, ◌⊎◌, ℕ, ◌+◌, ◌-◌, ◌^◌, ◌<◌, ◌≤◌, ◌==◌, min, List, [], ◌∷◌, ◌++◌, length, slice_index_or, slice_set, All, None, if◌then◌else◌}
use Rattle.roam_log.specs.Details.{AreSame, no_details}
use Rattle.roam_log.specs.Values.{no_value, octets_if}
use Rattle.roam_log.specs.declared.exchange.Exchange.{Exchange}
use Rattle.roam_log.specs.declared.exchange.ExchangeEnd.{ExchangeEnd}
use Rattle.roam_log.specs.declared.exchange.ExchangeEnd.TheVariants as outcome
use Rattle.roam_log.specs.declared.exchange.RequestWord.TheVariants as asked

-- of the same peer, they ended in the same way and for the same cause, in the same realm
pub record EndAlike (a b : Exchange) : Type 0 where
  pub outcome : a.outcome ≡ b.outcome
  pub why : a.why ≡ b.why
  pub realm : a.realm ≡ b.realm
  pub peer : a.peer ≡ b.peer

-- that, with the same User-Name, the same Calling-Station-Id and the same details
pub record IsAlike (a b : Exchange) : Type 0 where
  pub end : EndAlike a b
  pub user : octets_if a.user ≡ octets_if b.user
  pub station : octets_if a.station ≡ octets_if b.station
  pub details : AreSame a.details b.details

-- one more of them, up to 2^64 - 1
abbrev pub once_more : Exchange → Exchange
once_more e = record e { times = min (2 ^ 64 - 1) (e.times + 1) }

-- one that ended so, of which no more is said
abbrev pub unsaid : ExchangeEnd → Exchange
unsaid end = record {
  outcome = end;
  why = None;
  error_cause = None;
  silence = None;
  asked = asked.Other;
  realm = None;
  peer = None;
  server = None;
  user = no_value;
  station = no_value;
  milliseconds = 0;
  tries = 0;
  rounds = 0;
  since_first = 0;
  times = 1;
  details = no_details;
}

-- the line of a place
abbrev pub line_at : List Exchange → ℕ → Exchange
line_at lines i = slice_index_or lines i (unsaid outcome.LocalReject)

-- no line is of its like
abbrev pub AllDiffer : Exchange → List Exchange → Type 0
AllDiffer e lines = All (λ line. ¬ (IsAlike line e)) lines

-- a line of its like counts it
pub record IsAgain (e : Exchange) (old new : List Exchange) : Type 0 where
  pub place : ℕ
  pub stands : place < length old
  pub alike : IsAlike (line_at old place) e
  pub counts : new ≡ slice_set old place (once_more (line_at old place))

-- there is none, and there are fewer than eight: it has one of its own
pub record IsFirst (e : Exchange) (old new : List Exchange) : Type 0 where
  pub differs : AllDiffer e old
  pub few : length old < 8
  pub counts : new ≡ old ++ e ∷ []

-- there is none, and there are eight: the ninth counts it with all others
pub record IsBeyond (e : Exchange) (old new : List Exchange) : Type 0 where
  pub differs : AllDiffer e old
  pub many : 8 ≤ length old
  pub counts : new ≡ (if length old == 8 then old ++ unsaid e.outcome ∷ []
      else slice_set old 8 (once_more (line_at old 8)))

-- ## Ends that are told together
-- Local rejects within a second, and replaced requests: those that ended alike, of one peer with one User-Name, one
-- Calling-Station-Id and the same details, are one line with their number; at most eight such lines of either, and all
-- others in a ninth.
-- Source: ours
-- Rules out: a flood of requests of no realm that pushes other lines out of the journal; two stations told as one
-- Stands in: `roam_log` `Folded.antt`: `IsAlike`, `IsCounted`; `FoldedLines::count`, `take_first`;
-- `Exchanges::reject`, `replace_of`, `tell_folded`, `tell_due`
--
-- one more is counted
abbrev pub IsCounted : Exchange → List Exchange → List Exchange → Type 0
IsCounted e old new = IsAgain e old new ⊎ IsFirst e old new ⊎ IsBeyond e old new
