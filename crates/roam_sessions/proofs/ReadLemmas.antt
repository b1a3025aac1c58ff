-- What a function read is what was written.
use Rattle.std.proofs.Common.{◌≡◌, ℕ, List, Result, Ok, Err}
use Rattle.std.specs.Prelude.{IfOk}
use Rattle.std.specs.Global.{Vec}
use Rattle.roam_sessions.specs.declared.fault.ReadError.{ReadError}
use Rattle.roam_sessions.specs.declared.item.Item.{Item}
use Rattle.roam_sessions.specs.Ledgers.{ledgers_text}
use Rattle.roam_sessions.specs.Reading.{Gives, reading}
use Rattle.roam_sessions.specs.ShownLedgers.{shown_items}
use Rattle.roam_sessions.proofs.ItemLemmas.{read_was_written}

pub is_found :
    (octets : List ℕ) (r : Result (Vec Item) ReadError) → Gives (λ v. shown_items v.items) r (reading octets)
    → IfOk r (λ v. octets ≡ ledgers_text (shown_items v.items))
is_found octets (Ok v) given = read_was_written octets (shown_items v.items) given
is_found octets (Err e) given = tt
