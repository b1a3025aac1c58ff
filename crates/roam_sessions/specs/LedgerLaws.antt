-- Laws of session tables that are written and read: what `src/ledger_laws.rt` says. Ours.
use Rattle.std.specs.Prelude.{◌≡◌, ◌≢◌, ℕ, List, [], ◌++◌, Ok, Err}
use Rattle.roam_sessions.specs.Ledgers.{SavedItem, ledgers_text}
use Rattle.roam_sessions.specs.Reading.{reading}
use Rattle.roam_sessions.specs.declared.fault.LedgerFault.{LedgerFault}

-- what was written is read
abbrev pub WrittenIsRead : Type 0
WrittenIsRead = (items : List SavedItem) → reading (ledgers_text items) ≡ Ok items

-- what is read was so written: there are no other octets for it
abbrev pub ReadWasWritten : Type 0
ReadWasWritten = (octets : List ℕ) (items : List SavedItem) → reading octets ≡ Ok items → octets ≡ ledgers_text items

-- of a file that was cut, wherever that is, nothing is read
abbrev pub CutIsRefused : Type 0
CutIsRefused =
    (items : List SavedItem) (front rest : List ℕ) → front ++ rest ≡ ledgers_text items → rest ≢ []
    → (fault : LedgerFault) × (reading front ≡ Err fault)
