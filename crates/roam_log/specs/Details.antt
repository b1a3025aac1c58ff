-- The further parts of a line of an exchange: where the request comes from, its session, and who is charged. Ours.
use Rattle.std.specs.Prelude.{◌≡◌, ℕ, ◌==◌, List, [], ◌++◌, Option, Some, None, option_map, if◌then◌else◌, codes}
use Rattle.std.specs.Borrow.{Bor}
use Rattle.std.specs.Fmt.{decimal}
use Rattle.roam_log.specs.Values.{no_value, octets_if, value_text}
use Rattle.roam_log.specs.declared.details.Details.{Details}

abbrev pub no_details : Details
no_details = record {
  operator = no_value;
  nas_id = no_value;
  called = no_value;
  status = None;
  session = no_value;
  charged = no_value;
}

-- both say the same of where they come from
pub record IsOfSamePlace (a b : Details) : Type 0 where
  pub operator : octets_if a.operator ≡ octets_if b.operator
  pub nas_id : octets_if a.nas_id ≡ octets_if b.nas_id
  pub called : octets_if a.called ≡ octets_if b.called

-- both say the same of their session, and of who is charged
pub record IsOfSameSession (a b : Details) : Type 0 where
  pub status : a.status ≡ b.status
  pub session : octets_if a.session ≡ octets_if b.session
  pub charged : octets_if a.charged ≡ octets_if b.charged

pub record AreSame (a b : Details) : Type 0 where
  pub place : IsOfSamePlace a b
  pub session : IsOfSameSession a b

-- a key and a value between quotation marks; nothing where there is none
abbrev pub text_if : List ℕ → Option (List ℕ) → List ℕ
text_if key None = []
text_if key (Some value) = value_text key (Some value)

abbrev pub shown_word : Option (Bor (List ℕ)) → Option (List ℕ)
shown_word word = option_map (λ (w : Bor (List ℕ)). w.now) word

-- the word of an Acct-Status-Type, where it has one (RFC 2866, section 5.1)
abbrev pub status_word : ℕ → Option (List ℕ)
status_word status =
    if status == 1 then Some (codes "start")
    else if status == 2 then Some (codes "stop")
    else if status == 3 then Some (codes "interim")
    else if status == 7 then Some (codes "on")
    else if status == 8 then Some (codes "off")
    else None

abbrev pub word_or_number : Option (List ℕ) → ℕ → List ℕ
word_or_number (Some word) number = word
word_or_number None number = decimal number

-- the Acct-Status-Type, by its word or else its number
abbrev pub status_text : Option ℕ → List ℕ
status_text None = []
status_text (Some status) = codes " status=" ++ word_or_number (status_word status) status

-- ## Details of an exchange
-- Behind all else a line has, each where the request has it: its Operator-Name, NAS-Identifier, Called-Station-Id,
-- Acct-Status-Type (a word, or a number) and Acct-Session-Id; and the Chargeable-User-Identity of its Access-Accept.
-- Source: ours; RFC 5580 section 4.1, RFC 2865 sections 5.30, 5.32, RFC 2866 sections 5.1, 5.5, RFC 4372 section 2.2
-- Rules out: one attribute told under another's key; a value that forges a key
-- Stands in: `roam_log` `Details.antt`: `details_text`, `AreSame`; `push_exchange`, `FoldedLines::count`
--
-- each where it is there
abbrev pub details_text : Details → List ℕ
details_text details =
    text_if (codes " operator=") (octets_if details.operator) ++
    text_if (codes " nas_id=") (octets_if details.nas_id) ++
    text_if (codes " called=") (octets_if details.called) ++
    status_text details.status ++
    text_if (codes " session=") (octets_if details.session) ++
    text_if (codes " cui=") (octets_if details.charged)
