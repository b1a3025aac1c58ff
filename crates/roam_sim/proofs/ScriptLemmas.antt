-- A script that is read line by line.
use Rattle.std.proofs.Common.{◌≡◌, ℕ, ◌+◌, ◌≤◌, Bool, true, false, eqb, List, [], ◌∷◌, ◌++◌, length, Option, Some, None, Result, Ok, Err, Bor, refl, sym, ap, ◌∙◌, append_assoc, append-nil, arith}
use Rattle.std.proofs.lemmas.Iterator.{YieldsList}
use Rattle.std.proofs.lemmas.Iterator.Splits.{YieldsList-from_str_split}
use Rattle.std.proofs.lemmas.List.Splits.{length-slice_split}
use Rattle.std.proofs.lemmas.List.Sums.{count_by-le-length}
use Rattle.std.specs.Str.Iter.{split_steps, split_text, split_has_more, split_pattern}
use Rattle.std.specs.Str.Pattern.{FindsChar}
use Rattle.std.specs.declared.str.Split.{Split}
use Rattle.roam_conf.specs.Texts.{parts}
use Rattle.roam_core.specs.Events.{PlainEvent}
use Rattle.roam_sim.specs.declared.script.ScriptFault.{ScriptFault}
use Rattle.roam_sim.specs.declared.script.ScriptFault.TheVariants as script
use Rattle.roam_sim.specs.Script.{LineMeaning, StatesEvent, skipped, states, faulty, line_states, line_before, lines_state, script_states}

-- what a step of `split` does
abbrev pub Cuts : Split ℕ → Option (Bor (List ℕ)) → Split ℕ → Type 0
Cuts = split_steps FindsChar (λ a b. b ≡ a)

-- the events that were read, before what the further lines state
abbrev pub after_events : List PlainEvent → Result (List PlainEvent) ℕ → Result (List PlainEvent) ℕ
after_events events (Ok more) = Ok (events ++ more)
after_events events (Err line) = Err line

-- the lines that are left, after `number` lines stated these events
pub record IsRead (text : List ℕ) (it : Split ℕ) (number : ℕ) (events : List PlainEvent) : Type 0 where
  pub left : List (List ℕ)
  pub gives : YieldsList Cuts (λ x. x.now) it left
  pub stated : script_states text ≡ after_events events (lines_state (number + 1) left)
  pub counted : number + length left ≤ length text + 1

no_events : (r : Result (List PlainEvent) ℕ) → r ≡ after_events [] r
no_events (Ok more) = refl
no_events (Err line) = refl

start_of : (text : List ℕ) (it : Split ℕ) → split_text it ≡ text → split_has_more it ≡ true → split_pattern it ≡ 10 →
    IsRead text it 0 []
unfolding script_states parts
start_of text it is more pattern = record {
  left = parts 10 text;
  gives = YieldsList-from_str_split 10 text (omega arith) is more pattern;
  stated = no_events _;
  counted = omega (
    arith,
    length-slice_split (λ octet. eqb octet 10) text,
    count_by-le-length (λ octet. eqb octet 10) text,
  );
}

-- nothing was read yet
pub read_start : (text : List ℕ) (made it : Split ℕ) (events : List PlainEvent) → it ≡ made → events ≡ [] →
    split_text made ≡ text → split_has_more made ≡ true → split_pattern made ≡ 10 → IsRead text it 0 events
read_start text made it events same none is more pattern = rw (same, none) (start_of text made is more pattern)

-- the line that is read is the first of those that were left
next_of : (left : List (List ℕ)) (it next : Split ℕ) (line : Bor (List ℕ)) → YieldsList Cuts (λ x. x.now) it left →
    Cuts it (Some line) next
    → (further : List (List ℕ)) × (left ≡ line.now ∷ further) × YieldsList Cuts (λ x. x.now) next further
next_of [] it next line gives step = absurd (gives.runs line next step)
next_of (first ∷ further) it next line gives step =
    let taken = gives.runs.1 line next step in (further, ap (λ l. l ∷ further) (sym taken.0), record { runs = taken.1 })

none_of : (left : List (List ℕ)) (it next : Split ℕ) → YieldsList Cuts (λ x. x.now) it left → Cuts it None next →
    left ≡ []
none_of [] it next gives step = refl
none_of (first ∷ further) it next gives step = absurd (gives.runs.0 next step)

-- all lines were read
pub read_end : (text : List ℕ) (it next : Split ℕ) (number : ℕ) (events : List PlainEvent) →
    IsRead text it number events → Cuts it None next → script_states text ≡ Ok events
read_end text it next number events read step =
    read.stated ∙ ap (λ lines. after_events events (lines_state (number + 1) lines))
    (none_of read.left it next read.gives step) ∙ ap Ok (append-nil events)

-- one more line was taken, and it means this
pub record IsTaken (text : List ℕ) (next : Split ℕ) (number : ℕ) (events : List PlainEvent)
    (line : LineMeaning) : Type 0 where
  pub further : List (List ℕ)
  pub gives : YieldsList Cuts (λ x. x.now) next further
  pub stated : script_states text
      ≡ after_events events (line_before line (number + 1) (lines_state (number + 1 + 1) further))
  pub counted : number + 1 + length further ≤ length text + 1

pub read_line : (text : List ℕ) (it next : Split ℕ) (number : ℕ) (events : List PlainEvent) (line : Bor (List ℕ))
    (meaning : LineMeaning) → IsRead text it number events → Cuts it (Some line) next →
    line_states line.now ≡ meaning → IsTaken text next number events meaning
read_line text it next number events line meaning read step means =
    let taken = next_of read.left it next line read.gives step in record {
      further = taken.0;
      gives = taken.2;
      stated =
          read.stated ∙ ap (λ lines. after_events events (lines_state (number + 1) lines)) taken.1
          ∙ ap (λ m. after_events events (line_before m (number + 1) (lines_state (number + 1 + 1) taken.0))) means;
      counted = omega (arith, read.counted, ap length taken.1);
    }

-- it is skipped
pub read_skipped : (text : List ℕ) (next : Split ℕ) (number : ℕ) (events : List PlainEvent) →
    IsTaken text next number events skipped → IsRead text next (number + 1) events
read_skipped text next number events taken =
    record { left = taken.further; gives = taken.gives; stated = taken.stated; counted = taken.counted }

event_after : (events : List PlainEvent) (event : PlainEvent) (number : ℕ) (r : Result (List PlainEvent) ℕ) →
    after_events events (line_before (states event) number r) ≡ after_events (events ++ event ∷ []) r
event_after events event number (Ok more) = ap Ok (sym (append_assoc events (event ∷ []) more))
event_after events event number (Err line) = refl

-- it states an event
pub read_event : (text : List ℕ) (next : Split ℕ) (number : ℕ) (events : List PlainEvent) (event : PlainEvent) →
    IsTaken text next number events (states event) → IsRead text next (number + 1) (events ++ event ∷ [])
read_event text next number events event taken =
    record {
      left = taken.further;
      gives = taken.gives;
      stated = taken.stated
          ∙ event_after events event (number + 1) (lines_state (number + 1 + 1) taken.further);
      counted = taken.counted;
    }

-- it is faulty
pub read_faulty : (text : List ℕ) (next : Split ℕ) (number : ℕ) (events : List PlainEvent) →
    IsTaken text next number events faulty → script_states text ≡ Err (number + 1)
read_faulty text next number events taken = taken.stated

-- the lines so far stated some events, and the list has them all unless memory was wanting
pub record IsReadOn (text : List ℕ) (it : Split ℕ) (number : ℕ) (events : List PlainEvent) (is_short : Bool) : Type 0
  where
    pub stated : List PlainEvent
    pub read : IsRead text it number stated
    pub all : is_short ≡ false → events ≡ stated

-- the line is skipped
pub on_skipped : (text : List ℕ) (it next : Split ℕ) (number : ℕ) (events : List PlainEvent) (is_short : Bool)
    (line : Bor (List ℕ))
    → IsReadOn text it number events is_short → Cuts it (Some line) next → line_states line.now ≡ skipped →
    IsReadOn text next (number + 1) events is_short
on_skipped text it next number events is_short line is step means = record {
  stated = is.stated;
  read = read_skipped text next number is.stated
      (read_line text it next number is.stated line skipped is.read step means);
  all = is.all;
}

-- it states an event, which the list takes
pub on_event : (text : List ℕ) (it next : Split ℕ) (number : ℕ) (events : List PlainEvent) (is_short : Bool)
    (line : Bor (List ℕ)) (event : PlainEvent)
    → IsReadOn text it number events is_short → Cuts it (Some line) next → line_states line.now ≡ states event →
    IsReadOn text next (number + 1) (events ++ event ∷ []) is_short
on_event text it next number events is_short line event is step means = record {
  stated = is.stated ++ event ∷ [];
  read = read_event text next number is.stated event
      (read_line text it next number is.stated line (states event) is.read step means);
  all = λ enough. ap (λ l. l ++ event ∷ []) (is.all enough);
}

-- it states an event, and memory is wanting: what the list holds doesn't matter any more
pub on_lost : (text : List ℕ) (it next : Split ℕ) (number : ℕ) (events after : List PlainEvent) (is_short : Bool)
    (line : Bor (List ℕ)) (event : PlainEvent)
    → IsReadOn text it number events is_short → Cuts it (Some line) next → line_states line.now ≡ states event →
    IsReadOn text next (number + 1) after true
on_lost text it next number events after is_short line event is step means = record {
  stated = is.stated ++ event ∷ [];
  read = read_event text next number is.stated event
      (read_line text it next number is.stated line (states event) is.read step means);
  all = λ enough. cc;
}

lost_at : (text : List ℕ) (it next : Split ℕ) (number : ℕ) (events after : List PlainEvent) (is_short : Bool)
    (line : Bor (List ℕ)) (meaning : LineMeaning)
    → IsReadOn text it number events is_short → Cuts it (Some line) next → line_states line.now ≡ meaning →
    StatesEvent meaning → IsReadOn text next (number + 1) after true
lost_at text it next number events after is_short line skipped is step means event = absurd event
lost_at text it next number events after is_short line (states e) is step means event =
    on_lost text it next number events after is_short line e is step means
lost_at text it next number events after is_short line faulty is step means event = absurd event

pub on_want : (text : List ℕ) (it next : Split ℕ) (number : ℕ) (events : List PlainEvent) (is_short : Bool)
    (line : Bor (List ℕ))
    → IsReadOn text it number events is_short → Cuts it (Some line) next → StatesEvent (line_states line.now) →
    IsReadOn text next (number + 1) events true
on_want text it next number events is_short line is step event =
    lost_at text it next number events events is_short line (line_states line.now) is step refl event

-- it is faulty: its number is answered, and no other line's
pub on_faulty : {T : Type 0} (text : List ℕ) (it next : Split ℕ) (number n : ℕ) (events : List PlainEvent)
    (is_short : Bool) (line : Bor (List ℕ)) (r : Result T ScriptFault)
    → IsReadOn text it number events is_short → Cuts it (Some line) next → line_states line.now ≡ faulty →
    r ≡ Err (script.Line (number + 1))
    → (r ≡ Err (script.Line n) → script_states text ≡ Err n) × (script_states text ≡ Err n → r ≡ Err (script.Line n))
on_faulty text it next number n events is_short line r is step means answered =
    let stated : script_states text ≡ Err (number + 1) =
    read_faulty text next number is.stated (read_line text it next number is.stated line faulty is.read step means) in (
      (λ same. let equal : number + 1 ≡ n = cc in stated ∙ ap Err equal),
      (λ same. let equal : number + 1 ≡ n = cc in answered ∙ ap (λ l. Err (script.Line l)) equal),
    )

-- all lines were read, and none is faulty
pub on_end : (text : List ℕ) (it next : Split ℕ) (number : ℕ) (events : List PlainEvent) (is_short : Bool)
    → IsReadOn text it number events is_short → Cuts it None next → (stated : List PlainEvent)
    × (script_states text ≡ Ok stated) × (is_short ≡ false → events ≡ stated)
on_end text it next number events is_short is step =
    (is.stated, read_end text it next number is.stated is.read step, is.all)

-- nothing was read yet
pub on_start : (text : List ℕ) (made it : Split ℕ) (events : List PlainEvent) → it ≡ made → events ≡ [] →
    split_text made ≡ text → split_has_more made ≡ true → split_pattern made ≡ 10 → IsReadOn text it 0 events false
on_start text made it events same none is more pattern =
    record { stated = events; read = read_start text made it events same none is more pattern; all = λ _. refl }
