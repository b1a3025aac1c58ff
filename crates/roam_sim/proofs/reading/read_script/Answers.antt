use Rattle.std.proofs.Common.{◌≡◌, ◌++◌, ◌∷◌, [], Ok, true, sym, ap, ◌∙◌, refl, arith}
use Rattle.std.proofs.lemmas.Grind.{common_steps}
use Rattle.std.proofs.lemmas.List.{map-append}
use Rattle.std.specs.Result.{is_ok}
use Rattle.roam_sim.specs.Script.{skipped, states, faulty, line_states}
use Rattle.roam_core.specs.Shown.{shown_event, shown_events}
use Rattle.roam_sim.specs.Shown.{shown_line}
use Rattle.roam_sim.proofs.ScriptLemmas.{on_start, on_skipped, on_event, on_lost, on_want, on_faulty, on_end}
use Rattle.roam_sim.proofs.reading.read_script.Goals as goal

-- No line was read.
pub loop-line-init : goal.loop-line-init
loop-line-init g c =
    let split = c.split-line-items.ensures in
    on_start c.args.text.now c.split-line-items.result c.into_iter-line-iterator.result
    (shown_events c.new-events.result.items)
    c.into_iter-line-iterator.ensures.into_iter_gives (ap shown_events c.new-events.ensures.items) split.text
    split.has_more split.pattern

-- The line is skipped.
pub loop-line-preserved-in-Ok-Skipped : goal.loop-line-preserved-in-Ok-Skipped
loop-line-preserved-in-Ok-Skipped g c =
    let means : line_states c.in-Some.line.now ≡ skipped = sym c.in-Ok-Skipped.ensures.ok
    ∙ ap shown_line c.in-Ok-Skipped.field-0-is in
    on_skipped c.args.text.now c.loop-line.line-iterator c.next.new.self c.loop-line.number
    (shown_events c.loop-line.events.items)
    c.loop-line.is_short c.in-Some.line c.loop-line.invariant c.in-Some.ensures.steps means

-- The line states an event, for which memory is wanting.
pub loop-line-preserved-then-is_err : goal.loop-line-preserved-then-is_err
loop-line-preserved-then-is_err g c =
    let event = shown_event c.in-Ok-Event.event in
    let means : line_states c.in-Some.line.now ≡ states event = sym c.in-Ok-Event.ensures.ok
    ∙ ap shown_line c.in-Ok-Event.field-0-is in
    on_lost c.args.text.now c.loop-line.line-iterator c.next.new.self c.loop-line.number
    (shown_events c.loop-line.events.items)
    (shown_events c.push.new.self.items) c.loop-line.is_short c.in-Some.line event c.loop-line.invariant
    c.in-Some.ensures.steps means

-- The line states an event.
pub loop-line-preserved-else-is_err : goal.loop-line-preserved-else-is_err
loop-line-preserved-else-is_err g c =
    let event = shown_event c.in-Ok-Event.event in
    let means : line_states c.in-Some.line.now ≡ states event = sym c.in-Ok-Event.ensures.ok
    ∙ ap shown_line c.in-Ok-Event.field-0-is in
    let next = on_event c.args.text.now c.loop-line.line-iterator c.next.new.self c.loop-line.number
    (shown_events c.loop-line.events.items)
    c.loop-line.is_short c.in-Some.line event c.loop-line.invariant c.in-Some.ensures.steps means in
    let taken : is_ok c.push.result ≡ true = grind (arith, common_steps) in
    let added : c.push.new.self.items ≡ c.loop-line.events.items ++ c.in-Ok-Event.event ∷ [] =
    grind (arith, common_steps) in
    rw (added, map-append) next

-- Memory is wanting for the line's event.
pub loop-line-preserved : goal.loop-line-preserved
loop-line-preserved g c =
    on_want c.args.text.now c.loop-line.line-iterator c.next.new.self c.loop-line.number
    (shown_events c.loop-line.events.items)
    c.loop-line.is_short c.in-Some.line c.loop-line.invariant c.in-Some.ensures.steps c.in-Err.ensures.memory

-- The line is faulty.
pub returns-in-Ok-Faulty-clause-line : goal.returns-in-Ok-Faulty-clause-line
returns-in-Ok-Faulty-clause-line g c = λ n.
    let means : line_states c.in-Some.line.now ≡ faulty = sym c.in-Ok-Faulty.ensures.ok
    ∙ ap shown_line c.in-Ok-Faulty.field-0-is in
    on_faulty c.args.text.now c.loop-line.line-iterator c.next.new.self c.loop-line.number n
    (shown_events c.loop-line.events.items)
    c.loop-line.is_short c.in-Some.line _ c.loop-line.invariant c.in-Some.ensures.steps means refl

-- All lines were read.
pub returns-then-is_short-clause-line : goal.returns-then-is_short-clause-line
returns-then-is_short-clause-line g c = λ n.
    let ended = on_end c.args.text.now c.loop-line.line-iterator c.next.new.self c.loop-line.number
    (shown_events c.loop-line.events.items)
    c.loop-line.is_short c.loop-line.invariant c.in-None.ensures.steps in
    let stated = ended.1 in ((λ is. cc), (λ is. cc))

pub returns-then-is_short-clause-memory : goal.returns-then-is_short-clause-memory
returns-then-is_short-clause-memory g c = λ _.
    let ended = on_end c.args.text.now c.loop-line.line-iterator c.next.new.self c.loop-line.number
    (shown_events c.loop-line.events.items)
    c.loop-line.is_short c.loop-line.invariant c.in-None.ensures.steps in
    rw ended.1 refl

pub returns-else-is_short-clause-ok : goal.returns-else-is_short-clause-ok
returns-else-is_short-clause-ok g c =
    let ended = on_end c.args.text.now c.loop-line.line-iterator c.next.new.self c.loop-line.number
    (shown_events c.loop-line.events.items)
    c.loop-line.is_short c.loop-line.invariant c.in-None.ensures.steps in
    ended.1 ∙ ap Ok (sym (ended.2 c.if-is_short.false))

pub returns-else-is_short-clause-line : goal.returns-else-is_short-clause-line
returns-else-is_short-clause-line g c = λ n.
    let ended = on_end c.args.text.now c.loop-line.line-iterator c.next.new.self c.loop-line.number
    (shown_events c.loop-line.events.items)
    c.loop-line.is_short c.loop-line.invariant c.in-None.ensures.steps in
    let stated = ended.1 in ((λ is. cc), (λ is. cc))
