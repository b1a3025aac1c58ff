use Rattle.std.proofs.Common.{◌≡◌, ◌∙◌, true, false, Option, ap, sym, refl}
use Rattle.std.specs.Option.{option_map_or}
use Rattle.roam_pending.specs.EntryList.{is_beside}
use Rattle.roam_pending.specs.PlainEntry.{PlainEntry}
use Rattle.roam_pending.specs.Shown.{shown}
use Rattle.roam_rules.specs.Private.Sharing.{is_kept_as, is_sharer}
use Rattle.roam_rules.specs.RealmTurn.{entries}
use Rattle.roam_realm.proofs.SoundLemmas.{kept-link}
use Rattle.roam_rules.proofs.realm_broker.RealmBroker.holds_sharer.Goals as goal

-- the entry's octets are a packet's
pub is_sharer-requires : goal.is_sharer-requires
is_sharer-requires g c =
    let r = c.args.self.now in
    let e = kept-link r.settings.now r.numbers.now.ticket c.args.link c.args.id _ (entries g.E.Entries r)
    (sym c.in-Some.ensures.found) c.requires.realm.sound.each in
    record { packet = e.request.packet }

-- none waits there
pub returns-in-None : goal.returns-in-None
returns-in-None g c =
    ap (λ (o : Option PlainEntry). option_map_or (is_kept_as (is_sharer c.args.sharer) c.args.replaced) o false)
    c.in-None.ensures.found

-- one waits there that doesn't count as gone
pub returns-then-is_beside : goal.returns-then-is_beside
returns-then-is_beside g c =
    let e : PlainEntry = shown c.in-Some.entry.now in
    let beside : is_beside c.args.replaced e.ticket ≡ true = sym c.is_beside.ensures ∙ c.if-is_beside.true in
    let whole : is_sharer c.args.sharer e ≡ is_kept_as (is_sharer c.args.sharer) c.args.replaced e = rw beside refl in
    c.is_sharer.ensures ∙ whole
    ∙ ap (λ (o : Option PlainEntry). option_map_or (is_kept_as (is_sharer c.args.sharer) c.args.replaced) o false)
    c.in-Some.ensures.found

-- or that does
pub returns-else-is_beside : goal.returns-else-is_beside
returns-else-is_beside g c =
    let e : PlainEntry = shown c.in-Some.entry.now in
    let replaced : is_beside c.args.replaced e.ticket ≡ false = sym c.is_beside.ensures ∙ c.if-is_beside.false in
    let whole : false ≡ is_kept_as (is_sharer c.args.sharer) c.args.replaced e = rw replaced refl in
    c.if-is_beside.false ∙ whole
    ∙ ap (λ (o : Option PlainEntry). option_map_or (is_kept_as (is_sharer c.args.sharer) c.args.replaced) o false)
    c.in-Some.ensures.found
