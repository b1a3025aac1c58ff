use Rattle.std.proofs.Common.{◌≡◌, ◌++◌, [], ◌∷◌, length, map, ap, ◌∙◌, arith}
use Rattle.std.proofs.lemmas.Grind.{common_steps}
use Rattle.std.proofs.lemmas.List.{length-map}
use Rattle.roam_conf.specs.Parts.{shown_realm}
use Rattle.roam_reload.specs.Numbers.{gone_realm, same_realm_name}
use Rattle.roam_reload.proofs.LayingLemmas.{all_laid, one_laid, slots_more}
use Rattle.roam_reload.proofs.SameTableLemmas.{realms_meet, realms_part}
use Rattle.roam_reload.proofs.laying_realms.laid_realms.Goals as goal

pub loop-realm-init : goal.loop-realm-init
loop-realm-init c =
    let none : c.new-laid.result.items ≡ [] = c.new-laid.ensures.items in
    record { laid = ap (map shown_realm) none; slots = c.in_ok-slots.ensures }

-- the table of one more
pub loop-realm-preserved : goal.loop-realm-preserved
loop-realm-preserved c =
    let more : c.push.new.self.items ≡ c.loop-realm.laid.items ++ c.in_ok-next.next ∷ [] =
    grind (arith, common_steps) in
    let new = map shown_realm c.args.new.items in
    let i = c.loop-realm.realm-index in
    let at = c.realm-item.result in
    let inv = c.loop-realm.invariant in
    record {
      laid = one_laid shown_realm same_realm_name realms_meet realms_part gone_realm c.args.old.now new i at
          c.loop-realm-test.true c.realm-item.is c.requires.old c.requires.new _ inv.slots c.loop-realm.laid.items
          c.push.new.self.items c.in_ok-next.next more inv.laid c.in_ok-next.ensures.table;
      slots = c.in_ok-next.ensures.slots
          ∙ slots_more shown_realm same_realm_name realms_meet realms_part gone_realm c.args.old.now new i at
          c.loop-realm-test.true c.realm-item.is c.requires.old c.requires.new _ inv.slots;
    }

pub returns : goal.returns
returns c =
    let end : length (map shown_realm c.args.old.now) ≡ length c.args.old.now = length-map c.args.old.now shown_realm in
    c.in_ok-put_tables.ensures
    ∙ all_laid same_realm_name gone_realm (map shown_realm c.args.old.now) (map shown_realm c.args.new.items)
    c.loop-realm.realm-index _ _ (omega (arith, end, c.loop-realm-test.false)) c.loop-realm.invariant.laid
    c.loop-realm.invariant.slots
