use Rattle.std.proofs.Common.{◌∙◌, refl}
use Rattle.roam_rules.specs.RealmTurn.{entries}
use Rattle.roam_rules.proofs.realm_broker.RealmBroker.make_lane.Goals as goal

-- the entries stay, and fit the numbers as before
pub returns-clause-keeps : goal.returns-clause-keeps
returns-clause-keeps g c =
    let old = c.args.self.now in
    let es = entries g.E.Entries old in
    let kept = c.requires.realm in
    let made = c.make_lane.ensures in
    record {
      realm = record {
        kept_here = kept.kept_here;
        sound = record {
          each = rw made.keeps.ticket kept.sound.each;
          ticket = rw made.keeps.ticket kept.sound.ticket;
          stream_position = rw made.keeps.stream_position kept.sound.stream_position;
          lane_count = made.keeps.count ∙ kept.sound.lane_count;
          lanes = made.lanes kept.sound.lanes;
          lanes_tell = made.tells es kept.sound.lanes_tell;
          ledger = rw made.keeps.sessions kept.sound.ledger;
        };
        list = kept.list;
      };
      loans = record { settings = refl; same_entries = refl; same_numbers = refl; keeps = refl };
      others = λ r ne. refl;
    }
