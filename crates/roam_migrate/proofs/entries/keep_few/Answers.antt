use Rattle.std.proofs.Common.{◌∙◌, refl}
use Rattle.roam_migrate.proofs.EntriesOverLemmas.{as_many_now, fewer_now}
use Rattle.roam_migrate.proofs.entries.keep_few.Goals as goal

pub returns-then-keeps_fewer-clause-entries : goal.returns-then-keeps_fewer-clause-entries
returns-then-keeps_fewer-clause-entries g c =
    let es = g.E.Entries.entries_of c.args.entries.now c.args.old.now.index in
    let become = rw (c.index.ensures, c.max_pending.ensures) at c.make_way.ensures.entries in
    record {
      here = become.here
          ∙ fewer_now c.args.old.now c.args.new.now es (c.keeps_fewer.ensures.fewer c.if-keeps_fewer.true);
      others = become.others;
    }

pub returns-else-keeps_fewer-clause-entries : goal.returns-else-keeps_fewer-clause-entries
returns-else-keeps_fewer-clause-entries g c = record {
  here = as_many_now c.args.old.now c.args.new.now
      (g.E.Entries.entries_of c.args.entries.now c.args.old.now.index)
      (c.keeps_fewer.ensures.as_many c.if-keeps_fewer.false);
  others = λ r ne. refl;
}
