use Rattle.roam_conf.specs.Index.{owners}
use Rattle.roam_conf.proofs.IndexLemmas.{noted_key}
use Rattle.roam_conf.proofs.index.note_key.Goals as goal

pub returns : goal.returns
returns c = λ other.
    noted_key (owners c.args.index.now) (owners c.note.new.index) other c.args.key.items c.args.owner
    c.in_ok-note.ensures.noted
