use Rattle.roam_pending.proofs.ChangeLemmas.{put-without, put-put, without-put}
use Rattle.roam_pending.proofs.laws.changes_in_a_row.Goals as goal

pub returns-clause-put_back : goal.returns-clause-put_back
returns-clause-put_back c = put-without

pub returns-clause-put_twice : goal.returns-clause-put_twice
returns-clause-put_twice c = put-put

pub returns-clause-taken_out : goal.returns-clause-taken_out
returns-clause-taken_out c = without-put
