use Rattle.roam_crypto.proofs.PieceLemmas.{front_written}
use Rattle.roam_log.proofs.hmac.padded_key.Goals as goal

-- the key was written over the first zeros
pub returns : goal.returns
returns c = front_written 64 c.args.key.now c.copy_from_slice.new.self
    c.copy_from_slice.ensures.after
