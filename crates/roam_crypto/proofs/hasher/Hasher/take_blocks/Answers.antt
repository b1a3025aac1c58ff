use Rattle.std.proofs.Common.{◌≡◌, ◌+◌, ◌-◌, ◌*◌, ◌/◌, ◌%◌, ◌++◌, ℕ, List, length, take, replicate, refl, subst, ◌∙◌, arith}
use Rattle.roam_crypto.specs.Hasher.{HasTaken}
use Rattle.roam_crypto.proofs.TakingLemmas.{none_taken, block_taken, edge_behind, taken_at_edge, zeros_at_edge, whole_of}
use Rattle.roam_crypto.proofs.hasher.Hasher.take_blocks.Goals as goal

pub loop-i-init : goal.loop-i-init
loop-i-init c = (
  refl,
  refl,
  omega arith,
  λ m edge held. none_taken c.args.self.now.state c.args.self.now.buffer m c.args.octets.now held,
)

pub loop-i-preserved : goal.loop-i-preserved
loop-i-preserved c =
    let width : 64 * c.loop-i.i + 64 - 64 * c.loop-i.i ≡ 64 = omega arith in (
      c.loop-i.invariant.0,
      c.loop-i.invariant.1,
      omega arith,
      λ m edge held. rw c.compress.ensures
          (block_taken c.loop-i.self.state c.loop-i.self.buffer m c.args.octets.now _ c.loop-i.i
          (c.loop-i.invariant.3 m edge held)
          edge (omega arith) (rw width refl)),
    )

-- what is behind the blocks stands in the buffer
pub returns-clause-taken : goal.returns-clause-taken
returns-clause-taken c = λ m edge held.
    let d : List ℕ = c.args.octets.now in
    let front : List ℕ = m ++ take (64 * c.loop-i.i) d in
    let at : length front % 64 ≡ 0 = edge_behind m d c.loop-i.i edge c.loop-i.invariant.2 in
    let zeros : c.loop-i.self.buffer ≡ replicate 64 0 =
    c.loop-i.invariant.0 ∙ zeros_at_edge c.args.self.now.state c.args.self.now.buffer m held edge in
    let taken = c.put.ensures.taken front at
    (taken_at_edge c.loop-i.self.state c.loop-i.self.buffer front (c.loop-i.invariant.3 m edge held) at zeros) in
    subst (HasTaken c.put.new.self.state c.put.new.self.buffer)
    (whole_of m d (64 * c.loop-i.i) (64 * (length d / 64)) (omega arith)) taken

pub returns-clause-total : goal.returns-clause-total
returns-clause-total c = c.put.ensures.total ∙ c.loop-i.invariant.1
