use Rattle.std.proofs.Common.{ℕ, ◌+◌, ◌-◌, ◌≡◌, List, take, drop, sym, append_assoc, arith}
use Rattle.std.proofs.lemmas.List.{drop-drop}
use Rattle.roam_crypto.proofs.in_place.put_sixteen.Goals as goal

-- what stands before, the sixteen octets, what stands behind
pub returns : goal.returns
returns c =
    let octets : List ℕ = c.args.octets.now in
    let sixteen : List ℕ = c.args.sixteen.now in
    let at : ℕ = c.args.at in
    let size : at + 16 - at ≡ 16 = omega arith in
    rw (
      size,
      c.copy_from_slice.ensures.after,
      drop-drop 16 at octets,
    ) (sym (append_assoc (take at octets) sixteen (drop (at + 16) octets)))
