use Rattle.std.proofs.Common.{◌≡◌, ◌+◌, ◌≤◌, drop}
use Rattle.std.specs.List.{count_by}
use Rattle.roam_conf.specs.Ways.{same_kind}
use Rattle.roam_conf.proofs.realm.Realm.way_count.Given as goal

-- those that were looked at, and those that are to come
abbrev pub invariant-loop-out : goal.invariant-loop-out
invariant-loop-out l =
    (l.count + count_by (λ out. same_kind out l.endpoint) (drop l.out-index l.self.out.items)
    ≡ count_by (λ out. same_kind out l.fn.endpoint) l.fn.self.out.items)
    × (l.count ≤ l.out-index)
