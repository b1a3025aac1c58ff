use Rattle.std.proofs.Common.{◌≡◌, true, false, is_some, sym}
use Rattle.std.specs.Prelude.{is_none}
use Rattle.std.specs.Str.{bytes_eq}
use Rattle.indexmap.specs.IndexMap.{get_by}
use Rattle.roam_conf.specs.Index.{owners, owner_of}
use Rattle.roam_conf.proofs.IndexLemmas.{known, unknown, absent, noted_entries}
use Rattle.roam_conf.proofs.index.note.Goals as goal

-- the key is there
pub returns-then-contains_key-clause-new : goal.returns-then-contains_key-clause-new
returns-then-contains_key-clause-new c =
    let there : true ≡ is_some (get_by (λ k. bytes_eq c.args.key.items k.items) c.args.index.now) =
    rw (← c.as_slice.ensures.value) c.if-contains_key.ensures in
    sym (known c.args.index.now c.args.index.now c.args.key c.args.owner there)

pub returns-then-contains_key-clause-noted : goal.returns-then-contains_key-clause-noted
returns-then-contains_key-clause-noted c =
    let there : true ≡ is_some (get_by (λ k. bytes_eq c.args.key.items k.items) c.args.index.now) =
    rw (← c.as_slice.ensures.value) c.if-contains_key.ensures in
    rw (known c.args.index.now c.args.index.now c.args.key c.args.owner there)

-- the key is new
pub returns-clause-new : goal.returns-clause-new
returns-clause-new c =
    let missing : false ≡ is_some (get_by (λ k. bytes_eq c.args.key.items k.items) c.args.index.now) =
    rw (← c.as_slice.ensures.value) c.if-contains_key.ensures in
    let none = unknown c.args.index.now c.args.index.now c.args.key c.args.owner missing in
    sym (absent c.args.index.now c.args.index.now c.args.key c.args.owner none)

pub returns-clause-noted : goal.returns-clause-noted
returns-clause-noted c =
    let missing : false ≡ is_some (get_by (λ k. bytes_eq c.args.key.items k.items) c.args.index.now) =
    rw (← c.as_slice.ensures.value) c.if-contains_key.ensures in
    let none = unknown c.args.index.now c.args.index.now c.args.key c.args.owner missing in
    let is_new : is_none (owner_of (owners c.args.index.now) c.args.key.items) ≡ true =
    absent c.args.index.now c.args.index.now c.args.key c.args.owner none in
    rw is_new (noted_entries c.args.index.now c.insert.new.self c.args.key c.args.owner none
    c.in_ok-insert.ensures.entries)
