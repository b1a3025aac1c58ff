-- One item more is taken up.
use Rattle.std.proofs.Common.{◌≡◌, ◌∙◌, ◌+◌, ◌++◌, ◌∷◌, [], List, ℕ, take, refl, ap, sym, subst}
use Rattle.std.proofs.lemmas.List.{map_more}
use Rattle.roam_conf.specs.Shown.{shown}
use Rattle.roam_sessions.specs.Ledgers.{SavedItem}
use Rattle.roam_sessions.specs.ShownLedgers.{shown_item, shown_items}
use Rattle.roam_sessions.specs.declared.item.Item.{Item}
use Rattle.roam_shard.specs.Pausing.{states_under}
use Rattle.roam_shard.specs.Private.Items.{TakesUp}
use Rattle.roam_shard.proofs.ItemLemmas.{AreTakenUp, nothing-so-far, one-more}
use Rattle.roam_shard.proofs.paused.Paused.restore.Goals as goal

pub loop-item-init : goal.loop-item-init
loop-item-init g c = record {
  stands = c.requires;
  shard = refl;
  taken = nothing-so-far (shown c.args.config.now) c.args.self.now.shard
      (states_under (shown c.args.config.now) c.args.self.now);
}

pub loop-item-preserved : goal.loop-item-preserved
loop-item-preserved g c =
    let config = shown c.args.config.now in
    let shard = c.args.self.now.shard in
    let items = c.args.items.now in
    let i = c.loop-item.item-index in
    let item = c.item-item.result in
    let own = c.loop-item.own in
    let next = c.in_ok-own.own in
    let before = states_under config c.args.self.now in
    let mid = states_under config c.loop-item.self in
    let after = states_under config c.take_up.new.self in
    let more : shown_items (take (i + 1) items) ≡ shown_items (take i items) ++ shown_item item ∷ [] =
    map_more shown_item items i item c.loop-item-test.true
    ∙ ap (λ (x : Item). shown_items (take i items) ++ shown_item x ∷ []) (sym c.item-item.is) in
    let step = subst (λ (n : ℕ). TakesUp config n (shown_item item) own next mid after) c.loop-item.invariant.shard
    c.in_ok-own.ensures.states in
    record {
      stands = c.in_ok-own.ensures.stands;
      shard = c.in_ok-own.ensures.shard ∙ c.loop-item.invariant.shard;
      taken = subst (λ (l : List SavedItem). AreTakenUp config shard l next before after) (sym more)
          (one-more config shard (shown_items (take i items)) (shown_item item) own next before mid after
          c.loop-item.invariant.taken step);
    }
