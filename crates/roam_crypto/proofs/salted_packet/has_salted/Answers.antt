use Rattle.std.proofs.Common.{sym, ap, ◌∙◌}
use Rattle.std.specs.List.{list_any}
use Rattle.roam_wire.specs.Shown.{shown}
use Rattle.roam_crypto.specs.Salted.{is_salted_attribute, is_salted}
use Rattle.roam_crypto.proofs.SaltedTestLemmas.{any-first, any-behind}
use Rattle.roam_crypto.proofs.salted_packet.has_salted.Goals as goal

-- this one isn't salted, so a salted one is behind it if there is one
pub loop-attribute-preserved : goal.loop-attribute-preserved
loop-attribute-preserved c =
    c.loop-attribute.invariant ∙ ap (list_any is_salted_attribute) c.in-Some.ensures.steps
    ∙ any-behind is_salted_attribute (shown c.in-Some.attribute) c.next.new.self
    (sym c.is_salted.ensures ∙ c.if-is_salted.false)

-- this one is
pub returns-then-is_salted : goal.returns-then-is_salted
unfolding is_salted
returns-then-is_salted c =
    sym (c.loop-attribute.invariant ∙ ap (list_any is_salted_attribute) c.in-Some.ensures.steps
    ∙ any-first is_salted_attribute (shown c.in-Some.attribute) c.next.new.self
    (sym c.is_salted.ensures ∙ c.if-is_salted.true))

-- none is left
pub returns : goal.returns
unfolding is_salted
returns c = sym (c.loop-attribute.invariant ∙ ap (list_any is_salted_attribute) c.in-None.ensures.steps.0)
