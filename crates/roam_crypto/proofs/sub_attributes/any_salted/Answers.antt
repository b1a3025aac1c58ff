use Rattle.std.proofs.Common.{sym, ap, ◌∙◌}
use Rattle.std.specs.List.{list_any}
use Rattle.roam_wire.specs.Shown.{shown}
use Rattle.roam_crypto.specs.Salted.{is_salted_sub}
use Rattle.roam_crypto.proofs.SaltedTestLemmas.{any-first, any-behind}
use Rattle.roam_crypto.proofs.sub_attributes.any_salted.Goals as goal

-- this one isn't salted, so a salted one is behind it if there is one
pub loop-sub-preserved : goal.loop-sub-preserved
loop-sub-preserved c =
    c.loop-sub.invariant ∙ ap (list_any (is_salted_sub c.args.vendor)) c.in-Some-sub.ensures.steps
    ∙ any-behind (is_salted_sub c.args.vendor) (shown c.in-Some-sub.sub) c.next.new.self
    (sym c.is_salted_sub.ensures ∙ c.if-is_salted_sub.false)

-- this one is
pub returns-then-is_salted_sub : goal.returns-then-is_salted_sub
returns-then-is_salted_sub c =
    sym (c.loop-sub.invariant ∙ ap (list_any (is_salted_sub c.args.vendor)) c.in-Some-sub.ensures.steps
    ∙ any-first (is_salted_sub c.args.vendor) (shown c.in-Some-sub.sub) c.next.new.self
    (sym c.is_salted_sub.ensures ∙ c.if-is_salted_sub.true))
