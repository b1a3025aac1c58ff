use Rattle.std.proofs.Common.{◌≡◌, Some, None, refl, sym, ap, ◌∙◌, subst}
use Rattle.roam_wire.specs.Numbered.{PutsAt}
use Rattle.roam_sessions.specs.Maps.{linked_at, links_at}
use Rattle.roam_sessions.specs.Private.Links.{with_link}
use Rattle.roam_sessions.specs.declared.links.Link.{Link}
use Rattle.roam_sessions.specs.declared.links.Links.{Links}
use Rattle.roam_sessions.proofs.LinkLemmas.{absent-older, kept-older, relinked-older, relinked-others}
use Rattle.roam_sessions.proofs.NeighbourLemmas.{held-some}
use Rattle.roam_sessions.proofs.StayLemmas.{still}
use Rattle.roam_sessions.proofs.links.link_older.Goals as goal

pub returns-in_default-clause-numbers : goal.returns-in_default-clause-numbers
returns-in_default-clause-numbers g c = λ fits u.
    rw c.in_default.is (sym (kept-older None c.args.older u (linked_at c.args.facet c.args.map.now u) refl))

pub returns-in_default-links_of-clause-numbers : goal.returns-in_default-links_of-clause-numbers
returns-in_default-links_of-clause-numbers g c = λ fits u.
    let none : links_at c.args.map.now c.in-Some.number ≡ None =
    sym c.links_of.ensures ∙ c.in_default-links_of.is in
    rw c.in-Some.is (absent-older (links_at c.args.map.now) c.args.facet c.in-Some.number c.args.older none u)

pub returns-clause-numbers : goal.returns-clause-numbers
returns-clause-numbers g c = λ fits u.
    let m = links_at c.args.map.now in
    let n = links_at c.write.new.map in
    let number = c.in-Some.number in
    let l = c.in-Some-links_of.links in
    let there : m number ≡ Some l = sym c.links_of.ensures ∙ c.in-Some-links_of.is in
    let puts = subst (λ (w : Links). PutsAt m n number (Some w))
    (c.with_link.ensures ∙ ap (λ (k : Link). with_link c.args.facet (record { older = c.word_of.result; newer = k.newer }) l) c.link_of.ensures)
    (c.write.ensures.puts (held-some (m number) l there)) in
    rw c.in-Some.is (relinked-older m c.args.facet number n l there c.word_of.result c.args.older
    (c.word_of.ensures fits) puts u)

pub returns-clause-others : goal.returns-clause-others
returns-clause-others g c =
    let m = links_at c.args.map.now in
    let n = links_at c.write.new.map in
    let number = c.in-Some.number in
    let l = c.in-Some-links_of.links in
    let there : m number ≡ Some l = sym c.links_of.ensures ∙ c.in-Some-links_of.is in
    let puts = subst (λ (w : Links). PutsAt m n number (Some w)) c.with_link.ensures
    (c.write.ensures.puts (held-some (m number) l there)) in
    relinked-others m c.args.facet number n l there _ puts

pub returns-in_default-clause-stay : goal.returns-in_default-clause-stay
returns-in_default-clause-stay g c = still c.args.map.now

pub returns-in_default-links_of-clause-stay : goal.returns-in_default-links_of-clause-stay
returns-in_default-links_of-clause-stay g c = still c.args.map.now
