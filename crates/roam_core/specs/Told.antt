-- The names of a realm's requests and links while its configuration changes (ours): a home server has the number of its
-- place then, and a link too.
use Rattle.std.specs.Prelude.{List, [], ◌∷◌, Option, Some, None, option_and_then}
use Rattle.roam_conf.specs.declared.place.Link.{Link}
use Rattle.roam_pending.specs.PlainEntry.{PlainRequest}
use Rattle.roam_migrate.specs.Reload.{request_then, way_then}
use Rattle.roam_core.specs.Lives.{Happening, Stage, begins_anew, event, goes_on, part_in, stage_after}

-- ## Told as
-- A request of a realm's life is told as it is held: with the number that its home server has then, where one sent it;
-- else as it came. Its key and its octets stay. A link is told by the place where its server stands then. Both are none
-- from a change on after which they don't stay: where what goes back to the sender, or the link, isn't the same any
-- more.
-- Source: ours
-- Rules out: a reply of one server taken for another's, since that one stands at its place after a change
-- Stands in: `roam_core` `Told.antt`: `request_over`, `link_over`
--
abbrev pub request_at : Stage → Happening → PlainRequest → Option PlainRequest
request_at at (event e) q = Some q
request_at at (goes_on config) q = request_then at.config (part_in at config) q
request_at at (begins_anew config) q = None

abbrev pub request_over : Stage → List Happening → PlainRequest → Option PlainRequest
request_over at [] q = Some q
request_over at (h ∷ hs) q = option_and_then (λ r. request_over (stage_after at h) hs r) (request_at at h q)

abbrev pub link_at : Stage → Happening → Link → Option Link
link_at at (event e) l = Some l
link_at at (goes_on config) l = way_then at.config (part_in at config) l
link_at at (begins_anew config) l = None

abbrev pub link_over : Stage → List Happening → Link → Option Link
link_over at [] l = Some l
link_over at (h ∷ hs) l = option_and_then (λ m. link_over (stage_after at h) hs m) (link_at at h l)
