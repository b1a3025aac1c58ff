-- The state of a home server's endpoint, by what was seen of it. Ours.
use Rattle.std.specs.Prelude.{ℕ, ◌+◌, ◌/◌, ◌==◌, ◌&&◌, not, if◌then◌else◌}
use Rattle.roam_metrics.specs.declared.servers.Seen.{Seen}
use Rattle.roam_metrics.specs.declared.servers.Standing.{Standing}
use Rattle.roam_metrics.specs.declared.servers.Standing.TheVariants as standing

-- so many milliseconds, in seconds: what is begun counts whole
abbrev pub begun_seconds : ℕ → ℕ
begun_seconds milliseconds = (milliseconds + 999) / 1000

-- ## How a home server's endpoint stands
-- The first of these that holds: requests were given up there and no reply ever came; it rests, for so many seconds
-- more, of which one that is begun counts whole; replies came from it and none was taken; so many requests were given up there since one was taken; a reply was taken; it
-- was asked; it never was.
-- Source: ours
-- Rules out: a server called well that rests; a rest that is over on the page and not in the server
-- Stands in: `roam_metrics` `Servers.antt`: `standing_of`; `Seen::standing`
--
-- the first of these that holds: it never answered; it rests; no reply of those that came was taken; requests were given
-- up since one was taken; one was taken; it was asked; it never was
abbrev pub standing_of : Seen → Standing
standing_of seen =
    if (seen.replied == 0) && not (seen.unanswered == 0) then standing.NeverAnswered seen.unanswered
    else if not (seen.rest == 0) then standing.Rests (begun_seconds seen.rest)
    else if (seen.taken == 0) && not (seen.replied == 0) then standing.IsRefused
    else if not (seen.unanswered == 0) then standing.Unanswered seen.unanswered
    else if not (seen.taken == 0) then standing.Answers
    else if not (seen.asked == 0) then standing.Asked
    else standing.NeverAsked
