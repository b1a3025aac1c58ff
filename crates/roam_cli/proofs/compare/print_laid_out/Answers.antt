use Rattle.std.proofs.Common.{inr, subst}
use Rattle.roam_conf.specs.Config.{ConfigView}
use Rattle.roam_conf.specs.Shown.{shown}
use Rattle.roam_reload.specs.Differences.{Hinders}
use Rattle.roam_reload.specs.Reload.{MayFollow}
use Rattle.roam_cli.proofs.CompareLemmas.{follow_refused, not_followed, on_ok}
use Rattle.roam_cli.proofs.compare.print_laid_out.Goals as goal

-- there is no hindrance
pub returns-in-None-clause-may : goal.returns-in-None-clause-may
returns-in-None-clause-may g c =
    on_ok (MayFollow (shown c.args.old.now) (shown c.args.laid.now)) c.print_following.result c.in-None.ensures.none

-- a write was refused
pub returns-in-None-clause-err : goal.returns-in-None-clause-err
returns-in-None-clause-err g c = λ first after read read_next is.
    follow_refused first c.args.next.now _ _ c.print_following.result c.print_following.ensures.err

-- there is one
pub returns-in-Some-clause-err : goal.returns-in-Some-clause-err
returns-in-Some-clause-err g c = λ first after read read_next is.
    let before = shown c.args.old.now in
    not_followed first c.args.next.now _ _ c.not_following.result c.print_why_not-printed.result c.not_following.ensures
    c.print_why_not-printed.ensures
    (record {
      before = before;
      after = after;
      read = read;
      read_next = read_next;
      hindered = inr (
        c.in-Some.hindrance,
        subst (λ (v : ConfigView). Hinders before v c.in-Some.hindrance) is c.in-Some.ensures.some,
      );
    })
