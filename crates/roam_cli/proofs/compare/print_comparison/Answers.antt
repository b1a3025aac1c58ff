use Rattle.std.proofs.Common.{◌∙◌, inl, ap, Err, OnOk, subst}
use Rattle.std.proofs.KnownBytes.{Keeps-refl}
use Rattle.roam_conf.specs.Config.{ConfigView}
use Rattle.roam_conf.specs.Shown.{shown}
use Rattle.roam_reload.specs.Reload.{MayFollow}
use Rattle.roam_cli.proofs.CompareLemmas.{not_followed}
use Rattle.roam_cli.proofs.compare.print_comparison.Goals as goal

-- memory is wanting
pub returns-in-Err-Memory-clause-err : goal.returns-in-Err-Memory-clause-err
returns-in-Err-Memory-clause-err g c = λ first read read_next. Keeps-refl (g.W.Write.contents c.args.writer.now)

-- there are too many realms or peers
pub returns-in-Err-Numbers-clause-err : goal.returns-in-Err-Numbers-clause-err
returns-in-Err-Numbers-clause-err g c = λ first read read_next.
    not_followed first c.args.next.now _ _ c.not_following.result c.print_no_room-printed.result c.not_following.ensures
    c.print_no_room-printed.ensures
    (record {
      before = shown c.args.old.now;
      after = shown c.args.new;
      read = read;
      read_next = read_next;
      hindered = inl (c.following_config.ensures.err (c.in-Err-Numbers.is ∙ ap Err c.in-Err-Numbers.field-0-is));
    })

-- it is laid out, and looked at
pub returns-in-Ok-clause-may : goal.returns-in-Ok-clause-may
returns-in-Ok-clause-may g c =
    subst (λ (v : ConfigView). OnOk c.print_laid_out.result (MayFollow (shown c.args.old.now) v)) c.in-Ok.ensures.ok
    c.print_laid_out.ensures.may

pub returns-in-Ok-clause-err : goal.returns-in-Ok-clause-err
returns-in-Ok-clause-err g c = λ first read read_next.
    c.print_laid_out.ensures.err first (shown c.args.new) read read_next c.in-Ok.ensures.ok
