-- Few are due at the moment between them, or some.
use Rattle.std.proofs.Common.{◌≡◌, true, false, inl}
use Rattle.roam_history.proofs.moment.narrowed.Goals as goal

pub returns-then-has_few_due-clause-moments : goal.returns-then-has_few_due-clause-moments
returns-then-has_few_due-clause-moments g c =
    let yes : c.has_few_due.result ≡ true = cc in
    record {
      few_are = inl (c.has_few_due.ensures.few yes);
      some_are = c.requires.moments.some_are;
      order =
          c.requires.earlier;
    }

pub returns-clause-moments : goal.returns-clause-moments
returns-clause-moments g c =
    let no : c.has_few_due.result ≡ false = cc in
    record { few_are = c.requires.moments.few_are; some_are = c.has_few_due.ensures.more no; order = c.requires.later }
