-- A source that is looked at where its table lies, as it is seen: words of private functions alone (ours).
use Rattle.roam_reload.specs.Kept.{Source}
use Rattle.roam_reload.specs.declared.sources.SourceRef.{SourceRef}

abbrev pub shown_source : SourceRef → Source
shown_source s = record { ip = s.ip; other_ip = s.other_ip; secret = s.secret.now }
