-- A session that is looked at where it lies has parts for which an attribute has room.
use Rattle.std.proofs.Common.{◌≤◌, ℕ, List, length, Option, Some, None, unwrap_or, subst}
use Rattle.std.specs.Prelude.{option_map}
use Rattle.roam_sessions.specs.Kept.{shown_session}
use Rattle.roam_sessions.specs.Parts.{AreShort, IsShortIfAny}
use Rattle.roam_sessions.specs.Short.{shown_short}
use Rattle.roam_sessions.specs.declared.asked.SessionRef.{SessionRef}
use Rattle.roam_sessions.specs.declared.short.Short.{Short}

part-short : (o : Option Short) → IsShortIfAny (option_map shown_short o)
part-short None = λ x at. absurd (cc at)
part-short (Some s) = λ x at.
    subst (λ (o : Option (List ℕ)). length (unwrap_or o (shown_short s)) ≤ 253) at s.size

pub short-session : (s : SessionRef) → AreShort (shown_session s)
short-session s = record {
  address = part-short s.nas.address;
  identifier = part-short s.nas.identifier;
  ipv6 = part-short s.nas.ipv6;
  id = s.id.size;
}
