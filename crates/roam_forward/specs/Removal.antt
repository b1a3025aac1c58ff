-- The lists of attributes that don't pass between a peer and a realm (ours).
use Rattle.std.specs.Prelude.{ℕ, ◌==◌, ◌&&◌, not, Bool, false, List, [], ◌∷◌, ◌++◌, filter, if◌then◌else◌}
use Rattle.roam_wire.specs.declared.removed_attribute.RemovedAttribute.{RemovedAttribute}
use Rattle.roam_wire.specs.declared.removed_attribute.RemovedAttribute.TheVariants.{Kind, Vendor, VendorKind}
use Rattle.roam_wire.specs.RemovedAttributes.{is_one_of}
use Rattle.roam_forward.specs.declared.removal.Removal.{Removal}

-- this Type, this vendor, this type of a vendor, any type of a vendor is what is named
abbrev pub is_kind : ℕ → RemovedAttribute → Bool
is_kind kind (Kind named) = named == kind
is_kind kind (Vendor vendor) = false
is_kind kind (VendorKind vendor named) = false

abbrev pub is_vendor : ℕ → RemovedAttribute → Bool
is_vendor vendor (Kind kind) = false
is_vendor vendor (Vendor named) = named == vendor
is_vendor vendor (VendorKind named kind) = false

abbrev pub is_kind_of : ℕ → ℕ → RemovedAttribute → Bool
is_kind_of vendor kind (Kind named) = false
is_kind_of vendor kind (Vendor named) = false
is_kind_of vendor kind (VendorKind named_vendor named) = named_vendor == vendor && named == kind

abbrev pub is_some_of : ℕ → RemovedAttribute → Bool
is_some_of vendor (Kind kind) = false
is_some_of vendor (Vendor named) = false
is_some_of vendor (VendorKind named kind) = named == vendor

-- the Types by which a session is named: User-Name, NAS-IP-Address, NAS-Identifier, Acct-Session-Id,
-- NAS-IPv6-Address and Operator-Name (RFC 5176, section 3; RFC 8559)
abbrev pub session_kinds : List ℕ
session_kinds = 1 ∷ 4 ∷ 32 ∷ 44 ∷ 95 ∷ 126 ∷ []

-- a Type by which a session is named
abbrev pub names_session : RemovedAttribute → Bool
names_session (Kind kind) = is_one_of session_kinds kind
names_session (Vendor vendor) = false
names_session (VendorKind vendor kind) = false

-- what names no session
abbrev pub without_sessions : List RemovedAttribute → List RemovedAttribute
without_sessions removed = filter (λ r. not (names_session r)) removed

-- both lists together, without what names a session where that passes
unfoldable pub removed_by : Removal → List RemovedAttribute
removed_by removal =
    if removal.keeps_session then without_sessions (removal.peer.now ++ removal.realm.now)
    else removal.peer.now ++ removal.realm.now
