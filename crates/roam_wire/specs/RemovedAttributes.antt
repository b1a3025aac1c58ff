-- The attributes that the lists of attributes to be left out may name (ours).
use Rattle.std.specs.Prelude.{ℕ, ◌==◌, ◌&&◌, Bool, List, [], ◌∷◌, not, nat_le}
use Rattle.std.specs.List.{list_any}
use Rattle.roam_wire.specs.declared.removed_attribute.RemovedAttribute.{RemovedAttribute}
use Rattle.roam_wire.specs.declared.removed_attribute.RemovedAttribute.TheVariants.{Kind, Vendor, VendorKind}

-- the Types that no list for requests names: a request's way, its proof of identity and its seal hang on them
-- (User-Name, User-Password, CHAP-Password, State, Proxy-State, CHAP-Challenge, EAP-Message,
-- Message-Authenticator)
abbrev pub kept_in_requests : List ℕ
kept_in_requests = 1 ∷ 2 ∷ 3 ∷ 24 ∷ 33 ∷ 60 ∷ 79 ∷ 80 ∷ []

-- the Types that no list for replies names: State, Proxy-State, EAP-Message, Message-Authenticator
abbrev pub kept_in_replies : List ℕ
kept_in_replies = 24 ∷ 33 ∷ 79 ∷ 80 ∷ []

-- the Type is one of these
abbrev pub is_one_of : List ℕ → ℕ → Bool
is_one_of kinds kind = list_any (λ k. kind == k) kinds

-- a Type from 1 that is none of these; a vendor of at most three octets; a type of such a vendor, from 1
abbrev pub is_removal : List ℕ → RemovedAttribute → Bool
is_removal kept (Kind kind) = nat_le 1 kind && not (is_one_of kept kind)
is_removal kept (Vendor vendor) = nat_le vendor 16777215
is_removal kept (VendorKind vendor kind) = nat_le vendor 16777215 && nat_le 1 kind

-- what a list for requests may name
unfoldable pub is_removal_in_requests : RemovedAttribute → Bool
is_removal_in_requests removed = is_removal kept_in_requests removed

-- what a list for replies may name
unfoldable pub is_removal_in_replies : RemovedAttribute → Bool
is_removal_in_replies removed = is_removal kept_in_replies removed
