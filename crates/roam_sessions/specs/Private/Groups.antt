-- Numbers in groups, each group a chain of its numbers in rising order (ours).
use Rattle.std.specs.Prelude.{◌≡◌, ◌⊎◌, ℕ, ◌+◌, ◌-◌, ◌^◌, ◌<◌, ◌≤◌, ◌==◌, ◌&&◌, min, nat_le, nat_lt, Bool, false, List, length, Option, Some, None, option_and_then, option_map, if◌then◌else◌}
use Rattle.std.specs.Option.{option_map_or}
use Rattle.std.specs.Str.{bytes_eq}
use Rattle.roam_wire.specs.Numbered.{PutsAt, tickets_end}
use Rattle.roam_sessions.specs.Private.Tickets.{IsFirst, IsFirstFrom, IsLast, IsLastBelow, all_listed}
use Rattle.roam_sessions.specs.declared.ends.Ends.{Ends}
use Rattle.roam_sessions.specs.declared.neighbours.Beside.{Beside}

-- a row, where it is this one
abbrev pub if_row : List ℕ → Option (List ℕ) → Option (List ℕ)
if_row row None = None
if_row row (Some other) = if bytes_eq row other then Some other else None

-- the numbers of a group
abbrev pub in_group : (ℕ → Option (List ℕ)) → List ℕ → ℕ → Option (List ℕ)
in_group f row t = if_row row (f t)

-- the ends of each group, and the neighbours of each number
pub record PlainGroups : Type 0 where
  pub ends : List ℕ → Option Ends
  pub beside : ℕ → Option Beside

-- these are the ends of a group, and so many numbers it has
pub record AreEnds (f : ℕ → Option (List ℕ)) (row : List ℕ) (ends : Ends) : Type 0 where
  pub oldest : IsFirst (in_group f row) 0 ends.oldest
  pub newest : IsLast (in_group f row) tickets_end ends.newest
  pub count : length (all_listed (in_group f row)) ≡ ends.count

abbrev pub AreEndsOf : (ℕ → Option (List ℕ)) → List ℕ → Option Ends → Type 0
AreEndsOf f row None = (t : ℕ) → in_group f row t ≡ None
AreEndsOf f row (Some ends) = AreEnds f row ends

-- these are a number's neighbours in its group
pub record IsBeside (f : ℕ → Option (List ℕ)) (row : List ℕ) (t : ℕ) (beside : Beside) : Type 0 where
  pub older : IsLastBelow (in_group f row) t beside.older
  pub newer : IsFirstFrom (in_group f row) (t + 1) beside.newer

abbrev pub IsBesideOf : (ℕ → Option (List ℕ)) → List ℕ → ℕ → Option Beside → Type 0
IsBesideOf f row t None = ⊥
IsBesideOf f row t (Some beside) = IsBeside f row t beside

-- each number is in the group of its row, if it has one
pub record IsGrouped (f : ℕ → Option (List ℕ)) (groups : PlainGroups) : Type 0 where
  pub ends : (row : List ℕ) → AreEndsOf f row (groups.ends row)
  pub beside : (t : ℕ) (row : List ℕ) → f t ≡ Some row → IsBesideOf f row t (groups.beside t)
  pub within : (t : ℕ) (row : List ℕ) → f t ≡ Some row → t < tickets_end

-- a number comes behind all others with a row, or none; one goes, of this row
pub record Comes (f g : ℕ → Option (List ℕ)) (t : ℕ) (row : Option (List ℕ)) : Type 0 where
  pub puts : PutsAt f g t row
  pub free : (u : ℕ) → t ≤ u → f u ≡ None
  pub within : t + 1 < tickets_end

pub record Goes (f g : ℕ → Option (List ℕ)) (t : ℕ) (row : Option (List ℕ)) : Type 0 where
  pub was : f t ≡ row
  pub puts : PutsAt f g t None

-- a row has this now, and every other one what it had
abbrev pub PutsRow : {X : Type 0} → (List ℕ → Option X) → (List ℕ → Option X) → List ℕ → Option X → Type 0
PutsRow I J row w = (other : List ℕ) → J other ≡ (if bytes_eq row other then w else I other)

-- whether a number is the one that is given
abbrev pub is_at : Option ℕ → ℕ → Bool
is_at None u = false
is_at (Some t) u = t == u

-- the neighbours of a number, once the one that is given has another newer neighbour, or another older one
abbrev pub with_newer_at : Option ℕ → Option ℕ → ℕ → Beside → Beside
with_newer_at at newer u b = if is_at at u then record b { newer = newer } else b

abbrev pub with_older_at : Option ℕ → Option ℕ → ℕ → Beside → Beside
with_older_at at older u b = if is_at at u then record b { older = older } else b

-- the ends of a group with a number behind all that it has
abbrev pub ends_behind : ℕ → Option Ends → Ends
ends_behind number None = record { oldest = number; newest = number; count = 1 }
ends_behind number (Some ends) =
    record { oldest = ends.oldest; newest = number; count = min (ends.count + 1) (2 ^ 64 - 1) }

-- the newest number of a group, by its ends
abbrev pub newest_of : Option Ends → Option ℕ
newest_of None = None
newest_of (Some ends) = Some ends.newest

-- the ends of a group once a number between these went
abbrev pub ends_between : Option ℕ → Option ℕ → Ends → Option Ends
ends_between None None ends = None
ends_between None (Some newer) ends =
    Some (record { oldest = newer; newest = ends.newest; count = ends.count - 1 })
ends_between (Some older) None ends =
    Some (record { oldest = ends.oldest; newest = older; count = ends.count - 1 })
ends_between (Some older) (Some newer) ends =
    Some (record { oldest = ends.oldest; newest = ends.newest; count = ends.count - 1 })

abbrev pub ends_left : Beside → Ends → Option Ends
ends_left beside ends = ends_between beside.older beside.newer ends

-- the oldest number of a group, and how many it has
abbrev pub oldest_of : PlainGroups → List ℕ → Option ℕ
oldest_of groups row = option_map (λ (e : Ends). e.oldest) (groups.ends row)

-- the next newer number of a number's group, by the neighbours of each
abbrev pub newer_at : (ℕ → Option Beside) → ℕ → Option ℕ
newer_at beside t = option_and_then (λ (b : Beside). b.newer) (beside t)

abbrev pub newer_of : PlainGroups → ℕ → Option ℕ
newer_of groups = newer_at groups.beside

abbrev pub count_of : PlainGroups → List ℕ → ℕ
count_of groups row = option_map_or (λ (e : Ends). e.count) (groups.ends row) 0

-- of two groups, that which has more, or as many and the older one
abbrev pub larger : Option Ends → Ends → Ends
larger None ends = ends
larger (Some best) ends =
    if nat_lt ends.count best.count then best
    else if best.count == ends.count && nat_le best.oldest ends.oldest then best
    else ends

-- a group has no more than another, and where it has as many, no older one
abbrev pub IsNoLarger : Ends → Ends → Type 0
IsNoLarger ends best = (ends.count < best.count) ⊎ ((ends.count ≡ best.count) × (best.oldest ≤ ends.oldest))

-- the oldest number of a group that has most
pub record IsOldestOfMost (groups : PlainGroups) (t : ℕ) : Type 0 where
  pub row : List ℕ
  pub ends : Ends
  pub there : groups.ends row ≡ Some ends
  pub oldest : ends.oldest ≡ t
  pub most : (other : List ℕ) (its : Ends) → groups.ends other ≡ Some its → IsNoLarger its ends

abbrev pub IsLargest : PlainGroups → Option ℕ → Type 0
IsLargest groups None = (row : List ℕ) → groups.ends row ≡ None
IsLargest groups (Some t) = IsOldestOfMost groups t
