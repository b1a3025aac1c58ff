-- The count of refusals within a second. Ours.
use Rattle.std.specs.Prelude.{◌≡◌, ◌⊎◌, ℕ, ◌+◌, ◌-◌, ◌^◌, ◌<◌, ◌≤◌, ◌==◌, min, List, [], ◌∷◌, ◌++◌, length, slice_index_or, slice_set, sum_by, All, Option, Some, None, option_map, if◌then◌else◌}
use Rattle.roam_wire.specs.declared.refusal.Refusal.{Refusal}
use Rattle.roam_wire.specs.declared.refusal.Refusal.TheVariants as refusal
use Rattle.roam_log.specs.declared.origin.Origin.{Origin}
use Rattle.roam_log.specs.declared.origin.OriginKind.{OriginKind}
use Rattle.roam_log.specs.declared.tally.RefusalCount.{RefusalCount}
use Rattle.roam_log.specs.Origins.{kind_of}

-- whether a tally counts this kind
abbrev pub IsOfKind : OriginKind → RefusalCount → Type 0
IsOfKind kind tally = option_map kind_of tally.origin ≡ Some kind

-- one more, up to 2^64 - 1
abbrev pub one_more : RefusalCount → RefusalCount
one_more tally = record tally { count = min (2 ^ 64 - 1) (tally.count + 1) }

-- the tally of a place
abbrev pub tally_at : List RefusalCount → ℕ → RefusalCount
tally_at tallies i = slice_index_or tallies i record { refusal = refusal.Short; origin = None; count = 0 }

-- the first of a kind, or of all others
abbrev pub first_of : Refusal → Option Origin → RefusalCount
first_of refusal origin = record { refusal = refusal; origin = origin; count = 1 }

-- no tally counts this kind
abbrev pub AllLack : OriginKind → List RefusalCount → Type 0
AllLack kind tallies = All (λ tally. ¬ (IsOfKind kind tally)) tallies

-- a tally of its kind counts it
pub record IsAgain (kind : OriginKind) (old new : List RefusalCount) : Type 0 where
  pub place : ℕ
  pub stands : place < length old
  pub of_kind : IsOfKind kind (tally_at old place)
  pub counts : new ≡ slice_set old place (one_more (tally_at old place))

-- there is none, and there are fewer than eight: it has one of its own
pub record IsFirst (refusal : Refusal) (origin : Origin) (old new : List RefusalCount) : Type 0 where
  pub lacks : AllLack (kind_of origin) old
  pub few : length old < 8
  pub counts : new ≡ old ++ first_of refusal (Some origin) ∷ []

-- there is none, and there are eight: the ninth counts it with all others
pub record IsBeyond (refusal : Refusal) (origin : Origin) (old new : List RefusalCount) : Type 0 where
  pub lacks : AllLack (kind_of origin) old
  pub many : 8 ≤ length old
  pub counts : new ≡ (if length old == 8 then old ++ first_of refusal None ∷ []
      else slice_set old 8 (one_more (tally_at old 8)))

-- ## Tallies of a second
-- By number. A refusal is counted in the tally of its kind; where there is none it begins one, while fewer than
-- eight stand there; else the ninth counts it with all others of its number.
-- Source: ours
-- Rules out: a flood of one number that hides another
-- Stands in: `roam_log` `Tallies.antt`: `IsNoted`; `Repeats.antt`: `row_of`, `all_tallies`;
-- `Repeats::note`, `take_first`
--
-- one more refusal of this number is counted
abbrev pub IsNoted : Refusal → Origin → List RefusalCount → List RefusalCount → Type 0
IsNoted refusal origin old new =
    IsAgain (kind_of origin) old new ⊎ IsFirst refusal origin old new ⊎ IsBeyond refusal origin old new

-- how many refusals some tallies count together
abbrev pub counted_in : List RefusalCount → ℕ
counted_in tallies = sum_by (λ tally. tally.count) tallies
