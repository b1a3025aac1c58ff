-- Sessions by their tickets, which rise in the order in which the sessions were opened (ours).
use Rattle.std.specs.Prelude.{◌≡◌, ◌≢◌, ℕ, ◌<◌, ◌≤◌, Bool, true, false, List, Option, Some, None, IsSome}
use Rattle.roam_wire.specs.Numbered.{listed, tickets_end}

module _ {X : Type 0} where
  -- what all tickets have
  abbrev pub all_listed : (ℕ → Option X) → List X
  all_listed f = listed f 0 tickets_end

  -- v is the first ticket from `least` on that has anything
  pub record IsFirst (f : ℕ → Option X) (least v : ℕ) : Type 0 where
    pub from : least ≤ v
    pub held : IsSome (f v)
    pub none_before : (u : ℕ) → least ≤ u → u < v → f u ≡ None

  -- v is the last ticket below `end` that has anything
  pub record IsLast (f : ℕ → Option X) (end v : ℕ) : Type 0 where
    pub below : v < end
    pub held : IsSome (f v)
    pub none_behind : (u : ℕ) → v < u → u < end → f u ≡ None

  -- the first one from `least` on, if there is one; the last one below `end`
  abbrev pub IsFirstFrom : (ℕ → Option X) → ℕ → Option ℕ → Type 0
  IsFirstFrom f least None = (u : ℕ) → least ≤ u → f u ≡ None
  IsFirstFrom f least (Some v) = IsFirst f least v

  abbrev pub IsLastBelow : (ℕ → Option X) → ℕ → Option ℕ → Type 0
  IsLastBelow f end None = (u : ℕ) → u < end → f u ≡ None
  IsLastBelow f end (Some v) = IsLast f end v

  -- the ticket that has this, if one has
  abbrev pub IsTicketOf : X → (ℕ → Option X) → Option ℕ → Type 0
  IsTicketOf x f None = (t : ℕ) → f t ≢ Some x
  IsTicketOf x f (Some t) = f t ≡ Some x

  -- a ticket that has something that passes, if any does
  abbrev pub IsOneOf : (X → Bool) → (ℕ → Option X) → Option ℕ → Type 0
  IsOneOf test f None = (t : ℕ) (x : X) → f t ≡ Some x → test x ≡ false
  IsOneOf test f (Some t) = (x : X) × (f t ≡ Some x) × (test x ≡ true)

  -- and none before that ticket does
  abbrev pub NoneBefore : (X → Bool) → (ℕ → Option X) → Option ℕ → Type 0
  NoneBefore test f None = Unit {0}
  NoneBefore test f (Some t) = (u : ℕ) (x : X) → u < t → f u ≡ Some x → test x ≡ false
