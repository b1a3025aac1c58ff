-- Things that have numbers of 64 bits, as tickets and slots: what each number has, and the list of them (ours).
use Rattle.std.specs.Prelude.{◌≡◌, ◌≢◌, ℕ, zero, suc, ◌+◌, List, [], Option}
use Rattle.std.specs.List.{cons_option}

-- every ticket is below: 2^64
unfoldable pub tickets_end : ℕ
tickets_end = 18446744073709551616

module _ {X : Type 0} where
  -- what so many numbers from t on have, in their order
  unfoldable pub listed : (ℕ → Option X) → ℕ → ℕ → List X
  listed f t zero = []
  listed f t (suc n) = cons_option (f t) (listed f (t + 1) n)

  -- a number has this now, and every other one what it had
  pub record PutsAt (f g : ℕ → Option X) (t : ℕ) (w : Option X) : Type 0 where
    pub changed : g t ≡ w
    pub others : (u : ℕ) → u ≢ t → g u ≡ f u
