-- The growth of a call that is refused. Growths are counted from 1, and 0 stands for none.
use Rattle.std.specs.Prelude.{◌≡◌, ℕ, ◌+◌, ◌<◌, ◌≤◌, Option, IsSome, IfSome}

-- With the `nth` growth to be refused, the last of `asked` growths is refused (ours)
pub record IsRefused (nth asked : ℕ) : Type 0 where
  pub a_growth : 0 < asked
  pub the_nth : asked ≡ nth

-- With the `nth` growth to be refused, one of `asked` growths was refused (ours)
pub record HasRefused (nth asked : ℕ) : Type 0 where
  pub one_to_refuse : 0 < nth
  pub asked_for : nth ≤ asked

-- With the `nth` growth to be refused, `asked` growths are too few for it (ours)
pub record HasRunOut (nth asked : ℕ) : Type 0 where
  pub fewer : asked < nth

-- The runs are numbered 1, 2, .. and there is a first: what comes after run `last` (ours)
pub record IsNextRun (last : ℕ) (result : Option ℕ) (last' : ℕ) : Type 0 where
  pub first_comes : last ≡ 0 → IsSome result
  pub one_more : IfSome result (λ n. n ≡ last + 1)
  pub is_last : IfSome result (λ n. last' ≡ n)
