-- The run of zero groups that is found is the one that `::` stands for.
use Rattle.std.proofs.Common.{◌≡◌, ℕ, zero, suc, ◌+◌, ◌-◌, ◌<◌, ◌≤◌, eqb, List, [], ◌∷◌, length, get_or, drop, refl, sym, ap, ◌∙◌, arith, inl, inr, length-drop, le-ltb, lt-ltb, eqb-true, true≢false}
use Rattle.std.proofs.lemmas.Bool.{cases_lt, eq-eqb, le-leb, lt-leb}
use Rattle.std.proofs.lemmas.List.{get_or-drop}
use Rattle.std.proofs.lemmas.List.Sums.{prefix_len-le-length, prefix_len-drop_all, prefix_len_passes, prefix_len_stops}
use Rattle.std.specs.Prelude.{⊤}
use Rattle.std.specs.declared.net.ip_addr.IpAddr.{IpAddr}
use Rattle.std.specs.declared.net.ip_addr.IpAddr.TheVariants.{V4, V6}
use Rattle.std.specs.Net.Addr.{ipv6_segments, MatchIp}
use Rattle.std.specs.Net.Text.{zero_run, longest_zero_run, hex_groups_text}
use Rattle.roam_address.specs.Addresses.{ip_text}
use Rattle.roam_address.specs.Canonical.{IsZeroRun, IsShortened, IsCanonicalText}

-- from no place on are more groups zero than from the run's, and from none before it as many
record IsBest (groups : List ℕ) (run : ℕ × ℕ) : Type 0 where
  there : zero_run (drop run.0 groups) ≡ run.1
  most : (s : ℕ) → zero_run (drop s groups) ≤ run.1
  before : (s : ℕ) → s < run.0 → zero_run (drop s groups) < run.1

most_of : (x : ℕ) (rest : List ℕ) (n : ℕ) → zero_run (x ∷ rest) ≤ n → ((s : ℕ) → zero_run (drop s rest) ≤ n) →
    (s : ℕ) → zero_run (drop s (x ∷ rest)) ≤ n
most_of x rest n here later zero = here
most_of x rest n here later (suc s) = later s

before_of : (x : ℕ) (rest : List ℕ) (m n : ℕ) → zero_run (x ∷ rest) < n →
    ((s : ℕ) → s < m → zero_run (drop s rest) < n) → (s : ℕ) → s < m + 1 → zero_run (drop s (x ∷ rest)) < n
before_of x rest m n here later zero below = here
before_of x rest m n here later (suc s) below = later s (omega (arith, below))

none_in_nothing : (s : ℕ) → zero_run (drop s []) ≡ 0
none_in_nothing s = prefix_len-drop_all (λ (g : ℕ). eqb g 0) [] s (omega arith)

best : (groups : List ℕ) → IsBest groups (longest_zero_run groups)
best [] = record {
  there = refl;
  most = λ s. omega (arith, none_in_nothing s);
  before = λ s below. absurd (omega (arith, below));
}
best (x ∷ rest) =
    let later = longest_zero_run rest in
    let b = best rest in
    let here = zero_run (x ∷ rest) in
    elim (cases_lt here later.1) [
      | inl less ↦ (
          let one_more : later.0 + 1 ≡ suc later.0 = omega arith in
          rw (lt-leb later.1 here less) (record {
            there = ap (λ n. zero_run (drop n (x ∷ rest))) one_more ∙ b.there;
            most = most_of x rest later.1 (omega (arith, less)) b.most;
            before = before_of x rest later.0 later.1 less b.before;
          }))
      | inr no_less ↦ (
          let rises : (s : ℕ) → zero_run (drop s rest) ≤ here = λ s. omega (arith, no_less, b.most s) in
          rw (le-leb later.1 here no_less) (record {
            there = refl;
            most = most_of x rest here (omega arith) rises;
            before = λ s below. absurd (omega (arith, below));
          }))
    ]

-- a run is no longer than the zero groups from its place on
run_fits : (groups : List ℕ) (start count : ℕ) → IsZeroRun groups start count → count ≤ zero_run (drop start groups)
run_fits groups start count run =
    let z = zero_run (drop start groups) in
    elim (cases_lt z count) [
      | inl less ↦ (
          let inside : z < length (drop start groups) = omega (arith, less, run.within, length-drop start groups) in
          let stops = prefix_len_stops (λ (g : ℕ). eqb g 0) (drop start groups) 0 inside in
          let is_zero : get_or (drop start groups) z 0 ≡ 0 =
          get_or-drop start groups z 0 ∙ run.zero (start + z) (omega arith) (omega (arith, less)) in
          absurd (true≢false (sym (eq-eqb (get_or (drop start groups) z 0) 0 is_zero) ∙ stops)))
      | inr enough ↦ enough
    ]

-- what is zero from a place on is a run
is_run : (groups : List ℕ) (start : ℕ) → 0 < zero_run (drop start groups) →
    IsZeroRun groups start (zero_run (drop start groups))
is_run groups start some = record {
  within = omega (arith, some, prefix_len-le-length (λ (g : ℕ). eqb g 0) (drop start groups), length-drop start groups);
  zero = λ k from below. (
      let back : start + (k - start) ≡ k = omega (arith, from) in
      let passes = prefix_len_passes (λ (g : ℕ). eqb g 0) (drop start groups) (k - start) 0
      (omega (arith, from, below)) in
      sym (ap (λ n. get_or groups n 0) back) ∙ sym (get_or-drop start groups (k - start) 0)
      ∙ eqb-true (get_or (drop start groups) (k - start) 0) 0 passes);
}

shortened : (groups : List ℕ) → 1 < (longest_zero_run groups).1 →
    IsShortened groups (longest_zero_run groups).0 (longest_zero_run groups).1
shortened groups two =
    let run = longest_zero_run groups in
    let b = best groups in
    record {
      run = rw (← b.there) (is_run groups run.0 (omega (arith, two, b.there)));
      at_least_two = omega (arith, two);
      longest = λ other many h. omega (arith, run_fits groups other many h, b.most other);
      first = λ other h. elim (cases_lt other run.0) [
        | inl earlier ↦ absurd (omega (arith, run_fits groups other run.1 h, b.before other earlier))
        | inr later ↦ later
      ];
    }

-- the text of the groups is the canonical one
pub canonical : (groups : List ℕ) → IsCanonicalText groups (hex_groups_text groups)
unfolding hex_groups_text
canonical groups =
    let run = longest_zero_run groups in
    elim (cases_lt 1 run.1) [
      | inl two ↦ rw (lt-ltb 1 run.1 two) (inl (run.0, run.1, shortened groups two, refl))
      | inr few ↦ rw (le-ltb 1 run.1 few)
          (inr ((λ start count h. omega (arith, few, run_fits groups start count h, (best groups).most start)), refl))
    ]

pub canonical_ip : (ip : IpAddr) → MatchIp ip (λ _. ⊤) (λ a. IsCanonicalText (ipv6_segments a) (ip_text ip))
canonical_ip (V4 a) = tt
canonical_ip (V6 a) = canonical (ipv6_segments a)
