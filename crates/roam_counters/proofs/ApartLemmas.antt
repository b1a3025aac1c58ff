-- That counts are told apart.
use Rattle.std.proofs.Common.{arith, ◌≡◌, ◌≢◌, ◌∙◌, ℕ, ◌+◌, ◌*◌, ◌<◌, List, Some, slice_get, ap, refl, sym, inl, inr}
use Rattle.std.proofs.lemmas.Bool.{cases_lt}
use Rattle.std.proofs.lemmas.Option.{slice_get_within}
use Rattle.roam_counters.proofs.Places.{all_events, all_processes, event-at_place, process-at_place}
use Rattle.roam_counters.specs.Apart.{CellsAreApart}
use Rattle.roam_counters.specs.Cells.{HasPlace, cell_of, cells, holder_of, process_cell}
use Rattle.roam_counters.specs.Events.{event_place}
use Rattle.roam_counters.specs.Process.{process_place}
use Rattle.roam_counters.specs.declared.cell.Holder.{Holder}
use Rattle.roam_counters.specs.declared.cell.Holder.TheVariants as holder
use Rattle.roam_counters.specs.declared.cell.Subject.{Subject}
use Rattle.roam_counters.specs.declared.cell.Subject.TheVariants as subject
use Rattle.roam_counters.specs.declared.event.CountedEvent.{CountedEvent}
use Rattle.roam_counters.specs.declared.process.Process.{Process}

-- rows of one length
pub rows-apart : (a b m n : ℕ) → m < 103 → n < 103 → 103 * a + m ≡ 103 * b + n → (a ≡ b) × (m ≡ n)
rows-apart a b m n small_m small_n is =
    elim (cases_lt a b) [
      | inl less ↦ absurd (omega (arith, small_m, is, less))
      | inr not_less ↦ elim (cases_lt b a) [
        | inl more ↦ absurd (omega (arith, small_n, is, more))
        | inr not_more ↦ (omega (arith, not_less, not_more), omega (arith, not_less, not_more, is))
      ]
    ]

-- what stands at two places of a list that are one
same-at : {X : Type 0} (all : List X) (m n : ℕ) (x y : X) → m ≡ n → slice_get all m ≡ Some x →
    slice_get all n ≡ Some y → x ≡ y
same-at all m n x y same here there =
    let both : Some x ≡ Some y = sym here ∙ ap (λ (k : ℕ). slice_get all k) same ∙ there in cc

pub events-apart : (a b : CountedEvent) → event_place a ≡ event_place b → a ≡ b
events-apart a b same = same-at all_events (event_place a) (event_place b) a b same (event-at_place a)
    (event-at_place b)

pub processes-apart : (p q : Process) → process_place p ≡ process_place q → p ≡ q
processes-apart p q same =
    same-at all_processes (process_place p) (process_place q) p q same (process-at_place p) (process-at_place q)

pub event-below : (a : CountedEvent) → event_place a < 103
event-below a = slice_get_within all_events (event_place a) a (event-at_place a)

pub process-below : (p : Process) → process_place p < 19
process-below p = slice_get_within all_processes (process_place p) p (process-at_place p)

-- which list it is
abbrev kind_of : Holder → ℕ
kind_of holder.Server = 0
kind_of (holder.Realm realm) = 1
kind_of (holder.Peer peer) = 2

abbrev index_of : Holder → ℕ
index_of holder.Server = 0
index_of (holder.Realm realm) = realm
index_of (holder.Peer peer) = peer

-- counts of subjects have places of their own
pub subjects-apart : (s t : Subject) (a b : CountedEvent) → holder_of s ≡ holder_of t → cell_of s a ≡ cell_of t b →
    (s ≡ t) × (a ≡ b)
subjects-apart subject.All subject.All a b same is = (refl, events-apart a b (omega (arith, is)))
subjects-apart subject.All (subject.Realm r) a b same is =
    absurd (let k = ap kind_of same in omega (arith, k))
subjects-apart subject.All (subject.Server r n) a b same is =
    absurd (let k = ap kind_of same in omega (arith, k))
subjects-apart subject.All (subject.Peer p) a b same is =
    absurd (let k = ap kind_of same in omega (arith, k))
subjects-apart (subject.Realm r) subject.All a b same is =
    absurd (let k = ap kind_of same in omega (arith, k))
subjects-apart (subject.Realm r) (subject.Realm q) a b same is =
    (ap subject.Realm (ap index_of same), events-apart a b (omega (arith, is)))
subjects-apart (subject.Realm r) (subject.Server q n) a b same is =
    absurd (let small = event-below a in omega (arith, is, small))
subjects-apart (subject.Realm r) (subject.Peer p) a b same is =
    absurd (let k = ap kind_of same in omega (arith, k))
subjects-apart (subject.Server r m) subject.All a b same is =
    absurd (let k = ap kind_of same in omega (arith, k))
subjects-apart (subject.Server r m) (subject.Realm q) a b same is =
    absurd (let small = event-below b in omega (arith, is, small))
subjects-apart (subject.Server r m) (subject.Server q n) a b same is =
    let both = rows-apart (m + 1) (n + 1) (event_place a) (event_place b) (event-below a) (event-below b)
    (omega (arith, is)) in
    let server : m ≡ n = let one_more = both.0 in omega (arith, one_more) in (
      ap (λ (k : ℕ). subject.Server k m) (ap index_of same) ∙ ap (λ (k : ℕ). subject.Server q k) server,
      events-apart a b both.1,
    )
subjects-apart (subject.Server r m) (subject.Peer p) a b same is =
    absurd (let k = ap kind_of same in omega (arith, k))
subjects-apart (subject.Peer p) subject.All a b same is =
    absurd (let k = ap kind_of same in omega (arith, k))
subjects-apart (subject.Peer p) (subject.Realm q) a b same is =
    absurd (let k = ap kind_of same in omega (arith, k))
subjects-apart (subject.Peer p) (subject.Server q n) a b same is =
    absurd (let k = ap kind_of same in omega (arith, k))
subjects-apart (subject.Peer p) (subject.Peer q) a b same is =
    (ap subject.Peer (ap index_of same), events-apart a b (omega (arith, is)))

-- none stands where the server's own do
pub none-of_server : (s : Subject) (a : CountedEvent) (p : Process) → holder_of s ≡ holder.Server →
    cell_of s a ≢ process_cell p
none-of_server subject.All a p same is = let small = process-below p in omega (arith, is, small)
none-of_server (subject.Realm r) a p same is = let k = ap kind_of same in omega (arith, k)
none-of_server (subject.Server r n) a p same is = let k = ap kind_of same in omega (arith, k)
none-of_server (subject.Peer q) a p same is = let k = ap kind_of same in omega (arith, k)

-- they are among those of the list
pub cell-below : (s : Subject) (a : CountedEvent) → HasPlace s → cell_of s a < cells (holder_of s)
cell-below subject.All a f = let small = event-below a in omega (arith, small)
cell-below (subject.Realm r) a f = let small = event-below a in omega (arith, small)
cell-below (subject.Server r n) a f = let small = event-below a in omega (arith, small, f)
cell-below (subject.Peer p) a f = let small = event-below a in omega (arith, small)

pub are-apart : CellsAreApart
are-apart = record {
  subjects = subjects-apart;
  processes = processes-apart;
  both = none-of_server;
  within = cell-below;
}
