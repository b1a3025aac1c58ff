-- Open sessions that agree with what is asked and have its id: those in its bucket.
use Rattle.std.proofs.Common.{◌≡◌, ℕ, true, length, Option, Some, None, refl, ap, ◌∙◌, inl, inr}
use Rattle.std.specs.Prelude.{filter, is_some, option_and_then}
use Rattle.std.proofs.lemmas.Bool.{cases_Bool}
use Rattle.roam_wire.specs.Numbered.{tickets_end}
use Rattle.roam_sessions.specs.Ended.{agreeing_of, if_agrees, if_there, open_of, where_open}
use Rattle.roam_sessions.specs.Facets.{id_buckets}
use Rattle.roam_sessions.specs.Private.Buckets.{bucket_in, bucket_text, id_text}
use Rattle.roam_sessions.specs.Private.Groups.{if_row, in_group}
use Rattle.roam_sessions.specs.Private.Masks.{without_names}
use Rattle.roam_sessions.specs.Private.Row.{id_row, row_text}
use Rattle.roam_sessions.specs.Private.Tickets.{all_listed}
use Rattle.roam_sessions.specs.Sessions.{Asked, Session, agrees}
use Rattle.roam_sessions.specs.declared.buckets.Buckets.{Buckets}
use Rattle.roam_sessions.specs.declared.ended.Ended.{Ended}
use Rattle.roam_sessions.proofs.FacetLemmas.{listed-count, passing}
use Rattle.roam_sessions.proofs.OpenLemmas.{open-there}
use Rattle.roam_sessions.proofs.RowLemmas.{same-unnamed}
use Rattle.roam_sessions.proofs.SameLemmas.{octets-same}

module _ (b : Buckets) (e : Ended) (F : ℕ → Option Session) (q : Asked) (id : is_some q.id ≡ true) where
  pub agreeing-open :
      length (all_listed (in_group (where_open (agreeing_of q (open_of e F)) (id_buckets b F))
      (bucket_text (bucket_in b (row_text (without_names q))))))
      ≡ length (filter (agrees q) (all_listed (open_of e F)))
  unfolding passing
  agreeing-open =
      listed-count (agrees q) (open_of e F)
      (in_group (where_open (agreeing_of q (open_of e F)) (id_buckets b F))
      (bucket_text (bucket_in b (row_text (without_names q))))) 0 tickets_end
      (λ u. same u (open_of e F u) refl)
    where
      same : (u : ℕ) (o : Option Session) → open_of e F u ≡ o
          → is_some (if_row (bucket_text (bucket_in b (row_text (without_names q))))
          (if_there (option_and_then (if_agrees q) o) (id_buckets b F u))) ≡ passing (agrees q) o
      same u None at = refl
      same u (Some s) at = elim (cases_Bool (agrees q s)) [
        | inr disagree ↦ rw disagree refl
        | inl agree ↦ (
            let row = bucket_text (bucket_in b (row_text (without_names q))) in
            let there = ap (λ (o : Option Session). is_some (if_row row (option_and_then (id_text b) o)))
            (open-there e F u s at) in
            rw agree (there ∙ rw (octets-same row (bucket_text (bucket_in b (id_row s)))
            (ap (λ (q : Asked). bucket_text (bucket_in b (row_text q))) (same-unnamed q s id agree))) refl))
      ]
