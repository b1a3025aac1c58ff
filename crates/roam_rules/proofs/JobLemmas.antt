-- An event of a configuration is a job that its realm takes.
use Rattle.std.proofs.Common.{◌≡◌, ℕ, zero, suc, ◌<◌, true, false, List, [], ◌∷◌, length, Option, Some, refl, sym, ap, subst, ◌∙◌, arith}
use Rattle.std.specs.Prelude.{slice_get, slice_index_or}
use Rattle.std.specs.Option.{option_map_or}
use Rattle.std.proofs.lemmas.Bool.{false≢true}
use Rattle.std.proofs.lemmas.Bool.Decides.{nat_tests}
use Rattle.roam_wire.specs.Codes.{is_reverse_request}
use Rattle.roam_wire.specs.Packet.{AreOctets}
use Rattle.roam_wire.specs.Reading.{IsPacketText, packet_of}
use Rattle.roam_conf.specs.Config.{ConfigView, RealmView}
use Rattle.roam_conf.specs.Lookup.{homes}
use Rattle.roam_conf.specs.declared.place.Place.{Place}
use Rattle.roam_conf.specs.declared.place.Place.TheVariants as place
use Rattle.roam_forward.specs.Shaped.{CanBeShaped}
use Rattle.roam_admission.specs.Admission.{PlainJob, is_taken}
use Rattle.roam_admission.specs.Shapings.{shaping_between}
use Rattle.roam_admission.specs.Events.{IsConfigured, IsEvent, IsForwardable}
use Rattle.roam_admission.specs.declared.job.Side.{Side}
use Rattle.roam_admission.specs.declared.job.Side.TheVariants as side
use Rattle.roam_admission.proofs.EventLemmas.{event_realm, event_sound}
use Rattle.roam_realm.specs.RealmConfig.{RealmConfig, no_realm, realm_config}
use Rattle.roam_rules.specs.BookView.{EventIsTaken, IsTakenFrom}

-- a realm has as many sources of reverse requests as a configuration has for its index
homes-at : (realms : List RealmView) (realm : ℕ)
    → option_map_or homes (slice_get realms realm) 0 ≡ homes (slice_index_or realms realm no_realm)
homes-at [] realm = refl
homes-at (r ∷ rs) zero = refl
homes-at (r ∷ rs) (suc realm) = homes-at rs realm

-- and its entry is the one that it has
realm-at : (realms : List RealmView) (realm : ℕ) → realm < length realms
    → slice_get realms realm ≡ Some (slice_index_or realms realm no_realm)
realm-at [] realm there = absurd (omega (arith, there))
realm-at (r ∷ rs) zero there = refl
realm-at (r ∷ rs) (suc realm) there = realm-at rs realm (omega (arith, there))

-- a peer sends no reverse request, a home server nothing else
peer-code : (at : Place) (i code : ℕ) → is_taken at (side.Peer i) code ≡ true → is_reverse_request code ≡ false
peer-code (place.Auth nth) i code taken = grind (arith, nat_tests, taken)
peer-code (place.Acct nth) i code taken = grind (arith, nat_tests, taken)
peer-code (place.Out realm nth) i code taken = absurd (false≢true taken)
peer-code (place.Reverse realm nth) i code taken = absurd (false≢true taken)

home-code : (at : Place) (i code : ℕ) → is_taken at (side.Home i) code ≡ true → is_reverse_request code ≡ true
home-code (place.Auth nth) i code taken = absurd (false≢true taken)
home-code (place.Acct nth) i code taken = absurd (false≢true taken)
home-code (place.Out realm nth) i code taken = absurd (false≢true taken)
home-code (place.Reverse realm nth) i code taken = taken

-- what is admitted, its realm takes
sound_taken : (config : ConfigView) (job : PlainJob) (s : Side) → job.realm < length config.realms
    → IsPacketText job.octets → IsConfigured config job.realm s
    → is_taken job.place s (packet_of job.octets).code ≡ true
    → IsForwardable config job.realm s (packet_of job.octets)
    → IsTakenFrom (realm_config config job.realm) job s
sound_taken config job (side.Peer i) there packet sender code forwardable = record {
  packet = packet;
  can_go = record {
    code = peer-code job.place i (packet_of job.octets).code code;
    can_be_shaped = subst
        (λ (o : Option RealmView). CanBeShaped (shaping_between (slice_get config.peers i) o) (packet_of job.octets))
        (realm-at config.realms job.realm there) forwardable;
  };
  requester = sender;
}
sound_taken config job (side.Link l) there packet sender code forwardable = packet
sound_taken config job (side.Home i) there packet sender code forwardable = record {
  packet = packet;
  can_go = record {
    code = home-code job.place i (packet_of job.octets).code code;
    can_be_forwarded = forwardable;
  };
  requester = subst (λ (n : ℕ). i < n) (homes-at config.realms job.realm) sender;
}

pub event_taken : EventIsTaken
event_taken config job octets is =
    let sound = event_sound config job octets is in
    sound_taken config job job.side (event_realm config job is) sound.packet sound.sender sound.code
    sound.forwardable

-- the same, by what a book reads of its configuration
pub job_of_book : (config : ConfigView) (job : PlainJob) (realm : ℕ) (c : RealmConfig)
    → AreOctets job.octets → IsEvent config job → job.realm ≡ realm → c ≡ realm_config config realm
    → IsTakenFrom c job job.side
job_of_book config job realm c octets event own is =
    let of : realm_config config job.realm ≡ c = ap (realm_config config) own ∙ sym is in
    subst (λ (x : RealmConfig). IsTakenFrom x job job.side) of (event_taken config job octets event)
