-- What the packet carries that is forwarded for a shaped request.
use Rattle.std.proofs.Common.{◌≡◌, ◌≢◌, ℕ, Bool, true, false, inl, inr, None, List, [], ◌∷◌, ◌++◌, map, subst, refl, sym, ap, ap₂, ◌∙◌, append_assoc, append-nil}
use Rattle.std.specs.Prelude.{◌==◌, not, if◌then◌else◌}
use Rattle.std.specs.List.{AllByRecursion}
use Rattle.std.proofs.lemmas.Bool.{cases_Bool, eq-eqb, eqb-true, ne_eqb, both_ways}
use Rattle.std.proofs.lemmas.List.{map-append}
use Rattle.std.proofs.lemmas.List.Elements.{filter-append}
use Rattle.roam_wire.specs.Packet.{Attribute, Packet}
use Rattle.roam_wire.specs.Attributes.{has_kind, only_kind, without_kind}
use Rattle.roam_wire.specs.declared.attribute_type.TheConstants.{MESSAGE_AUTHENTICATOR, USER_PASSWORD}
use Rattle.roam_wire.specs.declared.code.TheConstants.{ACCESS_REQUEST}
use Rattle.roam_crypto.specs.MessageAuthenticator.{empty_message_authenticator, message_authenticator, with_message_authenticator}
use Rattle.roam_forward.specs.Without.{without}
use Rattle.roam_forward.proofs.WithoutLemmas.{without-none}
use Rattle.roam_forward.specs.Forwarded.{Forwarding, access_attributes, added_challenge, forwarded, ticket_state, with_password_anew, HasPasswordBlocks}
use Rattle.roam_forward.specs.Shaped.{Shaping, added_cui, added_for_peer, added_operator_name, all_added, challenge_first, no_shaping, passing, shaped, takes_operator_name}
use Rattle.roam_forward.specs.ShapedLaws.{NothingShaped, ShapedAccessCarries}
use Rattle.roam_forward.proofs.AccessLemmas.{access_unsealed, all_without, forwarded-access}
use Rattle.roam_forward.proofs.CarriedLemmas.{carried_all, filled_in}
use Rattle.roam_forward.proofs.ForwardedLemmas.{with_ticket}
use Rattle.roam_forward.proofs.ShapedLemmas.{attributes-shaped, challenge-shaped, code-shaped, none_added}

-- ---- attributes none of which has a Type

none-past : (kind : ℕ) (a : Attribute) (all : List Attribute) → only_kind kind (a ∷ all) ≡ [] →
    (has_kind kind a ≡ false) × (only_kind kind all ≡ [])
none-past kind a all none =
    elim (cases_Bool (has_kind kind a)) [
      | inl found ↦ absurd (let k : a ∷ only_kind kind all ≡ [] = rw found at none in cc k)
      | inr other ↦ (other, rw other at none)
    ]

all-stay : (kind : ℕ) (all : List Attribute) → only_kind kind all ≡ [] → without_kind kind all ≡ all
all-stay kind [] none = refl
all-stay kind (a ∷ all) none =
    let past = none-past kind a all none in
    rw past.0 (ap (λ (l : List Attribute). a ∷ l) (all-stay kind all past.1))

one-anew : (f : Forwarding) (q : Packet) (a : Attribute) → has_kind USER_PASSWORD a ≡ false →
    with_password_anew f q a ≡ a
one-anew f q a other = rw other refl

none-anew : (f : Forwarding) (q : Packet) (all : List Attribute) → only_kind USER_PASSWORD all ≡ [] →
    map (with_password_anew f q) all ≡ all
none-anew f q [] none = refl
none-anew f q (a ∷ all) none =
    let past = none-past USER_PASSWORD a all none in
    ap₂ (λ (x : Attribute) (l : List Attribute). x ∷ l) (one-anew f q a past.0) (none-anew f q all past.1)

-- ---- an Access-Request

-- the request's own that pass, with passwords hidden anew
abbrev own_anew : Forwarding → Shaping → Packet → List Attribute
own_anew f s q =
    map (with_password_anew f q) (without_kind MESSAGE_AUTHENTICATOR (without s.removed q.attributes))

-- behind them stands what is added
carried-shaped : (f : Forwarding) (s : Shaping) (q : Packet) →
    map (with_password_anew f (shaped s q)) (without_kind MESSAGE_AUTHENTICATOR (shaped s q).attributes)
    ≡ own_anew f s q ++ all_added s q
unfolding shaped
carried-shaped f s q =
    let own : List Attribute = without s.removed q.attributes in
    let added : List Attribute = all_added s q in
    let anew : Attribute → Attribute = with_password_anew f q in
    let apart : without_kind MESSAGE_AUTHENTICATOR (own ++ added) ≡ without_kind MESSAGE_AUTHENTICATOR own ++ added =
    filter-append (λ (a : Attribute). not (has_kind MESSAGE_AUTHENTICATOR a)) own added
    ∙ ap (λ (l : List Attribute). without_kind MESSAGE_AUTHENTICATOR own ++ l)
    (all-stay MESSAGE_AUTHENTICATOR added (none_added MESSAGE_AUTHENTICATOR s q refl refl refl)) in
    ap (map anew) apart
    ∙ map-append anew (without_kind MESSAGE_AUTHENTICATOR own) added
    ∙ ap (λ (l : List Attribute). own_anew f s q ++ l)
    (none-anew f q added (none_added USER_PASSWORD s q refl refl refl))

no-challenge : (s : Shaping) (q : Packet) → q.code ≡ ACCESS_REQUEST → added_challenge (shaped s q) ≡ []
no-challenge s q access = rw (challenge-shaped s q access) refl

challenge-there : (s : Shaping) (q : Packet) → q.code ≡ ACCESS_REQUEST →
    challenge_first (passing s.removed q) ≡ added_challenge (passing s.removed q)
challenge-there s q access = rw (eq-eqb q.code ACCESS_REQUEST access) refl

-- a Message-Authenticator, what passes, and what is added, in this order
order-shaped : (s : Shaping) (q : Packet) (first : Attribute) (own carried last : List Attribute) →
    q.code ≡ ACCESS_REQUEST → carried ≡ own ++ all_added s q →
    (first ∷ carried) ++ added_challenge (shaped s q) ++ last
    ≡ (first ∷ own) ++ added_challenge (passing s.removed q)
    ++ added_for_peer s q.code (without s.removed q.attributes) ++ last
order-shaped s q first own carried last access carried-is =
    let peer : List Attribute = added_for_peer s q.code (without s.removed q.attributes) in
    let challenge : List Attribute = added_challenge (passing s.removed q) in
    ap (λ (l : List Attribute). (first ∷ carried) ++ l ++ last) (no-challenge s q access)
    ∙ ap (λ (l : List Attribute). l ++ last) (append-nil (first ∷ carried))
    ∙ ap (λ (l : List Attribute). (first ∷ l) ++ last) carried-is
    ∙ ap (λ (l : List Attribute). (first ∷ own ++ (l ++ peer)) ++ last) (challenge-there s q access)
    ∙ ap (λ (l : List Attribute). l ++ last) (sym (append_assoc (first ∷ own) challenge peer))

front-all : (xs ys : List Attribute) → AllByRecursion HasPasswordBlocks (xs ++ ys) →
    AllByRecursion HasPasswordBlocks xs
front-all [] ys h = tt
front-all (x ∷ xs) ys h = (h.0, front-all xs ys h.1)

own_blocks : (s : Shaping) (q : Packet) → AllByRecursion HasPasswordBlocks (shaped s q).attributes →
    AllByRecursion HasPasswordBlocks (without_kind MESSAGE_AUTHENTICATOR (without s.removed q.attributes))
own_blocks s q h =
    all_without HasPasswordBlocks (without s.removed q.attributes)
    (front-all (without s.removed q.attributes) (all_added s q)
    (subst (AllByRecursion HasPasswordBlocks) (attributes-shaped s q) h))

pub shaped_access_carries : ShapedAccessCarries
shaped_access_carries f s q can access =
    let shaped_is : (shaped s q).code ≡ ACCESS_REQUEST = code-shaped s q ∙ access in
    let seal : List ℕ = message_authenticator f.to_secret f.authenticator (access_unsealed f (shaped s q)) in
    let first : Attribute = record { kind = MESSAGE_AUTHENTICATOR; value = seal } in
    let own : List Attribute = without_kind MESSAGE_AUTHENTICATOR (without s.removed q.attributes) in
    let all = filled_in f (shaped s q)
    (ap (λ (p : Packet). p.attributes) (forwarded-access f (shaped s q) shaped_is)) in (
      seal,
      own_anew f s q,
      all ∙ order-shaped s q first (own_anew f s q)
          (map (with_password_anew f (shaped s q)) (without_kind MESSAGE_AUTHENTICATOR (shaped s q).attributes))
          (ticket_state f.ticket ∷ []) access (carried-shaped f s q),
      carried_all f q own (own_blocks s q (can.passwords shaped_is)),
    )

-- ---- nothing taken out and nothing added

no-name : (b : Bool) (all : List Attribute) → (if b then added_operator_name None all else []) ≡ []
no-name true all = refl
no-name false all = refl

no-cui : (b : Bool) (all : List Attribute) → (if b then added_cui false all else []) ≡ []
no-cui true all = refl
no-cui false all = refl

nothing-for-peer : (code : ℕ) (all : List Attribute) → added_for_peer no_shaping code all ≡ []
nothing-for-peer code all =
    ap₂ (λ (x y : List Attribute). x ++ y) (no-name (takes_operator_name code) all)
    (no-cui (code == ACCESS_REQUEST) all)

whole : (q : Packet) → passing [] q ≡ q
whole q = ap (λ (l : List Attribute). record q { attributes = l }) (without-none q.attributes)

other-nothing : (q : Packet) → q.code ≢ ACCESS_REQUEST → shaped no_shaping q ≡ q
unfolding shaped
other-nothing q other =
    let no_first : challenge_first (passing [] q) ≡ [] = rw (ne_eqb q.code ACCESS_REQUEST other) refl in
    let none : all_added no_shaping q ≡ [] =
    ap₂ (λ (x y : List Attribute). x ++ y) no_first (nothing-for-peer q.code (without [] q.attributes)) in
    ap (λ (l : List Attribute). record q { attributes = l })
    (ap₂ (λ (x y : List Attribute). x ++ y) (without-none q.attributes) none ∙ append-nil q.attributes)

access-nothing : (f : Forwarding) (q : Packet) → q.code ≡ ACCESS_REQUEST →
    access_attributes f (shaped no_shaping q) ≡ access_attributes f q
access-nothing f q access =
    let own : List Attribute = own_anew f no_shaping q in
    let peer : List Attribute = added_for_peer no_shaping q.code (without [] q.attributes) in
    let challenge : List Attribute = added_challenge (passing [] q) in
    let carried : List Attribute =
    map (with_password_anew f (shaped no_shaping q))
    (without_kind MESSAGE_AUTHENTICATOR (shaped no_shaping q).attributes) in
    ap (λ (l : List Attribute). (empty_message_authenticator ∷ carried) ++ l) (no-challenge no_shaping q access)
    ∙ append-nil (empty_message_authenticator ∷ carried)
    ∙ ap (λ (l : List Attribute). empty_message_authenticator ∷ l) (carried-shaped f no_shaping q)
    ∙ ap₂ (λ (x y : List Attribute). (empty_message_authenticator ∷ own) ++ (x ++ y))
    (challenge-there no_shaping q access)
    (nothing-for-peer q.code (without [] q.attributes))
    ∙ ap (λ (l : List Attribute). (empty_message_authenticator ∷ own) ++ l) (append-nil challenge)
    ∙ ap (λ (p : Packet). (empty_message_authenticator
    ∷ map (with_password_anew f q) (without_kind MESSAGE_AUTHENTICATOR p.attributes)) ++ added_challenge p) (whole q)

pub nothing_shaped : NothingShaped
nothing_shaped f q =
    elim (cases_Bool (q.code == ACCESS_REQUEST)) [
      | inl is ↦ by_access f q (eqb-true q.code ACCESS_REQUEST is)
      | inr is ↦ ap (forwarded f) (other-nothing q (λ access. both_ways _ is (eq-eqb q.code ACCESS_REQUEST access)))
    ]
  where
    by_access : (f : Forwarding) (q : Packet) → q.code ≡ ACCESS_REQUEST →
        forwarded f (shaped no_shaping q) ≡ forwarded f q
    by_access f q access =
        let code : (shaped no_shaping q).code ≡ q.code = code-shaped no_shaping q in
        forwarded-access f (shaped no_shaping q) (code ∙ access)
        ∙ ap₂ (λ (c : ℕ) (l : List Attribute). with_message_authenticator f.to_secret f.authenticator (record {
          code = c;
          id = f.id;
          authenticator = f.authenticator;
          attributes = with_ticket f l;
        })) code (access-nothing f q access)
        ∙ sym (forwarded-access f q access)
