-- The neighbours of a number in the group of one facet, beside those in the groups of the others.
use Rattle.std.proofs.Common.{◌≡◌, ◌≢◌, ℕ, false, true, Option, Some, None, refl, sym, ap, ◌∙◌, inl, inr, arith}
use Rattle.std.specs.Prelude.{option_map, ◌==◌}
use Rattle.std.proofs.lemmas.Bool.{cases_Bool, cases_eq}
use Rattle.std.proofs.lemmas.Bool.Decides.{nat_tests}
use Rattle.roam_wire.specs.Numbered.{PutsAt}
use Rattle.roam_sessions.specs.Private.Groups.{is_at, with_newer_at, with_older_at}
use Rattle.roam_sessions.specs.Private.Links.{beside_of, is_facet, link_of, no_beside, no_links, no_number, shown_link, with_link, written}
use Rattle.roam_sessions.specs.declared.links.Facet.{Facet}
use Rattle.roam_sessions.specs.declared.links.Facet.TheVariants as facet
use Rattle.roam_sessions.specs.declared.links.Link.{Link}
use Rattle.roam_sessions.specs.declared.links.Links.{Links}
use Rattle.roam_sessions.specs.declared.neighbours.Beside.{Beside}
use Rattle.roam_sessions.proofs.GivenLemmas.{at-itself, newer-not-at, older-not-at}

-- what is written is read, and nothing is read where no number is written
pub written-some : (n : ℕ) → n ≢ no_number → written n ≡ Some n
written-some n ne = elim (cases_Bool (n == no_number)) [
  | inl same ↦ absurd (let e : n ≡ no_number = grind (arith, nat_tests) in ne e)
  | inr differs ↦ rw differs refl
]

pub written-none : written 18446744073709551615 ≡ None
unfolding no_number
written-none = refl

pub written-isnt : (n : ℕ) → written n ≢ Some no_number
written-isnt n is = elim (cases_Bool (n == no_number)) [
  | inl same ↦ absurd (let k : None ≡ Some no_number = rw same at is in cc k)
  | inr differs ↦ absurd (
      let both : Some n ≡ Some no_number = rw differs at is in
      let one : n ≡ no_number = cc both in
      let same : (n == no_number) ≡ true = grind (arith, nat_tests) in
      cc (same, differs))
]

pub beside-fits : (o : Option Links) (facet : Facet) (b : Beside) → option_map (beside_of facet) o ≡ Some b
    → (b.older ≢ Some no_number) × (b.newer ≢ Some no_number)
beside-fits None facet b is = absurd (cc is)
beside-fits (Some l) facet b is =
    let same : beside_of facet l ≡ b = cc is in (
      λ e. written-isnt (link_of facet l).older (ap (λ (x : Beside). x.older) same ∙ e),
      λ e. written-isnt (link_of facet l).newer (ap (λ (x : Beside). x.newer) same ∙ e),
    )

-- the group of one facet, and those of the others
pub link-same : (facet : Facet) (x : Link) (l : Links) → link_of facet (with_link facet x l) ≡ x
link-same facet.Peer x l = refl
link-same facet.Address x l = refl
link-same facet.Identifier x l = refl
link-same facet.Both x l = refl
link-same facet.Id x l = refl
link-same facet.Whole x l = refl

pub link-other : (other facet : Facet) → is_facet other facet ≡ false → (x : Link) (l : Links)
    → link_of other (with_link facet x l) ≡ link_of other l
link-other facet.Peer facet.Peer h x l = absurd (cc h)
link-other facet.Peer facet.Address h x l = refl
link-other facet.Peer facet.Identifier h x l = refl
link-other facet.Peer facet.Both h x l = refl
link-other facet.Peer facet.Id h x l = refl
link-other facet.Peer facet.Whole h x l = refl
link-other facet.Address facet.Peer h x l = refl
link-other facet.Address facet.Address h x l = absurd (cc h)
link-other facet.Address facet.Identifier h x l = refl
link-other facet.Address facet.Both h x l = refl
link-other facet.Address facet.Id h x l = refl
link-other facet.Address facet.Whole h x l = refl
link-other facet.Identifier facet.Peer h x l = refl
link-other facet.Identifier facet.Address h x l = refl
link-other facet.Identifier facet.Identifier h x l = absurd (cc h)
link-other facet.Identifier facet.Both h x l = refl
link-other facet.Identifier facet.Id h x l = refl
link-other facet.Identifier facet.Whole h x l = refl
link-other facet.Both facet.Peer h x l = refl
link-other facet.Both facet.Address h x l = refl
link-other facet.Both facet.Identifier h x l = refl
link-other facet.Both facet.Both h x l = absurd (cc h)
link-other facet.Both facet.Id h x l = refl
link-other facet.Both facet.Whole h x l = refl
link-other facet.Id facet.Peer h x l = refl
link-other facet.Id facet.Address h x l = refl
link-other facet.Id facet.Identifier h x l = refl
link-other facet.Id facet.Both h x l = refl
link-other facet.Id facet.Id h x l = absurd (cc h)
link-other facet.Id facet.Whole h x l = refl
link-other facet.Whole facet.Peer h x l = refl
link-other facet.Whole facet.Address h x l = refl
link-other facet.Whole facet.Identifier h x l = refl
link-other facet.Whole facet.Both h x l = refl
link-other facet.Whole facet.Id h x l = refl
link-other facet.Whole facet.Whole h x l = absurd (cc h)

pub no-beside : (facet : Facet) → option_map (beside_of facet) (Some no_links) ≡ Some no_beside
unfolding no_number
no-beside facet.Peer = refl
no-beside facet.Address = refl
no-beside facet.Identifier = refl
no-beside facet.Both = refl
no-beside facet.Id = refl
no-beside facet.Whole = refl

-- a number that isn't the one that is given keeps its neighbours
pub at-other : (n u : ℕ) → u ≢ n → is_at (Some n) u ≡ false
at-other n u ne = elim (cases_Bool (n == u)) [
  | inl same ↦ absurd (let e : n ≡ u = grind (arith, nat_tests) in ne (sym e))
  | inr differs ↦ differs
]

pub kept-newer : (at newer : Option ℕ) (u : ℕ) (o : Option Beside) → is_at at u ≡ false
    → option_map (with_newer_at at newer u) o ≡ o
kept-newer at newer u None isnt = refl
kept-newer at newer u (Some b) isnt = ap (λ (x : Beside). Some x) (newer-not-at at newer u b isnt)

pub kept-older : (at older : Option ℕ) (u : ℕ) (o : Option Beside) → is_at at u ≡ false
    → option_map (with_older_at at older u) o ≡ o
kept-older at older u None isnt = refl
kept-older at older u (Some b) isnt = ap (λ (x : Beside). Some x) (older-not-at at older u b isnt)

-- and the one that is given has it
abbrev pub pair : Option ℕ → Option ℕ → Beside
pair older newer = record { older = older; newer = newer }

pub newer-here : (at newer : Option ℕ) (u : ℕ) (b : Beside) → is_at at u ≡ true
    → with_newer_at at newer u b ≡ pair b.older newer
newer-here at newer u b is = rw is refl

pub older-here : (at older : Option ℕ) (u : ℕ) (b : Beside) → is_at at u ≡ true
    → with_older_at at older u b ≡ pair older b.newer
older-here at older u b is = rw is refl

module _ (m : ℕ → Option Links) (facet : Facet) (number : ℕ) where
  -- where a number has no neighbours, none are written
  pub absent-newer : (newer : Option ℕ) → m number ≡ None → (u : ℕ) → option_map (beside_of facet) (m u)
      ≡ option_map (with_newer_at (Some number) newer u) (option_map (beside_of facet) (m u))
  absent-newer newer none u = elim (cases_eq u number) [
    | inl is ↦ (let gone : m u ≡ None = ap m is ∙ none in rw gone refl)
    | inr ne ↦ sym (kept-newer (Some number) newer u (option_map (beside_of facet) (m u)) (at-other number u ne))
  ]

  pub absent-older : (older : Option ℕ) → m number ≡ None → (u : ℕ) → option_map (beside_of facet) (m u)
      ≡ option_map (with_older_at (Some number) older u) (option_map (beside_of facet) (m u))
  absent-older older none u = elim (cases_eq u number) [
    | inl is ↦ (let gone : m u ≡ None = ap m is ∙ none in rw gone refl)
    | inr ne ↦ sym (kept-older (Some number) older u (option_map (beside_of facet) (m u)) (at-other number u ne))
  ]

  module _ (n : ℕ → Option Links) (l : Links) (there : m number ≡ Some l) where
    -- others are written
    pub relinked-newer : (word : ℕ) (newer : Option ℕ) → written word ≡ newer
        → PutsAt m n number (Some (with_link facet (record { older = (link_of facet l).older; newer = word }) l))
        → (u : ℕ) → option_map (beside_of facet) (n u)
        ≡ option_map (with_newer_at (Some number) newer u) (option_map (beside_of facet) (m u))
    relinked-newer word newer word-is puts u = elim (cases_eq u number) [
      | inl is ↦ (
          let now : n u ≡ Some (with_link facet (record { older = (link_of facet l).older; newer = word }) l) = ap n is ∙ puts.changed in
          let was : m u ≡ Some l = ap m is ∙ there in
          let one : is_at (Some number) u ≡ true = ap (is_at (Some number)) is ∙ at-itself number in
          let left = ap (option_map (beside_of facet)) now in
          let right = ap (λ (o : Option Links).
          option_map (with_newer_at (Some number) newer u) (option_map (beside_of facet) o)) was in
          let written-now : beside_of facet (with_link facet (record { older = (link_of facet l).older; newer = word }) l) ≡ pair (written (link_of facet l).older) newer =
          ap shown_link (link-same facet (record { older = (link_of facet l).older; newer = word }) l) ∙ ap (λ (o : Option ℕ). pair (written (link_of facet l).older) o) word-is in
          left ∙ ap (λ (b : Beside). Some b)
          (written-now ∙ sym (newer-here (Some number) newer u (beside_of facet l) one)) ∙ sym right)
      | inr ne ↦ ap (option_map (beside_of facet)) (puts.others u ne)
          ∙ sym (kept-newer (Some number) newer u (option_map (beside_of facet) (m u)) (at-other number u ne))
    ]

    pub relinked-older : (word : ℕ) (older : Option ℕ) → written word ≡ older
        → PutsAt m n number (Some (with_link facet (record { older = word; newer = (link_of facet l).newer }) l))
        → (u : ℕ) → option_map (beside_of facet) (n u)
        ≡ option_map (with_older_at (Some number) older u) (option_map (beside_of facet) (m u))
    relinked-older word older word-is puts u = elim (cases_eq u number) [
      | inl is ↦ (
          let now : n u ≡ Some (with_link facet (record { older = word; newer = (link_of facet l).newer }) l) = ap n is ∙ puts.changed in
          let was : m u ≡ Some l = ap m is ∙ there in
          let one : is_at (Some number) u ≡ true = ap (is_at (Some number)) is ∙ at-itself number in
          let left = ap (option_map (beside_of facet)) now in
          let right = ap (λ (o : Option Links).
          option_map (with_older_at (Some number) older u) (option_map (beside_of facet) o)) was in
          let written-now : beside_of facet (with_link facet (record { older = word; newer = (link_of facet l).newer }) l) ≡ pair older (written (link_of facet l).newer) =
          ap shown_link (link-same facet (record { older = word; newer = (link_of facet l).newer }) l) ∙ ap (λ (o : Option ℕ). pair o (written (link_of facet l).newer)) word-is in
          left ∙ ap (λ (b : Beside). Some b)
          (written-now ∙ sym (older-here (Some number) older u (beside_of facet l) one)) ∙ sym right)
      | inr ne ↦ ap (option_map (beside_of facet)) (puts.others u ne)
          ∙ sym (kept-older (Some number) older u (option_map (beside_of facet) (m u)) (at-other number u ne))
    ]

    pub relinked-others : (x : Link) → PutsAt m n number (Some (with_link facet x l)) → (other : Facet)
        → is_facet other facet ≡ false → (u : ℕ)
        → option_map (beside_of other) (n u) ≡ option_map (beside_of other) (m u)
    relinked-others x puts other apart u = elim (cases_eq u number) [
      | inl is ↦ (
          let now : n u ≡ Some (with_link facet x l) = ap n is ∙ puts.changed in
          let was : m u ≡ Some l = ap m is ∙ there in
          ap (option_map (beside_of other)) now
          ∙ ap (λ (k : Link). Some (shown_link k)) (link-other other facet apart x l)
          ∙ sym (ap (option_map (beside_of other)) was))
      | inr ne ↦ ap (option_map (beside_of other)) (puts.others u ne)
    ]
