-- Texts hidden block by block.
use Rattle.std.proofs.Common.{◌≡◌, ℕ, zero, suc, ◌+◌, ◌*◌, ◌/◌, ◌%◌, ◌<◌, ◌≤◌, List, [], ◌∷◌, ◌++◌, length, take, drop, get_or, refl, sym, ap, ap₂, ◌∙◌, subst, inl, inr, arith, append_assoc, length-append, length-drop}
use Rattle.std.specs.Prelude.{bit_xor}
use Rattle.std.specs.Int.Bits.{xor_assoc, xor_self, xor_zero_r}
use Rattle.std.proofs.lemmas.Bool.{cases_lt}
use Rattle.std.proofs.lemmas.Grind.{same_number_lists}
use Rattle.std.proofs.lemmas.List.{take-append-drop, take_at, drop_at, take_all, length-take-le, drop-append-le, take-append-le, drop-drop}
use Rattle.std.proofs.lemmas.Simd.{length-zip2, get_or-chunk}
use Rattle.md5.specs.Md5.{md5}
use Rattle.md5.proofs.StandardFacts.{length-md5}
use Rattle.roam_crypto.specs.Hiding.{Key, block, read_before, cover, xor_octets, IsHidden, IsHiddenAnew, blocks_to, hidden_text, plain_text, hidden_anew, Opens}

-- ---- the exclusive or

-- taken twice, it is as if it had not been taken
pub xor_twice : (a b : List ℕ) → length a ≡ length b → xor_octets (xor_octets a b) b ≡ a
xor_twice [] b h = refl
xor_twice (x ∷ xs) [] h = absurd (omega arith)
xor_twice (x ∷ xs) (y ∷ ys) h =
    let same : length xs ≡ length ys = omega arith in
    let octet : bit_xor (bit_xor x y) y ≡ x =
    xor_assoc x y y ∙ ap (bit_xor x) (xor_self y) ∙ xor_zero_r x in
    ap₂ (λ (z : ℕ) (zs : List ℕ). z ∷ zs) octet (xor_twice xs ys same)

-- ---- blocks

pub length-block : (k : ℕ) (v : List ℕ) → 16 * k + 16 ≤ length v → length (block k v) ≡ 16
length-block k v h = length-take-le 16 (drop (16 * k) v) (omega (arith, length-drop (16 * k) v))

-- a block that lies in the first part
pub block_left : (k : ℕ) (a b : List ℕ) → 16 * k + 16 ≤ length a → block k (a ++ b) ≡ block k a
block_left k a b h =
    let start : 16 * k ≤ length a = omega arith in
    let size : 16 ≤ length (drop (16 * k) a) = omega (arith, length-drop (16 * k) a) in
    rw (drop-append-le (16 * k) a b start) (take-append-le 16 (drop (16 * k) a) b size)

-- a block of the front
pub block_of_take : (k n : ℕ) (v : List ℕ) → 16 * k + 16 ≤ n → n ≤ length v
    → block k (take n v) ≡ block k v
block_of_take k n v inside long =
    let size : length (take n v) ≡ n = length-take-le n v long in
    sym (block_left k (take n v) (drop n v) (omega arith)) ∙ ap (block k) (take-append-drop n v)

-- the block right behind the first part
pub block_between : (k : ℕ) (a b c : List ℕ) → length a ≡ 16 * k → length b ≡ 16
    → block k (a ++ (b ++ c)) ≡ b
block_between k a b c start size =
    rw (drop_at a (b ++ c) (16 * k) start) (take_at b c 16 size)

pub block_last : (k : ℕ) (a b : List ℕ) → length a ≡ 16 * k → length b ≡ 16 → block k (a ++ b) ≡ b
block_last k a b start size =
    rw (drop_at a b (16 * k) start) (take_all 16 b (omega arith))

-- texts of equal size and equal blocks are one
pub same_blocks : (a b : List ℕ) → length a ≡ length b → length a % 16 ≡ 0
    → ((k : ℕ) → 16 * k < length a → block k a ≡ block k b) → a ≡ b
same_blocks a b size whole each =
    same_number_lists a b size (λ i within.
    let at : 16 * (i / 16) + i % 16 ≡ i = omega arith in
    let below : 16 * (i / 16) < length a = omega arith in
    let small : i % 16 < 16 = omega arith in
    let left : get_or (block (i / 16) a) (i % 16) 0 ≡ get_or a (16 * (i / 16) + i % 16) 0 =
    get_or-chunk (16 * (i / 16)) 16 a (i % 16) 0 small in
    let right : get_or (block (i / 16) b) (i % 16) 0 ≡ get_or b (16 * (i / 16) + i % 16) 0 =
    get_or-chunk (16 * (i / 16)) 16 b (i % 16) 0 small in
    let same : get_or (block (i / 16) a) (i % 16) 0 ≡ get_or (block (i / 16) b) (i % 16) 0 =
    ap (λ (t : List ℕ). get_or t (i % 16) 0) (each (i / 16) below) in
    rw (← at) (sym left ∙ same ∙ right))

-- ---- blocks made one after the other

-- each block that is made has 16 octets
abbrev pub MakesBlocks : (ℕ → List ℕ → List ℕ) → ℕ → Type 0
MakesBlocks make n = (k : ℕ) (done : List ℕ) → k < n → length (make k done) ≡ 16

fewer : (make : ℕ → List ℕ → List ℕ) (n : ℕ) → MakesBlocks make (suc n) → MakesBlocks make n
fewer make n h = λ k done below. h k done (omega arith)

pub length-blocks_to : (make : ℕ → List ℕ → List ℕ) (n : ℕ) → MakesBlocks make n
    → length (blocks_to make n) ≡ 16 * n
unfolding blocks_to
length-blocks_to make zero h = refl
length-blocks_to make (suc n) h =
    let done = blocks_to make n in
    omega (
      arith,
      length-append done (make n done),
      length-blocks_to make n (fewer make n h),
      h n
          done (omega arith),
    )

-- block j of them is the one that was made from those before it
pub block-blocks_to : (make : ℕ → List ℕ → List ℕ) (n j : ℕ) → MakesBlocks make n → j < n
    → block j (blocks_to make n) ≡ make j (blocks_to make j)
unfolding blocks_to
block-blocks_to make zero j h below = absurd (omega arith)
block-blocks_to make (suc n) j h below =
    let done = blocks_to make n in
    let size : length done ≡ 16 * n = length-blocks_to make n (fewer make n h) in
    elim (cases_lt j n) [
      | inl lt ↦
          let inside : 16 * j + 16 ≤ length done = omega arith in
          block_left j done (make n done) inside ∙ block-blocks_to make n j (fewer make n h) lt
      | inr le ↦
          let is : n ≡ j = omega arith in
          subst (λ (m : ℕ). block m (done ++ make n done) ≡ make m (blocks_to make m)) is
          (block_last n done (make n done) size (h n done (omega arith)))
    ]

-- ---- what covers a block

pub length-cover : (key : Key) (hidden : List ℕ) (k : ℕ) → length (cover key hidden k) ≡ 16
length-cover key hidden k = length-md5 (key.secret ++ read_before key hidden k)

-- it reads no hidden block but the one before
pub cover_alike : (key : Key) (a b : List ℕ) (k : ℕ) → ((i : ℕ) → suc i ≡ k → block i a ≡ block i b)
    → cover key a k ≡ cover key b k
cover_alike key a b zero h = refl
cover_alike key a b (suc i) h = ap (λ (t : List ℕ). md5 (key.secret ++ t)) (h i refl)

pub length-covered : (key : Key) (done text : List ℕ) (k : ℕ) → 16 * k + 16 ≤ length text
    → length (xor_octets (block k text) (cover key done k)) ≡ 16
length-covered key done text k inside =
    let a = length-block k text inside in
    length-zip2 bit_xor (block k text) (cover key done k) (a ∙ sym (length-cover key done k)) ∙ a

-- ---- the hidden text of a plain text

abbrev hide : Key → List ℕ → ℕ → List ℕ → List ℕ
hide key plain = λ k done. xor_octets (block k plain) (cover key done k)

pub hide_makes : (key : Key) (plain : List ℕ) (n : ℕ) → 16 * n ≤ length plain
    → MakesBlocks (hide key plain) n
hide_makes key plain n inside = λ k done below. length-covered key done plain k (omega arith)

-- the cover of block k is the same, however many blocks come after
pub cover_settled : (key : Key) (make : ℕ → List ℕ → List ℕ) (n k : ℕ) → MakesBlocks make n → k < n
    → cover key (blocks_to make k) k ≡ cover key (blocks_to make n) k
cover_settled key make n k h below =
    cover_alike key (blocks_to make k) (blocks_to make n) k (λ i is.
    block-blocks_to make k i (λ j done lt. h j done (omega arith)) (omega arith)
    ∙ sym (block-blocks_to make n i h (omega arith)))

pub hidden_text_hides : (key : Key) (plain : List ℕ) → length plain % 16 ≡ 0
    → IsHidden key plain (hidden_text key plain)
hidden_text_hides key plain whole =
    let n = length plain / 16 in
    let size : 16 * n ≡ length plain = omega arith in
    let makes = hide_makes key plain n (omega arith) in
    record {
      whole_blocks = whole;
      same_size = length-blocks_to (hide key plain) n makes ∙ size;
      each_block = λ k below.
          let before : k < n = omega arith in
          block-blocks_to (hide key plain) n k makes before
          ∙ ap (xor_octets (block k plain)) (cover_settled key (hide key plain) n k makes before);
    }

-- ---- the plain text of a hidden text

abbrev reveal : Key → List ℕ → ℕ → List ℕ → List ℕ
reveal key hidden = λ k _. xor_octets (block k hidden) (cover key hidden k)

pub reveal_makes : (key : Key) (hidden : List ℕ) (n : ℕ) → 16 * n ≤ length hidden
    → MakesBlocks (reveal key hidden) n
reveal_makes key hidden n inside = λ k done below. length-covered key hidden hidden k (omega arith)

pub length-plain_text : (key : Key) (hidden : List ℕ) → length hidden % 16 ≡ 0
    → length (plain_text key hidden) ≡ length hidden
length-plain_text key hidden whole =
    let n = length hidden / 16 in
    length-blocks_to (reveal key hidden) n (reveal_makes key hidden n (omega arith)) ∙ omega arith

pub block-plain_text : (key : Key) (hidden : List ℕ) (k : ℕ) → 16 * k + 16 ≤ length hidden
    → block k (plain_text key hidden) ≡ xor_octets (block k hidden) (cover key hidden k)
block-plain_text key hidden k inside =
    let n = length hidden / 16 in
    block-blocks_to (reveal key hidden) n k (reveal_makes key hidden n (omega arith)) (omega arith)

pub plain_text_hidden : (key : Key) (hidden : List ℕ) → length hidden % 16 ≡ 0
    → IsHidden key (plain_text key hidden) hidden
plain_text_hidden key hidden whole =
    let size = length-plain_text key hidden whole in
    record {
      whole_blocks = ap (λ (m : ℕ). m % 16) size ∙ whole;
      same_size = sym size;
      each_block = λ k below.
          let inside : 16 * k + 16 ≤ length hidden = omega arith in
          let same : length (block k hidden) ≡ length (cover key hidden k) =
          length-block k hidden inside ∙ sym (length-cover key hidden k) in
          rw (block-plain_text key hidden k inside)
          (sym (xor_twice (block k hidden) (cover key hidden k) same));
    }

-- ---- there is just one

pub same_hidden : (key : Key) (plain a b : List ℕ) → IsHidden key plain a → IsHidden key plain b
    → a ≡ b
same_hidden key plain a b p q =
    let each : (k : ℕ) → 16 * k < length plain → block k a ≡ block k b =
    each_block_same key plain a b p q in
    same_blocks a b (p.same_size ∙ sym q.same_size)
    (ap (λ (m : ℕ). m % 16) p.same_size ∙ p.whole_blocks)
    (λ k below. each k (omega (arith, p.same_size)))
  where
    each_block_same : (key : Key) (plain a b : List ℕ) → IsHidden key plain a → IsHidden key plain
        b → (k : ℕ) → 16 * k < length plain → block k a ≡ block k b
    each_block_same key plain a b p q zero below = p.each_block 0 below ∙ sym (q.each_block 0 below)
    each_block_same key plain a b p q (suc k) below =
        let before : block k a ≡ block k b = each_block_same key plain a b p q k (omega arith) in
        p.each_block (suc k) below
        ∙ ap (λ (t : List ℕ). xor_octets (block (suc k) plain) (md5 (key.secret ++ t))) before
        ∙ sym (q.each_block (suc k) below)

pub same_plain : (key : Key) (a b hidden : List ℕ) → IsHidden key a hidden → IsHidden key b hidden
    → a ≡ b
same_plain key a b hidden p q =
    same_blocks a b (sym p.same_size ∙ q.same_size) p.whole_blocks (λ k below.
    let in_a : 16 * k + 16 ≤ length a = omega (arith, p.whole_blocks) in
    let in_b : 16 * k + 16 ≤ length b = omega (arith, p.whole_blocks, p.same_size, q.same_size) in
    let c = cover key hidden k in
    let a_twice : xor_octets (xor_octets (block k a) c) c ≡ block k a =
    xor_twice (block k a) c (length-block k a in_a ∙ sym (length-cover key hidden k)) in
    let b_twice : xor_octets (xor_octets (block k b) c) c ≡ block k b =
    xor_twice (block k b) c (length-block k b in_b ∙ sym (length-cover key hidden k)) in
    let both : xor_octets (block k a) c ≡ xor_octets (block k b) c =
    sym (p.each_block k below) ∙ q.each_block k (omega arith) in
    sym a_twice ∙ ap (λ (t : List ℕ). xor_octets t c) both ∙ b_twice)

-- ---- hidden anew

pub hidden_anew_hides : (from to : Key) (old : List ℕ) → length old % 16 ≡ 0
    → IsHiddenAnew from to old (hidden_anew from to old)
hidden_anew_hides from to old whole =
    let plain = plain_text from old in
    let behind = plain_text_hidden from old whole in
    (plain, behind, hidden_text_hides to plain behind.whole_blocks)

pub same_anew : (from to : Key) (old a b : List ℕ) → IsHiddenAnew from to old a
    → IsHiddenAnew from to old b → a ≡ b
same_anew from to old a b p q =
    let plains : p.0 ≡ q.0 = same_plain from p.0 q.0 old p.1 q.1 in
    same_hidden to q.0 a b (subst (λ (t : List ℕ). IsHidden to t a) plains p.2) q.2

-- hidden anew with the same key it is as it was
pub same_key : (key : Key) (old new : List ℕ) → IsHiddenAnew key key old new → new ≡ old
same_key key old new p = same_hidden key p.0 new old p.2 p.1

-- hidden anew and back
pub first_key_back : (from to : Key) (old new back : List ℕ) → IsHiddenAnew from to old new
    → IsHiddenAnew to from new back → back ≡ old
first_key_back from to old new back p q =
    let plains : p.0 ≡ q.0 = same_plain to p.0 q.0 new p.2 q.1 in
    same_hidden from q.0 back old q.2 (subst (λ (t : List ℕ). IsHidden from t old) plains p.1)

-- ---- one block after the other, in place

-- what covers block k, where a digest covers the first
abbrev pub cover_from : List ℕ → List ℕ → List ℕ → ℕ → List ℕ
cover_from secret digest hidden zero = digest
cover_from secret digest hidden (suc k) = md5 (secret ++ block k hidden)

pub cover_from_key : (key : Key) (secret digest hidden : List ℕ) (k : ℕ) → Opens key secret digest
    → cover_from secret digest hidden k ≡ cover key hidden k
cover_from_key key secret digest hidden zero h = h.digest_is
cover_from_key key secret digest hidden (suc k) h = ap (λ (t : List ℕ). md5 (t ++ block k hidden))
    (sym h.secret_is)

cover_from_alike : (secret digest a b : List ℕ) (k : ℕ)
    → ((i : ℕ) → suc i ≡ k → block i a ≡ block i b)
    → cover_from secret digest a k ≡ cover_from secret digest b k
cover_from_alike secret digest a b zero h = refl
cover_from_alike secret digest a b (suc i) h = ap (λ (t : List ℕ). md5 (secret ++ t)) (h i refl)

-- The first k blocks of `now` are hidden anew, the others are still those of `old`, and `was` is
-- what block k - 1 was before.
pub record IsUnderway (from off to on old now was : List ℕ) (k : ℕ) : Type 0 where
  pub size : length now ≡ length old
  pub others : drop (16 * k) now ≡ drop (16 * k) old
  pub blocks : (j : ℕ) → j < k → block j now ≡ xor_octets
      (xor_octets (block j old) (cover_from from off old j)) (cover_from to on now j)
  pub before : (i : ℕ) → suc i ≡ k → was ≡ block i old

pub underway_start : (from off to on old before : List ℕ)
    → IsUnderway from off to on old old before 0
underway_start from off to on old before = record {
  size = refl;
  others = refl;
  blocks = λ j below. absurd (omega arith);
  before = λ i is. absurd (omega arith);
}

-- block k, hidden anew
abbrev anew_at : List ℕ → List ℕ → List ℕ → ℕ → List ℕ
anew_at now a b k = take (16 * k) now
    ++ (xor_octets (xor_octets (block k now) a) b ++ drop (16 * k + 16) now)

pub underway_step : (from off to on old now before a b : List ℕ) (k m : ℕ) → m ≡ k + 1
    → IsUnderway from off to on old now before k → 16 * k + 16 ≤ length old
    → a ≡ cover_from from off old k → b ≡ cover_from to on now k → length a ≡ 16 → length b ≡ 16
    → IsUnderway from off to on old (anew_at now a b k) (block k now) m
underway_step from off to on old now before a b k m next h inside a_is b_is a_size b_size =
    let next_now = anew_at now a b k in
    let fresh = xor_octets (xor_octets (block k now) a) b in
    let room : 16 * k + 16 ≤ length now = omega (arith, h.size) in
    let front : length (take (16 * k) now) ≡ 16 * k = length-take-le (16 * k) now (omega arith) in
    let middle : length (xor_octets (block k now) a) ≡ 16 =
    length-zip2 bit_xor (block k now) a (length-block k now room ∙ sym a_size)
    ∙ length-block k now room in
    let fresh_size : length fresh ≡ 16 =
    length-zip2 bit_xor (xor_octets (block k now) a) b (middle ∙ sym b_size)
    ∙ middle in
    let rest_size = length-drop (16 * k + 16) now in
    let is_next : suc k ≡ m = omega arith in
    let earlier : (j : ℕ) → j < k → block j next_now ≡ block j now = λ j below.
    let fits : 16 * j + 16 ≤ length (take (16 * k) now) = omega arith in
    let fits_all : 16 * j + 16 ≤ 16 * k = omega arith in
    block_left j (take (16 * k) now) (fresh ++ drop (16 * k + 16) now) fits
    ∙ block_of_take j (16 * k) now fits_all (omega arith) in
    let here : block k now ≡ block k old = ap (take 16) h.others in
    let long : length (take (16 * k) now ++ fresh) ≡ 16 * k + 16 =
    omega (arith, length-append (take (16 * k) now) fresh) in
    let tail : drop (16 * k + 16) next_now ≡ drop (16 * k + 16) now =
    ap (drop (16 * k + 16)) (sym (append_assoc (take (16 * k) now) fresh (drop (16 * k + 16) now)))
    ∙ drop_at (take (16 * k) now ++ fresh) (drop (16 * k + 16) now) (16 * k + 16) long in
    let tail_old : drop (16 * k + 16) now ≡ drop (16 * k + 16) old =
    sym (drop-drop 16 (16 * k) now) ∙ ap (drop 16) h.others ∙ drop-drop 16 (16 * k) old in
    let settled : (j : ℕ) → j ≤ k → cover_from to on now j ≡ cover_from to on next_now j = λ j le.
    cover_from_alike to on now next_now j (λ i is. sym (earlier i (omega arith))) in
    let made : block k next_now ≡ xor_octets (xor_octets (block k old) (cover_from from off old k))
    (cover_from to on next_now k) =
    block_between k (take (16 * k) now) fresh (drop (16 * k + 16) now) front fresh_size
    ∙ ap₂ (λ (t u : List ℕ). xor_octets (xor_octets t u) b) here a_is
    ∙ ap (xor_octets (xor_octets (block k old) (cover_from from off old k)))
    (b_is ∙ settled k (omega arith)) in
    record {
      size = omega (
        arith,
        length-append (take (16 * k) now) (fresh ++ drop (16 * k + 16) now),
        length-append fresh (drop (16 * k + 16) now),
        h.size,
      );
      others = subst (λ (n : ℕ). drop n next_now ≡ drop n old) (omega arith) (tail ∙ tail_old);
      blocks = λ j below.
          elim (cases_lt j k) [
            | inl lt ↦
                earlier j lt ∙ h.blocks j lt
                ∙ ap (xor_octets (xor_octets (block j old) (cover_from from off old j)))
                (settled j (omega arith))
            | inr le ↦
                let is : k ≡ j = omega arith in
                subst (λ (i : ℕ). block i next_now ≡ xor_octets
                (xor_octets (block i old) (cover_from from off old i))
                (cover_from to on next_now i)) is made
          ];
      before = λ i is. let same : k ≡ i = omega arith in subst
          (λ (j : ℕ). block k now ≡ block j old) same here;
    }

-- all blocks are done
pub underway_done : (from off to on old now before : List ℕ) (k : ℕ) (a b : Key)
    → length old ≡ 16 * k
    → IsUnderway from off to on old now before k → Opens a from off → Opens b to on → IsHiddenAnew
    a b old now
underway_done from off to on old now before k a b all h opens_a opens_b =
    let whole : length old % 16 ≡ 0 = omega arith in
    let plain = plain_text a old in
    let behind = plain_text_hidden a old whole in
    let size : length plain ≡ length old = sym behind.same_size in
    let hides : IsHidden b plain now = record {
      whole_blocks = behind.whole_blocks;
      same_size = h.size ∙ behind.same_size;
      each_block = λ j below.
          let in_old : 16 * j + 16 ≤ length old = omega arith in
          h.blocks j (omega arith)
          ∙ ap₂ (λ (t u : List ℕ). xor_octets (xor_octets (block j old) t) u)
          (cover_from_key a from off old j opens_a) (cover_from_key b to on now j opens_b)
          ∙ ap (λ (t : List ℕ). xor_octets t (cover b now j))
          (sym (block-plain_text a old j in_old));
    } in
    (plain, behind, hides)
