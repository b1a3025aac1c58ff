-- How a state and a buffer follow a message as it grows, over what the toolchain's crate `md5` proves of its own.
use Rattle.std.proofs.Common.{◌≡◌, ℕ, suc, ◌+◌, ◌-◌, ◌*◌, ◌/◌, ◌%◌, ◌^◌, ◌<◌, ◌≤◌, List, [], ◌∷◌, ◌++◌, length, take, drop, replicate, set, refl, sym, ap, subst, ◌∙◌, arith}
use Rattle.std.proofs.lemmas.List.{length-append, length-drop, length-replicate, length-take-le, append-nil, append_assoc, take-append-drop, take_at, drop_at, drop_all, drop-drop, take_rest, drop-replicate, replicate-append-replicate, set_split}
use Rattle.std.proofs.lemmas.Slice.{take-put_mid, drop-put_mid}
use Rattle.std.specs.Int.{w64, to_le_bytes}
use Rattle.md5.specs.Md5.{IsAbsorbed, compress, digest_bytes, hash_after, md5, padded_message}
use Rattle.md5.proofs.Absorbing.{IsAbsorbed_short, IsAbsorbed_fill, IsAbsorbed_block, IsAbsorbed_none}
use Rattle.roam_crypto.specs.Hasher.{HasTaken}
use borrow.Rule.Slice.PartMut.{put_mid, post_of}

-- at a block's edge the buffer is zeros
pub zeros_at_edge : (h b m : List ℕ) → HasTaken h b m → length m % 64 ≡ 0 → b ≡ replicate {A = ℕ} 64 0
zeros_at_edge h b m t edge = rw edge at t.zeros

-- at a block's edge a state with zeros has taken in what the state has
pub taken_at_edge : (h b m : List ℕ) → IsAbsorbed h b m → length m % 64 ≡ 0 → b ≡ replicate {A = ℕ} 64 0 →
    HasTaken h b m
taken_at_edge h b m a edge e = record { absorbed = a; zeros = rw edge e }

-- octets that leave the block short of its end
pub put_taken : (h b c m d ys : List ℕ) (k j : ℕ) → HasTaken h b m → length b ≡ 64 → length m % 64 ≡ k →
    k + length d < 64
    → j ≡ length d → ys ≡ d → c ≡ put_mid k j b ys → HasTaken h c (m ++ d)
put_taken h b c m d ys k j t size used short ej ey eb =
    let ec : c ≡ put_mid k j b d = rw ey at eb in
    let len : length (m ++ d) % 64 ≡ k + length d = omega (arith, length-append m d) in
    let front : take (k + length d) c ≡ take k b ++ d =
    rw ec (take-put_mid k j b d (k + length d) refl (omega arith)) in
    let behind : drop (k + length d) c ≡ drop (k + length d) b =
    rw ec (drop-put_mid k j b d (k + length d) (omega arith) (omega arith) (sym ej)) in
    let left : drop k b ≡ replicate {A = ℕ} (64 - k) 0 = rw used at t.zeros in
    let count : 64 - k - length d ≡ 64 - (k + length d) = omega arith in
    let zeros : drop (k + length d) b ≡ replicate {A = ℕ} (64 - (k + length d)) 0 =
    sym (drop-drop (length d) k b) ∙ ap (λ (xs : List ℕ). drop (length d) xs) left
    ∙ drop-replicate {X = ℕ} (length d) (64 - k) 0
    ∙ ap (λ (n : ℕ). replicate {A = ℕ} n 0) count in
    record {
      absorbed = IsAbsorbed_short h b c m d t.absorbed (omega arith) (rw used front);
      zeros = rw len (behind ∙ zeros);
    }

-- octets that fill the block
pub full_taken : (h b n z m d x : List ℕ) (k : ℕ) → HasTaken h b m → length m % 64 ≡ k → k + length d ≡ 64
    → x ≡ take k b ++ d → n ≡ compress h x → z ≡ replicate {A = ℕ} 64 0 → HasTaken n z (m ++ d)
full_taken h b n z m d x k t used full ex en ez =
    let whole : x ≡ take (length m % 64) b ++ d = rw used ex in
    let edge : length (m ++ d) % 64 ≡ 0 = omega (arith, length-append m d) in
    taken_at_edge n z (m ++ d) (rw en (IsAbsorbed_fill h b z m d x t.absorbed (omega arith) whole)) edge ez

-- the same, written over the buffer's end
pub fill_taken : (h b n z m d ys : List ℕ) (k j : ℕ) → HasTaken h b m → length b ≡ 64 → length m % 64 ≡ k →
    k + length d ≡ 64
    → j ≡ 64 - k → ys ≡ d → n ≡ compress h (put_mid k j b ys) → z ≡ replicate {A = ℕ} 64 0 → HasTaken n z (m ++ d)
fill_taken h b n z m d ys k j t size used full ej ey en ez =
    let none : post_of k j b ≡ [] = drop_all j (drop k b) (omega (arith, length-drop k b)) in
    let whole : put_mid k j b ys ≡ take k b ++ d = rw (none, append-nil, ey) refl in
    full_taken h b n z m d (put_mid k j b ys) k t used full whole en ez

-- one block more of octets that begin at an edge
pub block_taken : (h b m d x : List ℕ) (i : ℕ) → IsAbsorbed h b (m ++ take (64 * i) d) → length m % 64 ≡ 0 →
    64 * (i + 1) ≤ length d
    → x ≡ take 64 (drop (64 * i) d) → IsAbsorbed (compress h x) b (m ++ take (64 * (i + 1)) d)
block_taken h b m d x i a edge fits ex =
    let next : 64 * (i + 1) ≡ 64 * i + 64 = omega arith in
    rw next (IsAbsorbed_block h b m d x (64 * i) a (omega arith) (omega arith) ex)

-- a message of which no block is taken in yet
pub none_taken : (h b m d : List ℕ) → HasTaken h b m → IsAbsorbed h b (m ++ take (64 * 0) d)
none_taken h b m d t = IsAbsorbed_none h b m d t.absorbed

-- whole blocks end at an edge
pub edge_behind : (m d : List ℕ) (n : ℕ) → length m % 64 ≡ 0 → 64 * n ≤ length d →
    length (m ++ take (64 * n) d) % 64 ≡ 0
edge_behind m d n edge fits =
    omega (arith, length-append m (take (64 * n) d), length-take-le (64 * n) d fits)

-- the octets behind whole blocks end the message
pub whole_of : (m d : List ℕ) (a e : ℕ) → e ≡ a → (m ++ take a d) ++ take (length d - e) (drop e d) ≡ m ++ d
whole_of m d a e same =
    let rest : take (length d - e) (drop e d) ≡ drop a d = take_rest d e ∙ ap (λ (k : ℕ). drop k d) same in
    rw rest (append_assoc m (take a d) (drop a d) ∙ ap (λ (t : List ℕ). m ++ t) (take-append-drop a d))

-- a message's end in two parts
pub two_parts : (h b m first others d : List ℕ) (n : ℕ) → first ≡ take n d → others ≡ drop n d
    → HasTaken h b ((m ++ first) ++ others) → HasTaken h b (m ++ d)
two_parts h b m first others d n ef eo t =
    let parts : first ++ others ≡ d = rw (ef, eo) (take-append-drop n d) in
    subst (HasTaken h b) (append_assoc m first others ∙ ap (λ (xs : List ℕ). m ++ xs) parts) t

pad_size : (z : ℕ) → length (0x80 ∷ replicate {A = ℕ} z 0) ≡ z + 1
pad_size z = omega (arith, length-replicate {A = ℕ} z 0)

-- the octet 0x80 behind those that are used, and zeros
padded_buffer : (b : List ℕ) (k z : ℕ) → length b ≡ 64 → k + z < 64 → drop k b ≡ replicate {A = ℕ} (64 - k) 0
    → set b k 0x80 ≡ (take k b ++ (0x80 ∷ replicate {A = ℕ} z 0)) ++ replicate {A = ℕ} (63 - k - z) 0
padded_buffer b k z size short left =
    let one : suc k ≡ k + 1 = omega arith in
    let less : 64 - k - 1 ≡ 63 - k = omega arith in
    let sum : 63 - k ≡ z + (63 - k - z) = omega arith in
    let behind : drop (suc k) b ≡ replicate {A = ℕ} (63 - k) 0 =
    ap (λ (n : ℕ). drop n b) one ∙ sym (drop-drop 1 k b) ∙ ap (λ (xs : List ℕ). drop 1 xs) left
    ∙ drop-replicate {X = ℕ} 1 (64 - k) 0
    ∙ ap (λ (n : ℕ). replicate {A = ℕ} n 0) less in
    let parts : replicate {A = ℕ} (63 - k) 0 ≡ replicate {A = ℕ} z 0 ++ replicate {A = ℕ} (63 - k - z) 0 =
    ap (λ (n : ℕ). replicate {A = ℕ} n 0) sum ∙ sym (replicate-append-replicate {A = ℕ} z (63 - k - z) 0) in
    set_split b k 0x80 (omega arith)
    ∙ ap (λ (t : List ℕ). take k b ++ (0x80 ∷ t)) (behind ∙ parts)
    ∙ sym (append_assoc (take k b) (0x80 ∷ replicate {A = ℕ} z 0) (replicate {A = ℕ} (63 - k - z) 0))

-- octets to the place of the length, and zeros there
short_taken : (h b c m d : List ℕ) (k : ℕ) → HasTaken h b m → length b ≡ 64 → length m % 64 ≡ k → k + length d ≡ 56
    → c ≡ (take k b ++ d) ++ replicate {A = ℕ} 8 0 → HasTaken h c (m ++ d)
short_taken h b c m d k t size used sum whole =
    let lf : length (take k b ++ d) ≡ 56 =
    omega (arith, length-append (take k b) d, length-take-le k b (omega arith)) in
    let front : take (k + length d) c ≡ take k b ++ d =
    rw (sum, whole) (take_at (take k b ++ d) (replicate {A = ℕ} 8 0) 56 lf) in
    let len : length (m ++ d) % 64 ≡ 56 = omega (arith, length-append m d) in
    let behind : drop 56 c ≡ replicate {A = ℕ} 8 0 = rw whole (drop_at (take k b ++ d) (replicate {A = ℕ} 8 0) 56 lf) in
    record {
      absorbed = IsAbsorbed_short h b c m d t.absorbed (omega arith) (rw used front);
      zeros = rw len behind;
    }

-- the padding in a block that has room for the length
pub pad_taken : (h b c m : List ℕ) (k : ℕ) → HasTaken h b m → length b ≡ 64 → length m % 64 ≡ k → k < 56 →
    c ≡ set b k 0x80
    → HasTaken h c (m ++ (0x80 ∷ replicate {A = ℕ} ((119 - length m % 64) % 64) 0))
pad_taken h b c m k t size used room ec =
    let count : (119 - length m % 64) % 64 ≡ 55 - k = omega arith in
    let eight : 63 - k - (55 - k) ≡ 8 = omega arith in
    let left : drop k b ≡ replicate {A = ℕ} (64 - k) 0 = rw used at t.zeros in
    let whole : set b k 0x80 ≡ (take k b ++ (0x80 ∷ replicate {A = ℕ} (55 - k) 0)) ++ replicate {A = ℕ} 8 0 =
    padded_buffer b k (55 - k) size (omega arith) left
    ∙ ap (λ (n : ℕ). (take k b ++ (0x80 ∷ replicate {A = ℕ} (55 - k) 0)) ++ replicate {A = ℕ} n 0) eight in
    rw count (short_taken h b c m (0x80 ∷ replicate {A = ℕ} (55 - k) 0) k t size used
    (omega (arith, pad_size (55 - k))) (ec ∙ whole))

-- zeros at an edge, to the place of the length
zeros_taken : (h z m : List ℕ) → HasTaken h z m → length m % 64 ≡ 0 → z ≡ replicate {A = ℕ} 64 0 →
    HasTaken h z (m ++ replicate {A = ℕ} 56 0)
zeros_taken h z m t edge ez =
    let size : length (replicate {A = ℕ} 56 0) ≡ 56 = length-replicate {A = ℕ} 56 0 in
    let len : length (m ++ replicate {A = ℕ} 56 0) % 64 ≡ 56 =
    omega (arith, length-append m (replicate {A = ℕ} 56 0), size) in
    record {
      absorbed = IsAbsorbed_short h z z m (replicate {A = ℕ} 56 0) t.absorbed (omega (arith, size))
          (rw (edge, ez) refl);
      zeros = rw (len, ez) refl;
    }

-- the padding where the length needs a block of its own
pub pad_filled : (h b n z m : List ℕ) (k : ℕ) → HasTaken h b m → length b ≡ 64 → length m % 64 ≡ k → 56 ≤ k → k < 64
    → n ≡ compress h (set b k 0x80) → z ≡ replicate {A = ℕ} 64 0
    → HasTaken n z (m ++ (0x80 ∷ replicate {A = ℕ} ((119 - length m % 64) % 64) 0))
pad_filled h b n z m k t size used over below en ez =
    let count : (119 - length m % 64) % 64 ≡ 63 - k + 56 = omega arith in
    let none : 63 - k - (63 - k) ≡ 0 = omega arith in
    let left : drop k b ≡ replicate {A = ℕ} (64 - k) 0 = rw used at t.zeros in
    let long : length (0x80 ∷ replicate {A = ℕ} (63 - k) 0) ≡ 63 - k + 1 = pad_size (63 - k) in
    let whole : set b k 0x80 ≡ take k b ++ (0x80 ∷ replicate {A = ℕ} (63 - k) 0) =
    padded_buffer b k (63 - k) size (omega arith) left
    ∙ ap (λ (i : ℕ). (take k b ++ (0x80 ∷ replicate {A = ℕ} (63 - k) 0)) ++ replicate {A = ℕ} i 0) none
    ∙ append-nil (take k b ++ (0x80 ∷ replicate {A = ℕ} (63 - k) 0)) in
    let filled = full_taken h b n z m (0x80 ∷ replicate {A = ℕ} (63 - k) 0) (set b k 0x80) k t used
    (omega (arith, long)) whole en ez in
    let edge : length (m ++ (0x80 ∷ replicate {A = ℕ} (63 - k) 0)) % 64 ≡ 0 =
    omega (arith, length-append m (0x80 ∷ replicate {A = ℕ} (63 - k) 0), long) in
    let octets : (m ++ (0x80 ∷ replicate {A = ℕ} (63 - k) 0)) ++ replicate {A = ℕ} 56 0 ≡ m
    ++ (0x80 ∷ replicate {A = ℕ} (63 - k + 56) 0) =
    append_assoc m (0x80 ∷ replicate {A = ℕ} (63 - k) 0) (replicate {A = ℕ} 56 0)
    ∙ ap (λ (t : List ℕ). m ++ (0x80 ∷ t)) (replicate-append-replicate {A = ℕ} (63 - k) 56 0) in
    rw count (subst (HasTaken n z) octets (zeros_taken n z (m ++ (0x80 ∷ replicate {A = ℕ} (63 - k) 0)) filled edge ez))

-- what ends a message leaves the place of its length
pub padded_edge : (m : List ℕ) → length (m ++ (0x80 ∷ replicate {A = ℕ} ((119 - length m % 64) % 64) 0)) % 64 ≡ 56
padded_edge m =
    omega (
      arith,
      length-append m (0x80 ∷ replicate {A = ℕ} ((119 - length m % 64) % 64) 0),
      pad_size ((119 - length m % 64) % 64),
    )

-- how far a message goes into a block, and its length in bits, by its length modulo 2 ^ 64
pub used_of_total : (m : List ℕ) (t : ℕ) → t ≡ length m % 2 ^ 64 → length m % 64 ≡ t % 64
used_of_total m t e = omega arith

pub bits_of_total : (m : List ℕ) (t : ℕ) → t ≡ length m % 2 ^ 64 → t * 8 % 2 ^ 64 ≡ length m * 8 % 2 ^ 64
bits_of_total m t e = omega arith

-- the message, its padding and its length are the padded message, and the state after it is the digest
pub digest_of_padded : (m b h z : List ℕ) → b ≡ to_le_bytes w64 (length m * 8 % 2 ^ 64)
    → HasTaken h z ((m ++ (0x80 ∷ replicate {A = ℕ} ((119 - length m % 64) % 64) 0)) ++ b) → digest_bytes h 4 ≡ md5 m
unfolding md5
digest_of_padded m b h z eb t =
    let padded : (m ++ (0x80 ∷ replicate {A = ℕ} ((119 - length m % 64) % 64) 0)) ++ b ≡ padded_message m =
    rw (append_assoc, eb) refl in
    let same : h ≡ hash_after (padded_message m) (length (padded_message m) / 64) = rw padded at t.absorbed.0 in
    ap (λ (state : List ℕ). digest_bytes state 4) same
