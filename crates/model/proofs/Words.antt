-- Numbers of any width become bytes and are read back; a block of four-byte numbers is read word by word.
-- Every record block is such a block, so `word_of` carries all laws on reading what was stored.
use Prim.Native.Nat.{ℕ, zero, suc, ◌+◌, ◌*◌, ◌-◌, ◌/◌, ◌%◌, ◌^◌, ◌≤◌, ◌<◌}
use native.Mathlib.Omega.{arith}
use native.Mathlib.Nat.{div-add-mod', div-lt_iff_lt-mul, zero-lt-suc, suc-add, zero-add, add-zero}
use mathlib.Core.Path.{◌≡◌, refl, ap, ◌∙◌}
use mathlib.Core.List.{List, [], ◌∷◌, ◌++◌, append_assoc, append-nil, flat_map}
use lib.ListN.{length, get_or, replicate, length-append, length-replicate}
use Rattle.model.specs.Bytes.{Bytes, bytes, number, part, be4, words, padded, block}
use Rattle.model.specs.Lists.{Each}
use Rattle.model.proofs.Lists.{each_append, each_replicate}

-- ---- numbers
abbrev pub IsByte : ℕ → Type 0
IsByte x = x < 256

-- a number fits four bytes
abbrev pub IsWord : ℕ → Type 0
IsWord x = x < 4294967296

pub length_bytes : (w n : ℕ) → length (bytes w n) ≡ w
unfolding bytes
length_bytes zero n = refl
length_bytes (suc w) n = length-append (bytes w (n / 256)) (n % 256 ∷ []) ∙ omega (arith, length_bytes w (n / 256))

pub each_bytes : (w n : ℕ) → Each IsByte (bytes w n)
unfolding bytes
each_bytes zero n = tt
each_bytes (suc w) n = each_append IsByte (bytes w (n / 256)) (n % 256 ∷ []) (each_bytes w (n / 256)) (omega arith, tt)

pub number_append : (acc : ℕ) (xs ys : Bytes) → number acc (xs ++ ys) ≡ number (number acc xs) ys
unfolding number
number_append acc [] ys = refl
number_append acc (x ∷ xs) ys = number_append (acc * 256 + x) xs ys

pub number_bytes : (w n : ℕ) → n < 256 ^ w → number 0 (bytes w n) ≡ n
unfolding bytes number
number_bytes zero n h = omega arith
number_bytes (suc w) n h =
    number_append 0 (bytes w (n / 256)) (n % 256 ∷ [])
    ∙ ap (λ (m : ℕ). m * 256 + n % 256) (number_bytes w (n / 256) ((div-lt_iff_lt-mul {k = 256} (zero-lt-suc 255)).1 (omega arith)))
    ∙ div-add-mod' n 256

bytes_from : (w acc : ℕ) (xs : Bytes) → Each IsByte xs → bytes (length xs + w) (number acc xs) ≡ bytes w acc ++ xs
unfolding bytes number
bytes_from w acc [] f = rw (zero-add w, append-nil)
bytes_from w acc (x ∷ xs) f =
    let n : suc (length xs) + w ≡ length xs + suc w = omega arith in
    let q : (acc * 256 + x) / 256 ≡ acc = omega (arith, f.0) in
    let r : (acc * 256 + x) % 256 ≡ x = omega (arith, f.0) in
    rw n (bytes_from (suc w) (acc * 256 + x) xs f.1 ∙ rw (q, r, append_assoc))

pub bytes_number : (xs : Bytes) → Each IsByte xs → bytes (length xs) (number 0 xs) ≡ xs
unfolding bytes
bytes_number xs f = rw add-zero at (bytes_from 0 0 xs f)

-- ---- words
zeros : ℕ → Bytes
zeros n = replicate n 0

-- nothing but zeros is read from zeros
part_zeros : (m i n : ℕ) → number 0 (part i n (zeros m)) ≡ 0
unfolding number part zeros
part_zeros zero zero zero = refl
part_zeros zero zero (suc n) = refl
part_zeros zero (suc i) zero = refl
part_zeros zero (suc i) (suc n) = refl
part_zeros (suc m) zero zero = refl
part_zeros (suc m) zero (suc n) = part_zeros m zero n
part_zeros (suc m) (suc i) n = part_zeros m i n

-- what is read at a word's place
word_at : (ws : List ℕ) → Each IsWord ws → (m i : ℕ) → be4 (words ws ++ replicate m 0) (4 * i) ≡ get_or ws i 0
unfolding be4 number part words bytes flat_map
word_at [] f m i = unfold zeros in part_zeros m (4 * i) 4
word_at (x ∷ xs) f m zero = number_bytes 4 x f.0
word_at (x ∷ xs) f m (suc i) =
    let e : 4 * suc i ≡ suc (suc (suc (suc (4 * i)))) = omega arith in
    rw e (word_at xs f.1 m i)

pub word_of : (ws : List ℕ) → Each IsWord ws → (i : ℕ) → be4 (block ws) (4 * i) ≡ get_or ws i 0
unfolding block padded
word_of ws f i = word_at ws f (128 - length (words ws)) i

pub length_words : (ws : List ℕ) → length (words ws) ≡ 4 * length ws
unfolding words bytes flat_map
length_words [] = refl
length_words (x ∷ xs) = omega (arith, length_words xs)

pub length_block : (ws : List ℕ) → length ws ≤ 32 → length (block ws) ≡ 128
unfolding block padded
length_block ws h = simp (length-append, length-replicate, length_words) (omega arith)

each_words : (ws : List ℕ) → Each IsByte (words ws)
unfolding words flat_map
each_words [] = tt
each_words (x ∷ xs) = each_append IsByte (bytes 4 x) (words xs) (each_bytes 4 x) (each_words xs)

pub each_block : (ws : List ℕ) → Each IsByte (block ws)
unfolding block padded
each_block ws = each_append IsByte (words ws) (replicate (128 - length (words ws)) 0) (each_words ws) (each_replicate IsByte (128 - length (words ws)) 0 (omega arith))

-- a number read byte by byte
pub be4_get_or : (s : Bytes) (at : ℕ) → at + 4 ≤ length s
    → be4 s at ≡ ((get_or s at 0 * 256 + get_or s (at + 1) 0) * 256 + get_or s (at + 2) 0) * 256 + get_or s (at + 3) 0
unfolding be4 part number
be4_get_or [] at h = absurd (omega arith)
be4_get_or (a ∷ []) zero h = absurd (omega arith)
be4_get_or (a ∷ b ∷ []) zero h = absurd (omega arith)
be4_get_or (a ∷ b ∷ c ∷ []) zero h = absurd (omega arith)
be4_get_or (a ∷ b ∷ c ∷ d ∷ s) zero h = omega arith
be4_get_or (a ∷ s) (suc at) h = rw (suc-add at 1, suc-add at 2, suc-add at 3) (be4_get_or s at (omega arith))
