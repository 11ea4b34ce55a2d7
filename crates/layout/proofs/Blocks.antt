-- A block written from its first byte on, byte by byte or word by word, is the block wanted once 128 bytes or 32 words are
-- written, whatever it held before. A block lent of the disk and written is `store`, a block read is `block_at`; the first
-- four bytes replaced are the escaped image.
use Rattle.model.proofs.Base.{ℕ, zero, suc, ◌+◌, ◌-◌, ◌*◌, ◌/◌, ◌%◌, ◌≤◌, ◌<◌, arith, ◌≡◌, refl, sym, ap, ◌∙◌, List, [], ◌∷◌, ◌++◌}
use Rattle.model.proofs.Base.{append_assoc, length, take, drop, get_or, replicate, length-take, length-append}
use Rattle.model.proofs.Base.{take_all, eq-eqb, ne_eqb, flat_map, Bytes}
use Rattle.model.proofs.Base.{append-nil, subst, list_get_or_append}
use lib.Seq.{get_or-append-add}
use native.Mathlib.Decide.{dec_lt}
use Rattle.model.proofs.Lists.{flat_map_append}
use lib.Seq.{take_at, drop-drop, sets, sets-eq}
use borrow.Author.Rules.{rules}
use Rattle.model.specs.Layout.{mark, escaped}
use Rattle.model.specs.Bytes.{bytes, be4, part, replaced, words, padded, block, block_at, store}
use Rattle.model.proofs.Store.{length_replaced}
use Rattle.model.proofs.Words.{length_bytes, length_words}

-- bytes set one after another
pub sets_replaced : (vs s : Bytes) (at : ℕ) → at + length vs ≤ length s → sets s at vs ≡ replaced at (length vs) s vs
unfolding replaced
sets_replaced vs s at h = sets-eq vs s at h ∙ rw (append_assoc, drop-drop (length vs) at s)

-- the bytes of a number, as the library gives them
pub number_bytes : (w : ℕ) → w / 16777216 % 256 ∷ w / 65536 % 256 ∷ w / 256 % 256 ∷ w % 256 ∷ [] ≡ bytes 4 w
unfolding bytes
number_bytes w =
    let a : w / 16777216 ≡ w / 256 / 256 / 256 = omega arith in
    let b : w / 65536 ≡ w / 256 / 256 = omega arith in
    rw (a, b)

-- a number put at its place
pub word_put : (b : Bytes) (at w : ℕ) (r v : Bytes) → r ≡ v → v ≡ w / 16777216 % 256 ∷ w / 65536 % 256 ∷ w / 256 % 256 ∷ w % 256 ∷ []
    → take at b ++ (r ++ drop (at + 4 - at) (drop at b)) ≡ replaced at 4 b (bytes 4 w)
unfolding replaced
word_put b at w r v e q = let n : at + 4 - at ≡ 4 = omega arith in rw (n, e, q) (ap (λ (x : Bytes). take at b ++ (x ++ drop 4 (drop at b))) (number_bytes w))

-- ---- a block written word by word
-- b begins with n words, of each of which P holds
pub record Begun (P : ℕ → ℕ → Type 0) (b : Bytes) (n : ℕ) : Type 0 where
  pub given : List ℕ
  pub most : n ≤ 32
  pub count : length given ≡ n
  pub size : length b ≡ 128
  pub same : take (4 * n) b ≡ words given
  pub each : (i : ℕ) → i < n → P i (get_or given i 0)

module _ (P : ℕ → ℕ → Type 0) where
  pub begun_none : (b : Bytes) → length b ≡ 128 → Begun P b 0
  unfolding words flat_map
  begun_none b h = record { given = []; most = omega arith; count = refl; size = h; same = refl; each = λ i l. absurd (omega arith) }

  pub begun_more : (b c : Bytes) (i x : ℕ) → Begun P b i → c ≡ replaced (4 * i) 4 b (bytes 4 x) → P i x → i < 32 → Begun P c (i + 1)
  unfolding replaced words flat_map
  begun_more b c i x w e q h =
      let len : length (take (4 * i) b ++ bytes 4 x) ≡ 4 * i + 4 = simp (length-append, length-take, length_bytes) (omega (arith, w.size)) in
      let n : 4 * (i + 1) ≡ 4 * i + 4 = omega arith in
      record {
        given = w.given ++ (x ∷ []);
        most = omega arith;
        count = length-append w.given (x ∷ []) ∙ ap (λ (k : ℕ). k + 1) w.count;
        size = ap length e ∙ length_replaced (4 * i) 4 b (bytes 4 x) (omega (arith, w.size)) (length_bytes 4 x) ∙ w.size;
        same =
            rw (e, n, ← (append_assoc (take (4 * i) b) (bytes 4 x) (drop 4 (drop (4 * i) b))))
            (take_at (take (4 * i) b ++ bytes 4 x) (drop 4 (drop (4 * i) b)) (4 * i + 4) len
            ∙ rw (w.same) (sym (flat_map_append (bytes 4) w.given (x ∷ []) ∙ ap (λ (l : Bytes). flat_map (bytes 4) w.given ++ l) (append-nil (bytes 4 x)))));
        each =
            λ j l.
            elim (dec_lt j i) [
              | yes k ↦ subst (P j) (sym (list_get_or_append w.given (x ∷ []) 0 j (omega (arith, w.count)))) (w.each j k)
              | no k ↦
                  let f : j ≡ length w.given + 0 = omega (arith, w.count) in
                  let g : get_or (w.given ++ (x ∷ [])) j 0 ≡ x = ap (λ (m : ℕ). get_or (w.given ++ (x ∷ [])) m 0) f ∙ get_or-append-add w.given (x ∷ []) 0 0 in
                  let z : i ≡ j = omega (arith, w.count) in
                  subst (λ (m : ℕ). P j m) (sym g) (subst (λ (m : ℕ). P m x) z q)
            ];
      }

  pub begun_all : (b : Bytes) (n : ℕ) → Begun P b n → 32 ≤ n → (ws : List ℕ) × (length ws ≡ 32) × (b ≡ block ws) × ((i : ℕ) → i < 32 → P i (get_or ws i 0))
  unfolding block padded
  begun_all b n w h =
      let c : length w.given ≡ 32 = omega (arith, w.count, w.most) in
      let l : length (words w.given) ≡ 128 = length_words w.given ∙ omega (arith, c) in
      let f : 128 ≡ 4 * n = omega (arith, w.most) in
      let t : take 128 b ≡ words w.given = ap (λ (k : ℕ). take k b) f ∙ w.same in
      let e : b ≡ words w.given ++ replicate (128 - length (words w.given)) 0 = sym (take_all 128 b (omega (arith, w.size))) ∙ t ∙ rw l (sym (append-nil (words w.given))) in
      (w.given, c, e, λ i k. w.each i (omega arith))

pub ruleset begun = (rules, begun_none, begun_more, begun_all)

-- words that are 0 past the end of those wanted
words_same : (ws vs : List ℕ) (m : ℕ) → ((i : ℕ) → i < length ws → get_or ws i 0 ≡ get_or vs i 0) → 4 * length ws ≡ 4 * length vs + m → words ws ≡ words vs ++ replicate m 0
unfolding words bytes flat_map
words_same [] [] zero h e = refl
words_same [] [] (suc m) h e = absurd (omega arith)
words_same [] (v ∷ vs) m h e = absurd (omega arith)
words_same (w ∷ ws) (v ∷ vs) m h e =
    let q : w ≡ v = h 0 (omega arith) in
    rw (q, words_same ws vs m (λ i l. h (suc i) (omega arith)) (omega arith)) refl
words_same (w ∷ ws) [] (suc (suc (suc (suc m)))) h e =
    let q : w ≡ 0 = h 0 (omega arith) in
    rw (q, words_same ws [] m (λ i l. h (suc i) (omega arith)) (omega arith)) refl
words_same (w ∷ ws) [] (suc (suc (suc zero))) h e = absurd (omega arith)
words_same (w ∷ ws) [] (suc (suc zero)) h e = absurd (omega arith)
words_same (w ∷ ws) [] (suc zero) h e = absurd (omega arith)
words_same (w ∷ ws) [] zero h e = absurd (omega arith)

-- the block of the words wanted
pub words_written : (vs : List ℕ) (b : Bytes) → length vs ≤ 32 → (ws : List ℕ) → length ws ≡ 32 → b ≡ block ws → ((i : ℕ) → i < 32 → get_or ws i 0 ≡ get_or vs i 0) → b ≡ block vs
unfolding block padded
words_written vs b few ws long e same =
    let l : length (words ws) ≡ 128 = length_words ws ∙ omega (arith, long) in
    let r : words ws ≡ words vs ++ replicate (128 - length (words vs)) 0 = words_same ws vs (128 - length (words vs)) (λ i h. same i (omega arith)) (omega (arith, long, length_words vs)) in
    e ∙ rw l (append-nil (words ws)) ∙ r

-- ---- a block of a slice, lent
pub lent_size : (k : ℕ) → 128 * k + 128 - 128 * k ≡ 128
lent_size k = omega arith

pub block_part : (d : Bytes) (k : ℕ) → take (128 * k + 128 - 128 * k) (drop (128 * k) d) ≡ block_at d k
unfolding block_at part
block_part d k = rw (lent_size k)

-- what a writer made of block k is a store
pub block_lent : (d : Bytes) (k : ℕ) (w b : Bytes) → w ≡ b → take (128 * k) d ++ (w ++ drop (128 * k + 128 - 128 * k) (drop (128 * k) d)) ≡ store d k b
unfolding store replaced
block_lent d k w b e = rw (lent_size k, e)

-- ---- images: the first word replaced, and escaped
pub first_put : (s b r : Bytes) → r ≡ replaced 0 4 s b → r ≡ b ++ drop 4 s
unfolding replaced
first_put s b r e = e

module _ (image r : Bytes) (x : ℕ) (e : x ≡ be4 image 0) where
  pub escaped_yes : x ≡ mark → r ≡ bytes 4 0 ++ drop 4 image → r ≡ escaped image
  unfolding escaped bytes
  escaped_yes h q = q ∙ rw (eq-eqb (be4 image 0) mark (sym e ∙ h))

  pub escaped_no : (x ≡ mark → ⊥) → image ≡ escaped image
  unfolding escaped
  escaped_no h = rw (ne_eqb (be4 image 0) mark (λ z. h (e ∙ z)))
