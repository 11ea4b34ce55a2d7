-- Bytes stay bytes where bytes replace them, in a block, on the disk, in a record; and four bytes replaced within a block
-- of memory change that block alone, as they change its image.
-- So disk, memory and images are lists of bytes at every point of a run, and a WRITE in memory is the write noted.
use Rattle.model.proofs.Base.{ℕ, ◌+◌, ◌*◌, ◌≤◌, ◌<◌, arith, dec_lt, ◌≡◌, refl, sym, ap, ap₂, subst, ◌∙◌, ◌≢◌, Bool, [], ◌∷◌, ◌++◌}
use Rattle.model.proofs.Base.{append_assoc, length, take, drop, replicate, length-take, length-drop, eqb, ltb, lt-ltb, all, Bytes}
use lib.ListN.{take-append-drop}
use lib.Seq.{length-take-le, take_at, drop_at, take-append-le, drop-append-le, take-append-add, drop-append-add}
use Rattle.model.specs.Bytes.{part, be4, block_at, replaced, store}
use Rattle.model.specs.Layout.{mark, escaped}
use Rattle.model.specs.Lists.{Each}
use Rattle.model.proofs.Lists.{cases, and_left, and_right, and_both, all_append, mem_all, mem_get_or, each_get_or, each_replicate}
use Rattle.model.proofs.Store.{length_replaced, part_before, part_after}
use Rattle.model.proofs.Words.{IsByte}
use Rattle.crash.specs.Claims.{IsBytes}

-- ---- bytes
pub bytes_take : (n : ℕ) (s : Bytes) → IsBytes s → IsBytes (take n s)
bytes_take n s h =
    let p : ℕ → Bool = λ x. ltb x 256 in
    and_left _ _ (sym (all_append p (take n s) (drop n s)) ∙ ap (all p) (take-append-drop n s) ∙ h)

pub bytes_drop : (n : ℕ) (s : Bytes) → IsBytes s → IsBytes (drop n s)
bytes_drop n s h =
    let p : ℕ → Bool = λ x. ltb x 256 in
    and_right (all p (take n s)) _ (sym (all_append p (take n s) (drop n s)) ∙ ap (all p) (take-append-drop n s) ∙ h)

bytes_append : (s t : Bytes) → IsBytes s → IsBytes t → IsBytes (s ++ t)
bytes_append s t p q = all_append (λ (x : ℕ). ltb x 256) s t ∙ and_both p q

pub bytes_replaced : (at n : ℕ) (s b : Bytes) → IsBytes s → IsBytes b → IsBytes (replaced at n s b)
unfolding replaced
bytes_replaced at n s b p q =
    bytes_append (take at s) (b ++ drop n (drop at s)) (bytes_take at s p) (bytes_append b (drop n (drop at s)) q (bytes_drop n (drop at s) (bytes_drop at s p)))

pub bytes_store : (d : Bytes) (k : ℕ) (b : Bytes) → IsBytes d → IsBytes b → IsBytes (store d k b)
unfolding store
bytes_store d k b = bytes_replaced (128 * k) 128 d b

pub bytes_block_at : (d : Bytes) (k : ℕ) → IsBytes d → IsBytes (block_at d k)
unfolding block_at part
bytes_block_at d k h = bytes_take 128 (drop (128 * k) d) (bytes_drop (128 * k) d h)

pub each_is_bytes : (s : Bytes) → Each IsByte s → IsBytes s
each_is_bytes s h = mem_all (λ (x : ℕ). ltb x 256) s (λ x m. let r = mem_get_or m 0 in lt-ltb x 256 (subst IsByte r.2 (each_get_or IsByte s h r.0 0 r.1)))

pub zero_bytes : (n : ℕ) → IsBytes (replicate n 0)
zero_bytes n = each_is_bytes (replicate n 0) (each_replicate IsByte n 0 (omega arith))

pub escaped_bytes : (b : Bytes) → IsBytes b → IsBytes (escaped b)
unfolding escaped
escaped_bytes b h = cases (eqb (be4 b 0) mark) (λ e. rw e (bytes_append (0 ∷ 0 ∷ 0 ∷ 0 ∷ []) (drop 4 b) (unfold all in refl) (bytes_drop 4 b h))) (λ e. rw e h)

-- ---- bytes replaced within a block
replaced_inner : (p x q v : Bytes) (o n : ℕ) → o + n ≤ length x → replaced (length p + o) n (p ++ (x ++ q)) v ≡ p ++ (replaced o n x v ++ q)
unfolding replaced
replaced_inner p x q v o n h =
    let low : o ≤ length x = omega arith in
    let rest : n ≤ length (drop o x) = simp length-drop (omega arith) in
    rw (take-append-add p (x ++ q) o, drop-append-add p (x ++ q) o, take-append-le o x q low, drop-append-le o x q low, drop-append-le n (drop o x) q rest)
    (simp append_assoc)

module _ (n : ℕ) (d : Bytes) (len : length d ≡ 128 * n) (k o : ℕ) (v : Bytes) (in_range_lem : k < n) (inside : o ≤ 124) (four : length v ≡ 4) where
  pub block_written : block_at (replaced (128 * k + o) 4 d v) k ≡ replaced o 4 (block_at d k) v
  unfolding block_at part
  block_written =
      let p = take (128 * k) d in
      let x = take 128 (drop (128 * k) d) in
      let q = drop 128 (drop (128 * k) d) in
      let lp : length p ≡ 128 * k = length-take-le (128 * k) d (omega arith) in
      let lx : length x ≡ 128 = length_block_at' in
      let whole : p ++ (x ++ q) ≡ d = ap (λ (z : Bytes). p ++ z) (take-append-drop 128 (drop (128 * k) d)) ∙ take-append-drop (128 * k) d in
      let e : replaced (128 * k + o) 4 d v ≡ p ++ (replaced o 4 x v ++ q) =
      ap₂ (λ (i : ℕ) (z : Bytes). replaced (i + o) 4 z v) (sym lp) (sym whole) ∙ replaced_inner p x q v o 4 (omega arith) in
      ap (λ (z : Bytes). take 128 (drop (128 * k) z)) e
      ∙ ap (take 128) (drop_at p (replaced o 4 x v ++ q) (128 * k) lp)
      ∙ take_at (replaced o 4 x v) q 128 (length_replaced o 4 x v (omega arith) four ∙ lx)
    where
      length_block_at' : length (take 128 (drop (128 * k) d)) ≡ 128
      length_block_at' = simp (length-take, length-drop) (omega arith)

  pub block_unwritten : (j : ℕ) → j ≢ k → block_at (replaced (128 * k + o) 4 d v) j ≡ block_at d j
  unfolding block_at
  block_unwritten j ne =
      elim (dec_lt j k) [
        | yes lt ↦ part_before (128 * k + o) 4 d v (omega arith) (128 * j) 128 (omega arith)
        | no ge ↦ part_after (128 * k + o) 4 d v (omega arith) four (128 * j) 128 (omega arith)
      ]
