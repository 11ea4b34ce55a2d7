-- What the cells say: header, a transaction, names and holders are read as the code reads them, and each field of a core
-- at its cell. `X-there` reads a core of the card at the place that the code computed.
use Rattle.model.proofs.Base.{ℕ, ◌+◌, ◌-◌, ◌*◌, ◌/◌, ◌%◌, ◌<◌, arith, ◌≡◌, refl, sym, ap, ◌∙◌, Bool, not, List, map, length}
use Rattle.model.proofs.Base.{get_or, set, length-set, length-map, get_or-set_same, get_or-set_other, ext_get_or, eqb, ne_eqb, eqb-true}
use Rattle.model.proofs.Base.{eqb-false, below}
use Rattle.model.specs.Shape.{clamped}
use Rattle.model.specs.Card.{new_tail, new_name, no_holder, new_holder, shape_of, tail_of, taken, highest_of, core_of, holder_of, fresh_core}
use Rattle.model.specs.declared.Phase.TheVariants.{Blank, Up, Down}
use Rattle.model.specs.declared.Shape.{Shape}
use Rattle.model.specs.declared.Name.{Name}
use Rattle.model.specs.declared.Transaction.{Transaction}
use Rattle.model.specs.declared.Core.{Core}
use native.Mathlib.Decide.{dec_lt}
use Rattle.model.proofs.Base.{min}
use Rattle.model.proofs.Lists.{cases, length_below, get_or_map_below}
use Rattle.cells.proofs.Parts.{took_all, took_some}
use Rattle.cells.specs.Cells.{byte_in, number_in, phase_in, name_in, holder_in, tail_from, transaction_in, core_in, card_in, tail_place, holder_place, core_place, running_place, closed_place}

-- ---- lists given by their index
module _ {A : Type 0} where
  pub length_tabled : (f : ℕ → A) (n : ℕ) → length (map f (below n)) ≡ n
  length_tabled f n = length-map (below n) f ∙ length_below n

  -- two that differ at one index
  pub tabled_set : (f g : ℕ → A) (n k : ℕ) (d : A) → k < n → ((i : ℕ) → i < n → (i ≡ k → ⊥) → g i ≡ f i) → map g (below n) ≡ set (map f (below n)) k (g k)
  tabled_set f g n k d h e =
      ext_get_or d _ _
      (length_tabled g n ∙ sym (length-set (map f (below n)) k (g k) ∙ length_tabled f n))
      (λ i q.
      let l : i < n = rw (length_tabled g n) at q in
      get_or_map_below g n i d l
      ∙ cases (eqb i k)
      (λ t. let z : i ≡ k = eqb-true i k t in
      rw z (sym (get_or-set_same (map f (below n)) k (g k) d (rw (length_tabled f n) h))))
      (λ t. e i l (eqb-false i k t) ∙ sym (get_or-set_other (map f (below n)) k i (g k) d (eqb-false i k t) ∙ get_or_map_below f n i d l)))

-- ---- fields read
pub shape_read : (w : List ℕ) (a b c : ℕ) → a ≡ byte_in w 1 → b ≡ byte_in w 2 → c ≡ byte_in w 3 → (r : Shape) → r ≡ clamped (record { cores = a; blocks = b; journal = c }) → r ≡ shape_of (card_in w)
unfolding shape_of card_in
shape_read w a b c p q s r e = e ∙ rw (p, q, s)

pub phase_blank : (w : List ℕ) → get_or w 0 0 ≡ 0 → Blank ≡ (card_in w).phase
unfolding card_in phase_in
phase_blank w e = rw e

pub phase_up : (w : List ℕ) → get_or w 0 0 ≡ 1 → Up ≡ (card_in w).phase
unfolding card_in phase_in
phase_up w e = rw e

pub phase_down : (w : List ℕ) → (get_or w 0 0 ≡ 0 → ⊥) → (get_or w 0 0 ≡ 1 → ⊥) → Down ≡ (card_in w).phase
unfolding card_in phase_in
phase_down w p q = rw (ne_eqb (get_or w 0 0) 0 p, ne_eqb (get_or w 0 0) 1 q)

module _ (w : List ℕ) (a : ℕ) where
  pub live_read : not (eqb (get_or w a 0) 0) ≡ (transaction_in w a).live
  unfolding transaction_in
  live_read = refl

  pub stamp_read : get_or w (a + 1) 0 ≡ (transaction_in w a).stamp
  unfolding transaction_in
  stamp_read = refl

  pub count_read : byte_in w (a + 2) ≡ (transaction_in w a).count
  unfolding transaction_in
  count_read = refl

  pub blocks_long : length (transaction_in w a).blocks ≡ 8
  unfolding transaction_in
  blocks_long = length_tabled _ 8

  pub highest_read : (c : ℕ) → c < 8 → highest_of (transaction_in w a) c ≡ number_in w (a + 11 + c)
  unfolding transaction_in highest_of
  highest_read c h = get_or_map_below _ 8 c 0 h

  pub block_read : (i d : ℕ) → i < 8 → get_or (transaction_in w a).blocks i d ≡ byte_in w (a + 3 + i)
  unfolding transaction_in
  block_read i d h = get_or_map_below _ 8 i d h

  pub count_taken : (n m : ℕ) → n ≡ min m 8 → m ≡ byte_in w (a + 2) → n ≡ length (taken (transaction_in w a))
  count_taken n m e f =
      let q : m ≡ (transaction_in w a).count = f ∙ count_read in
      elim (dec_lt 8 m) [
        | yes h ↦ let r : n ≡ 8 = omega arith in r ∙ took_all (transaction_in w a) blocks_long (omega arith)
        | no h ↦ let r : n ≡ (transaction_in w a).count = omega arith in r ∙ took_some (transaction_in w a) blocks_long (omega arith)
      ]

-- ---- names and holders in a cell
name_cong : (a b c d : ℕ) → a ≡ b → c ≡ d → new_name a c ≡ new_name b d
name_cong a b c d p q = rw (p, q)

pub name_is : (n : ℕ) → new_name (n % 8) (n / 8 % 4294967296) ≡ name_in n
unfolding name_in
name_is n = refl

pub name_in_put : (c k : ℕ) → c < 8 → k < 4294967296 → name_in (8 * k + c) ≡ new_name c k
unfolding name_in
name_in_put c k p q = name_cong _ _ _ _ (omega arith) (omega arith)

module _ (w : List ℕ) (b : ℕ) (h : b < 64) where
  pub holder_read : holder_of (card_in w) b ≡ holder_in (get_or w (holder_place b) 0)
  unfolding holder_of card_in
  holder_read = get_or_map_below _ 64 b no_holder h

  pub holder_none : get_or w (holder_place b) 0 ≡ 0 → no_holder ≡ holder_of (card_in w) b
  unfolding holder_in
  holder_none e = sym (holder_read ∙ rw e)

  pub holder_some : (n : Name) → n ≡ name_in (get_or w (holder_place b) 0 - 1) → (get_or w (holder_place b) 0 ≡ 0 → ⊥) → new_holder n ≡ holder_of (card_in w) b
  unfolding holder_in
  holder_some n q e = rw q (sym (holder_read ∙ rw (ne_eqb (get_or w (holder_place b) 0) 0 e)))

pub low_core : (k : ℕ) (n : Name) → n ≡ name_in k → n.core < 8
unfolding name_in
low_core k n e = omega (arith, ap (λ (m : Name). m.core) e)

-- ---- a tail and a core of the card
pub tail_at : (w : List ℕ) (c : ℕ) → c < 8 → tail_of (card_in w) c ≡ tail_from w (tail_place c)
unfolding tail_of card_in
tail_at w c h = get_or_map_below _ 8 c (new_tail 0 0) h

pub core_of_card_in : (w : List ℕ) (c : ℕ) → c < 8 → core_of (card_in w) c ≡ core_in w (core_place c)
unfolding core_of card_in
core_of_card_in w c h = get_or_map_below _ 8 c (fresh_core 0) h

module _ (w : List ℕ) (c : ℕ) (h : c < 8) where
  field_at : {A : Type 0} (f : Core → A) → f (core_in w (core_place c)) ≡ f (core_of (card_in w) c)
  field_at f = sym (ap f (core_of_card_in w c h))

  pub running_read : transaction_in w (core_place c + 4) ≡ (core_of (card_in w) c).running
  unfolding core_in
  running_read = field_at (λ (k : Core). k.running)

  pub closed_read : transaction_in w (core_place c + 23) ≡ (core_of (card_in w) c).closed
  unfolding core_in
  closed_read = field_at (λ (k : Core). k.closed)

  -- at the place of its cells
  module _ (a : ℕ) (e : a ≡ core_place c) (n : ℕ) where
    pub next_there : n ≡ number_in w a → n ≡ (core_of (card_in w) c).next
    unfolding core_in
    next_there q = q ∙ ap (number_in w) e ∙ field_at (λ (k : Core). k.next)

    pub used_there : n ≡ byte_in w (a + 1) → n ≡ (core_of (card_in w) c).used
    unfolding core_in
    used_there q = q ∙ ap (λ (b : ℕ). byte_in w (b + 1)) e ∙ field_at (λ (k : Core). k.used)

    pub stored_there : n ≡ byte_in w (a + 2) → n ≡ (core_of (card_in w) c).stored
    unfolding core_in
    stored_there q = q ∙ ap (λ (b : ℕ). byte_in w (b + 2)) e ∙ field_at (λ (k : Core). k.stored)

    pub homed_there : n ≡ byte_in w (a + 3) → n ≡ (core_of (card_in w) c).homed
    unfolding core_in
    homed_there q = q ∙ ap (λ (b : ℕ). byte_in w (b + 3)) e ∙ field_at (λ (k : Core). k.homed)

  -- at the place of a transaction
  module _ (a : ℕ) where
    pub running_there : a ≡ running_place c → transaction_in w a ≡ (core_of (card_in w) c).running
    running_there e = ap (transaction_in w) e ∙ running_read

    pub closed_there : a ≡ closed_place c → transaction_in w a ≡ (core_of (card_in w) c).closed
    closed_there e = ap (transaction_in w) e ∙ closed_read

    pub running_live : a ≡ running_place c → (g : Bool) → g ≡ (transaction_in w a).live → g ≡ (core_of (card_in w) c).running.live
    running_live e g q = q ∙ ap (λ (t : Transaction). t.live) (running_there e)

    pub closed_live : a ≡ closed_place c → (g : Bool) → g ≡ (transaction_in w a).live → g ≡ (core_of (card_in w) c).closed.live
    closed_live e g q = q ∙ ap (λ (t : Transaction). t.live) (closed_there e)
