-- What comes of a command, over any world: section 'Refusals'. Then the world that the card's commands work on.
use Rattle.std.specs.Prelude.{ℕ, zero, suc, ◌<◌, ◌≡◌, List, [], ◌∷◌, Bool, true, false, cond, not, ◌||◌, length, leb, eqb}
use Rattle.model.specs.Limits.{disk_size, memory_size}
use Rattle.model.specs.Lists.{Each}
use Rattle.model.specs.Bytes.{Bytes, store}
use Rattle.model.specs.Card.{is_blank, is_down, shape_of}
use Rattle.model.specs.declared.Card.{Card}

-- the answer (0 if done), the world afterwards, and the number of stores
pub record Outcome (W : Type 0) : Type 0 where
  pub answer : ℕ
  pub world : W
  pub stores : ℕ

-- 'lowest first': the number of the first condition that holds, 0 for none
unfoldable pub refusal : List (Bool × ℕ) → ℕ
refusal [] = 0
refusal (t ∷ ts) = cond t.0 t.1 (refusal ts)

-- n is the number of the first condition that holds
pub data First (n : ℕ) : List (Bool × ℕ) → Type 0 where
  here : {t : Bool × ℕ} {ts : List (Bool × ℕ)} → t.0 ≡ true → t.1 ≡ n → First n (t ∷ ts)
  there : {t : Bool × ℕ} {ts : List (Bool × ℕ)} → t.0 ≡ false → First n ts → First n (t ∷ ts)

-- no condition holds
abbrev pub Clear : List (Bool × ℕ) → Type 0
Clear ts = Each (λ (t : Bool × ℕ). t.0 ≡ false) ts

module _ {W : Type 0} where
  -- 'A refusal answers its number alone .. and changes no byte of any lent buffer and nothing in the card's state.'
  abbrev pub refused_with : ℕ → W → Outcome W
  refused_with n w = record { answer = n; world = w; stores = 0 }

  unfoldable pub unless : List (Bool × ℕ) → W → Outcome W → Outcome W
  unless conditions w done = elim (refusal conditions) [ zero ↦ done | suc n ↦ refused_with (suc n) w ]

  -- 'Each is answered under its condition and under no other': refused with the number of the first condition that holds, or
  -- carried out where none does
  pub data Decided (ts : List (Bool × ℕ)) (w : W) (done o : Outcome W) : Type 0 where
    refused : (n : ℕ) → 0 < n → First n ts → o ≡ refused_with n w → Decided ts w done o
    carried_out : Clear ts → o ≡ done → Decided ts w done o

-- ---- the card's commands: its state and the two lent slices
pub record World : Type 0 where
  pub card : Card
  pub disk : Bytes
  pub memory : Bytes

-- one store: the disk block, and the 128 bytes that it gets
pub record BlockStore : Type 0 where
  pub place : ℕ
  pub bytes : Bytes

-- 'Each does at most one store, save FORMAT', which makes the whole disk and counts none
pub data DiskStore : Type 0 where
  no_store : DiskStore
  one_store : BlockStore → DiskStore
  whole_disk : Bytes → DiskStore

-- the disk with that made, and the number of stores
abbrev pub with_store : DiskStore → Bytes → Bytes
with_store no_store d = d
with_store (one_store b) d = store d b.place b.bytes
with_store (whole_disk e) d = e

abbrev pub count_of : DiskStore → ℕ
count_of no_store = 0
count_of (one_store b) = 1
count_of (whole_disk e) = 0

-- carried out: card and memory change, the disk does not
abbrev pub unstored : World → Card → Bytes → Outcome World
unstored w x m = record { answer = 0; world = record { card = x; disk = w.disk; memory = m }; stores = 0 }

-- carried out: the card changes, and the one store is that of disk block k
abbrev pub storing : World → Card → ℕ → Bytes → Outcome World
storing w x k b = record { answer = 0; world = record { card = x; disk = store w.disk k b; memory = w.memory }; stores = 1 }

abbrev pub storing_block : World → Card → BlockStore → Outcome World
storing_block w x b = storing w x b.place b.bytes

-- '1 disk slice not 32,896 bytes, or memory slice not 16,384'
unfoldable pub wrong_length : World → Bool
wrong_length w = not (eqb (length w.disk) disk_size) || not (eqb (length w.memory) memory_size)

-- 'Order: 1, 2, 3, then 20 to 23, then 4 to 8': what WRITE, CLOSE, STORE, CHECKPOINT, RETIRE and reading meet first
abbrev pub not_up : World → List (Bool × ℕ) → List (Bool × ℕ)
not_up w rest = (wrong_length w, 1) ∷ (is_blank w.card.phase, 20) ∷ (is_down w.card.phase, 22) ∷ rest

-- '5 core not below C'
unfoldable pub no_core : World → ℕ → Bool
no_core w c = leb (shape_of w.card).cores c

-- '6 block not below B'
unfoldable pub no_block : World → ℕ → Bool
no_block w b = leb (shape_of w.card).blocks b
