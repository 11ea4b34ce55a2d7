-- Cards that are the card of their cells: each array has its length, each field is within its width.
use Rattle.std.specs.Prelude.{ℕ, ◌<◌, ◌≡◌, length, get_or}
use Rattle.model.specs.Card.{highest_of, tail_of, core_of, holder_of, holder_name}
use Rattle.model.specs.declared.Tail.{Tail}
use Rattle.model.specs.declared.Name.{Name}
use Rattle.model.specs.declared.Transaction.{Transaction}
use Rattle.model.specs.declared.Core.{Core}
use Rattle.model.specs.Card.{Holder}
use Rattle.model.specs.declared.Card.{Card}

-- A field of eight bytes has no bound here.
pub record SizedName (n : Name) : Type 0 where
  pub core : n.core < 8
  pub number : n.number < 4294967296

pub record SizedTransaction (t : Transaction) : Type 0 where
  pub count : t.count < 256
  pub lengths : (length t.blocks ≡ 8) × (length t.highest ≡ 8)
  pub block : (i : ℕ) → i < 8 → get_or t.blocks i 0 < 256
  pub highest : (c : ℕ) → c < 8 → highest_of t c < 4294967296

pub record SizedCore (k : Core) : Type 0 where
  pub next : k.next < 4294967296
  pub used : k.used < 256
  pub stored : k.stored < 256
  pub homed : k.homed < 256
  pub running : SizedTransaction k.running
  pub closed : SizedTransaction k.closed

pub record SizedTail (t : Tail) : Type 0 where
  pub number : t.number < 4294967296
  pub position : t.position < 256

-- a holder, if there is one, has a name of that size
abbrev pub SizedHolder : Holder → Type 0
SizedHolder h = SizedName (holder_name h)

pub record SizedCard (x : Card) : Type 0 where
  pub shape : (x.shape.cores < 256) × (x.shape.blocks < 256) × (x.shape.journal < 256)
  pub recovered : x.recovered < 256
  pub lengths : (length x.tails ≡ 8) × (length x.cores ≡ 8) × (length x.holders ≡ 64)
  pub tail : (c : ℕ) → c < 8 → SizedTail (tail_of x c)
  pub core : (c : ℕ) → c < 8 → SizedCore (core_of x c)
  pub holder : (b : ℕ) → b < 64 → SizedHolder (holder_of x b)
