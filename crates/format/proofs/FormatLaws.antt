-- FORMAT answers 21 where the card is not blank, then 4 where a shape is out of range. Zeroed disk and memory, the first master
-- and the card come up with first tails are what its definition leaves.
use Rattle.model.proofs.Base.{ℕ, ◌<◌, arith, ◌≡◌, refl, sym, ap, subst, ◌∙◌, Bool, not, List, [], ◌∷◌, length, get_or, replicate}
use Rattle.model.proofs.Base.{get_or-replicate, Bytes}
use Rattle.std.specs.Prelude.{Option, Some, None}
use Rattle.model.specs.Bytes.{store}
use Rattle.model.specs.Shape.{in_range, checked, checked_answer, clamped}
use Rattle.model.specs.Card.{is_blank, new_tail, fresh_card}
use Rattle.model.specs.Layout.{master_block}
use Rattle.model.specs.Command.{World, refusal, wrong_length}
use Rattle.model.specs.Format.{format_conditions, formatted_disk, formatted, format}
use Rattle.model.specs.declared.Tail.{Tail}
use Rattle.model.specs.declared.Shape.{Shape}
use Rattle.model.specs.declared.CommitLayout.TheVariants.{Numbers}
use Rattle.model.specs.declared.Phase.TheVariants.{Up}
use Rattle.model.proofs.Lists.{cases}
use Rattle.model.proofs.Limits.{InRange, range_test, clamped_range, clamped_same}
use Rattle.model.proofs.Command.{refusal_clear}
use Rattle.model.proofs.OneStore.{right_lengths}
use Rattle.model.proofs.Encoding.{master_same}
use Rattle.layout.proofs.DiskLaws.{zero_memory_lem, zero_disk_lem}
use Rattle.cells.specs.Cells.{card_in, world_in}
use Rattle.cells.specs.Changes.{Frame}
use Rattle.cells.specs.Answer.{outcome_in, Meets, first_of}
use Rattle.cells.proofs.RefusalLaws.{first_hit, first_pass, refusal_joined}
use Rattle.std.specs.Prelude.{Result, Ok, Err}
use Rattle.model.specs.Refusal.{number_of}
use Rattle.model.specs.declared.Refusal.{Refusal}
use Rattle.model.specs.declared.Refusal.TheVariants.{OutOfRange}
use Rattle.model.proofs.RefusalNumbers.{number_not_0}
use Rattle.cells.proofs.MeetLaws.{meets_refused, meets_handed, meets_done}

-- ---- the two stages
-- what comes before the operands
abbrev pub not_blank : World → List (Bool × ℕ)
not_blank w = (wrong_length w, 1) ∷ (not (is_blank w.card.phase), 21) ∷ []

-- the shape that the constructor made, and its number
made_known : (c b j : ℕ) → refusal ((not (in_range c b j), 4) ∷ []) ≡ checked_answer (checked c b j)
unfolding refusal checked
made_known c b j = cases (in_range c b j) (λ h. rw h) (λ h. rw h)

format_stages : (c b j : ℕ) (w : World) → first_of (refusal (not_blank w)) (checked_answer (checked c b j)) ≡ refusal (format_conditions c b j w)
unfolding format_conditions
format_stages c b j w =
    sym (refusal_joined (not_blank w) ((not (in_range c b j), 4) ∷ []) (omega arith, (omega arith, tt)) ∙ rw (made_known c b j))

-- ---- the master
-- what the constructor made is the shape asked for, within its limits
fits_range : (c b j : ℕ) (s : Shape) → Some s ≡ checked c b j → InRange s × (s ≡ record { cores = c; blocks = b; journal = j })
unfolding checked
fits_range c b j s e =
    cases (in_range c b j)
    (λ h. let q : s ≡ record { cores = c; blocks = b; journal = j } = (let r : Some s ≡ Some (record { cores = c; blocks = b; journal = j }) = rw h at e in cc) in
    (subst InRange (sym q) (range_test (record { cores = c; blocks = b; journal = j }) h), q))
    (λ h. let r : Some s ≡ None = rw h at e in let z : ◌≡◌ {A = ℕ} 0 1 = cc in absurd (omega arith))

-- the constructor's shape is read as it is
pub fits_same : (c b j : ℕ) (made : Option Shape) → made ≡ checked c b j → (s : Shape) → made ≡ Some s → clamped s ≡ s
fits_same c b j made e s f = clamped_same s (fits_range c b j s (sym f ∙ e)).0

-- eight tails at number 1 and position 0
abbrev pub first_tails : List Tail
first_tails = replicate 8 (new_tail 1 0)

first_tail : (i : ℕ) → i < 8 → get_or first_tails i (new_tail 0 0) ≡ new_tail 1 0
first_tail i h = get_or-replicate 8 i (new_tail 1 0) (new_tail 0 0) h

first_master : (s : Shape) → clamped s ≡ s → master_block Numbers (clamped s) (λ (c : ℕ). get_or first_tails c (new_tail 0 0)) ≡ master_block Numbers s (λ (c : ℕ). new_tail 1 0)
first_master s e =
    let r : InRange s = subst InRange e (clamped_range s) in
    rw e (master_same Numbers s _ (λ (c : ℕ). new_tail 1 0) (λ i h. first_tail i (omega arith)))

-- what the code leaves: both slices zeroed, the master in block 0
pub format_left : (s : Shape) → clamped s ≡ s
    → (d m : Bytes) → length d ≡ 32896 → length m ≡ 16384
    → (d' m' b : Bytes) → d' ≡ replicate (length d) 0 → m' ≡ replicate (length m) 0 → b ≡ store d' 0 (master_block Numbers (clamped s) (λ (c : ℕ). get_or first_tails c (new_tail 0 0)))
    → (w : List ℕ) → card_in w ≡ fresh_card Up s first_tails
    → outcome_in (Ok 0) w b m' ≡ formatted s
unfolding formatted formatted_disk
format_left s e d m dl ml d' m' b p q r w y = rw (r, p, q, y, zero_disk_lem d dl, zero_memory_lem m ml, first_master s e)

-- ---- the command
module _ (c b j : ℕ) (v : List ℕ) (d m : Bytes) (l : length v ≡ 423) where
  pub not_blank_lem : (e : Refusal) → number_of e ≡ refusal (not_blank (world_in v d m)) → (r : Result ℕ Refusal) → r ≡ Err e
      → Meets (format c b j (world_in v d m)) v v d m r
  unfolding format
  not_blank_lem e q r h =
      meets_handed (format_conditions c b j (world_in v d m)) v d m _ l e
      (first_hit (number_of e) _ _ q (number_not_0 e) ∙ format_stages c b j (world_in v d m)) r h

  module _ (e : 0 ≡ refusal (not_blank (world_in v d m))) where
    -- the slices have their lengths
    lengths : (length d ≡ 32896) × (length m ≡ 16384)
    lengths = right_lengths (world_in v d m) (refusal_clear (not_blank (world_in v d m)) (omega arith, (omega arith, tt)) (sym e)).0

    pub blank_disk : length d ≡ 32896
    blank_disk = lengths.0

    pub blank_memory : length m ≡ 16384
    blank_memory = lengths.1

    module _ (made : Option Shape) (q : made ≡ checked c b j) where
      pub out_of_range : made ≡ None → Meets (format c b j (world_in v d m)) v v d m (Err OutOfRange)
      unfolding format
      out_of_range o =
          meets_refused (format_conditions c b j (world_in v d m)) v d m _ l OutOfRange
          (first_pass 0 4 _ _ e refl (rw (← q, o)) ∙ format_stages c b j (world_in v d m))

      pub format_done : (s : Shape) → made ≡ Some s → (w : List ℕ) (k a : Bytes) → outcome_in (Ok 0) w k a ≡ formatted s → Frame v w 0 423
          → Meets (format c b j (world_in v d m)) v w k a (Ok 0)
      unfolding format
      format_done s f w k a r g =
          meets_done (format_conditions c b j (world_in v d m)) v d m _ l
          (first_pass 0 0 _ _ e refl (rw (← q, f)) ∙ format_stages c b j (world_in v d m)) w k a 0
          (r ∙ ap formatted (fits_range c b j s (sym f ∙ q)).1) 0 423 g
