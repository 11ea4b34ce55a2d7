-- A tail is read at its two cells, eight in turn are the card's tails; two cells put are the card with that tail replaced,
-- framed.
use Rattle.model.proofs.Base.{ℕ, ◌+◌, ◌%◌, ◌<◌, arith, ◌≡◌, sym, ap, ◌∙◌, List, map, length, get_or, set, length-set}
use Rattle.model.proofs.Base.{get_or-set_same, get_or-set_other, below}
use Rattle.model.specs.Card.{new_tail, tail_of}
use Rattle.model.specs.declared.Tail.{Tail}
use Rattle.model.proofs.Lists.{map_below}
use Rattle.cells.specs.Cells.{byte_in, number_in, phase_in, holder_in, tail_from, card_in, tail_place, holder_place, core_place}
use Rattle.cells.specs.Changes.{with_tail, Frame}
use Rattle.cells.proofs.FitsLaws.{fits_number, fits_position, frame_then, frame_set}
use Rattle.cells.proofs.ReadLaws.{tabled_set, tail_at}
use Rattle.cells.proofs.CellLaws.{tail_cong, tail_from_same, core_in_same, card_cong, shape_cong}

module _ (w : List ℕ) where
  pub tail_read : (c : ℕ) → c < 8 → (n p : ℕ) → n ≡ number_in w (tail_place c) → p ≡ byte_in w (tail_place c + 1) → new_tail n p ≡ tail_of (card_in w) c
  unfolding tail_from
  tail_read c h n p e f = tail_cong _ _ _ _ e f ∙ sym (tail_at w c h)

  pub all_tails : map (tail_of (card_in w)) (below 8) ≡ (card_in w).tails
  unfolding card_in
  all_tails = map_below _ _ 8 (λ c h. tail_at w c h)

-- two cells put
module _ (v : List ℕ) (c : ℕ) (size : length v ≡ 423) (h : c < 8) (n : ℕ) where
  pub position_in : tail_place c + 1 < length (set v (tail_place c) n)
  position_in = rw (length-set v (tail_place c) n) (omega arith)

  module _ (p : ℕ) (l : n < 4294967296) (b : p < 256) where
    abbrev put : List ℕ
    put = set (set v (tail_place c) n) (tail_place c + 1) p

    pub tail_frame : Frame v put (tail_place c) 2
    tail_frame =
        frame_then (set v (tail_place c) n) put v (tail_place c) 2
        (frame_set v (tail_place c) 2 (tail_place c) n (omega arith) (omega arith) (fits_number c n h l))
        (frame_set (set v (tail_place c) n) (tail_place c) 2 (tail_place c + 1) p (omega arith) (omega arith) (fits_position c p h b))

    other : (i : ℕ) → (i ≡ tail_place c → ⊥) → (i ≡ tail_place c + 1 → ⊥) → get_or put i 0 ≡ get_or v i 0
    other i f g = get_or-set_other (set v (tail_place c) n) (tail_place c + 1) i p 0 g ∙ get_or-set_other v (tail_place c) i n 0 f

    low_number : n % 4294967296 ≡ n
    low_number = omega arith

    low_position : p % 256 ≡ p
    low_position = omega arith

    new_tail_lem : tail_from put (tail_place c) ≡ new_tail n p
    unfolding tail_from
    new_tail_lem =
        tail_cong _ _ _ _
        (ap (λ (x : ℕ). x % 4294967296) (get_or-set_other (set v (tail_place c) n) (tail_place c + 1) (tail_place c) p 0 (omega arith) ∙ get_or-set_same v (tail_place c) n 0 (omega arith)) ∙ low_number)
        (ap (λ (x : ℕ). x % 256) (get_or-set_same (set v (tail_place c) n) (tail_place c + 1) p 0 position_in) ∙ low_position)

    pub tail_put : card_in put ≡ with_tail (card_in v) c (new_tail n p)
    unfolding card_in
    tail_put =
        card_cong _ _ _ _ _ _ _ _ _ _ _ _ _ _
        (ap phase_in (other 0 (omega arith) (omega arith)))
        (shape_cong _ _ _ _ _ _ (byte 1 (omega arith)) (byte 2 (omega arith)) (byte 3 (omega arith)))
        (other 4 (omega arith) (omega arith))
        (byte 5 (omega arith))
        (tabled_set (λ (d : ℕ). tail_from v (tail_place d)) (λ (d : ℕ). tail_from put (tail_place d)) 8 c (new_tail 0 0) h
        (λ d q e. tail_from_same v put (tail_place d) (λ i r s. other i (omega arith) (omega arith)))
        ∙ ap (λ (t : Tail). set (map (λ (d : ℕ). tail_from v (tail_place d)) (below 8)) c t) new_tail_lem)
        (map_below _ _ 8 (λ d q. core_in_same v put (core_place d) (λ i r s. other i (omega arith) (omega arith))))
        (map_below _ _ 64 (λ d q. ap holder_in (other (holder_place d) (omega arith) (omega arith))))
      where
        byte : (i : ℕ) → i < 7 → byte_in put i ≡ byte_in v i
        byte i q = ap (λ (x : ℕ). x % 256) (other i (omega arith) (omega arith))
