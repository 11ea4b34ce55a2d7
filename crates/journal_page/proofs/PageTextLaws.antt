-- The whole page laid into one text: each line behind those before it.
use lib.Seq.{take_at}
use borrow.Author.Rules.{rules}
use Rattle.model.proofs.Base.{ℕ, ◌+◌, ◌-◌, ◌*◌, ◌≤◌, ◌<◌, arith, add-one, ◌≡◌, refl, sym, ap, ap₂, ◌∙◌, List, [], ◌∷◌, ◌++◌, append_assoc, append-nil, length, get_or}
use Rattle.model.proofs.Base.{take, drop, length-take, length-drop, length-append, take_all, take-suc, flat_map, Bytes}
use Rattle.model.specs.JournalPage.{line_bytes, page_of, line_at, laid}
use Rattle.model.specs.JournalPage as page
use Rattle.model.proofs.Lists.{flat_map_append}
use Rattle.journal_page.specs.Fields.{max_lines}
use Rattle.journal_page.proofs.PageLaws.{line_length, lay_done}

-- a line laid into 65 bytes of the text
laid_part : (fs : List page.Field) (text : Bytes) (i : ℕ) → 65 * i + 65 ≤ length text
    → laid fs (take (65 * i + 65 - 65 * i) (drop (65 * i) text)) ≡ line_bytes fs
laid_part fs text i h =
    let l : length (take (65 * i + 65 - 65 * i) (drop (65 * i) text)) ≡ 65 = simp (length-take, length-drop) (omega arith) in
    (lay_done fs _ l).1

lines_more : (p : List (List page.Field)) (i : ℕ) → i < length p
    → flat_map line_bytes (take (i + 1) p) ≡ flat_map line_bytes (take i p) ++ line_bytes (get_or p i [])
unfolding flat_map
lines_more p i h =
    rw (add-one i, take-suc p i [] h, flat_map_append line_bytes (take i p) (get_or p i [] ∷ []))
    (ap (λ (l : Bytes). flat_map line_bytes (take i p) ++ l) (append-nil (line_bytes (get_or p i []))))

-- the text, which keeps its length, has the first i of n lines
module _ (d before : Bytes) (n : ℕ) where
  pub record LinesLaid (text : Bytes) (i : ℕ) : Type 0 where
    pub most : i ≤ n
    pub size : length text ≡ length before
    pub same : take (65 * i) text ≡ flat_map line_bytes (take i (page_of d))

  pub page_start : LinesLaid before 0
  unfolding flat_map
  page_start = record { most = omega arith; size = refl; same = refl }

  module _ (text : Bytes) (i : ℕ) (w : LinesLaid text i) (e : n ≡ length (page_of d)) where
    pub page_more : (line : Bytes) → line ≡ laid (line_at d i) (take (65 * i + 65 - 65 * i) (drop (65 * i) text)) → i < n → n ≤ max_lines → max_lines * 65 ≤ length before
        → LinesLaid (take (65 * i) text ++ (line ++ drop (65 * i + 65 - 65 * i) (drop (65 * i) text))) (i + 1)
    unfolding line_at
    page_more line q h l f =
        let room : 65 * i + 65 ≤ length text = omega (arith, w.size) in
        let whole : line ≡ line_bytes (line_at d i) = q ∙ laid_part (line_at d i) text i room in
        let long : length line ≡ 65 = ap length whole ∙ line_length (line_at d i) in
        let front : length (take (65 * i) text ++ line) ≡ 65 * (i + 1) = simp (length-append, length-take) (omega arith) in
        let rest = drop (65 * i + 65 - 65 * i) (drop (65 * i) text) in
        record {
          most = omega arith;
          size = simp (length-append, length-take, length-drop) (omega (arith, w.size));
          same =
              ap (take (65 * (i + 1))) (sym (append_assoc (take (65 * i) text) line rest))
              ∙ take_at (take (65 * i) text ++ line) rest (65 * (i + 1)) front
              ∙ ap₂ ◌++◌ w.same whole
              ∙ sym (lines_more (page_of d) i (omega arith));
        }

    pub page_end : n ≤ i → take (65 * n) text ≡ flat_map line_bytes (page_of d)
    page_end h =
        let z : i ≡ n = omega (arith, w.most) in
        ap (λ (k : ℕ). take (65 * k) text) (sym z) ∙ w.same ∙ ap (flat_map line_bytes) (take_all i (page_of d) (omega arith))

pub ruleset lines_laid = (rules, page_start, page_more, page_end)
