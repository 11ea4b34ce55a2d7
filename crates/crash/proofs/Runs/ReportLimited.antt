-- For paper 02's (h): a WRITE of the report task that is carried out leaves the blocks of its transaction as they were, or at most three.
-- Otherwise the ledger's 36 refuses it: in any book a WRITE gives its transaction one block more, or leaves its blocks as they are.
use Rattle.model.proofs.Base.{ℕ, ◌<◌, arith, ◌≡◌, refl, sym, ap, ◌∙◌, ◌⊎◌, inl, inr, false, List, [], ◌∷◌, ◌++◌, length, length-append, lt-ltb, ltb-false, Bytes}
use Rattle.model.specs.Card.{new_name}
use Rattle.model.specs.Limits.{max_report_taken}
use Rattle.model.specs.Command.{World}
use Rattle.model.specs.Tape.{Point, Read, WRITE, report_task, whole, run, heard}
use Rattle.model.specs.Valid.{in_sequence}
use Rattle.model.specs.Step.{step_at}
use Rattle.model.specs.declared.Name.{Name}
use Rattle.model.proofs.Lists.{cases}
use Rattle.model.proofs.Command.{refusal_clear}
use Rattle.crash.specs.Book.{Book, Entry, has_running, Meeting, no_holder, own, running_holder, closed_holder, running, staged, taking, naming, change, begin, ruled, note, write_book}
use Rattle.crash.specs.Service.{noted}
use Rattle.crash.specs.Ledger.{Ledger, writer_blocks, limit_passes, write_refusals, refusals_of, answer_of, carried_out, entered}
use Rattle.crash.specs.Claims.{PointKept, LedgerKept, start_ledger, start_world, entered_point}
use Rattle.crash.specs.ReportLimit.{FewTaken, WriteLimited, WritesLimited, ReportLimit}
use Rattle.crash.proofs.Books.BookEntries.{change_at, change_by}
use Rattle.crash.proofs.Runs.Theorem.{demands}

-- ---- of any book
abbrev Grown : List ℕ → List ℕ → Type 0
Grown before after = (after ≡ before) ⊎ (length before < length after)

longer : (before : List ℕ) (b : ℕ) → length before < length (before ++ (b ∷ []))
longer before b = rw (length-append before (b ∷ [])) (omega arith)

ruled_grown : (m : Meeting) (t : Name) (b : ℕ) (entry : Name → Entry) → Grown (entry t).blocks (ruled m t b entry t).blocks
unfolding ruled
ruled_grown no_holder t b entry = inr (rw (change_at t (taking b) entry) (longer (entry t).blocks b))
ruled_grown own t b entry = inl refl
ruled_grown (running_holder u) t b entry =
    let blocks : Entry → List ℕ = λ e. e.blocks in
    inl (change_by u (naming t) (change t (naming u) entry) blocks refl t ∙ change_by t (naming u) entry blocks refl t)
ruled_grown (closed_holder u) t b entry = inr (rw (change_at t (λ (e : Entry). taking b (naming u e)) entry) (longer (entry t).blocks b))

module _ (c b o : ℕ) (v : Bytes) (k : Book) where
  write_grown : Grown (writer_blocks c k k) (writer_blocks c k (write_book c b o v k))
  unfolding writer_blocks write_book note begin
  write_grown =
      let t = new_name c (k.next c) in
      cases (has_running k c)
      (λ e. rw e (ruled_grown _ t b k.entry))
      (λ e. rw (e, ← change_by t (staged running) k.entry (λ (e : Entry). e.blocks) refl t) (ruled_grown _ t b (change t (staged running) k.entry)))

  unpassed_few : limit_passes max_report_taken c k (write_book c b o v k) ≡ false → FewTaken c k (write_book c b o v k)
  unfolding limit_passes
  unpassed_few h =
      elim write_grown [
        | inl e ↦ inl e
        | inr more ↦ inr (ltb-false max_report_taken (length (writer_blocks c k (write_book c b o v k))) (rw (lt-ltb _ _ more) at h))
      ]

-- ---- along a run
passed : (c b o : ℕ) (v : Bytes) (l : Ledger) → answer_of (whole (WRITE report_task c b o v)) l ≡ 0 → limit_passes max_report_taken c l.book (write_book c b o v l.book) ≡ false
unfolding answer_of refusals_of write_refusals
passed c b o v l h =
    let z = refusal_clear _ (omega arith, (omega arith, (omega arith, (omega arith, (omega arith, (omega arith, (omega arith, (omega arith, (omega arith, tt))))))))) h in
    z.1.1.1.1.1.1.0

point_limited : {l : Ledger} {w : World} {p : Point World} → PointKept l w p → WriteLimited l p
unfolding entered_point heard entered carried_out noted
point_limited {l} {w} {p} h c b o v e z =
    rw (e, z) (unpassed_few c b o v l.book (passed c b o v l (ap (λ (r : Read). answer_of r l) (sym e) ∙ sym h.answer ∙ z)))

pub writes_limited : (l : Ledger) (w : World) (ps : List (Point World)) → LedgerKept l w ps → WritesLimited l ps
writes_limited l w [] h = tt
writes_limited l w (p ∷ ps) h = (point_limited h.0, writes_limited (entered_point p l) p.outcome.world ps h.1)

pub report_limit : ReportLimit in_sequence step_at
report_limit tape is_bytes s fits = writes_limited (start_ledger in_sequence s) (start_world s) (run step_at tape (start_world s)) (demands tape is_bytes s fits)
