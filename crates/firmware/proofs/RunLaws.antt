-- A whole tape: what is left of a run at an offset. Bytes of lent slices, a block read.
use Prim.Native.Nat.{ℕ, ◌+◌, ◌≤◌, ◌<◌}
use native.Mathlib.Omega.{arith}
use mathlib.Core.Path.{◌≡◌, refl, sym, ap, ◌∙◌, subst}
use mathlib.Core.Bool.{Bool, true, not}
use mathlib.Core.List.{List, ◌∷◌}
use lib.ListN.{length, get_or}
use lib.Dec.{ltb, eqb}
use borrow.Author.Tests.{lt-ltb, eq-eqb, ne_eqb, eqb-false, not-true}
use Rattle.model.specs.Bytes.{Bytes}
use Rattle.model.specs.Shape.{home_block}
use Rattle.model.specs.Card.{holder_of, is_held}
use Rattle.model.specs.Command.{World, Outcome, DiskStore, no_store, one_store, whole_disk, count_of, Decided, refused, carried_out}
use Rattle.model.specs.Reading.{read_number, read_block, block_reader}
use Rattle.model.specs.Tape.{Point, command_byte, next_offset, run, world_after, Command, Read, early, read_at, unknown, whole}
use Rattle.model.specs.declared.Card.{Card}
use Rattle.model.specs.Valid.{in_sequence}
use Rattle.model.proofs.Command.{command_decided}
use Rattle.model.proofs.OneStore.{done_makes}
use Rattle.model.specs.Lists.{all}
use Rattle.model.specs.Step.{done_by, next_store, done_on, step_at}
use Rattle.model.proofs.Lists.{cases, and_left, and_right, mem_all, mem_get_or}
use Rattle.model.proofs.Store.{length_block_at}
use Rattle.model.proofs.Tape.{Runs, at_end, one_more, next_past, next_within, run_runs}
use Rattle.crash.specs.Claims.{IsBytes, AreaKept, LedgerKept, ReadingsKept, Start, StartFits, Stated, start_ledger, start_service, start_world}
use Rattle.crash.specs.Spans.{SpansKeep}
use Rattle.crash.specs.ReportLimit.{WritesLimited}
use Rattle.crash.proofs.Books.Sequence.{kept_begins}
use Rattle.crash.proofs.Runs.Theorem.{claim, demands, readings}
use Rattle.crash.proofs.Runs.BroughtBack.{spans}
use Rattle.crash.proofs.Runs.ReportLimited.{report_limit}
use Rattle.crash.proofs.Books.Largest.{largest_kept}
use Rattle.cells.specs.Cells.{stores_in, Exact, world, world_in}
use Rattle.reading.specs.declared.BlockPart.{BlockPart}
use Rattle.reading.specs.Part.{slice_number, answered, part_of}
use Rattle.std.specs.Prelude.{Ok, Err}
use Rattle.model.specs.Refusal.{number_of}
use Rattle.model.specs.declared.Refusal.{Refusal}
use Rattle.reading.proofs.ReadLaws.{readable}
use Rattle.command.specs.Counting.{counted}
use Rattle.command.proofs.CountLaws.{counted_sum, counted_none, counted_more}
use Rattle.firmware.specs.Session.{stores_after, all_refused, new_stop, stop_after, read_into, part_in, DemandsMet, RunsCommand, RunsTape}
use Rattle.firmware.specs.declared.session.Reply.{Reply}
use Rattle.firmware.specs.declared.session.Stop.{Stop}
use Rattle.firmware.specs.declared.session.Part as wide

-- ---- a run in which every command was refused
refused_more : (p : Point World) (ps : List (Point World)) → all_refused (p ∷ ps) ≡ true → (p.outcome.answer ≡ 0 → ⊥) × (all_refused ps ≡ true)
unfolding all_refused all
refused_more p ps h =
    let a : Bool = not (eqb p.outcome.answer 0) in
    let b : Bool = all (λ (q : Point World). not (eqb q.outcome.answer 0)) ps in
    (eqb-false p.outcome.answer 0 (not-true (eqb p.outcome.answer 0) (and_left a b h)), and_right a b h)

-- ---- a run from an offset on
module _ (t : Bytes) where
  record RunNext (at n : ℕ) (w : World) (ps : List (Point World)) : Type 0 where
    pub rest : List (Point World)
    pub runs : Runs step_at t (next_offset t at) (n + (step_at t at w).stores) (step_at t at w).world rest
    pub world_after_lem : world_after w ps ≡ world_after (step_at t at w).world rest
    pub total : stores_after n ps ≡ stores_after (n + (step_at t at w).stores) rest
    pub held : all_refused ps ≡ true → ((step_at t at w).answer ≡ 0 → ⊥) × (all_refused rest ≡ true)
    pub last : (s : Stop) → stop_after s ps ≡ stop_after (new_stop at (step_at t at w).answer (command_byte t at)) rest

  run_next : {at n : ℕ} {w : World} {ps : List (Point World)} → Runs step_at t at n w ps → at < length t → RunNext at n w ps
  unfolding world_after stores_after stop_after
  run_next (at_end h) l = absurd (omega arith)
  run_next (one_more {at} {n} {w} {p = p} {ps = ps} k e r) l =
      record {
        rest = ps;
        runs = subst (λ (p : Point World). Runs step_at t (next_offset t at) p.stores p.outcome.world ps) e r;
        world_after_lem = ap (λ (p : Point World). world_after p.outcome.world ps) e;
        total = ap (λ (p : Point World). stores_after p.stores ps) e;
        held = λ h. let q = refused_more p ps h in (λ z. q.0 (ap (λ (p : Point World). p.outcome.answer) e ∙ z), q.1);
        last = λ s. ap (λ (p : Point World). stop_after (new_stop p.offset p.outcome.answer p.byte) ps) e;
      }

  ended : {at n : ℕ} {w : World} {ps : List (Point World)} → Runs step_at t at n w ps → length t ≤ at → (world_after w ps ≡ w) × (stores_after n ps ≡ n) × ((s : Stop) → stop_after s ps ≡ s)
  unfolding world_after stores_after stop_after
  ended (at_end h) l = (refl, refl, λ s. refl)
  ended (one_more k e r) l = absurd (omega arith)

-- ---- no run reaches the largest count: a command stores one block at most, and takes one byte of the tape at least
one_counted : (b : DiskStore) → count_of b ≤ 1
one_counted no_store = omega arith
one_counted (one_store b) = omega arith
one_counted (whole_disk e) = omega arith

done_stores : (k : Command) (w : World) → (done_by in_sequence k w).stores ≤ 1
done_stores k w = rw (done_makes in_sequence k w).stores (one_counted (next_store in_sequence k w))

read_stores : (r : Read) (w : World) → (done_on in_sequence r w).stores ≤ 1
unfolding done_on
read_stores (whole k) w = done_stores k w
read_stores unknown w = omega arith
read_stores early w = omega arith

decided_stores : {ts : List (Bool × ℕ)} {w : World} {done o : Outcome World} → Decided ts w done o → done.stores ≤ 1 → o.stores ≤ 1
decided_stores (refused n p f e) h = rw e (omega arith)
decided_stores (carried_out c e) h = rw e h

few_stores : (t : Bytes) (at : ℕ) (w : World) → (step_at t at w).stores ≤ 1
few_stores t at w = decided_stores (command_decided in_sequence t at w) (read_stores (read_at t at) w)

bounded : (t : Bytes) {at n : ℕ} {w : World} {ps : List (Point World)} → Runs step_at t at n w ps → at ≤ length t → stores_after n ps + at ≤ n + length t
unfolding stores_after
bounded t (at_end h) l = omega arith
bounded t (one_more {at} {n} {w} {p = p} {ps = ps} k e r) l =
    let q : p.stores ≡ n + (step_at t at w).stores = ap (λ (p : Point World). p.stores) e in
    omega (arith, few_stores t at w, next_past t at k, bounded t r (next_within t at l))

pub run_stores : (t : Bytes) (w : World) → length t < 18446744073709551616 → counted 0 (stores_after 0 (run step_at t w)) ≡ stores_after 0 (run step_at t w)
run_stores t w h =
    let k = stores_after 0 (run step_at t w) in
    let e : 0 + k ≡ k = omega arith in
    sym (counted_sum 0 k (omega (arith, bounded t (run_runs step_at t w) (omega arith))) (omega arith)) ∙ e

-- what is left of the run over the cells v₀, the disk d₀ and memory m₀: at an offset, over the cells v, d and m, the last command s
pub record RunLeft (t : Bytes) (v₀ : List ℕ) (d₀ m₀ : Bytes) (at : ℕ) (v : List ℕ) (d m : Bytes) (s : Stop) : Type 0 where
  pub count : ℕ
  pub points : List (Point World)
  pub runs : Runs step_at t at count (world_in v d m) points
  pub world_after_lem : world_after (world_in v d m) points ≡ world_after (world_in v₀ d₀ m₀) (run step_at t (world_in v₀ d₀ m₀))
  pub total : stores_after count points ≡ stores_after 0 (run step_at t (world_in v₀ d₀ m₀))
  pub capped : stores_in v ≡ counted (stores_in v₀) count
  pub exact : Exact v₀ → Exact v
  pub held : all_refused (run step_at t (world_in v₀ d₀ m₀)) ≡ true → (v ≡ v₀) × (all_refused points ≡ true)
  pub stops : stop_after s points ≡ stop_after (new_stop 0 0 0) (run step_at t (world_in v₀ d₀ m₀))

pub run_left_start : (t : Bytes) (v : List ℕ) (d m : Bytes) → RunLeft t v d m 0 v d m (new_stop 0 0 0)
run_left_start t v d m =
    record {
      count = 0;
      points = run step_at t (world_in v d m);
      runs = run_runs step_at t (world_in v d m);
      world_after_lem = refl;
      total = refl;
      capped = counted_none (stores_in v);
      exact = λ x. x;
      held = λ h. (refl, h);
      stops = refl;
    }

module _ (t : Bytes) (v₀ : List ℕ) (d₀ m₀ : Bytes) (at : ℕ) (v : List ℕ) (d m : Bytes) (s : Stop) (l : RunLeft t v₀ d₀ m₀ at v d m s) where
  pub run_left_more : at < length t → (u : List ℕ) (e k : Bytes) (r : Reply) → RunsCommand t at v d m u e k r → RunLeft t v₀ d₀ m₀ r.next u e k (new_stop at r.number r.byte)
  run_left_more h u e k r c =
      let f = run_next t l.runs h in
      let o = step_at t at (world_in v d m) in
      let p = c.performs in
      record {
        count = l.count + o.stores;
        points = f.rest;
        runs = rw (p.world, c.next) f.runs;
        world_after_lem = ap (λ (w : World). world_after w f.rest) p.world ∙ sym f.world_after_lem ∙ l.world_after_lem;
        total = sym f.total ∙ l.total;
        capped = p.stores ∙ ap (λ (n : ℕ). counted n o.stores) l.capped ∙ counted_more (stores_in v₀) l.count o.stores;
        exact = λ x. p.exact (l.exact x);
        held = λ h. let q = l.held h in let g = f.held q.1 in (p.refused (λ z. g.0 (sym p.answer ∙ z)) ∙ q.0, g.1);
        stops = rw (p.answer, c.byte) (sym (f.last s)) ∙ l.stops;
      }

  pub run_left_end : length t ≤ at → length t < 18446744073709551616 → DemandsMet t (world_in v₀ d₀ m₀) → RunsTape t v₀ d₀ m₀ v d m s
  run_left_end h q x =
      let f = ended t l.runs h in
      let n : stores_in v ≡ counted (stores_in v₀) (stores_after 0 (run step_at t (world_in v₀ d₀ m₀))) = l.capped ∙ ap (counted (stores_in v₀)) (sym f.1 ∙ l.total) in
      record {
        world = sym f.0 ∙ l.world_after_lem;
        stores = n;
        from_none = λ z. n ∙ ap (λ (k : ℕ). counted k (stores_after 0 (run step_at t (world_in v₀ d₀ m₀)))) z ∙ run_stores t (world_in v₀ d₀ m₀) q;
        exact = l.exact;
        refused = λ z. (l.held z).0;
        stopped = sym (f.2 s) ∙ l.stops;
        demands = x;
      }

-- ---- the elements of a lent slice are bytes
pub are_bytes : (s : Bytes) → ((i : ℕ) → get_or s i 0 < 256) → IsBytes s
are_bytes s h =
    mem_all (λ (x : ℕ). ltb x 256) s
    (λ x m. let g = mem_get_or m 0 in lt-ltb x 256 (subst (λ (y : ℕ). y < 256) g.2 (h g.0)))

-- ---- the demands, of the run over lent slices
module _ (t : Bytes) (w : World) (tape_bytes : IsBytes t) (disk_bytes : IsBytes w.disk) (memory_bytes : IsBytes w.memory) where
  -- what is shown of every start holds of a world that is one
  from_start : (Holds : Start → World → List (Point World) → Type 0)
      → ((t : Bytes) → IsBytes t → (s : Start) → StartFits s → Holds s (start_world s) (run step_at t (start_world s)))
      → (s : Start) → Stated s → w ≡ start_world s → Holds s w (run step_at t w)
  from_start Holds shown s h e =
      subst (λ (w : World). Holds s w (run step_at t w)) (sym e)
      (shown t tape_bytes s
      (record { stated = h; disk = subst (λ (w : World). IsBytes w.disk) e disk_bytes; memory = subst (λ (w : World). IsBytes w.memory) e memory_bytes }))

  pub demands_met : DemandsMet t w
  demands_met =
      record {
        claim = from_start (λ (s : Start) (w : World) (ps : List (Point World)). AreaKept (start_service in_sequence s) ps) claim;
        demands = from_start (λ (s : Start) (w : World) (ps : List (Point World)). LedgerKept (start_ledger in_sequence s) w ps) demands;
        readings = from_start (λ (s : Start) (w : World) (ps : List (Point World)). ReadingsKept block_reader (start_ledger in_sequence s) w ps) readings;
        largest = largest_kept;
        begins = λ s. kept_begins s (run step_at t w);
        spans = from_start (λ (s : Start) (w : World) (ps : List (Point World)). SpansKeep w ps) spans;
        limited = from_start (λ (s : Start) (w : World) (ps : List (Point World)). WritesLimited (start_ledger in_sequence s) ps) report_limit;
      }

-- ---- reading into a buffer
module _ (x : Card) (b : ℕ) (d m : Bytes) where
  length_read : read_number b (world x d m) ≡ 0 → length (read_block b (world x d m)) ≡ 128
  unfolding read_block
  length_read h =
      let r = readable x b d m (sym h) in
      rw (eq-eqb _ _ h)
      (cases (is_held (holder_of x b))
      (λ q. rw q (length_block_at 128 m r.memory b (omega (arith, r.below))))
      (λ q. rw q (length_block_at 257 d r.disk (home_block b) (omega (arith, r.below)))))

  pub copy_long : (n : ℕ) → n ≡ read_number b (world x d m) → n ≡ 0 → (l : Bytes) → l ≡ read_block b (world x d m) → length l ≡ 128
  copy_long n e h l q = ap length q ∙ length_read (sym e ∙ h)

  module _ (out : Bytes) where
    pub into_none : (n : ℕ) → (n ≡ 0 → ⊥) → out ≡ read_into n b (world x d m) out
    unfolding read_into
    into_none n h = simp (ne_eqb n 0 h)

    pub into_block : (l : Bytes) → l ≡ read_block b (world x d m) → l ≡ read_into 0 b (world x d m) out
    unfolding read_into
    into_block l e = e

-- ---- where a block's bytes stand
module _ (b : ℕ) (w : World) where
  pub part_there : (p : BlockPart) → answered (Ok p) ≡ part_of b w → (n : ℕ) → n ≡ slice_number p.slice
      → ◌≡◌ {A = wide.Part} (record { number = 0; slice = n; from = p.from; length = p.length }) (part_in b w)
  unfolding part_in
  part_there p e n q = rw (q, ← e)

  pub part_nowhere : (e : Refusal) → answered (Err e) ≡ part_of b w → (n : ℕ) → n ≡ number_of e
      → ◌≡◌ {A = wide.Part} (record { number = n; slice = 0; from = 0; length = 0 }) (part_in b w)
  unfolding part_in
  part_nowhere e q n h = rw (h, ← q)
