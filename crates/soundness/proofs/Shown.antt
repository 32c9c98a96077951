-- From the tests to a state: where they pass, the words are those of the state decoded from them, and the links join
-- its queues.
use Prim.Native.Nat.{ℕ, zero, suc, ◌≤◌}
use mathlib.Core.Path.{◌≡◌, refl, sym, ◌∙◌, ap}
use mathlib.Core.Bool.{true}
use mathlib.Core.List.{List}
use native.Mathlib.Omega.{arith}
use borrow.Author.Tests.{le-leb}
use Rattle.machine.specs.State.{Thread}
use Rattle.layout.specs.declared.Slot.{Slot}
use Rattle.layout.specs.Addresses.{ValidSlot, at, word, after_at, endpoint_queue}
use Rattle.layout.specs.Words.{link_of, thread_word, line_code, content, queues_of}
use Rattle.layout.specs.Shows.{Chain}
use Rattle.layout.specs.Decode.{linked, thread_from, endpoint_from, line_by, queue_from, decode}
use Rattle.layout.proofs.Standing.{Queue, level, endpoint, queue?, queues_level, queues_endpoint}
use Rattle.layout.proofs.Decode.{decode_neat}
use Rattle.soundness.specs.Checks.{endpoint_at, thread_at, ready_test, level_test}
use Rattle.soundness.proofs.Tests.{every}
use Rattle.soundness.proofs.Following.{level_split, walk_found}
use Rattle.soundness.proofs.Reading.{Reads, same_word, same_top}
use Rattle.soundness.proofs.Blocks.{block_words}
use Rattle.soundness.proofs.Ends.{SameEnd, end_words}
use Rattle.soundness.proofs.Waiters.{end_found}
use Rattle.soundness.proofs.Lines.{line_word, runs_in_range, tells_summary, tells_unused}
use Rattle.soundness.proofs.Tried.{Tried}

-- A link that is in range is written as it was read.
linked_again : (w : ℕ) → w ≤ 256 → link_of (linked w) ≡ w
unfolding linked
linked_again zero h = refl
linked_again (suc t) h = rw (le-leb t 255 (omega arith))

-- The entries of the decoded state.

module _ (m : List ℕ) where
  thread_at_lem : (t : ℕ) → t ≤ 255 → (decode m).threads t ≡ thread_from (λ f. thread_at m f t)
  unfolding decode
  thread_at_lem t h = rw (le-leb t 255 h)

  level_at : (p : ℕ) → p ≤ 255 → (decode m).levels p ≡ queue_from m p
  unfolding decode
  level_at p h = rw (le-leb p 255 h)

  end_at : (e : ℕ) → e ≤ 63
      → (decode m).endpoints e ≡ endpoint_from (λ p. endpoint_at m p e) (queue_from m (endpoint_queue e))
  unfolding decode
  end_at e h = rw (le-leb e 63 h)

  line_at : (l : ℕ) → l ≤ 31 → (decode m).lines l ≡ line_by (word m (at (Slot.Line l)))
  unfolding decode
  line_at l h = rw (le-leb l 31 h)

module _ (m : List ℕ) (T : Tried m) where
  level_joined : (p : ℕ) → p ≤ 255 → Chain m p 0 ((decode m).levels p) 0
  level_joined p h = rw (level_at m p h) (go (T.levels p (omega arith)))
    where
      go : level_test m p ≡ true → Chain m p 0 (queue_from m p) 0
      go i =
          (walk_found m p (every (ready_test m p))
          (sym (level_split m p 257 (word m (after_at p 0)) 0) ∙ (unfold level_test in i))).0

  end_same : (e : ℕ) → e ≤ 63
      → SameEnd (λ p. endpoint_at m p e) (queue_from m (endpoint_queue e)) ((decode m).endpoints e)
  end_same e h =
      let r = T.ends e (omega arith) in
      let f = end_found m e r.1 in
      rw (end_at m e h) (end_words m e (queue_from m (endpoint_queue e)) _ _ f.1 r.0.0 r.0.1 f.0)

  end_joined : (e : ℕ) → e ≤ 63 → Chain m (endpoint_queue e) 0 ((decode m).endpoints e).waiters 0
  end_joined e h = rw (end_same e h).queue (end_found m e (T.ends e (omega arith)).1).0

  chains : (q : ℕ) → q ≤ 319 → Chain m q 0 (queues_of (decode m) q) 0
  chains q h = go (queue? q h)
    where
      go : Queue q → Chain m q 0 (queues_of (decode m) q) 0
      go (level k) = rw (queues_level (decode m) q k) (level_joined q k)
      go (endpoint e k i) = rw (i, queues_endpoint (decode m) e) (end_joined e k)

  slots : (a : Slot) → ValidSlot a → word m (at a) ≡ content (decode m) a
  slots (Slot.Thread f t) h =
      sym (ap (λ (x : Thread). thread_word x f) (thread_at_lem m t h) ∙ block_words m t h (T.blocks t (omega arith)) f)
  slots (Slot.Endpoint p e) h = sym ((end_same e h).words p)
  slots (Slot.Line l) h = sym (ap line_code (line_at m l h) ∙ line_word m l (T.lines l (omega arith)))
  slots (Slot.Summary w) h =
      ((tells_summary m).holds T.summary).0 w (omega arith) ∙ same_word m (decode m) level_joined w h
  slots Slot.Top h = ((tells_summary m).holds T.summary).1 ∙ same_top m (decode m) level_joined
  slots Slot.Running h = unfold decode in sym (linked_again (word m (at Slot.Running)) (runs_in_range m T.running))
  slots (Slot.Unused i) h = (tells_unused m i).holds (T.unused i (omega arith))

  pub tried_reads : Reads m (decode m)
  tried_reads = record { neat = decode_neat m; slots = slots; chains = chains }
