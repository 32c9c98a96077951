-- A memory in which one queue is linked anew, and its level's mark with it, shows the state with that queue changed.
use Prim.Native.Nat.{ℕ, ◌-◌, ◌≤◌}
use mathlib.Core.Path.{◌≡◌, refl, sym, ◌∙◌, ap, subst}
use mathlib.Core.Bool.{Bool, true, false}
use mathlib.Core.List.{List}
use native.Mathlib.Omega.{arith}
use lib.Dec.{ltb}
use borrow.Author.Tests.{lt-ltb, ltb-true, ltb-false}
use lib.ListN.{length}
use Rattle.machine.specs.Lists.{put}
use Rattle.machine.specs.State.{State, Endpoint, set_level, set_endpoint}
use Rattle.machine.specs.Scheduling.{occupied}
use Rattle.machine.proofs.Lists.{Same, same, other, same?, put_same, put_other, put_self}
use Rattle.layout.specs.declared.Part.{Part}
use Rattle.layout.specs.declared.Slot.{Slot}
use Rattle.layout.specs.Addresses.{ValidSlot, at, word, endpoint_queue}
use Rattle.layout.specs.Words.{endpoint_word, content, queues_of, occupied_in}
use Rattle.layout.specs.Shows.{Linked, Shows}
use Rattle.layout.proofs.Stores.{linked_keep, linked_same}
use Rattle.links.specs.Links.{OnlyLinks}
use Rattle.store.specs.Levels.{SummaryWords, NotSummary, SetsLevel}

-- The queues and the occupied levels of a state in which one entry is another.

pub queues_level :
    (s : State) (p : ℕ) (l : List ℕ) → p ≤ 255 → (q : ℕ) → queues_of (set_level p l s) q ≡ put (queues_of s) p l q
unfolding queues_of
queues_level s p l h q = go (same? q p)
  where
    go : Same q p → queues_of (set_level p l s) q ≡ put (queues_of s) p l q
    go (same e _) =
        rw (e, put_same s.levels p l, put_same (queues_of s) p l, lt-ltb p 256 (omega arith))
    go (other d _) = rw (put_other s.levels p q l d, put_other (queues_of s) p q l d)

pub queues_endpoint :
    (s : State) (e : ℕ) (x : Endpoint) → e ≤ 63 → (q : ℕ)
    → queues_of (set_endpoint e x s) q ≡ put (queues_of s) (endpoint_queue e) x.waiters q
unfolding queues_of
queues_endpoint s e x h q = go (ltb q 256) refl (same? (q - 256) e)
  where
    go : (b : Bool) → ltb q 256 ≡ b → Same (q - 256) e
        → queues_of (set_endpoint e x s) q ≡ put (queues_of s) (endpoint_queue e) x.waiters q
    go true k _ =
        let d : q ≡ endpoint_queue e → ⊥ = λ j. omega (arith, ltb-true q 256 k) in
        rw (put_other (queues_of s) (endpoint_queue e) q x.waiters d, k)
    go false k (same j _) =
        let i : q ≡ endpoint_queue e = omega (arith, ltb-false q 256 k) in
        rw (k, j, put_same s.endpoints e x) (sym (rw (i) (put_same (queues_of s) (endpoint_queue e) x.waiters)))
    go false k (other d _) =
        let n : q ≡ endpoint_queue e → ⊥ = λ i. d (omega (arith, i)) in
        rw (put_other (queues_of s) (endpoint_queue e) q x.waiters n, k, put_other s.endpoints e (q - 256) x d)

pub occupied_level :
    (s : State) (p : ℕ) (l : List ℕ) → put (occupied_in s) p (occupied l) ≡ occupied_in (set_level p l s)
occupied_level s p l = λ i k. go k (same? k p) i
  where
    go : (k : ℕ) → Same k p → put (occupied_in s) p (occupied l) k ≡ occupied_in (set_level p l s) k
    go k (same e _) = rw (e, put_same (occupied_in s) p (occupied l), put_same s.levels p l)
    go k (other d _) = rw (put_other (occupied_in s) p k (occupied l) d, put_other s.levels p k l d)

-- Level p becomes l.

module _ {m : List ℕ} {s : State} (p : ℕ) (l : List ℕ) (h : p ≤ 255) (M : Shows m s) where
  level_slots :
      (n : List ℕ) → ((a : Slot) → ValidSlot a → NotSummary a → word n (at a) ≡ word m (at a))
      → SummaryWords n (occupied_in (set_level p l s)) → (a : Slot) → ValidSlot a
      → word n (at a) ≡ content (set_level p l s) a
  level_slots n k w (Slot.Thread f t) v = k (Slot.Thread f t) v tt ∙ M.slots (Slot.Thread f t) v
  level_slots n k w (Slot.Endpoint f e) v = k (Slot.Endpoint f e) v tt ∙ M.slots (Slot.Endpoint f e) v
  level_slots n k w (Slot.Line j) v = k (Slot.Line j) v tt ∙ M.slots (Slot.Line j) v
  level_slots n k w (Slot.Summary j) v = w.words j v
  level_slots n k w Slot.Top v = w.top
  level_slots n k w Slot.Running v = k Slot.Running v tt ∙ M.slots Slot.Running v
  level_slots n k w (Slot.Unused i) v = k (Slot.Unused i) v tt ∙ M.slots (Slot.Unused i) v

  level_shows :
      (n : List ℕ) → length n ≡ length m → Linked n (put (queues_of s) p l)
      → ((a : Slot) → ValidSlot a → NotSummary a → word n (at a) ≡ word m (at a))
      → SummaryWords n (occupied_in (set_level p l s)) → Shows n (set_level p l s)
  level_shows n size L k w =
      record {
        size = size ∙ M.size;
        links =
            linked_same n (put (queues_of s) p l) (queues_of (set_level p l s)) (λ q _. queues_level s p l h q) L;
        slots = level_slots n k w;
      }

  kept_words : (n : List ℕ) → OnlyLinks m n → SummaryWords n (occupied_in s)
  kept_words n K =
      record {
        words = λ w v. K.slots (Slot.Summary w) v ∙ M.slots (Slot.Summary w) v;
        top = K.slots Slot.Top tt ∙ M.slots Slot.Top tt;
      }

  -- The mark of the level says whether l is empty.
  pub level_marked :
      {n o : List ℕ} {x : Bool} → OnlyLinks m n → Linked n (put (queues_of s) p l) → SetsLevel n p x o → x ≡ occupied l
      → Shows o (set_level p l s)
  level_marked {n} {o} {x} K L D e =
      level_shows o (D.size ∙ K.size) (linked_keep n o D.links (put (queues_of s) p l) L)
      (λ a v k. D.slots a v k ∙ K.slots a v)
      (subst (λ f. SummaryWords o f) (ap (put (occupied_in s) p) e ∙ occupied_level s p l)
      (D.marked (occupied_in s) (kept_words n K)))

  -- l is as empty as the queue before it.
  pub level_unmarked :
      {n : List ℕ} → OnlyLinks m n → Linked n (put (queues_of s) p l) → occupied l ≡ occupied (s.levels p)
      → Shows n (set_level p l s)
  level_unmarked {n} K L e =
      level_shows n K.size L (λ a v k. K.slots a v)
      (subst (λ f. SummaryWords n f)
      (sym (put_self (occupied_in s) p (occupied l) e) ∙ occupied_level s p l) (kept_words n K))

-- The waiters of endpoint e become l.

abbrev pub waited : ℕ → List ℕ → State → State
waited e l s =
    set_endpoint e (record { status = (s.endpoints e).status; waiters = l; abort = (s.endpoints e).abort }) s

module _ (s : State) (e : ℕ) (l : List ℕ) where
  same_words :
      (f : Part) → endpoint_word (record {
        status = (s.endpoints e).status;
        waiters = l;
        abort = (s.endpoints e).abort;
      }) f ≡ endpoint_word (s.endpoints e) f
  same_words Part.Status = refl
  same_words Part.Aborting = refl
  same_words Part.Aborted = refl
  same_words Part.Cursor = refl
  same_words Part.End = refl

  endpoint_words :
      (f : Part) (u : ℕ) → Same u e → endpoint_word ((waited e l s).endpoints u) f ≡ endpoint_word (s.endpoints u) f
  endpoint_words f u (same j _) = rw (j, put_same s.endpoints e) (same_words f)
  endpoint_words f u (other d _) = rw (put_other s.endpoints e u _ d)

  waited_content : (a : Slot) → content (waited e l s) a ≡ content s a
  waited_content (Slot.Thread f t) = refl
  waited_content (Slot.Endpoint f u) = endpoint_words f u (same? u e)
  waited_content (Slot.Line j) = refl
  waited_content (Slot.Summary j) = refl
  waited_content Slot.Top = refl
  waited_content Slot.Running = refl
  waited_content (Slot.Unused i) = refl

  pub waiters_linked :
      {m n : List ℕ} → e ≤ 63 → Shows m s → OnlyLinks m n → Linked n (put (queues_of s) (endpoint_queue e) l)
      → Shows n (waited e l s)
  waiters_linked {n = n} h M K L =
      record {
        size = K.size ∙ M.size;
        links =
            linked_same n (put (queues_of s) (endpoint_queue e) l) (queues_of (waited e l s))
            (λ q _. queues_endpoint s e _ h q) L;
        slots = λ a v. K.slots a v ∙ M.slots a v ∙ sym (waited_content a);
      }
