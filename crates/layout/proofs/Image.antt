-- Each state with sound numbers and queues has one memory, its image; and the fresh state's is all 0.
use Prim.Native.Nat.{ℕ, zero, suc, ◌≤◌, ◌<◌}
use mathlib.Core.Path.{◌≡◌, refl, sym, ◌∙◌, ap, subst}
use mathlib.Core.Logic.{◌⊎◌, inl, inr}
use mathlib.Core.Bool.{Bool, true, false, not}
use mathlib.Core.List.{List, []}
use native.Mathlib.Omega.{arith}
use lib.Dec.{eqb, ltb}
use lib.ListN.{length, get_or, replicate, length-replicate, get_or-replicate}
use lib.Seq.{ext_get_or}
use Rattle.machine.specs.Lists.{pick, Mem}
use Rattle.machine.specs.State.{State, fresh_state, absent_thread, missing_endpoint}
use Rattle.machine.specs.Sound.{Ranges, Queues}
use Rattle.machine.proofs.Lists.{mem?}
use Rattle.summary.specs.Levels.{word_of, top_of, bits}
use Rattle.layout.specs.declared.Field.{Field}
use Rattle.layout.specs.declared.Part.{Part}
use Rattle.layout.specs.declared.Slot.{Slot}
use Rattle.layout.specs.declared.Link.{Link}
use Rattle.layout.specs.Addresses.{table_words, Name, slot, link, Valid, address, at, link_at, name_of, word}
use Rattle.layout.specs.Words.{first_of, last_of, thread_word, endpoint_word, after_in, before_in, queues_of, queue_of}
use Rattle.layout.specs.Words.{word_at, tabulate, image, occupied_in}
use Rattle.layout.specs.Shows.{Chain, Shows}
use Rattle.layout.proofs.Addresses.{name_address, address_small, named}
use Rattle.layout.proofs.Chains.{chain_first, chain_last, chain_after, chain_before, chain_of, after_none}
use Rattle.layout.proofs.Chains.{before_none}
use Rattle.layout.proofs.Standing.{stands, stands_there, queue_distinct, queue_small, queue_apart}

pub length_tabulate : (n : ℕ) (f : ℕ → ℕ) → length (tabulate n f) ≡ n
unfolding tabulate
length_tabulate zero f = refl
length_tabulate (suc n) f = ap suc (length_tabulate n (λ i. f (suc i)))

pub get_d_tabulate : (n : ℕ) (f : ℕ → ℕ) (i : ℕ) → i < n → get_or (tabulate n f) i 0 ≡ f i
unfolding tabulate
get_d_tabulate zero f i h = absurd (omega arith)
get_d_tabulate (suc n) f zero h = refl
get_d_tabulate (suc n) f (suc i) h = get_d_tabulate n (λ k. f (suc k)) i (omega arith)

pub length_image : (s : State) → length (image s) ≡ table_words
unfolding image
length_image s = length_tabulate table_words (λ i. word_at s (name_of i))

word_image : (s : State) (i : ℕ) → i < table_words → word (image s) i ≡ word_at s (name_of i)
unfolding image word
word_image s i h = get_d_tabulate table_words (λ i. word_at s (name_of i)) i h

-- The image holds at each name the word of that name.
pub image_name : (s : State) (a : Name) → Valid a → word (image s) (address a) ≡ word_at s a
image_name s a h = word_image s (address a) (address_small a h) ∙ ap (word_at s) (name_address a h)

-- Two memories with the same words at all names are one.
pub same_memory :
    (m n : List ℕ) → length m ≡ table_words → length n ≡ table_words
    → ((a : Name) → Valid a → word m (address a) ≡ word n (address a)) → m ≡ n
unfolding word
same_memory m n h g f =
    ext_get_or 0 m n (h ∙ sym g) (λ i k. let w = named i (subst (λ (j : ℕ). i < j) h k) in
    subst (λ (j : ℕ). get_or m j 0 ≡ get_or n j 0) w.here (f w.name w.valid))

module _ (s : State) (R : Ranges s) (Q : Queues s) where
  module _ (m : List ℕ) (S : Shows m s) where
    -- The links of a thread in a memory that shows the state.
    link_words :
        (t : ℕ) → t ≤ 255
        → (word m (link_at (Link.Next t)) ≡ after_in t (queue_of s t))
        × (word m (link_at (Link.Prev t)) ≡ before_in 0 t (queue_of s t))
    link_words t h = go (mem? t (queue_of s t))
      where
        go : Mem t (queue_of s t) ⊎ (Mem t (queue_of s t) → ⊥)
            → (word m (link_at (Link.Next t)) ≡ after_in t (queue_of s t))
            × (word m (link_at (Link.Prev t)) ≡ before_in 0 t (queue_of s t))
        go (inl k) =
            let w = stands s R Q t k in
            let q = w.queue in
            let c = subst (λ (l : List ℕ). Chain m q 0 l 0) w.here (S.links.chains q w.small) in
            (chain_after m q 0 t (queue_of s t) c k, chain_before m q 0 t (queue_of s t) c k)
        go (inr n) =
            let z = S.links.bare t h (λ q g k. n (subst (Mem t) (stands_there s R Q t q g k) k)) in
            (z.0 ∙ sym (after_none t (queue_of s t) n), z.1 ∙ sym (before_none 0 t (queue_of s t) n))

    shown : (a : Name) → Valid a → word m (address a) ≡ word_at s a
    shown (slot a) h = S.slots a h
    shown (link (Link.Next t)) h = (link_words t h).0
    shown (link (Link.Prev t)) h = (link_words t h).1
    shown (link (Link.Head q)) h = chain_first m q 0 (queues_of s q) (S.links.chains q h)
    shown (link (Link.Tail q)) h = chain_last m q 0 (queues_of s q) (S.links.chains q h)

    -- A memory that shows the state is its image.
    pub shows_image : m ≡ image s
    shows_image =
        same_memory m (image s) S.size (length_image s) (λ a h. shown a h ∙ sym (image_name s a h))

  -- The image shows the state.
  pub image_shows : Shows (image s) s
  image_shows =
      record {
        size = length_image s;
        links =
            record {
              chains = chained;
              small = queue_small s R Q;
              once = queue_distinct s R Q;
              apart = queue_apart s R Q;
              bare = alone;
            };
        slots = λ a h. image_name s (slot a) h;
      }
    where
      chained : (q : ℕ) → q ≤ 319 → Chain (image s) q 0 (queues_of s q) 0
      chained q h =
          chain_of (image s) q 0 (queues_of s q) (queue_distinct s R Q q h) (image_name s (link (Link.Head q)) h)
          (image_name s (link (Link.Tail q)) h)
          (λ t k. image_name s (link (Link.Next t)) (queue_small s R Q q t h k)
          ∙ ap (after_in t) (sym (stands_there s R Q t q h k)))
          (λ t k. image_name s (link (Link.Prev t)) (queue_small s R Q q t h k)
          ∙ ap (before_in 0 t) (sym (stands_there s R Q t q h k)))

      alone : (t : ℕ) → t ≤ 255 → ((q : ℕ) → q ≤ 319 → Mem t (queues_of s q) → ⊥)
          → (word (image s) (link_at (Link.Next t)) ≡ 0) × (word (image s) (link_at (Link.Prev t)) ≡ 0)
      alone t h n =
          let away : Mem t (queue_of s t) → ⊥
          = λ k. let w = stands s R Q t k in n w.queue w.small (subst (Mem t) (sym w.here) k) in (
            image_name s (link (Link.Next t)) h ∙ after_none t (queue_of s t) away,
            image_name s (link (Link.Prev t)) h ∙ before_none 0 t (queue_of s t) away,
          )

-- The summary in the image is that of the levels with a ready thread.

pub image_summary : (s : State) (w : ℕ) → w ≤ 7 → word (image s) (at (Slot.Summary w)) ≡ word_of (occupied_in s) w
image_summary s w h = image_name s (slot (Slot.Summary w)) h

pub image_top : (s : State) → word (image s) (at Slot.Top) ≡ top_of (occupied_in s)
image_top s = image_name s (slot Slot.Top) tt

-- The memory with no thread, endpoint or pending line is all 0.

bits_none : (n : ℕ) (f : ℕ → Bool) → ((k : ℕ) → f k ≡ false) → bits n f ≡ 0
unfolding bits
bits_none zero f h = refl
bits_none (suc n) f h = rw (h n, bits_none n f h)

word_none : (w : ℕ) → word_of (λ p. false) w ≡ 0
unfolding word_of
word_none w = bits_none 32 (λ k. false) (λ k. refl)

top_none : top_of (λ p. false) ≡ 0
unfolding top_of
top_none = bits_none 8 (λ w. not (eqb (word_of (λ p. false) w) 0)) (λ w. rw (word_none w))

fresh_thread : (f : Field) → thread_word absent_thread f ≡ 0
fresh_thread Field.Place = refl
fresh_thread Field.Priority = refl
fresh_thread Field.Ticks = refl
fresh_thread Field.Outcome = refl
fresh_thread Field.Badge = refl
fresh_thread Field.Message = refl
fresh_thread Field.Owes = refl
fresh_thread Field.Note = refl

fresh_endpoint : (p : Part) → endpoint_word missing_endpoint p ≡ 0
fresh_endpoint Part.Status = refl
fresh_endpoint Part.Aborting = refl
fresh_endpoint Part.Aborted = refl
fresh_endpoint Part.Cursor = refl
fresh_endpoint Part.End = refl

fresh_queues : (q : ℕ) → queues_of fresh_state q ≡ []
unfolding queues_of
fresh_queues q = go (ltb q 256)
  where
    go : (b : Bool) → pick {A = List ℕ} b [] [] ≡ []
    go true = refl
    go false = refl

fresh_word : (a : Name) → word_at fresh_state a ≡ 0
fresh_word (slot (Slot.Thread f t)) = fresh_thread f
fresh_word (slot (Slot.Endpoint p e)) = fresh_endpoint p
fresh_word (slot (Slot.Line l)) = refl
fresh_word (slot (Slot.Summary w)) = word_none w
fresh_word (slot Slot.Top) = top_none
fresh_word (slot Slot.Running) = refl
fresh_word (slot (Slot.Unused i)) = refl
fresh_word (link (Link.Next t)) = unfold queue_of after_in in refl
fresh_word (link (Link.Prev t)) = unfold queue_of before_in in refl
fresh_word (link (Link.Head q)) = ap first_of (fresh_queues q)
fresh_word (link (Link.Tail q)) = ap (last_of 0) (fresh_queues q)

pub image_fresh : image fresh_state ≡ replicate table_words 0
image_fresh =
    same_memory (image fresh_state) (replicate table_words 0)
    (length_image fresh_state) (length-replicate {A = ℕ} table_words 0)
    (λ a h. image_name fresh_state a h ∙ fresh_word a ∙ sym (zero (address a) (address_small a h)))
  where
    zero : (i : ℕ) → i < table_words → word (replicate table_words 0) i ≡ 0
    zero i h = unfold word in get_or-replicate table_words i 0 0 h
