-- Decoded states are neat, and a sound state is decoded from any memory that shows it.
use Prim.Native.Nat.{ℕ, ◌≤◌, ◌<◌}
use mathlib.Core.Path.{◌≡◌, refl, sym, ◌∙◌, ap, subst, fun_ext}
use mathlib.Core.Bool.{Bool, true, false}
use mathlib.Core.List.{List, []}
use native.Mathlib.Omega.{arith}
use lib.Dec.{leb}
use borrow.Author.Tests.{lt-leb, leb-true, leb-false}
use Rattle.machine.specs.Lists.{pick, Mem}
use Rattle.machine.specs.State.{State, quiet, awaited, absent_thread, missing_endpoint}
use Rattle.machine.specs.Sound.{Sound}
use Rattle.layout.specs.declared.Part.{Part}
use Rattle.layout.specs.declared.Slot.{Slot}
use Rattle.layout.specs.declared.Link.{Link}
use Rattle.layout.specs.Addresses.{at, link_at, word, endpoint_queue}
use Rattle.layout.specs.Words.{queues_of, endpoint_word, image}
use Rattle.layout.specs.Shows.{Shows}
use Rattle.layout.specs.Decode.{queue_from, linked, line_by, thread_from, endpoint_from, decode}
use Rattle.layout.proofs.RoundTrip.{linked_small, linked_back, line_back}
use Rattle.layout.proofs.RoundTrip.{line_small as read_small}
use Rattle.layout.proofs.Blocks.{NeatThread, thread_neat, thread_back, beyond_absent, absent_neat}
use Rattle.layout.proofs.Following.{walk_small, walk_chain, bounded_length}
use Rattle.layout.proofs.Ends.{NeatEndpoint, endpoint_neat, endpoint_back, missing_neat}
use Rattle.layout.proofs.Standing.{queues_level, queues_endpoint}
use Rattle.layout.proofs.Image.{image_shows}
use Rattle.layout.proofs.Neat.{NeatState, sound_neat}

-- An entry of a table that is empty past the index n.

module _ {A : Type 0} (n : ℕ) (x y : A) where
  pick_beyond : (i : ℕ) → n < i → pick (leb i n) x y ≡ y
  pick_beyond i h = rw (lt-leb i n h)

  -- What holds of the entry inside and of the empty one holds of what is picked.
  pick_at : (P : A → Type 0) (i : ℕ) → (i ≤ n → P x) → P y → P (pick (leb i n) x y)
  pick_at P i f q = go (leb i n) refl
    where
      go : (b : Bool) → leb i n ≡ b → P (pick b x y)
      go true e = f (leb-true i n e)
      go false e = q

  -- The entry is z, inside and past the index.
  pick_is : (i : ℕ) (z : A) → (i ≤ n → x ≡ z) → (n < i → y ≡ z) → pick (leb i n) x y ≡ z
  pick_is i z f g = go (leb i n) refl
    where
      go : (b : Bool) → leb i n ≡ b → pick b x y ≡ z
      go true e = f (leb-true i n e)
      go false e = g (leb-false i n e)

pub decode_neat : (m : List ℕ) → NeatState (decode m)
unfolding decode line_by
decode_neat m =
    record {
      threads = λ t.
          pick_at 255 (thread_from (λ f. word m (at (Slot.Thread f t)))) absent_thread (NeatThread t) t
          (thread_neat t (λ f. word m (at (Slot.Thread f t)))) (absent_neat t);
      endpoints = λ e.
          pick_at 63 (endpoint_from (λ p. word m (at (Slot.Endpoint p e))) (queue_from m (endpoint_queue e)))
          missing_endpoint
          NeatEndpoint e
          (λ _. endpoint_neat (λ p. word m (at (Slot.Endpoint p e))) (queue_from m (endpoint_queue e))
          (walk_small m 256 (word m (link_at (Link.Head (endpoint_queue e)))))) missing_neat;
      unused_endpoint = λ e h. pick_beyond 63 _ missing_endpoint e h;
      unused_line = λ l h. pick_beyond 31 _ quiet l h;
      unused_level = λ p h. pick_beyond 255 _ [] p h;
      runs_small = linked_small (word m (at Slot.Running));
      ready_small = λ p t.
          pick_at 255 (queue_from m p) [] (λ l. Mem t l → t ≤ 255) p
          (λ _. walk_small m 256 (word m (link_at (Link.Head p))) t) (λ k. absurd k);
      line_small = λ l t.
          pick_at 31 (line_by (word m (at (Slot.Line l)))) quiet (λ x. x ≡ awaited t → t ≤ 255) l
          (λ _. read_small (word m (at (Slot.Line l))) t) (read_small 0 t);
    }

module _ (m : List ℕ) (s : State) (S : Sound s) (M : Shows m s) where
  -- Each queue is walked off the memory.
  queue_back : (q : ℕ) → q ≤ 319 → queue_from m q ≡ queues_of s q
  queue_back q h =
      walk_chain m q 256 0 (queues_of s q) (M.links.chains q h)
      (bounded_length 256 (queues_of s q) (M.links.once q h) (λ t k. omega (arith, M.links.small q t h k)))
      (λ t k. M.links.small q t h k)

  -- A sound state is the one decoded from a memory that shows it.
  pub shows_decode : decode m ≡ s
  unfolding decode
  shows_decode = λ i.
      record {
        threads = fun_ext threads i;
        runs = runs i;
        levels = fun_ext levels i;
        endpoints = fun_ext endpoints i;
        lines = fun_ext lines i;
      }
    where
      N : NeatState s
      N = sound_neat s S

      threads : (t : ℕ)
          → pick (leb t 255) (thread_from (λ f. word m (at (Slot.Thread f t)))) absent_thread ≡ s.threads t
      threads t =
          pick_is 255 (thread_from (λ f. word m (at (Slot.Thread f t)))) absent_thread t (s.threads t)
          (λ h.
          ap thread_from (fun_ext (λ f. M.slots (Slot.Thread f t) h))
          ∙ thread_back t (s.threads t) (N.threads t))
          (λ h. sym (beyond_absent t (s.threads t) (N.threads t) h))

      runs : linked (word m (at Slot.Running)) ≡ s.runs
      runs = ap linked (M.slots Slot.Running tt) ∙ linked_back s.runs N.runs_small

      levels : (p : ℕ) → pick (leb p 255) (queue_from m p) [] ≡ s.levels p
      levels p =
          pick_is 255 (queue_from m p) [] p (s.levels p)
          (λ h. queue_back p (omega arith) ∙ queues_level s p h) (λ h. sym (N.unused_level p h))

      endpoint_here : (e : ℕ) → e ≤ 63
          → endpoint_from (λ p. word m (at (Slot.Endpoint p e))) (queue_from m (endpoint_queue e)) ≡ s.endpoints e
      endpoint_here e h =
          ap (λ (w : Part → ℕ). endpoint_from w (queue_from m (endpoint_queue e)))
          (fun_ext (λ p. M.slots (Slot.Endpoint p e) h))
          ∙ ap (endpoint_from (endpoint_word (s.endpoints e)))
          (queue_back (endpoint_queue e) (omega arith) ∙ queues_endpoint s e)
          ∙ endpoint_back (s.endpoints e) (N.endpoints e) (S.queues.queued_once e)

      endpoints : (e : ℕ)
          → pick (leb e 63) (endpoint_from (λ p. word m (at (Slot.Endpoint p e))) (queue_from m (endpoint_queue e)))
          missing_endpoint
          ≡ s.endpoints e
      endpoints e =
          pick_is 63 (endpoint_from (λ p. word m (at (Slot.Endpoint p e))) (queue_from m (endpoint_queue e)))
          missing_endpoint e
          (s.endpoints e) (endpoint_here e) (λ h. sym (N.unused_endpoint e h))

      lines : (l : ℕ) → pick (leb l 31) (line_by (word m (at (Slot.Line l)))) quiet ≡ s.lines l
      lines l =
          pick_is 31 (line_by (word m (at (Slot.Line l)))) quiet l (s.lines l)
          (λ h. ap line_by (M.slots (Slot.Line l) h) ∙ line_back (s.lines l) (N.line_small l))
          (λ h. sym (N.unused_line l h))

-- Of a memory that is a sound state's image, it shows the state.
pub image_stands : (m : List ℕ) (s : State) → Sound s → m ≡ image s → Shows m s
image_stands m s S e = subst (λ (n : List ℕ). Shows n s) (sym e) (image_shows s S.ranges S.queues)

-- A state's memory is no other's.
pub image_injective : (s z : State) → Sound s → Sound z → image s ≡ image z → s ≡ z
image_injective s z S Z e =
    sym (shows_decode (image s) s S (image_stands (image s) s S refl))
    ∙ shows_decode (image s) z Z (image_stands (image s) z Z e)
