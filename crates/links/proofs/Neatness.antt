-- Tables of queues stay neat where a thread joins a queue or leaves it, and who has left is free.
use Prim.Native.Nat.{ℕ, ◌≤◌}
use mathlib.Core.Path.{◌≡◌, refl, sym, subst}
use mathlib.Core.Logic.{◌⊎◌, inl, inr}
use mathlib.Core.List.{List}
use Rattle.machine.specs.Lists.{Mem, Distinct, put, without}
use Rattle.machine.proofs.Lists.{put_all, Inserted, inserted_only, inserted_once, mem_without, distinct_without}
use Rattle.layout.specs.Shows.{Linked}
use Rattle.links.specs.Links.{Free}

-- Threads in range, each in one queue at most, and there once.
pub record NeatQueues (queues : ℕ → List ℕ) : Type 0 where
  pub small : (q t : ℕ) → q ≤ 319 → Mem t (queues q) → t ≤ 255
  pub once : (q : ℕ) → q ≤ 319 → Distinct (queues q)
  pub apart : (q r t : ℕ) → q ≤ 319 → r ≤ 319 → Mem t (queues q) → Mem t (queues r) → q ≡ r

pub linked_neat : {m : List ℕ} {queues : ℕ → List ℕ} → Linked m queues → NeatQueues queues
linked_neat L = record { small = L.small; once = L.once; apart = L.apart }

-- A queue becomes l, whose threads stand in no other queue.
module _ {queues : ℕ → List ℕ} (q : ℕ) (l : List ℕ) (N : NeatQueues queues) (once : q ≤ 319 → Distinct l)
    (small : q ≤ 319 → (u : ℕ) → Mem u l → u ≤ 255)
    (apart : q ≤ 319 → (r u : ℕ) → r ≤ 319 → Mem u l → Mem u (queues r) → q ≡ r) where
  from_here : (u r : ℕ) → r ≤ 319 → Mem u (put queues q l r) → q ≤ 319 → Mem u l → q ≡ r
  from_here u =
      put_all (λ (r : ℕ) (x : List ℕ). r ≤ 319 → Mem u x → q ≤ 319 → Mem u l → q ≡ r) queues q l
      (λ _ _ _ _. refl) (λ r _ g n h k. apart h r u g k n)

  from_there : (u i r : ℕ) → i ≤ 319 → Mem u (queues i) → r ≤ 319 → Mem u (put queues q l r) → i ≡ r
  from_there u i r h k =
      put_all (λ (r : ℕ) (x : List ℕ). r ≤ 319 → Mem u x → i ≡ r) queues q l
      (λ g n. sym (apart g i u h n k)) (λ r _ g n. N.apart i r u h g k n) r

  neat_put : NeatQueues (put queues q l)
  neat_put =
      record {
        small = λ r u.
            put_all (λ (j : ℕ) (x : List ℕ). j ≤ 319 → Mem u x → u ≤ 255) queues q l (λ h. small h u)
            (λ j _. N.small j u) r;
        once =
            put_all (λ (j : ℕ) (x : List ℕ). j ≤ 319 → Distinct x) queues q l once (λ j _. N.once j);
        apart = λ i r u h g k n.
            put_all (λ (j : ℕ) (x : List ℕ). j ≤ 319 → Mem u x → j ≡ r) queues q l
            (λ f y. from_here u r g n f y) (λ j _ f y. from_there u j r f y g n) i h k;
      }

module _ {queues : ℕ → List ℕ} (q t : ℕ) (N : NeatQueues queues) where
  pub neat_join : {l : List ℕ} → Inserted t (queues q) l → Free queues t → t ≤ 255 → NeatQueues (put queues q l)
  neat_join {l} I free small =
      neat_put q l N (λ h. inserted_once I (N.once q h) (free q h))
      (λ h u k. in_range_lem h u (inserted_only I u k)) (λ h r u g k n. in_one h r u g n (inserted_only I u k))
    where
      in_range_lem : q ≤ 319 → (u : ℕ) → Mem u (queues q) ⊎ (u ≡ t) → u ≤ 255
      in_range_lem h u (inl k) = N.small q u h k
      in_range_lem h u (inr e) = rw e small

      in_one : q ≤ 319 → (r u : ℕ) → r ≤ 319 → Mem u (queues r) → Mem u (queues q) ⊎ (u ≡ t) → q ≡ r
      in_one h r u g n (inl k) = N.apart q r u h g k n
      in_one h r u g n (inr e) = absurd (free r g (subst (λ (v : ℕ). Mem v (queues r)) e n))

  pub neat_leave : NeatQueues (put queues q (without t (queues q)))
  neat_leave =
      neat_put q (without t (queues q)) N (λ h. distinct_without t (queues q) (N.once q h))
      (λ h u k. N.small q u h (mem_without t u (queues q) k).0)
      (λ h r u g k n. N.apart q r u h g (mem_without t u (queues q) k).0 n)

  pub free_leave : q ≤ 319 → Mem t (queues q) → Free (put queues q (without t (queues q))) t
  free_leave h k =
      put_all (λ (r : ℕ) (x : List ℕ). r ≤ 319 → Mem t x → ⊥) queues q (without t (queues q))
      (λ _ n. (mem_without t t (queues q) n).1 refl) (λ r d g n. d (N.apart r q t g h n k))
