-- Beginning an abort: the first and the last sender of a queue in which all send or all receive.
use Prim.Native.Nat.{ℕ, ◌+◌, ◌≤◌}
use mathlib.Core.Path.{◌≡◌, refl, sym, ◌∙◌, ap}
use mathlib.Core.Logic.{◌⊎◌, inl, inr}
use mathlib.Core.Option.{some}
use mathlib.Core.List.{List, []}
use Rattle.machine.specs.Lists.{Mem}
use Rattle.machine.specs.State.{State, Thread, sending, receiving, Abort}
use Rattle.machine.specs.Endpoints.{is_sending, senders, set_abort}
use Rattle.machine.specs.Aborts.{join, begin}
use Rattle.machine.proofs.Lists.{only_nil, only_all, only_none}
use Rattle.layout.specs.Addresses.{endpoint_queue}
use Rattle.layout.specs.Words.{first_of, last_of, queues_of}
use Rattle.layout.specs.Shows.{Shows}
use Rattle.layout.proofs.Standing.{queues_endpoint}
use Rattle.links.specs.Links.{Last}
use Rattle.layout.proofs.Chains.{first_zero}
use Rattle.store.specs.Steps.{Shown, Does, Tells}
use Rattle.store.specs.Store.{SetsAbort}
use Rattle.debts.specs.Debts.{PairInRange, AllAt, Alike, BeginsAbort, FirstAt, first_sender, last_sender}

-- The senders among waiters that all send, and that all receive.
module _ (threads : ℕ → Thread) (e : ℕ) (l : List ℕ) where
  all_send : ((u : ℕ) → Mem u l → (threads u).place ≡ sending e) → senders threads l ≡ l
  all_send h = only_all (λ t. is_sending (threads t).place) l (λ u k. ap is_sending (h u k))

  all_receive : ((u : ℕ) → Mem u l → (threads u).place ≡ receiving e) → senders threads l ≡ []
  all_receive h = only_none (λ t. is_sending (threads t).place) l (λ u k. ap is_sending (h u k))

  no_waiter : l ≡ [] → senders threads l ≡ []
  no_waiter k = ap (senders threads) k ∙ only_nil (λ t. is_sending (threads t).place)

-- The last.
module _ {m : List ℕ} {e r : ℕ} (F : FirstAt m e (2 + e) r) where
  pub last_sends : {d : ℕ} → (r ≡ 0 → ⊥) → Last m (endpoint_queue e) d → Tells m (Alike e) d (last_sender e)
  last_sends {d} z k = record { tells = λ s M A. go s M A.endpoint ((F.sends refl).tells s M A) A.alike }
    where
      last_waiter : (s : State) → Shows m s → e ≤ 63 → d ≡ last_of 0 (s.endpoints e).waiters
      last_waiter s M h =
          k.last (queues_of s) M.links ∙ ap (last_of 0) (queues_endpoint s e)

      go : (s : State) → Shows m s → e ≤ 63 → r ≡ first_sender e s
          → AllAt (sending e) e s ⊎ AllAt (receiving e) e s → d ≡ last_sender e s
      go s M h j (inl f) =
          last_waiter s M h ∙ sym (ap (last_of 0) (all_send s.threads e (s.endpoints e).waiters f))
      go s M h j (inr f) =
          absurd (z (j ∙ ap first_of (all_receive s.threads e (s.endpoints e).waiters f)))

-- The abort that begins.
abbrev begun : ℕ → ℕ → State → Abort
begun e b s = record { badge = b; pending = senders s.threads (s.endpoints e).waiters }

module _ {m n : List ℕ} {t e b c d : ℕ} (C : FirstAt m e (2 + e) c)
    (D : Tells m (Alike e) d (last_sender e)) (A : SetsAbort m e 1 b c d n) where
  stands : (s : State) → Shows m s → BeginsAbort t e s → Shows n (set_abort e (some (begun e b s)) s)
  stands s M B =
      (A.some (begun e b s) refl refl ((C.sends refl).tells s M B.waiters) (D.tells s M B.waiters)).shows s M
      B.waiters.endpoint

  range : (s : State) → BeginsAbort t e s → PairInRange t e (set_abort e (some (begun e b s)) s)
  range s B = record { thread = B.thread; endpoint = B.waiters.endpoint }

  pub beginner_asked : Shown m (BeginsAbort t e) → Shown n (PairInRange t e)
  beginner_asked S =
      record {
        state = set_abort e (some (begun e b S.state)) S.state;
        shows = stands S.state S.shows S.holds;
        holds = range S.state S.holds;
      }

  pub begins : {o : List ℕ} → Does n o (PairInRange t e) (join t e) → Does m o (BeginsAbort t e) (begin t e b)
  unfolding begin
  begins J =
      record {
        shows = λ s M B. J.shows (set_abort e (some (begun e b s)) s) (stands s M B) (range s B);
      }
