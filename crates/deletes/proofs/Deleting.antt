-- The ends of a delete: broken off with somebody left, or with the endpoint gone; and what comes before the removal.
use Prim.Native.Nat.{ℕ, ◌≤◌}
use mathlib.Core.Path.{◌≡◌, refl, sym, ◌∙◌, ap, subst}
use mathlib.Core.List.{List, []}
use Rattle.std.specs.Prelude.{Ok, Err}
use Rattle.calls.specs.declared.Answer.{Answer}
use Rattle.calls.specs.declared.Refusal.{Refusal}
use Rattle.machine.specs.State.{State, Status, missing, live, closing, missing_endpoint, set_endpoint}
use Rattle.machine.specs.Endpoints.{drop_debt, end_abort}
use Rattle.machine.specs.Results.{Result, accept}
use Rattle.calls.specs.Answers.{plain, counted, code_of}
use Rattle.machine.specs.Aborts.{deleted, delete_from, delete_at, delete}
use Rattle.machine.proofs.Preserved.Mid.{sound_mid}
use Rattle.layout.specs.Addresses.{endpoint_queue}
use Rattle.layout.specs.Shows.{Shows}
use Rattle.links.specs.Links.{First}
use Rattle.store.specs.Steps.{Shown, Does}
use Rattle.store.specs.Store.{IsThread, IsEndpoint, SetsStatus}
use Rattle.queues.specs.Queues.{Chooses}
use Rattle.debts.specs.Debts.{EndsAbort}
use Rattle.endings.specs.Results.{Calling, Performs, Accepts}
use Rattle.endings.specs.Tests.{Tests, endpoint_there}
use Rattle.endings.proofs.Ends.{performs_as, performs_after, shown_for}
use Rattle.endings.proofs.Tests.{missing_refused, there_standing}
use Rattle.endings.proofs.Conditions.{mid_chooses, running_thread}
use Rattle.deletes.specs.Deletes.{Closes, removal, Removes}
use Rattle.deletes.proofs.Closing.{closes_ended, closes_removal, closes_bare, closes_missing}
use Rattle.deletes.proofs.Removing.{nobody, somebody}

-- After the removal.

module _ {m n : List ℕ} {e a c : ℕ} (R : Removes m e a c n) where
  after : (s : State) → Closes e s → Closes e (removal a e s).state
  after s C = closes_removal a C

  pub removed_shown : Shown m (Closes e) → Shown n (Closes e)
  removed_shown S =
      record {
        state = (removal a e S.state).state;
        shows = R.shows S.state S.shows S.holds;
        holds = after S.state S.holds;
      }

  pub broken_asked : Shown m (Closes e) → Shown n Chooses
  broken_asked S = shown_for (removed_shown S) (λ s C. mid_chooses C.mid)

  module _ {r : ℕ} (F : First n (endpoint_queue e) r) where
    -- Somebody is left.
    pub broken_off :
        {b : Answer} {o : List ℕ} → (r ≡ 0 → ⊥) → Accepts n (counted 2 c) b Chooses o
        → Performs m o b (Closes e) (delete_from e a)
    unfolding delete_from deleted
    broken_off {o = o} z A =
        record {
          answers = λ s M C.
              (A.performs []).answers (removal a e s).state (R.shows s M C) (mid_chooses (after s C).mid)
              ∙ ap (counted 2) (R.counts s M C) ∙ sym (ap (λ (x : Result). x.answer) (whole s M C));
          shows = λ s M C.
              subst (λ (x : Result). Shows o x.state) (sym (whole s M C))
              ((A.performs []).shows (removal a e s).state (R.shows s M C) (mid_chooses (after s C).mid));
        }
      where
        whole :
            (s : State) → Shows m s → Closes e s
            → delete_from e a s ≡ accept (counted 2 (removal a e s).count) [] (removal a e s).state
        whole s M C =
            ap (λ (l : List ℕ). deleted l e (removal a e s)) (somebody e F (removal a e s).state (R.shows s M C) z).1

    -- Nobody is left.
    module _ (z : r ≡ 0) {o : List ℕ} (W : SetsStatus n e 0 o) where
      empty : (s : State) → Shows m s → Closes e s → ((removal a e s).state.endpoints e).waiters ≡ []
      empty s M C = nobody e F (removal a e s).state (R.shows s M C) z

      gone : (s : State) → Shows m s → Closes e s → Shows o (set_endpoint e missing_endpoint (removal a e s).state)
      gone s M C =
          let x : State = (removal a e s).state in
          let N = (W.does missing refl).shows x (R.shows s M C) C.endpoint in
          rw (empty s M C, closes_bare (after s C)) at N

      chooses : (s : State) → Shows m s → Closes e s → Chooses (set_endpoint e missing_endpoint (removal a e s).state)
      chooses s M C = mid_chooses (closes_missing (after s C) (empty s M C))

      pub gone_asked : Shown m (Closes e) → Shown o Chooses
      gone_asked S =
          record {
            state = set_endpoint e missing_endpoint (removal a e S.state).state;
            shows = gone S.state S.shows S.holds;
            holds = chooses S.state S.shows S.holds;
          }

      pub deleted_all :
          {b : Answer} {o' : List ℕ} → Accepts o (counted 0 c) b Chooses o'
          → Performs m o' b (Closes e) (delete_from e a)
      unfolding delete_from deleted
      deleted_all {o' = o'} A =
          record {
            answers = λ s M C.
                (A.performs []).answers (set_endpoint e missing_endpoint (removal a e s).state) (gone s M C)
                (chooses s M C)
                ∙ ap (counted 0) (R.counts s M C) ∙ sym (ap (λ (x : Result). x.answer) (whole s M C));
            shows = λ s M C.
                subst (λ (x : Result). Shows o' x.state) (sym (whole s M C))
                ((A.performs []).shows (set_endpoint e missing_endpoint (removal a e s).state) (gone s M C)
                (chooses s M C));
          }
        where
          whole :
              (s : State) → Shows m s → Closes e s
              → delete_from e a s
              ≡ accept (counted 0 (removal a e s).count) [] (set_endpoint e missing_endpoint (removal a e s).state)
          whole s M C = ap (λ (l : List ℕ). deleted l e (removal a e s)) (empty s M C)

-- Before it.

module _ {m : List ℕ} {t e : ℕ} where
  pub no_endpoint :
      {why : Refusal} (a : ℕ) → Tests m (IsEndpoint e) (Err why) (endpoint_there e)
      → Performs m m (plain (code_of why)) (Calling t (e ≤ 63)) (delete t e a)
  unfolding delete delete_at
  no_endpoint a T = missing_refused (λ x s. delete_at x t e a s) (λ s C. C.numbers) (λ s. refl) T

  pub endpoint_asked : Shown m (Calling t (e ≤ 63)) → Shown m (IsEndpoint e)
  endpoint_asked S = shown_for S (λ s C. C.numbers)

  module _ (T : Tests m (IsEndpoint e) (Ok tt) (endpoint_there e)) where
    there : (s : State) → Shows m s → Calling t (e ≤ 63) s → (s.endpoints e).status ≡ missing → ⊥
    there s M C = there_standing T s M C.numbers

    caller : (s : State) → Calling t (e ≤ 63) s → t ≤ 255
    caller s C = running_thread (sound_mid C.sound) C.runs

    closes : (s : State) → Shows m s → Calling t (e ≤ 63) s → Closes e (end_abort closing e (drop_debt t s))
    closes s M C = closes_ended t (sound_mid C.sound) C.numbers (there s M C)

    pub drop_asked : Shown m (Calling t (e ≤ 63)) → Shown m (IsThread t)
    drop_asked S = shown_for S caller

    module _ {n : List ℕ} (D : Does m n (IsThread t) (drop_debt t)) where
      pub end_asked : Shown m (Calling t (e ≤ 63)) → Shown n (IsEndpoint e)
      end_asked S =
          record {
            state = drop_debt t S.state;
            shows = D.shows S.state S.shows (caller S.state S.holds);
            holds = S.holds.numbers;
          }

      module _ {o : List ℕ} (E : EndsAbort n e 2 o) where
        ended : Does m o (Calling t (e ≤ 63)) (λ s. end_abort closing e (drop_debt t s))
        ended =
            record {
              shows = λ s M C.
                  (E.does closing refl).shows (drop_debt t s) (D.shows s M (caller s C)) C.numbers;
            }

        pub from_asked : Shown m (Calling t (e ≤ 63)) → Shown o (Closes e)
        from_asked S =
            record {
              state = end_abort closing e (drop_debt t S.state);
              shows = ended.shows S.state S.shows S.holds;
              holds = closes S.state S.shows S.holds;
            }

        pub deletes :
            (a : ℕ) {p : List ℕ} {b : Answer} → Performs o p b (Closes e) (delete_from e a)
            → Performs m p b (Calling t (e ≤ 63)) (delete t e a)
        unfolding delete delete_at
        deletes a {p} {b} P =
            performs_as (performs_after ended closes P) (λ s M C. go s (s.endpoints e).status (there s M C))
          where
            go :
                (s : State) (x : Status) → (x ≡ missing → ⊥)
                → delete_from e a (end_abort closing e (drop_debt t s)) ≡ delete_at x t e a s
            go s missing n = absurd (n refl)
            go s live n = refl
            go s closing n = refl
