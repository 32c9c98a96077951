-- The block of a thread: after stores to some of its words the memory shows the state with another thread there.
use Prim.Native.Nat.{ℕ, ◌≤◌}
use mathlib.Core.Path.{◌≡◌, refl, sym, ◌∙◌, ap}
use mathlib.Core.List.{List}
use lib.ListN.{set}
use Rattle.machine.specs.Lists.{put}
use Rattle.machine.specs.State.{State, Thread, set_thread, with_place, with_priority, with_ticks, with_debt}
use Rattle.machine.proofs.Lists.{Same, same, other, same?, put_same, put_other}
use Rattle.layout.specs.declared.Field.{Field}
use Rattle.layout.specs.declared.Slot.{Slot}
use Rattle.layout.specs.Addresses.{ValidSlot, column, at, word}
use Rattle.layout.specs.Words.{place_code, debt_code, note_code, thread_word, content, queues_of}
use Rattle.layout.specs.Shows.{Shows}
use Rattle.layout.proofs.Addresses.{same_field}
use Rattle.store.specs.Steps.{Does}
use Rattle.store.specs.Store.{IsThread, prioritising, ticking, SetsPlace, SetsDebt}
use Rattle.store.proofs.Rows.{RowChanged, change, IsRow, row_store, row_start, row_shows}

-- The slots that are not of thread t.
abbrev OffBlock : ℕ → Slot → Type 0
OffBlock t (Slot.Thread f u) = u ≡ t → ⊥
OffBlock t (Slot.Endpoint p e) = Unit {0}
OffBlock t (Slot.Line l) = Unit {0}
OffBlock t (Slot.Summary w) = Unit {0}
OffBlock t Slot.Top = Unit {0}
OffBlock t Slot.Running = Unit {0}
OffBlock t (Slot.Unused i) = Unit {0}

abbrev block_row : ℕ → Field → Slot
block_row t f = Slot.Thread f t

abbrev Block : ℕ → List ℕ → List ℕ → (Field → ℕ) → Type 0
Block t m n w = RowChanged (block_row t) (OffBlock t) m n w

-- A word for each field, where eight are right.
fields :
    (w : Field → ℕ) (x : Thread) → w Field.Place ≡ place_code x.place → w Field.Priority ≡ x.priority
    → w Field.Ticks ≡ x.ticks
    → w Field.Outcome ≡ x.outcome → w Field.Badge ≡ x.badge → w Field.Message ≡ x.message
    → w Field.Owes ≡ debt_code x.debt
    → w Field.Note ≡ note_code x.debt → (f : Field) → w f ≡ thread_word x f
fields w x a b c d e f g h Field.Place = a
fields w x a b c d e f g h Field.Priority = b
fields w x a b c d e f g h Field.Ticks = c
fields w x a b c d e f g h Field.Outcome = d
fields w x a b c d e f g h Field.Badge = e
fields w x a b c d e f g h Field.Message = f
fields w x a b c d e f g h Field.Owes = g
fields w x a b c d e f g h Field.Note = h

module _ (t : ℕ) (small : t ≤ 255) where
  is_block : IsRow (block_row t) (OffBlock t) column
  is_block =
      record {
        valid = λ f. small;
        to = λ f g. same_field f g t;
        from = λ f g e. let k : f ≡ g = cc in ap column k;
        off = λ a f o e. (rw e at o) refl;
      }

  -- Block t becomes x.
  block_shows :
      (m n : List ℕ) (w : Field → ℕ) (s : State) (x : Thread) → Shows m s → Block t m n w
      → ((f : Field) → w f ≡ thread_word x f) → Shows n (set_thread t x s)
  unfolding queues_of
  block_shows m n w s x M B e = row_shows (block_row t) (OffBlock t) m n w s (set_thread t x s) M B slots (λ q h. refl)
    where
      in_block : (f : Field) (u : ℕ) → u ≤ 255 → Same u t
          → word n (at (Slot.Thread f u)) ≡ thread_word (put s.threads t x u) f
      in_block f u h (same k _) = rw (k, put_same s.threads t x) (B.here f ∙ e f)
      in_block f u h (other d _) =
          rw (put_other s.threads t u x d) (B.slots (Slot.Thread f u) h d ∙ M.slots (Slot.Thread f u) h)

      slots : (a : Slot) → ValidSlot a → word n (at a) ≡ content (set_thread t x s) a
      slots (Slot.Thread f u) h = in_block f u h (same? u t)
      slots (Slot.Endpoint p k) h = B.slots (Slot.Endpoint p k) h tt ∙ M.slots (Slot.Endpoint p k) h
      slots (Slot.Line l) h = B.slots (Slot.Line l) h tt ∙ M.slots (Slot.Line l) h
      slots (Slot.Summary k) h = B.slots (Slot.Summary k) h tt ∙ M.slots (Slot.Summary k) h
      slots Slot.Top h = B.slots Slot.Top h tt ∙ M.slots Slot.Top h
      slots Slot.Running h = B.slots Slot.Running h tt ∙ M.slots Slot.Running h
      slots (Slot.Unused i) h = B.slots (Slot.Unused i) h tt ∙ M.slots (Slot.Unused i) h

  block_store :
      (m n n' : List ℕ) (w : Field → ℕ) (f : Field) (v : ℕ) → n' ≡ set n (at (Slot.Thread f t)) v
      → Block t m n w → Block t m n' (change column f v w)
  block_store = row_store (block_row t) (OffBlock t) column is_block

  block_start : (m : List ℕ) (s : State) → Shows m s → Block t m m (thread_word (s.threads t))
  block_start = row_start (block_row t) (OffBlock t) column is_block

-- The steps on a thread, from the stores that they are.

module _ (t : ℕ) {m n₁ : List ℕ} where
  pub priority_does :
      (p : ℕ) → n₁ ≡ set m (at (Slot.Thread Field.Priority t)) p
      → Does m n₁ (IsThread t) (prioritising t p)
  priority_does p e₁ =
      record {
        shows = λ s M h.
            block_shows t h m n₁ _ s (with_priority p (s.threads t)) M
            (block_store t h m m n₁ _ Field.Priority p e₁ (block_start t h m s M))
            (fields _ _ refl refl refl refl refl refl refl refl);
      }

  pub ticks_does :
      (n : ℕ) → n₁ ≡ set m (at (Slot.Thread Field.Ticks t)) n → Does m n₁ (IsThread t) (ticking t n)
  ticks_does n e₁ =
      record {
        shows = λ s M h.
            block_shows t h m n₁ _ s (with_ticks n (s.threads t)) M
            (block_store t h m m n₁ _ Field.Ticks n e₁ (block_start t h m s M))
            (fields _ _ refl refl refl refl refl refl refl refl);
      }

  module _ {n₂ : List ℕ} where
    pub owes_does :
        (code b : ℕ) → n₁ ≡ set m (at (Slot.Thread Field.Owes t)) code
        → n₂ ≡ set n₁ (at (Slot.Thread Field.Note t)) b → SetsDebt m t code b n₂
    owes_does code b e₁ e₂ =
        record {
          does = λ d k j.
              record {
                shows = λ s M h.
                    block_shows t h m n₂ _ s (with_debt d (s.threads t)) M
                    (block_store t h m n₁ n₂ _ Field.Note b e₂
                    (block_store t h m m n₁ _ Field.Owes code e₁ (block_start t h m s M)))
                    (fields _ _ refl refl refl refl refl refl (sym k) (sym j));
              };
        }

    module _ {n₃ n₄ : List ℕ} where
      pub place_does :
          (code o b x : ℕ) → n₁ ≡ set m (at (Slot.Thread Field.Place t)) code
          → n₂ ≡ set n₁ (at (Slot.Thread Field.Outcome t)) o
          → n₃ ≡ set n₂ (at (Slot.Thread Field.Badge t)) b
          → n₄ ≡ set n₃ (at (Slot.Thread Field.Message t)) x → SetsPlace m t code o b x n₄
      place_does code o b x e₁ e₂ e₃ e₄ =
          record {
            does = λ p k.
                record {
                  shows = λ s M h.
                      block_shows t h m n₄ _ s (with_place p o b x (s.threads t)) M
                      (block_store t h m n₃ n₄ _ Field.Message x e₄
                      (block_store t h m n₂ n₃ _ Field.Badge b e₃
                      (block_store t h m n₁ n₂ _ Field.Outcome o e₂
                      (block_store t h m m n₁ _ Field.Place code e₁ (block_start t h m s M)))))
                      (fields _ _ (sym k) refl refl refl refl refl refl refl);
                };
          }
