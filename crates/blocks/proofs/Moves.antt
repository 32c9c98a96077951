-- A block into the tables: the four steps make the thread.
use Prim.Native.Nat.{ℕ, ◌-◌}
use mathlib.Core.Path.{◌≡◌, refl, sym, ◌∙◌, ap, subst}
use mathlib.Core.List.{List}
use Rattle.machine.specs.State.{State, Thread, set_thread, with_ticks}
use Rattle.layout.specs.declared.Field.{Field}
use Rattle.layout.specs.Shows.{Shows}
use Rattle.store.specs.Steps.{Shown, Does, Tells}
use Rattle.store.specs.Store.{IsThread, prioritising, ticking, owing, SetsPlace, SetsDebt}
use Rattle.store.specs.Readings.{thread_in}
use Rattle.store.proofs.Composed.{still, remade}
use Rattle.blocks.specs.declared.Block.{Block}
use Rattle.blocks.specs.Blocks.{refilled, ticked_block, block_of, LoadsBlock, IsBlock, SetsBlock}
use Rattle.blocks.proofs.Ticks.{with_ticks_lem}

-- What a block owes is what a thread owes, so the memory still shows a state.
pub owed :
    {t : ℕ} {m n : List ℕ} {b : Block} → IsBlock b → SetsDebt m t b.owes b.note n → Shown m (IsThread t)
    → Shown n (IsThread t)
owed x D S =
    still (owing _ x.thread.debt)
    (D.does x.thread.debt (ap (λ k. k.owes) x.is) (ap (λ k. k.note) x.is)) S

-- The four steps with the numbers of a block.
abbrev Steps : ℕ → List ℕ → List ℕ → List ℕ → List ℕ → List ℕ → Block → Type 0
Steps t m n₁ n₂ n₃ n₄ b =
    Does m n₁ (IsThread t) (prioritising t b.priority) × Does n₁ n₂ (IsThread t) (ticking t b.ticks)
    × SetsDebt n₂ t b.owes b.note n₃ × SetsPlace n₃ t b.place b.outcome b.badge b.message n₄

pub stored :
    {t : ℕ} {m n₁ n₂ n₃ n₄ : List ℕ} (b : Block) → Does m n₁ (IsThread t) (prioritising t b.priority)
    → Does n₁ n₂ (IsThread t) (ticking t b.ticks) → SetsDebt n₂ t b.owes b.note n₃
    → SetsPlace n₃ t b.place b.outcome b.badge b.message n₄ → SetsBlock m t b n₄
stored {t} {m} {n₁} {n₂} {n₃} {n₄} b Q T D P =
    record { does = λ x e. go x (subst (Steps t m n₁ n₂ n₃ n₄) (sym e) (Q, T, D, P)) }
  where
    go : (x : Thread) → Steps t m n₁ n₂ n₃ n₄ (block_of x) → Does m n₄ (IsThread t) (set_thread t x)
    go x g =
        remade t x.priority x.ticks x.debt x.place x.outcome x.badge x.message
        g.0 g.1 (g.2.does x.debt refl refl) (g.3.does x.place refl)

-- The block of a thread, after a tick, is that of the thread with the ticks that are left.
module _ {t : ℕ} {m : List ℕ} {b : Block} (L : LoadsBlock m t b) where
  pub ticks_told : Tells m (IsThread t) b.ticks (thread_in Field.Ticks t)
  ticks_told = record { tells = λ s M h. ap (λ (y : Block). y.ticks) (L.loads s M h) }

  abbrev left : ℕ
  left = refilled (b.ticks - 1)

  is_ticked : (s : State) → Shows m s → IsThread t s → block_of (with_ticks left (s.threads t)) ≡ ticked_block b
  is_ticked s M h = ap (λ (y : Block). with_ticks_lem y left) (sym (L.loads s M h))

  pub ticked_block_lem : {r : Block} → r ≡ ticked_block b → Shown m (IsThread t) → Shown m (IsThread t) × IsBlock r
  ticked_block_lem e S = (
    S,
    record {
      thread = with_ticks left (S.state.threads t);
      is = is_ticked S.state S.shows S.holds ∙ sym e;
    },
  )

  pub ticked_thread :
      {n : List ℕ} {r : Block} → r ≡ ticked_block b → SetsBlock m t r n → Does m n (IsThread t) (ticking t left)
  ticked_thread e S =
      record {
        shows = λ s M h. (S.does (with_ticks left (s.threads t)) (is_ticked s M h ∙ sym e)).shows s M h;
      }
