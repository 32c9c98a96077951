-- Calls 5 and 10, about one interrupt line, keep the tables sound.
use Prim.Native.Nat.{ℕ, ◌≤◌}
use mathlib.Core.Path.{◌≡◌, refl, sym, ◌∙◌}
use mathlib.Core.Option.{some}
use native.Mathlib.Omega.{arith}
use Rattle.machine.specs.Lists.{put}
use Rattle.machine.specs.State.{State, waiting, Line, quiet, pending, awaited, set_line}
use Rattle.machine.specs.Scheduling.{block}
use Rattle.machine.specs.Endpoints.{drop_debt}
use Rattle.machine.specs.Machine.{fire, interrupt, wait_at, wait}
use Rattle.machine.specs.Sound.{Sound}
use Rattle.machine.proofs.Lists.{put_same}
use Rattle.machine.specs.Mid.{Mid}
use Rattle.machine.proofs.Preserved.Mid.{sound_mid}
use Rattle.machine.proofs.Preserved.Parts.{parts, whole}
use Rattle.machine.proofs.Preserved.Ready.{put_else}
use Rattle.machine.proofs.Preserved.Sites.{not_awaited, lines_set}
use Rattle.machine.proofs.Preserved.Waking.{mid_wake_line, mid_block_line}
use Rattle.machine.proofs.Preserved.Choosing.{choose_sound}
use Rattle.machine.proofs.Preserved.Debts.{Drops, mid_drop_debt, drop_debt_drops}

not_pending : {x : Line} {u : ℕ} → x ≡ pending → x ≡ awaited u → ⊥
not_pending {x} {u} h k = let z : ◌≡◌ {A = ℕ} 0 1 = cc in omega arith

-- Line l, with no waiter before and after, changes.
mid_line :
    (s : State) (l : ℕ) (x : Line) → Mid s → l ≤ 31 → ((u : ℕ) → s.lines l ≡ awaited u → ⊥)
    → ((u : ℕ) → x ≡ awaited u → ⊥) → Mid (set_line l x s)
mid_line s l x M low free free' =
    let P = parts M in
    whole
    (record {
      entry = P.entry;
      site = P.site;
      levels = P.levels;
      lines =
          lines_set s.threads (put s.lines l x) l P.lines low free
          (λ u h. free' u (sym (put_same s.lines l x) ∙ h)) (put_else s.lines l x);
      sets = P.sets;
    })

-- "Interrupt: a waiter on the line is woken; otherwise the line is pending": interrupt.
pub interrupt_sound : (s : State) (l : ℕ) → Sound s → l ≤ 31 → Sound (interrupt l s).state
unfolding interrupt fire
interrupt_sound s l S low = choose_sound (fire (s.lines l) l s) (go (s.lines l) refl)
  where
    go : (x : Line) → s.lines l ≡ x → Mid (fire x l s)
    go quiet h = mid_line s l pending (sound_mid S) low (λ u k. not_awaited h k) (λ u k. not_pending refl k)
    go pending h = sound_mid S
    go (awaited t) h = mid_wake_line s l t (sound_mid S) h

-- "Wait: pending is cleared and the answer is 0; else the caller blocks": wait.
pub wait_sound : (s : State) (t l : ℕ) → Sound s → s.runs ≡ some t → l ≤ 31 → Sound (wait t l s).state
unfolding wait wait_at
wait_sound s t l S r low = go (s.lines l) refl
  where
    D : Drops t s (drop_debt t s)
    D = drop_debt_drops s t

    M : Mid (drop_debt t s)
    M = mid_drop_debt s t (sound_mid S)

    go : (x : Line) → s.lines l ≡ x → Sound (wait_at x t l s).state
    go quiet h =
        choose_sound (block t (waiting l) 0 0 (set_line l (awaited t) (drop_debt t s)))
        (mid_block_line (drop_debt t s) t l M (D.keeps.runs ∙ r) low (D.keeps.line l ∙ h))
    go pending h =
        choose_sound (set_line l quiet (drop_debt t s))
        (mid_line (drop_debt t s) l quiet M low (λ u k. not_pending (D.keeps.line l ∙ h) k)
        (λ u k. not_awaited refl k))
    go (awaited u) h = S
