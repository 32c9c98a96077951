-- How a thread was woken, read from the tables.
use Rattle.std.proofs.Common.{◌≡◌, ℕ, ◌≤◌, length, ap, ◌∙◌, eq-eqb, le-leb}
use Rattle.machine.specs.State.{State, able}
use Rattle.machine.specs.Sound.{Sound}
use Rattle.layout.specs.declared.Field.{Field}
use Rattle.layout.specs.declared.Slot.{Slot}
use Rattle.layout.specs.Addresses.{table_words, slot}
use Rattle.layout.specs.Words.{image}
use Rattle.layout.proofs.Image.{length_image, image_name}
use Rattle.lent_tables.specs.Entries.{waking, woken_by, woken_in}

-- In the memory of a state it is what the state says of the thread.
pub woken_image :
    (s : State) (t : ℕ) → t ≤ 255
    → woken_in (image s) t ≡ woken_by (s.threads t).outcome (s.threads t).badge (s.threads t).message
unfolding woken_in
woken_image s t k =
    rw (
      eq-eqb (length (image s)) table_words (length_image s),
      le-leb t 255 k,
      image_name s (slot (Slot.Thread Field.Outcome t)) k,
      image_name s (slot (Slot.Thread Field.Badge t)) k,
      image_name s (slot (Slot.Thread Field.Message t)) k,
    )

-- In that of a sound state it is all 0 for a thread that waits or is absent.
pub woken_blocked :
    (s : State) (t : ℕ) → Sound s → t ≤ 255 → ((s.threads t).place ≡ able → ⊥) → woken_in (image s) t ≡ waking 0 0 0
woken_blocked s t S k h =
    woken_image s t k
    ∙ ap (λ (o : ℕ). woken_by o (s.threads t).badge (s.threads t).message) (S.outcomes.blocked t h)
