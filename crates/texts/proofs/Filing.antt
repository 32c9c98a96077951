-- What an entry answers and leaves, from what it wrote or why it refused.
use Prim.Native.Nat.{ℕ}
use mathlib.Core.Path.{◌≡◌, refl, ◌∙◌, ap}
use mathlib.Core.List.{List, ◌++◌}
use native.Mathlib.Omega.{arith}
use native.Mathlib.Nat.{zero-add}
use lib.ListN.{length, drop}
use Rattle.texts.specs.Buffer.{Room, pasted, Wrote, Counts}
use Rattle.texts.specs.Filed.{Filed, filed, unfiled}
use Rattle.texts.proofs.Writing.{length_wrote, counts}

-- What is answered, and the buffer left.
abbrev pub filing : ℕ → ℕ → List ℕ → Filed
filing code used out = record { code = code; used = used; out = out }

pub refused_files : (code : ℕ) (out : List ℕ) → filing code 0 out ≡ unfiled code out
refused_files code out = refl

module _ {out out' text : List ℕ} {n : ℕ} (room : Room out 0 text) (w : Wrote out 0 text n out') where
  pub wrote_files : filing 0 n out' ≡ filed text out
  unfolding pasted
  wrote_files =
      ap (λ (k : ℕ). filing 0 k out') (w.next ∙ zero-add (length text))
      ∙ ap (λ (l : List ℕ). filing 0 (length text) l)
      (w.bytes ∙ ap (λ (k : ℕ). text ++ drop k out) (zero-add (length text)))

  pub wrote_counts : Counts n out'
  wrote_counts = counts (omega (arith, w.next, room.fits, length_wrote room w))
