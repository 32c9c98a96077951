-- A store to one link, by name: what it leaves and what it changes.
use Prim.Native.Nat.{ℕ}
use mathlib.Core.Path.{◌≡◌, sym, ◌∙◌}
use mathlib.Core.List.{List}
use lib.ListN.{length, set, length-set}
use Rattle.layout.specs.declared.Slot.{Slot}
use Rattle.layout.specs.declared.Link.{Link}
use Rattle.layout.specs.Addresses.{table_words, ValidSlot, ValidLink, at, link_at, word}
use Rattle.layout.proofs.Stores.{link_same, link_other, link_slot}
use Rattle.links.specs.Links.{OnlyLinks}

-- Link k holds v in n, and all else is as in m.
pub record WroteLink (m n : List ℕ) (k : Link) (v : ℕ) : Type 0 where
  pub size : length n ≡ table_words
  pub here : word n (link_at k) ≡ v
  pub others : (j : Link) → ValidLink j → (j ≡ k → ⊥) → word n (link_at j) ≡ word m (link_at j)
  pub slots : (a : Slot) → ValidSlot a → word n (at a) ≡ word m (at a)

pub wrote :
    {m n : List ℕ} {v : ℕ} (k : Link) → length m ≡ table_words → ValidLink k → n ≡ set m (link_at k) v
    → WroteLink m n k v
wrote {m} {n} {v} k size h f =
    rw f
    (record {
      size = length-set m (link_at k) v ∙ size;
      here = link_same m size v k h;
      others = link_other m size v k h;
      slots = link_slot m size v k h;
    })

pub kept_one : {m n : List ℕ} {k : Link} {v : ℕ} → length m ≡ table_words → WroteLink m n k v → OnlyLinks m n
kept_one size W = record { size = W.size ∙ sym size; slots = W.slots }

pub kept_more :
    {m n r : List ℕ} {k : Link} {v : ℕ} → OnlyLinks m n → WroteLink n r k v → length n ≡ table_words → OnlyLinks m r
kept_more K W size =
    record { size = W.size ∙ sym size ∙ K.size; slots = λ a h. W.slots a h ∙ K.slots a h }

-- Links i, j and k hold x, y and z in n, and all else is as in m.
pub record WroteThree (m n : List ℕ) (i j k : Link) (x y z : ℕ) : Type 0 where
  pub kept : OnlyLinks m n
  pub first : word n (link_at i) ≡ x
  pub second : word n (link_at j) ≡ y
  pub third : word n (link_at k) ≡ z
  pub others :
      (l : Link) → ValidLink l → (l ≡ i → ⊥) → (l ≡ j → ⊥) → (l ≡ k → ⊥) → word n (link_at l) ≡ word m (link_at l)

pub wrote_three :
    {m n₁ n₂ n : List ℕ} {x y z : ℕ} (i j k : Link) → length m ≡ table_words → ValidLink i → ValidLink j → ValidLink k
    → (i ≡ j → ⊥) → (i ≡ k → ⊥) → (j ≡ k → ⊥)
    → n₁ ≡ set m (link_at i) x → n₂ ≡ set n₁ (link_at j) y → n ≡ set n₂ (link_at k) z → WroteThree m n i j k x y z
wrote_three i j k size hi hj hk ij ik jk f₁ f₂ f₃ =
    let W₁ = wrote i size hi f₁ in
    let W₂ = wrote j W₁.size hj f₂ in
    let W₃ = wrote k W₂.size hk f₃ in
    record {
      kept = kept_more (kept_more (kept_one size W₁) W₂ W₁.size) W₃ W₂.size;
      first = W₃.others i hi ik ∙ W₂.others i hi ij ∙ W₁.here;
      second = W₃.others j hj jk ∙ W₂.here;
      third = W₃.here;
      others = λ l h a b c. W₃.others l h c ∙ W₂.others l h b ∙ W₁.others l h a;
    }
