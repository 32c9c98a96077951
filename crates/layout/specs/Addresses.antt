-- The names and addresses of the 4,096 words, as docs/LAYOUT.md lists them. The addresses stand here alone; all else
-- knows two laws of them: each valid name is the name of its address, and each address is that of a valid name.
use Rattle.std.specs.Prelude.{ℕ, zero, suc, ◌+◌, ◌*◌, ◌-◌, ◌/◌, ◌%◌, ◌≤◌, List, [], ◌∷◌, ltb, get_or}
use Rattle.machine.specs.Lists.{pick}
use Rattle.layout.specs.declared.Field.{Field}
use Rattle.layout.specs.declared.Part.{Part}
use Rattle.layout.specs.declared.Slot.{Slot}
use Rattle.layout.specs.declared.Link.{Link}

-- How many words are lent for the tables, and for the scratch beside them.
abbrev pub table_words : ℕ
table_words = 4096

abbrev pub scratch_words : ℕ
scratch_words = 256

-- The queue of endpoint e; queue p up to 255 is that of level p.
abbrev pub endpoint_queue : ℕ → ℕ
endpoint_queue e = 256 + e

-- A word of the memory.
pub data Name : Type 0 where
  slot : Slot → Name
  link : Link → Name

abbrev pub ValidSlot : Slot → Type 0
ValidSlot (Slot.Thread f t) = t ≤ 255
ValidSlot (Slot.Endpoint p e) = e ≤ 63
ValidSlot (Slot.Line l) = l ≤ 31
ValidSlot (Slot.Summary w) = w ≤ 7
ValidSlot Slot.Top = Unit {0}
ValidSlot Slot.Running = Unit {0}
ValidSlot (Slot.Unused i) = i ≤ 533

abbrev pub ValidLink : Link → Type 0
ValidLink (Link.Next t) = t ≤ 255
ValidLink (Link.Prev t) = t ≤ 255
ValidLink (Link.Head q) = q ≤ 319
ValidLink (Link.Tail q) = q ≤ 319

abbrev pub Valid : Name → Type 0
Valid (slot a) = ValidSlot a
Valid (link k) = ValidLink k

-- The place of a word in the thread's ten, and in the endpoint's five.
abbrev pub column : Field → ℕ
column Field.Place = 0
column Field.Priority = 1
column Field.Ticks = 2
column Field.Outcome = 3
column Field.Badge = 4
column Field.Message = 5
column Field.Owes = 8
column Field.Note = 9

abbrev pub offset : Part → ℕ
offset Part.Status = 0
offset Part.Aborting = 1
offset Part.Aborted = 2
offset Part.Cursor = 3
offset Part.End = 4

unfoldable pub at : Slot → ℕ
at (Slot.Thread f t) = 10 * t + column f
at (Slot.Endpoint p e) = 3200 + 5 * e + offset p
at (Slot.Line l) = 3520 + l
at (Slot.Summary w) = 3552 + w
at Slot.Top = 3560
at Slot.Running = 3561
at (Slot.Unused i) = 3562 + i

unfoldable pub link_at : Link → ℕ
link_at (Link.Next t) = 10 * t + 6
link_at (Link.Prev t) = 10 * t + 7
link_at (Link.Head q) = 2560 + 2 * q
link_at (Link.Tail q) = 2561 + 2 * q

abbrev pub address : Name → ℕ
address (slot a) = at a
address (link k) = link_at k

-- The inverse: word k of thread t, of queue q, of endpoint e, and the word at an address.
unfoldable pub in_thread : ℕ → ℕ → Name
in_thread t k =
    get_or
    (slot (Slot.Thread Field.Place t) ∷ slot (Slot.Thread Field.Priority t) ∷ slot (Slot.Thread Field.Ticks t)
    ∷ slot (Slot.Thread Field.Outcome t) ∷ slot (Slot.Thread Field.Badge t) ∷ slot (Slot.Thread Field.Message t)
    ∷ link (Link.Next t) ∷ link (Link.Prev t) ∷ slot (Slot.Thread Field.Owes t) ∷ slot (Slot.Thread Field.Note t) ∷ [])
    k (slot Slot.Top)

unfoldable pub in_queue : ℕ → ℕ → Name
in_queue q k = get_or (link (Link.Head q) ∷ link (Link.Tail q) ∷ []) k (slot Slot.Top)

unfoldable pub in_endpoint : ℕ → ℕ → Name
in_endpoint e k =
    get_or
    (slot (Slot.Endpoint Part.Status e) ∷ slot (Slot.Endpoint Part.Aborting e) ∷ slot (Slot.Endpoint Part.Aborted e)
    ∷ slot (Slot.Endpoint Part.Cursor e) ∷ slot (Slot.Endpoint Part.End e) ∷ [])
    k (slot Slot.Top)

unfoldable pub name_of : ℕ → Name
name_of i =
    pick (ltb i 2560) (in_thread (i / 10) (i % 10))
    (pick (ltb i 3200) (in_queue ((i - 2560) / 2) ((i - 2560) % 2))
    (pick (ltb i 3520) (in_endpoint ((i - 3200) / 5) ((i - 3200) % 5))
    (pick (ltb i 3552) (slot (Slot.Line (i - 3520)))
    (pick (ltb i 3560) (slot (Slot.Summary (i - 3552)))
    (pick (ltb i 3561) (slot Slot.Top) (pick (ltb i 3562) (slot Slot.Running) (slot (Slot.Unused (i - 3562)))))))))

-- The word at an address, 0 past the end.
unfoldable pub word : List ℕ → ℕ → ℕ
word m i = get_or m i 0

-- The link from link x of queue q to what comes after it, and to what comes before it. Link 0 is the queue itself, link
-- t + 1 is thread t.
abbrev pub after_link : ℕ → ℕ → Link
after_link q zero = Link.Head q
after_link q (suc t) = Link.Next t

abbrev pub before_link : ℕ → ℕ → Link
before_link q zero = Link.Tail q
before_link q (suc t) = Link.Prev t

abbrev pub after_at : ℕ → ℕ → ℕ
after_at q x = link_at (after_link q x)

abbrev pub before_at : ℕ → ℕ → ℕ
before_at q x = link_at (before_link q x)
