-- What the entry points on the lent memory come to, for all words lent: make fresh, check, take a call, who runs, and
-- how a thread was woken.
use Rattle.std.specs.Prelude.{◌≡◌, ℕ, zero, suc, Bool, true, false, ◌&&◌, List, length, replicate, ◌==◌, nat_le}
use Rattle.std.specs.Prelude.{None, Some}
use Rattle.std.specs.Prelude as code
use Rattle.std.proofs.Math.Option.{Option, none, some}
use Rattle.calls.specs.declared.Answer.{Answer}
use Rattle.calls.specs.declared.Call.{Call}
use Rattle.machine.specs.Lists.{pick}
use Rattle.machine.specs.State.{State, fresh_state, message_received}
use Rattle.calls.specs.Answers.{plain}
use Rattle.machine.specs.Grants.{Grants, fresh_grants}
use Rattle.machine.specs.Machine.{step, grants_by}
use Rattle.layout.specs.declared.Field.{Field}
use Rattle.layout.specs.declared.Slot.{Slot}
use Rattle.layout.specs.Addresses.{table_words, scratch_words, word, at}
use Rattle.layout.specs.Words.{image}
use Rattle.soundness.specs.Tables.{state_of}
use Rattle.grants.specs.Memory.{grant_words, grants_of, grant_image, grants_test}
use Rattle.lent_tables.specs.declared.how.Waking.{Waking}

-- "Tables live in 4,096 lent 32-bit words"; the grants in "a second memory of 16,384 words, lent wherever the tables
-- are"; "a scratch of 256 words is lent beside them".
pub record Lent : Type 0 where
  pub tables : List ℕ
  pub grants : List ℕ
  pub scratch : List ℕ

abbrev pub lent : List ℕ → List ℕ → List ℕ → Lent
lent m g x = record { tables = m; grants = g; scratch = x }

-- All have their lengths, and the test of it.
abbrev pub Sized : Lent → Type 0
Sized l =
    (length l.tables ≡ table_words) × (length l.grants ≡ grant_words) × (length l.scratch ≡ scratch_words)

abbrev pub sized : Lent → Bool
sized l =
    (length l.tables == table_words) && length l.grants == grant_words
    && length l.scratch == scratch_words

abbrev pub zeros : List ℕ
zeros = replicate scratch_words 0

-- Make fresh: the number answered, and the tables and grants left. It needs no scratch.
pub record Freshened : Type 0 where
  pub code : ℕ
  pub tables : List ℕ
  pub grants : List ℕ

-- Tables of 4,096 words and grants of 16,384 become those of the fresh state and of nobody's rights, 0; where either
-- has another length they are refused by 16, and both stay.
unfoldable pub freshened : List ℕ → List ℕ → Freshened
freshened m g =
    pick (length m == table_words && length g == grant_words)
    (record { code = 0; tables = image fresh_state; grants = grant_image fresh_grants })
    (record { code = 16; tables = m; grants = g })

-- Check: the number answered, and the scratch left. Tables and grants are never changed.
pub record Checked : Type 0 where
  pub code : ℕ
  pub scratch : List ℕ

-- Tables that show a sound state, and sound grants: 0; others: 17. The scratch is all zero.
abbrev pub verdict : Option State → Bool → Checked
verdict none granted = record { code = 17; scratch = zeros }
verdict (some s) false = record { code = 17; scratch = zeros }
verdict (some s) true = record { code = 0; scratch = zeros }

-- Tables not of 4,096 words, grants not of 16,384, or a scratch not of 256: 16, and the scratch as it was.
unfoldable pub checked : Lent → Checked
checked l =
    pick (sized l) (verdict (state_of l.tables) (grants_test l.grants))
    (record { code = 16; scratch = l.scratch })

-- Take a call: the answer given, and the memory left.
pub record Called : Type 0 where
  pub answer : Answer
  pub left : Lent

-- 17: tables and grants stay as they are, and the scratch is all zero.
abbrev pub unsound : Lent → Called
unsound l = record { answer = plain 17; left = lent l.tables l.grants zeros }

-- In the state s under the grants g: the machine's answer, and the memory of its state and of the grants that it
-- leaves; a refusal leaves both. The scratch is all zero.
abbrev pub stepped : Grants → State → Call → Called
stepped g s c =
    record {
      answer = (step g s c).answer;
      left = lent (image (step g s c).state) (grant_image (grants_by g s c)) zeros;
    }

-- Tables that show no sound state, or unsound grants: 17. Else the machine's step.
abbrev pub taken : Option State → Bool → Lent → Call → Called
taken none granted l c = unsound l
taken (some s) false l c = unsound l
taken (some s) true l c = stepped (grants_of l.grants) s c

-- Tables not of 4,096 words, grants not of 16,384, or a scratch not of 256: 16, and all stay as they are.
unfoldable pub called : Lent → Call → Called
called l c =
    pick (sized l) (taken (state_of l.tables) (grants_test l.grants) l c) (record { answer = plain 16; left = l })

-- Who runs, by a link: t + 1 is that to thread t, 0 to nobody.
abbrev pub runner_of : ℕ → code.Option ℕ
runner_of zero = None
runner_of (suc t) = Some t

-- A word as a link to a thread: 0, to nobody, where it is none.
abbrev pub as_link : ℕ → ℕ
as_link w = pick (nat_le w 256) w 0

-- Who runs, whatever the words are; nobody in tables not of 4,096 words.
unfoldable pub runner_in : List ℕ → code.Option ℕ
runner_in m = pick (length m == table_words) (runner_of (as_link (word m (at Slot.Running)))) None

abbrev pub waking : ℕ → ℕ → ℕ → Waking
waking o b n = record { outcome = o; badge = b; message = n }

-- How a thread's last waiting ended, by its outcome, badge and message: the last two are told with outcome 2 alone.
abbrev pub woken_by : ℕ → ℕ → ℕ → Waking
woken_by o b n = pick (o == message_received) (waking o b n) (waking o 0 0)

abbrev pub thread_word : List ℕ → Field → ℕ → ℕ
thread_word m f t = word m (at (Slot.Thread f t))

-- The same, whatever the words are; zeros in tables not of 4,096 words, and for a number that is no thread's.
unfoldable pub woken_in : List ℕ → ℕ → Waking
woken_in m t =
    pick (length m == table_words && nat_le t 255)
    (woken_by (thread_word m Field.Outcome t) (thread_word m Field.Badge t) (thread_word m Field.Message t))
    (waking 0 0 0)
