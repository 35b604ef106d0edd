-- Going back to an edition by number makes a further edition equal to it, of which the newest four are kept; a number
-- that is not kept, 0 too, is refused with 12; and nothing else changes: no request, no state, no last id, and nothing
-- is put into the ledger. Assumes nothing.
use Prim.Native.Nat.{ℕ, zero, suc, ◌<◌}
use mathlib.Core.Path.{◌≡◌, refl, ap}
use mathlib.Core.Bool.{true}
use mathlib.Core.Option.{Option, none, some}
use mathlib.Core.List.{[]}
use native.Mathlib.Omega.{arith}
use lib.ListN.{length, get_or}
use Rattle.lists.proofs.Tests.{choose}
use Rattle.ledger.specs.Ledger.{Turn}
use Rattle.synth.specs.Settings.{unset, further, edition_at}
use Rattle.synth.specs.Channel.{View, with_edition, sound}
use Rattle.synth.specs.Calls.{Call, Reply, back, refuse, going_back, gone_back, call}
use Rattle.synth.specs.Demand3.{accepts, closes}
use Rattle.synth.specs.declared.Edition.{Edition}
use Rattle.synth.proofs.Theorems.Editions.{kept_number, not_zero, not_kept}
use Rattle.synth.proofs.Theorems.LedgerRules.{back_changes_neither}

-- going back to the edition of that number, with an output of so many bytes
abbrev pub goes : ℕ → ℕ → Call
goes n room = record { lent = back n; room = room }

-- it returns 0, consumes and writes nothing, and leaves the channel with a further edition
abbrev pub went_to : View → Edition → Turn View Reply
went_to v e = record { reply = record { number = 0; consumed = 0; written = [] }; next = with_edition e v }

module _ (v : View) (s : sound v ≡ true) (room : ℕ) where
  by_edition : (n : ℕ) (o : Option Edition) → edition_at n v.editions ≡ o → call v (goes n room) ≡ going_back o v
  unfolding call gone_back
  by_edition n o h = rw (s, call) (ap (λ (o : Option Edition). going_back o v) h)

  pub goes_back : (n : ℕ) (e : Edition) → edition_at n v.editions ≡ some e → call v (goes n room) ≡ went_to v e
  goes_back n e h = by_edition n (some e) h

  pub twelve : (n : ℕ) → edition_at n v.editions ≡ none → call v (goes n room) ≡ refuse v 12 0
  twelve n h = by_edition n none h

  -- the numbers kept are 1 to how many there are, 1 the newest
  pub kept_goes : (n : ℕ) → n < length v.editions
      → call v (goes (suc n) room) ≡ went_to v (get_or v.editions n unset)
  kept_goes n h = goes_back (suc n) (get_or v.editions n unset) (kept_number n v.editions h)

  pub zero_twelve : call v (goes 0 room) ≡ refuse v 12 0
  zero_twelve = twelve 0 (not_zero v.editions)

  pub above_twelve : (n : ℕ) → length v.editions < n → call v (goes n room) ≡ refuse v 12 0
  above_twelve (suc n) h = twelve (suc n) (not_kept n v.editions (omega arith))
  above_twelve zero h = absurd (omega arith)

-- a going back that returned 0
pub record HandledBack (v : View) (n : ℕ) (t : Turn View Reply) : Type 0 where
  pub on_sound_lem : sound v ≡ true
  pub edition : Edition
  pub kept : edition_at n v.editions ≡ some edition
  pub delivers : t ≡ went_to v edition

module _ (v : View) (n room : ℕ) where
  abbrev Handled : Turn View Reply → Type 0
  Handled t = t.reply.number ≡ 0 → HandledBack v n t

  abbrev Refused : Turn View Reply → Type 0
  Refused t = t.reply.number ≡ 12 → (sound v ≡ true) × (edition_at n v.editions ≡ none)

  pub back_handled : Handled (call v (goes n room))
  unfolding call gone_back
  back_handled =
      choose Handled (sound v) (λ s. handled s (edition_at n v.editions) refl) (λ s z. absurd (omega arith))
    where
      handled : sound v ≡ true → (o : Option Edition) → edition_at n v.editions ≡ o → Handled (going_back o v)
      handled s none e z = absurd (omega arith)
      handled s (some x) e z = record { on_sound_lem = s; edition = x; kept = e; delivers = refl }

  -- 12 comes from a number not kept, and from nothing else
  pub only_twelve : Refused (call v (goes n room))
  unfolding call gone_back
  only_twelve =
      choose Refused (sound v) (λ s. refused s (edition_at n v.editions) refl) (λ s z. absurd (omega arith))
    where
      refused : sound v ≡ true → (o : Option Edition) → edition_at n v.editions ≡ o → Refused (going_back o v)
      refused s none e z = (s, e)
      refused s (some x) e z = absurd (omega arith)

-- the further one is the newest, and equal to it; the newest four are kept
pub further_made : (v : View) (e : Edition) → (with_edition e v).editions ≡ further e v.editions
further_made v e = refl

-- ---- nothing else changes

pub record SameRequests (v w : View) : Type 0 where
  pub name : w.name ≡ v.name
  pub state : w.state ≡ v.state
  pub queue : w.queue ≡ v.queue
  pub last : w.last ≡ v.last

went : (v : View) (o : Option Edition) → SameRequests v (going_back o v).next
went v none = record { name = refl; state = refl; queue = refl; last = refl }
went v (some e) = record { name = refl; state = refl; queue = refl; last = refl }

-- on any channel, whatever the number
pub same_requests : (v : View) (n room : ℕ) → SameRequests v (call v (goes n room)).next
unfolding call gone_back
same_requests v n room =
    choose (λ (t : Turn View Reply). SameRequests v t.next) (sound v) (λ s. went v (edition_at n v.editions))
    (λ s. record { name = refl; state = refl; queue = refl; last = refl })

-- it puts nothing into the ledger, whatever number and bytes it came back with
pub same_ledger : (n room : ℕ) (r : Reply) → (accepts (goes n room) r ≡ []) × (closes (goes n room) r ≡ [])
same_ledger n room r = back_changes_neither n r.number r.written
