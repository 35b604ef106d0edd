-- DEMAND 3 OF THE CODE. For every list of calls of `handle`, `report` and `go_back` on a channel as `open_channel`
-- returned it, each with the clause that its contract states, the ledger is in balance: the theorem of crate `synth`,
-- at the contracts' own clauses. Assumes nothing.
use mathlib.Core.Path.{◌≡◌, refl, sym, ap, subst, ◌∙◌}
use mathlib.Core.Bool.{Bool, true, false, ◌&&◌}
use mathlib.Core.List.{List, [], ◌∷◌}
use Prim.Native.Nat.{ℕ}
use lib.ListN.{length, take, drop}
use lib.Seq.{take-append_seam}
use Rattle.lists.proofs.Tests.{both}
use Rattle.answer.specs.declared.Kind.{Kind}
use Rattle.ledger.specs.Ledger.{Exchange, Run, ended, called, Turn}
use Rattle.synth.specs.Settings.{unset}
use Rattle.synth.specs.Channel.{View, kind, are_editions, are_levels, shaped, sound}
use Rattle.synth.specs.Calls.{Call, Reply, call}
use Rattle.synth.specs.Demand3.{Meets}
use Rattle.synth.proofs.Theorems.Demand3.{demand3}
use Rattle.synth.proofs.Theorems.Soundness.{call_sound}
use Rattle.std.proofs.Common.{None}
use Rattle.channel.specs.declared.Opened.{Opened}
use Rattle.channel.proofs.Parts.{unshaped, shaped_sound}
use Rattle.calls.proofs.Leaving.{unsound_refused}
use Rattle.calls.specs.Promise.{Left, left_by, left_in}
use Rattle.demands.specs.Demands.{Kept, viewed, Called, opening, Demand3OfTheCode}

-- the editions are a channel's, or the channel has not its shape
abbrev Fits : View → Type 0
Fits v = sound v ≡ shaped v

sound_shaped : (v : View) → sound v ≡ true → shaped v ≡ true
unfolding sound
sound_shaped v e =
    let s = both (shaped v && are_editions (kind v) v.editions) (are_levels v.queue) e in
    (both (shaped v) (are_editions (kind v) v.editions) s.0).0

-- so it is after every call
call_fits : (v : View) (k : Call) → Fits v → Fits (call v k).next
call_fits v k fits = go (sound v) refl
  where
    go : (b : Bool) → sound v ≡ b → Fits (call v k).next
    go true e = let s = call_sound v k e in s ∙ sym (sound_shaped (call v k).next s)
    go false e = subst Fits (sym (ap (λ (t : Turn View Reply). t.next) (unsound_refused v k e))) fits

-- and on a channel as it is opened
opening_fits : (o : Opened) → Fits (viewed (opening o))
opening_fits o = go (shaped (viewed (opening o))) refl
  where
    are : (k : Kind) → are_editions k (unset ∷ []) ≡ true
    are Kind.Synthesizer = unfold are_editions in refl
    are Kind.Recognizer = unfold are_editions in refl

    go : (b : Bool) → shaped (viewed (opening o)) ≡ b → Fits (viewed (opening o))
    go true e = sym (shaped_sound None o.channel (unset ∷ []) e) ∙ are (kind (viewed (opening o))) ∙ sym e
    go false e = unshaped (viewed (opening o)) e ∙ sym e

-- what is seen of the call is the definition's reply: the bytes written stand at the front of the output
pub meets : {kept : Kept} {k : Call} {r : Reply} {next : Kept} → Called kept k r next → Fits (viewed kept) → Meets viewed kept k r next
meets {kept} {k} {r} {next} m fits =
    let t = call (viewed kept) k in
    let same : left_in kept.last kept.channel kept.editions m.handled m.after ≡ left_by t m.out =
    (m.promised fits).same ∙ ap (λ (n : ℕ). left_by (call (viewed kept) (record { lent = k.lent; room = n })) m.out) (sym m.room) in
    let front = take-append_seam t.reply.written (drop (length t.reply.written) m.out) in
    record {
      replies = m.seen ∙ ap seen same ∙ ap (λ (bs : List ℕ). record { number = t.reply.number; consumed = t.reply.consumed; written = bs }) front;
      leaves = ap viewed m.left ∙ ap (λ (l : Left). l.channel) same;
    }
  where
    seen : Left → Reply
    seen l = record { number = l.number; consumed = l.consumed; written = take l.written l.out }

run_meets : {s s' : Kept} {xs : List (Exchange Call Reply)} → Run Called s xs s' → Fits (viewed s) → Run (Meets viewed) s xs s'
run_meets ended fits = ended
run_meets (called {s = s} {c = k} m u) fits =
    let n = meets m fits in called n (run_meets u (subst Fits (sym n.leaves) (call_fits (viewed s) k fits)))

pub runs : (o : Opened) {s' : Kept} {xs : List (Exchange Call Reply)} → Run Called (opening o) xs s' → Run (Meets viewed) (opening o) xs s'
runs o run = run_meets run (opening_fits o)

pub demand3_of_the_code : Demand3OfTheCode
demand3_of_the_code name o calls end e run = demand3 Kept viewed name (opening o) end calls (ap (λ x. x.channel) e) (runs o run)
