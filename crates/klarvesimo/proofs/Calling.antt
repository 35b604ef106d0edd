-- What the calls of the C face come to, one law for each way out. Assumes nothing.
use Prim.Native.Nat.{ℕ, ◌≤◌}
use mathlib.Core.Path.{◌≡◌, refl, sym, ap, subst, ◌∙◌}
use mathlib.Core.Bool.{Bool, true, false}
use mathlib.Core.Option.{Option, none, some}
use mathlib.Core.List.{List, [], ◌∷◌}
use native.Mathlib.Omega.{arith}
use lib.ListN.{length}
use Rattle.lists.proofs.Tests.{choose}
use Rattle.answer.specs.declared.Kind.{Kind}
use Rattle.ledger.specs.Ledger.{Turn}
use Rattle.synth.specs.Kinds.{most}
use Rattle.synth.specs.Settings.{unset, edition_at}
use Rattle.synth.specs.Channel.{View, well_named, are_editions, shaped, sound}
use Rattle.synth.specs.Calls as C
use Rattle.synth.specs.Calls.{Lent, back, Call, Reply, call, open_channel}
use Rattle.synth.specs.declared.Edition.{Edition}
use Rattle.synth.proofs.Channels.{sound_facts}
use Rattle.synth.proofs.Theorems.Soundness.{call_sound}
use Rattle.queue.specs.Queue.{list_of}
use Rattle.channelnames.specs.Names.{name_of, kind_by}
use Rattle.channelnames.proofs.Fits.{name_fits_lem}
use Rattle.channelnames.proofs.Tails.{named_kind}
use Rattle.settings.specs.Kept.{as_further, further_on}
use Rattle.channel.specs.Channel.{view, opened}
use Rattle.channel.specs.declared.Opened.{Opened}
use Rattle.std.proofs.Common as P
use Rattle.std.proofs.Common.{None, Result, Ok, Err}
use Rattle.calls.specs.Refusals.{number_of}
use Rattle.calls.specs.Promise.{Left, left_in, Promise}
use Rattle.calls.specs.declared.Refusal.{Refusal}
use Rattle.calls.specs.declared.Refusal.TheVariants.{More, NoMessage, TooLong, TooShort, MalformedLine, NoRequest}
use Rattle.calls.specs.declared.Refusal.TheVariants.{NoRoom, NothingAwaited, NoCause, NoScore, NotKept, NotSound}
use Rattle.calls.specs.declared.Refused.{Refused}
use Rattle.calls.specs.declared.Handled.{Handled}
use Rattle.calls.proofs.Leaving.{name_short, editions_short, unsound_refused}
use Rattle.channelnumbers.specs.Numbers.{numbers_of, editions_in, view_of, is_sound}
use Rattle.channelnumbers.proofs.Theorems.LoadSaved.{sound_few}
use Rattle.loading.specs.Loading.{Loads}
use Rattle.loading.specs.declared.Loaded.{Loaded}
use Rattle.klarvesimo.specs.Face.{open_face, CallFace, keeping, turn_face, call_on, call_face}

-- an opening
pub opens : (name : List ℕ) (o : Opened) (saved : List ℕ) → opened o ≡ open_channel name
    → (length (name_of o.channel.name) ≤ 44 → length (list_of o.channel.queue) ≤ most (kind_by (name_of o.channel.name))
    → saved ≡ numbers_of (view None o.channel (unset ∷ []))) → record { number = o.number; channel = saved } ≡ open_face name
unfolding open_face
opens name o saved e h =
    let v : view None o.channel (unset ∷ []) ≡ (open_channel name).channel = ap (λ (x : C.Opened). x.channel) e in
    let fits = opened_fits name in
    let same = h (subst (λ (x : View). length x.name ≤ 44) (sym v) fits.0) (subst (λ (x : View). length x.queue ≤ most (kind_by x.name)) (sym v) fits.1) in
    (λ i. record { number = (e i).number; channel = (same ∙ ap numbers_of v) i })
  where
    opened_fits : (name : List ℕ) → (length (open_channel name).channel.name ≤ 44) × (length (open_channel name).channel.queue ≤ most (kind_by (open_channel name).channel.name))
    opened_fits name = unfold open_channel in
        choose (λ (o : C.Opened). (length o.channel.name ≤ 44) × (length o.channel.queue ≤ most (kind_by o.channel.name))) (well_named name)
        (λ t. (name_fits_lem name t, omega arith)) (λ t. (omega arith, omega arith))

-- what a call that was handled saves, of the numbers with which its channel came
abbrev pub Saves : List ℕ → Handled → List ℕ → Type 0
Saves ws r saved =
    (es : List Edition) → editions_in (kind_by (name_of r.channel.name)) ws ≡ some es → length es ≤ 4
    → are_editions (kind_by (name_of r.channel.name)) (further_on r.further es) ≡ true
    → length (name_of r.channel.name) ≤ 44 → length (list_of r.channel.queue) ≤ most (kind_by (name_of r.channel.name))
    → saved ≡ numbers_of (view r.last r.channel (further_on r.further es))

-- a refusal leaves the numbers as they were
kept : (r : Refusal) (ws : List ℕ) (next : View) → ws ≡ keeping (number_of r) ws next
kept More ws next = refl
kept NoMessage ws next = refl
kept TooLong ws next = refl
kept TooShort ws next = refl
kept MalformedLine ws next = refl
kept NoRequest ws next = refl
kept NoRoom ws next = refl
kept NothingAwaited ws next = refl
kept NoCause ws next = refl
kept NoScore ws next = refl
kept NotKept ws next = refl
kept NotSound ws next = refl

module _ (ws out : List ℕ) (lent : Lent) where
  abbrev made : Call
  made = record { lent = lent; room = length out }

  -- numbers that are no sound channel
  unsound : is_sound (view_of ws) ≡ false → call_face ws lent out ≡ record { number = 21; channel = ws; consumed = 0; written = 0; out = out }
  unfolding call_face
  unsound h = go (view_of ws) h
    where
      go : (o : Option View) → is_sound o ≡ false → call_on o ws lent out ≡ record { number = 21; channel = ws; consumed = 0; written = 0; out = out }
      go none h = refl
      go (some v) h = ap (λ (t : Turn View Reply). turn_face t ws out) (unsound_refused v made h)

  -- the channel that was loaded of them, on which the call kept its promise
  module _ (l : Loaded) (is : Loads ws l) (after : List ℕ) where
    abbrev v : View
    v = view l.last l.channel is.editions

    as_loaded : turn_face (call v made) ws out ≡ call_face ws lent out
    unfolding call_face
    as_loaded = go (is_sound (view_of ws)) refl
      where
        go : (b : Bool) → is_sound (view_of ws) ≡ b → turn_face (call v made) ws out ≡ call_face ws lent out
        go true e = ap (λ (o : Option View). call_on o ws lent out) (sym (is.same e))
        go false e = ap (λ (t : Turn View Reply). turn_face t ws out) (unsound_refused v made (sym is.soundness ∙ e)) ∙ sym (unsound e)

    abbrev faced : Left → CallFace
    faced l = record { number = l.number; channel = keeping l.number ws l.channel; consumed = l.consumed; written = l.written; out = l.out }

    promised : (r : Result Handled Refused) → Promise l.last l.channel is.editions lent out r after
        → faced (left_in l.last l.channel is.editions r after) ≡ call_face ws lent out
    promised r p = ap faced p.same ∙ as_loaded

    pub refused : (e : Refused) → Promise l.last l.channel is.editions lent out (Err e) after
        → record { number = number_of e.refusal; channel = ws; consumed = e.consumed; written = 0; out = after } ≡ call_face ws lent out
    refused e p =
        (λ i. record { number = number_of e.refusal; channel = kept e.refusal ws v i; consumed = e.consumed; written = 0; out = after })
        ∙ promised (Err e) p

    module _ (h : Handled) (p : Promise l.last l.channel is.editions lent out (Ok h) after) where
      abbrev next : View
      next = view h.last h.channel (further_on h.further is.editions)

      -- a handled call was made on a sound channel, and leaves one of the same name
      was_sound : sound v ≡ true
      was_sound = go (sound v) refl
        where
          go : (b : Bool) → sound v ≡ b → sound v ≡ true
          go true e = e
          go false e =
              let n : ◌≡◌ {A = ℕ} 0 21 = ap (λ (l : Left). l.number) p.same ∙ ap (λ (t : Turn View Reply). t.reply.number) (unsound_refused v made e) in
              absurd (omega (arith, n))

      stays_sound : sound next ≡ true
      stays_sound = ap (λ (l : Left). sound l.channel) p.same ∙ call_sound v made was_sound

      pub answered : {saved : List ℕ} → Saves ws h saved
          → record { number = 0; channel = saved; consumed = h.consumed; written = h.written; out = after } ≡ call_face ws lent out
      answered {saved} save =
          let s = stays_sound in
          let w = was_sound in
          let stand : editions_in (kind_by (name_of h.channel.name)) ws ≡ some is.editions =
          ap (λ (l : List ℕ). editions_in (kind_by l) ws) p.named ∙ is.stand (is.soundness ∙ w) in
          let own : are_editions (kind_by next.name) next.editions ≡ true =
          ap (λ (k : Kind). are_editions k next.editions) (sym (named_kind next.name (sound_facts next s).named)) ∙ (sound_facts next s).editions_fit in
          let same : saved ≡ numbers_of next = save is.editions stand (editions_short v w) own (name_short next s) (sound_few next s) in
          (λ i. record { number = 0; channel = same i; consumed = h.consumed; written = h.written; out = after }) ∙ promised (Ok h) p

-- a going back keeps its promise, to what was found of its number
module _ (ws : List ℕ) (n : ℕ) (l : Loaded) (is : Loads ws l) {found : P.Option Edition} (r : Result Handled Refused)
    (of : (es : List Edition) → editions_in (kind_by (name_of l.channel.name)) ws ≡ some es
    → are_editions (kind_by (name_of l.channel.name)) es ≡ true → found ≡ as_further (edition_at n es))
    (q : (es : List Edition) (m : ℕ) → (shaped (view l.last l.channel es) ≡ true → found ≡ as_further (edition_at m es))
    → sound (view l.last l.channel es) ≡ shaped (view l.last l.channel es) → Promise l.last l.channel es (back m) [] r []) where
  abbrev came : View
  came = view l.last l.channel is.editions

  pub back_promised : Promise l.last l.channel is.editions (back n) [] r []
  back_promised = q is.editions n kept is.fit
    where
      kept : shaped came ≡ true → found ≡ as_further (edition_at n is.editions)
      kept h =
          let s : sound came ≡ true = is.fit ∙ h in
          of is.editions (is.stand (is.soundness ∙ s))
          (ap (λ (k : Kind). are_editions k is.editions) (sym (named_kind came.name (sound_facts came s).named)) ∙ (sound_facts came s).editions_fit)
