-- The numbers of a channel are that channel: what is saved is loaded as it was, for every channel of at most 16 or 8
-- outstanding with a name of at most 44 bytes, so for every sound one, that the numbers can tell. What is loaded is
-- such. Assumes nothing.
use Prim.Native.Nat.{ℕ, zero, suc, ◌+◌, ◌-◌, ◌*◌, ◌/◌, ◌%◌, ◌≤◌}
use mathlib.Core.Path.{◌≡◌, refl, sym, ap, ap₂, subst, ◌∙◌}
use mathlib.Core.Bool.{Bool, true, false, ◌&&◌, false≢true, cond}
use mathlib.Core.Option.{Option, none, some, some-injective}
use mathlib.Core.List.{List, [], ◌∷◌, ◌++◌, map, append_assoc}
use native.Mathlib.Numerals.{add-one}
use native.Mathlib.Omega.{arith}
use lib.Dec.{eqb, leb}
use lib.ListN.{length, get_or, replicate, length-append, length-map, length-replicate}
use lib.Seq.{get_or-append_seam, get_or_at}
use borrow.Author.Tests.{eqb-true, leb-true}
use Rattle.std.specs.declared.option.Option as O
use Rattle.std.specs.Prelude.{Some, None}
use Rattle.lists.specs.Lists.{all, All}
use Rattle.lists.proofs.Tests.{both}
use Rattle.answer.specs.declared.Kind.{Kind}
use Rattle.synth.specs.Kinds.{kind_of, most, state_number}
use Rattle.synth.specs.Settings.{Name, kill_on_barge_in, fetch_timeout, no_input_timeout, confidence_threshold, sensitivity_level, settings, slot, edition, with_slot, unset, is_unset, other_kind, is_edition_of}
use Rattle.synth.specs.Channel.{View, first_above, are_editions, sound}
use Rattle.synth.specs.declared.State.{State}
use Rattle.synth.specs.declared.State.TheVariants.{Idle, Speaking, Paused, Recognizing, Recognized}
use Rattle.synth.specs.declared.Entry.{Entry}
use Rattle.synth.specs.declared.Level.{Level}
use Rattle.synth.specs.declared.Setting.{Setting}
use Rattle.synth.specs.declared.Edition.{Edition}
use Rattle.channelnumbers.specs.Numbers.{entry_number, thresholds, padded, queue_numbers, sort_number, value_number, setting_numbers, edition_numbers, editions_numbers, numbers_of, state_at, last_at, entry_at, leveled, numbers_at, entries_at, setting_at, with_setting, edition_from, joining, editions_from, editions_in, name_in, view_with, view_at, view_of}
use Rattle.channelnumbers.proofs.Saving.{edition_six, queue_16}
use Rattle.synth.proofs.Channels.{sound_facts}
use Rattle.synth.proofs.Levels.{Exact}
use Rattle.channelnames.specs.Names.{kind_by}
use Rattle.channelnames.proofs.Tails.{named_kind}

-- the numbers tell a setting
abbrev pub Told : Setting → Type 0
Told x = setting_at (sort_number x) (value_number x) ≡ some x

-- and each setting of an edition
abbrev pub AllTold : Edition → Type 0
AllTold e = Told e.kill × Told e.fetch × Told e.silence × Told e.confidence × Told e.sensitivity

-- they tell an edition: each of its settings, of which those of the other kind are unset
pub record Tells (kind : Kind) (e : Edition) : Type 0 where
  pub told : AllTold e
  pub others : all (λ n. is_unset (slot n e)) (settings (other_kind kind)) ≡ true

-- a synthesizer's entry has the threshold 0
abbrev pub Zeroed : Kind → List Entry → Type 0
Zeroed Kind.Synthesizer queue = all (λ (e : Entry). eqb e.threshold 0) queue ≡ true
Zeroed Kind.Recognizer queue = Unit {0}

-- they tell the thresholds and the editions of a channel
pub record Tellable (v : View) : Type 0 where
  pub zeroed : Zeroed (kind_by v.name) v.queue
  pub editions : All (Tells (kind_by v.name)) v.editions

pub flag_told : (b : Bool) → Told (Setting.Flag b)
flag_told true = refl
flag_told false = refl

pub level_told : (l : Level) → Exact l → Told (Setting.Level l)
level_told l e = λ i. some (Setting.Level (record { millionths = l.millionths; single = sym e.number i }))

slot_told : (n : Name) (e : Edition) → AllTold e → Told (slot n e)
slot_told kill_on_barge_in e t = t.0
slot_told fetch_timeout e t = t.1
slot_told no_input_timeout e t = t.2
slot_told confidence_threshold e t = t.3
slot_told sensitivity_level e t = t.4

pub set_told : (n : Name) (x : Setting) → Told x → (e : Edition) → AllTold e → AllTold (with_slot n x e)
set_told kill_on_barge_in x h e t = (h, t.1, t.2, t.3, t.4)
set_told fetch_timeout x h e t = (t.0, h, t.2, t.3, t.4)
set_told no_input_timeout x h e t = (t.0, t.1, h, t.3, t.4)
set_told confidence_threshold x h e t = (t.0, t.1, t.2, h, t.4)
set_told sensitivity_level x h e t = (t.0, t.1, t.2, t.3, h)

state_back : (s : State) → state_at (state_number s) ≡ some s
state_back Idle = refl
state_back Speaking = refl
state_back Paused = refl
state_back Recognizing = refl
state_back Recognized = refl

last_back : (l : O.Option ℕ) → last_at (first_above l) ≡ l
last_back None = refl
last_back (Some id) = refl

-- an entry but for its threshold
abbrev bare : Entry → Entry
bare e = record { id = e.id; kill = e.kill; threshold = 0 }

entry_back : (e : Entry) → entry_at (entry_number e) ≡ bare e
entry_back e = go e.kill refl
  where
    go : (b : Bool) → e.kill ≡ b → entry_at (entry_number e) ≡ bare e
    go true k =
        let q : (e.id * 2 + 1) / 2 ≡ e.id = omega arith in
        let m : (e.id * 2 + 1) % 2 ≡ 1 = omega arith in
        ap (λ (b : Bool). entry_at (e.id * 2 + cond b 1 0)) k
        ∙ (λ i. record { id = q i; kill = (ap (λ (n : ℕ). eqb n 1) m ∙ sym k) i; threshold = 0 })
    go false k =
        let q : (e.id * 2 + 0) / 2 ≡ e.id = omega arith in
        let m : (e.id * 2 + 0) % 2 ≡ 0 = omega arith in
        ap (λ (b : Bool). entry_at (e.id * 2 + cond b 1 0)) k
        ∙ (λ i. record { id = q i; kill = (ap (λ (n : ℕ). eqb n 1) m ∙ sym k) i; threshold = 0 })

entries_back : (q : List Entry) → map entry_at (map entry_number q) ≡ map bare q
entries_back [] = refl
entries_back (e ∷ q) = ap₂ (λ (x : Entry) (l : List Entry). x ∷ l) (entry_back e) (entries_back q)

-- a synthesizer's have no threshold, a recognizer's get theirs back
unleveled : (q : List Entry) → Zeroed Kind.Synthesizer q → map bare q ≡ q
unleveled [] h = refl
unleveled (e ∷ q) h =
    let p = both (eqb e.threshold 0) (all (λ (e : Entry). eqb e.threshold 0) q) h in
    let z : 0 ≡ e.threshold = sym (eqb-true e.threshold 0 p.0) in
    λ i. record { id = e.id; kill = e.kill; threshold = z i } ∷ unleveled q p.1 i

leveled_back : (q : List Entry) → leveled (map bare q) (thresholds q) ≡ q
leveled_back [] = refl
leveled_back (e ∷ q) = ap (λ (l : List Entry). e ∷ l) (leveled_back q)

-- the numbers of l, where they stand behind p
numbers_behind : (p l r : List ℕ) (at n : ℕ) → length p ≡ at → length l ≡ n → numbers_at at n (p ++ (l ++ r)) ≡ l
numbers_behind p [] r at zero e f = refl
numbers_behind p [] r at (suc n) e f = absurd (let z : 0 ≡ suc n = f in omega arith)
numbers_behind p (x ∷ l) r at zero e f = absurd (let z : suc (length l) ≡ 0 = f in omega arith)
numbers_behind p (x ∷ l) r at (suc n) e f =
    let here : get_or (p ++ ((x ∷ l) ++ r)) at 0 ≡ x = ap (λ (k : ℕ). get_or (p ++ ((x ∷ l) ++ r)) k 0) (sym e) ∙ get_or-append_seam p x (l ++ r) 0 in
    let next : length (p ++ x ∷ []) ≡ suc at = length-append p (x ∷ []) ∙ add-one (length p) ∙ ap suc e in
    let size : length l ≡ n = omega (arith, f) in
    ap₂ (λ (y : ℕ) (k : List ℕ). y ∷ k) here
    (ap (numbers_at (suc at) n) (sym (append_assoc p (x ∷ []) (l ++ r))) ∙ numbers_behind (p ++ x ∷ []) l r (suc at) n next size)

abbrev zeros : ℕ → List ℕ
zeros n = replicate n 0

-- the queue of either kind, where its numbers stand behind four
module _ (front : List ℕ) (four : length front ≡ 4) (queue : List Entry) (r : List ℕ) where
  abbrev entries : List ℕ
  entries = map entry_number queue

  speech_back : (z : List ℕ) → numbers_at 4 (length queue) (front ++ (entries ++ z ++ r)) ≡ entries
  speech_back z =
      ap (λ (l : List ℕ). numbers_at 4 (length queue) (front ++ l)) (append_assoc entries z r)
      ∙ numbers_behind front entries (z ++ r) 4 (length queue) four (length-map queue entry_number)

  abbrev eight : List ℕ
  eight = padded 8 entries

  levels_back : length queue ≤ 8 → (z : List ℕ) → numbers_at 12 (length queue) (front ++ (eight ++ thresholds queue ++ z ++ r)) ≡ thresholds queue
  levels_back few z =
      let twelve : length (front ++ eight) ≡ 12 = simp (length-append, length-map, length-replicate) (omega (arith, few, four)) in
      let apart : front ++ (eight ++ thresholds queue ++ z ++ r) ≡ (front ++ eight) ++ (thresholds queue ++ (z ++ r)) =
      ap (λ (l : List ℕ). front ++ l) (append_assoc (eight ++ thresholds queue) z r ∙ append_assoc eight (thresholds queue) (z ++ r))
      ∙ sym (append_assoc front eight (thresholds queue ++ (z ++ r))) in
      ap (numbers_at 12 (length queue)) apart
      ∙ numbers_behind (front ++ eight) (thresholds queue) (z ++ r) 12 (length queue) twelve (length-map queue (λ (e : Entry). e.threshold))

  queue_back : (k : Kind) → length queue ≤ most k → Zeroed k queue
      → entries_at k (length queue) (front ++ (padded 16 (queue_numbers k queue) ++ r)) ≡ queue
  queue_back Kind.Synthesizer few fit =
      ap (map entry_at) (speech_back (zeros (16 - length entries))) ∙ entries_back queue ∙ unleveled queue fit
  queue_back Kind.Recognizer few fit =
      let z = zeros (16 - length (eight ++ thresholds queue)) in
      let apart : eight ++ thresholds queue ++ z ++ r ≡ entries ++ (zeros (8 - length entries) ++ (thresholds queue ++ z)) ++ r =
      ap (λ (l : List ℕ). l ++ r) (append_assoc eight (thresholds queue) z ∙ append_assoc entries (zeros (8 - length entries)) (thresholds queue ++ z)) in
      ap₂ (λ (l m : List ℕ). leveled (map entry_at l) m)
      (ap (λ (l : List ℕ). numbers_at 4 (length queue) (front ++ l)) apart ∙ speech_back (zeros (8 - length entries) ++ (thresholds queue ++ z)))
      (levels_back few z)
      ∙ ap (λ (l : List Entry). leveled l (thresholds queue)) (entries_back queue)
      ∙ leveled_back queue

-- ---- editions

pub unset_is : (x : Setting) → is_unset x ≡ true → Setting.Unset ≡ x
unset_is Setting.Unset h = refl
unset_is (Setting.Flag b) h = absurd (false≢true h)
unset_is (Setting.Millis n) h = absurd (false≢true h)
unset_is (Setting.Level l) h = absurd (false≢true h)

-- these settings of an edition, all others unset
only : List Name → Edition → Edition
only [] e = unset
only (n ∷ ns) e = with_slot n (slot n e) (only ns e)

own_all : (kind : Kind) (e : Edition) → Tells kind e → only (settings kind) e ≡ e
unfolding only
own_all Kind.Synthesizer e t =
    let p = both (is_unset e.silence) _ t.others in
    let q = both (is_unset e.confidence) _ p.1 in
    let r = both (is_unset e.sensitivity) true q.1 in
    λ i. edition e.kill e.fetch (unset_is e.silence p.0 i) (unset_is e.confidence q.0 i)
    (unset_is e.sensitivity r.0 i)
own_all Kind.Recognizer e t =
    let p = both (is_unset e.kill) _ t.others in
    let q = both (is_unset e.fetch) true p.1 in
    λ i. edition (unset_is e.kill p.0 i) (unset_is e.fetch q.0 i) e.silence e.confidence e.sensitivity

-- settings and editions whose numbers stand behind p
settings_behind : (ns : List Name) (e : Edition) → AllTold e → (p r : List ℕ) (at : ℕ) → length p ≡ at
    → edition_from ns at (p ++ (setting_numbers ns e ++ r)) ≡ some (only ns e)
unfolding only
settings_behind [] e t p r at h = refl
settings_behind (n ∷ ns) e t p r at h =
    let a : ℕ = sort_number (slot n e) in
    let b : ℕ = value_number (slot n e) in
    let l : List ℕ = setting_numbers ns e ++ r in
    let apart : p ++ (a ∷ b ∷ l) ≡ (p ++ a ∷ []) ++ (b ∷ l) = sym (append_assoc p (a ∷ []) (b ∷ l)) in
    let next : length (p ++ a ∷ []) ≡ at + 1 = length-append p (a ∷ []) ∙ ap (λ (k : ℕ). k + 1) h in
    let here : get_or (p ++ (a ∷ b ∷ l)) at 0 ≡ a = get_or_at p a (b ∷ l) 0 at h in
    let there : get_or (p ++ (a ∷ b ∷ l)) (at + 1) 0 ≡ b =
    ap (λ (m : List ℕ). get_or m (at + 1) 0) apart ∙ get_or_at (p ++ a ∷ []) b l 0 (at + 1) next in
    let two : length (p ++ (a ∷ b ∷ [])) ≡ at + 2 = length-append p (a ∷ b ∷ []) ∙ ap (λ (k : ℕ). k + 2) h in
    let rest : edition_from ns (at + 2) (p ++ (a ∷ b ∷ l)) ≡ some (only ns e) =
    ap (edition_from ns (at + 2)) (sym (append_assoc p (a ∷ b ∷ []) l))
    ∙ settings_behind ns e t (p ++ (a ∷ b ∷ [])) r (at + 2) two in
    ap₂ (with_setting n) (ap₂ setting_at here there ∙ slot_told n e t) rest

pub edition_behind : (kind : Kind) (e : Edition) → Tells kind e → (p r : List ℕ) (at : ℕ) → length p ≡ at
    → edition_from (settings kind) at (p ++ (edition_numbers kind e ++ r)) ≡ some e
edition_behind kind e t p r at h =
    let told : List ℕ = setting_numbers (settings kind) e in
    let pad : List ℕ = zeros (6 - length told) in
    ap (λ (l : List ℕ). edition_from (settings kind) at (p ++ l)) (append_assoc told pad r)
    ∙ settings_behind (settings kind) e t.told p (pad ++ r) at h
    ∙ ap some (own_all kind e t)

editions_behind : (kind : Kind) (es : List Edition) → All (Tells kind) es → (p r : List ℕ) (at : ℕ) → length p ≡ at
    → editions_from kind at (length es) (p ++ (editions_numbers kind es ++ r)) ≡ some es
editions_behind kind [] t p r at h = refl
editions_behind kind (e ∷ es) (t, ts) p r at h =
    let six : List ℕ = edition_numbers kind e in
    let rest : List ℕ = editions_numbers kind es ++ r in
    let far : length (p ++ six) ≡ at + 6 = length-append p six ∙ omega (arith, h, edition_six kind e) in
    let first : edition_from (settings kind) at (p ++ (six ++ editions_numbers kind es ++ r)) ≡ some e =
    ap (λ (l : List ℕ). edition_from (settings kind) at (p ++ l)) (append_assoc six (editions_numbers kind es) r)
    ∙ edition_behind kind e t p rest at h in
    let others : editions_from kind (at + 6) (length es) (p ++ (six ++ editions_numbers kind es ++ r)) ≡ some es =
    ap (editions_from kind (at + 6) (length es))
    (ap (λ (l : List ℕ). p ++ l) (append_assoc six (editions_numbers kind es) r) ∙ sym (append_assoc p six rest))
    ∙ editions_behind kind es ts (p ++ six) r (at + 6) far in
    ap₂ joining first others

-- ---- the whole

-- a sound channel has no more than its kind, and at most four editions, of its kind
pub sound_few : (v : View) → sound v ≡ true → length v.queue ≤ most (kind_by v.name)
sound_few v s = let f = sound_facts v s in rw (named_kind v.name f.named) at f.few

pub sound_four : (v : View) → sound v ≡ true → length v.editions ≤ 4
unfolding are_editions
sound_four v s =
    let n : ℕ = length v.editions in
    let p = both (leb 1 n && leb n 4) _ (sound_facts v s).editions_fit in
    leb-true n 4 (both (leb 1 n) (leb n 4) p.0).1

pub sound_own : (v : View) → sound v ≡ true → all (is_edition_of (kind_by v.name)) v.editions ≡ true
unfolding are_editions
sound_own v s =
    let f = sound_facts v s in
    let n : ℕ = length v.editions in
    rw (named_kind v.name f.named) at (both (leb 1 n && leb n 4) (all (is_edition_of (kind_of v.name)) v.editions) f.editions_fit).1

module _ (v : View) (few : length v.queue ≤ most (kind_by v.name)) (short : length v.name ≤ 44) (fit : Tellable v) where
  abbrev ours : Kind
  ours = kind_by v.name

  abbrev front : List ℕ
  front = state_number v.state ∷ first_above v.last ∷ length v.queue ∷ length v.name ∷ []

  abbrev sixteen : List ℕ
  sixteen = padded 16 (queue_numbers ours v.queue)

  abbrev forty_four : List ℕ
  forty_four = padded 44 v.name

  abbrev numbers : List ℕ
  numbers = editions_numbers ours v.editions

  abbrev tail : List ℕ
  tail = length v.editions ∷ padded 24 numbers

  abbrev ws : List ℕ
  ws = front ++ (sixteen ++ (forty_four ++ tail))

  whole : numbers_of v ≡ ws
  unfolding numbers_of
  whole = ap (λ (l : List ℕ). front ++ l) (append_assoc sixteen forty_four tail)

  twenty : length (front ++ sixteen) ≡ 20
  twenty = simp (length-append, length-replicate) (omega (arith, queue_16 v.queue ours few))

  name_back : name_in ws ≡ v.name
  name_back =
      let z : List ℕ = zeros (44 - length v.name) in
      ap (numbers_at 20 (length v.name))
      (sym (append_assoc front sixteen (forty_four ++ tail)) ∙ ap (λ (l : List ℕ). (front ++ sixteen) ++ l) (append_assoc v.name z tail))
      ∙ numbers_behind (front ++ sixteen) v.name (z ++ tail) 20 (length v.name) twenty refl

  abbrev sixty_four : List ℕ
  sixty_four = (front ++ sixteen) ++ forty_four

  places_64 : length sixty_four ≡ 64
  places_64 = simp (length-append, length-replicate) (omega (arith, queue_16 v.queue ours few, short))

  apart : ws ≡ sixty_four ++ tail
  apart = sym (append_assoc front sixteen (forty_four ++ tail)) ∙ sym (append_assoc (front ++ sixteen) forty_four tail)

  editions_back : editions_in ours ws ≡ some v.editions
  editions_back =
      let n : ℕ = length v.editions in
      let count : get_or ws 64 0 ≡ n = ap (λ (l : List ℕ). get_or l 64 0) apart ∙ get_or_at sixty_four n (padded 24 numbers) 0 64 places_64 in
      let next : length (sixty_four ++ n ∷ []) ≡ 65 = length-append sixty_four (n ∷ []) ∙ omega (arith, places_64) in
      ap₂ (λ (k : ℕ) (l : List ℕ). editions_from ours 65 k l) count (apart ∙ sym (append_assoc sixty_four (n ∷ []) (padded 24 numbers)))
      ∙ editions_behind ours v.editions fit.editions (sixty_four ++ n ∷ []) (zeros (24 - length numbers)) 65 next

  pub load_saved : view_of (numbers_of v) ≡ some v
  unfolding view_of
  load_saved =
      ap view_of whole
      ∙ ap₂ (view_at ws) (state_back v.state) (ap (λ (name : List ℕ). editions_in (kind_by name) ws) name_back ∙ editions_back)
      ∙ (λ i. some (record {
        name = name_back i;
        state = v.state;
        queue = (ap (λ (name : List ℕ). entries_at (kind_by name) (length v.queue) ws) name_back
            ∙ queue_back front refl v.queue (forty_four ++ tail) ours few fit.zeroed) i;
        last = last_back v.last i;
        editions = v.editions;
      }))

-- ---- what the numbers are, they can tell

abbrev ToldAt : Option Setting → Type 0
ToldAt none = Unit {0}
ToldAt (some x) = Told x

setting_told : (sort value : ℕ) → ToldAt (setting_at sort value)
setting_told zero value = refl
setting_told (suc zero) zero = refl
setting_told (suc zero) (suc zero) = refl
setting_told (suc zero) (suc (suc n)) = tt
setting_told (suc (suc zero)) value = refl
setting_told (suc (suc (suc zero))) value = refl
setting_told (suc (suc (suc (suc n)))) value = tt

AllToldAt : Option Edition → Type 0
AllToldAt none = Unit {0}
AllToldAt (some e) = AllTold e

settings_told_lem : (ns : List Name) (at : ℕ) (ws : List ℕ) → AllToldAt (edition_from ns at ws)
unfolding AllToldAt
settings_told_lem [] at ws = (refl, refl, refl, refl, refl)
settings_told_lem (n ∷ ns) at ws =
    go (setting_at (get_or ws at 0) (get_or ws (at + 1) 0)) (setting_told (get_or ws at 0) (get_or ws (at + 1) 0))
    (edition_from ns (at + 2) ws) (settings_told_lem ns (at + 2) ws)
  where
    go : (o : Option Setting) → ToldAt o → (e : Option Edition) → AllToldAt e → AllToldAt (with_setting n o e)
    go none t e h = tt
    go (some x) t none h = tt
    go (some x) t (some e) h = set_told n x t e h

abbrev OthersAt : Kind → Option Edition → Type 0
OthersAt kind none = Unit {0}
OthersAt kind (some e) = all (λ n. is_unset (slot n e)) (settings (other_kind kind)) ≡ true

others_unset : (kind : Kind) (at : ℕ) (ws : List ℕ) → OthersAt kind (edition_from (settings kind) at ws)
others_unset Kind.Synthesizer at ws = two (setting_at (get_or ws at 0) _) (setting_at (get_or ws (at + 2) 0) _)
  where
    two : (a b : Option Setting) → OthersAt Kind.Synthesizer (with_setting kill_on_barge_in a (with_setting fetch_timeout b (some unset)))
    two none b = tt
    two (some x) none = tt
    two (some x) (some y) = refl
others_unset Kind.Recognizer at ws =
    three (setting_at (get_or ws at 0) _) (setting_at (get_or ws (at + 2) 0) _) (setting_at (get_or ws (at + 2 + 2) 0) _)
  where
    three : (a b c : Option Setting) → OthersAt Kind.Recognizer
        (with_setting no_input_timeout a (with_setting confidence_threshold b (with_setting sensitivity_level c (some unset))))
    three none b c = tt
    three (some x) none c = tt
    three (some x) (some y) none = tt
    three (some x) (some y) (some z) = refl

abbrev TellsAll : Kind → Option (List Edition) → Type 0
TellsAll kind none = Unit {0}
TellsAll kind (some es) = All (Tells kind) es

editions_told : (kind : Kind) (at n : ℕ) (ws : List ℕ) → TellsAll kind (editions_from kind at n ws)
unfolding AllToldAt
editions_told kind at zero ws = tt
editions_told kind at (suc n) ws =
    go (edition_from (settings kind) at ws) (settings_told_lem (settings kind) at ws) (others_unset kind at ws)
    (editions_from kind (at + 6) n ws) (editions_told kind (at + 6) n ws)
  where
    go : (o : Option Edition) → AllToldAt o → OthersAt kind o → (es : Option (List Edition)) → TellsAll kind es → TellsAll kind (joining o es)
    go none t u es ts = tt
    go (some e) t u none ts = tt
    go (some e) t u (some es) ts = (record { told = t; others = u }, ts)

loaded_zeroed : (kind : Kind) (n : ℕ) (ws : List ℕ) → Zeroed kind (entries_at kind n ws)
loaded_zeroed Kind.Synthesizer n ws = go (numbers_at 4 n ws)
  where
    go : (l : List ℕ) → Zeroed Kind.Synthesizer (map entry_at l)
    go [] = refl
    go (n ∷ l) = go l
loaded_zeroed Kind.Recognizer n ws = tt

is_some : {v : View} → none ≡ some v → ⊥
is_some e = false≢true (ap (λ (o : Option View). elim o [ none ↦ false | some v ↦ true ]) e)

pub loaded_fit : (ws : List ℕ) {v : View} → view_of ws ≡ some v → Tellable v
unfolding view_of
loaded_fit ws {v} e =
    let kind : Kind = kind_by (name_in ws) in
    go (state_at (get_or ws 0 0)) (editions_in kind ws) (editions_told kind 65 (get_or ws 64 0) ws) e
  where
    go : (o : Option State) (es : Option (List Edition)) → TellsAll (kind_by (name_in ws)) es → view_at ws o es ≡ some v → Tellable v
    go none es t e = absurd (is_some e)
    go (some state) none t e = absurd (is_some e)
    go (some state) (some es) t e =
        subst Tellable (some-injective (view_with ws state es) v e)
        (record { zeroed = loaded_zeroed (kind_by (name_in ws)) (get_or ws 2 0) ws; editions = t })
