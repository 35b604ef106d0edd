-- Editions that a channel of a kind can have: what keeps them so, the thresholds that they give, and the fields that
-- tell them. Assumes nothing.
use Prim.Native.Nat.{ℕ, zero, suc, ◌*◌, ◌/◌, ◌%◌, ◌≤◌, ◌<◌}
use mathlib.Core.Path.{◌≡◌, refl, subst}
use mathlib.Core.Bool.{Bool, true, false, ◌&&◌, false≢true}
use mathlib.Core.Option.{Option, none, some}
use mathlib.Core.List.{List, [], ◌∷◌, ◌++◌, map}
use native.Mathlib.Omega.{arith}
use lib.Dec.{leb, lit≤}
use lib.ListN.{length, take, length-take}
use borrow.Author.Tests.{le-leb}
use Rattle.lists.specs.Lists.{all, put, All}
use Rattle.lists.proofs.Tests.{both}
use Rattle.lists.proofs.Scans.{all_append, all_of}
use Rattle.octets.specs.Octets.{bytes, is_digit, is_name}
use Rattle.writers.specs.Decimal.{digits, three_digits}
use Rattle.writers.proofs.Digits.{three_all}
use Rattle.message.specs.Message.{Field}
use Rattle.message.specs.Known.{known_of, value_of, once_each, names_of, among}
use Rattle.message.specs.declared.Known.{Known}
use Rattle.message.specs.declared.Known.TheVariants.{ContentLength}
use Rattle.answer.specs.Written.{fields_text}
use Rattle.answer.specs.Writable.{FieldFits}
use Rattle.answer.specs.Answers.{channel_identifier}
use Rattle.answer.specs.declared.Kind.{Kind}
use Rattle.answer.proofs.Values.{is_visible, visible, digit_visible, digits_visible}
use Rattle.answer.proofs.Answers.{field_fits}
use Rattle.answer.proofs.Sizes.{fields_size}
use Rattle.answer.proofs.Theorems.AnswersWritable.{Told}
use Rattle.synth.specs.Levels.{level_in}
use Rattle.synth.specs.Settings.{Name, kill_on_barge_in, fetch_timeout, no_input_timeout, confidence_threshold, sensitivity_level, settings, field_of, spelling, slot, with_slot, unset, is_legal, setting_in, setting_text, setting_field, or_all, named, kept_for, is_unset, is_edition_of, newest, further, edition_at}
use Rattle.synth.specs.Channel.{are_editions}
use Rattle.synth.specs.Request.{Request, acting}
use Rattle.synth.specs.Judgement.{optional}
use Rattle.synth.specs.States.{or_zero, level_set, threshold_in, set_by, changed}
use Rattle.synth.specs.declared.Level.{Level}
use Rattle.synth.specs.declared.Setting.{Setting}
use Rattle.synth.specs.declared.Edition.{Edition}
use Rattle.synth.proofs.Levels.{read_exact, kept_most}
use Rattle.synth.proofs.Theorems.Readable.{readable_kept, longest}

-- ---- one to four of them

unset_own : (k : Kind) → is_edition_of k unset ≡ true
unset_own Kind.Synthesizer = refl
unset_own Kind.Recognizer = refl

pub unset_alone : (k : Kind) → are_editions k (unset ∷ []) ≡ true
unfolding are_editions
unset_alone Kind.Synthesizer = refl
unset_alone Kind.Recognizer = refl

editions_all : (k : Kind) (es : List Edition) → are_editions k es ≡ true → all (is_edition_of k) es ≡ true
unfolding are_editions
editions_all k es e = (both (leb 1 (length es) && leb (length es) 4) (all (is_edition_of k) es) e).1

-- the edition of the moment is one of its kind
pub newest_own : (k : Kind) (es : List Edition) → are_editions k es ≡ true → is_edition_of k (newest es) ≡ true
newest_own k [] e = unset_own k
newest_own k (x ∷ es) e = (both (is_edition_of k x) (all (is_edition_of k) es) (editions_all k (x ∷ es) e)).0

all_take : (p : Edition → Bool) (n : ℕ) (l : List Edition) → all p l ≡ true → all p (take n l) ≡ true
all_take p zero l h = refl
all_take p (suc n) [] h = refl
all_take p (suc n) (x ∷ l) h = let t = both (p x) (all p l) h in rw t.0 (all_take p n l t.1)

-- a further edition of that kind leaves one to four
pub edition_joins : (k : Kind) (x : Edition) (es : List Edition) → is_edition_of k x ≡ true → are_editions k es ≡ true
    → are_editions k (further x es) ≡ true
unfolding are_editions
edition_joins k x es own e =
    rw (
      le-leb 1 (length (further x es)) (omega arith),
      le-leb (length (further x es)) 4 (omega (arith, length-take 3 es)),
      own,
    )
    (all_take (is_edition_of k) 3 es (editions_all k es e))

none_some : {x : Edition} → ◌≡◌ {A = Option Edition} none (some x) → ⊥
none_some e = let z : ◌≡◌ {A = ℕ} 0 1 = cc in omega arith

the_same : {x y : Edition} → ◌≡◌ {A = Option Edition} (some x) (some y) → x ≡ y
the_same e = cc

-- what is kept under a number is one of its kind
at_own : (p : Edition → Bool) (n : ℕ) (es : List Edition) (x : Edition) → edition_at n es ≡ some x → all p es ≡ true
    → p x ≡ true
at_own p n [] x e h = absurd (none_some e)
at_own p zero (y ∷ es) x e h = absurd (none_some e)
at_own p (suc zero) (y ∷ es) x e h = subst (λ (z : Edition). p z ≡ true) (the_same e) (both (p y) (all p es) h).0
at_own p (suc (suc n)) (y ∷ es) x e h = at_own p (suc n) es x e (both (p y) (all p es) h).1

pub kept_own : (k : Kind) (n : ℕ) (es : List Edition) (x : Edition) → edition_at n es ≡ some x → are_editions k es ≡ true
    → is_edition_of k x ≡ true
kept_own k n es x e h = at_own (is_edition_of k) n es x e (editions_all k es h)

-- ---- the settings of an edition

-- five tests in a row, in groups of two and three
record Five (a b c d e : Bool) : Type 0 where
  one : a ≡ true
  two : b ≡ true
  three : c ≡ true
  four : d ≡ true
  five : e ≡ true

two_three : (a b c d e : Bool) → (a && (b && true)) && (c && (d && (e && true))) ≡ true → Five a b c d e
two_three a b c d e h =
    let p = both (a && (b && true)) (c && (d && (e && true))) h in
    let q = both a (b && true) p.0 in
    let r = both c (d && (e && true)) p.1 in
    let s = both d (e && true) r.1 in
    record { one = q.0; two = (both b true q.1).0; three = r.0; four = s.0; five = (both e true s.1).0 }

three_two : (a b c d e : Bool) → (c && (d && (e && true))) && (a && (b && true)) ≡ true → Five a b c d e
three_two a b c d e h =
    let p = both (c && (d && (e && true))) (a && (b && true)) h in
    let q = both a (b && true) p.1 in
    let r = both c (d && (e && true)) p.0 in
    let s = both d (e && true) r.1 in
    record { one = q.0; two = (both b true q.1).0; three = r.0; four = s.0; five = (both e true s.1).0 }

synth_five : (e : Edition) → is_edition_of Kind.Synthesizer e ≡ true
    → Five (kept_for kill_on_barge_in e.kill) (kept_for fetch_timeout e.fetch) (is_unset e.silence)
    (is_unset e.confidence) (is_unset e.sensitivity)
synth_five e h = two_three _ _ _ _ _ h

recog_five : (e : Edition) → is_edition_of Kind.Recognizer e ≡ true
    → Five (is_unset e.kill) (is_unset e.fetch) (kept_for no_input_timeout e.silence)
    (kept_for confidence_threshold e.confidence) (kept_for sensitivity_level e.sensitivity)
recog_five e h = three_two _ _ _ _ _ h

unset_kept : (n : Name) (x : Setting) → is_unset x ≡ true → kept_for n x ≡ true
unset_kept n Setting.Unset h = refl
unset_kept n (Setting.Flag b) h = absurd (false≢true h)
unset_kept n (Setting.Millis m) h = absurd (false≢true h)
unset_kept n (Setting.Level l) h = absurd (false≢true h)

-- each setting is one that reading can give, those of the other kind too
pub own_kept : (k : Kind) (e : Edition) → is_edition_of k e ≡ true → (n : Name) → kept_for n (slot n e) ≡ true
own_kept Kind.Synthesizer e h kill_on_barge_in = (synth_five e h).one
own_kept Kind.Synthesizer e h fetch_timeout = (synth_five e h).two
own_kept Kind.Synthesizer e h no_input_timeout = unset_kept no_input_timeout e.silence (synth_five e h).three
own_kept Kind.Synthesizer e h confidence_threshold =
    unset_kept confidence_threshold e.confidence (synth_five e h).four
own_kept Kind.Synthesizer e h sensitivity_level = unset_kept sensitivity_level e.sensitivity (synth_five e h).five
own_kept Kind.Recognizer e h kill_on_barge_in = unset_kept kill_on_barge_in e.kill (recog_five e h).one
own_kept Kind.Recognizer e h fetch_timeout = unset_kept fetch_timeout e.fetch (recog_five e h).two
own_kept Kind.Recognizer e h no_input_timeout = (recog_five e h).three
own_kept Kind.Recognizer e h confidence_threshold = (recog_five e h).four
own_kept Kind.Recognizer e h sensitivity_level = (recog_five e h).five

-- ---- thresholds

set_most : (x : Setting) → kept_for confidence_threshold x ≡ true → level_set x ≤ 1000000
set_most Setting.Unset h = lit≤ tt
set_most (Setting.Flag b) h = lit≤ tt
set_most (Setting.Millis n) h = lit≤ tt
set_most (Setting.Level l) h = kept_most l h

read_most : (v : List ℕ) (o : Option Level) → level_in v ≡ o → or_zero o ≤ 1000000
read_most v none e = lit≤ tt
read_most v (some l) e = (read_exact v l e).most

-- the threshold that a request takes is one that reading can give
pub threshold_most : (k : Kind) (e : Edition) → is_edition_of k e ≡ true → (given : Option (List ℕ))
    → threshold_in e.confidence given ≤ 1000000
threshold_most k e h none = set_most e.confidence (own_kept k e h confidence_threshold)
threshold_most k e h (some v) = read_most v (level_in v) refl

-- ---- what SET-PARAMS sets

-- a setting of that kind
abbrev pub Own : Kind → Name → Type 0
Own k n = among (field_of n) (map field_of (settings k)) ≡ true

set_own : (k : Kind) (n : Name) → Own k n → (x : Setting) → kept_for n x ≡ true → (e : Edition) → is_edition_of k e ≡ true
    → is_edition_of k (with_slot n x e) ≡ true
set_own Kind.Synthesizer kill_on_barge_in o x g e h =
    let f = synth_five e h in rw (g, f.two, f.three, f.four, f.five)
set_own Kind.Synthesizer fetch_timeout o x g e h =
    let f = synth_five e h in rw (f.one, g, f.three, f.four, f.five)
set_own Kind.Synthesizer no_input_timeout o x g e h = absurd (false≢true o)
set_own Kind.Synthesizer confidence_threshold o x g e h = absurd (false≢true o)
set_own Kind.Synthesizer sensitivity_level o x g e h = absurd (false≢true o)
set_own Kind.Recognizer kill_on_barge_in o x g e h = absurd (false≢true o)
set_own Kind.Recognizer fetch_timeout o x g e h = absurd (false≢true o)
set_own Kind.Recognizer no_input_timeout o x g e h =
    let f = recog_five e h in rw (g, f.four, f.five, f.one, f.two)
set_own Kind.Recognizer confidence_threshold o x g e h =
    let f = recog_five e h in rw (f.three, g, f.five, f.one, f.two)
set_own Kind.Recognizer sensitivity_level o x g e h =
    let f = recog_five e h in rw (f.three, f.four, g, f.one, f.two)

by_own : (k : Kind) (n : Name) → Own k n → (o : Option (List ℕ)) → optional (is_legal n) o ≡ true
    → (e : Edition) → is_edition_of k e ≡ true → is_edition_of k (set_by n o e) ≡ true
by_own k n own none l e h = h
by_own k n own (some v) l e h = set_own k n own (setting_in n v) (readable_kept n v l) e h

-- the value of each setting that the request gives is legal
abbrev pub AllLegal : Request → Type 0
AllLegal r = (n : Name) → optional (is_legal n) (acting (field_of n) r) ≡ true

-- then the new edition is one of its kind
pub changed_own : (k : Kind) (r : Request) → AllLegal r → (e : Edition) → is_edition_of k e ≡ true
    → is_edition_of k (changed (settings k) r e) ≡ true
changed_own Kind.Synthesizer r l e h =
    let k = Kind.Synthesizer in
    let a : Edition = set_by kill_on_barge_in (acting (field_of kill_on_barge_in) r) e in
    by_own k fetch_timeout refl (acting (field_of fetch_timeout) r) (l fetch_timeout) a
    (by_own k kill_on_barge_in refl (acting (field_of kill_on_barge_in) r) (l kill_on_barge_in) e h)
changed_own Kind.Recognizer r l e h =
    let k = Kind.Recognizer in
    let a : Edition = set_by no_input_timeout (acting (field_of no_input_timeout) r) e in
    let b : Edition = set_by confidence_threshold (acting (field_of confidence_threshold) r) a in
    by_own k sensitivity_level refl (acting (field_of sensitivity_level) r) (l sensitivity_level) b
    (by_own k confidence_threshold refl (acting (field_of confidence_threshold) r) (l confidence_threshold) a
    (by_own k no_input_timeout refl (acting (field_of no_input_timeout) r) (l no_input_timeout) e h))

-- ---- the fields that tell settings

three_visible : (n : ℕ) → n < 1000 → all is_visible (three_digits n) ≡ true
three_visible n h = all_of is_digit is_visible digit_visible (three_digits n) (three_all n h)

pub text_visible : (x : Setting) → all is_visible (setting_text x) ≡ true
text_visible Setting.Unset = refl
text_visible (Setting.Flag true) = refl
text_visible (Setting.Flag false) = refl
text_visible (Setting.Millis n) = digits_visible n
text_visible (Setting.Level l) =
    let m : ℕ = l.millionths in
    all_append is_visible (digits (m / 1000000) ++ bytes "." ++ three_digits (m / 1000 % 1000)) (three_digits (m % 1000))
    (all_append is_visible (digits (m / 1000000) ++ bytes ".") (three_digits (m / 1000 % 1000))
    (all_append is_visible (digits (m / 1000000)) (bytes ".") (digits_visible (m / 1000000)) refl)
    (three_visible (m / 1000 % 1000) (omega arith)))
    (three_visible (m % 1000) (omega arith))

-- a spelling is a field's name
pub record Spelled (n : List ℕ) : Type 0 where
  pub some : 1 ≤ length n
  pub most : length n ≤ 20
  pub names : all is_name n ≡ true

pub spelled : (n : Name) → Spelled (spelling n)
spelled kill_on_barge_in = record { some = lit≤ tt; most = lit≤ tt; names = refl }
spelled fetch_timeout = record { some = lit≤ tt; most = lit≤ tt; names = refl }
spelled no_input_timeout = record { some = lit≤ tt; most = lit≤ tt; names = refl }
spelled confidence_threshold = record { some = lit≤ tt; most = lit≤ tt; names = refl }
spelled sensitivity_level = record { some = lit≤ tt; most = lit≤ tt; names = refl }

module _ (kind : Kind) (e : Edition) (own : is_edition_of kind e ≡ true) where
  setting_fits : (n : Name) → FieldFits (setting_field e n)
  setting_fits n =
      let s = spelled n in
      field_fits (setting_field e n) s.some (omega (arith, s.most)) s.names
      (visible (setting_text (slot n e)) (text_visible (slot n e)))

  abbrev told : List Name → List (Field (List ℕ))
  told ns = map (setting_field e) ns

  told_fit : (ns : List Name) → All FieldFits (told ns)
  told_fit [] = tt
  told_fit (n ∷ ns) = (setting_fits n, told_fit ns)

  told_short : (ns : List Name) → length (fields_text (told ns)) ≤ length ns * 42
  unfolding fields_text
  told_short [] = lit≤ tt
  told_short (n ∷ ns) =
      omega (
        arith,
        fields_size (setting_field e n) (told ns),
        (spelled n).most,
        longest n (slot n e) (own_kept kind e own n),
        told_short ns,
      )

  some_told : (name : List ℕ) (ns : List Name) → length ns ≤ 3 → length (told ns) ≤ 3
      → once_each true (names_of (channel_identifier name ∷ told ns)) ≡ true
      → value_of ContentLength (channel_identifier name ∷ told ns) ≡ none → Told name (told ns)
  some_told name ns few few' once bare = record {
    few = omega arith;
    fields = told_fit ns;
    once = once;
    bare = bare;
    short = omega (arith, told_short ns);
  }

  -- each choice of them, computed; none named asks for all
  synth_told : (name : List ℕ) (a b : Bool)
      → Told name (told (or_all (put a kill_on_barge_in (put b fetch_timeout [])) (settings Kind.Synthesizer)))
  unfolding known_of value_of
  synth_told name true true = some_told name (kill_on_barge_in ∷ fetch_timeout ∷ []) (lit≤ tt) (lit≤ tt) refl refl
  synth_told name true false = some_told name (kill_on_barge_in ∷ []) (lit≤ tt) (lit≤ tt) refl refl
  synth_told name false true = some_told name (fetch_timeout ∷ []) (lit≤ tt) (lit≤ tt) refl refl
  synth_told name false false = some_told name (kill_on_barge_in ∷ fetch_timeout ∷ []) (lit≤ tt) (lit≤ tt) refl refl

  recog_told : (name : List ℕ) (a b c : Bool) → Told name (told
      (or_all (put a no_input_timeout (put b confidence_threshold (put c sensitivity_level []))) (settings Kind.Recognizer)))
  unfolding known_of value_of
  recog_told name true true true =
      some_told name (no_input_timeout ∷ confidence_threshold ∷ sensitivity_level ∷ []) (lit≤ tt) (lit≤ tt) refl refl
  recog_told name true true false =
      some_told name (no_input_timeout ∷ confidence_threshold ∷ []) (lit≤ tt) (lit≤ tt) refl refl
  recog_told name true false true =
      some_told name (no_input_timeout ∷ sensitivity_level ∷ []) (lit≤ tt) (lit≤ tt) refl refl
  recog_told name true false false = some_told name (no_input_timeout ∷ []) (lit≤ tt) (lit≤ tt) refl refl
  recog_told name false true true =
      some_told name (confidence_threshold ∷ sensitivity_level ∷ []) (lit≤ tt) (lit≤ tt) refl refl
  recog_told name false true false = some_told name (confidence_threshold ∷ []) (lit≤ tt) (lit≤ tt) refl refl
  recog_told name false false true = some_told name (sensitivity_level ∷ []) (lit≤ tt) (lit≤ tt) refl refl
  recog_told name false false false =
      some_told name (no_input_timeout ∷ confidence_threshold ∷ sensitivity_level ∷ []) (lit≤ tt) (lit≤ tt) refl refl

-- whatever is asked for, the fields that answer it are fit to be written
pub settings_told_lem : (kind : Kind) (e : Edition) → is_edition_of kind e ≡ true → (name : List ℕ) (given : List Known)
    → Told name (map (setting_field e) (named given (settings kind)))
settings_told_lem Kind.Synthesizer e own name given =
    synth_told Kind.Synthesizer e own name (among (field_of kill_on_barge_in) given) (among (field_of fetch_timeout) given)
settings_told_lem Kind.Recognizer e own name given =
    recog_told Kind.Recognizer e own name (among (field_of no_input_timeout) given)
    (among (field_of confidence_threshold) given) (among (field_of sensitivity_level) given)
