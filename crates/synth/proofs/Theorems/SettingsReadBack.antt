-- What GET-PARAMS answers reads back: the answer as it was written, in at most 305 bytes; in it, under its name, the
-- value of each setting that it tells; and what SET-PARAMS took GET-PARAMS answers, in a text that is legal and sets
-- the same, for every level. Assumes nothing.
use Prim.Native.Nat.{ℕ, ◌≤◌, ◌<◌}
use mathlib.Core.Path.{◌≡◌, refl, sym, ap, subst, ◌∙◌}
use mathlib.Core.Bool.{Bool, true, false}
use mathlib.Core.Option.{Option, some}
use mathlib.Core.List.{List, [], ◌∷◌, ◌++◌, map}
use lib.Dec.{lit<}
use lib.ListN.{length}
use Rattle.lists.specs.Lists.{put, keep, All}
use Rattle.message.specs.Message as M
use Rattle.message.specs.Message.{message, good, Field, fields_in}
use Rattle.message.specs.Known.{known_of, value_of, names_of, among}
use Rattle.message.specs.Reading.{read_bytes}
use Rattle.message.specs.declared.Known.{Known}
use Rattle.message.specs.declared.RequestState.TheVariants.{Complete}
use Rattle.answer.specs.Written.{written}
use Rattle.answer.specs.Answers.{channel_identifier, telling}
use Rattle.answer.specs.declared.Kind.{Kind}
use Rattle.answer.proofs.Theorems.ReadBack.{read_back}
use Rattle.answer.proofs.Theorems.AnswersWritable.{NameFits, Told, telling_writable}
use Rattle.answer.proofs.Theorems.LongestAnswer.{longest_telling}
use Rattle.synth.specs.Settings.{Name, kill_on_barge_in, fetch_timeout, no_input_timeout, confidence_threshold, sensitivity_level, settings, sort_of, field_of, slot, is_legal_as, is_legal, setting_as, setting_in, setting_text, setting_field, or_all, named, newest}
use Rattle.synth.specs.Channel.{View, kind, sound}
use Rattle.synth.specs.Request.{Request, acting}
use Rattle.synth.specs.Judgement.{optional}
use Rattle.synth.specs.States.{Outcome, told_by}
use Rattle.synth.specs.declared.Setting.{Setting}
use Rattle.synth.specs.declared.Edition.{Edition}
use Rattle.synth.proofs.Channels.{sound_facts}
use Rattle.synth.proofs.Names.{name_fits_lem}
use Rattle.synth.proofs.Editions.{newest_own, settings_told_lem}
use Rattle.synth.proofs.Theorems.Readable.{same_value}
use Rattle.synth.proofs.Theorems.Params.{taken, TakesAll}

-- ---- the message

-- r asks a sound channel
module _ (v : View) (s : sound v ≡ true) (r : Request) (small : r.id < 4294967296) where
  fields_told : Told v.name (told_by v r)
  fields_told =
      settings_told_lem (kind v) (newest v.editions) (newest_own (kind v) v.editions (sound_facts v s).editions_fit)
      v.name (names_of (fields_in r.fields))

  fits : NameFits v.name
  fits = name_fits_lem v.name (sound_facts v s).named

  -- the answer to it
  abbrev pub answer : List ℕ
  answer = written (telling v.name r.id 200 (told_by v r))

  pub answer_back : (rest : List ℕ)
      → read_bytes (answer ++ rest)
      ≡ message (record { stated = length answer; major = 2; minor = 0 }) (M.response r.id 200 Complete)
      (good (channel_identifier v.name ∷ told_by v r) [])
  unfolding telling
  answer_back rest =
      read_back (telling v.name r.id 200 (told_by v r)) rest
      (telling_writable v.name r.id 200 (told_by v r) fits small (lit< tt) fields_told)

  pub answer_short : length answer ≤ 305
  answer_short =
      longest_telling v.name r.id 200 (told_by v r) fits small fields_told

-- ---- the values in it

module _ (name : List ℕ) (e : Edition) where
  -- the fields that tell these settings of the edition
  abbrev pub telling_fields : List Name → List (Field (List ℕ))
  telling_fields ns = channel_identifier name ∷ map (setting_field e) ns

  -- each of them is found under its name
  abbrev pub Found : List Name → Type 0
  Found ns = All (λ (n : Name). value_of (field_of n) (telling_fields ns) ≡ some (setting_text (slot n e))) ns

  synth_found : (a b : Bool) → Found (or_all (put a kill_on_barge_in (put b fetch_timeout [])) (settings Kind.Synthesizer))
  unfolding known_of value_of
  synth_found true true = (refl, (refl, tt))
  synth_found true false = (refl, tt)
  synth_found false true = (refl, tt)
  synth_found false false = (refl, (refl, tt))

  recog_found : (a b c : Bool)
      → Found (or_all (put a no_input_timeout (put b confidence_threshold (put c sensitivity_level [])))
      (settings Kind.Recognizer))
  unfolding known_of value_of
  recog_found true true true = (refl, (refl, (refl, tt)))
  recog_found true true false = (refl, (refl, tt))
  recog_found true false true = (refl, (refl, tt))
  recog_found true false false = (refl, tt)
  recog_found false true true = (refl, (refl, tt))
  recog_found false true false = (refl, tt)
  recog_found false false true = (refl, tt)
  recog_found false false false = (refl, (refl, (refl, tt)))

  -- whatever is asked for
  pub values_found : (kind : Kind) (given : List Known) → Found (named given (settings kind))
  values_found Kind.Synthesizer given =
      synth_found (among (field_of kill_on_barge_in) given) (among (field_of fetch_timeout) given)
  values_found Kind.Recognizer given =
      recog_found (among (field_of no_input_timeout) given) (among (field_of confidence_threshold) given)
      (among (field_of sensitivity_level) given)

-- an unset one is told empty
pub unset_told : setting_text Setting.Unset ≡ []
unset_told = refl

-- ---- what SET-PARAMS took GET-PARAMS answers

-- among these fields stands, under the setting's name, a text that is legal and sets what v sets
pub record ReadsAs (n : Name) (v : List ℕ) (fs : List (Field (List ℕ))) : Type 0 where
  pub text : List ℕ
  pub found : value_of (field_of n) fs ≡ some text
  pub legal : is_legal n text ≡ true
  pub same : setting_in n text ≡ setting_in n v

module _ {A : Type 0} where
  all_keep : (P : A → Type 0) (p : A → Bool) (l : List A) → All P l → All P (keep p l)
  all_keep P p [] h = tt
  all_keep P p (x ∷ l) h = go (p x) (all_keep P p l h.1)
    where
      go : (b : Bool) → All P (keep p l) → All P (put b x (keep p l))
      go true k = (h.0, k)
      go false k = k

  all_both : (P Q R : A → Type 0) → ((x : A) → P x → Q x → R x) → (l : List A) → All P l → All Q l → All R l
  all_both P Q R f [] p q = tt
  all_both P Q R f (x ∷ l) p q = (f x p.0 q.0, all_both P Q R f l p.1 q.1)

all_or : (P : Name → Type 0) (l own : List Name) → All P l → All P own → All P (or_all l own)
all_or P [] own h k = k
all_or P (n ∷ ns) own h k = h

all_named : (P : Name → Type 0) (given : List Known) (own : List Name) → All P own → All P (named given own)
all_named P given own h =
    all_or P (keep (λ n. among (field_of n) given) own) own (all_keep P (λ n. among (field_of n) given) own h) h

-- the setting that is set is told as it reads
reads_as : (n : Name) (v : List ℕ) (x : Setting) (fs : List (Field (List ℕ))) → is_legal n v ≡ true → x ≡ setting_in n v
    → value_of (field_of n) fs ≡ some (setting_text x) → ReadsAs n v fs
reads_as n v x fs h e f =
    let t = same_value n v h in
    record {
      text = setting_text x;
      found = f;
      legal = ap (λ (y : Setting). is_legal_as (sort_of n) (setting_text y)) e ∙ t.legal_again;
      same = ap (λ (y : Setting). setting_as (sort_of n) (setting_text y)) e ∙ t.same_again;
    }

-- the value v that the request gave for the setting is told among these fields
abbrev pub Answered : Request → List (Field (List ℕ)) → Name → Type 0
Answered r fs n = (v : List ℕ) → acting (field_of n) r ≡ some v → ReadsAs n v fs

-- WHAT SET-PARAMS TOOK GET-PARAMS ANSWERS: r was taken, and of the settings that an answer tells then, whatever it was
-- asked for, each one that r gave reads back as the same value
pub took_and_told : (v : View) (r : Request) (o : Outcome) (t : TakesAll v r o) (given : List Known)
    → All (Answered r (telling_fields v.name (newest o.next.editions) (named given (settings (kind v)))))
    (named given (settings (kind v)))
took_and_told v r o t given =
    subst (λ (e : Edition). All (Answered r (telling_fields v.name e ns)) ns) (sym newest_now)
    (all_both Taken Stands (Answered r fs) answered ns (all_named Taken given (settings (kind v)) t.each)
    (values_found v.name t.now (kind v) given))
  where
    newest_now : newest o.next.editions ≡ t.now
    newest_now = ap newest t.newest_four

    ns : List Name
    ns = named given (settings (kind v))

    fs : List (Field (List ℕ))
    fs = telling_fields v.name t.now ns

    Taken : Name → Type 0
    Taken n = slot n t.now ≡ taken n (acting (field_of n) r) (slot n (newest v.editions))

    Stands : Name → Type 0
    Stands n = value_of (field_of n) fs ≡ some (setting_text (slot n t.now))

    legal_of : (n : Name) (x : List ℕ) → acting (field_of n) r ≡ some x → is_legal n x ≡ true
    legal_of n x e = subst (λ (a : Option (List ℕ)). optional (is_legal n) a ≡ true) e (t.all_legal n)

    answered : (n : Name) → Taken n → Stands n → Answered r fs n
    answered n p q x e =
        reads_as n x (slot n t.now) fs (legal_of n x e)
        (p ∙ ap (λ (a : Option (List ℕ)). taken n a (slot n (newest v.editions))) e) q
