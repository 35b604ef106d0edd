-- The score of a recognizer's report: 000 and 008 count as 001 where it is not greater than the threshold of the active request, 11 where it is no
-- number; a synthesizer's is not looked at. For all thresholds and scores, and by table. Assumes nothing.
use Prim.Native.Nat.{ℕ, ◌<◌}
use mathlib.Core.Path.{◌≡◌, refl, sym, ap, ap₂, ◌∙◌}
use mathlib.Core.Bool.{Bool, true, false, not, ◌&&◌, and-false}
use mathlib.Core.List.{List, [], ◌∷◌}
use lib.Ieee.{Float, lt, is_nan}
use borrow.Author.Tests.{lt-leb}
use Rattle.std.specs.Prelude.{Some}
use Rattle.answer.specs.Answers.{completes}
use Rattle.answer.specs.declared.Kind.{Kind}
use Rattle.ledger.specs.Ledger.{Turn}
use Rattle.synth.specs.Levels.{single}
use Rattle.synth.specs.Channel.{View, kind, ids, sound}
use Rattle.synth.specs.States.{Outcome, is_match, counted, ends_one, ends_all, completed}
use Rattle.synth.specs.Calls.{Reply, refuse, deliver, awaits, is_no_score, is_no_cause, ending, reported, call}
use Rattle.synth.specs.declared.State.TheVariants.{Speaking, Recognizing, Recognized}
use Rattle.synth.specs.declared.Entry.{Entry}
use Rattle.synth.proofs.Computed.{channel, killed, beyond}
use Rattle.synth.proofs.Theorems.HandledCalls.{reporting}
use Rattle.synth.proofs.Theorems.Recognitions as R
use Rattle.synth.proofs.Theorems.Recognitions.{halfway, whole, half, one, holding, idle, Report, ends, leaving, refusing}

-- ---- for all of them

module _ (threshold : ℕ) (score : Float) where
  abbrev count : ℕ → Bool → ℕ
  count cause short = elim short [ true ↦ 1 | false ↦ cause ]

  -- greater than the threshold: the cause is what it is
  pub greater_stays : (cause : ℕ) → lt (single threshold) score ≡ true → counted threshold cause score ≡ cause
  greater_stays cause g = ap (count cause) (ap (λ b. is_match cause && not b) g ∙ and-false (is_match cause))

  -- not greater: 000 and 008 count as 001
  pub not_greater_001 : (cause : ℕ) → is_match cause ≡ true → lt (single threshold) score ≡ false → counted threshold cause score ≡ 1
  not_greater_001 cause m g = ap (count cause) (ap (λ b. b && not (lt (single threshold) score)) m ∙ ap not g)

  -- any other cause is what it is, whatever the score
  pub others_stay : (cause : ℕ) → is_match cause ≡ false → counted threshold cause score ≡ cause
  others_stay cause m = ap (count cause) (ap (λ b. b && not (lt (single threshold) score)) m)

-- the thresholds of the waiting ones change nothing of what is said
pub waiting_unseen : (k : Kind) (e : Entry) (q w : List Entry) (v : View) (cause : ℕ) (score : Float) → ids q ≡ ids w
    → (completed k e q v cause score).says ≡ (completed k e w v cause score).says
waiting_unseen Kind.Synthesizer e q w v cause score same = refl
waiting_unseen Kind.Recognizer e q w v cause score same = go (is_match (counted e.threshold cause score)) (counted e.threshold cause score)
  where
    after : Bool → List Entry → ℕ → Outcome
    after b q n = elim b [ true ↦ ends_one Kind.Recognizer Recognized Recognizing e q v n | false ↦ ends_all Kind.Recognizer Recognized e q v n ]

    go : (b : Bool) (n : ℕ) → (after b q n).says ≡ (after b w n).says
    go true n = refl
    go false n = ap (λ (l : List ℕ). completes Kind.Recognizer v.name (e.id ∷ l) n) same

-- a score that is no number is refused with 11 in every state and with every cause
module _ (v : View) (cause : ℕ) (score : Float) (room : ℕ) (told : kind v ≡ Kind.Recognizer) (small : cause < 16) (none : is_nan score ≡ true) where
  not_scored : reported v cause score room ≡ refuse v 11 0
  unfolding reported
  not_scored =
      let known : is_no_cause (kind v) cause ≡ false = rw told (lt-leb 16 cause small) in
      let score-bad : is_no_score (kind v) score ≡ true = rw told none in
      rw (known, score-bad, reported)

  pub no_number_11 : sound v ≡ true → call v (reporting cause score room) ≡ refuse v 11 0
  unfolding call
  no_number_11 s = rw (s, call) not_scored

-- on a synthesizer every score does the same
module _ (v : View) (cause : ℕ) (a b : Float) (room : ℕ) (told : kind v ≡ Kind.Synthesizer) where
  ends_alike : (q : List Entry) → ending q v cause a room ≡ ending q v cause b room
  ends_alike [] = refl
  ends_alike (e ∷ q) =
      ap (deliver v 0 room) (ap (λ (k : Kind). completed k e q v cause a) told ∙ sym (ap (λ (k : Kind). completed k e q v cause b) told))

  unjudged : (score : Float) → is_no_score (kind v) score ≡ false
  unjudged score = rw told

  reports_alike : reported v cause a room ≡ reported v cause b room
  unfolding reported
  reports_alike =
      ap₂
      (λ (none : Bool) (t : Turn View Reply).
      elim (is_no_cause (kind v) cause) [
        | true ↦ refuse v 9 0
        | false ↦ elim none [ true ↦ refuse v 11 0 | false ↦ elim (awaits v.state) [ true ↦ t | false ↦ refuse v 8 0 ] ]
      ])
      (unjudged a ∙ sym (unjudged b)) (ends_alike v.queue)

  pub score_unseen : call v (reporting cause a room) ≡ call v (reporting cause b room)
  unfolding call
  score_unseen = ap (λ (t : Turn View Reply). elim (sound v) [ true ↦ t | false ↦ refuse v 21 0 ]) reports_alike

-- ---- by table

-- 7 is active with that threshold, 8 waits
pub with_threshold : ℕ → ℕ → ℕ → Report
with_threshold threshold cause score = R.reported (holding Recognizing (beyond threshold 7 ∷ killed 8 ∷ [])) cause score

pub passes : Report
passes = leaving Recognizing (killed 8 ∷ []) (ends 7 "000 success" ∷ [])

pub counts_001 : Report
counts_001 = leaving Recognized [] (ends 7 "001 no-match" ∷ ends 8 "011 cancelled" ∷ [])

-- the bits of -0, of the least number above 0, of both infinities, and of no number
abbrev pub minus_zero : ℕ
minus_zero = 2147483648

abbrev pub least : ℕ
least = 1

abbrev pub infinity : ℕ
infinity = 2139095040

abbrev pub minus_infinity : ℕ
minus_infinity = 4286578688

abbrev pub no_number_lem : ℕ
no_number_lem = 2143289344

pub by_score :
    with_threshold halfway 0 half  -- equal
    ∷ with_threshold halfway 0 1056964609  -- one bit above
    ∷ with_threshold halfway 0 1056964607  -- one bit below
    ∷ with_threshold 0 0 0
    ∷ with_threshold 0 0 minus_zero
    ∷ with_threshold 0 0 least
    ∷ with_threshold whole 0 one
    ∷ with_threshold whole 0 infinity
    ∷ with_threshold halfway 0 minus_infinity
    ∷ with_threshold 100000 0 1036831949  -- 0.1, rounded
    ∷ with_threshold 100000 0 1036831950
    ∷ with_threshold 1 0 897988541  -- a millionth, rounded
    ∷ with_threshold 1 0 897988542
    ∷ with_threshold 1000001 0 infinity  -- a threshold that no reading gives
    ∷ []
    ≡ counts_001
    ∷ passes
    ∷ counts_001
    ∷ counts_001
    ∷ counts_001
    ∷ passes
    ∷ counts_001
    ∷ passes
    ∷ counts_001
    ∷ counts_001
    ∷ passes
    ∷ counts_001
    ∷ passes
    ∷ refusing 21 (holding Recognizing (beyond 1000001 7 ∷ killed 8 ∷ []))
    ∷ []
unfolding with_threshold passes counts_001 R.reported ends leaving refusing
by_score = refl

-- 008 counts as 001 as well; another cause stays
pub by_cause :
    with_threshold halfway 8 one
    ∷ with_threshold halfway 8 half
    ∷ with_threshold halfway 13 0
    ∷ []
    ≡ leaving Recognizing (killed 8 ∷ []) (ends 7 "008 success-maxtime" ∷ [])
    ∷ counts_001
    ∷ leaving Recognized [] (ends 7 "013 partial-match" ∷ ends 8 "011 cancelled" ∷ [])
    ∷ []
unfolding with_threshold counts_001 R.reported ends leaving
by_cause = refl

-- 9 before 11, 11 before 8, with every cause
pub no_number :
    with_threshold halfway 0 no_number_lem
    ∷ with_threshold halfway 4 no_number_lem
    ∷ with_threshold halfway 15 2139095041
    ∷ with_threshold halfway 0 4290772992
    ∷ with_threshold halfway 16 no_number_lem
    ∷ R.reported idle 0 no_number_lem
    ∷ R.reported idle 16 no_number_lem
    ∷ []
    ≡ refusing 11 (holding Recognizing (beyond halfway 7 ∷ killed 8 ∷ []))
    ∷ refusing 11 (holding Recognizing (beyond halfway 7 ∷ killed 8 ∷ []))
    ∷ refusing 11 (holding Recognizing (beyond halfway 7 ∷ killed 8 ∷ []))
    ∷ refusing 11 (holding Recognizing (beyond halfway 7 ∷ killed 8 ∷ []))
    ∷ refusing 9 (holding Recognizing (beyond halfway 7 ∷ killed 8 ∷ []))
    ∷ refusing 11 idle
    ∷ refusing 9 idle
    ∷ []
unfolding with_threshold idle R.reported refusing
no_number = refl

-- the threshold is the active one's own, kept as it came
pub own_threshold :
    R.reported (holding Recognizing (killed 7 ∷ beyond whole 8 ∷ [])) 0 half
    ∷ R.reported (holding Recognizing (beyond whole 8 ∷ [])) 0 half
    ∷ R.reported (holding Recognizing (beyond whole 7 ∷ killed 8 ∷ [])) 0 half
    ∷ R.reported (holding Recognizing (killed 7 ∷ beyond 333333 8 ∷ [])) 0 half
    ∷ []
    ≡ leaving Recognizing (beyond whole 8 ∷ []) (ends 7 "000 success" ∷ [])
    ∷ leaving Recognized [] (ends 8 "001 no-match" ∷ [])
    ∷ counts_001
    ∷ leaving Recognizing (beyond 333333 8 ∷ []) (ends 7 "000 success" ∷ [])
    ∷ []
unfolding counts_001 R.reported ends leaving
own_threshold = refl

-- a synthesizer's report, whatever the score
pub synthesizer_unscored :
    R.reported (channel "7f3a@speechsynth" Speaking (killed 7 ∷ killed 8 ∷ []) (Some 8)) 0 no_number_lem
    ∷ []
    ≡ R.reported (channel "7f3a@speechsynth" Speaking (killed 7 ∷ killed 8 ∷ []) (Some 8)) 0 one
    ∷ []
unfolding R.reported
synthesizer_unscored = refl
