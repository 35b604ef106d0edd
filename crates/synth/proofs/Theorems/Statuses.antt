-- Every request is answered by one response, with one of the twelve statuses of document 01, or 403. Assumes nothing.
use Prim.Native.Nat.{ℕ}
use mathlib.Core.Path.{◌≡◌, refl}
use mathlib.Core.Bool.{true, or-true}
use mathlib.Core.List.{List, [], ◌∷◌}
use Rattle.lists.specs.Lists.{elem}
use Rattle.lists.proofs.Tests.{choose}
use Rattle.message.specs.Message.{Start, request, response, event, Message}
use Rattle.answer.specs.Answers as A
use Rattle.synth.specs.Channel.{View}
use Rattle.synth.specs.Request.{Request, ignores_any}
use Rattle.synth.specs.Judgement.{success}
use Rattle.synth.specs.States.{judge}
use Rattle.synth.proofs.Verdicts.{failures}
use Rattle.synth.proofs.Responses.{judged_says}

-- the statuses that the order of judgement gives
abbrev pub statuses : List ℕ
statuses = 200 ∷ 201 ∷ failures

-- one message, which is a response with one of them
abbrev Answers : Start (List ℕ) → Type 0
Answers (request name id) = ⊥
Answers (response id status state) = elem status statuses ≡ true
Answers (event name id state) = ⊥

abbrev pub OneAnswer : List Message → Type 0
OneAnswer [] = ⊥
OneAnswer (m ∷ []) = Answers m.start
OneAnswer (m ∷ n ∷ ms) = ⊥

success_listed : (r : Request) → elem (success r) statuses ≡ true
unfolding success
success_listed r = choose (λ n. elem n statuses ≡ true) (ignores_any r) (λ e. refl) (λ e. refl)

pub one_answer : (v : View) (r : Request) → OneAnswer (judge v r).says
unfolding A.response A.telling
one_answer v r = judged_says v r OneAnswer (λ state listed. success_listed r) (λ fields. success_listed r) (λ status h. rw (h, or-true, or-true))
