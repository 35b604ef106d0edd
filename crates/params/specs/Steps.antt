-- What the steps of SET-PARAMS and GET-PARAMS find, in the types of the code.
use Rattle.std.specs.Prelude.{ℕ, ◌≡◌, true, false, List, Option, Some, None}
use Rattle.std.proofs.Math.Option as Spec
use Rattle.std.proofs.Math.Option.{none, some}
use Rattle.lists.specs.Lists.{all}
use Rattle.message.specs.Message.{Fields, fields_in}
use Rattle.message.specs.Known.{names_of}
use Rattle.answer.specs.declared.Kind.{Kind}
use Rattle.synth.specs.Settings as S
use Rattle.synth.specs.Settings.{settings, may_stand, is_legal_as, setting_as}
use Rattle.synth.specs.Request.{Request}
use Rattle.synth.specs.Judgement.{Verdict, passes, fails, legal}
use Rattle.synth.specs.States.{changed}
use Rattle.synth.specs.declared.Edition.{Edition}
use Rattle.synth.specs.declared.Method.{Method}
use Rattle.synth.specs.declared.Setting.{Setting}
use Rattle.header.specs.declared.Header.{Header}
use Rattle.request.specs.Telling.{Tells}
use Rattle.outcomes.specs.Outcomes.{asked}

-- what a value sets, where it is legal
abbrev pub taken_in : S.Sort → List ℕ → Option Setting
taken_in s v = elim (is_legal_as s v) [ true ↦ Some (setting_as s v) | false ↦ None ]

-- the setting as it was, where no value is given
abbrev pub taken_by : S.Sort → Spec.Option (List ℕ) → Setting → Option Setting
taken_by s none before = Some before
taken_by s (some v) before = taken_in s v

-- the bits of the settings of a kind, and of the fields that may not stand
abbrev pub setting_bits : Kind → ℕ
setting_bits Kind.Synthesizer = 528
setting_bits Kind.Recognizer = 3328

abbrev pub forbidden_bits : Kind → ℕ
forbidden_bits Kind.Synthesizer = 3468
forbidden_bits Kind.Recognizer = 668

-- an edition that is made of the settings that a request sets, or none where a value is illegal
abbrev pub changed_as : Verdict → Edition → Option Edition
changed_as passes e = Some e
changed_as (fails status) e = None

-- for every SET-PARAMS whose fields may all stand on a channel of that kind, and are told by the header h
abbrev pub ChangesTo : Kind → Edition → List ℕ → Header → Option Edition → Type 0
ChangesTo k now f h r =
    (major minor id : ℕ) (fs : Fields (List ℕ)) → Tells true f h fs
    → all (may_stand k) (names_of (fields_in fs)) ≡ true
    → (let q : Request = asked major minor Method.SetParams id fs in
    r ≡ changed_as (legal q) (changed (settings k) q now))
