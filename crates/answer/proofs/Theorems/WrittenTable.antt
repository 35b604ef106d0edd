-- Responses and events by table, to the byte: the three states, lists of none, one and several ids, each cause of
-- either kind, and the events that end none, one and several requests.
-- Assumes nothing.
use Prim.Native.Nat.{ℕ}
use mathlib.Core.Path.{◌≡◌, refl}
use mathlib.Core.List.{List, [], ◌∷◌, ◌++◌}
use Rattle.octets.specs.Octets.{bytes}
use Rattle.writers.specs.Decimal.{digits, digits_within, three_digits}
use Rattle.writers.specs.SelfLength.{self_length}
use Rattle.message.specs.declared.RequestState.{RequestState}
use Rattle.message.specs.declared.RequestState.TheVariants.{Pending, InProgress, Complete}
use Rattle.answer.specs.Written.{start_text, field_text, fields_text, after_length, written, written_all}
use Rattle.answer.specs.IdList.{behind_commas, id_list_text}
use Rattle.answer.specs.Answers.{response, complete, completes}
use Rattle.answer.specs.declared.Kind.{Kind}

pub responds : ℕ → ℕ → RequestState → List ℕ → List ℕ
responds id status state ids = written (response (bytes "7f3a@speechsynth") id status state ids)

pub spoken : ℕ → ℕ → List ℕ
spoken id cause = written (complete Kind.Synthesizer (bytes "7f3a@speechsynth") id cause)

pub recognized : ℕ → ℕ → List ℕ
recognized id cause = written (complete Kind.Recognizer (bytes "7f3a@speechrecog") id cause)

-- several, each behind the one before
pub ended : List ℕ → ℕ → List ℕ
ended ids cause = written_all (completes Kind.Recognizer (bytes "7f3a@speechrecog") ids cause)

pub written_bytes :
    responds 7 200 InProgress []
    ∷ responds 8 201 Pending []
    ∷ responds 0 410 Complete []
    ∷ responds 9 200 Complete (7 ∷ [])
    ∷ responds 4294967295 200 Complete (0 ∷ 10 ∷ 4294967294 ∷ [])
    ∷ spoken 7 0
    ∷ spoken 7 1
    ∷ spoken 7 2
    ∷ spoken 7 3
    ∷ spoken 7 4
    ∷ spoken 7 5
    ∷ spoken 7 6
    ∷ spoken 7 7
    ∷ recognized 7 0
    ∷ recognized 7 1
    ∷ recognized 7 2
    ∷ recognized 7 3
    ∷ recognized 7 4
    ∷ recognized 7 5
    ∷ recognized 7 6
    ∷ recognized 7 7
    ∷ recognized 7 8
    ∷ recognized 7 9
    ∷ recognized 7 10
    ∷ recognized 7 11
    ∷ recognized 7 12
    ∷ recognized 7 13
    ∷ recognized 7 14
    ∷ recognized 7 15
    ∷ ended [] 1
    ∷ ended (7 ∷ []) 0
    ∷ ended (7 ∷ 10 ∷ 9 ∷ []) 1
    ∷ []
    ≡ bytes "MRCP/2.0 70 7 200 IN-PROGRESS\r\nChannel-Identifier:7f3a@speechsynth\r\n\r\n"
    ∷ bytes "MRCP/2.0 66 8 201 PENDING\r\nChannel-Identifier:7f3a@speechsynth\r\n\r\n"
    ∷ bytes "MRCP/2.0 67 0 410 COMPLETE\r\nChannel-Identifier:7f3a@speechsynth\r\n\r\n"
    ∷ bytes "MRCP/2.0 93 9 200 COMPLETE\r\nChannel-Identifier:7f3a@speechsynth\r\nActive-Request-Id-List:7\r\n\r\n"
    ∷ bytes "MRCP/2.0 117 4294967295 200 COMPLETE\r\nChannel-Identifier:7f3a@speechsynth\r\nActive-Request-Id-List:0,10,4294967294\r\n\r\n"
    ∷ bytes "MRCP/2.0 108 SPEAK-COMPLETE 7 COMPLETE\r\nChannel-Identifier:7f3a@speechsynth\r\nCompletion-Cause:000 normal\r\n\r\n"
    ∷ bytes "MRCP/2.0 110 SPEAK-COMPLETE 7 COMPLETE\r\nChannel-Identifier:7f3a@speechsynth\r\nCompletion-Cause:001 barge-in\r\n\r\n"
    ∷ bytes "MRCP/2.0 115 SPEAK-COMPLETE 7 COMPLETE\r\nChannel-Identifier:7f3a@speechsynth\r\nCompletion-Cause:002 parse-failure\r\n\r\n"
    ∷ bytes "MRCP/2.0 113 SPEAK-COMPLETE 7 COMPLETE\r\nChannel-Identifier:7f3a@speechsynth\r\nCompletion-Cause:003 uri-failure\r\n\r\n"
    ∷ bytes "MRCP/2.0 107 SPEAK-COMPLETE 7 COMPLETE\r\nChannel-Identifier:7f3a@speechsynth\r\nCompletion-Cause:004 error\r\n\r\n"
    ∷ bytes "MRCP/2.0 122 SPEAK-COMPLETE 7 COMPLETE\r\nChannel-Identifier:7f3a@speechsynth\r\nCompletion-Cause:005 language-unsupported\r\n\r\n"
    ∷ bytes "MRCP/2.0 122 SPEAK-COMPLETE 7 COMPLETE\r\nChannel-Identifier:7f3a@speechsynth\r\nCompletion-Cause:006 lexicon-load-failure\r\n\r\n"
    ∷ bytes "MRCP/2.0 111 SPEAK-COMPLETE 7 COMPLETE\r\nChannel-Identifier:7f3a@speechsynth\r\nCompletion-Cause:007 cancelled\r\n\r\n"
    ∷ bytes "MRCP/2.0 115 RECOGNITION-COMPLETE 7 COMPLETE\r\nChannel-Identifier:7f3a@speechrecog\r\nCompletion-Cause:000 success\r\n\r\n"
    ∷ bytes "MRCP/2.0 116 RECOGNITION-COMPLETE 7 COMPLETE\r\nChannel-Identifier:7f3a@speechrecog\r\nCompletion-Cause:001 no-match\r\n\r\n"
    ∷ bytes "MRCP/2.0 124 RECOGNITION-COMPLETE 7 COMPLETE\r\nChannel-Identifier:7f3a@speechrecog\r\nCompletion-Cause:002 no-input-timeout\r\n\r\n"
    ∷ bytes "MRCP/2.0 123 RECOGNITION-COMPLETE 7 COMPLETE\r\nChannel-Identifier:7f3a@speechrecog\r\nCompletion-Cause:003 hotword-maxtime\r\n\r\n"
    ∷ bytes "MRCP/2.0 128 RECOGNITION-COMPLETE 7 COMPLETE\r\nChannel-Identifier:7f3a@speechrecog\r\nCompletion-Cause:004 grammar-load-failure\r\n\r\n"
    ∷ bytes "MRCP/2.0 135 RECOGNITION-COMPLETE 7 COMPLETE\r\nChannel-Identifier:7f3a@speechrecog\r\nCompletion-Cause:005 grammar-compilation-failure\r\n\r\n"
    ∷ bytes "MRCP/2.0 124 RECOGNITION-COMPLETE 7 COMPLETE\r\nChannel-Identifier:7f3a@speechrecog\r\nCompletion-Cause:006 recognizer-error\r\n\r\n"
    ∷ bytes "MRCP/2.0 124 RECOGNITION-COMPLETE 7 COMPLETE\r\nChannel-Identifier:7f3a@speechrecog\r\nCompletion-Cause:007 speech-too-early\r\n\r\n"
    ∷ bytes "MRCP/2.0 123 RECOGNITION-COMPLETE 7 COMPLETE\r\nChannel-Identifier:7f3a@speechrecog\r\nCompletion-Cause:008 success-maxtime\r\n\r\n"
    ∷ bytes "MRCP/2.0 119 RECOGNITION-COMPLETE 7 COMPLETE\r\nChannel-Identifier:7f3a@speechrecog\r\nCompletion-Cause:009 uri-failure\r\n\r\n"
    ∷ bytes "MRCP/2.0 128 RECOGNITION-COMPLETE 7 COMPLETE\r\nChannel-Identifier:7f3a@speechrecog\r\nCompletion-Cause:010 language-unsupported\r\n\r\n"
    ∷ bytes "MRCP/2.0 117 RECOGNITION-COMPLETE 7 COMPLETE\r\nChannel-Identifier:7f3a@speechrecog\r\nCompletion-Cause:011 cancelled\r\n\r\n"
    ∷ bytes "MRCP/2.0 125 RECOGNITION-COMPLETE 7 COMPLETE\r\nChannel-Identifier:7f3a@speechrecog\r\nCompletion-Cause:012 semantics-failure\r\n\r\n"
    ∷ bytes "MRCP/2.0 121 RECOGNITION-COMPLETE 7 COMPLETE\r\nChannel-Identifier:7f3a@speechrecog\r\nCompletion-Cause:013 partial-match\r\n\r\n"
    ∷ bytes "MRCP/2.0 129 RECOGNITION-COMPLETE 7 COMPLETE\r\nChannel-Identifier:7f3a@speechrecog\r\nCompletion-Cause:014 partial-match-maxtime\r\n\r\n"
    ∷ bytes "MRCP/2.0 124 RECOGNITION-COMPLETE 7 COMPLETE\r\nChannel-Identifier:7f3a@speechrecog\r\nCompletion-Cause:015 no-match-maxtime\r\n\r\n"
    ∷ []
    ∷ bytes "MRCP/2.0 115 RECOGNITION-COMPLETE 7 COMPLETE\r\nChannel-Identifier:7f3a@speechrecog\r\nCompletion-Cause:000 success\r\n\r\n"
    ∷ (bytes "MRCP/2.0 116 RECOGNITION-COMPLETE 7 COMPLETE\r\nChannel-Identifier:7f3a@speechrecog\r\nCompletion-Cause:001 no-match\r\n\r\n"
    ++ bytes "MRCP/2.0 118 RECOGNITION-COMPLETE 10 COMPLETE\r\nChannel-Identifier:7f3a@speechrecog\r\nCompletion-Cause:011 cancelled\r\n\r\n"
    ++ bytes "MRCP/2.0 117 RECOGNITION-COMPLETE 9 COMPLETE\r\nChannel-Identifier:7f3a@speechrecog\r\nCompletion-Cause:011 cancelled\r\n\r\n")
    ∷ []
unfolding responds spoken recognized ended written written_all response complete start_text field_text fields_text after_length behind_commas id_list_text self_length digits digits_within three_digits
written_bytes = refl
