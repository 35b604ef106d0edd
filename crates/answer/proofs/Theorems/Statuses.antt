-- The named constants of the status type are the numbers of document 01. Assumes nothing.
use mathlib.Core.Path.{◌≡◌, refl}
use mathlib.Core.List.{List, [], ◌∷◌, map}
use Rattle.answer.specs.declared.Status.{Status}
use Rattle.answer.specs.declared.TheConstants.Status as S

-- in the order of their numbers
abbrev pub statuses : List Status
statuses =
    S.SUCCESS ∷ S.SOME_IGNORED ∷ S.METHOD_NOT_ALLOWED ∷ S.NOT_VALID_IN_STATE ∷ S.UNSUPPORTED_FIELD ∷ S.ILLEGAL_VALUE
    ∷ S.NO_SUCH_CHANNEL ∷ S.FIELD_MISSING ∷ S.OPERATION_FAILED ∷ S.NO_CONTENT ∷ S.UNSUPPORTED_VALUE ∷ S.OUT_OF_ORDER
    ∷ S.VERSION_UNSUPPORTED ∷ []

pub status_codes : map (λ (s : Status). s.code) statuses
    ≡ 200 ∷ 201 ∷ 401 ∷ 402 ∷ 403 ∷ 404 ∷ 405 ∷ 406 ∷ 407 ∷ 408 ∷ 409 ∷ 410 ∷ 502 ∷ []
status_codes = refl
