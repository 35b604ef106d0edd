-- Whatever is read, by places or by bytes: the request-id is below 2^32, and a response's status below 1000.
-- Assumes nothing.
use mathlib.Core.Path.{◌≡◌}
use mathlib.Core.List.{List}
use Prim.Native.Nat.{ℕ, ◌<◌}
use Rattle.message.specs.Message.{InRange, Start, request, response, event, Fields, Head, message}
use Rattle.message.specs.Reading.{reading, read_bytes}
use Rattle.message.specs.declared.Span.{Span}
use Rattle.message.specs.declared.RequestState.{RequestState}
use Rattle.message.proofs.Says.{says, bytes_ranged}

-- the request-id, whichever of the three kinds it is
abbrev pub id_in : {P : Type 0} → Start P → ℕ
id_in (request name i) = i
id_in (response i c r) = i
id_in (event name i r) = i

id_in_lem : {P : Type 0} (st : Start P) → InRange st → id_in st < 4294967296
id_in_lem (request name i) h = h
id_in_lem (response i c r) h = h.0
id_in_lem (event name i r) h = h

pub id_read : (s : List ℕ) (h : Head) (st : Start Span) (fs : Fields Span) → reading s ≡ message h st fs → id_in st < 4294967296
id_read s h st fs e = id_in_lem st (says s h st fs e).ranged

pub id_bytes : (s : List ℕ) (h : Head) (st : Start (List ℕ)) (fs : Fields (List ℕ)) → read_bytes s ≡ message h st fs → id_in st < 4294967296
id_bytes s h st fs e = id_in_lem st (bytes_ranged s h st fs e)

module _ (s : List ℕ) (h : Head) (i c : ℕ) (r : RequestState) where
  pub status_read : (fs : Fields Span) → reading s ≡ message h (response i c r) fs → c < 1000
  status_read fs e = (says s h (response i c r) fs e).ranged.1

  pub status_bytes : (fs : Fields (List ℕ)) → read_bytes s ≡ message h (response i c r) fs → c < 1000
  status_bytes fs e = (bytes_ranged s h (response i c r) fs e).1
