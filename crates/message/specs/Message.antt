-- What a message says. Its parts P are places in the frame, as reading hands them back, or the bytes that stand there.
use Rattle.std.specs.Prelude.{ℕ, ◌<◌, List, [], map, take, drop}
use Rattle.message.specs.declared.Span.{Span}
use Rattle.message.specs.declared.RequestState.{RequestState}

-- request: name, request-id; response: request-id, status, state; event: name, request-id, state
pub data Start (P : Type 0) : Type 0 where
  request : P → ℕ → Start P
  response : ℕ → ℕ → RequestState → Start P
  event : P → ℕ → RequestState → Start P

-- a request-id within range, and a status of three digits
abbrev pub InRange : {P : Type 0} → Start P → Type 0
InRange (request name id) = id < 4294967296
InRange (response id status state) = (id < 4294967296) × (status < 1000)
InRange (event name id state) = id < 4294967296

pub record Field (P : Type 0) : Type 0 where
  pub name : P
  pub value : P

-- fields and body, or the "bad fields" mark
pub data Fields (P : Type 0) : Type 0 where
  bad : Fields P
  good : List (Field P) → P → Fields P

abbrev pub fields_in : {P : Type 0} → Fields P → List (Field P)
fields_in bad = []
fields_in (good fs body) = fs

-- the length stated, and the version
pub record Head : Type 0 where
  pub stated : ℕ
  pub major : ℕ
  pub minor : ℕ

-- what reading alone gives: a refusal's number with the count consumed, or the message
pub data Reading (P : Type 0) : Type 0 where
  refused : ℕ → ℕ → Reading P
  message : Head → Start P → Fields P → Reading P

-- a message to write: its version is 2.0, its length is its own
pub record Message : Type 0 where
  pub start : Start (List ℕ)
  pub fields : List (Field (List ℕ))
  pub body : List ℕ

-- the bytes at a place
abbrev pub part : List ℕ → Span → List ℕ
part s p = take p.len (drop p.start s)

-- a part for each part
module _ {P Q : Type 0} (f : P → Q) where
  abbrev pub on_start : Start P → Start Q
  on_start (request n i) = request (f n) i
  on_start (response i c r) = response i c r
  on_start (event n i r) = event (f n) i r

  abbrev pub on_field : Field P → Field Q
  on_field x = record { name = f x.name; value = f x.value }

  abbrev pub on_fields : Fields P → Fields Q
  on_fields bad = bad
  on_fields (good fs b) = good (map on_field fs) (f b)

  abbrev pub on_reading : Reading P → Reading Q
  on_reading (refused n k) = refused n k
  on_reading (message h s fs) = message h (on_start s) (on_fields fs)
