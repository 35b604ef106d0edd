-- The ledger of a channel's calls, and demand 3: document 01, "How tight the promises are", and
-- document 02, K1 and K5.
use Rattle.std.specs.Prelude.{ℕ, ◌≡◌, Bool, true, false, ◌&&◌, ◌||◌, List, [], ◌∷◌, ◌++◌, eqb, length}
use Rattle.std.proofs.Math.Option.{Option, none, some}
use Rattle.message.specs.Message.{Start, request, response, event, Reading, refused, message, Message}
use Rattle.message.specs.Known.{value_of}
use Rattle.message.specs.Reading.{read_bytes, messages_in}
use Rattle.message.specs.declared.Known.TheVariants.{ActiveRequestIdList}
use Rattle.answer.specs.IdList.{ids_of}
use Rattle.ledger.specs.Ledger.{Exchange, Balanced, Run, after, trace}
use Rattle.synth.specs.Channel.{View, held}
use Rattle.synth.specs.Request.{method_of, is, opens}
use Rattle.synth.specs.Calls.{Lent, input, report, back, Call, Reply, call, open_channel}
use Rattle.synth.specs.declared.Method.{Method}

-- the method and the id of the request at the front of the input
pub record Asked : Type 0 where
  pub method : Method
  pub id : ℕ

abbrev pub asked_by : Reading (List ℕ) → Option Asked
asked_by (refused number consumed) = none
asked_by (message h (request name id) fs) = some (record { method = method_of name; id = id })
asked_by (message h (response id status state) fs) = none
asked_by (message h (event name id state) fs) = none

-- answered 200 or 201
abbrev pub succeeds : Start (List ℕ) → Bool
succeeds (request name id) = false
succeeds (response id status state) = eqb status 200 || eqb status 201
succeeds (event name id state) = false

-- the ids of the message's Active-Request-Id-List, if there is one
abbrev pub ids_in : Option (List ℕ) → List ℕ
ids_in none = []
ids_in (some v) = ids_of v

abbrev pub listed : Message → List ℕ
listed m = ids_in (value_of ActiveRequestIdList m.fields)

abbrev pub when : Bool → List ℕ → List ℕ
when true l = l
when false l = []

-- a SPEAK or RECOGNIZE answered 200 or 201 puts its id at the end of accepted
abbrev pub accepted_by : Option Asked → Message → List ℕ
accepted_by none m = []
accepted_by (some a) m = when (opens a.method && succeeds m.start) (a.id ∷ [])

abbrev pub is_ending : Method → Bool
is_ending m = is m Method.Stop || is m Method.BargeInOccurred

-- a STOP or BARGE-IN-OCCURRED answered 200 or 201 puts the ids of the answer's list at the end of closed, in the order written
abbrev pub closed_by : Option Asked → Message → List ℕ
closed_by none m = []
closed_by (some a) m = when (is_ending a.method && succeeds m.start) (listed m)

-- the id of an event
abbrev pub event_id : Start (List ℕ) → List ℕ
event_id (request name id) = []
event_id (response id status state) = []
event_id (event name id state) = id ∷ []

abbrev pub accepting : Lent → Message → List ℕ
accepting (input s) m = accepted_by (asked_by (read_bytes s)) m
accepting (report cause score) m = []
accepting (back n) m = []

-- a report puts the id of each event written at the end of closed
abbrev pub closing : Lent → Message → List ℕ
closing (input s) m = closed_by (asked_by (read_bytes s)) m
closing (report cause score) m = event_id m.start
closing (back n) m = []

abbrev pub collected : (Message → List ℕ) → List Message → List ℕ
collected f [] = []
collected f (m ∷ ms) = f m ++ collected f ms

-- what one call puts into the ledger, from the lent input or the report, the number returned and the bytes written. A call that returns
-- another number than 0 puts nothing
unfoldable pub ledger_accepts : Lent → ℕ → List ℕ → List ℕ
ledger_accepts lent number written = when (eqb number 0) (collected (accepting lent) (messages_in (length written) written))

unfoldable pub ledger_closes : Lent → ℕ → List ℕ → List ℕ
ledger_closes lent number written = when (eqb number 0) (collected (closing lent) (messages_in (length written) written))

abbrev pub accepts : Call → Reply → List ℕ
accepts c r = ledger_accepts c.lent r.number r.written

abbrev pub closes : Call → Reply → List ℕ
closes c r = ledger_closes c.lent r.number r.written

-- what the contract of a call promises of anything that is viewed as a channel: reply and next channel are the definition's
pub record Meets {S : Type 0} (view : S → View) (s : S) (c : Call) (r : Reply) (s' : S) : Type 0 where
  pub replies : r ≡ (call (view s) c).reply
  pub leaves : view s' ≡ (call (view s) c).next

-- Demand 3: for every list of calls on a channel as its opening returned it, each call meeting its contract
abbrev pub Demand3 : Type 1
Demand3 = (S : Type 0) (view : S → View) (name : List ℕ) (s s' : S) (calls : List (Exchange Call Reply))
    → view s ≡ (open_channel name).channel → Run (Meets view) s calls s' → Balanced accepts closes calls (held (view s'))

-- the same of the definitions run as functions
abbrev pub Demand3AsFunctions : Type 0
Demand3AsFunctions = (name : List ℕ) (calls : List Call)
    → Balanced accepts closes (trace call (open_channel name).channel calls) (held (after call (open_channel name).channel calls))
