-- What the steps of the code find, and what it answers.
use mathlib.Core.Option.{Option, none, some}
use Rattle.std.specs.Prelude.{ℕ, ◌+◌, ◌*◌, ◌-◌, Bool, true, false, ◌&&◌, eqb, leb, List, length, take, drop}
use Rattle.std.specs.Prelude.{Result, Ok, Err}
use Rattle.lists.specs.Lists.{same}
use Rattle.message.specs.declared.Span.{Span}
use Rattle.traces.specs.Traces.{number_at, index, frames_in, Trace, begin_of, count_of}
use Rattle.traces.specs.declared.Refusal.{Refusal}
use Rattle.tracereader.specs.declared.Index.{Index}

-- the index has an entry for each of the messages walked, k messages and i bytes further on
abbrev pub agrees_from : List ℕ → ℕ → ℕ → ℕ → ℕ → Option (List (List ℕ)) → Bool
agrees_from f begin count k i none = false
agrees_from f begin count k i (some ms) =
    eqb (k + length ms) count && same (take (4 * (count - k)) (drop (begin + 4 * k) f)) (index i ms)

unfoldable pub entries_agree : List ℕ → ℕ → ℕ → Bool
entries_agree f begin count = agrees_from f begin count 0 0 (frames_in (take begin f))

-- what judging answers: where the index begins and how many messages there are, or why the file is refused
abbrev pub judged : List ℕ → Trace → Result Index Refusal
judged f (Err r) = Err r
judged f (Ok ms) = Ok (record { begin = begin_of f; count = count_of f })

-- message n by the index alone, of a file that need not have been judged: 13 where the entries are not in it, 14 where
-- they make no part of it
unfoldable pub looked_up : List ℕ → ℕ → ℕ → ℕ → Result Span Refusal
looked_up f begin count n = elim (leb 1 n && leb n count) [
  | false ↦ Err Refusal.NoSuchMessage
  | true ↦ elim (leb (begin + 4 * n + 4) (length f)) [
    | false ↦ Err Refusal.NoTrace
    | true ↦ elim (leb (number_at f (begin + 4 * (n - 1))) (number_at f (begin + 4 * n))
        && leb (number_at f (begin + 4 * n)) (length f)) [
          | false ↦ Err Refusal.Misframed
          | true ↦ Ok (record {
            start = number_at f (begin + 4 * (n - 1));
            len = number_at f (begin + 4 * n) - number_at f (begin + 4 * (n - 1));
          })
        ]
  ]
]
