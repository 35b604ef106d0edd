-- What finishing answers, and what it leaves in the output, where the file fits. Assumes nothing.
use Prim.Native.Nat.{ℕ, ◌+◌, ◌*◌, ◌≤◌}
use mathlib.Core.Path.{◌≡◌, sym, ap, ap₂, ◌∙◌}
use mathlib.Core.Bool.{true}
use mathlib.Core.List.{List, ◌++◌}
use native.Mathlib.Omega.{arith}
use lib.ListN.{length, take}
use Rattle.traces.specs.Traces.{index, trailer, ending, frames_in, fits, so_many, can_be_left}
use Rattle.traces.specs.Traces.{messages_in}
use Rattle.traces.proofs.Files.{index_length}
use Rattle.traces.proofs.Unfinished.{Holds, can_holds, held_frames, held_so, fit_so}

module _ (out : List ℕ) (used count : ℕ) where
  module _ (can : can_be_left out used count ≡ true) (fit : fits (length out) used count ≡ true) where
    abbrev ms : List (List ℕ)
    ms = (can_holds out used count can).0

    h : Holds ms out used count
    h = (can_holds out used count can).1

    is_ms : messages_in (frames_in (take used out)) ≡ ms
    is_ms = ap messages_in (held_frames out used count ms h)

    pub finish_ready : (so_many count (frames_in (take used out)) ≡ true) × (used + 4 * count + 12 ≤ length out)
    finish_ready = (held_so out used count ms h, omega (arith, fit_so (length out) used count fit))

    pub finish_index : length (index 0 (messages_in (frames_in (take used out)))) ≡ 4 * count
    finish_index = ap (λ l. length (index 0 l)) is_ms ∙ index_length 0 ms ∙ ap (λ (k : ℕ). 4 * k) h.as_many

    pub ending_is : index 0 (messages_in (frames_in (take used out))) ++ trailer used count
        ≡ ending (messages_in (frames_in (take used out)))
    ending_is =
        ap (λ l. index 0 l ++ trailer used count) is_ms
        ∙ ap₂ (λ (u c : ℕ). index 0 ms ++ trailer u c) (sym h.sized) (sym h.as_many)
        ∙ ap ending (sym is_ms)
