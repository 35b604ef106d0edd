-- What the calls of the C face give by the table, before the counts are set in their places. Assumes nothing.
use Prim.Native.Nat.{ℕ, zero, suc}
use mathlib.Core.Path.{◌≡◌, refl, sym, ap, ◌∙◌}
use mathlib.Core.Bool.{true, false, false≢true}
use mathlib.Core.Option.{Option, none, some}
use mathlib.Core.List.{List, [], ◌∷◌}
use native.Mathlib.Omega.{arith}
use lib.Dec.{eqb, ltb}
use lib.Ieee.{Float}
use lib.ListN.{length, set}
use Rattle.lists.specs.Lists.{All}
use Rattle.lists.proofs.Tests.{choose}
use Rattle.messagenumbers.specs.Layout.{handed}
use Rattle.answer.specs.Written.{written_all}
use Rattle.ledger.specs.Ledger.{Turn}
use Rattle.synth.specs.Channel.{View, fresh, well_named, shaped, sound}
use Rattle.synth.specs.Calls.{Lent, input, report, back, Reply, call}
use Rattle.channelnumbers.specs.Numbers.{numbers_of, view_of}
use Rattle.klarvesimo.specs.Face.{CallFace, keeping, turn_face, call_on, call_face}
use Rattle.demands.specs.Demands.{Line, table, first_due, outcome, exact, stated}
use Rattle.demands.specs.FromC.{seen_as, channel_in, at_front}
use Rattle.demands.proofs.Lines.{Gives, tabled}

-- the places for counts
pub one_place : (l : List ℕ) (x : ℕ) → length l ≡ 1 → set l 0 x ≡ x ∷ []
one_place [] x e = absurd (omega arith)
one_place (a ∷ []) x e = refl
one_place (a ∷ b ∷ l) x e = absurd (omega arith)

pub two_places : (l : List ℕ) (x y : ℕ) → length l ≡ 2 → set (set l 0 x) 1 y ≡ x ∷ y ∷ []
two_places [] x y e = absurd (omega arith)
two_places (a ∷ []) x y e = absurd (omega arith)
two_places (a ∷ b ∷ []) x y e = refl
two_places (a ∷ b ∷ c ∷ l) x y e = absurd (omega arith)

-- an answer that is longer than the lent output, and one that is not
module _ (answer out : List ℕ) where
  pub handed_long : ltb (length out) (length answer) ≡ true → handed answer out ≡ record { number = 7; out = out }
  handed_long e = rw (e, handed)

  pub handed_fits : ltb (length out) (length answer) ≡ false
      → handed answer out ≡ record { number = 0; out = at_front answer out }
  handed_fits e = rw (e, handed)

pub nameless : sound (fresh []) ≡ false
nameless = unfold sound shaped well_named in refl

-- a line that is due leaves all that was lent as it was; where none is, the outcome
abbrev pub line_face : Option Line → View → List ℕ → Lent → List ℕ → CallFace
line_face (some l) v ws lent out =
    record { number = l.number; channel = ws; consumed = l.consumed; written = 0; out = out }
line_face none v ws lent out =
    record {
      number = 0;
      channel = numbers_of (outcome v lent).next;
      consumed = stated lent;
      written = length (exact v lent);
      out = at_front (exact v lent) out;
    }

-- a refusal leaves the numbers as they were
kept : (n : ℕ) (ws : List ℕ) (next : View) → eqb n 0 ≡ false → keeping n ws next ≡ ws
kept zero ws next e = absurd (false≢true (sym e))
kept (suc n) ws next e = refl

module _ (v : View) (ws : List ℕ) (lent : Lent) (out : List ℕ) where
  by_line_lem : (o : Option Line) (t : Turn View Reply) → Gives v (stated lent) (outcome v lent) o t
      → turn_face t ws out ≡ line_face o v ws lent out
  by_line_lem none t e = ap (λ (t : Turn View Reply). turn_face t ws out) e
  by_line_lem (some l) t (e, not_0, _) =
      ap (λ (t : Turn View Reply). turn_face t ws out) e
      ∙ ap (λ (ws : List ℕ). record { number = l.number; channel = ws; consumed = l.consumed; written = 0; out = out })
      (kept l.number ws v not_0)

-- numbers that are no channel are refused as one without a name
no_channel : (ws : List ℕ) (lent : Lent) (out : List ℕ)
    → call_on none ws lent out ≡ line_face (first_due (table (fresh []) lent (length out))) (fresh []) ws lent out
unfolding table
no_channel ws (input s) out = rw (nameless, table)
no_channel ws (report cause score) out = rw (nameless, table)
no_channel ws (back n) out = rw (nameless, table)

call_on_lem : (o : Option View) (ws : List ℕ) (lent : Lent) (out : List ℕ)
    → call_on o ws lent out ≡ line_face (first_due (table (seen_as o) lent (length out))) (seen_as o) ws lent out
call_on_lem none ws lent out = no_channel ws lent out
call_on_lem (some v) ws lent out =
    by_line_lem v ws lent out (first_due (table v lent (length out))) (call v (record { lent = lent; room = length out }))
    (tabled v lent (length out))

pub call_by_table : (ws : List ℕ) (lent : Lent) (out : List ℕ)
    → call_face ws lent out ≡ line_face (first_due (table (channel_in ws) lent (length out))) (channel_in ws) ws lent out
unfolding call_face
call_by_table ws lent out = call_on_lem (view_of ws) ws lent out

-- a report and a going back consume nothing, whichever line answers
abbrev ConsumesNone : Option Line → Type 0
ConsumesNone none = Unit {0}
ConsumesNone (some l) = l.consumed ≡ 0

first_due_lem : (ls : List Line) → All (λ (l : Line). l.consumed ≡ 0) ls → ConsumesNone (first_due ls)
first_due_lem [] h = tt
first_due_lem (l ∷ ls) h = choose ConsumesNone l.due (λ _. h.0) (λ _. first_due_lem ls h.1)

module _ (v : View) (ws : List ℕ) (lent : Lent) (out : List ℕ) (none-stated : stated lent ≡ 0) where
  line_consumes : (o : Option Line) → ConsumesNone o → (line_face o v ws lent out).consumed ≡ 0
  line_consumes none h = none-stated
  line_consumes (some l) h = h

module _ (ws : List ℕ) (lent : Lent) (out : List ℕ) (none-stated : stated lent ≡ 0) where
  consumes_none : All (λ (l : Line). l.consumed ≡ 0) (table (channel_in ws) lent (length out))
      → (call_face ws lent out).consumed ≡ 0
  consumes_none h =
      let lines = table (channel_in ws) lent (length out) in
      ap (λ (f : CallFace). f.consumed) (call_by_table ws lent out)
      ∙ line_consumes (channel_in ws) ws lent out none-stated (first_due lines) (first_due_lem lines h)

pub report_consumes_none : (ws : List ℕ) (cause : ℕ) (score : Float) (out : List ℕ)
    → (call_face ws (report cause score) out).consumed ≡ 0
report_consumes_none ws cause score out =
    consumes_none ws (report cause score) out refl (unfold table in (refl, (refl, (refl, (refl, (refl, tt))))))

pub back_consumes_none : (ws : List ℕ) (n : ℕ) (out : List ℕ) → (call_face ws (back n) out).consumed ≡ 0
back_consumes_none ws n out = consumes_none ws (back n) out refl (unfold table in (refl, (refl, tt)))

-- and a going back writes nothing
line_writes : (o : Option Line) (v : View) (ws : List ℕ) (n : ℕ) (out : List ℕ)
    → (line_face o v ws (back n) out).written ≡ 0
unfolding written_all
line_writes none v ws n out = refl
line_writes (some l) v ws n out = refl

pub back_writes_none : (ws : List ℕ) (n : ℕ) (out : List ℕ) → (call_face ws (back n) out).written ≡ 0
back_writes_none ws n out =
    let v = channel_in ws in
    ap (λ (f : CallFace). f.written) (call_by_table ws (back n) out)
    ∙ line_writes (first_due (table v (back n) (length out))) v ws n out
