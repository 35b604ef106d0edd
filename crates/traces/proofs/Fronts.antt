-- The frame at the front of what is left, as the code finds it. Assumes nothing.
use mathlib.Core.Option.{none, some}
use Rattle.std.proofs.Common.{ℕ, ◌≤◌, ◌≡◌, ◌⊎◌, Ok, Err, refl, ap, ◌∙◌, inl, inr, arith}
use Rattle.std.proofs.Common.{List, [], ◌∷◌, length, take, drop}
use Rattle.framing.specs.Framing.{framing}
use Rattle.framing.specs.declared.Framed.{Framed}
use Rattle.framing.specs.declared.NoFrame.{NoFrame}
use Rattle.framing.specs.declared.NoFrame.TheVariants.{More, NoMessage, TooLong, TooShort}
use Rattle.traces.specs.Traces.{ahead, frames_on, frames_in}
use Rattle.traces.proofs.Walking.{frames_so, frame_takes, frames_opened}

-- a frame of n bytes at the front
pub record FrontFrame (l : List ℕ) (n : ℕ) : Type 0 where
  pub opened : frames_in l ≡ ahead (take n l) (frames_in (drop n l))
  pub some_bytes : 1 ≤ n
  pub there : n ≤ length l

frames_there : (l : List ℕ) → 1 ≤ length l → frames_in l ≡ frames_on l (framing l) frames_in
frames_there [] h = absurd (omega arith)
frames_there (x ∷ l) h = frames_opened x l

pub front_frame : (l : List ℕ) (f : Framed) → framing l ≡ Ok f → FrontFrame l f.length
front_frame l f e =
    let t = frame_takes l f e in
    record {
      opened = frames_there l (omega (arith, t)) ∙ ap (λ x. frames_on l x frames_in) e;
      some_bytes = t.0;
      there = t.1;
    }

-- no frame at the front: nothing is left, or what is left is not walked
pub no_front : (l : List ℕ) (why : NoFrame) → framing l ≡ Err why → (l ≡ []) ⊎ (frames_in l ≡ none)
no_front [] why e = inl refl
no_front (x ∷ l) why e = inr (frames_opened x l ∙ ap (λ r. frames_on (x ∷ l) r frames_in) e ∙ unframed why)
  where
    unframed : (why : NoFrame) → frames_on (x ∷ l) (Err why) frames_in ≡ none
    unframed More = refl
    unframed NoMessage = refl
    unframed TooLong = refl
    unframed TooShort = refl

-- what is walked to nothing is nothing
pub none_left : (l : List ℕ) → frames_in l ≡ some [] → l ≡ []
none_left l e = (frames_so l [] e).made
