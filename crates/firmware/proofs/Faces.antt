-- How reading goes at the C face, with a frame and with none. Assumes nothing.
use mathlib.Core.Path.{◌≡◌, refl, sym, ap, ◌∙◌}
use mathlib.Core.List.{List, [], ◌∷◌, ◌++◌}
use Prim.Native.Nat.{ℕ}
use lib.ListN.{length, take, set}
use lib.Seq.{length-take-le}
use Rattle.std.specs.Prelude.{Ok, Err}
use Rattle.framing.specs.Framing.{framing, refusal}
use Rattle.framing.specs.declared.Framed.{Framed}
use Rattle.framing.specs.declared.NoFrame.{NoFrame}
use Rattle.framing.specs.declared.NoFrame.TheVariants.{More, NoMessage, TooLong, TooShort}
use Rattle.framing.proofs.Frames.{frame_fits}
use Rattle.message.specs.StartLines.{Started, started, start_line}
use Rattle.message.specs.Reading.{asks_params, fields_from, read_from, read_framed, reading}
use Rattle.messagenumbers.specs.Layout.{handed, start_numbers, fields_numbers}
use Rattle.firmware.specs.Face.{consuming, read_as, read_face}
use Rattle.firmware.specs.Steps.{frame_as}

-- a count that is 0 first, and then told
pub set_again : (l : List ℕ) (x y : ℕ) → set (set l 0 x) 0 y ≡ set l 0 y
set_again [] x y = refl
set_again (z ∷ l) x y = refl

module _ (s out : List ℕ) where
  -- refusals 1 to 4
  pub read_refused : (why : NoFrame) → framing s ≡ Err why
      → record { number = refusal (Err why); consumed = 0; out = out } ≡ read_face s out
  unfolding read_face reading
  read_refused why e = refused why ∙ ap (λ x. read_as s (read_framed s x) out) (sym e)
    where
      refused : (why : NoFrame) → record { number = refusal (Err why); consumed = 0; out = out } ≡ read_as s (read_framed s (Err why)) out
      refused More = refl
      refused NoMessage = refl
      refused TooLong = refl
      refused TooShort = refl

  module _ (f : Framed) (e : framing s ≡ Ok f) where
    pub size : length (take f.length s) ≡ f.length
    size = length-take-le f.length s (frame_fits s f.major f.minor f.opening f.length e).there

    by_start : (x : Started)
        → frame_as (take f.length s) f.major f.minor x out
        ≡ read_as s (read_from (record { stated = f.length; major = f.major; minor = f.minor }) (take f.length s) x) out
    by_start Started.malformed = rw size
    by_start (started st at) =
        ap (λ m. consuming m (handed (start_numbers f.major f.minor st ++ fields_numbers (take f.length s) (fields_from (asks_params (take f.length s) st) (take f.length s) at)) out)) size

    pub read_whole : frame_as (take f.length s) f.major f.minor (start_line f.opening (take f.length s)) out ≡ read_face s out
    unfolding read_face reading
    read_whole = by_start (start_line f.opening (take f.length s)) ∙ ap (λ x. read_as s (read_framed s x) out) (sym e)
