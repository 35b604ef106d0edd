-- Bytes with the same framing and the same frame at the front are read alike.
-- Assumes nothing.
use mathlib.Core.Path.{◌≡◌, refl, sym, ap, ap₂, ◌∙◌}
use mathlib.Core.List.{List}
use Prim.Native.Nat.{ℕ}
use lib.ListN.{take}
use Rattle.std.specs.Prelude.{Ok, Err}
use Rattle.framing.specs.Framing.{Framing, framing, frame_length}
use Rattle.framing.specs.declared.NoFrame.TheVariants.{More, NoMessage, TooLong, TooShort}
use Rattle.message.specs.Message.{Head, part, on_reading}
use Rattle.message.specs.StartLines.{start_line}
use Rattle.message.specs.Reading.{read_from, read_framed, reading, read_bytes}
use Rattle.message.proofs.Says.{told}
use Rattle.message.proofs.Parts.{reading_within}

module _ (u s : List ℕ) where
  framed_alike : (x : Framing) → take (frame_length x) u ≡ take (frame_length x) s → read_framed u x ≡ read_framed s x
  framed_alike (Err More) e = refl
  framed_alike (Err NoMessage) e = refl
  framed_alike (Err TooLong) e = refl
  framed_alike (Err TooShort) e = refl
  framed_alike (Ok x) e =
      let head : Head = record { stated = x.length; major = x.major; minor = x.minor } in
      ap (λ f. read_from head f (start_line x.opening f)) e

  module _ (x : Framing) (eu : framing u ≡ x) (es : framing s ≡ x) (e : take (frame_length x) u ≡ take (frame_length x) s) where
    pub reading_alike : reading u ≡ reading s
    unfolding reading
    reading_alike = ap (read_framed u) eu ∙ framed_alike x e ∙ sym (ap (read_framed s) es)

    pub bytes_alike : read_bytes u ≡ read_bytes s
    unfolding read_bytes
    bytes_alike =
        let within : (w : List ℕ) → framing w ≡ x → on_reading (part (take (frame_length x) w)) (reading w) ≡ on_reading (part w) (reading w)
        = λ w f. ap (λ y. on_reading (part (take (frame_length y) w)) (reading w)) (sym f) ∙ reading_within w (reading w) (told w) in
        sym (within u eu) ∙ ap₂ (λ f r. on_reading (part f) r) e reading_alike ∙ within s es
