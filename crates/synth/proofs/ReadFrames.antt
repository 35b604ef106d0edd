-- A message that was read_bytes has its frame at the front of what was lent. Assumes nothing.
use Prim.Native.Nat.{ℕ}
use mathlib.Core.Path.{◌≡◌, refl, subst}
use mathlib.Core.List.{List}
use native.Mathlib.Omega.{arith}
use Rattle.framing.specs.Framing.{Frame, framing}
use Rattle.message.specs.Message.{Start, Fields, Head, Reading, refused, message, part, on_reading}
use Rattle.message.specs.Reading.{reading, read_bytes}
use Rattle.message.specs.declared.Span.{Span}
use Rattle.message.proofs.Says.{says}

-- a frame with that head, behind an opening of so many bytes
pub record Framed (s : List ℕ) (h : Head) : Type 0 where
  pub opens : ℕ
  pub frame : framing s ≡ Frame h.major h.minor opens h.stated

pub bytes_framed : (s : List ℕ) (h : Head) (st : Start (List ℕ)) (fs : Fields (List ℕ)) → read_bytes s ≡ message h st fs → Framed s h
unfolding read_bytes
bytes_framed s h st fs e = go (reading s) refl e
  where
    go : (r : Reading Span) → reading s ≡ r → on_reading (part s) r ≡ message h st fs → Framed s h
    go (refused n k) q e = let d : ◌≡◌ {A = ℕ} 0 1 = cc in absurd (omega arith)
    go (message g x xs) q e =
        let t = says s g x xs q in
        let p : g ≡ h = cc in
        subst (Framed s) p (record { opens = t.k; frame = t.frame })
