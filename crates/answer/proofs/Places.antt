-- The places of a written message's parts, and that those parts stand there.
use Prim.Native.Nat.{ℕ, ◌+◌}
use native.Mathlib.Omega.{arith}
use mathlib.Core.Path.{◌≡◌, refl, sym, ap, ap₂, ◌∙◌}
use mathlib.Core.List.{List, [], ◌∷◌, ◌++◌, map, append_assoc}
use lib.ListN.{length, take, drop, length-append}
use lib.Seq.{drop-drop, take-append_seam, drop-append_seam}
use Rattle.octets.specs.Octets.{bytes, crlf}
use Rattle.writers.specs.Decimal.{digits, three_digits}
use Rattle.message.specs.StartLines.{state_text}
use Rattle.message.specs.declared.RequestState.{RequestState}
use Rattle.message.specs.Message.{Start, request, response, event, Field, part, on_start, on_field}
use Rattle.message.specs.declared.Span.{Span}
use Rattle.answer.specs.Written.{start_text, field_text, fields_text}

-- what stands behind l, where l stands at `at`
pub past : (s : List ℕ) (at : ℕ) (l v : List ℕ) → drop at s ≡ l ++ v → drop (at + length l) s ≡ v
past s at l v e = sym (drop-drop (length l) at s) ∙ ap (drop (length l)) e ∙ drop-append_seam l v

pub part_of : (s : List ℕ) (at : ℕ) (l v : List ℕ) → drop at s ≡ l ++ v → part s (record { start = at; len = length l }) ≡ l
part_of s at l v e = ap (take (length l)) e ∙ take-append_seam l v

abbrev pub start_places : ℕ → Start (List ℕ) → Start Span
start_places at (request name id) = request (record { start = at; len = length name }) id
start_places at (response id status state) = response id status state
start_places at (event name id state) = event (record { start = at; len = length name }) id state

-- over variables: at literal texts `◌++◌` computes, and `simp` finds no append
three_words_lem : (a x b y c : List ℕ) → a ++ x ++ b ++ y ++ c ≡ a ++ (x ++ (b ++ (y ++ c)))
three_words_lem a x b y c = simp append_assoc

-- the words of a start line, and the parts of a field line, with what follows nested to the right
pub request_text : (name : List ℕ) (id : ℕ) → start_text (request name id) ≡ name ++ 32 ∷ digits id
unfolding start_text
request_text name id = append_assoc name (bytes " ") (digits id)

pub response_text : (id status : ℕ) (state : RequestState)
    → start_text (response id status state) ≡ digits id ++ 32 ∷ (three_digits status ++ 32 ∷ state_text state)
unfolding start_text
response_text id status state = three_words_lem (digits id) (bytes " ") (three_digits status) (bytes " ") (state_text state)

pub event_text : (name : List ℕ) (id : ℕ) (state : RequestState)
    → start_text (event name id state) ≡ name ++ 32 ∷ (digits id ++ 32 ∷ state_text state)
unfolding start_text
event_text name id state = three_words_lem name (bytes " ") (digits id) (bytes " ") (state_text state)

pub field_text_lem : (f : Field (List ℕ)) (v : List ℕ) → field_text f ++ v ≡ f.name ++ 58 ∷ (f.value ++ 13 ∷ 10 ∷ v)
unfolding field_text
field_text_lem f v = three_words_lem f.name (bytes ":") f.value crlf v

pub field_size : (f : Field (List ℕ)) → length (field_text f) ≡ 3 + length f.name + length f.value
unfolding field_text
field_size f = simp length-append (omega arith)

-- a text that begins with a name
named : (s : List ℕ) (at : ℕ) (t name w v : List ℕ) → drop at s ≡ t ++ v → t ≡ name ++ w
    → part s (record { start = at; len = length name }) ≡ name
named s at t name w v e f = part_of s at name (w ++ v) (e ∙ ap (λ l. l ++ v) f ∙ append_assoc name w v)

pub start_back : (s : List ℕ) (at : ℕ) (t : Start (List ℕ)) (v : List ℕ) → drop at s ≡ start_text t ++ v → on_start (part s) (start_places at t) ≡ t
start_back s at (request name id) v e = ap (λ n. request n id) (named s at _ name _ v e (request_text name id))
start_back s at (response id status state) v e = refl
start_back s at (event name id state) v e = ap (λ n. event n id state) (named s at _ name _ v e (event_text name id state))

abbrev pub field_places : ℕ → Field (List ℕ) → Field Span
field_places at f = record {
  name = record { start = at; len = length f.name };
  value = record { start = at + length f.name + 1; len = length f.value };
}

abbrev pub fields_places : ℕ → List (Field (List ℕ)) → List (Field Span)
fields_places at [] = []
fields_places at (f ∷ fs) = field_places at f ∷ fields_places (at + length (field_text f)) fs

field_back : (s : List ℕ) (at : ℕ) (f : Field (List ℕ)) (v : List ℕ) → drop at s ≡ field_text f ++ v → on_field (part s) (field_places at f) ≡ f
field_back s at f v e =
    let h : drop at s ≡ f.name ++ 58 ∷ (f.value ++ 13 ∷ 10 ∷ v) = e ∙ field_text_lem f v in
    let c : drop (at + length f.name) s ≡ 58 ∷ (f.value ++ 13 ∷ 10 ∷ v) = past s at f.name _ h in
    ap₂ (λ (n w : List ℕ). record { name = n; value = w }) (part_of s at f.name _ h)
    (part_of s (at + length f.name + 1) f.value _ (past s (at + length f.name) (58 ∷ []) _ c))

pub fields_back : (s : List ℕ) (at : ℕ) (fs : List (Field (List ℕ))) (v : List ℕ) → drop at s ≡ fields_text fs ++ v
    → map (on_field (part s)) (fields_places at fs) ≡ fs
unfolding fields_text
fields_back s at [] v e = refl
fields_back s at (f ∷ fs) v e =
    let h : drop at s ≡ field_text f ++ (fields_text fs ++ v) = e ∙ append_assoc (field_text f) (fields_text fs) v in
    ap₂ ◌∷◌ (field_back s at f (fields_text fs ++ v) h)
    (fields_back s (at + length (field_text f)) fs v (past s at (field_text f) (fields_text fs ++ v) h))
