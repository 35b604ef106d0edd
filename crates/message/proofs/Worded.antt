-- The words of start lines: no CR and no space is in them, so the lines that they make come apart again. Assumes
-- nothing.
use Prim.Native.Nat.{ℕ}
use mathlib.Core.Path.{◌≡◌, refl, ap, ◌∙◌}
use mathlib.Core.Bool.{Bool, true, false, ◌&&◌, ◌||◌}
use mathlib.Core.Option.{some}
use mathlib.Core.List.{List, [], ◌∷◌}
use lib.Dec.{eqb, leb}
use lib.ListN.{length}
use Rattle.lists.specs.Lists.{all}
use Rattle.lists.proofs.Tests.{both}
use Rattle.octets.specs.Octets.{bytes, is_digit, is_capital}
use Rattle.readers.specs.Words.{words, is_number, number_of, is_request_id}
use Rattle.readers.proofs.Words.{lacks, lacks_append, lacks_of, words_last, words_more}
use Rattle.message.specs.StartLines.{starts_capital, is_method_name, is_status, state_text, state_of}
use Rattle.message.specs.StartGrammar.{spaced}
use Rattle.message.specs.declared.RequestState.{RequestState}
use Rattle.message.specs.declared.RequestState.TheVariants.{Pending, InProgress, Complete}

-- words, which no CR and no space is in
pub record Word (w : List ℕ) : Type 0 where
  pub one_line_lem : lacks 13 w ≡ true
  pub one_word : lacks 32 w ≡ true

pub word : (test : ℕ → Bool) (w : List ℕ) → test 13 ≡ false → test 32 ≡ false → all test w ≡ true → Word w
word test w e f a = record { one_line_lem = lacks_of test 13 w e a; one_word = lacks_of test 32 w f a }

abbrev pub is_naming : ℕ → Bool
is_naming x = is_capital x || eqb x 45

pub name_word : (w : List ℕ) → is_method_name w ≡ true → Word w
name_word w h = word is_naming w refl refl (both (starts_capital w && leb (length w) 32) (all is_naming w) h).1

pub id_word : (w : List ℕ) → is_request_id w ≡ true → Word w
id_word w h =
    let n = (both (is_number 10 w) (leb (number_of w) 4294967295) h).0 in
    word is_digit w refl refl (both (leb 1 (length w) && leb (length w) 10) (all is_digit w) n).1

pub status_word : (w : List ℕ) → is_status w ≡ true → Word w
status_word w h = word is_digit w refl refl (both (eqb (length w) 3) (all is_digit w) h).1

pub state_word : (state : RequestState) → Word (state_text state)
state_word Pending = word is_naming (bytes "PENDING") refl refl refl
state_word InProgress = word is_naming (bytes "IN-PROGRESS") refl refl refl
state_word Complete = word is_naming (bytes "COMPLETE") refl refl refl

pub state_back : (state : RequestState) → state_of (state_text state) ≡ some state
state_back Pending = refl
state_back InProgress = refl
state_back Complete = refl

-- a line, and the words that are in it
pub record Says (l : List ℕ) (ws : List (List ℕ)) : Type 0 where
  pub one_line_lem : lacks 13 l ≡ true
  pub parted : words 32 l ≡ ws

pub last : {w : List ℕ} → Word w → Says w (w ∷ [])
last {w} a = record { one_line_lem = a.one_line_lem; parted = words_last 32 w a.one_word }

infixr 20 ◌before◌
pub ◌before◌ : {w l : List ℕ} {ws : List (List ℕ)} → Word w → Says l ws → Says (spaced w l) (w ∷ ws)
◌before◌ {w} {l} a b = record {
  one_line_lem = lacks_append 13 w (32 ∷ l) a.one_line_lem b.one_line_lem;
  parted = words_more 32 w l a.one_word ∙ ap (◌∷◌ w) b.parted;
}
